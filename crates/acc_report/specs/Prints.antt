-- What the statements that a host has ended print, read off its own entries: a range its values, a question its answer.
use Rattle.std.specs.Prelude.{◌≡◌, ℕ, zero, suc, List, [], ◌∷◌, ◌++◌, drop, take, ℤ, pos}
use Rattle.acc_kernel.specs.Values.{truth}
use Rattle.acc_place.specs.Directives.{Directive}
use Rattle.acc_place.specs.declared.directive.Kind.{Kind}
use Rattle.acc_place.specs.declared.directive.Kind.TheVariants as kind
use Rattle.acc_place.specs.declared.directive.Placed.{Placed}
use Rattle.acc_batch.specs.declared.entry.Told.TheVariants as told
use Rattle.acc_host.specs.declared.program.Act.{Act}
use Rattle.acc_host.specs.declared.program.Act.TheVariants as act
use Rattle.acc_host.specs.declared.program.Statement.{Statement}
use Rattle.acc_host.specs.Engines.{HostEntry, Gave, Had}
use Rattle.acc_host.specs.declared.state.Ids.{Ids}
use Rattle.acc_host.specs.Following.{Ended, Ends}
use Rattle.acc_host.specs.Steps.{Owed, nothing_owed, owes_seen, owes_test, owed_by, ids_after}

-- A directive has an entry, and, where something is owed for it, the item that settles this.
abbrev pub entry_count : Owed → ℕ
entry_count nothing_owed = 1
entry_count (owes_seen device counts) = 2
entry_count (owes_test device counts) = 2

abbrev pub placed_size : List HostEntry → ℕ
placed_size [] = 0
placed_size (Gave d placed ∷ more) = entry_count (owed_by d placed)
placed_size (Had what ∷ more) = 1

-- how many of the entries are those of the statement
abbrev pub entries_taken : Act → List HostEntry → ℕ
entries_taken (act.Place d) es = placed_size es
entries_taken (act.Write array cell value) es = 1
entries_taken (act.Print range) es = 1
entries_taken (act.SetDevice n) es = 0
entries_taken (act.SetAsync v) es = 0
entries_taken act.ShowDevice es = 0
entries_taken act.ShowDevices es = 0

-- the answer of the item of a test
abbrev pub tested : List HostEntry → ℤ
tested [] = pos 1
tested (Gave d placed ∷ more) = pos 1
tested (Had (told.Test device answer counts) ∷ more) = truth answer
tested (Had (told.Seen device counts) ∷ more) = pos 1
tested (Had (told.Write array cell value) ∷ more) = pos 1
tested (Had (told.Print range values) ∷ more) = pos 1

-- A test for which nothing is owed was answered at once: nothing that it asks for was placed.
abbrev pub tested_value : Owed → List HostEntry → ℤ
tested_value nothing_owed more = pos 1
tested_value (owes_seen device counts) more = pos 1
tested_value (owes_test device counts) more = tested more

-- A question that is a directive prints its answer.
abbrev pub answer_line : Kind → Directive → Placed → List HostEntry → List (List ℤ)
answer_line kind.IsPresent d placed more = (truth placed.present ∷ []) ∷ []
answer_line kind.AsyncTest d placed more = (tested_value (owed_by d placed) more ∷ []) ∷ []
answer_line kind.Data d placed more = []
answer_line kind.EndData d placed more = []
answer_line kind.EnterData d placed more = []
answer_line (kind.ExitData finalize) d placed more = []
answer_line (kind.Update if_present) d placed more = []
answer_line kind.Wait d placed more = []
answer_line (kind.Loop k) d placed more = []

abbrev pub placed_line : List HostEntry → List (List ℤ)
placed_line [] = []
placed_line (Gave d placed ∷ more) = answer_line d.kind d placed more
placed_line (Had what ∷ more) = []

abbrev pub shown_line : List HostEntry → List (List ℤ)
shown_line [] = []
shown_line (Gave d placed ∷ more) = []
shown_line (Had (told.Print range values) ∷ more) = values ∷ []
shown_line (Had (told.Test device answer counts) ∷ more) = []
shown_line (Had (told.Seen device counts) ∷ more) = []
shown_line (Had (told.Write array cell value) ∷ more) = []

-- what a statement prints where the host's current device is this one, and these entries are the next ones: no line or one
abbrev pub statement_lines : ℕ → ℕ → Act → List HostEntry → List (List ℤ)
statement_lines devices device (act.Place d) es = placed_line es
statement_lines devices device (act.Print range) es = shown_line es
statement_lines devices device act.ShowDevice es = (pos device ∷ []) ∷ []
statement_lines devices device act.ShowDevices es = (pos devices ∷ []) ∷ []
statement_lines devices device (act.Write array cell value) es = []
statement_lines devices device (act.SetDevice n) es = []
statement_lines devices device (act.SetAsync v) es = []

-- the current device behind a statement
abbrev pub device_after : Act → ℕ → ℕ
device_after (act.SetDevice n) device = n
device_after (act.Place d) device = device
device_after (act.Write array cell value) device = device
device_after (act.Print range) device = device
device_after (act.SetAsync v) device = device
device_after act.ShowDevice device = device
device_after act.ShowDevices device = device

-- The lines of statements one after another, each by its own entries.
abbrev pub printed_lines : ℕ → ℕ → List Statement → List HostEntry → List (List ℤ)
printed_lines devices device [] es = []
printed_lines devices device (s ∷ statements) es =
    statement_lines devices device s.act es ++ printed_lines devices (device_after s.act device) statements (drop (entries_taken s.act es) es)

-- These are the lines of the first statements, as many as have ended, each printed by its own entries.
abbrev pub ArePrinted : ℕ → Ids → ℕ → List Statement → List HostEntry → List (List ℤ) → Type 0
ArePrinted devices ids zero statements es shown = shown ≡ []
ArePrinted devices ids (suc ended) [] es shown = ⊥
ArePrinted devices ids (suc ended) (s ∷ statements) es shown =
    (first : List HostEntry) × (later : List HostEntry) × (rest : List (List ℤ))
    × (es ≡ first ++ later) × Ends devices ids s.act first × (shown ≡ statement_lines devices ids.device s.act first ++ rest)
    × ArePrinted devices (ids_after s.act ids) ended statements later rest

-- Where a host's entries are those of statements that have ended, and others stand behind them, the lines that are read off all
-- of them are those of these statements.
abbrev pub LinesAreFound : Type 0
LinesAreFound =
    (devices : ℕ) (ids : Ids) (ended : ℕ) (statements : List Statement) (past behind : List HostEntry)
    → Ended devices ids ended statements past
    → ArePrinted devices ids ended statements past (printed_lines devices ids.device (take ended statements) (past ++ behind))
