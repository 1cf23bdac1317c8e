-- The lines of a host's ended statements, found in its entries.
use Rattle.std.proofs.Common.{◌≡◌, ℕ, zero, suc, List, [], ◌∷◌, ◌++◌, append_assoc, drop, take, refl, ap, ◌∙◌}
use Rattle.std.specs.Prelude.{ℤ}
use Rattle.acc_place.specs.Directives.{Directive}
use Rattle.acc_place.specs.declared.directive.Kind.{Kind}
use Rattle.acc_place.specs.declared.directive.Kind.TheVariants as kind
use Rattle.acc_place.specs.declared.directive.Placed.{Placed}
use Rattle.acc_host.specs.declared.program.Act.{Act}
use Rattle.acc_host.specs.declared.program.Act.TheVariants as act
use Rattle.acc_host.specs.declared.state.Ids.{Ids}
use Rattle.acc_host.specs.Engines.{HostEntry, Gave}
use Rattle.acc_host.specs.Following.{Ends, Settles}
use Rattle.acc_host.specs.Steps.{Owed, nothing_owed, owes_seen, owes_test, owed_by, with_ids, ids_after}
use Rattle.acc_report.specs.Prints.{LinesAreFound, answer_line, device_after, entries_taken, statement_lines, printed_lines, entry_count, tested_value}

-- ## One statement, with other entries behind its own

-- the answer of a test is told by what settles it
own_test : (o : Owed) (items more : List HostEntry) → Settles o items → tested_value o (items ++ more) ≡ tested_value o items
own_test nothing_owed items more settled = refl
own_test (owes_seen device counts) items more settled = refl
own_test (owes_test device counts) items more (answer, is) = rw is refl

own_answer : (k : Kind) (d : Directive) (placed : Placed) (items more : List HostEntry) → Settles (owed_by d placed) items
    → answer_line k d placed (items ++ more) ≡ answer_line k d placed items
own_answer kind.IsPresent d placed items more settled = refl
own_answer kind.AsyncTest d placed items more settled = ap (λ (v : ℤ). (v ∷ []) ∷ []) (own_test (owed_by d placed) items more settled)
own_answer kind.Data d placed items more settled = refl
own_answer kind.EndData d placed items more settled = refl
own_answer kind.EnterData d placed items more settled = refl
own_answer (kind.ExitData finalize) d placed items more settled = refl
own_answer (kind.Update if_present) d placed items more settled = refl
own_answer kind.Wait d placed items more settled = refl
own_answer (kind.Loop k) d placed items more settled = refl

-- a directive has one entry, and one that settles what is owed
own_count : (o : Owed) (d : Directive) (placed : Placed) (items more : List HostEntry) → Settles o items
    → drop (entry_count o) (Gave d placed ∷ (items ++ more)) ≡ more
own_count nothing_owed d placed items more settled = rw settled refl
own_count (owes_seen device counts) d placed items more settled = rw settled refl
own_count (owes_test device counts) d placed items more (answer, is) = rw is refl

own_line : (devices : ℕ) (ids : Ids) (a : Act) (first more : List HostEntry) → Ends devices ids a first
    → statement_lines devices ids.device a (first ++ more) ≡ statement_lines devices ids.device a first
own_line devices ids (act.Place d) first more (placed, items, is, settled) = rw is (own_answer d.kind (with_ids ids d) placed items more settled)
own_line devices ids (act.Print range) first more (values, is) = rw is refl
own_line devices ids (act.Write array cell value) first more ends = refl
own_line devices ids (act.SetDevice n) first more ends = refl
own_line devices ids (act.SetAsync v) first more ends = refl
own_line devices ids act.ShowDevice first more ends = refl
own_line devices ids act.ShowDevices first more ends = refl

own_entries : (devices : ℕ) (ids : Ids) (a : Act) (first more : List HostEntry) → Ends devices ids a first
    → drop (entries_taken a (first ++ more)) (first ++ more) ≡ more
own_entries devices ids (act.Place d) first more (placed, items, is, settled) = rw is (own_count (owed_by (with_ids ids d) placed) (with_ids ids d) placed items more settled)
own_entries devices ids (act.Print range) first more (values, is) = rw is refl
own_entries devices ids (act.Write array cell value) first more is = rw is refl
own_entries devices ids (act.SetDevice n) first more (low, is) = rw is refl
own_entries devices ids (act.SetAsync v) first more (low, is) = rw is refl
own_entries devices ids act.ShowDevice first more is = rw is refl
own_entries devices ids act.ShowDevices first more is = rw is refl

device_behind : (a : Act) (ids : Ids) → device_after a ids.device ≡ (ids_after a ids).device
device_behind (act.Place d) ids = refl
device_behind (act.Print range) ids = refl
device_behind (act.Write array cell value) ids = refl
device_behind (act.SetDevice n) ids = refl
device_behind (act.SetAsync v) ids = refl
device_behind act.ShowDevice ids = refl
device_behind act.ShowDevices ids = refl

-- ## One statement behind the other

pub lines_found : LinesAreFound
lines_found devices ids zero statements past behind ended = refl
lines_found devices ids (suc n) [] past behind ended = absurd ended
lines_found devices ids (suc n) (s ∷ statements) past behind (first, later, is, ends, others) =
    (first, later, printed_lines devices (ids_after s.act ids).device (take n statements) (later ++ behind), is, ends, here, lines_found devices (ids_after s.act ids) n statements later behind others)
  where
    whole : past ++ behind ≡ first ++ (later ++ behind)
    whole = ap (λ es. es ++ behind) is ∙ append_assoc first later behind

    here : printed_lines devices ids.device (s ∷ take n statements) (past ++ behind) ≡ statement_lines devices ids.device s.act first ++ printed_lines devices (ids_after s.act ids).device (take n statements) (later ++ behind)
    here = rw (whole, own_line devices ids s.act first (later ++ behind) ends, own_entries devices ids s.act first (later ++ behind) ends, device_behind s.act ids) refl
