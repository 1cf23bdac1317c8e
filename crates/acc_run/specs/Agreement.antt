-- What the tokens of the hosts list, and what both histories have of each host.
use Rattle.std.specs.Prelude.{◌≡◌, ℕ, ◌+◌, ◌≤◌, List, [], ◌∷◌, length, map, reverse}
use Rattle.acc_host.specs.Engines.{HostEntry, Gave, Had}
use Rattle.acc_host.specs.Entries.{Own, items_shown, own_of}
use Rattle.acc_host.specs.Following.{Follows}
use Rattle.acc_host.specs.Legality.{Histories, entries_of}
use Rattle.acc_host.specs.declared.program.Statement.{Statement}
use Rattle.acc_host.specs.declared.state.HostState.{HostState}
use Rattle.acc_place.specs.Plans.{PlaceView}
use Rattle.acc_work.specs.Items.{without_values}
use Rattle.acc_batch.specs.declared.entry.WorkEntry.{WorkEntry}
use Rattle.acc_run.specs.Tokens.{TokenView, listed_entry}

-- the histories of a place and of a work log, the first entry first
abbrev pub histories_by : PlaceView → List WorkEntry → Histories
histories_by p works = record { config = p.config; history = p.history; counts = p.counts; work = reverse works }

-- an entry as its host knows it
abbrev pub as_known : HostEntry → HostEntry
as_known (Gave d placed) = Gave d placed
as_known (Had what) = Had (without_values what)

-- the directives of a list, each with how many items stand before it; so many stand before the list
abbrev pub directives_in : ℕ → List HostEntry → List Own
directives_in before [] = []
directives_in before (Gave d placed ∷ list) = record { items_before = before; directive = d; placed = placed } ∷ directives_in before list
directives_in before (Had what ∷ list) = directives_in (before + 1) list

-- its items
abbrev pub shown_in : List HostEntry → List HostEntry
shown_in [] = []
shown_in (Gave d placed ∷ list) = shown_in list
shown_in (Had what ∷ list) = Had what ∷ shown_in list

-- A host's list agrees with both histories: its directives, with their answers, are the host's in the place history, in order, and
-- the count of each is that of the list's items before it; its items are the host's in the work log, in order.
pub record Agrees (h : Histories) (host : ℕ) (list : List HostEntry) : Type 0 where
  pub directives : own_of h.config host h.history h.counts ≡ directives_in 0 list
  pub items : map as_known (items_shown host h.work) ≡ shown_in list

-- So it is of each token, which are those of hosts n, n + 1 and so on.
abbrev pub EachAgrees : Histories → ℕ → List TokenView → Type 0
EachAgrees h n [] = Unit {0}
EachAgrees h n (t ∷ ts) = (t.host ≡ n) × Agrees h n (map listed_entry t.entries) × EachAgrees h (n + 1) ts

-- The histories have no entry of a host behind the first n.
abbrev pub HasNoOthers : Histories → ℕ → Type 0
HasNoOthers h n = (host : ℕ) → n ≤ host → (own_of h.config host h.history h.counts ≡ []) × (items_shown host h.work ≡ [])

-- There is one token for each host, each agrees, and the histories have no entry of another host.
pub record Agree (tokens : List TokenView) (h : Histories) : Type 0 where
  pub one_each : length tokens ≡ h.config.hosts
  pub each : EachAgrees h 0 tokens
  pub no_others : HasNoOthers h h.config.hosts

-- So where a token's list follows its host's program, the host's own entries in both histories do.
abbrev pub TokensFollow : Type 0
TokensFollow =
    (h : Histories) (host : ℕ) (list : List HostEntry) (devices : ℕ) (statements : List Statement) (st : HostState)
    → Agrees h host list → Follows devices statements st list → Follows devices statements st (entries_of h host)
