-- The words of the examples: directives over one array, and what they leave, place and answer.
use Rattle.std.specs.Prelude.{ℕ, true, false, List, [], ◌∷◌, map, replicate, Option, pos, negsuc}
use Rattle.acc_base.specs.declared.range.Range.{Range}
use Rattle.acc_base.specs.declared.fault.Fault.{Fault}
use Rattle.acc_base.specs.Configurations.{Configuration, configuration}
use Rattle.acc_batch.specs.declared.label.OpLabel.{OpLabel}
use Rattle.acc_present.specs.Presences.{Presence, presences}
use Rattle.acc_place.specs.declared.directive.Clause.{Clause}
use Rattle.acc_place.specs.declared.directive.Clause.TheVariants as clause
use Rattle.acc_place.specs.Directives.{Directive}
use Rattle.acc_place.specs.declared.directive.DataItem.{DataItem}
use Rattle.acc_place.specs.declared.directive.Kind.{Kind}
use Rattle.acc_place.specs.declared.directive.Kind.TheVariants as kind
use Rattle.acc_place.specs.declared.directive.PlaceEntry.{PlaceEntry}
use Rattle.acc_place.specs.declared.directive.PlaceEntry.TheVariants.{Accepted}
use Rattle.acc_place.specs.declared.directive.Placed.{Placed}
use Rattle.acc_place.specs.declared.directive.Target.TheVariants.{Plain}
use Rattle.acc_place.specs.declared.directive.Waits.TheVariants.{Nothing}
use Rattle.acc_place.specs.Accepting.{refusal}
use Rattle.acc_place.specs.Batches.{batch_of, answer_of}
use Rattle.acc_place.specs.Histories.{standing}
use Rattle.acc_place.specs.Standings.{Standing, walk_of}

-- one array of eight cells, a device of six, two hosts
abbrev pub small : Configuration
small = configuration 1 2 (replicate 8 (pos 0) ∷ []) 6 64

abbrev pub cells : ℕ → ℕ → Range
cells lo len = record { array = 0; lo = lo; len = len }

-- cells 0 to 3
abbrev pub four : Range
four = cells 0 4

abbrev pub directive : Kind → List DataItem → Directive
directive k items = record { device = 0; default = negsuc 0; target = Plain; waits = Nothing; kind = k; items = items }

abbrev pub item : Clause → Range → DataItem
item c r = record { clause = c; range = r }

-- a directive with one item
abbrev pub one : Kind → Clause → Range → Directive
one k c r = directive k (item c r ∷ [])

abbrev pub region : Clause → Range → Directive
region c r = one kind.Data c r

abbrev pub region_end : Directive
region_end = directive kind.EndData []

abbrev pub enter : Clause → Range → Directive
enter c r = one kind.EnterData c r

-- several ranges enter with copyin, or leave with copyout
abbrev pub copyin : List Range → Directive
copyin ranges = directive kind.EnterData (map (item clause.Copyin) ranges)

abbrev pub copyout : List Range → Directive
copyout ranges = directive (kind.ExitData false) (map (item clause.Copyout) ranges)

abbrev pub first_four : Directive
first_four = copyin (four ∷ [])

abbrev pub exit : Clause → Range → Directive
exit c r = one (kind.ExitData false) c r

abbrev pub finalize : Clause → Range → Directive
finalize c r = one (kind.ExitData true) c r

abbrev pub update : Clause → Range → Directive
update c r = one (kind.Update false) c r

abbrev pub update_if_present : Clause → Range → Directive
update_if_present c r = one (kind.Update true) c r

abbrev pub question : Range → Directive
question r = one kind.IsPresent clause.Present r

-- what accepted directives leave, the latest first
abbrev pub left_by : List PlaceEntry → Standing
left_by history = standing small history (map (λ e. 0) history)

-- where all are host 0's
abbrev pub after : List Directive → Standing
after ds = left_by (map (λ d. Accepted 0 d) ds)

abbrev pub fault_in : Standing → ℕ → Directive → Option Fault
fault_in st host d = refusal small st host d

abbrev pub batch_in : Standing → ℕ → Directive → List OpLabel
batch_in st host d = batch_of st (walk_of st host d)

abbrev pub fault_after : List Directive → Directive → Option Fault
fault_after ds d = fault_in (after ds) 0 d

abbrev pub batch_after : List Directive → Directive → List OpLabel
batch_after ds d = batch_in (after ds) 0 d

abbrev pub present_after : List Directive → List Presence
present_after ds = presences ((after ds).marks 0)

abbrev pub presence : Range → ℕ → ℕ → ℕ → Presence
presence r block s d = record { range = r; block = block; s = s; d = d }

abbrev pub answer_after : List Directive → Directive → Placed
answer_after ds d = answer_of (after ds) d (walk_of (after ds) 0 d)
