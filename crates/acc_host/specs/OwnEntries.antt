-- A host's own entries as they are read, one after another.
use Rattle.std.specs.Prelude.{◌≡◌, List, [], ◌∷◌, Option, Some, None}
use Rattle.acc_host.specs.Engines.{HostEntry, Gave, Had}
use Rattle.acc_host.specs.Entries.{Own}
use Rattle.acc_host.specs.declared.own_entries.OwnDirective.{OwnDirective}
use Rattle.acc_host.specs.declared.own_entries.OwnEntry.{OwnEntry}
use Rattle.acc_host.specs.declared.own_entries.OwnEntry.TheVariants as read

abbrev pub own : OwnDirective → Own
own o = record { items_before = o.items_before; directive = o.directive.now; placed = o.answer.now }

abbrev pub entry : OwnEntry → HostEntry
entry (read.Gave o) = Gave o.directive.now o.answer.now
entry (read.Had what) = Had what.now

-- The first of a list is taken, and the others are left; none is, where the list is empty.
abbrev pub Takes : {X : Type 0} → List X → Option X → List X → Type 0
Takes old None new = (old ≡ []) × (new ≡ [])
Takes old (Some x) new = old ≡ x ∷ new
