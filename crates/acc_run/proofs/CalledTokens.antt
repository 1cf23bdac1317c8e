-- What the calls of a runtime do to the list of a host's token.
use Rattle.std.proofs.Common.{inl, inr, ◌≡◌, ◌⊎◌, ◌∷◌, ◌++◌, [], List, ℕ, Result, Ok, Err, true, sym, ◌∙◌}
use Rattle.std.specs.Prelude.{IfOk, IfErr, OnErr}
use Rattle.std.proofs.lemmas.List.{append-nil}
use Rattle.acc_base.specs.declared.fault.Fault.{Fault}
use Rattle.acc_base.specs.declared.fault.Fault.TheVariants.{BadRange, Memory, TooMany}
use Rattle.acc_host.specs.Engines.{Place, Wait, Record, without_item}
use Rattle.acc_place.specs.Directives.{Directive}
use Rattle.acc_place.specs.declared.directive.Placed.{Placed}
use Rattle.acc_work.specs.declared.item.ItemLabel.{ItemLabel}
use Rattle.acc_work.specs.declared.item.ItemLabel.TheVariants as to_record
use Rattle.acc_work.specs.declared.item.Shown.{Shown}
use Rattle.acc_work.specs.declared.item.Shown.TheVariants as shown
use Rattle.acc_run.specs.declared.token.TokenEntry.{TokenEntry}
use Rattle.acc_run.specs.declared.token.TokenEntry.TheVariants as listed
use Rattle.acc_run.specs.Calling.{BeginsWith, IsNotFull, IsTriedAgain}

same_list : (old new : List TokenEntry) → new ≡ old → BeginsWith old new
same_list old new e = ([], e ∙ sym (append-nil old))

item_not_full : (f : Fault) → (f ≡ Memory) ⊎ ((f ≡ TooMany) ⊎ (f ≡ BadRange)) → IsNotFull f
item_not_full f why = elim why [
  | inl memory ↦ rw memory tt
  | inr other ↦ elim other [ inl many ↦ rw many tt | inr outside ↦ rw outside tt ]
]

pub placed_call : (old new : List TokenEntry) (d : Directive) (answer : Result Placed Fault) → IfOk answer (λ placed. new ≡ old ++ listed.Placed d placed ∷ []) → OnErr answer (new ≡ old) → IfErr answer IsNotFull
    → IsTriedAgain (Place d answer) × BeginsWith old new
placed_call old new d (Ok placed) noted refused again = (tt, (_, noted))
placed_call old new d (Err f) noted refused again = (again, same_list old new refused)

pub item_call : (old new : List TokenEntry) (item : ItemLabel) (answer : Result Shown (ItemLabel × Fault)) → IfOk answer (λ got. new ≡ old ++ listed.Item item got ∷ []) → OnErr answer (new ≡ old)
    → IfErr answer (λ r. (r.1 ≡ Memory) ⊎ ((r.1 ≡ TooMany) ⊎ (r.1 ≡ BadRange))) → IsTriedAgain (Record item (without_item answer)) × BeginsWith old new
item_call old new item (Ok got) noted refused fault = (tt, (_, noted))
item_call old new item (Err r) noted refused fault = (item_not_full r.1 fault, same_list old new refused)

pub seen_call : (old new : List TokenEntry) (device : ℕ) (counts : List ℕ) → new ≡ old ++ listed.Item (to_record.Seen device counts) shown.Nothing ∷ [] → IsTriedAgain (Wait device counts (Ok true)) × BeginsWith old new
seen_call old new device counts noted = (tt, (_, noted))
