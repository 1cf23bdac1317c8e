use Rattle.std.proofs.Common.{◌≡◌, true, false, None, Some, refl, arith}
use Rattle.acc_base.specs.Ranges.{range_contains, range_overlaps}
use Rattle.acc_base.specs.declared.fault.Fault.{Fault}
use Rattle.acc_base.specs.declared.fault.Fault.TheVariants.{Closed}
use Rattle.acc_present.specs.Lifetimes.{is_before, opened_lifetimes, live_lifetimes}
use Rattle.acc_present.specs.Presences.{presences}
use Rattle.acc_place.specs.Accepting.{refusal}
use Rattle.acc_place.specs.Batches.{batch_of, answer_of}
use Rattle.acc_place.specs.Histories.{standing}
use Rattle.acc_place.specs.Standings.{walk_of}
use Rattle.acc_place.proofs.laws.worked_closing.Goals as goal

pub returns-clause-last : goal.returns-clause-last
unfolding standing walk_of batch_of answer_of refusal presences live_lifetimes opened_lifetimes is_before range_contains range_overlaps
returns-clause-last c = (refl, refl)

pub returns-clause-refused : goal.returns-clause-refused
unfolding standing walk_of batch_of answer_of refusal presences live_lifetimes opened_lifetimes is_before range_contains range_overlaps
returns-clause-refused c = (refl, refl, refl, refl, refl, refl, refl, refl, refl)

pub returns-clause-regions : goal.returns-clause-regions
unfolding standing walk_of batch_of answer_of refusal presences live_lifetimes opened_lifetimes is_before range_contains range_overlaps
returns-clause-regions c = (refl, refl, refl)

is_fault : (f : Fault) → Some f ≡ None → ⊥
is_fault f h = cc

pub returns-clause-once : goal.returns-clause-once
unfolding standing walk_of batch_of answer_of refusal presences live_lifetimes opened_lifetimes is_before range_contains range_overlaps
returns-clause-once c = (
  (
    record { there = (omega arith, omega arith); begun = refl; unplaced = refl },
    (record { there = (omega arith, omega arith); begun = refl; unplaced = refl }, (refl, (refl, tt))),
  ),
  λ h. (let w : true ≡ false = h.0 in absurd cc),
  λ h. is_fault Closed h.0,
  λ h. (let w : false ≡ true = h.0.begun in absurd cc),
  λ h. (let w : true ≡ false = h.0.unplaced in absurd cc),
  λ h. absurd (omega (arith, h.0.there.0)),
  λ h. absurd (omega (arith, h.0.there.1)),
)
