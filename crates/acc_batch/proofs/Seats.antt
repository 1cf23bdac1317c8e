-- A list with one thing for each queue of each device, of which one changes.
use Rattle.std.proofs.Common.{inl, inr, ◌≡◌, ℕ, zero, suc, ◌<◌, ◌≤◌, true, false, cond, List, [], ◌∷◌, length, refl, sym, ap, subst, ◌∙◌, arith, Some}
use Rattle.std.specs.Prelude.{nat_lt, slice_get, slice_index_or, slice_set}
use Rattle.std.proofs.lemmas.Bool.{cases_Bool, ltb-true, lt-ltb, le-ltb}
use Rattle.std.proofs.lemmas.List.{get_or_default, get_or-set_same, get_or-set_other}
use Rattle.acc_base.specs.declared.ids.QueueAt.{QueueAt}
use Rattle.acc_base.specs.declared.ids.TheConstants.{QUEUES}
use Rattle.acc_base.specs.Queues.{seat, same_queue}
use Rattle.acc_base.proofs.SameQueue.{same_queue_itself, same_queue_is}

-- what stands at a place that was set, and what stands elsewhere
pub set_here : {X : Type 0} (xs : List X) (i : ℕ) (old new : X) → slice_get xs i ≡ Some old → slice_get (slice_set xs i new) i ≡ Some new
set_here [] i old new e = cc
set_here (x ∷ xs) zero old new e = refl
set_here (x ∷ xs) (suc i) old new e = set_here xs i old new e

pub set_there : {X : Type 0} (xs : List X) (i j : ℕ) (new : X) → (i ≡ j → ⊥) → slice_get (slice_set xs i new) j ≡ slice_get xs j
set_there [] i j new other = refl
set_there (x ∷ xs) zero zero new other = absurd (other refl)
set_there (x ∷ xs) zero (suc j) new other = refl
set_there (x ∷ xs) (suc i) zero new other = refl
set_there (x ∷ xs) (suc i) (suc j) new other = set_there xs i j new (λ e. other (ap suc e))

-- two queues that are there have one seat only if they are one
pub one_seat : (a b : QueueAt) → a.queue < QUEUES → b.queue < QUEUES → seat a ≡ seat b → same_queue a b ≡ true
one_seat a b low_a low_b same =
    let device : a.device ≡ b.device = omega (arith, same, low_a, low_b) in
    let queue : a.queue ≡ b.queue = omega (arith, same, low_a, low_b) in
    let one : a ≡ b = ap (λ d. record { device = d; queue = a.queue }) device ∙ ap (λ q. record { device = b.device; queue = q }) queue in
    ap (λ q. same_queue q b) one ∙ same_queue_itself b

-- ## What stands at a queue's seat, or something else where the queue isn't there

abbrev pub at_seat : {X : Type 0} → X → List X → QueueAt → X
at_seat none xs at = cond (nat_lt at.queue QUEUES) (slice_index_or xs (seat at) none) none

-- what stands at the seat of a queue that is there
pub seat_there : {X : Type 0} (none : X) (xs : List X) (at : QueueAt) → at.queue < QUEUES → at_seat none xs at ≡ slice_index_or xs (seat at) none
seat_there none xs at low = rw (lt-ltb at.queue QUEUES low) refl

pub seat_absent : {X : Type 0} (none : X) (xs : List X) (at : QueueAt) → QUEUES ≤ at.queue → at_seat none xs at ≡ none
seat_absent none xs at past = rw (le-ltb at.queue QUEUES past) refl

-- what was read there, whatever would be read where nothing stands
pub seat_found : {X : Type 0} (none : X) (xs : List X) (at : QueueAt) (x : X) → at.queue < QUEUES → seat at < length xs → x ≡ slice_index_or xs (seat at) x → x ≡ at_seat none xs at
seat_found none xs at x low there is = is ∙ (get_or_default xs (seat at) x none there ∙ sym (seat_there none xs at low))

-- it is what was set
pub seat_set : {X : Type 0} (none : X) (xs : List X) (at : QueueAt) (x : X) → at.queue < QUEUES → seat at < length xs → at_seat none (slice_set xs (seat at) x) at ≡ x
seat_set none xs at x low there = seat_there none (slice_set xs (seat at) x) at low ∙ get_or-set_same xs (seat at) x none there

-- and what stands at the seat of another queue stays
pub seat_kept : {X : Type 0} (none : X) (xs : List X) (at other : QueueAt) (x : X) → at.queue < QUEUES → same_queue at other ≡ false → at_seat none (slice_set xs (seat at) x) other ≡ at_seat none xs other
seat_kept none xs at other x low differ = elim (cases_Bool (nat_lt other.queue QUEUES)) [
  | inl there ↦
      let apart : seat other ≡ seat at → ⊥ = λ e. (let w : true ≡ false = sym (one_seat at other low (ltb-true other.queue QUEUES there) (sym e)) ∙ differ in cc) in
      rw there (get_or-set_other xs (seat at) (seat other) x none apart)
  | inr past ↦ rw past refl
]

-- One queue's is set, and the others go on to have what is wanted.
pub each_seat : {X : Type 0} (P Q : QueueAt → X → Type 0) (none : X) (xs : List X) (at : QueueAt) (new : X) → at.queue < QUEUES → seat at < length xs → ((other : QueueAt) → P other (at_seat none xs other))
    → Q at new → ((other : QueueAt) → same_queue at other ≡ false → (x : X) → P other x → Q other x) → (other : QueueAt) → Q other (at_seat none (slice_set xs (seat at) new) other)
each_seat P Q none xs at new low there all mine others other = elim (cases_Bool (same_queue at other)) [
  | inl same ↦ subst (λ q. Q q (at_seat none (slice_set xs (seat at) new) q)) (same_queue_is at other same) (subst (Q at) (sym (seat_set none xs at new low there)) mine)
  | inr differ ↦ subst (Q other) (sym (seat_kept none xs at other new low differ)) (others other differ (at_seat none xs other) (all other))
]
