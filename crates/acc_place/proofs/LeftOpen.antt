-- How many queues aren't closed, and which.
use Rattle.std.proofs.Common.{inl, inr, subst, ◌≡◌, ℕ, zero, suc, ◌+◌, ◌<◌, ◌≤◌, Bool, true, false, cond, refl, sym, ap, ◌∙◌, arith}
use Rattle.std.proofs.lemmas.Bool.{cases_Bool, cases_lt}
use Rattle.acc_place.specs.Closing.{left_open}
use Rattle.acc_base.specs.declared.ids.QueueAt.{QueueAt}
use Rattle.acc_base.specs.declared.ids.TheConstants.{QUEUES}
use Rattle.acc_base.specs.Queues.{same_queue, seat, at_seat}
use Rattle.acc_base.proofs.SameQueue.{same_queue_is}
use Rattle.acc_batch.proofs.Seats.{one_seat}
use Rattle.acc_place.specs.Histories.{after_close, is_closed}
use Rattle.acc_place.specs.Standings.{Standing}

-- the seat of the queue at a place is the place
pub place_seat : (n : ℕ) → seat (at_seat n) ≡ n
place_seat n = omega arith

-- where the same queues are closed
pub left_same : (before after : Standing) (n : ℕ) → ((at : QueueAt) → is_closed after at ≡ is_closed before at) → left_open after n ≡ left_open before n
left_same before after zero same = refl
left_same before after (suc n) same = rw (same (at_seat n), left_same before after n same) refl

-- where one more is closed, and it isn't one of them
pub left_past : (st : Standing) (at : QueueAt) (n : ℕ) → at.queue < QUEUES → n ≤ seat at → left_open (after_close st at) n ≡ left_open st n
left_past st at zero low past = refl
left_past st at (suc n) low past =
    let other : same_queue at (at_seat n) ≡ false =
    elim (cases_Bool (same_queue at (at_seat n))) [
      | inl same ↦ (let here : seat at ≡ n = ap seat (same_queue_is at (at_seat n) same) ∙ place_seat n in absurd (omega (arith, past, here)))
      | inr differ ↦ differ
    ] in
    rw (other, left_past st at n low (omega (arith, past))) refl

-- where it is one of them
pub left_fewer : (st : Standing) (at : QueueAt) (n : ℕ) → at.queue < QUEUES → seat at < n → is_closed st at ≡ false → left_open (after_close st at) n + 1 ≡ left_open st n
left_fewer st at zero low there early = absurd (omega (arith, there))
left_fewer st at (suc n) low there early = elim (cases_Bool (same_queue at (at_seat n))) [
  | inl same ↦
      let one : at ≡ at_seat n = same_queue_is at (at_seat n) same in
      let here : seat at ≡ n = ap seat one ∙ place_seat n in
      let was : is_closed st (at_seat n) ≡ false = subst (λ q. is_closed st q ≡ false) one early in
      rw (same, was) (omega (arith, left_past st at n low (omega (arith, here))))
  | inr differ ↦
      let apart : seat at ≡ n → ⊥ = λ e. (let w : true ≡ false = sym (one_seat at (at_seat n) low (omega arith) (e ∙ sym (place_seat n))) ∙ differ in cc) in
      rw differ (by_closed (is_closed st (at_seat n)) (left_fewer st at n low (before (seat at) n there apart) early))
]
  where
    before : (a b : ℕ) → a < suc b → (a ≡ b → ⊥) → a < b
    before a b lt ne = elim (cases_lt a b) [ inl less ↦ less | inr more ↦ absurd (ne (omega (arith, more, lt))) ]

    by_closed : (b : Bool) → left_open (after_close st at) n + 1 ≡ left_open st n → cond b (left_open (after_close st at) n) (left_open (after_close st at) n + 1) + 1 ≡ cond b (left_open st n) (left_open st n + 1)
    by_closed true e = e
    by_closed false e = omega (arith, e)

-- there are no more of them than queues
pub left_few : (st : Standing) (n : ℕ) → left_open st n ≤ n
left_few st zero = omega arith
left_few st (suc n) = elim (is_closed st (at_seat n)) as (λ b. cond b (left_open st n) (left_open st n + 1) ≤ suc n) [ true ↦ omega (arith, left_few st n) | false ↦ omega (arith, left_few st n) ]
