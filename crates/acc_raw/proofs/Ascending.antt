-- Seats stay in the order of their keys when one comes or goes.
use Rattle.std.proofs.Common.{◌≡◌, ℕ, ◌+◌, ◌<◌, ◌≤◌, zero, suc, true, false, not, cond, List, [], ◌∷◌, length, take, drop, get_or, ap, ◌∙◌, arith, inl, inr}
use Rattle.std.specs.Prelude.{nat_lt, insert, remove, All}
use Rattle.std.proofs.lemmas.Bool.{ltb-false, ltb-true}
use Rattle.std.proofs.lemmas.List.Elements.{All-append, All-drop, All-take}
use Rattle.std.proofs.lemmas.List.Sorted.{IsNonDecreasingBy-insert}
use Rattle.std.proofs.lemmas.List.Sums.{fails_before_first, passes_at_first}
use Rattle.acc_raw.specs.declared.segment.Seat.{Seat}
use Rattle.acc_raw.specs.inner.Segments.{Ascend, up_to}
use Rattle.acc_raw.proofs.Indexing.{count_within}

pub ascend_insert : (ss : List Seat) (s : Seat) → Ascend ss → Ascend (insert ss (up_to s.key ss) s)
ascend_insert ss s up = IsNonDecreasingBy-insert (λ (t : Seat). t.key) ss (up_to s.key ss) s up (count_within s.key ss)
    (λ k d lt. ltb-false s.key (get_or ss k d).key (fails_before_first (λ (t : Seat). nat_lt s.key t.key) ss k d lt))
    (λ k d le lt. let at = up_to s.key ss in
    let first = ltb-true s.key (get_or ss at d).key (passes_at_first (λ (t : Seat). nat_lt s.key t.key) ss d (omega (arith, le, lt))) in
    let rise = up at k d le lt in omega (arith, first, rise))

ascend_tail : (s : Seat) (ss : List Seat) → Ascend (s ∷ ss) → Ascend ss
ascend_tail s ss up = λ i j d le lt. up (suc i) (suc j) d (omega (arith, le)) (omega (arith, lt))

ascend_cons : (s : Seat) (ss : List Seat) → All (λ (t : Seat). s.key ≤ t.key) ss → Ascend ss → Ascend (s ∷ ss)
ascend_cons s ss least up zero zero d le lt = omega arith
ascend_cons s ss least up zero (suc j) d le lt = least j d (omega (arith, lt))
ascend_cons s ss least up (suc i) zero d le lt = absurd (omega (arith, le))
ascend_cons s ss least up (suc i) (suc j) d le lt = up i j d (omega (arith, le)) (omega (arith, lt))

pub ascend_remove : (ss : List Seat) (i : ℕ) → Ascend ss → Ascend (remove ss i)
ascend_remove [] zero up = up
ascend_remove [] (suc i) up = up
ascend_remove (s ∷ ss) zero up = ascend_tail s ss up
ascend_remove (s ∷ ss) (suc i) up =
    let At = λ (t : Seat). s.key ≤ t.key in let least : All At ss = λ j d lt. up zero (suc j) d (omega arith) (omega (arith, lt)) in
    ascend_cons s (remove ss i) (All-append At (take i ss) (drop (suc i) ss) (All-take At i ss least) (All-drop At (suc i) ss least)) (ascend_remove ss i (ascend_tail s ss up))
