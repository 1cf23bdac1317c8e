-- Where the first seat with a greater key stands, in segments.
use Rattle.std.proofs.Common.{◌≡◌, ℕ, ◌+◌, ◌-◌, ◌<◌, ◌≤◌, zero, suc, true, false, sym, ap, subst, ◌∙◌, List, [], ◌∷◌, ◌++◌, length, take, drop, get_or, slice_get, Some, leb, leb-false, leb-true, arith, inl, inr}
use Rattle.std.specs.Prelude.{nat_lt}
use Rattle.std.specs.List.Sorted.{IsNonDecreasingBy, IsPartitionPoint}
use Rattle.std.proofs.lemmas.Bool.{cases_Bool, ltb-false, ltb-true}
use Rattle.std.proofs.lemmas.List.{append_assoc, get_or_append_left, get_or-append-add, length-append}
use Rattle.std.proofs.lemmas.List.Sums.{fails_before_first, passes_at_first, position_or_len_is}
use Rattle.std.proofs.lemmas.Option.{get_or_from_slice_get, slice_get-get_or, slice_get_within}
use Rattle.acc_raw.specs.declared.segment.Seat.{Seat}
use Rattle.acc_raw.specs.declared.segment.Segment.{Segment}
use Rattle.acc_raw.specs.inner.Segments.{Ascend, AreFilled, IsFilled, IsFirst, seats_of, up_to}

to_true : (a b : ℕ) → a < b → nat_lt a b ≡ true
to_true a b lt = elim (cases_Bool (nat_lt a b)) [ inl hit ↦ hit | inr miss ↦ (let le = ltb-false a b miss in absurd (omega (arith, le, lt))) ]

to_false : (a b : ℕ) → b ≤ a → nat_lt a b ≡ false
to_false a b le = elim (cases_Bool (nat_lt a b)) [ inl hit ↦ (let lt = ltb-true a b hit in absurd (omega (arith, le, lt))) | inr miss ↦ miss ]

-- the seats before the n-th have no greater key, and the n-th has one
pub counted : (key : ℕ) (seats : List Seat) (n : ℕ) → n ≤ length seats → ((k : ℕ) (d : Seat) → k < n → (get_or seats k d).key ≤ key)
    → ((d : Seat) → n < length seats → key < (get_or seats n d).key) → n ≡ up_to key seats
counted key [] n le low high = omega (arith, le)
counted key (s ∷ ss) n le low high =
    sym (position_or_len_is (λ t. nat_lt key t.key) (s ∷ ss) n s le (λ k lt. to_false key (get_or (s ∷ ss) k s).key (low k s lt)) (λ lt. to_true key (get_or (s ∷ ss) n s).key (high s lt)))

pub first_key : (first : ℕ) (seats : List Seat) (d : Seat) → IsFirst first seats → (0 < length seats) × (first ≡ (get_or seats 0 d).key)
first_key first [] d is = absurd is
first_key first (s ∷ ss) d is = (omega arith, is)

-- what is read of a segment that is there
pub own_is : (ss : List Segment) (i : ℕ) (own q : Segment) → slice_get ss i ≡ Some own → q ≡ get_or ss i q → q ≡ own
own_is ss i own q at read = read ∙ get_or_from_slice_get ss i own q at

pub filled_at : (ss : List Segment) (i : ℕ) (own : Segment) → AreFilled ss → slice_get ss i ≡ Some own → IsFilled own
filled_at [] i own filled at = absurd cc
filled_at (s ∷ ss) zero own filled at = let same : s ≡ own = cc in subst IsFilled same filled.0
filled_at (s ∷ ss) (suc i) own filled at = filled_at ss i own filled.1 at

-- all seats: those of the segments before the i-th, its own, and those of the segments behind it
pub seats_at : (ss : List Segment) (i : ℕ) (own : Segment) → slice_get ss i ≡ Some own → seats_of ss ≡ seats_of (take i ss) ++ (own.seats.items ++ seats_of (drop (suc i) ss))
seats_at [] i own at = absurd cc
seats_at (s ∷ ss) zero own at = let same : s ≡ own = cc in ap (λ (q : Segment). q.seats.items ++ seats_of ss) same
seats_at (s ∷ ss) (suc i) own at = ap (λ zs. s.seats.items ++ zs) (seats_at ss i own at) ∙ sym (append_assoc s.seats.items (seats_of (take i ss)) (own.seats.items ++ seats_of (drop (suc i) ss)))

-- the seats before the next segment
before_next : (ss : List Segment) (i : ℕ) (own : Segment) → slice_get ss i ≡ Some own → length (seats_of (take (suc i) ss)) ≡ length (seats_of (take i ss)) + length own.seats.items
before_next [] i own at = absurd cc
before_next (s ∷ ss) zero own at =
    let same : s ≡ own = cc in let many = length-append s.seats.items (seats_of (take 0 ss)) in let own_many = ap (λ (q : Segment). length q.seats.items) same in omega (arith, many, own_many)
before_next (s ∷ ss) (suc i) own at =
    let rest = before_next ss i own at in let more = length-append s.seats.items (seats_of (take (suc i) ss)) in let fewer = length-append s.seats.items (seats_of (take i ss)) in omega (arith, rest, more, fewer)

-- no more seats come before a segment than before one behind it
before_least : (ss : List Segment) (i j : ℕ) → i ≤ j → length (seats_of (take i ss)) ≤ length (seats_of (take j ss))
before_least ss zero j le = omega arith
before_least ss (suc i) zero le = absurd (omega (arith, le))
before_least [] (suc i) (suc j) le = omega arith
before_least (s ∷ ss) (suc i) (suc j) le =
    let rest = before_least ss i j (omega (arith, le)) in let here = length-append s.seats.items (seats_of (take i ss)) in let there = length-append s.seats.items (seats_of (take j ss)) in omega (arith, rest, here, there)

-- behind the seats of the i-th segment there are others only where there is another segment
next_there : (ss : List Segment) (i : ℕ) → 0 < length (seats_of (drop (suc i) ss)) → suc i < length ss
next_there [] i lt = absurd (omega (arith, lt))
next_there (s ∷ []) zero lt = absurd (omega (arith, lt))
next_there (s ∷ t ∷ ss) zero lt = omega arith
next_there (s ∷ ss) (suc i) lt = let rest = next_there ss i lt in omega (arith, rest)

-- no seat comes before the first segment
behind_none : (ss : List Segment) (i k : ℕ) → k < length (seats_of (take i ss)) → 0 < i
behind_none ss zero k lt = absurd (omega (arith, lt))
behind_none ss (suc i) k lt = omega arith

module _ (ss : List Segment) (i : ℕ) (own : Segment) (at : slice_get ss i ≡ Some own) where
  abbrev before : ℕ
  before = length (seats_of (take i ss))

  pub own_at : (j : ℕ) (d : Seat) → j < length own.seats.items → get_or (seats_of ss) (before + j) d ≡ get_or own.seats.items j d
  own_at j d lt =
      let after = seats_of (drop (suc i) ss) in
      ap (λ zs. get_or zs (before + j) d) (seats_at ss i own at) ∙ get_or-append-add (seats_of (take i ss)) (own.seats.items ++ after) j d ∙ get_or_append_left own.seats.items after d j lt

  pub all_many : length (seats_of ss) ≡ before + (length own.seats.items + length (seats_of (drop (suc i) ss)))
  all_many =
      let after = seats_of (drop (suc i) ss) in
      let whole = ap length (seats_at ss i own at) in let parts = length-append (seats_of (take i ss)) (own.seats.items ++ after) in let rest = length-append own.seats.items after in
      omega (arith, whole, parts, rest)

  pub own_ascend : Ascend (seats_of ss) → Ascend own.seats.items
  own_ascend up = λ j k d le lt.
      let first = ap (λ (s : Seat). s.key) (own_at j d (omega (arith, le, lt))) in let second = ap (λ (s : Seat). s.key) (own_at k d lt) in
      let many = all_many in let rise = up (before + j) (before + k) d (omega (arith, le)) (omega (arith, lt, many)) in omega (arith, first, second, rise)

  -- the first seat's key, by its number among all
  pub first_among : AreFilled ss → (d : Seat) → (before < length (seats_of ss)) × (own.first ≡ (get_or (seats_of ss) before d).key)
  first_among filled d =
      let is = first_key own.first own.seats.items d (filled_at ss i own filled at).first in let many = all_many in
      let none : before + 0 ≡ before = omega arith in
      let same = ap (λ k. (get_or (seats_of ss) k d).key) none in
      let there = ap (λ (s : Seat). s.key) (own_at 0 d is.0) in
      (omega (arith, many, is.0), is.1 ∙ sym there ∙ same)

a_seat : (first : ℕ) (seats : List Seat) → IsFirst first seats → Seat
a_seat first [] is = absurd is
a_seat first (s ∷ ss) is = s

pub firsts_rise : (ss : List Segment) → AreFilled ss → Ascend (seats_of ss) → IsNonDecreasingBy (λ (s : Segment). s.first) ss
firsts_rise ss filled up = λ i j d le lt.
    let lower = slice_get-get_or ss i d (omega (arith, le, lt)) in let upper = slice_get-get_or ss j d lt in
    let e = a_seat (get_or ss i d).first (get_or ss i d).seats.items (filled_at ss i (get_or ss i d) filled lower).first in
    let low = first_among ss i (get_or ss i d) lower filled e in let high = first_among ss j (get_or ss j d) upper filled e in
    let rise = up (before ss i (get_or ss i d) lower) (before ss j (get_or ss j d) upper) e (before_least ss i j le) high.0 in omega (arith, low.1, high.1, rise)

-- A spot in the last segment whose first key is at most the sought one, or in the first, and there before the first greater key: it
-- has the number of the first greater key among all.
pub found : (ss : List Segment) (i at key : ℕ) (own : Segment) (there : slice_get ss i ≡ Some own) → AreFilled ss → Ascend (seats_of ss)
    → (0 < i → own.first ≤ key) → ((next : Segment) → slice_get ss (suc i) ≡ Some next → key < next.first)
    → at ≤ length own.seats.items → ((k : ℕ) (d : Seat) → k < at → (get_or own.seats.items k d).key ≤ key) → ((d : Seat) → at < length own.seats.items → key < (get_or own.seats.items at d).key)
    → length (seats_of (take i ss)) + at ≡ up_to key (seats_of ss)
found ss i at key own there filled up least next within low high =
    let base = length (seats_of (take i ss)) in let many = all_many ss i own there in
    counted key (seats_of ss) (base + at) (omega (arith, many, within)) (λ k d lt. elim (cases_Bool (nat_lt k base)) [
      | inl below ↦
          let first = first_among ss i own there filled d in let under = ltb-true k base below in
          let rise = up k base d (omega (arith, under)) first.0 in let some = least (behind_none ss i k under) in omega (arith, first.1, rise, some)
      | inr past ↦
          let from = ltb-false k base past in let own_k = own_at ss i own there (k - base) d (omega (arith, lt, from, within)) in
          let whole : base + (k - base) ≡ k = omega (arith, from) in
          let same = ap (λ (s : Seat). s.key) (ap (λ n. get_or (seats_of ss) n d) (sym whole) ∙ own_k) in
          let is = low (k - base) d (omega (arith, lt, from)) in omega (arith, same, is)
    ]) (λ d lt. elim (cases_Bool (nat_lt at (length own.seats.items))) [
      | inl inside ↦
          let in_own = ltb-true at (length own.seats.items) inside in
          let same = ap (λ (s : Seat). s.key) (own_at ss i own there at d in_own) in let is = high d in_own in omega (arith, same, is)
      | inr end ↦
          let past = ltb-false at (length own.seats.items) end in
          let more = next_there ss i (omega (arith, many, lt, past, within)) in
          let q = get_or ss (suc i) own in let there_next = slice_get-get_or ss (suc i) own more in
          let first = first_among ss (suc i) q there_next filled d in let greater = next q there_next in
          let number : length (seats_of (take (suc i) ss)) ≡ base + at = omega (arith, before_next ss i own there, past, within) in
          let same = ap (λ n. (get_or (seats_of ss) n d).key) number in omega (arith, first.1, greater, same)
    ])

-- A spot behind a seat whose key is at most the sought one, and before one with a greater key, or at the end of a segment before another
-- that begins with one, is what the search asks for.
pub near_found : (ss : List Segment) (i at key : ℕ) (own : Segment) (there : slice_get ss i ≡ Some own) (d : Seat) → AreFilled ss → Ascend (seats_of ss) → 0 < at → at ≤ length own.seats.items
    → (get_or own.seats.items (at - 1) d).key ≤ key → (at < length own.seats.items → key < (get_or own.seats.items at d).key)
    → (length own.seats.items ≤ at → (next : Segment) → slice_get ss (suc i) ≡ Some next → key < next.first)
    → length (seats_of (take i ss)) + at ≡ up_to key (seats_of ss)
near_found ss i at key own there d filled up some within before behind past =
    let seats = own.seats.items in let rise = own_ascend ss i own there up in let base = length (seats_of (take i ss)) in
    found ss i at key own there filled up
    (λ later. let is = first_key own.first seats d (filled_at ss i own filled there).first in let least = rise 0 (at - 1) d (omega arith) (omega (arith, some, within)) in omega (arith, is.1, least, before))
    (λ next t. elim (cases_Bool (nat_lt at (length seats))) [
      | inl inside ↦
          let in_own = ltb-true at (length seats) inside in let first = first_among ss (suc i) next t filled d in let begin = before_next ss i own there in
          let here = ap (λ (s : Seat). s.key) (own_at ss i own there at d in_own) in let greater = behind in_own in
          let least = up (base + at) (length (seats_of (take (suc i) ss))) d (omega (arith, begin, in_own)) first.0 in omega (arith, first.1, here, greater, least)
      | inr end ↦ past (ltb-false at (length seats) end) next t
    ])
    within
    (λ k e lt. let least = rise k (at - 1) d (omega (arith, lt)) (omega (arith, some, within)) in let same = ap (λ (s : Seat). s.key) (same_read seats k d e (omega (arith, lt, within))) in omega (arith, least, before, same))
    (λ e lt. let greater = behind lt in let same = ap (λ (s : Seat). s.key) (same_read seats at d e lt) in omega (arith, greater, same)) where
      -- what stands there doesn't depend on what would be read where nothing does
      same_read : (xs : List Seat) (k : ℕ) (d e : Seat) → k < length xs → get_or xs k e ≡ get_or xs k d
      same_read xs k d e lt = get_or_from_slice_get xs k (get_or xs k d) e (slice_get-get_or xs k d lt)

-- What two searches find: how many segments begin with a key that is at most the sought one, and how many seats of the last of these
-- have one.
pub sought : (ss : List Segment) (n i at key : ℕ) (own : Segment) → AreFilled ss → Ascend (seats_of ss) → IsPartitionPoint (λ s. leb s.first key ≡ true) (λ s. leb s.first key ≡ false) ss n
    → i ≡ n - 1 → slice_get ss i ≡ Some own → at ≤ length own.seats.items → at ≡ up_to key own.seats.items → (length (seats_of (take i ss)) + at ≡ up_to key (seats_of ss)) × (at ≡ 0 → i ≡ 0)
sought ss n i at key own filled up point last there within count =
    let least : 0 < i → own.first ≤ key = λ lt.
    let is = get_or_from_slice_get ss i own own there in let same = ap (λ (s : Segment). s.first) is in
    let le = leb-true (get_or ss i own).first key (point.0 i own (omega arith) (omega (arith, last, lt))) in omega (arith, same, le) in
    let next : (q : Segment) → slice_get ss (suc i) ≡ Some q → key < q.first = λ q told.
    let same = ap (λ (s : Segment). s.first) (get_or_from_slice_get ss (suc i) q q told) in
    let lt = leb-false (get_or ss (suc i) q).first key (point.1 (suc i) q (omega (arith, last)) (slice_get_within ss (suc i) q told)) in omega (arith, same, lt) in
    let p = λ (s : Seat). nat_lt key s.key in let seats = own.seats.items in
    let low : (k : ℕ) (d : Seat) → k < at → (get_or seats k d).key ≤ key = λ k d lt. ltb-false key (get_or seats k d).key (fails_before_first p seats k d (omega (arith, lt, count))) in
    let high : (d : Seat) → at < length seats → key < (get_or seats at d).key = λ d lt.
    let passes = passes_at_first p seats d (omega (arith, lt, count)) in
    ltb-true key (get_or seats at d).key (ap (λ k. nat_lt key (get_or seats k d).key) count ∙ passes) in
    let own_filled = filled_at ss i own filled there in (
      found ss i at key own there filled up least next within low high,
      λ none. elim (cases_Bool (nat_lt 0 i)) [
        | inl some ↦
            let d = a_seat own.first seats own_filled.first in let first = first_key own.first seats d own_filled.first in
            let least_key = least (ltb-true 0 i some) in let greater = high d (omega (arith, none, first.0)) in
            let same = ap (λ k. (get_or seats k d).key) none in absurd (omega (arith, first.1, least_key, greater, same))
        | inr past ↦ (let le = ltb-false 0 i past in omega (arith, le))
      ],
    )
