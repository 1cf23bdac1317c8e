-- Seats in segments: one comes or goes, a segment is parted, two are joined.
use Rattle.std.proofs.Common.{◌≡◌, ℕ, ◌+◌, ◌-◌, ◌<◌, ◌≤◌, zero, suc, refl, sym, ap, ◌∙◌, List, [], ◌∷◌, ◌++◌, length, map, take, drop, get_or, insert, remove, slice_get, slice_set, Some, add-one, arith}
use Rattle.std.proofs.lemmas.List.{append_assoc, drop_more}
use Rattle.std.proofs.lemmas.List.Edits.{insert-append_left, insert-append_right, length-remove}
use Rattle.std.proofs.lemmas.Option.{slice_get_read}
use Rattle.acc_raw.specs.declared.segment.Seat.{Seat}
use Rattle.acc_raw.specs.declared.segment.Segment.{Segment}
use Rattle.acc_raw.specs.inner.Segments.{AreFilled, IsFilled, lengths, seats_of}
use Rattle.acc_raw.proofs.Searching.{seats_at}

module _ {X : Type 0} where
  get_left : (xs ys : List X) (i : ℕ) (x : X) → slice_get xs i ≡ Some x → slice_get (xs ++ ys) i ≡ Some x
  get_left [] ys i x e = absurd cc
  get_left (z ∷ zs) ys zero x e = e
  get_left (z ∷ zs) ys (suc i) x e = get_left zs ys i x e

  get_right : (xs ys : List X) (i : ℕ) → slice_get (xs ++ ys) (length xs + i) ≡ slice_get ys i
  get_right [] ys i = let same : 0 + i ≡ i = omega arith in ap (λ k. slice_get ys k) same
  get_right (z ∷ zs) ys i = let past : suc (length zs) + i ≡ suc (length zs + i) = omega arith in ap (λ k. slice_get (z ∷ (zs ++ ys)) k) past ∙ get_right zs ys i

  -- one comes into the middle of three
  insert_mid : (xs ys zs : List X) (j : ℕ) (x : X) → j ≤ length ys → insert (xs ++ (ys ++ zs)) (length xs + j) x ≡ xs ++ (insert ys j x ++ zs)
  insert_mid xs ys zs j x le =
      let past : length xs + j - length xs ≡ j = omega arith in
      insert-append_right xs (ys ++ zs) (length xs) (length xs + j) x refl (omega arith)
      ∙ ap (λ k. xs ++ insert (ys ++ zs) k x) past
      ∙ ap (λ ws. xs ++ ws) (insert-append_left ys zs j x le)

  -- and goes from there
  remove_left : (ys zs : List X) (j : ℕ) → j < length ys → remove (ys ++ zs) j ≡ remove ys j ++ zs
  remove_left [] zs j lt = absurd (omega (arith, lt))
  remove_left (y ∷ ys) zs zero lt = refl
  remove_left (y ∷ ys) zs (suc j) lt = ap (λ ws. y ∷ ws) (remove_left ys zs j (omega (arith, lt)))

  remove_mid : (xs ys zs : List X) (j : ℕ) → j < length ys → remove (xs ++ (ys ++ zs)) (length xs + j) ≡ xs ++ (remove ys j ++ zs)
  remove_mid [] ys zs j lt = let same : 0 + j ≡ j = omega arith in ap (λ k. remove (ys ++ zs) k) same ∙ remove_left ys zs j lt
  remove_mid (x ∷ xs) ys zs j lt =
      let past : suc (length xs) + j ≡ suc (length xs + j) = omega arith in ap (λ k. remove (x ∷ (xs ++ (ys ++ zs))) k) past ∙ ap (λ ws. x ∷ ws) (remove_mid xs ys zs j lt)

module _ {X : Type 0} where
  pub set_again : (xs : List X) (i : ℕ) (x y : X) → slice_set (slice_set xs i x) i y ≡ slice_set xs i y
  set_again [] i x y = refl
  set_again (z ∷ zs) zero x y = refl
  set_again (z ∷ zs) (suc i) x y = ap (λ ws. z ∷ ws) (set_again zs i x y)

  pub set_same : (xs : List X) (i : ℕ) (x : X) → slice_get xs i ≡ Some x → slice_set xs i x ≡ xs
  set_same [] i x at = refl
  set_same (z ∷ zs) zero x at = let same : z ≡ x = cc in ap (λ w. w ∷ zs) (sym same)
  set_same (z ∷ zs) (suc i) x at = ap (λ ws. z ∷ ws) (set_same zs i x at)

  pub get_same : {x y : X} → Some x ≡ Some y → x ≡ y
  get_same e = cc

  pub get_set : (xs : List X) (i : ℕ) (x y z : X) → slice_get xs i ≡ Some x → slice_get (slice_set xs i y) i ≡ Some z → y ≡ z
  get_set [] i x y z at told = absurd cc
  get_set (w ∷ ws) zero x y z at told = cc
  get_set (w ∷ ws) (suc i) x y z at told = get_set ws i x y z at told

module _ {X Y : Type 0} (f : X → Y) where
  pub map-at : (xs : List X) (i : ℕ) (x : X) → slice_get xs i ≡ Some x → slice_get (map f xs) i ≡ Some (f x)
  map-at [] i x e = absurd cc
  map-at (y ∷ ys) zero x e = let same : y ≡ x = cc in ap (λ z. Some (f z)) same
  map-at (y ∷ ys) (suc i) x e = map-at ys i x e

  pub map-from : (xs : List X) (i : ℕ) (y : Y) → slice_get (map f xs) i ≡ Some y → (x : X) × (slice_get xs i ≡ Some x) × (f x ≡ y)
  map-from [] i y e = absurd cc
  map-from (x ∷ xs) zero y e = (x, refl, cc)
  map-from (x ∷ xs) (suc i) y e = map-from xs i y e

pub length-sizes : (ss : List Segment) → length (lengths ss) ≡ length ss
length-sizes [] = refl
length-sizes (s ∷ ss) = ap suc (length-sizes ss)

-- ## Each segment has a seat

pub filled_set : (ss : List Segment) (i : ℕ) (s : Segment) → AreFilled ss → IsFilled s → AreFilled (slice_set ss i s)
filled_set [] i s filled is = tt
filled_set (t ∷ ss) zero s filled is = (is, filled.1)
filled_set (t ∷ ss) (suc i) s filled is = (filled.0, filled_set ss i s filled.1 is)

pub filled_insert : (ss : List Segment) (i : ℕ) (s : Segment) → AreFilled ss → IsFilled s → AreFilled (insert ss i s)
filled_insert ss zero s filled is = (is, filled)
filled_insert [] (suc i) s filled is = (is, tt)
filled_insert (t ∷ ss) (suc i) s filled is = (filled.0, filled_insert ss i s filled.1 is)

pub filled_remove : (ss : List Segment) (i : ℕ) → AreFilled ss → AreFilled (remove ss i)
filled_remove [] zero filled = tt
filled_remove [] (suc i) filled = tt
filled_remove (t ∷ ss) zero filled = filled.1
filled_remove (t ∷ ss) (suc i) filled = (filled.0, filled_remove ss i filled.1)

-- ## Segments side by side

at_removed : (ss : List Segment) (i : ℕ) → slice_get (remove ss (suc i)) i ≡ slice_get ss i
at_removed [] zero = refl
at_removed [] (suc i) = refl
at_removed (s ∷ ss) zero = refl
at_removed (s ∷ ss) (suc i) = at_removed ss i

-- what is read of the i-th, where the next one was taken out
pub side_by_side : (ss rest : List Segment) (i : ℕ) (own next : Segment) → i + 1 < length ss → rest ≡ remove ss (i + 1) → own ≡ get_or rest i own → next ≡ get_or ss (i + 1) next
    → (slice_get ss i ≡ Some own) × (slice_get ss (suc i) ≡ Some next)
side_by_side ss rest i own next within is first second =
    let fewer = ap length is in let less = length-remove ss (i + 1) within in let one = add-one i in (
      sym (at_removed ss i) ∙ ap (λ k. slice_get (remove ss k) i) (sym one) ∙ ap (λ l. slice_get l i) (sym is) ∙ slice_get_read rest (length rest) i own refl (omega (arith, fewer, less, within)) first,
      ap (λ k. slice_get ss k) (sym one) ∙ slice_get_read ss (length ss) (i + 1) next refl within second,
    )

-- ## All seats

-- one segment is another
seats_set : (ss : List Segment) (i : ℕ) (own new : Segment) → slice_get ss i ≡ Some own → seats_of (slice_set ss i new) ≡ seats_of (take i ss) ++ (new.seats.items ++ seats_of (drop (suc i) ss))
seats_set [] i own new at = absurd cc
seats_set (s ∷ ss) zero own new at = refl
seats_set (s ∷ ss) (suc i) own new at = ap (λ zs. s.seats.items ++ zs) (seats_set ss i own new at) ∙ sym (append_assoc s.seats.items (seats_of (take i ss)) (new.seats.items ++ seats_of (drop (suc i) ss)))

module _ (ss : List Segment) (i : ℕ) (own : Segment) (at : slice_get ss i ≡ Some own) where
  -- a seat by its number among all
  pub seat_at : (j : ℕ) (x : Seat) → slice_get own.seats.items j ≡ Some x → slice_get (seats_of ss) (length (seats_of (take i ss)) + j) ≡ Some x
  seat_at j x told =
      let before = seats_of (take i ss) in let after = seats_of (drop (suc i) ss) in
      ap (λ zs. slice_get zs (length before + j)) (seats_at ss i own at) ∙ get_right before (own.seats.items ++ after) j ∙ get_left own.seats.items after j x told

  -- one comes
  pub seats_put : (j : ℕ) (x : Seat) (new : Segment) → j ≤ length own.seats.items → new.seats.items ≡ insert own.seats.items j x
      → seats_of (slice_set ss i new) ≡ insert (seats_of ss) (length (seats_of (take i ss)) + j) x
  seats_put j x new within put =
      let before = seats_of (take i ss) in let after = seats_of (drop (suc i) ss) in
      seats_set ss i own new at ∙ ap (λ zs. before ++ (zs ++ after)) put ∙ sym (insert_mid before own.seats.items after j x within)
      ∙ ap (λ zs. insert zs (length before + j) x) (sym (seats_at ss i own at))

  -- one goes
  pub seats_taken : (j : ℕ) (new : Segment) → j < length own.seats.items → new.seats.items ≡ remove own.seats.items j
      → seats_of (slice_set ss i new) ≡ remove (seats_of ss) (length (seats_of (take i ss)) + j)
  seats_taken j new within taken =
      let before = seats_of (take i ss) in let after = seats_of (drop (suc i) ss) in
      seats_set ss i own new at ∙ ap (λ zs. before ++ (zs ++ after)) taken ∙ sym (remove_mid before own.seats.items after j within)
      ∙ ap (λ zs. remove zs (length before + j)) (sym (seats_at ss i own at))

-- the only seat goes
pub none_left : (xs : List Seat) → length xs ≡ 1 → remove xs 0 ≡ []
none_left [] one = refl
none_left (x ∷ []) one = refl
none_left (x ∷ y ∷ xs) one = absurd (omega (arith, one))

-- what is left of all seats from the k-th segment on: its own come first
module _ (ss : List Segment) (k left : ℕ) (s : Segment) (lt : k < length ss) (is : s ≡ get_or ss k s) where
  from_here : slice_get (seats_of (drop k ss)) left ≡ slice_get (s.seats.items ++ seats_of (drop (k + 1) ss)) left
  from_here = ap (λ l. slice_get (seats_of l) left) (drop_more ss k s lt ∙ ap (λ q. q ∷ drop (k + 1) ss) (sym is))

  pub own_first : (x : Seat) → slice_get s.seats.items left ≡ Some x → slice_get (seats_of (drop k ss)) left ≡ Some x
  own_first x told = from_here ∙ get_left s.seats.items (seats_of (drop (k + 1) ss)) left x told

  pub others_then : length s.seats.items ≤ left → slice_get (seats_of (drop k ss)) left ≡ slice_get (seats_of (drop (k + 1) ss)) (left - length s.seats.items)
  others_then le =
      let many = length s.seats.items in let whole : left ≡ many + (left - many) = omega (arith, le) in
      from_here ∙ ap (λ n. slice_get (s.seats.items ++ seats_of (drop (k + 1) ss)) n) whole ∙ get_right s.seats.items (seats_of (drop (k + 1) ss)) (left - many)

-- a segment goes with its only seat
pub seats_gone : (ss : List Segment) (i : ℕ) (own : Segment) → slice_get ss i ≡ Some own → length own.seats.items ≡ 1 → seats_of (remove ss i) ≡ remove (seats_of ss) (length (seats_of (take i ss)))
seats_gone [] i own at one = absurd cc
seats_gone (s ∷ ss) zero own at one = let same : s ≡ own = cc in first s.seats.items (seats_of ss) (ap (λ (q : Segment). length q.seats.items) same ∙ one) where
  first : (xs ys : List Seat) → length xs ≡ 1 → ys ≡ remove (xs ++ ys) 0
  first [] ys one = absurd (omega (arith, one))
  first (x ∷ []) ys one = refl
  first (x ∷ z ∷ xs) ys one = absurd (omega (arith, one))
seats_gone (s ∷ ss) (suc i) own at one = ap (λ zs. s.seats.items ++ zs) (seats_gone ss i own at one) ∙ past s.seats.items (seats_of ss) (seats_of (take i ss)) where
  past : (xs ys zs : List Seat) → xs ++ remove ys (length zs) ≡ remove (xs ++ ys) (length (xs ++ zs))
  past [] ys zs = refl
  past (x ∷ xs) ys zs = ap (λ ws. x ∷ ws) (past xs ys zs)

-- a segment is parted in two
pub seats_parted : (ss : List Segment) (i : ℕ) (own lower upper : Segment) → slice_get ss i ≡ Some own → lower.seats.items ++ upper.seats.items ≡ own.seats.items
    → seats_of (insert (slice_set ss i lower) (suc i) upper) ≡ seats_of ss
seats_parted [] i own lower upper at whole = absurd cc
seats_parted (s ∷ ss) zero own lower upper at whole =
    let same : s ≡ own = cc in
    sym (append_assoc lower.seats.items upper.seats.items (seats_of ss)) ∙ ap (λ zs. zs ++ seats_of ss) whole ∙ ap (λ (q : Segment). q.seats.items ++ seats_of ss) (sym same)
seats_parted (s ∷ ss) (suc i) own lower upper at whole = ap (λ zs. s.seats.items ++ zs) (seats_parted ss i own lower upper at whole)

-- what stands where a segment was parted
pub parted_lower : (ss : List Segment) (i : ℕ) (own lower upper : Segment) → slice_get ss i ≡ Some own
    → (take i (insert (slice_set ss i lower) (suc i) upper) ≡ take i ss) × (slice_get (insert (slice_set ss i lower) (suc i) upper) i ≡ Some lower)
parted_lower [] i own lower upper at = absurd cc
parted_lower (s ∷ ss) zero own lower upper at = (refl, refl)
parted_lower (s ∷ ss) (suc i) own lower upper at = let rest = parted_lower ss i own lower upper at in (ap (λ l. s ∷ l) rest.0, rest.1)

pub parted_upper : (ss : List Segment) (i : ℕ) (own lower upper : Segment) → slice_get ss i ≡ Some own → slice_get (insert (slice_set ss i lower) (suc i) upper) (suc i) ≡ Some upper
parted_upper [] i own lower upper at = absurd cc
parted_upper (s ∷ ss) zero own lower upper at = refl
parted_upper (s ∷ ss) (suc i) own lower upper at = parted_upper ss i own lower upper at

-- two are joined
pub seats_joined : (ss : List Segment) (i : ℕ) (own next new : Segment) → slice_get ss i ≡ Some own → slice_get ss (suc i) ≡ Some next → new.seats.items ≡ own.seats.items ++ next.seats.items
    → seats_of (slice_set (remove ss (suc i)) i new) ≡ seats_of ss
seats_joined [] i own next new at after whole = absurd cc
seats_joined (s ∷ []) zero own next new at after whole = absurd cc
seats_joined (s ∷ t ∷ ss) zero own next new at after whole =
    let same : s ≡ own = cc in let second : t ≡ next = cc in
    ap (λ zs. zs ++ seats_of ss) whole ∙ append_assoc own.seats.items next.seats.items (seats_of ss)
    ∙ ap (λ (q : Segment). q.seats.items ++ (next.seats.items ++ seats_of ss)) (sym same) ∙ ap (λ (q : Segment). s.seats.items ++ (q.seats.items ++ seats_of ss)) (sym second)
seats_joined (s ∷ ss) (suc i) own next new at after whole = ap (λ zs. s.seats.items ++ zs) (seats_joined ss i own next new at after whole)
