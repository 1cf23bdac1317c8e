-- Seats beside the nodes, in their order.
use Rattle.std.proofs.Common.{◌≡◌, ℕ, ◌+◌, ◌-◌, ◌≤◌, zero, suc, not, cond, refl, sym, ap, ◌∙◌, List, [], ◌∷◌, length, map, slice_get, slice_set, Option, Some, None, arith}
use Rattle.std.specs.Prelude.{nat_lt}
use Rattle.std.specs.Option.{option_map}
use Rattle.std.proofs.lemmas.List.{length-map}
use Rattle.std.proofs.lemmas.List.Sums.{prefix_len-le-length}
use Rattle.std.proofs.lemmas.Option.{slice_get-map}
use denote.RawPtr.{Ptr}
use Rattle.acc_raw.specs.declared.link.Link.{Link}
use Rattle.acc_raw.specs.declared.link.Place.{Place}
use Rattle.acc_raw.specs.declared.segment.Seat.{Seat}
use Rattle.acc_raw.specs.Indices.{IndexedView, last_of, up_to as up_to_keys}
use Rattle.acc_raw.specs.inner.Links.{Placed, IsAt}
use Rattle.acc_raw.specs.inner.Segments.{keys_of, up_to}
use Rattle.acc_raw.specs.inner.Wired.{place, place_at, place_before, places, values, IsWiredChain}
use Rattle.acc_raw.proofs.Places.{at_is, before_is, some_at}

-- an index shows so
abbrev pub viewed : {X : Type 0} → List X → List ℕ → ℕ → IndexedView X
viewed vs ks room = record { items = vs; keys = ks; room = room }

-- the place of a seat that is there
abbrev pub place_of : Option Seat → Option Place
place_of o = option_map (λ s. s.place) o

-- ## Keys

pub same_count : (key : ℕ) (ss : List Seat) → up_to key ss ≡ up_to_keys key (keys_of ss)
same_count key [] = refl
same_count key (s ∷ ss) = ap (λ n. cond (not (nat_lt key s.key)) (1 + n) 0) (same_count key ss)

pub count_within : (key : ℕ) (ss : List Seat) → up_to key ss ≤ length ss
count_within key ss = prefix_len-le-length (λ s. not (nat_lt key s.key)) ss

module _ {X : Type 0} where
  pub place_at_is : (ps : List (Placed X)) (i : ℕ) → place_at ps i ≡ slice_get (places ps) i
  place_at_is [] i = refl
  place_at_is (q ∷ ps) zero = refl
  place_at_is (q ∷ ps) (suc i) = place_at_is ps i

  length-places : (ps : List (Placed X)) → length (places ps) ≡ length ps
  length-places [] = refl
  length-places (q ∷ ps) = ap suc (length-places ps)

  -- seats beside the nodes
  module _ (ps : List (Placed X)) (ss : List Seat) (named : map (λ (s : Seat). s.place) ss ≡ places ps) where
    pub many_seats : length ss ≡ length ps
    many_seats = sym (length-map ss (λ (s : Seat). s.place)) ∙ ap length named ∙ length-places ps

    -- the seat with a number has the place of the node with that number
    pub seat_names : (i : ℕ) → place_of (slice_get ss i) ≡ place_at ps i
    seat_names i = sym (slice_get-map (λ (s : Seat). s.place) ss i) ∙ ap (λ l. slice_get l i) named ∙ sym (place_at_is ps i)

    pub last_names : (n : ℕ) → place_of (last_of ss n) ≡ place_before None ps n
    last_names zero = refl
    last_names (suc i) = seat_names i

    -- the node before the n-th is there
    pub last_at : (n : ℕ) (p : Place) → Some p ≡ place_of (last_of ss n) → IsAt ps (n - 1) p.ptr
    last_at n p e = at_is ps (n - 1) p (before_is ps n p (e ∙ last_names n)).1

    pub some_before : (n : ℕ) (p : Place) → Some p ≡ place_of (last_of ss n) → n ≡ suc (n - 1)
    some_before n p e = (before_is ps n p (e ∙ last_names n)).0

    -- a way begins at the node before the n-th, or at the first one
    pub begins_at : (n : ℕ) (p : Place) → Some p ≡ place_of (last_of ss n) → Some p ≡ place_at ps (n - 1)
    begins_at n p e = (before_is ps n p (e ∙ last_names n)).1

  pub none_before : (ps : List (Placed X)) (n : ℕ) → n ≤ length ps → None ≡ place_before None ps n → n ≡ 0
  none_before ps zero le e = refl
  none_before ps (suc i) le e = let s = some_at ps i (omega (arith, le)) in let there = s.1 in cc

  -- no node is before the first greater key
  pub none_last : {h t : Option Place} (ps : List (Placed X)) (ss : List Seat) → map (λ (s : Seat). s.place) ss ≡ places ps → IsWiredChain h t ps → (key : ℕ) → place_of (last_of ss (up_to key ss)) ≡ None
      → last_of (values ps) (up_to_keys key (keys_of ss)) ≡ None
  none_last ps ss named w key e =
      let within = count_within key ss in let many = many_seats ps ss named in
      let none = none_before ps (up_to key ss) (omega (arith, within, many)) (sym e ∙ last_names ps ss named (up_to key ss)) in
      ap (λ n. last_of (values ps) n) (sym (same_count key ss) ∙ none)

  -- a node whose value changes lies where it lay
  pub places-other : (ps : List (Placed X)) (i : ℕ) (p : Ptr) (l : Link X) (w : X) → slice_get ps i ≡ Some (p, l) → places (slice_set ps i (p, record l { value = w })) ≡ places ps
  places-other [] i p l w e = refl
  places-other (q ∷ ps) zero p l w e = let same : q ≡ (p, l) = cc in ap (λ (r : Placed X). place r.0 ∷ places ps) (sym same)
  places-other (q ∷ ps) (suc i) p l w e = ap (λ rs. place q.0 ∷ rs) (places-other ps i p l w e)
