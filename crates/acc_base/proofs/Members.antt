-- Members of lists, also of lists that are mapped and filtered.
use Rattle.std.proofs.Common.{inl, inr, ◌≡◌, ◌⊎◌, zero, suc, Bool, true, List, [], ◌∷◌, map, refl, arith}
use Rattle.std.specs.Prelude.{Contains, filter}
use Rattle.std.proofs.lemmas.List.Elements.{All-contains, All-filter, All-contains_itself, All-map, All-weaker, filter_passes, Contains-append_cases, Contains-append_right}

-- an empty list has no member
pub no_member : {X : Type 0} (x : X) → Contains [] x → ⊥
no_member x h = absurd (omega (arith, h.1))

-- the first element is a member
pub member_first : {X : Type 0} (x : X) (xs : List X) → Contains (x ∷ xs) x
member_first x xs = (0, omega arith, refl)

-- a member of the others is a member
pub member_rest : {X : Type 0} (x y : X) (ys : List X) → Contains ys x → Contains (y ∷ ys) x
member_rest x y ys h = Contains-append_right (y ∷ []) ys x h

-- a member of a list of one is that one
pub member_one : {X : Type 0} (x y : X) → Contains (y ∷ []) x → y ≡ x
member_one x y (zero, low, e) = e
member_one x y (suc k, low, e) = absurd (omega (arith, low))

-- a member is the first element, or a member of the others
pub member_cases : {X : Type 0} (x y : X) (ys : List X) → Contains (y ∷ ys) x → (y ≡ x) ⊎ Contains ys x
member_cases x y ys h = elim (Contains-append_cases (y ∷ []) ys x h) [ inl a ↦ inl (member_one x y a) | inr b ↦ inr b ]

-- a member that was filtered passed the test, and was there
pub member_filter : {X : Type 0} (p : X → Bool) (xs : List X) (x : X) → Contains (filter p xs) x → (p x ≡ true) × Contains xs x
member_filter p xs x h = (
  All-contains (λ y. p y ≡ true) (filter p xs) x (filter_passes p xs) h,
  All-contains (Contains xs) (filter p xs) x (All-filter p (Contains xs) xs (All-contains_itself xs)) h,
)

-- A value is the image of a member.
pub record IsFrom {X Y : Type 0} (f : X → Y) (xs : List X) (y : Y) : Type 0 where
  pub source : X
  pub member : Contains xs source
  pub same : f source ≡ y

-- each member of a mapped list is the image of a member
pub member_map : {X Y : Type 0} (f : X → Y) (xs : List X) (y : Y) → Contains (map f xs) y → IsFrom f xs y
member_map f xs y h =
    All-contains (IsFrom f xs) (map f xs) y
    (All-map (IsFrom f xs) f xs (All-weaker (Contains xs) (λ x. IsFrom f xs (f x)) (λ x k. record { source = x; member = k; same = refl }) xs (All-contains_itself xs))) h

-- the image of a member is a member of the mapped list
pub member_image : {X Y : Type 0} (f : X → Y) (xs : List X) (x : X) → Contains xs x → Contains (map f xs) (f x)
member_image f [] x h = absurd (no_member x h)
member_image f (y ∷ ys) x h = elim (member_cases x y ys h) [
  | inl same ↦ rw (← same) (member_first (f y) (map f ys))
  | inr rest ↦ member_rest (f x) (f y) (map f ys) (member_image f ys x rest)
]
