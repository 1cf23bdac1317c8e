-- Places in lists.
use Rattle.std.proofs.Common.{inl, inr, ◌≡◌, ◌⊎◌, ◌<◌, List, [], ◌∷◌, ◌++◌, length, refl, sym, ap, ◌∙◌, arith}
use Rattle.std.specs.Prelude.{Contains}
use Rattle.std.proofs.lemmas.List.{length-append}
use Rattle.acc_base.proofs.Members.{no_member, member_first, member_rest, member_cases}

-- what stands before an element, and behind it
pub record Split {X : Type 0} (xs : List X) (x : X) : Type 0 where
  pub before : List X
  pub more : List X
  pub split : xs ≡ before ++ x ∷ more

-- a member stands somewhere
pub member_split : {X : Type 0} (xs : List X) (x : X) → Contains xs x → Split xs x
member_split [] x h = absurd (no_member x h)
member_split (y ∷ xs) x h = elim (member_cases x y xs h) [
  | inl same ↦ record { before = []; more = xs; split = ap (λ z. z ∷ xs) same }
  | inr rest ↦ (let s = member_split xs x rest in record { before = y ∷ s.before; more = s.more; split = ap (λ r. y ∷ r) s.split })
]

-- and what stands somewhere is a member
pub split_member : {X : Type 0} (before : List X) (x : X) (more : List X) → Contains (before ++ x ∷ more) x
split_member [] x more = member_first x more
split_member (y ∷ before) x more = member_rest x y (before ++ x ∷ more) (split_member before x more)

-- An element that stands behind x in two lists together is one of the first, or of the second.
pub record InFirst {X : Type 0} (a x : List X) (e : X) : Type 0 where
  pub later : List X
  pub split : a ≡ x ++ e ∷ later

pub record InSecond {X : Type 0} (a b x : List X) (e : X) (y : List X) : Type 0 where
  pub behind : List X
  pub place : x ≡ a ++ behind
  pub split : b ≡ behind ++ e ∷ y

pub cut_at : {X : Type 0} (a b x : List X) (e : X) (y : List X) → a ++ b ≡ x ++ e ∷ y → InFirst a x e ⊎ InSecond a b x e y
cut_at [] b x e y h = inr (record { behind = x; place = refl; split = h })
cut_at (k ∷ a) b [] e y h = (let same : k ≡ e = cc in inl (record { later = a; split = ap (λ z. z ∷ a) same }))
cut_at (k ∷ a) b (j ∷ x) e y h =
    let same : k ≡ j = cc in
    let others : a ++ b ≡ x ++ e ∷ y = cc in
    elim (cut_at a b x e y others) [
      | inl f ↦ inl (record { later = f.later; split = ap (λ z. z ∷ a) same ∙ ap (λ r. j ∷ r) f.split })
      | inr s ↦ inr (record { behind = s.behind; place = ap (λ z. z ∷ x) (sym same) ∙ ap (λ r. k ∷ r) s.place; split = s.split })
    ]

-- Two places of one list: the first is before the second, they are one, or it is behind it.
pub record StandsBefore {X : Type 0} (b : List X) (l : X) (b' : List X) : Type 0 where
  pub mid : List X
  pub split : b' ≡ b ++ l ∷ mid

pub record IsOne {X : Type 0} (b : List X) (l : X) (b' : List X) (l' : X) : Type 0 where
  pub before : b ≡ b'
  pub same : l ≡ l'

pub compared : {X : Type 0} (b : List X) (l : X) (m : List X) (b' : List X) (l' : X) (m' : List X) → b ++ l ∷ m ≡ b' ++ l' ∷ m'
    → StandsBefore b l b' ⊎ (IsOne b l b' l' ⊎ StandsBefore b' l' b)
compared [] l m [] l' m' e = inr (inl (record { before = refl; same = cc }))
compared [] l m (k ∷ b') l' m' e = (let same : k ≡ l = cc in inl (record { mid = b'; split = ap (λ z. z ∷ b') same }))
compared (k ∷ b) l m [] l' m' e = (let same : k ≡ l' = cc in inr (inr (record { mid = b; split = ap (λ z. z ∷ b) same })))
compared (k ∷ b) l m (j ∷ b') l' m' e =
    let same : k ≡ j = cc in
    let others : b ++ l ∷ m ≡ b' ++ l' ∷ m' = cc in
    elim (compared b l m b' l' m' others) [
      | inl f ↦ inl (record { mid = f.mid; split = ap (λ z. z ∷ b') (sym same) ∙ ap (λ r. k ∷ r) f.split })
      | inr g ↦ elim g [
        | inl one ↦ inr (inl (record { before = ap (λ z. z ∷ b) same ∙ ap (λ r. j ∷ r) one.before; same = one.same }))
        | inr s ↦ inr (inr (record { mid = s.mid; split = ap (λ z. z ∷ b) same ∙ ap (λ r. j ∷ r) s.split }))
      ]
    ]

-- a prefix that goes beyond a place has what stands there
pub prefix_has : {X : Type 0} (done more x : List X) (e : X) (y : List X) → done ++ more ≡ x ++ e ∷ y → length x < length done → InFirst done x e
prefix_has done more x e y h low = elim (cut_at done more x e y h) [
  | inl f ↦ f
  | inr s ↦ absurd (omega (arith, low, ap length s.place, length-append done s.behind))
]
