-- Operations that make, use and release blocks, as members of lists.
use Rattle.std.proofs.Common.{inl, inr, ℕ, List, [], ◌∷◌, ap}
use Rattle.std.specs.Prelude.{Contains}
use Rattle.std.specs.List.{flat_map}
use Rattle.std.proofs.lemmas.List.Elements.{Contains-append_left, Contains-append_right}
use Rattle.acc_base.specs.declared.range.Range.{Range}
use Rattle.acc_base.proofs.Members.{no_member, member_first, member_rest, member_cases}
use Rattle.acc_batch.specs.declared.label.OpLabel.{OpLabel}
use Rattle.acc_batch.specs.declared.label.OpLabel.TheVariants.{Make, CopyIn, CopyOut, Release, Run, Await, Close}
use Rattle.acc_batch.specs.Lives.{Made}
use Rattle.acc_batch.specs.Lives.{blocks_made, blocks_released}

abbrev pub a_made : ℕ → Range → Made
a_made b r = record { block = b; range = r }

-- what was made was made by an operation
pub made_op : (ops : List OpLabel) (b : ℕ) (r : Range) → Contains (blocks_made ops) (a_made b r) → Contains ops (Make r b)
made_op [] b r h = absurd (no_member (a_made b r) h)
made_op (Make s c ∷ ops) b r h = elim (member_cases (a_made b r) (a_made c s) (blocks_made ops) h) [
  | inl same ↦ rw (← ap (λ (m : Made). m.block) same, ← ap (λ (m : Made). m.range) same) (member_first (Make s c) ops)
  | inr rest ↦ member_rest (Make r b) (Make s c) ops (made_op ops b r rest)
]
made_op (CopyIn s c ∷ ops) b r h = member_rest (Make r b) (CopyIn s c) ops (made_op ops b r h)
made_op (CopyOut s c ∷ ops) b r h = member_rest (Make r b) (CopyOut s c) ops (made_op ops b r h)
made_op (Release c ∷ ops) b r h = member_rest (Make r b) (Release c) ops (made_op ops b r h)
made_op (Run k uses ∷ ops) b r h = member_rest (Make r b) (Run k uses) ops (made_op ops b r h)
made_op (Await q n ∷ ops) b r h = member_rest (Make r b) (Await q n) ops (made_op ops b r h)
made_op (Close ∷ ops) b r h = member_rest (Make r b) Close ops (made_op ops b r h)

-- what one more operation made, and what the others did
made_more : (op : OpLabel) (ops : List OpLabel) (x : Made) → Contains (blocks_made ops) x → Contains (blocks_made (op ∷ ops)) x
made_more (Make s c) ops x h = member_rest x (a_made c s) (blocks_made ops) h
made_more (CopyIn s c) ops x h = h
made_more (CopyOut s c) ops x h = h
made_more (Release c) ops x h = h
made_more (Run k uses) ops x h = h
made_more (Await q n) ops x h = h
made_more Close ops x h = h

released_more : (op : OpLabel) (ops : List OpLabel) (b : ℕ) → Contains (blocks_released ops) b → Contains (blocks_released (op ∷ ops)) b
released_more (Make s c) ops b h = h
released_more (CopyIn s c) ops b h = h
released_more (CopyOut s c) ops b h = h
released_more (Release c) ops b h = member_rest b c (blocks_released ops) h
released_more (Run k uses) ops b h = h
released_more (Await q n) ops b h = h
released_more Close ops b h = h

pub op_made : (ops : List OpLabel) (b : ℕ) (r : Range) → Contains ops (Make r b) → Contains (blocks_made ops) (a_made b r)
op_made [] b r h = absurd (no_member (Make r b) h)
op_made (op ∷ ops) b r h = elim (member_cases (Make r b) op ops h) [
  | inl same ↦ rw same (member_first (a_made b r) (blocks_made ops))
  | inr rest ↦ made_more op ops (a_made b r) (op_made ops b r rest)
]

pub op_released : (ops : List OpLabel) (b : ℕ) → Contains ops (Release b) → Contains (blocks_released ops) b
op_released [] b h = absurd (no_member (Release b) h)
op_released (op ∷ ops) b h = elim (member_cases (Release b) op ops h) [
  | inl same ↦ rw same (member_first b (blocks_released ops))
  | inr rest ↦ released_more op ops b (op_released ops b rest)
]

pub released_op : (ops : List OpLabel) (b : ℕ) → Contains (blocks_released ops) b → Contains ops (Release b)
released_op [] b h = absurd (no_member b h)
released_op (Make s c ∷ ops) b h = member_rest (Release b) (Make s c) ops (released_op ops b h)
released_op (CopyIn s c ∷ ops) b h = member_rest (Release b) (CopyIn s c) ops (released_op ops b h)
released_op (CopyOut s c ∷ ops) b h = member_rest (Release b) (CopyOut s c) ops (released_op ops b h)
released_op (Release c ∷ ops) b h = elim (member_cases b c (blocks_released ops) h) [
  | inl same ↦ rw (← same) (member_first (Release c) ops)
  | inr rest ↦ member_rest (Release b) (Release c) ops (released_op ops b rest)
]
released_op (Run k uses ∷ ops) b h = member_rest (Release b) (Run k uses) ops (released_op ops b h)
released_op (Await q n ∷ ops) b h = member_rest (Release b) (Await q n) ops (released_op ops b h)
released_op (Close ∷ ops) b h = member_rest (Release b) Close ops (released_op ops b h)

-- what a member maps to is a member of all that the list maps to
pub flat_member : {X Y : Type 0} (f : X → List Y) (xs : List X) (x : X) (y : Y) → Contains xs x → Contains (f x) y → Contains (flat_map f xs) y
flat_member f [] x y h g = absurd (no_member x h)
flat_member f (k ∷ xs) x y h g = elim (member_cases x k xs h) [
  | inl same ↦ Contains-append_left (f k) (flat_map f xs) y (rw same g)
  | inr rest ↦ Contains-append_right (f k) (flat_map f xs) y (flat_member f xs x y rest g)
]
