-- What noting the operations of a batch one by one makes of the note of a block.
use Rattle.std.proofs.Common.{inl, inr, ◌≡◌, ℕ, zero, suc, Bool, true, false, List, [], ◌∷◌, ◌++◌, map, refl, sym, ap, ◌∙◌}
use Rattle.std.specs.Prelude.{All, ◌||◌, ◌==◌, slice_set}
use Rattle.std.specs.List.{flat_map}
use Rattle.std.proofs.lemmas.Bool.{cases_Bool}
use Rattle.std.proofs.lemmas.List.Elements.{All-head, All-tail}
use Rattle.acc_base.specs.declared.range.Range.{Range}
use Rattle.acc_base.specs.Ranges.{range_contains}
use Rattle.acc_batch.specs.declared.label.OpLabel.{OpLabel}
use Rattle.acc_batch.specs.declared.label.OpLabel.TheVariants.{Make, CopyIn, CopyOut, Release, Run, Await, Close}
use Rattle.acc_batch.specs.Labels.{made_blocks, used_blocks, has_number}
use Rattle.acc_kernel.specs.Jobs.{Use}
use Rattle.acc_present.specs.Notes.{Note, used_by, made_by, changed_at}
use Rattle.acc_place.specs.inner.Noting.{changed_all, noted_by}
use Rattle.acc_place.proofs.HeldInWalk.{NotesSo}

twice : (ns : List ℕ) (q n : ℕ) → slice_set (slice_set ns q n) q n ≡ slice_set ns q n
twice [] q n = refl
twice (k ∷ ns) zero n = refl
twice (k ∷ ns) (suc q) n = ap (λ r. k ∷ r) (twice ns q n)

-- what becomes of a note where the operations make the block, or use it
abbrev pub becomes : ℕ → ℕ → Bool → Bool → Note → Note
becomes q n true used note = made_by q n note
becomes q n false true note = used_by q n note
becomes q n false false note = note

becomes_used : (q n : ℕ) (made used : Bool) (note : Note) → becomes q n made used (used_by q n note) ≡ becomes q n made true note
becomes_used q n true used note = ap (λ us. record { queue = q; number = n; uses = us }) (twice note.uses q n)
becomes_used q n false true note = ap (λ us. record note { uses = us }) (twice note.uses q n)
becomes_used q n false false note = refl

becomes_made : (q n : ℕ) (made used : Bool) (note : Note) → becomes q n made used (made_by q n note) ≡ becomes q n true used note
becomes_made q n true used note = ap (λ us. record { queue = q; number = n; uses = us }) (twice note.uses q n)
becomes_made q n false true note = ap (λ us. record { queue = q; number = n; uses = us }) (twice note.uses q n)
becomes_made q n false false note = refl

-- A present range contains the range of a use exactly where it has the block.
abbrev pub IsOf : Range → ℕ → Use → Type 0
IsOf whole b u = range_contains whole u.1 ≡ (u.0 == b)

one_used : (q n b : ℕ) (whole : Range) (u : Use) (notes : Range → ℕ → Note) (made used : Bool) → IsOf whole b u
    → becomes q n made used (changed_at u.1 (used_by q n) notes whole b) ≡ becomes q n made ((u.0 == b) || used) (notes whole b)
one_used q n b whole u notes made used is = elim (cases_Bool (u.0 == b)) [
  | inl same ↦ rw (is, same) (becomes_used q n made used (notes whole b))
  | inr differ ↦ rw (is, differ) refl
]

one_made : (q n b : ℕ) (whole : Range) (u : Use) (notes : Range → ℕ → Note) (made used : Bool) → IsOf whole b u
    → becomes q n made used (changed_at u.1 (made_by q n) notes whole b) ≡ becomes q n ((u.0 == b) || made) used (notes whole b)
one_made q n b whole u notes made used is = elim (cases_Bool (u.0 == b)) [
  | inl same ↦ rw (is, same) (becomes_made q n made used (notes whole b))
  | inr differ ↦ rw (is, differ) refl
]

any_append : (xs ys : List ℕ) (b : ℕ) → has_number (xs ++ ys) b ≡ (has_number xs b || has_number ys b)
any_append [] ys b = refl
any_append (x ∷ xs) ys b = elim (x == b) as (λ v. (v || has_number (xs ++ ys) b) ≡ ((v || has_number xs b) || has_number ys b)) [ true ↦ refl | false ↦ any_append xs ys b ]

or_assoc : (a b c : Bool) → (a || (b || c)) ≡ ((a || b) || c)
or_assoc true b c = refl
or_assoc false b c = refl

many_used : (q n b : ℕ) (whole : Range) (us : List Use) (notes : Range → ℕ → Note) (made used : Bool) → All (IsOf whole b) us
    → becomes q n made used (changed_all (used_by q n) us notes whole b) ≡ becomes q n made (has_number (map (λ (u : Use). u.0) us) b || used) (notes whole b)
many_used q n b whole [] notes made used h = refl
many_used q n b whole (u ∷ us) notes made used h =
    many_used q n b whole us (changed_at u.1 (used_by q n) notes) made used (All-tail (IsOf whole b) u us h)
    ∙ (one_used q n b whole u notes made (has_number (map (λ (k : Use). k.0) us) b || used) (All-head (IsOf whole b) u us h)
    ∙ ap (λ v. becomes q n made v (notes whole b)) (or_assoc (u.0 == b) (has_number (map (λ (k : Use). k.0) us) b) used))

-- Noting all operations gives the block of a present range what they make of it together.
pub noted_is : (q n b : ℕ) (whole : Range) (ops : List OpLabel) (notes : Range → ℕ → Note) → All (NotesSo (IsOf whole b)) ops
    → noted_by q n ops notes whole b ≡ becomes q n (has_number (flat_map made_blocks ops) b) (has_number (flat_map used_blocks ops) b) (notes whole b)
noted_is q n b whole [] notes h = refl
noted_is q n b whole (op ∷ ops) notes h = by_op op (All-head (NotesSo (IsOf whole b)) op ops h) (λ f. noted_is q n b whole ops f (All-tail (NotesSo (IsOf whole b)) op ops h))
  where
    made : Bool
    made = has_number (flat_map made_blocks ops) b

    used : Bool
    used = has_number (flat_map used_blocks ops) b

    by_op : (o : OpLabel) → NotesSo (IsOf whole b) o → ((f : Range → ℕ → Note) → noted_by q n ops f whole b ≡ becomes q n made used (f whole b))
        → noted_by q n (o ∷ ops) notes whole b ≡ becomes q n (has_number (flat_map made_blocks (o ∷ ops)) b) (has_number (flat_map used_blocks (o ∷ ops)) b) (notes whole b)
    by_op (Make r k) is rest = rest (changed_at r (made_by q n) notes) ∙ one_made q n b whole (k, r) notes made used (All-head (IsOf whole b) (k, r) [] is)
    by_op (CopyIn r k) is rest = rest (changed_at r (used_by q n) notes) ∙ one_used q n b whole (k, r) notes made used (All-head (IsOf whole b) (k, r) [] is)
    by_op (CopyOut r k) is rest = rest (changed_at r (used_by q n) notes) ∙ one_used q n b whole (k, r) notes made used (All-head (IsOf whole b) (k, r) [] is)
    by_op (Release k) is rest = rest notes
    by_op (Run k uses) is rest =
        rest (changed_all (used_by q n) uses notes)
        ∙ (many_used q n b whole uses notes made used is ∙ ap (λ v. becomes q n made v (notes whole b)) (sym (any_append (map (λ (u : Use). u.0) uses) (flat_map used_blocks ops) b)))
    by_op (Await p m) is rest = rest notes
    by_op Close is rest = rest notes
