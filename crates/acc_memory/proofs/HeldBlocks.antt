-- The blocks that are there, against those that were made and released.
use Rattle.std.proofs.Common.{inl, inr, ◌≡◌, ℕ, cond, List, [], ◌∷◌, ◌++◌, map, refl, sym, ap, subst, ◌∙◌, Some, None}
use Rattle.std.specs.Prelude.{Contains, not, filter, ◌==◌}
use Rattle.std.proofs.lemmas.List.{map-append}
use Rattle.std.proofs.lemmas.List.Elements.{Contains-append_left, Contains-push, Contains-push_cases}
use Rattle.acc_base.proofs.Members.{no_member, member_image}
use Rattle.acc_memory.specs.Memories.{SameBlocks, blocks_after, find_block}
use Rattle.acc_batch.specs.Lives.{Made}
use Rattle.acc_batch.specs.declared.label.OpLabel.{OpLabel}
use Rattle.acc_batch.specs.declared.label.OpLabel.TheVariants.{Make, CopyIn, CopyOut, Release, Run, Await, Close}
use Rattle.acc_memory.proofs.FindBlock.{find_inserted, find_beside, find_kept, find_none, find_passed}

-- A block that was made and not released is there, with its range; one that was never made is not.
pub record Held (makings : List Made) (gone : List ℕ) (bs : List Made) : Type 0 where
  pub there : (m : Made) → Contains makings m → (Contains gone m.block → ⊥) → find_block bs m.block ≡ Some m
  pub absent : (b : ℕ) → (Contains (map (λ (m : Made). m.block) makings) b → ⊥) → find_block bs b ≡ None

-- so it is before the first operation
pub held_first : Held [] [] []
held_first = record {
  there = λ m c live. absurd (no_member m c);
  absent = λ b none. refl;
}

-- so it is after a block is made that never was
pub held_make : (makings : List Made) (gone : List ℕ) (bs : List Made) (b : Made) → Held makings gone bs →
    (Contains (map (λ (m : Made). m.block) makings) b.block → ⊥) → Held (makings ++ b ∷ []) gone (b ∷ bs)
held_make makings gone bs b h fresh = record {
  there = λ m c live. elim (Contains-push_cases makings b m c) [
    | inl old ↦
        find_beside b bs m.block (λ same. fresh (rw same (member_image (λ (x : Made). x.block) makings m old))) ∙ h.there m old live
    | inr new ↦ (let e : b ≡ m = new in subst (λ (x : Made). find_block (b ∷ bs) x.block ≡ Some x) e (find_inserted b bs))
  ];
  absent = λ c none.
      find_beside b bs c (λ same. none (rw (map-append (λ (m : Made). m.block) makings (b ∷ []), ← same) (Contains-push (map (λ (m : Made). m.block) makings) b.block)))
      ∙ h.absent c (λ d. none (rw (map-append (λ (m : Made). m.block) makings (b ∷ [])) (Contains-append_left (map (λ (m : Made). m.block) makings) (b.block ∷ []) c d)));
}

-- so it is after a block is released
pub held_release : (makings : List Made) (gone : List ℕ) (bs : List Made) (b : ℕ) → Held makings gone bs →
    Held makings (gone ++ b ∷ []) (filter (λ k. not (k.block == b)) bs)
held_release makings gone bs b h = record {
  there = λ m c live.
      find_kept b bs m.block (λ same. live (rw same (Contains-push gone b)))
      ∙ h.there m c (λ d. live (Contains-append_left gone (b ∷ []) m.block d));
  absent = λ c none. find_none b bs c (h.absent c none);
}

-- the same blocks stay the same after an operation
pub same_after : (op : OpLabel) (xs bs : List Made) → SameBlocks xs bs → SameBlocks (blocks_after op xs) (blocks_after op bs)
same_after (Make r b) xs bs same = λ n. ap (λ o. cond (b == n) (Some (record { block = b; range = r })) o) (same n)
same_after (CopyIn r b) xs bs same = same
same_after (CopyOut r b) xs bs same = same
same_after (Run k uses) xs bs same = same
same_after (Await q k) xs bs same = same
same_after Close xs bs same = same
same_after (Release b) xs bs same = λ n.
    find_passed (λ m. not (m == b)) xs n ∙ (ap (λ o. cond (not (n == b)) o None) (same n) ∙ sym (find_passed (λ m. not (m == b)) bs n))
