-- The blocks that are there after a log, against those that were made and released.
use Rattle.std.proofs.Common.{inl, inr, ◌≡◌, ℕ, List, [], ◌∷◌, ◌++◌, map, refl, sym, subst, ◌∙◌, Some}
use Rattle.std.specs.Prelude.{◌==◌, ℤ, Contains, filter, not}
use Rattle.std.proofs.lemmas.Bool.{cases_Bool, cases_eq, eqb-true}
use Rattle.std.proofs.lemmas.List.{append-nil, map-append}
use Rattle.std.proofs.lemmas.List.Elements.{Contains-append_left, Contains-push, Contains-push_cases}
use Rattle.acc_base.proofs.Members.{no_member, member_image}
use Rattle.acc_batch.specs.declared.label.OpLabel.{OpLabel}
use Rattle.acc_batch.specs.declared.label.OpLabel.TheVariants.{Make, CopyIn, CopyOut, Release, Run, Await, Close}
use Rattle.acc_batch.specs.Lives.{blocks_made, blocks_released, UsesLive, Made}
use Rattle.acc_memory.specs.Memories.{blocks_after, find_block}
use Rattle.acc_memory.proofs.FindBlock.{find_inserted, find_beside, find_kept}
use Rattle.acc_memory.proofs.HeldBlocks.{Held, held_first, held_make, held_release}
use Rattle.acc_batch.specs.declared.entry.WorkEntry.{WorkEntry}
use Rattle.acc_batch.specs.declared.entry.WorkEntry.TheVariants as entry
use Rattle.acc_work.specs.Lives.{AllLive}
use Rattle.acc_work.specs.Logs.{device_ops}
use Rattle.acc_work.specs.Remembering.{blocks_by, blocks_in}
use Rattle.acc_batch.proofs.Lives.{made-append, released-append}

-- A block that is there was made and not released, and what was released was made.
pub record OnlyHeld (makings : List Made) (gone : List ℕ) (bs : List Made) : Type 0 where
  pub named : (b : ℕ) (m : Made) → find_block bs b ≡ Some m → m.block ≡ b
  pub made : (b : ℕ) (m : Made) → find_block bs b ≡ Some m → Contains makings m
  pub kept : (b : ℕ) (m : Made) → find_block bs b ≡ Some m → Contains gone b → ⊥
  pub gone_made : (b : ℕ) → Contains gone b → Contains (map (λ (m : Made). m.block) makings) b

-- before the first operation
only_first : OnlyHeld [] [] []
only_first = record {
  named = λ b m e. cc;
  made = λ b m e. cc;
  kept = λ b m e g. cc;
  gone_made = λ b g. absurd (no_member b g);
}

-- after a block is made that never was
only_make : (makings : List Made) (gone : List ℕ) (bs : List Made) (b : Made) → OnlyHeld makings gone bs
    → (Contains (map (λ (m : Made). m.block) makings) b.block → ⊥) → OnlyHeld (makings ++ b ∷ []) gone (b ∷ bs)
only_make makings gone bs b h fresh = record {
  named = λ c m e. elim (cases_eq b.block c) [
    | inl same ↦ (let is : b ≡ m = here c m same e in subst (λ (x : Made). x.block ≡ c) is same)
    | inr other ↦ h.named c m (sym (find_beside b bs c other) ∙ e)
  ];
  made = λ c m e. elim (cases_eq b.block c) [
    | inl same ↦ (let is : b ≡ m = here c m same e in subst (Contains (makings ++ b ∷ [])) is (Contains-push makings b))
    | inr other ↦ Contains-append_left makings (b ∷ []) m (h.made c m (sym (find_beside b bs c other) ∙ e))
  ];
  kept = λ c m e g. elim (cases_eq b.block c) [
    | inl same ↦ fresh (rw same (h.gone_made c g))
    | inr other ↦ h.kept c m (sym (find_beside b bs c other) ∙ e) g
  ];
  gone_made = λ c g. rw (map-append (λ (m : Made). m.block) makings (b ∷ [])) (Contains-append_left (map (λ (m : Made). m.block) makings) (b.block ∷ []) c (h.gone_made c g));
}
  where
    here : (c : ℕ) (m : Made) → b.block ≡ c → find_block (b ∷ bs) c ≡ Some m → b ≡ m
    here c m same e =
        let found : Some b ≡ Some m = sym (find_inserted b bs) ∙ subst (λ k. find_block (b ∷ bs) k ≡ Some m) (sym same) e in
        cc

-- a block that is released isn't found
none_left : (bs : List Made) (b : ℕ) (m : Made) → find_block (filter (λ k. not (k.block == b)) bs) b ≡ Some m → ⊥
none_left [] b m e = cc
none_left (x ∷ xs) b m e = elim (cases_Bool (x.block == b)) [
  | inl same ↦ none_left xs b m (rw same at e)
  | inr other ↦ (let kept = rw other at e in none_left xs b m (rw other at kept))
]

-- after a block is released that was made
only_release : (makings : List Made) (gone : List ℕ) (bs : List Made) (b : ℕ) → OnlyHeld makings gone bs → Contains (map (λ (m : Made). m.block) makings) b
    → OnlyHeld makings (gone ++ b ∷ []) (filter (λ k. not (k.block == b)) bs)
only_release makings gone bs b h was = record {
  named = λ c m e. h.named c m (there c m e).1;
  made = λ c m e. h.made c m (there c m e).1;
  kept = λ c m e g. elim (Contains-push_cases gone b c g) [
    | inl old ↦ h.kept c m (there c m e).1 old
    | inr new ↦ (there c m e).0 (sym new)
  ];
  gone_made = λ c g. elim (Contains-push_cases gone b c g) [
    | inl old ↦ h.gone_made c old
    | inr new ↦ rw (← new) was
  ];
}
  where
    there : (c : ℕ) (m : Made) → find_block (filter (λ k. not (k.block == b)) bs) c ≡ Some m → (c ≡ b → ⊥) × (find_block bs c ≡ Some m)
    there c m e = elim (cases_eq c b) [
      | inl same ↦ absurd (none_left bs b m (rw same at e))
      | inr other ↦ (other, sym (find_kept b bs c other) ∙ e)
    ]

-- the blocks after one more operation are what it makes of those before it
pub blocks_by_more : (bs : List Made) (ops : List OpLabel) (op : OpLabel) → blocks_by bs (ops ++ op ∷ []) ≡ blocks_after op (blocks_by bs ops)
blocks_by_more bs [] op = refl
blocks_by_more bs (x ∷ ops) op = blocks_by_more (blocks_after x bs) ops op

-- Both of what a log left on a device.
pub record HeldBoth (ops : List OpLabel) (bs : List Made) : Type 0 where
  pub held : Held (blocks_made ops) (blocks_released ops) bs
  pub only : OnlyHeld (blocks_made ops) (blocks_released ops) bs

-- an operation that makes and releases nothing leaves them
quiet : (ops : List OpLabel) (op : OpLabel) (bs : List Made) → blocks_made (op ∷ []) ≡ [] → blocks_released (op ∷ []) ≡ [] → HeldBoth ops bs → HeldBoth (ops ++ op ∷ []) bs
quiet ops op bs made released h =
    let m : blocks_made (ops ++ op ∷ []) ≡ blocks_made ops = made-append ops (op ∷ []) ∙ rw made (append-nil (blocks_made ops)) in
    let r : blocks_released (ops ++ op ∷ []) ≡ blocks_released ops = released-append ops (op ∷ []) ∙ rw released (append-nil (blocks_released ops)) in
    record { held = rw (m, r) h.held; only = rw (m, r) h.only }

both_after : (arrays : List (List ℤ)) (ops : List OpLabel) (bs : List Made) (op : OpLabel) → HeldBoth ops bs → UsesLive arrays op ops → HeldBoth (ops ++ op ∷ []) (blocks_after op bs)
both_after arrays ops bs (Make r b) h u =
    let new : Made = record { block = b; range = r } in
    let m : blocks_made (ops ++ Make r b ∷ []) ≡ blocks_made ops ++ new ∷ [] = made-append ops (Make r b ∷ []) in
    let g : blocks_released (ops ++ Make r b ∷ []) ≡ blocks_released ops = released-append ops (Make r b ∷ []) ∙ append-nil (blocks_released ops) in
    record {
      held = rw (m, g) (held_make (blocks_made ops) (blocks_released ops) bs new h.held u.0);
      only = rw (m, g) (only_make (blocks_made ops) (blocks_released ops) bs new h.only u.0);
    }
both_after arrays ops bs (CopyIn r b) h u = quiet ops (CopyIn r b) bs refl refl h
both_after arrays ops bs (CopyOut r b) h u = quiet ops (CopyOut r b) bs refl refl h
both_after arrays ops bs (Release b) h u =
    let m : blocks_made (ops ++ Release b ∷ []) ≡ blocks_made ops = made-append ops (Release b ∷ []) ∙ append-nil (blocks_made ops) in
    let g : blocks_released (ops ++ Release b ∷ []) ≡ blocks_released ops ++ b ∷ [] = released-append ops (Release b ∷ []) in
    let was = member_image (λ (m : Made). m.block) (blocks_made ops) (record { block = b; range = u.1.whole_range }) u.1.is_made in
    record {
      held = rw (m, g) (held_release (blocks_made ops) (blocks_released ops) bs b h.held);
      only = rw (m, g) (only_release (blocks_made ops) (blocks_released ops) bs b h.only was);
    }
both_after arrays ops bs (Run k uses) h u = quiet ops (Run k uses) bs refl refl h
both_after arrays ops bs (Await q n) h u = quiet ops (Await q n) bs refl refl h
both_after arrays ops bs Close h u = quiet ops Close bs refl refl h

-- So it is on each device after each log whose operations use live blocks.
pub held_in : (arrays : List (List ℤ)) (device : ℕ) (work : List WorkEntry) → AllLive arrays work → HeldBoth (device_ops device work) (blocks_in device work)
held_in arrays device [] live = record { held = held_first; only = only_first }
held_in arrays device (entry.Item host shown ∷ before) live = held_in arrays device before live
held_in arrays device (entry.Op at op ∷ before) live =
    let ih = held_in arrays device before live.1 in
    elim (cases_Bool (at.device == device)) [
      | inl here ↦
          let used : UsesLive arrays op (device_ops device before) = rw (eqb-true at.device device here) at live.0 in
          rw (here, blocks_by_more [] (device_ops device before) op) (both_after arrays (device_ops device before) (blocks_in device before) op ih used)
      | inr other ↦ rw other ih
    ]
