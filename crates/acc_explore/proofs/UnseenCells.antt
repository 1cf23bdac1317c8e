-- An unseen operation changes no cell that is live, and may as well come behind another queue's operation.
use Rattle.std.proofs.Common.{inl, inr, ◌⊎◌, ◌≡◌, ℕ, Bool, true, false, ◌&&◌, cond, List, [], ◌∷◌, refl, sym, ◌∙◌, subst, None, ℤ, pos, ◌==◌}
use Rattle.std.specs.Prelude.{All, Contains, map}
use Rattle.std.proofs.lemmas.Bool.{cases_Bool, eq-eqb, eqb-true, ne_eqb}
use Rattle.std.proofs.lemmas.List.Elements.{All-head, All-tail, Contains-append_left, Contains-push, Contains-push_cases}
use Rattle.acc_base.proofs.Members.{member_image}
use Rattle.acc_base.specs.declared.ids.QueueAt.{QueueAt}
use Rattle.acc_base.specs.declared.range.Range.{Range}
use Rattle.acc_batch.specs.declared.entry.WorkEntry.{WorkEntry}
use Rattle.acc_batch.specs.declared.entry.WorkEntry.TheVariants as entry
use Rattle.acc_batch.specs.declared.label.OpLabel.{OpLabel}
use Rattle.acc_batch.specs.declared.label.OpLabel.TheVariants.{Make, CopyIn, CopyOut, Release, Run, Await, Close}
use Rattle.acc_batch.specs.Lives.{Made, blocks_made, HoldsBlock, UsesLive}
use Rattle.acc_batch.specs.Ops.{HasItsCells}
use Rattle.acc_kernel.specs.Jobs.{Use}
use Rattle.acc_memory.specs.Values.{Cell, Host_cell, Block_cell, after_op, block_after, is_in, use_with}
use Rattle.acc_work.specs.Logs.{device_ops, one_more, value}
use Rattle.acc_work.proofs.MadeAndReleased.{a_made, made_op, op_made, op_released, released_op}
use Rattle.acc_explore.specs.Alike.{AlikeLogs, IsLive, SameCells}
use Rattle.acc_explore.specs.UnseenOperations.{is_unseen}
use Rattle.acc_explore.proofs.LiveCells.{cells_after, in_wider}
use Rattle.acc_explore.proofs.TurnedLogs.{ops_turned}

-- Of a cell of a host array it makes nothing.
unseen_host : (op : OpLabel) → is_unseen op ≡ true → (d : ℕ) (was : Cell → ℤ) (array cell : ℕ) → after_op d op was (Host_cell array cell) ≡ was (Host_cell array cell)
unseen_host (Make r b) u d was array cell = refl
unseen_host (CopyIn r b) u d was array cell = cc
unseen_host (CopyOut r b) u d was array cell = cc
unseen_host (Release b) u d was array cell = refl
unseen_host (Run k uses) u d was array cell = cc
unseen_host (Await q n) u d was array cell = refl
unseen_host Close u d was array cell = cc

-- ## Behind another operation

-- members of a list with maybe one more
more_first : {X : Type 0} (b : Bool) (xs : List X) (y x : X) → Contains xs x → Contains (one_more b xs y) x
more_first true xs y x h = Contains-append_left xs (y ∷ []) x h
more_first false xs y x h = h

more_last : {X : Type 0} (b : Bool) (xs : List X) (y : X) → b ≡ true → Contains (one_more b xs y) y
more_last true xs y e = Contains-push xs y
more_last false xs y e = cc

more_cases : {X : Type 0} (b : Bool) (xs : List X) (y x : X) → Contains (one_more b xs y) x → Contains xs x ⊎ ((b ≡ true) × (y ≡ x))
more_cases true xs y x h = elim (Contains-push_cases xs y x h) [ inl old ↦ inl old | inr same ↦ inr (refl, same) ]
more_cases false xs y x h = inl h

more_within : {X : Type 0} (b : Bool) (xs ys : List X) (y : X) → ((x : X) → Contains xs x → Contains ys x) → (x : X) → Contains (one_more b xs y) x → Contains (one_more b ys y) x
more_within b xs ys y within x h = elim (more_cases b xs y x h) [
  | inl old ↦ more_first b ys y x (within x old)
  | inr last ↦ subst (Contains (one_more b ys y)) last.1 (more_last b ys y last.0)
]

-- a block that is held among operations is held among some of them that make it
held_among : (all some : List OpLabel) (b : ℕ) (r : Range) (h : HoldsBlock all b r) → Contains some (Make h.whole_range b) → ((x : OpLabel) → Contains some x → Contains all x) → HoldsBlock some b r
held_among all some b r h made within = record {
  whole_range = h.whole_range;
  is_made = op_made some b h.whole_range made;
  not_released = λ gone. h.not_released (op_released all b (within (Release b) (released_op some b gone)));
  inside = h.inside;
}

-- a block that wasn't made isn't held
not_held : (ops : List OpLabel) (b c : ℕ) (r : Range) → ¬ Contains (map (λ (m : Made). m.block) (blocks_made ops)) b → HoldsBlock ops c r → c ≡ b → ⊥
not_held ops b c r new h e =
    new (subst (Contains (map (λ (m : Made). m.block) (blocks_made ops))) e
    (member_image (λ (m : Made). m.block) (blocks_made ops) (a_made c h.whole_range) h.is_made))

-- ## A cell that is live

-- An unseen operation leaves it.
leaves_there : (arrays : List (List ℤ)) (ops : List OpLabel) (op : OpLabel) → is_unseen op ≡ true → UsesLive arrays op ops → (d : ℕ) (was : Cell → ℤ) (block cell : ℕ) (r : Range) → HoldsBlock ops block r
    → was (Block_cell d block cell) ≡ block_after op d was block cell
leaves_there arrays ops (Make s b) u uses d was block cell r h =
    let other : (block == b) ≡ false = ne_eqb block b (not_held ops b block r uses.0 h) in
    rw other refl
leaves_there arrays ops (CopyIn s b) u uses d was block cell r h = cc
leaves_there arrays ops (CopyOut s b) u uses d was block cell r h = cc
leaves_there arrays ops (Release b) u uses d was block cell r h = refl
leaves_there arrays ops (Run k us) u uses d was block cell r h = cc
leaves_there arrays ops (Await q n) u uses d was block cell r h = refl
leaves_there arrays ops Close u uses d was block cell r h = cc

unseen_leaves : (arrays : List (List ℤ)) (work : List WorkEntry) (at : QueueAt) (op : OpLabel) → is_unseen op ≡ true → UsesLive arrays op (device_ops at.device work) → SameCells arrays work (entry.Op at op ∷ work)
unseen_leaves arrays work at op u uses (Host_cell array cell) live = sym (unseen_host op u at.device (value arrays work) array cell)
unseen_leaves arrays work at op u uses (Block_cell d block cell) live = elim (cases_Bool (d == at.device)) [
  | inl here ↦
      let same : d ≡ at.device = eqb-true d at.device here in
      let held : HoldsBlock (device_ops at.device work) block live.0 = subst (λ n. HoldsBlock (device_ops n work) block live.0) same live.1 in
      rw here
      (subst (λ n. value arrays work (Block_cell n block cell) ≡ block_after op at.device (value arrays work) block cell) (sym same)
      (leaves_there arrays (device_ops at.device work) op u uses at.device (value arrays work) block cell live.0 held))
  | inr other ↦ rw other refl
]

-- The operation makes the block of this cell.
record IsNew (at : QueueAt) (op : OpLabel) (d block cell : ℕ) : Type 0 where
  whole : Range
  makes : op ≡ Make whole block
  device : at.device ≡ d
  has : is_in whole cell ≡ true

-- What is live behind two operations is live behind the second alone, or the first makes it.
live_before : (work : List WorkEntry) (at other : QueueAt) (op x : OpLabel) (d block cell : ℕ) → IsLive (entry.Op other x ∷ entry.Op at op ∷ work) (Block_cell d block cell)
    → IsLive (entry.Op other x ∷ work) (Block_cell d block cell) ⊎ IsNew at op d block cell
live_before work at other op x d block cell live =
    let h = live.1 in
    let ops = device_ops d work in
    let both = one_more (at.device == d) ops op in
    let theirs = other.device == d in
    let within = more_within theirs ops both x (λ y m. more_first (at.device == d) ops op y m) in
    let made = Make h.whole_range block in
    let all = one_more theirs both x in
    let some = one_more theirs ops x in
    elim (more_cases theirs both x made (made_op all block h.whole_range h.is_made)) [
      | inl early ↦ elim (more_cases (at.device == d) ops op made early) [
        | inl old ↦ inl (live.0, held_among all some block live.0 h (more_first theirs ops x made old) within, live.2)
        | inr new ↦ inr (record { whole = h.whole_range; makes = new.1; device = eqb-true at.device d new.0; has = in_wider h.whole_range live.0 cell h.inside live.2 })
      ]
      | inr last ↦ inl (live.0, held_among all some block live.0 h (subst (Contains some) last.1 (more_last theirs ops x last.0)) within, live.2)
    ]

-- ## A block that is made

-- its cells are zero
new_zero : (at : QueueAt) (op : OpLabel) (d block cell : ℕ) (was : Cell → ℤ) → IsNew at op d block cell → after_op at.device op was (Block_cell d block cell) ≡ pos 0
new_zero at op d block cell was n =
    subst (λ (o : OpLabel). after_op at.device o was (Block_cell d block cell) ≡ pos 0) (sym n.makes)
    (subst (λ e. after_op e (Make n.whole block) was (Block_cell d block cell) ≡ pos 0) (sym n.device) zero_here)
  where
    zero_here : after_op d (Make n.whole block) was (Block_cell d block cell) ≡ pos 0
    zero_here = rw (eq-eqb d d refl, eq-eqb block block refl, n.has) refl

-- none uses it who used live blocks before
none_uses : (ops : List OpLabel) (uses : List Use) (block cell : ℕ) → ¬ Contains (map (λ (m : Made). m.block) (blocks_made ops)) block → All (λ (u : Use). HoldsBlock ops u.0 u.1) uses
    → use_with uses block cell ≡ None
none_uses ops [] block cell new held = refl
none_uses ops (u ∷ uses) block cell new held =
    let other : (u.0 == block) ≡ false = ne_eqb u.0 block (not_held ops block u.0 u.1 new (All-head (λ (u : Use). HoldsBlock ops u.0 u.1) u uses held)) in
    rw other (none_uses ops uses block cell new (All-tail (λ (u : Use). HoldsBlock ops u.0 u.1) u uses held))

-- an operation that does so leaves them zero
stays_zero : (arrays : List (List ℤ)) (ops : List OpLabel) (x : OpLabel) (d : ℕ) (was : Cell → ℤ) (block cell : ℕ) → UsesLive arrays x ops → ¬ Contains (map (λ (m : Made). m.block) (blocks_made ops)) block
    → was (Block_cell d block cell) ≡ pos 0 → block_after x d was block cell ≡ pos 0
stays_zero arrays ops (Make s b) d was block cell uses new zero =
    elim ((block == b) && is_in s cell) as (λ c. cond c (pos 0) (was (Block_cell d block cell)) ≡ pos 0) [ true ↦ refl | false ↦ zero ]
stays_zero arrays ops (CopyIn s b) d was block cell uses new zero =
    let other : (block == b) ≡ false = ne_eqb block b (λ e. not_held ops block b s new uses (sym e)) in
    rw other zero
stays_zero arrays ops (CopyOut s b) d was block cell uses new zero = zero
stays_zero arrays ops (Release b) d was block cell uses new zero = zero
stays_zero arrays ops (Run k us) d was block cell uses new zero = rw (none_uses ops us block cell new uses) zero
stays_zero arrays ops (Await q n) d was block cell uses new zero = zero
stays_zero arrays ops Close d was block cell uses new zero = zero

-- ## Behind another operation that uses live blocks

module _ (arrays : List (List ℤ)) (work : List WorkEntry) (at other : QueueAt) (op x : OpLabel) (u : is_unseen op ≡ true) (uses : UsesLive arrays op (device_ops at.device work))
    (later : UsesLive arrays op (device_ops at.device (entry.Op other x ∷ work))) (theirs : UsesLive arrays x (device_ops other.device work)) (cells : HasItsCells x) where
  live_turned : (c : Cell) → IsLive (entry.Op other x ∷ work) c → value arrays (entry.Op other x ∷ entry.Op at op ∷ work) c ≡ value arrays (entry.Op at op ∷ entry.Op other x ∷ work) c
  live_turned c live =
      sym (cells_after arrays work (entry.Op at op ∷ work) other x (unseen_leaves arrays work at op u uses) theirs cells c live)
      ∙ unseen_leaves arrays (entry.Op other x ∷ work) at op u later c live

  new_turned : (d block cell : ℕ) → IsNew at op d block cell
      → value arrays (entry.Op other x ∷ entry.Op at op ∷ work) (Block_cell d block cell) ≡ value arrays (entry.Op at op ∷ entry.Op other x ∷ work) (Block_cell d block cell)
  new_turned d block cell n = first ∙ sym (new_zero at op d block cell (value arrays (entry.Op other x ∷ work)) n)
    where
      none : ¬ Contains (map (λ (m : Made). m.block) (blocks_made (device_ops d work))) block
      none = subst (λ e. ¬ Contains (map (λ (m : Made). m.block) (blocks_made (device_ops e work))) block) n.device (subst (λ (o : OpLabel). UsesLive arrays o (device_ops at.device work)) n.makes uses).0

      here : value arrays (entry.Op at op ∷ work) (Block_cell d block cell) ≡ pos 0
      here = new_zero at op d block cell (value arrays work) n

      first : after_op other.device x (value arrays (entry.Op at op ∷ work)) (Block_cell d block cell) ≡ pos 0
      first = elim (cases_Bool (d == other.device)) [
        | inl same ↦
            let one : d ≡ other.device = eqb-true d other.device same in
            rw same
            (stays_zero arrays (device_ops other.device work) x other.device (value arrays (entry.Op at op ∷ work)) block cell theirs
            (subst (λ e. ¬ Contains (map (λ (m : Made). m.block) (blocks_made (device_ops e work))) block) one none)
            (subst (λ e. value arrays (entry.Op at op ∷ work) (Block_cell e block cell) ≡ pos 0) one here))
        | inr apart ↦ rw apart here
      ]

  both_turned : SameCells arrays (entry.Op other x ∷ entry.Op at op ∷ work) (entry.Op at op ∷ entry.Op other x ∷ work)
  both_turned (Host_cell array cell) live = live_turned (Host_cell array cell) tt
  both_turned (Block_cell d block cell) live = elim (live_before work at other op x d block cell live) [
    | inl before ↦ live_turned (Block_cell d block cell) before
    | inr new ↦ new_turned d block cell new
  ]

  pub op_turned : AlikeLogs arrays (entry.Op other x ∷ entry.Op at op ∷ work) (entry.Op at op ∷ entry.Op other x ∷ work)
  op_turned = ops_turned arrays work at other op x both_turned
