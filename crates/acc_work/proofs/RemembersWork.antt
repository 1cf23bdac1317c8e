-- The memory goes on to show what the log says, and an operation uses live blocks exactly where the memory has them.
use Rattle.std.proofs.Common.{inl, inr, ◌≡◌, ℕ, zero, suc, ◌+◌, ◌<◌, ◌≤◌, Bool, true, false, List, [], ◌∷◌, length, refl, sym, ap, subst, ◌∙◌, arith, Some, None, Option}
use Rattle.std.specs.Prelude.{All, Contains, not, nat_lt, ◌==◌, ◌&&◌, ◌||◌, ℤ, map, slice_get, is_some}
use Rattle.std.specs.List.{list_all}
use Rattle.std.proofs.lemmas.Bool.{cases_Bool, cases_eq, and_parts, and_from, leb-true, eq-eqb, ne_eqb}
use Rattle.std.proofs.lemmas.Bool.Decides.{eqb_tells}
use Rattle.std.proofs.lemmas.List.Elements.{All-nil, All-cons, All-head, All-tail}
use Rattle.acc_base.specs.Configurations.{ends_within, has_range, lengths_of}
use Rattle.acc_base.specs.declared.ids.QueueAt.{QueueAt}
use Rattle.acc_base.specs.declared.range.Range.{Range}
use Rattle.acc_base.proofs.Members.{no_member, member_cases, member_first, member_rest}
use Rattle.acc_base.specs.Ranges.{range_contains}
use Rattle.acc_base.proofs.ContainsAndOverlaps.{contains_is_includes, includes_from_test}
use Rattle.acc_batch.specs.declared.label.OpLabel.{OpLabel}
use Rattle.acc_batch.specs.declared.label.OpLabel.TheVariants.{Make, CopyIn, CopyOut, Release, Run, Await, Close}
use Rattle.acc_batch.specs.Labels.{has_number}
use Rattle.acc_batch.specs.Lives.{blocks_made, blocks_released, UsesLive, HoldsBlock, Made}
use Rattle.acc_kernel.specs.Jobs.{Use}
use Rattle.acc_memory.proofs.HeldBlocks.{same_after}
use Rattle.acc_memory.specs.Values.{Host_cell, Block_cell, or_empty, or_zero}
use Rattle.acc_memory.specs.Memories.{MemoryView, SameBlocks, Shows, is_made_by, made_of, rows_on, held_blocks, was_made_on, blocks_after, HasRange, reaches, ends_in, has_array, find_block, is_within, finds_blocks, MayPerform, PerformsOn}
use Rattle.acc_batch.specs.declared.entry.Told.{Told}
use Rattle.acc_batch.specs.declared.entry.WorkEntry.{WorkEntry}
use Rattle.acc_batch.specs.declared.entry.WorkEntry.TheVariants as entry
use Rattle.acc_work.specs.Lives.{AllLive, was_made}
use Rattle.acc_work.specs.Logs.{device_ops, value}
use Rattle.acc_work.specs.Remembering.{Remembers, blocks_in}
use Rattle.acc_work.specs.Works.{WorkView, HasPerformed, HasTold, can_go, goes_on, is_live, is_new}
use Rattle.acc_work.proofs.HeldInLog.{held_in, blocks_by_more}
use Rattle.acc_work.proofs.MadeBlocks.{made_more}

-- the blocks of each device after one more operation of a device
blocks_after_op : (work : List WorkEntry) (at : QueueAt) (op : OpLabel) (old new : MemoryView) (d : ℕ) → PerformsOn at.device op old new → SameBlocks (held_blocks old d) (blocks_in d work)
    → SameBlocks (held_blocks new d) (blocks_in d (entry.Op at op ∷ work))
blocks_after_op work at op old new d h was n = elim (eqb_tells d at.device) [
  | inl here ↦
      let same : (at.device == d) ≡ true = eq-eqb at.device d (sym here.1) in
      let more : SameBlocks (held_blocks new d) (blocks_after op (held_blocks old d)) = subst (λ m. SameBlocks (held_blocks new m) (blocks_after op (held_blocks old m))) (sym here.1) h.blocks in
      rw same (more n ∙ (same_after op (held_blocks old d) (blocks_in d work) was n ∙ ap (λ bs. find_block bs n) (sym (blocks_by_more [] (device_ops d work) op))))
  | inr away ↦
      let other : (at.device == d) ≡ false = ne_eqb at.device d (λ e. away.1 (sym e)) in
      rw other (ap (λ bs. find_block bs n) (h.others d away.1) ∙ was n)
]

-- and which blocks were made there
made_after_op : (work : List WorkEntry) (at : QueueAt) (op : OpLabel) (old new : MemoryView) (d b : ℕ) → PerformsOn at.device op old new → was_made_on old d b ≡ was_made (device_ops d work) b
    → was_made_on new d b ≡ was_made (device_ops d (entry.Op at op ∷ work)) b
made_after_op work at op old new d b h was = elim (eqb_tells d at.device) [
  | inl here ↦
      let same : (at.device == d) ≡ true = eq-eqb at.device d (sym here.1) in
      let more : was_made_on new d b ≡ (is_made_by b op || was_made_on old d b) = subst (λ m. was_made_on new m b ≡ (is_made_by b op || was_made_on old m b)) (sym here.1) (h.made b) in
      rw same (more ∙ (ap (λ t. is_made_by b op || t) was ∙ sym (made_more (device_ops d work) op b)))
  | inr away ↦
      let other : (at.device == d) ≡ false = ne_eqb at.device d (λ e. away.1 (sym e)) in
      rw other (h.others_made d away.1 b ∙ was)
]

-- The memory shows the values of the log after an operation is performed.
pub remembers_performed : (arrays : List (List ℤ)) (v v' : WorkView) (at : QueueAt) (op : OpLabel) (ops : List OpLabel) → Remembers arrays v.work v.memory → HasPerformed v v' at op ops → Remembers arrays (entry.Op at op ∷ v.work) v'.memory
remembers_performed arrays v v' at op ops r h = record {
  shows = h.memory.shows (value arrays v.work) r.shows;
  blocks = λ d. blocks_after_op v.work at op v.memory v'.memory d h.memory (r.blocks d);
  made = λ d b low. made_after_op v.work at op v.memory v'.memory d b h.memory (r.made d b (omega (arith, low, h.memory.devices)));
  lengths = h.memory.lengths ∙ r.lengths;
}

-- The memory shows the values of the log after an item joins it.
pub remembers_told : (arrays : List (List ℤ)) (v v' : WorkView) (host : ℕ) (what : Told) → Remembers arrays v.work v.memory → HasTold v v' host what → Remembers arrays (entry.Item host what ∷ v.work) v'.memory
remembers_told arrays v v' host what r s = record {
  shows = s.shows (value arrays v.work) r.shows;
  blocks = λ d n. ap (λ devices. find_block (held_blocks (record v'.memory { devices = devices }) d) n) s.devices ∙ r.blocks d n;
  made = λ d b low. ap (λ devices. was_made_on (record v'.memory { devices = devices }) d b) s.devices ∙ r.made d b (omega (arith, low, ap length s.devices));
  lengths = s.lengths ∙ r.lengths;
}

-- A memory with these arrays, in which no block was made, shows the values before the first entry.
pub remembers_first : (arrays : List (List ℤ)) (m : MemoryView) → m.arrays ≡ arrays → ((d : ℕ) → rows_on m d ≡ []) → ((d b : ℕ) → was_made_on m d b ≡ false) → Remembers arrays [] m
remembers_first arrays m same rows none = record {
  shows = shown;
  blocks = λ d n. ap (λ rows. find_block (map made_of rows) n) (rows d);
  made = λ d b low. none d b;
  lengths = ap lengths_of same;
}
  where
    shown : Shows m (value arrays [])
    shown (Host_cell array cell) held = ap (λ xs. or_zero (slice_get (or_empty (slice_get xs array)) cell)) same
    shown (Block_cell device block cell) held = (let no : false ≡ true = rw (rows device) at held in cc)

-- an array is as long as its length says
reaches_is : (arrays : List (List ℤ)) (array end : ℕ) → reaches (slice_get (lengths_of arrays) array) end ≡ ends_within (slice_get arrays array) end
reaches_is [] array end = refl
reaches_is (cells ∷ arrays) zero end = refl
reaches_is (cells ∷ arrays) (suc array) end = reaches_is arrays array end

-- whether a range lies in its array is by the lengths alone
pub range_same : (one other : List (List ℤ)) (r : Range) → lengths_of one ≡ lengths_of other → has_range one r ≡ has_range other r
range_same one other r e =
    ap (λ b. nat_lt 0 r.len && b)
    (sym (reaches_is one r.array (r.lo + r.len)) ∙ (ap (λ lengths. reaches (slice_get lengths r.array) (r.lo + r.len)) e ∙ reaches_is other r.array (r.lo + r.len)))

-- A range that lies in its array ends in it, also where the memory's arrays are only as long.
pub has_same : (m : MemoryView) (arrays : List (List ℤ)) (r : Range) → lengths_of m.arrays ≡ lengths_of arrays → has_range arrays r ≡ true → has_array m r ≡ true
has_same m arrays r e inside =
    ap (λ lengths. ends_in lengths r) e
    ∙ (reaches_is arrays r.array (r.lo + r.len) ∙ (and_parts (nat_lt 0 r.len) (ends_within (slice_get arrays r.array) (r.lo + r.len)) inside).1)

-- a range that lies in an array has no more cells than an array may have
pub no_longer : (arrays : List (List ℤ)) (r : Range) (limit : ℕ) → All (λ (cells : List ℤ). (1 ≤ length cells) × (length cells ≤ limit)) arrays → has_range arrays r ≡ true → r.len ≤ limit
no_longer arrays r limit all inside = from arrays r.array all (and_parts (nat_lt 0 r.len) (ends_within (slice_get arrays r.array) (r.lo + r.len)) inside).1
  where
    from : (xs : List (List ℤ)) (n : ℕ) → All (λ (cells : List ℤ). (1 ≤ length cells) × (length cells ≤ limit)) xs → ends_within (slice_get xs n) (r.lo + r.len) ≡ true → r.len ≤ limit
    from [] n h e = cc
    from (x ∷ xs) zero h e = omega (arith, leb-true (r.lo + r.len) (length x) e, (All-head (λ (cells : List ℤ). (1 ≤ length cells) × (length cells ≤ limit)) x xs h).1)
    from (x ∷ xs) (suc n) h e = from xs n (All-tail (λ (cells : List ℤ). (1 ≤ length cells) × (length cells ≤ limit)) x xs h) e

-- ## What the memory has, against what is live

abbrev ops_on : ℕ → WorkView → List OpLabel
ops_on d v = device_ops d v.work

-- a block that is found, with a range among its own cells
within_parts : (o : Option Made) (r : Range) → is_within o r ≡ true → (m : Made) × (o ≡ Some m) × (range_contains m.range r ≡ true)
within_parts None r h = cc
within_parts (Some m) r h = (m, refl, h)

some_parts : (o : Option Made) → is_some o ≡ true → (m : Made) × (o ≡ Some m)
some_parts None h = cc
some_parts (Some m) h = (m, refl)

none_from : (o : Option Made) → not (is_some o) ≡ true → o ≡ None
none_from None h = refl
none_from (Some m) h = cc

-- a block that is there is live
held_live : (arrays : List (List ℤ)) (v : WorkView) (d b : ℕ) (m : Made) → Remembers arrays v.work v.memory → AllLive arrays v.work → find_block (held_blocks v.memory d) b ≡ Some m
    → (m ≡ record { block = b; range = m.range }) × Contains (blocks_made (ops_on d v)) m × (Contains (blocks_released (ops_on d v)) b → ⊥)
held_live arrays v d b m r live e =
    let o = (held_in arrays d v.work live).only in
    let found : find_block (blocks_in d v.work) b ≡ Some m = sym (r.blocks d b) ∙ e in
    (ap (λ n. record { block = n; range = m.range }) (o.named b m found), o.made b m found, o.kept b m found)

holds_from : (arrays : List (List ℤ)) (v : WorkView) (d b : ℕ) (range : Range) → Remembers arrays v.work v.memory → AllLive arrays v.work → is_within (find_block (held_blocks v.memory d) b) range ≡ true → HoldsBlock (ops_on d v) b range
holds_from arrays v d b range r live h =
    let p = within_parts (find_block (held_blocks v.memory d) b) range h in
    let l = held_live arrays v d b p.0 r live p.1 in
    record { whole_range = p.0.range; is_made = subst (Contains (blocks_made (ops_on d v))) l.0 l.1; not_released = l.2; inside = includes_from_test p.0.range range p.2 }

range_from : (v : WorkView) (d b : ℕ) (range : Range) → ((m : Made) → find_block (held_blocks v.memory d) b ≡ Some m → m.block ≡ b) → is_within (find_block (held_blocks v.memory d) b) range ≡ true → HasRange (held_blocks v.memory d) b range
range_from v d b range named h =
    let p = within_parts (find_block (held_blocks v.memory d) b) range h in
    record { whole_range = p.0.range; held = p.1 ∙ ap (λ n. Some (record { block = n; range = p.0.range })) (named p.0 p.1); inside = includes_from_test p.0.range range p.2 }

-- a number is found exactly where it is a member
has_member : (ns : List ℕ) (n : ℕ) → Contains ns n → has_number ns n ≡ true
has_member [] n c = absurd (no_member n c)
has_member (k ∷ ks) n c = elim (member_cases n k ks c) [
  | inl same ↦ rw (eq-eqb k n same) refl
  | inr rest ↦ (let ih = has_member ks n rest in elim (k == n) as (λ b. (b || has_number ks n) ≡ true) [ true ↦ refl | false ↦ ih ])
]

not_made : (ops : List OpLabel) (b : ℕ) → not (was_made ops b) ≡ true → Contains (map (λ (m : Made). m.block) (blocks_made ops)) b → ⊥
not_made ops b h c =
    let there : was_made ops b ≡ true = has_member (map (λ (m : Made). m.block) (blocks_made ops)) b c in
    let no : false ≡ true = ap not (sym there) ∙ h in
    cc

-- What the test finds is live, and may be performed.
pub record Live (arrays : List (List ℤ)) (v : WorkView) (d : ℕ) (op : OpLabel) : Type 0 where
  pub uses : UsesLive arrays op (ops_on d v)
  pub may : MayPerform v.memory d op

block_named : (arrays : List (List ℤ)) (v : WorkView) (d b : ℕ) (m : Made) → Remembers arrays v.work v.memory → AllLive arrays v.work → find_block (held_blocks v.memory d) b ≡ Some m → m.block ≡ b
block_named arrays v d b m r live e = ap (λ (x : Made). x.block) (held_live arrays v d b m r live e).0

copy_live : (arrays : List (List ℤ)) (v : WorkView) (d b : ℕ) (range : Range) → Remembers arrays v.work v.memory → AllLive arrays v.work → is_within (find_block (held_blocks v.memory d) b) range ≡ true
    → HoldsBlock (ops_on d v) b range × HasRange (held_blocks v.memory d) b range
copy_live arrays v d b range r live h = (holds_from arrays v d b range r live h, range_from v d b range (λ m e. block_named arrays v d b m r live e) h)

uses_live : (arrays : List (List ℤ)) (v : WorkView) (d : ℕ) (uses : List Use) → Remembers arrays v.work v.memory → AllLive arrays v.work
    → list_all (λ (u : Use). is_within (find_block (held_blocks v.memory d) u.0) u.1) uses ≡ true
    → All (λ (u : Use). HoldsBlock (ops_on d v) u.0 u.1) uses × All (λ (u : Use). HasRange (held_blocks v.memory d) u.0 u.1) uses
uses_live arrays v d [] r live h = (All-nil (λ (u : Use). HoldsBlock (ops_on d v) u.0 u.1), All-nil (λ (u : Use). HasRange (held_blocks v.memory d) u.0 u.1))
uses_live arrays v d (u ∷ uses) r live h =
    let both = and_parts (is_within (find_block (held_blocks v.memory d) u.0) u.1) (list_all (λ (x : Use). is_within (find_block (held_blocks v.memory d) x.0) x.1) uses) h in
    let one = copy_live arrays v d u.0 u.1 r live both.0 in
    let rest = uses_live arrays v d uses r live both.1 in
    (All-cons (λ (x : Use). HoldsBlock (ops_on d v) x.0 x.1) u uses one.0 rest.0, All-cons (λ (x : Use). HasRange (held_blocks v.memory d) x.0 x.1) u uses one.1 rest.1)

pub live_from : (arrays : List (List ℤ)) (v : WorkView) (d : ℕ) (op : OpLabel) → Remembers arrays v.work v.memory → AllLive arrays v.work
    → finds_blocks (held_blocks v.memory d) op ≡ true → is_new v d op ≡ true → Live arrays v d op
live_from arrays v d (Make r b) m live found new =
    let both = and_parts (not (was_made (ops_on d v) b)) (has_range v.memory.arrays r) new in
    let inside : has_range arrays r ≡ true = range_same arrays v.memory.arrays r (sym m.lengths) ∙ both.1 in
    record {
      uses = (not_made (ops_on d v) b both.0, inside);
      may = (none_from (find_block (held_blocks v.memory d) b) found, has_same v.memory arrays r m.lengths inside);
    }
live_from arrays v d (CopyIn r b) m live found new = (let both = copy_live arrays v d b r m live found in record { uses = both.0; may = both.1 })
live_from arrays v d (CopyOut r b) m live found new = (let both = copy_live arrays v d b r m live found in record { uses = both.0; may = both.1 })
live_from arrays v d (Release b) m live found new =
    let p = some_parts (find_block (held_blocks v.memory d) b) found in
    let l = held_live arrays v d b p.0 m live p.1 in
    record {
      uses = (p.0.range, record { whole_range = p.0.range; is_made = subst (Contains (blocks_made (ops_on d v))) l.0 l.1; not_released = l.2; inside = λ array cell here. here });
      may = found;
    }
live_from arrays v d (Run k uses) m live found new = (let both = uses_live arrays v d uses m live found in record { uses = both.0; may = both.1 })
live_from arrays v d (Await q n) m live found new = record { uses = tt; may = tt }
live_from arrays v d Close m live found new = record { uses = tt; may = tt }

-- So it is of a queue's next operation.
pub next_live : (arrays : List (List ℤ)) (v : WorkView) (at : QueueAt) (op : OpLabel) (ops : List OpLabel) → Remembers arrays v.work v.memory → AllLive arrays v.work → is_live v at (op ∷ ops) ≡ true → Live arrays v at.device op
next_live arrays v at op ops m live h =
    let both = and_parts (finds_blocks (held_blocks v.memory at.device) op) (is_new v at.device op) h in
    live_from arrays v at.device op m live both.0 both.1

-- ## And what is live is found

has_none : (ns : List ℕ) (n : ℕ) → (Contains ns n → ⊥) → has_number ns n ≡ false
has_none [] n h = refl
has_none (k ∷ ks) n h = elim (cases_eq k n) [
  | inl same ↦ absurd (h (subst (λ x. Contains (k ∷ ks) x) same (member_first k ks)))
  | inr other ↦ rw (ne_eqb k n other) (has_none ks n (λ c. h (member_rest n k ks c)))
]

within_to : (arrays : List (List ℤ)) (v : WorkView) (d b : ℕ) (range : Range) → Remembers arrays v.work v.memory → AllLive arrays v.work → HoldsBlock (ops_on d v) b range → is_within (find_block (held_blocks v.memory d) b) range ≡ true
within_to arrays v d b range m live u =
    let found = (held_in arrays d v.work live).held.there (record { block = b; range = u.whole_range }) u.is_made u.not_released in
    rw (m.blocks d b ∙ found) ((contains_is_includes u.whole_range range).1 u.inside)

uses_to : (arrays : List (List ℤ)) (v : WorkView) (d : ℕ) (uses : List Use) → Remembers arrays v.work v.memory → AllLive arrays v.work → All (λ (u : Use). HoldsBlock (ops_on d v) u.0 u.1) uses
    → list_all (λ (u : Use). is_within (find_block (held_blocks v.memory d) u.0) u.1) uses ≡ true
uses_to arrays v d [] m live h = refl
uses_to arrays v d (u ∷ uses) m live h =
    and_from (is_within (find_block (held_blocks v.memory d) u.0) u.1) (list_all (λ (x : Use). is_within (find_block (held_blocks v.memory d) x.0) x.1) uses)
    (within_to arrays v d u.0 u.1 m live (All-head (λ (x : Use). HoldsBlock (ops_on d v) x.0 x.1) u uses h))
    (uses_to arrays v d uses m live (All-tail (λ (x : Use). HoldsBlock (ops_on d v) x.0 x.1) u uses h))

pub live_to : (arrays : List (List ℤ)) (v : WorkView) (d : ℕ) (op : OpLabel) → Remembers arrays v.work v.memory → AllLive arrays v.work → UsesLive arrays op (ops_on d v)
    → (finds_blocks (held_blocks v.memory d) op ≡ true) × (is_new v d op ≡ true)
live_to arrays v d (Make r b) m live u =
    let absent = (held_in arrays d v.work live).held.absent b u.0 in
    let fresh : was_made (ops_on d v) b ≡ false = has_none (map (λ (k : Made). k.block) (blocks_made (ops_on d v))) b u.0 in
    let inside : has_range v.memory.arrays r ≡ true = range_same v.memory.arrays arrays r m.lengths ∙ u.1 in
    (rw (m.blocks d b ∙ absent) refl, and_from (not (was_made (ops_on d v) b)) (has_range v.memory.arrays r) (ap not fresh) inside)
live_to arrays v d (CopyIn r b) m live u = (within_to arrays v d b r m live u, refl)
live_to arrays v d (CopyOut r b) m live u = (within_to arrays v d b r m live u, refl)
live_to arrays v d (Release b) m live u =
    let found = (held_in arrays d v.work live).held.there (record { block = b; range = u.1.whole_range }) u.1.is_made u.1.not_released in
    (rw (m.blocks d b ∙ found) refl, refl)
live_to arrays v d (Run k uses) m live u = (uses_to arrays v d uses m live u, refl)
live_to arrays v d (Await q n) m live u = (refl, refl)
live_to arrays v d Close m live u = (refl, refl)

-- A block that was never made isn't there, so that it needn't be looked for.
pub new_alone : (arrays : List (List ℤ)) (v : WorkView) (d b : ℕ) (r : Range) → Remembers arrays v.work v.memory → AllLive arrays v.work
    → is_new v d (Make r b) ≡ (finds_blocks (held_blocks v.memory d) (Make r b) && is_new v d (Make r b))
new_alone arrays v d b r m live = elim (cases_Bool (is_new v d (Make r b))) [
  | inl new ↦
      let both = and_parts (not (was_made (ops_on d v) b)) (has_range v.memory.arrays r) new in
      let found = (live_to arrays v d (Make r b) m live (not_made (ops_on d v) b both.0, range_same arrays v.memory.arrays r (sym m.lengths) ∙ both.1)).0 in
      new ∙ sym (and_from (finds_blocks (held_blocks v.memory d) (Make r b)) (is_new v d (Make r b)) found new)
  | inr old ↦ old ∙ sym (ap (λ t. finds_blocks (held_blocks v.memory d) (Make r b) && t) old ∙ and_false (finds_blocks (held_blocks v.memory d) (Make r b)))
]
  where
    and_false : (b : Bool) → (b && false) ≡ false
    and_false true = refl
    and_false false = refl

pub new_if : (arrays : List (List ℤ)) (v : WorkView) (d b : ℕ) (r : Range) → Remembers arrays v.work v.memory → AllLive arrays v.work → d < length v.memory.devices → not (was_made_on v.memory d b) ≡ true
    → has_range v.memory.arrays r ≡ (finds_blocks (held_blocks v.memory d) (Make r b) && is_new v d (Make r b))
new_if arrays v d b r m live low fresh =
    let new : not (was_made (ops_on d v) b) ≡ true = ap not (sym (m.made d b low)) ∙ fresh in
    sym (ap (λ t. t && has_range v.memory.arrays r) new) ∙ new_alone arrays v d b r m live

-- A queue's next operation that uses live blocks can be performed as soon as it goes on.
pub can_go_on : (arrays : List (List ℤ)) (v : WorkView) (at : QueueAt) (op : OpLabel) (ops : List OpLabel) → Remembers arrays v.work v.memory → AllLive arrays v.work → UsesLive arrays op (ops_on at.device v)
    → can_go v at (op ∷ ops) ≡ goes_on v at (op ∷ ops)
can_go_on arrays v at op ops m live u =
    let both = live_to arrays v at.device op m live u in
    let uses : is_live v at (op ∷ ops) ≡ true = and_from (finds_blocks (held_blocks v.memory at.device) op) (is_new v at.device op) both.0 both.1 in
    ap (λ b. goes_on v at (op ∷ ops) && b) uses ∙ and_true (goes_on v at (op ∷ ops))
  where
    and_true : (b : Bool) → (b && true) ≡ b
    and_true true = refl
    and_true false = refl
