-- What a directive will use, found in what is there before it.
use Rattle.std.proofs.Common.{inl, inr, ◌≡◌, ◌⊎◌, ℕ, ◌<◌, ◌≤◌, true, false, List, [], ◌∷◌, ◌++◌, length, map, sym, ap, subst, ◌∙◌, arith, Some}
use Rattle.std.specs.Prelude.{Contains, ℤ, ◌==◌}
use Rattle.std.specs.List.{flat_map}
use Rattle.std.proofs.lemmas.Bool.{cases_Bool, and_parts, eqb-true, eq-eqb}
use Rattle.std.proofs.lemmas.List.{append_assoc, append-nil}
use Rattle.std.proofs.lemmas.List.Elements.{All-contains, Contains-append_left, Contains-append_right, Contains-append_cases}
use Rattle.acc_base.specs.declared.range.Range.{Range}
use Rattle.acc_base.specs.Ranges.{range_contains}
use Rattle.acc_base.proofs.Members.{no_member, member_first, member_one, member_cases, member_map, member_image}
use Rattle.acc_kernel.specs.Jobs.{Use}
use Rattle.acc_present.specs.Marks.{Mark}
use Rattle.acc_present.specs.Legality.{AllLegal}
use Rattle.acc_present.specs.Lifetimes.{opened_lifetimes, live_lifetimes, lives}
use Rattle.acc_present.specs.Presences.{Presence, presence_of, presences, holder}
use Rattle.acc_present.specs.Tables.{is_table, ends_before, ends_before_all}
use Rattle.acc_present.proofs.LegalMarks.{legal}
use Rattle.acc_present.proofs.TableOrder.{table_parts}
use Rattle.acc_present.proofs.KeptAfter.{apart_first}
use Rattle.acc_batch.specs.declared.label.Label.{Label}
use Rattle.acc_batch.specs.declared.label.OpLabel.{OpLabel}
use Rattle.acc_batch.specs.declared.label.OpLabel.TheVariants.{Make, CopyIn, CopyOut, Release, Run, Await, Close}
use Rattle.acc_batch.specs.Labels.{ops_of, made_blocks, used_blocks, has_number, makes_block}
use Rattle.acc_batch.specs.Lives.{Made, blocks_made, HoldsBlock, UsesLive, AllUse, on_device}
use Rattle.acc_batch.proofs.OrderedBatches.{filter_member}
use Rattle.acc_place.specs.inner.Noting.{HasOneMaker}
use Rattle.acc_place.specs.Standings.{AskedItem, marks_after, marked_by}
use Rattle.acc_batch.proofs.Lives.{made-append}
use Rattle.acc_place.proofs.VisitLives.{IsHeld, visit_is}

-- a block that holds a range after a visit held it before, or was opened by the visit
pub held_before : (ms : List Mark) (a : AskedItem) (r : Range) (b : ℕ) → IsHeld (marked_by ms a) r b → IsHeld ms r b ⊎ (length (opened_lifetimes ms) < b)
held_before ms a r b h =
    let v = visit_is ms a in
    elim (v.members h.lifetime h.member) [
      | inl old ↦ inl (record { lifetime = h.lifetime; member = old; lived = v.lived h.lifetime old h.lived; named = h.named; around = h.around })
      | inr new ↦ inr (omega (arith, new.1, new.2, h.named))
    ]

-- so it is over all visits of a directive
pub held_first : (asks : List AskedItem) (ms : List Mark) (r : Range) (b : ℕ) → IsHeld (marks_after ms asks) r b → IsHeld ms r b ⊎ (length (opened_lifetimes ms) < b)
held_first [] ms r b h = inl h
held_first (a ∷ asks) ms r b h = elim (held_first asks (marked_by ms a) r b h) [
  | inl held ↦ held_before ms a r b held
  | inr late ↦ (let v = visit_is ms a in inr (omega (arith, late, v.longer)))
]

ends_member : (a : Range) (ps : List Presence) (p : Presence) → ends_before_all a ps ≡ true → Contains ps p → ends_before a p.range ≡ true
ends_member a [] p h c = absurd (no_member p c)
ends_member a (x ∷ ps) p h c =
    let parts = and_parts (ends_before a x.range) (ends_before_all a ps) h in
    elim (member_cases p x ps c) [ inl same ↦ ap (λ (z : Presence). ends_before a z.range) (sym same) ∙ parts.0 | inr rest ↦ ends_member a ps p parts.1 rest ]

-- in a table the presence that contains a range is found
pub found_one : (ps : List Presence) (p : Presence) (r : Range) → is_table ps ≡ true → 0 < r.len → Contains ps p → range_contains p.range r ≡ true → holder ps r ≡ Some p
found_one [] p r t cells c has = absurd (no_member p c)
found_one (x ∷ ps) p r t cells c has =
    let parts = table_parts x ps t in
    elim (member_cases p x ps c) [
      | inl same ↦ (let here : range_contains x.range r ≡ true = ap (λ (z : Presence). range_contains z.range r) same ∙ has in rw here (ap Some same))
      | inr rest ↦ elim (cases_Bool (range_contains x.range r)) [
        | inl first ↦ (let miss : range_contains p.range r ≡ false = apart_first x.range p.range r (ends_member x.range ps p parts.first rest) cells first in let w : true ≡ false = sym has ∙ miss in cc)
        | inr other ↦ rw other (found_one ps p r parts.others cells rest has)
      ]
    ]

-- A look at a range finds the block that holds it.
pub look_finds : (ms : List Mark) (r : Range) (b : ℕ) → AllLegal ms → 0 < r.len → IsHeld ms r b → (p : Presence) × (holder (presences ms) r ≡ Some p) × (p.block ≡ b)
unfolding presences live_lifetimes
look_finds ms r b lawful cells h =
    let l = h.lifetime in
    let there : Contains (live_lifetimes ms) l = filter_member (lives ms) (opened_lifetimes ms) l h.lived h.member in
    let shown : Contains (presences ms) (presence_of ms l) = member_image (presence_of ms) (live_lifetimes ms) l there in
    (presence_of ms l, found_one (presences ms) (presence_of ms l) r (legal ms lawful).table cells shown h.around, h.named)

-- ## Blocks of labels

-- operations that use live blocks use none above those that are made
pub uses_low : (arrays : List (List ℤ)) (before ops : List OpLabel) (n : ℕ) → AllUse arrays before ops → ((x : Made) → Contains (blocks_made (before ++ ops)) x → x.block ≤ n) → (b : ℕ) → Contains (flat_map used_blocks ops) b → b ≤ n
uses_low arrays before [] n h low b c = absurd (no_member b c)
uses_low arrays before (op ∷ ops) n h low b c =
    elim (Contains-append_cases (used_blocks op) (flat_map used_blocks ops) b c) [
      | inl here ↦ first op h.0 here
      | inr rest ↦ uses_low arrays (before ++ op ∷ []) ops n h.1 (λ x k. low x (rw (append_assoc before (op ∷ []) ops) at k)) b rest
    ]
  where
    lower : (x : Made) → Contains (blocks_made before) x → x.block ≤ n
    lower x k = low x (rw (made-append before (op ∷ ops)) (Contains-append_left (blocks_made before) (blocks_made (op ∷ ops)) x k))

    first : (o : OpLabel) → UsesLive arrays o before → Contains (used_blocks o) b → b ≤ n
    first (CopyIn r k) u used = (let e = member_one b k used in let z = lower _ u.is_made in omega (arith, e, z))
    first (CopyOut r k) u used = (let e = member_one b k used in let z = lower _ u.is_made in omega (arith, e, z))
    first (Run k uses) u used =
        let f = member_map (λ (y : Use). y.0) uses b used in
        let k = All-contains (λ (y : Use). HoldsBlock before y.0 y.1) uses f.source u f.member in
        let z = lower _ k.is_made in
        omega (arith, f.same, z)
    first (Make r k) u used = absurd (no_member b used)
    first (Release k) u used = absurd (no_member b used)
    first (Await q m) u used = absurd (no_member b used)
    first Close u used = absurd (no_member b used)

-- a batch that makes a block has an operation that does
pub record MakesIt (ops : List OpLabel) (b : ℕ) : Type 0 where
  pub range : Range
  pub before : List OpLabel
  pub more : List OpLabel
  pub split : ops ≡ before ++ Make range b ∷ more

more_makes : (o : OpLabel) (ops : List OpLabel) (b : ℕ) → MakesIt ops b → MakesIt (o ∷ ops) b
more_makes o ops b m = record { range = m.range; before = o ∷ m.before; more = m.more; split = ap (λ r. o ∷ r) m.split }

pub makes_it : (ops : List OpLabel) (b : ℕ) → has_number (flat_map made_blocks ops) b ≡ true → MakesIt ops b
makes_it [] b h = cc
makes_it (Make r k ∷ ops) b h = elim (cases_Bool (k == b)) [
  | inl same ↦ record { range = r; before = []; more = ops; split = ap (λ n. Make r n ∷ ops) (eqb-true k b same) }
  | inr other ↦ more_makes (Make r k) ops b (makes_it ops b (rw other at h))
]
makes_it (CopyIn r k ∷ ops) b h = more_makes (CopyIn r k) ops b (makes_it ops b h)
makes_it (CopyOut r k ∷ ops) b h = more_makes (CopyOut r k) ops b (makes_it ops b h)
makes_it (Release k ∷ ops) b h = more_makes (Release k) ops b (makes_it ops b h)
makes_it (Run k uses ∷ ops) b h = more_makes (Run k uses) ops b (makes_it ops b h)
makes_it (Await q n ∷ ops) b h = more_makes (Await q n) ops b (makes_it ops b h)
makes_it (Close ∷ ops) b h = more_makes Close ops b (makes_it ops b h)

-- its block is among what is made
pub makes_made : (ops : List OpLabel) (b : ℕ) (k : MakesIt ops b) → Contains (blocks_made ops) (record { block = b; range = k.range })
makes_made ops b k =
    rw (ap blocks_made k.split ∙ made-append k.before (Make k.range b ∷ k.more))
    (Contains-append_right (blocks_made k.before) (record { block = b; range = k.range } ∷ blocks_made k.more) (record { block = b; range = k.range }) (member_first (record { block = b; range = k.range }) (blocks_made k.more)))

-- what is made is made by no operation behind
pub made_once : (arrays : List (List ℤ)) (before ops : List OpLabel) (b : ℕ) → AllUse arrays before ops → Contains (map (λ (m : Made). m.block) (blocks_made before)) b → MakesIt ops b → ⊥
made_once arrays before ops b h c m = (use_at arrays before m.before (Make m.range b) m.more (rw m.split at h)).0 there
  where
    use_at : (arrays : List (List ℤ)) (first xs : List OpLabel) (op : OpLabel) (ys : List OpLabel) → AllUse arrays first (xs ++ op ∷ ys) → UsesLive arrays op (first ++ xs)
    use_at arrays first [] op ys h = rw (append-nil first) h.0
    use_at arrays first (x ∷ xs) op ys h = rw (← append_assoc first (x ∷ []) xs) (use_at arrays (first ++ x ∷ []) xs op ys h.1)

    there : Contains (map (λ (m : Made). m.block) (blocks_made (before ++ m.before))) b
    there =
        let f = member_map (λ (m : Made). m.block) (blocks_made before) b c in
        let k : Contains (blocks_made (before ++ m.before)) f.source = rw (made-append before m.before) (Contains-append_left (blocks_made before) (blocks_made m.before) f.source f.member) in
        subst (λ n. Contains (map (λ (m : Made). m.block) (blocks_made (before ++ m.before))) n) f.same (member_image (λ (m : Made). m.block) (blocks_made (before ++ m.before)) f.source k)

-- a part of the operations behind is made of what stands before
makes_more : (xs ys : List OpLabel) (b : ℕ) → MakesIt ys b → MakesIt (xs ++ ys) b
makes_more [] ys b m = m
makes_more (x ∷ xs) ys b m = more_makes x (xs ++ ys) b (makes_more xs ys b m)

makes_less : (xs ys : List OpLabel) (b : ℕ) → MakesIt xs b → MakesIt (xs ++ ys) b
makes_less xs ys b m = record { range = m.range; before = m.before; more = m.more ++ ys; split = ap (λ r. r ++ ys) m.split ∙ append_assoc m.before (Make m.range b ∷ m.more) ys }

-- a label of a device that makes a block, among them all
pub label_makes : (device : ℕ) (labels : List Label) (b : ℕ) (m : Label) → Contains labels m → m.at.device ≡ device → makes_block b m ≡ true → MakesIt (ops_of (on_device device labels)) b
label_makes device [] b m c here makes = absurd (no_member m c)
label_makes device (l ∷ ls) b m c here makes = elim (member_cases m l ls c) [
  | inl same ↦
      let there : (l.at.device == device) ≡ true = eq-eqb l.at.device device (ap (λ (z : Label). z.at.device) same ∙ here) in
      rw there (makes_less l.ops (ops_of (on_device device ls)) b (makes_it l.ops b (ap (λ (z : Label). makes_block b z) same ∙ makes)))
  | inr rest ↦
      let k = label_makes device ls b m rest here makes in
      elim (cases_Bool (l.at.device == device)) [ inl there ↦ rw there (makes_more l.ops (ops_of (on_device device ls)) b k) | inr away ↦ rw away k ]
]

-- Where labels use live blocks in the order of placing, each block has one maker.
pub one_maker : (arrays : List (List ℤ)) (before : List OpLabel) (device : ℕ) (labels : List Label) (b : ℕ) → AllUse arrays before (ops_of (on_device device labels)) → HasOneMaker device labels b
one_maker arrays before device [] b h m c here makes = absurd (no_member m c)
one_maker arrays before device (l ∷ ls) b h m c here makes = elim (cases_Bool (l.at.device == device)) [
  | inl there ↦ elim (cases_Bool (makes_block b l)) [
    | inl made_it ↦ elim (member_cases m l ls c) [
      | inl same ↦ rw (there, made_it) (ap Some same)
      | inr rest ↦
          let all : AllUse arrays before (l.ops ++ ops_of (on_device device ls)) = rw there at h in
          let k = makes_it l.ops b made_it in
          absurd (made_once arrays (before ++ l.ops) (ops_of (on_device device ls)) b (behind l.ops (ops_of (on_device device ls)) before all) (has_it k) (label_makes device ls b m rest here makes))
    ]
    | inr none ↦ elim (member_cases m l ls c) [
      | inl same ↦ (let w : true ≡ false = sym makes ∙ (ap (λ (z : Label). makes_block b z) (sym same) ∙ none) in cc)
      | inr rest ↦
          let all : AllUse arrays before (l.ops ++ ops_of (on_device device ls)) = rw there at h in
          rw (there, none) (one_maker arrays (before ++ l.ops) device ls b (behind l.ops (ops_of (on_device device ls)) before all) m rest here makes)
    ]
  ]
  | inr away ↦ elim (member_cases m l ls c) [
    | inl same ↦ (let w : true ≡ false = sym (eq-eqb l.at.device device (ap (λ (z : Label). z.at.device) same ∙ here)) ∙ away in cc)
    | inr rest ↦ rw away (one_maker arrays before device ls b (rw away at h) m rest here makes)
  ]
]
  where
    behind : (xs ys first : List OpLabel) → AllUse arrays first (xs ++ ys) → AllUse arrays (first ++ xs) ys
    behind [] ys first h = rw (append-nil first) h
    behind (x ∷ xs) ys first h = rw (← append_assoc first (x ∷ []) xs) (behind xs ys (first ++ x ∷ []) h.1)

    has_it : MakesIt l.ops b → Contains (map (λ (k : Made). k.block) (blocks_made (before ++ l.ops))) b
    has_it k =
        member_image (λ (z : Made). z.block) (blocks_made (before ++ l.ops)) (record { block = b; range = k.range })
        (rw (made-append before l.ops) (Contains-append_right (blocks_made before) (blocks_made l.ops) (record { block = b; range = k.range }) (makes_made l.ops b k)))
