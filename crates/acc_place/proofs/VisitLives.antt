-- What a visit does to lifetimes, and what was made and released against them.
use Rattle.std.proofs.Common.{inl, inr, ◌≡◌, ◌⊎◌, ℕ, ◌<◌, ◌≤◌, Bool, true, false, List, [], ◌∷◌, ◌++◌, length, map, sym, ap, ◌∙◌, arith}
use Rattle.std.specs.Prelude.{Contains, not, filter, nat_lt, ℤ, Option, Some, None}
use Rattle.std.proofs.lemmas.Bool.{cases_Bool, lt-ltb, ltb-true, not-true}
use Rattle.std.proofs.lemmas.List.{append_assoc, append-nil}
use Rattle.std.proofs.lemmas.List.Elements.{Contains-append_cases, Contains-append_left, Contains-append_right}
use Rattle.acc_base.specs.declared.range.Range.{Range}
use Rattle.acc_base.specs.Ranges.{range_contains}
use Rattle.acc_base.proofs.Members.{no_member, member_first, member_rest, member_one, member_filter, member_map}
use Rattle.acc_present.specs.declared.change.Change.{Change}
use Rattle.acc_present.specs.Marks.{Mark}
use Rattle.acc_present.specs.Lifetimes.{Lifetime, opened_lifetimes, live_lifetimes, lives}
use Rattle.acc_present.specs.Presences.{presence_of, presences, holder}
use Rattle.acc_present.proofs.LifetimesApart.{apart_same}
use Rattle.acc_present.proofs.Lives.{lives_before, ended_inside}
use Rattle.acc_present.proofs.LifetimeNumbers.{numbered, opened_one}
use Rattle.acc_batch.specs.declared.label.OpLabel.{OpLabel}
use Rattle.acc_kernel.specs.Jobs.{Use}
use Rattle.acc_place.specs.Standings.{AskedItem, Visit, change_at, marked_by, marks_with}
use Rattle.acc_place.specs.Batches.{ended_blocks, found_block, holding_blocks, makes}
use Rattle.acc_batch.specs.Lives.{blocks_made, AllUse, Made}

-- two lists of operations use live blocks where each does in its place
pub AllUse-append : (arrays : List (List ℤ)) (before xs ys : List OpLabel) → AllUse arrays before xs → AllUse arrays (before ++ xs) ys → AllUse arrays before (xs ++ ys)
AllUse-append arrays before [] ys h k = rw (append-nil before) at k
AllUse-append arrays before (x ∷ xs) ys h k =
    (h.0, AllUse-append arrays (before ++ x ∷ []) xs ys h.1 (rw (append_assoc before (x ∷ []) xs) k))

-- What one visit does to the lifetimes.
pub record IsVisit (ms after : List Mark) (r : Range) : Type 0 where
  pub longer : length (opened_lifetimes ms) ≤ length (opened_lifetimes after)
  pub members : (l : Lifetime) → Contains (opened_lifetimes after) l → Contains (opened_lifetimes ms) l ⊎ ((l.range ≡ r) × (l.block ≡ length (opened_lifetimes after)) × (length (opened_lifetimes ms) < length (opened_lifetimes after)))
  pub lived : (l : Lifetime) → Contains (opened_lifetimes ms) l → lives after l ≡ true → lives ms l ≡ true
  pub ended : (l : Lifetime) → Contains (opened_lifetimes ms) l → lives ms l ≡ true → lives after l ≡ false → range_contains l.range r ≡ true

-- a visit that leaves a mark does so
visit_of_mark : (m : Mark) (ms : List Mark) → IsVisit ms (m ∷ ms) m.range
visit_of_mark m ms =
    let n = numbered ms in
    let one = opened_one m ms in
    record {
      longer = one.longer;
      members = λ l c. elim (one.members l c) [
        | inl old ↦ inl old
        | inr new ↦ inr (sym (ap (λ (z : Lifetime). z.range) new.0), omega (arith, ap (λ (z : Lifetime). z.block) new.0, new.1), omega (arith, new.1))
      ];
      lived = λ l c is. lives_before m ms l (n.since l c) is;
      ended = λ l c was is. ended_inside m ms l (n.since l c) was is;
    }

-- and so does one that leaves none
visit_of_none : (ms : List Mark) (r : Range) → IsVisit ms ms r
visit_of_none ms r =
    record {
      longer = omega arith;
      members = λ l c. inl c;
      lived = λ l c is. is;
      ended = λ l c was is. (let f : true ≡ false = sym was ∙ is in cc);
    }

-- so does a visit whether it leaves a mark or none
visit_of_change : (ms : List Mark) (r : Range) (change : Option Change) → IsVisit ms (marks_with ms r change) r
visit_of_change ms r None = visit_of_none ms r
visit_of_change ms r (Some change) = visit_of_mark (record { change = change; range = r }) ms

-- the visit of an item in its turn does so
pub visit_is : (ms : List Mark) (a : AskedItem) → IsVisit ms (marked_by ms a) a.item.range
visit_is ms a = visit_of_change ms a.item.range (change_at ms a)

-- the visit of an item in its turn
abbrev pub visit : List Mark → AskedItem → Visit
visit ms a = record { item = a.item; before = ms; after = marked_by ms a }

-- a lifetime's block and range, as made
abbrev pub made_of : Lifetime → Made
made_of l = record { block = l.block; range = l.range }

-- What was made and released stands to the lifetimes.
pub record Booked (ms : List Mark) (makings : List Made) (gone : List ℕ) : Type 0 where
  pub made_low : (x : Made) → Contains makings x → x.block ≤ length (opened_lifetimes ms)
  pub made_all : (l : Lifetime) → Contains (opened_lifetimes ms) l → Contains makings (made_of l)
  pub gone_low : (b : ℕ) → Contains gone b → b ≤ length (opened_lifetimes ms)
  pub gone_dead : (l : Lifetime) → Contains (opened_lifetimes ms) l → lives ms l ≡ true → Contains gone l.block → ⊥

-- a block that a visit ended is that of a lifetime that lived until then
pub record IsEnded (ms after : List Mark) (b : ℕ) : Type 0 where
  pub lifetime : Lifetime
  pub member : Contains (opened_lifetimes ms) lifetime
  pub lived : lives ms lifetime ≡ true
  pub over : lives after lifetime ≡ false
  pub named : lifetime.block ≡ b

-- a lifetime that is live was opened and lives
pub live_member : (ms : List Mark) (l : Lifetime) → Contains (live_lifetimes ms) l → (lives ms l ≡ true) × Contains (opened_lifetimes ms) l
unfolding live_lifetimes
live_member ms l c = member_filter (lives ms) (opened_lifetimes ms) l c

-- the blocks that a visit ended, each with the item's range
abbrev pub ended_uses : Visit → List Use
ended_uses v = map (λ b. (b, v.item.range)) (ended_blocks v)

-- each block that a visit ended is such a block
pub ended_is : (ms : List Mark) (a : AskedItem) (b : ℕ) → Contains (ended_blocks (visit ms a)) b → IsEnded ms (marked_by ms a) b
ended_is ms a b c =
    let f = member_map (λ (l : Lifetime). l.block) (filter (λ l. not (lives (marked_by ms a) l)) (live_lifetimes ms)) b c in
    let g = member_filter (λ l. not (lives (marked_by ms a) l)) (live_lifetimes ms) f.source f.member in
    let h = live_member ms f.source g.1 in
    record { lifetime = f.source; member = h.1; lived = h.0; over = not-true (lives (marked_by ms a) f.source) g.0; named = f.same }

-- a block that holds a range is that of a lifetime that lives
pub record IsHeld (ms : List Mark) (r : Range) (b : ℕ) : Type 0 where
  pub lifetime : Lifetime
  pub member : Contains (opened_lifetimes ms) lifetime
  pub lived : lives ms lifetime ≡ true
  pub named : lifetime.block ≡ b
  pub around : range_contains lifetime.range r ≡ true

-- one of these lifetimes has that block, and contains that range
record IsFound (ls : List Lifetime) (r : Range) (b : ℕ) : Type 0 where
  lifetime : Lifetime
  member : Contains ls lifetime
  named : lifetime.block ≡ b
  around : range_contains lifetime.range r ≡ true

-- the presence that holds a range is that of such a lifetime
found_in : (ms : List Mark) (ls : List Lifetime) (r : Range) (b : ℕ) → Contains (found_block (holder (map (presence_of ms) ls) r)) b → IsFound ls r b
found_in ms [] r b c = absurd (no_member b c)
found_in ms (l ∷ ls) r b c = elim (cases_Bool (range_contains l.range r)) [
  | inl has ↦ record { lifetime = l; member = member_first l ls; named = member_one b l.block (rw has at c); around = has }
  | inr lacks ↦
      let f = found_in ms ls r b (rw lacks at c) in
      record { lifetime = f.lifetime; member = member_rest f.lifetime l ls f.member; named = f.named; around = f.around }
]

-- the block that holds a range is such a block
pub held_block_is : (ms : List Mark) (r : Range) (b : ℕ) → Contains (holding_blocks ms r) b → IsHeld ms r b
unfolding presences
held_block_is ms r b c =
    let f = found_in ms (live_lifetimes ms) r b c in
    let h = live_member ms f.lifetime f.member in
    record { lifetime = f.lifetime; member = h.1; lived = h.0; named = f.named; around = f.around }

-- the visit opened a lifetime
abbrev pub is_opened : List Mark → AskedItem → Bool
is_opened ms a = nat_lt (length (opened_lifetimes ms)) (length (opened_lifetimes (marked_by ms a)))

-- the block that a visit opened
pub record IsNew (ms after : List Mark) (r : Range) (x : Made) : Type 0 where
  pub block : x.block ≡ length (opened_lifetimes after)
  pub range : x.range ≡ r
  pub longer : length (opened_lifetimes ms) < length (opened_lifetimes after)

-- each block that a visit makes is the block that it opened
pub new_made : (ms : List Mark) (a : AskedItem) (x : Made) → Contains (blocks_made (makes (visit ms a))) x → IsNew ms (marked_by ms a) a.item.range x
new_made ms a x = elim (cases_Bool (is_opened ms a)) [
  | inl is_open ↦ rw is_open
      (λ c.
      let e = member_one x (record { block = length (opened_lifetimes (marked_by ms a)); range = a.item.range }) c in
      record { block = sym (ap (λ (z : Made). z.block) e); range = sym (ap (λ (z : Made). z.range) e); longer = ltb-true (length (opened_lifetimes ms)) (length (opened_lifetimes (marked_by ms a))) is_open })
  | inr is_shut ↦ rw is_shut (λ c. absurd (no_member x c))
]

-- a visit that opened a lifetime makes its block
pub new_is_made : (ms : List Mark) (a : AskedItem) → length (opened_lifetimes ms) < length (opened_lifetimes (marked_by ms a)) →
    Contains (blocks_made (makes (visit ms a))) (record { block = length (opened_lifetimes (marked_by ms a)); range = a.item.range })
new_is_made ms a h =
    let t : is_opened ms a ≡ true = lt-ltb (length (opened_lifetimes ms)) (length (opened_lifetimes (marked_by ms a))) h in
    rw t (member_first (record { block = length (opened_lifetimes (marked_by ms a)); range = a.item.range }) [])

-- What was made and released stands to the lifetimes after a visit too.
pub booked_more : (ms : List Mark) (a : AskedItem) (makings : List Made) (gone : List ℕ) → Booked ms makings gone →
    Booked (marked_by ms a) (makings ++ blocks_made (makes (visit ms a))) (gone ++ ended_blocks (visit ms a))
booked_more ms a makings gone h =
    let v = visit_is ms a in
    let n = numbered ms in
    record {
      made_low = λ x c. elim (Contains-append_cases makings (blocks_made (makes (visit ms a))) x c) [
        | inl old ↦ omega (arith, h.made_low x old, v.longer)
        | inr new ↦ omega (arith, (new_made ms a x new).block)
      ];
      made_all = λ l c. elim (v.members l c) [
        | inl old ↦ Contains-append_left makings (blocks_made (makes (visit ms a))) (made_of l) (h.made_all l old)
        | inr new ↦ Contains-append_right makings (blocks_made (makes (visit ms a))) (made_of l) (rw (new.0, new.1) (new_is_made ms a new.2))
      ];
      gone_low = λ b c. elim (Contains-append_cases gone (ended_blocks (visit ms a)) b c) [
        | inl old ↦ omega (arith, h.gone_low b old, v.longer)
        | inr new ↦ (let e = ended_is ms a b new in omega (arith, n.low e.lifetime e.member, e.named, v.longer))
      ];
      gone_dead = λ l c is was. elim (v.members l c) [
        | inl old ↦ elim (Contains-append_cases gone (ended_blocks (visit ms a)) l.block was) [
          | inl before ↦ h.gone_dead l old (v.lived l old is) before
          | inr now ↦
              let e = ended_is ms a l.block now in
              let same : e.lifetime ≡ l = apart_same (opened_lifetimes ms) n.apart e.lifetime l e.member old e.named in
              let over : lives (marked_by ms a) l ≡ false = rw same at e.over in
              let f : true ≡ false = sym is ∙ over in cc
        ]
        | inr new ↦ elim (Contains-append_cases gone (ended_blocks (visit ms a)) l.block was) [
          | inl before ↦ absurd (omega (arith, h.gone_low l.block before, new.1, new.2))
          | inr now ↦ (let e = ended_is ms a l.block now in absurd (omega (arith, n.low e.lifetime e.member, e.named, new.1, new.2)))
        ]
      ];
    }
