-- A block has cells of one array, so that operations of other arrays share none with it.
use Rattle.std.proofs.Common.{inl, inr, ◌≡◌, ℕ, Bool, true, false, not, ◌&&◌, ◌||◌, ◌==◌, List, [], ◌∷◌, ◌++◌, refl, sym, ap, ◌∙◌, subst, ℤ, true≢false}
use Rattle.std.specs.Prelude.{Contains}
use Rattle.std.specs.List.{list_all, list_any}
use Rattle.std.proofs.lemmas.Bool.{and_from, and_parts, and_right, cases_Bool, eq-eqb, eqb-true, false_from_ne_true, or_from, or_left, or_right}
use Rattle.std.proofs.lemmas.List.{append_assoc, append-nil}
use Rattle.std.proofs.lemmas.List.Elements.{All-contains, Contains-append_cases, Contains-append_left, Contains-append_right, Contains-push_cases}
use Rattle.acc_base.proofs.ContainsAndOverlaps.{overlaps_is_meets}
use Rattle.acc_base.proofs.Members.{member_cases, member_first, member_image, member_map, member_one, member_rest, no_member}
use Rattle.acc_base.specs.declared.ids.QueueAt.{QueueAt}
use Rattle.acc_base.specs.declared.range.Range.{Range}
use Rattle.acc_base.specs.Queues.{same_queue}
use Rattle.acc_base.specs.Ranges.{Includes, range_overlaps}
use Rattle.acc_batch.specs.declared.label.Label.{Label}
use Rattle.acc_batch.specs.declared.label.OpLabel.{OpLabel}
use Rattle.acc_batch.specs.declared.label.OpLabel.TheVariants.{Make, CopyIn, CopyOut, Release, Run, Await, Close}
use Rattle.acc_batch.specs.Labels.{on_queue, ops_of}
use Rattle.acc_batch.specs.Lives.{AllUse, HoldsBlock, Made, UsesLive, blocks_made, on_device}
use Rattle.acc_kernel.specs.Faults.{is_assigned}
use Rattle.acc_kernel.specs.Jobs.{Use}
use Rattle.acc_work.proofs.MadeAndReleased.{made_op, op_made}
use Rattle.acc_explore.specs.declared.conflicts.Access.{Access}
use Rattle.acc_explore.specs.ApartOperations.{any_conflict, block_accesses, conflict, host_accesses, in_block, ops_conflict, reads_only, touches_array, writes_too}
use Rattle.acc_explore.proofs.BatchesNamed.{has_arrays}

-- ## What an operation uses

-- the blocks whose cells it touches, with the ranges of them
abbrev pub uses_of : OpLabel → List Use
uses_of (Make r b) = (b, r) ∷ []
uses_of (CopyIn r b) = (b, r) ∷ []
uses_of (CopyOut r b) = (b, r) ∷ []
uses_of (Release b) = []
uses_of (Run k uses) = uses
uses_of (Await q n) = []
uses_of Close = []

any_at : {X : Type 0} (p : X → Bool) (xs : List X) (x : X) → Contains xs x → p x ≡ true → list_any p xs ≡ true
any_at p [] x h e = absurd (no_member x h)
any_at p (y ∷ ys) x h e = elim (member_cases x y ys h) [
  | inl same ↦ or_left (p y) (list_any p ys) (ap p same ∙ e)
  | inr rest ↦ or_right (p y) (list_any p ys) (any_at p ys x rest e)
]

pub all_at : {X : Type 0} (p : X → Bool) (xs : List X) (x : X) → list_all p xs ≡ true → Contains xs x → p x ≡ true
all_at p [] x all h = absurd (no_member x h)
all_at p (y ∷ ys) x all h =
    let parts = and_parts (p y) (list_all p ys) all in
    elim (member_cases x y ys h) [ inl same ↦ ap p (sym same) ∙ parts.0 | inr rest ↦ all_at p ys x parts.1 rest ]

pub all_by : {X : Type 0} (p : X → Bool) (xs : List X) → ((x : X) → Contains xs x → p x ≡ true) → list_all p xs ≡ true
all_by p [] each = refl
all_by p (x ∷ xs) each = and_from (p x) (list_all p xs) (each x (member_first x xs)) (all_by p xs (λ y h. each y (member_rest y x xs h)))

of_one : (b : ℕ) (r : Range) (u : Use) (f : ℕ → Bool) → Contains ((b, r) ∷ []) u → f r.array ≡ true → f u.1.array ≡ true
of_one b r u f h e = subst (λ (v : Use). f v.1.array ≡ true) (member_one u (b, r) h) e

touched : (op : OpLabel) (u : Use) → Contains (uses_of op) u → touches_array op u.1.array ≡ true
touched (Make r b) u h = of_one b r u (λ a. r.array == a) h (eq-eqb r.array r.array refl)
touched (CopyIn r b) u h = of_one b r u (λ a. r.array == a) h (eq-eqb r.array r.array refl)
touched (CopyOut r b) u h = of_one b r u (λ a. r.array == a) h (eq-eqb r.array r.array refl)
touched (Release b) u h = absurd (no_member u h)
touched (Run k uses) u h = any_at (λ (v : Use). v.1.array == u.1.array) uses u h (eq-eqb u.1.array u.1.array refl)
touched (Await q n) u h = absurd (no_member u h)
touched Close u h = absurd (no_member u h)

of_such : (f : ℕ → Bool) (op : OpLabel) (u : Use) → has_arrays f op ≡ true → Contains (uses_of op) u → f u.1.array ≡ true
of_such f (Make r b) u e h = of_one b r u f h e
of_such f (CopyIn r b) u e h = of_one b r u f h e
of_such f (CopyOut r b) u e h = of_one b r u f h e
of_such f (Release b) u e h = absurd (no_member u h)
of_such f (Run k uses) u e h = all_at (λ (v : Use). f v.1.array) uses u e h
of_such f (Await q n) u e h = absurd (no_member u h)
of_such f Close u e h = absurd (no_member u h)

-- an access of the blocks, and of the host arrays, is of such a use
record OfUse (op : OpLabel) (cells : Use → Range) (x : Access) : Type 0 where
  of : Use
  member : Contains (uses_of op) of
  same : x.cells ≡ cells of

one_of : (op : OpLabel) (b : ℕ) (r : Range) (cells : Use → Range) (y x : Access) → Contains (uses_of op) (b, r) → Contains (y ∷ []) x → y.cells ≡ cells (b, r) → OfUse op cells x
one_of op b r cells y x member h e = record { of = (b, r); member = member; same = ap (λ (z : Access). z.cells) (sym (member_one x y h)) ∙ e }

abbrev cells_in : Use → Range
cells_in u = in_block u.0 u.1

abbrev cells_of : Use → Range
cells_of u = u.1

block_use : (op : OpLabel) (x : Access) → Contains (block_accesses op) x → OfUse op cells_in x
block_use (Make r b) x h = one_of (Make r b) b r cells_in (writes_too (in_block b r)) x (member_first (b, r) []) h refl
block_use (CopyIn r b) x h = one_of (CopyIn r b) b r cells_in (writes_too (in_block b r)) x (member_first (b, r) []) h refl
block_use (CopyOut r b) x h = one_of (CopyOut r b) b r cells_in (reads_only (in_block b r)) x (member_first (b, r) []) h refl
block_use (Release b) x h = absurd (no_member x h)
block_use (Run k uses) x h =
    let m = member_map (λ (u : Use). let a : Access = record { cells = in_block u.0 u.1; writes = is_assigned k.statements u.1.array } in a) uses x h in
    record { of = m.source; member = m.member; same = ap (λ (z : Access). z.cells) (sym m.same) }
block_use (Await q n) x h = absurd (no_member x h)
block_use Close x h = absurd (no_member x h)

host_use : (op : OpLabel) (x : Access) → Contains (host_accesses op) x → OfUse op cells_of x
host_use (Make r b) x h = absurd (no_member x h)
host_use (CopyIn r b) x h = one_of (CopyIn r b) b r cells_of (reads_only r) x (member_first (b, r) []) h refl
host_use (CopyOut r b) x h = one_of (CopyOut r b) b r cells_of (writes_too r) x (member_first (b, r) []) h refl
host_use (Release b) x h = absurd (no_member x h)
host_use (Run k uses) x h = absurd (no_member x h)
host_use (Await q n) x h = absurd (no_member x h)
host_use Close x h = absurd (no_member x h)

-- accesses that share no cell don't conflict
none_of : (x : Access) (ys : List Access) → ((y : Access) → Contains ys y → range_overlaps x.cells y.cells ≡ false) → list_any (conflict x) ys ≡ false
none_of x [] each = refl
none_of x (y ∷ ys) each =
    or_from (conflict x y) (list_any (conflict x) ys) (and_right (x.writes || y.writes) (range_overlaps x.cells y.cells) (each y (member_first y ys)))
    (none_of x ys (λ z h. each z (member_rest z y ys h)))

none_share : (xs ys : List Access) → ((x y : Access) → Contains xs x → Contains ys y → range_overlaps x.cells y.cells ≡ false) → any_conflict xs ys ≡ false
none_share [] ys each = refl
none_share (x ∷ xs) ys each =
    or_from (list_any (conflict x) ys) (any_conflict xs ys) (none_of x ys (λ y h. each x y (member_first x xs) h))
    (none_share xs ys (λ z y m h. each z y (member_rest z x xs m) h))

-- ## Blocks

-- A block is made around the range of a use.
record MadeAround (ops : List OpLabel) (u : Use) : Type 0 where
  whole : Range
  made : Contains ops (Make whole u.0)
  inside : Includes whole u.1

held_around : (before : List OpLabel) (op : OpLabel) (u : Use) → HoldsBlock before u.0 u.1 → MadeAround (before ++ op ∷ []) u
held_around before op u h = record {
  whole = h.whole_range;
  made = Contains-append_left before (op ∷ []) (Make h.whole_range u.0) (made_op before u.0 h.whole_range h.is_made);
  inside = h.inside;
}

module _ (arrays : List (List ℤ)) where
  around : (before : List OpLabel) (op : OpLabel) (u : Use) → UsesLive arrays op before → Contains (uses_of op) u → MadeAround (before ++ op ∷ []) u
  around before (Make r b) u live h =
      subst (MadeAround (before ++ Make r b ∷ [])) (member_one u (b, r) h)
      (record { whole = r; made = Contains-append_right before (Make r b ∷ []) (Make r b) (member_first (Make r b) []); inside = λ array cell e. e })
  around before (CopyIn r b) u live h = subst (MadeAround (before ++ CopyIn r b ∷ [])) (member_one u (b, r) h) (held_around before (CopyIn r b) (b, r) live)
  around before (CopyOut r b) u live h = subst (MadeAround (before ++ CopyOut r b ∷ [])) (member_one u (b, r) h) (held_around before (CopyOut r b) (b, r) live)
  around before (Release b) u live h = absurd (no_member u h)
  around before (Run k uses) u live h = held_around before (Run k uses) u (All-contains (λ (v : Use). HoldsBlock before v.0 v.1) uses u live h)
  around before (Await q n) u live h = absurd (no_member u h)
  around before Close u live h = absurd (no_member u h)

  all_around : (before ops : List OpLabel) (op : OpLabel) (u : Use) → AllUse arrays before ops → Contains ops op → Contains (uses_of op) u → MadeAround (before ++ ops) u
  all_around before [] op u all here h = absurd (no_member op here)
  all_around before (x ∷ ops) op u all here h = elim (member_cases op x ops here) [
    | inl same ↦ (
        let m = around before x u all.0 (subst (λ (y : OpLabel). Contains (uses_of y) u) (sym same) h) in
        record {
          whole = m.whole;
          made = subst (λ (xs : List OpLabel). Contains xs (Make m.whole u.0)) (append_assoc before (x ∷ []) ops) (Contains-append_left (before ++ x ∷ []) ops (Make m.whole u.0) m.made);
          inside = m.inside;
        }
        )
    | inr rest ↦ subst (λ (xs : List OpLabel). MadeAround xs u) (append_assoc before (x ∷ []) ops) (all_around (before ++ x ∷ []) ops op u all.1 rest h)
  ]

  -- and made once
  abbrev MakesOnce : List OpLabel → Type 0
  MakesOnce ops = (b : ℕ) (r s : Range) → Contains ops (Make r b) → Contains ops (Make s b) → r ≡ s

  never_twice : (before : List OpLabel) (op : OpLabel) (b : ℕ) (r s : Range) → UsesLive arrays op before → Contains before (Make r b) → op ≡ Make s b → ⊥
  never_twice before op b r s live made is =
      let l : UsesLive arrays (Make s b) before = subst (λ (x : OpLabel). UsesLive arrays x before) is live in
      l.0 (member_image (λ (m : Made). m.block) (blocks_made before) (record { block = b; range = r }) (op_made before b r made))

  once_more : (before : List OpLabel) (op : OpLabel) → MakesOnce before → UsesLive arrays op before → MakesOnce (before ++ op ∷ [])
  once_more before op once live b r s one two = elim (Contains-push_cases before op (Make r b) one) [
    | inl old ↦ elim (Contains-push_cases before op (Make s b) two) [
      | inl other ↦ once b r s old other
      | inr now ↦ absurd (never_twice before op b r s live old now)
    ]
    | inr now ↦ elim (Contains-push_cases before op (Make s b) two) [
      | inl other ↦ absurd (never_twice before op b s r live other now)
      | inr also ↦ (let same : Make r b ≡ Make s b = sym now ∙ also in cc)
    ]
  ]

  all_once : (before ops : List OpLabel) → AllUse arrays before ops → MakesOnce before → MakesOnce (before ++ ops)
  all_once before [] all once = subst MakesOnce (sym (append-nil before)) once
  all_once before (op ∷ ops) all once = subst MakesOnce (append_assoc before (op ∷ []) ops) (all_once (before ++ op ∷ []) ops all.1 (once_more before op once all.0))

  -- two uses of one cell are of one array
  one_array : (ops : List OpLabel) → AllUse arrays [] ops → (op x : OpLabel) → Contains ops op → Contains ops x → (u v : Use) → Contains (uses_of op) u → Contains (uses_of x) v
      → range_overlaps (in_block u.0 u.1) (in_block v.0 v.1) ≡ true → u.1.array ≡ v.1.array
  one_array ops all op x here there u v of_op of_x overlap =
      let m = (overlaps_is_meets (in_block u.0 u.1) (in_block v.0 v.1)).0 overlap in
      let one = all_around [] ops op u all here of_op in
      let two = all_around [] ops x v all there of_x in
      let block : u.0 ≡ v.0 = sym m.2.0 ∙ m.3.0 in
      let same : one.whole ≡ two.whole =
      all_once [] ops all (λ b r s made other. absurd (no_member (Make r b) made)) v.0 one.whole two.whole (subst (λ b. Contains ops (Make one.whole b)) block one.made) two.made in
      let first : u.1.array ≡ one.whole.array = (one.inside u.1.array m.1 (refl, m.2.1, m.2.2)).0 in
      let second : v.1.array ≡ two.whole.array = (two.inside v.1.array m.1 (refl, m.3.1, m.3.2)).0 in
      first ∙ (ap (λ (r : Range). r.array) same ∙ sym second)

-- ## Operations of other arrays

abbrev pub Untouched : OpLabel → OpLabel → Type 0
Untouched op x = has_arrays (λ array. not (touches_array op array)) x ≡ true

differ : (op x : OpLabel) (u v : Use) → Contains (uses_of op) u → Contains (uses_of x) v → Untouched op x → u.1.array ≡ v.1.array → ⊥
differ op x u v of_op of_x un same =
    let yes : touches_array op v.1.array ≡ true = ap (touches_array op) (sym same) ∙ touched op u of_op in
    let no : not (touches_array op v.1.array) ≡ true = of_such (λ array. not (touches_array op array)) x v un of_x in
    true≢false (sym no ∙ ap not yes)

hosts_apart : (op x : OpLabel) → Untouched op x → any_conflict (host_accesses op) (host_accesses x) ≡ false
hosts_apart op x un = none_share (host_accesses op) (host_accesses x) (λ a b here there. (
    let one = host_use op a here in
    let two = host_use x b there in
    false_from_ne_true (range_overlaps a.cells b.cells) (λ overlap. (
    let m = (overlaps_is_meets a.cells b.cells).0 overlap in
    let same : a.cells.array ≡ b.cells.array = sym m.2.0 ∙ m.3.0 in
    differ op x one.of two.of one.member two.member un (ap (λ (r : Range). r.array) (sym one.same) ∙ (same ∙ ap (λ (r : Range). r.array) two.same))
    ))
    ))

blocks_apart : (arrays : List (List ℤ)) (ops : List OpLabel) → AllUse arrays [] ops → (op x : OpLabel) → Contains ops op → Contains ops x → Untouched op x → any_conflict (block_accesses op) (block_accesses x) ≡ false
blocks_apart arrays ops all op x here there un = none_share (block_accesses op) (block_accesses x) (λ a b in_op in_x. (
    let one = block_use op a in_op in
    let two = block_use x b in_x in
    false_from_ne_true (range_overlaps a.cells b.cells) (λ overlap.
    differ op x one.of two.of one.member two.member un
    (one_array arrays ops all op x here there one.of two.of one.member two.member
    (subst (λ (r : Range). range_overlaps (in_block one.of.0 one.of.1) r ≡ true) two.same (subst (λ (r : Range). range_overlaps r b.cells ≡ true) one.same overlap))))
    ))

-- what a queue has is of its device
pub on_its_device : (q : QueueAt) (labels : List Label) (x : OpLabel) → Contains (ops_of (on_queue q labels)) x → Contains (ops_of (on_device q.device labels)) x
on_its_device q [] x h = h
on_its_device q (l ∷ labels) x h = elim (cases_Bool (same_queue l.at q)) [
  | inl same ↦ (
      let device : (l.at.device == q.device) ≡ true = (and_parts (l.at.device == q.device) (l.at.queue == q.queue) same).0 in
      let here : ops_of (on_queue q (l ∷ labels)) ≡ l.ops ++ ops_of (on_queue q labels) = rw same refl in
      let there : ops_of (on_device q.device (l ∷ labels)) ≡ l.ops ++ ops_of (on_device q.device labels) = rw device refl in
      subst (λ (ops : List OpLabel). Contains ops x) (sym there)
      (elim (Contains-append_cases l.ops (ops_of (on_queue q labels)) x (subst (λ (ops : List OpLabel). Contains ops x) here h)) [
        | inl now ↦ Contains-append_left l.ops (ops_of (on_device q.device labels)) x now
        | inr rest ↦ Contains-append_right l.ops (ops_of (on_device q.device labels)) x (on_its_device q labels x rest)
      ])
      )
  | inr other ↦ (
      let here : ops_of (on_queue q (l ∷ labels)) ≡ ops_of (on_queue q labels) = rw other refl in
      let rest = on_its_device q labels x (subst (λ (ops : List OpLabel). Contains ops x) here h) in
      elim (cases_Bool (l.at.device == q.device)) [
        | inl device ↦ (
            let there : ops_of (on_device q.device (l ∷ labels)) ≡ l.ops ++ ops_of (on_device q.device labels) = rw device refl in
            subst (λ (ops : List OpLabel). Contains ops x) (sym there) (Contains-append_right l.ops (ops_of (on_device q.device labels)) x rest)
            )
        | inr apart ↦ (
            let there : ops_of (on_device q.device (l ∷ labels)) ≡ ops_of (on_device q.device labels) = rw apart refl in
            subst (λ (ops : List OpLabel). Contains ops x) (sym there) rest
            )
      ]
      )
]

pub ops_apart : (arrays : List (List ℤ)) (labels : List Label) → ((device : ℕ) → AllUse arrays [] (ops_of (on_device device labels))) → (at q : QueueAt) (op x : OpLabel)
    → Contains (ops_of (on_queue at labels)) op → Contains (ops_of (on_queue q labels)) x → Untouched op x → ops_conflict at.device op q.device x ≡ false
ops_apart arrays labels sound at q op x here there un =
    or_from (any_conflict (host_accesses op) (host_accesses x)) ((at.device == q.device) && any_conflict (block_accesses op) (block_accesses x)) (hosts_apart op x un)
    (elim (cases_Bool (at.device == q.device)) [
      | inl same ↦ and_right (at.device == q.device) (any_conflict (block_accesses op) (block_accesses x))
          (blocks_apart arrays (ops_of (on_device at.device labels)) (sound at.device) op x (on_its_device at labels op here)
          (subst (λ d. Contains (ops_of (on_device d labels)) x) (sym (eqb-true at.device q.device same)) (on_its_device q labels x there)) un)
      | inr other ↦ ap (λ (b : Bool). b && any_conflict (block_accesses op) (block_accesses x)) other
    ])
