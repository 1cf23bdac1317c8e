-- What is noted, before a directive, of the ranges that it uses and ends is what its labels say of their blocks.
use Rattle.std.proofs.Common.{inl, inr, ◌≡◌, ℕ, ◌<◌, Bool, true, false, cond, List, [], ◌∷◌, ◌++◌, map, refl, sym, ap, ◌∙◌, arith, Option, Some, None}
use Rattle.std.specs.Prelude.{All, Contains, ℤ, IsTrue, nat_lt}
use Rattle.std.specs.List.{flat_map}
use Rattle.std.proofs.lemmas.Bool.{and_parts, ltb-true}
use Rattle.std.proofs.lemmas.Grind.{flat_map-append}
use Rattle.std.proofs.lemmas.List.Elements.{All-nil, All-cons, All-head, All-tail, All-append, All-map, All-contains}
use Rattle.acc_base.specs.declared.ids.TheConstants.{QUEUES}
use Rattle.acc_base.specs.declared.range.Range.{Range}
use Rattle.acc_base.specs.Configurations.{Configuration, has_range}
use Rattle.acc_base.proofs.Members.{no_member, member_first, member_rest, member_cases}
use Rattle.acc_batch.specs.declared.label.OpLabel.{OpLabel}
use Rattle.acc_batch.specs.declared.label.OpLabel.TheVariants.{Make, CopyIn, CopyOut, Release, Run, Await, Close}
use Rattle.acc_batch.specs.Labels.{used_blocks, released_blocks}
use Rattle.acc_kernel.specs.Jobs.{Use}
use Rattle.acc_kernel.specs.Kernels.{Loop}
use Rattle.acc_present.specs.Legality.{AllLegal}
use Rattle.acc_present.specs.Marks.{Mark}
use Rattle.acc_present.specs.Notes.{Note}
use Rattle.acc_present.specs.Presences.{presences}
use Rattle.acc_place.specs.declared.directive.Clause.{Clause}
use Rattle.acc_place.specs.declared.directive.Clause.TheVariants.{Copy, Copyin, Copyout, Create, Present, NoCreate, Delete, UpdateSelf, UpdateDevice}
use Rattle.acc_place.specs.declared.directive.DataItem.{DataItem}
use Rattle.acc_place.specs.declared.directive.PlaceEntry.{PlaceEntry}
use Rattle.acc_place.specs.Directives.{Directive}
use Rattle.acc_place.specs.Accepting.{refusal}
use Rattle.acc_place.specs.Batches.{opened_blocks, ended_blocks, holding_blocks, makes, copy_ins, updates, updates_by, runs, runs_by, copy_outs, releases, copies_in, copies_out, grouped, operations_of}
use Rattle.acc_place.specs.Histories.{AllAccepted, standing}
use Rattle.acc_place.specs.inner.Noting.{notes_on, noted_ranges, made_ranges, used_ranges, note_found}
use Rattle.acc_place.specs.BlockNotes.{note_of}
use Rattle.acc_place.specs.Standings.{Standing, AskedItem, Walk, Visit, visits, all_visits, marks_between, walk_of, marked_by}
use Rattle.acc_place.proofs.HeldAndMade.{held_first, look_finds}
use Rattle.acc_place.proofs.AllVisits.{asks_of, all_visits_are}
use Rattle.acc_place.proofs.EntryWalks.{opened_absent}
use Rattle.acc_place.proofs.GroupLives.{AllInArrays, all_from_members}
use Rattle.acc_place.proofs.InArrays.{accepted_fits}
use Rattle.acc_place.proofs.NoteOf.{note_fresh}
use Rattle.acc_place.proofs.LabelsSound.{Sound, all_sound, touched_low, walk_low}
use Rattle.acc_place.proofs.VisitLives.{IsHeld, ended_uses, visit, held_block_is}
use Rattle.acc_place.proofs.HeldInWalk.{NotesSo, IsSoAt, run_so, grouped_so, Turns, enters, leaves, middle, IsHeldAt, held_middle, visits_within, walk_turns}

-- The walk of a directive that is accepted behind others.
pub record IsWalked (config : Configuration) (st : Standing) (walk : Walk) : Type 0 where
  pub sound : Sound config st
  pub inside : AllInArrays config.arrays (asks_of walk)
  pub turns : Turns walk
  pub queue : walk.queue < QUEUES
  pub legal : AllLegal (st.marks walk.device)
  pub between : AllLegal (marks_between (st.marks walk.device) walk)

pub walked : (config : Configuration) (history : List PlaceEntry) (counts : List ℕ) (host : ℕ) (d : Directive) → AllAccepted config history counts
    → refusal config (standing config history counts) host d ≡ None
    → AllLegal ((standing config history counts).marks (walk_of (standing config history counts) host d).device)
    → AllLegal (marks_between ((standing config history counts).marks (walk_of (standing config history counts) host d).device) (walk_of (standing config history counts) host d))
    → IsWalked config (standing config history counts) (walk_of (standing config history counts) host d)
walked config history counts host d h none lawful lawful_between =
    let st = standing config history counts in
    record {
      sound = all_sound config history counts h;
      inside = (accepted_fits config st host d none).inside;
      turns = walk_turns st host d;
      queue = walk_low st host d;
      legal = lawful;
      between = lawful_between;
    }

-- ## What a walk uses

abbrev pub HasCells : Use → Type 0
HasCells u = 0 < u.1.len

in_array_cells : (arrays : List (List ℤ)) (r : Range) → IsTrue (has_range arrays r) → 0 < r.len
in_array_cells arrays r h = ltb-true 0 r.len (and_parts (nat_lt 0 r.len) _ h).0

visits_cells : (arrays : List (List ℤ)) (asks : List AskedItem) (ms : List Mark) → AllInArrays arrays asks → All (IsSoAt HasCells) (visits ms asks)
visits_cells arrays [] ms h = All-nil (IsSoAt HasCells)
visits_cells arrays (a ∷ asks) ms h =
    let cells = in_array_cells arrays a.item.range h.0 in
    All-cons (IsSoAt HasCells) (visit ms a) (visits (marked_by ms a) asks)
    (record { opened_so = λ b c. cells; ended_so = λ b c. cells; held_so = λ b c. cells })
    (visits_cells arrays asks (marked_by ms a) h.1)

item_cells : (arrays : List (List ℤ)) (asks more : List AskedItem) → AllInArrays arrays (asks ++ more) → (i : DataItem) → Contains (map (λ (a : AskedItem). a.item) asks) i → 0 < i.range.len
item_cells arrays [] more h i c = absurd (no_member i c)
item_cells arrays (a ∷ asks) more h i c = elim (member_cases i a.item (map (λ (x : AskedItem). x.item) asks) c) [
  | inl same ↦ (let cells = in_array_cells arrays a.item.range h.0 in omega (arith, cells, ap (λ (z : DataItem). z.range.len) same))
  | inr rest ↦ item_cells arrays asks more h.1 i rest
]

-- A range with a cell that its block holds behind these marks.
abbrev pub IsUse : List Mark → Use → Type 0
IsUse ms u = HasCells u × IsHeldAt ms u

pub visits_use : (config : Configuration) (st : Standing) (walk : Walk) (w : IsWalked config st walk) → All (IsSoAt (IsUse (middle walk w.turns (st.marks walk.device)))) (all_visits (st.marks walk.device) walk)
visits_use config st walk w =
    let ms = st.marks walk.device in
    let at = middle walk w.turns ms in
    let vs = all_visits ms walk in
    let cells : All (IsSoAt HasCells) vs = rw (all_visits_are ms walk) at (visits_cells config.arrays (asks_of walk) ms w.inside) in
    let held = visits_within walk w.turns ms in
    all_from_members (IsSoAt (IsUse at)) vs
    (λ v c.
    let x = All-contains (IsSoAt HasCells) vs v cells c in
    let y = All-contains (IsSoAt (IsHeldAt at)) vs v held c in
    record {
      opened_so = λ b k. (x.opened_so b k, y.opened_so b k);
      ended_so = λ b k. (x.ended_so b k, y.ended_so b k);
      held_so = λ b k. (x.held_so b k, y.held_so b k);
    })

-- All that a walk's operations make or use is so within the walk.
pub operations_use : (config : Configuration) (st : Standing) (walk : Walk) (w : IsWalked config st walk) → All (NotesSo (IsUse (middle walk w.turns (st.marks walk.device)))) (operations_of st walk)
operations_use config st walk w =
    let ms = st.marks walk.device in
    let between = marks_between ms walk in
    grouped_so (IsUse (middle walk w.turns ms)) (runs walk ms) (all_visits ms walk) (visits_use config st walk w)
    (run_so (IsUse (middle walk w.turns ms)) walk.runs (map (λ (a : AskedItem). a.item) walk.items) between
    (λ i c b k. (item_cells config.arrays walk.items walk.ends w.inside i c, held_middle walk w.turns ms i.range b (held_block_is between i.range b k))))

all_right : (P : Use → Type 0) (xs ys : List Use) → All P (xs ++ ys) → All P ys
all_right P [] ys h = h
all_right P (x ∷ xs) ys h = all_right P xs ys (All-tail P x (xs ++ ys) h)

pub all_noted : (P : Use → Type 0) (ops : List OpLabel) → All (NotesSo P) ops → All P (flat_map noted_ranges ops)
all_noted P [] h = All-nil P
all_noted P (op ∷ ops) h = All-append P (noted_ranges op) (flat_map noted_ranges ops) (All-head (NotesSo P) op ops h) (all_noted P ops (All-tail (NotesSo P) op ops h))

pub all_used : (P : Use → Type 0) (ops : List OpLabel) → All (NotesSo P) ops → All P (flat_map used_ranges ops)
all_used P [] h = All-nil P
all_used P (op ∷ ops) h =
    All-append P (used_ranges op) (flat_map used_ranges ops) (all_right P (made_ranges op) (used_ranges op) (All-head (NotesSo P) op ops h)) (all_used P ops (All-tail (NotesSo P) op ops h))

pub all_ended : (P : Use → Type 0) (vs : List Visit) → All (IsSoAt P) vs → All P (flat_map ended_uses vs)
all_ended P [] h = All-nil P
all_ended P (v ∷ vs) h =
    let k = All-head (IsSoAt P) v vs h in
    All-append P (ended_uses v) (flat_map ended_uses vs)
    (All-map P (λ b. (b, v.item.range)) (ended_blocks v) (all_from_members (λ b. P (b, v.item.range)) (ended_blocks v) k.ended_so))
    (all_ended P vs (All-tail (IsSoAt P) v vs h))

-- ## What is found

-- The note that is found of such a range is that of its block.
pub found_is : (config : Configuration) (st : Standing) (walk : Walk) (w : IsWalked config st walk) (u : Use) → IsUse (middle walk w.turns (st.marks walk.device)) u
    → note_found (notes_on walk.device st.labels) (presences (st.marks walk.device)) u.1 ≡ note_of walk.device st.labels u.0
found_is config st walk w u h = by_turns w.turns h.1
  where
    ms : List Mark
    ms = st.marks walk.device

    held : IsHeld ms u.1 u.0 → note_found (notes_on walk.device st.labels) (presences ms) u.1 ≡ note_of walk.device st.labels u.0
    held old = (let k = look_finds ms u.1 u.0 w.legal h.0 old in rw k.1 (ap (note_of walk.device st.labels) k.2))

    by_turns : (t : Turns walk) → IsHeld (middle walk t ms) u.1 u.0 → note_found (notes_on walk.device st.labels) (presences ms) u.1 ≡ note_of walk.device st.labels u.0
    by_turns (enters i e) within = elim (held_first walk.items ms u.1 u.0 within) [
      | inl old ↦ held old
      | inr late ↦
          let none = opened_absent walk.items ms u.1 u.0 i w.between h.0 within late in
          rw none (sym (note_fresh walk.device st.labels u.0 (λ m c here. touched_low config st w.sound walk.device m c here u.0 late)))
    ]
    by_turns (leaves i e) within = held within

-- ## The numbers that are awaited

map_append : (f : Use → ℕ) (xs ys : List Use) → map f (xs ++ ys) ≡ map f xs ++ map f ys
map_append f [] ys = refl
map_append f (x ∷ xs) ys = ap (λ r. f x ∷ r) (map_append f xs ys)

pub used_are : (ops : List OpLabel) → map (λ (u : Use). u.0) (flat_map used_ranges ops) ≡ flat_map used_blocks ops
used_are [] = refl
used_are (Make r b ∷ ops) = used_are ops
used_are (CopyIn r b ∷ ops) = ap (λ bs. b ∷ bs) (used_are ops)
used_are (CopyOut r b ∷ ops) = ap (λ bs. b ∷ bs) (used_are ops)
used_are (Release b ∷ ops) = used_are ops
used_are (Run k uses ∷ ops) = map_append (λ u. u.0) uses (flat_map used_ranges ops) ∙ ap (λ bs. map (λ (u : Use). u.0) uses ++ bs) (used_are ops)
used_are (Await q n ∷ ops) = used_are ops
used_are (Close ∷ ops) = used_are ops

blocks_again : (r : Range) (bs : List ℕ) → map (λ (u : Use). u.0) (map (λ b. (b, r)) bs) ≡ bs
blocks_again r [] = refl
blocks_again r (b ∷ bs) = ap (λ k. b ∷ k) (blocks_again r bs)

pub ended_are : (vs : List Visit) → map (λ (u : Use). u.0) (flat_map ended_uses vs) ≡ flat_map ended_blocks vs
ended_are [] = refl
ended_are (v ∷ vs) =
    map_append (λ u. u.0) (ended_uses v) (flat_map ended_uses vs)
    ∙ (ap (λ r. r ++ map (λ (u : Use). u.0) (flat_map ended_uses vs)) (blocks_again v.item.range (ended_blocks v)) ∙ ap (λ r. ended_blocks v ++ r) (ended_are vs))

-- operations that release nothing
none_each : (f : ℕ → OpLabel) (bs : List ℕ) → ((b : ℕ) → released_blocks (f b) ≡ []) → flat_map released_blocks (map f bs) ≡ []
none_each f [] h = refl
none_each f (b ∷ bs) h = rw (h b) (none_each f bs h)

none_if : (t : Bool) (f : ℕ → OpLabel) (bs : List ℕ) → ((b : ℕ) → released_blocks (f b) ≡ []) → flat_map released_blocks (cond t (map f bs) []) ≡ []
none_if true f bs h = none_each f bs h
none_if false f bs h = refl

none_updates : (c : Clause) (r : Range) (bs : List ℕ) → flat_map released_blocks (updates_by c r bs) ≡ []
none_updates UpdateSelf r bs = none_each (λ b. CopyOut r b) bs (λ b. refl)
none_updates UpdateDevice r bs = none_each (λ b. CopyIn r b) bs (λ b. refl)
none_updates Copy r bs = refl
none_updates Copyin r bs = refl
none_updates Copyout r bs = refl
none_updates Create r bs = refl
none_updates Present r bs = refl
none_updates NoCreate r bs = refl
none_updates Delete r bs = refl

none_runs : (k : Option Loop) (items : List DataItem) (ms : List Mark) → flat_map released_blocks (runs_by k items ms) ≡ []
none_runs None items ms = refl
none_runs (Some k) items ms = refl

none_group : (f : Visit → List OpLabel) (vs : List Visit) → ((v : Visit) → flat_map released_blocks (f v) ≡ []) → flat_map released_blocks (flat_map f vs) ≡ []
none_group f [] h = refl
none_group f (v ∷ vs) h = flat_map-append released_blocks (f v) (flat_map f vs) ∙ (ap (λ r. r ++ flat_map released_blocks (flat_map f vs)) (h v) ∙ none_group f vs h)

skip : (xs ys : List OpLabel) → flat_map released_blocks xs ≡ [] → flat_map released_blocks (xs ++ ys) ≡ flat_map released_blocks ys
skip xs ys none = flat_map-append released_blocks xs ys ∙ ap (λ r. r ++ flat_map released_blocks ys) none

release_each : (bs : List ℕ) → flat_map released_blocks (map Release bs) ≡ bs
release_each [] = refl
release_each (b ∷ bs) = ap (λ r. b ∷ r) (release_each bs)

release_all : (vs : List Visit) → flat_map released_blocks (flat_map releases vs) ≡ flat_map ended_blocks vs
release_all [] = refl
release_all (v ∷ vs) =
    flat_map-append released_blocks (releases v) (flat_map releases vs)
    ∙ (ap (λ r. r ++ flat_map released_blocks (flat_map releases vs)) (release_each (ended_blocks v)) ∙ ap (λ r. ended_blocks v ++ r) (release_all vs))

-- The blocks that a walk releases are those that its visits ended, in their order.
pub released_are : (k : Option Loop) (items : List DataItem) (ms : List Mark) (vs : List Visit) → flat_map released_blocks (grouped (runs_by k items ms) vs) ≡ flat_map ended_blocks vs
released_are k items ms vs =
    skip (flat_map makes vs) _ (none_group makes vs (λ v. none_each (λ b. Make v.item.range b) (opened_blocks v) (λ b. refl)))
    ∙ (skip (flat_map copy_ins vs) _ (none_group copy_ins vs (λ v. none_if (copies_in v.item.clause) (λ b. CopyIn v.item.range b) (opened_blocks v) (λ b. refl)))
    ∙ (skip (runs_by k items ms) _ (none_runs k items ms)
    ∙ (skip (flat_map updates vs) _ (none_group updates vs (λ v. none_updates v.item.clause v.item.range (holding_blocks v.before v.item.range)))
    ∙ (skip (flat_map copy_outs vs) (flat_map releases vs) (none_group copy_outs vs (λ v. none_if (copies_out v.item.clause) (λ b. CopyOut v.item.range b) (ended_blocks v) (λ b. refl)))
    ∙ release_all vs))))

-- numbers read off what is found are those read off the notes of the blocks
pub by_blocks : (f : Note → ℕ) (found : Range → Note) (note : ℕ → Note) (us : List Use) → ((u : Use) → Contains us u → found u.1 ≡ note u.0)
    → map (λ (u : Use). f (found u.1)) us ≡ map f (map note (map (λ (u : Use). u.0) us))
by_blocks f found note [] h = refl
by_blocks f found note (u ∷ us) h = rw (h u (member_first u us), by_blocks f found note us (λ k c. h k (member_rest k u us c))) refl
