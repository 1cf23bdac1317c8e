-- The operations of a walk use live blocks.
use Rattle.std.proofs.Common.{◌≡◌, ℕ, List, [], ◌∷◌, ◌++◌, map, refl, sym, ap, ◌∙◌}
use Rattle.std.specs.Prelude.{All, Contains, ℤ}
use Rattle.std.specs.List.{flat_map}
use Rattle.std.proofs.lemmas.Grind.{flat_map-append}
use Rattle.std.proofs.lemmas.List.{append_assoc, append-nil}
use Rattle.std.proofs.lemmas.List.Elements.{Contains-append_left}
use Rattle.acc_base.specs.declared.range.Range.{Range}
use Rattle.acc_present.specs.Marks.{Mark}
use Rattle.acc_present.specs.Lifetimes.{Lifetime, opened_lifetimes}
use Rattle.acc_batch.specs.declared.label.OpLabel.{OpLabel}
use Rattle.acc_batch.specs.declared.label.OpLabel.TheVariants.{Make}
use Rattle.acc_place.specs.Standings.{AskedItem, Walk, Visit, visits, all_visits, marks_after, marks_between, marks_behind, marked_by}
use Rattle.acc_place.specs.Batches.{opened_blocks, ended_blocks, makes, copy_ins, runs, updates, copy_outs, releases, grouped}
use Rattle.acc_batch.specs.Lives.{blocks_made, blocks_released, AllUse, Made}
use Rattle.acc_base.proofs.Members.{no_member}
use Rattle.acc_batch.proofs.Lives.{made-append, released-append}
use Rattle.acc_place.proofs.VisitLives.{AllUse-append, visit, Booked, booked_more}
use Rattle.acc_place.proofs.AllVisits.{asks_of, all_visits_are, marks_behind_are}
use Rattle.acc_place.proofs.GroupLives.{Copies, copies_use, no_copy_makes, copies_of, copy_ins_of, run_of, updates_of, copy_outs_of, makings_of, holding_held, visits_hold, AllInArrays, makes_use, made_releases, released_releases, releases_use}

-- operations that make nothing leave what was made
pub made_quiet : (before ops : List OpLabel) → blocks_made ops ≡ [] → blocks_made (before ++ ops) ≡ blocks_made before
made_quiet before ops none = made-append before ops ∙ (ap (λ r. blocks_made before ++ r) none ∙ append-nil (blocks_made before))

-- operations that release nothing leave what was released
pub released_quiet : (before ops : List OpLabel) → blocks_released ops ≡ [] → blocks_released (before ++ ops) ≡ blocks_released before
released_quiet before ops none = released-append before ops ∙ (ap (λ r. blocks_released before ++ r) none ∙ append-nil (blocks_released before))

-- makings of blocks release none
make_releases_none : (bs : List ℕ) (r : Range) → blocks_released (map (λ b. Make r b) bs) ≡ []
make_releases_none [] r = refl
make_releases_none (b ∷ bs) r = make_releases_none bs r

-- the makings of all visits release no block
makes_release_none : (vs : List Visit) → blocks_released (flat_map makes vs) ≡ []
makes_release_none [] = refl
makes_release_none (v ∷ vs) =
    released-append (makes v) (flat_map makes vs)
    ∙ (ap (λ r. r ++ blocks_released (flat_map makes vs)) (make_releases_none (opened_blocks v) v.item.range) ∙ makes_release_none vs)

-- the releases of all visits make no block
releases_make_none : (vs : List Visit) → blocks_made (flat_map releases vs) ≡ []
releases_make_none [] = refl
releases_make_none (v ∷ vs) =
    made-append (releases v) (flat_map releases vs)
    ∙ (ap (λ r. r ++ blocks_made (flat_map releases vs)) (made_releases (ended_blocks v)) ∙ releases_make_none vs)

-- the releases of all visits release the blocks that they ended
released_by : (vs : List Visit) → blocks_released (flat_map releases vs) ≡ flat_map ended_blocks vs
released_by [] = refl
released_by (v ∷ vs) =
    released-append (releases v) (flat_map releases vs)
    ∙ (ap (λ r. r ++ blocks_released (flat_map releases vs)) (released_releases (ended_blocks v)) ∙ ap (λ r. ended_blocks v ++ r) (released_by vs))

-- what was made and released stands to the lifetimes after all visits of a directive
booked_all : (asks : List AskedItem) (ms : List Mark) (makings : List Made) (gone : List ℕ) → Booked ms makings gone →
    Booked (marks_after ms asks) (makings ++ makings_of (visits ms asks)) (gone ++ flat_map ended_blocks (visits ms asks))
booked_all [] ms makings gone h = rw (append-nil makings, append-nil gone) h
booked_all (a ∷ asks) ms makings gone h =
    let here = blocks_made (makes (visit ms a)) in
    let later = makings_of (visits (marked_by ms a) asks) in
    let split : makings_of (visits ms (a ∷ asks)) ≡ here ++ later = made-append (makes (visit ms a)) (flat_map makes (visits (marked_by ms a) asks)) in
    rw (split, ← append_assoc makings here later, ← append_assoc gone (ended_blocks (visit ms a)) (flat_map ended_blocks (visits (marked_by ms a) asks)))
    (booked_all asks (marked_by ms a) (makings ++ here) (gone ++ ended_blocks (visit ms a)) (booked_more ms a makings gone h))

-- A batch behind operations that stand to the marks so far.
pub record Batched (arrays : List (List ℤ)) (ms : List Mark) (asks : List AskedItem) (run before : List OpLabel) : Type 0 where
  pub use_live : AllUse arrays before (grouped run (visits ms asks))
  pub booked : Booked (marks_after ms asks) (blocks_made (before ++ grouped run (visits ms asks))) (blocks_released (before ++ grouped run (visits ms asks)))

-- a batch of ranges in their arrays uses live blocks, and stands to the lifetimes after it
pub batch_uses : (arrays : List (List ℤ)) (ms : List Mark) (asks : List AskedItem) (run before : List OpLabel) → Booked ms (blocks_made before) (blocks_released before) → AllInArrays arrays asks
    → All (Copies (blocks_made before ++ makings_of (visits ms asks)) (blocks_released before)) run → Batched arrays ms asks run before
batch_uses arrays ms asks run before h inside runs_live =
    let vs = visits ms asks in
    let making = flat_map makes vs in
    let ins = flat_map copy_ins vs in
    let ups = flat_map updates vs in
    let outs = flat_map copy_outs vs in
    let releasing = flat_map releases vs in
    let all = blocks_made before ++ makings_of vs in
    let first = blocks_released before in
    let holds = visits_hold asks ms (blocks_made before) first all first h (λ x c. c) (λ b c. c) in
    let into = copies_of copy_ins all first vs (copy_ins_of all first) holds in
    let up = copies_of updates all first vs (updates_of all first) holds in
    let out = copies_of copy_outs all first vs (copy_outs_of all first) holds in
    let none_in = no_copy_makes ins all first into in
    let none_run = no_copy_makes run all first runs_live in
    let none_up = no_copy_makes ups all first up in
    let none_out = no_copy_makes outs all first out in
    let made_1 : blocks_made (before ++ making) ≡ all = made-append before making in
    let gone_1 : blocks_released (before ++ making) ≡ first = released_quiet before making (makes_release_none vs) in
    let in_done = (before ++ making) ++ ins in
    let made_2 : blocks_made in_done ≡ all = made_quiet (before ++ making) ins none_in.0 ∙ made_1 in
    let gone_2 : blocks_released in_done ≡ first = released_quiet (before ++ making) ins none_in.1 ∙ gone_1 in
    let run_done = in_done ++ run in
    let made_3 : blocks_made run_done ≡ all = made_quiet in_done run none_run.0 ∙ made_2 in
    let gone_3 : blocks_released run_done ≡ first = released_quiet in_done run none_run.1 ∙ gone_2 in
    let up_done = run_done ++ ups in
    let made_4 : blocks_made up_done ≡ all = made_quiet run_done ups none_up.0 ∙ made_3 in
    let gone_4 : blocks_released up_done ≡ first = released_quiet run_done ups none_up.1 ∙ gone_3 in
    let out_done = up_done ++ outs in
    let made_5 : blocks_made out_done ≡ all = made_quiet up_done outs none_out.0 ∙ made_4 in
    let gone_5 : blocks_released out_done ≡ first = released_quiet up_done outs none_out.1 ∙ gone_4 in
    let made_6 : blocks_made (out_done ++ releasing) ≡ all = made_quiet out_done releasing (releases_make_none vs) ∙ made_5 in
    let gone_6 : blocks_released (out_done ++ releasing) ≡ first ++ flat_map ended_blocks vs =
    released-append out_done releasing ∙ (ap (λ r. r ++ blocks_released releasing) gone_5 ∙ ap (λ r. first ++ r) (released_by vs)) in
    let whole : before ++ grouped run vs ≡ out_done ++ releasing =
    sym (append_assoc before making (ins ++ (run ++ (ups ++ (outs ++ releasing)))))
    ∙ (sym (append_assoc (before ++ making) ins (run ++ (ups ++ (outs ++ releasing))))
    ∙ (sym (append_assoc in_done run (ups ++ (outs ++ releasing)))
    ∙ (sym (append_assoc run_done ups (outs ++ releasing)) ∙ sym (append_assoc up_done outs releasing)))) in
    record {
      use_live =
          AllUse-append arrays before making (ins ++ (run ++ (ups ++ (outs ++ releasing)))) (makes_use arrays asks ms before h.made_low inside)
          (AllUse-append arrays (before ++ making) ins (run ++ (ups ++ (outs ++ releasing))) (copies_use arrays ins (before ++ making) all first made_1 gone_1 into)
          (AllUse-append arrays in_done run (ups ++ (outs ++ releasing)) (copies_use arrays run in_done all first made_2 gone_2 runs_live)
          (AllUse-append arrays run_done ups (outs ++ releasing) (copies_use arrays ups run_done all first made_3 gone_3 up)
          (AllUse-append arrays up_done outs releasing (copies_use arrays outs up_done all first made_4 gone_4 out)
          (releases_use arrays asks ms (blocks_made before) out_done (rw gone_5 h) (λ x c. rw made_5 c))))));
      booked = rw (whole, made_6, gone_6) (booked_all asks ms (blocks_made before) first h);
    }

-- the loop of a walk uses what is there after its items, and nothing is released before it
run_uses : (ms : List Mark) (walk : Walk) (before : List OpLabel) → Booked ms (blocks_made before) (blocks_released before) → All (Copies (blocks_made before ++ makings_of (visits ms (asks_of walk))) (blocks_released before)) (runs walk ms)
run_uses ms walk before h =
    let entered = visits ms walk.items in
    let left = visits (marks_after ms walk.items) walk.ends in
    let split : makings_of (visits ms (asks_of walk)) ≡ makings_of entered ++ makings_of left =
    ap makings_of (all_visits_are ms walk) ∙ (ap blocks_made (flat_map-append makes entered left) ∙ made-append (flat_map makes entered) (flat_map makes left)) in
    let between = marks_between ms walk in
    rw split
    (run_of (blocks_made before ++ (makings_of entered ++ makings_of left)) (blocks_released before) between walk.runs (map (λ a. a.item) walk.items)
    (holding_held between (blocks_made before ++ makings_of entered) (blocks_released before ++ flat_map ended_blocks entered) (blocks_made before ++ (makings_of entered ++ makings_of left)) (blocks_released before) (booked_all walk.items ms (blocks_made before) (blocks_released before) h)
    (λ x c. rw (← append_assoc (blocks_made before) (makings_of entered) (makings_of left)) (Contains-append_left (blocks_made before ++ makings_of entered) (makings_of left) x c))
    (λ b c. Contains-append_left (blocks_released before) (flat_map ended_blocks entered) b c)))

-- The batch of a walk behind operations that stand to the marks so far.
pub record WalkBatched (arrays : List (List ℤ)) (ms : List Mark) (walk : Walk) (before : List OpLabel) : Type 0 where
  pub use_live : AllUse arrays before (grouped (runs walk ms) (all_visits ms walk))
  pub booked : Booked (marks_behind ms walk) (blocks_made (before ++ grouped (runs walk ms) (all_visits ms walk))) (blocks_released (before ++ grouped (runs walk ms) (all_visits ms walk)))

-- a walk over ranges in their arrays places a batch that uses live blocks, and stands to the lifetimes after it
pub walk_uses : (arrays : List (List ℤ)) (ms : List Mark) (walk : Walk) (before : List OpLabel) → Booked ms (blocks_made before) (blocks_released before) → AllInArrays arrays (asks_of walk) → WalkBatched arrays ms walk before
walk_uses arrays ms walk before h inside =
    let b = batch_uses arrays ms (asks_of walk) (runs walk ms) before h inside (run_uses ms walk before h) in
    record {
      use_live = rw (all_visits_are ms walk) at b.use_live;
      booked = rw (all_visits_are ms walk, marks_behind_are ms walk) at b.booked;
    }

-- no marks have opened no lifetime
pub none_opened : (l : Lifetime) → Contains (opened_lifetimes []) l → ⊥
unfolding opened_lifetimes
none_opened l c = no_member l c
