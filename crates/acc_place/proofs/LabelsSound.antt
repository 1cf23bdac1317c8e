-- The labels that accepted directives place are sound: on each device they use live blocks in the order of placing, and each
-- stands behind those that it needs.
use Rattle.std.proofs.Common.{inl, inr, ◌≡◌, ◌⊎◌, ℕ, zero, suc, ◌<◌, Bool, true, false, List, [], ◌∷◌, ◌++◌, length, drop, refl, sym, ap, subst, ◌∙◌, arith, Option, Some, None}
use Rattle.std.specs.Prelude.{All, Contains, ℤ, pos, negsuc, ◌==◌, ◌||◌, slice_index_or}
use Rattle.std.specs.List.{flat_map}
use Rattle.std.proofs.lemmas.Bool.{cases_Bool, eq-eqb, eqb-true}
use Rattle.std.proofs.lemmas.List.{append_assoc, append-nil}
use Rattle.std.proofs.lemmas.List.Elements.{All-nil, All-cons, All-head, All-tail, filter-append, Contains-push_cases, Contains-append_left, Contains-append_right}
use Rattle.std.proofs.lemmas.Grind.{flat_map-append}
use Rattle.acc_base.specs.declared.ids.QueueAt.{QueueAt}
use Rattle.acc_base.specs.declared.ids.TheConstants.{QUEUES}
use Rattle.acc_base.specs.Configurations.{Configuration}
use Rattle.acc_base.proofs.Members.{no_member, member_first, member_rest, member_cases}
use Rattle.acc_present.specs.Lifetimes.{opened_lifetimes}
use Rattle.acc_batch.specs.Labels.{made_blocks, used_blocks, has_number, touches_block}
use Rattle.acc_place.proofs.HeldAndMade.{uses_low, label_makes, makes_made}
use Rattle.acc_present.specs.Marks.{Mark}
use Rattle.acc_batch.specs.declared.label.Label.{Label}
use Rattle.acc_batch.specs.declared.label.OpLabel.{OpLabel}
use Rattle.acc_batch.specs.declared.label.OpLabel.TheVariants.{Make, CopyIn, CopyOut, Release, Run, Await, Close}
use Rattle.acc_batch.specs.Labels.{ops_of}
use Rattle.acc_batch.specs.Lives.{blocks_made, blocks_released, AllUse, on_device, IsSound}
use Rattle.acc_batch.specs.Awaits.{is_await, IsOrdered, AllOrdered, AreNumberedLabels}
use Rattle.acc_batch.proofs.Labels.{ops_of-append}
use Rattle.acc_batch.proofs.OrderedBatches.{behind_is, close_ordered, label_ordered, ordered_push}
use Rattle.acc_kernel.specs.Kernels.{Loop}
use Rattle.acc_place.specs.Directives.{Directive}
use Rattle.acc_place.specs.declared.directive.DataItem.{DataItem}
use Rattle.acc_place.specs.declared.directive.Kind.{Kind}
use Rattle.acc_place.specs.declared.directive.Kind.TheVariants as kind
use Rattle.acc_place.specs.declared.directive.PlaceEntry.{PlaceEntry}
use Rattle.acc_place.specs.declared.directive.PlaceEntry.TheVariants as noted
use Rattle.acc_place.specs.declared.directive.Target.{Target}
use Rattle.acc_place.specs.declared.directive.Target.TheVariants.{Plain, Unvalued, Value}
use Rattle.acc_place.specs.Targets.{queue_of_own, queue_meant, target_queue, or_sync, queue_by}
use Rattle.acc_place.specs.Standings.{Standing, Walk, all_visits, walk_of, marks_behind}
use Rattle.acc_place.specs.Batches.{walk_at, runs, runs_by, grouped, operations_of, batch_of, next_number, labels_with}
use Rattle.acc_place.specs.Histories.{AllAccepted, standing, at_first, after_close, after_walk}
use Rattle.acc_place.proofs.AllVisits.{asks_of}
use Rattle.acc_place.proofs.GroupLives.{AllInArrays}
use Rattle.acc_place.proofs.GroupedOperations.{HoldsOfBlocks, grouped_all}
use Rattle.acc_place.proofs.InArrays.{accepted_fits}
use Rattle.acc_place.proofs.VisitLives.{AllUse-append, Booked}
use Rattle.acc_place.proofs.WalkLives.{made_quiet, released_quiet, walk_uses, none_opened}

-- ## Awaits

-- awaits use no block, and make and release none
awaits_use : (arrays : List (List ℤ)) (before ops : List OpLabel) → All (λ op. is_await op ≡ true) ops → AllUse arrays before ops
awaits_use arrays before [] h = tt
awaits_use arrays before (Await q n ∷ ops) h = (tt, awaits_use arrays (before ++ Await q n ∷ []) ops (All-tail (λ op. is_await op ≡ true) (Await q n) ops h))
awaits_use arrays before (Make r b ∷ ops) h = (let no : false ≡ true = All-head (λ op. is_await op ≡ true) (Make r b) ops h in absurd (cc))
awaits_use arrays before (CopyIn r b ∷ ops) h = (let no : false ≡ true = All-head (λ op. is_await op ≡ true) (CopyIn r b) ops h in absurd (cc))
awaits_use arrays before (CopyOut r b ∷ ops) h = (let no : false ≡ true = All-head (λ op. is_await op ≡ true) (CopyOut r b) ops h in absurd (cc))
awaits_use arrays before (Release b ∷ ops) h = (let no : false ≡ true = All-head (λ op. is_await op ≡ true) (Release b) ops h in absurd (cc))
awaits_use arrays before (Run k uses ∷ ops) h = (let no : false ≡ true = All-head (λ op. is_await op ≡ true) (Run k uses) ops h in absurd (cc))
awaits_use arrays before (Close ∷ ops) h = (let no : false ≡ true = All-head (λ op. is_await op ≡ true) Close ops h in absurd (cc))

awaits_quiet : (ops : List OpLabel) → All (λ op. is_await op ≡ true) ops → (blocks_made ops ≡ []) × (blocks_released ops ≡ [])
awaits_quiet [] h = (refl, refl)
awaits_quiet (Await q n ∷ ops) h = awaits_quiet ops (All-tail (λ op. is_await op ≡ true) (Await q n) ops h)
awaits_quiet (Make r b ∷ ops) h = (let no : false ≡ true = All-head (λ op. is_await op ≡ true) (Make r b) ops h in absurd (cc))
awaits_quiet (CopyIn r b ∷ ops) h = (let no : false ≡ true = All-head (λ op. is_await op ≡ true) (CopyIn r b) ops h in absurd (cc))
awaits_quiet (CopyOut r b ∷ ops) h = (let no : false ≡ true = All-head (λ op. is_await op ≡ true) (CopyOut r b) ops h in absurd (cc))
awaits_quiet (Release b ∷ ops) h = (let no : false ≡ true = All-head (λ op. is_await op ≡ true) (Release b) ops h in absurd (cc))
awaits_quiet (Run k uses ∷ ops) h = (let no : false ≡ true = All-head (λ op. is_await op ≡ true) (Run k uses) ops h in absurd (cc))
awaits_quiet (Close ∷ ops) h = (let no : false ≡ true = All-head (λ op. is_await op ≡ true) Close ops h in absurd (cc))

-- ## What a walk does with blocks awaits nothing

abbrev pub NoAwait : OpLabel → Type 0
NoAwait op = is_await op ≡ false

of_blocks : HoldsOfBlocks NoAwait
of_blocks = record { make = λ r b. refl; copy_in = λ r b. refl; copy_out = λ r b. refl; release = λ b. refl }

run_each : (k : Option Loop) (items : List DataItem) (ms : List Mark) → All NoAwait (runs_by k items ms)
run_each None items ms = All-nil NoAwait
run_each (Some k) items ms = All-cons NoAwait (Run k _) [] refl (All-nil NoAwait)

-- ## One more label

-- a batch adds one label, or none where it is empty
pub labelled_cases : (at : QueueAt) (host items_done : ℕ) (labels : List Label) (ops : List OpLabel)
    → ((ops ≡ []) × (labels_with at host items_done labels ops ≡ labels))
    ⊎ (labels_with at host items_done labels ops ≡ labels ++ record { at = at; number = next_number at labels; host = host; items_done = items_done; ops = ops } ∷ [])
labelled_cases at host items_done labels [] = inl (refl, refl)
labelled_cases at host items_done labels (op ∷ ops) = inr refl

-- its operations are the last of its device
ops_here : (at : QueueAt) (host items_done : ℕ) (labels : List Label) (ops : List OpLabel) → ops_of (on_device at.device (labels_with at host items_done labels ops)) ≡ ops_of (on_device at.device labels) ++ ops
ops_here at host items_done labels [] = sym (append-nil (ops_of (on_device at.device labels)))
ops_here at host items_done labels (op ∷ ops) =
    let l : Label = record { at = at; number = next_number at labels; host = host; items_done = items_done; ops = op ∷ ops } in
    let one : on_device at.device (l ∷ []) ≡ l ∷ [] = rw (eq-eqb at.device at.device refl) refl in
    ap ops_of (filter-append (λ k. k.at.device == at.device) labels (l ∷ []) ∙ ap (λ r. on_device at.device labels ++ r) one)
    ∙ (ops_of-append (on_device at.device labels) (l ∷ []) ∙ ap (λ r. ops_of (on_device at.device labels) ++ r) (append-nil (op ∷ ops)))

-- the other devices have none more
ops_there : (d : ℕ) (at : QueueAt) (host items_done : ℕ) (labels : List Label) (ops : List OpLabel) → (at.device == d) ≡ false → on_device d (labels_with at host items_done labels ops) ≡ on_device d labels
ops_there d at host items_done labels [] other = refl
ops_there d at host items_done labels (op ∷ ops) other =
    let l : Label = record { at = at; number = next_number at labels; host = host; items_done = items_done; ops = op ∷ ops } in
    let none : on_device d (l ∷ []) ≡ [] = rw other refl in
    filter-append (λ k. k.at.device == d) labels (l ∷ []) ∙ (ap (λ r. on_device d labels ++ r) none ∙ append-nil (on_device d labels))

-- What accepted directives have placed.
pub record Sound (config : Configuration) (st : Standing) : Type 0 where
  pub use_live : (d : ℕ) → AllUse config.arrays [] (ops_of (on_device d st.labels))
  pub booked : (d : ℕ) → Booked (st.marks d) (blocks_made (ops_of (on_device d st.labels))) (blocks_released (ops_of (on_device d st.labels)))
  pub ordered : AllOrdered [] st.labels
  pub numbered : AreNumberedLabels st.labels

sound_none : (config : Configuration) → Sound config (at_first config)
sound_none config = record {
  use_live = λ d. tt;
  booked = λ d. record {
    made_low = λ x c. absurd (no_member x c);
    made_all = λ l c. absurd (none_opened l c);
    gone_low = λ b c. absurd (no_member b c);
    gone_dead = λ l c is g. none_opened l c;
  };
  ordered = tt;
  numbered = λ m c. absurd (no_member m c);
}

-- A batch behind the operations of its device.
pub record Behaves (config : Configuration) (st : Standing) (walk : Walk) : Type 0 where
  pub use_live : AllUse config.arrays (ops_of (on_device walk.device st.labels)) (batch_of st walk)
  pub booked : Booked (marks_behind (st.marks walk.device) walk) (blocks_made (ops_of (on_device walk.device st.labels) ++ batch_of st walk)) (blocks_released (ops_of (on_device walk.device st.labels) ++ batch_of st walk))

pub behaves : (config : Configuration) (st : Standing) (walk : Walk) → Sound config st → AllInArrays config.arrays (asks_of walk) → Behaves config st walk
unfolding batch_of
behaves config st walk h inside =
    let ms = st.marks walk.device in
    let before = ops_of (on_device walk.device st.labels) in
    let ops = grouped (runs walk ms) (all_visits ms walk) in
    let b = behind_is walk.alone walk.waits (walk_at walk) st.labels ops in
    let quiet = awaits_quiet b.first b.all_await in
    let first = before ++ b.first in
    let booked : Booked ms (blocks_made first) (blocks_released first) = rw (made_quiet before b.first quiet.0, released_quiet before b.first quiet.1) (h.booked walk.device) in
    let w = walk_uses config.arrays ms walk first booked inside in
    record {
      use_live = rw b.split (AllUse-append config.arrays before b.first ops (awaits_use config.arrays before b.first b.all_await) w.use_live);
      booked = rw (b.split, ← append_assoc before b.first ops) w.booked;
    }

-- marks and labels of a device that a walk acts on, and of another
sound_on : (config : Configuration) (st : Standing) (host items_done : ℕ) (d : Directive) (walk : Walk) → Sound config st → Behaves config st walk → (device : ℕ)
    → (AllUse config.arrays [] (ops_of (on_device device (after_walk st host items_done d walk).labels)))
    × Booked ((after_walk st host items_done d walk).marks device) (blocks_made (ops_of (on_device device (after_walk st host items_done d walk).labels))) (blocks_released (ops_of (on_device device (after_walk st host items_done d walk).labels)))
sound_on config st host items_done d walk h b device = elim (cases_Bool (device == walk.device)) [
  | inl same ↦
      let e : walk.device ≡ device = sym (eqb-true device walk.device same) in
      let all = ops_here (walk_at walk) host items_done st.labels (batch_of st walk) in
      rw (same, ← e, all) (AllUse-append config.arrays [] (ops_of (on_device walk.device st.labels)) (batch_of st walk) (h.use_live walk.device) b.use_live, b.booked)
  | inr differ ↦
      let other : (walk.device == device) ≡ false = turned walk.device device differ in
      rw (differ, ops_there device (walk_at walk) host items_done st.labels (batch_of st walk) other) (h.use_live device, h.booked device)
]
  where
    turned : (a b : ℕ) → (b == a) ≡ false → (a == b) ≡ false
    turned a b differ = elim (cases_Bool (a == b)) [
      | inl same ↦ (let wrong : true ≡ false = sym (eq-eqb b a (sym (eqb-true a b same))) ∙ differ in cc)
      | inr other ↦ other
    ]

-- the label of a walk's batch stands behind those that it needs
label_is : (st : Standing) (host items_done : ℕ) (walk : Walk) → AreNumberedLabels st.labels → AllOrdered [] st.labels
    → IsOrdered st.labels (record { at = walk_at walk; number = next_number (walk_at walk) st.labels; host = host; items_done = items_done; ops = batch_of st walk })
unfolding batch_of
label_is st host items_done walk known ordered =
    let ms = st.marks walk.device in
    label_ordered walk.alone walk.waits (walk_at walk) st.labels host items_done (operations_of st walk) known ordered
    (grouped_all NoAwait of_blocks (runs walk ms) (all_visits ms walk) (run_each walk.runs _ _))

-- one more walk leaves the labels sound
pub sound_more : (config : Configuration) (st : Standing) (host items_done : ℕ) (d : Directive) (walk : Walk) → Sound config st → AllInArrays config.arrays (asks_of walk) → walk.queue < QUEUES
    → Sound config (after_walk st host items_done d walk)
sound_more config st host items_done d walk h inside low =
    let b = behaves config st walk h inside in
    let at = walk_at walk in
    record {
      use_live = λ device. (sound_on config st host items_done d walk h b device).0;
      booked = λ device. (sound_on config st host items_done d walk h b device).1;
      ordered = elim (labelled_cases at host items_done st.labels (batch_of st walk)) [
        | inl none ↦ rw none.1 h.ordered
        | inr one ↦ rw one (ordered_push [] st.labels _ h.ordered (label_is st host items_done walk h.numbered h.ordered))
      ];
      numbered = elim (labelled_cases at host items_done st.labels (batch_of st walk)) [
        | inl none ↦ rw none.1 h.numbered
        | inr one ↦ rw one (λ m c. elim (Contains-push_cases st.labels _ m c) [
          | inl old ↦ h.numbered m old
          | inr new ↦ rw (← new) (omega arith, low)
        ])
      ];
    }

-- The operations of one more close use no block, and make and release none.
closed_ops : (config : Configuration) (st : Standing) (at : QueueAt) (d : ℕ) → Sound config st
    → (AllUse config.arrays [] (ops_of (on_device d (after_close st at).labels)))
    × Booked (st.marks d) (blocks_made (ops_of (on_device d (after_close st at).labels))) (blocks_released (ops_of (on_device d (after_close st at).labels)))
closed_ops config st at d h = elim (cases_Bool (at.device == d)) [
  | inl same ↦
      let before = ops_of (on_device d st.labels) in
      let here : at.device ≡ d = eqb-true at.device d same in
      let all : ops_of (on_device d (after_close st at).labels) ≡ before ++ Close ∷ [] =
      ap (λ n. ops_of (on_device n (after_close st at).labels)) (sym here) ∙ (ops_here at 0 0 st.labels (Close ∷ []) ∙ ap (λ n. ops_of (on_device n st.labels) ++ Close ∷ []) here) in
      rw (all, made_quiet before (Close ∷ []) refl, released_quiet before (Close ∷ []) refl)
      (AllUse-append config.arrays [] before (Close ∷ []) (h.use_live d) (tt, tt), h.booked d)
  | inr differ ↦ rw (ops_there d at 0 0 st.labels (Close ∷ []) differ) (h.use_live d, h.booked d)
]

-- One more close leaves the labels sound.
pub sound_close : (config : Configuration) (st : Standing) (at : QueueAt) → Sound config st → at.queue < QUEUES → Sound config (after_close st at)
sound_close config st at h low = record {
  use_live = λ d. (closed_ops config st at d h).0;
  booked = λ d. (closed_ops config st at d h).1;
  ordered = ordered_push [] st.labels _ h.ordered (close_ordered at st.labels);
  numbered = λ m c. elim (Contains-push_cases st.labels _ m c) [
    | inl old ↦ h.numbered m old
    | inr new ↦ rw (← new) (omega arith, low)
  ];
}

-- each queue that a directive names is one of its device
own_low : (v : ℤ) → or_sync (queue_of_own v) < QUEUES
own_low (pos v) = omega arith
own_low (negsuc zero) = omega arith
own_low (negsuc (suc zero)) = omega arith
own_low (negsuc (suc (suc n))) = omega arith

queue_low : (default v : ℤ) → or_sync (queue_meant default v) < QUEUES
queue_low default (negsuc zero) = own_low default
queue_low default (pos v) = own_low (pos v)
queue_low default (negsuc (suc n)) = own_low (negsuc (suc n))

target_low : (default : ℤ) (t : Target) → or_sync (target_queue default t) < QUEUES
target_low default Plain = omega arith
target_low default Unvalued = own_low default
target_low default (Value v) = queue_low default v

pub by_kind_low : (k : Kind) (d : Directive) → queue_by k d < QUEUES
by_kind_low kind.EndData d = omega arith
by_kind_low kind.Data d = target_low d.default d.target
by_kind_low kind.EnterData d = target_low d.default d.target
by_kind_low (kind.ExitData finalize) d = target_low d.default d.target
by_kind_low (kind.Update if_present) d = target_low d.default d.target
by_kind_low (kind.Loop k) d = target_low d.default d.target
by_kind_low kind.Wait d = target_low d.default d.target
by_kind_low kind.AsyncTest d = target_low d.default d.target
by_kind_low kind.IsPresent d = target_low d.default d.target

pub walk_low : (st : Standing) (host : ℕ) (d : Directive) → (walk_of st host d).queue < QUEUES
unfolding walk_of
walk_low st host d = by_kind_low d.kind d

-- All labels that accepted directives place, on whatever devices and queues, are sound.
pub all_sound : (config : Configuration) (history : List PlaceEntry) (counts : List ℕ) → AllAccepted config history counts → Sound config (standing config history counts)
unfolding standing
all_sound config [] counts h = sound_none config
all_sound config (noted.Accepted host d ∷ before) counts h =
    let st = standing config before (drop 1 counts) in
    let fit = accepted_fits config st host d h.0 in
    sound_more config st host (slice_index_or counts 0 0) d (walk_of st host d) (all_sound config before (drop 1 counts) h.1) fit.inside (walk_low st host d)
all_sound config (noted.Closing ∷ before) counts h =
    let s = all_sound config before counts h.1 in
    record { use_live = s.use_live; booked = s.booked; ordered = s.ordered; numbered = s.numbered }
all_sound config (noted.Closed at ∷ before) counts h = sound_close config (standing config before counts) at (all_sound config before counts h.1) h.0.there.1

pub labels_sound : (config : Configuration) (history : List PlaceEntry) (counts : List ℕ) → AllAccepted config history counts → IsSound config.arrays (standing config history counts).labels
labels_sound config history counts h = (let s = all_sound config history counts h in record { use_live = s.use_live; ordered = s.ordered })

-- no label touches a block that isn't opened yet
pub touched_low : (config : Configuration) (st : Standing) → Sound config st → (d : ℕ) (m : Label) → Contains st.labels m → m.at.device ≡ d → (b : ℕ) → length (opened_lifetimes (st.marks d)) < b → touches_block b m ≡ false
touched_low config st h d m c here b high = elim (cases_Bool (touches_block b m)) [
  | inr none ↦ none
  | inl touched ↦ elim (or_true (has_number (flat_map made_blocks m.ops) b) (has_number (flat_map used_blocks m.ops) b) touched) [
    | inl made_it ↦
        let k = label_makes d st.labels b m c here made_it in
        let low = (h.booked d).made_low (record { block = b; range = k.range }) (makes_made (ops_of (on_device d st.labels)) b k) in
        absurd (omega (arith, low, high))
    | inr used ↦
        let low = uses_low config.arrays [] (ops_of (on_device d st.labels)) (length (opened_lifetimes (st.marks d))) (h.use_live d) (h.booked d).made_low b
        (label_uses d st.labels m b c here (has_member (flat_map used_blocks m.ops) b used)) in
        absurd (omega (arith, low, high))
  ]
]
  where
    or_true : (x y : Bool) → (x || y) ≡ true → (x ≡ true) ⊎ (y ≡ true)
    or_true true y e = inl refl
    or_true false y e = inr e

    has_member : (ns : List ℕ) (n : ℕ) → has_number ns n ≡ true → Contains ns n
    has_member [] n e = cc
    has_member (k ∷ ns) n e = elim (cases_Bool (k == n)) [
      | inl same ↦ subst (λ z. Contains (k ∷ ns) z) (eqb-true k n same) (member_first k ns)
      | inr other ↦ member_rest n k ns (has_member ns n (rw other at e))
    ]

    label_uses : (d : ℕ) (labels : List Label) (m : Label) (b : ℕ) → Contains labels m → m.at.device ≡ d → Contains (flat_map used_blocks m.ops) b → Contains (flat_map used_blocks (ops_of (on_device d labels))) b
    label_uses d [] m b c here u = absurd (no_member m c)
    label_uses d (l ∷ ls) m b c here u = elim (member_cases m l ls c) [
      | inl same ↦
          let there : (l.at.device == d) ≡ true = eq-eqb l.at.device d (ap (λ (z : Label). z.at.device) same ∙ here) in
          let mine : Contains (flat_map used_blocks l.ops) b = subst (λ (z : Label). Contains (flat_map used_blocks z.ops) b) (sym same) u in
          rw (there, flat_map-append used_blocks l.ops (ops_of (on_device d ls))) (Contains-append_left (flat_map used_blocks l.ops) (flat_map used_blocks (ops_of (on_device d ls))) b mine)
      | inr rest ↦
          let k = label_uses d ls m b rest here u in
          elim (cases_Bool (l.at.device == d)) [
            | inl there ↦ rw (there, flat_map-append used_blocks l.ops (ops_of (on_device d ls))) (Contains-append_right (flat_map used_blocks l.ops) (flat_map used_blocks (ops_of (on_device d ls))) b k)
            | inr away ↦ rw away k
          ]
    ]
