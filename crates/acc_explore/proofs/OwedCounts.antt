-- What a host waits for was placed: the counts that a directive was answered are of batches that stand on their queues.
use Rattle.std.proofs.Common.{inl, inr, ◌≡◌, ℕ, zero, suc, ◌+◌, ◌-◌, ◌≤◌, Bool, true, false, cond, List, [], ◌∷◌, ◌++◌, length, map, take, drop, replicate, refl, sym, ap, ◌∙◌, subst, Option, arith}
use Rattle.std.specs.Prelude.{All, ◌==◌, slice_index_or}
use Rattle.std.proofs.lemmas.Bool.{cases_Bool, eqb-true}
use Rattle.std.proofs.lemmas.List.{length-append}
use Rattle.std.proofs.lemmas.List.Elements.{All-append, All-cons, All-drop, All-head, All-nil, All-tail, All-take, All-weaker, filter-append}
use Rattle.acc_base.specs.Configurations.{Configuration}
use Rattle.acc_base.specs.declared.ids.QueueAt.{QueueAt}
use Rattle.acc_base.specs.declared.ids.TheConstants.{QUEUES}
use Rattle.acc_base.specs.Queues.{is_nothing, numbers_from, same_queue}
use Rattle.acc_base.proofs.SameQueue.{same_queue_itself}
use Rattle.acc_batch.specs.Awaits.{close_label}
use Rattle.acc_batch.specs.declared.entry.WorkEntry.{WorkEntry}
use Rattle.acc_batch.specs.declared.entry.WorkEntry.TheVariants as entry
use Rattle.acc_batch.specs.declared.label.Label.{Label}
use Rattle.acc_batch.specs.declared.label.OpLabel.{OpLabel}
use Rattle.acc_batch.specs.Labels.{has_number, on_queue}
use Rattle.acc_host.specs.Engines.{HostEntry, Gave, Had}
use Rattle.acc_host.specs.Entries.{Own, entries_merged, items_shown, own_after, own_of}
use Rattle.acc_host.specs.Steps.{Owed, nothing_owed, owes_seen, owes_test, alone, owed_batch, owed_by, owed_counts}
use Rattle.acc_place.specs.Batches.{answer_of, batch_of, count_of, counts_by, counts_queues, labels_with, next_number, placed_batch, walk_at}
use Rattle.acc_place.specs.declared.directive.Kind.{Kind}
use Rattle.acc_place.specs.declared.directive.Kind.TheVariants as kind
use Rattle.acc_place.specs.declared.directive.PlaceEntry.{PlaceEntry}
use Rattle.acc_place.specs.declared.directive.PlaceEntry.TheVariants as noted
use Rattle.acc_place.specs.Directives.{Directive}
use Rattle.acc_place.specs.Histories.{after_directive, standing}
use Rattle.acc_place.specs.Standings.{Standing, Walk, subject_by, walk_of}
use Rattle.acc_work.specs.Logs.{one_more}

-- Each count is of batches that stand on their queue, from this one on.
abbrev pub StandThere : List Label → ℕ → ℕ → List ℕ → Type 0
StandThere labels device q [] = Unit {0}
StandThere labels device q (n ∷ ns) = (n ≤ length (on_queue (record { device = device; queue = q }) labels)) × StandThere labels device (q + 1) ns

abbrev pub OwedThere : List Label → Owed → Type 0
OwedThere labels nothing_owed = Unit {0}
OwedThere labels (owes_seen device counts) = StandThere labels device 0 counts
OwedThere labels (owes_test device counts) = Unit {0}

-- the labels of each queue only grow
abbrev Grows : List Label → List Label → Type 0
Grows old new = (at : QueueAt) → length (on_queue at old) ≤ length (on_queue at new)

more_behind : (labels more : List Label) → Grows labels (labels ++ more)
more_behind labels more at =
    let parts = filter-append (λ (l : Label). same_queue l.at at) labels more in
    omega (arith, ap length parts, length-append (on_queue at labels) (on_queue at more))

stand_later : (old new : List Label) → Grows old new → (device q : ℕ) (ns : List ℕ) → StandThere old device q ns → StandThere new device q ns
stand_later old new grows device q [] there = tt {0}
stand_later old new grows device q (n ∷ ns) there =
    (omega (arith, there.0, grows (record { device = device; queue = q })), stand_later old new grows device (q + 1) ns there.1)

owed_later : (old new : List Label) → Grows old new → (owed : Owed) → OwedThere old owed → OwedThere new owed
owed_later old new grows nothing_owed there = tt {0}
owed_later old new grows (owes_seen device counts) there = stand_later old new grows device 0 counts there
owed_later old new grows (owes_test device counts) there = tt {0}

-- ## The counts of an answer

all_stand : (labels : List Label) (device : ℕ) (f : ℕ → ℕ) → ((q : ℕ) → f q ≤ length (on_queue (record { device = device; queue = q }) labels))
    → (q n : ℕ) → StandThere labels device q (map f (numbers_from q n))
all_stand labels device f low q zero = tt {0}
all_stand labels device f low q (suc n) = (low q, all_stand labels device f low (q + 1) n)

zeros_stand : (labels : List Label) (device q n : ℕ) → StandThere labels device q (replicate n 0)
zeros_stand labels device q zero = tt {0}
zeros_stand labels device q (suc n) = (omega arith, zeros_stand labels device (q + 1) n)

counts_stand : (b : Bool) (labels : List Label) (device : ℕ) (named : List ℕ) → StandThere labels device 0 (counts_by b labels device named)
counts_stand true labels device named = all_stand labels device (count_of labels device named) (λ q. by (has_number named q) q) 0 QUEUES
  where
    by : (b : Bool) (q : ℕ) → cond b (length (on_queue (record { device = device; queue = q }) labels)) 0 ≤ length (on_queue (record { device = device; queue = q }) labels)
    by true q = omega arith
    by false q = omega arith
counts_stand false labels device named = zeros_stand labels device 0 QUEUES

-- the batch of a directive stands behind the others of its queue
batch_stands : (at : QueueAt) (host items_done : ℕ) (labels : List Label) (ops : List OpLabel)
    → OwedThere (labels_with at host items_done labels ops) (owed_batch (placed_batch at labels ops))
batch_stands at host items_done labels [] = tt {0}
batch_stands at host items_done labels (op ∷ ops) = by_queue (at.queue == 0) refl
  where
    l : Label
    l = record { at = at; number = next_number at labels; host = host; items_done = items_done; ops = op ∷ ops }

    there : (q : ℕ) → cond (q == at.queue) (next_number at labels) 0 ≤ length (on_queue (record { device = at.device; queue = q }) (labels ++ l ∷ []))
    there q = elim (cases_Bool (q == at.queue)) [
      | inl same ↦
          let here : record { device = at.device; queue = q } ≡ at = ap (λ n. record { device = at.device; queue = n }) (eqb-true q at.queue same) in
          let last : on_queue at (l ∷ []) ≡ l ∷ [] = rw (same_queue_itself at) refl in
          let parts = filter-append (λ (m : Label). same_queue m.at at) labels (l ∷ []) ∙ ap (λ (ls : List Label). on_queue at labels ++ ls) last in
          let count : next_number at labels ≤ length (on_queue at (labels ++ l ∷ [])) = omega (arith, ap length parts, length-append (on_queue at labels) (l ∷ [])) in
          rw same (subst (λ (a : QueueAt). next_number at labels ≤ length (on_queue a (labels ++ l ∷ []))) (sym here) count)
      | inr differ ↦ rw differ (omega arith)
    ]

    by_queue : (b : Bool) → (at.queue == 0) ≡ b → OwedThere (labels ++ l ∷ []) (cond b (owes_seen at.device (alone at.queue (next_number at labels))) nothing_owed)
    by_queue true e = all_stand (labels ++ l ∷ []) at.device (λ q. cond (q == at.queue) (next_number at labels) 0) there 0 QUEUES
    by_queue false e = tt {0}

labels_grow : (at : QueueAt) (host items_done : ℕ) (labels : List Label) (ops : List OpLabel) → Grows labels (labels_with at host items_done labels ops)
labels_grow at host items_done labels [] q = omega arith
labels_grow at host items_done labels (op ∷ ops) q =
    more_behind labels (record { at = at; number = next_number at labels; host = host; items_done = items_done; ops = op ∷ ops } ∷ []) q

-- whatever a directive asks for
kinds_owe : (labels : List Label) (k : Kind) (device : ℕ) (counts : List ℕ) (batch : Option (QueueAt × ℕ))
    → (k ≡ kind.Wait → StandThere labels device 0 counts) → OwedThere labels (owed_batch batch) → OwedThere labels (owed_counts k device counts batch)
kinds_owe labels kind.Wait device counts batch w b = by (is_nothing counts)
  where
    by : (none : Bool) → OwedThere labels (cond none nothing_owed (owes_seen device counts))
    by true = tt {0}
    by false = w refl
kinds_owe labels kind.AsyncTest device counts batch w b = by (is_nothing counts)
  where
    by : (none : Bool) → OwedThere labels (cond none nothing_owed (owes_test device counts))
    by true = tt {0}
    by false = tt {0}
kinds_owe labels kind.Data device counts batch w b = b
kinds_owe labels kind.EndData device counts batch w b = b
kinds_owe labels kind.EnterData device counts batch w b = b
kinds_owe labels (kind.ExitData finalize) device counts batch w b = b
kinds_owe labels (kind.Update if_present) device counts batch w b = b
kinds_owe labels (kind.Loop k) device counts batch w b = b
kinds_owe labels kind.IsPresent device counts batch w b = b

-- a wait is for the queues of its own device
own_device : (st : Standing) (host : ℕ) (d : Directive) → d.kind ≡ kind.Wait → (walk_of st host d).device ≡ d.device
unfolding walk_of
own_device st host d e = ap (λ k. (subject_by st.lengths st.regions host d k).device) e

directive_owes : (st : Standing) (host items_done : ℕ) (d : Directive)
    → OwedThere (after_directive st host items_done d).labels (owed_by d (answer_of st d (walk_of st host d)))
unfolding answer_of
directive_owes st host items_done d =
    let walk : Walk = walk_of st host d in
    let new = labels_with (walk_at walk) host items_done st.labels (batch_of st walk) in
    kinds_owe new d.kind d.device (counts_by (counts_queues d.kind walk.queue) st.labels walk.device walk.waits) (placed_batch (walk_at walk) st.labels (batch_of st walk))
    (λ e. stand_later st.labels new (labels_grow (walk_at walk) host items_done st.labels (batch_of st walk)) d.device 0 _
    (subst (λ device. StandThere st.labels device 0 (counts_by (counts_queues d.kind walk.queue) st.labels walk.device walk.waits)) (own_device st host d e)
    (counts_stand (counts_queues d.kind walk.queue) st.labels walk.device walk.waits)))
    (batch_stands (walk_at walk) host items_done st.labels (batch_of st walk))

-- ## The directives of a history, and the entries of a host

own_owes : (config : Configuration) (host : ℕ) (history : List PlaceEntry) (counts : List ℕ)
    → All (λ (o : Own). OwedThere (standing config history counts).labels (owed_by o.directive o.placed)) (own_of config host history counts)
unfolding standing
own_owes config host [] counts = All-nil (λ (o : Own). OwedThere [] (owed_by o.directive o.placed))
own_owes config host (noted.Accepted h d ∷ before) counts =
    let st = standing config before (drop 1 counts) in
    let n = slice_index_or counts 0 0 in
    let new = (after_directive st h n d).labels in
    by (h == host) new (own_after st h n d) (directive_owes st h n d)
    (All-weaker (λ (o : Own). OwedThere st.labels (owed_by o.directive o.placed)) (λ (o : Own). OwedThere new (owed_by o.directive o.placed))
    (λ o. owed_later st.labels new (labels_grow (walk_at (walk_of st h d)) h n st.labels (batch_of st (walk_of st h d))) (owed_by o.directive o.placed))
    (own_of config host before (drop 1 counts)) (own_owes config host before (drop 1 counts)))
  where
    by : (b : Bool) (labels : List Label) (o : Own) → OwedThere labels (owed_by o.directive o.placed)
        → All (λ (x : Own). OwedThere labels (owed_by x.directive x.placed)) (own_of config host before (drop 1 counts))
        → All (λ (x : Own). OwedThere labels (owed_by x.directive x.placed)) (one_more b (own_of config host before (drop 1 counts)) o)
    by true labels o one others =
        All-append (λ (x : Own). OwedThere labels (owed_by x.directive x.placed)) (own_of config host before (drop 1 counts)) (o ∷ []) others
        (All-cons (λ (x : Own). OwedThere labels (owed_by x.directive x.placed)) o [] one (All-nil (λ (x : Own). OwedThere labels (owed_by x.directive x.placed))))
    by false labels o one others = others
own_owes config host (noted.Closing ∷ before) counts = own_owes config host before counts
own_owes config host (noted.Closed at ∷ before) counts =
    let labels = (standing config before counts).labels in
    All-weaker (λ (o : Own). OwedThere labels (owed_by o.directive o.placed)) (λ (o : Own). OwedThere (labels ++ close_label at labels ∷ []) (owed_by o.directive o.placed))
    (λ o. owed_later labels (labels ++ close_label at labels ∷ []) (more_behind labels (close_label at labels ∷ [])) (owed_by o.directive o.placed))
    (own_of config host before counts) (own_owes config host before counts)

-- what an entry owes stands there
abbrev pub EntryOwes : List Label → HostEntry → Type 0
EntryOwes labels (Gave d placed) = OwedThere labels (owed_by d placed)
EntryOwes labels (Had what) = Unit {0}

items_owe : (labels : List Label) (host : ℕ) (work : List WorkEntry) → All (EntryOwes labels) (items_shown host work)
items_owe labels host [] = All-nil (EntryOwes labels)
items_owe labels host (entry.Op at op ∷ before) = items_owe labels host before
items_owe labels host (entry.Item h what ∷ before) = by (h == host) (items_owe labels host before)
  where
    by : (b : Bool) → All (EntryOwes labels) (items_shown host before) → All (EntryOwes labels) (one_more b (items_shown host before) (Had what))
    by true shown = All-append (EntryOwes labels) (items_shown host before) (Had what ∷ []) shown (All-cons (EntryOwes labels) (Had what) [] (tt {0}) (All-nil (EntryOwes labels)))
    by false shown = shown

merged_owe : (labels : List Label) (gone : ℕ) (os : List Own) (items : List HostEntry)
    → All (λ (o : Own). OwedThere labels (owed_by o.directive o.placed)) os → All (EntryOwes labels) items → All (EntryOwes labels) (entries_merged gone os items)
merged_owe labels gone [] items own shown = shown
merged_owe labels gone (o ∷ os) items own shown =
    let n = o.items_before - gone in
    All-append (EntryOwes labels) (take n items) (Gave o.directive o.placed ∷ entries_merged o.items_before os (drop n items)) (All-take (EntryOwes labels) n items shown)
    (All-cons (EntryOwes labels) (Gave o.directive o.placed) (entries_merged o.items_before os (drop n items))
    (All-head (λ (x : Own). OwedThere labels (owed_by x.directive x.placed)) o os own)
    (merged_owe labels o.items_before os (drop n items) (All-tail (λ (x : Own). OwedThere labels (owed_by x.directive x.placed)) o os own) (All-drop (EntryOwes labels) n items shown)))

pub entries_owe : (config : Configuration) (host : ℕ) (history : List PlaceEntry) (counts : List ℕ) (work : List WorkEntry)
    → All (EntryOwes (standing config history counts).labels) (entries_merged 0 (own_of config host history counts) (items_shown host work))
entries_owe config host history counts work =
    let labels = (standing config history counts).labels in
    merged_owe labels 0 (own_of config host history counts) (items_shown host work) (own_owes config host history counts) (items_owe labels host work)
