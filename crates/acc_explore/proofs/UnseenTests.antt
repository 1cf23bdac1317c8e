-- What the test of an unseen operation can be told from.
use Rattle.std.proofs.Common.{inl, inr, ◌⊎◌, ◌≡◌, ◌≤◌, ◌<◌, ◌+◌, ℕ, zero, suc, Bool, true, false, cond, ◌||◌, ◌&&◌, replicate, List, [], ◌∷◌, length, take, get_or, refl, sym, ap, ap₂, ◌∙◌, subst, Some, None, Option, nat_le, slice_get, slice_set, arith}
use Rattle.std.proofs.lemmas.Bool.{and_from, and_parts, eq-eqb, le-leb, leb-false, leb-true}
use Rattle.std.proofs.lemmas.List.{get_or-set_same, length-set}
use Rattle.acc_base.specs.declared.ids.QueueAt.{QueueAt}
use Rattle.acc_batch.specs.declared.entry.WorkEntry.{WorkEntry}
use Rattle.acc_batch.specs.declared.entry.WorkEntry.TheVariants as entry
use Rattle.acc_batch.specs.declared.label.Label.{Label}
use Rattle.acc_batch.specs.declared.label.OpLabel.{OpLabel}
use Rattle.acc_batch.specs.Labels.{on_queue, ops_of, whole_batches}
use Rattle.acc_core.specs.Enabled.{is_did, is_enabled}
use Rattle.acc_core.specs.Machine.{State, Outcome, can_perform, did, idle, is_there, labels_of, named_step, ops_left, perform_step, queue_step, step, take_step, taken_on, with_op}
use Rattle.acc_core.specs.Progress.{left_there, next_by, taken_by}
use Rattle.acc_host.specs.declared.event.Event.TheVariants as event
use Rattle.acc_host.specs.Hosts.{HostView, wants}
use Rattle.acc_work.specs.Logs.{all_done, batches_done, performed}
use Rattle.acc_explore.specs.inner.Unseen.{GoesOn}
use Rattle.acc_explore.specs.UnseenOperations.{MoreIsLeft, NobodyAsksLater, ends_no_batch, is_at_unseen, is_unseen, nobody_asks}
use Rattle.acc_explore.proofs.MoreBatches.{left_within, more_is_left}
use Rattle.acc_explore.proofs.NobodyAsks.{host_quiet, want_quiet}
use Rattle.acc_explore.proofs.StandingNext.{StandsNext, one_longer}
use Rattle.acc_explore.proofs.QueueSteps.{perform_leaves, take_leaves}
use Rattle.acc_explore.proofs.UnseenFirst.{at_unseen}

pub ends_none : MoreIsLeft
ends_none w at op next later left begun =
    let first = on_queue at (labels_of w) in
    let n = length (performed at w.work) in
    let two : n + 2 ≤ length (ops_of (take (taken_on w at) first)) = omega (arith, left_within n (ops_of (take (taken_on w at) first)) op (next ∷ later) left) in
    eq-eqb (batches_done (labels_of w) (entry.Op at op ∷ w.work) at) (batches_done (labels_of w) w.work at)
    (ap (whole_batches first) (one_longer at op w.work) ∙ more_is_left first (taken_on w at) n two begun)

-- ## Hosts go on not to ask

same_hosts : (w s : State) → s.hosts ≡ w.hosts → nobody_asks w ≡ true → nobody_asks s ≡ true
same_hosts w s e nobody = ap (λ (hosts : List HostView). nobody_asks (record w { hosts = hosts })) e ∙ nobody

host_asks_later : (w : State) (h : ℕ) → nobody_asks w ≡ true → nobody_asks (step false w (event.Host h)).state ≡ true
host_asks_later w h nobody = by (slice_get w.hosts h) refl
  where
    by : (o : Option HostView) → slice_get w.hosts h ≡ o → nobody_asks (step false w (event.Host h)).state ≡ true
    by None e = ap (λ (o : Option HostView). nobody_asks (named_step false w h o).state) e ∙ nobody
    by (Some host) e =
        ap (λ (o : Option HostView). nobody_asks (named_step false w h o).state) e
        ∙ host_quiet w h host e nobody (wants w.config.devices host) (want_quiet w h host e nobody)

pub nobody_later : NobodyAsksLater
nobody_later w (event.Host h) nobody = host_asks_later w h nobody
nobody_later w (event.Take at) nobody = same_hosts w (step false w (event.Take at)).state (take_leaves w at).hosts nobody
nobody_later w (event.Perform at) nobody = same_hosts w (step false w (event.Perform at)).state (perform_leaves w at).hosts nobody
nobody_later w event.Close nobody = nobody

-- ## What a world tells

-- what each queue has performed, of all that have performed their counts
pub done_at : (labels : List Label) (work : List WorkEntry) (device first : ℕ) (counts : List ℕ) (i : ℕ) → all_done labels work device first counts ≡ true → i < length counts
    → get_or counts i 0 ≤ batches_done labels work (record { device = device; queue = first + i })
done_at labels work device first [] i done low = absurd (omega (arith, low))
done_at labels work device first (n ∷ ns) zero done low =
    let parts = and_parts (nat_le n (batches_done labels work (record { device = device; queue = first }))) (all_done labels work device (first + 1) ns) done in
    let here : first ≡ first + 0 = omega arith in
    subst (λ q. n ≤ batches_done labels work (record { device = device; queue = q })) here (leb-true n (batches_done labels work (record { device = device; queue = first })) parts.0)
done_at labels work device first (n ∷ ns) (suc i) done low =
    let parts = and_parts (nat_le n (batches_done labels work (record { device = device; queue = first }))) (all_done labels work device (first + 1) ns) done in
    let there : first + 1 + i ≡ first + suc i = omega arith in
    subst (λ q. get_or ns i 0 ≤ batches_done labels work (record { device = device; queue = q })) there (done_at labels work device (first + 1) ns i parts.1 (omega (arith, low)))

pub performed_at : (w : State) (at : QueueAt) (count : ℕ) (zeros : List ℕ) (i : ℕ) → i ≡ at.queue → i < length zeros → all_done (labels_of w) w.work at.device 0 (slice_set zeros i count) ≡ true
    → count ≤ batches_done (labels_of w) w.work at
performed_at w at count zeros i here low done =
    let long : length (slice_set zeros i count) ≡ length zeros = length-set zeros i count in
    let all = done_at (labels_of w) w.work at.device 0 (slice_set zeros i count) i done (omega (arith, low, long)) in
    let same : 0 + i ≡ at.queue = omega (arith, here) in
    let there : get_or (slice_set zeros i count) i 0 ≤ batches_done (labels_of w) w.work at = subst (λ q. get_or (slice_set zeros i count) i 0 ≤ batches_done (labels_of w) w.work (record { device = at.device; queue = q })) same all in
    omega (arith, there, get_or-set_same zeros i count 0 low)

-- none wants more than nothing
none_wanted : (labels : List Label) (work : List WorkEntry) (device first n : ℕ) → all_done labels work device first (replicate n 0) ≡ true
none_wanted labels work device first zero = refl
none_wanted labels work device first (suc n) =
    and_from (nat_le 0 (batches_done labels work (record { device = device; queue = first }))) (all_done labels work device (first + 1) (replicate n 0))
    (le-leb 0 (batches_done labels work (record { device = device; queue = first })) (omega arith)) (none_wanted labels work device (first + 1) n)

and-true : (b : Bool) → (b && true) ≡ b
and-true true = refl
and-true false = refl

-- of a queue alone
done_alone : (labels : List Label) (work : List WorkEntry) (device first n i count : ℕ) → i < n
    → all_done labels work device first (slice_set (replicate n 0) i count) ≡ nat_le count (batches_done labels work (record { device = device; queue = first + i }))
done_alone labels work device first zero i count low = absurd (omega (arith, low))
done_alone labels work device first (suc n) zero count low =
    let here : first + 0 ≡ first = omega arith in
    let rest : all_done labels work device (first + 1) (replicate n 0) ≡ true = none_wanted labels work device (first + 1) n in
    rw (here, rest) (and-true (nat_le count (batches_done labels work (record { device = device; queue = first }))))
done_alone labels work device first (suc n) (suc i) count low =
    let there : first + suc i ≡ first + 1 + i = omega arith in
    let none : nat_le 0 (batches_done labels work (record { device = device; queue = first })) ≡ true = le-leb 0 (batches_done labels work (record { device = device; queue = first })) (omega arith) in
    rw (there, none) (done_alone labels work device (first + 1) n i count (omega (arith, low)))

pub not_yet_at : (w : State) (at : QueueAt) (count i : ℕ) → i ≡ at.queue → i < 16 → all_done (labels_of w) w.work at.device 0 (slice_set (replicate 16 0) i count) ≡ false
    → batches_done (labels_of w) w.work at < count
not_yet_at w at count i here low none =
    let same : 0 + i ≡ at.queue = omega (arith, here) in
    let alone = sym (done_alone (labels_of w) w.work at.device 0 16 i count low) ∙ none in
    leb-false count (batches_done (labels_of w) w.work at) (subst (λ q. nat_le count (batches_done (labels_of w) w.work (record { device = at.device; queue = q })) ≡ false) same alone)

-- a queue that is enabled with something left can perform it
can_by : (w : State) (at : QueueAt) (op : OpLabel) (later : List OpLabel) → is_there w at ≡ true → ops_left w (labels_of w) at ≡ op ∷ later → is_enabled w at ≡ true → can_perform (labels_of w) w.work at op ≡ true
can_by w at op later there left enabled = by (can_perform (labels_of w) w.work at op) refl
  where
    take_is : step false w (event.Take at) ≡ idle w
    take_is = ap (λ (b : Bool). queue_step b w (take_step w (labels_of w) at (ops_left w (labels_of w) at))) there ∙ ap (λ (ops : List OpLabel). take_step w (labels_of w) at ops) left

    perform_is : step false w (event.Perform at) ≡ cond (can_perform (labels_of w) w.work at op) (did (with_op w at op)) (idle w)
    perform_is = ap (λ (b : Bool). queue_step b w (perform_step w (labels_of w) at (ops_left w (labels_of w) at))) there ∙ ap (λ (ops : List OpLabel). perform_step w (labels_of w) at ops) left

    by : (b : Bool) → can_perform (labels_of w) w.work at op ≡ b → can_perform (labels_of w) w.work at op ≡ true
    by true e = e
    by false e =
        let none : is_enabled w at ≡ false = ap₂ (λ (x y : Outcome). is_did x.reply || is_did y.reply) take_is (perform_is ∙ ap (λ (b : Bool). cond b (did (with_op w at op)) (idle w)) e) in
        let wrong : false ≡ true = sym none ∙ enabled in
        cc

-- The next operation of a queue that is there is the first of what is left.
record NextThere (w : State) (at : QueueAt) (op : OpLabel) : Type 0 where
  later : List OpLabel
  there : is_there w at ≡ true
  left : ops_left w (labels_of w) at ≡ op ∷ later

next_there : (w : State) (at : QueueAt) (op : OpLabel) → next_by w at ≡ Some op → NextThere w at op
next_there w at op e = by (is_there w at) refl (ops_left w (labels_of w) at) refl e
  where
    by : (b : Bool) → is_there w at ≡ b → (ops : List OpLabel) → ops_left w (labels_of w) at ≡ ops → cond b (slice_get ops 0) None ≡ Some op → NextThere w at op
    by true there [] left e = cc
    by true there (x ∷ ops) left e = let same : x ≡ op = cc in record { later = ops; there = there; left = left ∙ ap (λ (y : OpLabel). y ∷ ops) same }
    by false there ops left e = cc

-- an operation that ends no batch, where the batch goes on
goes_on_none : (w : State) (at : QueueAt) (op : OpLabel) (n : NextThere w at op) → GoesOn w at → ends_no_batch (labels_of w) w.work at op ≡ true
goes_on_none w at op n g = by n.later refl
  where
    left_is : left_there w at ≡ op ∷ n.later
    left_is = ap (λ (b : Bool). cond b (ops_left w (labels_of w) at) []) n.there ∙ n.left

    taken_is : taken_by w at ≡ taken_on w at
    taken_is = ap (λ (b : Bool). cond b (taken_on w at) 0) n.there

    by : (later : List OpLabel) → n.later ≡ later → ends_no_batch (labels_of w) w.work at op ≡ true
    by [] e = absurd (omega (arith, g.0, ap length left_is, ap length e))
    by (next ∷ later) e = ends_none w at op next later (n.left ∙ ap (λ (ops : List OpLabel). op ∷ ops) e) (omega (arith, g.1, taken_is))

pub told_next : (w : State) (at : QueueAt) (op : OpLabel) → next_by w at ≡ Some op → is_enabled w at ≡ true → (nobody_asks w ≡ true) ⊎ GoesOn w at → StandsNext at w op
told_next w at op e enabled quiet =
    let n = next_there w at op e in
    record {
      later = n.later;
      there = n.there;
      left = n.left;
      can = can_by w at op n.later n.there n.left enabled;
      quiet = elim quiet [ inl nobody ↦ inr nobody | inr goes ↦ inl (goes_on_none w at op n goes) ];
    }

pub told_unseen : (w : State) (at : QueueAt) (op : OpLabel) → next_by w at ≡ Some op → is_unseen op ≡ true → is_enabled w at ≡ true → (nobody_asks w ≡ true) ⊎ GoesOn w at → is_at_unseen at w ≡ true
told_unseen w at op e unseen enabled quiet = at_unseen at w op (told_next w at op e enabled quiet) unseen
