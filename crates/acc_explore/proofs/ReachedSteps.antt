-- A host that waits, or asks, for what is performed: its step, and what other events leave of it.
use Rattle.std.proofs.Common.{◌≡◌, ℕ, ◌+◌, ◌≤◌, ◌<◌, Bool, true, false, not, cond, List, [], ◌∷◌, ◌++◌, length, refl, sym, ap, ◌∙◌, Some, None, Option, Ok, Result, nat_le, slice_get, slice_set, arith}
use Rattle.std.proofs.lemmas.Bool.{and_from, and_parts, le-leb, leb-true, lt-leb}
use Rattle.acc_base.specs.Configurations.{Configuration}
use Rattle.acc_base.specs.declared.fault.Fault.{Fault}
use Rattle.acc_base.specs.declared.fault.Fault.TheVariants.{BadRange, TooMany}
use Rattle.acc_base.specs.declared.ids.QueueAt.{QueueAt}
use Rattle.acc_batch.specs.declared.entry.Told.{Told}
use Rattle.acc_batch.specs.declared.entry.Told.TheVariants as told
use Rattle.acc_batch.specs.declared.entry.WorkEntry.{WorkEntry}
use Rattle.acc_batch.specs.declared.entry.WorkEntry.TheVariants as entry
use Rattle.acc_batch.specs.declared.label.Label.{Label}
use Rattle.acc_batch.specs.Labels.{on_queue, whole_batches}
use Rattle.acc_batch.proofs.WholeBatches.{whole-more}
use Rattle.acc_core.specs.Machine.{State, step, labels_of, did, host_step, named_step, host_outcome, item_answer, item_state, wait_answer, waited_state, with_item, told_of, unless}
use Rattle.acc_host.specs.declared.event.Event.TheVariants as event
use Rattle.acc_host.specs.declared.state.After.TheVariants as go
use Rattle.acc_host.specs.Hosts.{HostView, wants, host_after, after_wait, after_answer}
use Rattle.acc_host.specs.Steps.{Want, stays, sets, refuses, places, awaits, records}
use Rattle.acc_work.specs.declared.item.ItemLabel.{ItemLabel}
use Rattle.acc_work.specs.declared.item.ItemLabel.TheVariants as to_record
use Rattle.acc_work.specs.declared.item.Shown.{Shown}
use Rattle.acc_work.specs.declared.log.TheConstants.{MAX_HOST_ITEMS}
use Rattle.acc_work.specs.Items.{shown_by}
use Rattle.acc_work.specs.Logs.{all_done, all_items, batches_done, performed}
use Rattle.acc_work.specs.Works.{item_fault}
use Rattle.acc_explore.specs.Alike.{AlikeLogs}
use Rattle.acc_explore.specs.ReachedWaits.{is_reached, is_reached_item, items_fit, statements_left, stands_at_reached, is_at_reached}
use Rattle.acc_explore.proofs.AlikeLogs.{same_itself}
use Rattle.acc_explore.proofs.LogReadings.{with_work}
use Rattle.acc_explore.proofs.MoreBatches.{whole_grows}
use Rattle.acc_explore.proofs.OtherHosts.{with_hosts}
use Rattle.acc_explore.proofs.StandingNext.{no_more}
use Rattle.acc_explore.proofs.StatementsLeft.{left_by, one_left, left_of}

-- ## The wait, or the question

-- what the host wants, and tells then
abbrev pub reach_want : Bool → ℕ → List ℕ → Want
reach_want false device counts = awaits device counts
reach_want true device counts = records (to_record.Test device counts)

abbrev pub reach_told : Bool → ℕ → List ℕ → Told
reach_told false device counts = told.Seen device counts
reach_told true device counts = told.Test device true counts

pub record Reaches (w : State) (want : Want) : Type 0 where
  pub asks : Bool
  pub device : ℕ
  pub counts : List ℕ
  pub is : want ≡ reach_want asks device counts
  pub done : all_done (labels_of w) w.work device 0 counts ≡ true

reaches_item : (w : State) (item : ItemLabel) → is_reached_item w item ≡ true → Reaches w (records item)
reaches_item w (to_record.Write array cell new_value) e = cc
reaches_item w (to_record.Print range) e = cc
reaches_item w (to_record.Seen device counts) e = cc
reaches_item w (to_record.Test device counts) e = record { asks = true; device = device; counts = counts; is = refl; done = e }

reaches : (w : State) (want : Want) → is_reached w want ≡ true → Reaches w want
reaches w stays e = cc
reaches w (sets ids) e = cc
reaches w (refuses fault) e = cc
reaches w (places d) e = cc
reaches w (awaits device counts) e = record { asks = false; device = device; counts = counts; is = refl; done = e }
reaches w (records item) e = reaches_item w item e

reach_is : (w : State) (asks : Bool) (device : ℕ) (counts : List ℕ) → is_reached w (reach_want asks device counts) ≡ all_done (labels_of w) w.work device 0 counts
reach_is w false device counts = refl
reach_is w true device counts = refl

reach_goes : (asks : Bool) (device : ℕ) (counts : List ℕ) → reach_want asks device counts ≡ stays → ⊥
reach_goes false device counts e = cc
reach_goes true device counts e = cc

-- A host stands at it, and all items that are still to come have room.
pub record StandsReached (w : State) (h : ℕ) : Type 0 where
  pub host : HostView
  pub there : slice_get w.hosts h ≡ Some host
  pub reach : Reaches w (wants w.config.devices host)
  pub fit : all_items w.work + statements_left w.hosts ≤ MAX_HOST_ITEMS

pub stands_reached : (w : State) (h : ℕ) → is_at_reached h w ≡ true → StandsReached w h
stands_reached w h e =
    let parts = and_parts (stands_at_reached w (slice_get w.hosts h)) (items_fit w) e in
    by (slice_get w.hosts h) refl parts.0 (leb-true (all_items w.work + statements_left w.hosts) MAX_HOST_ITEMS parts.1)
  where
    by : (o : Option HostView) → slice_get w.hosts h ≡ o → stands_at_reached w o ≡ true → all_items w.work + statements_left w.hosts ≤ MAX_HOST_ITEMS → StandsReached w h
    by None there e fit = cc
    by (Some host) there e fit = record { host = host; there = there; reach = reaches w (wants w.config.devices host) e; fit = fit }

pub at_reached : (w : State) (h : ℕ) → StandsReached w h → is_at_reached h w ≡ true
at_reached w h r =
    and_from (stands_at_reached w (slice_get w.hosts h)) (items_fit w)
    (ap (stands_at_reached w) r.there ∙ (ap (is_reached w) r.reach.is ∙ (reach_is w r.reach.asks r.reach.device r.reach.counts ∙ r.reach.done)))
    (le-leb (all_items w.work + statements_left w.hosts) MAX_HOST_ITEMS r.fit)

-- ## Items have room

pub fault_free : (work : List WorkEntry) (ok : Bool) → all_items work < MAX_HOST_ITEMS → item_fault false work ok ≡ cond (not ok) (Some BadRange) None
fault_free work ok few = ap (λ (b : Bool). cond b (Some TooMany) (cond (not ok) (Some BadRange) None)) (lt-leb MAX_HOST_ITEMS (all_items work) few)

module _ (w : State) (h : ℕ) (r : StandsReached w h) where
  abbrev pub what : Told
  what = reach_told r.reach.asks r.reach.device r.reach.counts

  abbrev pub new : HostView
  new = host_after (Ok go.Ended) r.host

  abbrev pub behind : State
  behind = with_item w h what

  abbrev pub hosts : List HostView
  hosts = slice_set w.hosts h new

  moving : wants w.config.devices r.host ≡ stays → ⊥
  moving e = reach_goes r.reach.asks r.reach.device r.reach.counts (sym r.reach.is ∙ e)

  pub own_left : 1 ≤ left_by r.host
  own_left = one_left w.config.devices r.host moving

  pub few : all_items w.work < MAX_HOST_ITEMS
  few = omega (arith, r.fit, own_left, left_of w.hosts h r.host r.there)

  -- ## Its step

  wait_is : (device : ℕ) (counts : List ℕ) → all_done (labels_of w) w.work device 0 counts ≡ true → wait_answer false w device counts ≡ Ok true
  wait_is device counts done =
      ap (λ (b : Bool). cond b (unless (item_fault false w.work true) true) (Ok false)) done ∙ ap (λ (fault : Option Fault). unless fault true) (fault_free w.work true few)

  test_is : (device : ℕ) (counts : List ℕ) → item_answer false w (to_record.Test device counts) ≡ Ok (shown_by (told_of w (to_record.Test device counts)))
  test_is device counts = ap (λ (fault : Option Fault). unless fault (shown_by (told_of w (to_record.Test device counts)))) (fault_free w.work true few)

  goes_by : (asks : Bool) (device : ℕ) (counts : List ℕ) → all_done (labels_of w) w.work device 0 counts ≡ true
      → host_step false w h r.host (reach_want asks device counts) ≡ did (with_hosts (with_item w h (reach_told asks device counts)) hosts)
  goes_by false device counts done =
      ap (λ (a : Result Bool Fault). host_outcome (waited_state w h device counts a) h r.host (after_wait a)) (wait_is device counts done)
  goes_by true device counts done =
      ap (λ (a : Result Shown Fault). host_outcome (item_state w h (to_record.Test device counts) a) h r.host (after_answer a)) (test_is device counts)
      ∙ ap (λ (b : Bool). did (with_hosts (with_item w h (told.Test device b counts)) hosts)) done

  pub goes : step false w (event.Host h) ≡ did (with_hosts behind hosts)
  goes =
      ap (named_step false w h) r.there
      ∙ (ap (host_step false w h r.host) r.reach.is ∙ goes_by r.reach.asks r.reach.device r.reach.counts r.reach.done)

  -- ## What it leaves to others

  -- Another event leaves two states, of this one and of the one behind the step, that are one but for the item; and it has told so many.
  pub record Beside (items : ℕ) (s t : State) : Type 0 where
    pub work : List WorkEntry
    pub moved : t ≡ with_work s work
    pub logs : AlikeLogs s.config.arrays work (entry.Item h what ∷ s.work)
    pub config : s.config ≡ w.config
    pub labels : (q : QueueAt) → (more : List Label) × (on_queue q (labels_of s) ≡ on_queue q (labels_of w) ++ more)
    pub done : (q : QueueAt) → length (performed q w.work) ≤ length (performed q s.work)
    pub count : all_items s.work ≡ all_items w.work + items

  pub same_beside : Beside 0 w behind
  same_beside = record {
    work = entry.Item h what ∷ w.work;
    moved = refl;
    logs = same_itself w.config.arrays (entry.Item h what ∷ w.work);
    config = refl;
    labels = no_more (labels_of w);
    done = λ q. omega arith;
    count = omega arith;
  }

  -- what is performed stays so
  pub all_stay : (s : State) (items : ℕ) (t : State) → Beside items s t → (device q : ℕ) (counts : List ℕ) → all_done (labels_of w) w.work device q counts ≡ true → all_done (labels_of s) s.work device q counts ≡ true
  all_stay s items t b device q [] e = refl
  all_stay s items t b device q (n ∷ ns) e =
      let at : QueueAt = record { device = device; queue = q } in
      let before = batches_done (labels_of w) w.work at in
      let now = batches_done (labels_of s) s.work at in
      let so_many = length (performed at s.work) in
      let parts = and_parts (nat_le n before) (all_done (labels_of w) w.work device (q + 1) ns) e in
      let grows : before ≤ now = omega (
        arith,
        whole_grows (on_queue at (labels_of w)) (length (performed at w.work)) so_many (b.done at),
        whole-more (on_queue at (labels_of w)) (b.labels at).0 so_many,
        ap (λ (ls : List Label). whole_batches ls so_many) (b.labels at).1,
      ) in
      and_from (nat_le n now) (all_done (labels_of s) s.work device (q + 1) ns) (le-leb n now (omega (arith, leb-true n before parts.0, grows))) (all_stay s items t b device (q + 1) ns parts.1)

  -- the host goes on to stand there
  abbrev pub again : (s : State) (items : ℕ) (t : State) → Beside items s t → slice_get s.hosts h ≡ Some r.host → all_items s.work + statements_left s.hosts ≤ MAX_HOST_ITEMS → StandsReached s h
  again s items t b there fit = record {
    host = r.host;
    there = there;
    reach = record {
      asks = r.reach.asks;
      device = r.reach.device;
      counts = r.reach.counts;
      is = ap (λ (c : Configuration). wants c.devices r.host) b.config ∙ r.reach.is;
      done = all_stay s items t b r.reach.device 0 r.reach.counts r.reach.done;
    };
    fit = fit;
  }
