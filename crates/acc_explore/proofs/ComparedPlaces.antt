-- Places that were compared queue by queue, device by device and host by host, and found the same, are left alike.
use Rattle.std.proofs.Common.{inl, inr, ◌≡◌, ℕ, ◌<◌, ◌≤◌, Bool, true, false, ◌&&◌, cond, List, [], ◌∷◌, ◌++◌, length, map, drop, refl, sym, ap, ap₂, ◌∙◌, subst, Some, None, Option, nat_lt, arith}
use Rattle.std.specs.Prelude.{All, Contains, ◌≢◌, filter, not, ◌==◌}
use Rattle.std.proofs.lemmas.Bool.{cases_Bool, cases_lt, and_from, and_parts, eq-eqb, eqb-true, lt-ltb, ltb-true, ne_eqb}
use Rattle.std.proofs.lemmas.List.Elements.{All-head, All-tail}
use Rattle.acc_base.specs.Configurations.{Configuration}
use Rattle.acc_base.specs.declared.ids.QueueAt.{QueueAt}
use Rattle.acc_base.specs.declared.ids.TheConstants.{QUEUES}
use Rattle.acc_base.specs.Queues.{at_seat, queue_count, same_queue, seat}
use Rattle.acc_base.proofs.Members.{member_first, no_member}
use Rattle.acc_base.proofs.SameQueue.{same_queue_is}
use Rattle.acc_batch.specs.declared.label.Label.{Label}
use Rattle.acc_batch.specs.Labels.{on_queue, ops_of}
use Rattle.acc_batch.specs.Lives.{Made, blocks_made, on_device}
use Rattle.acc_host.specs.Entries.{Own, own_of}
use Rattle.acc_place.specs.declared.directive.Clause.{Clause}
use Rattle.acc_place.specs.declared.directive.Clause.TheVariants as clause
use Rattle.acc_place.specs.declared.directive.DataItem.{DataItem}
use Rattle.acc_place.specs.declared.directive.Kind.{Kind}
use Rattle.acc_place.specs.declared.directive.Kind.TheVariants as kind
use Rattle.acc_place.specs.declared.directive.PlaceEntry.{PlaceEntry}
use Rattle.acc_place.specs.declared.directive.PlaceEntry.TheVariants as noted
use Rattle.acc_place.specs.declared.directive.Region.{Region}
use Rattle.acc_place.specs.Directives.{Directive}
use Rattle.acc_place.specs.Histories.{AllAccepted, standing}
use Rattle.acc_place.specs.Plans.{PlaceView, standing_in}
use Rattle.acc_place.specs.Regions.{region_of, regions_after, regions_of}
use Rattle.acc_place.specs.Standings.{Standing, acts_if_present, all_asked, asked_item, change_at, counted_among, counted_with, marked_by, subject_by, walk_of}
use Rattle.acc_place.proofs.LabelsSound.{all_sound}
use Rattle.acc_place.proofs.LabelsThere.{labels_there}
use Rattle.acc_present.specs.declared.change.Change.{Change}
use Rattle.acc_present.specs.declared.change.Change.TheVariants.{StructuredUp}
use Rattle.acc_present.specs.Lifetimes.{Lifetime, live_lifetimes, lives, opened_lifetimes}
use Rattle.acc_present.specs.Marks.{Mark}
use Rattle.acc_present.specs.Presences.{is_present, presence_of, presences}
use Rattle.acc_core.specs.Machine.{State, standing_of}
use Rattle.acc_explore.specs.Alike.{AlikePlaces, own_directives}
use Rattle.acc_explore.specs.inner.Comparing.{AreComparedPlaces, CountsAll, IsCountedBelow, own_in}
use Rattle.acc_explore.proofs.AlikeRegions.{left_out}
use Rattle.acc_explore.proofs.OwnDirectives.{accepted_same}

-- ## Queues

abbrev is_queue_test : ℕ → QueueAt → Bool
is_queue_test devices at = nat_lt at.device devices && nat_lt at.queue QUEUES

-- a queue that is there has its seat
record IsSeated (config : Configuration) (at : QueueAt) : Type 0 where
  low : seat at < queue_count config
  same : at_seat (seat at) ≡ at

seated : (config : Configuration) (at : QueueAt) → is_queue_test config.devices at ≡ true → IsSeated config at
seated config at there =
    let parts = and_parts (nat_lt at.device config.devices) (nat_lt at.queue QUEUES) there in
    let device : at.device < config.devices = ltb-true at.device config.devices parts.0 in
    let queue : at.queue < QUEUES = ltb-true at.queue QUEUES parts.1 in
    let d : (at_seat (seat at)).device ≡ at.device = omega (arith, queue) in
    let q : (at_seat (seat at)).queue ≡ at.queue = omega (arith, queue) in
    record { low = omega (arith, device, queue); same = λ i. record { device = d i; queue = q i } }

-- nothing is placed on it
pub none_on : (devices : ℕ) (at : QueueAt) (labels : List Label) → (nat_lt at.device devices && nat_lt at.queue QUEUES) ≡ false
    → All (λ (l : Label). (l.at.device < devices) × (l.at.queue < QUEUES) × (0 < length l.ops)) labels → on_queue at labels ≡ []
none_on devices at [] none all = refl
none_on devices at (l ∷ ls) none all =
    let here = All-head (λ (l : Label). (l.at.device < devices) × (l.at.queue < QUEUES) × (0 < length l.ops)) l ls all in
    let rest = none_on devices at ls none (All-tail (λ (l : Label). (l.at.device < devices) × (l.at.queue < QUEUES) × (0 < length l.ops)) l ls all) in
    elim (cases_Bool (same_queue l.at at)) [
      | inl same ↦
          let is = same_queue_is l.at at same in
          let there : (nat_lt at.device devices && nat_lt at.queue QUEUES) ≡ true =
          subst (λ (q : QueueAt). (nat_lt q.device devices && nat_lt q.queue QUEUES) ≡ true) is
          (and_from (nat_lt l.at.device devices) (nat_lt l.at.queue QUEUES) (lt-ltb l.at.device devices here.0) (lt-ltb l.at.queue QUEUES here.1)) in
          let wrong : true ≡ false = sym there ∙ none in
          absurd cc
      | inr differ ↦ rw differ rest
    ]

-- ## Nothing is present on a device that isn't there

none_there : (devices device : ℕ) (labels : List Label) → (device < devices → ⊥) → All (λ (l : Label). (l.at.device < devices) × (l.at.queue < QUEUES) × (0 < length l.ops)) labels → on_device device labels ≡ []
none_there devices device [] out all = refl
none_there devices device (l ∷ ls) out all =
    let here = All-head (λ (l : Label). (l.at.device < devices) × (l.at.queue < QUEUES) × (0 < length l.ops)) l ls all in
    let rest = none_there devices device ls out (All-tail (λ (l : Label). (l.at.device < devices) × (l.at.queue < QUEUES) × (0 < length l.ops)) l ls all) in
    elim (cases_Bool (l.at.device == device)) [
      | inl same ↦ absurd (out (subst (λ n. n < devices) (eqb-true l.at.device device same) here.0))
      | inr differ ↦ rw differ rest
    ]

none_opened : (ls : List Lifetime) → ((l : Lifetime) → Contains ls l → ⊥) → ls ≡ []
none_opened [] none = refl
none_opened (l ∷ ls) none = absurd (none l (member_first l ls))

nothing_present : (ms : List Mark) → opened_lifetimes ms ≡ [] → presences ms ≡ []
unfolding presences live_lifetimes
nothing_present ms none = ap (λ (ls : List Lifetime). map (presence_of ms) (filter (lives ms) ls)) none

present_none : (config : Configuration) (history : List PlaceEntry) (counts : List ℕ) (device : ℕ) → AllAccepted config history counts → (device < config.devices → ⊥)
    → presences ((standing config history counts).marks device) ≡ []
present_none config history counts device all out =
    let st = standing config history counts in
    let booked = (all_sound config history counts all).booked device in
    let made : ops_of (on_device device st.labels) ≡ [] = ap ops_of (none_there config.devices device st.labels out (labels_there config history counts all)) in
    nothing_present (st.marks device)
    (none_opened (opened_lifetimes (st.marks device)) (λ l listed.
    let x : Made = record { block = l.block; range = l.range } in
    no_member x (subst (λ ops. Contains (blocks_made ops) x) made (booked.made_all l listed))))

-- ## The counts

-- closing has begun where there are more entries than directives
record ClosingIsTold (config : Configuration) (history : List PlaceEntry) (counts : List ℕ) : Type 0 where
  most : (standing config history counts).accepted ≤ length history
  begun : (standing config history counts).closing ≡ true → (standing config history counts).accepted < length history
  open_yet : (standing config history counts).closing ≡ false → (standing config history counts).accepted ≡ length history

closing_told : (config : Configuration) (history : List PlaceEntry) (counts : List ℕ) → AllAccepted config history counts → ClosingIsTold config history counts
unfolding standing
closing_told config [] counts all = record { most = omega arith; begun = λ e. absurd cc; open_yet = λ e. refl }
closing_told config (noted.Accepted host d ∷ before) counts all =
    let ih = closing_told config before (drop 1 counts) all.1 in
    record { most = omega (arith, ih.most); begun = λ e. (let few = ih.begun e in omega (arith, few)); open_yet = λ e. (let same = ih.open_yet e in omega (arith, same)) }
closing_told config (noted.Closing ∷ before) counts all =
    let ih = closing_told config before counts all.1 in
    record { most = omega (arith, ih.most); begun = λ e. omega (arith, ih.most); open_yet = λ e. absurd cc }
closing_told config (noted.Closed at ∷ before) counts all =
    let ih = closing_told config before counts all.1 in
    let few = ih.begun all.0.begun in
    record { most = omega (arith, ih.most); begun = λ e. omega (arith, few); open_yet = λ e. (let no : true ≡ false = sym all.0.begun ∙ e in absurd cc) }

closing_by : (config other : Configuration) (h g : List PlaceEntry) (c b : List ℕ) → ClosingIsTold config h c → ClosingIsTold other g b → length h ≡ length g
    → (standing config h c).accepted ≡ (standing other g b).accepted → (standing config h c).closing ≡ (standing other g b).closing
closing_by config other h g c b s t entries accepted = elim (cases_Bool (standing config h c).closing) [
  | inl first ↦ elim (cases_Bool (standing other g b).closing) [
    | inl second ↦ first ∙ sym second
    | inr open_yet ↦ absurd (omega (arith, s.begun first, t.open_yet open_yet, entries, accepted))
  ]
  | inr first ↦ elim (cases_Bool (standing other g b).closing) [
    | inl second ↦ absurd (omega (arith, t.begun second, s.open_yet first, entries, accepted))
    | inr open_yet ↦ first ∙ sym open_yet
  ]
]

-- ## Hosts that aren't there have no directives

none_own : (config : Configuration) (hosts host : ℕ) (history : List PlaceEntry) (counts : List ℕ) → hosts ≤ host → All (IsCountedBelow hosts) history → own_of config host history counts ≡ []
none_own config hosts host [] counts high below = refl
none_own config hosts host (noted.Accepted h d ∷ before) counts high below =
    let low = (All-head (IsCountedBelow hosts) (noted.Accepted h d) before below).0 in
    let differ : (h == host) ≡ false = ne_eqb h host (omega (arith, low, high)) in
    rw differ (none_own config hosts host before (drop 1 counts) high (All-tail (IsCountedBelow hosts) (noted.Accepted h d) before below))
none_own config hosts host (noted.Closing ∷ before) counts high below = none_own config hosts host before counts high (All-tail (IsCountedBelow hosts) noted.Closing before below)
none_own config hosts host (noted.Closed at ∷ before) counts high below = none_own config hosts host before counts high (All-tail (IsCountedBelow hosts) (noted.Closed at) before below)

-- ## The data constructs of a host, by its own directives

abbrev region_after : ℕ → Directive → Kind → List Region → List Region
region_after host d kind.Data rs = region_of host d d.items ∷ rs
region_after host d kind.EndData rs = drop 1 rs
region_after host d kind.EnterData rs = rs
region_after host d (kind.ExitData finalize) rs = rs
region_after host d (kind.Update if_present) rs = rs
region_after host d kind.Wait rs = rs
region_after host d (kind.Loop k) rs = rs
region_after host d kind.AsyncTest rs = rs
region_after host d kind.IsPresent rs = rs

abbrev regions_by : ℕ → List Region → List Own → List Region
regions_by host rs [] = rs
regions_by host rs (o ∷ os) = regions_by host (region_after host o.directive o.directive.kind rs) os

by_more : (host : ℕ) (rs : List Region) (os : List Own) (o : Own) → regions_by host rs (os ++ o ∷ []) ≡ region_after host o.directive o.directive.kind (regions_by host rs os)
by_more host rs [] o = refl
by_more host rs (x ∷ os) o = by_more host (region_after host x.directive x.directive.kind rs) os o

acts_always : (c : Clause) → c ≢ clause.NoCreate → acts_if_present kind.Data c ≡ false
acts_always clause.Copy h = refl
acts_always clause.Copyin h = refl
acts_always clause.Copyout h = refl
acts_always clause.Create h = refl
acts_always clause.Present h = refl
acts_always clause.NoCreate h = absurd (h refl)
acts_always clause.Delete h = refl
acts_always clause.UpdateSelf h = refl
acts_always clause.UpdateDevice h = refl

all_counted : (items : List DataItem) (ms : List Mark) → All (λ (i : DataItem). i.clause ≢ clause.NoCreate) items → counted_among ms (all_asked kind.Data items) ≡ items
all_counted [] ms all = refl
all_counted (i ∷ items) ms all =
    let acts = acts_always i.clause (All-head (λ (i : DataItem). i.clause ≢ clause.NoCreate) i items all) in
    let change : change_at ms (asked_item kind.Data i) ≡ Some StructuredUp = ap (λ (b : Bool). cond (b && not (is_present (presences ms) i.range)) None (Some StructuredUp)) acts in
    let rest = all_counted items (marked_by ms (asked_item kind.Data i)) (All-tail (λ (i : DataItem). i.clause ≢ clause.NoCreate) i items all) in
    ap₂ (λ (change : Option Change) (rest : List DataItem). counted_with change i rest) change rest

mine : (lengths : List ℕ) (rs : List Region) (host : ℕ) (d : Directive) (k : Kind) (ms : List Mark) → CountsAll k d.items
    → regions_of host (regions_after host d k (counted_among ms (all_asked k (subject_by lengths rs host d k).items)) rs) ≡ region_after host d k (regions_of host rs)
mine lengths rs host d kind.Data ms all = rw (eq-eqb host host refl, all_counted d.items ms all) refl
mine lengths rs host d kind.EndData ms all = left_out host host rs ∙ ap (λ b. cond b (drop 1 (regions_of host rs)) (regions_of host rs)) (eq-eqb host host refl)
mine lengths rs host d kind.EnterData ms all = refl
mine lengths rs host d (kind.ExitData finalize) ms all = refl
mine lengths rs host d (kind.Update if_present) ms all = refl
mine lengths rs host d kind.Wait ms all = refl
mine lengths rs host d (kind.Loop kernel) ms all = refl
mine lengths rs host d kind.AsyncTest ms all = refl
mine lengths rs host d kind.IsPresent ms all = refl

of_another : (rs : List Region) (h host : ℕ) (d : Directive) (k : Kind) (counted : List DataItem) → (h == host) ≡ false → regions_of host (regions_after h d k counted rs) ≡ regions_of host rs
of_another rs h host d kind.Data counted differ = rw differ refl
of_another rs h host d kind.EndData counted differ = left_out h host rs ∙ ap (λ b. cond b (drop 1 (regions_of host rs)) (regions_of host rs)) differ
of_another rs h host d kind.EnterData counted differ = refl
of_another rs h host d (kind.ExitData finalize) counted differ = refl
of_another rs h host d (kind.Update if_present) counted differ = refl
of_another rs h host d kind.Wait counted differ = refl
of_another rs h host d (kind.Loop kernel) counted differ = refl
of_another rs h host d kind.AsyncTest counted differ = refl
of_another rs h host d kind.IsPresent counted differ = refl

regions_told : (config : Configuration) (hosts host : ℕ) (history : List PlaceEntry) (counts : List ℕ) → All (IsCountedBelow hosts) history
    → regions_of host (standing config history counts).regions ≡ regions_by host [] (own_of config host history counts)
unfolding standing walk_of
regions_told config hosts host [] counts below = refl
regions_told config hosts host (noted.Accepted h d ∷ before) counts below =
    let st = standing config before (drop 1 counts) in
    let counted = (All-head (IsCountedBelow hosts) (noted.Accepted h d) before below).1 in
    let ih = regions_told config hosts host before (drop 1 counts) (All-tail (IsCountedBelow hosts) (noted.Accepted h d) before below) in
    let ms = st.marks (subject_by st.lengths st.regions h d d.kind).device in
    elim (cases_Bool (h == host)) [
      | inl its_own ↦ (
          let is : h ≡ host = eqb-true h host its_own in
          let one = mine st.lengths st.regions h d d.kind ms counted in
          let two = subst (λ (n : ℕ). regions_of n (regions_after h d d.kind (counted_among ms (all_asked d.kind (subject_by st.lengths st.regions h d d.kind).items)) st.regions) ≡ region_after n d d.kind (regions_of n st.regions)) is one in
          rw its_own (two ∙ (ap (region_after host d d.kind) ih ∙ sym (by_more host [] (own_of config host before (drop 1 counts)) _)))
          )
      | inr another ↦ rw another (of_another st.regions h host d d.kind _ another ∙ ih)
    ]
regions_told config hosts host (noted.Closing ∷ before) counts below = regions_told config hosts host before counts (All-tail (IsCountedBelow hosts) noted.Closing before below)
regions_told config hosts host (noted.Closed at ∷ before) counts below = regions_told config hosts host before counts (All-tail (IsCountedBelow hosts) (noted.Closed at) before below)

-- ## All

module _ (hosts : ℕ) (p q : PlaceView) (same : q.config ≡ p.config) (a : AllAccepted p.config p.history p.counts) (b : AllAccepted q.config q.history q.counts) (c : AreComparedPlaces hosts p q) where
  pub own_found : (host : ℕ) → own_in p host ≡ own_in q host
  own_found host = elim (cases_lt host hosts) [
    | inl low ↦ c.own host low
    | inr high ↦ none_own p.config hosts host p.history p.counts (omega (arith, high)) c.first ∙ sym (none_own q.config hosts host q.history q.counts (omega (arith, high)) c.second)
  ]

  other_there : (at : QueueAt) (v : Bool) → is_queue_test p.config.devices at ≡ v → is_queue_test q.config.devices at ≡ v
  other_there at v is = ap (λ (config : Configuration). is_queue_test config.devices at) same ∙ is

  placed : (at : QueueAt) → on_queue at (standing_in p).labels ≡ on_queue at (standing_in q).labels
  placed at = elim (cases_Bool (is_queue_test p.config.devices at)) [
    | inl there ↦ (
        let s = seated p.config at there in
        subst (λ (k : QueueAt). on_queue k (standing_in p).labels ≡ on_queue k (standing_in q).labels) s.same (c.batches (seat at) s.low)
        )
    | inr none ↦
        none_on p.config.devices at (standing_in p).labels none (labels_there p.config p.history p.counts a)
        ∙ sym (none_on q.config.devices at (standing_in q).labels (other_there at false none) (labels_there q.config q.history q.counts b))
  ]

  present : (device : ℕ) → presences ((standing_in p).marks device) ≡ presences ((standing_in q).marks device)
  present device = elim (cases_lt device p.config.devices) [
    | inl low ↦ c.present device low
    | inr high ↦
        present_none p.config p.history p.counts device a (λ low. omega (arith, low, high))
        ∙ sym (present_none q.config q.history q.counts device b (λ low. omega (arith, low, high, ap (λ (config : Configuration). config.devices) same)))
  ]

  pub places_found : AlikePlaces (standing_in p) (standing_in q)
  places_found = record {
    placed = placed;
    present = present;
    inside = λ host.
        regions_told p.config hosts host p.history p.counts c.first
        ∙ (ap (regions_by host []) (own_found host) ∙ sym (regions_told q.config hosts host q.history q.counts c.second));
    closing = closing_by p.config q.config p.history q.history p.counts q.counts (closing_told p.config p.history p.counts a) (closing_told q.config q.history q.counts b) c.entries
        (accepted_same p.config q.config p.history q.history p.counts q.counts own_found);
  }

-- ## The places of worlds

-- The place of a world has its histories.
pub record IsPlaceOf (w : State) (p : PlaceView) : Type 0 where
  pub config : p.config ≡ w.config
  pub history : p.history ≡ w.history
  pub counts : p.counts ≡ w.counts

accepted_in : (w : State) (p : PlaceView) → IsPlaceOf w p → AllAccepted w.config w.history w.counts → AllAccepted p.config p.history p.counts
accepted_in w p is all =
    subst (λ (x : Configuration). AllAccepted x p.history p.counts) (sym is.config)
    (subst (λ (x : List PlaceEntry). AllAccepted w.config x p.counts) (sym is.history)
    (subst (λ (x : List ℕ). AllAccepted w.config w.history x) (sym is.counts) all))

standing_is : (w : State) (p : PlaceView) → IsPlaceOf w p → standing_in p ≡ standing_of w
standing_is w p is = λ i. standing (is.config i) (is.history i) (is.counts i)

module _ (hosts : ℕ) (v w : State) (p q : PlaceView) (same : w.config ≡ v.config) (is_p : IsPlaceOf v p) (is_q : IsPlaceOf w q) (a : AllAccepted v.config v.history v.counts) (b : AllAccepted w.config w.history w.counts)
    (c : AreComparedPlaces hosts p q) where
  one_config : q.config ≡ p.config
  one_config = is_q.config ∙ (same ∙ sym is_p.config)

  pub worlds_leave_alike : AlikePlaces (standing_of v) (standing_of w)
  worlds_leave_alike =
      subst (λ (st : Standing). AlikePlaces st (standing_of w)) (standing_is v p is_p)
      (subst (λ (ot : Standing). AlikePlaces (standing_in p) ot) (standing_is w q is_q)
      (places_found hosts p q one_config (accepted_in v p is_p a) (accepted_in w q is_q b) c))

  pub worlds_own_same : (host : ℕ) → own_directives v host ≡ own_directives w host
  worlds_own_same host =
      sym (λ i. own_of (is_p.config i) host (is_p.history i) (is_p.counts i))
      ∙ (own_found hosts p q one_config (accepted_in v p is_p a) (accepted_in w q is_q b) c host ∙ (λ i. own_of (is_q.config i) host (is_q.history i) (is_q.counts i)))
