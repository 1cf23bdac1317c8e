-- What accepted directives place is on queues that are there, and each batch has an operation.
use Rattle.std.proofs.Common.{inl, inr, ℕ, ◌<◌, List, [], ◌∷◌, length, drop, arith}
use Rattle.std.specs.Prelude.{All, ◌==◌, slice_index_or}
use Rattle.std.proofs.lemmas.Bool.{cases_Bool}
use Rattle.std.proofs.lemmas.List.Elements.{All-nil, All-cons, All-head, All-tail, All-filter, All-push}
use Rattle.acc_base.specs.declared.ids.QueueAt.{QueueAt}
use Rattle.acc_base.specs.Configurations.{Configuration}
use Rattle.acc_base.specs.declared.ids.TheConstants.{QUEUES}
use Rattle.acc_batch.specs.declared.label.Label.{Label}
use Rattle.acc_batch.specs.declared.label.OpLabel.{OpLabel}
use Rattle.acc_batch.specs.declared.label.OpLabel.TheVariants.{Close}
use Rattle.acc_place.specs.Directives.{Directive}
use Rattle.acc_place.specs.declared.directive.DataItem.{DataItem}
use Rattle.acc_place.specs.declared.directive.Kind.{Kind}
use Rattle.acc_place.specs.declared.directive.Kind.TheVariants as kind
use Rattle.acc_place.specs.declared.directive.PlaceEntry.{PlaceEntry}
use Rattle.acc_place.specs.declared.directive.PlaceEntry.TheVariants as noted
use Rattle.acc_place.specs.declared.directive.Region.{Region}
use Rattle.acc_place.specs.Batches.{walk_at, batch_of, labels_with}
use Rattle.acc_place.specs.Histories.{AllAccepted, standing}
use Rattle.acc_place.specs.Regions.{regions_of, first_region, without_open, region_of, regions_after}
use Rattle.acc_place.specs.Standings.{Standing, walk_of, subject_by, subject_left, counted_items}
use Rattle.acc_place.specs.Sound.{AcceptedAreThere}
use Rattle.acc_place.proofs.InArrays.{accepted_fits}
use Rattle.acc_place.proofs.LabelsSound.{walk_low}

abbrev IsThere : ℕ → Label → Type 0
IsThere devices l = (l.at.device < devices) × (l.at.queue < QUEUES) × (0 < length l.ops)

abbrev IsIn : ℕ → Region → Type 0
IsIn devices r = r.device < devices

record There (devices : ℕ) (st : Standing) : Type 0 where
  labels : All (IsThere devices) st.labels
  regions : All (IsIn devices) st.regions

left_in : (devices : ℕ) (d : Directive) (rs : List Region) → All (IsIn devices) rs → d.device < devices → (subject_left d (first_region rs)).device < devices
left_in devices d [] h low = low
left_in devices d (r ∷ rs) h low = All-head (IsIn devices) r rs h

-- a directive acts on a device that is there
acts_in : (devices : ℕ) (lengths : List ℕ) (rs : List Region) (host : ℕ) (d : Directive) (k : Kind) → All (IsIn devices) rs → d.device < devices → (subject_by lengths rs host d k).device < devices
acts_in devices lengths rs host d kind.EndData h low = left_in devices d (regions_of host rs) (All-filter (λ r. r.host == host) (IsIn devices) rs h) low
acts_in devices lengths rs host d (kind.Loop k) h low = low
acts_in devices lengths rs host d kind.Data h low = low
acts_in devices lengths rs host d kind.EnterData h low = low
acts_in devices lengths rs host d (kind.ExitData finalize) h low = low
acts_in devices lengths rs host d (kind.Update if_present) h low = low
acts_in devices lengths rs host d kind.Wait h low = low
acts_in devices lengths rs host d kind.AsyncTest h low = low
acts_in devices lengths rs host d kind.IsPresent h low = low

walk_in : (devices : ℕ) (st : Standing) (host : ℕ) (d : Directive) → All (IsIn devices) st.regions → d.device < devices → (walk_of st host d).device < devices
unfolding walk_of
walk_in devices st host d h low = acts_in devices st.lengths st.regions host d d.kind h low

without_in : (devices host : ℕ) (rs : List Region) → All (IsIn devices) rs → All (IsIn devices) (without_open host rs)
without_in devices host [] h = h
without_in devices host (r ∷ rs) h = elim (cases_Bool (r.host == host)) [
  | inl own ↦ rw own (All-tail (IsIn devices) r rs h)
  | inr other ↦ rw other (All-cons (IsIn devices) r (without_open host rs) (All-head (IsIn devices) r rs h) (without_in devices host rs (All-tail (IsIn devices) r rs h)))
]

regions_in : (devices host : ℕ) (d : Directive) (k : Kind) (counted : List DataItem) (rs : List Region) → All (IsIn devices) rs → d.device < devices → All (IsIn devices) (regions_after host d k counted rs)
regions_in devices host d kind.Data counted rs h low = All-cons (IsIn devices) (region_of host d counted) rs low h
regions_in devices host d kind.EndData counted rs h low = without_in devices host rs h
regions_in devices host d (kind.Loop k) counted rs h low = h
regions_in devices host d kind.EnterData counted rs h low = h
regions_in devices host d (kind.ExitData finalize) counted rs h low = h
regions_in devices host d (kind.Update if_present) counted rs h low = h
regions_in devices host d kind.Wait counted rs h low = h
regions_in devices host d kind.AsyncTest counted rs h low = h
regions_in devices host d kind.IsPresent counted rs h low = h

labels_in : (devices : ℕ) (at : QueueAt) (host items_done : ℕ) (labels : List Label) (ops : List OpLabel) → All (IsThere devices) labels → at.device < devices → at.queue < QUEUES → All (IsThere devices) (labels_with at host items_done labels ops)
labels_in devices at host items_done labels [] h device queue = h
labels_in devices at host items_done labels (op ∷ ops) h device queue = All-push (IsThere devices) labels _ h (device, queue, omega arith)

all_there : (config : Configuration) (history : List PlaceEntry) (counts : List ℕ) → AllAccepted config history counts → There config.devices (standing config history counts)
unfolding standing
all_there config [] counts h = record { labels = All-nil (IsThere config.devices); regions = All-nil (IsIn config.devices) }
all_there config (noted.Accepted host d ∷ before) counts h =
    let st = standing config before (drop 1 counts) in
    let t = all_there config before (drop 1 counts) h.1 in
    let fit = accepted_fits config st host d h.0 in
    let walk = walk_of st host d in
    record {
      labels = labels_in config.devices (walk_at walk) host (slice_index_or counts 0 0) st.labels (batch_of st walk) t.labels (walk_in config.devices st host d t.regions fit.device) (walk_low st host d);
      regions = regions_in config.devices host d d.kind (counted_items (st.marks walk.device) walk) st.regions t.regions fit.device;
    }
all_there config (noted.Closing ∷ before) counts h =
    let t = all_there config before counts h.1 in
    record { labels = t.labels; regions = t.regions }
all_there config (noted.Closed at ∷ before) counts h =
    let t = all_there config before counts h.1 in
    record {
      labels = labels_in config.devices at 0 0 (standing config before counts).labels (Close ∷ []) t.labels h.0.there.0 h.0.there.1;
      regions = t.regions;
    }

pub labels_there : AcceptedAreThere
labels_there config history counts h = (let t = all_there config history counts h in t.labels)
