-- A directive behind two histories that leave alike: it is refused for the same, places the same, is answered the same, and leaves alike.
use Rattle.std.proofs.Common.{◌≡◌, ℕ, ◌+◌, cond, ◌||◌, List, [], ◌∷◌, length, map, refl, sym, ap, ◌∙◌, subst, Some, None, Option, nat_lt, nat_le, ◌==◌}
use Rattle.std.specs.Prelude.{true, false}
use Rattle.acc_base.specs.declared.fault.Fault.{Fault}
use Rattle.acc_base.specs.declared.fault.Fault.TheVariants.{Closed, BadDevice, BadAsync, TooMany, OutsideRange, NoRegion}
use Rattle.acc_base.specs.Configurations.{Configuration}
use Rattle.acc_batch.specs.Awaits.{behind_awaits}
use Rattle.acc_batch.specs.declared.label.OpLabel.{OpLabel}
use Rattle.acc_place.specs.Accepting.{refusal, refusal_on, first_fault, fault_where, has_too_many, ends_no_region, is_past}
use Rattle.acc_place.specs.Batches.{answer_of, batch_of, counts_queues, is_answered, labels_with, operations_of, placed_batch, walk_at}
use Rattle.acc_place.specs.Directives.{Directive}
use Rattle.acc_place.specs.declared.directive.DataItem.{DataItem}
use Rattle.acc_place.specs.declared.directive.TheConstants.{MAX_ITEMS, MAX_DIRECTIVES}
use Rattle.acc_place.specs.Histories.{after_walk}
use Rattle.acc_place.specs.inner.Judging.{fault_or}
use Rattle.acc_place.specs.Regions.{first_region, regions_after, regions_of}
use Rattle.acc_place.specs.Standings.{Standing, Subject, Walk, counted_items, marks_behind, subject_by, walk_of, walk_on}
use Rattle.acc_place.specs.Targets.{has_bad_queue, waits_on_too_many}
use Rattle.acc_present.specs.Legality.{AllLegal}
use Rattle.acc_present.specs.Lifetimes.{opened_lifetimes}
use Rattle.acc_present.specs.Presences.{presences}
use Rattle.acc_explore.specs.Alike.{AlikePlaces}
use Rattle.acc_explore.proofs.AlikeLabels.{SameByQueue, behind_same, counts_same, labels_same, placed_same}
use Rattle.acc_explore.proofs.AlikeMarks.{SameMarks, SameWalk, faults_same, fits, walks_same}
use Rattle.acc_explore.proofs.AlikeRegions.{SameByHost, deep_same, regions_same, subject_same}

-- Two histories leave alike, over arrays of one length; they have as many directives, and have opened as many lifetimes on each device.
pub record LeaveAlike (st ot : Standing) : Type 0 where
  pub lengths : st.lengths ≡ ot.lengths
  pub places : AlikePlaces st ot
  pub accepted : st.accepted ≡ ot.accepted
  pub opened : (device : ℕ) → length (opened_lifetimes (st.marks device)) ≡ length (opened_lifetimes (ot.marks device))

abbrev pub LegalOn : Standing → Type 0
LegalOn st = (device : ℕ) → AllLegal (st.marks device)

-- the faults before those of the items, one behind another
first_of_all : (a b c d e : Option Fault) (rest : List (Option Fault)) → first_fault (a ∷ b ∷ c ∷ d ∷ e ∷ rest) ≡ fault_or a (fault_or b (fault_or c (fault_or d (fault_or e (first_fault rest)))))
first_of_all (Some f) b c d e rest = refl
first_of_all None (Some f) c d e rest = refl
first_of_all None None (Some f) d e rest = refl
first_of_all None None None (Some f) e rest = refl
first_of_all None None None None (Some f) rest = refl
first_of_all None None None None None rest = refl

module _ (st ot : Standing) (s : LeaveAlike st ot) where
  marks_on : (device : ℕ) → SameMarks (st.marks device) (ot.marks device)
  marks_on device = record { present = s.places.present device; opened = s.opened device }

  pub walk_same : (host : ℕ) (d : Directive) → walk_of st host d ≡ walk_of ot host d
  unfolding walk_of
  walk_same host d =
      ap (λ (x : Subject). walk_on x d)
      (ap (λ lengths. subject_by lengths st.regions host d d.kind) s.lengths ∙ subject_same ot.lengths st.regions ot.regions host d d.kind s.places.inside)

  -- ## Its fault

  refused_on : (config : Configuration) (host : ℕ) (d : Directive) (x : Subject) → LegalOn st → LegalOn ot → refusal_on config st host d (walk_on x d) ≡ refusal_on config ot host d (walk_on x d)
  refused_on config host d x a b =
      let walk = walk_on x d in
      let ms = st.marks x.device in
      let ns = ot.marks x.device in
      let last = fault_where (is_past walk.runs (map (λ a. a.item) walk.items)) OutsideRange ∷ [] in
      let items = faults_same config d.kind x.items ms ns last (fits d.kind ms (a x.device)) (fits d.kind ns (b x.device)) (marks_on x.device) in
      first_of_all (fault_where st.closing Closed) (fault_where (nat_le config.devices d.device) BadDevice) (fault_where (has_bad_queue d) BadAsync)
      (fault_where (has_too_many st host d walk) TooMany) (fault_where (ends_no_region d.kind (first_region (regions_of host st.regions))) NoRegion) _
      ∙ ((λ i.
      fault_or (fault_where (s.places.closing i) Closed)
      (fault_or (fault_where (nat_le config.devices d.device) BadDevice)
      (fault_or (fault_where (has_bad_queue d) BadAsync)
      (fault_or (fault_where (nat_lt MAX_ITEMS (length walk.items) || (waits_on_too_many d.waits || (deep_same d.kind host st.regions ot.regions s.places.inside i || nat_le MAX_DIRECTIVES (s.accepted i)))) TooMany)
      (fault_or (fault_where (ends_no_region d.kind (first_region (s.places.inside host i))) NoRegion)
      (items i))))))
      ∙ sym (first_of_all (fault_where ot.closing Closed) (fault_where (nat_le config.devices d.device) BadDevice) (fault_where (has_bad_queue d) BadAsync)
      (fault_where (has_too_many ot host d walk) TooMany) (fault_where (ends_no_region d.kind (first_region (regions_of host ot.regions))) NoRegion) _))

  pub refusal_same : (config : Configuration) (host : ℕ) (d : Directive) → LegalOn st → LegalOn ot → refusal config st host d ≡ refusal config ot host d
  unfolding refusal walk_of
  refusal_same config host d a b =
      refused_on config host d (subject_by st.lengths st.regions host d d.kind) a b ∙ ap (λ (walk : Walk). refusal_on config ot host d walk) (walk_same host d)

  -- ## What an accepted one places, what it is answered, and what it leaves

  module _ (walk : Walk) (a : AllLegal (marks_behind (st.marks walk.device) walk)) (b : AllLegal (marks_behind (ot.marks walk.device) walk)) where
    walked : SameWalk walk (st.marks walk.device) (ot.marks walk.device)
    walked = walks_same walk (st.marks walk.device) (ot.marks walk.device) a b (marks_on walk.device)

    pub batch_same : batch_of st walk ≡ batch_of ot walk
    unfolding batch_of
    batch_same =
        ap (behind_awaits walk.alone walk.waits (walk_at walk) st.labels) walked.operations
        ∙ behind_same walk.alone walk.waits (walk_at walk) st.labels ot.labels (operations_of ot walk) s.places.placed

    pub answer_same : (d : Directive) → answer_of st d walk ≡ answer_of ot d walk
    unfolding answer_of
    answer_same d = λ i. record {
      batch = (placed_same st.labels ot.labels (walk_at walk) (batch_of st walk) s.places.placed ∙ ap (placed_batch (walk_at walk) ot.labels) batch_same) i;
      counts = counts_same (counts_queues d.kind walk.queue) st.labels ot.labels walk.device walk.waits s.places.placed i;
      present = is_answered d.kind (s.places.present walk.device i) d.items;
    }

    pub leave_alike : (host items_done : ℕ) (d : Directive) → LeaveAlike (after_walk st host items_done d walk) (after_walk ot host items_done d walk)
    leave_alike host items_done d =
        let ms = marks_behind (st.marks walk.device) walk in
        let ns = marks_behind (ot.marks walk.device) walk in
        record {
          lengths = s.lengths;
          accepted = ap (λ n. n + 1) s.accepted;
          opened = λ device.
              elim (device == walk.device) as (λ v. length (opened_lifetimes (cond v ms (st.marks device))) ≡ length (opened_lifetimes (cond v ns (ot.marks device))))
              [ true ↦ walked.behind.opened | false ↦ s.opened device ];
          places = record {
            placed = subst (λ (ops : List OpLabel). SameByQueue (labels_with (walk_at walk) host items_done st.labels (batch_of st walk)) (labels_with (walk_at walk) host items_done ot.labels ops)) batch_same
                (labels_same st.labels ot.labels (walk_at walk) host items_done (batch_of st walk) s.places.placed);
            present = λ device.
                elim (device == walk.device) as (λ v. presences (cond v ms (st.marks device)) ≡ presences (cond v ns (ot.marks device)))
                [ true ↦ walked.behind.present | false ↦ s.places.present device ];
            inside = subst (λ (items : List DataItem). SameByHost (regions_after host d d.kind (counted_items (st.marks walk.device) walk) st.regions) (regions_after host d d.kind items ot.regions)) walked.counted
                (regions_same st.regions ot.regions host d d.kind (counted_items (st.marks walk.device) walk) s.places.inside);
            closing = s.places.closing;
          };
        }
