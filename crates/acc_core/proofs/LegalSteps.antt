-- The histories are legal at the start, and each step keeps them legal.
use Rattle.std.proofs.Common.{inl, inr, ◌≡◌, ℕ, true, false, List, [], ◌∷◌, ◌++◌, length, subst, arith, None}
use Rattle.std.specs.Prelude.{All}
use Rattle.std.proofs.lemmas.Bool.{and_parts, cases_Bool}
use Rattle.std.proofs.lemmas.List.Elements.{All-cons, All-nil}
use Rattle.acc_base.specs.declared.ids.QueueAt.{QueueAt}
use Rattle.acc_place.specs.Directives.{Directive}
use Rattle.acc_host.specs.declared.event.Event.{Event}
use Rattle.acc_host.specs.declared.state.Reply.{Reply}
use Rattle.acc_batch.specs.declared.entry.Told.{Told}
use Rattle.acc_batch.specs.declared.label.Label.{Label}
use Rattle.acc_batch.specs.declared.label.OpLabel.{OpLabel}
use Rattle.acc_host.specs.Hosts.{HostView}
use Rattle.acc_place.specs.Accepting.{refusal}
use Rattle.acc_place.specs.Batches.{batch_of, next_number, walk_at}
use Rattle.acc_place.specs.Histories.{standing}
use Rattle.acc_batch.specs.Labels.{on_queue, batch_at}
use Rattle.acc_work.specs.Orders.{ShowsTruth}
use Rattle.acc_core.specs.Legality.{IsLegalState}
use Rattle.acc_work.specs.Logs.{performed, items_of, await_allows, host_allows}
use Rattle.acc_work.proofs.Extended.{extends_behind, kept_more}
use Rattle.acc_work.proofs.KeptSteps.{kept_first, kept_next, kept_told}
use Rattle.acc_core.specs.Machine.{State, Step, Runs, standing_of, ops_left, can_perform, with_item, with_op, with_directive}
use Rattle.acc_place.specs.Standings.{walk_of}
use Rattle.acc_place.specs.Sound.{is_close, CloseLast}
use Rattle.acc_place.proofs.LastClose.{closes_last}
use Rattle.acc_core.proofs.StepChanges.{Step-by}
use Rattle.acc_core.proofs.ClosedState.{legal_close}
use Rattle.acc_core.proofs.LogEntries.{rise_accept, rise_item}
use Rattle.acc_core.proofs.NextOfQueue.{next_of_all, next_uses_live}
use Rattle.acc_core.proofs.AddedLabels.{added, added_filled, labelled_is}

-- the histories are legal before the first event
pub legal_start : (w : State) → w.history ≡ [] → w.work ≡ [] → IsLegalState w
legal_start w no_history no_work = record {
  accepted = rw no_history tt;
  counts = λ h. rw (no_history, no_work) (omega arith);
  kept = rw no_work (kept_first w.config.arrays (standing_of w).labels);
  behind = rw no_work tt;
}

-- other hosts leave them legal
pub legal_hosts : (w : State) (hosts : List HostView) → IsLegalState w → IsLegalState (record w { hosts = hosts })
legal_hosts w hosts l = record { accepted = l.accepted; counts = l.counts; kept = l.kept; behind = l.behind }

-- so do other counts of batches that were taken
pub legal_taken : (w : State) (taken : List ℕ) → IsLegalState w → IsLegalState (record w { taken = taken })
legal_taken w taken l = record { accepted = l.accepted; counts = l.counts; kept = l.kept; behind = l.behind }

-- so does one more item that shows what is so
pub legal_item : (w : State) (h : ℕ) (s : Told) → IsLegalState w → ShowsTruth w.config.arrays (standing_of w).labels s w.work → IsLegalState (with_item w h s)
legal_item w h s l truth = record { accepted = l.accepted; counts = rise_item w h s l.counts; kept = kept_told w.config.arrays (standing_of w).labels w.work h s l.kept truth; behind = l.behind }

-- the labels that a directive adds
abbrev pub more_labels : State → ℕ → Directive → List Label
more_labels w h d =
    added (walk_at (walk_of (standing_of w) h d)) (next_number (walk_at (walk_of (standing_of w) h d)) (standing_of w).labels) h (items_of h w.work) (batch_of (standing_of w) (walk_of (standing_of w) h d))

-- these labels stand behind all others
pub labels_accepted : (w : State) (h : ℕ) (d : Directive) → (standing_of (with_directive w h d)).labels ≡ (standing_of w).labels ++ more_labels w h d
unfolding standing
labels_accepted w h d =
    labelled_is (walk_at (walk_of (standing_of w) h d)) h (items_of h w.work) (standing_of w).labels (batch_of (standing_of w) (walk_of (standing_of w) h d))

-- one more directive, without a fault, leaves the histories legal
pub legal_accepted : (w : State) (h : ℕ) (d : Directive) → IsLegalState w → refusal w.config (standing_of w) h d ≡ None → IsLegalState (with_directive w h d)
legal_accepted w h d l e =
    let labels = (standing_of w).labels in
    let same = labels_accepted w h d in
    record {
      accepted = (e, l.accepted);
      counts = rise_accept w h d l.counts;
      kept = rw same (kept_more w.config.arrays labels (labels ++ more_labels w h d) w.work (extends_behind labels (more_labels w h d) (added_filled (walk_at (walk_of (standing_of w) h d)) (next_number (walk_at (walk_of (standing_of w) h d)) labels) h (items_of h w.work) (batch_of (standing_of w) (walk_of (standing_of w) h d)))) l.kept);
      behind = l.behind;
    }

-- what stands before another operation doesn't close
no_end : (xs : List OpLabel) (op : OpLabel) (later : List OpLabel) → xs ++ op ∷ later ≡ [] → ⊥
no_end [] op later e = cc
no_end (x ∷ xs) op later e = cc

none_behind : (done : List OpLabel) (op : OpLabel) (later : List OpLabel) → CloseLast (done ++ op ∷ later) → All (λ (o : OpLabel). is_close o ≡ false) done
none_behind [] op later h = All-nil (λ (o : OpLabel). is_close o ≡ false)
none_behind (o ∷ done) op later h = All-cons (λ (o : OpLabel). is_close o ≡ false) o done (goes o done h.0) (none_behind done op later h.1)
  where
    goes : (o : OpLabel) (xs : List OpLabel) → (is_close o ≡ true → xs ++ op ∷ later ≡ []) → is_close o ≡ false
    goes o xs last = elim (cases_Bool (is_close o)) [ inl closes ↦ absurd (no_end xs op later (last closes)) | inr goes_on ↦ goes_on ]

-- so does one more operation, the next of its queue, that can be performed
pub legal_performed : (w : State) (at : QueueAt) (op : OpLabel) (ops : List OpLabel) → IsLegalState w → ops_left w (standing_of w).labels at ≡ op ∷ ops → can_perform (standing_of w).labels w.work at op ≡ true → IsLegalState (with_op w at op)
legal_performed w at op ops l e allowed =
    let labels = (standing_of w).labels in
    let next = next_of_all w at op ops l.kept.prefix e in
    let both = and_parts (await_allows labels w.work at.device op) (host_allows (batch_at (on_queue at labels) (length (performed at w.work))) w.work) allowed in
    record {
      accepted = l.accepted;
      counts = l.counts;
      kept = kept_next w.config.arrays labels w.work at op l.kept next both.0 both.1 (next_uses_live w at op ops l e);
      behind = (none_behind (performed at w.work) op next.later (subst CloseLast next.split (closes_last w.config w.history w.counts at l.accepted)), l.behind);
    }

-- Each step keeps the histories legal.
pub Step-legal : (old new : State) (e : Event) (r : Reply) → IsLegalState old → Step old e r new → IsLegalState new
Step-legal old new e r l s =
    Step-by IsLegalState old new e r
    (record {
      stays = l;
      hosts = λ hosts. legal_hosts old hosts l;
      item = λ hosts h s truth. legal_item (record old { hosts = hosts }) h s (legal_hosts old hosts l) truth;
      accepted = λ hosts h d e. legal_accepted (record old { hosts = hosts }) h d (legal_hosts old hosts l) e;
      taken = λ taken. legal_taken old taken l;
      performed = λ at op ops e allowed. legal_performed old at op ops l e allowed;
      closed = legal_close old l;
    })
    s

-- Each run keeps the histories legal.
pub runs_legal : (events : List Event) (replies : List Reply) (old new : State) → IsLegalState old → Runs old events replies new → IsLegalState new
runs_legal [] [] old new l h = rw h l
runs_legal [] (r ∷ replies) old new l h = absurd h
runs_legal (e ∷ events) [] old new l h = absurd h
runs_legal (e ∷ events) (r ∷ replies) old new l h = runs_legal events replies h.0 new (Step-legal old h.0 e r l h.1) h.2
