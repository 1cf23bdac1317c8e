-- States that are alike have the same report.
use Rattle.std.proofs.Common.{◌≡◌, ℕ, List, ◌++◌, length, map, refl, ap, ◌∙◌, Some, None, Option, codes, decimal, slice_get}
use mathlib.Core.Path.{fun_ext}
use Rattle.std.specs.List.{flat_map}
use Rattle.acc_base.specs.declared.ids.QueueAt.{QueueAt}
use Rattle.acc_base.specs.declared.ids.TheConstants.{QUEUES}
use Rattle.acc_batch.specs.Labels.{ops_of}
use Rattle.acc_core.specs.Legality.{IsLegalState}
use Rattle.acc_core.specs.Machine.{State, labels_of}
use Rattle.acc_host.specs.declared.program.HostProgram.{HostProgram}
use Rattle.acc_host.specs.declared.state.HostState.{HostState}
use Rattle.acc_host.specs.Discards.{discarded_on}
use Rattle.acc_host.specs.Entries.{entries_merged, items_shown, own_of}
use Rattle.acc_host.specs.Hosts.{state_of}
use Rattle.acc_report.specs.Lines.{each_below, line_text, presence_text, state_text, totals_text}
use Rattle.acc_report.specs.Prints.{printed_lines}
use Rattle.acc_report.specs.Reports.{Left, standing_left, ended_in, host_text, host_text_by, nth_host_text, device_text, queue_text, queues_text, report}
use Rattle.acc_report.specs.Totals.{plain_batches, plain_ops}
use Rattle.acc_work.specs.Logs.{performed}
use Rattle.acc_explore.specs.Alike.{Alike, AlikePlaces}
use Rattle.acc_explore.specs.Runs.{left_to_tell, report_of}
use Rattle.acc_explore.proofs.AlikeSteps.{in_order_there}
use Rattle.acc_explore.proofs.LogReadings.{performed_same}

-- Two runs leave the same to be told.
record SameLeft (old new : Left) : Type 0 where
  config : old.config ≡ new.config
  hosts : old.hosts ≡ new.hosts
  discarded : old.discarded ≡ new.discarded
  places : AlikePlaces (standing_left old) (standing_left new)
  own : (h : ℕ) → own_of old.config h old.history old.counts ≡ own_of new.config h new.history new.counts
  shown : (h : ℕ) → items_shown h old.work ≡ items_shown h new.work
  done : (at : QueueAt) → performed at old.work ≡ performed at new.work

module _ (old new : Left) (s : SameLeft old new) where
  -- a host's lines are read off its own directives and items
  host_text_same : (h : ℕ) (program : HostProgram) (here : HostState) → host_text old h program here ≡ host_text new h program here
  unfolding host_text
  host_text_same h program here = λ i.
      codes "host " ++ (decimal h ++ (codes "\n"
      ++ (flat_map line_text (printed_lines (s.config i).devices 0 (ended_in here program.statements) (entries_merged 0 (s.own h i) (s.shown h i))) ++ state_text here)))

  by_host : (h : ℕ) (program : Option HostProgram) (here : Option HostState) → host_text_by old h program here ≡ host_text_by new h program here
  by_host h None here = refl
  by_host h (Some program) None = refl
  by_host h (Some program) (Some here) = host_text_same h program here

  -- what is present
  device_same : (names : List (List ℕ)) (device : ℕ) → device_text names old device ≡ device_text names new device
  unfolding device_text
  device_same names device = ap (flat_map (presence_text names device)) (s.places.present device)

  -- a queue's line counts what was placed and what it has performed
  queue_text_same : (at : QueueAt) → queue_text old at ≡ queue_text new at
  unfolding queue_text
  queue_text_same at = λ i.
      totals_text at (length (plain_batches (s.places.placed at i))) (length (plain_ops (s.done at i))) (length (plain_ops (ops_of (s.places.placed at i)))) (length (plain_ops (discarded_on at (s.discarded i))))

  queues_same : (device : ℕ) → queues_text old device ≡ queues_text new device
  unfolding queues_text
  queues_same device = ap (each_below QUEUES) (fun_ext (λ q. queue_text_same (record { device = device; queue = q })))

  text_same : (names : List (List ℕ)) (programs : List HostProgram) → report names programs old ≡ report names programs new
  unfolding report
  text_same names programs =
      let here : (h : ℕ) → nth_host_text old programs h ≡ nth_host_text new programs h =
      λ h. by_host h (slice_get programs h) (slice_get old.hosts h) ∙ ap (λ (hosts : List HostState). host_text_by new h (slice_get programs h) (slice_get hosts h)) s.hosts in
      λ i.
      each_below (length (s.hosts i)) (fun_ext here i)
      ++ (each_below (s.config i).devices (fun_ext (λ device. device_same names device) i)
      ++ (each_below (s.config i).devices (fun_ext (λ device. queues_same device) i) ++ codes "end\n"))

pub report_same : (names : List (List ℕ)) (programs : List HostProgram) (old new : State) → IsLegalState old → IsLegalState new → Alike old new
    → report_of names programs old ≡ report_of names programs new
report_same names programs old new a b s =
    text_same (left_to_tell old) (left_to_tell new)
    (record {
      config = s.config;
      hosts = ap (map state_of) s.hosts;
      discarded = refl;
      places = s.places;
      own = s.own;
      shown = s.work.shown;
      done = performed_same (labels_of old) old.work new.work s.work.done a.kept.prefix (in_order_there old new s b.kept.prefix);
    })
    names programs
