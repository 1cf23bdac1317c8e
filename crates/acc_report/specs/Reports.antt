-- The report of a run: what each host printed and where it stands, what is present, and what each queue has performed.
use Rattle.std.specs.Prelude.{◌≡◌, ◌≤◌, ℕ, ◌++◌, List, [], length, map, reverse, take, slice_get, Option, Some, None, codes, decimal}
use Rattle.std.specs.List.{flat_map}
use Rattle.acc_base.specs.Configurations.{Configuration}
use Rattle.acc_base.specs.declared.config.TheConstants.{MAX_HOSTS}
use Rattle.acc_base.specs.declared.ids.QueueAt.{QueueAt}
use Rattle.acc_base.specs.declared.ids.TheConstants.{QUEUES}
use Rattle.acc_present.specs.Presences.{presences}
use Rattle.acc_batch.specs.Labels.{on_queue, ops_of}
use Rattle.acc_place.specs.declared.directive.PlaceEntry.{PlaceEntry}
use Rattle.acc_place.specs.Histories.{AllAccepted, standing}
use Rattle.acc_report.specs.Totals.{plain_batches, plain_ops}
use Rattle.acc_place.specs.Standings.{Standing}
use Rattle.acc_batch.specs.declared.entry.WorkEntry.{WorkEntry}
use Rattle.acc_work.specs.Logs.{performed}
use Rattle.acc_host.specs.declared.outcome.Discarded.{Discarded}
use Rattle.acc_host.specs.declared.outcome.Outcome.{Outcome}
use Rattle.acc_host.specs.declared.program.HostProgram.{HostProgram}
use Rattle.acc_host.specs.declared.program.Statement.{Statement}
use Rattle.acc_host.specs.declared.state.HostState.{HostState}
use Rattle.acc_host.specs.declared.state.HostState.TheVariants as state
use Rattle.acc_host.specs.Discards.{discarded_on}
use Rattle.acc_host.specs.Engines.{HostEntry}
use Rattle.acc_host.specs.Entries.{entries_merged, items_shown, own_of}
use Rattle.acc_host.specs.Hosts.{bare_statements}
use Rattle.acc_report.specs.Lines.{each_below, line_text, presence_text, state_text, totals_text}
use Rattle.acc_report.specs.Prints.{printed_lines}
use Rattle.acc_report.specs.declared.remains.Run.{Run}

-- What a run leaves: the configuration, the place history with its counts and the work log, each with its latest entry first;
-- where each host stands; and what was discarded.
pub record Left : Type 0 where
  pub config : Configuration
  pub history : List PlaceEntry
  pub counts : List ℕ
  pub work : List WorkEntry
  pub hosts : List HostState
  pub discarded : List Discarded

-- what an outcome tells, in these words
abbrev pub left_by : Outcome → Left
left_by o =
    record {
      config = o.config;
      history = reverse o.places.items;
      counts = reverse o.counts.items;
      work = reverse o.works.items;
      hosts = o.hosts.items;
      discarded = o.discarded.items;
    }

-- what a run leaves, in these words
abbrev pub left_after : Run → Left
left_after r =
    record {
      config = r.place.now.config;
      history = r.place.now.history;
      counts = r.place.now.counts;
      work = reverse r.works.now.items;
      hosts = r.hosts.now;
      discarded = r.discarded.now;
    }

abbrev pub standing_left : Left → Standing
standing_left left = standing left.config left.history left.counts

-- Each directive was accepted after those before it, and has its count; and there are no more hosts than a run may have.
pub record IsLeft (left : Left) : Type 0 where
  pub accepted : AllAccepted left.config left.history left.counts
  pub counted : length left.counts ≡ (standing_left left).accepted
  pub few : length left.hosts ≤ MAX_HOSTS

abbrev pub entries_left : Left → ℕ → List HostEntry
entries_left left h = entries_merged 0 (own_of left.config h left.history left.counts) (items_shown h left.work)

-- the statements that a host has ended
abbrev pub ended_in : HostState → List Statement → List Statement
ended_in state.Finished statements = statements
ended_in (state.Running ended) statements = take ended statements
ended_in (state.Refused ended line fault) statements = take ended statements

-- a host's number, what its ended statements printed, and where it stands
unfoldable pub host_text : Left → ℕ → HostProgram → HostState → List ℕ
host_text left h program here =
    codes "host " ++ (decimal h ++ (codes "\n"
    ++ (flat_map line_text (printed_lines left.config.devices 0 (ended_in here program.statements) (entries_left left h)) ++ state_text here)))

abbrev pub host_text_by : Left → ℕ → Option HostProgram → Option HostState → List ℕ
host_text_by left h None here = []
host_text_by left h (Some program) None = []
host_text_by left h (Some program) (Some here) = host_text left h program here

abbrev pub nth_host_text : Left → List HostProgram → ℕ → List ℕ
nth_host_text left programs h = host_text_by left h (slice_get programs h) (slice_get left.hosts h)

-- what is present on a device, by array in the order of declaration, then by lower bound
unfoldable pub device_text : List (List ℕ) → Left → ℕ → List ℕ
device_text names left device = flat_map (presence_text names device) (presences ((standing_left left).marks device))

-- the batches of directives placed on a queue, if there is one, and how many of their operations are performed and discarded
unfoldable pub queue_text : Left → QueueAt → List ℕ
queue_text left at =
    let labels = on_queue at (standing_left left).labels in
    totals_text at (length (plain_batches labels)) (length (plain_ops (performed at left.work))) (length (plain_ops (ops_of labels))) (length (plain_ops (discarded_on at left.discarded)))

unfoldable pub queues_text : Left → ℕ → List ℕ
queues_text left device = each_below QUEUES (λ q. queue_text left (record { device = device; queue = q }))

-- the whole report, where these are the names of the arrays and the programs of the hosts
unfoldable pub report : List (List ℕ) → List HostProgram → Left → List ℕ
report names programs left =
    each_below (length left.hosts) (nth_host_text left programs) ++ (each_below left.config.devices (device_text names left)
    ++ (each_below left.config.devices (queues_text left) ++ codes "end\n"))

-- Programs that differ in the two ids of their directives alone have one report.
abbrev pub IdsAreNotTold : Type 0
IdsAreNotTold =
    (names : List (List ℕ)) (programs others : List HostProgram) (left : Left)
    → map bare_statements programs ≡ map bare_statements others → report names programs left ≡ report names others left
