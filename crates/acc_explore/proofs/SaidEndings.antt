-- The schedule of a prefix, or of an ending, is read as its events.
use Rattle.std.proofs.Common.{◌≡◌, List, length, sym, ap, subst, ◌∙◌}
use Rattle.std.specs.Prelude.{All, Contains}
use Rattle.std.proofs.lemmas.List.{length-map}
use Rattle.std.proofs.lemmas.List.Elements.{All-contains, All-weaker}
use Rattle.acc_base.specs.Configurations.{Configuration}
use Rattle.acc_core.specs.Machine.{State}
use Rattle.acc_core.specs.Worlds.{first_state}
use Rattle.acc_host.specs.declared.event.Event.{Event}
use Rattle.acc_host.specs.declared.program.HostProgram.{HostProgram}
use Rattle.acc_host.specs.Hosts.{HostView, ready}
use Rattle.acc_explore.specs.Endings.{EndingsAreSaid}
use Rattle.acc_explore.specs.Prefixes.{PrefixesAreSaid}
use Rattle.acc_explore.specs.Runs.{after, open_events}
use Rattle.acc_explore.specs.Spellings.{IsNamed}
use Rattle.acc_explore.proofs.NamedEvents.{events_named}
use Rattle.acc_explore.proofs.OneScript.{script_kept}
use Rattle.acc_explore.proofs.SpelledSchedules.{spelled_is_read}

-- as many hosts, and the configuration
as_many : (config : Configuration) (programs : List HostProgram) (first : List Event) → length (after (first_state config programs) first).hosts ≡ length programs
as_many config programs first =
    let w = first_state config programs in
    let kept = script_kept w first in
    sym (length-map (after w first).hosts (λ (host : HostView). host.statements))
    ∙ ap length kept.statements
    ∙ length-map w.hosts (λ (host : HostView). host.statements)
    ∙ length-map programs ready

pub prefixes_said : PrefixesAreSaid
prefixes_said x config schedule first events start hosts devices read listed short few =
    let w = after (first_state config x.programs) first in
    let count : length x.start.hosts ≡ length x.programs = ap (λ (s : State). length s.hosts) start ∙ as_many config x.programs first in
    let same : x.start.config.devices ≡ config.devices = ap (λ (s : State). s.config.devices) start ∙ ap (λ (c : Configuration). c.devices) (script_kept (first_state config x.programs) first).config in
    let P = λ (event : Event). Contains (open_events x.closing x.start) event in
    let N = IsNamed (length x.start.hosts) x.start.config.devices in
    let named : All N events =
    All-weaker P N (λ event one. All-contains N (open_events x.closing x.start) event (events_named x.closing x.start) one) events listed in
    let there : All (IsNamed (length x.programs) config.devices) events =
    subst (λ d. All (IsNamed (length x.programs) d) events) same (subst (λ h. All (IsNamed h x.start.config.devices) events) count named) in
    spelled_is_read (length x.programs) config.devices schedule first events hosts devices read there short few

pub endings_said : EndingsAreSaid
endings_said x config schedule first e start hosts devices read is short few = prefixes_said x config schedule first e.events start hosts devices read is.events short few
