-- The steps of a replay, one line for each.
use Rattle.std.specs.Prelude.{◌≡◌, ℕ, ◌+◌, List, [], ◌∷◌, ◌++◌, map, Result, Ok, Err}
use Rattle.acc_core.specs.Machine.{State, Step}
use Rattle.acc_host.specs.declared.event.Event.{Event}
use Rattle.acc_host.specs.declared.state.Reply.{Reply}
use Rattle.acc_report.specs.Puts.{Sink, Puts}
use Rattle.acc_schedule.specs.Schedules.{lines, schedule_of}
use Rattle.acc_token.specs.declared.read_fault.ReadFault.{ReadFault}
use Rattle.acc_steps.specs.declared.walk.Numbered.{Numbered}
use Rattle.acc_steps.specs.Deeds.{deed_of, line_at}
use Rattle.acc_steps.specs.Lines.{Words, step_text}

-- ## Events by line

abbrev pub events_or_none : Result (List Event) ReadFault → List Event
events_or_none (Ok events) = events
events_or_none (Err fault) = []

-- the events of a line: those of a schedule that has no other line
abbrev pub events_in_line : ℕ → ℕ → List ℕ → List Event
events_in_line hosts devices line = events_or_none (schedule_of hosts devices line)

-- events of the line with this number
abbrev pub on_line : ℕ → List Event → List Numbered
on_line number events = map (λ e. record { line = number; event = e }) events

-- the events of lines that are numbered from here on
abbrev pub numbered_from : ℕ → ℕ → ℕ → List (List ℕ) → List Numbered
numbered_from hosts devices number [] = []
numbered_from hosts devices number (line ∷ others) =
    on_line number (events_in_line hosts devices line) ++ numbered_from hosts devices (number + 1) others

-- the events of a schedule, each with the number of its line, from 1
abbrev pub numbered_events : ℕ → ℕ → List ℕ → List Numbered
numbered_events hosts devices text = numbered_from hosts devices 1 (lines text)

-- The events of a schedule are those of its lines.
abbrev pub EventsAreByLine : Type 0
EventsAreByLine =
    (hosts devices : ℕ) (text : List ℕ) (events : List Event) → schedule_of hosts devices text ≡ Ok events
    → map (λ n. n.event) (numbered_events hosts devices text) ≡ events

-- ## What is told

-- The machine makes these steps, the first of which has this number, and this is the text of their lines.
abbrev pub AreTold : Words → ℕ → List Numbered → State → State → List ℕ → Type 0
AreTold t number [] old new text = (new ≡ old) × (text ≡ [])
AreTold t number (n ∷ others) old new text =
    (answer : Reply) × (mid : State) × (rest : List ℕ) × Step old n.event answer mid × AreTold t (number + 1) others mid new rest
    × (text ≡ step_text t number n.line n.event (line_at old n.event) (deed_of old n.event answer mid) mid ++ rest)

-- The machine makes these steps, and their lines are put, numbered from 1.
abbrev pub TellsSteps : Words → List Numbered → State → State → Sink → Sink → Type 0
TellsSteps t events old new was is = (text : List ℕ) × AreTold t 1 events old new text × Puts was is text

-- The machine makes this step, and its line is put.
abbrev pub TellsOne : Words → ℕ → Numbered → State → State → Sink → Sink → Type 0
TellsOne t number n old new was is =
    (answer : Reply) × Step old n.event answer new
    × Puts was is (step_text t number n.line n.event (line_at old n.event) (deed_of old n.event answer new) new)
