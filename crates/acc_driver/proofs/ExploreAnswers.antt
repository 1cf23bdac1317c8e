-- What is answered to a program and the first events is answered to the texts; and what is read of cut texts to the whole ones.
use Rattle.std.proofs.Common.{◌≡◌, ◌<◌, ◌-◌, ◌^◌, ℕ, Bool, false, List, [], length, take, Option, Some, None, Result, Ok, Err, refl, sym, ap, ap₂, subst, ◌∙◌, inl, inr, arith}
use Rattle.std.specs.Prelude.{All, Contains, IfSome}
use Rattle.std.specs.Io.KnownBytes.{Appends}
use Rattle.std.proofs.lemmas.List.Elements.{All-weaker}
use Rattle.acc_explore.specs.Endings.{Ending, EndingsAreSaid, IsEnding, Setting}
use Rattle.acc_explore.specs.Prefixes.{PrefixesAreSaid}
use Rattle.acc_explore.specs.Runs.{open_events}
use Rattle.acc_host.specs.declared.event.Event.{Event}
use Rattle.acc_report.specs.Puts.{Sink, sink}
use Rattle.acc_report.proofs.JoinedPuts.{appends_nothing, puts_nothing}
use Rattle.acc_script.specs.Scripts.{ScriptView, script_of}
use Rattle.acc_driver.specs.declared.explorations.Aim.{Aim}
use Rattle.acc_driver.specs.declared.explorations.Aim.TheVariants as aim
use Rattle.acc_driver.specs.declared.explorations.Explored.{Explored}
use Rattle.acc_driver.specs.declared.explorations.Explored.TheVariants as explored
use Rattle.acc_driver.specs.declared.explorations.Exploring.{Exploring}
use Rattle.acc_driver.specs.declared.fault.DriverFault.{DriverFault}
use Rattle.acc_driver.specs.declared.fault.DriverFault.TheVariants as fault
use Rattle.acc_driver.specs.declared.fault.ReplayFault.{ReplayFault}
use Rattle.acc_driver.specs.declared.fault.ReplayFault.TheVariants as replay
use Rattle.acc_driver.specs.declared.options.Options.{Options}
use Rattle.acc_driver.specs.declared.replays.TheConstants.{INPUT_LIMIT, TEXT_LIMIT}
use Rattle.acc_driver.specs.Explorations.{ExploreAnswer, ExploresProgram, ExploresTexts, IsTold, SaysEnding, SaysEvents, TellsSomeOf, script_alone, setting_of}
use Rattle.acc_driver.specs.Inputs.{Parts, parts}
use Rattle.acc_driver.specs.Replays.{IsWorldFault, configured, driver_fault, events_in}
use Rattle.acc_driver.specs.inner.Explorations.{ExploresFirst, ExploresSchedule, TellsAllOf}
use Rattle.acc_driver.specs.inner.Scripts.{IsScriptFault}
use Rattle.acc_driver.proofs.ReplayAnswers.{SameTexts, same_both, same_parts}

-- ## From what is told

-- what is told of runs behind the first events, which a schedule says
pub was_told : EndingsAreSaid → PrefixesAreSaid → (asked : Aim) (options : Options) (exploring : Exploring) (schedule : List ℕ) (program : ScriptView) (first : List Event) (old new : Option (List ℕ)) (failed : Bool) (told : Explored)
    → length program.programs < 2 ^ 8 → options.devices < 2 ^ 8 → events_in options program schedule ≡ Ok first
    → TellsAllOf asked (setting_of options exploring program first) schedule (exploring.states - 1) (sink old false) (sink new failed) told
    → IsTold asked options exploring schedule program first old new failed told
was_told endings_said prefixes_said (aim.Reports form) options exploring schedule program first old new failed (explored.Reports counts) hosts devices says told =
    let x = setting_of options exploring program first in
    record {
      told = told;
      said = All-weaker (IsEnding x) (SaysEnding options program schedule first) (λ (e : Ending) is short few. endings_said x (configured options program) schedule first e refl hosts devices says is short few)
          told.endings told.are.each;
    }
was_told endings_said prefixes_said (aim.Prefixes depth) options exploring schedule program first old new failed (explored.Prefixes count) hosts devices says told =
    let x = setting_of options exploring program first in
    record {
      told = told;
      said = All-weaker (λ (events : List Event). All (λ (e : Event). Contains (open_events x.closing x.start) e) events) (SaysEvents options program schedule first)
          (λ (events : List Event) may short few. prefixes_said x (configured options program) schedule first events refl hosts devices says may short few)
          told.prefixes told.are.events;
    }
was_told endings_said prefixes_said (aim.Reports form) options exploring schedule program first old new failed (explored.Prefixes count) hosts devices says told = absurd told
was_told endings_said prefixes_said (aim.Prefixes depth) options exploring schedule program first old new failed (explored.Reports counts) hosts devices says told = absurd told

-- nothing, so far
nothing_told : (asked : Aim) (x : Setting) (schedule : List ℕ) (written : Sink) → TellsSomeOf asked x schedule written written
nothing_told (aim.Reports form) x schedule written = record { endings = []; each = λ k e low. absurd (omega (arith, low)); differ = tt; told = puts_nothing written }
nothing_told (aim.Prefixes depth) x schedule written = record { prefixes = []; events = λ k e low. absurd (omega (arith, low)); told = puts_nothing written }

-- where there is no configuration
pub refused_first : (options : Options) (exploring : Exploring) (schedule : List ℕ) (program : ScriptView) (first : List Event) (written : Option (List ℕ)) (why : DriverFault)
    → IsWorldFault (configured options program) why → ExploresProgram options exploring schedule program first written written (Err why)
refused_first options exploring schedule program first written (fault.Runtime f) is = (is, appends_nothing written)
refused_first options exploring schedule program first written fault.Memory is =
    (false, nothing_told exploring.aim (setting_of options exploring program first) schedule (sink written false))
refused_first options exploring schedule program first written fault.Input is = absurd is
refused_first options exploring schedule program first written fault.Output is = absurd is
refused_first options exploring schedule program first written (fault.Script f) is = absurd is
refused_first options exploring schedule program first written (fault.Schedule f) is = absurd is

-- ## To the texts

-- what is answered to a program and a schedule that says the first events
pub first_explored : (options : Options) (exploring : Exploring) (schedule : List ℕ) (program : ScriptView) (first : List Event) (old new : Option (List ℕ)) (result : Result Explored DriverFault)
    → events_in options program schedule ≡ Ok first → ExploresProgram options exploring schedule program first old new result → ExploresSchedule options exploring schedule program old new result
first_explored options exploring schedule program first old new (Ok told) says answer = (first, says, answer)
first_explored options exploring schedule program first old new (Err fault.Output) says answer = (first, says, answer)
first_explored options exploring schedule program first old new (Err (fault.Runtime f)) says answer = (first, says, answer)
first_explored options exploring schedule program first old new (Err fault.Memory) says answer = inr (first, says, answer)
first_explored options exploring schedule program first old new (Err (fault.Script f)) says answer = absurd answer
first_explored options exploring schedule program first old new (Err (fault.Schedule f)) says answer = absurd answer
first_explored options exploring schedule program first old new (Err fault.Input) says answer = absurd answer

-- what is answered to a program that the script says, and to the schedule
pub texts_explored : (options : Options) (exploring : Exploring) (texts : Parts) (program : ScriptView) (old new : Option (List ℕ)) (result : Result Explored DriverFault)
    → script_of texts.script ≡ Ok program → ExploresSchedule options exploring texts.schedule program old new result → ExploreAnswer options exploring texts old new result
texts_explored options exploring texts program old new (Ok told) is (first, says, answer) = record { program = program; script = is; first = first; schedule = says; answer = answer }
texts_explored options exploring texts program old new (Err fault.Output) is (first, says, answer) = record { program = program; script = is; first = first; schedule = says; answer = answer }
texts_explored options exploring texts program old new (Err (fault.Runtime f)) is (first, says, answer) = record { program = program; script = is; first = first; schedule = says; answer = answer }
texts_explored options exploring texts program old new (Err fault.Memory) is (inl nothing) = inl nothing
texts_explored options exploring texts program old new (Err fault.Memory) is (inr (first, says, answer)) = inr (record { program = program; script = is; first = first; schedule = says; answer = answer })
texts_explored options exploring texts program old new (Err (fault.Schedule f)) is (says, written) = ((program, record { script = is; schedule = says }), written)
texts_explored options exploring texts program old new (Err (fault.Script f)) is answer = absurd answer
texts_explored options exploring texts program old new (Err fault.Input) is answer = absurd answer

-- what is answered where the script says no program
pub script_explored : (options : Options) (exploring : Exploring) (texts : Parts) (old new : Option (List ℕ)) (f : ReplayFault)
    → IsScriptFault texts.script f → Appends old new [] → ExploreAnswer options exploring texts old new (Err (driver_fault f))
script_explored options exploring texts old new (replay.Script f) is written = (is, written)
script_explored options exploring texts old new replay.Memory is written = inl written
script_explored options exploring texts old new (replay.Schedule f) is written = absurd is
script_explored options exploring texts old new replay.Output is written = absurd is
script_explored options exploring texts old new (replay.Runtime f) is written = absurd is

-- ## Texts of which each is read up to where it is cut

texts_same : (options : Options) (exploring : Exploring) (a b : Parts) (old new : Option (List ℕ)) (result : Result Explored DriverFault) → SameTexts options a b
    → ExploresTexts options exploring a old new result → ExploresTexts options exploring b old new result
texts_same options exploring a b old new result same t =
    let all : a ≡ b = ap₂ (λ script schedule. record { script = script; schedule = schedule }) (same.same_script t.program t.script) (same.same_schedule t.program t.first t.script t.schedule) in
    subst (λ texts. ExploresTexts options exploring texts old new result) all t

answer_same : (options : Options) (exploring : Exploring) (a b : Parts) (old new : Option (List ℕ)) (result : Result Explored DriverFault) → SameTexts options a b
    → ExploreAnswer options exploring a old new result → ExploreAnswer options exploring b old new result
answer_same options exploring a b old new (Ok told) same answer = texts_same options exploring a b old new (Ok told) same answer
answer_same options exploring a b old new (Err fault.Output) same answer = texts_same options exploring a b old new (Err fault.Output) same answer
answer_same options exploring a b old new (Err (fault.Runtime f)) same answer = texts_same options exploring a b old new (Err (fault.Runtime f)) same answer
answer_same options exploring a b old new (Err fault.Memory) same (inl nothing) = inl nothing
answer_same options exploring a b old new (Err fault.Memory) same (inr answer) = inr (texts_same options exploring a b old new (Err fault.Memory) same answer)
answer_same options exploring a b old new (Err (fault.Script f)) same answer = (sym same.script ∙ answer.0, answer.1)
answer_same options exploring a b old new (Err (fault.Schedule f)) same answer =
    let program = answer.0.0 in
    let says = answer.0.1 in
    let script : script_of b.script ≡ Ok program = sym same.script ∙ says.script in
    ((program, record { script = script; schedule = sym (same.schedule program script) ∙ says.schedule }), answer.1)
answer_same options exploring a b old new (Err fault.Input) same answer = answer

abbrev both : List ℕ → List ℕ → Parts
both script schedule = record { script = script; schedule = schedule }

-- what is answered to what two readers gave
pub whole_explored : (of_script of_schedule : Option (List ℕ)) (script schedule : List ℕ) (options : Options) (exploring : Exploring) (old new : Option (List ℕ)) (result : Result Explored DriverFault)
    → IfSome of_script (λ bytes. script ≡ take TEXT_LIMIT bytes) → IfSome of_schedule (λ bytes. schedule ≡ take TEXT_LIMIT bytes)
    → ExploreAnswer options exploring (both script schedule) old new result
    → IfSome of_script (λ script. IfSome of_schedule (λ schedule. ExploreAnswer options exploring (both script schedule) old new result))
whole_explored None of_schedule script schedule options exploring old new result is_script is_schedule answer = tt
whole_explored (Some s) None script schedule options exploring old new result is_script is_schedule answer = tt
whole_explored (Some s) (Some e) script schedule options exploring old new result is_script is_schedule answer =
    answer_same options exploring _ _ old new result (same_both options s e) (rw (is_script, is_schedule) at answer)

-- where the script says no program
pub nothing_explored : (of_script of_schedule : Option (List ℕ)) (script : List ℕ) (options : Options) (exploring : Exploring) (old new : Option (List ℕ)) (f : ReplayFault)
    → IfSome of_script (λ bytes. script ≡ take TEXT_LIMIT bytes) → IsScriptFault script f → Appends old new []
    → IfSome of_script (λ script. IfSome of_schedule (λ schedule. ExploreAnswer options exploring (both script schedule) old new (Err (driver_fault f))))
nothing_explored None of_schedule script options exploring old new f is why written = tt
nothing_explored (Some s) None script options exploring old new f is why written = tt
nothing_explored (Some s) (Some e) script options exploring old new f is why written =
    answer_same options exploring (both (take TEXT_LIMIT s) (take TEXT_LIMIT e)) (both s e) old new (Err (driver_fault f)) (same_both options s e)
    (script_explored options exploring _ old new f (rw is at why) written)

-- texts that are the same but for the schedule, which is left aside
alone_same : (options : Options) (text : List ℕ) → SameTexts options (script_alone (take INPUT_LIMIT text)) (script_alone text)
alone_same options text =
    let same = same_parts options text in
    record { script = same.script; schedule = λ program is. refl; same_script = same.same_script; same_schedule = λ program events is says. refl }

-- What is read of an input is a front of it, and the answer to its script is the answer to the script of the whole.
pub whole_alone : (remaining : Option (List ℕ)) (read : List ℕ) (options : Options) (exploring : Exploring) (old new : Option (List ℕ)) (result : Result Explored DriverFault)
    → IfSome remaining (λ bytes. read ≡ take INPUT_LIMIT bytes) → ExploreAnswer options exploring (script_alone read) old new result
    → IfSome remaining (λ text. ExploreAnswer options exploring (script_alone text) old new result)
whole_alone None read options exploring old new result is answer = tt
whole_alone (Some bytes) read options exploring old new result is answer =
    answer_same options exploring (script_alone (take INPUT_LIMIT bytes)) (script_alone bytes) old new result (alone_same options bytes) (rw is at answer)
