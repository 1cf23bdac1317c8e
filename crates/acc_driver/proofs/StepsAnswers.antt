-- What is answered to a world whose steps are told is answered to the program that it begins with; and what is read of cut texts to the whole ones.
use Rattle.std.proofs.Common.{◌≡◌, ℕ, ◌+◌, Bool, true, false, List, [], ◌∷◌, ◌++◌, length, map, take, Option, Some, None, Result, Ok, Err, refl, sym, ap, ap₂, subst, ◌∙◌, arith, inl, inr}
use Rattle.std.specs.Prelude.{IfErr, IfSome}
use Rattle.std.proofs.lemmas.List.{append-nil, take_all}
use Rattle.std.specs.Io.KnownBytes.{Appends}
use Rattle.acc_core.specs.Legality.{AllFollow, IsLegalState}
use Rattle.acc_core.specs.Machine.{State, Runs}
use Rattle.acc_core.specs.Worlds.{ProgramsStay, first_state, statements_in}
use Rattle.acc_host.specs.declared.event.Event.{Event}
use Rattle.acc_host.specs.declared.state.Reply.{Reply}
use Rattle.acc_host.specs.Hosts.{bare_statements}
use Rattle.acc_report.specs.Puts.{AppendsFront, Puts, sink}
use Rattle.acc_report.specs.Reports.{report}
use Rattle.acc_report.proofs.JoinedPuts.{appends_nothing, appends_then, puts_then}
use Rattle.acc_script.specs.Scripts.{ScriptView, script_of}
use Rattle.acc_steps.specs.Lines.{Words}
use Rattle.acc_steps.specs.Walks.{AreTold, TellsSteps}
use Rattle.acc_steps.specs.declared.walk.Numbered.{Numbered}
use Rattle.acc_explore.specs.Runs.{left_to_tell}
use Rattle.acc_driver.specs.declared.fault.DriverFault.{DriverFault}
use Rattle.acc_driver.specs.declared.fault.DriverFault.TheVariants as fault
use Rattle.acc_driver.specs.declared.fault.ReplayFault.{ReplayFault}
use Rattle.acc_driver.specs.declared.fault.ReplayFault.TheVariants as replay
use Rattle.acc_driver.specs.declared.options.Ended.{Ended}
use Rattle.acc_driver.specs.declared.options.Options.{Options}
use Rattle.acc_driver.specs.declared.replays.TheConstants.{INPUT_LIMIT, TEXT_LIMIT}
use Rattle.acc_driver.specs.declared.steps.StepsAs.{StepsAs}
use Rattle.acc_driver.specs.declared.steps.StepsAs.TheVariants as shown_as
use Rattle.acc_driver.specs.Inputs.{Parts, parts}
use Rattle.acc_driver.specs.Replays.{IsRun, configured, driver_fault, events_in}
use Rattle.acc_driver.specs.Steps.{ShowsSteps, StepsAnswer, StepsOfProgram, StepsOfTexts, numbered_in, words_for}
use Rattle.acc_driver.specs.inner.Scripts.{IsScriptFault, ReportsWorld}
use Rattle.acc_driver.specs.inner.Steps.{StepsOfSchedule, StepsOfWorld, TellsLines, WorldBegun}
use Rattle.acc_driver.proofs.KeptPrograms.{statements_stay}
use Rattle.acc_driver.proofs.ReplayAnswers.{SameTexts, same_both, same_parts}

-- ## From steps to their world

appends_front : (a b : Option (List ℕ)) (text : List ℕ) → Appends a b text → AppendsFront a b text
appends_front None b text first = (length text, tt)
appends_front (Some xs) None text first = absurd first
appends_front (Some xs) (Some ys) text first = (length text, first ∙ ap (λ t. xs ++ t) (sym (take_all (length text) text (omega arith))))

put_front : (old new : Option (List ℕ)) (failed : Bool) (text : List ℕ) → Puts (sink old false) (sink new failed) text → AppendsFront old new text
put_front old new true text puts = puts.bytes
put_front old new false text puts = appends_front old new text puts.bytes

-- behind a failure no more is written
pub front_stays : (old new : Option (List ℕ)) (failed : Bool) (text more : List ℕ) → failed ≡ true → Puts (sink old false) (sink new failed) text → AppendsFront old new (text ++ more)
front_stays old new true text more is puts =
    let nothing : Puts (sink new true) (sink new true) more = record { bytes = (refl, appends_nothing new) } in
    (puts_then puts nothing).bytes
front_stays old new false text more is puts = absurd cc

front_later : (old mid new : Option (List ℕ)) (text more : List ℕ) → Appends old mid text → AppendsFront mid new more → AppendsFront old new (text ++ more)
front_later old mid new text more first second =
    let before : Puts (sink old false) (sink mid false) text = record { bytes = first } in
    let behind : Puts (sink mid false) (sink new true) more = record { bytes = second } in
    (puts_then before behind).bytes

pub lines_shown : (form : StepsAs) → TellsLines form → (told report : List ℕ) → ShowsSteps form told report (told ++ report)
lines_shown shown_as.Lines is told report = refl
lines_shown shown_as.AllLines is told report = refl
lines_shown shown_as.Picture is told report = absurd is

-- steps that memory ended
pub begun_told : (words : Words) (events : List Numbered) (begun final : State) (old new : Option (List ℕ)) (failed : Bool)
    → (n : ℕ) × TellsSteps words (take n events) begun final (sink old false) (sink new failed) → WorldBegun words events begun old new
begun_told words events begun final old new failed (n, (text, told, puts)) =
    record { count = n; final = final; told = text; steps = told; written = put_front old new failed text puts }

abbrev shown_by : Result Ended DriverFault → Result (Option Ended) DriverFault
shown_by (Ok ended) = Ok (Some ended)
shown_by (Err f) = Err f

-- all steps, and what their world is answered
pub world_told : (form : StepsAs) → TellsLines form → (words : Words) (events : List Numbered) (begun final : State) (told : List ℕ) (old mid new : Option (List ℕ)) (result : Result Ended DriverFault)
    → AreTold words 1 events begun final told → Appends old mid told → IsLegalState final → AllFollow final 0 final.hosts → ReportsWorld words.names final mid new result
    → StepsOfWorld form words events begun old new (shown_by result)
world_told form lines words events begun final told old mid new (Ok ended) steps first legal follow answer = record {
  final = final;
  told = told;
  steps = steps;
  legal = legal;
  follow = follow;
  written = λ programs is. (told ++ report words.names programs (left_to_tell final), lines_shown form lines told _, appends_then old mid new told _ first (answer.0 programs is));
  status = answer.1;
}
world_told form lines words events begun final told old mid new (Err fault.Output) steps first legal follow answer = record {
  final = final;
  told = told;
  steps = steps;
  written = λ programs is. (told ++ report words.names programs (left_to_tell final), lines_shown form lines told _, front_later old mid new told _ first (answer programs is));
}
world_told form lines words events begun final told old mid new (Err fault.Memory) steps first legal follow answer =
    let all : take (length events) events ≡ events = take_all (length events) events (omega arith) in
    let whole : Appends old new told = rw append-nil at (appends_then old mid new told [] first answer) in
    record { count = length events; final = final; told = told; steps = rw all steps; written = appends_front old new told whole }
world_told form lines words events begun final told old mid new (Err (fault.Runtime f)) steps first legal follow answer = absurd answer
world_told form lines words events begun final told old mid new (Err (fault.Script f)) steps first legal follow answer = absurd answer
world_told form lines words events begun final told old mid new (Err (fault.Schedule f)) steps first legal follow answer = absurd answer
world_told form lines words events begun final told old mid new (Err fault.Input) steps first legal follow answer = absurd answer

-- no configuration is refused there
pub world_runs : (form : StepsAs) (words : Words) (events : List Numbered) (begun : State) (old new : Option (List ℕ)) (result : Result (Option Ended) DriverFault)
    → StepsOfWorld form words events begun old new result → IfErr result (λ f. IsRun (Err f))
world_runs form words events begun old new (Ok ended) w = tt
world_runs form words events begun old new (Err fault.Output) w = tt
world_runs form words events begun old new (Err fault.Memory) w = tt
world_runs form words events begun old new (Err (fault.Runtime f)) w = absurd w
world_runs form words events begun old new (Err (fault.Script f)) w = tt
world_runs form words events begun old new (Err (fault.Schedule f)) w = tt
world_runs form words events begun old new (Err fault.Input) w = tt

-- ## From a world to its program

-- steps that are told are a run
runs_told : (t : Words) (n : ℕ) (events : List Numbered) (old new : State) (text : List ℕ) → AreTold t n events old new text
    → (replies : List Reply) × Runs old (map (λ (e : Numbered). e.event) events) replies new
runs_told t n [] old new text told = ([], told.0)
runs_told t n (e ∷ events) old new text (answer, mid, rest, step, told, is) =
    let others = runs_told t (n + 1) events mid new rest told in
    (answer ∷ others.0, (mid, step, others.1))

-- the program has the statements of the world in which told steps of it end
told_stay : ProgramsStay → (options : Options) (program : ScriptView) (t : Words) (events : List Numbered) (final : State) (text : List ℕ)
    → AreTold t 1 events (first_state (configured options program) program.programs) final text → map bare_statements program.programs ≡ statements_in final
told_stay stay options program t events final text told =
    let run = runs_told t 1 events (first_state (configured options program) program.programs) final text told in
    statements_stay stay (configured options program) program.programs (map (λ (e : Numbered). e.event) events) run.0 final run.1

-- What is answered to the world of a program and to the events of a schedule.
pub program_told : ProgramsStay → (options : Options) (form : StepsAs) (texts : Parts) (program : ScriptView) (old new : Option (List ℕ)) (result : Result (Option Ended) DriverFault)
    → StepsOfWorld form (words_for form texts.script program) (numbered_in options program texts.schedule) (first_state (configured options program) program.programs) old new result
    → StepsOfProgram options form texts program old new result
program_told stay options form texts program old new (Ok (Some ended)) w =
    let same = told_stay stay options program (words_for form texts.script program) (numbered_in options program texts.schedule) w.final w.told w.steps in
    let shown = w.written program.programs same in
    record {
      final = w.final;
      shown = shown.0;
      steps = record { told = w.told; steps = w.steps; shows = shown.1 };
      legal = w.legal;
      follow = w.follow;
      written = shown.2;
      status = w.status;
    }
program_told stay options form texts program old new (Ok None) w = record { picture = w.picture; final = w.final; passes = w.passes; written = w.written }
program_told stay options form texts program old new (Err fault.Output) w =
    let same = told_stay stay options program (words_for form texts.script program) (numbered_in options program texts.schedule) w.final w.told w.steps in
    let shown = w.written program.programs same in
    record { final = w.final; shown = shown.0; steps = record { told = w.told; steps = w.steps; shows = shown.1 }; written = shown.2 }
program_told stay options form texts program old new (Err fault.Memory) w =
    record { count = w.count; final = w.final; told = w.told; steps = w.steps; written = w.written }
program_told stay options form texts program old new (Err (fault.Runtime f)) w = absurd w
program_told stay options form texts program old new (Err (fault.Script f)) w = absurd w
program_told stay options form texts program old new (Err (fault.Schedule f)) w = absurd w
program_told stay options form texts program old new (Err fault.Input) w = absurd w

-- ## To the texts

-- what is answered to a program and a schedule that says events
pub events_told : (options : Options) (form : StepsAs) (texts : Parts) (program : ScriptView) (events : List Event) (old new : Option (List ℕ)) (result : Result (Option Ended) DriverFault)
    → events_in options program texts.schedule ≡ Ok events → StepsOfProgram options form texts program old new result → StepsOfSchedule options form texts program old new result
events_told options form texts program events old new (Ok ended) says answer = (events, says, answer)
events_told options form texts program events old new (Err fault.Output) says answer = (events, says, answer)
events_told options form texts program events old new (Err (fault.Runtime f)) says answer = (events, says, answer)
events_told options form texts program events old new (Err fault.Memory) says answer = inr (events, says, answer)
events_told options form texts program events old new (Err (fault.Script f)) says answer = absurd answer
events_told options form texts program events old new (Err (fault.Schedule f)) says answer = absurd answer
events_told options form texts program events old new (Err fault.Input) says answer = absurd answer

-- what is answered to a program that the script says, and to the schedule
pub schedule_told : (options : Options) (form : StepsAs) (texts : Parts) (program : ScriptView) (old new : Option (List ℕ)) (result : Result (Option Ended) DriverFault)
    → script_of texts.script ≡ Ok program → StepsOfSchedule options form texts program old new result → StepsAnswer options form texts old new result
schedule_told options form texts program old new (Ok ended) is (events, says, answer) = record { program = program; script = is; events = events; schedule = says; answer = answer }
schedule_told options form texts program old new (Err fault.Output) is (events, says, answer) = record { program = program; script = is; events = events; schedule = says; answer = answer }
schedule_told options form texts program old new (Err (fault.Runtime f)) is (events, says, answer) = record { program = program; script = is; events = events; schedule = says; answer = answer }
schedule_told options form texts program old new (Err fault.Memory) is (inl nothing) = inl nothing
schedule_told options form texts program old new (Err fault.Memory) is (inr (events, says, answer)) = inr (record { program = program; script = is; events = events; schedule = says; answer = answer })
schedule_told options form texts program old new (Err (fault.Schedule f)) is (says, written) = ((program, record { script = is; schedule = says }), written)
schedule_told options form texts program old new (Err (fault.Script f)) is answer = absurd answer
schedule_told options form texts program old new (Err fault.Input) is answer = absurd answer

-- what is answered where the script says no program
pub script_told : (options : Options) (form : StepsAs) (texts : Parts) (old new : Option (List ℕ)) (f : ReplayFault)
    → IsScriptFault texts.script f → Appends old new [] → StepsAnswer options form texts old new (Err (driver_fault f))
script_told options form texts old new (replay.Script f) is written = (is, written)
script_told options form texts old new replay.Memory is written = inl written
script_told options form texts old new (replay.Schedule f) is written = absurd is
script_told options form texts old new replay.Output is written = absurd is
script_told options form texts old new (replay.Runtime f) is written = absurd is

-- ## Texts of which each is read up to where it is cut

texts_same : (options : Options) (form : StepsAs) (a b : Parts) (old new : Option (List ℕ)) (result : Result (Option Ended) DriverFault) → SameTexts options a b
    → StepsOfTexts options form a old new result → StepsOfTexts options form b old new result
texts_same options form a b old new result same t =
    let all : a ≡ b = ap₂ (λ script schedule. record { script = script; schedule = schedule }) (same.same_script t.program t.script) (same.same_schedule t.program t.events t.script t.schedule) in
    subst (λ texts. StepsOfTexts options form texts old new result) all t

answer_same : (options : Options) (form : StepsAs) (a b : Parts) (old new : Option (List ℕ)) (result : Result (Option Ended) DriverFault) → SameTexts options a b
    → StepsAnswer options form a old new result → StepsAnswer options form b old new result
answer_same options form a b old new (Ok ended) same answer = texts_same options form a b old new (Ok ended) same answer
answer_same options form a b old new (Err fault.Output) same answer = texts_same options form a b old new (Err fault.Output) same answer
answer_same options form a b old new (Err (fault.Runtime f)) same answer = texts_same options form a b old new (Err (fault.Runtime f)) same answer
answer_same options form a b old new (Err fault.Memory) same (inl nothing) = inl nothing
answer_same options form a b old new (Err fault.Memory) same (inr answer) = inr (texts_same options form a b old new (Err fault.Memory) same answer)
answer_same options form a b old new (Err (fault.Script f)) same answer = (sym same.script ∙ answer.0, answer.1)
answer_same options form a b old new (Err (fault.Schedule f)) same answer =
    let program = answer.0.0 in
    let says = answer.0.1 in
    let script : script_of b.script ≡ Ok program = sym same.script ∙ says.script in
    ((program, record { script = script; schedule = sym (same.schedule program script) ∙ says.schedule }), answer.1)
answer_same options form a b old new (Err fault.Input) same answer = answer

abbrev both : List ℕ → List ℕ → Parts
both script schedule = record { script = script; schedule = schedule }

-- what is answered to what two readers gave
pub whole_steps : (of_script of_schedule : Option (List ℕ)) (script schedule : List ℕ) (options : Options) (form : StepsAs) (old new : Option (List ℕ)) (result : Result (Option Ended) DriverFault)
    → IfSome of_script (λ bytes. script ≡ take TEXT_LIMIT bytes) → IfSome of_schedule (λ bytes. schedule ≡ take TEXT_LIMIT bytes)
    → StepsAnswer options form (both script schedule) old new result
    → IfSome of_script (λ script. IfSome of_schedule (λ schedule. StepsAnswer options form (both script schedule) old new result))
whole_steps None of_schedule script schedule options form old new result is_script is_schedule answer = tt
whole_steps (Some s) None script schedule options form old new result is_script is_schedule answer = tt
whole_steps (Some s) (Some e) script schedule options form old new result is_script is_schedule answer =
    answer_same options form _ _ old new result (same_both options s e) (rw (is_script, is_schedule) at answer)

-- where the script says no program
pub no_steps : (of_script of_schedule : Option (List ℕ)) (script : List ℕ) (options : Options) (form : StepsAs) (old new : Option (List ℕ)) (f : ReplayFault)
    → IfSome of_script (λ bytes. script ≡ take TEXT_LIMIT bytes) → IsScriptFault script f → Appends old new []
    → IfSome of_script (λ script. IfSome of_schedule (λ schedule. StepsAnswer options form (both script schedule) old new (Err (driver_fault f))))
no_steps None of_schedule script options form old new f is why written = tt
no_steps (Some s) None script options form old new f is why written = tt
no_steps (Some s) (Some e) script options form old new f is why written =
    answer_same options form (both (take TEXT_LIMIT s) (take TEXT_LIMIT e)) (both s e) old new (Err (driver_fault f)) (same_both options s e)
    (script_told options form _ old new f (rw is at why) written)

-- What is read of an input is a front of it, and the answer to that is the answer to the whole.
pub whole_input_steps : (remaining : Option (List ℕ)) (read : List ℕ) (options : Options) (form : StepsAs) (old new : Option (List ℕ)) (result : Result (Option Ended) DriverFault)
    → IfSome remaining (λ bytes. read ≡ take INPUT_LIMIT bytes) → StepsAnswer options form (parts read) old new result
    → IfSome remaining (λ text. StepsAnswer options form (parts text) old new result)
whole_input_steps None read options form old new result is answer = tt
whole_input_steps (Some bytes) read options form old new result is answer =
    answer_same options form (parts (take INPUT_LIMIT bytes)) (parts bytes) old new result (same_parts options bytes) (rw is at answer)
