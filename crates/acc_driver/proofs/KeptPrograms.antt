-- What is answered to the world in which a run ends is answered to the program that the run began with.
use Rattle.std.proofs.Common.{◌≡◌, ℕ, List, [], ◌∷◌, map, refl, sym, ap, ◌∙◌}
use Rattle.acc_base.specs.Configurations.{Configuration}
use Rattle.acc_host.specs.declared.event.Event.{Event}
use Rattle.acc_host.specs.declared.program.HostProgram.{HostProgram}
use Rattle.acc_host.specs.declared.program.Statement.{Statement}
use Rattle.acc_host.specs.declared.state.Reply.{Reply}
use Rattle.acc_host.specs.Hosts.{HostView, bare_statements, ready}
use Rattle.acc_core.specs.Machine.{State, Runs}
use Rattle.acc_core.specs.Worlds.{ProgramsStay, first_state, statements_in}
use Rattle.std.specs.Prelude.{Option, Result, Ok, Err}
use Rattle.acc_core.specs.Legality.{AllFollow, IsLegalState}
use Rattle.acc_script.specs.Scripts.{ScriptView}
use Rattle.acc_driver.specs.declared.fault.DriverFault.{DriverFault}
use Rattle.acc_driver.specs.declared.fault.DriverFault.TheVariants as fault
use Rattle.acc_driver.specs.declared.options.Ended.{Ended}
use Rattle.acc_driver.specs.declared.options.Options.{Options}
use Rattle.acc_driver.specs.Replays.{RunAnswers, configured}
use Rattle.acc_driver.specs.inner.Scripts.{ReportsWorld}

-- a host that is ready has its program's statements
ready_statements : (programs : List HostProgram) → map (λ (host : HostView). host.statements) (map ready programs) ≡ map bare_statements programs
ready_statements [] = refl
ready_statements (program ∷ programs) = ap (λ (all : List (List Statement)). bare_statements program ∷ all) (ready_statements programs)

-- the program has the statements of the world in which a run of it ends
pub statements_stay : ProgramsStay → (config : Configuration) (programs : List HostProgram) (events : List Event) (replies : List Reply) (w : State)
    → Runs (first_state config programs) events replies w → map bare_statements programs ≡ statements_in w
statements_stay stay config programs events replies w runs = sym (stay events replies (first_state config programs) w runs ∙ ready_statements programs)

-- What is answered to the world in which a run ends is answered to its program and events.
pub run_reported : ProgramsStay → (options : Options) (program : ScriptView) (events : List Event) (replies : List Reply) (w : State) (old new : Option (List ℕ)) (result : Result Ended DriverFault)
    → Runs (first_state (configured options program) program.programs) events replies w → IsLegalState w → AllFollow w 0 w.hosts
    → ReportsWorld program.names w old new result → RunAnswers options program events old new result
run_reported stay options program events replies w old new (Ok ended) runs legal follow answer = record {
  final = w;
  ends = record { replies = replies; runs = runs };
  legal = legal;
  follow = follow;
  written = answer.0 program.programs (statements_stay stay (configured options program) program.programs events replies w runs);
  status = answer.1;
}
run_reported stay options program events replies w old new (Err fault.Output) runs legal follow answer = record {
  final = w;
  ends = record { replies = replies; runs = runs };
  legal = legal;
  follow = follow;
  written = answer program.programs (statements_stay stay (configured options program) program.programs events replies w runs);
}
run_reported stay options program events replies w old new (Err fault.Memory) runs legal follow answer = answer
run_reported stay options program events replies w old new (Err (fault.Runtime f)) runs legal follow answer = absurd answer
run_reported stay options program events replies w old new (Err (fault.Script f)) runs legal follow answer = absurd answer
run_reported stay options program events replies w old new (Err (fault.Schedule f)) runs legal follow answer = absurd answer
run_reported stay options program events replies w old new (Err fault.Input) runs legal follow answer = absurd answer
