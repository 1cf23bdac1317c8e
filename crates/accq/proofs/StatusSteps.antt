-- Steps that were shown whole have gone out, or, where they don't go out, their writer failed.
use Rattle.std.proofs.Common.{ℕ, List, Option, Some, None, IfSome, Ok, Err}
use Rattle.std.specs.Io.KnownBytes.{Keeps}
use Rattle.acc_driver.specs.declared.fault.DriverFault.TheVariants.{Output}
use Rattle.acc_driver.specs.declared.options.Ended.{Ended}
use Rattle.acc_driver.specs.declared.options.Options.{Options}
use Rattle.acc_driver.specs.declared.steps.StepsAs.{StepsAs}
use Rattle.acc_driver.specs.Inputs.{Parts, parts}
use Rattle.acc_driver.specs.Steps.{StepsAnswer}
use Rattle.accq.specs.Statuses.{StepsOfFiles}
use Rattle.accq.specs.Words.{AskedSteps}
use Rattle.accq.proofs.StatusReplay.{appends_front, appends_kept}

steps_cut : (options : Options) (form : StepsAs) (texts : Parts) (old whole new : Option (List ℕ)) (ended : Ended)
    → StepsAnswer options form texts old whole (Ok (Some ended)) → Keeps whole new → StepsAnswer options form texts old new (Err Output)
steps_cut options form texts old whole new ended t kept = record {
  program = t.program;
  script = t.script;
  events = t.events;
  schedule = t.schedule;
  answer = record {
    final = t.answer.final;
    shown = t.answer.shown;
    steps = t.answer.steps;
    written = appends_front old new t.answer.shown (appends_kept old whole new t.answer.shown t.answer.written kept);
  };
}

one_cut : (options : Options) (form : StepsAs) (held : Option (List ℕ)) (old whole new : Option (List ℕ)) (ended : Ended)
    → IfSome held (λ text. StepsAnswer options form (parts text) old whole (Ok (Some ended))) → Keeps whole new
    → IfSome held (λ text. StepsAnswer options form (parts text) old new (Err Output))
one_cut options form None old whole new ended answers kept = tt
one_cut options form (Some text) old whole new ended answers kept = steps_cut options form (parts text) old whole new ended answers kept

two_cut : (options : Options) (form : StepsAs) (script schedule : Option (List ℕ)) (old whole new : Option (List ℕ)) (ended : Ended)
    → IfSome script (λ script. IfSome schedule (λ schedule. StepsAnswer options form (record { script = script; schedule = schedule }) old whole (Ok (Some ended)))) → Keeps whole new
    → IfSome script (λ script. IfSome schedule (λ schedule. StepsAnswer options form (record { script = script; schedule = schedule }) old new (Err Output)))
two_cut options form None schedule old whole new ended answers kept = tt
two_cut options form (Some s) None old whole new ended answers kept = tt
two_cut options form (Some s) (Some e) old whole new ended answers kept = steps_cut options form (record { script = s; schedule = e }) old whole new ended answers kept

pub files_cut : (holds : List ℕ → Option (List ℕ)) (asked : AskedSteps) (schedule : Option (List ℕ)) (old whole new : Option (List ℕ)) (ended : Ended)
    → StepsOfFiles holds asked schedule old whole (Ok (Some ended)) → Keeps whole new → StepsOfFiles holds asked schedule old new (Err Output)
files_cut holds asked None old whole new ended answers kept = one_cut asked.options asked.form (holds asked.script) old whole new ended answers kept
files_cut holds asked (Some schedule) old whole new ended answers kept =
    two_cut asked.options asked.form (holds asked.script) (holds schedule) old whole new ended answers kept
