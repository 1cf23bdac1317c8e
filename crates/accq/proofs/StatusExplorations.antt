-- What was told of an exploration has gone out, or, where it doesn't go out, its writer failed.
use Rattle.std.proofs.Common.{ℕ, false, true, List, ◌++◌, Option, Some, None, IfSome, Result, Ok, Err}
use Rattle.std.specs.Io.KnownBytes.{Keeps}
use Rattle.acc_explore.specs.Endings.{counts_text, endings_text}
use Rattle.acc_explore.specs.Prefixes.{prefix_line, prefixes_text}
use Rattle.acc_host.specs.declared.event.Event.{Event}
use Rattle.acc_script.specs.Scripts.{ScriptView}
use Rattle.acc_driver.specs.declared.explorations.Aim.{Aim}
use Rattle.acc_driver.specs.declared.explorations.Aim.TheVariants as aim
use Rattle.acc_driver.specs.declared.explorations.Explored.{Explored}
use Rattle.acc_driver.specs.declared.explorations.Explored.TheVariants as explored
use Rattle.acc_driver.specs.declared.explorations.Exploring.{Exploring}
use Rattle.acc_driver.specs.declared.fault.DriverFault.{DriverFault}
use Rattle.acc_driver.specs.declared.options.Options.{Options}
use Rattle.acc_driver.specs.Explorations.{ExploreAnswer, IsTold, script_alone}
use Rattle.acc_driver.specs.Inputs.{Parts}
use Rattle.accq.specs.Statuses.{ExploreOfFiles}
use Rattle.accq.specs.Words.{AskedExplore}
use Rattle.accq.proofs.StatusReplay.{IsSent, appends_front, appends_kept}

-- what was told stays so where all of it was sent on
kept : (asked : Aim) (options : Options) (exploring : Exploring) (schedule : List ℕ) (program : ScriptView) (first : List Event) (old whole new : Option (List ℕ)) (told : Explored)
    → Keeps whole new → IsTold asked options exploring schedule program first old whole false told → IsTold asked options exploring schedule program first old new false told
kept (aim.Reports form) options exploring schedule program first old whole new (explored.Reports counts) same is =
    let x = is.told in
    record {
      told = record {
        endings = x.endings;
        are = x.are;
        few = x.few;
        stopped = x.stopped;
        reports = x.reports;
        refused = x.refused;
        told = record { bytes = appends_kept old whole new (endings_text form schedule 1 x.endings ++ counts_text form counts) x.told.bytes same };
      };
      said = is.said;
    }
kept (aim.Prefixes depth) options exploring schedule program first old whole new (explored.Prefixes count) same is =
    let x = is.told in
    record {
      told = record {
        prefixes = x.prefixes;
        are = x.are;
        few = x.few;
        stopped = x.stopped;
        count_is = x.count_is;
        told = record { bytes = appends_kept old whole new (prefixes_text schedule 1 x.prefixes ++ prefix_line count) x.told.bytes same };
      };
      said = is.said;
    }
kept (aim.Reports form) options exploring schedule program first old whole new (explored.Prefixes count) same is = absurd is
kept (aim.Prefixes depth) options exploring schedule program first old whole new (explored.Reports counts) same is = absurd is

-- or a beginning of it was written, where the writer fails
cut : (asked : Aim) (options : Options) (exploring : Exploring) (schedule : List ℕ) (program : ScriptView) (first : List Event) (old new : Option (List ℕ)) (told : Explored)
    → IsTold asked options exploring schedule program first old new false told → IsTold asked options exploring schedule program first old new true told
cut (aim.Reports form) options exploring schedule program first old new (explored.Reports counts) is =
    let x = is.told in
    record {
      told = record {
        endings = x.endings;
        are = x.are;
        few = x.few;
        stopped = x.stopped;
        reports = x.reports;
        refused = x.refused;
        told = record { bytes = appends_front old new (endings_text form schedule 1 x.endings ++ counts_text form counts) x.told.bytes };
      };
      said = is.said;
    }
cut (aim.Prefixes depth) options exploring schedule program first old new (explored.Prefixes count) is =
    let x = is.told in
    record {
      told = record {
        prefixes = x.prefixes;
        are = x.are;
        few = x.few;
        stopped = x.stopped;
        count_is = x.count_is;
        told = record { bytes = appends_front old new (prefixes_text schedule 1 x.prefixes ++ prefix_line count) x.told.bytes };
      };
      said = is.said;
    }
cut (aim.Reports form) options exploring schedule program first old new (explored.Prefixes count) is = absurd is
cut (aim.Prefixes depth) options exploring schedule program first old new (explored.Reports counts) is = absurd is

told_sent : (options : Options) (exploring : Exploring) (texts : Parts) (old whole new : Option (List ℕ)) (told : Explored) (result : Result Explored DriverFault)
    → ExploreAnswer options exploring texts old whole (Ok told) → IsSent told whole new result → ExploreAnswer options exploring texts old new result
told_sent options exploring texts old whole new told (Ok e) t sent = rw sent.same (record {
  program = t.program;
  script = t.script;
  first = t.first;
  schedule = t.schedule;
  answer = kept exploring.aim options exploring texts.schedule t.program t.first old whole new told sent.kept t.answer;
})
told_sent options exploring texts old whole new told (Err f) t sent = rw sent.fault (record {
  program = t.program;
  script = t.script;
  first = t.first;
  schedule = t.schedule;
  answer = (
    told,
    cut exploring.aim options exploring texts.schedule t.program t.first old new told
        (kept exploring.aim options exploring texts.schedule t.program t.first old whole new told sent.kept t.answer),
  );
})

one_sent : (options : Options) (exploring : Exploring) (held : Option (List ℕ)) (old whole new : Option (List ℕ)) (told : Explored) (result : Result Explored DriverFault)
    → IfSome held (λ text. ExploreAnswer options exploring (script_alone text) old whole (Ok told)) → IsSent told whole new result
    → IfSome held (λ text. ExploreAnswer options exploring (script_alone text) old new result)
one_sent options exploring None old whole new told result answers sent = tt
one_sent options exploring (Some text) old whole new told result answers sent = told_sent options exploring (script_alone text) old whole new told result answers sent

two_sent : (options : Options) (exploring : Exploring) (script schedule : Option (List ℕ)) (old whole new : Option (List ℕ)) (told : Explored) (result : Result Explored DriverFault)
    → IfSome script (λ script. IfSome schedule (λ schedule. ExploreAnswer options exploring (record { script = script; schedule = schedule }) old whole (Ok told))) → IsSent told whole new result
    → IfSome script (λ script. IfSome schedule (λ schedule. ExploreAnswer options exploring (record { script = script; schedule = schedule }) old new result))
two_sent options exploring None schedule old whole new told result answers sent = tt
two_sent options exploring (Some s) None old whole new told result answers sent = tt
two_sent options exploring (Some s) (Some e) old whole new told result answers sent =
    told_sent options exploring (record { script = s; schedule = e }) old whole new told result answers sent

pub explored_sent : (holds : List ℕ → Option (List ℕ)) (asked : AskedExplore) (schedule : Option (List ℕ)) (old whole new : Option (List ℕ)) (told : Explored) (result : Result Explored DriverFault)
    → ExploreOfFiles holds asked schedule old whole (Ok told) → IsSent told whole new result → ExploreOfFiles holds asked schedule old new result
explored_sent holds asked None old whole new told result answers sent = one_sent asked.options asked.exploring (holds asked.script) old whole new told result answers sent
explored_sent holds asked (Some schedule) old whole new told result answers sent =
    two_sent asked.options asked.exploring (holds asked.script) (holds schedule) old whole new told result answers sent
