-- A report that was written whole has gone out, or, where it doesn't go out, its writer failed.
use Rattle.std.proofs.Common.{◌≡◌, ℕ, List, length, ◌++◌, arith, Option, Some, None, IfSome, Result, Ok, Err, ap, sym, ◌∙◌}
use Rattle.std.specs.Prelude.{IfOk, IfErr}
use Rattle.std.proofs.lemmas.List.{take_all}
use Rattle.std.specs.Io.KnownBytes.{Appends, Keeps}
use Rattle.acc_driver.specs.declared.fault.DriverFault.{DriverFault}
use Rattle.acc_driver.specs.declared.fault.DriverFault.TheVariants as fault
use Rattle.acc_driver.specs.declared.options.Ended.{Ended}
use Rattle.acc_driver.specs.declared.options.Options.{Options}
use Rattle.acc_driver.specs.Inputs.{Parts, parts}
use Rattle.acc_report.specs.Puts.{AppendsFront}
use Rattle.acc_driver.specs.Replays.{Answers, defaults}
use Rattle.acc_driver.specs.Runs.{ScriptAnswers}
use Rattle.accq.specs.Statuses.{FilesAnswer}
use Rattle.accq.specs.Words.{AskedReplay}

pub appends_kept : (a b c : Option (List ℕ)) (text : List ℕ) → Appends a b text → Keeps b c → Appends a c text
appends_kept None b c text first kept = tt
appends_kept (Some xs) None c text first kept = absurd first
appends_kept (Some xs) (Some ys) None text first kept = absurd kept
appends_kept (Some xs) (Some ys) (Some zs) text first kept = kept ∙ first

pub appends_front : (a b : Option (List ℕ)) (text : List ℕ) → Appends a b text → AppendsFront a b text
appends_front None b text first = (length text, tt)
appends_front (Some xs) None text first = absurd first
appends_front (Some xs) (Some ys) text first = (length text, first ∙ ap (λ t. xs ++ t) (sym (take_all (length text) text (omega arith))))

-- All that this answer tells of was written, and then it was sent on, or not.
pub record IsSent {A : Type 0} (answer : A) (whole new : Option (List ℕ)) (result : Result A DriverFault) : Type 0 where
  pub same : IfOk result (λ a. a ≡ answer)
  pub fault : IfErr result (λ f. f ≡ fault.Output)
  pub kept : Keeps whole new

answers_sent : (options : Options) (texts : Parts) (old whole new : Option (List ℕ)) (ended : Ended) (result : Result Ended DriverFault)
    → Answers options texts old whole (Ok ended) → IsSent ended whole new result → Answers options texts old new result
answers_sent options texts old whole new ended (Ok e) (program, events, says, run) sent =
    rw sent.same (
      program,
      events,
      says,
      record {
        final = run.final;
        ends = run.ends;
        legal = run.legal;
        follow = run.follow;
        written = appends_kept old whole new _ run.written sent.kept;
        status = run.status;
      },
    )
answers_sent options texts old whole new ended (Err f) (program, events, says, run) sent =
    rw sent.fault (
      program,
      events,
      says,
      record {
        final = run.final;
        ends = run.ends;
        legal = run.legal;
        follow = run.follow;
        written = appends_front old new _ (appends_kept old whole new _ run.written sent.kept);
      },
    )

pub input_sent : (input : Option (List ℕ)) (old whole new : Option (List ℕ)) (ended : Ended) (result : Result Ended DriverFault)
    → IfSome input (λ text. Answers defaults (parts text) old whole (Ok ended)) → IsSent ended whole new result
    → IfSome input (λ text. Answers defaults (parts text) old new result)
input_sent None old whole new ended result answers sent = tt
input_sent (Some text) old whole new ended result answers sent = answers_sent defaults (parts text) old whole new ended result answers sent

-- what two files answer, by what they hold
abbrev TextsAnswer : Options → Option (List ℕ) → Option (List ℕ) → Option (List ℕ) → Option (List ℕ) → Result Ended DriverFault → Type 0
TextsAnswer options script schedule old new answer =
    IfSome script (λ script. IfSome schedule (λ schedule. Answers options (record { script = script; schedule = schedule }) old new answer))

texts_sent : (options : Options) (script schedule : Option (List ℕ)) (old whole new : Option (List ℕ)) (ended : Ended) (result : Result Ended DriverFault)
    → TextsAnswer options script schedule old whole (Ok ended) → IsSent ended whole new result → TextsAnswer options script schedule old new result
texts_sent options None schedule old whole new ended result answers sent = tt
texts_sent options (Some s) None old whole new ended result answers sent = tt
texts_sent options (Some s) (Some e) old whole new ended result answers sent =
    answers_sent options (record { script = s; schedule = e }) old whole new ended result answers sent

-- what the opened files give is what they hold
texts_held : (options : Options) (script schedule of_script of_schedule : Option (List ℕ)) (old new : Option (List ℕ)) (answer : Result Ended DriverFault)
    → IfSome script (λ bytes. of_script ≡ Some bytes) → IfSome schedule (λ bytes. of_schedule ≡ Some bytes)
    → TextsAnswer options of_script of_schedule old new answer → TextsAnswer options script schedule old new answer
texts_held options None schedule of_script of_schedule old new answer is_script is_schedule answers = tt
texts_held options (Some s) None of_script of_schedule old new answer is_script is_schedule answers = tt
texts_held options (Some s) (Some e) of_script of_schedule old new answer is_script is_schedule answers = rw (is_script, is_schedule) at answers

pub files_answered : (holds : List ℕ → Option (List ℕ)) (asked : AskedReplay) (of_script of_schedule : Option (List ℕ)) (old new : Option (List ℕ)) (answer : Result Ended DriverFault)
    → IfSome (holds asked.script) (λ bytes. of_script ≡ Some bytes) → IfSome (holds asked.schedule) (λ bytes. of_schedule ≡ Some bytes)
    → IfSome of_script (λ script. IfSome of_schedule (λ schedule. Answers asked.options (record { script = script; schedule = schedule }) old new answer))
    → FilesAnswer holds asked old new answer
files_answered holds asked of_script of_schedule old new answer is_script is_schedule answers =
    texts_held asked.options (holds asked.script) (holds asked.schedule) of_script of_schedule old new answer is_script is_schedule answers

pub files_sent : (holds : List ℕ → Option (List ℕ)) (asked : AskedReplay) (old whole new : Option (List ℕ)) (ended : Ended) (result : Result Ended DriverFault)
    → FilesAnswer holds asked old whole (Ok ended) → IsSent ended whole new result → FilesAnswer holds asked old new result
files_sent holds asked old whole new ended result answers sent =
    texts_sent asked.options (holds asked.script) (holds asked.schedule) old whole new ended result answers sent

-- ## A script that is run

run_sent : (options : Options) (script : List ℕ) (old whole new : Option (List ℕ)) (ended : Ended) (result : Result Ended DriverFault)
    → ScriptAnswers options script old whole (Ok ended) → IsSent ended whole new result → ScriptAnswers options script old new result
run_sent options script old whole new ended (Ok e) (program, says, run) sent =
    rw sent.same (
      program,
      says,
      record { left = run.left; ran = run.ran; written = appends_kept old whole new _ run.written sent.kept; status = run.status },
    )
run_sent options script old whole new ended (Err f) (program, says, run) sent =
    rw sent.fault (
      program,
      says,
      record { left = run.left; ran = run.ran; written = appends_front old new _ (appends_kept old whole new _ run.written sent.kept) },
    )

-- what is answered to the script that a file holds, by what the opened file gives
pub file_sent : (options : Options) (held given : Option (List ℕ)) (old whole new : Option (List ℕ)) (ended : Ended) (result : Result Ended DriverFault)
    → IfSome held (λ bytes. given ≡ Some bytes) → IfSome given (λ script. ScriptAnswers options script old whole (Ok ended)) → IsSent ended whole new result
    → IfSome held (λ script. ScriptAnswers options script old new result)
file_sent options None given old whole new ended result is answers sent = tt
file_sent options (Some script) given old whole new ended result is answers sent =
    run_sent options script old whole new ended result (rw is at answers) sent
