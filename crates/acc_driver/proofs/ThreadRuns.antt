-- Hosts that threads ran have stopped, and what is answered to a script of which no more is read than a run takes.
use Rattle.std.proofs.Common.{◌≡◌, ℕ, suc, ◌+◌, List, [], ◌∷◌, length, map, take, Option, Some, None, Result, Ok, Err, refl, sym, ap, ◌∙◌}
use Rattle.std.specs.Prelude.{IfSome}
use Rattle.std.specs.Io.KnownBytes.{Appends}
use Rattle.acc_host.specs.Hosts.{HostView, ready, state_of}
use Rattle.acc_host.specs.Legality.{Histories}
use Rattle.acc_host.specs.declared.program.HostProgram.{HostProgram}
use Rattle.acc_host.specs.declared.state.HostState.{HostState}
use Rattle.acc_run.specs.Agreement.{EachAgrees, TokensFollow}
use Rattle.acc_run.specs.Running.{WentEach}
use Rattle.acc_run.specs.Tokens.{AreTokens, TokenView, listed_entry}
use Rattle.acc_script.specs.Scripts.{ScriptView, script_of}
use Rattle.acc_driver.specs.declared.fault.DriverFault.{DriverFault}
use Rattle.acc_driver.specs.declared.fault.DriverFault.TheVariants as fault
use Rattle.acc_driver.specs.declared.options.Ended.{Ended}
use Rattle.acc_driver.specs.declared.options.Options.{Options}
use Rattle.acc_driver.specs.declared.replays.TheConstants.{TEXT_LIMIT}
use Rattle.acc_driver.specs.Replays.{IsRun, driver_fault}
use Rattle.acc_driver.specs.Runs.{AllStopped, IsConfigured, ProgramAnswers, SaysAnswered, ScriptAnswers, StoppedIn}
use Rattle.acc_driver.specs.inner.Scripts.{IsScriptFault}
use Rattle.acc_driver.specs.declared.fault.ReplayFault.{ReplayFault}
use Rattle.acc_driver.specs.declared.fault.ReplayFault.TheVariants as replay
use Rattle.acc_driver.proofs.ReplayAnswers.{capped_script}

-- ## Hosts

-- A host has stopped whose token began empty and agrees with the histories.
stopped_in : TokensFollow → (h : Histories) (n : ℕ) (p : HostProgram) (ps : List HostProgram) (t : TokenView) (ts : List TokenView) (i : HostView) (is : List HostView) (u : TokenView) (us : List TokenView)
    → t.entries ≡ [] → WentEach h.config.devices (map ready (p ∷ ps)) (t ∷ ts) (i ∷ is) (u ∷ us) → EachAgrees h n (u ∷ us) → StoppedIn h n p (state_of i)
stopped_in law h n p ps t ts i is u us none went agrees =
    let gone = went.0.went in
    let all : u.entries ≡ gone.list = gone.gained ∙ rw none refl in
    record {
      stopped = gone.stopped;
      follows = law h n (map listed_entry u.entries) h.config.devices (ready p).statements (state_of i) agrees.1 (rw all gone.follows);
    }

pub all_stopped : TokensFollow → (h : Histories) (n : ℕ) (programs : List HostProgram) (ts : List TokenView) (is : List HostView) (us : List TokenView)
    → AreTokens n ts → WentEach h.config.devices (map ready programs) ts is us → EachAgrees h n us → AllStopped h n programs (map state_of is)
all_stopped law h n [] [] [] [] own went agrees = tt
all_stopped law h n (p ∷ ps) (t ∷ ts) (i ∷ is) (u ∷ us) own went agrees =
    (stopped_in law h n p ps t ts i is u us own.1 went agrees, all_stopped law h (n + 1) ps ts is us own.2 went.1 agrees.2)
all_stopped law h n [] [] [] (u ∷ us) own went agrees = absurd went
all_stopped law h n [] [] (i ∷ is) us own went agrees = absurd went
all_stopped law h n [] (t ∷ ts) is us own went agrees = absurd went
all_stopped law h n (p ∷ ps) [] is us own went agrees = absurd went
all_stopped law h n (p ∷ ps) (t ∷ ts) [] us own went agrees = absurd went
all_stopped law h n (p ∷ ps) (t ∷ ts) (i ∷ is) [] own went agrees = absurd went

-- So it is of what a run is given and gives back.
pub hosts_stopped : TokensFollow → (h : Histories) (programs : List HostProgram) (devices : ℕ) (hosts : List HostView) (ts : List TokenView) (is : List HostView) (us : List TokenView) (states : List HostState)
    → AreTokens 0 ts → devices ≡ h.config.devices → hosts ≡ map ready programs → WentEach devices hosts ts is us → EachAgrees h 0 us → states ≡ map state_of is
    → AllStopped h 0 programs states
hosts_stopped law h programs devices hosts ts is us states own same fresh went agrees told =
    rw told (all_stopped law h 0 programs ts is us own (rw (same, fresh) at went) agrees)

-- there are as many as programs
pub as_many : (h : Histories) (n : ℕ) (programs : List HostProgram) (states : List HostState) → AllStopped h n programs states → length states ≡ length programs
as_many h n [] [] stopped = refl
as_many h n [] (s ∷ ss) stopped = absurd stopped
as_many h n (p ∷ ps) [] stopped = absurd stopped
as_many h n (p ∷ ps) (s ∷ ss) stopped = ap suc (as_many h (n + 1) ps ss stopped.1)

-- ## Answers

-- what isn't refused for its configuration
pub run_configured : (f : DriverFault) → IsRun (Err f) → IsConfigured (Err f)
run_configured (fault.Script f) run = tt
run_configured (fault.Schedule f) run = tt
run_configured fault.Input run = tt
run_configured fault.Output run = tt
run_configured fault.Memory run = tt
run_configured (fault.Runtime f) run = absurd run

-- what is answered where the script says a program
pub program_answered : (options : Options) (script : List ℕ) (program : ScriptView) (old new : Option (List ℕ)) (result : Result Ended DriverFault)
    → script_of script ≡ Ok program → ProgramAnswers options program old new result → ScriptAnswers options script old new result
program_answered options script program old new (Ok ended) is answers = (program, is, answers)
program_answered options script program old new (Err fault.Output) is answers = (program, is, answers)
program_answered options script program old new (Err (fault.Runtime f)) is answers = (program, is, answers)
program_answered options script program old new (Err fault.Memory) is answers = answers
program_answered options script program old new (Err (fault.Script f)) is answers = absurd answers
program_answered options script program old new (Err (fault.Schedule f)) is answers = absurd answers
program_answered options script program old new (Err fault.Input) is answers = absurd answers

-- and where it says none
pub no_program_answered : (options : Options) (script : List ℕ) (old new : Option (List ℕ)) (f : ReplayFault)
    → IsScriptFault script f → Appends old new [] → ScriptAnswers options script old new (Err (driver_fault f))
no_program_answered options script old new (replay.Script f) is written = (is, written)
no_program_answered options script old new replay.Memory is written = written
no_program_answered options script old new (replay.Schedule f) is written = absurd is
no_program_answered options script old new replay.Output is written = absurd is
no_program_answered options script old new (replay.Runtime f) is written = absurd is

-- Two scripts that say the same have the same answer.
says_same : (options : Options) (a b : List ℕ) (old new : Option (List ℕ)) (result : Result Ended DriverFault) → script_of a ≡ script_of b
    → SaysAnswered options a old new result → SaysAnswered options b old new result
says_same options a b old new result same (program, is, answers) = (program, sym same ∙ is, answers)

script_same : (options : Options) (a b : List ℕ) (old new : Option (List ℕ)) (result : Result Ended DriverFault) → script_of a ≡ script_of b
    → ScriptAnswers options a old new result → ScriptAnswers options b old new result
script_same options a b old new (Ok ended) same answers = says_same options a b old new (Ok ended) same answers
script_same options a b old new (Err fault.Output) same answers = says_same options a b old new (Err fault.Output) same answers
script_same options a b old new (Err (fault.Runtime f)) same answers = says_same options a b old new (Err (fault.Runtime f)) same answers
script_same options a b old new (Err (fault.Script f)) same answers = (sym same ∙ answers.0, answers.1)
script_same options a b old new (Err fault.Input) same answers = answers
script_same options a b old new (Err fault.Memory) same answers = answers
script_same options a b old new (Err (fault.Schedule f)) same answers = absurd answers

-- What is read of a script is enough.
pub whole_run : (remaining : Option (List ℕ)) (read : List ℕ) (options : Options) (old new : Option (List ℕ)) (result : Result Ended DriverFault)
    → IfSome remaining (λ bytes. read ≡ take TEXT_LIMIT bytes) → ScriptAnswers options read old new result
    → IfSome remaining (λ bytes. ScriptAnswers options bytes old new result)
whole_run None read options old new result is answers = tt
whole_run (Some bytes) read options old new result is answers =
    script_same options (take TEXT_LIMIT bytes) bytes old new result (capped_script bytes) (rw is at answers)
