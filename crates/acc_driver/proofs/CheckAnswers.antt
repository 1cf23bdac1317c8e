-- What is answered to texts of which a beginning was read is the answer to the whole.
use Rattle.std.proofs.Common.{◌≡◌, ◌∙◌, ℕ, true, false, true≢false, List, [], length, take, Result, Ok, Err, Option, Some, None, IfSome, ap, refl, sym}
use Rattle.std.specs.Prelude.{◌↔◌, Bool, IfOk, IfErr, IsNone, IsTrue, is_some}
use Rattle.std.proofs.lemmas.List.{append-nil}
use Rattle.std.specs.Io.KnownBytes.{Appends}
use Rattle.acc_check.specs.Checks.{Checks}
use Rattle.acc_check.specs.Languages.{fault_in, text_fault, schedule_fault}
use Rattle.acc_check.specs.declared.language.Language.TheVariants.{Schedule}
use Rattle.acc_host.specs.declared.event.Event.{Event}
use Rattle.acc_token.specs.declared.read_fault.ReadFault.{ReadFault}
use Rattle.acc_driver.specs.declared.checks.CheckFault.{CheckFault}
use Rattle.acc_driver.specs.declared.checks.CheckFault.TheVariants as fault
use Rattle.acc_driver.specs.declared.replays.TheConstants.{INPUT_LIMIT, TEXT_LIMIT}
use Rattle.acc_driver.specs.Checks.{AreSound, ChecksTexts}
use Rattle.acc_driver.specs.Inputs.{Parts, parts}
use Rattle.acc_driver.specs.Replays.{defaults}
use Rattle.acc_driver.specs.inner.Checked.{IsNoScript, IsSchedule, IsScheduleFor, IsScriptOf, IsUnread, IsUntold}
use Rattle.acc_schedule.specs.Schedules.{schedule_of}
use Rattle.acc_script.specs.Scripts.{ScriptView, script_of}
use Rattle.acc_driver.proofs.ReplayAnswers.{capped_schedule, capped_script, same_schedule, same_script}

pub appends_nothing : (old new : Option (List ℕ)) → new ≡ old → Appends old new []
appends_nothing None new same = tt
appends_nothing (Some xs) new same = rw same (sym (append-nil xs))

-- ## A schedule

read_whole : (hosts devices : ℕ) (text : List ℕ) (read : Result (List Event) ReadFault) → schedule_of hosts devices text ≡ read
    → is_some (fault_in read) ≡ false → IsSchedule hosts devices text
read_whole hosts devices text (Ok events) is none = (events, is)
read_whole hosts devices text (Err f) is none = absurd (true≢false none)

pub schedule_told : (hosts devices : ℕ) (text : List ℕ) (whole : Bool) → (IsTrue whole ↔ IsNone (text_fault (Schedule hosts devices) text)) → IsScheduleFor hosts devices text whole
unfolding schedule_fault
schedule_told hosts devices text true tells = read_whole hosts devices text (schedule_of hosts devices text) refl (tells.0 refl)
schedule_told hosts devices text false tells = λ said. true≢false (sym (tells.1 (ap (λ r. is_some (fault_in r)) said.1)))

abbrev answered : Result Bool CheckFault → Bool
answered (Ok whole) = whole
answered (Err f) = false

-- of a text that is whole nothing is told
quiet_by : (old new : Option (List ℕ)) (whole : Bool) (IsTold : List ℕ → Type 0) → Checks old new (Ok whole) IsTold → whole ≡ true → new ≡ old
quiet_by old new true IsTold checks is = checks
quiet_by old new false IsTold checks is = absurd (true≢false (sym is))

pub quiet_where_whole : (old new : Option (List ℕ)) (whole : Bool) (IsTold : List ℕ → Type 0) (result : Result Bool CheckFault) → Checks old new (Ok whole) IsTold
    → result ≡ Ok whole → result ≡ Ok true → new ≡ old
quiet_where_whole old new whole IsTold result checks is is_true = quiet_by old new whole IsTold checks (ap answered (sym is ∙ is_true))

-- ## Texts of which a beginning was read

-- Two pairs of texts that say the same are sound together.
sound_same : (devices : ℕ) (a b : Parts) → script_of a.script ≡ script_of b.script
    → ((program : ScriptView) → script_of b.script ≡ Ok program → schedule_of (length program.programs) devices a.schedule ≡ schedule_of (length program.programs) devices b.schedule)
    → AreSound devices a → AreSound devices b
sound_same devices a b scripts schedules sound =
    let script : script_of b.script ≡ Ok sound.program = sym scripts ∙ sound.script in
    record { program = sound.program; events = sound.events; script = script; schedule = sym (schedules sound.program script) ∙ sound.schedule }

checks_same : (devices : ℕ) (a b : Parts) (old new : Option (List ℕ)) (result : Result Bool CheckFault) → script_of a.script ≡ script_of b.script
    → ((program : ScriptView) → script_of b.script ≡ Ok program → schedule_of (length program.programs) devices a.schedule ≡ schedule_of (length program.programs) devices b.schedule)
    → ChecksTexts devices a old new result → ChecksTexts devices b old new result
checks_same devices a b old new (Ok true) scripts schedules (sound, written) = (sound_same devices a b scripts schedules sound, written)
checks_same devices a b old new (Ok false) scripts schedules wrong =
    λ sound. wrong (sound_same devices b a (sym scripts) (λ program is. sym (schedules program (sym scripts ∙ is))) sound)
checks_same devices a b old new (Err (fault.Input name)) scripts schedules written = written
checks_same devices a b old new (Err fault.Output) scripts schedules answers = tt
checks_same devices a b old new (Err fault.Memory) scripts schedules answers = tt

-- ## Two texts, whatever was read of them

pub script_wrong : (devices : ℕ) (texts : Parts) (old new : Option (List ℕ)) → IsNoScript texts.script → ChecksTexts devices texts old new (Ok false)
script_wrong devices texts old new none = λ sound. none (sound.program, sound.script)

pub untold : (devices : ℕ) (texts : Parts) (old new : Option (List ℕ)) (f : CheckFault) → IsUntold f → ChecksTexts devices texts old new (Err f)
untold devices texts old new (fault.Input name) is = absurd is
untold devices texts old new fault.Output is = tt
untold devices texts old new fault.Memory is = tt

unread : (devices : ℕ) (texts : Parts) (old new : Option (List ℕ)) (f : CheckFault) → IsUnread f → new ≡ old → ChecksTexts devices texts old new (Err f)
unread devices texts old new (fault.Input name) is same = appends_nothing old new same
unread devices texts old new fault.Output is same = absurd is
unread devices texts old new fault.Memory is same = tt

pub schedule_checked : (devices hosts : ℕ) (texts : Parts) (old new : Option (List ℕ)) (result : Result Bool CheckFault) → IsScriptOf hosts texts.script
    → IfOk result (λ whole. IsScheduleFor hosts devices texts.schedule whole) → (result ≡ Ok true → new ≡ old) → IfErr result IsUntold
    → ChecksTexts devices texts old new result
schedule_checked devices hosts texts old new (Ok true) script (events, schedule) silent told = (
  record { program = script.program; events = events; script = script.script; schedule = rw script.hosts_are at schedule },
  appends_nothing old new (silent refl),
)
schedule_checked devices hosts texts old new (Ok false) script wrong silent told =
    λ sound. let same : Ok script.program ≡ Ok sound.program = sym script.script ∙ sound.script in
    wrong (sound.events, let h = script.hosts_are in let s = sound.schedule in cc)
schedule_checked devices hosts texts old new (Err f) script schedule silent told = untold devices texts old new f told

-- ## Two readers

pub both_checked : (of_script of_schedule : Option (List ℕ)) (script schedule : List ℕ) (devices : ℕ) (old new : Option (List ℕ)) (result : Result Bool CheckFault)
    → IfSome of_script (λ bytes. script ≡ take TEXT_LIMIT bytes) → IfSome of_schedule (λ bytes. schedule ≡ take TEXT_LIMIT bytes)
    → ChecksTexts devices (record { script = script; schedule = schedule }) old new result
    → IfSome of_script (λ script. IfSome of_schedule (λ schedule. ChecksTexts devices (record { script = script; schedule = schedule }) old new result))
both_checked None of_schedule script schedule devices old new result is_script is_schedule answers = tt
both_checked (Some s) None script schedule devices old new result is_script is_schedule answers = tt
both_checked (Some s) (Some e) script schedule devices old new result is_script is_schedule answers =
    checks_same devices (record { script = take TEXT_LIMIT s; schedule = take TEXT_LIMIT e }) (record { script = s; schedule = e }) old new result (capped_script s)
    (λ program is. capped_schedule (record defaults { devices = devices }) program e) (rw (is_script, is_schedule) at answers)

pub script_checked : (of_script of_schedule : Option (List ℕ)) (script : List ℕ) (devices : ℕ) (old new : Option (List ℕ))
    → IfSome of_script (λ bytes. script ≡ take TEXT_LIMIT bytes) → IsNoScript script
    → IfSome of_script (λ script. IfSome of_schedule (λ schedule. ChecksTexts devices (record { script = script; schedule = schedule }) old new (Ok false)))
script_checked None of_schedule script devices old new is none = tt
script_checked (Some s) None script devices old new is none = tt
script_checked (Some s) (Some e) script devices old new is none =
    script_wrong devices (record { script = s; schedule = e }) old new (λ said. none (said.0, ap script_of is ∙ capped_script s ∙ said.1))

-- ## One reader

pub one_checked : (remaining : Option (List ℕ)) (read : List ℕ) (devices : ℕ) (old new : Option (List ℕ)) (result : Result Bool CheckFault)
    → IfSome remaining (λ bytes. read ≡ take INPUT_LIMIT bytes) → ChecksTexts devices (parts read) old new result
    → IfSome remaining (λ text. ChecksTexts devices (parts text) old new result)
one_checked None read devices old new result is answers = tt
one_checked (Some text) read devices old new result is answers =
    checks_same devices (parts (take INPUT_LIMIT text)) (parts text) old new result (same_script text)
    (λ program said. same_schedule (record defaults { devices = devices }) program text said) (rw is at answers)
