-- What is read of a cut text is what is read of the whole; and why a run is refused.
use Rattle.std.proofs.Common.{◌≡◌, ◌≤◌, ℕ, false, List, [], length, take, Result, Ok, Err, refl, sym, ap, ◌∙◌, arith, inl, inr}
use Rattle.std.specs.Prelude.{nat_lt}
use Rattle.std.proofs.lemmas.Bool.{cases_lt, le-ltb, lt-ltb}
use Rattle.std.specs.Prelude.{◌+◌, ◌⊎◌, Option, Some, None, IfSome, All, ℤ, ◌==◌}
use Rattle.std.proofs.lemmas.List.{length-take-le, take-take, take_all}
use Rattle.std.proofs.lemmas.List.Folds.{list_any_none}
use Rattle.std.proofs.lemmas.Bool.Decides.{nat_tests}
use Rattle.acc_base.specs.declared.config.TheConstants.{MAX_ARRAYS, MAX_CELLS, MAX_DEVICES, MAX_HOSTS, MAX_CAPACITY, MAX_ROOM}
use Rattle.acc_base.specs.Configurations.{fault_of, is_outside, has_long_array, has_empty_array}
use Rattle.acc_script.specs.Arrays.{IsDeclared}
use Rattle.acc_driver.specs.declared.fault.DriverFault.{DriverFault}
use Rattle.acc_driver.specs.declared.fault.DriverFault.TheVariants as fault
use Rattle.acc_token.specs.declared.read_fault.ReadFault.{ReadFault}
use Rattle.acc_token.specs.declared.text.TheConstants.{MAX_TEXT}
use Rattle.acc_driver.specs.declared.options.Ended.{Ended}
use Rattle.acc_driver.specs.declared.options.Options.{Options}
use Rattle.acc_driver.specs.declared.replays.TheConstants.{INPUT_LIMIT, TEXT_LIMIT}
use Rattle.acc_host.specs.declared.event.Event.{Event}
use Rattle.acc_token.specs.Texts.{within}
use Rattle.acc_driver.specs.Inputs.{Parts, parts}
use Rattle.acc_driver.specs.Replays.{driver_fault, events_in, configured, IsWorldFault, AnswersRun, Answers, AreUsable, IsRun, IsScript}
use Rattle.acc_driver.specs.inner.Scripts.{IsScriptFault, ScheduleAnswers}
use Rattle.acc_driver.specs.declared.fault.ReplayFault.{ReplayFault}
use Rattle.acc_driver.specs.declared.fault.ReplayFault.TheVariants as replay
use Rattle.std.specs.Io.KnownBytes.{Appends}
use Rattle.acc_schedule.specs.Schedules.{events_from, lines, schedule_of}
use Rattle.acc_script.specs.Scripts.{ScriptView, script_at, script_of}
use Rattle.acc_driver.proofs.SplitText.{capped, cut_is_enough, capped_is_enough}

-- What is read of a text with a limit, up to a byte more, says what is read of it.
within_capped : {A : Type 0} (limit : ℕ) (read : List ℕ → Result A ReadFault) (a b : List ℕ)
    → capped limit a ≡ capped limit b → within limit read a ≡ within limit read b
within_capped limit read a b same =
    sym (capped_is_enough limit read a) ∙ ap (within limit read) same ∙ capped_is_enough limit read b

-- what is read within the limit is not too long
within_reads : {A : Type 0} (limit : ℕ) (read : List ℕ → Result A ReadFault) (a : List ℕ) (x : A)
    → within limit read a ≡ Ok x → length a ≤ limit
within_reads limit read a x is = elim (cases_lt limit (length a)) [
  | inl long ↦ absurd (let off = rw (lt-ltb limit (length a) long) at is in cc)
  | inr short ↦ short
]

-- texts that are the same up to a byte behind the limit are the same, if one of them is within it
same_within : (limit : ℕ) (a b : List ℕ) → capped limit a ≡ capped limit b → length a ≤ limit → a ≡ b
same_within limit a b same short =
    let all : take (limit + 1) a ≡ a = take_all (limit + 1) a (omega (arith, short)) in
    let front : a ≡ take (limit + 1) b = sym all ∙ same in
    elim (cases_lt (limit + 1) (length b)) [
      | inl long ↦
          let cut : length (take (limit + 1) b) ≡ limit + 1 = length-take-le (limit + 1) b (omega (arith, long)) in
          absurd (omega (arith, ap length front ∙ cut, short))
      | inr within ↦ front ∙ take_all (limit + 1) b within
    ]

script_within : (a b : List ℕ) (program : ScriptView) → capped MAX_TEXT a ≡ capped MAX_TEXT b → script_of a ≡ Ok program → a ≡ b
unfolding script_of
script_within a b program same is = same_within MAX_TEXT a b same (within_reads MAX_TEXT (λ (text : List ℕ). script_at (record { line = 1; bytes = text })) a program is)

schedule_within : (options : Options) (program : ScriptView) (events : List Event) (a b : List ℕ) → capped MAX_TEXT a ≡ capped MAX_TEXT b → events_in options program a ≡ Ok events → a ≡ b
unfolding schedule_of
schedule_within options program events a b same is =
    same_within MAX_TEXT a b same (within_reads MAX_TEXT (λ (text : List ℕ). events_from (length program.programs) options.devices 1 [] (lines text)) a events is)

-- the bytes that are read of a text that holds a script and a schedule
abbrev cut : List ℕ → List ℕ
cut text = take INPUT_LIMIT text

pub same_script : (text : List ℕ) → script_of (parts (cut text)).script ≡ script_of (parts text).script
unfolding script_of
same_script text = within_capped MAX_TEXT (λ (text : List ℕ). script_at (record { line = 1; bytes = text })) (parts (cut text)).script (parts text).script (cut_is_enough MAX_TEXT text).script

pub same_schedule : (options : Options) (program : ScriptView) (text : List ℕ) → script_of (parts text).script ≡ Ok program
    → events_in options program (parts (cut text)).schedule ≡ events_in options program (parts text).schedule
unfolding script_of schedule_of
same_schedule options program text is =
    let short = within_reads MAX_TEXT (λ (text : List ℕ). script_at (record { line = 1; bytes = text })) (parts text).script program is in
    within_capped MAX_TEXT (λ (text : List ℕ). events_from (length program.programs) options.devices 1 [] (lines text)) (parts (cut text)).schedule (parts text).schedule
    ((cut_is_enough MAX_TEXT text).schedule short)

-- what is answered where the script says no program
pub script_answered : (options : Options) (script schedule : List ℕ) (old new : Option (List ℕ)) (f : ReplayFault)
    → IsScriptFault script f → Appends old new [] → Answers options (record { script = script; schedule = schedule }) old new (Err (driver_fault f))
script_answered options script schedule old new (replay.Script f) is written = (is, written)
script_answered options script schedule old new replay.Memory is written = written
script_answered options script schedule old new (replay.Schedule f) is written = absurd is
script_answered options script schedule old new replay.Output is written = absurd is
script_answered options script schedule old new (replay.Runtime f) is written = absurd is

-- Two pairs of texts that say the same have the same answer.
run_same : (options : Options) (a b : Parts) (old new : Option (List ℕ)) (result : Result Ended DriverFault) → script_of a.script ≡ script_of b.script
    → ((program : ScriptView) → script_of b.script ≡ Ok program → events_in options program a.schedule ≡ events_in options program b.schedule)
    → AnswersRun options a old new result → AnswersRun options b old new result
run_same options a b old new result scripts schedules (program, events, says, run) =
    let script : script_of b.script ≡ Ok program = sym scripts ∙ says.script in
    (program, events, record { script = script; schedule = sym (schedules program script) ∙ says.schedule }, run)

answers_same : (options : Options) (a b : Parts) (old new : Option (List ℕ)) (result : Result Ended DriverFault) → script_of a.script ≡ script_of b.script
    → ((program : ScriptView) → script_of b.script ≡ Ok program → events_in options program a.schedule ≡ events_in options program b.schedule)
    → Answers options a old new result → Answers options b old new result
answers_same options a b old new (Ok ended) scripts schedules answers = run_same options a b old new (Ok ended) scripts schedules answers
answers_same options a b old new (Err fault.Output) scripts schedules answers = run_same options a b old new (Err fault.Output) scripts schedules answers
answers_same options a b old new (Err (fault.Runtime f)) scripts schedules answers = run_same options a b old new (Err (fault.Runtime f)) scripts schedules answers
answers_same options a b old new (Err (fault.Script f)) scripts schedules answers = (sym scripts ∙ answers.0, answers.1)
answers_same options a b old new (Err (fault.Schedule f)) scripts schedules answers =
    let program = answers.0.0 in
    let says = answers.0.1 in
    let script : script_of b.script ≡ Ok program = sym scripts ∙ says.script in
    ((program, record { script = script; schedule = sym (schedules program script) ∙ says.schedule }), answers.1)
answers_same options a b old new (Err fault.Input) scripts schedules answers = answers
answers_same options a b old new (Err fault.Memory) scripts schedules answers = answers

-- What is answered to a text that is cut is the answer to the whole text.
answers_whole : (options : Options) (text : List ℕ) (old new : Option (List ℕ)) (result : Result Ended DriverFault)
    → Answers options (parts (cut text)) old new result → Answers options (parts text) old new result
answers_whole options text old new result answers =
    answers_same options (parts (cut text)) (parts text) old new result (same_script text) (λ program is. same_schedule options program text is) answers

-- So it is of two texts, of which each is cut a byte behind its most.
text_limit : TEXT_LIMIT ≡ MAX_TEXT + 1
text_limit = refl

pub capped_script : (text : List ℕ) → script_of (take TEXT_LIMIT text) ≡ script_of text
unfolding script_of
capped_script text =
    ap (λ (limit : ℕ). script_of (take limit text)) text_limit
    ∙ capped_is_enough MAX_TEXT (λ (text : List ℕ). script_at (record { line = 1; bytes = text })) text

pub capped_schedule : (options : Options) (program : ScriptView) (text : List ℕ) → events_in options program (take TEXT_LIMIT text) ≡ events_in options program text
unfolding schedule_of
capped_schedule options program text =
    ap (λ (limit : ℕ). events_in options program (take limit text)) text_limit
    ∙ capped_is_enough MAX_TEXT (λ (text : List ℕ). events_from (length program.programs) options.devices 1 [] (lines text)) text

-- what two texts say that are read up to where each is cut, and what the whole ones say
pub record SameTexts (options : Options) (a b : Parts) : Type 0 where
  pub script : script_of a.script ≡ script_of b.script
  pub schedule : (program : ScriptView) → script_of b.script ≡ Ok program → events_in options program a.schedule ≡ events_in options program b.schedule
  pub same_script : (program : ScriptView) → script_of a.script ≡ Ok program → a.script ≡ b.script
  pub same_schedule : (program : ScriptView) (events : List Event) → script_of a.script ≡ Ok program → events_in options program a.schedule ≡ Ok events → a.schedule ≡ b.schedule

capped_limit : (text : List ℕ) → capped MAX_TEXT (take TEXT_LIMIT text) ≡ capped MAX_TEXT text
capped_limit text = ap (λ (limit : ℕ). capped MAX_TEXT (take limit text)) text_limit ∙ take-take (MAX_TEXT + 1) (MAX_TEXT + 1) text (omega arith)

pub same_both : (options : Options) (script schedule : List ℕ)
    → SameTexts options (record { script = take TEXT_LIMIT script; schedule = take TEXT_LIMIT schedule }) (record { script = script; schedule = schedule })
same_both options script schedule = record {
  script = capped_script script;
  schedule = λ program is. capped_schedule options program schedule;
  same_script = λ program is. script_within (take TEXT_LIMIT script) script program (capped_limit script) is;
  same_schedule = λ program events is says. schedule_within options program events (take TEXT_LIMIT schedule) schedule (capped_limit schedule) says;
}

pub same_parts : (options : Options) (text : List ℕ) → SameTexts options (parts (take INPUT_LIMIT text)) (parts text)
unfolding script_of
same_parts options text =
    let cuts = cut_is_enough MAX_TEXT text in
    let scripts : (program : ScriptView) → script_of (parts (cut text)).script ≡ Ok program → (parts (cut text)).script ≡ (parts text).script =
    λ program is. script_within (parts (cut text)).script (parts text).script program cuts.script is in
    record {
      script = same_script text;
      schedule = λ program is. same_schedule options program text is;
      same_script = scripts;
      same_schedule = λ program events is says.
          let read : script_of (parts text).script ≡ Ok program = sym (same_script text) ∙ is in
          let short = within_reads MAX_TEXT (λ (text : List ℕ). script_at (record { line = 1; bytes = text })) (parts text).script program read in
          schedule_within options program events (parts (cut text)).schedule (parts text).schedule (cuts.schedule short) says;
    }

answers_both : (options : Options) (script schedule : List ℕ) (old new : Option (List ℕ)) (result : Result Ended DriverFault)
    → Answers options (record { script = take TEXT_LIMIT script; schedule = take TEXT_LIMIT schedule }) old new result
    → Answers options (record { script = script; schedule = schedule }) old new result
answers_both options script schedule old new result answers =
    answers_same options _ _ old new result (capped_script script) (λ program is. capped_schedule options program schedule) answers

pub whole_texts : (of_script of_schedule : Option (List ℕ)) (script schedule : List ℕ) (options : Options) (old new : Option (List ℕ)) (result : Result Ended DriverFault)
    → IfSome of_script (λ bytes. script ≡ take TEXT_LIMIT bytes) → IfSome of_schedule (λ bytes. schedule ≡ take TEXT_LIMIT bytes)
    → Answers options (record { script = script; schedule = schedule }) old new result
    → IfSome of_script (λ script. IfSome of_schedule (λ schedule. Answers options (record { script = script; schedule = schedule }) old new result))
whole_texts None of_schedule script schedule options old new result is_script is_schedule answers = tt
whole_texts (Some s) None script schedule options old new result is_script is_schedule answers = tt
whole_texts (Some s) (Some e) script schedule options old new result is_script is_schedule answers =
    answers_both options s e old new result (rw (is_script, is_schedule) at answers)

-- a script of which no more than that is read is understood
pub understood_script : (X : Type 0) (remaining : Option (List ℕ)) (text : List ℕ) (program : ScriptView) → IfSome remaining (λ bytes. text ≡ take TEXT_LIMIT bytes) → script_of text ≡ Ok program
    → IfSome remaining (λ bytes. IsScript bytes ⊎ X)
understood_script X None text program is found = tt
understood_script X (Some bytes) text program is found = inl (program, sym (capped_script bytes) ∙ (ap script_of (sym is) ∙ found))

-- where the script says no program
pub whole_script : (of_script of_schedule : Option (List ℕ)) (script : List ℕ) (options : Options) (old new : Option (List ℕ)) (f : ReplayFault)
    → IfSome of_script (λ bytes. script ≡ take TEXT_LIMIT bytes) → IsScriptFault script f → Appends old new []
    → IfSome of_script (λ script. IfSome of_schedule (λ schedule. Answers options (record { script = script; schedule = schedule }) old new (Err (driver_fault f))))
whole_script None of_schedule script options old new f is fault written = tt
whole_script (Some s) None script options old new f is fault written = tt
whole_script (Some s) (Some e) script options old new f is fault written =
    answers_both options s e old new (Err (driver_fault f)) (script_answered options (take TEXT_LIMIT s) (take TEXT_LIMIT e) old new f (rw is at fault) written)

-- What is read of an input is a front of it, and the answer to that is the answer to the whole.
pub whole_input : (remaining : Option (List ℕ)) (read : List ℕ) (options : Options) (old new : Option (List ℕ)) (result : Result Ended DriverFault)
    → IfSome remaining (λ bytes. read ≡ cut bytes) → Answers options (parts read) old new result
    → IfSome remaining (λ text. Answers options (parts text) old new result)
whole_input None read options old new result is answers = tt
whole_input (Some bytes) read options old new result is answers = answers_whole options bytes old new result (rw is at answers)

-- ## Usable options

none_is_long : (arrays : List (List ℤ)) → All (λ cells. (1 ≤ length cells) × (length cells ≤ MAX_CELLS)) arrays → has_long_array arrays ≡ false
none_is_long arrays each = list_any_none (λ cells. nat_lt MAX_CELLS (length cells)) arrays (λ k d low. le-ltb _ _ (each k d low).1)

none_is_empty : (arrays : List (List ℤ)) → All (λ cells. (1 ≤ length cells) × (length cells ≤ MAX_CELLS)) arrays → has_empty_array arrays ≡ false
none_is_empty arrays each = list_any_none (λ cells. length cells == 0) arrays (λ k d low. let some = (each k d low).0 in grind (arith, nat_tests, some))

inside : (limit n : ℕ) → (1 ≤ n) × (n ≤ limit) → is_outside limit n ≡ false
inside limit n h = let low = h.0 in let high = h.1 in grind (arith, nat_tests, low, high)

usable_config : (options : Options) (program : ScriptView) → AreUsable options → IsDeclared (record { names = program.names; cells = program.arrays })
    → length program.programs ≤ MAX_HOSTS → fault_of (configured options program) ≡ None
usable_config options program usable declared few =
    let same = declared.one_each in
    let is_few = declared.few in
    let is_short : length program.arrays ≤ MAX_ARRAYS = omega (arith, same, is_few) in
    rw (
      inside MAX_DEVICES options.devices usable.devices,
      le-ltb MAX_HOSTS (length program.programs) few,
      le-ltb MAX_ARRAYS (length program.arrays) is_short,
      none_is_long program.arrays declared.sizes,
      none_is_empty program.arrays declared.sizes,
      inside MAX_CAPACITY options.cells usable.cells,
      inside MAX_ROOM options.room usable.room,
    ) refl

-- With usable options the one reason not to open a world is want of memory.
pub usable_runs : (options : Options) (program : ScriptView) (why : DriverFault) → IsDeclared (record { names = program.names; cells = program.arrays })
    → length program.programs ≤ MAX_HOSTS → IsWorldFault (configured options program) why → AreUsable options → IsRun (Err why)
usable_runs options program (fault.Runtime f) declared few opening usable =
    absurd (let off = sym (usable_config options program usable declared few) ∙ opening in cc)
usable_runs options program fault.Memory declared few opening usable = tt
usable_runs options program fault.Input declared few opening usable = tt
usable_runs options program fault.Output declared few opening usable = tt
usable_runs options program (fault.Script f) declared few opening usable = tt
usable_runs options program (fault.Schedule f) declared few opening usable = tt

-- what is answered to a program that the script says, and to the schedule
pub schedule_answered : (options : Options) (script schedule : List ℕ) (program : ScriptView) (old new : Option (List ℕ)) (result : Result Ended DriverFault)
    → script_of script ≡ Ok program → ScheduleAnswers options program schedule old new result
    → Answers options (record { script = script; schedule = schedule }) old new result
schedule_answered options script schedule program old new (Ok ended) is (events, says, run) = (program, events, record { script = is; schedule = says }, run)
schedule_answered options script schedule program old new (Err fault.Output) is (events, says, run) = (program, events, record { script = is; schedule = says }, run)
schedule_answered options script schedule program old new (Err (fault.Runtime f)) is (events, says, run) = (program, events, record { script = is; schedule = says }, run)
schedule_answered options script schedule program old new (Err (fault.Schedule f)) is (says, written) = ((program, record { script = is; schedule = says }), written)
schedule_answered options script schedule program old new (Err fault.Memory) is written = written
schedule_answered options script schedule program old new (Err (fault.Script f)) is answers = absurd answers
schedule_answered options script schedule program old new (Err fault.Input) is answers = absurd answers
