-- What is told of the ends that a search has found. Only private contracts and proofs cite it.
use Rattle.std.specs.Prelude.{◌≡◌, ℕ, Bool, List, [], ◌∷◌, ◌++◌, length, map, take, bytes_eq, if◌then◌else◌}
use Rattle.std.specs.List.{list_any}
use Rattle.acc_report.specs.Puts.{Puts, Sink}
use Rattle.acc_explore.specs.Arrivals.{events_to, found_at}
use Rattle.acc_explore.specs.declared.arrival.Arrival.{Arrival}
use Rattle.acc_explore.specs.declared.reports.Form.{Form}
use Rattle.acc_explore.specs.declared.reports.Tally.{Tally}
use Rattle.acc_explore.specs.Endings.{Ending, Setting, endings_text, refuses}
use Rattle.acc_explore.specs.Runs.{report_of}

-- what was found with a number, as an ending
abbrev pub ending_at : Setting → List Arrival → ℕ → Ending
ending_at x arrivals n = record { events = events_to arrivals n; report = report_of x.names x.programs (found_at x.start arrivals n).state }

-- Of endings those whose report none of these is, nor that of one before.
abbrev pub new_endings : List (List ℕ) → List Ending → List Ending
new_endings seen [] = []
new_endings seen (e ∷ endings) =
    if list_any (bytes_eq e.report) seen then new_endings seen endings
    else e ∷ new_endings (seen ++ e.report ∷ []) endings

-- of the ends with these numbers, one for each report
abbrev pub told_of : Setting → List Arrival → List ℕ → List Ending
told_of x arrivals ends = new_endings [] (map (ending_at x arrivals) ends)

-- the reports that were told
abbrev pub seen_by : Tally → List (List ℕ)
seen_by t = map (λ report. report.items) t.seen.keys

abbrev pub reports_of : List Ending → List (List ℕ)
reports_of endings = map (λ (e : Ending). e.report) endings

abbrev pub count_of : Tally → ℕ
count_of t = length t.seen.keys

-- Endings were told, and it is known which reports they have, and whether a host was refused in one.
pub record IsTally (x : Setting) (f : Form) (schedule : List ℕ) (endings : List Ending) (t : Tally) (old new : Sink) : Type 0 where
  pub seen_is : seen_by t ≡ reports_of endings
  pub refused_is : t.refused ≡ list_any (refuses x.start) endings
  pub told : Puts old new (endings_text f schedule 1 endings)

-- what there is to tell of an end behind these endings: nothing, or its ending
abbrev pub told_behind : Setting → List Arrival → List Ending → ℕ → List Ending
told_behind x arrivals endings n = new_endings (reports_of endings) (ending_at x arrivals n ∷ [])

-- It was told.
abbrev pub TellsOne : Setting → Form → List ℕ → List Arrival → ℕ → Tally → Tally → Sink → Sink → Type 0
TellsOne x f schedule arrivals n before behind mid new =
    (endings : List Ending) (old : Sink) → IsTally x f schedule endings before old mid
    → IsTally x f schedule (endings ++ told_behind x arrivals endings n) behind old new

-- It was told, or not.
abbrev pub TellsAtMost : Setting → Form → List ℕ → List Arrival → ℕ → Tally → Sink → Sink → Type 0
TellsAtMost x f schedule arrivals n before mid new =
    (endings : List Ending) (old : Sink) → IsTally x f schedule endings before old mid
    → (told : Bool) × Puts old new (endings_text f schedule 1 (endings ++ (if told then told_behind x arrivals endings n else [])))

-- Of the first of these ends one was told for each report.
abbrev pub TellsFirst : Setting → Form → List ℕ → List Arrival → List ℕ → Sink → Sink → Type 0
TellsFirst x f schedule arrivals ends old new = (n : ℕ) × Puts old new (endings_text f schedule 1 (told_of x arrivals (take n ends)))
