-- The rule of the progress words: each is the number that the writer's seat has, and no reader has seen more.
use Rattle.std.specs.Prelude.{◌≡◌, ℕ, ◌+◌, ◌≤◌, ◌<◌, ◌==◌, if◌then◌else◌, Bool, true, false, List, [], ◌∷◌, ◌++◌, length, slice_index, slice_set}
use mathlib.Core.Option.{some}
use lib.ListN.{get_elem?}
use Rattle.atomic_table.specs.Table.{State, Step, Me}
use Rattle.acc_queue.specs.Seen.{more}
use Rattle.acc_queue.specs.declared.knows.Knows.{Knows}

abbrev pub knows : Bool → List ℕ → ℕ → Knows
knows w numbers reads = record { writes = w; numbers = numbers; reads = reads }

-- each number is at most the word in its place
abbrev pub Below : List ℕ → List ℕ → Type 0
Below [] ws = Unit {0}
Below (x ∷ xs) [] = ⊥
Below (x ∷ xs) (w ∷ ws) = (x ≤ w) × Below xs ws

abbrev pub FitsWords : ℕ → List ℕ → ℕ → Knows → Type 0
FitsWords writer words seat v = (v.writes ≡ true → (seat ≡ writer) × (v.numbers ≡ words)) × Below v.numbers words

abbrev pub Published : {S : Type 0} → State S Knows → Type 0
Published s = (writer : ℕ) × ((seat : ℕ) (v : Knows) → get_elem? s.views seat ≡ some v → FitsWords writer s.words seat v)

-- the writer's number rose by one
abbrev pub Raises : {S : Type 0} → Step S → Me S Knows → ℕ → Me S Knows → Type 0
Raises s v found w = (found ≡ slice_index v.0.numbers s.word) × (w ≡ (knows v.0.writes (slice_set v.0.numbers s.word (found + 1)) v.0.reads, v.1))

-- the reader saw the word, which was not less than what it had seen
abbrev pub ReadsWord : {S : Type 0} → Step S → Me S Knows → ℕ → Me S Knows → Type 0
ReadsWord s v found w = (slice_index v.0.numbers s.word ≤ found) × (w ≡ (knows v.0.writes (slice_set v.0.numbers s.word found) (more v.0.reads), v.1))
