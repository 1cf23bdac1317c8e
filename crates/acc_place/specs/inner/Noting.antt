-- The note of a block, found in the labels: what a table keeps of it. Only private contracts and proofs cite it: what a public
-- call promises is said by the definitions, which proofs tie to these.
use Rattle.std.specs.Prelude.{◌≡◌, ℕ, ◌+◌, ◌<◌, ◌≤◌, Bool, true, false, ◌==◌, max, List, [], ◌∷◌, ◌++◌, length, map, All, Contains, Option, Some, None, slice_index_or, if◌then◌else◌}
use Rattle.std.specs.Option.{option_to_list}
use Rattle.acc_base.specs.declared.ids.TheConstants.{QUEUES}
use Rattle.acc_base.specs.declared.range.Range.{Range}
use Rattle.acc_base.specs.Queues.{every_queue}
use Rattle.acc_batch.specs.declared.label.Label.{Label}
use Rattle.acc_batch.specs.declared.label.OpLabel.{OpLabel}
use Rattle.acc_batch.specs.declared.label.OpLabel.TheVariants.{Make, CopyIn, CopyOut, Run}
use Rattle.acc_batch.specs.Awaits.{awaited_number, await_of}
use Rattle.acc_batch.specs.Labels.{on_queue, makes_block, touches_block, greatest}
use Rattle.acc_kernel.specs.Jobs.{Use}
use Rattle.acc_present.specs.Notes.{Note, no_note, used_by, made_by, changed_at}
use Rattle.acc_present.specs.Presences.{Presence, holder}
use Rattle.acc_place.specs.declared.marked.Marked.{Marked}
use Rattle.acc_place.specs.BlockNotes.{maker_in, note_of}

-- ## In the labels

-- whichever range of a device has the block
abbrev pub notes_on : ℕ → List Label → Range → ℕ → Note
notes_on device labels r b = note_of device labels b

-- One more label of a queue, numbered behind all others there.
pub record IsNext (labels : List Label) (l : Label) : Type 0 where
  pub queue : l.at.queue < QUEUES
  pub highest : All (λ (k : Label). k.number ≤ l.number) (on_queue l.at labels)

-- What one more label makes of the note of a block.
abbrev pub NotesFollow : Type 0
NotesFollow =
    (labels : List Label) (l : Label) (b : ℕ) → IsNext labels l
    → (maker_in l.at.device b labels ≡ None → makes_block b l ≡ true → note_of l.at.device (labels ++ l ∷ []) b ≡ made_by l.at.queue l.number (note_of l.at.device labels b))
    × (makes_block b l ≡ false → touches_block b l ≡ true → note_of l.at.device (labels ++ l ∷ []) b ≡ used_by l.at.queue l.number (note_of l.at.device labels b))
    × (touches_block b l ≡ false → note_of l.at.device (labels ++ l ∷ []) b ≡ note_of l.at.device labels b)

-- No other batch of the device made the block.
abbrev pub HasOneMaker : ℕ → List Label → ℕ → Type 0
HasOneMaker device labels b =
    (m : Label) → Contains labels m → m.at.device ≡ device → makes_block b m ≡ true → maker_in device b labels ≡ Some m

-- ## The numbers that are awaited

-- the number of the batch of a queue that a note names as the maker, and as the last use
abbrev pub made_at : ℕ → Note → ℕ
made_at q note = if note.queue == q then note.number else 0

abbrev pub used_at : ℕ → Note → ℕ
used_at q note = slice_index_or note.uses q 0

-- the number that is awaited of a queue, by the notes of the blocks that are used, and of those that are released
abbrev pub number_by : Bool → ℕ → List Note → List Note → ℕ → ℕ
number_by named placed used released q =
    max (if named then placed else 0) (max (greatest (map (made_at q) used)) (greatest (map (used_at q) released)))

-- The notes of the blocks tell what a batch awaits.
abbrev pub NotesTell : Type 0
NotesTell =
    (device : ℕ) (labels : List Label) (named : Bool) (used released : List ℕ) (q : ℕ) → q < QUEUES
    → ((b : ℕ) → Contains used b → HasOneMaker device labels b)
    → awaited_number named (on_queue (record { device = device; queue = q }) labels) used released
    ≡ number_by named (length (on_queue (record { device = device; queue = q }) labels)) (map (note_of device labels) used) (map (note_of device labels) released) q

-- ## By ranges

-- the blocks that an operation copies or computes with, each with the range that it uses
abbrev pub used_ranges : OpLabel → List Use
used_ranges (CopyIn r b) = (b, r) ∷ []
used_ranges (CopyOut r b) = (b, r) ∷ []
used_ranges (Run k uses) = uses
used_ranges op = []

abbrev pub made_ranges : OpLabel → List Use
made_ranges (Make r b) = (b, r) ∷ []
made_ranges op = []

-- all that it makes or uses
abbrev pub noted_ranges : OpLabel → List Use
noted_ranges op = made_ranges op ++ used_ranges op

-- the blocks that items ended, each with the item's range
abbrev pub ended_range : Marked → List Use
ended_range t = map (λ b. (b, t.item.range)) (option_to_list t.ended)

-- the note that a look at a range finds
abbrev pub note_at : (Range → ℕ → Note) → Option Presence → Note
note_at notes None = no_note
note_at notes (Some p) = notes p.range p.block

abbrev pub note_found : (Range → ℕ → Note) → List Presence → Range → Note
note_found notes ps r = note_at notes (holder ps r)

-- the last batches of a queue that made what these ranges use, and that made or used it
abbrev pub last_made : (Range → Note) → List Use → ℕ → ℕ
last_made found us q = greatest (map (λ (u : Use). made_at q (found u.1)) us)

abbrev pub last_used : (Range → Note) → List Use → ℕ → ℕ
last_used found us q = greatest (map (λ (u : Use). used_at q (found u.1)) us)

-- Numbers by queue are raised by others, where these are greater.
abbrev pub Raises : List ℕ → (ℕ → ℕ) → List ℕ → Type 0
Raises old g new = (f : ℕ → ℕ) → old ≡ map f every_queue → new ≡ map (λ q. max (f q) (g q)) every_queue

-- the awaits of a batch on a queue, by the number that is awaited of each, from this queue on
abbrev pub awaits_from : ℕ → ℕ → List ℕ → List OpLabel
awaits_from own q [] = []
awaits_from own q (n ∷ numbers) = await_of own q n ++ awaits_from own (q + 1) numbers

-- ## What operations note

-- each of these ranges, one after another
abbrev pub changed_all : (Note → Note) → List Use → (Range → ℕ → Note) → Range → ℕ → Note
changed_all change [] notes = notes
changed_all change (u ∷ us) notes = changed_all change us (changed_at u.1 change notes)

-- what the operations of a batch with this number make of the notes
abbrev pub noted_by : ℕ → ℕ → List OpLabel → (Range → ℕ → Note) → Range → ℕ → Note
noted_by q n [] notes = notes
noted_by q n (op ∷ ops) notes = noted_by q n ops (changed_all (used_by q n) (used_ranges op) (changed_all (made_by q n) (made_ranges op) notes))

-- and those of a label, if there is one
abbrev pub noted_with : Option Label → (Range → ℕ → Note) → Range → ℕ → Note
noted_with None notes = notes
noted_with (Some l) notes = noted_by l.at.queue l.number l.ops notes
