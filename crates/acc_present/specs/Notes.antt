-- What a table keeps beside the counters: which batches made and used the block of a present range.
use Rattle.std.specs.Prelude.{◌≡◌, ℕ, List, All, slice_set, replicate, if◌then◌else◌}
use Rattle.acc_base.specs.declared.ids.TheConstants.{QUEUES}
use Rattle.acc_base.specs.declared.range.Range.{Range}
use Rattle.acc_base.specs.Ranges.{range_contains}
use Rattle.acc_present.specs.declared.entry.Entry.{Entry}
use Rattle.acc_present.specs.declared.table.Look.{Look}
use Rattle.acc_present.specs.declared.table.Look.TheVariants as look

-- The queue and the number of the batch that made a block, and of each queue the number of the last batch that made or
-- used it, or 0.
pub record Note : Type 0 where
  pub queue : ℕ
  pub number : ℕ
  pub uses : List ℕ

-- no batch made or used it yet
abbrev pub no_note : Note
no_note = record { queue = 0; number = 0; uses = replicate QUEUES 0 }

abbrev pub entry_note : Entry → Note
entry_note e = record { queue = e.maker.0; number = e.maker.1; uses = e.uses }

-- a present range with its block and its note
pub record Noted : Type 0 where
  pub range : Range
  pub block : ℕ
  pub note : Note

abbrev pub entry_noted : Entry → Noted
entry_noted e = record { range = e.range; block = e.block; note = entry_note e }

-- The note of each present range is this.
abbrev pub HasNotes : (Range → ℕ → Note) → List Noted → Type 0
HasNotes notes ns = All (λ (n : Noted). n.note ≡ notes n.range n.block) ns

abbrev pub used_by : ℕ → ℕ → Note → Note
used_by queue number note = record note { uses = slice_set note.uses queue number }

abbrev pub made_by : ℕ → ℕ → Note → Note
made_by queue number note = record { queue = queue; number = number; uses = slice_set note.uses queue number }

-- the note of what a range is part of changes so, and no other
abbrev pub changed_at : Range → (Note → Note) → (Range → ℕ → Note) → Range → ℕ → Note
changed_at r change notes whole block = if range_contains whole r then change (notes whole block) else notes whole block

-- an entry that was found has its note
abbrev pub IsNoted : (Range → ℕ → Note) → Look → Type 0
IsNoted notes look.Absent = Unit {0}
IsNoted notes look.Partly = Unit {0}
IsNoted notes (look.Present e) = entry_note e ≡ notes e.range e.block
