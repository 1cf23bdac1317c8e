-- What one mark makes of a device's presences, and what a table answers.
use Rattle.std.specs.Prelude.{◌≡◌, ℕ, ◌+◌, ◌-◌, Bool, true, false, ◌&&◌, ◌||◌, ◌==◌, not, nat_lt, nat_le, List, [], ◌∷◌, length, filter, map, Option, Some, None, if◌then◌else◌}
use Rattle.std.specs.List.{list_all}
use Rattle.acc_base.specs.declared.range.Range.{Range}
use Rattle.acc_base.specs.Lists.{inserted_by}
use Rattle.acc_present.specs.declared.change.Counter.{Counter}
use Rattle.acc_present.specs.declared.change.Counter.TheVariants.{Structured, Dynamic}
use Rattle.acc_present.specs.declared.entry.Entry.{Entry}
use Rattle.acc_present.specs.declared.held.Held.{Held}
use Rattle.acc_present.specs.declared.held.Found.{Found}
use Rattle.acc_present.specs.declared.held.Found.TheVariants as found
use Rattle.acc_present.specs.declared.table.Look.{Look}
use Rattle.acc_present.specs.declared.table.Look.TheVariants as look
use Rattle.acc_present.specs.declared.table.Left.{Left}
use Rattle.acc_present.specs.declared.table.Left.TheVariants as left
use Rattle.acc_present.specs.declared.change.Change.{Change}
use Rattle.acc_present.specs.declared.change.Change.TheVariants.{StructuredUp, StructuredDown, DynamicUp, DynamicDown, DynamicZero}
use Rattle.acc_present.specs.Marks.{Mark, dynamic_after, inside}
use Rattle.acc_present.specs.Legality.{AllLegal}
use Rattle.acc_present.specs.Lifetimes.{is_before, can_open, opened_lifetimes}
use Rattle.acc_present.specs.Notes.{Noted}
use Rattle.acc_present.specs.Presences.{Presence, presences, holder, is_present, is_partly_present}

-- what an entry to a range changes, and what an exit from it does
abbrev pub entry_change : Counter → Change
entry_change Structured = StructuredUp
entry_change Dynamic = DynamicUp

abbrev pub exit_change : Counter → Change
exit_change Structured = StructuredDown
exit_change Dynamic = DynamicDown

abbrev pub entry_mark : Counter → Range → Mark
entry_mark counter r = record { change = entry_change counter; range = r }

abbrev pub exit_mark : Counter → Range → Mark
exit_mark counter r = record { change = exit_change counter; range = r }

abbrev pub finalize_mark : Range → Mark
finalize_mark r = record { change = DynamicZero; range = r }

abbrev pub counter_of : Counter → Presence → ℕ
counter_of Structured p = p.s
counter_of Dynamic p = p.d

-- the counter that a change is of
abbrev pub changed_counter : Change → Counter
changed_counter StructuredUp = Structured
changed_counter StructuredDown = Structured
changed_counter DynamicUp = Dynamic
changed_counter DynamicDown = Dynamic
changed_counter DynamicZero = Dynamic

-- what one mark makes of the structured counter
abbrev pub structured_after : Change → ℕ → ℕ
structured_after StructuredUp n = n + 1
structured_after StructuredDown n = n - 1
structured_after DynamicUp n = n
structured_after DynamicDown n = n
structured_after DynamicZero n = n

abbrev pub stepped : Change → Presence → Presence
stepped change p = record p { s = structured_after change p.s; d = dynamic_after change p.d }

-- a mark counts where it is inside
abbrev pub presence_after : Mark → Presence → Presence
presence_after m p = if inside p.range m then stepped m.change p else p

abbrev pub has_count : Presence → Bool
has_count p = nat_lt 0 (p.s + p.d)

-- what stays after a mark: presences without a count have ended
abbrev pub kept_after : Mark → List Presence → List Presence
kept_after m ps = filter has_count (map (presence_after m) ps)

abbrev pub presence_inserted : Presence → List Presence → List Presence
presence_inserted p ps = inserted_by (λ a b. is_before a.range b.range) p ps

abbrev pub opening : Mark → ℕ → Presence
opening m block = stepped m.change (record { range = m.range; block = block; s = 0; d = 0 })

-- What one mark makes of the presences, where a lifetime that it opens gets this block.
abbrev pub presences_after : Mark → ℕ → List Presence → List Presence
presences_after m block ps =
    if can_open m.change && not (is_present ps m.range)
    then presence_inserted (opening m block) (kept_after m ps)
    else kept_after m ps

-- The presences after one more mark, found in the list of all marks, are what that mark makes of those before.
abbrev pub OneMore : Mark → List Mark → Type 0
OneMore m before = presences (m ∷ before) ≡ presences_after m (length (opened_lifetimes before) + 1) (presences before)

-- This holds of each mark after legal ones,
abbrev pub OneMoreMark : Type 0
OneMoreMark = (m : Mark) (before : List Mark) → AllLegal before → OneMore m before

-- and of a mark of the dynamic counter after any.
abbrev pub OneMoreDynamicMark : Type 0
OneMoreDynamicMark = (m : Mark) (before : List Mark) → changed_counter m.change ≡ Dynamic → OneMore m before

-- the first range ends before the second begins
abbrev pub ends_before : Range → Range → Bool
ends_before a b = nat_lt a.array b.array || ((a.array == b.array) && nat_le (a.lo + a.len) b.lo)

abbrev pub ends_before_all : Range → List Presence → Bool
ends_before_all r ps = list_all (λ p. ends_before r p.range) ps

-- Presences are in order and apart, and each has a cell and a count.
abbrev pub is_table : List Presence → Bool
is_table [] = true
is_table (p ∷ ps) = (nat_lt 0 p.range.len && has_count p) && (ends_before_all p.range ps && is_table ps)

-- Legal marks make a table.
abbrev pub LegalMarksMakeATable : Type 0
LegalMarksMakeATable = (marks : List Mark) → AllLegal marks → is_table (presences marks) ≡ true

-- what an entry of a table shows
abbrev pub entry_presence : Entry → Presence
entry_presence e = record { range = e.range; block = e.block; s = e.s; d = e.d }

-- and what a draft has of it
abbrev pub held_presence : Held → Presence
held_presence h = record { range = h.range; block = h.block; s = h.s; d = h.d }

-- What a table shows: what is present, with which notes, the device's capacity in cells, and how many entries it has memory
-- for.
pub record TableView : Type 0 where
  pub presences : List Presence
  pub notes : List Noted
  pub capacity : ℕ
  pub room : ℕ

-- each present range has its note, in the same order
abbrev pub AreNoted : List Presence → List Noted → Type 0
AreNoted ps ns =
    map {B = Range × ℕ} (λ (n : Noted). (n.range, n.block)) ns ≡ map {B = Range × ℕ} (λ (p : Presence). (p.range, p.block)) ps

-- the answer of a look at a range
abbrev pub IsLook : List Presence → Range → Look → Type 0
IsLook ps r look.Absent = (holder ps r ≡ None) × (is_partly_present ps r ≡ false)
IsLook ps r look.Partly = is_partly_present ps r ≡ true
IsLook ps r (look.Present e) = (holder ps r ≡ Some (entry_presence e)) × (is_partly_present ps r ≡ false)

-- and that of a draft, without what is noted
abbrev pub IsFound : List Presence → Range → Found → Type 0
IsFound ps r found.Absent = (holder ps r ≡ None) × (is_partly_present ps r ≡ false)
IsFound ps r found.Partly = is_partly_present ps r ≡ true
IsFound ps r (found.Present h) = (holder ps r ≡ Some (held_presence h)) × (is_partly_present ps r ≡ false)

-- the answer of an exit from what the range was part of: at zero it takes no action
abbrev pub left_of : Option Presence → Change → Left
left_of None change = left.Nothing
left_of (Some p) change =
    if counter_of (changed_counter change) p == 0 then left.Nothing
    else (if has_count (stepped change p) then left.Counted else left.Ended p.block)
