-- What a table would show after marks that it doesn't have yet.
use Rattle.std.specs.Prelude.{◌≡◌, ℕ, ◌≤◌, true, not, List, [], ◌∷◌, filter, if◌then◌else◌}
use Rattle.acc_present.specs.Presences.{Presence, overlaps_any, used_cells}
use Rattle.acc_present.specs.Tables.{TableView, has_count, is_table, presence_inserted}

-- What a draft shows: the presences that its marks changed, opened or ended, as they are after them (one that
-- ended has no count), the cells in use then, and how many changed ones it has memory for.
pub record DraftView : Type 0 where
  pub changed : List Presence
  pub used : ℕ
  pub room : ℕ

-- the presences that no changed one overlaps
abbrev pub beside : List Presence → List Presence → List Presence
beside changed ps = filter (λ p. not (overlaps_any changed p.range)) ps

abbrev pub counted_inserted : List Presence → List Presence → List Presence
counted_inserted [] ps = ps
counted_inserted (c ∷ cs) ps =
    if has_count c then presence_inserted c (counted_inserted cs ps) else counted_inserted cs ps

-- The presences, with the changed ones in place of those that they overlap.
unfoldable pub with_changed : List Presence → List Presence → List Presence
with_changed changed ps = counted_inserted changed (beside changed ps)

-- what the table would show after the draft's marks
abbrev pub drafted : TableView → DraftView → List Presence
drafted t d = with_changed d.changed t.presences

-- What every draft of a table keeps: it shows a table too, which fits the capacity, and counts its cells.
pub record IsDraft (t : TableView) (d : DraftView) : Type 0 where
  pub table : is_table t.presences ≡ true
  pub after : is_table (drafted t d) ≡ true
  pub counted : d.used ≡ used_cells (drafted t d)
  pub within : used_cells (drafted t d) ≤ t.capacity
