-- What is present on a device: the live lifetimes with their counters.
use Rattle.std.specs.Prelude.{ℕ, Bool, ◌&&◌, not, List, map, find, sum_by, Option}
use Rattle.std.specs.List.{list_any}
use Rattle.acc_base.specs.declared.range.Range.{Range}
use Rattle.acc_base.specs.Ranges.{range_contains, range_overlaps}
use Rattle.acc_present.specs.Marks.{Mark}
use Rattle.acc_present.specs.Lifetimes.{Lifetime, structured_of, dynamic_of, live_lifetimes}

-- A present range, its block, its structured counter and its dynamic counter.
pub record Presence : Type 0 where
  pub range : Range
  pub block : ℕ
  pub s : ℕ
  pub d : ℕ

abbrev pub presence_of : List Mark → Lifetime → Presence
presence_of marks l =
    record { range = l.range; block = l.block; s = structured_of marks l; d = dynamic_of marks l }

-- What is present after these marks, by array, then by lower bound.
unfoldable pub presences : List Mark → List Presence
presences marks = map (presence_of marks) (live_lifetimes marks)

-- the presence that a range is part of
abbrev pub holder : List Presence → Range → Option Presence
holder ps r = find (λ p. range_contains p.range r) ps

-- A range is present where one present range contains it.
abbrev pub is_present : List Presence → Range → Bool
is_present ps r = list_any (λ p. range_contains p.range r) ps

abbrev pub overlaps_any : List Presence → Range → Bool
overlaps_any ps r = list_any (λ p. range_overlaps p.range r) ps

-- It is partly present where it overlaps one and none contains it.
abbrev pub is_partly_present : List Presence → Range → Bool
is_partly_present ps r = overlaps_any ps r && not (is_present ps r)

-- the cells of a device that are in use
abbrev pub used_cells : List Presence → ℕ
used_cells ps = sum_by (λ p. p.range.len) ps
