-- The data lifetimes of one device, found in the list of all its marks, the latest first
-- (OpenACC API 3.0, 2.6.3, Data Regions and Data Lifetimes, and 2.6.7, Reference Counters).
use Rattle.std.specs.Prelude.{ℕ, ◌+◌, ◌-◌, Bool, true, false, ◌&&◌, ◌||◌, ◌==◌, not, nat_lt, List, [], ◌∷◌, length, take, filter, if◌then◌else◌}
use Rattle.std.specs.List.{list_any}
use Rattle.acc_base.specs.declared.range.Range.{Range}
use Rattle.acc_base.specs.Lists.{inserted_by}
use Rattle.acc_base.specs.Ranges.{range_contains}
use Rattle.acc_present.specs.declared.change.Change.{Change}
use Rattle.acc_present.specs.declared.change.Change.TheVariants.{StructuredUp, StructuredDown, DynamicUp, DynamicDown, DynamicZero}
use Rattle.acc_present.specs.Marks.{Mark, region_entries, region_exits, structured_count, dynamic_count}

-- A lifetime has its range, its block (the n-th lifetime opened has block n, from 1), and how many marks came
-- before the one that opened it.
pub record Lifetime : Type 0 where
  pub range : Range
  pub block : ℕ
  pub since : ℕ

-- the marks from its opening mark on
abbrev pub marks_since : List Mark → Lifetime → List Mark
marks_since marks l = take (length marks - l.since) marks

-- how often regions entered its range, and left it
abbrev pub times_entered : List Mark → Lifetime → ℕ
times_entered marks l = region_entries l.range (marks_since marks l)

abbrev pub times_left : List Mark → Lifetime → ℕ
times_left marks l = region_exits l.range (marks_since marks l)

abbrev pub structured_of : List Mark → Lifetime → ℕ
structured_of marks l = structured_count l.range (marks_since marks l)

abbrev pub dynamic_of : List Mark → Lifetime → ℕ
dynamic_of marks l = dynamic_count l.range (marks_since marks l)

-- one of the range's counters is positive after these marks
abbrev pub is_counted : Range → List Mark → Bool
is_counted r marks = nat_lt 0 (structured_count r marks + dynamic_count r marks)

-- and was so after each of them
abbrev pub stays_counted : Range → List Mark → Bool
stays_counted r [] = true
stays_counted r (m ∷ before) = is_counted r (m ∷ before) && stays_counted r before

-- A lifetime ends at the first mark after which both its counters are zero.
abbrev pub lives : List Mark → Lifetime → Bool
lives marks l = stays_counted l.range (marks_since marks l)

-- an increment opens a lifetime where the range is absent
abbrev pub can_open : Change → Bool
can_open StructuredUp = true
can_open StructuredDown = false
can_open DynamicUp = true
can_open DynamicDown = false
can_open DynamicZero = false

-- ranges are listed by array, then by lower bound
unfoldable pub is_before : Range → Range → Bool
is_before a b = nat_lt a.array b.array || ((a.array == b.array) && nat_lt a.lo b.lo)

abbrev pub lifetime_inserted : Lifetime → List Lifetime → List Lifetime
lifetime_inserted l others = inserted_by (λ a b. is_before a.range b.range) l others

-- no lifetime that lives contains the range of the mark
abbrev pub opens : Mark → List Mark → List Lifetime → Bool
opens m before earlier =
    can_open m.change && not (list_any (λ l. lives before l && range_contains l.range m.range) earlier)

abbrev pub opened_by : Mark → List Mark → List Lifetime → List Lifetime
opened_by m before earlier =
    if opens m before earlier
    then lifetime_inserted (record { range = m.range; block = length earlier + 1; since = length before }) earlier
    else earlier

-- All lifetimes that were ever opened.
unfoldable pub opened_lifetimes : List Mark → List Lifetime
opened_lifetimes [] = []
opened_lifetimes (m ∷ before) = opened_by m before (opened_lifetimes before)

-- Present means live.
unfoldable pub live_lifetimes : List Mark → List Lifetime
live_lifetimes marks = filter (lives marks) (opened_lifetimes marks)
