-- What directives do to the reference counters of ranges (OpenACC API 3.0, 2.6.7, Reference Counters).
-- A list of marks is the marks on one device, the latest first: in `m ∷ before`, `before` is all that came earlier.
use Rattle.std.specs.Prelude.{Bool, true, false, ℕ, ◌+◌, ◌-◌, ◌&&◌, List, [], ◌∷◌, length, filter}
use Rattle.acc_base.specs.declared.range.Range.{Range}
use Rattle.acc_base.specs.Ranges.{range_contains}
use Rattle.acc_present.specs.declared.change.Change.{Change}
use Rattle.acc_present.specs.declared.change.Change.TheVariants.{StructuredUp, StructuredDown, DynamicUp, DynamicDown, DynamicZero}

-- What a directive does to a counter of a range.
pub record Mark : Type 0 where
  pub change : Change
  pub range : Range

-- the mark is inside the range
abbrev pub inside : Range → Mark → Bool
inside r m = range_contains r m.range

abbrev pub is_structured_up : Change → Bool
is_structured_up StructuredUp = true
is_structured_up StructuredDown = false
is_structured_up DynamicUp = false
is_structured_up DynamicDown = false
is_structured_up DynamicZero = false

abbrev pub is_structured_down : Change → Bool
is_structured_down StructuredUp = false
is_structured_down StructuredDown = true
is_structured_down DynamicUp = false
is_structured_down DynamicDown = false
is_structured_down DynamicZero = false

-- how often regions entered the range, and left it
abbrev pub region_entries : Range → List Mark → ℕ
region_entries r marks = length (filter (λ m. inside r m && is_structured_up m.change) marks)

abbrev pub region_exits : Range → List Mark → ℕ
region_exits r marks = length (filter (λ m. inside r m && is_structured_down m.change) marks)

-- The structured counter of a range over these marks: the regions that entered it less those that left it.
abbrev pub structured_count : Range → List Mark → ℕ
structured_count r marks = region_entries r marks - region_exits r marks

-- what one mark inside the range makes of its dynamic counter; a decrement of zero takes no action
abbrev pub dynamic_after : Change → ℕ → ℕ
dynamic_after StructuredUp n = n
dynamic_after StructuredDown n = n
dynamic_after DynamicUp n = n + 1
dynamic_after DynamicDown n = n - 1
dynamic_after DynamicZero n = 0

abbrev pub dynamic_step : Bool → Change → ℕ → ℕ
dynamic_step true change n = dynamic_after change n
dynamic_step false change n = n

-- The dynamic counter of a range: the walk over the marks inside it, from 0.
abbrev pub dynamic_count : Range → List Mark → ℕ
dynamic_count r [] = 0
dynamic_count r (m ∷ before) = dynamic_step (inside r m) m.change (dynamic_count r before)
