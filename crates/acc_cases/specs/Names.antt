-- The names of the cases that files are of.
use Rattle.std.specs.Prelude.{◌≡◌, ◌++◌, ◌||◌, ℕ, Bool, false, List, Option, Some, None, bytes_eq}
use Rattle.std.specs.Cmp.Lexicographic.{slice_cmp}
use Rattle.std.specs.List.{list_any}
use Rattle.std.specs.List.Sorted.{IsStrictlySortedBy}
use Rattle.std.specs.Ordering.{nat_cmp}
use Rattle.acc_cases.specs.Cases.{ending_of}
use Rattle.acc_cases.specs.declared.fault.Kind.{Kind}
use Rattle.acc_cases.specs.declared.fault.Kind.TheVariants.{Script, Schedule, Line, Report}

-- a file has a case's name, and the ending of a kind
abbrev pub has_ending : Kind → List ℕ → List ℕ → Bool
has_ending kind name file = bytes_eq file (name ++ ending_of kind)

-- a file is of the case of a name
abbrev pub is_of : List ℕ → List ℕ → Bool
is_of name file = has_ending Script name file || (has_ending Schedule name file || (has_ending Line name file || has_ending Report name file))

-- one of the files is of the case of this name
abbrev pub is_case : List (List ℕ) → List ℕ → Bool
is_case files name = list_any (is_of name) files

-- the name of a file's case is this one
abbrev pub is_name : List ℕ → Option (List ℕ) → Bool
is_name name None = false
is_name name (Some own) = bytes_eq name own

-- The names of all cases, each once, in their order.
pub record AreCases (files names : List (List ℕ)) : Type 0 where
  pub ordered : IsStrictlySortedBy (slice_cmp nat_cmp) names
  pub all : (name : List ℕ) → list_any (bytes_eq name) names ≡ is_case files name
