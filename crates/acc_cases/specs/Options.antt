-- A line of options, and what it says.
use Rattle.std.specs.Prelude.{◌≤◌, ◌&&◌, ◌||◌, ◌==◌, ℕ, Bool, List, [], ◌∷◌, filter, true, false, Option, Some, None, option_map, option_and_then, unwrap_or, nat_le, bytes_eq, codes, if◌then◌else◌}
use Rattle.std.specs.Char.{is_ascii_digit}
use Rattle.std.specs.List.{list_all, slice_split}
use Rattle.std.specs.Str.Parse.{digits_value}
use Rattle.acc_base.specs.declared.config.TheConstants.{MAX_CAPACITY, MAX_DEVICES, MAX_ROOM}
use Rattle.acc_driver.specs.declared.options.Options.{Options}
use Rattle.acc_cases.specs.declared.options.Given.{Given}
use Rattle.acc_cases.specs.declared.options.OptionsFault.{OptionsFault}
use Rattle.acc_cases.specs.declared.options.OptionsFault.TheVariants.{Word, Memory}

-- ## Words

-- a space, a tabulator, a carriage return, a line feed
abbrev pub is_gap : ℕ → Bool
is_gap b = (b == 32) || ((b == 9) || ((b == 13) || (b == 10)))

abbrev pub is_not_empty : List ℕ → Bool
is_not_empty [] = false
is_not_empty (b ∷ bs) = true

-- what stands between blanks
abbrev pub words_in : List ℕ → List (List ℕ)
words_in text = filter is_not_empty (slice_split is_gap text)

-- ## What they say

-- a number that is written in digits alone, from 1 to the most
abbrev pub number_in : ℕ → List ℕ → Option ℕ
number_in most word =
    let n = digits_value 10 word in
    if list_all is_ascii_digit word && (nat_le 1 n && nat_le n most) then Some n else None

-- a number for an option that has none yet
abbrev pub first_number : Option ℕ → ℕ → List ℕ → Option ℕ
first_number (Some n) most word = None
first_number None most word = number_in most word

-- An option with the word behind it, beside what is given already.
abbrev pub given_with : Given → List ℕ → List ℕ → Option Given
given_with given name word =
    if bytes_eq name (codes "--devices") then option_map (λ n. record given { devices = Some n }) (first_number given.devices MAX_DEVICES word)
    else if bytes_eq name (codes "--cells") then option_map (λ n. record given { cells = Some n }) (first_number given.cells MAX_CAPACITY word)
    else if bytes_eq name (codes "--room") then option_map (λ n. record given { room = Some n }) (first_number given.room MAX_ROOM word)
    else None

-- Each option has a word behind it.
abbrev pub given_by : Given → List (List ℕ) → Option Given
given_by given [] = Some given
given_by given (name ∷ []) = None
given_by given (name ∷ word ∷ words) = option_and_then (λ g. given_by g words) (given_with given name word)

abbrev pub no_options : Given
no_options = record { devices = None; cells = None; room = None }

-- What isn't given is what all cases have in common.
abbrev pub options_with : Options → Given → Options
options_with common given =
    record { devices = unwrap_or given.devices common.devices; cells = unwrap_or given.cells common.cells; room = unwrap_or given.room common.room }

-- the options that a line says beside the common ones; nothing where it has a fault
abbrev pub options_in : Options → List ℕ → Option Options
options_in common text = option_map (options_with common) (given_by no_options (words_in text))

-- It is a fault of the line.
abbrev pub IsWord : OptionsFault → Type 0
IsWord (Word w) = Unit {0}
IsWord Memory = ⊥

-- a number that is from 1 to the most, if there is one
abbrev pub IsFromOneTo : ℕ → Option ℕ → Type 0
IsFromOneTo most None = Unit {0}
IsFromOneTo most (Some n) = (1 ≤ n) × (n ≤ most)

-- What is given is within the limits.
pub record AreWithin (given : Given) : Type 0 where
  pub devices : IsFromOneTo MAX_DEVICES given.devices
  pub cells : IsFromOneTo MAX_CAPACITY given.cells
  pub room : IsFromOneTo MAX_ROOM given.room
