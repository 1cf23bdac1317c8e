-- How much of a text is read, and one text that holds a script and a schedule.
use Rattle.std.specs.Prelude.{◌≡◌, ℕ, ◌≤◌, Bool, true, false, ◌&&◌, ◌==◌, List, [], ◌∷◌, ◌++◌, length, Option, codes, bytes_eq, if◌then◌else◌}
use Rattle.std.specs.Io.KnownBytes.{Consumes, IsAtEnd}

-- One turn of reading: the bytes that the reader gave, as many as there was room for at most, stand behind the text,
-- and no more follow only at the reader's end.
pub record ReadsTurn (left left_after : Option (List ℕ)) (text text_after : List ℕ) (room : ℕ) (more : Bool) : Type 0 where
  pub part : List ℕ
  pub grown : text_after ≡ text ++ part
  pub short : length part ≤ room
  pub given : Consumes left left_after part
  pub ended : more ≡ false → IsAtEnd left_after

pub record Parts : Type 0 where
  pub script : List ℕ
  pub schedule : List ℕ

-- the line that begins here, without its line feed
abbrev pub first_line : List ℕ → List ℕ
first_line [] = []
first_line (b ∷ bs) = if b == 10 then [] else b ∷ first_line bs

-- what follows that line's line feed
abbrev pub behind_line : List ℕ → List ℕ
behind_line [] = []
behind_line (b ∷ bs) = if b == 10 then bs else behind_line bs

abbrev pub is_split_line : List ℕ → Bool
is_split_line bs = bytes_eq (first_line bs) (codes "%%")

abbrev pub with_front : ℕ → Parts → Parts
with_front b others = record others { script = b ∷ others.script }

-- The text is split at its first line that is exactly `%%`. The script stands before that line, and the schedule
-- behind it. Whether a line begins at the first byte is given.
abbrev pub parts_from : Bool → List ℕ → Parts
parts_from at_start [] = record { script = []; schedule = [] }
parts_from at_start (b ∷ bs) =
    if at_start && is_split_line (b ∷ bs) then record { script = []; schedule = behind_line (b ∷ bs) }
    else with_front b (parts_from (b == 10) bs)

unfoldable pub parts : List ℕ → Parts
parts text = parts_from true text
