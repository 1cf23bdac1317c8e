-- The lines of two texts in one list, each with its mark.
use Rattle.std.specs.Borrow.{Bor}
use Rattle.std.specs.Prelude.{ℕ, Bool, true, false, List, [], flat_map, if◌then◌else◌}
use Rattle.acc_cases.specs.declared.difference.Line.{Line}
use Rattle.acc_cases.specs.declared.difference.Mark.{Mark}
use Rattle.acc_cases.specs.declared.difference.Mark.TheVariants.{Both, Wanted, Came}

-- a line of the text that is wanted
abbrev pub is_wanted : Mark → Bool
is_wanted Both = true
is_wanted Wanted = true
is_wanted Came = false

-- a line of the text that came
abbrev pub is_of_came : Mark → Bool
is_of_came Both = true
is_of_came Wanted = false
is_of_came Came = true

-- the text that is wanted, line behind line
abbrev pub wanted_in : List Line → List ℕ
wanted_in lines = flat_map (λ l. if is_wanted l.mark then l.bytes.now else []) lines

-- the text that came
abbrev pub came_in : List Line → List ℕ
came_in lines = flat_map (λ l. if is_of_came l.mark then l.bytes.now else []) lines

-- lines, one behind the other
abbrev pub joined_lines : List (Bor (List ℕ)) → List ℕ
joined_lines lines = flat_map (λ l. l.now) lines
