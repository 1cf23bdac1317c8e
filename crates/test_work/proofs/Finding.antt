-- A block that a memory shows is one of those that are there.
use Rattle.std.proofs.Common.{◌≡◌, ℕ, Bool, true, false, cond, List, [], ◌∷◌, map, Option, Some, None, refl, sym, ap, ◌∙◌}
use Rattle.std.specs.Prelude.{◌==◌, is_some}
use Rattle.std.specs.Option.{option_map}
use Rattle.acc_memory.specs.Memories.{Row, made_of, find_row, find_block}

find_made : (rows : List Row) (n : ℕ) → find_block (map made_of rows) n ≡ option_map made_of (find_row rows n)
find_made [] n = refl
find_made (row ∷ rows) n =
    elim (row.block == n) as (λ v. cond v (Some (made_of row)) (find_block (map made_of rows) n) ≡ option_map made_of (cond v (Some row) (find_row rows n)))
    [ true ↦ refl | false ↦ find_made rows n ]

pub made_is : (rows : List Row) (n : ℕ) (row : Row) → Some row ≡ find_row rows n → find_block (map made_of rows) n ≡ Some (made_of row)
made_is rows n row found = find_made rows n ∙ ap (option_map made_of) (sym found)

is_some_map : {X Y : Type 0} (f : X → Y) (o : Option X) → is_some (option_map f o) ≡ is_some o
is_some_map f None = refl
is_some_map f (Some x) = refl

pub made_there : {X : Type 0} (f : X → Row) (rows : List Row) (n : ℕ) (o : Option X) → option_map f o ≡ find_row rows n → is_some o ≡ is_some (find_block (map made_of rows) n)
made_there f rows n o found =
    sym (is_some_map f o) ∙ (ap is_some found ∙ (sym (is_some_map made_of (find_row rows n)) ∙ ap is_some (sym (find_made rows n))))
