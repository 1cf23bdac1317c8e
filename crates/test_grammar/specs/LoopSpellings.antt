-- How a loop is spelled in one line, and that it is read so.
use Rattle.std.specs.Prelude.{◌≡◌, ◌<◌, ℕ, List, [], ◌∷◌, ◌++◌, All, length, None, Ok, codes}
use Rattle.acc_kernel.specs.declared.assign.Assign.{Assign}
use Rattle.acc_kernel.specs.Faults.{loop_fault}
use Rattle.acc_kernel.specs.Kernels.{Loop}
use Rattle.test_grammar.specs.ExpressionSpellings.{array_name, spelled, IsSayable, AreApart}
use Rattle.acc_script.specs.Expressions.{Names}
use Rattle.acc_script.specs.Loops.{loop_at}
use Rattle.test_grammar.specs.ValueSpellings.{value_text}

--  ARRAY[NAME] = EXPRESSION;
unfoldable pub spelled_assign : Names → Assign → List ℕ → List ℕ
spelled_assign names a behind =
    codes " " ++ (array_name names a.array ++ (codes "[" ++ (names.index ++ (codes "] = " ++ spelled names a.value (codes ";" ++ behind)))))

unfoldable pub spelled_assigns : Names → List Assign → List ℕ → List ℕ
spelled_assigns names [] behind = behind
spelled_assigns names (a ∷ more) behind = spelled_assign names a (spelled_assigns names more behind)

-- for (NAME = LO; NAME < HI; NAME++) { assignments }
unfoldable pub spelled_loop : Names → Loop → List ℕ → List ℕ
spelled_loop names k behind =
    codes "for (" ++ (names.index ++ (codes " = " ++ (value_text k.lo ++ (codes "; "
    ++ (names.index ++ (codes " < " ++ (value_text k.hi ++ (codes "; "
    ++ (names.index ++ (codes "++) {" ++ spelled_assigns names k.statements (codes " }" ++ behind)))))))))))

abbrev pub IsSayableAssign : Names → Assign → Type 0
IsSayableAssign names a = (a.array < length names.arrays.names) × IsSayable names a.value

abbrev pub IsSayableLoop : Names → Loop → Type 0
IsSayableLoop names k = All (λ (a : Assign). IsSayableAssign names a) k.statements × (loop_fault k ≡ None)

-- A loop that has no fault is read again as it is spelled, whatever follows.
abbrev pub LoopIsReadAgain : Type 0
LoopIsReadAgain =
    (names : Names) (k : Loop) (line : ℕ) (behind : List ℕ)
    → AreApart names → IsSayableLoop names k
    → loop_at names.arrays (record { line = line; bytes = spelled_loop names k behind })
    ≡ Ok (k, record { line = line; bytes = behind })
