-- A small program, and the text that it is spelled as.
use Rattle.std.specs.Prelude.{◌≡◌, List, [], ◌∷◌, pos, negsuc, codes}
use Rattle.acc_base.specs.declared.range.Range.{Range}
use Rattle.acc_kernel.specs.declared.operator.Operator.TheVariants.{Times}
use Rattle.acc_kernel.specs.Kernels.{Loop, loop}
use Rattle.acc_kernel.specs.Trees.{Number, Index, Binary}
use Rattle.acc_place.specs.declared.directive.Clause.TheVariants.{Copy, Present}
use Rattle.acc_place.specs.declared.directive.Kind.TheVariants as kind
use Rattle.acc_place.specs.declared.directive.Target.TheVariants.{Plain, Value}
use Rattle.acc_place.specs.declared.directive.Waits.TheVariants.{Nothing, Listed}
use Rattle.acc_host.specs.declared.program.Act.TheVariants.{Write, Print}
use Rattle.acc_host.specs.declared.program.Statement.{Statement}
use Rattle.acc_script.specs.Directives.{placed}
use Rattle.acc_script.specs.Scripts.{ScriptView}
use Rattle.test_grammar.specs.ScriptSpellings.{spelled_program, IsSayableProgram}
use Rattle.acc_script.specs.Statements.{end_of_construct}
use Rattle.test_grammar.specs.worked.Scripts.{of_host, of_clause, at_line}

-- both cells of the array
abbrev pub both : Range
both = record { array = 0; lo = 0; len = 2 }

-- each cell becomes three times its index
abbrev pub tripled : Loop
tripled = loop (pos 0) (pos 2) (record { array = 0; value = Binary Times Index (Number (pos 3)) } ∷ [])

abbrev pub small_statements : List Statement
small_statements =
    at_line 3 (Write 0 1 (negsuc 8))
    ∷ at_line 4 (placed kind.Data (of_clause Copy both ∷ []) Plain Nothing)
    ∷ at_line 6 (placed (kind.Loop tripled) (of_clause Present both ∷ []) (Value (pos 1)) Nothing)
    ∷ at_line 8 (placed kind.Wait [] Plain (Listed (pos 1 ∷ [])))
    ∷ at_line 9 end_of_construct
    ∷ at_line 10 (Print both) ∷ []

abbrev pub small : ScriptView
small = record {
  names = codes "a" ∷ [];
  arrays = (pos 1 ∷ negsuc 1 ∷ []) ∷ [];
  programs = of_host 0 small_statements ∷ [];
}

abbrev pub SpelledProgram : Type 0
SpelledProgram =
    spelled_program (codes "i") small
    ≡ codes "long a[2] = {1,-2};\nhost {\na[1] = -9;\n#pragma acc data copy(a[0:2]) \n{\n#pragma acc parallel loop present(a[0:2]) async(1) \nfor (i = 0; i < 2; i++) { a[i] = (i) * (3); }\n#pragma acc wait(1) \n}\nprint(a[0:2]);\n}\n"

-- it can be written
abbrev pub SayableProgram : Type 0
SayableProgram = IsSayableProgram (codes "i") small
