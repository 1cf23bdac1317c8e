-- The definition of a loop computed on worked texts: how expressions group, each form of a loop, and each fault with
-- its line.
use Rattle.std.specs.Prelude.{◌≡◌, ℕ, zero, suc, List, [], ◌∷◌, ◌++◌, map, take, replicate, Ok, pos, negsuc, codes}
use Rattle.acc_kernel.specs.declared.assign.Assign.{Assign}
use Rattle.acc_kernel.specs.declared.operator.Operator.TheVariants.{Plus, Minus, Times, Less, AtMost, More, AtLeast, Equal, Differs}
use Rattle.acc_kernel.specs.Kernels.{Loop, loop}
use Rattle.acc_kernel.specs.Trees.{Tree, Number, Index, Read, Negate, Binary, Choose}
use Rattle.acc_script.specs.declared.expression.TheConstants.{MAX_NESTING}
use Rattle.acc_token.specs.declared.read_fault.ReadKind.{ReadKind}
use Rattle.acc_token.specs.declared.read_fault.ReadKind.TheVariants.{Text, End, Name, Limit, Form}
use Rattle.acc_script.specs.Arrays.{Declared}
use Rattle.acc_token.specs.Faults.{fails}
use Rattle.acc_script.specs.Loops.{loop_at}
use Rattle.acc_token.specs.Tokens.{Spot}

-- `a` and `b` are declared
abbrev pub two_arrays : Declared
two_arrays = record { names = codes "a" ∷ codes "b" ∷ []; cells = (pos 0 ∷ pos 0 ∷ []) ∷ (pos 0 ∷ pos 0 ∷ []) ∷ [] }

abbrev pub from_line_one : List ℕ → Spot
from_line_one text = record { line = 1; bytes = text }

-- a text of one line, all of which is the loop
abbrev pub says : List ℕ → Loop → Type 0
says text k = loop_at two_arrays (from_line_one text) ≡ Ok (k, from_line_one [])

abbrev pub is_refused : List ℕ → ℕ → ReadKind → Type 0
is_refused text line kind = loop_at two_arrays (from_line_one text) ≡ fails line kind

abbrev pub assign : ℕ → Tree → Assign
assign array value = record { array = array; value = value }

abbrev pub number : ℕ → Tree
number n = Number (pos n)

abbrev pub repeated : ℕ → List ℕ → List ℕ
repeated zero text = []
repeated (suc n) text = text ++ repeated n text

-- the expression of the only statement
abbrev pub means : List ℕ → Tree → Type 0
means text tree =
    says (codes "for (i = 0; i < 2; i++) b[i] = " ++ (text ++ codes ";")) (loop (pos 0) (pos 2) (assign 1 tree ∷ []))

-- the fault of an expression that begins in line 2
abbrev pub is_wrong : List ℕ → ℕ → ReadKind → Type 0
is_wrong text line kind = is_refused (codes "for (i = 0; i < 2; i++) b[i] =\n" ++ text) line kind

pub record LoopTexts : Type 0 where
  pub by_precedence :
      means (codes "1 + 2 * -a[i] < 0 == 1 ? 5 : 6")
      (Choose (Binary Equal (Binary Less (Binary Plus (number 1) (Binary Times (number 2) (Negate (Read 0 (pos 0))))) (number 0)) (number 1)) (number 5) (number 6))
  pub choices_to_the_right :
      means (codes "1 ? 2 : 0 ? 3 : 4") (Choose (number 1) (number 2) (Choose (number 0) (number 3) (number 4)))
  pub choice_between :
      means (codes "1 ? 0 ? 2 : 3 : 4") (Choose (number 1) (Choose (number 0) (number 2) (number 3)) (number 4))
  pub products_to_the_left :
      means (codes "2 * 3 * i") (Binary Times (Binary Times (number 2) (number 3)) Index)
  pub differences_to_the_left :
      means (codes "7 - 4 + 3 - 2") (Binary Minus (Binary Plus (Binary Minus (number 7) (number 4)) (number 3)) (number 2))
  pub comparisons_to_the_left :
      means (codes "i < 1 <= 2 > 3 >= 4")
      (Binary AtLeast (Binary More (Binary AtMost (Binary Less Index (number 1)) (number 2)) (number 3)) (number 4))
  pub equalities_to_the_left :
      means (codes "1 == 2 != 3") (Binary Differs (Binary Equal (number 1) (number 2)) (number 3))
  pub parentheses :
      means (codes "(1 + 2) * (7 - (4 - i))")
      (Binary Times (Binary Plus (number 1) (number 2)) (Binary Minus (number 7) (Binary Minus (number 4) Index)))
  pub choice_in_parentheses :
      means (codes "2 * (1 ? 3 : 4)") (Binary Times (number 2) (Choose (number 1) (number 3) (number 4)))
  pub signs : means (codes "1--- -i*2") (Binary Minus (number 1) (Binary Times (Negate (Negate (Negate Index))) (number 2)))
  pub cells :
      means (codes "a[i - 1] + a[i + 2] - b[i]") (Binary Minus (Binary Plus (Read 0 (negsuc 0)) (Read 0 (pos 2))) (Read 1 (pos 0)))
  pub no_distance : means (codes "b[i + 0] + b[i - 0]") (Binary Plus (Read 1 (pos 0)) (Read 1 (pos 0)))
  pub greatest : means (codes "-9223372036854775807") (Negate (number 9223372036854775807))
  pub sixty_four : means (repeated 64 (codes "(") ++ (codes "i" ++ repeated 64 (codes ")"))) Index
  -- the first part of a choice is no deeper than the choice
  pub no_deeper :
      means (repeated 64 (codes "(") ++ (codes "i" ++ (repeated 64 (codes ")") ++ codes "? 1 : 2"))) (Choose Index (number 1) (number 2))

pub record LoopForms : Type 0 where
  pub int : says (codes "for (int i = -3; i < 2; i++) b[i] = i;") (loop (negsuc 2) (pos 2) (assign 1 Index ∷ []))
  pub long : says (codes "for(long x=0;x<65536;x++)a[x]=1;") (loop (pos 0) (pos 65536) (assign 0 (number 1) ∷ []))
  pub braces :
      says (codes "for (i = -65536; i < -1; i++) { b[i] = a[i]; a[i] = b[i]; }")
      (loop (negsuc 65535) (negsuc 0) (assign 1 (Read 0 (pos 0)) ∷ assign 0 (Read 1 (pos 0)) ∷ []))
  pub only_one : says (codes "for (i = 0; i < 1; i++) { a[i] = i; }") (loop (pos 0) (pos 1) (assign 0 Index ∷ []))
  pub lines :
      loop_at two_arrays (from_line_one (codes "// all\nfor (i = 0; i < 1; i++) /*\n*/ a[i] = i;\n}"))
      ≡ Ok (loop (pos 0) (pos 1) (assign 0 Index ∷ []), record { line = 3; bytes = codes "\n}" })

-- a loop of all its parts, and where its tokens end
abbrev pub whole_text : List ℕ
whole_text = codes "for(int i=0;i<-2;i++){b[i]=-a[i-1]+(i)?1:a[i];}"

abbrev pub token_ends : List ℕ
token_ends =
    0 ∷ 3 ∷ 4 ∷ 7 ∷ 9 ∷ 10 ∷ 11 ∷ 12 ∷ 13 ∷ 14 ∷ 15 ∷ 16 ∷ 17 ∷ 18 ∷ 20 ∷ 21 ∷ 22 ∷ 23 ∷ 24 ∷ 25 ∷ 26 ∷ 27 ∷ 28 ∷ 29
    ∷ 30 ∷ 31 ∷ 32 ∷ 33 ∷ 34 ∷ 35 ∷ 36 ∷ 37 ∷ 38 ∷ 39 ∷ 40 ∷ 41 ∷ 42 ∷ 43 ∷ 44 ∷ 45 ∷ 46 ∷ []

pub record LoopFaults : Type 0 where
  pub cut_off :
      map (λ n. loop_at two_arrays (from_line_one (take n whole_text))) token_ends ≡ replicate 41 (fails 1 End)
  pub cut_off_later : is_refused (codes "for (i = 0; i < 1; i++) { a[i] = 1;\n\n") 3 End
  pub other_word : is_refused (codes "\nwhile (1) a[i] = 1;") 2 Form
  pub other_type : is_refused (codes "for (\nhost i = 0; i < 1; i++) a[i] = 1;") 2 Form
  pub index_is_an_array : is_refused (codes "for (int\na = 0; a < 1; a++) b[a] = 1;") 2 Name
  pub index_is_reserved : is_refused (codes "for (\nacc_i = 0; acc_i < 1; acc_i++) b[acc_i] = 1;") 2 Form
  pub index_is_long : is_refused (codes "for (\na23456789012345678901234567890123 = 0; i < 1; i++) b[i] = 1;") 2 Name
  pub other_second : is_refused (codes "for (i = 0;\nj < 1; i++) b[i] = 1;") 2 Form
  pub second_is_an_array : is_refused (codes "for (i = 0;\na < 1; i++) b[i] = 1;") 2 Form
  pub second_is_long : is_refused (codes "for (i = 0;\na23456789012345678901234567890123 < 1; i++) b[i] = 1;") 2 Name
  pub second_is_a_number : is_refused (codes "for (i = 0;\n0 < 1; i++) b[i] = 1;") 2 Form
  pub other_third : is_refused (codes "for (i = 0; i < 1;\nj++) b[i] = 1;") 2 Form
  pub other_comparison : is_refused (codes "for (i = 0; i\n<= 1; i++) b[i] = 1;") 2 Form
  pub other_step : is_refused (codes "for (i = 0; i < 1; i\n+ +) b[i] = 1;") 2 Form
  pub bound_is_a_name : is_refused (codes "for (i = 0; i <\na; i++) b[i] = 1;") 2 Form
  pub large_first : is_refused (codes "for (i =\n9223372036854775808; i < 1; i++) b[i] = 1;") 2 Limit
  -- a value, but too far from zero
  pub least_first : is_refused (codes "\nfor (i =\n-9223372036854775808; i < 1; i++) b[i] = 1;") 2 Limit
  pub below_least : is_refused (codes "\nfor (i =\n-9223372036854775809; i < 1; i++) b[i] = 1;") 3 Limit
  pub no_assign : is_refused (codes "for (i = 0; i < 1; i++) {\n}") 2 Form
  pub undeclared : is_refused (codes "for (i = 0; i < 1; i++)\nc[i] = 1;") 2 Name
  pub index_is_assigned : is_refused (codes "for (i = 0; i < 1; i++)\ni[i] = 1;") 2 Name
  pub assigned_elsewhere : is_refused (codes "for (i = 0; i < 1; i++) b[\n0] = 1;") 2 Form
  pub assigned_by_an_array : is_refused (codes "for (i = 0; i < 1; i++) b[\na] = 1;") 2 Form
  pub assigned_at_a_distance : is_refused (codes "for (i = 0; i < 1; i++) b[i\n+ 1] = 1;") 2 Form
  pub second_undeclared : is_refused (codes "for (i = 0; i < 1; i++) { b[i] = 1;\nc[i] = 1; }") 2 Name
  pub nothing : is_wrong (codes ";") 2 Form
  pub nothing_behind : is_wrong (codes "1 +\n;") 3 Form
  pub plus_sign : is_wrong (codes "1 +\n+1;") 3 Form
  pub two_plus : is_wrong (codes "1\n++1;") 3 Form
  pub no_colon : is_wrong (codes "1 ? 2\n;") 3 Form
  pub colon_alone : is_wrong (codes "1\n: 2;") 3 Form
  pub open_parenthesis : is_wrong (codes "(1 + 2\n;") 3 Form
  pub closed_too_often : is_wrong (codes "(1)\n);") 3 Form
  pub assigned_twice : is_wrong (codes "1\n= 2;") 3 Form
  pub reserved : is_wrong (codes "host;") 2 Form
  pub long_name : is_wrong (codes "a23456789012345678901234567890123;") 2 Name
  pub unknown : is_wrong (codes "c\n\n") 2 Name
  pub unknown_cell : is_wrong (codes "c\n[i];") 2 Name
  pub bare_array : is_wrong (codes "a\n\n;") 2 Name
  pub bare_array_behind : is_wrong (codes "1 +\na\n+ 1;") 3 Name
  pub bare_array_at_the_end : is_wrong (codes "a\n\n") 4 End
  pub bare_array_before_a_flag : is_wrong (codes "a\n\n!") 4 Text
  pub bare_array_before_a_zero : is_wrong (codes "a\n\n01") 4 Form
  pub index_with_a_bracket : is_wrong (codes "i\n[i];") 3 Form
  pub cell_by_a_number : is_wrong (codes "a[\n0];") 3 Form
  pub cell_by_an_array : is_wrong (codes "a[\nb];") 3 Form
  pub cell_by_a_product : is_wrong (codes "a[i\n* 2];") 3 Form
  pub distance_is_a_name : is_wrong (codes "a[i +\ni];") 3 Form
  pub second_distance : is_wrong (codes "a[i + 1\n+ 1];") 3 Form
  pub large_distance : is_wrong (codes "a[i +\n9223372036854775808];") 3 Limit
  pub large_distance_below : is_wrong (codes "a[i -\n9223372036854775808];") 3 Limit
  pub large_number : is_wrong (codes "9223372036854775808;") 2 Limit
  pub large_behind_a_sign : is_wrong (codes "-\n9223372036854775808;") 3 Limit
  pub leading_zero : is_wrong (codes "-\n01;") 3 Form
  pub parentheses_too_deep : is_wrong (repeated 64 (codes "(") ++ codes "\n(1") 3 Limit
  pub signs_too_deep : is_wrong (repeated 64 (codes "-") ++ codes "\n-1") 3 Limit
  pub choices_too_deep : is_wrong (repeated 64 (codes "1?1:") ++ codes "1\n?") 3 Limit
  pub together_too_deep : is_wrong (repeated 31 (codes "(") ++ (repeated 31 (codes "-") ++ codes "(1?\n(")) 3 Limit
  pub second_part_too_deep : is_wrong (codes "1?" ++ (repeated 63 (codes "(") ++ codes "\n(1")) 3 Limit
  pub third_part_too_deep : is_wrong (codes "1?2:" ++ (repeated 63 (codes "(") ++ codes "\n(1")) 3 Limit
  pub assigned_and_read : is_refused (codes "for (i = 0; i < 1; i++)\na[i] = a[i + 1];") 1 Form
  pub assigned_later_and_read : is_refused (codes "\nfor (i = 0; i < 1; i++) {\nb[i] = a[i - 1];\na[i] = 1;\n}") 2 Form
  pub thirty_three_operands : is_refused (codes "\nfor (i = 0; i < 1; i++)\nb[i] = 1" ++ (repeated 32 (codes " + 1") ++ codes ";")) 2 Limit
  pub bound_too_far : is_refused (codes "\nfor (i = 0; i <\n65537; i++)\nb[i] = 1;") 2 Limit
  pub first_too_far : is_refused (codes "\nfor (i =\n-65537; i < 1; i++)\nb[i] = 1;") 2 Limit
  pub distance_too_far : is_refused (codes "\nfor (i = 0; i < 1; i++)\nb[i] = a[i - 65537];") 2 Limit
  pub seventeen_assigns : is_refused (codes "\nfor (i = 0; i < 1; i++) {\n" ++ (repeated 17 (codes "b[i] = 1;\n") ++ codes "}")) 2 Limit
  pub first_of_two : is_refused (codes "for (i = 0; i < 65537; i++)\na[i] = a[i + 1];") 1 Form

-- the limit, as a number
pub record LoopLimits : Type 0 where
  pub nesting : MAX_NESTING ≡ 64
