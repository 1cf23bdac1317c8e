-- The definition of a script computed on worked texts: what they say, and each kind of fault with its line.
use Rattle.std.specs.Prelude.{◌≡◌, ℕ, true, false, List, [], ◌∷◌, ◌++◌, Ok, ℤ, pos, negsuc, codes}
use Rattle.acc_base.specs.declared.range.Range.{Range}
use Rattle.acc_place.specs.declared.directive.Clause.{Clause}
use Rattle.acc_place.specs.declared.directive.Clause.TheVariants.{Copy, Copyin, Copyout, Create, Present, NoCreate, Delete, UpdateSelf, UpdateDevice}
use Rattle.acc_place.specs.declared.directive.DataItem.{DataItem}
use Rattle.acc_place.specs.declared.directive.Kind.{Kind}
use Rattle.acc_place.specs.declared.directive.Kind.TheVariants as kind
use Rattle.acc_place.specs.declared.directive.Target.TheVariants.{Plain, Unvalued, Value}
use Rattle.acc_place.specs.declared.directive.Waits.TheVariants.{Nothing, All, Listed}
use Rattle.acc_host.specs.declared.program.Act.{Act}
use Rattle.acc_host.specs.declared.program.Act.TheVariants.{Write, Print, SetDevice, SetAsync, ShowDevice, ShowDevices}
use Rattle.acc_host.specs.declared.program.HostProgram.{HostProgram}
use Rattle.acc_host.specs.declared.program.Statement.{Statement}
use Rattle.acc_token.specs.declared.read_fault.ReadKind.{ReadKind}
use Rattle.acc_token.specs.declared.read_fault.ReadKind.TheVariants.{Text, End, Name, Limit, Form}
use Rattle.acc_script.specs.declared.directive.TheConstants.{MAX_CONSTRUCTS}
use Rattle.acc_script.specs.declared.queue.TheConstants.{MAX_QUEUES}
use Rattle.acc_script.specs.declared.range.TheConstants.{MAX_INDEX, MAX_RANGES}
use Rattle.acc_token.specs.declared.text.TheConstants.{MAX_TEXT}
use Rattle.acc_token.specs.declared.word.TheConstants.{MAX_NAME}
use Rattle.acc_token.specs.Faults.{fails}
use Rattle.acc_script.specs.Directives.{placed}
use Rattle.acc_script.specs.Scripts.{script_of}
use Rattle.acc_script.specs.Statements.{end_of_construct}

abbrev pub says_programs : List ℕ → List (List ℕ) → List (List ℤ) → List HostProgram → Type 0
says_programs text names arrays programs = script_of text ≡ Ok (record { names = names; arrays = arrays; programs = programs })

abbrev pub of_host : ℕ → List Statement → HostProgram
of_host host statements = record { host = host; statements = statements }

abbrev pub says : List ℕ → List (List ℕ) → List (List ℤ) → List Statement → Type 0
says text names arrays statements = says_programs text names arrays (of_host 0 statements ∷ [])

abbrev pub is_refused : List ℕ → ℕ → ReadKind → Type 0
is_refused text line kind = script_of text ≡ fails line kind

abbrev pub cells : ℕ → ℕ → Range
cells lo len = record { array = 0; lo = lo; len = len }

abbrev pub of_clause : Clause → Range → DataItem
of_clause clause range = record { clause = clause; range = range }

abbrev pub at_line : ℕ → Act → Statement
at_line line act = record { line = line; act = act }

abbrev pub data_of : Kind → List DataItem → Act
data_of kind items = placed kind items Plain Nothing

-- a host write under a present range, with comments
abbrev pub StaleCopyText : Type 0
StaleCopyText =
    says
    (codes "long a[4] = {1,2,-3,};\nhost { // one host\n#pragma acc enter data copyin(a)\na[0] = 9; /* under\nit */\n#pragma acc exit data copyout(a)\nprint(a);\n}\n")
    (codes "a" ∷ [])
    ((pos 1 ∷ pos 2 ∷ negsuc 2 ∷ pos 0 ∷ []) ∷ [])
    (at_line 3 (data_of kind.EnterData (of_clause Copyin (cells 0 4) ∷ []))
    ∷ at_line 4 (Write 0 0 (pos 9))
    ∷ at_line 6 (data_of (kind.ExitData false) (of_clause Copyout (cells 0 4) ∷ []))
    ∷ at_line 7 (Print (cells 0 4)) ∷ [])

-- every form of a range, and clauses with and without a comma between them
abbrev pub RangeForms : Type 0
RangeForms =
    says
    (codes "long a[8];\nhost {\n#pragma acc exit data delete(a[:], a[3:]) copyout(a[:2]), delete(a[1:5],a[9:])\n}")
    (codes "a" ∷ [])
    ((pos 0 ∷ pos 0 ∷ pos 0 ∷ pos 0 ∷ pos 0 ∷ pos 0 ∷ pos 0 ∷ pos 0 ∷ []) ∷ [])
    (at_line 3 (data_of (kind.ExitData false) (of_clause Delete (cells 0 8) ∷ of_clause Delete (cells 3 5) ∷ of_clause Copyout (cells 0 2)
    ∷ of_clause Delete (cells 1 5) ∷ of_clause Delete (cells 9 0) ∷ [])) ∷ [])

-- the whole of the one cell of the array
abbrev whole : Range
whole = cells 0 1

-- a script with an array of one cell and one host with these statements, from line 3 on
abbrev one_cell : List ℕ → List ℕ
one_cell statements = codes "long a[1];\nhost {\n" ++ (statements ++ codes "}\n")

abbrev does : List ℕ → List Statement → Type 0
does text statements = says (one_cell text) (codes "a" ∷ []) ((pos 0 ∷ []) ∷ []) statements

abbrev does_one : List ℕ → Act → Type 0
does_one text act = does text (at_line 3 act ∷ [])

-- each data clause under each of its names, where it may stand
pub record ClauseNames : Type 0 where
  pub copy : does (codes "#pragma acc data copy(a) pcopy(a), present_or_copy(a)\n{ }\n")
      (at_line 3 (data_of kind.Data (of_clause Copy whole ∷ of_clause Copy whole ∷ of_clause Copy whole ∷ [])) ∷ at_line 4 end_of_construct ∷ [])
  pub copyin : does_one (codes "#pragma acc enter data copyin(a) pcopyin(a) present_or_copyin(a)\n")
      (data_of kind.EnterData (of_clause Copyin whole ∷ of_clause Copyin whole ∷ of_clause Copyin whole ∷ []))
  pub copyout : does_one (codes "#pragma acc exit data copyout(a) pcopyout(a) present_or_copyout(a)\n")
      (data_of (kind.ExitData false) (of_clause Copyout whole ∷ of_clause Copyout whole ∷ of_clause Copyout whole ∷ []))
  pub create : does_one (codes "#pragma acc enter data create(a) pcreate(a) present_or_create(a)\n")
      (data_of kind.EnterData (of_clause Create whole ∷ of_clause Create whole ∷ of_clause Create whole ∷ []))
  pub region : does (codes "#pragma acc data copyin(a) copyout(a) create(a) present(a)\n\n{\n}\n")
      (at_line 3 (data_of kind.Data (of_clause Copyin whole ∷ of_clause Copyout whole ∷ of_clause Create whole ∷ of_clause Present whole ∷ []))
      ∷ at_line 6 end_of_construct ∷ [])
  pub no_create : does (codes "#pragma acc data no_create(a) create(a), no_create(a[0:1])\n{ }\n")
      (at_line 3 (data_of kind.Data (of_clause NoCreate whole ∷ of_clause Create whole ∷ of_clause NoCreate whole ∷ [])) ∷ at_line 4 end_of_construct ∷ [])
  pub delete : does_one (codes "# pragma acc exit data finalize delete(a)\n") (data_of (kind.ExitData true) (of_clause Delete whole ∷ []))
  pub update : does_one (codes "#pragma acc update self(a) host(a), device(a) if_present // all\n")
      (data_of (kind.Update true) (of_clause UpdateSelf whole ∷ of_clause UpdateSelf whole ∷ of_clause UpdateDevice whole ∷ []))

-- async and wait clauses, and waits
pub record AsyncForms : Type 0 where
  pub values : does_one (codes "#pragma acc enter data create(a) async(-5) wait(1, acc_async_noval,-2)\n")
      (placed kind.EnterData (of_clause Create whole ∷ []) (Value (negsuc 4)) (Listed (pos 1 ∷ negsuc 0 ∷ negsuc 1 ∷ [])))
  pub bare : does_one (codes "#pragma acc update wait async, self(a)\n") (placed (kind.Update false) (of_clause UpdateSelf whole ∷ []) Unvalued All)
  pub synchronous : does_one (codes "#pragma acc exit data delete(a) async(acc_async_sync)\n")
      (placed (kind.ExitData false) (of_clause Delete whole ∷ []) (Value (negsuc 1)) Nothing)
  pub wait_for_all : does_one (codes "#pragma acc wait\n") (placed kind.Wait [] Plain All)
  pub wait_for_one : does_one (codes "#pragma acc wait(2)\n") (placed kind.Wait [] Plain (Listed (pos 2 ∷ [])))
  pub wait_for_two : does_one (codes "#pragma acc wait(2, acc_async_sync) async(3)\n")
      (placed kind.Wait [] (Value (pos 3)) (Listed (pos 2 ∷ negsuc 1 ∷ [])))
  pub wait_on_the_default : does_one (codes "#pragma acc wait async\n") (placed kind.Wait [] Unvalued All)

-- each routine, and what it acts as
pub record Routines : Type 0 where
  pub copyin : does_one (codes "acc_copyin(a);") (data_of kind.EnterData (of_clause Copyin whole ∷ []))
  pub create : does_one (codes "acc_create(a[0:1]);") (data_of kind.EnterData (of_clause Create whole ∷ []))
  pub copyout : does_one (codes "acc_copyout(a);") (data_of (kind.ExitData false) (of_clause Copyout whole ∷ []))
  pub delete : does_one (codes "acc_delete(a);") (data_of (kind.ExitData false) (of_clause Delete whole ∷ []))
  pub copyout_finalize : does_one (codes "acc_copyout_finalize(a);") (data_of (kind.ExitData true) (of_clause Copyout whole ∷ []))
  pub delete_finalize : does_one (codes "acc_delete_finalize(a);") (data_of (kind.ExitData true) (of_clause Delete whole ∷ []))
  pub update_device : does_one (codes "acc_update_device(a);") (data_of (kind.Update false) (of_clause UpdateDevice whole ∷ []))
  pub update_self : does_one (codes "acc_update_self(a);") (data_of (kind.Update false) (of_clause UpdateSelf whole ∷ []))
  pub wait : does_one (codes "acc_wait(acc_async_noval);") (placed kind.Wait [] Plain (Listed (negsuc 0 ∷ [])))
  pub wait_all : does_one (codes "acc_wait_all( );") (placed kind.Wait [] Plain All)
  pub wait_async : does_one (codes "acc_wait_async(1, 2);") (placed kind.Wait [] (Value (pos 2)) (Listed (pos 1 ∷ [])))
  pub set_device : does_one (codes "acc_set_device_num(4294967295);") (SetDevice 4294967295)
  pub set_async : does_one (codes "acc_set_default_async(-1);") (SetAsync (negsuc 0))

-- what can be printed
pub record Questions : Type 0 where
  pub range : does_one (codes "print(a[0:]);") (Print whole)
  pub is_present : does_one (codes "print(acc_is_present(a));") (data_of kind.IsPresent (of_clause Present whole ∷ []))
  pub async_test : does_one (codes "print(acc_async_test(4));") (placed kind.AsyncTest [] Plain (Listed (pos 4 ∷ [])))
  pub async_test_all : does_one (codes "print(acc_async_test_all());") (placed kind.AsyncTest [] Plain All)
  pub device : does_one (codes "print(acc_get_device_num());") ShowDevice
  pub devices : does_one (codes "print(acc_get_num_devices());") ShowDevices

-- A data construct's end is a statement of its own; each host has the statements that stand in its part.
pub record Constructs : Type 0 where
  pub nested : does (codes "#pragma acc data create(a)\n{\n#pragma acc data copy(a)\n/* { */ { a[0] = -1;\n} }\n")
      (at_line 3 (data_of kind.Data (of_clause Create whole ∷ []))
      ∷ at_line 5 (data_of kind.Data (of_clause Copy whole ∷ []))
      ∷ at_line 6 (Write 0 0 (negsuc 0))
      ∷ at_line 7 end_of_construct ∷ at_line 7 end_of_construct ∷ [])
  pub hosts : says_programs (codes "long a[1];\nhost { }\nhost { print(a); }\nhost {\na[0] = 1; }")
      (codes "a" ∷ [])
      ((pos 0 ∷ []) ∷ [])
      (of_host 0 [] ∷ of_host 1 (at_line 3 (Print whole) ∷ []) ∷ of_host 2 (at_line 5 (Write 0 0 (pos 1)) ∷ []) ∷ [])

pub record ReadFaults : Type 0 where
  pub nothing : script_of [] ≡ Ok (record { names = []; arrays = []; programs = [] })
  pub cut_off : is_refused (codes "long a[4];\nhost {\n#pragma acc enter data copyin(a[0:") 3 End
  pub open_comment : is_refused (codes "long a[4];\n/* a\nb") 3 End
  pub open_host : is_refused (codes "host {\n\n") 3 End
  pub leading_zero : is_refused (codes "long a[01];") 1 Form
  pub letter_behind : is_refused (codes "long a[1x];") 1 Form
  pub behind_a_comment : is_refused (codes "/*\n\n*/ long a[];") 3 Form
  pub reserved : is_refused (codes "long acc_x[1];") 1 Form
  pub array_behind_a_host : is_refused (codes "host { }\nlong a[1];") 2 Form
  pub ninth_host : is_refused (codes "host{}host{}host{}host{}host{}host{}host{}host{}\nhost {") 2 Limit
  pub lone_slash : is_refused (codes "host {\n/ }") 2 Text
  pub lone_flag : is_refused (codes "host { ! }") 1 Text
  pub undeclared : is_refused (codes "long a[1];\nhost {\nb[0] = 1;\n}") 3 Name
  pub declared_twice : is_refused (codes "long a[1];\nlong b[1], a[1];") 2 Form
  pub twice : is_refused (codes "long a[1]; long b[1];\nlong a[1];") 2 Name
  pub long_name : is_refused (codes "long a23456789012345678901234567890123[1];") 1 Name
  pub no_cells : is_refused (codes "long a[0];") 1 Limit
  pub many_cells : is_refused (codes "long a[65537];") 1 Limit
  pub many_values : is_refused (codes "long a[1] = {1,\n2};") 2 Limit
  pub minus_too_many : is_refused (codes "long a[1] = {1,\n-};") 2 Limit
  pub large_value : is_refused (codes "long a[1] = {9223372036854775808};") 1 Limit
  pub large_index : is_refused (one_cell (codes "a[4294967296] = 1;")) 3 Limit
  pub semicolon_missing : is_refused (one_cell (codes "a[0] = 1\n")) 4 Form
  pub cut_behind_a_value : is_refused (codes "long a[1];\nhost { a[0] = 1") 2 End

-- the same in directives
pub record DirectiveFaults : Type 0 where
  pub hash_alone : is_refused (one_cell (codes "#\npragma acc enter data copyin(a)\n")) 3 Form
  pub other_pragma : is_refused (one_cell (codes "#pragma omp data\n")) 3 Form
  pub other_directive : is_refused (one_cell (codes "#pragma acc kernels\n")) 3 Form
  pub no_clause : is_refused (one_cell (codes "#pragma acc enter data // nothing\n")) 3 Form
  pub no_data_clause : is_refused (one_cell (codes "#pragma acc update async wait\n")) 3 Form
  pub foreign_clause : is_refused (one_cell (codes "#pragma acc enter data copyout(a)\n")) 3 Form
  pub no_create_of_an_entry : is_refused (one_cell (codes "#pragma acc enter data no_create(a)\n")) 3 Form
  pub no_create_of_a_loop : is_refused (one_cell (codes "#pragma acc parallel loop no_create(a)\nfor (i = 0; i < 1; i++) a[i] = i;\n")) 3 Form
  pub foreign_flag : is_refused (one_cell (codes "#pragma acc enter data create(a) finalize\n")) 3 Form
  pub async_construct : is_refused (one_cell (codes "#pragma acc data create(a) async\n{ }\n")) 3 Form
  pub async_twice : is_refused (one_cell (codes "#pragma acc enter data create(a) async(1) async(2)\n")) 3 Form
  pub wait_twice : is_refused (one_cell (codes "#pragma acc enter data create(a) wait wait(2)\n")) 3 Form
  pub flag_twice : is_refused (one_cell (codes "#pragma acc exit data delete(a) finalize, finalize\n")) 3 Form
  pub wait_with_a_wait : is_refused (one_cell (codes "#pragma acc wait wait(1)\n")) 3 Form
  pub comma_first : is_refused (one_cell (codes "#pragma acc enter data, create(a)\n")) 3 Form
  pub comma_last : is_refused (one_cell (codes "#pragma acc enter data create(a),\n")) 3 Form
  pub comma_before_async : is_refused (one_cell (codes "#pragma acc wait(1), async(2)\n")) 3 Form
  pub comma_behind_async : is_refused (one_cell (codes "#pragma acc wait async, x\n")) 3 Form
  pub empty_list : is_refused (one_cell (codes "#pragma acc wait()\n")) 3 Form
  pub undeclared : is_refused (one_cell (codes "#pragma acc enter data create(\nb)\n")) 3 Form
  pub undeclared_here : is_refused (one_cell (codes "#pragma acc enter data create(/*\n*/b)\n")) 4 Name
  pub large_everywhere : is_refused (one_cell (codes "#pragma acc enter data copyin(a 9223372036854775808)\n")) 3 Limit
  pub large_queue : is_refused (one_cell (codes "#pragma acc wait(-9223372036854775808)\n")) 3 Limit
  pub large_bound : is_refused (one_cell (codes "#pragma acc enter data create(a[4294967296:])\n")) 3 Limit
  pub end_of_the_line : is_refused (one_cell (codes "#pragma acc enter data create(a)\n\n}\n")) 6 Form
  pub missing_brace : is_refused (one_cell (codes "#pragma acc data create(a)\n\nprint(a);")) 5 Form
  pub cut_word : is_refused (codes "long a[1];\nhost {\n#pragma acc ent") 3 Form
  pub cut_directive : is_refused (codes "long a[1];\nhost {\n#pragma acc enter data") 3 End
  pub cut_comma : is_refused (codes "long a[1];\nhost {\n#pragma acc enter data copyin(a,") 3 End
  pub cut_queues : is_refused (codes "long a[1];\nhost {\n#pragma acc wait(1,") 3 End
  pub cut_construct : is_refused (codes "long a[1];\nhost {\n#pragma acc data copy(a)\n{\n}") 5 End

-- the same in calls and questions
pub record RoutineFaults : Type 0 where
  pub other_routine : is_refused (one_cell (codes "acc_init(a);")) 3 Form
  pub call_in_print : is_refused (one_cell (codes "print(acc_copyin(a));")) 3 Form
  pub question_alone : is_refused (one_cell (codes "acc_is_present(a);")) 3 Form
  pub negative_device : is_refused (one_cell (codes "acc_set_device_num(-1);")) 3 Form
  pub large_device : is_refused (one_cell (codes "acc_set_device_num(4294967296);")) 3 Limit
  pub no_queue : is_refused (one_cell (codes "acc_wait();")) 3 Form
  pub one_queue : is_refused (one_cell (codes "acc_wait_async(1);")) 3 Form
  pub undeclared : is_refused (one_cell (codes "print(acc_is_present(b));")) 3 Name
  pub cut_question : is_refused (codes "long a[1];\nhost { print(acc_async_test(1)") 2 End

-- the limits, as numbers
pub record ScriptLimits : Type 0 where
  pub text : MAX_TEXT ≡ 1048576
  pub name : MAX_NAME ≡ 32
  pub index : MAX_INDEX ≡ 4294967295
  pub ranges : MAX_RANGES ≡ 64
  pub queues : MAX_QUEUES ≡ 64
  pub constructs : MAX_CONSTRUCTS ≡ 64
