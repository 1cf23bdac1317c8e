-- How what a statement does is spelled in a script, and that it is read so.
use Rattle.std.specs.Prelude.{◌≡◌, ◌≤◌, ◌<◌, ℕ, ◌+◌, Bool, true, false, List, [], ◌∷◌, ◌++◌, All, length, slice_index_or, Ok, ℤ, negsuc, codes}
use Rattle.std.specs.Fmt.{decimal}
use Rattle.acc_base.specs.declared.range.Range.{Range}
use Rattle.acc_place.specs.Clauses.{is_well_formed}
use Rattle.acc_place.specs.Directives.{Directive}
use Rattle.acc_place.specs.declared.directive.Clause.{Clause}
use Rattle.acc_place.specs.declared.directive.Clause.TheVariants.{Copy, Copyin, Copyout, Create, Present, NoCreate, Delete, UpdateSelf, UpdateDevice}
use Rattle.acc_place.specs.declared.directive.DataItem.{DataItem}
use Rattle.acc_place.specs.declared.directive.Kind.{Kind}
use Rattle.acc_place.specs.declared.directive.Kind.TheVariants as kind
use Rattle.acc_place.specs.declared.directive.Target.{Target}
use Rattle.acc_place.specs.declared.directive.Target.TheVariants.{Plain, Unvalued, Value}
use Rattle.acc_place.specs.declared.directive.Waits.{Waits}
use Rattle.acc_place.specs.declared.directive.Waits.TheVariants as waits
use Rattle.acc_place.specs.declared.directive.Written.{Written}
use Rattle.acc_host.specs.declared.program.Act.{Act}
use Rattle.acc_host.specs.declared.program.Act.TheVariants.{Place, Write, Print, SetDevice, SetAsync, ShowDevice, ShowDevices}
use Rattle.acc_script.specs.declared.head.Head.{Head}
use Rattle.acc_script.specs.declared.head.Head.TheVariants as head
use Rattle.acc_script.specs.declared.clause.Clauses.{Clauses}
use Rattle.acc_script.specs.declared.directive.TheConstants.{MAX_CONSTRUCTS}
use Rattle.acc_script.specs.declared.queue.TheConstants.{MAX_QUEUES}
use Rattle.acc_script.specs.declared.range.TheConstants.{MAX_INDEX, MAX_RANGES}
use Rattle.acc_token.specs.Faults.{◌>>=◌}
use Rattle.acc_token.specs.Tokens.{token_at}
use Rattle.test_grammar.specs.ExpressionSpellings.{AreApart}
use Rattle.acc_script.specs.Expressions.{Names}
use Rattle.test_grammar.specs.LoopSpellings.{spelled_loop, IsSayableLoop}
use Rattle.test_grammar.specs.RangeSpellings as range
use Rattle.acc_token.specs.Turns.{turn}
use Rattle.acc_script.specs.Statements.{Body, act_of, depth_behind, with_statement, statement_turn}
use Rattle.test_grammar.specs.ValueSpellings.{IsLong, IsSigned, value_text}

-- ## Values and queues

-- queues behind the first of a list
unfoldable pub more_queues : List ℤ → List ℕ → List ℕ
more_queues [] behind = behind
more_queues (value ∷ values) behind = codes "," ++ (value_text value ++ more_queues values behind)

unfoldable pub spelled_queues : List ℤ → List ℕ → List ℕ
spelled_queues [] behind = behind
spelled_queues (value ∷ values) behind = value_text value ++ more_queues values behind

-- ## Clauses, each with a space behind it

abbrev pub word_of : Clause → List ℕ
word_of Copy = codes "copy"
word_of Copyin = codes "copyin"
word_of Copyout = codes "copyout"
word_of Create = codes "create"
word_of Present = codes "present"
word_of NoCreate = codes "no_create"
word_of Delete = codes "delete"
word_of UpdateSelf = codes "self"
word_of UpdateDevice = codes "device"

-- a clause for each range
unfoldable pub spelled_items : List (List ℕ) → List DataItem → List ℕ → List ℕ
spelled_items names [] behind = behind
spelled_items names (item ∷ items) behind =
    word_of item.clause ++ (codes "(" ++ (range.spelled names item.range ++ (codes ") " ++ spelled_items names items behind)))

abbrev pub spelled_waits : Waits → List ℕ → List ℕ
spelled_waits waits.Nothing behind = behind
spelled_waits waits.All behind = codes "wait " ++ behind
spelled_waits (waits.Listed values) behind = codes "wait(" ++ spelled_queues values (codes ") " ++ behind)

abbrev pub spelled_target : Target → List ℕ → List ℕ
spelled_target Plain behind = behind
spelled_target Unvalued behind = codes "async " ++ behind
spelled_target (Value value) behind = codes "async(" ++ (value_text value ++ (codes ") " ++ behind))

abbrev pub spelled_flag : Head → Bool → List ℕ → List ℕ
spelled_flag head.ExitData true behind = codes "finalize " ++ behind
spelled_flag head.Update true behind = codes "if_present " ++ behind
spelled_flag h flagged behind = behind

-- the clauses, and the end of the line
unfoldable pub spelled_clauses : List (List ℕ) → Head → Clauses → List ℕ → List ℕ
spelled_clauses names h c behind =
    spelled_items names c.items (spelled_waits c.waits (spelled_target c.target (spelled_flag h c.flagged (codes "\n" ++ behind))))

-- ## Acts

-- The words of a directive before its clauses; `wait` is spelled as its clause is.
abbrev pub words_of : Head → List ℕ
words_of head.EnterData = codes "enter data "
words_of head.ExitData = codes "exit data "
words_of head.Update = codes "update "
words_of head.Wait = []
words_of head.Data = codes "data "
words_of head.Loop = codes "parallel loop "

unfoldable pub spelled_line : List (List ℕ) → Head → Clauses → List ℕ → List ℕ
spelled_line names h c behind = codes "#pragma acc " ++ (words_of h ++ spelled_clauses names h c behind)

-- what a question about queues asks
abbrev pub spelled_test : Waits → List ℕ → List ℕ
spelled_test waits.Nothing behind = behind
spelled_test waits.All behind = codes "acc_async_test_all()" ++ behind
spelled_test (waits.Listed values) behind = codes "acc_async_test(" ++ spelled_queues values (codes ")" ++ behind)

-- the range that is asked about
abbrev pub spelled_asked : List (List ℕ) → List DataItem → List ℕ → List ℕ
spelled_asked names [] behind = behind
spelled_asked names (item ∷ items) behind = range.spelled names item.range ++ behind

abbrev pub clauses_of : Written → Bool → Clauses
clauses_of w flagged = record { items = w.items; target = w.target; waits = w.waits; flagged = flagged }

-- A data construct is entered; its end is no act of its own. A loop stands in the line behind its directive's.
abbrev pub spelled_kind : Names → Kind → Written → List ℕ → List ℕ
spelled_kind n kind.Data w behind = spelled_line n.arrays.names head.Data (clauses_of w false) (codes "{" ++ behind)
spelled_kind n kind.EndData w behind = behind
spelled_kind n kind.EnterData w behind = spelled_line n.arrays.names head.EnterData (clauses_of w false) behind
spelled_kind n (kind.ExitData finalize) w behind = spelled_line n.arrays.names head.ExitData (clauses_of w finalize) behind
spelled_kind n (kind.Update if_present) w behind = spelled_line n.arrays.names head.Update (clauses_of w if_present) behind
spelled_kind n kind.Wait w behind = spelled_line n.arrays.names head.Wait (clauses_of w false) behind
spelled_kind n (kind.Loop k) w behind = spelled_line n.arrays.names head.Loop (clauses_of w false) (spelled_loop n k behind)
spelled_kind n kind.AsyncTest w behind = codes "print(" ++ spelled_test w.waits (codes ");" ++ behind)
spelled_kind n kind.IsPresent w behind = codes "print(acc_is_present(" ++ spelled_asked n.arrays.names w.items (codes "));" ++ behind)

abbrev pub written_of : Directive → Written
written_of d = record { kind = d.kind; items = d.items; target = d.target; waits = d.waits }

-- an act, before what stands behind it, by the names of the arrays and the one that every loop has
unfoldable pub spelled : Names → Act → List ℕ → List ℕ
spelled n (Place d) behind = spelled_kind n d.kind (written_of d) behind
spelled n (Write array cell value) behind =
    slice_index_or n.arrays.names array [] ++ (codes "[" ++ (decimal cell ++ (codes "] = " ++ (value_text value ++ (codes ";" ++ behind)))))
spelled n (Print r) behind = codes "print(" ++ (range.spelled n.arrays.names r ++ (codes ");" ++ behind))
spelled n (SetDevice device) behind = codes "acc_set_device_num(" ++ (decimal device ++ (codes ");" ++ behind))
spelled n (SetAsync value) behind = codes "acc_set_default_async(" ++ (value_text value ++ (codes ");" ++ behind))
spelled n ShowDevice behind = codes "print(acc_get_device_num());" ++ behind
spelled n ShowDevices behind = codes "print(acc_get_num_devices());" ++ behind

-- how many line feeds it is spelled with
abbrev pub feeds_of_kind : Kind → ℕ
feeds_of_kind kind.AsyncTest = 0
feeds_of_kind kind.IsPresent = 0
feeds_of_kind k = 1

abbrev pub feeds_of : Act → ℕ
feeds_of (Place d) = feeds_of_kind d.kind
feeds_of act = 0

-- ## What can be spelled

pub record IsSayableRange (names : List (List ℕ)) (r : Range) : Type 0 where
  pub array : r.array < length names
  pub lo : r.lo ≤ MAX_INDEX
  pub len : r.len ≤ MAX_INDEX

-- A list of queues isn't empty.
abbrev pub AreSayable : Waits → Type 0
AreSayable waits.Nothing = Unit {0}
AreSayable waits.All = Unit {0}
AreSayable (waits.Listed values) = (1 ≤ length values) × (length values ≤ MAX_QUEUES) × All IsSigned values

abbrev pub IsSayableTarget : Target → Type 0
IsSayableTarget Plain = Unit {0}
IsSayableTarget Unvalued = Unit {0}
IsSayableTarget (Value value) = IsSigned value

abbrev pub AsksOne : Waits → Type 0
AsksOne (waits.Listed values) = length values ≡ 1
AsksOne w = Unit {0}

-- A question asks about one queue or all.
abbrev pub IsSayableKind : Names → Kind → Waits → Type 0
IsSayableKind n kind.EndData w = ⊥
IsSayableKind n (kind.Loop k) w = IsSayableLoop n k
IsSayableKind n kind.AsyncTest w = AsksOne w
IsSayableKind n k w = Unit {0}

pub record IsSayableWritten (n : Names) (w : Written) : Type 0 where
  pub form : is_well_formed w ≡ true
  pub kinds : IsSayableKind n w.kind w.waits
  pub items : All (λ (item : DataItem). IsSayableRange n.arrays.names item.range) w.items
  pub few : length w.items ≤ MAX_RANGES
  pub target : IsSayableTarget w.target
  pub queues : AreSayable w.waits

-- A script gives directives for device 0 and acc_async_noval.
pub record IsSayableDirective (n : Names) (d : Directive) : Type 0 where
  pub device : d.device ≡ 0
  pub default : d.default ≡ negsuc 0
  pub written : IsSayableWritten n (written_of d)

abbrev pub IsSayable : Names → Act → Type 0
IsSayable n (Place d) = IsSayableDirective n d
IsSayable n (Write array cell value) = (array < length n.arrays.names) × (cell ≤ MAX_INDEX) × IsLong value
IsSayable n (Print r) = IsSayableRange n.arrays.names r
IsSayable n (SetDevice device) = device ≤ MAX_INDEX
IsSayable n (SetAsync value) = IsSigned value
IsSayable n ShowDevice = Unit {0}
IsSayable n ShowDevices = Unit {0}

-- ## The laws

-- An act that is spelled so is read so, whatever follows, where no more data constructs are open behind it than can be.
abbrev pub ActIsReadAgain : Type 0
ActIsReadAgain =
    (n : Names) (act : Act) (depth line : ℕ) (behind : List ℕ)
    → AreApart n → IsSayable n act → depth_behind depth act ≤ MAX_CONSTRUCTS
    → (token_at false (record { line = line; bytes = spelled n act behind }) >>= act_of n.arrays depth)
    ≡ Ok (act, record { line = line + feeds_of act; bytes = behind })

-- As a statement of a host it has the line that it begins in.
abbrev pub StatementIsReadAgain : Type 0
StatementIsReadAgain =
    (n : Names) (b : Body) (act : Act) (line : ℕ) (behind : List ℕ)
    → AreApart n → IsSayable n act → depth_behind b.depth act ≤ MAX_CONSTRUCTS
    → statement_turn n.arrays b (record { line = line; bytes = spelled n act behind })
    ≡ Ok (turn true (with_statement b line act) (record { line = line + feeds_of act; bytes = behind }))
