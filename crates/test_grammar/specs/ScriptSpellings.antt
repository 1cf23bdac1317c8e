-- How a program is spelled in the plainest way, and that it is read so.
use Rattle.std.specs.Prelude.{◌≡◌, ◌≤◌, ℕ, ◌+◌, Bool, true, false, List, [], ◌∷◌, ◌++◌, All, length, Ok, ℤ, codes, if◌then◌else◌}
use Rattle.acc_base.specs.declared.config.TheConstants.{MAX_HOSTS}
use Rattle.acc_place.specs.declared.directive.Kind.{Kind}
use Rattle.acc_place.specs.declared.directive.Kind.TheVariants as kind
use Rattle.acc_host.specs.declared.program.Act.{Act}
use Rattle.acc_host.specs.declared.program.Act.TheVariants.{Place}
use Rattle.acc_host.specs.declared.program.HostProgram.{HostProgram}
use Rattle.acc_host.specs.declared.program.Statement.{Statement}
use Rattle.acc_script.specs.declared.directive.TheConstants.{MAX_CONSTRUCTS}
use Rattle.acc_token.specs.declared.text.TheConstants.{MAX_TEXT}
use Rattle.test_grammar.specs.ActSpellings as spelling
use Rattle.acc_script.specs.Arrays.{Declared, IsDeclared}
use Rattle.test_grammar.specs.ArraySpellings.{spelled_arrays}
use Rattle.test_grammar.specs.ExpressionSpellings.{AreApart}
use Rattle.acc_script.specs.Expressions.{Names, names}
use Rattle.test_grammar.specs.RangeSpellings.{AreNames}
use Rattle.acc_script.specs.Scripts.{ScriptView, script_of}
use Rattle.acc_script.specs.Statements.{depth_behind, end_of_construct}
use Rattle.test_grammar.specs.ValueSpellings.{IsLong}

-- a spelling of acts, before what stands behind, and how many line feeds it has
pub record ActSpelling : Type 0 where
  pub text : Act → List ℕ → List ℕ
  pub feeds : Act → ℕ

-- the end of a data construct has a spelling of its own
abbrev pub is_end_kind : Kind → Bool
is_end_kind kind.EndData = true
is_end_kind k = false

abbrev pub is_end : Act → Bool
is_end (Place d) = is_end_kind d.kind
is_end act = false

unfoldable pub act_text : ActSpelling → Act → List ℕ → List ℕ
act_text acts act behind = if is_end act then codes "}" ++ behind else acts.text act behind

unfoldable pub feeds_of : ActSpelling → Act → ℕ
feeds_of acts act = if is_end act then 0 else acts.feeds act

-- a directive ends its line, where no block follows
abbrev pub ends_line_kind : Kind → Bool
ends_line_kind kind.EnterData = true
ends_line_kind (kind.ExitData finalize) = true
ends_line_kind (kind.Update if_present) = true
ends_line_kind kind.Wait = true
ends_line_kind k = false

abbrev pub ends_line : Act → Bool
ends_line (Place d) = ends_line_kind d.kind
ends_line act = false

-- the line feed behind any other act
unfoldable pub line_end : Act → List ℕ → List ℕ
line_end act behind = if ends_line act then behind else codes "\n" ++ behind

-- how many lines the act has
unfoldable pub lines_of : ActSpelling → Act → ℕ
lines_of acts act = if ends_line act then feeds_of acts act else feeds_of acts act + 1

-- statements, each of which begins a line
unfoldable pub spelled_statements : ActSpelling → List Statement → List ℕ → List ℕ
spelled_statements acts [] behind = behind
spelled_statements acts (s ∷ more) behind = act_text acts s.act (line_end s.act (spelled_statements acts more behind))

-- the line behind statements that begin in this one
unfoldable pub line_behind : ActSpelling → ℕ → List Statement → ℕ
line_behind acts line [] = line
line_behind acts line (s ∷ more) = line_behind acts (line + lines_of acts s.act) more

-- host { statements }
unfoldable pub spelled_hosts : ActSpelling → List HostProgram → List ℕ → List ℕ
spelled_hosts acts [] behind = behind
spelled_hosts acts (p ∷ more) behind =
    codes "host {\n" ++ spelled_statements acts p.statements (codes "}\n" ++ spelled_hosts acts more behind)

unfoldable pub spelled_script : ActSpelling → ScriptView → List ℕ
spelled_script acts p = spelled_arrays p.names p.arrays (spelled_hosts acts p.programs [])

-- what can stand inside so many data constructs: the end of one, or an act that can be there
abbrev pub CanStandAs : (ℕ → Act → Type 0) → ℕ → Act → Bool → Type 0
CanStandAs CanBe depth act true = (act ≡ end_of_construct) × (1 ≤ depth)
CanStandAs CanBe depth act false = CanBe depth act

abbrev pub CanStand : (ℕ → Act → Type 0) → ℕ → Act → Type 0
CanStand CanBe depth act = CanStandAs CanBe depth act (is_end act)

-- Statements from this line on, inside so many data constructs: each has the line of its place, and behind the last
-- all constructs are closed.
abbrev pub ArePlaced : (ℕ → Act → Type 0) → ActSpelling → ℕ → ℕ → List Statement → Type 0
ArePlaced CanBe acts line depth [] = depth ≡ 0
ArePlaced CanBe acts line depth (s ∷ more) =
    (s.line ≡ line) × CanStand CanBe depth s.act
    × ArePlaced CanBe acts (line + lines_of acts s.act) (depth_behind depth s.act) more

-- Hosts from this line on, the first of which has this number.
abbrev pub AreHosts : (ℕ → Act → Type 0) → ActSpelling → ℕ → ℕ → List HostProgram → Type 0
AreHosts CanBe acts line host [] = Unit {0}
AreHosts CanBe acts line host (p ∷ more) =
    (p.host ≡ host) × ArePlaced CanBe acts (line + 1) 0 p.statements
    × AreHosts CanBe acts (line_behind acts (line + 1) p.statements + 1) (host + 1) more

abbrev pub declared : ScriptView → Declared
declared p = record { names = p.names; cells = p.arrays }

-- what can be said in a script, where acts can be so inside so many data constructs
pub record IsSayableScript (CanBe : ℕ → Act → Type 0) (acts : ActSpelling) (p : ScriptView) : Type 0 where
  pub arrays : IsDeclared (declared p)
  pub names : AreNames p.names
  pub cells : All (λ (cells : List ℤ). All IsLong cells) p.arrays
  pub hosts : AreHosts CanBe acts (1 + length p.names) 0 p.programs
  pub few : length p.programs ≤ MAX_HOSTS
  pub short : length (spelled_script acts p) ≤ MAX_TEXT

-- ## Whole programs

-- the plain spelling of acts, by the names of the arrays and the one that every loop has
abbrev pub plain : Names → ActSpelling
plain n = record { text = spelling.spelled n; feeds = spelling.feeds_of }

-- what can be said inside so many data constructs
abbrev pub CanSay : Names → ℕ → Act → Type 0
CanSay n depth act = spelling.IsSayable n act × (depth_behind depth act ≤ MAX_CONSTRUCTS)

-- the text of a program, where every loop has this name
unfoldable pub spelled_program : List ℕ → ScriptView → List ℕ
spelled_program index p = spelled_script (plain (names (declared p) index)) p

-- a program that can be written, where no array has the loops' name
pub record IsSayableProgram (index : List ℕ) (p : ScriptView) : Type 0 where
  pub apart : AreApart (names (declared p) index)
  pub script : IsSayableScript (CanSay (names (declared p) index)) (plain (names (declared p) index)) p

-- A program that can be written is read again as it is spelled.
abbrev pub ProgramIsReadAgain : Type 0
ProgramIsReadAgain =
    (index : List ℕ) (p : ScriptView) → IsSayableProgram index p → script_of (spelled_program index p) ≡ Ok p
