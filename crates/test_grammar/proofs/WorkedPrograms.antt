-- The small program, spelled out, and why it can be written.
use Rattle.std.proofs.Common.{◌≡◌, ℕ, zero, suc, ◌<◌, ◌≤◌, true, List, [], ◌∷◌, length, refl, sym, ap, arith}
use Rattle.std.specs.Prelude.{All, slice_index_or, ℤ, pos, negsuc, codes, bytes_eq}
use Rattle.std.specs.Fmt.{digits}
use Rattle.std.proofs.lemmas.Bool.{false≢true}
use Rattle.std.proofs.lemmas.List.Elements.{All-nil, All-cons}
use Rattle.acc_base.specs.declared.config.TheConstants.{MAX_CELLS}
use Rattle.acc_kernel.specs.declared.assign.Assign.{Assign}
use Rattle.acc_place.specs.declared.directive.Clause.{Clause}
use Rattle.acc_place.specs.declared.directive.Clause.TheVariants.{Copy, Present}
use Rattle.acc_place.specs.declared.directive.DataItem.{DataItem}
use Rattle.acc_token.specs.declared.text.TheConstants.{MAX_TEXT}
use Rattle.acc_token.specs.Tokens.{is_word_byte}
use Rattle.acc_script.specs.Expressions.{Names, names}
use Rattle.test_grammar.specs.RangeSpellings.{IsName, AreNames}
use Rattle.test_grammar.specs.ValueSpellings.{IsLong, IsSigned}
use Rattle.test_grammar.specs.worked.Scripts.{of_clause}
use Rattle.test_grammar.specs.ActSpellings.{more_queues, spelled_queues, spelled_items, spelled_clauses, spelled_line, spelled as act_spelled, IsSayableRange}
use Rattle.test_grammar.specs.ArraySpellings.{more_values, values_text, spelled_array, spelled_arrays}
use Rattle.test_grammar.specs.ExpressionSpellings.{AreApart, spelled as expression_spelled}
use Rattle.test_grammar.specs.LoopSpellings.{IsSayableAssign, spelled_assign, spelled_assigns, spelled_loop}
use Rattle.test_grammar.specs.RangeSpellings.{spelled as range_spelled}
use Rattle.test_grammar.specs.ScriptSpellings.{declared, ArePlaced, CanSay, plain, feeds_of, lines_of, act_text, line_end, spelled_statements, spelled_hosts, spelled_script, spelled_program}
use Rattle.test_grammar.specs.worked.Programs.{both, tripled, small_statements, small, SpelledProgram, SayableProgram}

pub program_spelled : SpelledProgram
unfolding digits more_queues spelled_queues spelled_items spelled_clauses spelled_line act_spelled more_values values_text spelled_array spelled_arrays expression_spelled spelled_assign spelled_assigns spelled_loop range_spelled act_text line_end spelled_statements spelled_hosts spelled_script spelled_program
program_spelled = refl

short_text : length (spelled_program (codes "i") small) ≤ MAX_TEXT
short_text = rw program_spelled (omega arith)

abbrev by_name : Names
by_name = names (declared small) (codes "i")

one_letter : (b : ℕ) → is_word_byte b ≡ true → All (λ (b : ℕ). is_word_byte b ≡ true) (b ∷ [])
one_letter b is = All-cons (λ (b : ℕ). is_word_byte b ≡ true) b [] is (All-nil (λ (b : ℕ). is_word_byte b ≡ true))

named_a : IsName (codes "a")
named_a = record { first = refl; word = one_letter 97 refl; free = refl; short = omega arith }

named_i : IsName (codes "i")
named_i = record { first = refl; word = one_letter 105 refl; free = refl; short = omega arith }

a_is_name : AreNames (codes "a" ∷ [])
a_is_name = record {
  each = All-cons IsName (codes "a") [] named_a (All-nil IsName);
  differ = λ i j below within same. omega arith;
}

apart : (array : ℕ) → array < 1 → codes "a" ≡ codes "i" → ⊥
apart array within same = false≢true (sym (ap (λ (name : List ℕ). bytes_eq name (codes "a")) same))

other_name : (array : ℕ) → array < 1 → slice_index_or (codes "a" ∷ []) array [] ≡ codes "i" → ⊥
other_name zero within same = apart 0 within same
other_name (suc array) within same = omega arith

are_apart : AreApart by_name
are_apart = record { arrays = a_is_name; index = named_i; apart = other_name }

range_said : IsSayableRange (codes "a" ∷ []) both
range_said = record { array = omega arith; lo = omega arith; len = omega arith }

one_item : (clause : Clause) → All (λ (i : DataItem). IsSayableRange (codes "a" ∷ []) i.range) (of_clause clause both ∷ [])
one_item clause =
    All-cons (λ (i : DataItem). IsSayableRange (codes "a" ∷ []) i.range) (of_clause clause both) [] range_said
    (All-nil (λ (i : DataItem). IsSayableRange (codes "a" ∷ []) i.range))

one_queue : All IsSigned (pos 1 ∷ [])
one_queue = All-cons IsSigned (pos 1) [] (omega arith) (All-nil IsSigned)

assigns_said : All (λ (a : Assign). IsSayableAssign by_name a) tripled.statements
assigns_said =
    All-cons (λ (a : Assign). IsSayableAssign by_name a) _ [] (omega arith, (tt, omega arith))
    (All-nil (λ (a : Assign). IsSayableAssign by_name a))

cells_said : All IsLong (pos 1 ∷ negsuc 1 ∷ [])
cells_said = All-cons IsLong (pos 1) (negsuc 1 ∷ []) (omega arith) (All-cons IsLong (negsuc 1) [] (omega arith) (All-nil IsLong))

abbrev IsSized : List ℤ → Type 0
IsSized cells = (1 ≤ length cells) × (length cells ≤ MAX_CELLS)

statements_placed : ArePlaced (CanSay by_name) (plain by_name) 3 0 small_statements
unfolding feeds_of lines_of
statements_placed = (
  refl,
  ((omega arith, omega arith, omega arith), omega arith),
  (
    refl,
    (record { device = refl; default = refl; written = record { form = refl; kinds = tt; items = one_item Copy; few = omega arith; target = tt; queues = tt } }, omega arith),
    (
      refl,
      (record { device = refl; default = refl; written = record { form = refl; kinds = (assigns_said, refl); items = one_item Present; few = omega arith; target = omega arith; queues = tt } }, omega arith),
      (
        refl,
        (record { device = refl; default = refl; written = record { form = refl; kinds = tt; items = All-nil (λ (i : DataItem). IsSayableRange (codes "a" ∷ []) i.range); few = omega arith; target = tt; queues = (omega arith, omega arith, one_queue) } }, omega arith),
        (
          refl,
          (refl, omega arith),
          (
            refl,
            (range_said, omega arith),
            refl,
          ),
        ),
      ),
    ),
  ),
)

pub program_sayable : SayableProgram
unfolding spelled_program feeds_of lines_of
program_sayable = record {
  apart = are_apart;
  script = record {
    arrays = record {
      one_each = refl;
      few = omega arith;
      sizes = All-cons IsSized (pos 1 ∷ negsuc 1 ∷ []) [] (omega arith, omega arith) (All-nil IsSized);
    };
    names = a_is_name;
    cells = All-cons (λ (cells : List ℤ). All IsLong cells) (pos 1 ∷ negsuc 1 ∷ []) [] cells_said (All-nil (λ (cells : List ℤ). All IsLong cells));
    hosts = (refl, statements_placed, tt);
    few = omega arith;
    short = short_text;
  };
}
