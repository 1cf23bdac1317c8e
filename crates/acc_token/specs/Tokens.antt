-- The tokens of a script, with their lines.
use Rattle.std.specs.Prelude.{ℕ, ◌+◌, ◌-◌, ◌*◌, Bool, ◌&&◌, ◌||◌, not, ◌==◌, nat_lt, List, [], ◌∷◌, length, take, drop, Result, Ok, codes, bytes_eq, if◌then◌else◌}
use Rattle.std.specs.List.{list_any, prefix_len}
use Rattle.acc_token.specs.declared.at.At.{At}
use Rattle.acc_token.specs.declared.read_fault.ReadFault.{ReadFault}
use Rattle.acc_token.specs.declared.read_fault.ReadKind.TheVariants.{Text, End, Name, Limit, Form}
use Rattle.acc_token.specs.declared.token.Gap.{Gap}
use Rattle.acc_token.specs.declared.token.Gap.TheVariants.{Plain, Slash, Line, Block, Star}
use Rattle.acc_token.specs.declared.token.Step.{Step}
use Rattle.acc_token.specs.declared.token.Step.TheVariants.{Skip, Stop, Fail}
use Rattle.acc_token.specs.declared.token.Token.{Token}
use Rattle.acc_token.specs.declared.word.TheConstants.{MAX_NAME}
use Rattle.acc_token.specs.Faults.{fails, ◌>>=◌}

-- what is left of the text, and the line in which it begins
pub record Spot : Type 0 where
  pub line : ℕ
  pub bytes : List ℕ

-- A token is the bytes that it is spelled with: the end of the text has none, and a line feed in a directive is one.
pub record Lexeme : Type 0 where
  pub text : List ℕ
  pub line : ℕ
  pub after : Spot

abbrev pub spot : At → Spot
spot a = record { line = a.line; bytes = a.bytes.now }

abbrev pub lexeme : Token → Lexeme
lexeme t = record { text = t.text.now; line = t.line; after = spot t.after }

-- the first byte, or 0
abbrev pub front : List ℕ → ℕ
front [] = 0
front (b ∷ bs) = b

abbrev pub is_digit : ℕ → Bool
is_digit b = nat_lt 47 b && nat_lt b 58

abbrev pub is_letter : ℕ → Bool
is_letter b = nat_lt 64 b && nat_lt b 91 || nat_lt 96 b && nat_lt b 123 || b == 95

abbrev pub is_word_byte : ℕ → Bool
is_word_byte b = is_letter b || is_digit b

-- space, tab and carriage return
abbrev pub is_blank : ℕ → Bool
is_blank b = b == 32 || b == 9 || b == 13

abbrev pub is_word : List ℕ → Bool
is_word text = is_letter (front text) && prefix_len is_word_byte text == length text

-- <= >= == != ++
abbrev pub is_pair : ℕ → ℕ → Bool
is_pair a b = b == 61 && (a == 60 || a == 62 || a == 61 || a == 33) || a == 43 && b == 43

abbrev pub is_sign : ℕ → Bool
is_sign b = list_any (λ s. s == b) (codes "#{}()[],;:=+-*<>?")

abbrev pub line_after : ℕ → ℕ → ℕ
line_after line b = if b == 10 then line + 1 else line

-- What a byte between two tokens does. A line feed counts only in a directive.
abbrev pub step_of : Gap → Bool → ℕ → Step
step_of Plain in_directive b =
    if b == 10 && not in_directive || is_blank b then Skip Plain else (if b == 47 then Skip Slash else Stop)
step_of Slash in_directive b = if b == 47 then Skip Line else (if b == 42 then Skip Block else Fail)
step_of Line in_directive b = if b == 10 then (if in_directive then Stop else Skip Plain) else Skip Line
step_of Block in_directive b = if b == 42 then Skip Star else Skip Block
step_of Star in_directive b = if b == 47 then Skip Plain else (if b == 42 then Skip Star else Skip Block)

-- the text ends in a gap
abbrev pub gap_ends : Gap → ℕ → Result Spot ReadFault
gap_ends Plain line = Ok (record { line = line; bytes = [] })
gap_ends Line line = Ok (record { line = line; bytes = [] })
gap_ends Slash line = fails line Text
gap_ends Block line = fails line End
gap_ends Star line = fails line End

-- where the next token begins
unfoldable pub gap_at : Gap → Bool → ℕ → List ℕ → Result Spot ReadFault
gap_at gap in_directive line [] = gap_ends gap line
gap_at gap in_directive line (b ∷ bs) =
    elim (step_of gap in_directive b) [
      | Skip next ↦ gap_at next in_directive (line_after line b) bs
      | Stop ↦ Ok (record { line = line; bytes = b ∷ bs })
      | Fail ↦ fails line Text
    ]

-- A number has no leading zero, and no letter behind it.
unfoldable pub number_len : ℕ → ℕ → List ℕ → Result ℕ ReadFault
number_len line first bs =
    let more = prefix_len is_digit bs in
    if first == 48 && nat_lt 0 more || is_letter (front (drop more bs)) then fails line Form else Ok (more + 1)

-- how many bytes the token has that begins here
unfoldable pub token_len : ℕ → List ℕ → Result ℕ ReadFault
token_len line [] = Ok 0
token_len line (b ∷ bs) =
    if is_letter b then Ok (prefix_len is_word_byte bs + 1)
    else (if is_digit b then number_len line b bs
    else (if is_pair b (front bs) then Ok 2
    else (if is_sign b || b == 10 then Ok 1
    else fails line Text)))

unfoldable pub token_at : Bool → Spot → Result Lexeme ReadFault
token_at in_directive at =
    gap_at Plain in_directive at.line at.bytes >>= λ from.
    token_len from.line from.bytes >>= λ n.
    Ok (record {
      text = take n from.bytes;
      line = from.line;
      after = record { line = line_after from.line (front from.bytes); bytes = drop n from.bytes };
    })

-- the value of decimal digits behind a number
abbrev pub value_behind : ℕ → List ℕ → ℕ
value_behind n [] = n
value_behind n (b ∷ bs) = value_behind (10 * n + (b - 48)) bs

-- a number above all that one without a sign can be
abbrev pub is_large : List ℕ → Bool
is_large text = is_digit (front text) && nat_lt 9223372036854775807 (value_behind 0 text)

-- The text ends where more is needed, or another token stands there.
abbrev pub unwanted_token : {A : Type 0} → Lexeme → Result A ReadFault
unwanted_token t = fails t.line (if length t.text == 0 then End else (if is_large t.text then Limit else Form))

unfoldable pub exactly : List ℕ → Lexeme → Result Spot ReadFault
exactly text t = if bytes_eq t.text text then Ok t.after else unwanted_token t

-- the next token, which has to be this one
unfoldable pub expect : Bool → List ℕ → Spot → Result Spot ReadFault
expect in_directive text at = token_at in_directive at >>= exactly text

unfoldable pub number_of : ℕ → Lexeme → Result (ℕ × Spot) ReadFault
number_of limit t =
    if not (is_digit (front t.text)) then unwanted_token t
    else (if nat_lt limit (value_behind 0 t.text) then fails t.line Limit
    else Ok (value_behind 0 t.text, t.after))

abbrev pub is_reserved : List ℕ → Bool
is_reserved word =
    list_any (bytes_eq word) (codes "long" ∷ codes "int" ∷ codes "host" ∷ codes "for" ∷ codes "print" ∷ [])
    || bytes_eq (take 4 word) (codes "acc_")

-- a name that an array can have
unfoldable pub name_of : Lexeme → Result (List ℕ × Spot) ReadFault
name_of t =
    if not (is_letter (front t.text)) || is_reserved t.text then unwanted_token t
    else (if nat_lt MAX_NAME (length t.text) then fails t.line Name
    else Ok (t.text, t.after))
