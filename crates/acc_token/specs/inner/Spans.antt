-- How far a token reaches, by lengths. Only private contracts and proofs cite it.
use Rattle.std.specs.Prelude.{ℕ, ◌==◌, Bool, List, [], ◌∷◌, drop, take, codes, Result, Ok, if◌then◌else◌}
use Rattle.std.specs.List.{list_any}
use Rattle.acc_token.specs.declared.read_fault.ReadFault.{ReadFault}
use Rattle.acc_token.specs.declared.read_fault.ReadKind.TheVariants.{Form, Text}
use Rattle.acc_token.specs.Faults.{fails}
use Rattle.acc_token.specs.Tokens.{Lexeme, front, is_digit, line_after}

-- a bracket or a comma, which begin no longer sign
abbrev pub is_single : ℕ → Bool
is_single b = list_any (λ s. s == b) (codes "()[],")

-- where no token begins: the text ends, or its next number or byte can't stand there
abbrev pub no_token : ℕ → List ℕ → Result ℕ ReadFault
no_token line [] = Ok 0
no_token line (b ∷ bs) = fails line (if is_digit b then Form else Text)

-- the token of so many bytes behind so many blanks
abbrev pub spanned : Bool → ℕ → ℕ → ℕ → List ℕ → Lexeme
spanned in_directive line gap count bytes =
    record {
      text = take count (drop gap bytes);
      line = line;
      after = record {
        line = if in_directive then line_after line (front (drop gap bytes)) else line;
        bytes = drop count (drop gap bytes);
      };
    }
