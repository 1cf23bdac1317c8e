-- Lists of the grammar: what has been read so far, and whether more may follow.
use Rattle.std.specs.Prelude.{ℕ, zero, suc, ◌+◌, Bool, length, Result, Ok, if◌then◌else◌}
use Rattle.acc_token.specs.declared.read_fault.ReadFault.{ReadFault}
use Rattle.acc_token.specs.declared.read_fault.ReadKind.TheVariants.{End}
use Rattle.acc_token.specs.Faults.{fails, ◌>>=◌}
use Rattle.acc_token.specs.Tokens.{Spot}

pub record Turn (S : Type 0) : Type 0 where
  pub goes_on : Bool
  pub so_far : S
  pub at : Spot

abbrev pub turn : {S : Type 0} → Bool → S → Spot → Turn S
turn goes_on so_far at = record { goes_on = goes_on; so_far = so_far; at = at }

abbrev pub turns : {S : Type 0} → (S → Spot → Result (Turn S) ReadFault) → ℕ → S → Spot → Result (Turn S) ReadFault
turns read zero s at = fails at.line End
turns read (suc n) s at = read s at >>= λ t. if t.goes_on then turns read n t.so_far t.at else Ok t

-- Turn after turn until none follows. Each turn that another follows takes a byte at least, so there are fewer of
-- them than bytes.
abbrev pub all_turns : {S : Type 0} → (S → Spot → Result (Turn S) ReadFault) → S → Spot → Result (Turn S) ReadFault
all_turns read s at = turns read (length at.bytes + 1) s at
