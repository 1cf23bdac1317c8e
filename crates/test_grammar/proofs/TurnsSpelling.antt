-- Turns over a text that is spelled out: there are always enough of them.
use Rattle.std.proofs.Common.{◌≡◌, ℕ, zero, suc, ◌<◌, ◌≤◌, true, false, length, Result, Ok, refl, arith, add-one}
use Rattle.acc_token.specs.declared.read_fault.ReadFault.{ReadFault}
use Rattle.acc_token.specs.Tokens.{Spot}
use Rattle.acc_token.specs.Turns.{Turn, turn, turns, all_turns}

-- What turns give from here on, where there are more of them than bytes.
pub record AllGive {S : Type 0} (read : S → Spot → Result (Turn S) ReadFault) (s : S) (at : Spot) (total : Result (Turn S) ReadFault) : Type 0 where
  pub give : (n : ℕ) → length at.bytes ≤ n → turns read (suc n) s at ≡ total

module _ {S : Type 0} (read : S → Spot → Result (Turn S) ReadFault) where
  -- a turn that ends
  pub last : (s next : S) (at after : Spot) → read s at ≡ Ok (turn false next after) → AllGive read s at (Ok (turn false next after))
  last s next at after one = record { give = λ n room. rw one refl }

  more_by : (s next : S) (at after : Spot) (total : Result (Turn S) ReadFault) → read s at ≡ Ok (turn true next after)
      → length after.bytes < length at.bytes → AllGive read next after total
      → (n : ℕ) → length at.bytes ≤ n → turns read (suc n) s at ≡ total
  more_by s next at after total one shorter rest zero room = absurd (omega arith)
  more_by s next at after total one shorter rest (suc n) room = rw one (rest.give n (omega arith))

  -- a turn that goes on, and takes a byte at least
  pub more : (s next : S) (at after : Spot) (total : Result (Turn S) ReadFault) → read s at ≡ Ok (turn true next after)
      → length after.bytes < length at.bytes → AllGive read next after total → AllGive read s at total
  more s next at after total one shorter rest = record { give = more_by s next at after total one shorter rest }

  -- bytes that a turn doesn't see
  pub past : (s : S) (at after : Spot) (total : Result (Turn S) ReadFault) → read s at ≡ read s after
      → length after.bytes ≤ length at.bytes → AllGive read s after total → AllGive read s at total
  past s at after total same shorter rest = record { give = λ n room. rw same (rest.give n (omega arith)) }

  pub all_give : (s : S) (at : Spot) (total : Result (Turn S) ReadFault) → AllGive read s at total → all_turns read s at ≡ total
  all_give s at total all = rw (add-one (length at.bytes)) (all.give (length at.bytes) (omega arith))
