-- Turns that are spelled one behind another are read one after another.
use Rattle.std.proofs.Common.{◌≡◌, ℕ, zero, suc, ◌+◌, ◌<◌, ◌≤◌, Bool, true, false, length, Result, Ok, Err, refl, arith, add-one}
use Rattle.std.specs.Prelude.{if◌then◌else◌}
use Rattle.acc_token.specs.declared.read_fault.ReadFault.{ReadFault}
use Rattle.acc_token.specs.Faults.{◌>>=◌}
use Rattle.acc_token.specs.Tokens.{Spot}
use Rattle.acc_token.specs.Turns.{Turn, turn, turns, all_turns}

module _ {S : Type 0} (read : S → Spot → Result (Turn S) ReadFault) where
  -- what is read within some turns is read within more
  within_more : (n m : ℕ) (goes_on : Bool) (s : S) (at : Spot) (t total : Turn S)
      → (turns read n s at ≡ Ok total → turns read m s at ≡ Ok total)
      → (if goes_on then turns read n s at else Ok t) ≡ Ok total → (if goes_on then turns read m s at else Ok t) ≡ Ok total
  within_more n m true s at t total longer found = longer found
  within_more n m false s at t total longer found = found

  after_one : (n m : ℕ) (r : Result (Turn S) ReadFault) (total : Turn S)
      → ((s : S) (at : Spot) → turns read n s at ≡ Ok total → turns read m s at ≡ Ok total)
      → (r >>= λ t. if t.goes_on then turns read n t.so_far t.at else Ok t) ≡ Ok total
      → (r >>= λ t. if t.goes_on then turns read m t.so_far t.at else Ok t) ≡ Ok total
  after_one n m (Err fault) total longer found = cc
  after_one n m (Ok t) total longer found = within_more n m t.goes_on t.so_far t.at t total (longer t.so_far t.at) found

  longer : (n m : ℕ) (s : S) (at : Spot) (total : Turn S) → n ≤ m → turns read n s at ≡ Ok total → turns read m s at ≡ Ok total
  longer zero m s at total few found = cc
  longer (suc n) zero s at total few found = absurd (omega arith)
  longer (suc n) (suc m) s at total few found =
      after_one n m (read s at) total (λ (s' : S) (at' : Spot). longer n m s' at' total (omega arith)) found

  -- a turn that another follows, and that takes a byte at least
  pub one_turn : (s s' : S) (at at' : Spot) (total : Turn S) → read s at ≡ Ok (turn true s' at') → length at'.bytes < length at.bytes
      → all_turns read s' at' ≡ Ok total → all_turns read s at ≡ Ok total
  one_turn s s' at at' total found shorter rest =
      rw (add-one (length at.bytes), found) (longer (length at'.bytes + 1) (length at.bytes) s' at' total (omega arith) rest)

  -- the last
  pub last_turn : (s s' : S) (at at' : Spot) → read s at ≡ Ok (turn false s' at') → all_turns read s at ≡ Ok (turn false s' at')
  last_turn s s' at at' found = rw (add-one (length at.bytes), found) refl
