-- Loops over turns: those that are left give what all of them give.
use Rattle.std.proofs.Common.{◌≡◌, ℕ, suc, ◌+◌, ◌-◌, ◌<◌, Bool, true, false, length, Result, Ok, Err, sym, ◌∙◌, refl, arith}
use Rattle.acc_token.specs.declared.read_fault.ReadError.{ReadError}
use Rattle.acc_token.specs.declared.read_fault.ReadError.TheVariants as error
use Rattle.acc_token.specs.declared.read_fault.ReadFault.{ReadFault}
use Rattle.acc_token.specs.Faults.{Fails}
use Rattle.acc_token.specs.Tokens.{Spot}
use Rattle.acc_token.specs.Turns.{Turn, turn, turns}

-- After some of the turns: those that are left give the total, and there are more of them than bytes.
pub record TurnsLeft {S : Type 0} (read : S → Spot → Result (Turn S) ReadFault) (all past : ℕ) (so_far : S) (at : Spot) (total : Result (Turn S) ReadFault) : Type 0 where
  pub same : turns read (all - past) so_far at ≡ total
  pub enough : length at.bytes < all - past

module _ {S : Type 0} {read : S → Spot → Result (Turn S) ReadFault} {all past : ℕ} {so_far : S} {at : Spot} {total : Result (Turn S) ReadFault} where
  one_more : TurnsLeft read all past so_far at total → all - past ≡ suc (all - (past + 1))
  one_more left = let enough = left.enough in omega arith

  -- a turn that another follows
  pub goes_on : {next : S} {after : Spot} {more : Bool} → TurnsLeft read all past so_far at total
      → read so_far at ≡ Ok (turn more next after) → more ≡ true → length after.bytes < length at.bytes
      → TurnsLeft read all (past + 1) next after total
  goes_on {next = next} {after = after} left found goes shorter =
      let enough = left.enough in
      let one : turns read (all - past) so_far at ≡ turns read (all - (past + 1)) next after = rw (one_more left, found, goes) refl in
      record { same = sym one ∙ left.same; enough = omega arith }

  -- the last turn
  pub ends : {next : S} {after : Spot} {more : Bool} → TurnsLeft read all past so_far at total
      → read so_far at ≡ Ok (turn more next after) → more ≡ false → total ≡ Ok (turn false next after)
  ends {next = next} {after = after} left found last =
      let one : turns read (all - past) so_far at ≡ Ok (turn false next after) = rw (one_more left, found, last) refl in
      sym left.same ∙ one

  -- a turn that fails
  pub fails_too : (e : ReadError) → TurnsLeft read all past so_far at total → Fails e (read so_far at) → Fails e total
  fails_too error.Memory left failed = tt
  fails_too (error.Fault fault) left failed =
      let one : turns read (all - past) so_far at ≡ Err fault = rw (one_more left, failed) refl in
      sym left.same ∙ one
