-- What words give.
use Rattle.std.proofs.Common.{◌≡◌, ◌≤◌, ℕ, List, [], ◌∷◌, length, map, drop, get_or, Bor, Some, sym, ap, arith}
use Rattle.std.specs.Prelude.{Option, None, option_and_then, unwrap_or}
use Rattle.acc_cases.specs.declared.options.Given.{Given}
use Rattle.acc_base.specs.declared.config.TheConstants.{MAX_CAPACITY, MAX_DEVICES, MAX_ROOM}
use Rattle.acc_driver.specs.Replays.{AreUsable}
use Rattle.acc_driver.specs.declared.options.Options.{Options}
use Rattle.acc_cases.specs.Options.{AreWithin, IsFromOneTo, given_by, given_with, options_with}

-- the first two words, beside the others
pub given_turn : (given more : Given) (words : List (Bor (List ℕ))) (d : Bor (List ℕ)) → 2 ≤ length words
    → Some more ≡ given_with given (get_or words 0 d).now (get_or words 1 d).now
    → given_by given (map (λ w. w.now) words) ≡ given_by more (map (λ w. w.now) (drop 2 words))
given_turn given more [] d two gives = absurd (omega arith)
given_turn given more (w ∷ []) d two gives = absurd (omega arith)
given_turn given more (v ∷ w ∷ words) d two gives =
    ap (λ (o : Option Given). option_and_then (λ g. given_by g (map (λ w. w.now) words)) o) (sym gives)

within : (most : ℕ) (given : Option ℕ) (common : ℕ) → IsFromOneTo most given → (1 ≤ common) × (common ≤ most) → (1 ≤ unwrap_or given common) × (unwrap_or given common ≤ most)
within most None common given usable = usable
within most (Some n) common given usable = given

-- what is given is usable beside usable options
pub usable_with : (common : Options) (given : Given) → AreWithin given → AreUsable common → AreUsable (options_with common given)
usable_with common given are usable = record {
  devices = within MAX_DEVICES given.devices common.devices are.devices usable.devices;
  cells = within MAX_CAPACITY given.cells common.cells are.cells usable.cells;
  room = within MAX_ROOM given.room common.room are.room usable.room;
}
