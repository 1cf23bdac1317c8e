use Rattle.std.specs.Prelude.{◌≤◌, length}
use Rattle.acc_token.proofs.Turns.{TurnsLeft}
use Rattle.acc_script.specs.Ranges.{item_turn, items_at}
use Rattle.acc_token.specs.Tokens.{spot}
use Rattle.acc_script.specs.inner.Kept.{AreAllowed}
use Rattle.acc_script.proofs.range.items_at.Given as goal

abbrev pub invariant-loop : goal.invariant-loop
invariant-loop l = record {
  turns : TurnsLeft (item_turn l.arrays l.clause) l.turns l.counter l.items (spot l.here) (items_at l.fn.arrays l.fn.clause l.fn.items (spot l.fn.at));
  allowed : AreAllowed l.head l.items;
  shorter : length l.here.bytes.now ≤ length l.fn.at.bytes.now;
}
