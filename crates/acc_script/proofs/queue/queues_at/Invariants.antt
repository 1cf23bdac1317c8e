use Rattle.std.specs.Prelude.{◌≤◌, length}
use Rattle.acc_token.proofs.Turns.{TurnsLeft}
use Rattle.acc_script.specs.Queues.{queues_turn}
use Rattle.acc_token.specs.Tokens.{spot}
use Rattle.acc_token.specs.Turns.{all_turns}
use Rattle.acc_script.proofs.queue.queues_at.Given as goal

abbrev pub invariant-loop : goal.invariant-loop
invariant-loop l = record {
  turns : TurnsLeft queues_turn l.turns l.counter l.values.items (spot l.here) (all_turns queues_turn l.fn.values.items (spot l.fn.at));
  shorter : length l.here.bytes.now ≤ length l.fn.at.bytes.now;
}
