use Rattle.std.proofs.Common.{◌≡◌, ◌≤◌, ◌+◌, ◌-◌, length, drop}
use Rattle.std.specs.List.{position_or_len}
use Rattle.acc_raw.specs.inner.Keys.{meets}
use Rattle.acc_raw.specs.inner.Wired.{place_at, values}
use Rattle.acc_raw.proofs.keyed.seek.Given as goal

abbrev pub invariant-loop-at : goal.invariant-loop-at
invariant-loop-at g l = record {
  place : l.at ≡ place_at l.fn.nodes.store.links l.index.n;
  within : l.index.n ≤ length l.fn.nodes.store.links;
  first : position_or_len (λ x. meets l.fn.aim (g.T.Keyed.key_of x)) (values l.fn.nodes.store.links)
      ≡ l.index.n + position_or_len (λ x. meets l.fn.aim (g.T.Keyed.key_of x)) (drop l.index.n (values l.fn.nodes.store.links));
}

abbrev pub decreases-loop-at : goal.decreases-loop-at
decreases-loop-at g l = length l.fn.nodes.store.links - l.index.n
