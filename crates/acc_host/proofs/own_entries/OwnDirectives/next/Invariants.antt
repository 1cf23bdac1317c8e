use Rattle.std.proofs.Common.{◌≡◌, length}
use Rattle.acc_host.specs.inner.Unread.{owned_from}
use Rattle.acc_host.proofs.own_entries.OwnDirectives.next.Given as goal

abbrev pub invariant-loop-index : goal.invariant-loop-index
invariant-loop-index l = record {
  same : l.self-inside ≡ l.initial.self-inside;
  ends : l.index-end ≡ length l.self-inside.places.now;
  left : owned_from l.self-inside.host l.self-inside.places.now l.self-inside.counts.now l.self-inside.answers.now l.index ≡ l.fn.self;
}
