use Rattle.std.specs.Prelude.{◌≡◌, ◌<◌, ℕ, IsTrue, Some, slice_get}
use Rattle.acc_host.specs.Hosts.{HostView}
use Rattle.acc_explore.specs.ApartOperations.{host_is_clear}
use Rattle.acc_explore.proofs.apart.hosts_are_clear.Given as goal

abbrev pub invariant-loop-number : goal.invariant-loop-number
invariant-loop-number l =
    (h : ℕ) (host : HostView) → h < l.number → slice_get l.world.hosts h ≡ Some host → IsTrue (host_is_clear l.world (record { device = l.device; queue = l.queue }) l.op host)
