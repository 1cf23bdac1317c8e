-- Programs in their order, from host 0 on.
use Rattle.std.proofs.Common.{◌≡◌, ℕ, ◌+◌, List, [], ◌∷◌, ◌++◌, length, arith}
use Rattle.acc_host.specs.declared.program.HostProgram.{HostProgram}
use Rattle.acc_host.specs.Hosts.{AreNumbered}

from : (n : ℕ) (ps : List HostProgram) (p : HostProgram) → AreNumbered n ps → p.host ≡ n + length ps → AreNumbered n (ps ++ p ∷ [])
from n [] p numbered is = (omega (arith, is), tt)
from n (q ∷ ps) p numbered is = (numbered.0, from (n + 1) ps p numbered.1 (omega (arith, is)))

-- a program more, of the next host
pub one_more : (ps : List HostProgram) (p : HostProgram) → AreNumbered 0 ps → p.host ≡ length ps → AreNumbered 0 (ps ++ p ∷ [])
one_more ps p numbered is = from 0 ps p numbered (omega (arith, is))
