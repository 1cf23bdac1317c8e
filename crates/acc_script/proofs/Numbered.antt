-- The programs that are read are those of hosts 0, 1 and so on.
use Rattle.std.proofs.Common.{◌≡◌, ℕ, ◌+◌, List, [], ◌∷◌, ◌++◌, length, arith}
use Rattle.acc_host.specs.declared.program.HostProgram.{HostProgram}
use Rattle.acc_host.specs.Hosts.{AreNumbered}

one_more_from : (n : ℕ) (programs : List HostProgram) (p : HostProgram) → AreNumbered n programs → p.host ≡ n + length programs
    → AreNumbered n (programs ++ p ∷ [])
one_more_from n [] p numbered is = (omega (arith, is), tt)
one_more_from n (q ∷ programs) p numbered is = (numbered.0, one_more_from (n + 1) programs p numbered.1 (omega (arith, is)))

-- a host more, with the number behind the last
pub one_more_host : (programs : List HostProgram) (p : HostProgram) → AreNumbered 0 programs → p.host ≡ length programs
    → AreNumbered 0 (programs ++ p ∷ [])
one_more_host programs p numbered is = one_more_from 0 programs p numbered (omega (arith, is))
