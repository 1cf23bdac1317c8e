use Rattle.std.proofs.Common.{◌≤◌, ℕ, Bool, List, Result, Ok, Err, length, reverse, arith}
use Rattle.std.specs.Prelude.{IfOk, IsTrue}
use Rattle.std.proofs.lemmas.List.{length-reverse}
use Rattle.acc_base.specs.declared.fault.Fault.{Fault}
use Rattle.acc_core.specs.Machine.{State}
use Rattle.acc_explore.specs.Alike.{Alike}
use Rattle.acc_explore.specs.Arrivals.{found_at}
use Rattle.acc_explore.specs.declared.arrival.Arrival.{Arrival}
use Rattle.acc_explore.specs.inner.Searching.{IsLikeOne, start_of}
use Rattle.acc_explore.proofs.found_worlds.is_like_one.Goals as goal

-- what is like the one with a number is like one
is_one : (start w : State) (arrivals : List Arrival) (n : ℕ) (r : Result Bool Fault) → n ≤ length arrivals
    → IfOk r (λ like. IsTrue like → Alike (found_at start arrivals n).state w) → IfOk r (λ like. IsTrue like → IsLikeOne start arrivals w)
is_one start w arrivals n (Ok like) low h = λ is. record { number = n; there = low; alike = h is }
is_one start w arrivals n (Err f) low h = tt

pub returns-in-Some-clause-like : goal.returns-in-Some-clause-like
returns-in-Some-clause-like c =
    is_one (start_of c.args.task.now) c.args.world.now (reverse c.args.arrivals.now) c.in-Some.number c.is_like.result
    (omega (arith, c.if-number-arrivals.true, length-reverse c.args.arrivals.now)) c.is_like.ensures.like
