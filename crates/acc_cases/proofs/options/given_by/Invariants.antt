use Rattle.std.proofs.Common.{◌≡◌, length, map}
use Rattle.acc_cases.specs.Options.{AreWithin, given_by, no_options}
use Rattle.acc_cases.proofs.options.given_by.Given as goal

abbrev pub invariant-loop-rest : goal.invariant-loop-rest
invariant-loop-rest l = record {
  same : given_by l.given (map (λ w. w.now) l.rest) ≡ given_by no_options (map (λ w. w.now) l.words);
  bounds : AreWithin l.given;
}

abbrev pub decreases-loop-rest : goal.decreases-loop-rest
decreases-loop-rest l = length l.rest
