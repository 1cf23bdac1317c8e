use Rattle.std.proofs.Common.{◌≡◌, ◌++◌, false, take}
use Rattle.std.specs.List.{list_any}
use Rattle.acc_check.specs.Languages.{is_faultless}
use Rattle.acc_check.proofs.language.is_whole_with_some.Given as goal

-- it is whole with none of those that were tried
abbrev pub invariant-loop-tail : goal.invariant-loop-tail
invariant-loop-tail l = list_any (λ tail. is_faultless l.language (l.text ++ tail.now)) (take l.tail-index l.tails) ≡ false
