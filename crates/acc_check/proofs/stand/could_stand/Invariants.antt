use Rattle.std.proofs.Common.{◌≡◌, filter, map, take}
use Rattle.acc_check.specs.Places.{stands}
use Rattle.acc_check.proofs.stand.could_stand.Given as goal

abbrev pub invariant-loop-word : goal.invariant-loop-word
invariant-loop-word l =
    map (λ w. w.now) l.found.items ≡ filter (stands l.language l.before) (map (λ w. w.now) (take l.word-index l.words))
