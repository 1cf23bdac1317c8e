use Rattle.std.proofs.Common.{◌≡◌, filter, map, take}
use Rattle.acc_cases.specs.Options.{is_not_empty}
use Rattle.acc_cases.proofs.options.without_empty.Given as goal

abbrev pub invariant-loop-piece : goal.invariant-loop-piece
invariant-loop-piece l =
    map (λ w. w.now) l.words.items ≡ filter is_not_empty (map (λ w. w.now) (take l.piece-index l.pieces))
