-- A schedule that was worked by hand.
use Rattle.std.proofs.Common.{refl, arith}
use Rattle.std.proofs.lemmas.Fmt.{decimal_digit}
use Rattle.acc_explore.specs.worked.Spellings.{EachLineIsSpelled}
use Rattle.acc_explore.specs.Spellings.{event_words, event_line, queue_words, times_text}

pub worked_schedule : EachLineIsSpelled
unfolding event_words event_line queue_words times_text
worked_schedule =
    rw (decimal_digit 0 (omega arith), decimal_digit 1 (omega arith), decimal_digit 2 (omega arith), decimal_digit 3 (omega arith), decimal_digit 4 (omega arith)) refl
