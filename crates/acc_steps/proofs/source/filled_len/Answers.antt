use Rattle.std.proofs.Common.{◌≡◌, ◌<◌, ◌+◌, length, sym, ◌∙◌, arith}
use Rattle.acc_steps.proofs.SourceLines.{none_filled, filled_past_blank, filled_past_solid}
use Rattle.acc_steps.proofs.source.filled_len.Goals as goal
use Rattle.acc_steps.proofs.source.filled_len.Goals.{then-not-is_blank, else-not-is_blank}

pub loop-byte-init : goal.loop-byte-init
loop-byte-init c = record { number = omega arith; within = omega arith; value = none_filled }

pub loop-byte-preserved : goal.loop-byte-preserved
loop-byte-preserved c =
    let l = c.loop-byte in
    let line = c.args.line.now in
    let below : l.byte-index < length line = omega (arith, c.loop-byte-test.true) in
    let number : l.len + 1 ≡ l.byte-index + 1 = omega (arith, l.invariant.number) in
    let filled = c.if-not-is_blank.filled in
    record {
      number = number;
      within = elim c.if-not-is_blank.branch [
        | then-not-is_blank w ↦ omega (arith, w.filled-is)
        | else-not-is_blank w ↦ omega (arith, w.filled-is, l.invariant.within)
      ];
      value = elim c.if-not-is_blank.branch [
        | then-not-is_blank w ↦ filled_past_solid line l.byte-index filled below (w.filled-is ∙ number) (sym c.is_blank.ensures ∙ w.if-not-is_blank.true)
        | else-not-is_blank w ↦ filled_past_blank line l.byte-index filled below (w.filled-is ∙ l.invariant.value) (sym c.is_blank.ensures ∙ w.if-not-is_blank.false)
      ];
    }
