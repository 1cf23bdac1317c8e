use Rattle.std.proofs.Common.{◌≡◌, ◌+◌, ◌-◌, length, take, drop, sym, ◌∙◌, arith}
use Rattle.acc_steps.specs.Lines.{code_len}
use Rattle.acc_steps.proofs.SourceLines.{code_ends, code_goes_on, code_of_none, shorter_by_one}
use Rattle.acc_steps.proofs.source.code_len.Goals as goal

pub returns-then-ends_code-clause-value : goal.returns-then-ends_code-clause-value
returns-then-ends_code-clause-value c =
    let rest = c.loop-rest.rest.now in
    let ends = rw c.front-next.ensures at (sym c.ends_code.ensures ∙ c.if-ends_code.true) in
    let none : code_len c.loop-rest.part rest ≡ 0 = code_ends c.loop-rest.part rest c.in-len1-up.len_at_least ends in
    omega (arith, none, c.loop-rest.invariant.value)

pub loop-rest-preserved : goal.loop-rest-preserved
loop-rest-preserved c =
    let rest = c.loop-rest.rest.now in
    let part = c.loop-rest.part in
    let some = c.in-len1-up.len_at_least in
    let others = take (length rest - 1) (drop 1 rest) in
    let on = rw c.front-next.ensures at (sym c.ends_code.ensures ∙ c.if-ends_code.false) in
    let next : code_len part rest ≡ code_len c.after-part.result others + 1 = rw (c.after-part.ensures, c.front-next.ensures) (code_goes_on part rest some on) in
    let left : length rest ≡ 1 + length others = shorter_by_one rest some in
    record {
      left = omega (arith, left, c.loop-rest.invariant.left);
      value = omega (arith, next, c.loop-rest.invariant.value);
    }

pub returns-clause-value : goal.returns-clause-value
returns-clause-value c = omega (arith, code_of_none c.loop-rest.part c.loop-rest.rest.now c.in_default.len_below, c.loop-rest.invariant.value)
