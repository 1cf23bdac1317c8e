use Rattle.std.proofs.Common.{◌≡◌, ℤ, codes, [], ◌∷◌, ◌++◌, take, arith, rules, ap, sym, ◌∙◌}
use mir.Syntax.{w64}
use mir.Val.{SFits}
use Rattle.std.specs.Fmt.{signed_decimal}
use Rattle.std.proofs.lemmas.Int.{to_z-of_z}
use Rattle.std.proofs.lemmas.List.{append_assoc, append-nil}
use Rattle.acc_report.specs.Lines.{line_text}
use Rattle.acc_report.proofs.PutPages.{more_waits, one_waits, rest_put}
use Rattle.acc_report.proofs.line.put_from.Goals as goal

pub loop-value-preserved : goal.loop-value-preserved
loop-value-preserved g c =
    let space = λ (v : ℤ). codes " " ++ signed_decimal v in
    let read = c.loop-value.yielded in
    let value = c.in-Some.value in
    let fits : SFits w64 value = search rules in
    let text = rw (to_z-of_z w64 value fits) at c.add_spaced-waiting.ensures.text in
    record {
      all = c.loop-value.invariant.all ∙ ap (λ rest. read ++ rest) c.in-Some.ensures.steps ∙ sym (append_assoc read (value ∷ []) c.next.new.self);
      on = one_waits space _ read value _ _ _ c.loop-value.invariant.on c.hand_on-waiting.ensures.puts text;
      long = c.add_spaced-waiting.ensures.long ∙ c.loop-value.invariant.long;
      within = omega (arith, c.add_spaced-waiting.ensures.within, c.add_spaced-waiting.ensures.long, c.loop-value.invariant.long);
    }

pub returns : goal.returns
unfolding line_text
returns g c =
    let whole : c.loop-value.yielded ≡ c.args.values =
    sym (c.loop-value.invariant.all ∙ ap (λ rest. c.loop-value.yielded ++ rest) c.in-None.ensures.steps.0 ∙ append-nil c.loop-value.yielded) in
    let line = more_waits _ (codes "\n") _ _ _ c.loop-value.invariant.on c.hand_on-waiting-2.ensures.puts c.add-waiting.ensures.text in
    rest_put _ (take c.add-waiting.result c.add-waiting.new.page) (rw (to_z-of_z w64 c.args.first c.ranges.first, whole) at line)
    (rw c.split_at.ensures.front at c.put.ensures)
