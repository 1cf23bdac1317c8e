use Rattle.std.proofs.Common.{rules, ◌≡◌, sym, ap, ◌∙◌, length, arith, get_or, ◌*◌, ◌≤◌, pos, FitsSigned, w64}
use Rattle.std.proofs.Math.Nat.{mul-le-mul_right}
use Rattle.std.proofs.lemmas.Int.{to_z-of_z}
use Rattle.std.proofs.lemmas.List.{take_all}
use Rattle.std.specs.List.{flat_map}
use Rattle.acc_batch.specs.Values.{bytes_of}
use Rattle.acc_batch.proofs.PackedValues.{written_more}
use Rattle.acc_batch.proofs.values.write_each.Goals as goal

pub loop-i-preserved : goal.loop-i-preserved
loop-i-preserved c =
    let i = c.loop-i.i in let cells = c.args.cells.now in let cell = get_or cells i (pos 0) in let width = c.args.width in
    let fits : FitsSigned w64 cell = search rules in
    written_more width c.bytes-count.result i _ c.loop-i.bytes c.write.new.bytes cells c.bytes-count.ensures c.loop-i-test.true
    (c.loop-i.auto.bytes ∙ c.requires.room) c.loop-i.invariant (c.write.ensures ∙ ap (bytes_of width) (to_z-of_z w64 cell fits))

pub returns : goal.returns
returns c =
    let i = c.loop-i.i in let cells = c.args.cells.now in let width = c.args.width in let count = c.bytes-count.result in
    let at_end = mul-le-mul_right count c.loop-i-test.false in
    let long : length c.loop-i.bytes ≡ length cells * count =
    c.loop-i.auto.bytes ∙ c.requires.room ∙ ap (λ n. length cells * n) (sym c.bytes-count.ensures) in
    let whole : length c.loop-i.bytes ≤ i * count = omega arith in
    sym (take_all (i * count) c.loop-i.bytes whole) ∙ c.loop-i.invariant
    ∙ ap (flat_map (bytes_of width)) (take_all i cells c.loop-i-test.false)
