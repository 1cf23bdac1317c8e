use Rattle.std.proofs.Common.{◌++◌, [], ◌∷◌, get_or, take, length, ap, ◌∙◌, arith}
use Rattle.acc_place.specs.Implicit.{implicit_among}
use Rattle.acc_base.specs.Configurations.{lengths_of}
use Rattle.acc_place.proofs.LoopItems.{among_more, length_taken}
use Rattle.acc_place.proofs.loops.add_all_implicit.Goals as goal

pub loop-array-preserved : goal.loop-array-preserved
loop-array-preserved c =
    let lengths = lengths_of c.args.config.now.arrays in
    let arrays = c.args.arrays.now in
    let at = c.loop-array.array-index in
    let next = implicit_among lengths c.args.regions.now c.args.host c.args.directive.now (get_or arrays at 0 ∷ []) in
    record {
      items =
          c.add_implicit.ensures.items
          ∙ (ap (λ xs. take 17 (xs ++ next)) c.loop-array.invariant.items
          ∙ among_more lengths c.args.regions.now c.args.host c.args.directive.now 17 c.args.into.now.items arrays at 0 c.loop-array-test.true);
      within = omega (arith, length_taken 17 (c.loop-array.into.items ++ next), ap length c.add_implicit.ensures.items, c.add_implicit.new.into.ok.0);
      room = c.add_implicit.ensures.room ∙ c.loop-array.invariant.room;
    }
