use Rattle.std.proofs.Common.{◌≡◌, ◌<◌, length, ap, ◌∙◌, arith}
use Rattle.acc_kernel.specs.Jobs.{Computation, read_uses}
use Rattle.acc_memory.proofs.LoadedJobs.{all_loaded, one_loaded, read_own}
use Rattle.acc_memory.proofs.blocks.Blocks.load.Goals as goal

pub values-requires : goal.values-requires
values-requires c =
    let job = c.args.job.now in
    let reads : c.read_uses.result.now ≡ read_uses c.args.job.now.kernel c.args.job.now.uses = c.read_uses.ensures ∙ ap (λ (j : Computation). read_uses j.kernel j.uses) c.loop-place.invariant.kept in
    let low : c.loop-place.place < length (read_uses c.args.job.now.kernel c.args.job.now.uses) = omega (arith, c.loop-place-test.true, ap length c.read_uses-place-end.ensures) in
    (read_own c.args.self.now job.kernel job.uses c.loop-place.place c.index-read_uses-place.result c.requires c.keeps.ensures.distinct c.keeps.ensures.reached low (rw reads at c.index-read_uses-place.is)).held

pub loop-place-preserved : goal.loop-place-preserved
loop-place-preserved c =
    let job = c.args.job.now in
    let u = c.index-read_uses-place.result in
    let reads : c.read_uses.result.now ≡ read_uses c.args.job.now.kernel c.args.job.now.uses = c.read_uses.ensures ∙ ap (λ (j : Computation). read_uses j.kernel j.uses) c.loop-place.invariant.kept in
    let low : c.loop-place.place < length (read_uses c.args.job.now.kernel c.args.job.now.uses) = omega (arith, c.loop-place-test.true, ap length c.read_uses-place-end.ensures) in
    let at = rw reads at c.index-read_uses-place.is in
    let own = read_own c.args.self.now job.kernel job.uses c.loop-place.place u c.requires c.keeps.ensures.distinct c.keeps.ensures.reached low at in
    rw c.set_input.ensures (one_loaded c.args.self.now job c.loop-place.job c.loop-place.place u c.values.result.now c.loop-place.invariant low at own c.values.ensures.cells)

pub returns : goal.returns
returns c device was shows =
    all_loaded c.args.self.now c.args.job.now c.loop-place.job c.loop-place.place c.loop-place.invariant (omega (arith, c.loop-place-test.false, ap length c.read_uses-place-end.ensures)) device was shows
