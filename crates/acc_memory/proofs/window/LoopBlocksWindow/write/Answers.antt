use Rattle.std.proofs.Common.{◌-◌, refl, length, Some}
use Rattle.std.proofs.lemmas.Int.{to_z-of_z}
use mir.Syntax.{w64}
use Rattle.acc_memory.specs.inner.Rows.{IsSetAt, stored}
use Rattle.acc_memory.specs.Values.{block_of}
use Rattle.acc_memory.proofs.WindowCell.{WritesRun, first_seen, from_lo, room_at, writes_run}
use Rattle.acc_memory.proofs.window.LoopBlocksWindow.write.Goals as goal

pub store-requires : goal.store-requires
store-requires c row found =
    let rows = c.args.self.now.blocks.now in
    let uses = c.args.self.now.uses.now in
    let s = first_seen rows uses c.args.array c.args.first (length c.args.values.now) c.requires.some c.requires.has in
    room_at rows uses c.args.array c.args.first (length c.args.values.now) c.distance.result row c.requires.some c.requires.has s
    (rw (to_z-of_z w64 c.args.first c.ranges.first) at c.distance.ensures) (rw c.block_of-block.ensures at found)

written : (c : goal.After-store) → WritesRun c.args.self.now.blocks.now c.store.new.self c.args.self.now.uses.now c.args.array c.args.first c.args.values.now
written c =
    let rows = c.args.self.now.blocks.now in
    let uses = c.args.self.now.uses.now in
    let s = first_seen rows uses c.args.array c.args.first (length c.args.values.now) c.requires.some c.requires.has in
    let set : IsSetAt (block_of uses c.args.array) (Some (stored s.row (c.distance.result - s.row.range.lo) c.args.values.now)) rows c.store.new.self =
    rw (c.block_of-block.ensures, s.found) at c.store.ensures in
    writes_run rows c.store.new.self uses c.args.array c.args.first c.args.values.now (c.distance.result - s.row.range.lo) c.requires.some c.requires.has s
    (from_lo c.args.first c.distance.result s.row.range.lo s.low (rw (to_z-of_z w64 c.args.first c.ranges.first) at c.distance.ensures)) set

pub returns-clause-has : goal.returns-clause-has
returns-clause-has c = (written c).has

pub returns-clause-cells : goal.returns-clause-cells
returns-clause-cells c = (written c).cells

pub returns-clause-keeps : goal.returns-clause-keeps
returns-clause-keeps c = (refl, refl, (written c).keeps)
