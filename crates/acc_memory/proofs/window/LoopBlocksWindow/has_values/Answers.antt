use Rattle.std.proofs.Common.{◌≡◌, ◌+◌, List, Some, length, get_or, sym, ap, ◌∙◌, arith}
use Rattle.std.specs.Prelude.{ℤ, pos, ◌-ℤ◌}
use Rattle.std.specs.List.{slice_range}
use Rattle.std.proofs.lemmas.Int.{to_z-of_z}
use Rattle.std.proofs.lemmas.List.{ext_get_or}
use mir.Syntax.{w64}
use Rattle.acc_kernel.proofs.SplicedRow.{length_range}
use Rattle.acc_memory.specs.Memories.{Row, find_row}
use Rattle.acc_memory.proofs.WindowCell.{first_seen, room_seen, seen_run}
use Rattle.acc_memory.proofs.window.LoopBlocksWindow.has_values.Goals as goal

pub has_values-requires : goal.has_values-requires
has_values-requires c =
    let rows = c.args.self.now.blocks.now in
    let uses = c.args.self.now.uses.now in
    let count = length c.args.values.now in
    let s = first_seen rows uses c.args.array c.args.first count c.requires.some c.requires.has in
    let both : Some c.in-Some.block.now ≡ Some s.row = c.in-Some.ensures ∙ (ap (find_row rows) c.block_of.ensures ∙ s.found) in
    let is : c.in-Some.block.now ≡ s.row = cc in
    let there = rw (to_z-of_z w64 c.args.first c.ranges.first) at c.distance.ensures in
    let at : c.args.first -ℤ pos s.row.range.lo ≡ pos c.distance.result = ap (λ (b : Row). c.args.first -ℤ pos b.range.lo) (sym is) ∙ there in
    let room = room_seen rows uses c.args.array c.args.first count c.distance.result c.requires.some c.requires.has s at in
    rw is (omega arith)

pub returns-in-Some : goal.returns-in-Some
returns-in-Some c =
    let rows = c.args.self.now.blocks.now in
    let uses = c.args.self.now.uses.now in
    let values = c.args.values.now in
    let s = first_seen rows uses c.args.array c.args.first (length c.args.values.now) c.requires.some c.requires.has in
    let both : Some c.in-Some.block.now ≡ Some s.row = c.in-Some.ensures ∙ (ap (find_row rows) c.block_of.ensures ∙ s.found) in
    let is : c.in-Some.block.now ≡ s.row = cc in
    let there = rw (to_z-of_z w64 c.args.first c.ranges.first) at c.distance.ensures in
    let at : c.args.first -ℤ pos s.row.range.lo ≡ pos c.distance.result = ap (λ (b : Row). c.args.first -ℤ pos b.range.lo) (sym is) ∙ there in
    let room = room_seen rows uses c.args.array c.args.first (length values) c.distance.result c.requires.some c.requires.has s at in
    let same = rw is at c.has_values.ensures in
    let run = seen_run rows uses c.args.array c.args.first (length values) c.distance.result s at in
    let long : length (slice_range s.row.cells c.distance.result (c.distance.result + length c.args.values.now)) ≡ length c.args.values.now =
    length_range s.row.cells c.distance.result (length values) room in (
      λ yes k lt. ap (λ (l : List ℤ). get_or l k (pos 0)) (sym (same.0 yes)) ∙ run k lt,
      λ all. same.1
          (ext_get_or (pos 0) (slice_range s.row.cells c.distance.result (c.distance.result + length c.args.values.now)) values long
          (λ k lt. run k (omega (arith, lt, long)) ∙ sym (all k (omega (arith, lt, long))))),
    )
