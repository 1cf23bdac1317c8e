use Rattle.std.proofs.Common.{map, sym, ap, ◌∙◌}
use Rattle.std.specs.Prelude.{◌||◌}
use Rattle.acc_base.specs.Ranges.{range_overlaps}
use Rattle.acc_present.specs.Presences.{Presence, overlaps_any}
use Rattle.acc_present.specs.Tables.{held_presence}
use Rattle.acc_present.specs.Drafts.{beside}
use Rattle.acc_present.proofs.DraftShows.{any_drafted}
use Rattle.acc_present.proofs.draft.overlaps_drafted.Goals as goal

pub returns-then-overlaps_counted : goal.returns-then-overlaps_counted
returns-then-overlaps_counted c =
    let cs = map held_presence c.args.changed.now in
    let ps = c.args.table.now.presences in
    let r = c.args.range in
    let hit = sym c.overlaps_counted.ensures ∙ c.if-overlaps_counted.true in
    c.if-overlaps_counted.true ∙ sym (any_drafted (λ (p : Presence). range_overlaps p.range r) cs ps ∙ ap (λ b. b || overlaps_any (beside cs ps) r) hit)

pub returns-else-overlaps_counted : goal.returns-else-overlaps_counted
returns-else-overlaps_counted c =
    let cs = map held_presence c.args.changed.now in
    let ps = c.args.table.now.presences in
    let r = c.args.range in
    let miss = sym c.overlaps_counted.ensures ∙ c.if-overlaps_counted.false in
    c.overlaps_beside.ensures ∙ sym (any_drafted (λ (p : Presence). range_overlaps p.range r) cs ps ∙ ap (λ b. b || overlaps_any (beside cs ps) r) miss)
