use Rattle.std.proofs.Common.{◌≡◌, ◌-◌, true, map, sym, ap, subst, ◌∙◌}
use Rattle.acc_present.specs.Drafts.{beside}
use Rattle.acc_present.specs.Presences.{overlaps_any}
use Rattle.acc_present.specs.Tables.{TableView, held_presence, is_table}
use Rattle.acc_present.proofs.EnterAndExit.{shown}
use Rattle.acc_present.proofs.EntryKeys.{keyed_behind}
use Rattle.acc_present.proofs.OverlapsBeside.{goes_on}
use Rattle.acc_present.proofs.table.Table.overlaps_beside.Goals as goal

pub overlaps_beside_in-requires : goal.overlaps_beside_in-requires
overlaps_beside_in-requires c =
    let es = c.self.inside.entries.items in let r = c.args.range in
    let count = keyed_behind r es c.self.inside.entries.keys c.iter_from.ensures.low c.self.invariant.1 in
    subst (λ l. is_table (shown l) ≡ true) (sym c.iter_from.ensures.entries) (goes_on (map held_presence c.args.changed.now) es r _ c.self.invariant.0.table (ap (λ n. n - 1) count)).table

pub returns : goal.returns
returns c =
    let es = c.self.inside.entries.items in let r = c.args.range in let cs = map held_presence c.args.changed.now in
    let count = keyed_behind r es c.self.inside.entries.keys c.iter_from.ensures.low c.self.invariant.1 in
    c.overlaps_beside_in.ensures ∙ ap (λ l. overlaps_any (beside cs (shown l)) r) c.iter_from.ensures.entries ∙ (goes_on cs es r _ c.self.invariant.0.table (ap (λ n. n - 1) count)).same
    ∙ ap (λ (v : TableView). overlaps_any (beside cs v.presences) r) c.self.view_is
