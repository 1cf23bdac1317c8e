use Rattle.std.proofs.Common.{sym, ◌∙◌}
use Rattle.std.proofs.lemmas.List.{reverse-reverse}
use Rattle.acc_script.specs.Arrays.{texts}
use Rattle.acc_explore.specs.Runs.{left_to_tell}
use Rattle.acc_driver.proofs.replays.report_world.Goals as goal

pub returns-in-Ok-clause-answers : goal.returns-in-Ok-clause-answers
returns-in-Ok-clause-answers g c =
    let w = c.args.world in
    let e = c.into_parts-place.ensures in (
      λ programs is.
          let same = c.ids_are_not_told.ensures (texts c.args.names.keys) _ programs (left_to_tell w) (e.programs ∙ sym is) in
          rw (c.as_slice.ensures.value, e.config, e.history, e.counts, c.log.ensures, e.works, e.hosts, reverse-reverse w.work, same) at c.in-Ok.ensures,
      rw (c.as_slice-in-Ok.ensures.value, e.hosts) at c.any_refused-refused.ensures,
    )

pub returns-in-Err-Write-clause-answers : goal.returns-in-Err-Write-clause-answers
returns-in-Err-Write-clause-answers g c =
    let w = c.args.world in
    let e = c.into_parts-place.ensures in
    λ programs is.
    let same = c.ids_are_not_told.ensures (texts c.args.names.keys) _ programs (left_to_tell w) (e.programs ∙ sym is) in
    rw (c.in-Err-Write.field-0-is, c.as_slice.ensures.value, e.config, e.history, e.counts, c.log.ensures, e.works, e.hosts, reverse-reverse w.work, same) at c.in-Err-Write.ensures
