-- What a host gets back for an item, and what the host then knows of it.
use Rattle.std.proofs.Common.{◌≡◌, ◌∙◌, ap}
use Rattle.acc_work.specs.Items.{shown_by}
use Rattle.acc_work.specs.Works.{Tells, WorkView}
use Rattle.acc_work.specs.declared.item.ItemLabel.{ItemLabel}
use Rattle.acc_work.specs.declared.item.ItemLabel.TheVariants as to_record
use Rattle.acc_work.specs.declared.item.Shown.{Shown}
use Rattle.acc_batch.specs.declared.entry.Told.{Told}
use Rattle.acc_run.specs.Calling.{IsAnswerTo}

pub is_answer : (w : WorkView) (item : ItemLabel) (what : Told) (got : Shown) → Tells w item what → got ≡ shown_by what → IsAnswerTo item got
is_answer w (to_record.Write array cell value) what got tells is = is ∙ ap shown_by tells
is_answer w (to_record.Print range) what got tells is = is ∙ ap shown_by tells.1
is_answer w (to_record.Seen device counts) what got tells is = is ∙ ap shown_by tells
is_answer w (to_record.Test device counts) what got tells is = (_, is ∙ ap shown_by tells)
