-- An item that a host may record notes nothing as performed.
use Rattle.acc_host.specs.Engines.{MayRecord}
use Rattle.acc_work.specs.declared.item.ItemLabel.{ItemLabel}
use Rattle.acc_work.specs.declared.item.ItemLabel.TheVariants as to_record
use Rattle.acc_work.specs.Works.{WorkView, IsReached}

pub notes_nothing : (w : WorkView) (item : ItemLabel) → MayRecord item → IsReached w item
notes_nothing w (to_record.Write array cell new_value) may = tt
notes_nothing w (to_record.Print range) may = tt
notes_nothing w (to_record.Seen device counts) may = absurd may
notes_nothing w (to_record.Test device counts) may = tt
