use Rattle.std.proofs.Common.{rules, subst, sym, ◌≡◌, replicate, ◌*◌, ◌∙◌, true, [], ℕ}
use Rattle.atomic_table.specs.Table.{opening}
use Rattle.acc_queue.specs.Published.{knows, Published}
use Rattle.acc_queue.proofs.ProgressSteps.{splits, begins}
use Rattle.acc_queue.proofs.progress.Progress.new.Goals as goal

pub split_seat-other-requires : goal.split_seat-other-requires
split_seat-other-requires c = ((search rules), (search rules), splits c.in_ok-table.seat.id c.in_ok-table.seat.me.0)

pub of_words-requires : goal.of_words-requires
of_words-requires c = let e : replicate (c.from.result * c.from-2.result) 0 ≡ c.as_slice.result.now = search rules in
    subst (λ ws. Published {S = ℕ} (opening c.as_slice.result.now [] (knows true ws 0))) (sym e) (begins {S = ℕ} c.as_slice.result.now [])
