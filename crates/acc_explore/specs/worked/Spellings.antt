-- A schedule that was worked by hand.
use Rattle.std.specs.Prelude.{◌≡◌, ℕ, [], ◌∷◌, codes}
use Rattle.acc_base.specs.declared.ids.QueueAt.{QueueAt}
use Rattle.acc_host.specs.declared.event.Event.TheVariants.{Host, Take, Perform, Close}
use Rattle.acc_explore.specs.Spellings.{schedule_text}

abbrev pub queue_on : ℕ → ℕ → QueueAt
queue_on device queue = record { device = device; queue = queue }

-- each kind of line, with a number of times and without
abbrev pub EachLineIsSpelled : Type 0
EachLineIsSpelled =
    schedule_text
    (Host 3 ∷ Take (queue_on 0 0) ∷ Take (queue_on 0 1) ∷ Perform (queue_on 1 6) ∷ Perform (queue_on 1 6) ∷ Take (queue_on 1 6) ∷ Host 3
    ∷ Close ∷ Close ∷ [])
    ≡ codes "host 3\ntake 0 sync\ntake 0 noval\ndo 1 4 2\ntake 1 4\nhost 3\nclose\nclose\n"
