-- What was sent into a queue is what was taken out of it, followed by what it holds.
use Rattle.std.specs.Prelude.{◌≡◌, ◌<◌, ◌≤◌, ◌⊎◌, ℕ, List, [], ◌∷◌, ◌++◌, length}
use Rattle.atomic_table.specs.Seated.{TableId}
use Rattle.acc_base.specs.declared.config.TheConstants.{MAX_HOSTS}
use Rattle.acc_base.specs.declared.ids.QueueAt.{QueueAt}
use Rattle.acc_batch.specs.declared.label.Label.{Label}
use Rattle.acc_queue.specs.declared.rule.End.{End}
use Rattle.acc_queue.specs.declared.rule.Role.{Role}
use Rattle.acc_queue.specs.declared.rule.Role.TheVariants.{Both, Sends, Takes}

-- What a contract sees of an end: which queue it is an end of, by its identity and by its name on a device; the queue's room; and the
-- labels that were sent, or were taken, in order.
pub record Line : Type 0 where
  pub queue : TableId
  pub at : QueueAt
  pub room : ℕ
  pub labels : List Label

-- A label that may be placed on a queue: it names that queue, and a host that there may be, and it has an operation.
abbrev pub IsFor : QueueAt → Label → Type 0
IsFor at l = (l.at ≡ at) × (l.host < MAX_HOSTS) × (0 < length l.ops)

abbrev pub AllFor : QueueAt → List Label → Type 0
AllFor at [] = Unit {0}
AllFor at (l ∷ ls) = IsFor at l × AllFor at ls

abbrev pub end : Role → QueueAt → ℕ → List Label → End
end role at room labels = record { role = role; at = at; room = room; labels = labels }

abbrev pub no_queue : QueueAt
no_queue = record { device = 0; queue = 0 }

-- Before the ends are parted nothing was sent, and the queue is empty.
pub record Unparted (items : List Label) (ends : List End) : Type 0 where
  pub alone : ends ≡ end Both no_queue 0 [] ∷ []
  pub empty : items ≡ []

-- One end sends, and one takes. What was sent is what was taken, followed by what the queue holds, at most its room, and all of it
-- for this queue.
pub record Parted (items : List Label) (ends : List End) : Type 0 where
  pub at : QueueAt
  pub room : ℕ
  pub sent : List Label
  pub taken : List Label
  pub two : ends ≡ end Sends at room sent ∷ end Takes at room taken ∷ []
  pub in_order : sent ≡ taken ++ items
  pub fits : length items ≤ room
  pub here : AllFor at items

abbrev pub Tied : List Label → List End → Type 0
Tied items ends = Unparted items ends ⊎ Parted items ends

-- A queue with room for n batches may be full: so many were sent. That it is, at the step that finds it so, no clause of an end can say.
abbrev pub MayBeFull : ℕ → List Label → Type 0
MayBeFull n sent = (items : List Label) × (length items ≡ n) × ((taken : List Label) × (sent ≡ taken ++ items))
