-- Pages of the work log.
use Rattle.std.specs.Prelude.{◌≡◌, ℕ, ◌≤◌, List, []}
use Rattle.acc_batch.specs.declared.entry.WorkEntry.{WorkEntry}

-- A page: its entries, and for how many more it has room.
pub record PageView : Type 0 where
  pub items : List WorkEntry
  pub free : ℕ

-- an empty page with room for so many entries
pub record HasRoomFor (page : PageView) (count : ℕ) : Type 0 where
  pub empty : page.items ≡ []
  pub room : count ≤ page.free
