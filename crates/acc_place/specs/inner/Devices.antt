-- What a place keeps of a device. Only private contracts and proofs cite it.
use Rattle.std.specs.Prelude.{◌≡◌, ℕ, ◌<◌, []}
use Rattle.acc_base.specs.declared.range.Range.{Range}
use Rattle.acc_present.specs.Notes.{Note, no_note}
use Rattle.acc_base.specs.Configurations.{Configuration}
use Rattle.acc_place.specs.declared.device.Device.{Device}
use Rattle.acc_place.specs.inner.Judging.{Holding, holding}

-- what is present there, and how many lifetimes were opened
abbrev pub held_on : Device → Holding
held_on v = holding v.table.presences v.opened

-- no block above those that were opened has a note
abbrev pub AreFresh : (Range → ℕ → Note) → ℕ → Type 0
AreFresh notes opened = (r : Range) (b : ℕ) → opened < b → notes r b ≡ no_note

-- nothing was
pub record IsEmpty (config : Configuration) (v : Device) : Type 0 where
  pub presences : v.table.presences ≡ []
  pub notes : v.table.notes ≡ []
  pub capacity : v.table.capacity ≡ config.capacity
  pub opened : v.opened ≡ 0
