-- The tables and the rooms of a place, where closing begins and where a queue is closed.
use Rattle.std.proofs.Common.{ℕ, true, refl, sym}
use Rattle.acc_base.specs.declared.ids.QueueAt.{QueueAt}
use Rattle.acc_base.specs.Configurations.{Configuration}
use Rattle.acc_present.specs.Tables.{TableView}
use Rattle.acc_batch.specs.Awaits.{close_label}
use Rattle.acc_place.specs.Histories.{after_close}
use Rattle.acc_place.specs.inner.Noting.{notes_on}
use Rattle.acc_place.specs.inner.Places.{IsTiedOn}
use Rattle.acc_place.specs.Standings.{Standing}
use Rattle.acc_place.proofs.AcceptedDirective.{noted_alike}
use Rattle.acc_place.proofs.NoteOf.{note_untouched}

-- no mark is left then, and no block made or used
pub tied_begun : (config : Configuration) (st : Standing) (device : ℕ) (t : TableView) (blocks : ℕ) → IsTiedOn config st device t blocks → IsTiedOn config (record st { closing = true }) device t blocks
tied_begun config st device t blocks tied =
    record {
      capacity = tied.capacity;
      presences = tied.presences;
      noted = tied.noted;
      legal = tied.legal;
      opened = tied.opened;
      entered = tied.entered;
      few = tied.few;
      few_blocks = tied.few_blocks;
      low = tied.low;
    }

pub tied_closed : (config : Configuration) (st : Standing) (at : QueueAt) (device : ℕ) (t : TableView) (blocks : ℕ) → IsTiedOn config st device t blocks → IsTiedOn config (after_close st at) device t blocks
tied_closed config st at device t blocks tied =
    record {
      capacity = tied.capacity;
      presences = tied.presences;
      noted = noted_alike (notes_on device st.labels) (notes_on device (after_close st at).labels) t.notes (λ r b. sym (note_untouched device st.labels (close_label at st.labels) b refl)) tied.noted;
      legal = tied.legal;
      opened = tied.opened;
      entered = tied.entered;
      few = tied.few;
      few_blocks = tied.few_blocks;
      low = tied.low;
    }
