-- What holds of the histories after any run, whoever ran it (OpenACC API 3.0, 2.16, Asynchronous Behavior).
use Rattle.std.specs.Prelude.{◌≡◌, ℕ, ◌≤◌, false, All, List, [], ◌∷◌, length}
use Rattle.acc_base.specs.Configurations.{Configuration}
use Rattle.acc_batch.specs.declared.label.Label.{Label}
use Rattle.acc_batch.specs.declared.label.OpLabel.{OpLabel}
use Rattle.acc_host.specs.Engines.{HostEntry}
use Rattle.acc_host.specs.Entries.{Own, entries_merged, items_shown, own_of}
use Rattle.acc_place.specs.declared.directive.PlaceEntry.{PlaceEntry}
use Rattle.acc_place.specs.Histories.{AllAccepted, standing}
use Rattle.acc_place.specs.Sound.{is_close}
use Rattle.acc_batch.specs.declared.entry.WorkEntry.{WorkEntry}
use Rattle.acc_batch.specs.declared.entry.WorkEntry.TheVariants as entry
use Rattle.acc_work.specs.Kept.{IsKept}
use Rattle.acc_work.specs.Logs.{performed}

-- The configuration; the place history with its counts, and the work log, the latest entry first.
pub record Histories : Type 0 where
  pub config : Configuration
  pub history : List PlaceEntry
  pub counts : List ℕ
  pub work : List WorkEntry

-- the labels of the batches that were placed, in the order of placing
abbrev pub placed_labels : Histories → List Label
placed_labels h = (standing h.config h.history h.counts).labels

-- The counts of items never fall, from `low` on, and none is above `high`.
abbrev pub Rise : ℕ → List Own → ℕ → Type 0
Rise low [] high = low ≤ high
Rise low (o ∷ os) high = (low ≤ o.items_before) × Rise o.items_before os high

-- No directive stands behind fewer items than one of its host before it, nor behind more than the host has.
abbrev pub AllRise : Histories → Type 0
AllRise h = (host : ℕ) → Rise 0 (own_of h.config host h.history h.counts) (length (items_shown host h.work))

-- Nothing of a queue is performed behind its close.
abbrev pub NothingBehind : List WorkEntry → Type 0
NothingBehind [] = Unit {0}
NothingBehind (entry.Op at op ∷ before) = All (λ (o : OpLabel). is_close o ≡ false) (performed at before) × NothingBehind before
NothingBehind (entry.Item host shown ∷ before) = NothingBehind before

-- Each directive was accepted after those before it; the log keeps what every log does against the batches that were placed; and nothing
-- of a queue is performed behind its close.
pub record Legal (h : Histories) : Type 0 where
  pub accepted : AllAccepted h.config h.history h.counts
  pub counts : AllRise h
  pub kept : IsKept h.config.arrays (placed_labels h) h.work
  pub behind : NothingBehind h.work

-- a host's own list: its directives with their answers, and its items
abbrev pub entries_of : Histories → ℕ → List HostEntry
entries_of h host = entries_merged 0 (own_of h.config host h.history h.counts) (items_shown host h.work)
