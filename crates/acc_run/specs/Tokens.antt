-- What a host's token lists: the host's directives with their answers, and its items with theirs, in its order.
use Rattle.std.specs.Prelude.{◌≡◌, ℕ, ◌+◌, ◌<◌, List, [], ◌∷◌, length}
use Rattle.acc_run.specs.declared.token.TokenEntry.{TokenEntry}
use Rattle.acc_run.specs.declared.token.TokenEntry.TheVariants as listed
use Rattle.acc_host.specs.Engines.{HostEntry, Gave, Had}
use Rattle.acc_work.specs.Items.{known_by}

-- The host, what it has done, and for how many entries there is room.
pub record TokenView : Type 0 where
  pub host : ℕ
  pub entries : List TokenEntry
  pub room : ℕ

-- how many items are among them
abbrev pub items_in : List TokenEntry → ℕ
items_in [] = 0
items_in (listed.Placed d placed ∷ es) = items_in es
items_in (listed.Item item answer ∷ es) = items_in es + 1

abbrev pub has_room : TokenView → Type 0
has_room t = length t.entries < t.room

-- each host has a token of its own, from number h on, that has nothing yet
abbrev pub AreTokens : ℕ → List TokenView → Type 0
AreTokens h [] = Unit {0}
AreTokens h (t ∷ ts) = (t.host ≡ h) × (t.entries ≡ []) × AreTokens (h + 1) ts

-- an entry of a token, as one of its host's own list; its host is told no values of a print
abbrev pub listed_entry : TokenEntry → HostEntry
listed_entry (listed.Placed d placed) = Gave d placed
listed_entry (listed.Item item answer) = Had (known_by item answer)
