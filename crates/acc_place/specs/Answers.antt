-- What was answered to the directives of a place history. Directives, counts and answers go together: the first directive has
-- the first count and the first answer, and so on.
use Rattle.std.specs.Prelude.{◌≡◌, ℕ, ◌≤◌, Bool, true, false, List, [], ◌∷◌, All, drop, length, reverse, take}
use Rattle.acc_base.specs.Configurations.{Configuration}
use Rattle.acc_place.specs.Directives.{Directive}
use Rattle.acc_place.specs.declared.directive.Placed.{Placed}
use Rattle.acc_place.specs.declared.directive.PlaceEntry.{PlaceEntry}
use Rattle.acc_place.specs.declared.directive.PlaceEntry.TheVariants as entry
use Rattle.acc_place.specs.Batches.{answer_of}
use Rattle.acc_place.specs.Histories.{standing}
use Rattle.acc_place.specs.Standings.{Standing, walk_of}

-- what a host's directive is answered after a history
abbrev pub answer_to : Standing → ℕ → Directive → Placed
answer_to st host d = answer_of st d (walk_of st host d)

-- What each directive of a place history was answered, the latest first; the counts go with its directives.
abbrev pub answers_of : Configuration → List PlaceEntry → List ℕ → List Placed
answers_of config [] counts = []
answers_of config (entry.Accepted host d ∷ before) counts =
    answer_to (standing config before (drop 1 counts)) host d ∷ answers_of config before (drop 1 counts)
answers_of config (entry.Closing ∷ before) counts = answers_of config before counts
answers_of config (entry.Closed at ∷ before) counts = answers_of config before counts

abbrev pub is_directive : PlaceEntry → Bool
is_directive (entry.Accepted host d) = true
is_directive e = false

-- In its order a history has its directives first, as many as there are counts, and behind them what closing added; and it has
-- an answer for each.
pub record GoTogether (config : Configuration) (history : List PlaceEntry) (counts : List ℕ) : Type 0 where
  pub accepted : length counts ≡ (standing config history counts).accepted
  pub answered : length counts ≡ length (answers_of config history counts)
  pub within : length counts ≤ length history
  pub first : All (λ e. is_directive e ≡ true) (take (length counts) (reverse history))
  pub behind : All (λ e. is_directive e ≡ false) (drop (length counts) (reverse history))
