-- The owner closes: each entry of the history is legal behind those before it, and nothing else changes.
use Rattle.std.proofs.Common.{subst, ◌≡◌, ℕ, zero, suc, ◌<◌, ◌≤◌, Bool, true, false, cond, List, [], ◌∷◌, ◌++◌, length, refl, sym, ap, ◌∙◌, arith}
use Rattle.std.specs.Prelude.{not, nat_lt}
use Rattle.std.proofs.lemmas.Bool.{and_parts}
use Rattle.std.proofs.lemmas.List.Elements.{All-cons, All-nil}
use Rattle.acc_base.specs.declared.ids.QueueAt.{QueueAt}
use Rattle.acc_base.specs.Configurations.{Configuration}
use Rattle.acc_base.specs.Queues.{queue_count, at_seat}
use Rattle.acc_batch.specs.declared.label.Label.{Label}
use Rattle.acc_batch.specs.Awaits.{close_label}
use Rattle.acc_host.specs.Hosts.{HostView}
use Rattle.acc_place.specs.declared.directive.PlaceEntry.TheVariants as noted
use Rattle.acc_place.specs.Histories.{is_closed, standing, CanClose, IsQueue}
use Rattle.acc_work.proofs.Extended.{extends_behind, kept_more}
use Rattle.acc_core.specs.Legality.{IsLegalState, host_entries}
use Rattle.acc_core.specs.inner.Closing.{closing_begun, can_close_now, closed_state, closes_one, closes_all}
use Rattle.acc_core.specs.Machine.{State, batches_held, labels_of, standing_of}

-- the queue at a place is there
pub place_there : (config : Configuration) (n : ℕ) → n < queue_count config → IsQueue config (at_seat n)
place_there config n low = (omega (arith, low), omega arith)

-- ## Legal

legal_begun : (w : State) → IsLegalState w → (standing_of w).closing ≡ false → IsLegalState (record w { history = noted.Closing ∷ w.history })
unfolding standing
legal_begun w l early = record {
  accepted = (early, l.accepted);
  counts = l.counts;
  kept = l.kept;
  behind = l.behind;
}

pub legal_closed : (w : State) (at : QueueAt) → IsLegalState w → CanClose w.config (standing_of w) at → IsLegalState (record w { history = noted.Closed at ∷ w.history })
unfolding standing
legal_closed w at l can =
    let labels = labels_of w in
    let more = close_label at labels ∷ [] in
    let filled = All-cons (λ (k : Label). 0 < length k.ops) (close_label at labels) [] (omega arith) (All-nil (λ (k : Label). 0 < length k.ops)) in
    record {
      accepted = (can, l.accepted);
      counts = l.counts;
      kept = kept_more w.config.arrays labels (labels ++ more) w.work (extends_behind labels more filled) l.kept;
      behind = l.behind;
    }

same_history : (w : State) → IsLegalState w → IsLegalState (record w { history = w.history })
same_history w l = record { accepted = l.accepted; counts = l.counts; kept = l.kept; behind = l.behind }

pub legal_begins : (w : State) → IsLegalState w → IsLegalState (closing_begun w)
legal_begins w l = by_closing (standing_of w).closing refl
  where
    by_closing : (b : Bool) → (standing_of w).closing ≡ b → IsLegalState (record w { history = cond b w.history (noted.Closing ∷ w.history) })
    by_closing true e = same_history w l
    by_closing false e = legal_begun w l e

pub begins_closing : (w : State) → (standing_of (closing_begun w)).closing ≡ true
unfolding standing
begins_closing w = by_closing (standing_of w).closing refl
  where
    by_closing : (b : Bool) → (standing_of w).closing ≡ b → (standing w.config (cond b w.history (noted.Closing ∷ w.history)) w.counts).closing ≡ true
    by_closing true e = e
    by_closing false e = refl

-- where a queue can be closed
pub closes_can : (w : State) (at : QueueAt) → IsQueue w.config at → (standing_of w).closing ≡ true → can_close_now w at ≡ true → CanClose w.config (standing_of w) at
closes_can w at there begun can =
    let parts = and_parts (not (is_closed (standing_of w) at)) (nat_lt (batches_held w (labels_of w) at) w.config.room) can in
    record { there = there; begun = begun; unplaced = not_true (is_closed (standing_of w) at) parts.0 }
  where
    not_true : (b : Bool) → not b ≡ true → b ≡ false
    not_true false e = refl
    not_true true e = absurd cc

pub legal_closes : (w : State) (at : QueueAt) → IsLegalState w → IsQueue w.config at → (standing_of w).closing ≡ true → IsLegalState (closes_one w at)
legal_closes w at l there begun = by_room (can_close_now w at) refl
  where
    by_room : (b : Bool) → can_close_now w at ≡ b → IsLegalState (record w { history = cond b (noted.Closed at ∷ w.history) w.history })
    by_room true e = legal_closed w at l (closes_can w at there begun e)
    by_room false e = same_history w l

pub closes_closing : (w : State) (at : QueueAt) → (standing_of w).closing ≡ true → (standing_of (closes_one w at)).closing ≡ true
unfolding standing
closes_closing w at begun = by_room (can_close_now w at)
  where
    by_room : (b : Bool) → (standing w.config (cond b (noted.Closed at ∷ w.history) w.history) w.counts).closing ≡ true
    by_room true = begun
    by_room false = begun

pub all_config : (w : State) (n : ℕ) → (closes_all w n).config ≡ w.config
all_config w zero = refl
all_config w (suc n) = all_config w n

pub all_closing : (w : State) (n : ℕ) → (standing_of w).closing ≡ true → (standing_of (closes_all w n)).closing ≡ true
all_closing w zero begun = begun
all_closing w (suc n) begun = closes_closing (closes_all w n) (at_seat n) (all_closing w n begun)

legal_all : (w : State) (n : ℕ) → n ≤ queue_count w.config → IsLegalState w → (standing_of w).closing ≡ true → IsLegalState (closes_all w n)
legal_all w zero low l begun = l
legal_all w (suc n) low l begun =
    let before = closes_all w n in
    let there : IsQueue before.config (at_seat n) = subst (λ c. IsQueue c (at_seat n)) (sym (all_config w n)) (place_there w.config n (omega (arith, low))) in
    legal_closes before (at_seat n) (legal_all w n (omega (arith, low)) l begun) there (all_closing w n begun)

pub legal_close : (w : State) → IsLegalState w → IsLegalState (closed_state w)
legal_close w l = legal_all (closing_begun w) (queue_count w.config) (omega arith) (legal_begins w l) (begins_closing w)

pub close_config : (w : State) → (closed_state w).config ≡ w.config
close_config w = all_config (closing_begun w) (queue_count w.config)

-- ## Hosts

-- no host's entries change
entries_begin : (w : State) (h : ℕ) → host_entries (closing_begun w) h ≡ host_entries w h
entries_begin w h = elim (standing_of w).closing as (λ b. host_entries (record w { history = cond b w.history (noted.Closing ∷ w.history) }) h ≡ host_entries w h) [ true ↦ refl | false ↦ refl ]

entries_close : (w : State) (at : QueueAt) (h : ℕ) → host_entries (closes_one w at) h ≡ host_entries w h
entries_close w at h = elim (can_close_now w at) as (λ b. host_entries (record w { history = cond b (noted.Closed at ∷ w.history) w.history }) h ≡ host_entries w h) [ true ↦ refl | false ↦ refl ]

entries_all : (w : State) (n h : ℕ) → host_entries (closes_all w n) h ≡ host_entries w h
entries_all w zero h = refl
entries_all w (suc n) h = entries_close (closes_all w n) (at_seat n) h ∙ entries_all w n h

pub entries_closed : (w : State) (h : ℕ) → host_entries (closed_state w) h ≡ host_entries w h
entries_closed w h = entries_all (closing_begun w) (queue_count w.config) h ∙ entries_begin w h

all_hosts : (w : State) (n : ℕ) → (closes_all w n).hosts ≡ w.hosts
all_hosts w zero = refl
all_hosts w (suc n) = all_hosts w n

pub close_hosts : (w : State) → (closed_state w).hosts ≡ w.hosts
close_hosts w = all_hosts (closing_begun w) (queue_count w.config)

-- whichever hosts there are
all_beside : (w : State) (hosts : List HostView) (n : ℕ) → closes_all (record w { hosts = hosts }) n ≡ record (closes_all w n) { hosts = hosts }
all_beside w hosts zero = refl
all_beside w hosts (suc n) = ap (λ v. closes_one v (at_seat n)) (all_beside w hosts n)

pub closed_beside : (w : State) (hosts : List HostView) → closed_state (record w { hosts = hosts }) ≡ record (closed_state w) { hosts = hosts }
closed_beside w hosts = all_beside (closing_begun w) hosts (queue_count w.config)
