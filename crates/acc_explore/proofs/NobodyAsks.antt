-- Hosts that don't ask how far queues have come, now or later, go on not to ask.
use Rattle.std.proofs.Common.{◌≡◌, ℕ, zero, suc, ◌+◌, Bool, true, false, not, ◌==◌, cond, List, [], ◌∷◌, drop, refl, sym, ap, ◌∙◌, Some, None, Option, Ok, Err, Result, nat_lt, slice_get, slice_set, add-one}
use Rattle.std.specs.List.{list_all}
use Rattle.std.proofs.lemmas.Bool.{and_parts, and_from}
use Rattle.acc_base.specs.declared.fault.Fault.{Fault}
use Rattle.acc_base.specs.declared.fault.Fault.TheVariants.{BadAsync, BadDevice}
use Rattle.acc_base.specs.declared.ids.QueueAt.{QueueAt}
use Rattle.acc_base.specs.Queues.{is_nothing}
use Rattle.acc_core.specs.Machine.{State, host_outcome, host_step, item_answer, item_state, place_answer, placed_state, wait_answer, waited_state}
use Rattle.acc_host.specs.declared.program.Act.{Act}
use Rattle.acc_host.specs.declared.program.Act.TheVariants as act
use Rattle.acc_host.specs.declared.program.Statement.{Statement}
use Rattle.acc_host.specs.declared.state.After.{After}
use Rattle.acc_host.specs.declared.state.After.TheVariants as go
use Rattle.acc_host.specs.declared.state.Ids.{Ids}
use Rattle.acc_host.specs.declared.state.Phase.{Phase}
use Rattle.acc_host.specs.declared.state.Phase.TheVariants as phase
use Rattle.acc_host.specs.Hosts.{HostView, after_answer, after_place, after_wait, host_after, owing, wants, wants_at}
use Rattle.acc_host.specs.Steps.{Owed, nothing_owed, owes_seen, Want, stays, sets, refuses, places, awaits, records, alone, ids_after, is_async, owed_batch, owed_by, owed_counts, set_or_refuse, wanted}
use Rattle.acc_place.specs.declared.directive.Kind.{Kind}
use Rattle.acc_place.specs.declared.directive.Kind.TheVariants as kind
use Rattle.acc_place.specs.declared.directive.Placed.{Placed}
use Rattle.acc_place.specs.Directives.{Directive}
use Rattle.acc_work.specs.declared.item.ItemLabel.{ItemLabel}
use Rattle.acc_work.specs.declared.item.ItemLabel.TheVariants as to_record
use Rattle.acc_work.specs.declared.item.Shown.{Shown}
use Rattle.acc_explore.specs.UnseenOperations.{asks_no_more, asks_queues, is_asking, is_question, nobody_asks}

-- ## What holds of all of a list

pub all_set : {X : Type 0} (p : X → Bool) (xs : List X) (i : ℕ) (y : X) → list_all p xs ≡ true → p y ≡ true → list_all p (slice_set xs i y) ≡ true
all_set p [] i y all new = refl
all_set p (x ∷ xs) zero y all new = and_from (p y) (list_all p xs) new (and_parts (p x) (list_all p xs) all).1
all_set p (x ∷ xs) (suc i) y all new = let parts = and_parts (p x) (list_all p xs) all in and_from (p x) (list_all p (slice_set xs i y)) parts.0 (all_set p xs i y parts.1 new)

pub all_get : {X : Type 0} (p : X → Bool) (xs : List X) (i : ℕ) (x : X) → list_all p xs ≡ true → slice_get xs i ≡ Some x → p x ≡ true
all_get p [] i x all there = cc
all_get p (y ∷ xs) zero x all there = let same : y ≡ x = cc in ap p (sym same) ∙ (and_parts (p y) (list_all p xs) all).0
all_get p (y ∷ xs) (suc i) x all there = all_get p xs i x (and_parts (p y) (list_all p xs) all).1 there

pub all_at : {X : Type 0} (p : X → Bool) (xs : List X) (n : ℕ) (x : X) → list_all p (drop n xs) ≡ true → slice_get xs n ≡ Some x → p x ≡ true
all_at p [] n x all there = cc
all_at p (y ∷ xs) zero x all there = let same : y ≡ x = cc in ap p (sym same) ∙ (and_parts (p y) (list_all p xs) all).0
all_at p (y ∷ xs) (suc n) x all there = all_at p xs n x all there

pub all_behind : {X : Type 0} (p : X → Bool) (xs : List X) (n : ℕ) → list_all p (drop n xs) ≡ true → list_all p (drop (suc n) xs) ≡ true
all_behind p [] zero all = refl
all_behind p [] (suc n) all = refl
all_behind p (x ∷ xs) zero all = (and_parts (p x) (list_all p xs) all).1
all_behind p (x ∷ xs) (suc n) all = all_behind p xs n all

-- ## What such a host wants

-- it is no question, and records no answer of one
abbrev pub is_quiet : Want → Bool
is_quiet stays = true
is_quiet (sets ids) = true
is_quiet (refuses fault) = true
is_quiet (places d) = not (is_question d.kind)
is_quiet (awaits device counts) = true
is_quiet (records (to_record.Write array cell new_value)) = true
is_quiet (records (to_record.Print range)) = true
is_quiet (records (to_record.Seen device counts)) = false
is_quiet (records (to_record.Test device counts)) = false

quiet_choice : (b : Bool) (fault : Fault) (ids : Ids) → is_quiet (set_or_refuse b fault ids) ≡ true
quiet_choice true fault ids = refl
quiet_choice false fault ids = refl

quiet_act : (devices : ℕ) (ids : Ids) (a : Act) → not (asks_queues a) ≡ true → is_quiet (wanted devices ids a) ≡ true
quiet_act devices ids (act.Place d) q = q
quiet_act devices ids (act.Write array cell new_value) q = refl
quiet_act devices ids (act.Print range) q = refl
quiet_act devices ids (act.SetDevice n) q = quiet_choice (nat_lt n devices) BadDevice (ids_after (act.SetDevice n) ids)
quiet_act devices ids (act.SetAsync v) q = quiet_choice (is_async v) BadAsync (ids_after (act.SetAsync v) ids)
quiet_act devices ids act.ShowDevice q = refl
quiet_act devices ids act.ShowDevices q = refl

quiet_at : (devices : ℕ) (ids : Ids) (p : Phase) (o : Option Statement) → not (is_asking p) ≡ true → ((s : Statement) → o ≡ Some s → not (asks_queues s.act) ≡ true) → is_quiet (wants_at devices ids p o) ≡ true
quiet_at devices ids phase.Ready None q f = refl
quiet_at devices ids (phase.Waits device counts) None q f = refl
quiet_at devices ids (phase.Asks device counts) None q f = refl
quiet_at devices ids (phase.Refused fault) None q f = refl
quiet_at devices ids phase.Ready (Some s) q f = quiet_act devices ids s.act (f s refl)
quiet_at devices ids (phase.Waits device counts) (Some s) q f = refl
quiet_at devices ids (phase.Asks device counts) (Some s) q f = cc
quiet_at devices ids (phase.Refused fault) (Some s) q f = refl

abbrev silent : Statement → Bool
silent s = not (asks_queues s.act)

pub quiet_host : (devices : ℕ) (host : HostView) → asks_no_more host ≡ true → is_quiet (wants devices host) ≡ true
quiet_host devices host e =
    let parts = and_parts (not (is_asking host.phase)) (list_all silent (drop host.ended host.statements)) e in
    quiet_at devices host.ids host.phase (slice_get host.statements host.ended) parts.0 (λ s there. all_at silent host.statements host.ended s parts.1 there)

-- ## How it goes on

abbrev goes_quiet : Result After Fault → Bool
goes_quiet (Ok go.Idle) = true
goes_quiet (Ok go.Ended) = true
goes_quiet (Ok (go.Set ids)) = true
goes_quiet (Ok (go.Waits what)) = true
goes_quiet (Ok (go.Asks what)) = false
goes_quiet (Err fault) = true

no_more_after : (host : HostView) (goes : Result After Fault) → goes_quiet goes ≡ true → asks_no_more host ≡ true → asks_no_more (host_after goes host) ≡ true
no_more_after host goes q e = by goes q (and_parts (not (is_asking host.phase)) (list_all silent (drop host.ended host.statements)) e).0 (and_parts (not (is_asking host.phase)) (list_all silent (drop host.ended host.statements)) e).1
  where
    later : list_all silent (drop host.ended host.statements) ≡ true → list_all silent (drop (host.ended + 1) host.statements) ≡ true
    later all = ap (λ n. list_all silent (drop n host.statements)) (add-one host.ended) ∙ all_behind silent host.statements host.ended all

    by : (goes : Result After Fault) → goes_quiet goes ≡ true → not (is_asking host.phase) ≡ true → list_all silent (drop host.ended host.statements) ≡ true → asks_no_more (host_after goes host) ≡ true
    by (Ok go.Idle) q now all = and_from (not (is_asking host.phase)) (list_all silent (drop host.ended host.statements)) now all
    by (Ok go.Ended) q now all = later all
    by (Ok (go.Set ids)) q now all = later all
    by (Ok (go.Waits what)) q now all = all
    by (Ok (go.Asks what)) q now all = cc
    by (Err fault) q now all = all

if_quiet : (c : Bool) (x y : Owed) → goes_quiet (Ok (owing x)) ≡ true → goes_quiet (Ok (owing y)) ≡ true → goes_quiet (Ok (owing (cond c x y))) ≡ true
if_quiet true x y f g = f
if_quiet false x y f g = g

batch_quiet : (batch : Option (QueueAt × ℕ)) → goes_quiet (Ok (owing (owed_batch batch))) ≡ true
batch_quiet None = refl
batch_quiet (Some b) = if_quiet (b.0.queue == 0) (owes_seen b.0.device (alone b.0.queue b.1)) nothing_owed refl refl

owed_quiet : (k : Kind) (device : ℕ) (counts : List ℕ) (batch : Option (QueueAt × ℕ)) → not (is_question k) ≡ true → goes_quiet (Ok (owing (owed_counts k device counts batch))) ≡ true
owed_quiet kind.Wait device counts batch q = if_quiet (is_nothing counts) nothing_owed (owes_seen device counts) refl refl
owed_quiet kind.AsyncTest device counts batch q = cc
owed_quiet kind.Data device counts batch q = batch_quiet batch
owed_quiet kind.EndData device counts batch q = batch_quiet batch
owed_quiet kind.EnterData device counts batch q = batch_quiet batch
owed_quiet (kind.ExitData finalize) device counts batch q = batch_quiet batch
owed_quiet (kind.Update if_present) device counts batch q = batch_quiet batch
owed_quiet (kind.Loop k) device counts batch q = batch_quiet batch
owed_quiet kind.IsPresent device counts batch q = batch_quiet batch

-- Nobody asks behind a host's step.
module _ (w : State) (h : ℕ) (host : HostView) (there : slice_get w.hosts h ≡ Some host) (nobody : nobody_asks w ≡ true) where
  set_quiet : (goes : Result After Fault) → goes_quiet goes ≡ true → list_all asks_no_more (slice_set w.hosts h (host_after goes host)) ≡ true
  set_quiet goes q = all_set asks_no_more w.hosts h (host_after goes host) nobody (no_more_after host goes q (all_get asks_no_more w.hosts h host nobody there))

  placed_quiet : (d : Directive) (answer : Result Placed Fault) → not (is_question d.kind) ≡ true → nobody_asks (host_outcome (placed_state w h d answer) h host (after_place d answer)).state ≡ true
  placed_quiet d (Ok placed) q = set_quiet (Ok (owing (owed_by d placed))) (owed_quiet d.kind d.device placed.counts placed.batch q)
  placed_quiet d (Err fault) q = set_quiet (Err fault) refl

  waited_quiet : (device : ℕ) (counts : List ℕ) (answer : Result Bool Fault) → nobody_asks (host_outcome (waited_state w h device counts answer) h host (after_wait answer)).state ≡ true
  waited_quiet device counts (Ok true) = set_quiet (Ok go.Ended) refl
  waited_quiet device counts (Ok false) = set_quiet (Ok go.Idle) refl
  waited_quiet device counts (Err fault) = set_quiet (Err fault) refl

  recorded_quiet : (item : ItemLabel) (answer : Result Shown Fault) → nobody_asks (host_outcome (item_state w h item answer) h host (after_answer answer)).state ≡ true
  recorded_quiet item (Ok shown) = set_quiet (Ok go.Ended) refl
  recorded_quiet item (Err fault) = set_quiet (Err fault) refl

  pub host_quiet : (want : Want) → is_quiet want ≡ true → nobody_asks (host_step false w h host want).state ≡ true
  host_quiet stays q = set_quiet (Ok go.Idle) refl
  host_quiet (sets ids) q = set_quiet (Ok (go.Set ids)) refl
  host_quiet (refuses fault) q = set_quiet (Err fault) refl
  host_quiet (places d) q = placed_quiet d (place_answer false w h d) q
  host_quiet (awaits device counts) q = waited_quiet device counts (wait_answer false w device counts)
  host_quiet (records item) q = recorded_quiet item (item_answer false w item)

  -- what it wants is no question
  pub want_quiet : is_quiet (wants w.config.devices host) ≡ true
  want_quiet = quiet_host w.config.devices host (all_get asks_no_more w.hosts h host nobody there)
