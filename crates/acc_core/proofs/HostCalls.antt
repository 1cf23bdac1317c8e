-- What a call of a host leaves of the hosts' entries.
use Rattle.std.proofs.Common.{◌≡◌, ℕ, ◌<◌, Bool, true, false, List, [], ◌∷◌, ◌++◌, refl, sym, ap, ◌∙◌, subst, Result, Ok, Err, Option, Some, None}
use Rattle.acc_base.specs.declared.config.TheConstants.{MAX_HOSTS}
use Rattle.acc_base.specs.declared.fault.Fault.{Fault}
use Rattle.acc_host.specs.Engines.{Gave, Call, Place, Wait, Record, MayTell, Lists, Keeps}
use Rattle.acc_place.specs.declared.directive.Placed.{Placed}
use Rattle.acc_place.specs.Batches.{answer_of}
use Rattle.acc_place.specs.Directives.{Directive}
use Rattle.acc_place.specs.Standings.{walk_of}
use Rattle.acc_work.specs.declared.item.ItemLabel.{ItemLabel}
use Rattle.acc_work.specs.declared.item.ItemLabel.TheVariants as to_record
use Rattle.acc_work.specs.declared.item.Shown.{Shown}
use Rattle.acc_batch.specs.declared.entry.Told.{Told}
use Rattle.acc_batch.specs.declared.entry.Told.TheVariants as told
use Rattle.acc_work.specs.Items.{shown_by}
use Rattle.acc_work.specs.Works.{item_fault}
use Rattle.acc_core.specs.inner.Answers.{Makes, Places}
use Rattle.acc_core.specs.Legality.{CountsRise, host_entries}
use Rattle.acc_core.specs.Machine.{State, standing_of, unless, fault_of_place, placed_state, told_of, can_tell, with_item, waited_state, item_state}
use Rattle.acc_core.proofs.LogEntries.{entries_accept, entries_accept_other, entries_item, entries_item_other}

-- an answer that is given is the defined one
given : {A : Type 0} (fault : Option Fault) (defined answer : A) → Ok answer ≡ unless fault defined → answer ≡ defined
given None defined answer e = cc
given (Some fault) defined answer e = cc

tells_of : (w : State) (item : ItemLabel) → MayTell item (told_of w item)
tells_of w (to_record.Write array cell new_value) = refl
tells_of w (to_record.Print range) = (_, refl)
tells_of w (to_record.Seen device counts) = refl
tells_of w (to_record.Test device counts) = (_, refl)

-- What a call leaves of its host's entries.
pub Makes-lists : (old : State) (h : ℕ) (call : Call) (new : State) → CountsRise old → Makes old h call new → Lists call (host_entries old h) (host_entries new h)
Makes-lists old h (Place d (Ok placed)) new rise m =
    let answer = answer_of (standing_of old) d (walk_of (standing_of old) h d) in
    let is : placed ≡ answer = given (fault_of_place m.0 old h d) answer placed m.1 in
    ap (λ w. host_entries w h) m.2 ∙ (entries_accept old h d rise ∙ ap (λ a. host_entries old h ++ Gave d a ∷ []) (sym is))
Makes-lists old h (Place d (Err fault)) new rise m = ap (λ w. host_entries w h) m.2
Makes-lists old h (Wait device counts (Ok true)) new rise m = ap (λ w. host_entries w h) m.2 ∙ entries_item old h (told.Seen device counts) rise
Makes-lists old h (Wait device counts (Ok false)) new rise m = ap (λ w. host_entries w h) m.2
Makes-lists old h (Wait device counts (Err fault)) new rise m = ap (λ w. host_entries w h) m.2
Makes-lists old h (Record item (Ok answer)) new rise m = (
  told_of old item,
  tells_of old item,
  given (item_fault m.0 old.work (can_tell old item)) (shown_by (told_of old item)) answer m.1,
  ap (λ w. host_entries w h) m.2 ∙ entries_item old h (told_of old item) rise,
)
Makes-lists old h (Record item (Err fault)) new rise m = ap (λ w. host_entries w h) m.2

abbrev pub devices_of : State → ℕ
devices_of w = w.config.devices

abbrev pub Serves : State → ℕ → Type 0
Serves w h = h < MAX_HOSTS

abbrev pub KeepsOthers : ℕ → State → State → Type 0
KeepsOthers h old new = Keeps devices_of Serves host_entries h old new

pub keeps_all : (old : State) (h : ℕ) → KeepsOthers h old old
keeps_all old h = record { same_devices = refl; still_serves = λ k s. s; others = λ k ne. refl }

pub keeps_placed : (old : State) (h : ℕ) (d : Directive) (answer : Result Placed Fault) → KeepsOthers h old (placed_state old h d answer)
keeps_placed old h d (Ok placed) = record { same_devices = refl; still_serves = λ k s. s; others = λ k ne. entries_accept_other old k h d ne }
keeps_placed old h d (Err fault) = keeps_all old h

keeps_item : (old : State) (h : ℕ) (what : Told) → KeepsOthers h old (with_item old h what)
keeps_item old h what = record { same_devices = refl; still_serves = λ k s. s; others = λ k ne. entries_item_other old k h what ne }

pub keeps_waited : (old : State) (h device : ℕ) (counts : List ℕ) (answer : Result Bool Fault) → KeepsOthers h old (waited_state old h device counts answer)
keeps_waited old h device counts (Ok true) = keeps_item old h (told.Seen device counts)
keeps_waited old h device counts (Ok false) = keeps_all old h
keeps_waited old h device counts (Err fault) = keeps_all old h

pub keeps_recorded : (old : State) (h : ℕ) (item : ItemLabel) (answer : Result Shown Fault) → KeepsOthers h old (item_state old h item answer)
keeps_recorded old h item (Ok answer) = keeps_item old h (told_of old item)
keeps_recorded old h item (Err fault) = keeps_all old h

-- What a call keeps of all else.
pub Makes-keeps : (old : State) (h : ℕ) (call : Call) (new : State) → Makes old h call new → KeepsOthers h old new
Makes-keeps old h (Place d answer) new m = subst (λ w. KeepsOthers h old w) (sym m.2) (keeps_placed old h d answer)
Makes-keeps old h (Wait device counts answer) new m = subst (λ w. KeepsOthers h old w) (sym m.2) (keeps_waited old h device counts answer)
Makes-keeps old h (Record item answer) new m = subst (λ w. KeepsOthers h old w) (sym m.2) (keeps_recorded old h item answer)

-- A directive that is placed makes what the machine says.
pub Places-makes : (old : State) (h : ℕ) (d : Directive) (answer : Result Placed Fault) (new : State) → Places old h d answer new → Makes old h (Place d answer) new
Places-makes old h d (Ok placed) new p =
    let defined = answer_of (standing_of old) d (walk_of (standing_of old) h d) in
    (false, ap (λ (x : Placed). let r : Result Placed Fault = Ok x in r) p.1 ∙ sym (ap (λ f. unless f defined) p.0), p.2)
Places-makes old h d (Err fault) new p =
    let defined = answer_of (standing_of old) d (walk_of (standing_of old) h d) in
    (p.0, sym (ap (λ f. unless f defined) p.1), p.2)
