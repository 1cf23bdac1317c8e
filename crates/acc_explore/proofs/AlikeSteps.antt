-- Each step keeps states alike that are, and being alike is an equivalence of legal states.
use Rattle.std.proofs.Common.{◌≡◌, ℕ, Bool, List, refl, sym, ap, ◌∙◌, subst}
use Rattle.acc_base.specs.Configurations.{Configuration}
use Rattle.acc_batch.specs.declared.entry.WorkEntry.{WorkEntry}
use Rattle.acc_batch.specs.declared.label.Label.{Label}
use Rattle.acc_batch.specs.Labels.{ops_of}
use Rattle.acc_core.specs.Legality.{IsLegalState}
use Rattle.acc_core.specs.Machine.{State, labels_of, standing_of, step}
use Rattle.acc_host.specs.declared.event.Event.{Event}
use Rattle.acc_host.specs.Entries.{own_of}
use Rattle.acc_place.specs.Histories.{AllAccepted, standing}
use Rattle.acc_place.specs.Standings.{Standing}
use Rattle.acc_work.specs.Orders.{InOrder}
use Rattle.acc_explore.specs.Alike.{Alike, AlikeLogs, AlikeOutcome, AlikePlaces, own_directives}
use Rattle.acc_explore.proofs.AlikeLabels.{SameByQueue}
use Rattle.acc_explore.proofs.AlikeLogs.{same_back, same_itself, same_on}
use Rattle.acc_explore.proofs.AlikeLogSteps.{AlikeInLog}
use Rattle.acc_explore.proofs.AlikeLogSteps as log
use Rattle.acc_explore.proofs.AlikePlaceSteps.{AlikeInPlaces, with_histories}
use Rattle.acc_explore.proofs.AlikePlaceSteps as place
use Rattle.acc_explore.proofs.LogReadings.{with_work}

-- ## An equivalence

places_itself : (st : Standing) → AlikePlaces st st
places_itself st = record { placed = λ at. refl; present = λ device. refl; inside = λ host. refl; closing = refl }

places_back : (st ot : Standing) → AlikePlaces st ot → AlikePlaces ot st
places_back st ot s = record {
  placed = λ at. sym (s.placed at);
  present = λ device. sym (s.present device);
  inside = λ host. sym (s.inside host);
  closing = sym s.closing;
}

places_on : (st mid ot : Standing) → AlikePlaces st mid → AlikePlaces mid ot → AlikePlaces st ot
places_on st mid ot s t = record {
  placed = λ at. s.placed at ∙ t.placed at;
  present = λ device. s.present device ∙ t.present device;
  inside = λ host. s.inside host ∙ t.inside host;
  closing = s.closing ∙ t.closing;
}

-- what is the same but for its log is alike
pub but_log : (w : State) (work : List WorkEntry) → AlikeLogs w.config.arrays w.work work → Alike w (with_work w work)
but_log w work s = record { config = refl; taken = refl; hosts = refl; places = places_itself (standing_of w); own = λ host. refl; work = s }

pub alike_itself : (w : State) → Alike w w
alike_itself w = but_log w w.work (same_itself w.config.arrays w.work)

in_order_by : (old new : List Label) (work : List WorkEntry) → SameByQueue old new → InOrder new work → InOrder old work
in_order_by old new work s h at = (let p = h at in (p.0, p.1 ∙ ap ops_of (sym (s at))))

-- a log that is in order behind the one is so behind the other
pub in_order_there : (old new : State) → Alike old new → InOrder (labels_of new) new.work → InOrder (labels_of old) new.work
in_order_there old new s h = in_order_by (labels_of old) (labels_of new) new.work s.places.placed h

pub alike_back : (old new : State) → IsLegalState old → IsLegalState new → Alike old new → Alike new old
alike_back old new a b s = record {
  config = sym s.config;
  taken = sym s.taken;
  hosts = sym s.hosts;
  places = places_back (standing_of old) (standing_of new) s.places;
  own = λ host. sym (s.own host);
  work = subst (λ (config : Configuration). AlikeLogs config.arrays new.work old.work) s.config
      (same_back old.config.arrays (labels_of old) old.work new.work a.kept.prefix (in_order_there old new s b.kept.prefix) s.work);
}

pub alike_on : (old mid new : State) → IsLegalState old → IsLegalState mid → Alike old mid → Alike mid new → Alike old new
alike_on old mid new a b s t = record {
  config = s.config ∙ t.config;
  taken = s.taken ∙ t.taken;
  hosts = s.hosts ∙ t.hosts;
  places = places_on (standing_of old) (standing_of mid) (standing_of new) s.places t.places;
  own = λ host. s.own host ∙ t.own host;
  work = same_on old.config.arrays (labels_of old) old.work mid.work new.work a.kept.prefix (in_order_there old mid s b.kept.prefix) s.work
      (subst (λ (config : Configuration). AlikeLogs config.arrays mid.work new.work) (sym s.config) t.work);
}

pub is_equivalence : (a b c : State) → IsLegalState a → IsLegalState b → IsLegalState c → Alike a a × (Alike a b → Alike b a) × (Alike a b → Alike b c → Alike a c)
is_equivalence a b c first second third = (alike_itself a, alike_back a b first second, alike_on a b c first second)

-- ## The log alone, then the place history alone

-- the one with the log of the other
abbrev pub between : State → State → State
between old new = with_work old new.work

pub behind_between : (old new : State) → Alike old new → new ≡ with_histories (between old new) new.history new.counts
behind_between old new s = λ i. record {
  config = sym s.config i;
  history = new.history;
  counts = new.counts;
  work = new.work;
  taken = sym s.taken i;
  hosts = sym s.hosts i;
}

pub places_between : (old new : State) → Alike old new → AlikePlaces (standing_of old) (standing old.config new.history new.counts)
places_between old new s = subst (λ (config : Configuration). AlikePlaces (standing_of old) (standing config new.history new.counts)) (sym s.config) s.places

pub own_between : (old new : State) → Alike old new → (host : ℕ) → own_directives old host ≡ own_of old.config host new.history new.counts
own_between old new s host = s.own host ∙ ap (λ (config : Configuration). own_of config host new.history new.counts) (sym s.config)

accepted_between : (old new : State) → Alike old new → AllAccepted new.config new.history new.counts → AllAccepted old.config new.history new.counts
accepted_between old new s h = subst (λ (config : Configuration). AllAccepted config new.history new.counts) (sym s.config) h

both : (old mid new : State) → AlikeInLog old mid → AlikeInPlaces mid new → Alike old new
both old mid new f g = record {
  config = sym (ap (λ (w : State). w.config) f.rest) ∙ sym (ap (λ (w : State). w.config) g.rest);
  taken = sym (ap (λ (w : State). w.taken) f.rest) ∙ sym (ap (λ (w : State). w.taken) g.rest);
  hosts = sym (ap (λ (w : State). w.hosts) f.rest) ∙ sym (ap (λ (w : State). w.hosts) g.rest);
  places = subst (λ (w : State). AlikePlaces (standing_of w) (standing_of new)) f.rest g.places;
  own = λ host. sym (ap (λ (w : State). own_directives w host) f.rest) ∙ g.own host;
  work = subst (λ (work : List WorkEntry). AlikeLogs old.config.arrays old.work work) (sym (ap (λ (w : State). w.work) g.rest)) f.work;
}

-- States that are alike stay so.
pub step_keeps_alike : (no_memory : Bool) (old new : State) (e : Event) → IsLegalState old → IsLegalState new → Alike old new → AlikeOutcome (step no_memory old e) (step no_memory new e)
step_keeps_alike no_memory old new e a b s =
    let mid = between old new in
    let other = with_histories mid new.history new.counts in
    let f = log.by_event no_memory old new.work a s.work e in
    let g = place.by_event mid new.history new.counts (places_between old new s) (own_between old new s) a.accepted (accepted_between old new s b.accepted) no_memory e in
    subst (λ (w : State). AlikeOutcome (step no_memory old e) (step no_memory w e)) (sym (behind_between old new s))
    (record {
      reply = f.reply ∙ g.reply;
      state = both (step no_memory old e).state (step no_memory mid e).state (step no_memory other e).state f.state g.state;
    })
