-- A host in a thread of its own goes on, step by step.
use Rattle.std.proofs.Common.{inl, inr, ◌≡◌, ℕ, Bool, true, false, List, [], ◌∷◌, ◌++◌, map, length, refl, sym, ap, subst, ◌∙◌, Option, Some, None, Result, Ok, Err}
use Rattle.std.specs.Prelude.{nat_lt, nat_le}
use Rattle.std.proofs.lemmas.Bool.{cases_Bool, eq-eqb}
use Rattle.std.proofs.lemmas.List.{append_assoc, append_cancel_left, append-nil, map-append}
use Rattle.acc_base.specs.declared.fault.Fault.{Fault}
use Rattle.acc_base.specs.declared.fault.Fault.TheVariants as fault
use Rattle.acc_place.specs.Directives.{Directive}
use Rattle.acc_place.specs.declared.directive.Placed.{Placed}
use Rattle.acc_work.specs.declared.item.ItemLabel.{ItemLabel}
use Rattle.acc_work.specs.declared.item.ItemLabel.TheVariants as to_record
use Rattle.acc_work.specs.declared.item.Shown.{Shown}
use Rattle.acc_host.specs.Engines.{HostEntry, Gave, Had, Call, Place, Wait, Record}
use Rattle.acc_host.specs.Following.{Stands, Follows}
use Rattle.acc_host.specs.Hosts.{HostView, Adds, Asks, wants, wants_at, ready, refused_at, host_after, phase_after, state_of, after_place, after_wait, after_answer}
use Rattle.acc_host.specs.Steps.{Want, stays, sets, refuses, places, awaits, records, wanted, with_ids, set_or_refuse, is_async}
use Rattle.acc_host.specs.declared.program.Act.{Act}
use Rattle.acc_host.specs.declared.program.Act.TheVariants as act
use Rattle.acc_host.specs.declared.program.HostProgram.{HostProgram}
use Rattle.acc_host.specs.declared.program.Statement.{Statement}
use Rattle.acc_host.specs.declared.state.After.{After}
use Rattle.acc_host.specs.declared.state.After.TheVariants as gone
use Rattle.acc_host.specs.declared.state.HostState.{HostState}
use Rattle.acc_host.specs.declared.state.HostState.TheVariants as state
use Rattle.acc_host.specs.declared.state.Ids.{Ids}
use Rattle.acc_host.specs.declared.state.Phase.{Phase}
use Rattle.acc_host.specs.declared.state.Phase.TheVariants as phase
use Rattle.acc_run.specs.declared.token.TokenEntry.{TokenEntry}
use Rattle.acc_run.specs.Calling.{BeginsWith, CallingView, HasStopped, IsCalled, IsNotFull, Went, listed}
use Rattle.acc_run.specs.Running.{CameBack, IsPaired}
use Rattle.acc_run.specs.Tokens.{TokenView, listed_entry}

-- A host that is refused, if it is, for another reason than a full queue.
abbrev pub IsNotFullIn : Phase → Type 0
IsNotFullIn phase.Ready = Unit {0}
IsNotFullIn (phase.Waits device counts) = Unit {0}
IsNotFullIn (phase.Asks device counts) = Unit {0}
IsNotFullIn (phase.Refused f) = IsNotFull f

-- A host on its way: what its token gained is what the host has come to.
pub record Going (devices : ℕ) (host : HostView) (entries : List TokenEntry) (after : HostView) (longer : List TokenEntry) : Type 0 where
  pub same_host : after.host ≡ host.host
  pub same_program : after.statements ≡ host.statements
  pub not_full : IsNotFullIn after.phase
  pub list : List TokenEntry
  pub gained : longer ≡ entries ++ list
  pub stands : Stands devices after (map listed_entry list)

-- What a list gains, the list behind it gains.
record AddsBehind (want : Want) (goes : Result After Fault) (before list longer : List HostEntry) : Type 0 where
  pub more : List HostEntry
  pub is : longer ≡ before ++ more
  pub adds : Adds want goes list more

one_behind : (before list longer : List HostEntry) (x : HostEntry) → longer ≡ (before ++ list) ++ x ∷ [] → longer ≡ before ++ (list ++ x ∷ [])
one_behind before list longer x e = e ∙ append_assoc before list (x ∷ [])

adds_behind : (want : Want) (goes : Result After Fault) (before list longer : List HostEntry) → Adds want goes (before ++ list) longer → AddsBehind want goes before list longer
adds_behind stays (Ok goes) before list longer h = record { more = list; is = h.1; adds = (h.0, refl) }
adds_behind stays (Err f) before list longer h = absurd h
adds_behind (sets ids) (Ok goes) before list longer h = record { more = list; is = h.1; adds = (h.0, refl) }
adds_behind (sets ids) (Err f) before list longer h = absurd h
adds_behind (refuses f) (Ok goes) before list longer h = absurd h
adds_behind (refuses f) (Err found) before list longer h = record { more = list; is = h.1; adds = (h.0, refl) }
adds_behind (places d) (Ok goes) before list longer h = record { more = list ++ Gave d h.0 ∷ []; is = one_behind before list longer (Gave d h.0) h.2; adds = (h.0, h.1, refl) }
adds_behind (places d) (Err f) before list longer h = record { more = list; is = h; adds = refl }
adds_behind (awaits device counts) (Ok goes) before list longer h = elim h [
  | inl same ↦ record { more = list; is = same.1; adds = inl (same.0, refl) }
  | inr seen ↦ record { more = _; is = one_behind before list longer _ seen.1; adds = inr (seen.0, refl) }
]
adds_behind (awaits device counts) (Err f) before list longer h = record { more = list; is = h; adds = refl }
adds_behind (records item) (Ok goes) before list longer h = record { more = list ++ Had h.1 ∷ []; is = one_behind before list longer (Had h.1) h.3; adds = (h.0, h.1, h.2, refl) }
adds_behind (records item) (Err f) before list longer h = record { more = list; is = h; adds = refl }

-- A step that isn't refused for a full queue, and leaves the list longer or as it is.
abbrev pub GoesOn : CallingView → Result After Fault → CallingView → Type 0
GoesOn old (Ok goes) new = BeginsWith old.entries new.entries
GoesOn old (Err f) new = IsNotFull f × BeginsWith old.entries new.entries

-- the calls of a host over a runtime
abbrev pub made : CallingView → ℕ → Call → CallingView → Type 0
made old host call new = IsCalled old call new

same_list : (old new : CallingView) → new ≡ old → BeginsWith old.entries new.entries
same_list old new e = ([], ap (λ (c : CallingView). c.entries) e ∙ sym (append-nil old.entries))

stays_on : (old new : CallingView) (goes : Result After Fault) (on : After) → goes ≡ Ok on → new ≡ old → GoesOn old goes new
stays_on old new goes on is same = rw is (same_list old new same)

refused_on : (old new : CallingView) (goes : Result After Fault) (f : Fault) → IsNotFull f → goes ≡ Err f → new ≡ old → GoesOn old goes new
refused_on old new goes f not_full is same = rw is (not_full, same_list old new same)

own_goes : (b : Bool) (f : Fault) (ids : Ids) → IsNotFull f → (goes : Result After Fault) → (old new : CallingView) (h : ℕ) → Asks made old h (set_or_refuse b f ids) goes new → GoesOn old goes new
own_goes true f ids not_full goes old new h asks = stays_on old new goes (gone.Set ids) asks.0 asks.1
own_goes false f ids not_full goes old new h asks = refused_on old new goes f not_full asks.0 asks.1

place_goes : (old new : CallingView) (d : Directive) (answer : Result Placed Fault) → IsCalled old (Place d answer) new → GoesOn old (after_place d answer) new
place_goes old new d (Ok placed) call = call.1
place_goes old new d (Err f) call = call

wait_goes : (old new : CallingView) (device : ℕ) (counts : List ℕ) (answer : Result Bool Fault) → IsCalled old (Wait device counts answer) new → GoesOn old (after_wait answer) new
wait_goes old new device counts (Ok true) call = call.1
wait_goes old new device counts (Ok false) call = call.1
wait_goes old new device counts (Err f) call = call

item_goes : (old new : CallingView) (item : ItemLabel) (answer : Result Shown Fault) → IsCalled old (Record item answer) new → GoesOn old (after_answer answer) new
item_goes old new item (Ok answer) call = call.1
item_goes old new item (Err f) call = call

records_goes : (item : ItemLabel) (old new : CallingView) (h : ℕ) (goes : Result After Fault) → Asks made old h (records item) goes new → GoesOn old goes new
records_goes item old new h goes asks = elim asks [
  | inl none ↦ refused_on old new goes fault.Memory tt none.1 none.2
  | inr called ↦ rw called.2 (item_goes old new item called.0 called.1)
]

want_goes : (devices : ℕ) (ids : Ids) (a : Act) (old new : CallingView) (h : ℕ) (goes : Result After Fault) → Asks made old h (wanted devices ids a) goes new → GoesOn old goes new
want_goes devices ids (act.Place d) old new h goes asks = rw asks.2 (place_goes old new (with_ids ids d) asks.0 asks.1)
want_goes devices ids (act.Write array cell value) old new h goes asks = records_goes (to_record.Write array cell value) old new h goes asks
want_goes devices ids (act.Print range) old new h goes asks = records_goes (to_record.Print range) old new h goes asks
want_goes devices ids (act.SetDevice n) old new h goes asks = own_goes (nat_lt n devices) fault.BadDevice _ tt goes old new h asks
want_goes devices ids (act.SetAsync v) old new h goes asks = own_goes (is_async v) fault.BadAsync _ tt goes old new h asks
want_goes devices ids act.ShowDevice old new h goes asks = stays_on old new goes (gone.Set ids) asks.0 asks.1
want_goes devices ids act.ShowDevices old new h goes asks = stays_on old new goes (gone.Set ids) asks.0 asks.1

pub next_goes : (devices : ℕ) (ids : Ids) (p : Phase) (s : Option Statement) (old new : CallingView) (h : ℕ) (goes : Result After Fault)
    → Asks made old h (wants_at devices ids p s) goes new → GoesOn old goes new
next_goes devices ids p None old new h goes asks = stays_on old new goes gone.Idle asks.0 asks.1
next_goes devices ids phase.Ready (Some s) old new h goes asks = want_goes devices ids s.act old new h goes asks
next_goes devices ids (phase.Waits device counts) (Some s) old new h goes asks = rw asks.2 (wait_goes old new device counts asks.0 asks.1)
next_goes devices ids (phase.Asks device counts) (Some s) old new h goes asks = records_goes (to_record.Test device counts) old new h goes asks
next_goes devices ids (phase.Refused f) (Some s) old new h goes asks = stays_on old new goes gone.Idle asks.0 asks.1

phase_goes : (old new : CallingView) (goes : Result After Fault) (was : Phase) → GoesOn old goes new → IsNotFullIn was → IsNotFullIn (phase_after goes was)
phase_goes old new (Ok gone.Idle) was on not_full = not_full
phase_goes old new (Ok gone.Ended) was on not_full = tt
phase_goes old new (Ok (gone.Set ids)) was on not_full = tt
phase_goes old new (Ok (gone.Waits what)) was on not_full = tt
phase_goes old new (Ok (gone.Asks what)) was on not_full = tt
phase_goes old new (Err f) was on not_full = on.0

list_goes : (old new : CallingView) (goes : Result After Fault) → GoesOn old goes new → BeginsWith old.entries new.entries
list_goes old new (Ok on) h = h
list_goes old new (Err f) h = h.1

listed_here : (c : CallingView) (h : ℕ) → c.host ≡ h → listed c h ≡ map listed_entry c.entries
listed_here c h e = rw (eq-eqb c.host h e) refl

-- What is added to a list that stands behind another one is what the longer list has gained.
added : (want : Want) (goes : Result After Fault) (start list more longer : List TokenEntry) → longer ≡ start ++ (list ++ more) → Adds want goes (map listed_entry start ++ map listed_entry list) (map listed_entry longer)
    → Adds want goes (map listed_entry list) (map listed_entry (list ++ more))
added want goes start list more longer e adds =
    let behind = adds_behind want goes (map listed_entry start) (map listed_entry list) (map listed_entry longer) adds in
    let same : map listed_entry start ++ behind.more ≡ map listed_entry start ++ map listed_entry (list ++ more) = sym behind.is ∙ (ap (map listed_entry) e ∙ map-append listed_entry start (list ++ more)) in
    subst (λ (l : List HostEntry). Adds want goes (map listed_entry list) l) (append_cancel_left (map listed_entry start) behind.more (map listed_entry (list ++ more)) same) behind.adds

-- The law of hosts over one step, as it is given to the proofs of functions.
abbrev pub StepsLaw : Type 0
StepsLaw = (devices : ℕ) (host : HostView) (goes : Result After Fault) (list longer : List HostEntry) → Adds (wants devices host) goes list longer → Stands devices host list → Stands devices (host_after goes host) longer

pub goes_on : (law : StepsLaw) (devices : ℕ) (first : HostView) (start : List TokenEntry) (host : HostView) (mid : CallingView) (goes : Result After Fault) (after : HostView) (later : CallingView)
    → mid.host ≡ host.host → later.host ≡ host.host → Going devices first start host mid.entries → Adds (wants devices host) goes (listed mid host.host) (listed later host.host) → GoesOn mid goes later → after ≡ host_after goes host
    → Going devices first start after later.entries
goes_on law devices first start host mid goes after later mine same g adds on is =
    let more = list_goes mid later goes on in
    let longer : later.entries ≡ start ++ (g.list ++ more.0) = more.1 ∙ (ap (λ (l : List TokenEntry). l ++ more.0) g.gained ∙ append_assoc start g.list more.0) in
    let old : listed mid host.host ≡ map listed_entry start ++ map listed_entry g.list = listed_here mid host.host mine ∙ (ap (map listed_entry) g.gained ∙ map-append listed_entry start g.list) in
    let new : listed later host.host ≡ map listed_entry later.entries = listed_here later host.host same in
    let both : Adds (wants devices host) goes (map listed_entry start ++ map listed_entry g.list) (map listed_entry later.entries) =
    subst (λ (l : List HostEntry). Adds (wants devices host) goes (map listed_entry start ++ map listed_entry g.list) l) new (subst (λ (l : List HostEntry). Adds (wants devices host) goes l (listed later host.host)) old adds) in
    let there : Going devices first start (host_after goes host) later.entries = record {
      same_host = g.same_host;
      same_program = g.same_program;
      not_full = phase_goes mid later goes host.phase on g.not_full;
      list = g.list ++ more.0;
      gained = longer;
      stands = law devices host goes (map listed_entry g.list) (map listed_entry (g.list ++ more.0)) (added (wants devices host) goes start g.list more.0 later.entries longer both) g.stands;
    } in
    subst (λ (v : HostView). Going devices first start v later.entries) (sym is) there

-- a host that doesn't run any more has stopped
stopped_in : (host : HostView) (p : Phase) → IsNotFullIn p → ((ended : ℕ) → state_of (record host { phase = p }) ≡ state.Running ended → ⊥) → HasStopped (state_of (record host { phase = p }))
stopped_in host phase.Ready not_full stands = elim (cases_Bool (nat_le (length host.statements) host.ended)) [
  | inl ended ↦ rw ended tt
  | inr runs ↦ absurd (stands host.ended (rw runs refl))
]
stopped_in host (phase.Waits device counts) not_full stands = absurd (stands host.ended refl)
stopped_in host (phase.Asks device counts) not_full stands = absurd (stands host.ended refl)
stopped_in host (phase.Refused f) not_full stands = not_full

abbrev pub FollowLaw : Type 0
FollowLaw = (devices : ℕ) (host : HostView) (list : List HostEntry) → Stands devices host list → Follows devices host.statements (state_of host) list

pub has_gone : (law : FollowLaw) (devices : ℕ) (first : HostView) (start : List TokenEntry) (after : HostView) (later : List TokenEntry) → Going devices first start after later
    → ((ended : ℕ) → state_of after ≡ state.Running ended → ⊥) → Went devices first start after later
has_gone law devices first start after later g stands = record {
  same_host = g.same_host;
  same_program = g.same_program;
  stopped = stopped_in after after.phase g.not_full stands;
  list = g.list;
  gained = g.gained;
  follows = subst (λ (s : List Statement). Follows devices s (state_of after) (map listed_entry g.list)) g.same_program (law devices after (map listed_entry g.list) g.stands);
}

abbrev pub FirstLaw : Type 0
FirstLaw = (devices : ℕ) (program : HostProgram) → Stands devices (ready program) []

-- A host that has gained nothing yet, or is refused before its first statement, is on its way.
begins_at : (devices : ℕ) (host : HostView) (entries : List TokenEntry) (after : HostView) → after.host ≡ host.host → after.statements ≡ host.statements → IsNotFullIn after.phase → Stands devices after [] → Going devices host entries after entries
begins_at devices host entries after same program not_full stands = record { same_host = same; same_program = program; not_full = not_full; list = []; gained = sym (append-nil entries); stands = stands }

pub begins : (first : FirstLaw) (devices : ℕ) (host : HostView) (entries : List TokenEntry) (program : HostProgram) → host ≡ ready program → Going devices host entries host entries
begins first devices host entries program is =
    subst (λ (v : HostView). Going devices v entries v entries) (sym is) (begins_at devices (ready program) entries (ready program) refl refl tt (first devices program))

abbrev pub RefusedLaw : Type 0
RefusedLaw = (devices : ℕ) (host : HostView) (list : List HostEntry) (f : Fault) → Stands devices host list → Stands devices (refused_at (state_of host) f host) list

-- a host that is refused before its first statement
barred_by : (first : FirstLaw) (refused : RefusedLaw) (follow : FollowLaw) (devices : ℕ) (program : HostProgram) (entries : List TokenEntry) (s : HostState) → state_of (ready program) ≡ s → Went devices (ready program) entries (refused_at s fault.Memory (ready program)) entries
barred_by first refused follow devices program entries (state.Running ended) e =
    let host = ready program in
    let stands : Stands devices (refused_at (state.Running ended) fault.Memory host) [] = subst (λ (s : HostState). Stands devices (refused_at s fault.Memory host) []) e (refused devices host [] fault.Memory (first devices program)) in
    has_gone follow devices host entries (refused_at (state.Running ended) fault.Memory host) entries (begins_at devices host entries (refused_at (state.Running ended) fault.Memory host) refl refl tt stands) (λ n was. cc)
barred_by first refused follow devices program entries state.Finished e =
    has_gone follow devices (ready program) entries (ready program) entries (begins_at devices (ready program) entries (ready program) refl refl tt (first devices program)) (λ n was. (let w : state.Finished ≡ state.Running n = sym e ∙ was in cc))
barred_by first refused follow devices program entries (state.Refused ended line f) e =
    has_gone follow devices (ready program) entries (ready program) entries (begins_at devices (ready program) entries (ready program) refl refl tt (first devices program)) (λ n was. (let w : state.Refused ended line f ≡ state.Running n = sym e ∙ was in cc))

pub barred_went : (first : FirstLaw) (refused : RefusedLaw) (follow : FollowLaw) (devices : ℕ) (host after : HostView) (token : TokenView) → IsPaired host token → after ≡ refused_at (state_of host) fault.Memory host → CameBack devices host token after token
barred_went first refused follow devices host after token h is = record {
  own = refl;
  went = rw is (subst (λ (v : HostView). Went devices v token.entries (refused_at (state_of v) fault.Memory v) token.entries) (sym h.fresh) (barred_by first refused follow devices h.program token.entries (state_of (ready h.program)) refl));
}
