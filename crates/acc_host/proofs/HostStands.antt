-- A host's list follows its program after each step.
use Rattle.std.proofs.Common.{◌≡◌, inl, inr, ℕ, zero, suc, ◌+◌, ◌<◌, ◌≤◌, arith, Bool, true, false, List, [], ◌∷◌, ◌++◌, length, refl, sym, ap, ◌∙◌, subst, Option, Some, None, Result, Ok, Err, add-one}
use Rattle.std.specs.Prelude.{slice_get, nat_lt, nat_le, if◌then◌else◌}
use Rattle.std.proofs.lemmas.Bool.{ltb-true, leb-true, leb-false}
use Rattle.std.proofs.lemmas.List.{append_assoc, append-nil}
use Rattle.acc_base.specs.declared.fault.Fault.{Fault}
use Rattle.acc_base.specs.declared.fault.Fault.TheVariants.{BadDevice, BadAsync}
use Rattle.acc_place.specs.Directives.{Directive}
use Rattle.acc_place.specs.declared.directive.Placed.{Placed}
use Rattle.acc_batch.specs.declared.entry.Told.{Told}
use Rattle.acc_batch.specs.declared.entry.Told.TheVariants as told
use Rattle.acc_host.specs.declared.program.Act.{Act}
use Rattle.acc_host.specs.declared.program.Act.TheVariants as act
use Rattle.acc_host.specs.declared.state.After.{After}
use Rattle.acc_host.specs.declared.state.After.TheVariants as go
use Rattle.acc_host.specs.declared.program.HostProgram.{HostProgram}
use Rattle.acc_host.specs.declared.state.HostState.TheVariants as state
use Rattle.acc_host.specs.declared.state.Reply.{Reply}
use Rattle.acc_host.specs.declared.state.Ids.{Ids}
use Rattle.acc_host.specs.declared.state.Phase.{Phase}
use Rattle.acc_host.specs.declared.state.Phase.TheVariants as phase
use Rattle.acc_host.specs.declared.program.Statement.{Statement}
use Rattle.acc_host.specs.Engines.{HostEntry, Gave, Had, Call, Gains}
use Rattle.acc_host.specs.Following.{Settles, Ends, Ended, ids_behind, Begun, Begins, OwesFor, Owes, Behind, Stands, Comes, HasLine, Follows}
use Rattle.acc_host.specs.Hosts.{HostView, Adds, wants, wants_at, host_after, owing, Steps, ready, state_of, state_in, line_of, refused_at}
use Rattle.acc_host.specs.Steps.{Owed, nothing_owed, owes_seen, owes_test, owed_by, with_ids, first_ids, ids_after, is_async, wanted, set_or_refuse}

-- one more statement has ended
pub ended_more : (devices : ℕ) (ids : Ids) (ended : ℕ) (statements : List Statement) (s : Statement) (past last : List HostEntry)
    → slice_get statements ended ≡ Some s → Ends devices (ids_behind ids ended statements) s.act last → Ended devices ids ended statements past
    → Ended devices ids (suc ended) statements (past ++ last)
ended_more devices ids zero [] s past last e ends h = cc
ended_more devices ids zero (t ∷ statements) s past last e ends h =
    let same : s ≡ t = cc in
    (last, [], ap (λ r. r ++ last) h ∙ sym (append-nil last), subst (λ (z : Statement). Ends devices ids z.act last) same ends, refl)
ended_more devices ids (suc ended) [] s past last e ends h = absurd h
ended_more devices ids (suc ended) (t ∷ statements) s past last e ends h = (
  h.0,
  h.1 ++ last,
  ap (λ r. r ++ last) h.2 ∙ append_assoc h.0 h.1 last,
  h.3,
  ended_more devices (ids_after t.act ids) ended statements s h.1 last e ends h.4,
)

-- and the ids are those that it leaves
pub ids_more : (ids : Ids) (ended : ℕ) (statements : List Statement) (s : Statement) → slice_get statements ended ≡ Some s
    → ids_behind ids (suc ended) statements ≡ ids_after s.act (ids_behind ids ended statements)
ids_more ids zero [] s e = cc
ids_more ids zero (t ∷ statements) s e = let same : t ≡ s = cc in ap (λ (z : Statement). ids_after z.act ids) same
ids_more ids (suc ended) [] s e = cc
ids_more ids (suc ended) (t ∷ statements) s e = ids_more (ids_after t.act ids) ended statements s e

-- A statement ends: what stood behind the others, with what is new, is all of it.
ends_here : (devices : ℕ) (host : HostView) (s : Statement) (more last list longer : List HostEntry) (ids : Ids) (st : Stands devices host list)
    → slice_get host.statements host.ended ≡ Some s → longer ≡ list ++ more → st.behind ++ more ≡ last → Ends devices host.ids s.act last → ids ≡ ids_after s.act host.ids
    → Stands devices (record host { ended = host.ended + 1; ids = ids; phase = phase.Ready }) longer
ends_here devices host s more last list longer ids st here gains whole ends e =
    let at : Ids = ids_behind first_ids host.ended host.statements in
    let stands_ends : Ends devices at s.act last = subst (λ i. Ends devices i s.act last) st.ids ends in
    record {
      past = st.past ++ last;
      behind = [];
      parts = gains ∙ (ap (λ r. r ++ more) st.parts ∙ (append_assoc st.past st.behind more ∙ (ap (λ r. st.past ++ r) whole ∙ sym (append-nil (st.past ++ last)))));
      ends = subst (λ n. Ended devices first_ids n host.statements (st.past ++ last)) (sym (add-one host.ended))
          (ended_more devices first_ids host.ended host.statements s st.past last here stands_ends st.ends);
      ids = e ∙ (ap (ids_after s.act) st.ids ∙ (sym (ids_more first_ids host.ended host.statements s here) ∙ ap (λ n. ids_behind first_ids n host.statements) (sym (add-one host.ended))));
      next = refl;
    }

-- No statement ends, but something else stands behind those that have.
stays_here : (devices : ℕ) (host : HostView) (p : Phase) (behind list longer : List HostEntry) (st : Stands devices host list)
    → longer ≡ st.past ++ behind → Behind host.ids p (slice_get host.statements host.ended) behind
    → Stands devices (record host { phase = p }) longer
stays_here devices host p behind list longer st parts next =
    record { past = st.past; behind = behind; parts = parts; ends = st.ends; ids = st.ids; next = next }

-- nothing stands behind, and one entry comes
first_entry : (past behind list longer : List HostEntry) (e : HostEntry) → list ≡ past ++ behind → behind ≡ [] → Gains e list longer → longer ≡ past ++ e ∷ []
first_entry past behind list longer e parts none gains =
    gains ∙ (ap (λ r. r ++ e ∷ []) (parts ∙ (ap (λ r. past ++ r) none ∙ append-nil past)))

alone_behind : (behind : List HostEntry) (e : HostEntry) → behind ≡ [] → behind ++ e ∷ [] ≡ e ∷ []
alone_behind behind e none = ap (λ r. r ++ e ∷ []) none

-- a directive was placed
placed_goes : (devices : ℕ) (host : HostView) (s : Statement) (d : Directive) (placed : Placed) (owed : Owed) (list longer : List HostEntry) (st : Stands devices host list)
    → slice_get host.statements host.ended ≡ Some s → s.act ≡ act.Place d → st.behind ≡ [] → owed_by (with_ids host.ids d) placed ≡ owed → Gains (Gave (with_ids host.ids d) placed) list longer
    → Stands devices (host_after (Ok (owing owed)) host) longer
placed_goes devices host s d placed nothing_owed list longer st here is none owes gains =
    let e : HostEntry = Gave (with_ids host.ids d) placed in
    let settled : Settles (owed_by (with_ids host.ids d) placed) [] = subst (λ o. Settles o []) (sym owes) refl in
    ends_here devices host s (e ∷ []) (e ∷ []) list longer host.ids st here gains (alone_behind st.behind e none)
    (subst (λ a. Ends devices host.ids a (e ∷ [])) (sym is) (placed, [], refl, settled))
    (subst (λ a. host.ids ≡ ids_after a host.ids) (sym is) refl)
placed_goes devices host s d placed (owes_seen device counts) list longer st here is none owes gains =
    let e : HostEntry = Gave (with_ids host.ids d) placed in
    stays_here devices host (phase.Waits device counts) (e ∷ []) list longer st (first_entry st.past st.behind list longer e st.parts none gains)
    (subst (λ n. Owes host.ids n (owes_seen device counts) (e ∷ [])) (sym here)
    (subst (λ a. OwesFor host.ids a (owes_seen device counts) (e ∷ [])) (sym is) (placed, refl, owes)))
placed_goes devices host s d placed (owes_test device counts) list longer st here is none owes gains =
    let e : HostEntry = Gave (with_ids host.ids d) placed in
    stays_here devices host (phase.Asks device counts) (e ∷ []) list longer st (first_entry st.past st.behind list longer e st.parts none gains)
    (subst (λ n. Owes host.ids n (owes_test device counts) (e ∷ [])) (sym here)
    (subst (λ a. OwesFor host.ids a (owes_test device counts) (e ∷ [])) (sym is) (placed, refl, owes)))

-- refused where nothing stands behind
refused_ready : (devices : ℕ) (host : HostView) (s : Statement) (fault : Fault) (list longer : List HostEntry) (st : Stands devices host list)
    → slice_get host.statements host.ended ≡ Some s → st.behind ≡ [] → longer ≡ list → Stands devices (host_after (Err fault) host) longer
refused_ready devices host s fault list longer st here none same =
    stays_here devices host (phase.Refused fault) st.behind list longer st (same ∙ st.parts)
    (subst (λ n. Begins host.ids n st.behind) (sym here) (inl none))

-- a statement of one item was told
told_goes : (devices : ℕ) (host : HostView) (s : Statement) (what : Told) (list longer : List HostEntry) (st : Stands devices host list)
    → slice_get host.statements host.ended ≡ Some s → st.behind ≡ [] → Gains (Had what) list longer → Ends devices host.ids s.act (Had what ∷ []) → host.ids ≡ ids_after s.act host.ids
    → Stands devices (host_after (Ok go.Ended) host) longer
told_goes devices host s what list longer st here none gains ends same =
    ends_here devices host s (Had what ∷ []) (Had what ∷ []) list longer host.ids st here gains (alone_behind st.behind (Had what) none) ends same

-- a statement of the host's own
set_goes : (devices : ℕ) (host : HostView) (s : Statement) (ids : Ids) (list longer : List HostEntry) (st : Stands devices host list)
    → slice_get host.statements host.ended ≡ Some s → st.behind ≡ [] → longer ≡ list → Ends devices host.ids s.act [] → ids ≡ ids_after s.act host.ids
    → Stands devices (host_after (Ok (go.Set ids)) host) longer
set_goes devices host s ids list longer st here none same ends e =
    ends_here devices host s [] [] list longer ids st here (same ∙ sym (append-nil list)) (append-nil st.behind ∙ none) ends e

-- a host stands where it stood
same_goes : (devices : ℕ) (host : HostView) (list longer : List HostEntry) → Stands devices host list → longer ≡ list → Stands devices (host_after (Ok go.Idle) host) longer
same_goes devices host list longer st same = subst (λ r. Stands devices host r) (sym same) st

-- whatever a statement of the host's own finds
checked_goes : (found : Bool) (fault : Fault) (devices : ℕ) (host : HostView) (s : Statement) (ids : Ids) (goes : Result After Fault) (list longer : List HostEntry) (st : Stands devices host list)
    → slice_get host.statements host.ended ≡ Some s → st.behind ≡ [] → (found ≡ true → Ends devices host.ids s.act []) → ids ≡ ids_after s.act host.ids
    → Adds (set_or_refuse found fault ids) goes list longer → Stands devices (host_after goes host) longer
checked_goes true fault devices host s ids (Ok goes) list longer st here none ends e adds =
    subst (λ g. Stands devices (host_after (Ok g) host) longer) (sym adds.0) (set_goes devices host s ids list longer st here none adds.1 (ends refl) e)
checked_goes true fault devices host s ids (Err found) list longer st here none ends e adds = absurd adds
checked_goes false fault devices host s ids (Ok goes) list longer st here none ends e adds = absurd adds
checked_goes false fault devices host s ids (Err found) list longer st here none ends e adds =
    refused_ready devices host s found list longer st here none adds.1

-- the first step of a statement
acts_goes : (a : Act) (devices : ℕ) (host : HostView) (s : Statement) (goes : Result After Fault) (list longer : List HostEntry) (st : Stands devices host list)
    → slice_get host.statements host.ended ≡ Some s → s.act ≡ a → st.behind ≡ [] → Adds (wanted devices host.ids a) goes list longer
    → Stands devices (host_after goes host) longer
acts_goes (act.Place d) devices host s (Ok goes) list longer st here is none adds =
    subst (λ g. Stands devices (host_after (Ok g) host) longer) (sym adds.1)
    (placed_goes devices host s d adds.0 (owed_by (with_ids host.ids d) adds.0) list longer st here is none refl adds.2)
acts_goes (act.Place d) devices host s (Err fault) list longer st here is none adds = refused_ready devices host s fault list longer st here none adds
acts_goes (act.Write array cell value) devices host s (Ok goes) list longer st here is none adds =
    subst (λ g. Stands devices (host_after (Ok g) host) longer) (sym adds.0)
    (told_goes devices host s adds.1 list longer st here none adds.3
    (subst (λ a. Ends devices host.ids a (Had adds.1 ∷ [])) (sym is) (ap (λ w. Had w ∷ []) adds.2))
    (subst (λ a. host.ids ≡ ids_after a host.ids) (sym is) refl))
acts_goes (act.Write array cell value) devices host s (Err fault) list longer st here is none adds = refused_ready devices host s fault list longer st here none adds
acts_goes (act.Print range) devices host s (Ok goes) list longer st here is none adds =
    subst (λ g. Stands devices (host_after (Ok g) host) longer) (sym adds.0)
    (told_goes devices host s adds.1 list longer st here none adds.3
    (subst (λ a. Ends devices host.ids a (Had adds.1 ∷ [])) (sym is) (adds.2.0, ap (λ w. Had w ∷ []) adds.2.1))
    (subst (λ a. host.ids ≡ ids_after a host.ids) (sym is) refl))
acts_goes (act.Print range) devices host s (Err fault) list longer st here is none adds = refused_ready devices host s fault list longer st here none adds
acts_goes (act.SetDevice n) devices host s goes list longer st here is none adds =
    checked_goes (nat_lt n devices) BadDevice devices host s (ids_after (act.SetDevice n) host.ids) goes list longer st here none
    (λ (yes : nat_lt n devices ≡ true). subst (λ a. Ends devices host.ids a []) (sym is) (ltb-true n devices yes, refl))
    (subst (λ a. ids_after (act.SetDevice n) host.ids ≡ ids_after a host.ids) (sym is) refl) adds
acts_goes (act.SetAsync v) devices host s goes list longer st here is none adds =
    checked_goes (is_async v) BadAsync devices host s (ids_after (act.SetAsync v) host.ids) goes list longer st here none
    (λ (yes : is_async v ≡ true). subst (λ a. Ends devices host.ids a []) (sym is) (yes, refl))
    (subst (λ a. ids_after (act.SetAsync v) host.ids ≡ ids_after a host.ids) (sym is) refl) adds
acts_goes act.ShowDevice devices host s (Ok goes) list longer st here is none adds =
    subst (λ g. Stands devices (host_after (Ok g) host) longer) (sym adds.0)
    (set_goes devices host s host.ids list longer st here none adds.1
    (subst (λ a. Ends devices host.ids a []) (sym is) refl) (subst (λ a. host.ids ≡ ids_after a host.ids) (sym is) refl))
acts_goes act.ShowDevice devices host s (Err fault) list longer st here is none adds = absurd adds
acts_goes act.ShowDevices devices host s (Ok goes) list longer st here is none adds =
    subst (λ g. Stands devices (host_after (Ok g) host) longer) (sym adds.0)
    (set_goes devices host s host.ids list longer st here none adds.1
    (subst (λ a. Ends devices host.ids a []) (sym is) refl) (subst (λ a. host.ids ≡ ids_after a host.ids) (sym is) refl))
acts_goes act.ShowDevices devices host s (Err fault) list longer st here is none adds = absurd adds

-- an item is owed
owes_some : (o : Owed) (device : ℕ) (counts : List ℕ) → o ≡ owes_seen device counts → o ≡ nothing_owed → ⊥
owes_some o device counts e f = cc

asks_some : (o : Owed) (device : ℕ) (counts : List ℕ) → o ≡ owes_test device counts → o ≡ nothing_owed → ⊥
asks_some o device counts e f = cc

-- a statement whose second step is owed is begun
begun_owed : (ids : Ids) (a : Act) (owed : Owed) (behind : List HostEntry) → (owed ≡ nothing_owed → ⊥) → OwesFor ids a owed behind → Begun ids a behind
begun_owed ids (act.Place d) owed behind some h = (h.0, h.1, λ (e : owed_by (with_ids ids d) h.0 ≡ nothing_owed). some (sym h.2 ∙ e))
begun_owed ids (act.Write array cell value) owed behind some h = absurd h
begun_owed ids (act.Print range) owed behind some h = absurd h
begun_owed ids (act.SetDevice n) owed behind some h = absurd h
begun_owed ids (act.SetAsync v) owed behind some h = absurd h
begun_owed ids act.ShowDevice owed behind some h = absurd h
begun_owed ids act.ShowDevices owed behind some h = absurd h

-- its second step settles it
settles_owed : (devices : ℕ) (ids : Ids) (a : Act) (owed : Owed) (behind items : List HostEntry) → OwesFor ids a owed behind → Settles owed items → Ends devices ids a (behind ++ items)
settles_owed devices ids (act.Place d) owed behind items h settles =
    (h.0, items, ap (λ r. r ++ items) h.1, subst (λ o. Settles o items) (sym h.2) settles)
settles_owed devices ids (act.Write array cell value) owed behind items h settles = absurd h
settles_owed devices ids (act.Print range) owed behind items h settles = absurd h
settles_owed devices ids (act.SetDevice n) owed behind items h settles = absurd h
settles_owed devices ids (act.SetAsync v) owed behind items h settles = absurd h
settles_owed devices ids act.ShowDevice owed behind items h settles = absurd h
settles_owed devices ids act.ShowDevices owed behind items h settles = absurd h

-- and it leaves the ids
same_ids : (ids : Ids) (a : Act) (owed : Owed) (behind : List HostEntry) → OwesFor ids a owed behind → ids ≡ ids_after a ids
same_ids ids (act.Place d) owed behind h = refl
same_ids ids (act.Write array cell value) owed behind h = absurd h
same_ids ids (act.Print range) owed behind h = absurd h
same_ids ids (act.SetDevice n) owed behind h = absurd h
same_ids ids (act.SetAsync v) owed behind h = absurd h
same_ids ids act.ShowDevice owed behind h = absurd h
same_ids ids act.ShowDevices owed behind h = absurd h

owed_goes : (devices : ℕ) (host : HostView) (s : Statement) (owed : Owed) (item : HostEntry) (list longer : List HostEntry) (st : Stands devices host list)
    → slice_get host.statements host.ended ≡ Some s → OwesFor host.ids s.act owed st.behind → Settles owed (item ∷ []) → Gains item list longer
    → Stands devices (host_after (Ok go.Ended) host) longer
owed_goes devices host s owed item list longer st here owes settles gains =
    ends_here devices host s (item ∷ []) (st.behind ++ item ∷ []) list longer host.ids st here gains refl
    (settles_owed devices host.ids s.act owed st.behind (item ∷ []) owes settles)
    (same_ids host.ids s.act owed st.behind owes)

refused_owed : (devices : ℕ) (host : HostView) (s : Statement) (owed : Owed) (fault : Fault) (list longer : List HostEntry) (st : Stands devices host list)
    → slice_get host.statements host.ended ≡ Some s → (owed ≡ nothing_owed → ⊥) → OwesFor host.ids s.act owed st.behind → longer ≡ list
    → Stands devices (host_after (Err fault) host) longer
refused_owed devices host s owed fault list longer st here some owes same =
    stays_here devices host (phase.Refused fault) st.behind list longer st (same ∙ st.parts)
    (subst (λ n. Begins host.ids n st.behind) (sym here) (inr (begun_owed host.ids s.act owed st.behind some owes)))

-- one step, by the phase and the next statement
steps_from : (p : Phase) (next : Option Statement) (devices : ℕ) (host : HostView) (goes : Result After Fault) (list longer : List HostEntry) (st : Stands devices host list)
    → slice_get host.statements host.ended ≡ next → Behind host.ids p next st.behind → Adds (wants_at devices host.ids p next) goes list longer
    → Stands devices (host_after goes host) longer
steps_from p None devices host (Ok goes) list longer st here behind adds =
    subst (λ g. Stands devices (host_after (Ok g) host) longer) (sym adds.0) (same_goes devices host list longer st adds.1)
steps_from p None devices host (Err fault) list longer st here behind adds = absurd adds
steps_from phase.Ready (Some s) devices host goes list longer st here behind adds =
    acts_goes s.act devices host s goes list longer st here refl behind adds
steps_from (phase.Waits device counts) (Some s) devices host (Ok goes) list longer st here behind (inl adds) =
    subst (λ g. Stands devices (host_after (Ok g) host) longer) (sym adds.0) (same_goes devices host list longer st adds.1)
steps_from (phase.Waits device counts) (Some s) devices host (Ok goes) list longer st here behind (inr adds) =
    subst (λ g. Stands devices (host_after (Ok g) host) longer) (sym adds.0)
    (owed_goes devices host s (owes_seen device counts) (Had (told.Seen device counts)) list longer st here behind refl adds.1)
steps_from (phase.Waits device counts) (Some s) devices host (Err fault) list longer st here behind adds =
    refused_owed devices host s (owes_seen device counts) fault list longer st here (owes_some (owes_seen device counts) device counts refl) behind adds
steps_from (phase.Asks device counts) (Some s) devices host (Ok goes) list longer st here behind adds =
    subst (λ g. Stands devices (host_after (Ok g) host) longer) (sym adds.0)
    (owed_goes devices host s (owes_test device counts) (Had adds.1) list longer st here behind (adds.2.0, ap (λ w. Had w ∷ []) adds.2.1) adds.3)
steps_from (phase.Asks device counts) (Some s) devices host (Err fault) list longer st here behind adds =
    refused_owed devices host s (owes_test device counts) fault list longer st here (asks_some (owes_test device counts) device counts refl) behind adds
steps_from (phase.Refused fault) (Some s) devices host (Ok goes) list longer st here behind adds =
    subst (λ g. Stands devices (host_after (Ok g) host) longer) (sym adds.0) (same_goes devices host list longer st adds.1)
steps_from (phase.Refused fault) (Some s) devices host (Err found) list longer st here behind adds = absurd adds

-- One step keeps the list behind the program.
pub stands_on : (devices : ℕ) (host : HostView) (goes : Result After Fault) (list longer : List HostEntry)
    → Adds (wants devices host) goes list longer → Stands devices host list → Stands devices (host_after goes host) longer
stands_on devices host goes list longer adds st =
    steps_from host.phase (slice_get host.statements host.ended) devices host goes list longer st refl st.next adds

-- and so for a step over any engine
pub Steps-stands : {S : Type 0} (makes : S → ℕ → Call → S → Type 0) (entries : S → ℕ → List HostEntry) (devices : ℕ) (old : S) (host : HostView) (answer : Reply) (new : S) (after : HostView)
    → Steps makes entries devices old host answer new after → Stands devices host (entries old host.host) → Stands devices after (entries new after.host)
Steps-stands makes entries devices old host answer new after s st =
    subst (λ (h : HostView). Stands devices h (entries new h.host)) (sym s.host_is)
    (stands_on devices host s.goes (entries old host.host) (entries new host.host) s.adds st)

-- no more statements have ended than there are
pub ended_within : (devices : ℕ) (ids : Ids) (ended : ℕ) (statements : List Statement) (list : List HostEntry) → Ended devices ids ended statements list → ended ≤ length statements
ended_within devices ids zero statements list h = omega arith
ended_within devices ids (suc ended) [] list h = absurd h
ended_within devices ids (suc ended) (s ∷ statements) list h =
    let ih = ended_within devices (ids_after s.act ids) ended statements h.1 h.4 in
    omega (arith, ih)

-- what is owed is begun
begins_owed : (ids : Ids) (next : Option Statement) (owed : Owed) (behind : List HostEntry) → (owed ≡ nothing_owed → ⊥) → Owes ids next owed behind → Begins ids next behind
begins_owed ids None owed behind some h = absurd h
begins_owed ids (Some s) owed behind some h = inr (begun_owed ids s.act owed behind some h)

begins_ready : (ids : Ids) (statements : List Statement) (ended : ℕ) (behind : List HostEntry) → ended < length statements → behind ≡ [] → Begins ids (slice_get statements ended) behind
begins_ready ids [] ended behind h none = absurd (omega (arith, h))
begins_ready ids (s ∷ statements) zero behind h none = inl none
begins_ready ids (s ∷ statements) (suc ended) behind h none = begins_ready ids statements ended behind (omega (arith, h)) none

comes_from : (devices : ℕ) (host : HostView) (list : List HostEntry) (st : Stands devices host list) → Begins host.ids (slice_get host.statements host.ended) st.behind → Comes devices host.statements host.ended list
comes_from devices host list st begins =
    record {
      past = st.past;
      behind = st.behind;
      parts = st.parts;
      ends = st.ends;
      begins = subst (λ i. Begins i (slice_get host.statements host.ended) st.behind) st.ids begins;
    }

has_line : (ids : Ids) (next : Option Statement) (behind : List HostEntry) → Begins ids next behind → HasLine next (line_of next)
has_line ids None behind h = absurd h
has_line ids (Some s) behind h = refl

follows_ready : (b : Bool) (devices : ℕ) (host : HostView) (list : List HostEntry) (st : Stands devices host list) → nat_le (length host.statements) host.ended ≡ b → st.behind ≡ []
    → Follows devices host.statements (if b then state.Finished else state.Running host.ended) list
follows_ready true devices host list st e none =
    let within = ended_within devices first_ids host.ended host.statements st.past st.ends in
    let past = leb-true (length host.statements) host.ended e in
    let all : host.ended ≡ length host.statements = omega (arith, within, past) in
    let whole : list ≡ st.past = st.parts ∙ (ap (λ r. st.past ++ r) none ∙ append-nil st.past) in
    subst (λ r. Ended devices first_ids (length host.statements) host.statements r) (sym whole)
    (subst (λ n. Ended devices first_ids n host.statements st.past) all st.ends)
follows_ready false devices host list st e none =
    let below : host.ended < length host.statements = leb-false (length host.statements) host.ended e in
    comes_from devices host list st (begins_ready host.ids host.statements host.ended st.behind below none)

follows_in : (p : Phase) (devices : ℕ) (host : HostView) (list : List HostEntry) (st : Stands devices host list) → Behind host.ids p (slice_get host.statements host.ended) st.behind
    → Follows devices host.statements (state_in host p) list
follows_in phase.Ready devices host list st behind = follows_ready (nat_le (length host.statements) host.ended) devices host list st refl behind
follows_in (phase.Waits device counts) devices host list st behind =
    comes_from devices host list st (begins_owed host.ids (slice_get host.statements host.ended) (owes_seen device counts) st.behind (owes_some (owes_seen device counts) device counts refl) behind)
follows_in (phase.Asks device counts) devices host list st behind =
    comes_from devices host list st (begins_owed host.ids (slice_get host.statements host.ended) (owes_test device counts) st.behind (asks_some (owes_test device counts) device counts refl) behind)
follows_in (phase.Refused fault) devices host list st behind =
    (comes_from devices host list st behind, has_line host.ids (slice_get host.statements host.ended) st.behind behind)

-- Where a host stands in its program, its list follows it.
pub Stands-follow : (devices : ℕ) (host : HostView) (list : List HostEntry) → Stands devices host list → Follows devices host.statements (state_of host) list
Stands-follow devices host list st = follows_in host.phase devices host list st st.next

-- before the first step
pub ready_stands : (devices : ℕ) (program : HostProgram) → Stands devices (ready program) []
ready_stands devices program = record { past = []; behind = []; parts = refl; ends = refl; ids = refl; next = refl }

-- what stands behind, by the phase, is nothing or the next statement begun
begins_in : (p : Phase) (ids : Ids) (statements : List Statement) (ended : ℕ) (behind : List HostEntry) → ended < length statements → Behind ids p (slice_get statements ended) behind → Begins ids (slice_get statements ended) behind
begins_in phase.Ready ids statements ended behind below h = begins_ready ids statements ended behind below h
begins_in (phase.Waits device counts) ids statements ended behind below h = begins_owed ids (slice_get statements ended) (owes_seen device counts) behind (owes_some (owes_seen device counts) device counts refl) h
begins_in (phase.Asks device counts) ids statements ended behind below h = begins_owed ids (slice_get statements ended) (owes_test device counts) behind (asks_some (owes_test device counts) device counts refl) h
begins_in (phase.Refused fault) ids statements ended behind below h = h

refused_running : (b : Bool) (devices : ℕ) (host : HostView) (list : List HostEntry) (fault : Fault) → nat_le (length host.statements) host.ended ≡ b → (st : Stands devices host list)
    → (host.ended < length host.statements → Begins host.ids (slice_get host.statements host.ended) st.behind)
    → Stands devices (refused_at (if b then state.Finished else state.Running host.ended) fault host) list
refused_running true devices host list fault e st begins = st
refused_running false devices host list fault e st begins =
    stays_here devices host (phase.Refused fault) st.behind list list st st.parts (begins (leb-false (length host.statements) host.ended e))

refused_in : (p : Phase) (devices : ℕ) (host : HostView) (list : List HostEntry) (fault : Fault) → host.phase ≡ p → Stands devices host list → Stands devices (refused_at (state_in host p) fault host) list
refused_in phase.Ready devices host list fault is st =
    refused_running (nat_le (length host.statements) host.ended) devices host list fault refl st
    (λ (below : host.ended < length host.statements). begins_in phase.Ready host.ids host.statements host.ended st.behind below (subst (λ p. Behind host.ids p (slice_get host.statements host.ended) st.behind) is st.next))
refused_in (phase.Waits device counts) devices host list fault is st =
    let next : Owes host.ids (slice_get host.statements host.ended) (owes_seen device counts) st.behind = subst (λ p. Behind host.ids p (slice_get host.statements host.ended) st.behind) is st.next in
    stays_here devices host (phase.Refused fault) st.behind list list st st.parts
    (begins_owed host.ids (slice_get host.statements host.ended) (owes_seen device counts) st.behind (owes_some (owes_seen device counts) device counts refl) next)
refused_in (phase.Asks device counts) devices host list fault is st =
    let next : Owes host.ids (slice_get host.statements host.ended) (owes_test device counts) st.behind = subst (λ p. Behind host.ids p (slice_get host.statements host.ended) st.behind) is st.next in
    stays_here devices host (phase.Refused fault) st.behind list list st st.parts
    (begins_owed host.ids (slice_get host.statements host.ended) (owes_test device counts) st.behind (asks_some (owes_test device counts) device counts refl) next)
refused_in (phase.Refused was) devices host list fault is st = st

-- A host that is refused from outside stands at its next statement.
pub refused_stands : (devices : ℕ) (host : HostView) (list : List HostEntry) (fault : Fault) → Stands devices host list → Stands devices (refused_at (state_of host) fault host) list
refused_stands devices host list fault st = refused_in host.phase devices host list fault refl st
