-- A list that follows a program without the ids of its directives follows the program.
use Rattle.std.proofs.Common.{◌≡◌, inl, inr, ℕ, zero, suc, List, [], ◌∷◌, length, map, refl, ap, ◌∙◌, subst, Option, Some, None}
use Rattle.std.specs.Prelude.{slice_get}
use Rattle.std.specs.Option.{option_map}
use Rattle.std.proofs.lemmas.List.{length-map}
use Rattle.std.proofs.lemmas.Option.{slice_get-map}
use Rattle.acc_host.specs.declared.program.Act.{Act}
use Rattle.acc_host.specs.declared.program.Act.TheVariants as act
use Rattle.acc_host.specs.Engines.{HostEntry}
use Rattle.acc_host.specs.declared.state.HostState.{HostState}
use Rattle.acc_host.specs.declared.state.HostState.TheVariants as state
use Rattle.acc_host.specs.declared.state.Ids.{Ids}
use Rattle.acc_host.specs.declared.program.Statement.{Statement}
use Rattle.acc_host.specs.Following.{Ends, Ended, ids_behind, Begun, Begins, Comes, HasLine, Follows}
use Rattle.acc_host.specs.Hosts.{bare_act, bare}
use Rattle.acc_host.specs.Steps.{first_ids, ids_after}

ends_bare : (devices : ℕ) (ids : Ids) (a : Act) (list : List HostEntry) → Ends devices ids (bare_act a) list → Ends devices ids a list
ends_bare devices ids (act.Place d) list h = h
ends_bare devices ids (act.Write array cell value) list h = h
ends_bare devices ids (act.Print range) list h = h
ends_bare devices ids (act.SetDevice n) list h = h
ends_bare devices ids (act.SetAsync v) list h = h
ends_bare devices ids act.ShowDevice list h = h
ends_bare devices ids act.ShowDevices list h = h

ids_bare : (ids : Ids) (a : Act) → ids_after (bare_act a) ids ≡ ids_after a ids
ids_bare ids (act.Place d) = refl
ids_bare ids (act.Write array cell value) = refl
ids_bare ids (act.Print range) = refl
ids_bare ids (act.SetDevice n) = refl
ids_bare ids (act.SetAsync v) = refl
ids_bare ids act.ShowDevice = refl
ids_bare ids act.ShowDevices = refl

ended_bare : (devices : ℕ) (ids : Ids) (ended : ℕ) (statements : List Statement) (list : List HostEntry) → Ended devices ids ended (map bare statements) list → Ended devices ids ended statements list
ended_bare devices ids zero statements list h = h
ended_bare devices ids (suc ended) [] list h = absurd h
ended_bare devices ids (suc ended) (s ∷ statements) list h = (
  h.0,
  h.1,
  h.2,
  ends_bare devices ids s.act h.0 h.3,
  ended_bare devices (ids_after s.act ids) ended statements h.1
      (subst (λ i. Ended devices i ended (map bare statements) h.1) (ids_bare ids s.act) h.4),
)

behind_bare : (ids : Ids) (ended : ℕ) (statements : List Statement) → ids_behind ids ended (map bare statements) ≡ ids_behind ids ended statements
behind_bare ids zero statements = refl
behind_bare ids (suc ended) [] = refl
behind_bare ids (suc ended) (s ∷ statements) =
    ap (λ i. ids_behind i ended (map bare statements)) (ids_bare ids s.act) ∙ behind_bare (ids_after s.act ids) ended statements

begun_bare : (ids : Ids) (a : Act) (list : List HostEntry) → Begun ids (bare_act a) list → Begun ids a list
begun_bare ids (act.Place d) list h = h
begun_bare ids (act.Write array cell value) list h = h
begun_bare ids (act.Print range) list h = h
begun_bare ids (act.SetDevice n) list h = h
begun_bare ids (act.SetAsync v) list h = h
begun_bare ids act.ShowDevice list h = h
begun_bare ids act.ShowDevices list h = h

begins_bare : (ids : Ids) (next : Option Statement) (list : List HostEntry) → Begins ids (option_map bare next) list → Begins ids next list
begins_bare ids None list h = h
begins_bare ids (Some s) list (inl h) = inl h
begins_bare ids (Some s) list (inr h) = inr (begun_bare ids s.act list h)

comes_bare : (devices : ℕ) (statements : List Statement) (ended : ℕ) (list : List HostEntry) → Comes devices (map bare statements) ended list → Comes devices statements ended list
comes_bare devices statements ended list h = record {
  past = h.past;
  behind = h.behind;
  parts = h.parts;
  ends = ended_bare devices first_ids ended statements h.past h.ends;
  begins = begins_bare (ids_behind first_ids ended statements) (slice_get statements ended) h.behind
      (subst (λ n. Begins (ids_behind first_ids ended statements) n h.behind) (slice_get-map bare statements ended)
      (subst (λ i. Begins i (slice_get (map bare statements) ended) h.behind) (behind_bare first_ids ended statements) h.begins));
}

line_bare : (next : Option Statement) (line : ℕ) → HasLine (option_map bare next) line → HasLine next line
line_bare None line h = h
line_bare (Some s) line h = h

-- Whatever ids its directives have.
pub follows_bare : (devices : ℕ) (statements : List Statement) (at : HostState) (list : List HostEntry) → Follows devices (map bare statements) at list → Follows devices statements at list
follows_bare devices statements state.Finished list h =
    ended_bare devices first_ids (length statements) statements list
    (subst (λ n. Ended devices first_ids n (map bare statements) list) (length-map statements bare) h)
follows_bare devices statements (state.Running ended) list h = comes_bare devices statements ended list h
follows_bare devices statements (state.Refused ended line fault) list h = (
  comes_bare devices statements ended list h.0,
  line_bare (slice_get statements ended) line (subst (λ n. HasLine n line) (slice_get-map bare statements ended) h.1),
)
