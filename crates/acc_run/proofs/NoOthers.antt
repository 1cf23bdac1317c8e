-- Histories without entries of other hosts than the first ones.
use Rattle.std.proofs.Common.{inl, inr, ◌≡◌, ℕ, ◌<◌, ◌≤◌, Bool, true, false, List, [], ◌∷◌, ◌++◌, drop, reverse, refl, sym, ap, subst, ◌∙◌, arith}
use Rattle.std.specs.Prelude.{All, ◌==◌, slice_index_or}
use Rattle.std.proofs.lemmas.Bool.{cases_lt, eq-eqb, ne_eqb}
use Rattle.std.proofs.lemmas.List.{reverse-reverse}
use Rattle.std.proofs.lemmas.List.Elements.{All-cons, All-head, All-nil, All-tail}
use Rattle.acc_base.specs.Configurations.{Configuration}
use Rattle.acc_host.specs.Engines.{Had}
use Rattle.acc_host.specs.Entries.{items_shown, own_after, own_of}
use Rattle.acc_place.specs.Histories.{standing}
use Rattle.acc_place.specs.Plans.{PlaceView}
use Rattle.acc_place.specs.declared.directive.PlaceEntry.{PlaceEntry}
use Rattle.acc_place.specs.declared.directive.PlaceEntry.TheVariants as noted
use Rattle.acc_place.proofs.AnswersKept.{All-reversed}
use Rattle.acc_work.specs.Logs.{one_more}
use Rattle.acc_batch.specs.declared.entry.WorkEntry.{WorkEntry}
use Rattle.acc_batch.specs.declared.entry.WorkEntry.TheVariants as entry
use Rattle.acc_run.specs.Agreement.{HasNoOthers, histories_by}
use Rattle.acc_run.specs.inner.Reading.{IsPlacedBelow, IsShownBelow}

other : (h host hosts : ℕ) → hosts ≤ host → h < hosts → (h == host) ≡ false
other h host hosts past below = ne_eqb h host (λ (e : h ≡ host). absurd (omega (arith, e, below, past)))

-- one more is one
more_first : {X : Type 0} (b : Bool) (xs : List X) (x : X) → one_more b xs x ≡ [] → xs ≡ []
more_first true [] x e = cc
more_first true (y ∷ xs) x e = cc
more_first false xs x e = e

more_none : {X : Type 0} (xs : List X) (x : X) → xs ++ x ∷ [] ≡ [] → ⊥
more_none [] x e = cc
more_none (y ∷ xs) x e = cc

-- an entry of a host that has none is one of another
below_by : {X : Type 0} (h hosts : ℕ) (xs : List X) (x : X) → (hosts ≤ h → one_more (h == h) xs x ≡ []) → h < hosts
below_by h hosts xs x none = elim (cases_lt h hosts) [
  | inl below ↦ below
  | inr past ↦ absurd (more_none xs x (ap (λ b. one_more b xs x) (sym (eq-eqb h h refl)) ∙ none past))
]

-- ## Directives

placed_none : (config : Configuration) (host hosts : ℕ) (history : List PlaceEntry) (counts : List ℕ) → hosts ≤ host → All (IsPlacedBelow hosts) history → own_of config host history counts ≡ []
placed_none config host hosts [] counts past all = refl
placed_none config host hosts (noted.Accepted h d ∷ before) counts past all =
    let P = IsPlacedBelow hosts in
    rw (other h host hosts past (All-head P (noted.Accepted h d) before all)) (placed_none config host hosts before (drop 1 counts) past (All-tail P (noted.Accepted h d) before all))
placed_none config host hosts (noted.Closing ∷ before) counts past all = placed_none config host hosts before counts past (All-tail (IsPlacedBelow hosts) noted.Closing before all)
placed_none config host hosts (noted.Closed at ∷ before) counts past all = placed_none config host hosts before counts past (All-tail (IsPlacedBelow hosts) (noted.Closed at) before all)

placed_below : (config : Configuration) (hosts : ℕ) (history : List PlaceEntry) (counts : List ℕ) → ((host : ℕ) → hosts ≤ host → own_of config host history counts ≡ []) → All (IsPlacedBelow hosts) history
placed_below config hosts [] counts none = All-nil (IsPlacedBelow hosts)
placed_below config hosts (noted.Accepted h d ∷ before) counts none =
    let o = own_after (standing config before (drop 1 counts)) h (slice_index_or counts 0 0) d in
    All-cons (IsPlacedBelow hosts) (noted.Accepted h d) before (below_by h hosts (own_of config h before (drop 1 counts)) o (none h))
    (placed_below config hosts before (drop 1 counts) (λ host past. more_first (h == host) (own_of config host before (drop 1 counts)) o (none host past)))
placed_below config hosts (noted.Closing ∷ before) counts none = All-cons (IsPlacedBelow hosts) noted.Closing before tt (placed_below config hosts before counts none)
placed_below config hosts (noted.Closed at ∷ before) counts none = All-cons (IsPlacedBelow hosts) (noted.Closed at) before tt (placed_below config hosts before counts none)

-- ## Items

shown_none : (host hosts : ℕ) (work : List WorkEntry) → hosts ≤ host → All (IsShownBelow hosts) work → items_shown host work ≡ []
shown_none host hosts [] past all = refl
shown_none host hosts (entry.Op at op ∷ before) past all = shown_none host hosts before past (All-tail (IsShownBelow hosts) (entry.Op at op) before all)
shown_none host hosts (entry.Item h what ∷ before) past all =
    let P = IsShownBelow hosts in
    rw (other h host hosts past (All-head P (entry.Item h what) before all)) (shown_none host hosts before past (All-tail P (entry.Item h what) before all))

shown_below : (hosts : ℕ) (work : List WorkEntry) → ((host : ℕ) → hosts ≤ host → items_shown host work ≡ []) → All (IsShownBelow hosts) work
shown_below hosts [] none = All-nil (IsShownBelow hosts)
shown_below hosts (entry.Op at op ∷ before) none = All-cons (IsShownBelow hosts) (entry.Op at op) before tt (shown_below hosts before none)
shown_below hosts (entry.Item h what ∷ before) none =
    All-cons (IsShownBelow hosts) (entry.Item h what) before (below_by h hosts (items_shown h before) (Had what) (none h))
    (shown_below hosts before (λ host past. more_first (h == host) (items_shown host before) (Had what) (none host past)))

-- ## Both, from the first entry on

pub no_others : (p : PlaceView) (works : List WorkEntry) (hosts : ℕ) → All (IsPlacedBelow hosts) (reverse p.history) → All (IsShownBelow hosts) works → HasNoOthers (histories_by p works) hosts
no_others p works hosts placed shown = λ host past. (
  placed_none p.config host hosts p.history p.counts past (subst (All (IsPlacedBelow hosts)) (reverse-reverse p.history) (All-reversed (IsPlacedBelow hosts) (reverse p.history) placed)),
  shown_none host hosts (reverse works) past (All-reversed (IsShownBelow hosts) works shown),
)

pub all_below : (p : PlaceView) (works : List WorkEntry) (hosts : ℕ) → HasNoOthers (histories_by p works) hosts → All (IsPlacedBelow hosts) (reverse p.history) × All (IsShownBelow hosts) works
all_below p works hosts none = (
  All-reversed (IsPlacedBelow hosts) p.history (placed_below p.config hosts p.history p.counts (λ host past. (none host past).0)),
  subst (All (IsShownBelow hosts)) (reverse-reverse works) (All-reversed (IsShownBelow hosts) (reverse works) (shown_below hosts (reverse works) (λ host past. (none host past).1))),
)
