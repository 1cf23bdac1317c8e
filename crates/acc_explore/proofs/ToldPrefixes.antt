-- Prefixes are told one after another: the events to each end and to each leaf that a search has found, and none is missed.
use Rattle.std.proofs.Common.{inl, inr, ◌≡◌, ◌⊎◌, ◌≤◌, ◌<◌, ◌+◌, ℕ, Bool, List, [], ◌∷◌, ◌++◌, length, map, take, get_or, refl, sym, ap, subst, ◌∙◌, arith}
use Rattle.std.specs.Prelude.{All, Contains, IsTrue}
use Rattle.std.proofs.lemmas.Bool.{cases_eq, cases_lt}
use Rattle.std.proofs.lemmas.List.{append_assoc, append-nil, length-map, length-take, map-append, take_more}
use Rattle.std.proofs.lemmas.List.Elements.{All-contains, All-map, All-push, All-take, All-weaker, Contains-append_left, Contains-push}
use Rattle.acc_base.proofs.Members.{member_image}
use Rattle.acc_core.specs.Legality.{IsLegalState}
use Rattle.acc_core.specs.Machine.{State}
use Rattle.acc_host.specs.declared.event.Event.{Event}
use Rattle.acc_explore.specs.Arrivals.{events_to, found_at, found_by}
use Rattle.acc_explore.specs.Cuts.{GoesOnToEnd}
use Rattle.acc_explore.specs.declared.arrival.Arrival.{Arrival}
use Rattle.acc_explore.specs.Endings.{Setting}
use Rattle.acc_explore.specs.Explorations.{Found, IsEnd}
use Rattle.acc_explore.specs.Prefixes.{ArePrefixes, GoesOnToReport, IsLongEnough, TogetherMissNone, prefix_text, prefixes_text}
use Rattle.acc_explore.specs.Runs.{MayCome, after, open_events, report_of}
use Rattle.acc_explore.specs.Searches.{IsSearch, leaves_of}
use Rattle.acc_explore.specs.inner.Leaves.{HaveLeaves}
use Rattle.acc_explore.proofs.AlikeReports.{report_same}
use Rattle.acc_explore.proofs.ArrivalPaths.{events_lead, numbered}
use Rattle.acc_explore.proofs.Explored.{all_legal, legal_after}
use Rattle.acc_explore.proofs.Reduced.{cut_misses_none}
use Rattle.acc_explore.proofs.ToldEndings.{path_of}

-- ## The numbers of leaves

abbrev OldOrLeaf : ℕ → ℕ → List ℕ → ℕ → Type 0
OldOrLeaf first states old n = Contains old n ⊎ ((first ≤ n) × (n < states))

-- one more of them
pub one_leaf : (first next : ℕ) (old now new : List ℕ) → new ≡ now ++ next ∷ [] → first ≤ next → HaveLeaves first next old now → HaveLeaves first (next + 1) old new
one_leaf first next old now new is low h = subst (HaveLeaves first (next + 1) old) (sym is) (record {
  kept = λ n listed. Contains-append_left now (next ∷ []) n (h.kept n listed);
  leaves = λ n behind below. elim (cases_eq n next) [
    | inl same ↦ subst (Contains (now ++ next ∷ [])) (sym same) (Contains-push now next)
    | inr other ↦ Contains-append_left now (next ∷ []) n (h.leaves n behind (omega (arith, below, other)))
  ];
  each = All-push (OldOrLeaf first (next + 1) old) now next
      (All-weaker (OldOrLeaf first next old) (OldOrLeaf first (next + 1) old) (λ n either. elim either [
        | inl listed ↦ inl listed
        | inr leaf ↦ inr (leaf.0, omega (arith, leaf.1))
      ]) now h.each)
      (inr (low, omega arith));
})

-- ## Texts

text_more : (schedule : List ℕ) (n : ℕ) (prefixes more : List (List Event))
    → prefixes_text schedule n (prefixes ++ more) ≡ prefixes_text schedule n prefixes ++ prefixes_text schedule (n + length prefixes) more
text_more schedule n [] more = let same : n + 0 ≡ n = omega arith in rw same refl
text_more schedule n (p ∷ prefixes) more =
    let same : n + 1 + length prefixes ≡ n + length (p ∷ prefixes) = omega arith in
    ap (λ t. prefix_text schedule n p ++ t) (rw same at (text_more schedule (n + 1) prefixes more))
    ∙ sym (append_assoc (prefix_text schedule n p) (prefixes_text schedule (n + 1) prefixes) (prefixes_text schedule (n + length (p ∷ prefixes)) more))

-- one more number
pub one_more : (schedule : List ℕ) (arrivals : List Arrival) (numbers : List ℕ) (i n : ℕ) → i < length numbers → get_or numbers i 0 ≡ n
    → prefixes_text schedule 1 (map (events_to arrivals) (take (i + 1) numbers))
    ≡ prefixes_text schedule 1 (map (events_to arrivals) (take i numbers)) ++ prefix_text schedule (i + 1) (events_to arrivals n)
one_more schedule arrivals numbers i n low is =
    let at = events_to arrivals in
    let more : take (i + 1) numbers ≡ take i numbers ++ n ∷ [] = take_more numbers i 0 low ∙ ap (λ k. take i numbers ++ k ∷ []) is in
    let count : 1 + length (map at (take i numbers)) ≡ i + 1 = omega (arith, length-map (take i numbers) at, length-take i numbers, low) in
    ap (λ ns. prefixes_text schedule 1 (map at ns)) more
    ∙ ap (prefixes_text schedule 1) (map-append at (take i numbers) (n ∷ []))
    ∙ text_more schedule 1 (map at (take i numbers)) (at n ∷ [])
    ∙ ap (λ t. prefixes_text schedule 1 (map at (take i numbers)) ++ t) (append-nil (prefix_text schedule (1 + length (map at (take i numbers))) (at n)) ∙ ap (λ k. prefix_text schedule k (at n)) count)

-- ## None is missed

module _ (x : Setting) (most deepest : ℕ) (arrivals : List Arrival) (ends : List ℕ) (followed : ℕ) (whole : Bool) (s : IsSearch x.closing most deepest x.start arrivals ends followed whole)
    (numbers : List ℕ) (h : HaveLeaves followed (length arrivals + 1) ends numbers) where
  abbrev prefixes : List (List Event)
  prefixes = map (events_to arrivals) numbers

  abbrev state_at : ℕ → State
  state_at n = (found_at x.start arrivals n).state

  abbrev IsFoundEnd : ℕ → Type 0
  IsFoundEnd n = (n ≤ length arrivals) × IsEnd (state_at n)

  abbrev IsEndOrLeaf : ℕ → Type 0
  IsEndOrLeaf n = OldOrLeaf followed (length arrivals + 1) ends n

  pub there : All (λ (n : ℕ). n ≤ length arrivals) numbers
  there = All-weaker IsEndOrLeaf (λ (n : ℕ). n ≤ length arrivals) (λ n either. elim either [
    | inl end ↦ (All-contains IsFoundEnd ends n s.ends end).0
    | inr leaf ↦ omega (arith, leaf.1)
  ]) numbers h.each

  abbrev Listed : List Event → Type 0
  Listed events = All (λ (e : Event). Contains (open_events x.closing x.start) e) events

  -- all of them, or the first ones
  pub are_listed : (some : List ℕ) → All (λ (n : ℕ). n ≤ length arrivals) some → All Listed (map (events_to arrivals) some)
  are_listed some low =
      All-map Listed (events_to arrivals) some
      (All-weaker (λ (n : ℕ). n ≤ length arrivals) (λ (n : ℕ). Listed (events_to arrivals n)) (λ n within. path_of (λ (e : Event). Contains (open_events x.closing x.start) e) arrivals n s.events) some low)

  are_short : All (λ (events : List Event). length events ≤ deepest) prefixes
  are_short =
      All-map (λ (events : List Event). length events ≤ deepest) (events_to arrivals) numbers
      (All-weaker (λ (n : ℕ). n ≤ length arrivals) (λ (n : ℕ). length (events_to arrivals n) ≤ deepest) (λ n within. omega (arith, s.shallow n within, (events_lead x.start arrivals n).1)) numbers there)

  are_long : IsTrue whole → All (IsLongEnough x deepest) prefixes
  are_long all =
      All-map (IsLongEnough x deepest) (events_to arrivals) numbers
      (All-weaker IsEndOrLeaf (λ (n : ℕ). IsLongEnough x deepest (events_to arrivals n)) (λ n either. elim either [
        | inl end ↦ inl (subst IsEnd (sym (events_lead x.start arrivals n).0) (All-contains IsFoundEnd ends n s.ends end).1)
        | inr leaf ↦ inr (omega (arith, s.deep all n leaf.0 (omega (arith, leaf.1)), (events_lead x.start arrivals n).1))
      ]) numbers h.each)

  -- an end, or a leaf
  told : (n : ℕ) → n ≤ length arrivals → IsEnd (state_at n) ⊎ (followed ≤ n) → Contains numbers n
  told n low either = elim (cases_lt n followed) [
    | inl below ↦ (
        elim either [
          | inl end ↦ h.kept n (s.every_end n below end)
          | inr leaf ↦ absurd (omega (arith, below, leaf))
        ]
        )
    | inr behind ↦ h.leaves n (omega (arith, behind)) (omega (arith, low))
  ]

  module _ (legal : IsLegalState x.start) (events : List Event) (may : All (MayCome x.closing) events) (end : IsEnd (after x.start events)) where
    abbrev Goes : Type 0
    Goes = GoesOnToEnd x.closing (leaves_of x.start arrivals followed) (length events) (found_by x.start arrivals) (after x.start events)

    goes : Goes
    goes = cut_misses_none x.closing (leaves_of x.start arrivals followed) x.start (found_by x.start arrivals) legal s.cut events may end

    goes_on : (n : ℕ) → Contains numbers n → found_at x.start arrivals n ≡ goes.one
        → GoesOnToReport x (length events) prefixes (report_of x.names x.programs (after x.start events))
    goes_on n listed is =
        let g = goes in
        let lead = events_lead x.start arrivals n in
        let here : after x.start (events_to arrivals n) ≡ g.one.state = lead.0 ∙ ap (λ (f : Found). f.state) is in
        let deep : (found_at x.start arrivals n).depth ≡ g.one.depth = ap (λ (f : Found). f.depth) is in
        let l = all_legal x.closing x.start (found_by x.start arrivals) legal s.cut.reached g.one g.listed in
        record {
          one = events_to arrivals n;
          listed = member_image (events_to arrivals) numbers n listed;
          rest = g.rest;
          may = g.may;
          soon = omega (arith, g.soon, deep, lead.1);
          ends = subst (λ (w : State). IsEnd (after w g.rest)) (sym here) g.ends;
          report_is = ap (λ (w : State). report_of x.names x.programs (after w g.rest)) here
              ∙ report_same x.names x.programs (after g.one.state g.rest) (after x.start events) (legal_after g.rest g.one.state l) (legal_after events x.start legal) g.alike;
        }

    pub none_missed : GoesOnToReport x (length events) prefixes (report_of x.names x.programs (after x.start events))
    none_missed = elim goes.leaf [
      | inl none ↦ (
          let k = numbered x.start arrivals 0 goes.one goes.listed in
          let ends_there : IsEnd goes.one.state = subst (λ (rest : List Event). IsEnd (after goes.one.state rest)) none goes.ends in
          goes_on k.n (told k.n k.low (inl (subst (λ (f : Found). IsEnd f.state) (sym k.is) ends_there))) k.is
          )
      | inr leaf ↦ (let k = numbered x.start arrivals followed goes.one leaf in goes_on k.n (told k.n k.low (inr k.behind)) k.is)
    ]

  pub are_prefixes : IsLegalState x.start → ArePrefixes x deepest prefixes whole
  are_prefixes legal = record {
    events = are_listed numbers there;
    short = are_short;
    long = are_long;
    none_missed = λ events may end. none_missed legal events may end;
  }

  -- the first of them are some
  pub first_listed : (k : ℕ) → All Listed (map (events_to arrivals) (take k numbers))
  first_listed k = are_listed (take k numbers) (All-take (λ (n : ℕ). n ≤ length arrivals) k numbers there)

-- ## Others explore on

pub together : TogetherMissNone
together x some endings none_missed each events may end =
    let p = none_missed events may end in
    let h = each p.one p.listed p.rest p.may p.ends in
    record {
      one = p.one;
      listed = p.listed;
      left = length p.rest;
      soon = p.soon;
      held = record { one = h.one; listed = h.listed; soon = h.soon; report_is = h.report_is ∙ p.report_is };
    }
