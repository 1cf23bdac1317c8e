-- What is told of the ends that a search has found: endings, one for each report, and all of them where the search is whole.
use Rattle.std.proofs.Common.{inl, inr, ◌≡◌, ◌≤◌, ◌<◌, ◌+◌, ◌||◌, ℕ, Bool, true, false, List, [], ◌∷◌, ◌++◌, length, map, take, refl, sym, ap, subst, ◌∙◌, arith}
use Rattle.std.specs.Prelude.{All, Contains, IsTrue, ◌==◌, bytes_eq, if◌then◌else◌}
use Rattle.std.specs.List.{list_any}
use Rattle.std.proofs.lemmas.Bool.{cases_Bool, cases_eq, cases_lt, eq-eqb, ne_eqb}
use Rattle.std.proofs.lemmas.List.{append_assoc, append-nil, drop_all, length-append}
use Rattle.std.proofs.lemmas.List.Elements.{All-append, All-cons, All-contains, All-head, All-map, All-nil, All-tail, All-take, All-weaker}
use Rattle.std.proofs.lemmas.List.Folds.{list_any-append}
use Rattle.std.proofs.lemmas.Slice.Eq.{bytes_eq-Decides}
use Rattle.acc_base.proofs.Members.{member_cases, member_first, member_rest, no_member}
use Rattle.acc_core.specs.Legality.{IsLegalState}
use Rattle.acc_host.specs.declared.event.Event.{Event}
use Rattle.acc_explore.specs.Arrivals.{events_to, found_at, found_by}
use Rattle.acc_explore.specs.Cuts.{FollowsOrLeaves}
use Rattle.acc_explore.specs.declared.arrival.Arrival.{Arrival}
use Rattle.acc_explore.specs.Endings.{AreEndings, Differ, Ending, HoldsReport, IsEnding, MissesNone, Setting}
use Rattle.acc_explore.specs.Explorations.{Found, IsEnd}
use Rattle.acc_explore.specs.Reductions.{FollowsEnough, IsReduced}
use Rattle.acc_explore.specs.Runs.{open_events, report_of}
use Rattle.acc_explore.specs.Searches.{ComeByDepth, IsSearch, leaves_of}
use Rattle.acc_explore.specs.inner.Telling.{ending_at, new_endings, told_of}
use Rattle.acc_explore.proofs.ArrivalPaths.{events_lead, length_found, numbered}
use Rattle.acc_explore.proofs.Reduced.{reduced_misses_none}

-- ## One for each report

-- what is so of all endings is so of those that are new
pub new_all : (P : Ending → Type 0) (seen : List (List ℕ)) (endings : List Ending) → All P endings → All P (new_endings seen endings)
new_all P seen [] all = All-nil P
new_all P seen (e ∷ endings) all = elim (cases_Bool (list_any (bytes_eq e.report) seen)) [
  | inl old ↦ rw old (new_all P seen endings (All-tail P e endings all))
  | inr new ↦ rw new (All-cons P e _ (All-head P e endings all) (new_all P (seen ++ e.report ∷ []) endings (All-tail P e endings all)))
]

-- what isn't among these and more isn't among these, nor is it the one more
not_seen : (text one : List ℕ) (seen : List (List ℕ)) → list_any (bytes_eq text) (seen ++ one ∷ []) ≡ false
    → (list_any (bytes_eq text) seen ≡ false) × (bytes_eq text one ≡ false)
not_seen text one seen none =
    elim (list_any (bytes_eq text) seen) as (λ a. (a || (bytes_eq text one || false)) ≡ false → (a ≡ false) × (bytes_eq text one ≡ false)) [
      | true ↦ λ off. absurd cc
      | false ↦ elim (bytes_eq text one) as (λ b. (false || (b || false)) ≡ false → (false ≡ false) × (b ≡ false)) [ true ↦ λ off. absurd cc | false ↦ λ is. (refl, refl) ]
    ] (sym (list_any-append (bytes_eq text) seen (one ∷ [])) ∙ none)

seen_neither : (text one : List ℕ) (seen : List (List ℕ)) → list_any (bytes_eq text) seen ≡ false → bytes_eq text one ≡ false
    → list_any (bytes_eq text) (seen ++ one ∷ []) ≡ false
seen_neither text one seen none differ = list_any-append (bytes_eq text) seen (one ∷ []) ∙ rw (none, differ) refl

-- the report of each is none of those that were seen
abbrev IsNew : List (List ℕ) → Ending → Type 0
IsNew seen e = list_any (bytes_eq e.report) seen ≡ false

new_are_new : (seen : List (List ℕ)) (endings : List Ending) → All (IsNew seen) (new_endings seen endings)
new_are_new seen [] = All-nil (IsNew seen)
new_are_new seen (e ∷ endings) = elim (cases_Bool (list_any (bytes_eq e.report) seen)) [
  | inl old ↦ rw old (new_are_new seen endings)
  | inr new ↦
      let more = seen ++ e.report ∷ [] in
      rw new (All-cons (IsNew seen) e (new_endings more endings) new
      (All-weaker (IsNew more) (IsNew seen) (λ (o : Ending) is. (not_seen o.report e.report seen is).0) (new_endings more endings) (new_are_new more endings)))
]

apart : (text one : List ℕ) → bytes_eq text one ≡ false → text ≡ one → ⊥
apart text one differ same = let is = (bytes_eq-Decides text one).1 same in cc

pub new_differ : (seen : List (List ℕ)) (endings : List Ending) → Differ (new_endings seen endings)
new_differ seen [] = tt
new_differ seen (e ∷ endings) = elim (cases_Bool (list_any (bytes_eq e.report) seen)) [
  | inl old ↦ rw old (new_differ seen endings)
  | inr new ↦
      let more = seen ++ e.report ∷ [] in
      rw new (
        All-weaker (IsNew more) (λ (o : Ending). o.report ≡ e.report → ⊥) (λ (o : Ending) is. apart o.report e.report (not_seen o.report e.report seen is).1)
            (new_endings more endings) (new_are_new more endings),
        new_differ more endings,
      )
]

-- one more ending behind
pub new_more : (seen : List (List ℕ)) (endings : List Ending) (e : Ending)
    → new_endings seen (endings ++ e ∷ []) ≡ new_endings seen endings ++ new_endings (seen ++ map (λ (o : Ending). o.report) (new_endings seen endings)) (e ∷ [])
new_more seen [] e = ap (λ s. new_endings s (e ∷ [])) (sym (append-nil seen))
new_more seen (o ∷ endings) e = elim (cases_Bool (list_any (bytes_eq o.report) seen)) [
  | inl old ↦ rw old (new_more seen endings e)
  | inr new ↦
      let more = seen ++ o.report ∷ [] in
      rw new (
      ap (λ es. o ∷ es) (new_more more endings e)
      ∙ ap (λ s. o ∷ (new_endings more endings ++ new_endings s (e ∷ []))) (append_assoc seen (o.report ∷ []) (map (λ (o : Ending). o.report) (new_endings more endings)))
      )
]

-- ## Each is an ending

-- a path has events of arrivals alone
pub path_of : (P : Event → Type 0) (arrivals : List Arrival) (n : ℕ) → All (λ (a : Arrival). P a.by) arrivals → All P (events_to arrivals n)
path_of P [] n all = All-nil P
path_of P (a ∷ before) n all =
    let Q = λ (a : Arrival). P a.by in
    elim (n == length before + 1) as (λ (b : Bool). All P (if b then events_to before a.from ++ a.by ∷ [] else events_to before n)) [
      | true ↦
          All-append P (events_to before a.from) (a.by ∷ []) (path_of P before a.from (All-tail Q a before all))
          (All-cons P a.by [] (All-head Q a before all) (All-nil P))
      | false ↦ path_of P before n (All-tail Q a before all)
    ]

-- there are no more of them than arrivals
no_longer : (arrivals : List Arrival) (n : ℕ) → length (events_to arrivals n) ≤ length arrivals
no_longer [] n = omega arith
no_longer (a ∷ before) n = elim (cases_eq n (length before + 1)) [
  | inl same ↦ (
      let here : (n == length before + 1) ≡ true = eq-eqb n (length before + 1) same in
      rw here (omega (arith, length-append (events_to before a.from) (a.by ∷ []), no_longer before a.from))
      )
  | inr other ↦ (let away : (n == length before + 1) ≡ false = ne_eqb n (length before + 1) other in rw away (omega (arith, no_longer before n)))
]

module _ (x : Setting) (most deepest : ℕ) (arrivals : List Arrival) (ends : List ℕ) (followed : ℕ) (whole : Bool) (s : IsSearch x.closing most deepest x.start arrivals ends followed whole) where
  abbrev IsFoundEnd : ℕ → Type 0
  IsFoundEnd n = (n ≤ length arrivals) × IsEnd (found_at x.start arrivals n).state

  is_ending : (n : ℕ) → IsFoundEnd n → IsEnding x (ending_at x arrivals n)
  is_ending n found =
      let there = (events_lead x.start arrivals n).0 in
      record {
        events = path_of (λ (e : Event). Contains (open_events x.closing x.start) e) arrivals n s.events;
        ends = subst IsEnd (sym there) found.1;
        report_is = ap (report_of x.names x.programs) (sym there);
      }

  pub all_endings : (some : List ℕ) → All IsFoundEnd some → All (IsEnding x) (told_of x arrivals some)
  all_endings some found =
      new_all (IsEnding x) [] (map (ending_at x arrivals) some) (All-map (IsEnding x) (ending_at x arrivals) some (All-weaker IsFoundEnd (λ n. IsEnding x (ending_at x arrivals n)) is_ending some found))

  -- ## None is missed

  abbrev depth : ℕ → ℕ
  depth n = (found_at x.start arrivals n).depth

  abbrev report_at : ℕ → List ℕ
  report_at n = report_of x.names x.programs (found_at x.start arrivals n).state

  abbrev Tells : ℕ → List Ending → Type 0
  Tells n endings = HoldsReport (depth n) endings (report_at n)

  behind_one : (n : ℕ) (e : Ending) (endings : List Ending) → Tells n endings → Tells n (e ∷ endings)
  behind_one n e endings h = record { one = h.one; listed = member_rest h.one e endings h.listed; soon = h.soon; report_is = h.report_is }

  this_one : (m n : ℕ) (endings : List Ending) → depth m ≤ depth n → report_at m ≡ report_at n → Tells n (ending_at x arrivals m ∷ endings)
  this_one m n endings low same =
      let long = (events_lead x.start arrivals m).1 in
      record { one = ending_at x arrivals m; listed = member_first (ending_at x arrivals m) endings; soon = omega (arith, long, low); report_is = same }

  told : (seen : List (List ℕ)) (some : List ℕ) (n : ℕ) → ComeByDepth x.start arrivals some → Contains some n → list_any (bytes_eq (report_at n)) seen ≡ false
      → Tells n (new_endings seen (map (ending_at x arrivals) some))
  told seen [] n by_depth listed new = absurd (no_member n listed)
  told seen (m ∷ some) n by_depth listed new = elim (cases_Bool (list_any (bytes_eq (report_at m)) seen)) [
    | inl old ↦ (
        elim (member_cases n m some listed) [
          | inl same ↦ absurd (let off : list_any (bytes_eq (report_at m)) seen ≡ false = subst (λ k. list_any (bytes_eq (report_at k)) seen ≡ false) (sym same) new in cc)
          | inr rest ↦ rw old (told seen some n by_depth.1 rest new)
        ]
        )
    | inr fresh ↦ (
        let more = seen ++ report_at m ∷ [] in
        let others = new_endings more (map (ending_at x arrivals) some) in
        rw fresh (elim (member_cases n m some listed) [
          | inl same ↦ this_one m n others (subst (λ k. depth m ≤ depth k) same (omega arith)) (ap report_at same)
          | inr rest ↦ elim (cases_Bool (bytes_eq (report_at n) (report_at m))) [
            | inl one ↦
                this_one m n others (All-contains (λ (k : ℕ). depth m ≤ depth k) some n by_depth.0 rest) (sym ((bytes_eq-Decides (report_at n) (report_at m)).0 one))
            | inr differ ↦ behind_one n (ending_at x arrivals m) others (told more some n by_depth.1 rest (seen_neither (report_at n) (report_at m) seen new differ))
          ]
        ])
        )
  ]

  -- where no state that may be kept is so deep, all were followed
  all_followed : most < deepest → IsTrue whole → (n : ℕ) → n ≤ length arrivals → n < followed
  all_followed high all n low = elim (cases_lt n followed) [
    | inl below ↦ below
    | inr behind ↦ absurd (omega (arith, s.deep all n (omega (arith, behind)) low, (events_lead x.start arrivals n).1, no_longer arrivals n, s.few, high))
  ]

  reduced : most < deepest → IsTrue whole → IsReduced x.closing x.start (found_by x.start arrivals)
  reduced high all =
      let no_leaf : leaves_of x.start arrivals followed ≡ [] =
      drop_all followed (found_by x.start arrivals) (omega (arith, all_followed high all (length arrivals) (omega arith), length_found x.start arrivals)) in
      record {
        first = s.cut.first;
        reached = s.cut.reached;
        follows = All-weaker (FollowsOrLeaves x.closing (leaves_of x.start arrivals followed) (found_by x.start arrivals)) (FollowsEnough x.closing (found_by x.start arrivals))
            (λ f either. elim either [ inl enough ↦ enough | inr leaf ↦ absurd (no_member f (subst (λ (leaves : List Found). Contains leaves f) no_leaf leaf)) ])
            (found_by x.start arrivals) s.cut.follows;
      }

  none_missed : most < deepest → IsLegalState x.start → IsTrue whole → MissesNone x (told_of x arrivals ends)
  none_missed high legal all events may end =
      let t = reduced_misses_none x.closing x.names x.programs x.start (found_by x.start arrivals) legal (reduced high all) events may end in
      let k = numbered x.start arrivals 0 t.one t.listed in
      let listed = s.every_end k.n (all_followed high all k.n k.low) (subst (λ (f : Found). IsEnd f.state) (sym k.is) t.ends) in
      let h = told [] ends k.n s.by_depth listed refl in
      let deep : depth k.n ≡ t.one.depth = ap (λ (f : Found). f.depth) k.is in
      record {
        one = h.one;
        listed = h.listed;
        soon = omega (arith, h.soon, deep, t.soon);
        report_is = h.report_is ∙ ap (λ (f : Found). report_of x.names x.programs f.state) k.is ∙ sym t.text_is;
      }

  pub are_endings : most < deepest → IsLegalState x.start → AreEndings x (told_of x arrivals ends) whole
  are_endings high legal = record {
    each = all_endings ends s.ends;
    differ = new_differ [] (map (ending_at x arrivals) ends);
    none_missed = none_missed high legal;
  }

  -- those of the first ends are too
  pub are_some : (k : ℕ) → All (IsEnding x) (told_of x arrivals (take k ends)) × Differ (told_of x arrivals (take k ends))
  are_some k = (all_endings (take k ends) (All-take IsFoundEnd k ends s.ends), new_differ [] (map (ending_at x arrivals) (take k ends)))
