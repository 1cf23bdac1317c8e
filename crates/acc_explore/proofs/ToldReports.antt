-- Endings are told one after another, each report once.
use Rattle.std.proofs.Common.{◌≡◌, ◌≤◌, ◌+◌, ◌||◌, ℕ, Bool, true, false, List, [], ◌∷◌, ◌++◌, length, map, take, get_or, refl, sym, ap, ◌∙◌, arith}
use Rattle.std.specs.Prelude.{bytes_eq, Vec, if◌then◌else◌}
use Rattle.std.specs.List.{list_any}
use Rattle.std.proofs.lemmas.List.{append_assoc, append-nil, length-map, map-append, take_more}
use Rattle.std.proofs.lemmas.List.Folds.{list_any-append}
use Rattle.indexmap.specs.IndexSet.{insert_key}
use Rattle.acc_report.specs.Puts.{Puts, Sink}
use Rattle.acc_report.proofs.JoinedPuts.{puts_then}
use Rattle.acc_explore.specs.declared.arrival.Arrival.{Arrival}
use Rattle.acc_explore.specs.declared.reports.Form.{Form}
use Rattle.acc_explore.specs.declared.reports.Tally.{Tally}
use Rattle.acc_explore.specs.Endings.{Ending, Setting, ending_text, endings_text, refuses}
use Rattle.acc_explore.specs.inner.Telling.{IsTally, count_of, TellsFirst, ending_at, new_endings, reports_of, seen_by, told_behind, told_of}
use Rattle.acc_explore.proofs.ToldEndings.{new_more}

-- ## Reports that were seen

pub any_items : {Z : Type 0} (test : List ℕ → Bool) (keys : List (Vec ℕ Z)) → list_any (λ k. test k.items) keys ≡ list_any test (map (λ k. k.items) keys)
any_items test [] = refl
any_items test (k ∷ keys) = ap (λ b. test k.items || b) (any_items test keys)

pub one_more_seen : {Z : Type 0} (keys after : List (Vec ℕ Z)) (report : Vec ℕ Z) → list_any (bytes_eq report.items) (map (λ k. k.items) keys) ≡ false
    → after ≡ insert_key (λ a b. bytes_eq a.items b.items) keys report → map (λ k. k.items) after ≡ map (λ k. k.items) keys ++ report.items ∷ []
one_more_seen keys after report new is =
    let fresh : list_any (λ k. bytes_eq report.items k.items) keys ≡ false = any_items (bytes_eq report.items) keys ∙ new in
    ap (map (λ k. k.items)) (rw fresh at is) ∙ map-append (λ k. k.items) keys (report ∷ [])

-- ## Texts

text_more : (f : Form) (schedule : List ℕ) (n : ℕ) (endings more : List Ending)
    → endings_text f schedule n (endings ++ more) ≡ endings_text f schedule n endings ++ endings_text f schedule (n + length endings) more
text_more f schedule n [] more = let same : n + 0 ≡ n = omega arith in rw same refl
text_more f schedule n (e ∷ endings) more =
    let same : n + 1 + length endings ≡ n + length (e ∷ endings) = omega arith in
    ap (λ t. ending_text f schedule n e ++ t) (rw same at (text_more f schedule (n + 1) endings more))
    ∙ sym (append_assoc (ending_text f schedule n e) (endings_text f schedule (n + 1) endings) (endings_text f schedule (n + length (e ∷ endings)) more))

one_more : (f : Form) (schedule : List ℕ) (endings : List Ending) (e : Ending) (count : ℕ) → count ≡ length endings
    → endings_text f schedule 1 (endings ++ e ∷ []) ≡ endings_text f schedule 1 endings ++ ending_text f schedule (count + 1) e
one_more f schedule endings e count is =
    let number : 1 + length endings ≡ count + 1 = omega (arith, is) in
    text_more f schedule 1 endings (e ∷ [])
    ∙ ap (λ t. endings_text f schedule 1 endings ++ t) (append-nil (ending_text f schedule (1 + length endings) e) ∙ ap (λ k. ending_text f schedule k e) number)

-- as many were told as reports were seen
pub count_is : {x : Setting} {f : Form} {schedule : List ℕ} {endings : List Ending} {tally : Tally} {old new : Sink} → IsTally x f schedule endings tally old new → count_of tally ≡ length endings
count_is {x} {f} {schedule} {endings} {tally} t =
    sym (length-map tally.seen.keys (λ report. report.items)) ∙ (ap length t.seen_is ∙ length-map endings (λ (e : Ending). e.report))

module _ (x : Setting) (f : Form) (schedule : List ℕ) (arrivals : List Arrival) where
  -- ## One end

  module _ (n : ℕ) (before : Tally) (endings : List Ending) (old mid : Sink) (t : IsTally x f schedule endings before old mid) where
    abbrev one : Ending
    one = ending_at x arrivals n

    behind_old : list_any (bytes_eq one.report) (seen_by before) ≡ true → told_behind x arrivals endings n ≡ []
    behind_old seen =
        let is : list_any (bytes_eq one.report) (reports_of endings) ≡ true = rw t.seen_is at seen in
        rw is refl

    behind_new : list_any (bytes_eq one.report) (seen_by before) ≡ false → told_behind x arrivals endings n ≡ one ∷ []
    behind_new new =
        let is : list_any (bytes_eq one.report) (reports_of endings) ≡ false = rw t.seen_is at new in
        rw is refl

    pub seen_already : list_any (bytes_eq one.report) (seen_by before) ≡ true → IsTally x f schedule (endings ++ told_behind x arrivals endings n) before old mid
    seen_already seen = rw (behind_old seen, append-nil endings) t

    pub told_nothing : (told : Bool) × Puts old mid (endings_text f schedule 1 (endings ++ (if told then told_behind x arrivals endings n else [])))
    told_nothing = (false, rw (append-nil endings) t.told)

    told_both : (new : Sink) → Puts mid new (ending_text f schedule (count_of before + 1) one) → Puts old new (endings_text f schedule 1 (endings ++ one ∷ []))
    told_both new puts = rw (one_more f schedule endings one (count_of before) (count_is t)) (puts_then t.told puts)

    pub told_now : (behind : Tally) (new : Sink) → list_any (bytes_eq one.report) (seen_by before) ≡ false → seen_by behind ≡ seen_by before ++ one.report ∷ []
        → behind.refused ≡ (before.refused || refuses x.start one) → Puts mid new (ending_text f schedule (count_of before + 1) one)
        → IsTally x f schedule (endings ++ told_behind x arrivals endings n) behind old new
    told_now behind new fresh seen refused puts =
        let told : IsTally x f schedule (endings ++ one ∷ []) behind old new = record {
          seen_is = seen ∙ ap (λ s. s ++ one.report ∷ []) t.seen_is ∙ sym (map-append (λ (e : Ending). e.report) endings (one ∷ []));
          refused_is = refused ∙ ap (λ b. b || refuses x.start one) t.refused_is ∙ sym (any_more endings);
          told = told_both new puts;
        } in
        rw (behind_new fresh) told
      where
        any_more : (es : List Ending) → list_any (refuses x.start) (es ++ one ∷ []) ≡ (list_any (refuses x.start) es || refuses x.start one)
        any_more es =
            list_any-append (refuses x.start) es (one ∷ [])
            ∙ ap (λ b. list_any (refuses x.start) es || b) (elim (refuses x.start one) as (λ b. (b || false) ≡ b) [ true ↦ refl | false ↦ refl ])

    pub told_cut : (new : Sink) → list_any (bytes_eq one.report) (seen_by before) ≡ false → Puts mid new (ending_text f schedule (count_of before + 1) one)
        → (told : Bool) × Puts old new (endings_text f schedule 1 (endings ++ (if told then told_behind x arrivals endings n else [])))
    told_cut new fresh puts = (true, rw (behind_new fresh) (told_both new puts))

  -- ## One end after another

  pub told_more : (ends : List ℕ) (i n : ℕ) → i + 1 ≤ length ends → get_or ends i 0 ≡ n
      → told_of x arrivals (take (i + 1) ends) ≡ told_of x arrivals (take i ends) ++ told_behind x arrivals (told_of x arrivals (take i ends)) n
  told_more ends i n low is =
      let numbers : take (i + 1) ends ≡ take i ends ++ n ∷ [] = take_more ends i 0 (omega (arith, low)) ∙ ap (λ k. take i ends ++ k ∷ []) is in
      let at = ending_at x arrivals in
      ap (λ ns. new_endings [] (map at ns)) numbers
      ∙ ap (new_endings []) (map-append at (take i ends) (n ∷ []))
      ∙ new_more [] (map at (take i ends)) (at n)

  -- where the next end was told, or not
  pub told_first : (ends : List ℕ) (i n : ℕ) (old new : Sink) → i + 1 ≤ length ends → get_or ends i 0 ≡ n
      → (told : Bool) × Puts old new (endings_text f schedule 1 (told_of x arrivals (take i ends) ++ (if told then told_behind x arrivals (told_of x arrivals (take i ends)) n else [])))
      → TellsFirst x f schedule arrivals ends old new
  told_first ends i n old new low is (true, puts) = (i + 1, rw (told_more ends i n low is) puts)
  told_first ends i n old new low is (false, puts) = (i, rw (append-nil (told_of x arrivals (take i ends))) at puts)
