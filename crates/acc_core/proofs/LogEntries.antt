-- The entries of each host after a directive is accepted and after an item is recorded, and the counts of items still rise.
use Rattle.std.proofs.Common.{inl, inr, ◌⊎◌, ◌≡◌, ◌≢◌, ℕ, ◌+◌, [], ◌∷◌, ◌++◌, length, refl, sym, ap, ◌∙◌, subst, arith}
use Rattle.std.proofs.lemmas.Bool.{cases_eq, eq-eqb, ne_eqb}
use Rattle.std.proofs.lemmas.List.{length_push}
use Rattle.acc_host.specs.Engines.{Gave, Had}
use Rattle.acc_place.specs.Batches.{answer_of}
use Rattle.acc_place.specs.Directives.{Directive}
use Rattle.acc_place.specs.Standings.{walk_of}
use Rattle.acc_batch.specs.declared.entry.Told.{Told}
use Rattle.acc_work.specs.Logs.{one_more, items_of}
use Rattle.acc_core.specs.Legality.{Rise, CountsRise, host_entries}
use Rattle.acc_host.specs.Entries.{Own, own_of, own_after, items_shown, entries_merged}
use Rattle.acc_core.specs.Machine.{State, standing_of, with_directive, with_item}
use Rattle.acc_core.proofs.Merged.{rise_more, rise_push, merged_item, merged_directive, items_length}

abbrev own_new : State → ℕ → Directive → Own
own_new w h d = own_after (standing_of w) h (items_of h w.work) d

own_same : (w : State) (h : ℕ) (d : Directive) → own_of w.config h (with_directive w h d).history (with_directive w h d).counts ≡ own_of w.config h w.history w.counts ++ own_new w h d ∷ []
own_same w h d = ap (λ b. one_more b (own_of w.config h w.history w.counts) (own_new w h d)) (eq-eqb h h refl)

own_other : (w : State) (k h : ℕ) (d : Directive) → k ≢ h → own_of w.config k (with_directive w h d).history (with_directive w h d).counts ≡ own_of w.config k w.history w.counts
own_other w k h d ne = ap (λ b. one_more b (own_of w.config k w.history w.counts) (own_new w h d)) (ne_eqb h k (λ (e : h ≡ k). ne (sym e)))

-- a directive stands behind all that its host has
pub entries_accept : (w : State) (h : ℕ) (d : Directive) → CountsRise w
    → host_entries (with_directive w h d) h ≡ host_entries w h ++ Gave d (answer_of (standing_of w) d (walk_of (standing_of w) h d)) ∷ []
entries_accept w h d rise =
    let items = items_shown h w.work in
    let own = own_of w.config h w.history w.counts in
    let o = own_new w h d in
    let count : o.items_before ≡ 0 + length items = omega (arith, items_length h w.work) in
    let order : Rise 0 own o.items_before = subst (λ n. Rise 0 own n) (items_length h w.work) (rise h) in
    ap (λ os. entries_merged 0 os items) (own_same w h d) ∙ merged_directive 0 own items o count order

pub entries_accept_other : (w : State) (k h : ℕ) (d : Directive) → k ≢ h → host_entries (with_directive w h d) k ≡ host_entries w k
entries_accept_other w k h d ne = ap (λ os. entries_merged 0 os (items_shown k w.work)) (own_other w k h d ne)

-- and so does an item
items_same : (w : State) (h : ℕ) (x : Told) → items_shown h (with_item w h x).work ≡ items_shown h w.work ++ Had x ∷ []
items_same w h x = ap (λ b. one_more b (items_shown h w.work) (Had x)) (eq-eqb h h refl)

items_other : (w : State) (k h : ℕ) (x : Told) → k ≢ h → items_shown k (with_item w h x).work ≡ items_shown k w.work
items_other w k h x ne = ap (λ b. one_more b (items_shown k w.work) (Had x)) (ne_eqb h k (λ (e : h ≡ k). ne (sym e)))

pub entries_item : (w : State) (h : ℕ) (x : Told) → CountsRise w → host_entries (with_item w h x) h ≡ host_entries w h ++ Had x ∷ []
entries_item w h x rise =
    let own = own_of w.config h w.history w.counts in
    let items = items_shown h w.work in
    ap (entries_merged 0 own) (items_same w h x) ∙ merged_item 0 own items (Had x) (length items) (omega arith) (rise h)

pub entries_item_other : (w : State) (k h : ℕ) (x : Told) → k ≢ h → host_entries (with_item w h x) k ≡ host_entries w k
entries_item_other w k h x ne = ap (entries_merged 0 (own_of w.config k w.history w.counts)) (items_other w k h x ne)

-- the counts still rise
rise_by : (w : State) (k h : ℕ) (d : Directive) → ((k ≡ h) ⊎ (k ≢ h)) → CountsRise w → Rise 0 (own_of w.config k (with_directive w h d).history (with_directive w h d).counts) (length (items_shown k w.work))
rise_by w k h d (inl e) rise =
    let items = items_shown h w.work in
    let own = own_of w.config h w.history w.counts in
    let o = own_new w h d in
    let order : Rise 0 own o.items_before = subst (λ n. Rise 0 own n) (items_length h w.work) (rise h) in
    let pushed : Rise 0 (own ++ o ∷ []) (length items) = subst (λ n. Rise 0 (own ++ o ∷ []) n) (sym (items_length h w.work)) (rise_push 0 own o order) in
    subst (λ j. Rise 0 (own_of w.config j (with_directive w h d).history (with_directive w h d).counts) (length (items_shown j w.work))) (sym e)
    (subst (λ os. Rise 0 os (length items)) (sym (own_same w h d)) pushed)
rise_by w k h d (inr ne) rise = subst (λ os. Rise 0 os (length (items_shown k w.work))) (sym (own_other w k h d ne)) (rise k)

pub rise_accept : (w : State) (h : ℕ) (d : Directive) → CountsRise w → CountsRise (with_directive w h d)
rise_accept w h d rise k = rise_by w k h d (cases_eq k h) rise

rise_with : (w : State) (k h : ℕ) (x : Told) → ((k ≡ h) ⊎ (k ≢ h)) → CountsRise w → Rise 0 (own_of w.config k w.history w.counts) (length (items_shown k (with_item w h x).work))
rise_with w k h x (inl e) rise =
    let own = own_of w.config h w.history w.counts in
    let items = items_shown h w.work in
    let longer : Rise 0 own (length (items ++ Had x ∷ [])) = rw length_push (rise_more 0 own (length items) (rise h)) in
    subst (λ j. Rise 0 (own_of w.config j w.history w.counts) (length (items_shown j (with_item w h x).work))) (sym e)
    (subst (λ es. Rise 0 own (length es)) (sym (items_same w h x)) longer)
rise_with w k h x (inr ne) rise = subst (λ es. Rise 0 (own_of w.config k w.history w.counts) (length es)) (sym (items_other w k h x ne)) (rise k)

pub rise_item : (w : State) (h : ℕ) (x : Told) → CountsRise w → CountsRise (with_item w h x)
rise_item w h x rise k = rise_with w k h x (cases_eq k h) rise
