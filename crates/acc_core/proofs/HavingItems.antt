-- Each batch's host has the items that it had at the batch's directive, as the counts of items say.
use Rattle.std.proofs.Common.{ℕ, ◌≤◌, Bool, true, false, List, [], ◌∷◌, ◌++◌, refl, subst, arith}
use Rattle.std.specs.Prelude.{drop, slice_index_or, ◌==◌}
use Rattle.std.proofs.lemmas.Bool.{eq-eqb}
use Rattle.std.proofs.lemmas.List.Elements.{All-nil, All-cons, All-append}
use Rattle.acc_base.specs.declared.ids.QueueAt.{QueueAt}
use Rattle.acc_base.specs.Configurations.{Configuration}
use Rattle.acc_batch.specs.Awaits.{close_label}
use Rattle.acc_batch.specs.declared.label.Label.{Label}
use Rattle.acc_batch.specs.declared.label.OpLabel.{OpLabel}
use Rattle.acc_place.specs.Batches.{batch_of, labels_with, walk_at}
use Rattle.acc_place.specs.Histories.{standing}
use Rattle.acc_place.specs.Standings.{walk_of}
use Rattle.acc_place.specs.declared.directive.PlaceEntry.{PlaceEntry}
use Rattle.acc_place.specs.declared.directive.PlaceEntry.TheVariants as noted
use Rattle.acc_batch.specs.declared.entry.WorkEntry.{WorkEntry}
use Rattle.acc_work.specs.Enabled.{HaveItems}
use Rattle.acc_work.specs.Logs.{one_more, items_of}
use Rattle.acc_core.specs.Legality.{CountsRise, Rise}
use Rattle.acc_host.specs.Entries.{Own, own_of, own_after}
use Rattle.acc_core.specs.Machine.{State, labels_of}
use Rattle.acc_core.proofs.Merged.{items_length}

-- what rises up to the last one
rise_parts : (low : ℕ) (os : List Own) (o : Own) (high : ℕ) → Rise low (os ++ o ∷ []) high → Rise low os high × (o.items_before ≤ high)
rise_parts low [] o high h = (omega (arith, h.0, h.1), h.1)
rise_parts low (x ∷ os) o high h = let rest = rise_parts x.items_before os o high h.1 in ((h.0, rest.0), rest.1)

rise_before : (mine : Bool) (os : List Own) (o : Own) (high : ℕ) → Rise 0 (one_more mine os o) high → Rise 0 os high
rise_before true os o high h = (rise_parts 0 os o high h).0
rise_before false os o high h = h

-- a batch, if there is one, stands behind no more items than its host has
one_has : (work : List WorkEntry) (at : QueueAt) (host items_done : ℕ) (labels : List Label) (ops : List OpLabel) → HaveItems labels work → items_done ≤ items_of host work → HaveItems (labels_with at host items_done labels ops) work
one_has work at host items_done labels [] all low = all
one_has work at host items_done labels (op ∷ ops) all low =
    All-append (λ (l : Label). l.items_done ≤ items_of l.host work) labels _ all
    (All-cons (λ (l : Label). l.items_done ≤ items_of l.host work) _ [] low (All-nil (λ (l : Label). l.items_done ≤ items_of l.host work)))

have_in : (config : Configuration) (history : List PlaceEntry) (counts : List ℕ) (work : List WorkEntry)
    → ((h : ℕ) → Rise 0 (own_of config h history counts) (items_of h work)) → HaveItems (standing config history counts).labels work
unfolding standing
have_in config [] counts work rise = All-nil (λ (l : Label). l.items_done ≤ items_of l.host work)
have_in config (noted.Accepted host d ∷ before) counts work rise =
    let st = standing config before (drop 1 counts) in
    let items = slice_index_or counts 0 0 in
    let o = own_after st host items d in
    let earlier = have_in config before (drop 1 counts) work (λ h. rise_before (host == h) (own_of config h before (drop 1 counts)) o (items_of h work) (rise h)) in
    let mine : Rise 0 (own_of config host before (drop 1 counts) ++ o ∷ []) (items_of host work) =
    subst (λ b. Rise 0 (one_more b (own_of config host before (drop 1 counts)) o) (items_of host work)) (eq-eqb host host refl) (rise host) in
    one_has work (walk_at (walk_of st host d)) host items st.labels (batch_of st (walk_of st host d)) earlier (rise_parts 0 (own_of config host before (drop 1 counts)) o (items_of host work) mine).1
have_in config (noted.Closing ∷ before) counts work rise = have_in config before counts work rise
have_in config (noted.Closed at ∷ before) counts work rise =
    let st = standing config before counts in
    All-append (λ (l : Label). l.items_done ≤ items_of l.host work) st.labels (close_label at st.labels ∷ []) (have_in config before counts work rise)
    (All-cons (λ (l : Label). l.items_done ≤ items_of l.host work) (close_label at st.labels) [] (omega arith) (All-nil (λ (l : Label). l.items_done ≤ items_of l.host work)))

pub have_items : (w : State) → CountsRise w → HaveItems (labels_of w) w.work
have_items w rise = have_in w.config w.history w.counts w.work (λ h. subst (λ n. Rise 0 (own_of w.config h w.history w.counts) n) (items_length h w.work) (rise h))
