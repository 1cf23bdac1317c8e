-- Whether a queue is closed is told by its batches: the last one is its close.
use Rattle.std.proofs.Common.{◌≡◌, ℕ, Bool, true, false, List, [], ◌∷◌, ◌++◌, refl, sym, subst, ◌∙◌}
use Rattle.std.specs.Prelude.{All}
use Rattle.std.proofs.lemmas.List.{append-nil}
use Rattle.std.proofs.lemmas.List.Elements.{All-contains, All-head, Contains-push}
use Rattle.acc_base.specs.Configurations.{Configuration}
use Rattle.acc_base.specs.declared.ids.QueueAt.{QueueAt}
use Rattle.acc_batch.specs.declared.label.Label.{Label}
use Rattle.acc_batch.specs.declared.label.OpLabel.{OpLabel}
use Rattle.acc_batch.specs.declared.label.OpLabel.TheVariants.{Close}
use Rattle.acc_batch.specs.Labels.{on_queue}
use Rattle.acc_place.specs.declared.directive.PlaceEntry.{PlaceEntry}
use Rattle.acc_place.specs.Histories.{AllAccepted, is_closed, standing}
use Rattle.acc_place.proofs.LastClose.{EndsBy, Goes, IsPlain, ends_by}

-- batches that end by a close don't end without one
never_both : (ls : List Label) → EndsBy true ls → EndsBy false ls → ⊥
never_both ls a b =
    let plain : All IsPlain ls = subst (All IsPlain) (sym (b.split ∙ append-nil b.first)) b.plain in
    let among : All IsPlain (a.first ++ a.close ∷ []) = subst (All IsPlain) a.split plain in
    let close = All-contains IsPlain (a.first ++ a.close ∷ []) a.close among (Contains-push a.first a.close) in
    let goes : All Goes (Close ∷ []) = subst (λ (ops : List OpLabel). All Goes ops) a.closes close.1 in
    let wrong : true ≡ false = All-head Goes Close [] goes in
    absurd cc

one_end : (x y : Bool) (ls : List Label) → EndsBy x ls → EndsBy y ls → x ≡ y
one_end true true ls a b = refl
one_end false false ls a b = refl
one_end true false ls a b = absurd (never_both ls a b)
one_end false true ls a b = absurd (never_both ls b a)

pub closed_same : (config other : Configuration) (h g : List PlaceEntry) (c b : List ℕ) (at : QueueAt) → AllAccepted config h c → AllAccepted other g b
    → on_queue at (standing config h c).labels ≡ on_queue at (standing other g b).labels → is_closed (standing config h c) at ≡ is_closed (standing other g b) at
closed_same config other h g c b at first second same =
    one_end (is_closed (standing config h c) at) (is_closed (standing other g b) at) (on_queue at (standing other g b).labels)
    (subst (λ (ls : List Label). EndsBy (is_closed (standing config h c) at) ls) same (ends_by config h c at first)) (ends_by other g b at second)
