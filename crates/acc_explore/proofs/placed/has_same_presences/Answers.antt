use Rattle.std.proofs.Common.{◌≡◌, ◌∷◌, List, Option, Some, None, false, not, map, sym, ap, ap₂, ◌∙◌}
use Rattle.std.specs.Prelude.{is_some}
use Rattle.std.specs.Option.{MatchOption}
use Rattle.acc_present.specs.declared.entry.Entry.{Entry}
use Rattle.acc_present.specs.Presences.{Presence}
use Rattle.acc_present.specs.Tables.{entry_presence}
use Rattle.acc_explore.proofs.placed.has_same_presences.Goals as goal

pub loop-entry-preserved : goal.loop-entry-preserved
loop-entry-preserved c =
    let shown : List Entry → List Presence = map entry_presence in let same = c.is_same_presence.ensures c.if-not-is_same_presence.false in
    (tt, tt, λ left. c.loop-entry.invariant.2 (ap shown c.in-Some.ensures.steps ∙ ap₂ (λ p ps. p ∷ ps) same left ∙ sym (ap shown c.in-Some-next.ensures.steps)))

none_came : {X : Type 0} (o : Option X) (P : Type 0) (Q : X → Type 0) → is_some o ≡ false → MatchOption o P Q → P
none_came None P Q none h = h
none_came (Some x) P Q none h = cc

pub returns : goal.returns
returns c = λ none.
    let shown : List Entry → List Presence = map entry_presence in let over = none_came c.next-2.result _ _ (c.is_none.ensures ∙ ap not none) c.next-2.ensures.steps in
    c.loop-entry.invariant.2 (ap shown c.in-None.ensures.steps.0 ∙ sym (ap shown over.0))
