-- Exits from ranges open no lifetime.
use Rattle.std.proofs.Common.{inl, inr, ◌≡◌, ℕ, true, false, cond, List, [], ◌∷◌, length, refl, ap, ◌∙◌, arith, Option, Some, None}
use Rattle.std.specs.Prelude.{◌&&◌, Contains, not}
use Rattle.acc_base.specs.declared.range.Range.{Range}
use Rattle.acc_present.specs.declared.change.Change.{Change}
use Rattle.acc_present.specs.Marks.{Mark}
use Rattle.acc_present.specs.Lifetimes.{Lifetime, opened_lifetimes, can_open}
use Rattle.acc_present.specs.Presences.{presences, is_present}
use Rattle.acc_present.proofs.LifetimeNumbers.{numbered}
use Rattle.acc_place.specs.Standings.{AskedItem, change_at, marks_with, marks_after, marked_by}
use Rattle.acc_place.specs.Batches.{ended_blocks}
use Rattle.acc_place.proofs.HeldAndMade.{held_first}
use Rattle.acc_place.proofs.VisitLives.{IsHeld, visit, visit_is, ended_is}

-- an item in its turn leaves no entry
abbrev pub Leaves : Option Change → Type 0
Leaves None = Unit {0}
Leaves (Some change) = can_open change ≡ false

abbrev pub AllLeave : List AskedItem → Type 0
AllLeave [] = Unit {0}
AllLeave (a ∷ asks) = Leaves a.change × AllLeave asks

-- whether its range has to be present or not
leaves_at : (ms : List Mark) (a : AskedItem) → Leaves a.change → Leaves (change_at ms a)
leaves_at ms a out = elim (a.if_present && not (is_present (presences ms) a.item.range)) as (λ b. Leaves (cond b None a.change)) [ true ↦ tt | false ↦ out ]

none_by_change : (change : Option Change) (range : Range) (ms : List Mark) → Leaves change → opened_lifetimes (marks_with ms range change) ≡ opened_lifetimes ms
unfolding opened_lifetimes
none_by_change None range ms out = refl
none_by_change (Some change) range ms out = rw out refl

-- A walk of exits opens nothing.
pub none_opened : (asks : List AskedItem) (ms : List Mark) → AllLeave asks → opened_lifetimes (marks_after ms asks) ≡ opened_lifetimes ms
none_opened [] ms out = refl
none_opened (a ∷ asks) ms out = none_opened asks (marked_by ms a) out.1 ∙ none_by_change (change_at ms a) a.item.range ms (leaves_at ms a out.0)

-- What a block holds within it, the block held before.
pub held_from : (asks : List AskedItem) (ms : List Mark) (r : Range) (b : ℕ) → AllLeave asks → IsHeld (marks_after ms asks) r b → IsHeld ms r b
held_from asks ms r b out h = elim (held_first asks ms r b h) [
  | inl held ↦ held
  | inr late ↦
      let low = (numbered (marks_after ms asks)).low h.lifetime h.member in
      absurd (omega (arith, low, h.named, late, ap (λ (ls : List Lifetime). length ls) (none_opened asks ms out)))
]

-- a block that a visit ended held the item's range
pub ended_held : (ms : List Mark) (a : AskedItem) (b : ℕ) → Contains (ended_blocks (visit ms a)) b → IsHeld ms a.item.range b
ended_held ms a b c =
    let e = ended_is ms a b c in
    record { lifetime = e.lifetime; member = e.member; lived = e.lived; named = e.named; around = (visit_is ms a).ended e.lifetime e.member e.lived e.over }
