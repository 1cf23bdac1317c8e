-- What is found among the ranges that are present, one after another.
use Rattle.std.proofs.Common.{◌≡◌, ◌+◌, Bool, true, false, List, [], ◌∷◌, refl, ap, ◌∙◌, arith}
use Rattle.std.specs.Prelude.{◌||◌, ◌&&◌, not, nat_lt, ◌==◌, min, max}
use Rattle.std.proofs.lemmas.Bool.Decides.{nat_tests}
use Rattle.acc_base.specs.declared.range.Range.{Range}
use Rattle.acc_base.specs.Ranges.{range_overlaps}
use Rattle.acc_present.specs.Presences.{Presence, is_partly_present, is_present, overlaps_any}

-- ## The first of the ranges, and the others

either : (b c : Bool) → b ≡ true → (b || c) ≡ true
either true c is = refl
either false c is = cc

pub found_here : (p : Presence) (ps rest : List Presence) (r : Range) → ps ≡ p ∷ rest → range_overlaps p.range r ≡ true → overlaps_any ps r ≡ true
found_here p ps rest r is holds = ap (λ l. overlaps_any l r) is ∙ either (range_overlaps p.range r) (overlaps_any rest r) holds

pub none_here : (p : Presence) (ps rest : List Presence) (r : Range) → ps ≡ p ∷ rest → range_overlaps p.range r ≡ false → overlaps_any ps r ≡ overlaps_any rest r
none_here p ps rest r is misses = ap (λ l. overlaps_any l r) is ∙ ap (λ b. b || overlaps_any rest r) misses

-- ## A range without a cell

neither : (b c : Bool) → b ≡ false → c ≡ false → (b || c) ≡ false
neither true c first second = first
neither false c first second = second

both : (b c : Bool) → c ≡ false → (b && c) ≡ false
both true c is = is
both false c is = refl

apart : (a r : Range) → r.len ≡ 0 → range_overlaps a r ≡ false
unfolding range_overlaps
apart a r none =
    let behind : nat_lt (max a.lo r.lo) (min (a.lo + a.len) (r.lo + r.len)) ≡ false = grind (arith, nat_tests, none) in
    both (a.array == r.array) (nat_lt (max a.lo r.lo) (min (a.lo + a.len) (r.lo + r.len))) behind

overlaps_none : (ps : List Presence) (r : Range) → r.len ≡ 0 → overlaps_any ps r ≡ false
overlaps_none [] r none = refl
overlaps_none (p ∷ ps) r none = neither (range_overlaps p.range r) (overlaps_any ps r) (apart p.range r none) (overlaps_none ps r none)

pub not_partly : (ps : List Presence) (r : Range) → r.len ≡ 0 → is_partly_present ps r ≡ false
not_partly ps r none = ap (λ b. b && not (is_present ps r)) (overlaps_none ps r none)
