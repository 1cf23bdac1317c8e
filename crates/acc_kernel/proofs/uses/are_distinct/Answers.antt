use Rattle.std.proofs.Common.{◌≡◌, false, true, ℕ, ◌<◌, refl, sym, ap, set, subst, ◌∙◌, length, take, get_or, arith, rules}
use Rattle.std.specs.Prelude.{◌==◌}
use Rattle.std.specs.List.{list_any}
use Rattle.std.proofs.lemmas.List.{take_all}
use Rattle.acc_kernel.specs.Jobs.{Use, AreDistinct}
use Rattle.acc_kernel.proofs.ArrayFlags.{unset_at, distinct_next, not_distinct, flag_next}
use Rattle.acc_kernel.proofs.uses.are_distinct.Goals as goal

pub loop-range-init : goal.loop-range-init
loop-range-init c = (refl, (λ i j d lt below e. omega arith), λ array. unset_at 256 array)

pub returns-then-used-array : goal.returns-then-used-array
returns-then-used-array c =
    let some : list_any (λ (v : Use). v.1.array == c.loop-range-item.result.1.array) (take c.loop-range.range-index c.args.uses.now) ≡ true =
    sym (c.loop-range.invariant.2 c.loop-range-item.result.1.array) ∙ (ap (λ n. get_or c.loop-range.used n false) (sym c.from-array.ensures) ∙ c.if-used-array.true) in (
      (λ no. let never : ⊥ = cc in absurd never),
      λ distinct. absurd (not_distinct c.args.uses.now c.loop-range.range-index c.loop-range-item.result c.loop-range-test.true c.loop-range-item.is some distinct),
    )

pub loop-range-preserved : goal.loop-range-preserved
loop-range-preserved c =
    let none : list_any (λ (v : Use). v.1.array == c.loop-range-item.result.1.array) (take c.loop-range.range-index c.args.uses.now) ≡ false =
    sym (c.loop-range.invariant.2 c.loop-range-item.result.1.array) ∙ (ap (λ n. get_or c.loop-range.used n false) (sym c.from-array.ensures) ∙ c.if-used-array.false) in
    let long : length c.loop-range.used ≡ 256 = c.loop-range.invariant.0 in
    let small : c.loop-range-item.result.1.array < length c.loop-range.used = search rules in (
      search rules,
      distinct_next c.args.uses.now c.loop-range.range-index c.loop-range-item.result c.loop-range-test.true c.loop-range-item.is c.loop-range.invariant.1 none,
      λ array.
          ap (λ (n : ℕ). get_or (set c.loop-range.used n true) array false) c.from-array.ensures
          ∙ flag_next (λ (u : Use). u.1.array) c.args.uses.now c.loop-range.range-index c.loop-range-item.result c.loop-range.used array
          c.loop-range-test.true c.loop-range-item.is small (c.loop-range.invariant.2 array),
    )

pub returns : goal.returns
returns c =
    let whole : take c.loop-range.range-index c.args.uses.now ≡ c.args.uses.now = take_all c.loop-range.range-index c.args.uses.now c.loop-range-test.false in
    ((λ yes. subst AreDistinct whole c.loop-range.invariant.1), λ distinct. refl)
