use Rattle.std.proofs.Common.{◌≡◌, ℕ, zero, suc, refl, sym, ap, ◌∙◌, arith}
use Rattle.std.specs.Prelude.{◌==◌, nat_le}
use Rattle.std.proofs.lemmas.Bool.{lt-leb, ne_eqb}
use Rattle.acc_work.specs.Lanes.{lane_done}
use Rattle.acc_work.proofs.TakenLabels.{done_is}
use Rattle.acc_work.proofs.work.Work.reached.Goals as goal

-- a number that is no more than none is none
none_more : (n : ℕ) → (n == 0) ≡ nat_le n 0
none_more zero = refl
none_more (suc n) = ne_eqb (suc n) 0 (λ e. cc) ∙ sym (lt-leb (suc n) 0 (omega arith))

pub returns-in-None : goal.returns-in-None
returns-in-None c =
    none_more c.args.count ∙ ap (nat_le c.args.count) (sym (done_is c.args.self.now c.args.at c.keeps.ensures.order ∙ ap lane_done c.in-None.ensures.none))

pub returns-in-Some : goal.returns-in-Some
returns-in-Some c =
    c.reached.ensures ∙ ap (nat_le c.args.count) (ap lane_done c.in-Some.ensures.lane ∙ sym (done_is c.args.self.now c.args.at c.keeps.ensures.order))
