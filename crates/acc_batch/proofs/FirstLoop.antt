-- The first loop among some operations.
use Rattle.std.proofs.Common.{◌≡◌, List, [], ◌∷◌, reverse, refl, ap, subst, Some, None}
use Rattle.std.specs.List.{push}
use Rattle.std.specs.Option.{option_or}
use Rattle.std.proofs.lemmas.List.{reverse-append}
use Rattle.acc_batch.specs.declared.op.Op.{Op}
use Rattle.acc_batch.specs.declared.op.Op.TheVariants.{Make, CopyIn, CopyOut, Release, Run, Await, Close}
use Rattle.acc_batch.specs.Ops.{op_label, op_labels, AllReady, first_loop, loop_of}
use Rattle.acc_kernel.specs.Jobs.{Use, AreDistinct, HoldReached}
use Rattle.acc_kernel.specs.Kernels.{Loop}

-- it is the last one's, or else the first of the others turned round
pub first_pushed : (rest : List Op) (op : Op) → first_loop (op_labels (reverse (push rest op))) ≡ option_or (loop_of (op_label op)) (first_loop (op_labels (reverse rest)))
first_pushed rest op = ap (λ (ops : List Op). first_loop (op_labels ops)) (reverse-append rest (op ∷ []))

pub no_loop : (op : Op) → ((k : Loop) (uses : List Use) → op ≡ Run k uses → ⊥) → loop_of (op_label op) ≡ None
no_loop (Run k uses) other = absurd (other k uses refl)
no_loop (Make b m) other = refl
no_loop (CopyIn r b) other = refl
no_loop (CopyOut r b) other = refl
no_loop (Release b) other = refl
no_loop (Await q n) other = refl
no_loop Close other = refl

-- where operations are ready, it has its cells
pub first_has_its_cells : (ops : List Op) (k : Loop) (uses : List Use) → AllReady ops → first_loop (op_labels ops) ≡ Some (k, uses) → AreDistinct uses × HoldReached k uses
first_has_its_cells [] k uses ready e = absurd (let no : None ≡ Some (k, uses) = e in cc)
first_has_its_cells (Run k' uses' ∷ ops) k uses ready e =
    let same : (k', uses') ≡ (k, uses) = cc in
    subst (λ (p : Loop × List Use). AreDistinct p.1 × HoldReached p.0 p.1) same ready.0
first_has_its_cells (Make b m ∷ ops) k uses ready e = first_has_its_cells ops k uses ready.1 e
first_has_its_cells (CopyIn r b ∷ ops) k uses ready e = first_has_its_cells ops k uses ready.1 e
first_has_its_cells (CopyOut r b ∷ ops) k uses ready e = first_has_its_cells ops k uses ready.1 e
first_has_its_cells (Release b ∷ ops) k uses ready e = first_has_its_cells ops k uses ready.1 e
first_has_its_cells (Await q n ∷ ops) k uses ready e = first_has_its_cells ops k uses ready.1 e
first_has_its_cells (Close ∷ ops) k uses ready e = first_has_its_cells ops k uses ready.1 e
