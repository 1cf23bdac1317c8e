-- Logs in which two entries are turned show the same, where the cells do.
use Rattle.std.proofs.Common.{◌≡◌, ℕ, ◌+◌, Bool, true, false, List, [], ◌∷◌, ◌++◌, length, refl, sym, ap, ◌∙◌, ℤ}
use Rattle.std.proofs.lemmas.List.{length_push}
use Rattle.acc_base.specs.declared.ids.QueueAt.{QueueAt}
use Rattle.acc_base.specs.Queues.{same_queue}
use Rattle.acc_batch.specs.declared.entry.Told.{Told}
use Rattle.acc_batch.specs.declared.entry.WorkEntry.{WorkEntry}
use Rattle.acc_batch.specs.declared.entry.WorkEntry.TheVariants as entry
use Rattle.acc_batch.specs.declared.label.OpLabel.{OpLabel}
use Rattle.acc_work.specs.Logs.{one_more, performed}
use Rattle.acc_explore.specs.Alike.{AlikeLogs, SameCells}

-- as many operations, whichever comes first
turned_length : {X : Type 0} (b c : Bool) (xs : List X) (x y : X) → length (one_more b (one_more c xs y) x) ≡ length (one_more c (one_more b xs x) y)
turned_length true true xs x y = length_push (xs ++ y ∷ []) x ∙ (ap (λ n. n + 1) (length_push xs y ∙ sym (length_push xs x)) ∙ sym (length_push (xs ++ x ∷ []) y))
turned_length true false xs x y = refl
turned_length false true xs x y = refl
turned_length false false xs x y = refl

module _ (arrays : List (List ℤ)) (work : List WorkEntry) (at : QueueAt) where
  pub ops_turned : (other : QueueAt) (op x : OpLabel) → SameCells arrays (entry.Op other x ∷ entry.Op at op ∷ work) (entry.Op at op ∷ entry.Op other x ∷ work)
      → AlikeLogs arrays (entry.Op other x ∷ entry.Op at op ∷ work) (entry.Op at op ∷ entry.Op other x ∷ work)
  ops_turned other op x cells = record {
    done = λ q. turned_length (same_queue other q) (same_queue at q) (performed q work) x op;
    shown = λ h. refl;
    items = refl;
    cells = cells;
  }

  pub item_turned : (op : OpLabel) (host : ℕ) (what : Told) → SameCells arrays (entry.Item host what ∷ entry.Op at op ∷ work) (entry.Op at op ∷ entry.Item host what ∷ work)
      → AlikeLogs arrays (entry.Item host what ∷ entry.Op at op ∷ work) (entry.Op at op ∷ entry.Item host what ∷ work)
  item_turned op host what cells = record { done = λ q. refl; shown = λ h. refl; items = refl; cells = cells }
