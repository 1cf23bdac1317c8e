-- What holds of every operation of a batch, group by group.
use Rattle.std.proofs.Common.{ℕ, Bool, true, false, cond, List, [], ◌∷◌, map}
use Rattle.std.specs.Prelude.{All}
use Rattle.std.specs.List.{flat_map}
use Rattle.std.proofs.lemmas.List.Elements.{All-nil, All-cons, All-append}
use Rattle.acc_base.specs.declared.range.Range.{Range}
use Rattle.acc_batch.specs.declared.label.OpLabel.{OpLabel}
use Rattle.acc_batch.specs.declared.label.OpLabel.TheVariants.{Make, CopyIn, CopyOut, Release}
use Rattle.acc_place.specs.declared.directive.Clause.{Clause}
use Rattle.acc_place.specs.declared.directive.Clause.TheVariants.{Copy, Copyin, Copyout, Create, Present, NoCreate, Delete, UpdateSelf, UpdateDevice}
use Rattle.acc_place.specs.Batches.{makes, copy_ins, updates, updates_by, copy_outs, releases, copies_in, copies_out, opened_blocks, ended_blocks, holding_blocks, grouped}
use Rattle.acc_place.specs.Standings.{Visit}

-- It holds of all that makes, copies or releases one block.
pub record HoldsOfBlocks (P : OpLabel → Type 0) : Type 0 where
  pub make : (r : Range) (b : ℕ) → P (Make r b)
  pub copy_in : (r : Range) (b : ℕ) → P (CopyIn r b)
  pub copy_out : (r : Range) (b : ℕ) → P (CopyOut r b)
  pub release : (b : ℕ) → P (Release b)

module _ (P : OpLabel → Type 0) where
  each_of : (f : ℕ → OpLabel) (bs : List ℕ) → ((b : ℕ) → P (f b)) → All P (map f bs)
  each_of f [] h = All-nil P
  each_of f (b ∷ bs) h = All-cons P (f b) (map f bs) (h b) (each_of f bs h)

  if_each : (t : Bool) (f : ℕ → OpLabel) (bs : List ℕ) → ((b : ℕ) → P (f b)) → All P (cond t (map f bs) [])
  if_each true f bs h = each_of f bs h
  if_each false f bs h = All-nil P

  update_each : HoldsOfBlocks P → (c : Clause) (r : Range) (bs : List ℕ) → All P (updates_by c r bs)
  update_each h UpdateSelf r bs = each_of (λ b. CopyOut r b) bs (λ b. h.copy_out r b)
  update_each h UpdateDevice r bs = each_of (λ b. CopyIn r b) bs (λ b. h.copy_in r b)
  update_each h Copy r bs = All-nil P
  update_each h Copyin r bs = All-nil P
  update_each h Copyout r bs = All-nil P
  update_each h Create r bs = All-nil P
  update_each h Present r bs = All-nil P
  update_each h NoCreate r bs = All-nil P
  update_each h Delete r bs = All-nil P

  each_visit : (f : Visit → List OpLabel) (vs : List Visit) → ((v : Visit) → All P (f v)) → All P (flat_map f vs)
  each_visit f [] h = All-nil P
  each_visit f (v ∷ vs) h = All-append P (f v) (flat_map f vs) (h v) (each_visit f vs h)

  -- so of all that a walk does, where it holds of its loop
  pub grouped_all : HoldsOfBlocks P → (run : List OpLabel) (vs : List Visit) → All P run → All P (grouped run vs)
  grouped_all h run vs ran =
      All-append P (flat_map makes vs) _ (each_visit makes vs (λ v. each_of (λ b. Make v.item.range b) (opened_blocks v) (λ b. h.make v.item.range b)))
      (All-append P (flat_map copy_ins vs) _ (each_visit copy_ins vs (λ v. if_each (copies_in v.item.clause) (λ b. CopyIn v.item.range b) (opened_blocks v) (λ b. h.copy_in v.item.range b)))
      (All-append P run _ ran
      (All-append P (flat_map updates vs) _ (each_visit updates vs (λ v. update_each h v.item.clause v.item.range (holding_blocks v.before v.item.range)))
      (All-append P (flat_map copy_outs vs) _ (each_visit copy_outs vs (λ v. if_each (copies_out v.item.clause) (λ b. CopyOut v.item.range b) (ended_blocks v) (λ b. h.copy_out v.item.range b)))
      (each_visit releases vs (λ v. each_of Release (ended_blocks v) h.release))))))
