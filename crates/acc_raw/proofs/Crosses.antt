-- A store may cross threads as what its nodes hold may.
use Rattle.std.specs.Prelude.{List, [], ◌∷◌}
use base.Shift.{Keyless}
use denote.Param.Send.{IsSend, IsSync, Common, AllSend, owning_send, struct_send, struct_sync, sendable}
use denote.RattleType.{RattleType}
use denote.Struct.Owning.{shape, fields, to}
use denote.Struct.Struct.{exits_of}
use Rattle.std.proofs.Crossing as crossing
use Rattle.std_alloc.proofs.SendSync.{quiet, lies, seen}
use Rattle.acc_raw.specs.contracts.store.Store as store
use Rattle.acc_raw.specs.inner.Links.{Lying}
use Rattle.acc_raw.specs.inner.Ownership.{heap, links_own, links_lent}

module _ (R : RattleType) where
  -- each node, and the right to free it
  owned_cross : IsSend R → (ps : List (Lying R.Denot)) → Keyless (links_own R ps)
  owned_cross one [] = tt
  owned_cross one (p ∷ ps) = ((lies R one p.0 p.1, crossing.frees.frees heap _ p.0), owned_cross one ps)

  lent_cross : IsSync R → (ps : List (Lying R.Denot)) → Common (links_lent R ps)
  lent_cross one [] κ = tt
  lent_cross one (p ∷ ps) κ = (seen R one p.0 p.1 κ, lent_cross one ps κ)

  pub store_sends : IsSend R → IsSend (store.the_row R)
  store_sends one =
      let type = store.the_type R in
      let marks : AllSend (fields type) = (search sendable, tt) in
      let exit = struct_send (shape type) marks in
      owning_send type marks (λ s. owned_cross one s.links) (λ k. quiet (to type) (exits_of k (fields type)) (exit.leaving k))

  pub store_syncs : IsSync R → IsSync (store.the_row R)
  store_syncs one =
      let type = store.the_type R in
      let mark = struct_sync (shape type) (search sendable, tt) in
      record { shared = λ s b o κ. (mark.shared (to type s) b o κ, lent_cross one s.links κ) }
