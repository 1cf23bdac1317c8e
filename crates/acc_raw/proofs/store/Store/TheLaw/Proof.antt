-- A `&` to the nodes reaches each. Assumes `Logic`.
use contract.BorrowLft.{meet_⊑_left, ⊑_trans}
use denote.Param.Laws.{Laws}
use denote.Param.Shared.{copy_shared}
use denote.RattleType.{RattleType}
use denote.RawPtr.{RawPtr}
use denote.Struct.Laws.{field_copy}
use denote.Struct.Lending.{of_Lends}
use mathlib.Core.List.{[], ◌++◌}
use Rattle.core.specs.contracts.marker.PhantomData as phantom
use Rattle.acc_raw.proofs.Sharing.{links_lent_laws, links_lend}
use Rattle.acc_raw.proofs.store.Store.TheLaw.Statement.{statement}
use Rattle.acc_raw.specs.contracts.store.Store as store

pub shares : (R : RattleType) (L : Laws R) → statement R L
shares R L =
    let lives = (store.the_row R).lives in
    let own = R.lives ++ [] in
    let within = ⊑_trans lives own R.lives (meet_⊑_left own []) (meet_⊑_left R.lives []) in
    let codes = store.the_codes R.Denot R.coded (phantom.the_row RawPtr).coded in
    let mark = copy_shared (phantom.the_field RawPtr) (field_copy (phantom.the_type RawPtr) tt) in
    of_Lends (store.struct R) codes (store.the_heap R) (store.the_lent R)
    (λ s p. links_lent_laws R L s.links) (mark, tt) (λ M 𝓤 𝓛 s p. links_lend R L 𝓛 lives within s.links)
