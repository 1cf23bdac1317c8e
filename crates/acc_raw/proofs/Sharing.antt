-- A `&` to the nodes is made where one to what they hold is. Assumes `Logic`.
use Rattle.std.specs.Prelude.{List, [], ◌∷◌}
use base.Fml.{Lft, Incl, ftrue}
use base.Fraction.{full_share}
use denote.Memory.{lone}
use denote.Param.Laws.{Laws}
use denote.RattleType.{RattleType}
use denote.RawPtr.{lies_at}
use denote.Shares.{Shares-less}
use denote.Sharing.{ShrLaws}
use denote.SharingLaws.{beside_shr_laws, nothing_shr_laws}
use denote.Struct.Lending.{lent_at, lent_at_shr_laws, Lends, Lends-lies, Lends-first, Lends-both, Lends-nothing}
use mir.Raw.{raw}
use seplogic.Ra.Ura.{Ura}
use types.Logic.{Logic}
use Rattle.acc_raw.specs.inner.Links.{Lying}
use Rattle.acc_raw.specs.inner.Ownership.{links_own, links_lent, frees}

module _ (R : RattleType) (L : Laws R) where
  pub links_lent_laws : (ps : List (Lying R.Denot)) → ShrLaws (links_lent R ps)
  links_lent_laws [] = nothing_shr_laws
  links_lent_laws (p ∷ ps) = beside_shr_laws _ _ (lent_at_shr_laws R L.shr_laws p.0 p.1) (links_lent_laws ps)

  module _ {M : Type 1} {𝓤 : Ura M} (𝓛 : Logic 𝓤) (l : Lft) (inc : Incl l R.lives) where
    -- for as long as what they hold lives
    pub links_lend : (ps : List (Lying R.Denot)) → Lends 𝓛 (links_own R ps) (links_lent R ps) l
    links_lend [] = Lends-nothing 𝓛 ftrue l
    links_lend (p ∷ ps) =
        let node = lies_at R full_share p.0 p.1 in
        let lent = lent_at R p.0 p.1 in
        let one = Lends-first 𝓛 node (frees (raw (lone R.mir)) p.0) lent l (Lends-lies 𝓛 R l p.0 p.1 (Shares-less 𝓛 R R.lives l inc (L.shares 𝓛) p.1)) in
        Lends-both 𝓛 _ (links_own R ps) lent (links_lent R ps) l one (links_lend ps)
