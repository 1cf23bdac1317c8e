-- What a store owns and lends, where its nodes are of the row R.
use Rattle.std.specs.Prelude.{List, [], ◌∷◌}
use mir.Syntax.{Ty}
use base.Fml.{Lft, Fml, ftrue, fsep}
use denote.RattleType.{RattleType}
use denote.RawPtr.{Ptr}
use denote.Sharing.{nothing, beside}
use denote.Struct.Lending.{lent_at}
use Rattle.std.specs.Global.{Global}
use Rattle.std.specs.contracts.impls.GlobalAllocator.TheImpl.{ghosts}
use Rattle.std_alloc.specs.Box.Ownership.{box_owns}
use Rattle.acc_raw.specs.inner.Links.{Lying}

-- the handle of `Global`, which is one value
abbrev pub heap : Global
heap = record { memory = record { seal = tt } }

-- the right to give a block back to it
abbrev pub frees : Ty → Ptr → Fml
frees = ghosts.dealloc_token heap

-- ownership of each node and the right to free it
abbrev pub links_own : (R : RattleType) → List (Lying R.Denot) → Fml
links_own R [] = ftrue
links_own R (p ∷ ps) = fsep (box_owns frees R p.0 p.1) (links_own R ps)

-- what a `&` holds of each node
abbrev pub links_lent : (R : RattleType) → List (Lying R.Denot) → Lft → Fml
links_lent R [] = nothing
links_lent R (p ∷ ps) = beside (lent_at R p.0 p.1) (links_lent R ps)
