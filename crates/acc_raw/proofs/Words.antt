-- The machine values of what a store's calls are given: each is told by the value. Assumes `Logic`.
use Rattle.std.proofs.Common.{ℕ, List, [], ◌∷◌, refl}
use denote.Exit.{yes}
use denote.Laws.{Is, Tells, Typed}
use denote.RattleType.{RattleType}
use denote.RawPtr.{rawptr_vals, rawptr_Tells, rawptr_Lawful}
use denote.Signature.{plain}
use denote.Struct.Laws as struct
use denote.Struct.Owning.{Owning, shape, to}
use denote.Struct.Struct.{machine, Struct-Tells, Struct-Lawful}
use denote.Triple.Walked.{Goes, Goes-dropped, stay_dropped}
use mir.Val.{Val, vstruct, vnil}
use seplogic.Ra.Ura.{Ura}
use types.Logic.{Logic}
use Rattle.std.proofs.alloc.Global.TheLaws as heap_laws
use Rattle.std.specs.contracts.alloc.Global as heap
use Rattle.std.specs.contracts.impls.GlobalAllocator.TheImpl.{ghosts}
use Rattle.std_alloc.specs.contracts.boxed.Box as box
use Rattle.acc_raw.proofs.link.Place.TheLaws as place_laws
use Rattle.acc_raw.specs.contracts.link.Place as place
use Rattle.acc_raw.specs.contracts.nth.Nth as nth

-- a place is its pointer
abbrev pub place_vals : place.the_row.Denot → List Val
place_vals = struct.vals place.the_type place_laws.the_laws

pub place_tells : Tells place.the_row (Is place.the_row) place_vals
place_tells = struct.tells place.the_type place_laws.the_laws

-- a number that contracts see is nothing
abbrev pub nth_vals : nth.the_row.Denot → List Val
nth_vals n = vstruct vnil ∷ []

pub nth_tells : Tells nth.the_row (Is nth.the_row) nth_vals
nth_tells n vs is = Struct-Tells (shape nth.the_type) tt tt tt vs is.0

-- and a call uses up either, wherever it is passed
module _ {M : Type 1} {𝓤 : Ura M} (𝓛 : Logic 𝓤) (n : ℕ) where
  pub place_goes : Goes 𝓛 n (plain (λ _. place.the_row)) yes (stay_dropped (plain (λ _. place.the_row)) yes)
  place_goes = Goes-dropped 𝓛 n (plain (λ _. place.the_row)) yes (λ κs x w. refl)

  pub nth_goes : Goes 𝓛 n (plain (λ _. nth.the_row)) yes (stay_dropped (plain (λ _. nth.the_row)) yes)
  nth_goes = Goes-dropped 𝓛 n (plain (λ _. nth.the_row)) yes (λ κs x w. refl)

-- the handle of `Global`
abbrev pub heap_vals : heap.the_row.Denot → List Val
heap_vals = struct.vals heap.the_type heap_laws.the_laws

pub heap_tells : Tells heap.the_row (Is heap.the_row) heap_vals
heap_tells = struct.tells heap.the_type heap_laws.the_laws

-- a box of an R is its pointer and that handle
module _ (R : RattleType) where
  abbrev box_type : Owning
  box_type = box.the_type R heap.the_row ghosts

  abbrev pub Boxed : RattleType
  Boxed = box.the_row R heap.the_row ghosts

  abbrev pub box_vals : Boxed.Denot → List Val
  box_vals b = machine (shape box_type) (rawptr_vals, (heap_vals, tt)) (to box_type b) ∷ []

  pub box_tells : Tells Boxed (Is Boxed) box_vals
  box_tells b vs is = Struct-Tells (shape box_type) (rawptr_vals, (heap_vals, tt)) (rawptr_Tells, (heap_tells, tt)) (to box_type b) vs is.0

  pub box_typed : {M : Type 1} {𝓤 : Ura M} (𝓛 : Logic 𝓤) (b : Boxed.Denot) (vs : List Val) → Is Boxed b vs → Typed Boxed.mir vs
  box_typed 𝓛 b vs is = (Struct-Lawful 𝓛 (shape box_type) (rawptr_Lawful 𝓛, (heap_laws.the_row_laws.lawful 𝓛, tt))).typed (to box_type b) vs is.0
