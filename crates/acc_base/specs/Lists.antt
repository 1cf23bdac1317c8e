-- Lists in an order, and lists that are mostly short, as they are held.
use Rattle.std.specs.Prelude.{List, [], ◌∷◌, ◌++◌, Bool, not, filter}
use Rattle.acc_base.specs.declared.few.Form.{Form}
use Rattle.acc_base.specs.declared.few.Form.TheVariants.{Empty, One, Two, Many}

module _ {T : Type 0} where
  -- An item is inserted behind those that it isn't before, in front of the others.
  abbrev pub inserted_by : (T → T → Bool) → T → List T → List T
  inserted_by is_before item others =
      filter (λ other. not (is_before item other)) others ++ item ∷ filter (λ other. is_before item other) others

  abbrev pub items_of : Form T → List T
  items_of Empty = []
  items_of (One items) = items
  items_of (Two items) = items
  items_of (Many items) = items.items
