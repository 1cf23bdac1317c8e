use Rattle.std.proofs.Common.{◌≡◌, ◌∷◌, ◌++◌, [], refl}
use Rattle.std.proofs.lemmas.List.{map-append}
use Rattle.acc_base.specs.Configurations.{rows}
use Rattle.acc_script.specs.Arrays.{Declared, texts}
use Rattle.acc_script.proofs.ArrayNames.{one_more_name, one_more_declared}
use Rattle.acc_script.proofs.arrays.Arrays.declare.Goals as goal

pub invariant_of-self-2 : goal.invariant_of-self-2
invariant_of-self-2 c =
    let old : Declared = record { names = texts c.self.inside.names.keys; cells = rows c.self.inside.cells.items } in
    let fresh = rw (← c.self.view_is) at c.requires.fresh in
    let names = one_more_name c.self.inside.names.keys c.insert_full.new.self.keys c.args.name fresh c.in_ok-insert_full.ensures.keys in
    let cells : rows c.push_reserved.new.self.items ≡ rows c.self.inside.cells.items ++ c.args.cells.items ∷ [] =
    rw (c.push_reserved.ensures.items, c.reserve.ensures.items) (map-append (λ v. v.items) c.self.inside.cells.items (c.args.cells ∷ [])) in
    rw (names, cells) (one_more_declared old c.args.name.now c.args.cells.items c.self.invariant (rw (← c.self.view_is) at c.requires.few) c.requires.size)

pub returns-clause-declared : goal.returns-clause-declared
returns-clause-declared c =
    let fresh = rw (← c.self.view_is) at c.requires.fresh in
    let names = one_more_name c.self.inside.names.keys c.insert_full.new.self.keys c.args.name fresh c.in_ok-insert_full.ensures.keys in
    let cells : rows c.push_reserved.new.self.items ≡ rows c.self.inside.cells.items ++ c.args.cells.items ∷ [] =
    rw (c.push_reserved.ensures.items, c.reserve.ensures.items) (map-append (λ v. v.items) c.self.inside.cells.items (c.args.cells ∷ [])) in
    rw (← c.self.view_is, names, cells) refl
