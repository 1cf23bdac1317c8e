use Rattle.std.proofs.Common.{◌≡◌, ℕ, ◌<◌, List, length, map, Some, get_or, refl, ap, ◌∙◌}
use Rattle.std.specs.Prelude.{slice_get}
use Rattle.std.specs.Option.{option_map}
use Rattle.std.proofs.lemmas.Option.{slice_get_read, slice_get-map}
use Rattle.std.proofs.Math.Seq.{map-set_same}
use Rattle.acc_host.specs.declared.program.Statement.{Statement}
use Rattle.acc_host.specs.Hosts.{bare}
use Rattle.acc_host.proofs.turn.turn_at.Goals as goal

-- the statement that is read, without its ids
read : (xs : List Statement) (k : ℕ) (s : Statement) → k < length xs → s ≡ get_or xs k s → slice_get (map bare xs) k ≡ Some (bare (get_or xs k s))
read xs k s within is =
    let here : slice_get xs k ≡ Some s = slice_get_read xs (length xs) k s refl within is in
    slice_get-map bare xs k ∙ ap (option_map bare) here ∙ ap (λ x. Some (bare x)) is

pub returns-clause-bare : goal.returns-clause-bare
returns-clause-bare g c =
    map-set_same bare c.args.statements.now c.args.ended.now c.turn.new.statement c.index-statements-at.result c.turn.ensures.bare

pub returns-clause-moves : goal.returns-clause-moves
returns-clause-moves g c =
    rw (read c.args.statements.now c.args.ended.now c.index-statements-at.result c.requires.within c.index-statements-at.is) c.turn.ensures.moves
