-- What a scene has drawn. Only private contracts and proofs cite it.
use Rattle.std.specs.Prelude.{ℕ, ◌≤◌, List, length, map}
use Rattle.acc_steps.specs.declared.scene.Drawn.{Drawn}
use Rattle.acc_steps.specs.Pictures.{joined}

-- the lines of its boxes
abbrev pub lines_in : List Drawn → List (List ℕ)
lines_in boxes = map (λ (d : Drawn). d.line.items) boxes
