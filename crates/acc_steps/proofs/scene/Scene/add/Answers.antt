use Rattle.std.proofs.Common.{◌≡◌, ◌++◌, length, ap, refl, ◌∙◌, arith}
use Rattle.std.proofs.lemmas.Bool.Decides.{nat_tests}
use Rattle.acc_steps.specs.declared.scene.Scene.{Scene}
use Rattle.acc_steps.specs.Deeds.{deed_of, line_at}
use Rattle.acc_steps.specs.Lines.{step_text, words_told}
use Rattle.acc_steps.specs.Pictures.{boxed}
use Rattle.acc_steps.specs.Scenes.{lines_in}
use Rattle.acc_steps.proofs.DrawnBoxes.{box_added}
use Rattle.acc_steps.proofs.scene.Scene.add.Goals as goal
use Rattle.acc_steps.proofs.scene.Scene.add.Goals.{then-matches+in_ok-note-2, else-matches}

pub returns-clause-drawn : goal.returns-clause-drawn
returns-clause-drawn c =
    let made = c.in_ok-deed.ensures.step in
    let event = c.args.next.now.event in
    let items = c.in_ok-line.line.items in
    let line : items ≡ step_text (words_told c.args.telling.now) c.args.number c.args.next.now.line event (line_at c.args.world.now event)
    (deed_of c.args.world.now event made.0 c.take_step.new.world) c.take_step.new.world = rw (c.line_at-statement.ensures, made.2) at c.in_ok-line.ensures.line in
    let some : length items ≡ 0 → ⊥ = λ none. absurd (grind (arith, nat_tests, c.is_empty.ensures, c.if-is_empty.false, none)) in
    let same : c.if-matches.self.boxes ≡ c.args.self.now.boxes = elim c.if-matches.branch [
      | then-matches+in_ok-note-2 w ↦ ap (λ (s : Scene). s.boxes) w.self-is
      | else-matches w ↦ ap (λ (s : Scene). s.boxes) w.self-is
    ] in
    let pushed : lines_in c.push.new.self.items ≡ lines_in c.if-matches.self.boxes.items ++ boxed items =
    ap lines_in c.in_ok-push.ensures.items
    ∙ box_added c.if-matches.self.boxes.items (record { lane = c.lane_in-lane.result; label = c.label_of.result; line = c.in_ok-line.line }) items refl some in
    (made.0, made.1, pushed ∙ ap (λ b. lines_in b.items ++ boxed items) same ∙ ap (λ t. lines_in c.args.self.now.boxes.items ++ boxed t) line)
