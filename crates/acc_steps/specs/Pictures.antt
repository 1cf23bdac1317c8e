-- The picture of steps: a box for each, with the line that tells it.
use Rattle.std.specs.Prelude.{◌≡◌, ◌⊎◌, ℕ, ◌+◌, ◌<◌, Bool, ◌||◌, ◌&&◌, ◌==◌, nat_le, nat_lt, List, [], ◌∷◌, ◌++◌, length, take, codes, if◌then◌else◌}
use Rattle.std.specs.List.{flat_map}
use Rattle.acc_core.specs.Machine.{State, Step}
use Rattle.acc_host.specs.declared.state.Reply.{Reply}
use Rattle.acc_steps.specs.declared.picture.TheConstants.{MAX_BOXES, MAX_BYTES}
use Rattle.acc_steps.specs.declared.walk.Numbered.{Numbered}
use Rattle.acc_steps.specs.Deeds.{deed_of, line_at}
use Rattle.acc_steps.specs.Lines.{Words, step_text}
use Rattle.acc_steps.specs.Walks.{AreTold}

-- ## A line in SVG

-- a tab, and the ends of lines
abbrev pub is_white : ℕ → Bool
is_white b = b == 9 || (b == 10 || b == 13)

abbrev pub is_drawn : ℕ → Bool
is_drawn b = nat_le 32 b && nat_lt b 127

-- a byte that means something to SVG is named, and one that isn't printed is a question mark
abbrev pub escaped_byte : ℕ → List ℕ
escaped_byte b =
    if b == 60 then codes "&lt;"
    else (if b == 62 then codes "&gt;"
    else (if b == 38 then codes "&amp;"
    else (if is_white b then codes " "
    else (if is_drawn b then b ∷ [] else codes "?"))))

abbrev pub escaped : List ℕ → List ℕ
escaped text = flat_map escaped_byte text

-- ## Boxes

-- a box: a group whose title is its line, laid out in some way
abbrev pub box_text : List ℕ → List ℕ → List ℕ
box_text line layout = codes "<g><title>" ++ (escaped line ++ (codes "</title>" ++ (layout ++ codes "</g>\n")))

-- Boxes of these lines, one behind the other.
abbrev pub AreBoxes : List (List ℕ) → List ℕ → Type 0
AreBoxes [] text = text ≡ []
AreBoxes (line ∷ lines) text = (layout : List ℕ) × (others : List ℕ) × AreBoxes lines others × (text ≡ box_text line layout ++ others)

-- A picture shows these lines, each in a box, in their order.
pub record ShowsLines (lines : List (List ℕ)) (picture : List ℕ) : Type 0 where
  pub head : List ℕ
  pub boxes : List ℕ
  pub tail : List ℕ
  pub are : AreBoxes lines boxes
  pub whole : picture ≡ head ++ (boxes ++ tail)

-- ## Steps

-- an event that isn't told has no box
abbrev pub boxed : List ℕ → List (List ℕ)
boxed [] = []
boxed (b ∷ bs) = (b ∷ bs) ∷ []

-- The machine makes these steps, the first of which has this number, and these are the lines of their boxes.
abbrev pub AreDrawn : Words → ℕ → List Numbered → State → State → List (List ℕ) → Type 0
AreDrawn t number [] old new lines = (new ≡ old) × (lines ≡ [])
AreDrawn t number (n ∷ others) old new lines =
    (answer : Reply) × (mid : State) × (rest : List (List ℕ)) × Step old n.event answer mid × AreDrawn t (number + 1) others mid new rest
    × (lines ≡ boxed (step_text t number n.line n.event (line_at old n.event) (deed_of old n.event answer mid) mid) ++ rest)

-- The machine makes this step, and its box is added.
abbrev pub DrawsOne : Words → ℕ → Numbered → State → State → List (List ℕ) → List (List ℕ) → Type 0
DrawsOne t number n old new before after =
    (answer : Reply) × Step old n.event answer new
    × (after ≡ before ++ boxed (step_text t number n.line n.event (line_at old n.event) (deed_of old n.event answer new) new))

abbrev pub joined : List (List ℕ) → List ℕ
joined lines = flat_map (λ line. line) lines

-- The lines of the boxes, one behind the other, are what is told of the steps.
abbrev pub PicturesTellAll : Type 0
PicturesTellAll =
    (t : Words) (number : ℕ) (events : List Numbered) (old new : State) (lines : List (List ℕ))
    → AreDrawn t number events old new lines → AreTold t number events old new (joined lines)

-- The machine makes these steps, and this is a picture of them.
pub record IsPicture (t : Words) (events : List Numbered) (old new : State) (picture : List ℕ) : Type 0 where
  pub lines : List (List ℕ)
  pub drawn : AreDrawn t 1 events old new lines
  pub shows : ShowsLines lines picture

-- too many boxes, or too many bytes in their lines
abbrev pub PassesALimit : List (List ℕ) → Type 0
PassesALimit lines = (MAX_BOXES < length lines) ⊎ (MAX_BYTES < length (joined lines))

-- The machine makes the first of these steps, and their picture would show too much.
pub record IsTooLarge (t : Words) (events : List Numbered) (old new : State) : Type 0 where
  pub count : ℕ
  pub lines : List (List ℕ)
  pub drawn : AreDrawn t 1 (take count events) old new lines
  pub passes : PassesALimit lines
