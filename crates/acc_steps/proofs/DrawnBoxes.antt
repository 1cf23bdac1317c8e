-- Boxes that come one after another.
use Rattle.std.proofs.Common.{inl, inr, true, ◌≡◌, ℕ, ◌+◌, List, [], ◌∷◌, ◌++◌, ◌<◌, ◌≤◌, length, take, refl, sym, ap, ◌∙◌, arith}
use Rattle.std.specs.Prelude.{◌||◌, nat_lt}
use Rattle.std.proofs.Math.ListN.{get_or}
use Rattle.std.proofs.lemmas.Bool.{cases_Bool, ltb-true}
use Rattle.std.proofs.lemmas.Grind.{flat_map-append}
use Rattle.std.proofs.lemmas.List.{append-nil, append_assoc, length-append, length-map, map-append, take_more}
use Rattle.acc_steps.specs.declared.picture.TheConstants.{MAX_BOXES, MAX_BYTES}
use Rattle.acc_steps.specs.declared.scene.Drawn.{Drawn}
use Rattle.acc_steps.specs.Pictures.{AreBoxes, PassesALimit, box_text, boxed, joined}
use Rattle.acc_steps.specs.Scenes.{lines_in}

boxes_more : (lines : List (List ℕ)) (line text layout : List ℕ) → AreBoxes lines text → AreBoxes (lines ++ line ∷ []) (text ++ box_text line layout)
boxes_more [] line text layout none = rw none (layout, [], refl, sym (append-nil (box_text line layout)))
boxes_more (first ∷ lines) line text layout (its, others, are, whole) = (
  its,
  others ++ box_text line layout,
  boxes_more lines line others layout are,
  ap (λ t. t ++ box_text line layout) whole ∙ append_assoc (box_text first its) others (box_text line layout),
)

-- the lines of one box more
lines_more : (boxes : List Drawn) (i : ℕ) (d : Drawn) → i < length boxes → lines_in (take (i + 1) boxes) ≡ lines_in (take i boxes) ++ (get_or boxes i d).line.items ∷ []
lines_more boxes i d below =
    ap lines_in (take_more boxes i d below) ∙ map-append (λ (d : Drawn). d.line.items) (take i boxes) (get_or boxes i d ∷ [])

pub box_next : (boxes : List Drawn) (i : ℕ) (d : Drawn) (before now after layout : List ℕ) → i < length boxes
    → ((text : List ℕ) × AreBoxes (lines_in (take i boxes)) text × (now ≡ before ++ text))
    → after ≡ now ++ box_text (get_or boxes i d).line.items layout
    → (text : List ℕ) × AreBoxes (lines_in (take (i + 1) boxes)) text × (after ≡ before ++ text)
box_next boxes i d before now after layout below (text, are, is) pushed =
    let line = (get_or boxes i d).line.items in (
      text ++ box_text line layout,
      rw (lines_more boxes i d below) (boxes_more (lines_in (take i boxes)) line text layout are),
      pushed ∙ ap (λ t. t ++ box_text line layout) is ∙ append_assoc before text (box_text line layout),
    )

-- ## Lines of steps

joined_more : (lines : List (List ℕ)) (line : List ℕ) → joined (lines ++ boxed line) ≡ joined lines ++ line
joined_more lines [] = ap joined (append-nil lines) ∙ sym (append-nil (joined lines))
joined_more lines (b ∷ bs) = flat_map-append (λ (l : List ℕ). l) lines ((b ∷ bs) ∷ []) ∙ ap (λ t. joined lines ++ t) (append-nil (b ∷ bs))

pub joined_boxed : (line : List ℕ) (rest : List (List ℕ)) → joined (boxed line ++ rest) ≡ line ++ joined rest
joined_boxed [] rest = refl
joined_boxed (b ∷ bs) rest = refl

-- as many bytes more as the line has
pub longer : (lines : List (List ℕ)) (line : List ℕ) → length (joined (lines ++ boxed line)) ≡ length (joined lines) + length line
longer lines line = ap length (joined_more lines line) ∙ length-append (joined lines) line

boxed_some : (line : List ℕ) → (length line ≡ 0 → ⊥) → boxed line ≡ line ∷ []
boxed_some [] some = absurd (some refl)
boxed_some (b ∷ bs) some = refl

pub box_added : (boxes : List Drawn) (d : Drawn) (line : List ℕ) → d.line.items ≡ line → (length line ≡ 0 → ⊥)
    → lines_in (boxes ++ d ∷ []) ≡ lines_in boxes ++ boxed line
box_added boxes d line is some =
    map-append (λ (d : Drawn). d.line.items) boxes (d ∷ []) ∙ ap (λ l. lines_in boxes ++ l) (ap (λ l. l ∷ []) is ∙ sym (boxed_some line some))

-- ## Limits

pub limit_passed : (boxes : List Drawn) (bytes : ℕ) → (nat_lt MAX_BOXES (length boxes) || nat_lt MAX_BYTES bytes) ≡ true
    → bytes ≤ length (joined (lines_in boxes)) → PassesALimit (lines_in boxes)
limit_passed boxes bytes is few = elim (cases_Bool (nat_lt MAX_BOXES (length boxes))) [
  | inl many ↦
      let more : MAX_BOXES < length boxes = ltb-true MAX_BOXES (length boxes) many in
      inl (omega (arith, more, length-map boxes (λ (d : Drawn). d.line.items)))
  | inr few_boxes ↦
      let long : nat_lt MAX_BYTES bytes ≡ true = sym (ap (λ t. t || nat_lt MAX_BYTES bytes) few_boxes) ∙ is in
      let more : MAX_BYTES < bytes = ltb-true MAX_BYTES bytes long in
      inr (omega (arith, more, few))
]
