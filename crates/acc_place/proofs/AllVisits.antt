-- The items of a walk and their ends, visited as one list.
use Rattle.std.proofs.Common.{◌≡◌, List, [], ◌∷◌, ◌++◌, refl, ap}
use Rattle.acc_present.specs.Marks.{Mark}
use Rattle.acc_place.specs.Standings.{AskedItem, Walk, visits, marks_after, all_visits, marks_behind, marked_by}
use Rattle.acc_place.proofs.VisitLives.{visit}

-- the marks after two lists of items, one behind the other
pub marks_after-append : (ms : List Mark) (xs ys : List AskedItem) → marks_after ms (xs ++ ys) ≡ marks_after (marks_after ms xs) ys
marks_after-append ms [] ys = refl
marks_after-append ms (x ∷ xs) ys = marks_after-append (marked_by ms x) xs ys

-- and their visits
pub visits-append : (ms : List Mark) (xs ys : List AskedItem) → visits ms (xs ++ ys) ≡ visits ms xs ++ visits (marks_after ms xs) ys
visits-append ms [] ys = refl
visits-append ms (x ∷ xs) ys = ap (λ vs. visit ms x ∷ vs) (visits-append (marked_by ms x) xs ys)

-- what a walk asks of its items, and then of them as they leave
abbrev pub asks_of : Walk → List AskedItem
asks_of walk = walk.items ++ walk.ends

-- The visits of a walk are those of one list, and so are the marks behind it.
pub all_visits_are : (ms : List Mark) (walk : Walk) → visits ms (asks_of walk) ≡ all_visits ms walk
all_visits_are ms walk = visits-append ms walk.items walk.ends

pub marks_behind_are : (ms : List Mark) (walk : Walk) → marks_after ms (asks_of walk) ≡ marks_behind ms walk
marks_behind_are ms walk = marks_after-append ms walk.items walk.ends
