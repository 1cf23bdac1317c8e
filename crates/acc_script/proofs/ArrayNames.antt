-- Tests of names as a program holds them.
use Rattle.std.proofs.Common.{◌≡◌, ◌+◌, ◌≤◌, ◌<◌, ℕ, Bool, false, cond, List, [], ◌∷◌, ◌++◌, length, refl, ap, sym, ◌∙◌, arith, get_or}
use Rattle.std.specs.Borrow.{Bor}
use Rattle.std.specs.Prelude.{not, ◌||◌, ℤ, Vec, bytes_eq}
use Rattle.std.proofs.lemmas.List.{map-append, length-append, length-map, get_or-map}
use Rattle.std.proofs.lemmas.List.Elements.{All-nil, All-cons, All-append}
use Rattle.indexmap.specs.IndexSet.{insert_key}
use Rattle.std.specs.List.{list_any, position, position_or_len}
use Rattle.acc_base.specs.declared.config.TheConstants.{MAX_ARRAYS, MAX_CELLS}
use Rattle.acc_base.specs.Configurations.{rows}
use Rattle.acc_script.specs.Arrays.{Declared, IsDeclared, texts}

pub any_text : (p : List ℕ → Bool) (names : List (Bor (List ℕ))) → list_any p (texts names) ≡ list_any (λ name. p name.now) names
any_text p [] = refl
any_text p (name ∷ names) = ap (λ r. p name.now || r) (any_text p names)

first_text : (p : List ℕ → Bool) (names : List (Bor (List ℕ))) → position_or_len p (texts names) ≡ position_or_len (λ name. p name.now) names
first_text p [] = refl
first_text p (name ∷ names) = ap (λ n. cond (not (p name.now)) (1 + n) 0) (first_text p names)

pub place_of_text : (p : List ℕ → Bool) (names : List (Bor (List ℕ))) → position p (texts names) ≡ position (λ name. p name.now) names
place_of_text p names = rw (first_text p names, length-map names (λ name. name.now)) refl

-- a name that isn't there yet goes last
pub one_more_name : (names after : List (Bor (List ℕ))) (name : Bor (List ℕ)) → list_any (bytes_eq name.now) (texts names) ≡ false
    → after ≡ insert_key (λ a b. bytes_eq a.now b.now) names name → texts after ≡ texts names ++ name.now ∷ []
one_more_name names after name fresh is =
    let absent : list_any (λ other. bytes_eq name.now other.now) names ≡ false = sym (any_text (bytes_eq name.now) names) ∙ fresh in
    rw (is, absent) (map-append (λ name. name.now) names (name ∷ []))

-- an array more keeps the limits of what is declared
pub one_more_declared : (old : Declared) (name : List ℕ) (cells : List ℤ) → IsDeclared old → length old.names < MAX_ARRAYS
    → (1 ≤ length cells) × (length cells ≤ MAX_CELLS)
    → IsDeclared (record { names = old.names ++ name ∷ []; cells = old.cells ++ cells ∷ [] })
one_more_declared old name cells is few size =
    let IsFilled : List ℤ → Type 0 = λ cells. (1 ≤ length cells) × (length cells ≤ MAX_CELLS) in
    record {
      one_each = rw (length-append old.cells (cells ∷ []), length-append old.names (name ∷ []), is.one_each) refl;
      few = rw (length-append old.names (name ∷ [])) (omega (arith, few));
      sizes = All-append IsFilled old.cells (cells ∷ []) is.sizes (All-cons IsFilled cells [] size (All-nil IsFilled));
    }

-- an array has no more cells than the most
pub short_array : {Z : Type 0} (arrays : List (Vec ℤ Z)) (names : List (List ℕ)) (i : ℕ) (row : Vec ℤ Z)
    → IsDeclared (record { names = names; cells = rows arrays }) → i < length (rows arrays)
    → row ≡ get_or arrays i row → length row.items ≤ MAX_CELLS
short_array arrays names i row is within here =
    let low : i < length arrays = rw (length-map arrays (λ v. v.items)) at within in
    let same : get_or (rows arrays) i row.items ≡ row.items =
    get_or-map (λ v. v.items) arrays i row row.items low ∙ ap (λ v. v.items) (sym here) in
    rw same at (is.sizes i row.items within).1
