-- Puts one after the other are a put of the joined text.
use Rattle.std.proofs.Common.{◌≡◌, ℕ, ◌+◌, Bool, true, false, List, [], ◌++◌, length, take, drop, Option, Some, None, Result, Ok, Err, refl, sym, ap, ◌∙◌, subst}
use Rattle.std.proofs.Math.Seq.{take-append-add, take-append_seam}
use Rattle.std.proofs.Math.Numerals.{add-one}
use Rattle.std.proofs.lemmas.List.{append_assoc, append-nil, take-append-drop}
use Rattle.std.specs.Io.KnownBytes.{Appends, Keeps}
use Rattle.acc_report.specs.Puts.{AppendsFront, Writes, Sink, sink, PutsBy, Puts}
use Rattle.acc_report.specs.Lines.{each_below}

pub appends_nothing : (a : Option (List ℕ)) → Appends a a []
appends_nothing None = tt
appends_nothing (Some xs) = sym (append-nil xs)

pub appends_then : (a b c : Option (List ℕ)) (x y : List ℕ) → Appends a b x → Appends b c y → Appends a c (x ++ y)
appends_then None b c x y first second = tt
appends_then (Some xs) None c x y first second = absurd first
appends_then (Some xs) (Some ys) None x y first second = absurd second
appends_then (Some xs) (Some ys) (Some zs) x y first second =
    second ∙ ap (λ l. l ++ y) first ∙ append_assoc xs x y

pub appends_kept : (a b : Option (List ℕ)) → Keeps a b → Appends a b []
appends_kept None b kept = tt
appends_kept (Some xs) None kept = absurd kept
appends_kept (Some xs) (Some ys) kept = kept ∙ sym (append-nil xs)

-- a beginning of the first text is one of the joined text
front_of_first : (n : ℕ) (x y : List ℕ) → take (length (take n x)) (x ++ y) ≡ take n x
front_of_first n x y =
    let whole : x ++ y ≡ take n x ++ (drop n x ++ y) = ap (λ l. l ++ y) (sym (take-append-drop n x)) ∙ append_assoc (take n x) (drop n x) y in
    ap (take (length (take n x))) whole ∙ take-append_seam (take n x) (drop n x ++ y)

front_then_nothing : (a b c : Option (List ℕ)) (x y : List ℕ) → AppendsFront a b x → Appends b c [] → AppendsFront a c (x ++ y)
front_then_nothing a b c x y first second =
    let n = first.0 in
    let joined : Appends a c (take n x) = rw append-nil at (appends_then a b c (take n x) [] first.1 second) in
    (length (take n x), rw (front_of_first n x y) joined)

appends_then_front : (a b c : Option (List ℕ)) (x y : List ℕ) → Appends a b x → AppendsFront b c y → AppendsFront a c (x ++ y)
appends_then_front a b c x y first second =
    (length x + second.0, rw (take-append-add x y second.0) (appends_then a b c x (take second.0 y) first second.1))

written_then : {A E : Type 0} (a b c : Option (List ℕ)) (result : Result A E) (x y : List ℕ)
    → Appends a b x → Writes b c result y → Writes a c result (x ++ y)
written_then a b c (Ok value) x y first second = appends_then a b c x y first second
written_then a b c (Err fault) x y first second = appends_then_front a b c x y first second

-- Who wrote the front of a text, and then the rest, wrote all of it.
pub written_front : {A E : Type 0} (n : ℕ) (a b c : Option (List ℕ)) (result : Result A E) (x rest : List ℕ)
    → rest ≡ drop n x → Appends a b (take n x) → Writes b c result rest → Writes a c result x
written_front n a b c result x rest is first second =
    let whole : take n x ++ rest ≡ x = ap (λ l. take n x ++ l) is ∙ take-append-drop n x in
    subst (λ l. Writes a c result l) whole (written_then a b c result (take n x) rest first second)

pub kept_then : {A E : Type 0} (a b c : Option (List ℕ)) (result : Result A E) (y : List ℕ)
    → Keeps a b → Writes b c result y → Writes a c result y
kept_then a b c result y kept second = written_then a b c result [] y (appends_kept a b kept) second

puts_by : (a : Option (List ℕ)) (fa : Bool) (b : Option (List ℕ)) (fb : Bool) (c : Option (List ℕ)) (fc : Bool) (x y : List ℕ)
    → PutsBy a fa b fb x → PutsBy b fb c fc y → PutsBy a fa c fc (x ++ y)
puts_by a true b true c fc x y first second = (second.0, appends_then a b c [] [] first.1 second.1)
puts_by a true b false c fc x y first second = absurd (let e : false ≡ true = first.0 in cc)
puts_by a false b true c true x y first second = front_then_nothing a b c x y first second.1
puts_by a false b true c false x y first second = absurd (let e : false ≡ true = second.0 in cc)
puts_by a false b false c true x y first second = appends_then_front a b c x y first second
puts_by a false b false c false x y first second = appends_then a b c x y first second

pub puts_then : {a b c : Sink} {x y : List ℕ} → Puts a b x → Puts b c y → Puts a c (x ++ y)
puts_then {a} {b} {c} {x} {y} first second =
    record { bytes = puts_by a.held a.failed b.held b.failed c.held c.failed x y first.bytes second.bytes }

nothing_by : (a : Option (List ℕ)) (failed : Bool) → PutsBy a failed a failed []
nothing_by a true = (refl, appends_nothing a)
nothing_by a false = appends_nothing a

pub puts_nothing : (a : Sink) → Puts a a []
puts_nothing a = record { bytes = nothing_by a.held a.failed }

pub puts_below : {a b c : Sink} (text : ℕ → List ℕ) (n : ℕ) → Puts a b (each_below n text) → Puts b c (text n)
    → Puts a c (each_below (n + 1) text)
puts_below text n first second = rw (add-one n) (puts_then first second)

-- What was put to a writer that had not failed was written, or a beginning of it.
pub written : (old new : Option (List ℕ)) (failed : Bool) (text : List ℕ) → failed ≡ false → Puts (sink old false) (sink new failed) text → Appends old new text
written old new true text is puts = absurd cc
written old new false text is puts = puts.bytes
