-- The keys of entries: how many are at most a range's, and what keeps them.
use Rattle.std.proofs.Common.{◌≡◌, ℕ, ◌+◌, ◌<◌, ◌≤◌, zero, suc, true, not, cond, List, [], ◌∷◌, length, map, set, get_or, insert, remove, take, drop, refl, sym, ap, ◌∙◌, arith}
use Rattle.std.specs.Prelude.{nat_lt, All}
use Rattle.std.proofs.lemmas.Bool.Decides.{nat_tests}
use Rattle.std.proofs.lemmas.List.Elements.{All-append, All-cons, All-drop, All-get_or, All-head, All-nil, All-set, All-tail, All-take}
use Rattle.acc_base.proofs.Lists.{map-insert, map-remove}
use Rattle.acc_base.specs.declared.range.Range.{Range}
use Rattle.acc_raw.specs.Indices.{up_to}
use Rattle.acc_present.specs.declared.entry.Entry.{Entry}
use Rattle.acc_present.specs.Lifetimes.{is_before}
use Rattle.acc_present.specs.Tables.{entry_presence}
use Rattle.acc_present.specs.inner.Keys.{AreKeyed, behind, key_of}
use Rattle.acc_present.proofs.EnterAndExit.{shown}

abbrev entry_key : Entry → ℕ
entry_key e = key_of e.range

abbrev IsLow : Entry → Type 0
IsLow e = e.range.lo < 4294967296

key_before : (r a : Range) → r.lo < 4294967296 → a.lo < 4294967296 → nat_lt (key_of r) (key_of a) ≡ is_before r a
unfolding is_before
key_before r a low high = grind (arith, nat_tests, low, high)

-- as many keys are at most a range's as entries don't begin behind it
up_to_is : (r : Range) (es : List Entry) → r.lo < 4294967296 → All IsLow es → up_to (key_of r) (map entry_key es) ≡ behind r (shown es)
up_to_is r [] low all = refl
up_to_is r (e ∷ es) low all =
    let rest = up_to_is r es low (All-tail IsLow e es all) in
    ap (λ b. cond (not b) (1 + up_to (key_of r) (map entry_key es)) 0) (key_before r e.range low (All-head IsLow e es all)) ∙ ap (λ n. cond (not (is_before r e.range)) (1 + n) 0) rest

pub keyed_behind : (r : Range) (es : List Entry) (ks : List ℕ) → r.lo < 4294967296 → AreKeyed es ks → up_to (key_of r) ks ≡ behind r (shown es)
keyed_behind r es ks low keyed = ap (λ l. up_to (key_of r) l) keyed.keys ∙ up_to_is r es low keyed.low

same_keys : (es : List Entry) (i : ℕ) (x y : Entry) → x ≡ get_or es i x → y.range ≡ x.range → map entry_key (set es i y) ≡ map entry_key es
same_keys [] i x y is same = refl
same_keys (e ∷ es) zero x y is same = ap (λ r. key_of r ∷ map entry_key es) (same ∙ ap (λ (z : Entry). z.range) is)
same_keys (e ∷ es) (suc i) x y is same = ap (λ l. entry_key e ∷ l) (same_keys es i x y is same)

pub keyed_set : (es : List Entry) (ks : List ℕ) (i : ℕ) (x y : Entry) → i < length es → x ≡ get_or es i x → y.range ≡ x.range → AreKeyed es ks → AreKeyed (set es i y) ks
keyed_set es ks i x y low is same keyed =
    let here = ap (λ (r : Range). r.lo) (same ∙ ap (λ (z : Entry). z.range) is) in let under = All-get_or IsLow es i x low keyed.low in
    record { keys = keyed.keys ∙ sym (same_keys es i x y is same); low = All-set IsLow es i y (omega (arith, here, under)) keyed.low }

pub keyed_insert : (es : List Entry) (ks : List ℕ) (i : ℕ) (e : Entry) → e.range.lo < 4294967296 → AreKeyed es ks → AreKeyed (insert es i e) (insert ks i (key_of e.range))
keyed_insert es ks i e low keyed = record {
  keys = ap (λ l. insert l i (key_of e.range)) keyed.keys ∙ sym (map-insert entry_key es i e);
  low = All-append IsLow (take i es) (e ∷ drop i es) (All-take IsLow i es keyed.low) (All-cons IsLow e (drop i es) low (All-drop IsLow i es keyed.low));
}

pub keyed_remove : (es : List Entry) (ks : List ℕ) (i : ℕ) → AreKeyed es ks → AreKeyed (remove es i) (remove ks i)
keyed_remove es ks i keyed = record {
  keys = ap (λ l. remove l i) keyed.keys ∙ sym (map-remove entry_key es i);
  low = All-append IsLow (take i es) (drop (suc i) es) (All-take IsLow i es keyed.low) (All-drop IsLow (suc i) es keyed.low);
}
