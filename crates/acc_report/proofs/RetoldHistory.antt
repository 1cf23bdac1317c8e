-- A history that was accepted can be told once more, entry by entry.
use Rattle.std.proofs.Common.{◌≡◌, ℕ, ◌+◌, ◌<◌, List, [], ◌∷◌, ◌++◌, length, drop, get_or, reverse, refl, sym, ap, subst, ◌∙◌, arith}
use Rattle.std.proofs.lemmas.List.{append_assoc, append-nil, drop_more, length-reverse, reverse-append}
use Rattle.acc_base.specs.Configurations.{Configuration}
use Rattle.acc_place.specs.Histories.{AllAccepted, standing}
use Rattle.acc_place.specs.Plans.{PlaceView}
use Rattle.acc_place.specs.declared.directive.PlaceEntry.{PlaceEntry}
use Rattle.acc_place.specs.declared.directive.PlaceEntry.TheVariants as entry
use Rattle.acc_report.specs.inner.Retelling.{AllFollow, HasCount, counts_gone, counts_left}

-- how many directives a history has
abbrev pub directives : List PlaceEntry → ℕ
directives [] = 0
directives (entry.Accepted host d ∷ es) = directives es + 1
directives (entry.Closing ∷ es) = directives es
directives (entry.Closed at ∷ es) = directives es

pub accepted_is : (config : Configuration) (history : List PlaceEntry) (counts : List ℕ) → (standing config history counts).accepted ≡ directives history
unfolding standing
accepted_is config [] counts = refl
accepted_is config (entry.Accepted host d ∷ before) counts = ap (λ (n : ℕ). n + 1) (accepted_is config before (drop 1 counts))
accepted_is config (entry.Closing ∷ before) counts = accepted_is config before counts
accepted_is config (entry.Closed at ∷ before) counts = accepted_is config before counts

directives-append : (xs ys : List PlaceEntry) → directives (xs ++ ys) ≡ directives xs + directives ys
directives-append [] ys = omega arith
directives-append (entry.Accepted host d ∷ xs) ys = let e = directives-append xs ys in omega (arith, e)
directives-append (entry.Closing ∷ xs) ys = directives-append xs ys
directives-append (entry.Closed at ∷ xs) ys = directives-append xs ys

-- what was gone through stands the other way round
turned : {X : Type 0} (x : X) (xs ys : List X) → reverse (x ∷ xs) ++ ys ≡ reverse xs ++ x ∷ ys
turned {X} x xs ys = ap (λ (r : List X). r ++ ys) (reverse-append (x ∷ []) xs) ∙ append_assoc (reverse xs) (x ∷ []) ys

pub directives-reverse : (es : List PlaceEntry) → directives (reverse es) ≡ directives es
directives-reverse [] = refl
directives-reverse (entry.Accepted host d ∷ es) =
    let e = directives-append (reverse es) (entry.Accepted host d ∷ []) in
    omega (arith, e, directives-reverse es, ap directives (reverse-append (entry.Accepted host d ∷ []) es))
directives-reverse (entry.Closing ∷ es) =
    let e = directives-append (reverse es) (entry.Closing ∷ []) in
    omega (arith, e, directives-reverse es, ap directives (reverse-append (entry.Closing ∷ []) es))
directives-reverse (entry.Closed at ∷ es) =
    let e = directives-append (reverse es) (entry.Closed at ∷ []) in
    omega (arith, e, directives-reverse es, ap directives (reverse-append (entry.Closed at ∷ []) es))

-- what stands before a history's latest entries was accepted too
peeled : (config : Configuration) (late history : List PlaceEntry) (counts gone : List ℕ) → length counts ≡ directives late → AllAccepted config (late ++ history) (counts ++ gone) → AllAccepted config history gone
peeled config [] history [] gone many all = all
peeled config [] history (n ∷ counts) gone many all = absurd (omega (arith, many))
peeled config (entry.Accepted host d ∷ late) history [] gone many all = absurd (omega (arith, many))
peeled config (entry.Accepted host d ∷ late) history (n ∷ counts) gone many all = peeled config late history counts gone (omega (arith, many)) all.1
peeled config (entry.Closing ∷ late) history counts gone many all = peeled config late history counts gone many all.1
peeled config (entry.Closed at ∷ late) history counts gone many all = peeled config late history counts gone many all.1

-- behind these histories
pub followed : (config : Configuration) (es history : List PlaceEntry) (counts gone : List ℕ) → length counts ≡ directives es → AllAccepted config (reverse es ++ history) (reverse counts ++ gone) → AllFollow config history gone es counts
followed config [] history [] gone many all = refl
followed config [] history (n ∷ counts) gone many all = absurd (omega (arith, many))
followed config (entry.Accepted host d ∷ es) history [] gone many all = absurd (omega (arith, many))
followed config (entry.Accepted host d ∷ es) history (n ∷ counts) gone many all =
    let e = entry.Accepted host d in
    let less : length counts ≡ directives es = omega (arith, many) in
    let behind : AllAccepted config (reverse es ++ e ∷ history) (reverse counts ++ n ∷ gone) =
    subst (λ (hs : List PlaceEntry). AllAccepted config hs (reverse counts ++ n ∷ gone)) (turned e es history)
    (subst (λ (ns : List ℕ). AllAccepted config (reverse (e ∷ es) ++ history) ns) (turned n counts gone) all) in
    let here = peeled config (reverse es) (e ∷ history) (reverse counts) (n ∷ gone) (length-reverse counts ∙ (less ∙ sym (directives-reverse es))) behind in
    (here.0, omega arith, followed config es (e ∷ history) counts (n ∷ gone) less behind)
followed config (entry.Closing ∷ es) history counts gone many all =
    let behind : AllAccepted config (reverse es ++ entry.Closing ∷ history) (reverse counts ++ gone) =
    subst (λ (hs : List PlaceEntry). AllAccepted config hs (reverse counts ++ gone)) (turned entry.Closing es history) all in
    let here = peeled config (reverse es) (entry.Closing ∷ history) (reverse counts) gone (length-reverse counts ∙ (many ∙ sym (directives-reverse es))) behind in
    (here.0, tt, followed config es (entry.Closing ∷ history) counts gone many behind)
followed config (entry.Closed at ∷ es) history counts gone many all =
    let e = entry.Closed at in
    let behind : AllAccepted config (reverse es ++ e ∷ history) (reverse counts ++ gone) =
    subst (λ (hs : List PlaceEntry). AllAccepted config hs (reverse counts ++ gone)) (turned e es history) all in
    let here = peeled config (reverse es) (e ∷ history) (reverse counts) gone (length-reverse counts ∙ (many ∙ sym (directives-reverse es))) behind in
    (here.0, tt, followed config es (e ∷ history) counts gone many behind)

-- ## In the middle

-- So many entries are told, and the others can follow.
pub record IsTold (config : Configuration) (es : List PlaceEntry) (counts : List ℕ) (i : ℕ) (p : PlaceView) (left : List ℕ) : Type 0 where
  pub same : p.config ≡ config
  pub follow : AllFollow config p.history p.counts (drop i es) left
  pub history : reverse (drop i es) ++ p.history ≡ reverse es
  pub gone : reverse left ++ p.counts ≡ reverse counts

pub nothing_told : (config : Configuration) (es : List PlaceEntry) (counts : List ℕ) (p : PlaceView) → p.config ≡ config → p.history ≡ [] → p.counts ≡ []
    → AllAccepted config (reverse es) (reverse counts) → length counts ≡ (standing config (reverse es) (reverse counts)).accepted → IsTold config es counts 0 p counts
nothing_told config es counts p same history gone all counted =
    let many : length counts ≡ directives es = counted ∙ (accepted_is config (reverse es) (reverse counts) ∙ directives-reverse es) in
    let accepted : AllAccepted config (reverse es ++ []) (reverse counts ++ []) =
    subst (λ (hs : List PlaceEntry). AllAccepted config hs (reverse counts ++ [])) (sym (append-nil (reverse es)))
    (subst (λ (ns : List ℕ). AllAccepted config (reverse es) ns) (sym (append-nil (reverse counts))) all) in
    let follow : AllFollow config p.history p.counts es counts =
    subst (λ (hs : List PlaceEntry). AllFollow config hs p.counts es counts) (sym history)
    (subst (λ (ns : List ℕ). AllFollow config [] ns es counts) (sym gone) (followed config es [] counts [] many accepted)) in
    record {
      same = same;
      follow = follow;
      history = ap (λ (hs : List PlaceEntry). reverse es ++ hs) history ∙ append-nil (reverse es);
      gone = ap (λ (ns : List ℕ). reverse counts ++ ns) gone ∙ append-nil (reverse counts);
    }

-- the entry that stands there, and what follows it
here_is : (es : List PlaceEntry) (i : ℕ) (e : PlaceEntry) → i < length es → e ≡ get_or es i e → drop i es ≡ e ∷ drop (i + 1) es
here_is es i e low is = drop_more es i e low ∙ ap (λ (x : PlaceEntry). x ∷ drop (i + 1) es) (sym is)

counts_turned : (e : PlaceEntry) (left gone : List ℕ) → HasCount e left → reverse (counts_left e left) ++ counts_gone e left gone ≡ reverse left ++ gone
counts_turned (entry.Accepted host d) [] gone has = absurd (omega (arith, has))
counts_turned (entry.Accepted host d) (n ∷ left) gone has = sym (turned n left gone)
counts_turned entry.Closing left gone has = refl
counts_turned (entry.Closed at) left gone has = refl

pub one_told : (config : Configuration) (es : List PlaceEntry) (counts : List ℕ) (i : ℕ) (p after : PlaceView) (left rest : List ℕ) (e : PlaceEntry) → i < length es → e ≡ get_or es i e
    → after.config ≡ p.config → after.history ≡ e ∷ p.history → after.counts ≡ counts_gone e left p.counts → rest ≡ counts_left e left
    → IsTold config es counts i p left → IsTold config es counts (i + 1) after rest
one_told config es counts i p after left rest e low is same history gone less told =
    let here = here_is es i e low is in
    let all : AllFollow config p.history p.counts (e ∷ drop (i + 1) es) left = subst (λ (xs : List PlaceEntry). AllFollow config p.history p.counts xs left) here told.follow in
    let behind : AllFollow config after.history after.counts (drop (i + 1) es) rest =
    subst (λ (hs : List PlaceEntry). AllFollow config hs after.counts (drop (i + 1) es) rest) (sym history)
    (subst (λ (ns : List ℕ). AllFollow config (e ∷ p.history) ns (drop (i + 1) es) rest) (sym gone)
    (subst (λ (ns : List ℕ). AllFollow config (e ∷ p.history) (counts_gone e left p.counts) (drop (i + 1) es) ns) (sym less) all.2)) in
    record {
      same = same ∙ told.same;
      follow = behind;
      history =
          ap (λ (hs : List PlaceEntry). reverse (drop (i + 1) es) ++ hs) history
          ∙ (sym (turned e (drop (i + 1) es) p.history) ∙ (ap (λ (xs : List PlaceEntry). reverse xs ++ p.history) (sym here) ∙ told.history));
      gone =
          ap (λ (ns : List ℕ). reverse ns ++ after.counts) less
          ∙ (ap (λ (ns : List ℕ). reverse (counts_left e left) ++ ns) gone ∙ (counts_turned e left p.counts all.1 ∙ told.gone));
    }
