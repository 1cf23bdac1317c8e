-- The lifetimes that one mark opens and ends, found in the marks, and what a table says of them.
use Rattle.std.proofs.Common.{◌≡◌, ℕ, zero, suc, ◌+◌, ◌<◌, Bool, true, false, cond, List, [], ◌∷◌, length, map, set, Some, None, refl, ap, ◌∙◌, arith, inl, inr}
use Rattle.std.specs.Prelude.{◌&&◌, not, filter}
use Rattle.std.proofs.lemmas.Bool.{cases_Bool, or_parts}
use Rattle.std.proofs.lemmas.List.{length-append}
use Rattle.std.proofs.lemmas.List.Filters.{length-filter_both}
use Rattle.acc_base.specs.Ranges.{range_contains}
use Rattle.acc_present.specs.Marks.{Mark}
use Rattle.acc_present.specs.Lifetimes.{Lifetime, opened_lifetimes, live_lifetimes, lives, opens, lifetime_inserted, can_open, is_before}
use Rattle.acc_present.specs.Presences.{Presence, presence_of, presences, is_present, holder}
use Rattle.acc_present.specs.Tables.{presence_after, stepped, has_count, is_table}
use Rattle.acc_present.proofs.KeptAfter.{map_at}
use Rattle.acc_present.proofs.Presences.{Each, IsSince, CanCountIn, CanCount, each_can_count, opened_since, lives-more, is_present-presences}
use Rattle.acc_present.proofs.TableOrder.{table_parts}
use Rattle.acc_present.proofs.Holder.{is_present-none}
use Rattle.acc_present.proofs.PresencesAfter.{found_in}

-- ## Opened

length-placed : (l : Lifetime) (ls : List Lifetime) → length (lifetime_inserted l ls) ≡ length ls + 1
length-placed l ls =
    let behind = λ (k : Lifetime). is_before l.range k.range in
    let e = length-append (filter (λ k. not (is_before l.range k.range)) ls) (l ∷ filter behind ls) in
    omega (arith, e, length-filter_both behind (λ k. not (is_before l.range k.range)) (λ _. refl) ls)

pub opened-more : (m : Mark) (ms : List Mark) → length (opened_lifetimes (m ∷ ms)) ≡ cond (can_open m.change && not (is_present (presences ms) m.range)) (length (opened_lifetimes ms) + 1) (length (opened_lifetimes ms))
unfolding opened_lifetimes
opened-more m ms =
    rw (is_present-presences ms m.range)
    (elim (cases_Bool (opens m ms (opened_lifetimes ms))) [
      | inl is_open ↦ rw is_open (length-placed (record { range = m.range; block = length (opened_lifetimes ms) + 1; since = length ms }) (opened_lifetimes ms))
      | inr is_shut ↦ rw is_shut refl
    ])

-- ## Ended

abbrev pub ended_of : List Mark → List Mark → List ℕ
ended_of after before = map (λ (l : Lifetime). l.block) (filter (λ l. not (lives after l)) (live_lifetimes before))

abbrev pub ended_in : Mark → List Presence → List ℕ
ended_in m ps = map (λ (p : Presence). p.block) (filter (λ p. not (has_count p)) (map (presence_after m) ps))

none_ended : (L : Lifetime → Bool) (ls : List Lifetime) → filter (λ l. not (L l)) (filter L ls) ≡ []
none_ended L [] = refl
none_ended L (l ∷ ls) =
    let ih = none_ended L ls in
    elim (cases_Bool (L l)) [ inl lives ↦ rw (lives, lives) ih | inr over ↦ rw over ih ]

-- no lifetime ends where there is no mark
pub ended-same : (ms : List Mark) → ended_of ms ms ≡ []
unfolding live_lifetimes
ended-same ms = ap (map (λ (l : Lifetime). l.block)) (none_ended (lives ms) (opened_lifetimes ms))

-- two lists of which one is the other's picture, and what ends in both
pub record EndsAlike {X Y : Type 0} (E : X → Y) (L L' : X → Bool) (g : Y → Y) (C : Y → Bool) (n : X → ℕ) (n' : Y → ℕ) (x : X) : Type 0 where
  pub kept : L' x ≡ (C (g (E x)) && L x)
  pub named : n' (g (E x)) ≡ n x

ends_alike : {X Y : Type 0} (E : X → Y) (L L' : X → Bool) (g : Y → Y) (C : Y → Bool) (n : X → ℕ) (n' : Y → ℕ) (xs : List X) → Each (EndsAlike E L L' g C n n') xs
    → map n (filter (λ x. not (L' x)) (filter L xs)) ≡ map n' (filter (λ y. not (C y)) (map g (map E (filter L xs))))
ends_alike E L L' g C n n' [] h = refl
ends_alike E L L' g C n n' (x ∷ xs) h =
    let ih = ends_alike E L L' g C n n' xs h.1 in
    let a = h.0.kept in let b = h.0.named in
    grind (arith, ih, a, b)

block_after : (m : Mark) (p : Presence) → (presence_after m p).block ≡ p.block
block_after m p = elim (cases_Bool (range_contains p.range m.range)) [ inl hit ↦ rw hit refl | inr miss ↦ rw miss refl ]

alike_all : (m : Mark) (ms : List Mark) (ls : List Lifetime) → Each (IsSince (length ms)) ls → Each (CanCountIn m.change ms) ls
    → Each (EndsAlike (presence_of ms) (lives ms) (lives (m ∷ ms)) (presence_after m) has_count (λ (l : Lifetime). l.block) (λ (p : Presence). p.block)) ls
alike_all m ms [] h counts = tt
alike_all m ms (l ∷ ls) h counts = (record { kept = lives-more m ms l h.0 counts.0; named = block_after m (presence_of ms l) }, alike_all m ms ls h.1 counts.1)

pub ended-more : (m : Mark) (ms : List Mark) → CanCount m.change ms → ended_of (m ∷ ms) ms ≡ ended_in m (presences ms)
unfolding live_lifetimes presences
ended-more m ms counts =
    ends_alike (presence_of ms) (lives ms) (lives (m ∷ ms)) (presence_after m) has_count (λ (l : Lifetime). l.block) (λ (p : Presence). p.block) (opened_lifetimes ms)
    (alike_all m ms (opened_lifetimes ms) (opened_since ms) (each_can_count m.change ms counts))

-- ## Ended in a table

none_over : (ps : List Presence) → is_table ps ≡ true → filter (λ p. not (has_count p)) ps ≡ []
none_over [] t = refl
none_over (p ∷ ps) t = let parts = table_parts p ps t in rw parts.counted (none_over ps parts.others)

one_over : (ps : List Presence) (i : ℕ) (y : Presence) → is_table ps ≡ true → i < length ps → filter (λ p. not (has_count p)) (set ps i y) ≡ cond (has_count y) [] (y ∷ [])
one_over [] i y t low = absurd (omega arith)
one_over (p ∷ ps) zero y t low =
    let rest = none_over ps (table_parts p ps t).others in
    elim (cases_Bool (has_count y)) [ inl counted ↦ rw counted rest | inr over ↦ rw over (ap (λ r. y ∷ r) rest) ]
one_over (p ∷ ps) (suc i) y t low = let parts = table_parts p ps t in rw parts.counted (one_over ps i y parts.others (omega arith))

untouched : (m : Mark) (ps : List Presence) → is_present ps m.range ≡ false → map (presence_after m) ps ≡ ps
untouched m [] h = refl
untouched m (p ∷ ps) h =
    let none = or_parts (range_contains p.range m.range) (is_present ps m.range) h in
    let ih = untouched m ps none.1 in
    rw (none.0, ih) refl

pub ended_in-none : (m : Mark) (ps : List Presence) → is_table ps ≡ true → holder ps m.range ≡ None → ended_in m ps ≡ []
ended_in-none m ps t none =
    ap (λ qs. map (λ (p : Presence). p.block) (filter (λ p. not (has_count p)) qs)) (untouched m ps (is_present-none ps m.range none))
    ∙ ap (map (λ (p : Presence). p.block)) (none_over ps t)

pub ended_in-some : (m : Mark) (ps : List Presence) (x : Presence) → is_table ps ≡ true → 0 < m.range.len → holder ps m.range ≡ Some x
    → ended_in m ps ≡ cond (has_count (stepped m.change x)) [] (x.block ∷ [])
ended_in-some m ps x t cells some =
    let f = found_in ps m.range x some in
    let e : presence_after m x ≡ stepped m.change x = let has = f.has in rw has refl in
    let touched = map_at m ps f.index x t f.low f.is cells f.has ∙ ap (set ps f.index) e in
    ap (λ qs. map (λ (p : Presence). p.block) (filter (λ p. not (has_count p)) qs)) touched
    ∙ (ap (map (λ (p : Presence). p.block)) (one_over ps f.index (stepped m.change x) t f.low)
    ∙ elim (has_count (stepped m.change x)) as (λ v. map (λ (p : Presence). p.block) (cond v [] (stepped m.change x ∷ [])) ≡ cond v [] (x.block ∷ [])) [ true ↦ refl | false ↦ refl ])
