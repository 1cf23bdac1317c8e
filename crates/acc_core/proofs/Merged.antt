-- A new item and a new directive stand behind all entries of a host.
use Rattle.std.proofs.Common.{◌≡◌, ℕ, ◌+◌, ◌-◌, ◌≤◌, true, false, List, [], ◌∷◌, ◌++◌, length, take, drop, refl, sym, ap, ◌∙◌, arith}
use Rattle.std.specs.Prelude.{◌==◌}
use Rattle.std.proofs.lemmas.List.{append_assoc, take-append-le, drop-append-le, take_all, drop_all, length-drop, length_push}
use Rattle.acc_host.specs.Engines.{HostEntry, Gave, Had}
use Rattle.acc_batch.specs.declared.entry.WorkEntry.{WorkEntry}
use Rattle.acc_batch.specs.declared.entry.WorkEntry.TheVariants as entry
use Rattle.acc_work.specs.Logs.{one_more, items_of, if_one}
use Rattle.acc_core.specs.Legality.{Rise}
use Rattle.acc_host.specs.Entries.{Own, items_shown, entries_merged}

-- more items leave room for the same directives
pub rise_more : (low : ℕ) (os : List Own) (high : ℕ) → Rise low os high → Rise low os (high + 1)
rise_more low [] high h = omega (arith, h)
rise_more low (o ∷ os) high h = (h.0, rise_more o.items_before os high h.1)

-- a new directive stands behind all items
pub rise_push : (low : ℕ) (os : List Own) (o : Own) → Rise low os o.items_before → Rise low (os ++ o ∷ []) o.items_before
rise_push low [] o h = (h, omega arith)
rise_push low (p ∷ os) o h = (h.0, rise_push p.items_before os o h.1)

-- the counts lie between their bounds
rise_low : (low : ℕ) (os : List Own) (high : ℕ) → Rise low os high → low ≤ high
rise_low low [] high h = h
rise_low low (o ∷ os) high h = omega (arith, h.0, rise_low o.items_before os high h.1)

-- a new item stands behind all entries
pub merged_item : (gone : ℕ) (os : List Own) (items : List HostEntry) (x : HostEntry) (high : ℕ) → high ≡ gone + length items → Rise gone os high → entries_merged gone os (items ++ x ∷ []) ≡ entries_merged gone os items ++ x ∷ []
merged_item gone [] items x high e h = refl
merged_item gone (o ∷ os) items x high e h =
    let k = o.items_before - gone in
    let top = rise_low o.items_before os high h.1 in
    let within : k ≤ length items = omega (arith, h.0, top, e) in
    let left : high ≡ o.items_before + length (drop k items) = omega (arith, h.0, top, e, length-drop k items) in
    let ih = merged_item o.items_before os (drop k items) x high left h.1 in
    let front = take-append-le k items (x ∷ []) within in
    let back = drop-append-le k items (x ∷ []) within in
    let later = ap (λ (r : List HostEntry). entries_merged o.items_before os r) back ∙ ih in
    ap (λ (r : List HostEntry). r ++ Gave o.directive o.placed ∷ entries_merged o.items_before os (drop k (items ++ x ∷ []))) front
    ∙ (ap (λ (r : List HostEntry). take k items ++ Gave o.directive o.placed ∷ r) later
    ∙ sym (append_assoc (take k items) (Gave o.directive o.placed ∷ entries_merged o.items_before os (drop k items)) (x ∷ [])))

-- and so does a new directive
pub merged_directive : (gone : ℕ) (os : List Own) (items : List HostEntry) (o : Own) → o.items_before ≡ gone + length items → Rise gone os o.items_before → entries_merged gone (os ++ o ∷ []) items ≡ entries_merged gone os items ++ Gave o.directive o.placed ∷ []
merged_directive gone [] items o e h =
    let low : length items ≤ o.items_before - gone = omega (arith, e) in
    ap (λ (r : List HostEntry). r ++ Gave o.directive o.placed ∷ drop (o.items_before - gone) items) (take_all (o.items_before - gone) items low)
    ∙ ap (λ (r : List HostEntry). items ++ Gave o.directive o.placed ∷ r) (drop_all (o.items_before - gone) items low)
merged_directive gone (p ∷ os) items o e h =
    let k = p.items_before - gone in
    let top = rise_low p.items_before os o.items_before h.1 in
    let left : o.items_before ≡ p.items_before + length (drop k items) = omega (arith, h.0, top, e, length-drop k items) in
    let ih = merged_directive p.items_before os (drop k items) o left h.1 in
    ap (λ (r : List HostEntry). take k items ++ Gave p.directive p.placed ∷ r) ih
    ∙ sym (append_assoc (take k items) (Gave p.directive p.placed ∷ entries_merged p.items_before os (drop k items)) (Gave o.directive o.placed ∷ []))

-- a host's items are as many as its list of them has
pub items_length : (h : ℕ) (work : List WorkEntry) → length (items_shown h work) ≡ items_of h work
items_length h [] = refl
items_length h (entry.Op at op ∷ before) = items_length h before
items_length h (entry.Item k shown ∷ before) =
    elim (k == h) as (λ b. length (one_more b (items_shown h before) (Had shown)) ≡ if_one b (items_of h before))
    [ true ↦ length_push (items_shown h before) (Had shown) ∙ ap (λ n. n + 1) (items_length h before) | false ↦ items_length h before ]
