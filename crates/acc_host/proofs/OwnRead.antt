-- A host's own entries, read off what a run leaves: its directives, its items, and both merged.
use Rattle.std.proofs.Common.{◌≡◌, ◌⊎◌, inl, inr, ℕ, zero, suc, ◌+◌, ◌-◌, ◌<◌, ◌≤◌, Bool, true, false, List, [], ◌∷◌, ◌++◌, length, get_or, take, drop, reverse, refl, sym, ap, ◌∙◌, arith}
use Rattle.std.specs.Borrow.{Bor}
use Rattle.std.specs.Prelude.{All, ◌==◌, ◌^◌, Option, Some, None, option_copied, option_map, if◌then◌else◌}
use Rattle.std.proofs.lemmas.List.{append_assoc, append-nil, drop_all, drop-drop, drop_more, length-reverse, length-take-le, reverse-append, reverse-reverse, take-append-drop}
use Rattle.std.proofs.lemmas.List.Elements.{All-head, All-tail}
use Rattle.acc_base.specs.Configurations.{Configuration}
use Rattle.acc_place.specs.Answers.{answers_of, is_directive, GoTogether}
use Rattle.acc_place.specs.Histories.{standing}
use Rattle.acc_place.specs.declared.directive.Placed.{Placed}
use Rattle.acc_place.specs.declared.directive.PlaceEntry.{PlaceEntry}
use Rattle.acc_place.specs.declared.directive.PlaceEntry.TheVariants.{Accepted, Closing, Closed}
use Rattle.acc_place.proofs.AnswersKept.{All-reversed}
use Rattle.acc_batch.specs.declared.entry.Told.{Told}
use Rattle.acc_batch.specs.declared.entry.WorkEntry.{WorkEntry}
use Rattle.acc_batch.specs.declared.entry.WorkEntry.TheVariants as entry
use Rattle.acc_work.specs.Logs.{one_more}
use Rattle.acc_host.specs.Engines.{HostEntry, Gave, Had}
use Rattle.acc_host.specs.Entries.{Own, entries_merged, items_shown, own_after, own_of}
use Rattle.acc_host.specs.OwnEntries.{own, Takes}
use Rattle.acc_host.specs.declared.own_entries.OwnDirective.{OwnDirective}
use Rattle.acc_host.specs.declared.own_entries.OwnEntry.TheVariants as read
use Rattle.acc_host.specs.inner.Unread.{item_by, item_then, items_by, own_by, own_then, owned_by, owned_from, unread, IsFirst, IsOther, IsLater}

-- ## Directives

abbrev IsClosing : PlaceEntry → Type 0
IsClosing e = is_directive e ≡ false

abbrev IsDirective : PlaceEntry → Type 0
IsDirective e = is_directive e ≡ true

-- what closing added has no directive
own-since : (config : Configuration) (host : ℕ) (since history : List PlaceEntry) (counts : List ℕ) → All IsClosing since → own_of config host (since ++ history) counts ≡ own_of config host history counts
own-since config host [] history counts all = refl
own-since config host (Accepted h d ∷ since) history counts all = (let w : true ≡ false = All-head IsClosing (Accepted h d) since all in absurd cc)
own-since config host (Closing ∷ since) history counts all = own-since config host since history counts (All-tail IsClosing Closing since all)
own-since config host (Closed at ∷ since) history counts all = own-since config host since history counts (All-tail IsClosing (Closed at) since all)

answers-since : (config : Configuration) (since history : List PlaceEntry) (counts : List ℕ) → All IsClosing since → answers_of config (since ++ history) counts ≡ answers_of config history counts
answers-since config [] history counts all = refl
answers-since config (Accepted h d ∷ since) history counts all = (let w : true ≡ false = All-head IsClosing (Accepted h d) since all in absurd cc)
answers-since config (Closing ∷ since) history counts all = answers-since config since history counts (All-tail IsClosing Closing since all)
answers-since config (Closed at ∷ since) history counts all = answers-since config since history counts (All-tail IsClosing (Closed at) since all)

length-answers : (config : Configuration) (history : List PlaceEntry) (counts : List ℕ) → All IsDirective history → length (answers_of config history counts) ≡ length history
length-answers config [] counts all = refl
length-answers config (Accepted h d ∷ before) counts all = ap suc (length-answers config before (drop 1 counts) (All-tail IsDirective (Accepted h d) before all))
length-answers config (Closing ∷ before) counts all = (let w : false ≡ true = All-head IsDirective Closing before all in absurd cc)
length-answers config (Closed at ∷ before) counts all = (let w : false ≡ true = All-head IsDirective (Closed at) before all in absurd cc)

-- entries behind the last count are none's
owned-within : (host : ℕ) (places more : List PlaceEntry) (counts : List ℕ) (answers : List Placed) → length counts ≤ length places → owned_by host (places ++ more) counts answers ≡ owned_by host places counts answers
owned-within host [] [] counts answers few = refl
owned-within host [] (e ∷ more) [] answers few = refl
owned-within host [] (e ∷ more) (n ∷ counts) answers few = absurd (omega (arith, few))
owned-within host (e ∷ places) more [] answers few = refl
owned-within host (e ∷ places) more (n ∷ counts) [] few = refl
owned-within host (e ∷ places) more (n ∷ counts) (a ∷ answers) few =
    ap (λ (os : List Own). own_by host e n a ++ os) (owned-within host places more counts answers (omega (arith, few)))

-- an entry more
owned-append : (host : ℕ) (places : List PlaceEntry) (counts : List ℕ) (answers : List Placed) (e : PlaceEntry) (n : ℕ) (a : Placed) → length counts ≡ length places → length answers ≡ length places
    → owned_by host (places ++ e ∷ []) (counts ++ n ∷ []) (answers ++ a ∷ []) ≡ owned_by host places counts answers ++ own_by host e n a
owned-append host [] [] [] e n a counted answered = append-nil (own_by host e n a)
owned-append host [] [] (b ∷ answers) e n a counted answered = absurd (omega (arith, answered))
owned-append host [] (m ∷ counts) answers e n a counted answered = absurd (omega (arith, counted))
owned-append host (x ∷ places) [] answers e n a counted answered = absurd (omega (arith, counted))
owned-append host (x ∷ places) (m ∷ counts) [] e n a counted answered = absurd (omega (arith, answered))
owned-append host (x ∷ places) (m ∷ counts) (b ∷ answers) e n a counted answered =
    ap (λ (os : List Own). own_by host x m b ++ os) (owned-append host places counts answers e n a (omega (arith, counted)) (omega (arith, answered)))
    ∙ sym (append_assoc (own_by host x m b) (owned_by host places counts answers) (own_by host e n a))

one_owned : (mine : Bool) (os : List Own) (o : Own) → os ++ (if mine then o ∷ [] else []) ≡ one_more mine os o
one_owned true os o = refl
one_owned false os o = append-nil os

-- directives alone, the latest first
owned_all : (config : Configuration) (host : ℕ) (history : List PlaceEntry) (counts : List ℕ) → All IsDirective history → length counts ≡ length history
    → owned_by host (reverse history) (reverse counts) (reverse (answers_of config history counts)) ≡ own_of config host history counts
owned_all config host [] counts all many = refl
owned_all config host (Closing ∷ before) counts all many = (let w : false ≡ true = All-head IsDirective Closing before all in absurd cc)
owned_all config host (Closed at ∷ before) counts all many = (let w : false ≡ true = All-head IsDirective (Closed at) before all in absurd cc)
owned_all config host (Accepted h d ∷ before) [] all many = absurd (omega (arith, many))
owned_all config host (Accepted h d ∷ before) (n ∷ counts) all many =
    let directives : All IsDirective before = All-tail IsDirective (Accepted h d) before all in
    let o = own_after (standing config before counts) h n d in
    let told = answers_of config before counts in
    let counted : length (reverse counts) ≡ length (reverse before) = omega (arith, many, length-reverse counts, length-reverse before) in
    let answered : length (reverse told) ≡ length (reverse before) = omega (arith, length-answers config before counts directives, length-reverse told, length-reverse before) in
    rw (reverse-append (Accepted h d ∷ []) before, reverse-append (n ∷ []) counts, reverse-append (o.placed ∷ []) told)
    (owned-append host (reverse before) (reverse counts) (reverse told) (Accepted h d) n o.placed counted answered
    ∙ (ap (λ (os : List Own). os ++ own_by host (Accepted h d) n o.placed) (owned_all config host before counts directives (omega (arith, many)))
    ∙ one_owned (h == host) (own_of config host before counts) o))

-- The directives of a host, found by their places in the history's order.
pub owned_are : (config : Configuration) (host : ℕ) (history : List PlaceEntry) (counts : List ℕ) → GoTogether config history counts
    → owned_by host (reverse history) (reverse counts) (reverse (answers_of config history counts)) ≡ own_of config host history counts
owned_are config host history counts h =
    let n = length counts in
    let first = take n (reverse history) in
    let behind = drop n (reverse history) in
    let parts : reverse history ≡ first ++ behind = sym (take-append-drop n (reverse history)) in
    let turned : history ≡ reverse behind ++ reverse first = sym (reverse-reverse history) ∙ (ap reverse parts ∙ reverse-append first behind) in
    let directives : All IsDirective (reverse first) = All-reversed IsDirective first h.first in
    let closing : All IsClosing (reverse behind) = All-reversed IsClosing behind h.behind in
    let many : length first ≡ n = length-take-le n (reverse history) (omega (arith, h.within, length-reverse history)) in
    let answers : answers_of config history counts ≡ answers_of config (reverse first) counts =
    ap (λ hs. answers_of config hs counts) turned ∙ answers-since config (reverse behind) (reverse first) counts closing in
    let own : own_of config host history counts ≡ own_of config host (reverse first) counts =
    ap (λ hs. own_of config host hs counts) turned ∙ own-since config host (reverse behind) (reverse first) counts closing in
    ap (λ hs. owned_by host hs (reverse counts) (reverse (answers_of config history counts))) parts
    ∙ (owned-within host first behind (reverse counts) (reverse (answers_of config history counts)) (omega (arith, many, length-reverse counts))
    ∙ (ap (λ told. owned_by host first (reverse counts) (reverse told)) answers
    ∙ (ap (λ hs. owned_by host hs (reverse counts) (reverse (answers_of config (reverse first) counts))) (sym (reverse-reverse first))
    ∙ (owned_all config host (reverse first) counts directives (omega (arith, many, length-reverse first)) ∙ sym own))))

-- without a count or an answer there is no directive
no-counts : (host : ℕ) (places : List PlaceEntry) (answers : List Placed) → owned_by host places [] answers ≡ []
no-counts host [] answers = refl
no-counts host (e ∷ places) answers = refl

no-answers : (host : ℕ) (places : List PlaceEntry) (counts : List ℕ) → owned_by host places counts [] ≡ []
no-answers host [] counts = refl
no-answers host (e ∷ places) [] = refl
no-answers host (e ∷ places) (n ∷ counts) = refl

-- Where a count or an answer is missing, there is none from there on.
no-owned : (host : ℕ) (places : List PlaceEntry) (counts : List ℕ) (answers : List Placed) (i : ℕ) → (length counts ≤ i) ⊎ (length answers ≤ i) → owned_from host places counts answers i ≡ []
no-owned host places counts answers i (inl few) = rw (drop_all i counts few) (no-counts host (drop i places) (drop i answers))
no-owned host places counts answers i (inr few) = rw (drop_all i answers few) (no-answers host (drop i places) (drop i counts))

pub owned-ended : (host : ℕ) (places : List PlaceEntry) (counts : List ℕ) (answers : List Placed) (i : ℕ) → (length counts ≤ i) ⊎ (length answers ≤ i)
    → owned_from host places counts answers i ≡ owned_from host places counts answers (i + 1)
owned-ended host places counts answers i few =
    no-owned host places counts answers i few
    ∙ sym (no-owned host places counts answers (i + 1) (elim few [ inl c ↦ inl (omega (arith, c)) | inr a ↦ inr (omega (arith, a)) ]))

-- an entry that is no directive of the host is passed over
other-first : (host : ℕ) (e : PlaceEntry) (es : List PlaceEntry) (counts : List ℕ) (answers : List Placed) → IsOther host e
    → owned_by host (e ∷ es) counts answers ≡ owned_by host es (drop 1 counts) (drop 1 answers)
other-first host e es [] answers other = sym (no-counts host es (drop 1 answers))
other-first host e es (n ∷ counts) [] other = sym (no-answers host es counts)
other-first host e es (n ∷ counts) (a ∷ answers) other = rw (other n a) refl

pub owned-other : (host : ℕ) (places : List PlaceEntry) (counts : List ℕ) (answers : List Placed) (i : ℕ) (d : PlaceEntry) → i < length places → IsOther host (get_or places i d)
    → owned_from host places counts answers i ≡ owned_from host places counts answers (i + 1)
owned-other host places counts answers i d within other =
    rw (drop_more places i d within, sym (drop-drop 1 i counts), sym (drop-drop 1 i answers)) (other-first host (get_or places i d) (drop (i + 1) places) (drop i counts) (drop i answers) other)

-- ## Items

pushed : (mine : Bool) (xs ys : List HostEntry) (x : HostEntry) → one_more mine (xs ++ ys) x ≡ xs ++ one_more mine ys x
pushed true xs ys x = append_assoc xs ys (x ∷ [])
pushed false xs ys x = refl

shown-append : (h : ℕ) (late early : List WorkEntry) → items_shown h (late ++ early) ≡ items_shown h early ++ items_shown h late
shown-append h [] early = sym (append-nil (items_shown h early))
shown-append h (entry.Op at op ∷ late) early = shown-append h late early
shown-append h (entry.Item k what ∷ late) early =
    ap (λ (es : List HostEntry). one_more (k == h) es (Had what)) (shown-append h late early)
    ∙ pushed (k == h) (items_shown h early) (items_shown h late) (Had what)

one_shown : (h : ℕ) (e : WorkEntry) → item_by h e ≡ items_shown h (e ∷ [])
one_shown h (entry.Op at op) = refl
one_shown h (entry.Item k what) = elim (k == h) as (λ b. (if b then Had what ∷ [] else []) ≡ one_more b [] (Had what)) [ true ↦ refl | false ↦ refl ]

-- the items of a host, from the first on or from the last
pub items_are : (h : ℕ) (works : List WorkEntry) → items_by h works ≡ items_shown h (reverse works)
items_are h [] = refl
items_are h (e ∷ works) =
    ap (λ (es : List HostEntry). item_by h e ++ es) (items_are h works)
    ∙ (ap (λ (es : List HostEntry). es ++ items_shown h (reverse works)) (one_shown h e)
    ∙ (sym (shown-append h (reverse works) (e ∷ [])) ∙ ap (items_shown h) (sym (reverse-append (e ∷ []) works))))

-- ## Both

-- a directive is next where its items stand already, or none are left
merged_gave : (gone : ℕ) (o : Own) (os : List Own) (items : List HostEntry) → (o.items_before ≤ gone) ⊎ (items ≡ []) → entries_merged gone (o ∷ os) items ≡ Gave o.directive o.placed ∷ entries_merged o.items_before os items
merged_gave gone o os items (inl low) =
    let all : o.items_before - gone ≡ 0 = omega (arith, low) in
    ap (λ n. take n items ++ Gave o.directive o.placed ∷ entries_merged o.items_before os (drop n items)) all
merged_gave gone o os [] (inr none) = front (o.items_before - gone)
  where
    front : (n : ℕ) → take n [] ++ Gave o.directive o.placed ∷ entries_merged o.items_before os (drop n []) ≡ Gave o.directive o.placed ∷ entries_merged o.items_before os []
    front zero = refl
    front (suc n) = refl
merged_gave gone o os (x ∷ items) (inr none) = absurd cc

-- an item is next where the next directive stands behind more, or none is left
merged_had : (gone behind : ℕ) (o : Own) (os : List Own) (x : HostEntry) (items : List HostEntry) → gone < o.items_before → behind ≡ gone + 1
    → entries_merged gone (o ∷ os) (x ∷ items) ≡ x ∷ entries_merged behind (o ∷ os) items
merged_had gone behind o os x items more next =
    let left : o.items_before - gone ≡ suc (o.items_before - behind) = omega (arith, more, next) in
    ap (λ n. take n (x ∷ items) ++ Gave o.directive o.placed ∷ entries_merged o.items_before os (drop n (x ∷ items))) left

taken_own : (os : List Own) (next : Option OwnDirective) (left : List Own) → Takes os (option_map own next) left → own_then next left ≡ os
taken_own os None left t = sym t.0
taken_own os (Some o) left t = sym t

taken_item : (items : List HostEntry) (next : Option (Bor Told)) (left : List HostEntry) → Takes items (option_map Had (option_copied next)) left → item_then next left ≡ items
taken_item items None left t = sym t.0
taken_item items (Some what) left t = sym t

pub next_gave : (gone : ℕ) (d : Option OwnDirective) (o : OwnDirective) (os left : List Own) (next : Option OwnDirective) (item : Option (Bor Told)) (items : List HostEntry) → IsFirst gone d item (Some (read.Gave o))
    → Takes os (option_map own next) left → unread gone d os item items ≡ Gave o.directive.now o.answer.now ∷ unread o.items_before next left item items
next_gave gone d o os left next item items first taken =
    ap (λ n. unread gone n os item items) first.0
    ∙ (merged_gave gone (own o) os (item_then item items) (elim first.1 [ inl low ↦ inl low | inr none ↦ inr (ap (λ i. item_then i items) none) ])
    ∙ ap (λ ds. Gave o.directive.now o.answer.now ∷ entries_merged o.items_before ds (item_then item items)) (sym (taken_own os next left taken)))

had_first : (gone behind : ℕ) (d : Option OwnDirective) (os : List Own) (what : Bor Told) (items : List HostEntry) → IsLater gone d → (gone + 1 < 2 ^ 64 → behind ≡ gone + 1)
    → entries_merged gone (own_then d os) (Had what.now ∷ items) ≡ Had what.now ∷ entries_merged behind (own_then d os) items
had_first gone behind None os what items later next = refl
had_first gone behind (Some o) os what items later next = merged_had gone behind (own o) os (Had what.now) items later.0 (next later.1)

pub next_had : (gone behind : ℕ) (d : Option OwnDirective) (os : List Own) (item : Option (Bor Told)) (what : Bor Told) (items left : List HostEntry) (next : Option (Bor Told)) → IsFirst gone d item (Some (read.Had what))
    → (gone + 1 < 2 ^ 64 → behind ≡ gone + 1) → Takes items (option_map Had (option_copied next)) left → unread gone d os item items ≡ Had what.now ∷ unread behind d os next left
next_had gone behind d os item what items left next first more taken =
    ap (λ i. unread gone d os i items) first.0
    ∙ (had_first gone behind d os what items first.1 more ∙ ap (λ es. Had what.now ∷ entries_merged behind (own_then d os) es) (sym (taken_item items next left taken)))
