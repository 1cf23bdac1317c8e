-- A token's list is the host's own entries, as both histories have them, but for the values of prints; so where the list follows a
-- program, these do.
use Rattle.std.proofs.Common.{inl, inr, ◌≡◌, ℕ, zero, suc, ◌+◌, ◌-◌, ◌≤◌, Bool, List, [], ◌∷◌, ◌++◌, length, take, drop, slice_get, Option, Some, None, refl, sym, ap, ◌∙◌, arith}
use Rattle.std.specs.Prelude.{map, ℤ}
use Rattle.std.proofs.lemmas.List.{drop-map, map-append, take-map}
use Rattle.acc_base.specs.declared.range.Range.{Range}
use Rattle.acc_place.specs.Directives.{Directive}
use Rattle.acc_place.specs.declared.directive.Placed.{Placed}
use Rattle.acc_work.specs.Items.{without_values}
use Rattle.acc_batch.specs.declared.entry.Told.{Told}
use Rattle.acc_batch.specs.declared.entry.Told.TheVariants as told
use Rattle.acc_host.specs.Engines.{HostEntry, Gave, Had}
use Rattle.acc_host.specs.Entries.{Own, entries_merged, items_shown, own_of}
use Rattle.acc_host.specs.Following.{Begins, Begun, Comes, Ended, Ends, Follows, Settles, ids_behind}
use Rattle.acc_host.specs.Legality.{Histories, entries_of}
use Rattle.acc_host.specs.Steps.{Owed, nothing_owed, owes_seen, owes_test, owed_by, with_ids, first_ids, ids_after}
use Rattle.acc_host.specs.declared.program.Act.{Act}
use Rattle.acc_host.specs.declared.program.Act.TheVariants as act
use Rattle.acc_host.specs.declared.program.Statement.{Statement}
use Rattle.acc_host.specs.declared.state.HostState.{HostState}
use Rattle.acc_host.specs.declared.state.HostState.TheVariants as state
use Rattle.acc_host.specs.declared.state.Ids.{Ids}
use Rattle.acc_run.specs.Agreement.{Agrees, TokensFollow, as_known, directives_in, shown_in}

-- ## Merged again

-- an item stands before directives that stand behind more items
IsBehind : ℕ → List Own → Type 0
IsBehind low [] = Unit {0}
IsBehind low (o ∷ os) = low ≤ o.items_before

behind_in : (before : ℕ) (list : List HostEntry) → (low : ℕ) → low ≤ before → IsBehind low (directives_in before list)
unfolding IsBehind
behind_in before [] low h = tt
behind_in before (Gave d placed ∷ list) low h = h
behind_in before (Had what ∷ list) low h = behind_in (before + 1) list low (omega (arith, h))

item_first : (before : ℕ) (os : List Own) (x : HostEntry) (items : List HostEntry) → IsBehind (before + 1) os → entries_merged before os (x ∷ items) ≡ x ∷ entries_merged (before + 1) os items
unfolding IsBehind
item_first before [] x items h = refl
item_first before (o ∷ os) x items h =
    let more : o.items_before - before ≡ suc (o.items_before - (before + 1)) = omega (arith, h) in
    ap (λ n. take n (x ∷ items) ++ Gave o.directive o.placed ∷ entries_merged o.items_before os (drop n (x ∷ items))) more

merged_again : (before : ℕ) (list : List HostEntry) → entries_merged before (directives_in before list) (shown_in list) ≡ list
merged_again before [] = refl
merged_again before (Gave d placed ∷ list) =
    let none : before - before ≡ 0 = omega arith in
    ap (λ n. take n (shown_in list) ++ Gave d placed ∷ entries_merged before (directives_in before list) (drop n (shown_in list))) none
    ∙ ap (λ (es : List HostEntry). Gave d placed ∷ es) (merged_again before list)
merged_again before (Had what ∷ list) =
    item_first before (directives_in (before + 1) list) (Had what) (shown_in list) (behind_in (before + 1) list (before + 1) (omega arith))
    ∙ ap (λ (es : List HostEntry). Had what ∷ es) (merged_again (before + 1) list)

merged_known : (gone : ℕ) (os : List Own) (items : List HostEntry) → map as_known (entries_merged gone os items) ≡ entries_merged gone os (map as_known items)
merged_known gone [] items = refl
merged_known gone (o ∷ os) items =
    let k = o.items_before - gone in
    map-append as_known (take k items) (Gave o.directive o.placed ∷ entries_merged o.items_before os (drop k items))
    ∙ (ap (λ (es : List HostEntry). es ++ Gave o.directive o.placed ∷ map as_known (entries_merged o.items_before os (drop k items))) (sym (take-map as_known k items))
    ∙ ap (λ (es : List HostEntry). take k (map as_known items) ++ Gave o.directive o.placed ∷ es)
    (merged_known o.items_before os (drop k items) ∙ ap (entries_merged o.items_before os) (sym (drop-map as_known k items))))

-- what the host knows of its entries is its token's list
pub entries_known : (h : Histories) (host : ℕ) (list : List HostEntry) → Agrees h host list → map as_known (entries_of h host) ≡ list
entries_known h host list a =
    merged_known 0 (own_of h.config host h.history h.counts) (items_shown host h.work)
    ∙ (ap (λ (os : List Own). entries_merged 0 os (map as_known (items_shown host h.work))) a.directives
    ∙ (ap (entries_merged 0 (directives_in 0 list)) a.items ∙ merged_again 0 list))

-- ## Following

-- a known list in two parts
record Parts (list first later : List HostEntry) : Type 0 where
  one : List HostEntry
  two : List HostEntry
  is : list ≡ one ++ two
  first_is : map as_known one ≡ first
  later_is : map as_known two ≡ later

parts : (list first later : List HostEntry) → map as_known list ≡ first ++ later → Parts list first later
parts list [] later e = record { one = []; two = list; is = refl; first_is = refl; later_is = e }
parts [] (x ∷ first) later e = cc
parts (y ∷ list) (x ∷ first) later e =
    let head : as_known y ≡ x = cc in
    let tail : map as_known list ≡ first ++ later = cc in
    let p = parts list first later tail in
    let front : map as_known (y ∷ p.one) ≡ x ∷ first = ap (λ z. z ∷ map as_known p.one) head ∙ ap (λ (es : List HostEntry). x ∷ es) p.first_is in
    record { one = y ∷ p.one; two = p.two; is = ap (λ (es : List HostEntry). y ∷ es) p.is; first_is = front; later_is = p.later_is }

none_known : (list : List HostEntry) → map as_known list ≡ [] → list ≡ []
none_known [] e = refl
none_known (x ∷ list) e = cc

-- one item
record Single (list : List HostEntry) (what : Told) : Type 0 where
  found : Told
  is : list ≡ Had found ∷ []
  known : without_values found ≡ what

single : (list : List HostEntry) (what : Told) → map as_known list ≡ Had what ∷ [] → Single list what
single [] what e = cc
single (Gave d placed ∷ list) what e = cc
single (Had found ∷ list) what e =
    let tail : map as_known list ≡ [] = cc in
    record { found = found; is = ap (λ (es : List HostEntry). Had found ∷ es) (none_known list tail); known = cc }

-- a directive, and what stands behind it
record Given (list : List HostEntry) (d : Directive) (placed : Placed) (items : List HostEntry) : Type 0 where
  rest : List HostEntry
  is : list ≡ Gave d placed ∷ rest
  known : map as_known rest ≡ items

given : (list : List HostEntry) (d : Directive) (placed : Placed) (items : List HostEntry) → map as_known list ≡ Gave d placed ∷ items → Given list d placed items
given [] d placed items e = cc
given (Had found ∷ list) d placed items e = cc
given (Gave f p ∷ list) d placed items e = record { rest = list; is = cc; known = cc }

a_write : (found : Told) (array cell : ℕ) (value : ℤ) → without_values found ≡ told.Write array cell value → found ≡ told.Write array cell value
a_write (told.Write a c v) array cell value e = e
a_write (told.Print r vs) array cell value e = cc
a_write (told.Seen d c) array cell value e = cc
a_write (told.Test d a c) array cell value e = cc

a_print : (found : Told) (range : Range) (values : List ℤ) → without_values found ≡ told.Print range values → (vs : List ℤ) × (found ≡ told.Print range vs)
a_print (told.Write a c v) range values e = cc
a_print (told.Print r vs) range values e = (vs, (let same : r ≡ range = cc in ap (λ (x : Range). told.Print x vs) same))
a_print (told.Seen d c) range values e = cc
a_print (told.Test d a c) range values e = cc

a_seen : (found : Told) (device : ℕ) (counts : List ℕ) → without_values found ≡ told.Seen device counts → found ≡ told.Seen device counts
a_seen (told.Write a c v) device counts e = cc
a_seen (told.Print r vs) device counts e = cc
a_seen (told.Seen d c) device counts e = e
a_seen (told.Test d a c) device counts e = cc

a_test : (found : Told) (device : ℕ) (counts : List ℕ) (answer : Bool) → without_values found ≡ told.Test device answer counts → found ≡ told.Test device answer counts
a_test (told.Write a c v) device counts answer e = cc
a_test (told.Print r vs) device counts answer e = cc
a_test (told.Seen d c) device counts answer e = cc
a_test (told.Test d a c) device counts answer e = e

settles : (owed : Owed) (list items : List HostEntry) → map as_known list ≡ items → Settles owed items → Settles owed list
settles nothing_owed list items e h = none_known list (e ∙ h)
settles (owes_seen device counts) list items e h = (let s = single list (told.Seen device counts) (e ∙ h) in s.is ∙ ap (λ (w : Told). Had w ∷ []) (a_seen s.found device counts s.known))
settles (owes_test device counts) list items e h =
    let s = single list (told.Test device h.0 counts) (e ∙ h.1) in (h.0, s.is ∙ ap (λ (w : Told). Had w ∷ []) (a_test s.found device counts h.0 s.known))

ends : (devices : ℕ) (ids : Ids) (a : Act) (list known : List HostEntry) → map as_known list ≡ known → Ends devices ids a known → Ends devices ids a list
ends devices ids (act.Place d) list known e h =
    let g = given list (with_ids ids d) h.0 h.1 (e ∙ h.2) in (h.0, g.rest, g.is, settles (owed_by (with_ids ids d) h.0) g.rest h.1 g.known h.3)
ends devices ids (act.Write array cell value) list known e h =
    let s = single list (told.Write array cell value) (e ∙ h) in s.is ∙ ap (λ (w : Told). Had w ∷ []) (a_write s.found array cell value s.known)
ends devices ids (act.Print range) list known e h =
    let s = single list (told.Print range h.0) (e ∙ h.1) in
    let p = a_print s.found range h.0 s.known in
    (p.0, s.is ∙ ap (λ (w : Told). Had w ∷ []) p.1)
ends devices ids (act.SetDevice n) list known e h = (h.0, none_known list (e ∙ h.1))
ends devices ids (act.SetAsync v) list known e h = (h.0, none_known list (e ∙ h.1))
ends devices ids act.ShowDevice list known e h = none_known list (e ∙ h)
ends devices ids act.ShowDevices list known e h = none_known list (e ∙ h)

ended : (devices : ℕ) (ids : Ids) (n : ℕ) (statements : List Statement) (list known : List HostEntry) → map as_known list ≡ known → Ended devices ids n statements known → Ended devices ids n statements list
ended devices ids zero statements list known e h = none_known list (e ∙ h)
ended devices ids (suc n) [] list known e h = absurd h
ended devices ids (suc n) (s ∷ statements) list known e h =
    let p = parts list h.0 h.1 (e ∙ h.2) in
    (p.one, p.two, p.is, ends devices ids s.act p.one h.0 p.first_is h.3, ended devices (ids_after s.act ids) n statements p.two h.1 p.later_is h.4)

begun : (ids : Ids) (a : Act) (list known : List HostEntry) → map as_known list ≡ known → Begun ids a known → Begun ids a list
begun ids (act.Place d) list known e h =
    let g = given list (with_ids ids d) h.0 [] (e ∙ h.1) in
    (h.0, g.is ∙ ap (λ (es : List HostEntry). Gave (with_ids ids d) h.0 ∷ es) (none_known g.rest g.known), h.2)
begun ids (act.Write array cell value) list known e h = absurd h
begun ids (act.Print range) list known e h = absurd h
begun ids (act.SetDevice n) list known e h = absurd h
begun ids (act.SetAsync v) list known e h = absurd h
begun ids act.ShowDevice list known e h = absurd h
begun ids act.ShowDevices list known e h = absurd h

begins : (ids : Ids) (s : Option Statement) (list known : List HostEntry) → map as_known list ≡ known → Begins ids s known → Begins ids s list
begins ids None list known e h = absurd h
begins ids (Some s) list known e h = elim h [ inl none ↦ inl (none_known list (e ∙ none)) | inr b ↦ inr (begun ids s.act list known e b) ]

comes : (devices : ℕ) (statements : List Statement) (n : ℕ) (list known : List HostEntry) → map as_known list ≡ known → Comes devices statements n known → Comes devices statements n list
comes devices statements n list known e h =
    let p = parts list h.past h.behind (e ∙ h.parts) in
    record {
      past = p.one;
      behind = p.two;
      parts = p.is;
      ends = ended devices first_ids n statements p.one h.past p.first_is h.ends;
      begins = begins (ids_behind first_ids n statements) (slice_get statements n) p.two h.behind p.later_is h.begins;
    }

pub follows_known : (devices : ℕ) (statements : List Statement) (st : HostState) (list known : List HostEntry) → map as_known list ≡ known → Follows devices statements st known → Follows devices statements st list
follows_known devices statements state.Finished list known e h = ended devices first_ids (length statements) statements list known e h
follows_known devices statements (state.Running n) list known e h = comes devices statements n list known e h
follows_known devices statements (state.Refused n line fault) list known e h = (comes devices statements n list known e h.0, h.1)

pub tokens_follow : TokensFollow
tokens_follow = λ h host list devices statements st agrees follows. follows_known devices statements st (entries_of h host) list (entries_known h host list agrees) follows
