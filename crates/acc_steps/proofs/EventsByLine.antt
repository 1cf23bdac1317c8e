-- The events of a schedule are those of its lines, each of which is a schedule of its own.
use Rattle.std.proofs.Common.{inl, inr, ◌≡◌, ◌≤◌, ◌<◌, ℕ, ◌+◌, Bool, true, false, List, [], ◌∷◌, ◌++◌, length, take, Result, Ok, Err, refl, sym, ap, ◌∙◌, arith}
use Rattle.std.specs.Borrow.{Bor}
use Rattle.std.specs.Prelude.{All, map, nat_lt, ◌==◌}
use Rattle.std.specs.List.{slice_split, onto_first}
use Rattle.std.proofs.lemmas.Bool.{cases_Bool}
use Rattle.std.proofs.lemmas.Bool.Decides.{nat_tests}
use Rattle.std.proofs.Math.ListN.{get_or}
use Rattle.std.proofs.lemmas.List.{append-nil, append_assoc, length-map, length-take-le, take_more}
use Rattle.std.proofs.lemmas.List.Elements.{All-cons, All-head, All-tail, All-weaker}
use Rattle.std.proofs.lemmas.List.Splits.{slice_split_none}
use Rattle.acc_host.specs.declared.event.Event.{Event}
use Rattle.acc_token.specs.declared.read_fault.ReadFault.{ReadFault}
use Rattle.acc_token.specs.declared.read_fault.ReadKind.{ReadKind}
use Rattle.acc_token.specs.declared.text.TheConstants.{MAX_TEXT}
use Rattle.acc_token.specs.Faults.{fails, ◌>>=◌}
use Rattle.acc_schedule.specs.declared.schedule.TheConstants.{MAX_EVENTS}
use Rattle.acc_schedule.specs.Schedules.{lines, is_skipped, joined_events, line_events as read_line, events_behind, events_from as read_from, schedule_of}
use Rattle.acc_script.specs.Arrays.{texts}
use Rattle.acc_steps.specs.declared.walk.Numbered.{Numbered}
use Rattle.acc_steps.specs.Walks.{EventsAreByLine, numbered_from, events_or_none, events_in_line, on_line}

-- ## Parts of a list

none : (P : ℕ → Type 0) → All P []
none P = λ k d low. absurd (omega (arith, low))

no_part : (P : List ℕ → Type 0) → All P []
no_part P = λ k d low. absurd (omega (arith, low))

-- a part of a list of so many that is cut where elements pass: none of it passes
record IsPart (p : ℕ → Bool) (n : ℕ) (part : List ℕ) : Type 0 where
  inside : All (λ x. p x ≡ false) part
  short : length part ≤ n

part_of_more : (p : ℕ → Bool) (n : ℕ) (part : List ℕ) → IsPart p n part → IsPart p (n + 1) part
part_of_more p n part is = record { inside = is.inside; short = omega (arith, is.short) }

lengthened : (p : ℕ → Bool) (x n : ℕ) (parts : List (List ℕ)) → p x ≡ false → All (IsPart p n) parts → All (IsPart p (n + 1)) (onto_first x parts)
lengthened p x n [] out all =
    All-cons (IsPart p (n + 1)) (x ∷ []) [] (record { inside = All-cons (λ y. p y ≡ false) x [] out (none (λ y. p y ≡ false)); short = omega arith }) (no_part (IsPart p (n + 1)))
lengthened p x n (part ∷ parts) out all =
    let first = All-head (IsPart p n) part parts all in
    All-cons (IsPart p (n + 1)) (x ∷ part) parts
    (record { inside = All-cons (λ y. p y ≡ false) x part out first.inside; short = omega (arith, first.short) })
    (All-weaker (IsPart p n) (IsPart p (n + 1)) (part_of_more p n) parts (All-tail (IsPart p n) part parts all))

are_parts : (p : ℕ → Bool) (xs : List ℕ) → All (IsPart p (length xs)) (slice_split p xs)
are_parts p [] = All-cons (IsPart p 0) [] [] (record { inside = none (λ y. p y ≡ false); short = omega arith }) (no_part (IsPart p 0))
are_parts p (x ∷ xs) = elim (cases_Bool (p x)) [
  | inl cut ↦
      rw cut (All-cons (IsPart p (length (x ∷ xs))) [] (slice_split p xs) (record { inside = none (λ y. p y ≡ false); short = omega arith })
      (All-weaker (IsPart p (length xs)) (IsPart p (length (x ∷ xs))) (λ part is. record { inside = is.inside; short = omega (arith, is.short) }) (slice_split p xs) (are_parts p xs)))
  | inr out ↦
      rw out (All-weaker (IsPart p (length xs + 1)) (IsPart p (length (x ∷ xs))) (λ part is. record { inside = is.inside; short = omega (arith, is.short) })
      (onto_first x (slice_split p xs)) (lengthened p x (length xs) (slice_split p xs) out (are_parts p xs)))
]

-- ## A line

-- a schedule of one line
one_line : (hosts devices : ℕ) (line : List ℕ) → IsPart (λ b. b == 10) MAX_TEXT line
    → schedule_of hosts devices line ≡ (events_behind hosts devices 1 [] line >>= λ more. Ok more)
unfolding schedule_of
one_line hosts devices line is =
    let fits : nat_lt MAX_TEXT (length line) ≡ false = grind (arith, nat_tests, is.short) in
    let alone : lines line ≡ line ∷ [] = slice_split_none (λ b. b == 10) line is.inside in
    rw (fits, alone) refl

skipped_behind : (hosts devices number : ℕ) (before : List Event) (line : List ℕ) → is_skipped line ≡ true → events_behind hosts devices number before line ≡ Ok before
unfolding events_behind
skipped_behind hosts devices number before line is = rw is refl

read_behind : (hosts devices number : ℕ) (before : List Event) (line : List ℕ) → is_skipped line ≡ false
    → events_behind hosts devices number before line ≡ joined_events number before (read_line hosts devices line)
unfolding events_behind
read_behind hosts devices number before line is = rw is refl

-- what a line adds is what it is alone
adds : (hosts devices number : ℕ) (before after : List Event) (line : List ℕ) → IsPart (λ b. b == 10) MAX_TEXT line
    → events_behind hosts devices number before line ≡ Ok after → after ≡ before ++ events_in_line hosts devices line
adds hosts devices number before after line is found = elim (cases_Bool (is_skipped line)) [
  | inl skipped ↦
      let same : before ≡ after = ap events_or_none (sym (skipped_behind hosts devices number before line skipped) ∙ found) in
      let alone : schedule_of hosts devices line ≡ Ok [] =
      one_line hosts devices line is ∙ ap (λ (r : Result (List Event) ReadFault). r >>= λ more. Ok more) (skipped_behind hosts devices 1 [] line skipped) in
      rw alone (sym same ∙ sym (append-nil before))
  | inr read ↦ by_events (read_line hosts devices line) refl (sym (read_behind hosts devices number before line read) ∙ found) read
]
  where
    by_events : (theirs : Result (List Event) ReadKind) → read_line hosts devices line ≡ theirs → joined_events number before (read_line hosts devices line) ≡ Ok after → is_skipped line ≡ false
        → after ≡ before ++ events_in_line hosts devices line
    by_events (Err kind) is_theirs joined read = absurd (let wrong : fails number kind ≡ Ok after = rw is_theirs at joined in cc)
    by_events (Ok more) is_theirs joined read =
        let here : joined_events number before (Ok more) ≡ Ok after = rw is_theirs at joined in
        elim (cases_Bool (nat_lt MAX_EVENTS (length before + length more))) [
          | inl over ↦ absurd (let wrong : fails number ReadKind.Limit ≡ Ok after = rw over at here in cc)
          | inr under ↦
              let all : Ok (before ++ more) ≡ Ok after = rw under at here in
              let few : nat_lt MAX_EVENTS (0 + length more) ≡ false = grind (arith, nat_tests, under) in
              let joined_alone : joined_events 1 [] (Ok more) ≡ Ok more = rw few refl in
              let alone : schedule_of hosts devices line ≡ Ok more =
              one_line hosts devices line is ∙ ap (λ (r : Result (List Event) ReadFault). r >>= λ found. Ok found)
              (read_behind hosts devices 1 [] line read ∙ ap (joined_events 1 []) is_theirs ∙ joined_alone) in
              rw alone (ap events_or_none (sym all))
        ]

-- ## All lines

pub events_on_line : (number : ℕ) (events : List Event) → map (λ (n : Numbered). n.event) (on_line number events) ≡ events
events_on_line number [] = refl
events_on_line number (e ∷ events) = ap (λ es. e ∷ es) (events_on_line number events)

map_joined : (xs ys : List Numbered) → map (λ (n : Numbered). n.event) (xs ++ ys) ≡ map (λ (n : Numbered). n.event) xs ++ map (λ (n : Numbered). n.event) ys
map_joined [] ys = refl
map_joined (x ∷ xs) ys = ap (λ es. x.event ∷ es) (map_joined xs ys)

from_lines : (hosts devices number : ℕ) (before all : List Event) (ls : List (List ℕ)) → All (IsPart (λ b. b == 10) MAX_TEXT) ls
    → read_from hosts devices number before ls ≡ Ok all → all ≡ before ++ map (λ (n : Numbered). n.event) (numbered_from hosts devices number ls)
from_lines hosts devices number before all [] parts found = ap events_or_none (sym found) ∙ sym (append-nil before)
from_lines hosts devices number before all (line ∷ ls) parts found =
    by_first (λ more here. from_lines hosts devices (number + 1) more all ls (All-tail (IsPart (λ b. b == 10) MAX_TEXT) line ls parts) here)
    (events_behind hosts devices number before line) refl found
  where
    others : List Event
    others = map (λ (n : Numbered). n.event) (numbered_from hosts devices (number + 1) ls)

    by_first : ((more : List Event) → read_from hosts devices (number + 1) more ls ≡ Ok all → all ≡ more ++ map (λ (n : Numbered). n.event) (numbered_from hosts devices (number + 1) ls))
        → (r : Result (List Event) ReadFault) → events_behind hosts devices number before line ≡ r
        → (events_behind hosts devices number before line >>= λ more. read_from hosts devices (number + 1) more ls) ≡ Ok all
        → all ≡ before ++ map (λ (n : Numbered). n.event) (numbered_from hosts devices number (line ∷ ls))
    by_first later (Err fault) is joined = absurd (let wrong : Err fault ≡ Ok all = rw is at joined in cc)
    by_first later (Ok more) is joined =
        let here : read_from hosts devices (number + 1) more ls ≡ Ok all = rw is at joined in
        let added = adds hosts devices number before more line (All-head (IsPart (λ b. b == 10) MAX_TEXT) line ls parts) is in
        later more here ∙ ap (λ es. es ++ others) added ∙ append_assoc before (events_in_line hosts devices line) others
        ∙ ap (λ es. before ++ (es ++ others)) (sym (events_on_line number (events_in_line hosts devices line)))
        ∙ ap (λ es. before ++ es) (sym (map_joined (on_line number (events_in_line hosts devices line)) (numbered_from hosts devices (number + 1) ls)))

by_line : (hosts devices : ℕ) (text : List ℕ) (events : List Event) → schedule_of hosts devices text ≡ Ok events → (nat_lt MAX_TEXT (length text) ≡ false) × (read_from hosts devices 1 [] (lines text) ≡ Ok events)
unfolding schedule_of
by_line hosts devices text events found = elim (cases_Bool (nat_lt MAX_TEXT (length text))) [
  | inl long ↦ absurd (let wrong : Err _ ≡ Ok events = rw long at found in cc)
  | inr fits ↦ (fits, rw fits at found)
]

pub events_are_by_line : EventsAreByLine
events_are_by_line hosts devices text events found =
    let read = by_line hosts devices text events found in
    let few : length text ≤ MAX_TEXT = grind (arith, nat_tests, read.0) in
    let parts = All-weaker (IsPart (λ b. b == 10) (length text)) (IsPart (λ b. b == 10) MAX_TEXT) (λ part is. record { inside = is.inside; short = omega (arith, is.short, few) })
    (lines text) (are_parts (λ b. b == 10) text) in
    sym (from_lines hosts devices 1 [] events (lines text) parts read.1)

-- ## Lines that come one after another

pub texts_more : (list : List (Bor (List ℕ))) (b : Bor (List ℕ)) → texts (list ++ b ∷ []) ≡ texts list ++ b.now ∷ []
texts_more [] b = refl
texts_more (l ∷ list) b = ap (λ ts. l.now ∷ ts) (texts_more list b)

pub empty_line : (rest : List ℕ) → length rest ≡ 0 → lines rest ≡ rest ∷ []
empty_line [] none = refl
empty_line (b ∷ rest) none = absurd (omega (arith, none))

pub line_before : (all : List (List ℕ)) (list : List (Bor (List ℕ))) (b : Bor (List ℕ)) (rest others : List ℕ)
    → texts list ++ lines rest ≡ all → lines rest ≡ b.now ∷ lines others → texts (list ++ b ∷ []) ++ lines others ≡ all
line_before all list b rest others whole next =
    ap (λ ts. ts ++ lines others) (texts_more list b) ∙ append_assoc (texts list) (b.now ∷ []) (lines others)
    ∙ ap (λ ls. texts list ++ ls) (sym next) ∙ whole

pub line_at_end : (all : List (List ℕ)) (list : List (Bor (List ℕ))) (b : Bor (List ℕ)) (rest : List ℕ)
    → texts list ++ lines rest ≡ all → lines rest ≡ b.now ∷ [] → texts (list ++ b ∷ []) ≡ all
line_at_end all list b rest whole last = texts_more list b ∙ ap (λ ls. texts list ++ ls) (sym last) ∙ whole

pub on_line_more : (number : ℕ) (xs ys : List Event) → on_line number (xs ++ ys) ≡ on_line number xs ++ on_line number ys
on_line_more number [] ys = refl
on_line_more number (x ∷ xs) ys = ap (λ ns. record { line = number; event = x } ∷ ns) (on_line_more number xs ys)

pub from_more : (hosts devices number : ℕ) (ls : List (List ℕ)) (line : List ℕ)
    → numbered_from hosts devices number (ls ++ line ∷ []) ≡ numbered_from hosts devices number ls ++ on_line (number + length ls) (events_in_line hosts devices line)
from_more hosts devices number [] line =
    let here : number + 0 ≡ number = omega arith in
    rw here (append-nil (on_line number (events_in_line hosts devices line)))
from_more hosts devices number (l ∷ ls) line =
    let count : (number + 1) + length ls ≡ number + length (l ∷ ls) = omega arith in
    ap (λ ns. on_line number (events_in_line hosts devices l) ++ ns) (from_more hosts devices (number + 1) ls line)
    ∙ ap (λ k. on_line number (events_in_line hosts devices l) ++ (numbered_from hosts devices (number + 1) ls ++ on_line k (events_in_line hosts devices line))) count
    ∙ sym (append_assoc (on_line number (events_in_line hosts devices l)) (numbered_from hosts devices (number + 1) ls) (on_line (number + length (l ∷ ls)) (events_in_line hosts devices line)))

-- the events of one line more
pub events_more : (hosts devices i number : ℕ) (d : Bor (List ℕ)) (ls : List (Bor (List ℕ))) (old : List Numbered) → i < length ls → number ≡ i + 1
    → old ≡ numbered_from hosts devices 1 (texts (take i ls))
    → old ++ on_line number (events_in_line hosts devices (get_or ls i d).now) ≡ numbered_from hosts devices 1 (texts (take (i + 1) ls))
events_more hosts devices i number d ls old below is before =
    let line = (get_or ls i d).now in
    let count : 1 + length (texts (take i ls)) ≡ number =
    omega (arith, is, below, length-map (take i ls) (λ (name : Bor (List ℕ)). name.now), length-take-le i ls (omega (arith, below))) in
    ap (λ es. es ++ on_line number (events_in_line hosts devices line)) before
    ∙ ap (λ n. numbered_from hosts devices 1 (texts (take i ls)) ++ on_line n (events_in_line hosts devices line)) (sym count)
    ∙ sym (from_more hosts devices 1 (texts (take i ls)) line)
    ∙ ap (numbered_from hosts devices 1) (sym (texts_more (take i ls) (get_or ls i d)) ∙ ap texts (sym (take_more ls i d below)))
