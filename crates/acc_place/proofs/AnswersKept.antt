-- The directives of a history, their counts and their answers go together.
use Rattle.std.proofs.Common.{◌≡◌, ℕ, true, false, List, [], ◌∷◌, ◌++◌, length, refl, sym, ap, ◌∙◌, arith}
use Rattle.std.specs.Prelude.{All, drop, reverse}
use Rattle.std.proofs.lemmas.List.{length-append, length-reverse, reverse-append}
use Rattle.std.proofs.lemmas.List.Elements.{All-append, All-cons, All-head, All-nil, All-tail}
use Rattle.std.proofs.Math.Seq.{drop-append_seam, take-append_seam}
use Rattle.acc_base.specs.Configurations.{Configuration}
use Rattle.acc_batch.specs.declared.label.Label.{Label}
use Rattle.acc_place.specs.declared.device.Device.{Device}
use Rattle.acc_place.specs.declared.directive.Placed.{Placed}
use Rattle.acc_place.specs.declared.directive.PlaceEntry.{PlaceEntry}
use Rattle.acc_place.specs.declared.directive.PlaceEntry.TheVariants.{Accepted, Closing, Closed}
use Rattle.acc_place.specs.Answers.{answers_of, is_directive, GoTogether}
use Rattle.acc_place.specs.Histories.{standing, AllAccepted}
use Rattle.acc_place.specs.declared.directive.Region.{Region}
use Rattle.acc_place.specs.inner.Places.{IsPlace}
use Rattle.acc_place.proofs.AcceptedDirective.{accepted_open}

-- each directive has an answer
pub length-answers : (config : Configuration) (history : List PlaceEntry) (counts : List ℕ) → length (answers_of config history counts) ≡ (standing config history counts).accepted
unfolding standing
length-answers config [] counts = refl
length-answers config (Accepted host d ∷ before) counts = omega (arith, length-answers config before (drop 1 counts))
length-answers config (Closing ∷ before) counts = length-answers config before counts
length-answers config (Closed at ∷ before) counts = length-answers config before counts

-- a place keeps as many answers as counts
pub kept_answers : (config : Configuration) (history : List PlaceEntry) (counts : List ℕ) (answers : List Placed) (devices : List Device) (regions : List Region) (queues : List (List Label))
    → IsPlace config history counts (reverse answers) devices regions queues → length answers ≡ length counts
kept_answers config history counts answers devices regions queues h =
    sym (length-reverse answers) ∙ (ap length h.answered ∙ (length-answers config history counts ∙ sym h.counted))

abbrev IsClosing : PlaceEntry → Type 0
IsClosing e = is_directive e ≡ false

abbrev IsDirective : PlaceEntry → Type 0
IsDirective e = is_directive e ≡ true

-- What closing added, and the directives before it, the latest first.
record AreParted (config : Configuration) (history : List PlaceEntry) (counts : List ℕ) : Type 0 where
  since : List PlaceEntry
  directives : List PlaceEntry
  are : history ≡ since ++ directives
  closing : All IsClosing since
  accepted : All IsDirective directives
  counted : length directives ≡ (standing config history counts).accepted
  early : (standing config history counts).closing ≡ false → since ≡ []

parted : (config : Configuration) (history : List PlaceEntry) (counts : List ℕ) → AllAccepted config history counts → AreParted config history counts
unfolding standing
parted config [] counts all =
    record { since = []; directives = []; are = refl; closing = All-nil IsClosing; accepted = All-nil IsDirective; counted = refl; early = λ begun. refl }
parted config (Accepted host d ∷ before) counts all =
    let h = parted config before (drop 1 counts) all.1 in
    let none : h.since ≡ [] = h.early (accepted_open config (standing config before (drop 1 counts)) host d all.0) in
    record {
      since = [];
      directives = Accepted host d ∷ h.directives;
      are = ap (λ xs. Accepted host d ∷ xs) (h.are ∙ ap (λ xs. xs ++ h.directives) none);
      closing = All-nil IsClosing;
      accepted = All-cons IsDirective (Accepted host d) h.directives refl h.accepted;
      counted = omega (arith, h.counted);
      early = λ begun. refl;
    }
parted config (Closing ∷ before) counts all =
    let h = parted config before counts all.1 in
    record {
      since = Closing ∷ h.since;
      directives = h.directives;
      are = ap (λ xs. Closing ∷ xs) h.are;
      closing = All-cons IsClosing Closing h.since refl h.closing;
      accepted = h.accepted;
      counted = h.counted;
      early = λ begun. (let w : true ≡ false = begun in absurd cc);
    }
parted config (Closed at ∷ before) counts all =
    let h = parted config before counts all.1 in
    record {
      since = Closed at ∷ h.since;
      directives = h.directives;
      are = ap (λ xs. Closed at ∷ xs) h.are;
      closing = All-cons IsClosing (Closed at) h.since refl h.closing;
      accepted = h.accepted;
      counted = h.counted;
      early = λ begun. (let w : true ≡ false = sym all.0.begun ∙ begun in absurd cc);
    }

pub All-reversed : {X : Type 0} (P : X → Type 0) (xs : List X) → All P xs → All P (reverse xs)
All-reversed P [] all = All-nil P
All-reversed P (x ∷ xs) all =
    rw (reverse-append (x ∷ []) xs) (All-append P (reverse xs) (x ∷ []) (All-reversed P xs (All-tail P x xs all)) (All-cons P x [] (All-head P x xs all) (All-nil P)))

-- In their order: the directives first.
pub go_together : (config : Configuration) (history : List PlaceEntry) (counts : List ℕ) → AllAccepted config history counts → length counts ≡ (standing config history counts).accepted → GoTogether config history counts
go_together config history counts all counted =
    let h = parted config history counts all in
    let order : reverse history ≡ reverse h.directives ++ reverse h.since = ap reverse h.are ∙ reverse-append h.since h.directives in
    let count : length counts ≡ length (reverse h.directives) = counted ∙ (sym h.counted ∙ sym (length-reverse h.directives)) in
    record {
      accepted = counted;
      answered = counted ∙ sym (length-answers config history counts);
      within = omega (arith, counted, h.counted, ap length h.are, length-append h.since h.directives);
      first = rw (order, count, take-append_seam (reverse h.directives) (reverse h.since)) (All-reversed IsDirective h.directives h.accepted);
      behind = rw (order, count, drop-append_seam (reverse h.directives) (reverse h.since)) (All-reversed IsClosing h.since h.closing);
    }
