-- Values that are put page by page.
use Rattle.std.proofs.Common.{◌≡◌, ℕ, List, [], ◌∷◌, ◌++◌, sym, ap, ◌∙◌}
use Rattle.std.proofs.lemmas.Grind.{flat_map-append}
use Rattle.std.proofs.lemmas.List.{append_assoc, append-nil}
use Rattle.std.specs.List.{flat_map}
use Rattle.acc_report.specs.Puts.{Puts, Sink}
use Rattle.acc_report.specs.inner.Pages.{IsHandedOn}
use Rattle.acc_report.proofs.JoinedPuts.{puts_then}

-- Of a text a beginning was put, and the rest waits; more of it joins what waits.
pub more_waits : {a b c : Sink} (text more waited left waits : List ℕ)
    → IsHandedOn a b text waited → IsHandedOn b c waited left → waits ≡ left ++ more → IsHandedOn a c (text ++ more) waits
more_waits text more waited left waits so_far on now = record {
  done = so_far.done ++ on.done;
  puts = puts_then so_far.puts on.puts;
  rest =
      ap (λ t. t ++ more) (so_far.rest ∙ ap (λ t. so_far.done ++ t) on.rest)
      ∙ ap (λ t. t ++ more) (sym (append_assoc so_far.done on.done left))
      ∙ append_assoc (so_far.done ++ on.done) left more
      ∙ ap (λ t. (so_far.done ++ on.done) ++ t) (sym now);
}

-- The same where the text is a front and a text for each of a list, of which there is one more.
pub one_waits : {a b c : Sink} {A : Type 0} (f : A → List ℕ) (front : List ℕ) (xs : List A) (x : A) (waited left waits : List ℕ)
    → IsHandedOn a b (front ++ flat_map f xs) waited → IsHandedOn b c waited left → waits ≡ left ++ f x
    → IsHandedOn a c (front ++ flat_map f (xs ++ x ∷ [])) waits
one_waits f front xs x waited left waits so_far on now =
    let one : (front ++ flat_map f xs) ++ f x ≡ front ++ flat_map f (xs ++ x ∷ []) =
    append_assoc front (flat_map f xs) (f x)
    ∙ ap (λ t. front ++ t) (ap (λ t. flat_map f xs ++ t) (sym (append-nil (f x))) ∙ sym (flat_map-append f xs (x ∷ []))) in
    rw one at (more_waits (front ++ flat_map f xs) (f x) waited left waits so_far on now)

-- What waits at the end is put.
pub rest_put : {a b c : Sink} (text waits : List ℕ) → IsHandedOn a b text waits → Puts b c waits → Puts a c text
rest_put text waits on puts = rw on.rest (puts_then on.puts puts)
