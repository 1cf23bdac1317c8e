-- How many directives are accepted is told by those of each host.
use Rattle.std.proofs.Common.{inl, inr, ◌≡◌, ℕ, zero, suc, ◌+◌, ◌<◌, ◌≤◌, Bool, true, false, List, [], ◌∷◌, drop, length, refl, sym, ap, ◌∙◌, arith}
use Rattle.std.specs.Prelude.{◌==◌}
use Rattle.std.proofs.lemmas.Bool.{cases_eq, eq-eqb, ne_eqb}
use Rattle.std.proofs.lemmas.List.{length_push}
use Rattle.acc_base.specs.Configurations.{Configuration}
use Rattle.acc_host.specs.Entries.{own_of}
use Rattle.acc_place.specs.declared.directive.PlaceEntry.{PlaceEntry}
use Rattle.acc_place.specs.declared.directive.PlaceEntry.TheVariants as noted
use Rattle.acc_place.specs.Directives.{Directive}
use Rattle.acc_place.specs.Histories.{standing}
use Rattle.acc_work.specs.Logs.{if_one, one_more}

-- how many directives a history has of a host, and of all
abbrev count_of : ℕ → List PlaceEntry → ℕ
count_of host [] = 0
count_of host (noted.Accepted h d ∷ before) = if_one (h == host) (count_of host before)
count_of host (noted.Closing ∷ before) = count_of host before
count_of host (noted.Closed at ∷ before) = count_of host before

abbrev count_all : List PlaceEntry → ℕ
count_all [] = 0
count_all (noted.Accepted h d ∷ before) = count_all before + 1
count_all (noted.Closing ∷ before) = count_all before
count_all (noted.Closed at ∷ before) = count_all before

accepted_is : (config : Configuration) (history : List PlaceEntry) (counts : List ℕ) → (standing config history counts).accepted ≡ count_all history
unfolding standing
accepted_is config [] counts = refl
accepted_is config (noted.Accepted h d ∷ before) counts = ap (λ n. n + 1) (accepted_is config before (drop 1 counts))
accepted_is config (noted.Closing ∷ before) counts = accepted_is config before counts
accepted_is config (noted.Closed at ∷ before) counts = accepted_is config before counts

one_longer : {X : Type 0} → (more : Bool) (xs : List X) (x : X) → length (one_more more xs x) ≡ if_one more (length xs)
one_longer true xs x = length_push xs x
one_longer false xs x = refl

own_length : (config : Configuration) (host : ℕ) (history : List PlaceEntry) (counts : List ℕ) → length (own_of config host history counts) ≡ count_of host history
own_length config host [] counts = refl
own_length config host (noted.Accepted h d ∷ before) counts =
    one_longer (h == host) (own_of config host before (drop 1 counts)) _ ∙ ap (if_one (h == host)) (own_length config host before (drop 1 counts))
own_length config host (noted.Closing ∷ before) counts = own_length config host before counts
own_length config host (noted.Closed at ∷ before) counts = own_length config host before counts

-- ## The first hosts, as many as need be

abbrev bound : List PlaceEntry → ℕ
bound [] = 0
bound (noted.Accepted h d ∷ before) = bound before + (h + 1)
bound (noted.Closing ∷ before) = bound before
bound (noted.Closed at ∷ before) = bound before

-- how many directives the first n hosts have
abbrev total : ℕ → List PlaceEntry → ℕ
total zero history = 0
total (suc n) history = count_of n history + total n history

-- one directive more of a host beside them, and of one of them
total_beside : (n host : ℕ) (d : Directive) (history : List PlaceEntry) → n ≤ host → total n (noted.Accepted host d ∷ history) ≡ total n history
total_beside zero host d history high = refl
total_beside (suc n) host d history high =
    let rest = total_beside n host d history (omega (arith, high)) in
    let differ : (host == n) ≡ false = ne_eqb host n (omega (arith, high)) in
    rw differ (ap (λ k. count_of n history + k) rest)

total_more : (n host : ℕ) (d : Directive) (history : List PlaceEntry) → host < n → total n (noted.Accepted host d ∷ history) ≡ total n history + 1
total_more zero host d history low = absurd (omega (arith, low))
total_more (suc n) host d history low = elim (cases_eq host n) [
  | inl same ↦ (
      let here : (host == n) ≡ true = eq-eqb host n same in
      let rest = total_beside n host d history (omega (arith, same)) in
      let one : count_of n (noted.Accepted host d ∷ history) ≡ count_of n history + 1 = rw here refl in
      omega (arith, rest, one)
      )
  | inr other ↦ (
      let differ : (host == n) ≡ false = ne_eqb host n other in
      let rest = total_more n host d history (omega (arith, low, other)) in
      let none : count_of n (noted.Accepted host d ∷ history) ≡ count_of n history = rw differ refl in
      omega (arith, rest, none)
      )
]

total_none : (n : ℕ) → total n [] ≡ 0
total_none zero = refl
total_none (suc n) = omega (arith, total_none n)

total_alike : (n : ℕ) (old new : List PlaceEntry) → ((host : ℕ) → count_of host old ≡ count_of host new) → total n old ≡ total n new
total_alike zero old new same = refl
total_alike (suc n) old new same = omega (arith, same n, total_alike n old new same)

all_total : (n : ℕ) (history : List PlaceEntry) → bound history ≤ n → count_all history ≡ total n history
all_total n [] low = sym (total_none n)
all_total n (noted.Accepted h d ∷ before) low =
    let rest = all_total n before (omega (arith, low)) in
    let more = total_more n h d before (omega (arith, low)) in
    omega (arith, rest, more)
all_total n (noted.Closing ∷ before) low = all_total n before low ∙ sym (total_alike n (noted.Closing ∷ before) before (λ host. refl))
all_total n (noted.Closed at ∷ before) low = all_total n before low ∙ sym (total_alike n (noted.Closed at ∷ before) before (λ host. refl))

-- Where each host has the same directives, as many are accepted.
pub accepted_same : (config other : Configuration) (h g : List PlaceEntry) (c b : List ℕ) → ((host : ℕ) → own_of config host h c ≡ own_of other host g b)
    → (standing config h c).accepted ≡ (standing other g b).accepted
accepted_same config other h g c b own =
    let n = bound h + bound g in
    let each : (host : ℕ) → count_of host h ≡ count_of host g = λ host. sym (own_length config host h c) ∙ (ap length (own host) ∙ own_length other host g b) in
    accepted_is config h c
    ∙ (all_total n h (omega arith) ∙ (total_alike n h g each ∙ (sym (all_total n g (omega arith)) ∙ sym (accepted_is other g b))))
