-- The counts of a host's directives rise where its token agrees.
use Rattle.std.proofs.Common.{inl, inr, ◌≡◌, ℕ, zero, suc, ◌+◌, ◌<◌, List, [], ◌∷◌, length, sym, ap, subst, arith}
use Rattle.std.specs.Prelude.{map}
use Rattle.std.proofs.lemmas.Bool.{cases_lt}
use Rattle.std.proofs.lemmas.List.{length-map}
use Rattle.acc_host.specs.Engines.{HostEntry, Gave, Had}
use Rattle.acc_host.specs.Entries.{Own, items_shown, own_of}
use Rattle.acc_host.specs.Legality.{Histories, Rise, AllRise}
use Rattle.acc_run.specs.Agreement.{as_known, directives_in, shown_in, Agrees, EachAgrees, Agree}
use Rattle.acc_run.specs.Tokens.{TokenView, listed_entry}

rise_lower : (low : ℕ) (os : List Own) (high : ℕ) → Rise (low + 1) os high → Rise low os high
rise_lower low [] high h = omega (arith, h)
rise_lower low (o ∷ os) high h = (omega (arith, h.0), h.1)

-- each directive of a list stands behind the items before it
rise_in : (before : ℕ) (list : List HostEntry) → Rise before (directives_in before list) (before + length (shown_in list))
rise_in before [] = omega arith
rise_in before (Gave d placed ∷ list) = (omega arith, rise_in before list)
rise_in before (Had what ∷ list) =
    let more : before + 1 + length (shown_in list) ≡ before + suc (length (shown_in list)) = omega arith in
    subst (λ n. Rise before (directives_in (before + 1) list) n) more (rise_lower before (directives_in (before + 1) list) (before + 1 + length (shown_in list)) (rise_in (before + 1) list))

rise_of : (h : Histories) (host : ℕ) (list : List HostEntry) → Agrees h host list → Rise 0 (own_of h.config host h.history h.counts) (length (items_shown host h.work))
rise_of h host list a =
    let count : 0 + length (shown_in list) ≡ length (items_shown host h.work) = omega (arith, ap length a.items, length-map (items_shown host h.work) as_known) in
    subst (λ os. Rise 0 os (length (items_shown host h.work))) (sym a.directives) (subst (λ n. Rise 0 (directives_in 0 list) n) count (rise_in 0 list))

-- the list of a host whose token is there
list_of : (h : Histories) (n k : ℕ) (ts : List TokenView) → EachAgrees h n ts → k < length ts → (list : List HostEntry) × Agrees h (n + k) list
list_of h n k [] each there = absurd (omega (arith, there))
list_of h n zero (t ∷ ts) each there = (let same : n ≡ n + 0 = omega arith in (map listed_entry t.entries, subst (λ m. Agrees h m (map listed_entry t.entries)) same each.1))
list_of h n (suc k) (t ∷ ts) each there =
    let later = list_of h (n + 1) k ts each.2 (omega (arith, there)) in
    let same : n + 1 + k ≡ n + suc k = omega arith in
    (later.0, subst (λ m. Agrees h m later.0) same later.1)

pub all_rise : (h : Histories) (ts : List TokenView) → Agree ts h → AllRise h
all_rise h ts a = λ host. elim (cases_lt host (length ts)) [
  | inl there ↦ (let found = list_of h 0 host ts a.each there in rise_of h host found.0 (let same : 0 + host ≡ host = omega arith in subst (λ m. Agrees h m found.0) same found.1))
  | inr past ↦ (let none = a.no_others host (omega (arith, past, a.one_each)) in rw (none.0, none.1) (omega arith))
]
