-- The numbers of blocks: each lifetime that a mark opens has the next one.
use Rattle.std.proofs.Common.{inl, inr, ◌≡◌, ◌⊎◌, suc, ◌+◌, ◌<◌, ◌≤◌, List, [], ◌∷◌, length, refl, ap, ◌∙◌, arith}
use Rattle.std.specs.Prelude.{Contains, not, filter}
use Rattle.std.proofs.lemmas.Bool.{cases_Bool}
use Rattle.std.proofs.lemmas.List.{length-append}
use Rattle.std.proofs.lemmas.List.Elements.{All-contains_itself, All-weaker, Contains-append_cases}
use Rattle.std.proofs.lemmas.List.Filters.{length-filter_both}
use Rattle.acc_base.proofs.Members.{member_cases, member_filter}
use Rattle.acc_present.specs.Marks.{Mark}
use Rattle.acc_present.specs.Lifetimes.{Lifetime, opened_lifetimes, opens, lifetime_inserted, is_before}
use Rattle.acc_present.proofs.LifetimesApart.{Differ, Apart, apart_insert, all_parted, apart_parted}

-- the lifetime that a mark opens
abbrev pub opening : Mark → List Mark → Lifetime
opening m ms = record { range = m.range; block = length (opened_lifetimes ms) + 1; since = length ms }

-- placing a lifetime in a list makes it one longer
pub length-lifetime_inserted : (l : Lifetime) (ls : List Lifetime) → length (lifetime_inserted l ls) ≡ suc (length ls)
length-lifetime_inserted l ls =
    let both = length-filter_both (λ k. is_before l.range k.range) (λ k. not (is_before l.range k.range)) (λ x. refl) ls in
    omega (arith, both, length-append (filter (λ k. not (is_before l.range k.range)) ls) (l ∷ filter (λ k. is_before l.range k.range) ls))

-- a member of a list that a lifetime was placed in is that lifetime, or one of the others
pub member_inserted : (l : Lifetime) (ls : List Lifetime) (k : Lifetime) → Contains (lifetime_inserted l ls) k → (l ≡ k) ⊎ Contains ls k
member_inserted l ls k m =
    let p = λ (x : Lifetime). is_before l.range x.range in
    elim (Contains-append_cases (filter (λ x. not (p x)) ls) (l ∷ filter p ls) k m) [
      | inl a ↦ inr (member_filter (λ x. not (p x)) ls k a).1
      | inr b ↦ elim (member_cases k l (filter p ls) b) [ inl same ↦ inl same | inr c ↦ inr (member_filter p ls k c).1 ]
    ]

-- A mark opens one lifetime, or none.
pub opened_more : (m : Mark) (ms : List Mark) → (opened_lifetimes (m ∷ ms) ≡ opened_lifetimes ms) ⊎ (opened_lifetimes (m ∷ ms) ≡ lifetime_inserted (opening m ms) (opened_lifetimes ms))
unfolding opened_lifetimes
opened_more m ms = elim (cases_Bool (opens m ms (opened_lifetimes ms))) [
  | inl is_open ↦ inr (rw is_open refl)
  | inr is_shut ↦ inl (rw is_shut refl)
]

-- The lifetimes opened so far have the numbers from 1 up in order of opening, each its own, and each is older than the last mark.
pub record Numbered (ms : List Mark) : Type 0 where
  pub apart : Apart (opened_lifetimes ms)
  pub first : (l : Lifetime) → Contains (opened_lifetimes ms) l → 1 ≤ l.block
  pub low : (l : Lifetime) → Contains (opened_lifetimes ms) l → l.block ≤ length (opened_lifetimes ms)
  pub in_order : (l k : Lifetime) → Contains (opened_lifetimes ms) l → Contains (opened_lifetimes ms) k → l.since < k.since → l.block < k.block
  pub since : (l : Lifetime) → Contains (opened_lifetimes ms) l → l.since < length ms

-- What one more mark does to the list of all lifetimes.
pub record OpenedMore (m : Mark) (ms : List Mark) : Type 0 where
  pub longer : length (opened_lifetimes ms) ≤ length (opened_lifetimes (m ∷ ms))
  pub members : (l : Lifetime) → Contains (opened_lifetimes (m ∷ ms)) l → Contains (opened_lifetimes ms) l ⊎ ((opening m ms ≡ l) × (length (opened_lifetimes (m ∷ ms)) ≡ suc (length (opened_lifetimes ms))))

-- one more mark adds its own lifetime, or none
pub opened_one : (m : Mark) (ms : List Mark) → OpenedMore m ms
opened_one m ms = elim (opened_more m ms) [
  | inl same ↦ record { longer = omega (arith, ap length same); members = λ l h. inl (rw same at h) }
  | inr more ↦
      let len = ap length more ∙ length-lifetime_inserted (opening m ms) (opened_lifetimes ms) in
      record {
        longer = omega (arith, len);
        members = λ l h. elim (member_inserted (opening m ms) (opened_lifetimes ms) l (rw more at h)) [ inl new ↦ inr (new, len) | inr old ↦ inl old ];
      }
]

-- one more mark leaves no two lifetimes with one block
apart_more : (m : Mark) (ms : List Mark) → Numbered ms → Apart (opened_lifetimes (m ∷ ms))
apart_more m ms h = elim (opened_more m ms) [
  | inl same ↦ rw same h.apart
  | inr more ↦
      let l = opening m ms in
      let p = λ (x : Lifetime). is_before l.range x.range in
      let new = All-weaker (Contains (opened_lifetimes ms)) (Differ l) (λ k c e. absurd (omega (arith, e, h.low k c))) (opened_lifetimes ms) (All-contains_itself (opened_lifetimes ms)) in
      rw more
      (apart_insert l (filter (λ x. not (p x)) (opened_lifetimes ms)) (filter p (opened_lifetimes ms)) (apart_parted p (opened_lifetimes ms) h.apart)
      (all_parted (Differ l) p (opened_lifetimes ms) new))
]

-- before the first mark there is no lifetime
no_lifetime : (l : Lifetime) → Contains (opened_lifetimes []) l → ⊥
unfolding opened_lifetimes
no_lifetime l c = absurd (omega (arith, c.1))

-- and so there are no two with one block
apart_none : Apart (opened_lifetimes [])
unfolding opened_lifetimes
apart_none = λ i j d below within. absurd (omega (arith, within))

-- the lifetimes of any marks are numbered so
pub numbered : (ms : List Mark) → Numbered ms
numbered [] = record {
  apart = apart_none;
  first = λ l c. absurd (no_lifetime l c);
  low = λ l c. absurd (no_lifetime l c);
  in_order = λ l k c d h. absurd (no_lifetime l c);
  since = λ l c. absurd (no_lifetime l c);
}
numbered (m ∷ ms) =
    let ih = numbered ms in
    let one = opened_one m ms in
    record {
      apart = apart_more m ms ih;
      first = λ l c. elim (one.members l c) [
        | inl old ↦ ih.first l old
        | inr new ↦ omega (arith, ap (λ (z : Lifetime). z.block) new.0)
      ];
      in_order = λ l k c d h. elim (one.members l c) [
        | inl l_old ↦ elim (one.members k d) [
          | inl k_old ↦ ih.in_order l k l_old k_old h
          | inr k_new ↦ omega (arith, ih.low l l_old, ap (λ (z : Lifetime). z.block) k_new.0)
        ]
        | inr l_new ↦ elim (one.members k d) [
          | inl k_old ↦ absurd (omega (arith, h, ih.since k k_old, ap (λ (z : Lifetime). z.since) l_new.0))
          | inr k_new ↦ absurd (omega (arith, h, ap (λ (z : Lifetime). z.since) l_new.0, ap (λ (z : Lifetime). z.since) k_new.0))
        ]
      ];
      low = λ l c. elim (one.members l c) [
        | inl old ↦ omega (arith, ih.low l old, one.longer)
        | inr new ↦ omega (arith, ap (λ (z : Lifetime). z.block) new.0, new.1)
      ];
      since = λ l c. elim (one.members l c) [
        | inl old ↦ omega (arith, ih.since l old)
        | inr new ↦ omega (arith, ap (λ (z : Lifetime). z.since) new.0)
      ];
    }
