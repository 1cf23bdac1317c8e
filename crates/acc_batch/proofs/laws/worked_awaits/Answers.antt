use Rattle.std.proofs.Common.{◌≡◌, ℕ, ◌<◌, ◌≤◌, false, [], ◌∷◌, refl, subst, arith, inl, inr}
use Rattle.std.specs.Prelude.{All, Contains}
use Rattle.std.proofs.lemmas.List.Elements.{All-nil, All-cons}
use Rattle.acc_base.proofs.Members.{no_member, member_first, member_rest, member_one, member_cases}
use Rattle.acc_base.specs.declared.ids.TheConstants.{QUEUES}
use Rattle.acc_batch.specs.declared.label.OpLabel.TheVariants.{Make, CopyIn, Release, Await}
use Rattle.acc_batch.specs.declared.label.Label.{Label}
use Rattle.acc_batch.specs.Awaits.{is_await, IsOrdered, AreNumberedLabels, StandsBehind, one_queue, awaited, uses_made, releases_used}
use Rattle.acc_batch.specs.worked.Awaits.{queue, cells, first_batch, maker, user}
use Rattle.acc_batch.proofs.OrderedBatches.{label_ordered}
use Rattle.acc_batch.proofs.laws.worked_awaits.Goals as goal

pub returns-clause-awaits : goal.returns-clause-awaits
returns-clause-awaits c = (refl, refl, refl, refl, refl, refl, refl)

pub returns-clause-ordered : goal.returns-clause-ordered
returns-clause-ordered c = (maker_ordered, (label_ordered false [] (queue 4) (maker ∷ []) 0 0 (CopyIn cells 1 ∷ []) numbered (maker_ordered, tt) own_use, tt))
  where
    own_use : All (λ op. is_await op ≡ false) (CopyIn cells 1 ∷ [])
    own_use = All-cons (λ op. is_await op ≡ false) (CopyIn cells 1) [] refl (All-nil (λ op. is_await op ≡ false))

    own_make : All (λ op. is_await op ≡ false) (Make cells 1 ∷ CopyIn cells 1 ∷ [])
    own_make = All-cons (λ op. is_await op ≡ false) (Make cells 1) (CopyIn cells 1 ∷ []) refl own_use

    maker_ordered : IsOrdered [] maker
    maker_ordered = label_ordered false [] (queue 2) [] 0 0 (Make cells 1 ∷ CopyIn cells 1 ∷ []) (λ m h. absurd (no_member m h)) tt own_make

    numbered : AreNumberedLabels (maker ∷ [])
    numbered m h = subst (λ (l : Label). (0 < l.number) × (l.at.queue < QUEUES)) (member_one m maker h) (omega arith, omega arith)

-- a batch that awaits nothing stands only behind those of its queue
alone_behind : (l m : Label) → StandsBehind l m → ((q n : ℕ) → Contains l.ops (Await q n) → q ≡ m.at.queue → ⊥) → m.at ≡ l.at
alone_behind l m (one_queue same) none = same
alone_behind l m (awaited n low there) none = absurd (none m.at.queue n there refl)

pub returns-clause-refused : goal.returns-clause-refused
returns-clause-refused c = (no_maker, λ arrays s. no_maker s.ordered.1.0, no_use, not_placed)
  where
    no_maker : IsOrdered (maker ∷ []) (first_batch 4 (CopyIn cells 1 ∷ [])) → ⊥
    no_maker o =
        let behind = o.behind maker 1 (member_first maker []) refl (uses_made (member_first 1 []) (member_first 1 [])) in
        let none : (q n : ℕ) → Contains (CopyIn cells 1 ∷ []) (Await q n) → q ≡ 2 → ⊥ = λ q n k e. not_await q n k in
        let same = alone_behind (first_batch 4 (CopyIn cells 1 ∷ [])) maker behind none in
        cc
      where
        not_await : (q n : ℕ) → Contains (CopyIn cells 1 ∷ []) (Await q n) → ⊥
        not_await q n k = elim (member_cases (Await q n) (CopyIn cells 1) [] k) [ inl e ↦ cc | inr rest ↦ no_member (Await q n) rest ]

    no_use : IsOrdered (maker ∷ user ∷ []) (first_batch 3 (Await 2 1 ∷ Release 1 ∷ [])) → ⊥
    no_use o =
        let behind = o.behind user 1 (member_rest user maker (user ∷ []) (member_first user [])) refl (releases_used (member_first 1 []) (member_first 1 [])) in
        let same = alone_behind (first_batch 3 (Await 2 1 ∷ Release 1 ∷ [])) user behind not_await in
        cc
      where
        not_await : (q n : ℕ) → Contains (Await 2 1 ∷ Release 1 ∷ []) (Await q n) → q ≡ 4 → ⊥
        not_await q n k e = elim (member_cases (Await q n) (Await 2 1) (Release 1 ∷ []) k) [
          | inl same ↦ (let two : q ≡ 2 = cc in omega (arith, two, e))
          | inr rest ↦ (elim (member_cases (Await q n) (Release 1) [] rest) [ inl wrong ↦ cc | inr none ↦ no_member (Await q n) none ])
        ]

    not_placed : IsOrdered [] user → ⊥
    not_placed o =
        let low : 1 ≤ 0 = o.awaits_placed 2 1 (member_first (Await 2 1) (CopyIn cells 1 ∷ [])) in
        omega (arith, low)
