-- What a batch awaits was placed before it.
use Rattle.std.proofs.Common.{inl, inr, ◌≡◌, ℕ, ◌≤◌, Bool, true, false, cond, List, [], ◌∷◌, ◌++◌, length, map, refl, sym, ap, subst, ◌∙◌, arith}
use Rattle.std.specs.Prelude.{All, Contains, filter, ◌==◌, ◌||◌}
use Rattle.std.specs.List.{flat_map}
use Rattle.std.proofs.lemmas.Bool.{cases_Bool}
use Rattle.std.proofs.lemmas.List.{append_assoc, length-append}
use Rattle.std.proofs.lemmas.List.Elements.{All-contains, Contains-append_cases}
use Rattle.acc_base.specs.declared.ids.QueueAt.{QueueAt}
use Rattle.acc_base.specs.Queues.{every_queue, same_queue}
use Rattle.acc_base.proofs.Members.{no_member, member_first, member_rest, member_one, member_cases, member_filter}
use Rattle.acc_base.proofs.SameQueue.{same_queue_is, same_queue_itself}
use Rattle.acc_batch.specs.declared.label.Label.{Label}
use Rattle.acc_batch.specs.declared.label.OpLabel.{OpLabel}
use Rattle.acc_batch.specs.declared.label.OpLabel.TheVariants.{Await}
use Rattle.acc_batch.specs.Labels.{on_queue, used_blocks, released_blocks, has_number, makes_block, touches_block, greatest, last_number}
use Rattle.acc_batch.specs.Awaits.{awaited_number, await_of, number_awaited, awaits, behind_awaits, is_await, AllOrdered}
use Rattle.acc_batch.proofs.Labels.{on_queue-append}

-- labels are numbered up to how many there are on their queue
pub numbers_low : (first ls : List Label) → AllOrdered first ls → (m : Label) → Contains ls m → m.number ≤ length (on_queue m.at (first ++ ls))
numbers_low first [] h m c = absurd (no_member m c)
numbers_low first (l ∷ ls) h m c = elim (member_cases m l ls c) [
  | inl same ↦
      let cut = on_queue-append l.at first (l ∷ ls) in
      let here : on_queue l.at (l ∷ ls) ≡ l ∷ on_queue l.at ls = rw (same_queue_itself l.at) refl in
      let o = h.0 in
      subst (λ (z : Label). z.number ≤ length (on_queue z.at (first ++ l ∷ ls))) same
      (omega (arith, o.numbered, ap length cut, ap length here, length-append (on_queue l.at first) (on_queue l.at (l ∷ ls))))
  | inr rest ↦
      subst (λ r. m.number ≤ length (on_queue m.at r)) (append_assoc first (l ∷ []) ls) (numbers_low (first ++ l ∷ []) ls h.1 m rest)
]

greatest_most : (f : ℕ → ℕ) (n : ℕ) (bs : List ℕ) → ((b : ℕ) → f b ≤ n) → greatest (map f bs) ≤ n
greatest_most f n [] h = omega arith
greatest_most f n (b ∷ bs) h = (let ih = greatest_most f n bs h in let first = h b in omega (arith, ih, first))

numbers_most : (n : ℕ) (ls : List Label) → ((m : Label) → Contains ls m → m.number ≤ n) → greatest (map (λ (l : Label). l.number) ls) ≤ n
numbers_most n [] h = omega arith
numbers_most n (l ∷ ls) h =
    let first = h l (member_first l ls) in
    let ih = numbers_most n ls (λ m c. h m (member_rest m l ls c)) in
    omega (arith, ih, first)

last_most : (test : Label → Bool) (n : ℕ) (ls : List Label) → ((m : Label) → Contains ls m → m.number ≤ n) → last_number test ls ≤ n
last_most test n ls h = numbers_most n (filter test ls) (λ m c. h m (member_filter test ls m c).1)

-- the number that is awaited is that of a batch there
number_most : (named : Bool) (ls : List Label) (used released : List ℕ) → ((m : Label) → Contains ls m → m.number ≤ length ls) → awaited_number named ls used released ≤ length ls
number_most named ls used released h =
    let a = greatest_most (λ b. last_number (makes_block b) ls) (length ls) used (λ b. last_most (makes_block b) (length ls) ls h) in
    let b = greatest_most (λ b. last_number (touches_block b) ls) (length ls) released (λ b. last_most (touches_block b) (length ls) ls h) in
    elim (cases_Bool named) [ inl is_named ↦ rw is_named (omega (arith, a, b)) | inr is_not ↦ rw is_not (omega (arith, a, b)) ]

-- an await has the number of its queue
await_number : (own k : ℕ) (g : ℕ → ℕ) (q n : ℕ) → Contains (await_of own k (g k)) (Await q n) → n ≡ g q
await_number own k g q n = by_test ((k == own) || (g k == 0))
  where
    by_test : (b : Bool) → Contains (cond b [] (Await k (g k) ∷ [])) (Await q n) → n ≡ g q
    by_test true c = absurd (no_member (Await q n) c)
    by_test false c =
        let e : Await k (g k) ≡ Await q n = member_one (Await q n) (Await k (g k)) c in
        let queue : k ≡ q = cc in
        let number : g k ≡ n = cc in
        sym number ∙ ap g queue

awaits_number : (own : ℕ) (g : ℕ → ℕ) (qs : List ℕ) (q n : ℕ) → Contains (flat_map (λ k. await_of own k (g k)) qs) (Await q n) → n ≡ g q
awaits_number own g [] q n c = absurd (no_member (Await q n) c)
awaits_number own g (k ∷ qs) q n c = elim (Contains-append_cases (await_of own k (g k)) (flat_map (λ j. await_of own j (g j)) qs) (Await q n) c) [
  | inl first ↦ await_number own k g q n first
  | inr rest ↦ awaits_number own g qs q n rest
]

-- What a batch awaits stands among the labels before it.
pub awaited_placed : (alone : Bool) (named : List ℕ) (own : QueueAt) (labels : List Label) (ops : List OpLabel) → ((m : Label) → Contains labels m → m.number ≤ length (on_queue m.at labels)) → All (λ op. is_await op ≡ false) ops
    → (q n : ℕ) → Contains (behind_awaits alone named own labels ops) (Await q n) → n ≤ length (on_queue (record { device = own.device; queue = q }) labels)
awaited_placed alone named own labels ops low none q n = by_ops ops none
  where
    on : (used released : List ℕ) → number_awaited named own labels used released q ≤ length (on_queue (record { device = own.device; queue = q }) labels)
    on used released =
        let there : QueueAt = record { device = own.device; queue = q } in
        number_most (has_number named q) (on_queue there labels) used released
        (λ m c. (let p = member_filter (λ k. same_queue k.at there) labels m c in subst (λ z. m.number ≤ length (on_queue z labels)) (same_queue_is m.at there p.0) (low m p.1)))

    one : (used released : List ℕ) → Contains (awaits named own labels used released) (Await q n) → n ≤ length (on_queue (record { device = own.device; queue = q }) labels)
    one used released c =
        let e : n ≡ number_awaited named own labels used released q = awaits_number own.queue (number_awaited named own labels used released) every_queue q n c in
        let most = on used released in
        omega (arith, e, most)

    by_ops : (os : List OpLabel) → All (λ op. is_await op ≡ false) os → Contains (behind_awaits alone named own labels os) (Await q n) → n ≤ length (on_queue (record { device = own.device; queue = q }) labels)
    by_ops [] h c = by_alone alone c
      where
        by_alone : (b : Bool) → Contains (cond b (awaits named own labels [] []) []) (Await q n) → n ≤ length (on_queue (record { device = own.device; queue = q }) labels)
        by_alone true k = one [] [] k
        by_alone false k = absurd (no_member (Await q n) k)
    by_ops (o ∷ os) h c =
        let used = flat_map used_blocks (o ∷ os) in
        let released = flat_map released_blocks (o ∷ os) in
        elim (Contains-append_cases (awaits named own labels used released) (o ∷ os) (Await q n) c) [
          | inl first ↦ one used released first
          | inr mine ↦ (let wrong : true ≡ false = All-contains (λ op. is_await op ≡ false) (o ∷ os) (Await q n) h mine in cc)
        ]
