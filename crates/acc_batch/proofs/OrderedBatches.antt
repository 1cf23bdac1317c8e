-- A batch stands behind those that it needs.
use Rattle.std.proofs.Common.{inl, inr, ◌≡◌, ◌⊎◌, ℕ, ◌<◌, ◌≤◌, Bool, true, false, cond, List, [], ◌∷◌, ◌++◌, map, refl, sym, ap, ◌∙◌, arith}
use Rattle.std.specs.Prelude.{All, Contains, filter, ◌==◌, ◌||◌}
use Rattle.std.specs.List.{flat_map}
use Rattle.std.proofs.lemmas.Bool.{cases_Bool, eq-eqb, ne_eqb, eqb-true}
use Rattle.std.proofs.lemmas.Grind.{flat_map-append}
use Rattle.std.proofs.lemmas.List.{append-nil}
use Rattle.std.proofs.lemmas.List.Elements.{All-nil, All-cons, All-append, Contains-append_left, Contains-append_right}
use Rattle.acc_base.specs.declared.ids.QueueAt.{QueueAt}
use Rattle.acc_base.specs.Queues.{every_queue, same_queue}
use Rattle.acc_base.proofs.EachQueue.{has_queue}
use Rattle.acc_base.proofs.Members.{no_member, member_first, member_rest, member_one, member_cases}
use Rattle.acc_base.proofs.SameQueue.{same_queue_itself}
use Rattle.acc_batch.specs.declared.label.Label.{Label}
use Rattle.acc_batch.specs.declared.label.OpLabel.{OpLabel}
use Rattle.acc_batch.specs.declared.label.OpLabel.TheVariants.{Await, Close}
use Rattle.acc_batch.specs.Labels.{on_queue, made_blocks, used_blocks, released_blocks, has_number, makes_block, touches_block, greatest, last_number}
use Rattle.acc_batch.specs.Awaits.{awaited_number, await_of, number_awaited, awaits, behind_awaits, is_await, AwaitsFirst, Needs, uses_made, releases_made, releases_used, StandsBehind, one_queue, awaited, IsOrdered, AllOrdered, AreNumberedLabels, label_behind, close_label}
use Rattle.acc_batch.proofs.AwaitedNumber.{numbers_low, awaited_placed}

-- a member that passes a test is one of those that do
pub filter_member : {X : Type 0} (p : X → Bool) (xs : List X) (x : X) → p x ≡ true → Contains xs x → Contains (filter p xs) x
filter_member p [] x e h = absurd (no_member x h)
filter_member p (y ∷ xs) x e h = elim (member_cases x y xs h) [
  | inl same ↦ (let here : p y ≡ true = ap p same ∙ e in rw here (rw (← same) (member_first y (filter p xs))))
  | inr rest ↦ elim (cases_Bool (p y)) [
    | inl passes ↦ rw passes (member_rest x y (filter p xs) (filter_member p xs x e rest))
    | inr fails ↦ rw fails (filter_member p xs x e rest)
  ]
]

-- the greatest is no less than any
greatest_least : (f : ℕ → ℕ) (ns : List ℕ) (n : ℕ) → Contains ns n → f n ≤ greatest (map f ns)
greatest_least f [] n h = absurd (no_member n h)
greatest_least f (k ∷ ns) n h = elim (member_cases n k ns h) [
  | inl same ↦ (let e : f k ≡ f n = ap f same in omega (arith, e))
  | inr rest ↦ (let ih = greatest_least f ns n rest in omega (arith, ih))
]

greatest_number : (ls : List Label) (m : Label) → Contains ls m → m.number ≤ greatest (map (λ (l : Label). l.number) ls)
greatest_number [] m h = absurd (no_member m h)
greatest_number (l ∷ ls) m h = elim (member_cases m l ls h) [
  | inl same ↦ (let e : l.number ≡ m.number = ap (λ (z : Label). z.number) same in omega (arith, e))
  | inr rest ↦ (let ih = greatest_number ls m rest in omega (arith, ih))
]

-- the last that passes a test is no earlier than any that does
pub last_least : (test : Label → Bool) (ls : List Label) (m : Label) → test m ≡ true → Contains ls m → m.number ≤ last_number test ls
last_least test ls m e h = greatest_number (filter test ls) m (filter_member test ls m e h)

has_it : (ns : List ℕ) (n : ℕ) → Contains ns n → has_number ns n ≡ true
has_it [] n h = absurd (no_member n h)
has_it (k ∷ ns) n h = elim (member_cases n k ns h) [
  | inl same ↦ rw (eq-eqb k n same) refl
  | inr rest ↦ elim (k == n) as (λ b. (b || has_number ns n) ≡ true) [ true ↦ refl | false ↦ has_it ns n rest ]
]

or_right : (a b : Bool) → b ≡ true → (a || b) ≡ true
or_right true b e = refl
or_right false b e = e

or_left : (a b : Bool) → a ≡ true → (a || b) ≡ true
or_left true b e = refl
or_left false b e = cc

-- what the last awaited is, a batch that is needed is no later
needed_number : (named : Bool) (ls : List Label) (used released : List ℕ) (m : Label) (b : ℕ) → Contains ls m
    → (Contains used b × Contains (flat_map made_blocks m.ops) b) ⊎ (Contains released b × (touches_block b m ≡ true)) → m.number ≤ awaited_number named ls used released
needed_number named ls used released m b c (inl h) =
    let low = last_least (makes_block b) ls m (has_it (flat_map made_blocks m.ops) b h.1) c in
    let most = greatest_least (λ k. last_number (makes_block k) ls) used b h.0 in
    omega (arith, low, most)
needed_number named ls used released m b c (inr h) =
    let low = last_least (touches_block b) ls m h.1 c in
    let most = greatest_least (λ k. last_number (touches_block k) ls) released b h.0 in
    omega (arith, low, most)

flat_has : (f : ℕ → List OpLabel) (qs : List ℕ) (q : ℕ) (op : OpLabel) → Contains qs q → Contains (f q) op → Contains (flat_map f qs) op
flat_has f [] q op h g = absurd (no_member q h)
flat_has f (k ∷ qs) q op h g = elim (member_cases q k qs h) [
  | inl same ↦ Contains-append_left (f k) (flat_map f qs) op (rw same g)
  | inr rest ↦ Contains-append_right (f k) (flat_map f qs) op (flat_has f qs q op rest g)
]

all_flat : (P : OpLabel → Type 0) (f : ℕ → List OpLabel) (qs : List ℕ) → ((q : ℕ) → All P (f q)) → All P (flat_map f qs)
all_flat P f [] h = All-nil P
all_flat P f (q ∷ qs) h = All-append P (f q) (flat_map f qs) (h q) (all_flat P f qs h)

-- an await is there where a number is
await_there : (own q n : ℕ) → (q ≡ own → ⊥) → 0 < n → await_of own q n ≡ Await q n ∷ []
await_there own q n other some =
    let a : (q == own) ≡ false = ne_eqb q own other in
    let b : (n == 0) ≡ false = ne_eqb n 0 (λ e. absurd (omega (arith, e, some))) in
    rw (a, b) refl

await_is : (own q n : ℕ) → All (λ op. is_await op ≡ true) (await_of own q n)
await_is own q n = elim ((q == own) || (n == 0)) as (λ b. All (λ op. is_await op ≡ true) (cond b [] (Await q n ∷ []))) [
  | true ↦ All-nil (λ op. is_await op ≡ true)
  | false ↦ All-cons (λ op. is_await op ≡ true) (Await q n) [] refl (All-nil (λ op. is_await op ≡ true))
]

-- awaits use and release no block
quiet : (f : OpLabel → List ℕ) → ((q n : ℕ) → f (Await q n) ≡ []) → (own : ℕ) (g : ℕ → ℕ) (qs : List ℕ) → flat_map f (flat_map (λ q. await_of own q (g q)) qs) ≡ []
quiet f none own g [] = refl
quiet f none own g (q ∷ qs) =
    flat_map-append f (await_of own q (g q)) (flat_map (λ k. await_of own k (g k)) qs)
    ∙ (ap (λ r. r ++ flat_map f (flat_map (λ k. await_of own k (g k)) qs)) (one ((q == own) || (g q == 0))) ∙ quiet f none own g qs)
  where
    one : (b : Bool) → flat_map f (cond b [] (Await q (g q) ∷ [])) ≡ []
    one true = refl
    one false = ap (λ r. r ++ []) (none q (g q))

first_awaits : (alone : Bool) (named : List ℕ) (own : QueueAt) (labels : List Label) (ops : List OpLabel) → All (λ op. is_await op ≡ false) ops → AwaitsFirst (behind_awaits alone named own labels ops)
first_awaits alone named own labels [] none =
    let before = awaits named own labels [] [] in
    let all : All (λ op. is_await op ≡ true) before = all_flat (λ op. is_await op ≡ true) (λ q. await_of own.queue q (number_awaited named own labels [] [] q)) every_queue (λ q. await_is own.queue q (number_awaited named own labels [] [] q)) in
    elim alone as (λ b. AwaitsFirst (cond b before [])) [
      | true ↦ record { first = before; second = []; split = sym (append-nil before); all_await = all; none_awaits = All-nil (λ op. is_await op ≡ false) }
      | false ↦ record { first = []; second = []; split = refl; all_await = All-nil (λ op. is_await op ≡ true); none_awaits = All-nil (λ op. is_await op ≡ false) }
    ]
first_awaits alone named own labels (op ∷ ops) none =
    let used = flat_map used_blocks (op ∷ ops) in
    let released = flat_map released_blocks (op ∷ ops) in
    record {
      first = awaits named own labels used released;
      second = op ∷ ops;
      split = refl;
      all_await = all_flat (λ o. is_await o ≡ true) (λ q. await_of own.queue q (number_awaited named own labels used released q)) every_queue (λ q. await_is own.queue q (number_awaited named own labels used released q));
      none_awaits = none;
    }

-- what a batch needs it needs for its own operations
abbrev IsNeeded : List OpLabel → Label → ℕ → Type 0
IsNeeded ops m b = (Contains (flat_map used_blocks ops) b × Contains (flat_map made_blocks m.ops) b) ⊎ (Contains (flat_map released_blocks ops) b × (touches_block b m ≡ true))

needed_by : (f : OpLabel → List ℕ) → ((q n : ℕ) → f (Await q n) ≡ []) → (alone : Bool) (named : List ℕ) (own : QueueAt) (labels : List Label) (ops : List OpLabel) (b : ℕ) → Contains (flat_map f (behind_awaits alone named own labels ops)) b → Contains (flat_map f ops) b
needed_by f none alone named own labels [] b c =
    let before = awaits named own labels [] [] in
    let e : flat_map f before ≡ [] = quiet f none own.queue (number_awaited named own labels [] []) every_queue in
    (elim alone as (λ v. Contains (flat_map f (cond v before [])) b → Contains [] b) [ true ↦ (λ k. rw e at k) | false ↦ (λ k. k) ]) c
needed_by f none alone named own labels (op ∷ ops) b c =
    let used = flat_map used_blocks (op ∷ ops) in
    let released = flat_map released_blocks (op ∷ ops) in
    let before = awaits named own labels used released in
    let e : flat_map f before ≡ [] = quiet f none own.queue (number_awaited named own labels used released) every_queue in
    let all : flat_map f (before ++ op ∷ ops) ≡ flat_map f (op ∷ ops) = flat_map-append f before (op ∷ ops) ∙ ap (λ r. r ++ flat_map f (op ∷ ops)) e in
    rw all at c

touched_made : (b : ℕ) (m : Label) → Contains (flat_map made_blocks m.ops) b → touches_block b m ≡ true
touched_made b m c = or_left (has_number (flat_map made_blocks m.ops) b) (has_number (flat_map used_blocks m.ops) b) (has_it (flat_map made_blocks m.ops) b c)

touched_used : (b : ℕ) (m : Label) → Contains (flat_map used_blocks m.ops) b → touches_block b m ≡ true
touched_used b m c = or_right (has_number (flat_map made_blocks m.ops) b) (has_number (flat_map used_blocks m.ops) b) (has_it (flat_map used_blocks m.ops) b c)

-- A batch that is behind its awaits stands behind each that it needs.
pub label_ordered : (alone : Bool) (named : List ℕ) (own : QueueAt) (labels : List Label) (host items_done : ℕ) (ops : List OpLabel) → AreNumberedLabels labels → AllOrdered [] labels → All (λ op. is_await op ≡ false) ops
    → IsOrdered labels (label_behind alone named own labels host items_done ops)
label_ordered alone named own labels host items_done ops known ordered none = record {
  numbered = refl;
  awaits_first = first_awaits alone named own labels ops none;
  awaits_placed = λ q n c. awaited_placed alone named own labels ops (numbers_low [] labels ordered) none q n c;
  behind = λ m b c here needs. by_ops ops m b c here (needs_own m b needs);
}
  where
    l : Label
    l = label_behind alone named own labels host items_done ops

    needs_own : (m : Label) (b : ℕ) → Needs l m b → IsNeeded ops m b
    needs_own m b (uses_made u k) = inl (needed_by used_blocks (λ q n. refl) alone named own labels ops b u, k)
    needs_own m b (releases_made u k) = inr (needed_by released_blocks (λ q n. refl) alone named own labels ops b u, touched_made b m k)
    needs_own m b (releases_used u k) = inr (needed_by released_blocks (λ q n. refl) alone named own labels ops b u, touched_used b m k)

    by_ops : (os : List OpLabel) (m : Label) (b : ℕ) → Contains labels m → m.at.device ≡ own.device → IsNeeded os m b → StandsBehind (label_behind alone named own labels host items_done os) m
    by_ops [] m b c here (inl n) = absurd (no_member b n.0)
    by_ops [] m b c here (inr n) = absurd (no_member b n.0)
    by_ops (o ∷ os) m b c here n = elim (cases_Bool (m.at.queue == own.queue)) [
      | inl same ↦
          let queue : m.at ≡ own = ap (λ d. record { device = d; queue = m.at.queue }) here ∙ ap (λ q. record { device = own.device; queue = q }) (eqb-true m.at.queue own.queue same) in
          one_queue queue
      | inr other ↦
          let used = flat_map used_blocks (o ∷ os) in
          let released = flat_map released_blocks (o ∷ os) in
          let there : QueueAt = record { device = own.device; queue = m.at.queue } in
          let at : m.at ≡ there = ap (λ d. record { device = d; queue = m.at.queue }) here in
          let on : Contains (on_queue there labels) m = filter_member (λ k. same_queue k.at there) labels m (ap (λ q. same_queue q there) at ∙ same_queue_itself there) c in
          let number = number_awaited named own labels used released m.at.queue in
          let low : m.number ≤ number = needed_number (has_number named m.at.queue) (on_queue there labels) used released m b on n in
          let some = (known m c).0 in
          let differ : m.at.queue ≡ own.queue → ⊥ = λ e. (let w : true ≡ false = sym (eq-eqb m.at.queue own.queue e) ∙ other in cc) in
          let is = await_there own.queue m.at.queue number differ (omega (arith, low, some)) in
          let first : Contains (awaits named own labels used released) (Await m.at.queue number) =
          flat_has (λ q. await_of own.queue q (number_awaited named own labels used released q)) every_queue m.at.queue (Await m.at.queue number) (has_queue m.at.queue (known m c).1) (rw is (member_first (Await m.at.queue number) [])) in
          awaited number low (Contains-append_left (awaits named own labels used released) (o ∷ os) (Await m.at.queue number) first)
    ]

-- A close stands so behind whatever was placed.
pub close_ordered : (at : QueueAt) (labels : List Label) → IsOrdered labels (close_label at labels)
close_ordered at labels = record {
  numbered = refl;
  awaits_first = record { first = []; second = Close ∷ []; split = refl; all_await = All-nil (λ op. is_await op ≡ true); none_awaits = All-cons (λ op. is_await op ≡ false) Close [] refl (All-nil (λ op. is_await op ≡ false)) };
  awaits_placed = λ q n c. (let wrong : Close ≡ Await q n = member_one (Await q n) Close c in cc);
  behind = λ m b c here needs. needs_none b m needs;
}
  where
    needs_none : (b : ℕ) (m : Label) → Needs (close_label at labels) m b → StandsBehind (close_label at labels) m
    needs_none b m (uses_made u k) = absurd (no_member b u)
    needs_none b m (releases_made u k) = absurd (no_member b u)
    needs_none b m (releases_used u k) = absurd (no_member b u)

-- one more label that is ordered, behind those that are
pub ordered_push : (first ls : List Label) (l : Label) → AllOrdered first ls → IsOrdered (first ++ ls) l → AllOrdered first (ls ++ l ∷ [])
ordered_push first [] l h o = (rw (append-nil first) at o, tt)
ordered_push first (k ∷ ls) l h o = (h.0, ordered_push (first ++ k ∷ []) ls l h.1 (rw (← assoc first k ls) at o))
  where
    assoc : (xs : List Label) (k : Label) (ys : List Label) → (xs ++ k ∷ []) ++ ys ≡ xs ++ k ∷ ys
    assoc [] k ys = refl
    assoc (x ∷ xs) k ys = ap (λ r. x ∷ r) (assoc xs k ys)

-- A batch is its awaits, and then its own operations.
pub record Behind (alone : Bool) (named : List ℕ) (own : QueueAt) (labels : List Label) (ops : List OpLabel) : Type 0 where
  pub first : List OpLabel
  pub all_await : All (λ op. is_await op ≡ true) first
  pub split : behind_awaits alone named own labels ops ≡ first ++ ops

pub behind_is : (alone : Bool) (named : List ℕ) (own : QueueAt) (labels : List Label) (ops : List OpLabel) → Behind alone named own labels ops
behind_is alone named own labels [] =
    let before = awaits named own labels [] [] in
    let all : All (λ op. is_await op ≡ true) before = all_flat (λ op. is_await op ≡ true) (λ q. await_of own.queue q (number_awaited named own labels [] [] q)) every_queue (λ q. await_is own.queue q (number_awaited named own labels [] [] q)) in
    let b = by_alone alone before all in
    record { first = b.0; all_await = b.1; split = b.2 }
  where
    by_alone : (b : Bool) (before : List OpLabel) → All (λ op. is_await op ≡ true) before → (first : List OpLabel) × (All (λ op. is_await op ≡ true) first) × (cond b before [] ≡ first ++ [])
    by_alone true before all = (before, all, sym (append-nil before))
    by_alone false before all = ([], All-nil (λ op. is_await op ≡ true), refl)
behind_is alone named own labels (op ∷ ops) =
    let used = flat_map used_blocks (op ∷ ops) in
    let released = flat_map released_blocks (op ∷ ops) in
    record {
      first = awaits named own labels used released;
      all_await = all_flat (λ o. is_await o ≡ true) (λ q. await_of own.queue q (number_awaited named own labels used released q)) every_queue (λ q. await_is own.queue q (number_awaited named own labels used released q));
      split = refl;
    }
