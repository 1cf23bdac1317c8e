-- As long as an operation is left, some queue can go on: that of the first label that isn't performed.
use Rattle.std.proofs.Common.{inl, inr, ◌≡◌, ◌⊎◌, ℕ, zero, suc, ◌+◌, ◌-◌, ◌<◌, ◌≤◌, Bool, true, false, List, [], ◌∷◌, ◌++◌, length, take, drop, Some, refl, sym, ap, subst, ◌∙◌, arith}
use Rattle.std.specs.Prelude.{Contains, nat_lt}
use Rattle.std.specs.List.{list_any}
use Rattle.std.proofs.lemmas.Bool.{and_from, cases_Bool, cases_lt, le-leb, lt-ltb, ltb-true}
use Rattle.std.proofs.lemmas.List.{length-append, take-append-le}
use Rattle.std.proofs.Math.ListN.{drop_of_length-le}
use Rattle.std.proofs.lemmas.List.Elements.{All-contains}
use Rattle.acc_base.specs.declared.ids.QueueAt.{QueueAt}
use Rattle.acc_base.proofs.Members.{no_member, member_first, member_rest, member_cases}
use Rattle.acc_base.proofs.SameQueue.{same_queue_itself}
use Rattle.acc_batch.specs.declared.label.Label.{Label}
use Rattle.acc_batch.specs.declared.label.OpLabel.{OpLabel}
use Rattle.acc_batch.specs.declared.label.OpLabel.TheVariants.{Make, CopyIn, CopyOut, Release, Run, Await, Close}
use Rattle.acc_batch.specs.Awaits.{IsOrdered}
use Rattle.acc_batch.specs.Labels.{on_queue, ops_of, batch_at, whole_batches}
use Rattle.acc_batch.proofs.Labels.{on_queue-append, ops_of-append, ops_of-take-le, batch_at-append}
use Rattle.acc_batch.proofs.WholeBatches.{whole_behind}
use Rattle.acc_batch.specs.declared.entry.WorkEntry.{WorkEntry}
use Rattle.acc_work.specs.Enabled.{held_of, rest_of, next_label, enabled, has_left, HaveItems, NeverStuck}
use Rattle.acc_work.specs.Logs.{performed, items_of, await_allows, host_allows}
use Rattle.acc_work.proofs.Frontiers.{IsDone, Frontier, frontier}
use Rattle.acc_work.proofs.Splits.{split_member}

-- an element that passes a test
pub record Passing {X : Type 0} (p : X → Bool) (xs : List X) : Type 0 where
  pub it : X
  pub member : Contains xs it
  pub holds : p it ≡ true

pub passing : {X : Type 0} (p : X → Bool) (xs : List X) → list_any p xs ≡ true → Passing p xs
passing p [] h = absurd (cc)
passing p (x ∷ xs) h = elim (cases_Bool (p x)) [
  | inl holds ↦ record { it = x; member = member_first x xs; holds = holds }
  | inr fails ↦ (let later = passing p xs (rw fails at h) in record { it = later.it; member = member_rest later.it x xs later.member; holds = later.holds })
]

pub passes : {X : Type 0} (p : X → Bool) (xs : List X) (x : X) → Contains xs x → p x ≡ true → list_any p xs ≡ true
passes p [] x member h = absurd (no_member x member)
passes p (y ∷ ys) x member h = elim (cases_Bool (p y)) [
  | inl holds ↦ rw holds refl
  | inr fails ↦ elim (member_cases x y ys member) [
    | inl same ↦ (let wrong : false ≡ true = sym fails ∙ (ap p same ∙ h) in absurd cc)
    | inr later ↦ rw fails (passes p ys x later h)
  ]
]

-- so many of some operations are over: the next one is of these
record Begins (n : ℕ) (all ops : List OpLabel) : Type 0 where
  op : OpLabel
  later : List OpLabel
  split : drop n all ≡ op ∷ later
  member : Contains ops op

next_of : (first ops more : List OpLabel) (n : ℕ) → length first ≤ n → n < length first + length ops → Begins n (first ++ (ops ++ more)) ops
next_of [] [] more n low high = absurd (omega (arith, high))
next_of [] (o ∷ os) more zero low high = record { op = o; later = os ++ more; split = refl; member = member_first o os }
next_of [] (o ∷ os) more (suc n) low high =
    let rest = next_of [] os more n (omega arith) (omega (arith, high)) in
    record { op = rest.op; later = rest.later; split = rest.split; member = member_rest rest.op o os rest.member }
next_of (x ∷ first) ops more zero low high = absurd (omega (arith, low))
next_of (x ∷ first) ops more (suc n) low high =
    let rest = next_of first ops more n (omega (arith, low)) (omega (arith, high)) in
    record { op = rest.op; later = rest.later; split = rest.split; member = rest.member }

-- beyond the first ones, a list's front is all of these, and a front of the rest
take_through : {X : Type 0} (n : ℕ) (xs ys : List X) → length xs ≤ n → take n (xs ++ ys) ≡ xs ++ take (n - length xs) ys
take_through n [] ys h = (let same : n - 0 ≡ n = omega arith in rw same refl)
take_through zero (x ∷ xs) ys h = absurd (omega (arith, h))
take_through (suc n) (x ∷ xs) ys h =
    let less : suc n - length (x ∷ xs) ≡ n - length xs = omega arith in
    rw less (ap (λ r. x ∷ r) (take_through n xs ys (omega (arith, h))))

-- an operation of a label awaits what is performed, where all labels before it are
allowed : (before more : List Label) (l : Label) (work : List WorkEntry) (op : OpLabel) → IsOrdered before l → ((at : QueueAt) → IsDone before work at) → Contains l.ops op
    → await_allows (before ++ more) work l.at.device op ≡ true
allowed before more l work (Await q n) o done c =
    let at : QueueAt = record { device = l.at.device; queue = q } in
    let w = whole_behind (on_queue at before) (on_queue at more) (length (performed at work)) (done at) in
    let low = o.awaits_placed q n c in
    rw (on_queue-append at before more) (le-leb n (whole_batches (on_queue at before ++ on_queue at more) (length (performed at work))) (omega (arith, w, low)))
allowed before more l work (Make r b) o done c = refl
allowed before more l work (CopyIn r b) o done c = refl
allowed before more l work (CopyOut r b) o done c = refl
allowed before more l work (Release b) o done c = refl
allowed before more l work (Run k uses) o done c = refl
allowed before more l work Close o done c = refl

-- Its queue can go on.
goes_on : (labels : List Label) (work : List WorkEntry) (taken : ℕ) → HaveItems labels work → (f : Frontier labels work) → enabled labels work taken f.label.at ≡ true
goes_on labels work taken items f = by_taken (cases_lt (length earlier) taken)
  where
    l : Label
    l = f.label

    at : QueueAt
    at = f.label.at

    n : ℕ
    n = length (performed at work)

    earlier : List Label
    earlier = on_queue at f.before

    later : List Label
    later = on_queue at f.more

    all : on_queue at labels ≡ earlier ++ l ∷ later
    all =
        let one : on_queue at (l ∷ f.more) ≡ l ∷ later = rw (same_queue_itself at) refl in
        ap (on_queue at) f.split ∙ (on_queue-append at f.before (l ∷ f.more) ∙ ap (λ r. earlier ++ r) one)

    -- what was performed ends within the label
    within : n < length (ops_of earlier) + length l.ops
    within =
        let one : on_queue at (l ∷ []) ≡ l ∷ [] = rw (same_queue_itself at) refl in
        let parts : ops_of (on_queue at (f.before ++ l ∷ [])) ≡ ops_of earlier ++ (l.ops ++ []) =
        ap ops_of (on_queue-append at f.before (l ∷ []) ∙ ap (λ r. earlier ++ r) one) ∙ ops_of-append earlier (l ∷ []) in
        let left = f.left in
        omega (arith, left, ap length parts, length-append (ops_of earlier) (l.ops ++ []), length-append l.ops [])

    -- the label isn't taken: all that was is performed
    to_take : taken ≤ length earlier → enabled labels work taken at ≡ true
    to_take low =
        let cut : take taken (on_queue at labels) ≡ take taken earlier = ap (take taken) all ∙ take-append-le taken earlier (l ∷ later) low in
        let done = f.done at in
        let short = ops_of-take-le taken earlier in
        let none : rest_of labels work taken at ≡ [] = ap (λ ls. drop n (ops_of ls)) cut ∙ drop_of_length-le (ops_of (take taken earlier)) (omega (arith, done, short)) in
        let some : nat_lt 0 (held_of labels taken at) ≡ true = lt-ltb 0 (held_of labels taken at) (omega (arith, ap length all, length-append earlier (l ∷ later), low)) in
        rw (none, some) refl

    -- it is taken, and its next operation is allowed
    to_perform : length earlier < taken → enabled labels work taken at ≡ true
    to_perform high =
        let size : taken - length earlier ≡ suc (taken - length earlier - 1) = omega (arith, high) in
        let some : take (taken - length earlier) (l ∷ later) ≡ l ∷ take (taken - length earlier - 1) later = ap (λ k. take k (l ∷ later)) size in
        let cut : take taken (on_queue at labels) ≡ earlier ++ l ∷ take (taken - length earlier - 1) later =
        ap (take taken) all ∙ (take_through taken earlier (l ∷ later) (omega (arith, high)) ∙ ap (λ r. earlier ++ r) some) in
        let ops : ops_of (take taken (on_queue at labels)) ≡ ops_of earlier ++ (l.ops ++ ops_of (take (taken - length earlier - 1) later)) =
        ap ops_of cut ∙ ops_of-append earlier (l ∷ take (taken - length earlier - 1) later) in
        let b = next_of (ops_of earlier) l.ops (ops_of (take (taken - length earlier - 1) later)) n (f.done at) within in
        let rest : rest_of labels work taken at ≡ b.op ∷ b.later = ap (drop n) ops ∙ b.split in
        let awaits : await_allows labels work at.device b.op ≡ true =
        subst (λ ls. await_allows ls work at.device b.op ≡ true) (sym f.split) (allowed f.before (l ∷ f.more) l work b.op f.ordered f.done b.member) in
        let place : length (ops_of earlier) + (n - length (ops_of earlier)) ≡ n = (let done = f.done at in omega (arith, done)) in
        let label : next_label labels work at ≡ Some l =
        ap (λ ls. batch_at ls n) all ∙ (ap (batch_at (earlier ++ l ∷ later)) (sym place) ∙ batch_at-append earlier l later (n - length (ops_of earlier)) (omega (arith, within, place))) in
        let member : Contains labels l = subst (λ ls. Contains ls l) (sym f.split) (split_member f.before l f.more) in
        let has : host_allows (next_label labels work at) work ≡ true =
        rw label (le-leb l.items_done (items_of l.host work) (All-contains (λ (k : Label). k.items_done ≤ items_of k.host work) labels l items member)) in
        rw rest (and_from (await_allows labels work at.device b.op) (host_allows (next_label labels work at) work) awaits has)

    by_taken : (length earlier < taken) ⊎ (taken ≤ length earlier) → enabled labels work taken at ≡ true
    by_taken (inl high) = to_perform high
    by_taken (inr low) = to_take low

-- Some queue can go on.
pub never_stuck : NeverStuck
never_stuck labels work taken ordered items left =
    let p = passing (λ (l : Label). has_left labels work l.at) labels left in
    let at = p.it.at in
    let f = frontier [] labels work ordered (λ q. omega arith) at (ltb-true (length (performed at work)) (length (ops_of (on_queue at labels))) p.holds) in
    passes (λ (l : Label). enabled labels work (taken l.at) l.at) labels f.label
    (subst (λ ls. Contains ls f.label) (sym f.split) (split_member f.before f.label f.more)) (goes_on labels work (taken f.label.at) items f)
