-- Whatever the queues have performed, each queue's next operation uses live blocks.
use Rattle.std.proofs.Common.{inl, inr, ◌≡◌, ◌⊎◌, ℕ, ◌<◌, ◌≤◌, false, List, [], ◌∷◌, ◌++◌, length, map, refl, sym, ap, subst, ◌∙◌, arith}
use Rattle.std.specs.Prelude.{Contains, ℤ}
use Rattle.std.specs.List.{flat_map}
use Rattle.std.proofs.lemmas.List.{append_assoc, append-nil, length-append}
use Rattle.std.proofs.lemmas.List.Elements.{All-weaker, All-contains, All-contains_itself, Contains-append_cases, Contains-append_left, Contains-append_right}
use Rattle.acc_base.specs.declared.ids.QueueAt.{QueueAt}
use Rattle.acc_base.specs.declared.range.Range.{Range}
use Rattle.acc_base.proofs.Members.{member_first, member_map, member_image}
use Rattle.acc_kernel.specs.Jobs.{Use}
use Rattle.acc_batch.specs.declared.label.Label.{Label}
use Rattle.acc_batch.specs.declared.label.OpLabel.{OpLabel}
use Rattle.acc_batch.specs.declared.label.OpLabel.TheVariants.{Make, CopyIn, CopyOut, Release, Run, Await, Close}
use Rattle.acc_batch.specs.Labels.{on_queue, ops_of, made_blocks, used_blocks, released_blocks}
use Rattle.acc_batch.specs.Lives.{Made}
use Rattle.acc_batch.specs.declared.entry.WorkEntry.{WorkEntry}
use Rattle.acc_work.specs.Logs.{performed, device_ops, batches_done}
use Rattle.acc_batch.specs.Awaits.{is_await, Needs, uses_made, releases_made, releases_used, StandsBehind, one_queue, awaited}
use Rattle.acc_work.specs.Orders.{InOrder, AllAwaited, IsReached}
use Rattle.acc_batch.specs.Lives.{blocks_made, blocks_released, HoldsBlock, UsesLive, AllUse, on_device, IsSound}
use Rattle.acc_work.specs.Lives.{AnyOrderIsLive}
use Rattle.acc_work.proofs.Splits.{member_split, split_member, StandsBefore, compared, prefix_has}
use Rattle.acc_work.proofs.MadeAndReleased.{a_made, made_op, op_made, op_released, released_op, flat_member}
use Rattle.acc_work.proofs.OperationPlaces.{At, at_place, ordered_at, ops_with, ops_through, device_with, on_device_from, on_device_to}
use Rattle.acc_work.proofs.DeviceOps.{by_queue, by_device}
use Rattle.acc_work.proofs.AwaitsReached.{reached_now, await_before, IsWhole, IsWholeOn, whole_done}

-- What holds of a log against labels that are sound.
pub record Holds (arrays : List (List ℤ)) (labels : List Label) (work : List WorkEntry) : Type 0 where
  pub sound : IsSound arrays labels
  pub prefix : InOrder labels work
  pub reached : AllAwaited labels work

-- a list that is as long as a beginning of it has that beginning
begins : {X : Type 0} (batches_done more x y : List X) → batches_done ++ more ≡ x ++ y → length x ≤ length batches_done → (z : List X) × (batches_done ≡ x ++ z)
begins batches_done more [] y h low = (batches_done, refl)
begins [] more (e ∷ x) y h low = absurd (omega (arith, low))
begins (d ∷ batches_done) more (e ∷ x) y h low =
    let same : d ≡ e = cc in
    let others : batches_done ++ more ≡ x ++ y = cc in
    let ih = begins batches_done more x y others (omega (arith, low)) in
    (ih.0, ap (λ z. z ∷ batches_done) same ∙ ap (λ r. e ∷ r) ih.1)

-- what stands before a place that was come to is performed
before_performed : {arrays : List (List ℤ)} {labels : List Label} {work : List WorkEntry} {at : QueueAt} {x : List OpLabel} {op : OpLabel} → Holds arrays labels work → At labels at x op
    → length x ≤ length (performed at work) → (e : OpLabel) → Contains x e → Contains (performed at work) e
before_performed {work = work} {at = at} {x = x} {op = op} h a low e c =
    let p = h.prefix at in
    let b = begins (performed at work) p.0 x (op ∷ a.rest) (p.1 ∙ a.all) low in
    rw b.1 (Contains-append_left x b.0 e c)

-- Where all before an operation is performed, so is each batch that its own batch needs.
needed_whole : {arrays : List (List ℤ)} {labels : List Label} {work : List WorkEntry} {at : QueueAt} {x : List OpLabel} {op : OpLabel} → Holds arrays labels work → (a : At labels at x op)
    → length x ≤ length (performed at work) → is_await op ≡ false
    → (before : List Label) (m : Label) (mid : List Label) (b : ℕ) → a.before ≡ before ++ m ∷ mid → m.at.device ≡ at.device → Needs a.label m b → IsWhole before m work
needed_whole {labels = labels} {work = work} {at = at} {x = x} {op = op} h a low other before m mid b split here needs =
    let o = ordered_at labels a.before a.label a.more h.sound.ordered a.split in
    let there : Contains a.before m = rw split (split_member before m mid) in
    let device : m.at.device ≡ a.label.at.device = here ∙ ap (λ (q : QueueAt). q.device) (sym a.of_queue) in
    let all : labels ≡ before ++ m ∷ (mid ++ a.label ∷ a.more) = a.split ∙ (ap (λ r. r ++ a.label ∷ a.more) split ∙ append_assoc before (m ∷ mid) (a.label ∷ a.more)) in
    by_standing all (o.behind m b there device needs)
  where
    by_standing : labels ≡ before ++ m ∷ (mid ++ a.label ∷ a.more) → StandsBehind a.label m → IsWhole before m work
    by_standing all (one_queue e) =
        let same : m.at ≡ at = e ∙ a.of_queue in
        let first = ops_of (on_queue at (before ++ m ∷ [])) in
        let cut = ops_through at a.before before m mid split in
        let short : length first ≤ length (performed at work) = omega (arith, low, ap length a.place, length-append (ops_of (on_queue at a.before)) a.here, ap length cut, length-append first (ops_of (on_queue at mid))) in
        subst (λ q. IsWholeOn q before m work) (sym same) short
    by_standing all (awaited n most c) =
        let o = ordered_at labels a.before a.label a.more h.sound.ordered a.split in
        let m_ordered = ordered_at labels before m (mid ++ a.label ∷ a.more) h.sound.ordered all in
        let c_here = await_before a.label.ops a.here op a.later m.at.queue n o.awaits_first a.ops other c in
        let c_x : Contains x (Await m.at.queue n) = rw a.place (Contains-append_right (ops_of (on_queue at a.before)) a.here (Await m.at.queue n) c_here) in
        let did = before_performed h a low (Await m.at.queue n) c_x in
        let known = All-contains (IsReached labels work at.device) (performed at work) (Await m.at.queue n) (reached_now labels work h.reached at) did in
        let there : QueueAt = record { device = at.device; queue = m.at.queue } in
        let same : there ≡ m.at = ap (λ d. record { device = d; queue = m.at.queue }) (sym here) in
        let done_m : n ≤ batches_done labels work m.at = subst (λ q. n ≤ batches_done labels work q) same known in
        whole_done labels work before m (mid ++ a.label ∷ a.more) all m_ordered (omega (arith, most, done_m))

-- all operations of a whole label are performed
whole_has : {arrays : List (List ℤ)} {labels : List Label} {work : List WorkEntry} → Holds arrays labels work → (before : List Label) (m : Label) (more : List Label) → labels ≡ before ++ m ∷ more
    → IsWhole before m work → (e : OpLabel) → Contains m.ops e → Contains (performed m.at work) e
whole_has {labels = labels} {work = work} h before m more split low e c =
    let p = h.prefix m.at in
    let b = begins (performed m.at work) p.0 (ops_of (on_queue m.at (before ++ m ∷ []))) (ops_of (on_queue m.at more)) (p.1 ∙ ops_through m.at labels before m more split) low in
    rw b.1 (Contains-append_left (ops_of (on_queue m.at (before ++ m ∷ []))) b.0 e
    (rw (ops_with m.at before m refl) (Contains-append_right (ops_of (on_queue m.at before)) m.ops e c)))

-- all that stands before an operation on its device, in the order of placing
abbrev earlier : {labels : List Label} {at : QueueAt} {x : List OpLabel} {op : OpLabel} → At labels at x op → List OpLabel
earlier {at = at} a = ops_of (on_device at.device a.before) ++ a.here

use_at : (arrays : List (List ℤ)) (before xs : List OpLabel) (op : OpLabel) (ys : List OpLabel) → AllUse arrays before (xs ++ op ∷ ys) → UsesLive arrays op (before ++ xs)
use_at arrays before [] op ys h = rw (append-nil before) h.0
use_at arrays before (x ∷ xs) op ys h = rw (← append_assoc before (x ∷ []) xs) (use_at arrays (before ++ x ∷ []) xs op ys h.1)

-- in that order it uses live blocks
uses_in_order : {arrays : List (List ℤ)} {labels : List Label} {at : QueueAt} {x : List OpLabel} {op : OpLabel} → IsSound arrays labels → (a : At labels at x op) → UsesLive arrays op (earlier a)
uses_in_order {arrays = arrays} {labels = labels} {at = at} {op = op} s a =
    let d = at.device in
    let first = ops_of (on_device d a.before) in
    let others = ops_of (on_device d a.more) in
    let all = device_with d labels a.before a.label a.more a.split (ap (λ (q : QueueAt). q.device) a.of_queue) in
    let whole : ops_of (on_device d labels) ≡ (first ++ a.here) ++ op ∷ (a.later ++ others) =
    all
    ∙ (ap (λ r. first ++ (r ++ others)) a.ops
    ∙ (ap (λ r. first ++ r) (append_assoc a.here (op ∷ a.later) others) ∙ sym (append_assoc first a.here (op ∷ (a.later ++ others))))) in
    let u = s.use_live d in
    use_at arrays [] (first ++ a.here) op (a.later ++ others) (rw whole at u)

-- an operation that is next: all before it is performed, and it isn't
abbrev IsNext : {labels : List Label} {at : QueueAt} {x : List OpLabel} {op : OpLabel} → List WorkEntry → At labels at x op → Type 0
IsNext {at = at} {x = x} work a = x ≡ performed at work

-- so its own label isn't whole
not_whole : {labels : List Label} (work : List WorkEntry) {at : QueueAt} {x : List OpLabel} {op : OpLabel} → (a : At labels at x op) → IsNext work a → IsWhole a.before a.label work → ⊥
not_whole work {at = at} {x = x} {op = op} a next whole =
    let low : IsWholeOn at a.before a.label work = subst (λ q. IsWholeOn q a.before a.label work) a.of_queue whole in
    let size = ap length (ops_with at a.before a.label a.of_queue ∙ ap (λ r. ops_of (on_queue at a.before) ++ r) a.ops) in
    absurd (omega (arith, low, size, ap length next, ap length a.place, length-append (ops_of (on_queue at a.before)) a.here, length-append (ops_of (on_queue at a.before)) (a.here ++ op ∷ a.later), length-append a.here (op ∷ a.later)))

-- An operation of the device was performed: where it stands.
record Was (labels : List Label) (work : List WorkEntry) (device : ℕ) (op : OpLabel) : Type 0 where
  at : QueueAt
  x : List OpLabel
  place : At labels at x op
  of_device : at.device ≡ device
  done : length x < length (performed at work)

was_performed : {arrays : List (List ℤ)} {labels : List Label} {work : List WorkEntry} → Holds arrays labels work → (device : ℕ) (op : OpLabel) → Contains (device_ops device work) op → Was labels work device op
was_performed {labels = labels} {work = work} h device op c =
    let f = by_queue device work op c in
    let s = member_split (performed f.at work) op f.member in
    let p = h.prefix f.at in
    let all : ops_of (on_queue f.at labels) ≡ s.before ++ op ∷ (s.more ++ p.0) = sym p.1 ∙ (ap (λ r. r ++ p.0) s.split ∙ append_assoc s.before (op ∷ s.more) p.0) in
    record {
      at = f.at;
      x = s.before;
      place = at_place labels f.at s.before op (s.more ++ p.0) all;
      of_device = f.of_device;
      done = omega (arith, ap length s.split, length-append s.before (op ∷ s.more));
    }

-- What was performed on the device of the next operation was placed before that one, or by a label behind its label.
placed_so : {labels : List Label} {work : List WorkEntry} {at : QueueAt} {x : List OpLabel} {op : OpLabel} (a : At labels at x op) → IsNext work a → (e : OpLabel) (w : Was labels work at.device e)
    → Contains (earlier a) e ⊎ StandsBefore a.before a.label w.place.before
placed_so {labels = labels} {work = work} {at = at} {x = x} {op = op} a next e w =
    let p = w.place in
    elim (compared a.before a.label a.more p.before p.label p.more (sym a.split ∙ p.split)) [
      | inl behind ↦ inr behind
      | inr g ↦ elim g [
        | inl one ↦
            let queue : w.at ≡ at = sym p.of_queue ∙ (ap (λ (l : Label). l.at) (sym one.same) ∙ a.of_queue) in
            let less : length w.x < length (performed at work) = rw queue at w.done in
            let first : w.x ≡ ops_of (on_queue at a.before) ++ p.here = rw (queue, ← one.before) at p.place in
            let short : length p.here < length a.here = omega (arith, less, ap length first, ap length next, ap length a.place, length-append (ops_of (on_queue at a.before)) a.here, length-append (ops_of (on_queue at a.before)) p.here) in
            let both : a.here ++ op ∷ a.later ≡ p.here ++ e ∷ p.later = sym a.ops ∙ (ap (λ (l : Label). l.ops) one.same ∙ p.ops) in
            let f = prefix_has a.here (op ∷ a.later) p.here e p.later both short in
            inl (Contains-append_right (ops_of (on_device at.device a.before)) a.here e (rw f.split (split_member p.here e f.later)))
        | inr before ↦
            let here : p.label.at.device ≡ at.device = ap (λ (q : QueueAt). q.device) p.of_queue ∙ w.of_device in
            let c : Contains p.label.ops e = rw p.ops (split_member p.here e p.later) in
            inl (Contains-append_left (ops_of (on_device at.device a.before)) a.here e (on_device_to at.device a.before p.before p.label before.mid e before.split here c))
      ]
    ]

-- a label has its operation
has_op : {labels : List Label} {at : QueueAt} {x : List OpLabel} {op : OpLabel} (a : At labels at x op) → Contains a.label.ops op
has_op {op = op} a = rw a.ops (split_member a.here op a.later)

-- what stands behind the next operation's label has it before
behind_has : {labels : List Label} {work : List WorkEntry} {at : QueueAt} {x : List OpLabel} {op : OpLabel} (a : At labels at x op) → (e : OpLabel) (w : Was labels work at.device e) → StandsBefore a.before a.label w.place.before → Contains (earlier w.place) op
behind_has {at = at} {op = op} a e w s =
    let here : a.label.at.device ≡ w.at.device = ap (λ (q : QueueAt). q.device) a.of_queue ∙ sym w.of_device in
    Contains-append_left (ops_of (on_device w.at.device w.place.before)) w.place.here op (on_device_to w.at.device w.place.before a.before a.label s.mid op s.split here (has_op a))

-- What was made before the next operation in the order of placing is made, where its label needs it.
made_there : {arrays : List (List ℤ)} {labels : List Label} {work : List WorkEntry} {at : QueueAt} {x : List OpLabel} {op : OpLabel} → Holds arrays labels work → (a : At labels at x op) → IsNext work a → is_await op ≡ false
    → (b : ℕ) (r : Range) → ((m : Label) → Contains (flat_map made_blocks m.ops) b → Needs a.label m b) → Contains (blocks_made (earlier a)) (a_made b r) → Contains (blocks_made (device_ops at.device work)) (a_made b r)
made_there {labels = labels} {work = work} {at = at} {x = x} {op = op} h a next other b r needs c =
    op_made (device_ops at.device work) b r
    (elim (Contains-append_cases (ops_of (on_device at.device a.before)) a.here (Make r b) (made_op (earlier a) b r c)) [
      | inl old ↦
          let f = on_device_from at.device a.before (Make r b) old in
          let need = needs f.label (flat_member made_blocks f.label.ops (Make r b) b f.member (member_first b [])) in
          let whole = needed_whole h a (omega (arith, ap length next)) other f.before f.label f.more b f.split f.here need in
          let all : labels ≡ f.before ++ f.label ∷ (f.more ++ a.label ∷ a.more) = a.split ∙ (ap (λ r. r ++ a.label ∷ a.more) f.split ∙ append_assoc f.before (f.label ∷ f.more) (a.label ∷ a.more)) in
          let did = by_device f.label.at work (Make r b) (whole_has h f.before f.label (f.more ++ a.label ∷ a.more) all whole (Make r b) f.member) in
          rw f.here at did
      | inr here ↦
          by_device at work (Make r b) (rw (← next, a.place) (Contains-append_right (ops_of (on_queue at a.before)) a.here (Make r b) here))
    ])

-- a block that the next operation uses isn't released
used_stays : {arrays : List (List ℤ)} {labels : List Label} {work : List WorkEntry} {at : QueueAt} {x : List OpLabel} {op : OpLabel} → Holds arrays labels work → (a : At labels at x op) → IsNext work a
    → (b : ℕ) → Contains (used_blocks op) b → (Contains (blocks_released (earlier a)) b → ⊥) → Contains (blocks_released (device_ops at.device work)) b → ⊥
used_stays {work = work} {at = at} {op = op} h a next b used alive c =
    let w = was_performed h at.device (Release b) (released_op (device_ops at.device work) b c) in
    elim (placed_so a next (Release b) w) [
      | inl old ↦ alive (op_released (earlier a) b old)
      | inr s ↦
          let p = w.place in
          let gone = flat_member released_blocks p.label.ops (Release b) b (has_op p) (member_first b []) in
          let uses = flat_member used_blocks a.label.ops op b (has_op a) used in
          let here : a.label.at.device ≡ w.at.device = ap (λ (q : QueueAt). q.device) a.of_queue ∙ sym w.of_device in
          not_whole work a next (needed_whole h p (omega (arith, w.done)) refl a.before a.label s.mid b s.split here (releases_used gone uses))
    ]

-- and one that it releases isn't released before
once_released : {arrays : List (List ℤ)} {labels : List Label} {work : List WorkEntry} {at : QueueAt} {x : List OpLabel} {b : ℕ} → Holds arrays labels work → (a : At labels at x (Release b)) → IsNext work a
    → (Contains (blocks_released (earlier a)) b → ⊥) → Contains (blocks_released (device_ops at.device work)) b → ⊥
once_released {work = work} {at = at} {b = b} h a next alive c =
    let w = was_performed h at.device (Release b) (released_op (device_ops at.device work) b c) in
    elim (placed_so a next (Release b) w) [
      | inl old ↦ alive (op_released (earlier a) b old)
      | inr s ↦ (uses_in_order h.sound w.place).1.not_released (op_released (earlier w.place) b (behind_has a (Release b) w s))
    ]

-- one that it makes isn't made before
once_made : {arrays : List (List ℤ)} {labels : List Label} {work : List WorkEntry} {at : QueueAt} {x : List OpLabel} {b : ℕ} {r : Range} → Holds arrays labels work → (a : At labels at x (Make r b)) → IsNext work a
    → (Contains (map (λ (m : Made). m.block) (blocks_made (earlier a))) b → ⊥) → Contains (map (λ (m : Made). m.block) (blocks_made (device_ops at.device work))) b → ⊥
once_made {work = work} {at = at} {b = b} {r = r} h a next fresh c =
    let f = member_map (λ (m : Made). m.block) (blocks_made (device_ops at.device work)) b c in
    let other = f.source.range in
    let e : Contains (blocks_made (device_ops at.device work)) (a_made b other) = subst (λ n. Contains (blocks_made (device_ops at.device work)) (a_made n other)) f.same f.member in
    let w = was_performed h at.device (Make other b) (made_op (device_ops at.device work) b other e) in
    elim (placed_so a next (Make other b) w) [
      | inl old ↦ fresh (member_image (λ (m : Made). m.block) (blocks_made (earlier a)) (a_made b other) (op_made (earlier a) b other old))
      | inr s ↦
          (uses_in_order h.sound w.place).0
          (member_image (λ (m : Made). m.block) (blocks_made (earlier w.place)) (a_made b r) (op_made (earlier w.place) b r (behind_has a (Make other b) w s)))
    ]

-- what the next operation uses it holds
holds_next : {arrays : List (List ℤ)} {labels : List Label} {work : List WorkEntry} {at : QueueAt} {x : List OpLabel} {op : OpLabel} → Holds arrays labels work → (a : At labels at x op) → IsNext work a → is_await op ≡ false
    → (b : ℕ) (r : Range) → Contains (used_blocks op) b → HoldsBlock (earlier a) b r → HoldsBlock (device_ops at.device work) b r
holds_next {op = op} h a next other b r used k = record {
  whole_range = k.whole_range;
  is_made = made_there h a next other b k.whole_range (λ m makes. uses_made (flat_member used_blocks a.label.ops op b (has_op a) used) makes) k.is_made;
  not_released = used_stays h a next b used k.not_released;
  inside = k.inside;
}

pub next_lives : {arrays : List (List ℤ)} {labels : List Label} {work : List WorkEntry} {at : QueueAt} {x : List OpLabel} → (op : OpLabel) → Holds arrays labels work → (a : At labels at x op) → IsNext work a → UsesLive arrays op (device_ops at.device work)
next_lives (Make r b) h a next = (let u = uses_in_order h.sound a in (once_made h a next u.0, u.1))
next_lives (CopyIn r b) h a next = holds_next h a next refl b r (member_first b []) (uses_in_order h.sound a)
next_lives (CopyOut r b) h a next = holds_next h a next refl b r (member_first b []) (uses_in_order h.sound a)
next_lives (Release b) h a next =
    let u = uses_in_order h.sound a in (
      u.0,
      record {
        whole_range = u.1.whole_range;
        is_made = made_there h a next refl b u.1.whole_range (λ m makes. releases_made (flat_member released_blocks a.label.ops (Release b) b (has_op a) (member_first b [])) makes) u.1.is_made;
        not_released = once_released h a next u.1.not_released;
        inside = u.1.inside;
      },
    )
next_lives {work = work} {at = at} (Run k uses) h a next =
    let u = uses_in_order h.sound a in
    All-weaker (Contains uses) (λ (x : Use). HoldsBlock (device_ops at.device work) x.0 x.1)
    (λ x c. holds_next h a next refl x.0 x.1 (member_image (λ (y : Use). y.0) uses x c) (All-contains (λ (y : Use). HoldsBlock (earlier a) y.0 y.1) uses x u c))
    uses (All-contains_itself uses)
next_lives (Await q n) h a next = tt
next_lives Close h a next = tt

-- Each queue's next operation uses live blocks.
pub any_order : AnyOrderIsLive
any_order arrays labels work at op later sound prefix reached e =
    next_lives {work = work} op (record { sound = sound; prefix = prefix; reached = reached }) (at_place labels at (performed at work) op later e) refl
