-- Where the operations of labels stand: on their queue, and in the order of placing.
use Rattle.std.proofs.Common.{inl, inr, ◌≡◌, ℕ, true, List, [], ◌∷◌, ◌++◌, refl, sym, ap, ◌∙◌}
use Rattle.std.specs.Prelude.{Contains, ◌==◌}
use Rattle.std.proofs.lemmas.Bool.{cases_Bool, eqb-true, eq-eqb}
use Rattle.std.proofs.lemmas.List.{append_assoc, append-nil}
use Rattle.std.proofs.lemmas.List.Elements.{Contains-append_cases, Contains-append_left, Contains-append_right, filter-append}
use Rattle.acc_base.specs.declared.ids.QueueAt.{QueueAt}
use Rattle.acc_base.specs.Queues.{same_queue}
use Rattle.acc_base.proofs.Members.{no_member}
use Rattle.acc_base.proofs.SameQueue.{same_queue_is, same_queue_itself}
use Rattle.acc_batch.specs.declared.label.Label.{Label}
use Rattle.acc_batch.specs.declared.label.OpLabel.{OpLabel}
use Rattle.acc_batch.specs.Labels.{on_queue, ops_of}
use Rattle.acc_batch.proofs.Labels.{ops_of-append, on_queue-append}
use Rattle.acc_batch.specs.Awaits.{IsOrdered, AllOrdered}
use Rattle.acc_batch.specs.Lives.{on_device}
use Rattle.acc_work.proofs.Splits.{cut_at}

-- The operation that stands behind x on a queue: its label, with the labels before it, and what stands before it in the label.
pub record At (labels : List Label) (at : QueueAt) (x : List OpLabel) (op : OpLabel) : Type 0 where
  pub before : List Label
  pub label : Label
  pub more : List Label
  pub here : List OpLabel
  pub later : List OpLabel
  pub rest : List OpLabel
  pub split : labels ≡ before ++ label ∷ more
  pub of_queue : label.at ≡ at
  pub ops : label.ops ≡ here ++ op ∷ later
  pub place : x ≡ ops_of (on_queue at before) ++ here
  pub all : ops_of (on_queue at labels) ≡ x ++ op ∷ rest

pub at_place : (labels : List Label) (at : QueueAt) (x : List OpLabel) (op : OpLabel) (y : List OpLabel) → ops_of (on_queue at labels) ≡ x ++ op ∷ y → At labels at x op
at_place [] at [] op y e = cc
at_place [] at (k ∷ x) op y e = cc
at_place (l ∷ ls) at x op y e = elim (cases_Bool (same_queue l.at at)) [
  | inl same ↦ elim (cut_at l.ops (ops_of (on_queue at ls)) x op y (rw same at e)) [
    | inl f ↦ record { before = []; label = l; more = ls; here = x; later = f.later; rest = y; split = refl; of_queue = same_queue_is l.at at same; ops = f.split; place = refl; all = e }
    | inr s ↦
        let p = at_place ls at s.behind op y s.split in
        record {
          before = l ∷ p.before;
          label = p.label;
          more = p.more;
          here = p.here;
          later = p.later;
          rest = y;
          split = ap (λ r. l ∷ r) p.split;
          of_queue = p.of_queue;
          ops = p.ops;
          place = rw same (s.place ∙ (ap (λ r. l.ops ++ r) p.place ∙ sym (append_assoc l.ops (ops_of (on_queue at p.before)) p.here)));
          all = e;
        }
  ]
  | inr differ ↦
      let p = at_place ls at x op y (rw differ at e) in
      record {
        before = l ∷ p.before;
        label = p.label;
        more = p.more;
        here = p.here;
        later = p.later;
        rest = y;
        split = ap (λ r. l ∷ r) p.split;
        of_queue = p.of_queue;
        ops = p.ops;
        place = rw differ p.place;
        all = e;
      }
]

-- each label stands as it should among those before it
ordered_from : (first before : List Label) (l : Label) (more : List Label) → AllOrdered first (before ++ l ∷ more) → IsOrdered (first ++ before) l
ordered_from first [] l more h = rw (append-nil first) h.0
ordered_from first (k ∷ before) l more h = rw (← append_assoc first (k ∷ []) before) (ordered_from (first ++ k ∷ []) before l more h.1)

pub ordered_at : (labels before : List Label) (l : Label) (more : List Label) → AllOrdered [] labels → labels ≡ before ++ l ∷ more → IsOrdered before l
ordered_at labels before l more h e = ordered_from [] before l more (rw e at h)

-- a queue's operations up to a label and with it
pub ops_with : (at : QueueAt) (before : List Label) (l : Label) → l.at ≡ at → ops_of (on_queue at (before ++ l ∷ [])) ≡ ops_of (on_queue at before) ++ l.ops
ops_with at before l e =
    let same : same_queue l.at at ≡ true = ap (λ q. same_queue q at) e ∙ same_queue_itself at in
    let one : on_queue at (l ∷ []) ≡ l ∷ [] = rw same refl in
    ap ops_of (on_queue-append at before (l ∷ []) ∙ ap (λ r. on_queue at before ++ r) one)
    ∙ (ops_of-append (on_queue at before) (l ∷ []) ∙ ap (λ r. ops_of (on_queue at before) ++ r) (append-nil l.ops))

-- and behind it
pub ops_through : (at : QueueAt) (labels before : List Label) (l : Label) (more : List Label) → labels ≡ before ++ l ∷ more
    → ops_of (on_queue at labels) ≡ ops_of (on_queue at (before ++ l ∷ [])) ++ ops_of (on_queue at more)
ops_through at labels before l more e =
    ap (λ ls. ops_of (on_queue at ls)) (e ∙ sym (append_assoc before (l ∷ []) more))
    ∙ (ap ops_of (on_queue-append at (before ++ l ∷ []) more) ∙ ops_of-append (on_queue at (before ++ l ∷ [])) (on_queue at more))

-- the same of a device
pub device_with : (d : ℕ) (labels before : List Label) (l : Label) (more : List Label) → labels ≡ before ++ l ∷ more → l.at.device ≡ d
    → ops_of (on_device d labels) ≡ ops_of (on_device d before) ++ (l.ops ++ ops_of (on_device d more))
device_with d labels before l more e here =
    let same : (l.at.device == d) ≡ true = eq-eqb l.at.device d here in
    let one : on_device d (l ∷ more) ≡ l ∷ on_device d more = rw same refl in
    ap (λ ls. ops_of (on_device d ls)) e
    ∙ (ap ops_of (filter-append (λ k. k.at.device == d) before (l ∷ more) ∙ ap (λ r. on_device d before ++ r) one)
    ∙ ops_of-append (on_device d before) (l ∷ on_device d more))

-- an operation of a device's labels is one of a label there
pub record OnDevice (d : ℕ) (labels : List Label) (op : OpLabel) : Type 0 where
  pub before : List Label
  pub label : Label
  pub more : List Label
  pub split : labels ≡ before ++ label ∷ more
  pub here : label.at.device ≡ d
  pub member : Contains label.ops op

pub on_device_from : (d : ℕ) (labels : List Label) (op : OpLabel) → Contains (ops_of (on_device d labels)) op → OnDevice d labels op
on_device_from d [] op h = absurd (no_member op h)
on_device_from d (l ∷ ls) op h = elim (cases_Bool (l.at.device == d)) [
  | inl here ↦ elim (Contains-append_cases l.ops (ops_of (on_device d ls)) op (rw here at h)) [
    | inl first ↦ record { before = []; label = l; more = ls; split = refl; here = eqb-true l.at.device d here; member = first }
    | inr others ↦ (let f = on_device_from d ls op others in record { before = l ∷ f.before; label = f.label; more = f.more; split = ap (λ r. l ∷ r) f.split; here = f.here; member = f.member })
  ]
  | inr other ↦ (let f = on_device_from d ls op (rw other at h) in record { before = l ∷ f.before; label = f.label; more = f.more; split = ap (λ r. l ∷ r) f.split; here = f.here; member = f.member })
]

pub on_device_to : (d : ℕ) (labels before : List Label) (l : Label) (more : List Label) (op : OpLabel) → labels ≡ before ++ l ∷ more → l.at.device ≡ d → Contains l.ops op → Contains (ops_of (on_device d labels)) op
on_device_to d labels before l more op e here c =
    rw (device_with d labels before l more e here)
    (Contains-append_right (ops_of (on_device d before)) (l.ops ++ ops_of (on_device d more)) op (Contains-append_left l.ops (ops_of (on_device d more)) op c))
