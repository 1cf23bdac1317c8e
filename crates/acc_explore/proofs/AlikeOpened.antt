-- How many lifetimes were opened on a device is told by the batches of its queues: each opened one was made, and the latest has that
-- number.
use Rattle.std.proofs.Common.{inl, inr, ◌≡◌, ℕ, ◌<◌, ◌≤◌, List, [], ◌∷◌, ◌++◌, length, refl, sym, ap, ◌∙◌, subst, arith}
use Rattle.std.specs.Prelude.{Contains, filter, not}
use Rattle.std.proofs.lemmas.Bool.{cases_eq}
use Rattle.std.proofs.lemmas.List.Elements.{Contains-append_right, filter-append}
use Rattle.acc_base.specs.Configurations.{Configuration}
use Rattle.acc_base.specs.Queues.{same_queue}
use Rattle.acc_base.proofs.Members.{member_cases, member_filter, member_first, no_member}
use Rattle.acc_base.proofs.SameQueue.{same_queue_itself}
use Rattle.acc_batch.specs.declared.label.Label.{Label}
use Rattle.acc_batch.specs.declared.label.OpLabel.TheVariants.{Make}
use Rattle.acc_batch.specs.Labels.{on_queue, ops_of}
use Rattle.acc_batch.specs.Lives.{Made, blocks_made, on_device}
use Rattle.acc_place.specs.Standings.{Standing}
use Rattle.acc_place.proofs.LabelsSound.{Sound}
use Rattle.acc_present.specs.Lifetimes.{Lifetime, is_before, opened_lifetimes}
use Rattle.acc_present.specs.Marks.{Mark}
use Rattle.acc_present.proofs.LifetimeNumbers.{length-lifetime_inserted, opened_more, opening}
use Rattle.acc_work.proofs.MadeAndReleased.{made_op, op_made}
use Rattle.acc_work.proofs.OperationPlaces.{on_device_from, on_device_to}
use Rattle.acc_explore.proofs.AlikeLabels.{SameByQueue}

-- ## The latest lifetime

record Latest (ms : List Mark) : Type 0 where
  lifetime : Lifetime
  listed : Contains (opened_lifetimes ms) lifetime
  number : lifetime.block ≡ length (opened_lifetimes ms)

none_yet : length (opened_lifetimes []) ≡ 0
unfolding opened_lifetimes
none_yet = refl

latest : (ms : List Mark) → 0 < length (opened_lifetimes ms) → Latest ms
latest [] some = absurd (omega (arith, some, none_yet))
latest (m ∷ ms) some = elim (opened_more m ms) [
  | inl same ↦ (
      let few : 0 < length (opened_lifetimes ms) = omega (arith, some, ap length same) in
      let l = latest ms few in
      record {
        lifetime = l.lifetime;
        listed = subst (λ (ls : List Lifetime). Contains ls l.lifetime) (sym same) l.listed;
        number = l.number ∙ sym (ap length same);
      }
      )
  | inr more ↦ (
      let new = opening m ms in
      let ls = opened_lifetimes ms in
      record {
        lifetime = new;
        listed = subst (λ (ls : List Lifetime). Contains ls new) (sym more)
            (Contains-append_right (filter (λ k. not (is_before new.range k.range)) ls) (new ∷ filter (λ k. is_before new.range k.range) ls) new
            (member_first new (filter (λ k. is_before new.range k.range) ls)));
        number = omega (arith, ap length more, length-lifetime_inserted new ls);
      }
      )
]

-- ## Made on a queue

record Splits (labels : List Label) (l : Label) : Type 0 where
  before : List Label
  more : List Label
  split : labels ≡ before ++ l ∷ more

splits : (labels : List Label) (l : Label) → Contains labels l → Splits labels l
splits [] l h = absurd (no_member l h)
splits (x ∷ xs) l h = elim (member_cases l x xs h) [
  | inl same ↦ record { before = []; more = xs; split = ap (λ k. k ∷ xs) same }
  | inr rest ↦ (let s = splits xs l rest in record { before = x ∷ s.before; more = s.more; split = ap (λ ls. x ∷ ls) s.split })
]

stands_on : (before : List Label) (l : Label) (more : List Label) → Contains (on_queue l.at (before ++ l ∷ more)) l
stands_on before l more =
    let here : on_queue l.at (l ∷ more) ≡ l ∷ on_queue l.at more = rw (same_queue_itself l.at) refl in
    rw (filter-append (λ (k : Label). same_queue k.at l.at) before (l ∷ more), here)
    (Contains-append_right (on_queue l.at before) (l ∷ on_queue l.at more) l (member_first l (on_queue l.at more)))

-- what is made on a device by the one is made there by the other
made_there : (old new : List Label) → SameByQueue old new → (device : ℕ) (x : Made) → Contains (blocks_made (ops_of (on_device device old))) x → Contains (blocks_made (ops_of (on_device device new))) x
made_there old new s device x h =
    let op = Make x.range x.block in
    let f = on_device_from device old op (made_op (ops_of (on_device device old)) x.block x.range h) in
    let l : Label = f.label in
    let on_old : Contains (on_queue l.at old) l = subst (λ (ls : List Label). Contains (on_queue l.at ls) l) (sym f.split) (stands_on f.before l f.more) in
    let listed = (member_filter (λ (k : Label). same_queue k.at l.at) new l (subst (λ (ls : List Label). Contains ls l) (s l.at) on_old)).1 in
    let t = splits new l listed in
    op_made (ops_of (on_device device new)) x.block x.range (on_device_to device new t.before l t.more op t.split f.here f.member)

-- ## As many

no_more : (config other : Configuration) (st ot : Standing) → Sound config st → Sound other ot → SameByQueue st.labels ot.labels → (device : ℕ)
    → length (opened_lifetimes (st.marks device)) ≤ length (opened_lifetimes (ot.marks device))
no_more config other st ot a b s device = elim (cases_eq (length (opened_lifetimes (st.marks device))) 0) [
  | inl none ↦ omega (arith, none)
  | inr some ↦ (
      let l = latest (st.marks device) (omega (arith, some)) in
      let x : Made = record { block = l.lifetime.block; range = l.lifetime.range } in
      let here = (a.booked device).made_all l.lifetime l.listed in
      let low = (b.booked device).made_low x (made_there st.labels ot.labels s device x here) in
      omega (arith, low, l.number)
      )
]

pub opened_same : (config other : Configuration) (st ot : Standing) → Sound config st → Sound other ot → SameByQueue st.labels ot.labels → (device : ℕ)
    → length (opened_lifetimes (st.marks device)) ≡ length (opened_lifetimes (ot.marks device))
opened_same config other st ot a b s device = omega (arith, no_more config other st ot a b s device, no_more other config ot st b a (λ at. sym (s at)) device)
