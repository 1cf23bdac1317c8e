-- Where both sides and the tokens are of one run, its histories are legal, wherever it stops; and it is finished where its queues have
-- performed their closes.
use Rattle.std.proofs.Common.{inl, inr, ◌≡◌, suc, ◌-◌, Bool, true, false, List, [], ◌∷◌, ◌++◌, length, refl, sym, ap, subst, ◌∙◌, arith, slice_get}
use Rattle.std.specs.Prelude.{All, ◌==◌}
use Rattle.std.proofs.lemmas.Bool.{and_parts, cases_Bool, eqb-true}
use Rattle.std.proofs.lemmas.List.{append_assoc, append-nil}
use Rattle.std.proofs.lemmas.List.Elements.{All-cons, All-nil}
use Rattle.acc_base.specs.Configurations.{Configuration}
use Rattle.acc_base.specs.Queues.{same_queue}
use Rattle.acc_base.specs.declared.ids.QueueAt.{QueueAt}
use Rattle.acc_base.proofs.SameQueue.{same_queue_itself}
use Rattle.acc_batch.specs.declared.label.Label.{Label}
use Rattle.acc_batch.specs.declared.label.OpLabel.{OpLabel}
use Rattle.acc_batch.specs.declared.label.OpLabel.TheVariants.{Make, CopyIn, CopyOut, Release, Run, Await, Close}
use Rattle.acc_batch.specs.Labels.{on_queue, ops_of}
use Rattle.acc_batch.proofs.Labels.{ops_of-append}
use Rattle.acc_host.specs.Legality.{NothingBehind}
use Rattle.acc_place.specs.Histories.{AllAccepted, IsQueue}
use Rattle.acc_place.specs.Plans.{standing_in}
use Rattle.acc_place.specs.Sound.{is_close, CloseLast}
use Rattle.acc_place.proofs.LastClose.{closes_last}
use Rattle.acc_batch.specs.declared.entry.WorkEntry.{WorkEntry}
use Rattle.acc_batch.specs.declared.entry.WorkEntry.TheVariants as entry
use Rattle.acc_work.specs.Kept.{Extends, IsKept}
use Rattle.acc_work.specs.Lanes.{LaneView, last_of}
use Rattle.acc_work.specs.Logs.{one_more, performed}
use Rattle.acc_work.specs.Works.{IsInOrder, lane_at, taken_labels}
use Rattle.acc_work.proofs.Extended.{kept_more}
use Rattle.acc_run.specs.Finishing.{AllTookFirst, AreOfOneRun, EndedSidesAreFinished, EndsWithClose, KeepsWork, Leaves, StoppedSidesAreLegal, TookFirst, untaken_on, histories_in, left_on}
use Rattle.acc_run.specs.PlaceSides.{PlaceSideView}
use Rattle.acc_run.specs.Tokens.{TokenView}
use Rattle.acc_run.specs.WorkSides.{WorkSideView, are_a_close, is_ended}
use Rattle.acc_run.specs.WorkSides.{closes_last as is_last_a_close}
use Rattle.acc_run.proofs.AllRise.{all_rise}
use Rattle.acc_run.proofs.EachQueue.{held_filled, none_placed, there_or_not, took_first}

-- ## Nothing is performed behind a close

none_left : {X : Type 0} (xs ys : List X) → xs ++ ys ≡ [] → xs ≡ []
none_left [] ys e = refl
none_left (x ∷ xs) ys e = cc

close_last_before : (xs ys : List OpLabel) → CloseLast (xs ++ ys) → CloseLast xs
close_last_before [] ys h = tt
close_last_before (x ∷ xs) ys h = (λ c. none_left xs ys (h.0 c), close_last_before xs ys h.1)

one_before : (b : Bool) (xs : List OpLabel) (op : OpLabel) → CloseLast (one_more b xs op) → CloseLast xs
one_before true xs op h = close_last_before xs (op ∷ []) h
one_before false xs op h = h

-- what stands before another operation doesn't close
none_ends : (xs : List OpLabel) (op : OpLabel) → xs ++ op ∷ [] ≡ [] → ⊥
none_ends [] op e = cc
none_ends (x ∷ xs) op e = cc

none_closes : (done : List OpLabel) (op : OpLabel) → CloseLast (done ++ op ∷ []) → All (λ (o : OpLabel). is_close o ≡ false) done
none_closes [] op h = All-nil (λ (o : OpLabel). is_close o ≡ false)
none_closes (o ∷ done) op h = All-cons (λ (o : OpLabel). is_close o ≡ false) o done (goes h.0) (none_closes done op h.1)
  where
    goes : (is_close o ≡ true → done ++ op ∷ [] ≡ []) → is_close o ≡ false
    goes last = elim (cases_Bool (is_close o)) [ inl ends ↦ absurd (none_ends done op (last ends)) | inr goes_on ↦ goes_on ]

nothing_behind : (work : List WorkEntry) → ((at : QueueAt) → CloseLast (performed at work)) → NothingBehind work
nothing_behind [] last = tt
nothing_behind (entry.Op at op ∷ before) last = (
  none_closes (performed at before) op (subst (λ b. CloseLast (one_more b (performed at before) op)) (same_queue_itself at) (last at)),
  nothing_behind before (λ q. one_before (same_queue at q) (performed q before) op (last q)),
)
nothing_behind (entry.Item host what ∷ before) last = nothing_behind before last

-- ## A queue that has performed its close

nil_of : {X : Type 0} (xs : List X) → (length xs == 0) ≡ true → xs ≡ []
nil_of [] e = refl
nil_of (x ∷ xs) e = absurd (omega (arith, eqb-true (length (x ∷ xs)) 0 e))

is_the_close : (op : OpLabel) → is_close op ≡ true → op ≡ Close
is_the_close Close e = refl
is_the_close (Make r b) e = cc
is_the_close (CopyIn r b) e = cc
is_the_close (CopyOut r b) e = cc
is_the_close (Release b) e = cc
is_the_close (Run k uses) e = cc
is_the_close (Await q n) e = cc

close_alone : (ops : List OpLabel) → are_a_close ops ≡ true → ops ≡ Close ∷ []
close_alone [] e = cc
close_alone (op ∷ []) e = ap (λ o. o ∷ []) (is_the_close op e)
close_alone (op ∷ next ∷ ops) e = cc

last_more : (l next : Label) (labels : List Label) → last_of (l ∷ next ∷ labels) ≡ last_of (next ∷ labels)
last_more l next labels =
    let here : length (l ∷ next ∷ labels) - 1 ≡ suc (length labels) = omega arith in
    let there : length (next ∷ labels) - 1 ≡ length labels = omega arith in
    ap (slice_get (l ∷ next ∷ labels)) here ∙ ap (slice_get (next ∷ labels)) (sym there)

-- its operations end with that
ends_with : (labels : List Label) → is_last_a_close (last_of labels) ≡ true → EndsWithClose (ops_of labels)
ends_with [] e = cc
ends_with (l ∷ []) e = ([], ap (λ ops. ops ++ []) (close_alone l.ops e))
ends_with (l ∷ next ∷ labels) e =
    let later = ends_with (next ∷ labels) (ap is_last_a_close (sym (last_more l next labels)) ∙ e) in
    (l.ops ++ later.0, ap (λ ops. l.ops ++ ops) later.1 ∙ sym (append_assoc l.ops later.0 (Close ∷ [])))

-- so does what it has performed
ended_with : (work : List WorkEntry) (at : QueueAt) (lane : LaneView) → IsInOrder work at lane → is_ended lane ≡ true → EndsWithClose (performed at work)
ended_with work at lane o ended =
    let parts = and_parts (length lane.left == 0) (is_last_a_close (last_of lane.taken)) ended in
    let all : performed at work ≡ ops_of lane.taken = sym (append-nil (performed at work)) ∙ (ap (λ ops. performed at work ++ ops) (sym (nil_of lane.left parts.0)) ∙ o.in_order) in
    let last = ends_with lane.taken parts.1 in
    (last.0, all ∙ last.1)

-- nothing is behind a close
none_behind : (before rest : List OpLabel) → CloseLast ((before ++ Close ∷ []) ++ rest) → rest ≡ []
none_behind [] rest h = h.0 refl
none_behind (op ∷ before) rest h = none_behind before rest h.1

-- ## A run that stops anywhere

leaves : (p : PlaceSideView) (w : WorkSideView) → KeepsWork w → ((at : QueueAt) → TookFirst p w at) → Leaves (histories_in p w) (left_on p w)
leaves p w keeps took at =
    let taken = on_queue at (taken_labels w.work) in
    let held = untaken_on p w at in
    let left = (lane_at w.work at).left in
    let done : ops_of taken ≡ performed at w.work.work ++ left = ap ops_of (keeps.order.taken at) ∙ sym (keeps.order.order at).in_order in
    ap ops_of (took at) ∙ (ops_of-append taken held ∙ (ap (λ (ops : List OpLabel). ops ++ ops_of held) done ∙ append_assoc (performed at w.work.work) left (ops_of held)))

-- what was compared holds of every queue
took : (config : Configuration) (p : PlaceSideView) (w : WorkSideView) (tokens : List TokenView) → AllAccepted p.place.config p.place.history p.place.counts → KeepsWork w → AreOfOneRun config p w tokens → (at : QueueAt) → TookFirst p w at
took config p w tokens accepted keeps one =
    let devices : length w.work.memory.devices ≡ p.place.config.devices = keeps.devices ∙ ap (λ (c : Configuration). c.devices) (one.performed_for ∙ sym one.placed_for) in
    took_first p w accepted keeps.order devices (subst (λ c. AllTookFirst c p w) (sym one.placed_for) one.taken)

pub stopped_legal : StoppedSidesAreLegal
stopped_legal = λ config p w tokens accepted keeps one.
    let h = histories_in p w in
    let firsts = took config p w tokens accepted keeps one in
    let rest = leaves p w keeps firsts in
    let arrays : w.work.arrays ≡ p.place.config.arrays = keeps.arrays ∙ ap (λ (c : Configuration). c.arrays) (one.performed_for ∙ sym one.placed_for) in
    let kept : IsKept p.place.config.arrays (taken_labels w.work) w.work.work = subst (λ a. IsKept a (taken_labels w.work) w.work.work) arrays keeps.kept in
    let more : Extends (taken_labels w.work) (standing_in p.place).labels = λ at. record { more = untaken_on p w at; is = firsts at; filled = held_filled p w at accepted } in
    let last : (at : QueueAt) → CloseLast (performed at w.work.work) =
    λ at. close_last_before (performed at w.work.work) (left_on p w at) (subst CloseLast (rest at) (closes_last p.place.config p.place.history p.place.counts at accepted)) in (
      record {
        accepted = accepted;
        counts = all_rise h tokens one.agree;
        kept = kept_more p.place.config.arrays (taken_labels w.work) (standing_in p.place).labels w.work.work more kept;
        behind = nothing_behind w.work.work last;
      },
      rest,
    )

none_behind_it : {X : Type 0} (xs ys : List X) → xs ++ ys ≡ [] → ys ≡ []
none_behind_it [] ys e = e
none_behind_it (x ∷ xs) ys e = cc

-- nothing is left of a queue that isn't there
pub nothing_left : (p : PlaceSideView) (w : WorkSideView) → AllAccepted p.place.config p.place.history p.place.counts → Leaves (histories_in p w) (left_on p w) → (at : QueueAt) → (IsQueue p.place.config at → ⊥) → left_on p w at ≡ []
nothing_left p w accepted rest at absent = none_behind_it (performed at w.work.work) (left_on p w at) (sym (rest at) ∙ ap ops_of (none_placed p at accepted absent))

-- ## A run whose queues have performed their closes

pub ended_finished : EndedSidesAreFinished
ended_finished = λ config p w tokens accepted keeps ended one.
    let both = stopped_legal config p w tokens accepted keeps one in
    let rest = both.1 in
    let here : (at : QueueAt) → IsQueue p.place.config at → EndsWithClose (performed at w.work.work) =
    λ at there. ended_with w.work.work at (lane_at w.work at) (keeps.order.order at) (ended at (subst (λ c. IsQueue c at) one.placed_for there)) in
    let none : (at : QueueAt) → left_on p w at ≡ [] =
    λ at.
    elim (there_or_not p.place.config at) [
      | inl there ↦
          let last = here at there in
          none_behind last.0 (left_on p w at) (subst CloseLast (rest at ∙ ap (λ ops. ops ++ left_on p w at) last.1) (closes_last p.place.config p.place.history p.place.counts at accepted))
      | inr absent ↦ nothing_left p w accepted rest at absent
    ] in
    record {
      legal = both.0;
      agree = one.agree;
      performed_all = λ at. sym (rest at ∙ (ap (λ ops. performed at w.work.work ++ ops) (none at) ∙ append-nil (performed at w.work.work)));
      closed_last = here;
    }
