-- Marks after which as many lifetimes were opened and the same is present: what a walk asks of either finds the same, and leaves the
-- same.
use Rattle.std.proofs.Common.{◌≡◌, ℕ, ◌+◌, ◌<◌, Bool, true, false, cond, ◌&&◌, List, [], ◌∷◌, ◌++◌, length, map, refl, sym, ap, ap₂, ◌∙◌, subst, Some, None, Option, nat_lt}
use mathlib.Core.Path.{fun_ext}
use Rattle.std.specs.Prelude.{not}
use Rattle.std.specs.List.{flat_map}
use Rattle.std.proofs.lemmas.Bool.{and_parts, ltb-true}
use Rattle.std.proofs.lemmas.Grind.{flat_map-append}
use Rattle.acc_base.specs.declared.fault.Fault.{Fault}
use Rattle.acc_base.specs.declared.fault.Fault.TheVariants.{BadRange, PartlyPresent}
use Rattle.acc_base.specs.declared.range.Range.{Range}
use Rattle.acc_base.specs.Configurations.{Configuration, has_range}
use Rattle.acc_batch.specs.declared.label.OpLabel.{OpLabel}
use Rattle.acc_batch.specs.declared.label.OpLabel.TheVariants.{Make, CopyIn, CopyOut, Release, Run}
use Rattle.acc_kernel.specs.Jobs.{Use}
use Rattle.acc_kernel.specs.Kernels.{Loop, arrays_of}
use Rattle.acc_place.specs.Accepting.{first_fault, fault_where, fault_at, item_faults, wants_whole}
use Rattle.acc_place.specs.Batches.{copies_in, copies_out, found_block, opened_block, makes, copy_ins, copy_outs, releases, updates, updates_by, ended_blocks, use_by, runs_by, runs, grouped}
use Rattle.acc_place.specs.declared.directive.DataItem.{DataItem}
use Rattle.acc_place.specs.declared.directive.Kind.{Kind}
use Rattle.acc_place.specs.declared.directive.Kind.TheVariants as kind
use Rattle.acc_place.specs.Implicit.{item_of}
use Rattle.acc_place.specs.Standings.{AskedItem, Walk, Visit, acts_if_present, all_asked, all_visits, asked_item, change_at, change_where, counted_among, counted_items, counted_with, exit_by, marked_by, marks_after, marks_behind, marks_between, marks_with, visits}
use Rattle.acc_place.proofs.FirstFault.{first_fault_none, no_fault, no_fault_at}
use Rattle.acc_place.proofs.VisitLives.{visit}
use Rattle.acc_present.specs.declared.change.Change.{Change}
use Rattle.acc_present.specs.declared.change.Change.TheVariants.{StructuredUp}
use Rattle.acc_present.specs.Legality.{AllLegal}
use Rattle.acc_present.specs.Lifetimes.{can_open, opened_lifetimes}
use Rattle.acc_present.specs.Marks.{Mark}
use Rattle.acc_present.specs.Presences.{Presence, holder, is_partly_present, is_present, presences, used_cells}
use Rattle.acc_present.specs.Tables.{presences_after}
use Rattle.acc_present.proofs.LegalMarks.{can_count-balanced, legal}
use Rattle.acc_present.proofs.OpenedAndEnded.{ended-more, ended-same, ended_in, opened-more}
use Rattle.acc_present.proofs.Presences.{CanCount, presences-more}

pub record SameMarks (ms ns : List Mark) : Type 0 where
  pub present : presences ms ≡ presences ns
  pub opened : length (opened_lifetimes ms) ≡ length (opened_lifetimes ns)

-- ## One mark

abbrev CanCountBy : Option Change → List Mark → Type 0
CanCountBy None ms = Unit {0}
CanCountBy (Some change) ms = CanCount change ms

counts_by : (change : Option Change) (ms : List Mark) → AllLegal ms → CanCountBy change ms
counts_by None ms h = tt
counts_by (Some change) ms h = can_count-balanced change ms (legal ms h).balanced

with_same : (change : Option Change) (ms ns : List Mark) (r : Range) → CanCountBy change ms → CanCountBy change ns → SameMarks ms ns → SameMarks (marks_with ms r change) (marks_with ns r change)
with_same None ms ns r a b s = s
with_same (Some change) ms ns r a b s =
    let m : Mark = record { change = change; range = r } in
    record {
      present = presences-more m ms a ∙ (ap₂ (λ n ps. presences_after m (n + 1) ps) s.opened s.present ∙ sym (presences-more m ns b));
      opened = opened-more m ms
          ∙ (ap₂ (λ (ps : List Presence) n. cond (can_open change && not (is_present ps r)) (n + 1) n) s.present s.opened ∙ sym (opened-more m ns));
    }

change_same : (ms ns : List Mark) (a : AskedItem) → SameMarks ms ns → change_at ms a ≡ change_at ns a
change_same ms ns a s = ap (λ ps. change_where a (is_present ps a.item.range)) s.present

marked_same : (ms ns : List Mark) (a : AskedItem) → CanCountBy (change_at ms a) ms → CanCountBy (change_at ms a) ns → SameMarks ms ns → SameMarks (marked_by ms a) (marked_by ns a)
marked_same ms ns a first second s =
    subst (λ (change : Option Change). SameMarks (marked_by ms a) (marks_with ns a.item.range change)) (change_same ms ns a s)
    (with_same (change_at ms a) ms ns a.item.range first second s)

ended_by : (change : Option Change) (ms ns : List Mark) (i : DataItem) → CanCountBy change ms → CanCountBy change ns → SameMarks ms ns
    → ended_blocks (record { item = i; before = ms; after = marks_with ms i.range change }) ≡ ended_blocks (record { item = i; before = ns; after = marks_with ns i.range change })
ended_by None ms ns i a b s = ended-same ms ∙ sym (ended-same ns)
ended_by (Some change) ms ns i a b s =
    let m : Mark = record { change = change; range = i.range } in
    ended-more m ms a ∙ (ap (ended_in m) s.present ∙ sym (ended-more m ns b))

-- ## One visit

pub record SameVisit (ms ns : List Mark) (a : AskedItem) : Type 0 where
  pub before : SameMarks ms ns
  pub after : SameMarks (marked_by ms a) (marked_by ns a)
  pub ended : ended_blocks (visit ms a) ≡ ended_blocks (visit ns a)

visit_same : (ms ns : List Mark) (a : AskedItem) → CanCountBy (change_at ms a) ms → CanCountBy (change_at ms a) ns → SameMarks ms ns → SameVisit ms ns a
visit_same ms ns a first second s = record {
  before = s;
  after = marked_same ms ns a first second s;
  ended = ended_by (change_at ms a) ms ns a.item first second s
      ∙ ap (λ (change : Option Change). ended_blocks (record { item = a.item; before = ns; after = marks_with ns a.item.range change })) (change_same ms ns a s);
}

fault_same : (config : Configuration) (k : Kind) (ms ns : List Mark) (a : AskedItem) → SameMarks ms ns → SameMarks (marked_by ms a) (marked_by ns a)
    → fault_at config k (visit ms a) ≡ fault_at config k (visit ns a)
fault_same config k ms ns a before after =
    ap (λ (ps : List Presence). first_fault (item_faults config k a.item ps (nat_lt (length (opened_lifetimes ms)) (length (opened_lifetimes (marked_by ms a)))) (used_cells (presences (marked_by ms a))))) before.present
    ∙ (ap₂ (λ m n. first_fault (item_faults config k a.item (presences ns) (nat_lt m n) (used_cells (presences (marked_by ms a))))) before.opened after.opened
    ∙ ap (λ (ps : List Presence). first_fault (item_faults config k a.item (presences ns) (nat_lt (length (opened_lifetimes ns)) (length (opened_lifetimes (marked_by ns a)))) (used_cells ps))) after.present)

-- ## The faults of a walk

-- Marks behind which the items of a directive of this kind can be counted.
abbrev pub Fits : Kind → List Mark → Type 0
Fits kind.Data ms = AllLegal ms
Fits (kind.Loop k) ms = AllLegal ms
Fits kind.EndData ms = Unit {0}
Fits kind.EnterData ms = Unit {0}
Fits (kind.ExitData finalize) ms = Unit {0}
Fits (kind.Update if_present) ms = Unit {0}
Fits kind.Wait ms = Unit {0}
Fits kind.AsyncTest ms = Unit {0}
Fits kind.IsPresent ms = Unit {0}

pub fits : (k : Kind) (ms : List Mark) → AllLegal ms → Fits k ms
fits kind.Data ms h = h
fits (kind.Loop k) ms h = h
fits kind.EndData ms h = tt
fits kind.EnterData ms h = tt
fits (kind.ExitData finalize) ms h = tt
fits (kind.Update if_present) ms h = tt
fits kind.Wait ms h = tt
fits kind.AsyncTest ms h = tt
fits kind.IsPresent ms h = tt

exit_counts : (finalize absent : Bool) (ms : List Mark) → CanCountBy (cond absent None (Some (exit_by finalize))) ms
exit_counts finalize true ms = tt
exit_counts true false ms = tt
exit_counts false false ms = tt

fits_count : (k : Kind) (ms ns : List Mark) (i : DataItem) → Fits k ns → CanCountBy (change_at ms (asked_item k i)) ns
fits_count kind.Data ms ns i h = counts_by (change_at ms (asked_item kind.Data i)) ns h
fits_count (kind.Loop k) ms ns i h = counts_by (change_at ms (asked_item (kind.Loop k) i)) ns h
fits_count kind.EndData ms ns i h = tt
fits_count kind.EnterData ms ns i h = tt
fits_count (kind.ExitData finalize) ms ns i h = exit_counts finalize (not (is_present (presences ms) i.range)) ns
fits_count (kind.Update if_present) ms ns i h = tt
fits_count kind.Wait ms ns i h = tt
fits_count kind.AsyncTest ms ns i h = tt
fits_count kind.IsPresent ms ns i h = tt

-- what an item has whose visit has no fault
pub record IsWhole (k : Kind) (ms : List Mark) (i : DataItem) : Type 0 where
  pub cells : 0 < i.range.len
  pub whole : (wants_whole k && is_partly_present (presences ms) i.range) ≡ false

pub is_whole : (config : Configuration) (k : Kind) (ms : List Mark) (i : DataItem) → fault_at config k (visit ms (asked_item k i)) ≡ None → IsWhole k ms i
is_whole config k ms i none =
    let first = first_fault_none (fault_where (not (has_range config.arrays i.range)) BadRange) _ none in
    let second = first_fault_none (fault_where (wants_whole k && is_partly_present (presences ms) i.range) PartlyPresent) _ first.1 in
    let inside = no_fault_at (has_range config.arrays i.range) BadRange first.0 in
    record {
      cells = ltb-true 0 i.range.len (and_parts (nat_lt 0 i.range.len) _ inside).0;
      whole = no_fault (wants_whole k && is_partly_present (presences ms) i.range) PartlyPresent second.0;
    }

up_legal : (absent : Bool) (ms : List Mark) (r : Range) → AllLegal ms → 0 < r.len → is_partly_present (presences ms) r ≡ false → AllLegal (marks_with ms r (cond absent None (Some StructuredUp)))
up_legal true ms r h cells whole = h
up_legal false ms r h cells whole = ((cells, whole), h)

fits_kept : (config : Configuration) (k : Kind) (ms : List Mark) (i : DataItem) → Fits k ms → fault_at config k (visit ms (asked_item k i)) ≡ None → Fits k (marked_by ms (asked_item k i))
fits_kept config kind.Data ms i h none =
    let w = is_whole config kind.Data ms i none in
    up_legal (acts_if_present kind.Data i.clause && not (is_present (presences ms) i.range)) ms i.range h w.cells w.whole
fits_kept config (kind.Loop k) ms i h none =
    let w = is_whole config (kind.Loop k) ms i none in
    up_legal false ms i.range h w.cells w.whole
fits_kept config kind.EndData ms i h none = tt
fits_kept config kind.EnterData ms i h none = tt
fits_kept config (kind.ExitData finalize) ms i h none = tt
fits_kept config (kind.Update if_present) ms i h none = tt
fits_kept config kind.Wait ms i h none = tt
fits_kept config kind.AsyncTest ms i h none = tt
fits_kept config kind.IsPresent ms i h none = tt

-- the others count only where the first has no fault
first_same : (f g : Option Fault) (fs gs : List (Option Fault)) → f ≡ g → (f ≡ None → g ≡ None → first_fault fs ≡ first_fault gs) → first_fault (f ∷ fs) ≡ first_fault (g ∷ gs)
first_same (Some f) (Some g) fs gs same rest = same
first_same None None fs gs same rest = rest refl refl
first_same (Some f) None fs gs same rest = absurd cc
first_same None (Some g) fs gs same rest = absurd cc

pub faults_same : (config : Configuration) (k : Kind) (items : List DataItem) (ms ns : List Mark) (last : List (Option Fault)) → Fits k ms → Fits k ns → SameMarks ms ns
    → first_fault (map (fault_at config k) (visits ms (all_asked k items)) ++ last) ≡ first_fault (map (fault_at config k) (visits ns (all_asked k items)) ++ last)
faults_same config k [] ms ns last a b s = refl
faults_same config k (i ∷ items) ms ns last a b s =
    let asked = asked_item k i in
    let after = marked_same ms ns asked (fits_count k ms ms i a) (fits_count k ms ns i b) s in
    first_same (fault_at config k (visit ms asked)) (fault_at config k (visit ns asked)) _ _ (fault_same config k ms ns asked s after)
    (λ none other. faults_same config k items (marked_by ms asked) (marked_by ns asked) last (fits_kept config k ms i a none) (fits_kept config k ns i b other) after)

-- ## All visits of an accepted directive

legal_with : (change : Option Change) (ms : List Mark) (r : Range) → AllLegal (marks_with ms r change) → AllLegal ms
legal_with None ms r h = h
legal_with (Some change) ms r h = h.1

pub legal_before : (asks : List AskedItem) (ms : List Mark) → AllLegal (marks_after ms asks) → AllLegal ms
legal_before [] ms h = h
legal_before (a ∷ asks) ms h = legal_with (change_at ms a) ms a.item.range (legal_before asks (marked_by ms a) h)

abbrev SameVisits : List AskedItem → List Mark → List Mark → Type 0
SameVisits [] ms ns = SameMarks ms ns
SameVisits (a ∷ asks) ms ns = SameVisit ms ns a × SameVisits asks (marked_by ms a) (marked_by ns a)

visits_same : (asks : List AskedItem) (ms ns : List Mark) → AllLegal (marks_after ms asks) → AllLegal (marks_after ns asks) → SameMarks ms ns → SameVisits asks ms ns
visits_same [] ms ns a b s = s
visits_same (asked ∷ asks) ms ns a b s =
    let first = counts_by (change_at ms asked) ms (legal_before (asked ∷ asks) ms a) in
    let second = counts_by (change_at ms asked) ns (legal_before (asked ∷ asks) ns b) in
    let here = visit_same ms ns asked first second s in
    (here, visits_same asks (marked_by ms asked) (marked_by ns asked) a b here.after)

after_same : (asks : List AskedItem) (ms ns : List Mark) → SameVisits asks ms ns → SameMarks (marks_after ms asks) (marks_after ns asks)
after_same [] ms ns s = s
after_same (a ∷ asks) ms ns s = after_same asks (marked_by ms a) (marked_by ns a) s.1

counted_same : (asks : List AskedItem) (ms ns : List Mark) → SameVisits asks ms ns → counted_among ms asks ≡ counted_among ns asks
counted_same [] ms ns s = refl
counted_same (a ∷ asks) ms ns s =
    ap₂ (λ (change : Option Change) rest. counted_with change a.item rest) (change_same ms ns a s.0.before) (counted_same asks (marked_by ms a) (marked_by ns a) s.1)

-- ## Their operations

abbrev ReadsVisit : (Visit → List OpLabel) → Type 0
ReadsVisit f = (ms ns : List Mark) (a : AskedItem) → SameVisit ms ns a → f (visit ms a) ≡ f (visit ns a)

each_same : (f : Visit → List OpLabel) → ReadsVisit f → (asks : List AskedItem) (ms ns : List Mark) → SameVisits asks ms ns → flat_map f (visits ms asks) ≡ flat_map f (visits ns asks)
each_same f reads [] ms ns s = refl
each_same f reads (a ∷ asks) ms ns s = ap₂ (λ xs ys. xs ++ ys) (reads ms ns a s.0) (each_same f reads asks (marked_by ms a) (marked_by ns a) s.1)

makes_same : ReadsVisit makes
makes_same ms ns a s = ap₂ (λ m n. map (λ b. Make a.item.range b) (opened_block m n)) s.before.opened s.after.opened

copy_ins_same : ReadsVisit copy_ins
copy_ins_same ms ns a s =
    ap₂ (λ m n. cond (copies_in a.item.clause) (map (λ b. CopyIn a.item.range b) (opened_block m n)) []) s.before.opened s.after.opened

copy_outs_same : ReadsVisit copy_outs
copy_outs_same ms ns a s = ap (λ bs. cond (copies_out a.item.clause) (map (λ b. CopyOut a.item.range b) bs) []) s.ended

releases_same : ReadsVisit releases
releases_same ms ns a s = ap (map Release) s.ended

updates_same : ReadsVisit updates
updates_same ms ns a s = ap (λ ps. updates_by a.item.clause a.item.range (found_block (holder ps a.item.range))) s.before.present

use_same : (ms ns : List Mark) (o : Option DataItem) → SameMarks ms ns → use_by ms o ≡ use_by ns o
use_same ms ns None s = refl
use_same ms ns (Some i) s = ap (λ ps. map {B = Use} (λ b. (b, i.range)) (found_block (holder ps i.range))) s.present

run_same : (k : Option Loop) (items : List DataItem) (ms ns : List Mark) → SameMarks ms ns → runs_by k items ms ≡ runs_by k items ns
run_same None items ms ns s = refl
run_same (Some k) items ms ns s =
    ap (λ (f : ℕ → List Use). Run k (flat_map f (arrays_of k)) ∷ []) (fun_ext (λ array. use_same ms ns (item_of array items) s))

pub record SameWalk (walk : Walk) (ms ns : List Mark) : Type 0 where
  pub operations : grouped (runs walk ms) (all_visits ms walk) ≡ grouped (runs walk ns) (all_visits ns walk)
  pub behind : SameMarks (marks_behind ms walk) (marks_behind ns walk)
  pub counted : counted_items ms walk ≡ counted_items ns walk

module _ (walk : Walk) (ms ns : List Mark) (items : SameVisits walk.items ms ns) (ends : SameVisits walk.ends (marks_between ms walk) (marks_between ns walk)) where
  all_same : (f : Visit → List OpLabel) → ReadsVisit f → flat_map f (all_visits ms walk) ≡ flat_map f (all_visits ns walk)
  all_same f reads =
      flat_map-append f (visits ms walk.items) (visits (marks_between ms walk) walk.ends)
      ∙ (ap₂ (λ xs ys. xs ++ ys) (each_same f reads walk.items ms ns items) (each_same f reads walk.ends (marks_between ms walk) (marks_between ns walk) ends)
      ∙ sym (flat_map-append f (visits ns walk.items) (visits (marks_between ns walk) walk.ends)))

  operations_same : grouped (runs walk ms) (all_visits ms walk) ≡ grouped (runs walk ns) (all_visits ns walk)
  operations_same = λ i.
      all_same makes makes_same i
      ++ (all_same copy_ins copy_ins_same i
      ++ (run_same walk.runs (map (λ a. a.item) walk.items) (marks_between ms walk) (marks_between ns walk) (after_same walk.items ms ns items) i
      ++ (all_same updates updates_same i
      ++ (all_same copy_outs copy_outs_same i
      ++ all_same releases releases_same i))))

pub walks_same : (walk : Walk) (ms ns : List Mark) → AllLegal (marks_behind ms walk) → AllLegal (marks_behind ns walk) → SameMarks ms ns → SameWalk walk ms ns
walks_same walk ms ns a b s =
    let items = visits_same walk.items ms ns (legal_before walk.ends (marks_between ms walk) a) (legal_before walk.ends (marks_between ns walk) b) s in
    let between = after_same walk.items ms ns items in
    let ends = visits_same walk.ends (marks_between ms walk) (marks_between ns walk) a b between in
    record {
      operations = operations_same walk ms ns items ends;
      behind = after_same walk.ends (marks_between ms walk) (marks_between ns walk) ends;
      counted = counted_same walk.items ms ns items;
    }
