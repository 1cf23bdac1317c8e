-- What a directive is refused for, what it places, and what holds of a place once it is accepted.
use Rattle.std.proofs.Common.{inl, inr, subst, ◌≡◌, ℕ, ◌+◌, ◌*◌, ◌<◌, ◌≤◌, Bool, true, false, List, [], ◌∷◌, ◌++◌, length, map, Option, Some, None, refl, sym, ap, ◌∙◌, arith}
use Rattle.std.specs.Prelude.{◌||◌, ◌==◌, nat_lt, nat_le, All, IfSome}
use Rattle.std.specs.List.{flat_map}
use Rattle.std.specs.Option.{option_to_list}
use Rattle.std.proofs.lemmas.Bool.{eq-eqb, or_parts, ltb-false, leb-false, le-leb, lt-leb}
use Rattle.std.proofs.lemmas.Bool.Decides.{eqb_tells}
use Rattle.std.proofs.lemmas.List.{length-map, append-nil}
use Rattle.std.proofs.lemmas.List.Elements.{All-cons, All-head, All-nil, All-tail}
use Rattle.acc_base.specs.declared.fault.Fault.{Fault}
use Rattle.acc_base.specs.declared.fault.Fault.TheVariants.{BadAsync, BadDevice, Closed, TooMany, NoRegion}
use Rattle.acc_base.specs.declared.ids.QueueAt.{QueueAt}
use Rattle.acc_base.specs.declared.range.Range.{Range}
use Rattle.acc_base.specs.Configurations.{Configuration}
use Rattle.acc_kernel.specs.Kernels.{Loop}
use Rattle.acc_present.specs.declared.entry.TheConstants.{COUNTER_LIMIT}
use Rattle.acc_present.specs.Legality.{AllLegal}
use Rattle.acc_present.specs.Marks.{Mark}
use Rattle.acc_present.specs.Lifetimes.{opened_lifetimes}
use Rattle.acc_present.specs.Notes.{Note, Noted, HasNotes}
use Rattle.acc_present.specs.Presences.{presences}
use Rattle.acc_present.specs.Tables.{TableView, is_table}
use Rattle.acc_present.proofs.LegalMarks.{legal}
use Rattle.acc_batch.specs.declared.label.Label.{Label}
use Rattle.acc_batch.specs.declared.label.OpLabel.{OpLabel}
use Rattle.acc_place.specs.Directives.{Directive}
use Rattle.acc_place.specs.declared.directive.DataItem.{DataItem}
use Rattle.acc_place.specs.declared.directive.Kind.{Kind}
use Rattle.acc_place.specs.declared.directive.Kind.TheVariants as kind
use Rattle.acc_place.specs.declared.directive.Region.{Region}
use Rattle.acc_place.specs.declared.directive.TheConstants.{MAX_ITEMS, MAX_DIRECTIVES}
use Rattle.acc_place.specs.Accepting.{fault_at, first_fault, fault_where, is_too_deep, ends_no_region, refusal}
use Rattle.acc_place.specs.Batches.{grouped, labels_with, operations_of, next_number, runs, runs_by}
use Rattle.acc_place.specs.Counters.{IsEnteredBy, entered_ranges}
use Rattle.acc_place.specs.declared.directive.PlaceEntry.{PlaceEntry}
use Rattle.acc_place.specs.Histories.{after_directive, standing, AllAccepted}
use Rattle.acc_place.specs.inner.Noting.{ended_range, notes_on}
use Rattle.acc_place.specs.inner.Places.{IsTiedOn}
use Rattle.acc_place.specs.Plans.{label_for}
use Rattle.acc_place.specs.Regions.{open_region, regions_on}
use Rattle.acc_place.specs.Targets.{has_bad_queue, waits_on_too_many}
use Rattle.acc_place.specs.Standings.{AskedItem, Standing, Subject, Walk, all_asked, all_visits, counted_among, counted_items, ends_by, loop_in, marks_after, marks_behind, marks_between, subject_by, visits, walk_of, walk_on, with_marks}
use Rattle.acc_place.specs.inner.Judging.{Holding, all_marked, change_in, counted_steps, device_by, holding, holding_after, holding_with, holding_after_all, holding_between, holding_behind, ends_of, opens_one, fault_or, limit_fault, first_fault_in, past_fault, all_steps, run_in, marked_ops, AllHeldFor, AllLow, HasRoomFor, AllEntered, AllFine}
use Rattle.acc_place.proofs.EnteredRanges.{entered_after, entered_ends, entered_subject, fine_left, held_between}
use Rattle.acc_place.proofs.RegionsOn.{regions_beside, subject_device}
use Rattle.acc_place.proofs.NotesOn.{notes_beside}
use Rattle.acc_place.proofs.NoteFound.{walked, IsWalked as IsWalkOf}
use Rattle.acc_place.proofs.VisitLives.{ended_uses}
use Rattle.acc_place.proofs.Visits.{counted_are, holding_of, ended_ranges_are, faults_are, all_fine, marks_are, legal_all, ops_are, IsWalk}
use Rattle.acc_place.proofs.WalkItem.{AllLow-by, AllLow-fewer, low_left, opened_left, opened-most}

-- what a directive acts on
abbrev pub subject_of : Standing → ℕ → Directive → Subject
subject_of st host d = subject_by st.lengths st.regions host d d.kind

abbrev pub items_in : Standing → ℕ → Directive → List DataItem
items_in st host d = (subject_of st host d).items

abbrev pub device_in : Standing → ℕ → Directive → ℕ
device_in st host d = (subject_of st host d).device

-- What a device has that is tied to its marks.
abbrev pub IsTiedAt : Configuration → Standing → ℕ → Directive → TableView → ℕ → Type 0
IsTiedAt config st host d t blocks = IsTiedOn config st (device_in st host d) t blocks

walk_is : (st : Standing) (host : ℕ) (d : Directive) → walk_of st host d ≡ walk_on (subject_of st host d) d
unfolding walk_of
walk_is st host d = refl

-- the items that it counts
abbrev pub items_counted : Standing → ℕ → Directive → List DataItem
items_counted st host d = counted_items (st.marks (walk_of st host d).device) (walk_of st host d)

pub counted_is : (st : Standing) (host : ℕ) (d : Directive) → items_counted st host d ≡ counted_among (st.marks (device_in st host d)) (all_asked d.kind (items_in st host d))
counted_is st host d = ap (λ (w : Walk). counted_items (st.marks w.device) w) (walk_is st host d)

-- ## Refusals

three_first : (a b c : Bool) (fs : List (Option Fault)) → first_fault (fault_where a BadAsync ∷ fault_where b TooMany ∷ fault_where c NoRegion ∷ fs)
    ≡ fault_or (first_fault (fault_where a BadAsync ∷ fault_where b TooMany ∷ fault_where c NoRegion ∷ [])) (first_fault fs)
three_first true b c fs = refl
three_first false true c fs = refl
three_first false false true fs = refl
three_first false false false fs = refl

-- the faults of the items before that of the loop
first_one : (f : Option Fault) → first_fault (f ∷ []) ≡ f
first_one None = refl
first_one (Some f) = refl

first_behind : (fs gs : List (Option Fault)) → first_fault (fs ++ gs) ≡ fault_or (first_fault fs) (first_fault gs)
first_behind [] gs = refl
first_behind (None ∷ fs) gs = first_behind fs gs
first_behind (Some f ∷ fs) gs = refl

pub items_asked : (k : Kind) (items : List DataItem) → map (λ (a : AskedItem). a.item) (all_asked k items) ≡ items
items_asked k [] = refl
items_asked k (i ∷ is) = ap (λ xs. i ∷ xs) (items_asked k is)

abbrev limit_in : Standing → ℕ → Directive → Option Fault
limit_in st host d = limit_fault st.accepted st.regions host d (length (items_in st host d))

abbrev faults_in : Configuration → Standing → Subject → Kind → Option Fault
faults_in config st s k = first_fault (map (fault_at config k) (visits (st.marks s.device) (all_asked k s.items)))

-- closing before everything else, then the device
pub refused_closing : (config : Configuration) (st : Standing) (host : ℕ) (d : Directive) → st.closing ≡ true → refusal config st host d ≡ Some Closed
unfolding refusal
refused_closing config st host d begun = rw begun refl

pub refused_device : (config : Configuration) (st : Standing) (host : ℕ) (d : Directive) → st.closing ≡ false → config.devices ≤ d.device → refusal config st host d ≡ Some BadDevice
unfolding refusal
refused_device config st host d early past = rw (early, le-leb config.devices d.device past) refl

two_first : (closing bad : Bool) (fs : List (Option Fault)) → first_fault (fault_where closing Closed ∷ fault_where bad BadDevice ∷ fs) ≡ None → (closing ≡ false) × (bad ≡ false)
two_first true bad fs none = absurd cc
two_first false true fs none = absurd cc
two_first false false fs none = (refl, refl)

pub accepted_open : (config : Configuration) (st : Standing) (host : ℕ) (d : Directive) → refusal config st host d ≡ None → st.closing ≡ false
unfolding refusal
accepted_open config st host d none = (two_first st.closing (nat_le config.devices d.device) _ none).0

pub accepted_device : (config : Configuration) (st : Standing) (host : ℕ) (d : Directive) → refusal config st host d ≡ None → d.device < config.devices
unfolding refusal
accepted_device config st host d none = leb-false config.devices d.device (two_first st.closing (nat_le config.devices d.device) _ none).1

refusal_is : (config : Configuration) (st : Standing) (host : ℕ) (d : Directive) → st.closing ≡ false → d.device < config.devices
    → refusal config st host d ≡ fault_or (limit_in st host d) (fault_or (faults_in config st (subject_of st host d) d.kind) (past_fault (loop_in d.kind) (items_in st host d)))
unfolding refusal limit_fault walk_of
refusal_is config st host d early here =
    let s = subject_of st host d in
    let faults = map (fault_at config d.kind) (visits (st.marks s.device) (all_asked d.kind s.items)) in
    let past = past_fault (loop_in d.kind) s.items in
    rw (early, lt-leb config.devices d.device here, length-map s.items, items_asked d.kind s.items)
    (three_first (has_bad_queue d) (nat_lt MAX_ITEMS (length s.items) || (waits_on_too_many d.waits || (is_too_deep d.kind host st.regions || nat_le MAX_DIRECTIVES st.accepted))) (ends_no_region d.kind (open_region host st.regions)) (faults ++ past ∷ [])
    ∙ ap (fault_or (limit_in st host d)) (first_behind faults (past ∷ []) ∙ ap (fault_or (first_fault faults)) (first_one past)))

-- a directive that passes no limit
pub record IsWithin (accepted count : ℕ) : Type 0 where
  pub short : count ≤ MAX_ITEMS
  pub few : accepted < MAX_DIRECTIVES

none_of_two : (a b c : Bool) → first_fault (fault_where a BadAsync ∷ fault_where b TooMany ∷ fault_where c NoRegion ∷ []) ≡ None → b ≡ false
none_of_two true b c h = absurd cc
none_of_two false true c h = absurd cc
none_of_two false false c h = refl

pub is_within : (accepted : ℕ) (rs : List Region) (host : ℕ) (d : Directive) (count : ℕ) → limit_fault accepted rs host d count ≡ None → IsWithin accepted count
unfolding limit_fault
is_within accepted rs host d count none =
    let many = none_of_two (has_bad_queue d) (nat_lt MAX_ITEMS count || (waits_on_too_many d.waits || (is_too_deep d.kind host rs || nat_le MAX_DIRECTIVES accepted))) (ends_no_region d.kind (open_region host rs)) none in
    let counts = or_parts (nat_lt MAX_ITEMS count) (waits_on_too_many d.waits || (is_too_deep d.kind host rs || nat_le MAX_DIRECTIVES accepted)) many in
    let queues = or_parts (waits_on_too_many d.waits) (is_too_deep d.kind host rs || nat_le MAX_DIRECTIVES accepted) counts.1 in
    let others = or_parts (is_too_deep d.kind host rs) (nat_le MAX_DIRECTIVES accepted) queues.1 in
    record {
      short = ltb-false MAX_ITEMS count counts.0;
      few = leb-false MAX_DIRECTIVES accepted others.1;
    }

pub table_in : {config : Configuration} {device : ℕ} (st : Standing) (t : TableView) (blocks : ℕ) → IsTiedOn config st device t blocks → is_table t.presences ≡ true
table_in {device = device} st t blocks tied = ap is_table tied.presences ∙ (legal (st.marks device) tied.legal).table

-- what the open regions of its device have entered is present
on_device : {config : Configuration} (st : Standing) (host : ℕ) (d : Directive) (t : TableView) (blocks : ℕ) → IsTiedAt config st host d t blocks
    → IsEnteredBy (entered_ranges (regions_on (device_by st.regions host d d.kind) st.regions)) t.presences
on_device st host d t blocks tied = subst (λ n. IsEnteredBy (entered_ranges (regions_on n st.regions)) t.presences) (subject_device st.lengths st.regions host d d.kind) tied.entered

-- each item of a region's end was entered
pub entered_in : {config : Configuration} (st : Standing) (host : ℕ) (d : Directive) (t : TableView) (blocks : ℕ) → IsTiedAt config st host d t blocks
    → AllEntered d.kind (holding t.presences blocks) (items_in st host d)
entered_in st host d t blocks tied = entered_subject st.lengths st.regions host d d.kind t.presences blocks (table_in st t blocks tied) (on_device st host d t blocks tied)

-- What the subject's device has, and that its marks are legal.
record IsSubject (st : Standing) (host : ℕ) (d : Directive) (t : TableView) (blocks : ℕ) : Type 0 where
  held : holding t.presences blocks ≡ holding_of (st.marks (device_in st host d))
  legal : AllLegal (st.marks (device_in st host d))
  entered : AllEntered d.kind (holding_of (st.marks (device_in st host d))) (items_in st host d)

is_subject : {config : Configuration} (st : Standing) (host : ℕ) (d : Directive) (t : TableView) (blocks : ℕ) → IsTiedAt config st host d t blocks → IsSubject st host d t blocks
is_subject st host d t blocks tied =
    let held : holding t.presences blocks ≡ holding_of (st.marks (device_in st host d)) =
    ap (λ ps. holding ps blocks) tied.presences ∙ ap (holding (presences (st.marks (device_in st host d)))) tied.opened in
    record { held = held; legal = tied.legal; entered = rw (← held) (entered_in st host d t blocks tied) }

-- the faults of the items, and then of the loop
abbrev items_faults : Configuration → Standing → ℕ → Directive → TableView → ℕ → Option Fault
items_faults config st host d t blocks =
    fault_or (first_fault_in config d.kind (holding t.presences blocks) (items_in st host d)) (past_fault (loop_in d.kind) (items_in st host d))

pub refused_by : (config : Configuration) (st : Standing) (host : ℕ) (d : Directive) (t : TableView) (blocks : ℕ) → IsTiedAt config st host d t blocks → st.closing ≡ false → d.device < config.devices
    → refusal config st host d ≡ fault_or (limit_in st host d) (items_faults config st host d t blocks)
refused_by config st host d t blocks tied early here =
    let s = subject_of st host d in
    let sub = is_subject st host d t blocks tied in
    refusal_is config st host d early here
    ∙ ap (λ f. fault_or (limit_in st host d) (fault_or f (past_fault (loop_in d.kind) s.items))) (faults_are config d.kind (st.marks s.device) s.items sub.legal sub.entered ∙ ap (λ h. first_fault_in config d.kind h s.items) (sym sub.held))

none_or : (a b : Option Fault) → fault_or a b ≡ None → a ≡ None
none_or None b h = refl
none_or (Some f) b h = absurd (cc)

-- ## A directive that isn't refused

-- its ranges have cells
pub all_cells : (capacity : ℕ) (k : Kind) (h : Holding) (items : List DataItem) → AllFine capacity k h items → All (λ (i : DataItem). 0 < i.range.len) items
all_cells capacity k h [] fine = All-nil (λ (i : DataItem). 0 < i.range.len)
all_cells capacity k h (i ∷ is) fine = All-cons (λ (i : DataItem). 0 < i.range.len) i is fine.0.cells (all_cells capacity k (holding_with k i h) is fine.1)

pub ends_all : (P : DataItem → Type 0) (k : Kind) (items : List DataItem) → All P items → All P (ends_of k items)
ends_all P (kind.Loop kernel) items all = all
ends_all P kind.Data items all = All-nil P
ends_all P kind.EndData items all = All-nil P
ends_all P kind.EnterData items all = All-nil P
ends_all P (kind.ExitData finalize) items all = All-nil P
ends_all P (kind.Update if_present) items all = All-nil P
ends_all P kind.Wait items all = All-nil P
ends_all P kind.AsyncTest items all = All-nil P
ends_all P kind.IsPresent items all = All-nil P

-- what is known of it
pub record IsFree (config : Configuration) (st : Standing) (host : ℕ) (d : Directive) (t : TableView) (blocks : ℕ) : Type 0 where
  pub here : d.device < config.devices
  pub within : IsWithin st.accepted (length (items_in st host d))
  pub faultless : first_fault_in config d.kind (holding t.presences blocks) (items_in st host d) ≡ None
  pub fine : AllFine config.capacity d.kind (holding t.presences blocks) (items_in st host d)
  pub held : AllHeldFor d.kind (holding_between d.kind (holding t.presences blocks) (items_in st host d)).presences (items_in st host d)
  pub ends_entered : AllEntered kind.EndData (holding_between d.kind (holding t.presences blocks) (items_in st host d)) (ends_of d.kind (items_in st host d))
  pub ends_cells : All (λ (i : DataItem). 0 < i.range.len) (ends_of d.kind (items_in st host d))
  pub ends_fine : AllFine config.capacity kind.EndData (holding_between d.kind (holding t.presences blocks) (items_in st host d)) (ends_of d.kind (items_in st host d))
  subject : IsSubject st host d t blocks

pub is_free : (config : Configuration) (st : Standing) (host : ℕ) (d : Directive) (t : TableView) (blocks : ℕ) → IsTiedAt config st host d t blocks
    → refusal config st host d ≡ None → IsFree config st host d t blocks
is_free config st host d t blocks tied accepted =
    let here = accepted_device config st host d accepted in
    let is = sym (refused_by config st host d t blocks tied (accepted_open config st host d accepted) here) ∙ accepted in
    let none = none_or (limit_in st host d) _ is in
    let items = items_in st host d in
    let within = is_within st.accepted st.regions host d (length items) none in
    let h = holding t.presences blocks in
    let faultless = none_or (first_fault_in config d.kind h items) _ (ap (λ f. fault_or f (items_faults config st host d t blocks)) (sym none) ∙ is) in
    let fine = all_fine config d.kind h items faultless in
    let table = table_in st t blocks tied in
    let entered = entered_ends config.capacity d.kind h items (entered_ranges (regions_on (device_in st host d) st.regions)) table fine tied.entered in
    let cells = ends_all (λ (i : DataItem). 0 < i.range.len) d.kind items (all_cells config.capacity d.kind h items fine) in
    record {
      here = here;
      within = within;
      faultless = faultless;
      fine = fine;
      held = held_between config.capacity d.kind h items (entered_ranges (regions_on (device_in st host d) st.regions)) table fine tied.entered;
      ends_entered = entered;
      ends_cells = cells;
      ends_fine = fine_left config.capacity (holding_between d.kind h items) (ends_of d.kind items) cells entered;
      subject = is_subject st host d t blocks tied;
    }

-- ## The batch

ends_are : (k : Kind) (items : List DataItem) → ends_by k items ≡ all_asked kind.EndData (ends_of k items)
ends_are (kind.Loop kernel) items = refl
ends_are kind.Data items = refl
ends_are kind.EndData items = refl
ends_are kind.EnterData items = refl
ends_are (kind.ExitData finalize) items = refl
ends_are (kind.Update if_present) items = refl
ends_are kind.Wait items = refl
ends_are kind.AsyncTest items = refl
ends_are kind.IsPresent items = refl

-- the two walks of a directive
record IsWalked (config : Configuration) (st : Standing) (host : ℕ) (d : Directive) (t : TableView) (blocks : ℕ) : Type 0 where
  first : IsWalk config.capacity d.kind (st.marks (device_in st host d)) (items_in st host d)
  between : holding_of (marks_after (st.marks (device_in st host d)) (all_asked d.kind (items_in st host d))) ≡ holding_between d.kind (holding t.presences blocks) (items_in st host d)
  later : IsWalk config.capacity kind.EndData (marks_after (st.marks (device_in st host d)) (all_asked d.kind (items_in st host d))) (ends_of d.kind (items_in st host d))

is_walked : (config : Configuration) (st : Standing) (host : ℕ) (d : Directive) (t : TableView) (blocks : ℕ) → IsFree config st host d t blocks → IsWalked config st host d t blocks
is_walked config st host d t blocks free =
    let s = subject_of st host d in
    let sub = free.subject in
    let ms = st.marks s.device in
    let fine : AllFine config.capacity d.kind (holding_of ms) s.items = rw (← sub.held) free.fine in
    let same : holding_of (marks_after ms (all_asked d.kind s.items)) ≡ holding_between d.kind (holding t.presences blocks) s.items =
    marks_are config.capacity d.kind ms s.items sub.legal sub.entered fine ∙ ap (λ h. holding_after_all d.kind h s.items) (sym sub.held) in
    record {
      first = record { allowed = sub.legal; entered = sub.entered; fine = fine };
      between = same;
      later =
          record {
            allowed = legal_all config.capacity d.kind ms s.items sub.legal sub.entered fine;
            entered = rw same free.ends_entered;
            fine = rw same free.ends_fine;
          };
    }

-- a data construct counts what its steps tell
counted_data : (capacity : ℕ) (k : Kind) (ms : List Mark) (items : List DataItem) → k ≡ kind.Data → IsWalk capacity k ms items → counted_among ms (all_asked k items) ≡ counted_steps (all_marked k (holding_of ms) items)
counted_data capacity k ms items is w = rw is (counted_are capacity ms items w.allowed (rw is at w.entered) (rw is at w.fine))

pub counted_marked : (config : Configuration) (st : Standing) (host : ℕ) (d : Directive) (t : TableView) (blocks : ℕ) → IsFree config st host d t blocks → d.kind ≡ kind.Data
    → items_counted st host d ≡ counted_steps (all_marked d.kind (holding t.presences blocks) (items_in st host d))
counted_marked config st host d t blocks free is =
    let walked = is_walked config st host d t blocks free in
    counted_is st host d
    ∙ (counted_data config.capacity d.kind (st.marks (device_in st host d)) (items_in st host d) is walked.first
    ∙ ap (λ h. counted_steps (all_marked d.kind h (items_in st host d))) (sym free.subject.held))

-- which has no ends
no_ends : (k : Kind) (h : Holding) (items : List DataItem) → k ≡ kind.Data → all_steps k h items ≡ all_marked k h items
no_ends k h items is = rw is (append-nil (all_marked kind.Data h items))

pub counted_stepped : (config : Configuration) (st : Standing) (host : ℕ) (d : Directive) (t : TableView) (blocks : ℕ) → IsFree config st host d t blocks → d.kind ≡ kind.Data
    → items_counted st host d ≡ counted_steps (all_steps d.kind (holding t.presences blocks) (items_in st host d))
counted_stepped config st host d t blocks free is =
    counted_marked config st host d t blocks free is ∙ ap counted_steps (sym (no_ends d.kind (holding t.presences blocks) (items_in st host d) is))

-- a loop uses what is present then
run_is : (k : Option Loop) (items : List DataItem) (marks : List Mark) → runs_by k items marks ≡ run_in k items (presences marks)
run_is None items marks = refl
run_is (Some k) items marks = refl

pub batch_is : (config : Configuration) (st : Standing) (host : ℕ) (d : Directive) (t : TableView) (blocks : ℕ) → IsTiedAt config st host d t blocks
    → IsFree config st host d t blocks
    → operations_of st (walk_of st host d)
    ≡ marked_ops (run_in (loop_in d.kind) (items_in st host d) (holding_between d.kind (holding t.presences blocks) (items_in st host d)).presences)
    (all_steps d.kind (holding t.presences blocks) (items_in st host d))
batch_is config st host d t blocks tied free =
    let s = subject_of st host d in
    let sub = free.subject in
    let ms = st.marks s.device in
    let between = marks_after ms (all_asked d.kind s.items) in
    let walked = is_walked config st host d t blocks free in
    let run : runs_by (loop_in d.kind) (map (λ (a : AskedItem). a.item) (all_asked d.kind s.items)) between ≡ run_in (loop_in d.kind) s.items (holding_between d.kind (holding t.presences blocks) s.items).presences =
    ap (λ is. runs_by (loop_in d.kind) is between) (items_asked d.kind s.items)
    ∙ (run_is (loop_in d.kind) s.items between ∙ ap (λ (h : Holding). run_in (loop_in d.kind) s.items h.presences) walked.between) in
    ap (λ (w : Walk). grouped (runs w (st.marks w.device)) (all_visits (st.marks w.device) w)) (walk_is st host d)
    ∙ (ap (λ r. grouped r (visits ms (all_asked d.kind s.items) ++ visits between (ends_by d.kind s.items))) run
    ∙ (ap (λ es. grouped (run_in (loop_in d.kind) s.items (holding_between d.kind (holding t.presences blocks) s.items).presences) (visits ms (all_asked d.kind s.items) ++ visits between es)) (ends_are d.kind s.items)
    ∙ (ops_are config.capacity d.kind kind.EndData ms s.items (ends_of d.kind s.items) _ walked.first walked.later
    ∙ ap (λ h. marked_ops (run_in (loop_in d.kind) s.items (holding_between d.kind (holding t.presences blocks) s.items).presences) (all_steps d.kind h s.items)) (sym sub.held))))

-- the blocks that its steps ended, each with the item's range
pub ended_is : (config : Configuration) (st : Standing) (host : ℕ) (d : Directive) (t : TableView) (blocks : ℕ) → IsTiedAt config st host d t blocks
    → IsFree config st host d t blocks
    → flat_map ended_uses (all_visits (st.marks (device_in st host d)) (walk_of st host d)) ≡ flat_map ended_range (all_steps d.kind (holding t.presences blocks) (items_in st host d))
ended_is config st host d t blocks tied free =
    let s = subject_of st host d in
    let ms = st.marks s.device in
    let between = marks_after ms (all_asked d.kind s.items) in
    let walked = is_walked config st host d t blocks free in
    ap (λ (w : Walk). flat_map ended_uses (all_visits ms w)) (walk_is st host d)
    ∙ (ap (λ es. flat_map ended_uses (visits ms (all_asked d.kind s.items) ++ visits between es)) (ends_are d.kind s.items)
    ∙ (ended_ranges_are config.capacity d.kind kind.EndData ms s.items (ends_of d.kind s.items) walked.first walked.later
    ∙ ap (λ h. flat_map ended_range (all_steps d.kind h s.items)) (sym free.subject.held)))

-- what its device has between its items and their ends
pub middle_is : (config : Configuration) (st : Standing) (host : ℕ) (d : Directive) (t : TableView) (blocks : ℕ) → IsTiedAt config st host d t blocks → refusal config st host d ≡ None
    → holding_of (marks_between (st.marks (device_in st host d)) (walk_of st host d)) ≡ holding_between d.kind (holding t.presences blocks) (items_in st host d)
unfolding walk_of
middle_is config st host d t blocks tied accepted = (is_walked config st host d t blocks (is_free config st host d t blocks tied accepted)).between

-- its walk, behind the accepted directives
pub walk_known : (config : Configuration) (history : List PlaceEntry) (counts : List ℕ) (host : ℕ) (d : Directive) (t : TableView) (blocks : ℕ) → AllAccepted config history counts
    → IsTiedAt config (standing config history counts) host d t blocks → refusal config (standing config history counts) host d ≡ None
    → IsWalkOf config (standing config history counts) (walk_of (standing config history counts) host d)
unfolding walk_of
walk_known config history counts host d t blocks all tied accepted =
    let st = standing config history counts in
    let w = is_walked config st host d t blocks (is_free config st host d t blocks tied accepted) in
    walked config history counts host d all accepted tied.legal w.later.allowed

-- ## Room

-- what judging so many items needs of the counters
pub low_for : {config : Configuration} {device : ℕ} (st : Standing) (t : TableView) (blocks n : ℕ) → IsTiedOn config st device t blocks → n ≤ 2 * MAX_ITEMS → AllLow COUNTER_LIMIT n t.presences
low_for st t blocks n tied short =
    AllLow-fewer (16 * st.accepted) COUNTER_LIMIT 0 n t.presences (omega (arith, tied.few)) tied.low

pub few_for : {config : Configuration} {device : ℕ} (st : Standing) (t : TableView) (blocks n : ℕ) → IsTiedOn config st device t blocks → n ≤ 2 * MAX_ITEMS → blocks + n ≤ COUNTER_LIMIT
few_for st t blocks n tied short = omega (arith, tied.few_blocks, tied.few)

-- and what marking them, and their ends, needs
pub room_for : {config : Configuration} {device : ℕ} (st : Standing) (t : TableView) (blocks n : ℕ) → IsTiedOn config st device t blocks → n ≤ 2 * MAX_ITEMS → length t.presences + 2 * MAX_ITEMS ≤ t.room → HasRoomFor n t blocks
room_for st t blocks n tied short room =
    record { room = omega arith; low = low_for st t blocks n tied short; few = few_for st t blocks n tied short }

pub length-ends : (k : Kind) (items : List DataItem) → length (ends_of k items) ≤ length items
length-ends (kind.Loop kernel) items = omega arith
length-ends kind.Data items = omega arith
length-ends kind.EndData items = omega arith
length-ends kind.EnterData items = omega arith
length-ends (kind.ExitData finalize) items = omega arith
length-ends (kind.Update if_present) items = omega arith
length-ends kind.Wait items = omega arith
length-ends kind.AsyncTest items = omega arith
length-ends kind.IsPresent items = omega arith

-- ## After an accepted directive

AllLow-all : (limit : ℕ) (k : Kind) (h : Holding) (items : List DataItem) → length items ≤ limit → AllLow limit (length items) h.presences → AllLow limit 0 (holding_after_all k h items).presences
unfolding holding_after
AllLow-all limit k h [] few low = low
AllLow-all limit k h (i ∷ is) few low =
    AllLow-all limit k (holding_with k i h) is (omega arith) (AllLow-by limit (length is) (h.opened + 1) (change_in k h.presences i) i.range h.presences (omega arith) low)

opened-all : (k : Kind) (h : Holding) (items : List DataItem) → (holding_after_all k h items).opened ≤ h.opened + length items
unfolding holding_after
opened-all k h [] = omega arith
opened-all k h (i ∷ is) =
    omega (arith, opened-all k (holding_with k i h) is, opened-most (opens_one (change_in k h.presences i) h.presences i.range) h.opened)

own_marks : (others : ℕ → List Mark) (ms : List Mark) (device : ℕ) → with_marks device ms others device ≡ ms
own_marks others ms device = rw (eq-eqb device device refl) refl

-- one label more, if the batch isn't empty
pub labels_after : (at_queue : QueueAt) (host items_done : ℕ) (labels : List Label) (ops : List OpLabel)
    → labels_with at_queue host items_done labels ops ≡ labels ++ option_to_list (label_for at_queue (next_number at_queue labels) host items_done ops)
labels_after at_queue host items_done labels [] = sym (append-nil labels)
labels_after at_queue host items_done labels (op ∷ ops) = refl

-- the label of the batch is on its queue
pub label_at : (P : QueueAt → Type 0) (at_queue : QueueAt) (number host items_done : ℕ) (ops : List OpLabel) → P at_queue → IfSome (label_for at_queue number host items_done ops) (λ l. P l.at)
label_at P at_queue number host items_done [] holds = tt
label_at P at_queue number host items_done (op ∷ ops) holds = holds

-- the table of the device where it acts
pub tied_after : (config : Configuration) (st : Standing) (d : Directive) (host items_done : ℕ) (t after : TableView) (blocks next : ℕ) → IsTiedAt config st host d t blocks → IsFree config st host d t blocks
    → holding after.presences next ≡ holding_behind d.kind (holding t.presences blocks) (items_in st host d) → after.capacity ≡ t.capacity
    → HasNotes (notes_on (device_in st host d) (after_directive st host items_done d).labels) after.notes → IsTiedOn config (after_directive st host items_done d) (device_in st host d) after next
tied_after config st d host items_done t after blocks next tied free is same noted =
    let s = subject_of st host d in
    let before = holding t.presences blocks in
    let ends = ends_of d.kind s.items in
    let down = kind.EndData in
    let mid = marks_after (st.marks s.device) (all_asked d.kind s.items) in
    let ms = marks_after mid (all_asked down ends) in
    let walked = is_walked config st host d t blocks free in
    let later = walked.later in
    let held : holding after.presences next ≡ holding_of ms =
    is ∙ (ap (λ h. holding_after_all down h ends) (sym walked.between) ∙ sym (marks_are config.capacity down mid ends later.allowed later.entered later.fine)) in
    let own : (after_directive st host items_done d).marks s.device ≡ ms =
    ap (λ (w : Walk). with_marks w.device (marks_behind (st.marks w.device) w) st.marks s.device) (walk_is st host d)
    ∙ (ap (λ es. with_marks s.device (marks_after mid es) st.marks s.device) (ends_are d.kind s.items) ∙ own_marks st.marks ms s.device) in
    let all = held ∙ ap holding_of (sym own) in
    let short = free.within.short in
    let low = AllLow-all (MAX_ITEMS * st.accepted + MAX_ITEMS) d.kind before s.items (omega (arith, short))
    (AllLow-fewer (MAX_ITEMS * st.accepted) (MAX_ITEMS * st.accepted + MAX_ITEMS) 0 (length s.items) t.presences (omega (arith, short)) tied.low) in
    let low2 : AllLow (MAX_ITEMS * st.accepted + MAX_ITEMS) 0 after.presences =
    rw (ap (λ (h : Holding). h.presences) is) (low_left (MAX_ITEMS * st.accepted + MAX_ITEMS) 0 (holding_between d.kind before s.items) ends low) in
    let device = subject_device st.lengths st.regions host d d.kind in
    record {
      capacity = same ∙ tied.capacity;
      presences = ap (λ (h : Holding). h.presences) all;
      noted = noted;
      legal = rw own (legal_all config.capacity down mid ends later.allowed later.entered later.fine);
      opened = ap (λ (h : Holding). h.opened) all;
      entered =
          rw (ap (λ (h : Holding). h.presences) is, device)
          (entered_after config.capacity st.lengths st.regions host d d.kind (items_counted st host d) t.presences blocks (table_in st t blocks tied) free.fine (counted_marked config st host d t blocks free) (on_device st host d t blocks tied));
      few = omega (arith, free.within.few);
      few_blocks = omega (arith, ap (λ (h : Holding). h.opened) is, opened_left (holding_between d.kind before s.items) ends, opened-all d.kind before s.items, short, tied.few_blocks);
      low = AllLow-fewer (MAX_ITEMS * st.accepted + MAX_ITEMS) (MAX_ITEMS * (st.accepted + 1)) 0 0 after.presences (omega arith) low2;
    }

pub noted_alike : (f g : Range → ℕ → Note) (ns : List Noted) → ((r : Range) (b : ℕ) → f r b ≡ g r b) → HasNotes f ns → HasNotes g ns
noted_alike f g [] same h = All-nil (λ (n : Noted). n.note ≡ g n.range n.block)
noted_alike f g (n ∷ ns) same h =
    All-cons (λ (k : Noted). k.note ≡ g k.range k.block) n ns (All-head (λ (k : Noted). k.note ≡ f k.range k.block) n ns h ∙ same n.range n.block)
    (noted_alike f g ns same (All-tail (λ (k : Noted). k.note ≡ f k.range k.block) n ns h))

-- and that of every other device
pub tied_beside : (config : Configuration) (st : Standing) (d : Directive) (host items_done device : ℕ) (t : TableView) (blocks : ℕ) → (device_in st host d ≡ device → ⊥) → st.accepted < MAX_DIRECTIVES
    → IsTiedOn config st device t blocks → IsTiedOn config (after_directive st host items_done d) device t blocks
tied_beside config st d host items_done device t blocks other few tied =
    let s = subject_of st host d in
    let away : (device == s.device) ≡ false = not_eqb device s.device (λ e. other (sym e)) in
    let beside : (s.device == device) ≡ false = not_eqb s.device device other in
    let same : (after_directive st host items_done d).marks device ≡ st.marks device =
    ap (λ (w : Walk). with_marks w.device (marks_behind (st.marks w.device) w) st.marks device) (walk_is st host d) ∙ rw away refl in
    let notes : (r : Range) (b : ℕ) → notes_on device (after_directive st host items_done d).labels r b ≡ notes_on device st.labels r b =
    λ r b. notes_beside st (walk_of st host d) host items_done device b (ap (λ (w : Walk). device == w.device) (walk_is st host d) ∙ away) in
    let regions = regions_beside st.regions host d d.kind (items_counted st host d) device (ap (λ n. n == device) (sym (subject_device st.lengths st.regions host d d.kind)) ∙ beside) in
    record {
      capacity = tied.capacity;
      presences = tied.presences ∙ ap presences (sym same);
      noted = noted_alike (notes_on device st.labels) (notes_on device (after_directive st host items_done d).labels) t.notes (λ r b. sym (notes r b)) tied.noted;
      legal = rw same tied.legal;
      opened = tied.opened ∙ ap (λ ms. length (opened_lifetimes ms)) (sym same);
      entered = rw regions tied.entered;
      few = omega (arith, few);
      few_blocks = omega (arith, tied.few_blocks);
      low = AllLow-fewer (MAX_ITEMS * st.accepted) (MAX_ITEMS * (st.accepted + 1)) 0 0 t.presences (omega arith) tied.low;
    }
  where
    not_eqb : (a b : ℕ) → (a ≡ b → ⊥) → (a == b) ≡ false
    not_eqb a b differ = elim (eqb_tells a b) [ inl one ↦ absurd (differ one.1) | inr two ↦ two.0 ]
