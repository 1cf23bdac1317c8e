-- The notes of a device, where the walk of an accepted directive is planned and accepted: what it awaits, what is noted of
-- it, and which blocks have no note.
use Rattle.std.proofs.Common.{inl, inr, ◌≡◌, ℕ, zero, suc, ◌+◌, ◌<◌, ◌≤◌, Bool, true, false, List, [], ◌∷◌, ◌++◌, length, map, refl, sym, ap, ◌∙◌, arith}
use Rattle.std.specs.Prelude.{All, Contains, max, ◌==◌}
use Rattle.std.specs.List.{flat_map}
use Rattle.std.proofs.lemmas.Bool.{eq-eqb, ne_eqb}
use Rattle.std.proofs.lemmas.List.Elements.{All-nil, All-cons, All-head, All-tail, All-contains}
use Rattle.acc_base.specs.declared.ids.TheConstants.{QUEUES}
use Rattle.acc_base.specs.declared.ids.QueueAt.{QueueAt}
use Rattle.acc_base.specs.declared.range.Range.{Range}
use Rattle.acc_base.specs.Configurations.{Configuration}
use Rattle.acc_base.specs.Queues.{every_queue, numbers_from}
use Rattle.acc_base.proofs.EachQueue.{same_each}
use Rattle.acc_base.proofs.Members.{member_first, member_rest}
use Rattle.acc_batch.specs.declared.label.Label.{Label}
use Rattle.acc_batch.specs.declared.label.OpLabel.{OpLabel}
use Rattle.acc_batch.specs.Awaits.{await_of, number_awaited, with_awaits, behind_awaits}
use Rattle.acc_batch.specs.Labels.{used_blocks, released_blocks, has_number, greatest}
use Rattle.acc_present.specs.Lifetimes.{Lifetime, opened_lifetimes}
use Rattle.acc_present.specs.Marks.{Mark}
use Rattle.acc_present.specs.Notes.{Note, Noted, HasNotes}
use Rattle.acc_present.specs.Presences.{Presence, presences}
use Rattle.acc_place.specs.Directives.{Directive}
use Rattle.acc_place.specs.Batches.{operations_of, batch_of, walk_at, next_number, labels_with, count_of}
use Rattle.acc_place.specs.inner.Devices.{AreFresh}
use Rattle.acc_place.specs.Histories.{after_walk}
use Rattle.acc_place.specs.inner.Noting.{awaits_from, notes_on, noted_ranges, used_ranges, note_found, made_at, used_at, last_made, last_used, noted_by}
use Rattle.acc_place.specs.BlockNotes.{note_of}
use Rattle.acc_place.specs.Standings.{Standing, AskedItem, Walk, all_visits, marks_between, marks_behind}
use Rattle.acc_place.proofs.HeldAndMade.{one_maker}
use Rattle.acc_place.proofs.ExitWalks.{AllLeave, none_opened}
use Rattle.acc_place.proofs.NoteFound.{IsWalked, IsUse, HasCells, visits_use, operations_use, all_noted, all_used, all_ended, found_is, by_blocks, used_are, ended_are, released_are}
use Rattle.acc_place.proofs.BatchNotes.{batch_notes, noted_follows}
use Rattle.acc_place.proofs.NoteOf.{note_beside, note_fresh, notes_tell}
use Rattle.acc_place.proofs.LabelsSound.{Sound, labelled_cases, sound_more, touched_low}
use Rattle.acc_place.proofs.VisitLives.{ended_uses}
use Rattle.acc_place.proofs.HeldInWalk.{Turns, enters, leaves, middle}

-- What a walk awaits of a queue is read off what is noted, before it, of the ranges that it uses and ends.
pub numbers_are : (config : Configuration) (st : Standing) (walk : Walk) → IsWalked config st walk → (q : ℕ) → q < QUEUES
    → max (count_of st.labels walk.device walk.waits q)
    (max (last_made (note_found (notes_on walk.device st.labels) (presences (st.marks walk.device))) (flat_map used_ranges (operations_of st walk)) q)
    (last_used (note_found (notes_on walk.device st.labels) (presences (st.marks walk.device))) (flat_map ended_uses (all_visits (st.marks walk.device) walk)) q))
    ≡ number_awaited walk.waits (walk_at walk) st.labels (flat_map used_blocks (operations_of st walk)) (flat_map released_blocks (operations_of st walk)) q
numbers_are config st walk w q low =
    let ms = st.marks walk.device in
    let vs = all_visits ms walk in
    let ops = operations_of st walk in
    let at = middle walk w.turns ms in
    let found = note_found (notes_on walk.device st.labels) (presences ms) in
    let note = note_of walk.device st.labels in
    let used = all_used (IsUse at) ops (operations_use config st walk w) in
    let ended = all_ended (IsUse at) vs (visits_use config st walk w) in
    let released = ended_are vs ∙ sym (released_are walk.runs (map (λ (a : AskedItem). a.item) walk.items) (marks_between ms walk) vs) in
    let first = by_blocks (made_at q) found note (flat_map used_ranges ops) (λ u c. found_is config st walk w u (All-contains (IsUse at) (flat_map used_ranges ops) u used c))
    ∙ ap (λ bs. map (made_at q) (map note bs)) (used_are ops) in
    let second = by_blocks (used_at q) found note (flat_map ended_uses vs) (λ u c. found_is config st walk w u (All-contains (IsUse at) (flat_map ended_uses vs) u ended c))
    ∙ ap (λ bs. map (used_at q) (map note bs)) released in
    let tell = notes_tell walk.device st.labels (has_number walk.waits q) (flat_map used_blocks ops) (flat_map released_blocks ops) q low (λ b c. one_maker config.arrays [] walk.device st.labels b (w.sound.use_live walk.device)) in
    rw (ap greatest first, ap greatest second) (sym tell)

awaits_flat : (own : ℕ) (f : ℕ → ℕ) (first count : ℕ) → awaits_from own first (map f (numbers_from first count)) ≡ flat_map (λ q. await_of own q (f q)) (numbers_from first count)
awaits_flat own f first zero = refl
awaits_flat own f first (suc count) = ap (λ ops. await_of own first (f first) ++ ops) (awaits_flat own f (first + 1) count)

-- the operations behind these numbers' awaits, where they are those that a walk awaits
awaits_are : (alone : Bool) (named : List ℕ) (own : QueueAt) (labels : List Label) (ops : List OpLabel) (numbers : ℕ → ℕ)
    → ((q : ℕ) → q < QUEUES → numbers q ≡ number_awaited named own labels (flat_map used_blocks ops) (flat_map released_blocks ops) q)
    → with_awaits alone (awaits_from own.queue 0 (map numbers every_queue)) ops ≡ behind_awaits alone named own labels ops
awaits_are alone named own labels ops numbers h =
    let awaited = number_awaited named own labels (flat_map used_blocks ops) (flat_map released_blocks ops) in
    ap (λ before. with_awaits alone before ops) (ap (awaits_from own.queue 0) (same_each numbers awaited h) ∙ awaits_flat own.queue awaited 0 QUEUES)

-- So its batch is its operations behind the awaits of these numbers.
pub batch_planned : (config : Configuration) (st : Standing) (walk : Walk) → IsWalked config st walk → (numbers : ℕ → ℕ)
    → ((q : ℕ) → q < QUEUES → numbers q
    ≡ max (count_of st.labels walk.device walk.waits q)
    (max (last_made (note_found (notes_on walk.device st.labels) (presences (st.marks walk.device))) (flat_map used_ranges (operations_of st walk)) q)
    (last_used (note_found (notes_on walk.device st.labels) (presences (st.marks walk.device))) (flat_map ended_uses (all_visits (st.marks walk.device) walk)) q)))
    → with_awaits walk.alone (awaits_from walk.queue 0 (map numbers every_queue)) (operations_of st walk) ≡ batch_of st walk
unfolding batch_of
batch_planned config st walk w numbers h =
    awaits_are walk.alone walk.waits (walk_at walk) st.labels (operations_of st walk) numbers (λ q low. h q low ∙ numbers_are config st walk w q low)

-- All that its batch makes or uses has cells.
pub noted_cells : (config : Configuration) (st : Standing) (walk : Walk) → IsWalked config st walk → All (λ u. 0 < u.1.len) (flat_map noted_ranges (batch_of st walk))
noted_cells config st walk w = all_noted HasCells (batch_of st walk) (batch_notes HasCells config st walk w (λ u h. h.0))

-- where present ranges have the same notes by the two, what has the notes of one has those of the other
other_notes : (f g : Range → ℕ → Note) (ns : List Noted) (ps : List Presence) → map {B = Range × ℕ} (λ (n : Noted). (n.range, n.block)) ns ≡ map {B = Range × ℕ} (λ (p : Presence). (p.range, p.block)) ps
    → ((p : Presence) → Contains ps p → f p.range p.block ≡ g p.range p.block) → HasNotes f ns → HasNotes g ns
other_notes f g [] ps e same h = All-nil (λ (n : Noted). n.note ≡ g n.range n.block)
other_notes f g (n ∷ ns) [] e same h = absurd (cc)
other_notes f g (n ∷ ns) (p ∷ ps) e same h =
    let here_n : Range × ℕ = (n.range, n.block) in
    let here_p : Range × ℕ = (p.range, p.block) in
    let first : here_n ≡ here_p = cc in
    let rest : map {B = Range × ℕ} (λ (k : Noted). (k.range, k.block)) ns ≡ map {B = Range × ℕ} (λ (k : Presence). (k.range, k.block)) ps = cc in
    let here : f n.range n.block ≡ g n.range n.block = ap (λ (z : Range × ℕ). f z.0 z.1) first ∙ (same p (member_first p ps) ∙ sym (ap (λ (z : Range × ℕ). g z.0 z.1) first)) in
    All-cons (λ (k : Noted). k.note ≡ g k.range k.block) n ns (All-head (λ (k : Noted). k.note ≡ f k.range k.block) n ns h ∙ here)
    (other_notes f g ns ps rest (λ k c. same k (member_rest k p ps c)) (All-tail (λ (k : Noted). k.note ≡ f k.range k.block) n ns h))

-- Once the batch is noted between its items and its ends, the notes are those of the longer labels.
pub notes_after : (config : Configuration) (st : Standing) (walk : Walk) → IsWalked config st walk → (host items_done : ℕ) (ns : List Noted)
    → map {B = Range × ℕ} (λ (n : Noted). (n.range, n.block)) ns ≡ map {B = Range × ℕ} (λ (p : Presence). (p.range, p.block)) (presences (marks_between (st.marks walk.device) walk))
    → HasNotes (noted_by walk.queue (next_number (walk_at walk) st.labels) (batch_of st walk) (notes_on walk.device st.labels)) ns
    → HasNotes (notes_on walk.device (labels_with (walk_at walk) host items_done st.labels (batch_of st walk))) ns
notes_after config st walk w host items_done ns e h =
    other_notes (noted_by walk.queue (next_number (walk_at walk) st.labels) (batch_of st walk) (notes_on walk.device st.labels)) (notes_on walk.device (labels_with (walk_at walk) host items_done st.labels (batch_of st walk)))
    ns (presences (marks_between (st.marks walk.device) walk)) e (noted_follows config st walk w host items_done) h

-- A walk changes no note of another device.
pub notes_beside : (st : Standing) (walk : Walk) (host items_done device b : ℕ) → (device == walk.device) ≡ false
    → note_of device (labels_with (walk_at walk) host items_done st.labels (batch_of st walk)) b ≡ note_of device st.labels b
notes_beside st walk host items_done device b away = elim (labelled_cases (walk_at walk) host items_done st.labels (batch_of st walk)) [
  | inl none ↦ rw none.1 refl
  | inr one ↦ rw one (note_beside device st.labels _ b (turned away))
]
  where
    turned : (device == walk.device) ≡ false → (walk.device == device) ≡ false
    turned e = ne_eqb walk.device device (λ same. (let wrong : true ≡ false = sym (eq-eqb device walk.device (sym same)) ∙ e in cc))

-- No block above those that were opened has a note.
fresh_on : (config : Configuration) (st : Standing) → Sound config st → (device n : ℕ) → length (opened_lifetimes (st.marks device)) ≤ n → AreFresh (notes_on device st.labels) n
fresh_on config st sound device n low = λ r b late. note_fresh device st.labels b (λ m c here. touched_low config st sound device m c here b (omega (arith, low, late)))

-- So it is before a walk,
pub fresh_before : (config : Configuration) (st : Standing) (walk : Walk) → IsWalked config st walk → (n : ℕ) → length (opened_lifetimes (st.marks walk.device)) ≤ n → AreFresh (notes_on walk.device st.labels) n
fresh_before config st walk w n low = fresh_on config st w.sound walk.device n low

-- and once its batch has its label.
pub fresh_after : (config : Configuration) (st : Standing) (walk : Walk) → IsWalked config st walk → (host items_done : ℕ) (d : Directive) (n : ℕ) → length (opened_lifetimes (marks_between (st.marks walk.device) walk)) ≤ n
    → AreFresh (notes_on walk.device (labels_with (walk_at walk) host items_done st.labels (batch_of st walk))) n
fresh_after config st walk w host items_done d n low =
    let after = after_walk st host items_done d walk in
    let ms = st.marks walk.device in
    let same : after.marks walk.device ≡ marks_behind ms walk = rw (eq-eqb walk.device walk.device refl) refl in
    let behind = none_opened walk.ends (marks_between ms walk) (ends_leave w.turns) in
    fresh_on config after (sound_more config st host items_done d walk w.sound w.inside w.queue) walk.device n
    (omega (arith, low, ap (λ (k : List Mark). length (opened_lifetimes k)) same, ap (λ (ls : List Lifetime). length ls) behind))
  where
    ends_leave : Turns walk → AllLeave walk.ends
    ends_leave (enters i e) = e
    ends_leave (leaves i e) = e
