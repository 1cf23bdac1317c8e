-- What the entry of a data construct adds to the counters, its end takes back, and nothing else.
use Rattle.std.proofs.Common.{inl, inr, ◌≡◌, ℕ, ◌+◌, false, true, List, [], ◌∷◌, map, Some, refl, sym, ap, subst, ◌∙◌, arith}
use Rattle.std.specs.Prelude.{Contains, drop, slice_index_or}
use Rattle.std.proofs.lemmas.Bool.{cases_Bool, eq-eqb}
use Rattle.std.proofs.lemmas.List.Elements.{All-contains, All-nil}
use Rattle.acc_base.specs.declared.range.Range.{Range}
use Rattle.acc_base.specs.Configurations.{Configuration}
use Rattle.acc_base.specs.Ranges.{range_contains}
use Rattle.acc_base.proofs.Members.{member_image}
use Rattle.acc_batch.proofs.OrderedBatches.{filter_member}
use Rattle.acc_present.specs.declared.change.Change.TheVariants.{StructuredDown}
use Rattle.acc_present.specs.Marks.{Mark}
use Rattle.acc_present.specs.Presences.{Presence, presences}
use Rattle.acc_present.specs.Tables.{TableView, has_count, is_table, kept_after, presence_after}
use Rattle.acc_present.proofs.KeptAfter.{counted_at}
use Rattle.acc_place.specs.Directives.{Directive}
use Rattle.acc_place.specs.declared.directive.DataItem.{DataItem}
use Rattle.acc_place.specs.declared.directive.Kind.{Kind}
use Rattle.acc_place.specs.declared.directive.Kind.TheVariants.{Data, EndData}
use Rattle.acc_place.specs.declared.directive.PlaceEntry.{PlaceEntry}
use Rattle.acc_place.specs.declared.directive.PlaceEntry.TheVariants.{Accepted}
use Rattle.acc_place.specs.declared.directive.Region.{Region}
use Rattle.acc_place.specs.Counters.{EndsTakeBack, EntriesAdd, OthersAreKept, count_inside, entered_ranges, ranges_in}
use Rattle.acc_place.specs.Histories.{AllAccepted, after_directive, standing}
use Rattle.acc_place.specs.Regions.{open_region, region_of, regions_after, regions_on, without_open}
use Rattle.acc_place.specs.Standings.{subject_left, subject_by}
use Rattle.acc_place.specs.inner.Judging.{Holding, holding, holding_after, holding_after_all, holding_behind, mark_by, AllFine}
use Rattle.acc_place.proofs.AcceptedDirective.{device_in, is_free, items_in, table_in, tied_after}
use Rattle.acc_place.proofs.DirectivesCounted.{accepted_counted, tables}
use Rattle.acc_place.proofs.EnteredRanges.{count-append, count-hit, count-miss, open_counts, table_by}
use Rattle.acc_place.proofs.RegionsOn.{open_on, without_on}

-- ## Counts

counted_in : (config : Configuration) (history : List PlaceEntry) (counts : List ℕ) (device : ℕ) (p : Presence) → AllAccepted config history counts
    → Contains (presences ((standing config history counts).marks device)) p → p.s ≡ count_inside p.range (entered_ranges (regions_on device (standing config history counts).regions))
counted_in config history counts device p all here =
    let st = standing config history counts in
    All-contains (λ (x : Presence). x.s ≡ count_inside x.range (entered_ranges (regions_on device st.regions))) (presences (st.marks device)) p
    (accepted_counted config history counts device all).entered.counted here

-- the region that an entry opens is the first
first_data : (host : ℕ) (d : Directive) (counted : List DataItem) (rs : List Region) (r : Region) → open_region host (region_of host d counted ∷ rs) ≡ Some r → region_of host d counted ∷ rs ≡ r ∷ rs
first_data host d counted rs r some =
    let same : Some (region_of host d counted) ≡ Some r = rw (eq-eqb host host refl) at some in
    let e : region_of host d counted ≡ r = cc in
    ap (λ x. x ∷ rs) e

opened_first : (host : ℕ) (d : Directive) (k : Kind) (counted : List DataItem) (rs : List Region) (r : Region) → k ≡ Data → open_region host (regions_after host d k counted rs) ≡ Some r
    → regions_after host d k counted rs ≡ r ∷ rs
opened_first host d k counted rs r is some = rw is (first_data host d counted rs r (rw is at some))

left_others : (host : ℕ) (d : Directive) (k : Kind) (counted : List DataItem) (rs : List Region) → k ≡ EndData → regions_after host d k counted rs ≡ without_open host rs
left_others host d k counted rs is = rw is refl

-- of a region on a device, and of the others there
count_first : (r : Region) (rs : List Region) (whole : Range) → count_inside whole (entered_ranges (regions_on r.device (r ∷ rs))) ≡ count_inside whole (ranges_in r) + count_inside whole (entered_ranges (regions_on r.device rs))
count_first r rs whole = rw (eq-eqb r.device r.device refl) (count-append whole (ranges_in r) (entered_ranges (regions_on r.device rs)))

count_open : (host : ℕ) (r : Region) (rs : List Region) (whole : Range) → open_region host rs ≡ Some r
    → count_inside whole (entered_ranges (regions_on r.device rs)) ≡ count_inside whole (ranges_in r) + count_inside whole (entered_ranges (regions_on r.device (without_open host rs)))
count_open host r rs whole some =
    let here = eq-eqb r.device r.device refl in
    let on = regions_on r.device rs in
    open_counts whole host on r (open_on r.device host rs r some here)
    ∙ (count-append whole (ranges_in r) (entered_ranges (without_open host on))
    ∙ ap (λ others. count_inside whole (ranges_in r) + count_inside whole (entered_ranges others)) (without_on r.device host rs r some here))

-- two counts of the same range
differ : (fewer more inside others whole : ℕ) → fewer ≡ others → more ≡ whole → whole ≡ inside + others → more ≡ fewer + inside
differ fewer more inside others whole a b c = omega (arith, a, b, c)

pub entries_add : EntriesAdd
unfolding standing
entries_add config history counts host d r all is_data some = λ p q before after same.
    let st = standing config history (drop 1 counts) in
    let now = standing config (Accepted host d ∷ history) counts in
    let opened = opened_first host d d.kind _ st.regions r is_data some in
    let had = counted_in config history (drop 1 counts) r.device p all.1 before in
    let has = counted_in config (Accepted host d ∷ history) counts r.device q all after in
    differ p.s q.s (count_inside p.range (ranges_in r)) _ _ had
    (has ∙ (ap (λ whole. count_inside whole (entered_ranges (regions_on r.device now.regions))) (sym same) ∙ ap (λ rs. count_inside p.range (entered_ranges (regions_on r.device rs))) opened))
    (count_first r st.regions p.range)

pub ends_take_back : EndsTakeBack
unfolding standing
ends_take_back config history counts host d r all is_end some = λ p q after before same.
    let st = standing config history (drop 1 counts) in
    let left = left_others host d d.kind _ st.regions is_end in
    let had = counted_in config history (drop 1 counts) r.device q all.1 before in
    let has = counted_in config (Accepted host d ∷ history) counts r.device p all after in
    differ p.s q.s (count_inside p.range (ranges_in r)) _ _
    (has ∙ ap (λ rs. count_inside p.range (entered_ranges (regions_on r.device rs))) left)
    (had ∙ ap (λ whole. count_inside whole (entered_ranges (regions_on r.device st.regions))) (sym same))
    (count_open host r st.regions p.range some)

-- ## What an end doesn't touch

kept_one : (m : Mark) (ps : List Presence) (p : Presence) → is_table ps ≡ true → Contains ps p → range_contains p.range m.range ≡ false → Contains (kept_after m ps) p
kept_one m ps p t here miss =
    let stays : presence_after m p ≡ p = rw miss refl in
    let there = subst (Contains (map (presence_after m) ps)) stays (member_image (presence_after m) ps p here) in
    filter_member has_count (map (presence_after m) ps) p (counted_at ps here.0 p t here.1 (sym here.2)) there

kept_all : (capacity : ℕ) (h : Holding) (items : List DataItem) (p : Presence) → is_table h.presences ≡ true → AllFine capacity EndData h items → Contains h.presences p
    → count_inside p.range (map (λ (i : DataItem). i.range) items) ≡ 0 → Contains (holding_after_all EndData h items).presences p
unfolding holding_after
kept_all capacity h [] p t fine here none = here
kept_all capacity h (i ∷ is) p t fine here none =
    let others = map (λ (k : DataItem). k.range) is in
    elim (cases_Bool (range_contains p.range i.range)) [
      | inl hit ↦ absurd (omega (arith, none, count-hit p.range i.range others hit))
      | inr miss ↦
          kept_all capacity (holding_after (Some StructuredDown) i.range h) is p (table_by capacity (Some StructuredDown) h.presences i.range (h.opened + 1) t fine.0) fine.1
          (kept_one (mark_by StructuredDown i.range) h.presences p t here miss) (sym (count-miss p.range i.range others miss) ∙ none)
    ]

kept_by : (capacity : ℕ) (k : Kind) (h : Holding) (items : List DataItem) (p : Presence) → k ≡ EndData → is_table h.presences ≡ true → AllFine capacity k h items → Contains h.presences p
    → count_inside p.range (map (λ (i : DataItem). i.range) items) ≡ 0 → Contains (holding_behind k h items).presences p
kept_by capacity k h items p is t fine here none = rw is (kept_all capacity h items p t (rw is at fine) here none)

pub others_kept : OthersAreKept
unfolding standing
others_kept config history counts host d r p all is_end some here none =
    let st = standing config history (drop 1 counts) in
    let h = tables config history (drop 1 counts) (device_in st host d) all.1 in
    let free = is_free config st host d h.table h.blocks h.tied all.0 in
    let next = holding_behind d.kind (holding h.table.presences h.blocks) (items_in st host d) in
    let after : TableView = record { presences = next.presences; notes = []; capacity = h.table.capacity; room = 0 } in
    let own = tied_after config st d host (slice_index_or counts 0 0) h.table after h.blocks next.opened h.tied free refl refl (All-nil _) in
    let device : device_in st host d ≡ r.device = ap (λ k. (subject_by st.lengths st.regions host d k).device) is_end ∙ ap (λ o. (subject_left d o).device) some in
    let items : items_in st host d ≡ r.items = ap (λ k. (subject_by st.lengths st.regions host d k).items) is_end ∙ ap (λ o. (subject_left d o).items) some in
    let there : Contains h.table.presences p = rw (h.tied.presences, device) here in
    let beside : count_inside p.range (map (λ (i : DataItem). i.range) (items_in st host d)) ≡ 0 = rw items none in
    let kept = kept_by config.capacity d.kind (holding h.table.presences h.blocks) (items_in st host d) p is_end (table_in st h.table h.blocks h.tied) free.fine there beside in
    subst (λ n. Contains (presences ((after_directive st host (slice_index_or counts 0 0) d).marks n)) p) device (rw (← own.presences) kept)
