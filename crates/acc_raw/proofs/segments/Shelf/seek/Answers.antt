use Rattle.std.proofs.Common.{◌≡◌, refl, sym, subst, length, true, false, leb, rules, arith}
use Rattle.std.specs.List.Sorted.{IsNonDecreasingBy, IsPartitionPoint}
use Rattle.std.proofs.lemmas.List.Sorted.{IsPartitionPoint-from_clause, IsPartitionedBy-leb}
use Rattle.std.proofs.lemmas.Option.{slice_get_read}
use Rattle.acc_raw.specs.declared.segment.Segment.{Segment}
use Rattle.acc_raw.proofs.Searching.{firsts_rise, own_ascend, sought}
use Rattle.acc_raw.proofs.segments.Shelf.seek.Goals as goal

pub up_to-at-requires : goal.up_to-at-requires
up_to-at-requires c =
    let ss = c.args.self.now.filled.items in let i = c.saturating_sub-segment.result in
    let there = slice_get_read ss (length ss) i c.index.result.now refl (omega (arith, c.requires.some, c.saturating_sub-segment.ensures, c.partition_point.ensures.bound, c.as_slice.ensures.len, c.args.self.now.filled.ok.0)) c.index.ensures in
    own_ascend ss i c.index.result.now there c.requires.ascend

pub returns-then-is_near-clause-spot : goal.returns-then-is_near-clause-spot
returns-then-is_near-clause-spot c = c.is_near.ensures.spot c.if-is_near.true

pub returns-clause-spot : goal.returns-clause-spot
returns-clause-spot c =
    let ss = c.args.self.now.filled.items in let i = c.saturating_sub-segment.result in
    record {
      own = c.index.result.now;
      there = slice_get_read ss (length ss) i c.index.result.now refl (omega (arith, c.requires.some, c.saturating_sub-segment.ensures, c.partition_point.ensures.bound, c.as_slice.ensures.len, c.args.self.now.filled.ok.0)) c.index.ensures;
      within = c.up_to-at.ensures.within;
    }

pub returns-clause-number : goal.returns-clause-number
returns-clause-number c =
    let ss = c.args.self.now.filled.items in let xs = c.as_slice.result.now in let n = c.partition_point.result in let i = c.saturating_sub-segment.result in let key = c.args.key in let own = c.index.result.now in
    let parted = IsPartitionedBy-leb (λ (s : Segment). s.first) xs key (subst (λ l. IsNonDecreasingBy (λ (s : Segment). s.first) l) (sym c.as_slice.ensures.value) (firsts_rise ss c.requires.filled c.requires.ascend)) in
    let point = IsPartitionPoint-from_clause (λ s. leb s.first key) xs n c.partition_point.ensures.partitioned parted (λ a r q k. search rules) in
    let there = slice_get_read ss (length ss) i own refl (omega (arith, c.requires.some, c.saturating_sub-segment.ensures, c.partition_point.ensures.bound, c.as_slice.ensures.len, c.args.self.now.filled.ok.0)) c.index.ensures in
    (sought ss n i c.up_to-at.result key own c.requires.filled c.requires.ascend (subst (λ l. IsPartitionPoint (λ s. leb s.first key ≡ true) (λ s. leb s.first key ≡ false) l n) c.as_slice.ensures.value point)
    c.saturating_sub-segment.ensures there c.up_to-at.ensures.within c.up_to-at.ensures.count).0

pub returns-clause-first : goal.returns-clause-first
returns-clause-first c =
    let ss = c.args.self.now.filled.items in let xs = c.as_slice.result.now in let n = c.partition_point.result in let i = c.saturating_sub-segment.result in let key = c.args.key in let own = c.index.result.now in
    let parted = IsPartitionedBy-leb (λ (s : Segment). s.first) xs key (subst (λ l. IsNonDecreasingBy (λ (s : Segment). s.first) l) (sym c.as_slice.ensures.value) (firsts_rise ss c.requires.filled c.requires.ascend)) in
    let point = IsPartitionPoint-from_clause (λ s. leb s.first key) xs n c.partition_point.ensures.partitioned parted (λ a r q k. search rules) in
    let there = slice_get_read ss (length ss) i own refl (omega (arith, c.requires.some, c.saturating_sub-segment.ensures, c.partition_point.ensures.bound, c.as_slice.ensures.len, c.args.self.now.filled.ok.0)) c.index.ensures in
    (sought ss n i c.up_to-at.result key own c.requires.filled c.requires.ascend (subst (λ l. IsPartitionPoint (λ s. leb s.first key ≡ true) (λ s. leb s.first key ≡ false) l n) c.as_slice.ensures.value point)
    c.saturating_sub-segment.ensures there c.up_to-at.ensures.within c.up_to-at.ensures.count).1
