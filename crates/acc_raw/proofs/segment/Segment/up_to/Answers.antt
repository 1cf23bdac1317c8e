use Rattle.std.proofs.Common.{◌≡◌, sym, subst, leb, leb-true, leb-false, rules, arith}
use Rattle.std.proofs.lemmas.List.Sorted.{IsPartitionPoint-from_clause, IsPartitionedBy-leb}
use Rattle.acc_raw.specs.inner.Segments.{Ascend, up_to}
use Rattle.acc_raw.proofs.Searching.{counted}
use Rattle.acc_raw.proofs.segment.Segment.up_to.Goals as goal

pub returns-clause-count : goal.returns-clause-count
returns-clause-count c =
    let xs = c.as_slice.result.now in let n = c.partition_point.result in let key = c.args.key in
    let same : xs ≡ c.args.self.now.seats.items = c.as_slice.ensures.value in
    let parted = IsPartitionedBy-leb (λ s. s.key) xs key (subst Ascend (sym same) c.requires) in
    let point = IsPartitionPoint-from_clause (λ s. leb s.key key) xs n c.partition_point.ensures.partitioned parted (λ a r q k. search rules) in
    subst (λ l. n ≡ up_to key l) same
    (counted key xs n c.partition_point.ensures.bound (λ k d lt. leb-true _ key (point.0 k d (omega arith) lt)) (λ d lt. leb-false _ key (point.1 n d (omega arith) lt)))
