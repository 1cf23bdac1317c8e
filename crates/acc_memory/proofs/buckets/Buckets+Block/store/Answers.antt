use Rattle.std.proofs.Common.{◌≡◌, ◌-◌, length, Some, None, set, refl, sym, ◌∙◌, arith}
use Rattle.std.specs.Option.{option_map}
use Rattle.acc_memory.specs.Memories.{Row, find_row}
use Rattle.acc_memory.specs.inner.Buckets.{in_all}
use Rattle.acc_memory.specs.inner.Rows.{HasRoom, number_of, stored}
use Rattle.acc_memory.proofs.ByNumber.{kept_set, place_of, written_once, written_set}
use Rattle.acc_memory.proofs.Spread.{IsChanged, bucket_changed, find_past, own_bucket}
use Rattle.acc_memory.proofs.buckets.Buckets+Block.store.Goals as goal

pub returns-then-bucket-len : goal.returns-then-bucket-len
returns-then-bucket-len c =
    let chains = c.self.inside.chains.items in
    let none : find_row (in_all chains) c.args.number ≡ None =
    find_past number_of c.self.inside.last chains c.args.number c.self.invariant.0 (omega (arith, c.if-bucket-len.true, c.len.ensures, c.bucket_of-bucket.ensures.bucket)) in
    rw (← c.self.view_is, none) (kept_set number_of (in_all chains) c.args.number None none)

pub returns-in-None : goal.returns-in-None
returns-in-None c =
    let chains = c.self.inside.chains.items in
    let before = c.index_mut-chain.result.now in
    let n = c.args.number in
    let own = own_bucket number_of c.self.inside.last chains c.bucket_of-bucket.result n before c.self.invariant.0 (omega (arith, c.if-bucket-len.false, c.len.ensures)) c.bucket_of-bucket.ensures.bucket c.index_mut-chain.ensures.value in
    let none : find_row c.index_mut-chain.result.now c.args.number ≡ None = sym c.in-None.ensures.value in
    let same : find_row (in_all c.self.inside.chains.items) c.args.number ≡ None = sym own.finds ∙ none in
    rw (← c.self.view_is, same)
    (bucket_changed number_of c.self.inside.last chains c.bucket_of-bucket.result n None before before c.self.invariant.0 (omega (arith, c.if-bucket-len.false, c.len.ensures)) c.bucket_of-bucket.ensures.bucket c.index_mut-chain.ensures.value own.once (kept_set number_of before n None none)).is_set

room : (c : goal.After-row_known-1) → HasRoom c.in-Some.held.now c.args.first (length c.args.values.now)
room c =
    let own = own_bucket number_of c.self.inside.last c.self.inside.chains.items c.bucket_of-bucket.result c.args.number c.index_mut-chain.result.now c.self.invariant.0 (omega (arith, c.if-bucket-len.false, c.len.ensures)) c.bucket_of-bucket.ensures.bucket c.index_mut-chain.ensures.value in
    let found : find_row c.index_mut-chain.result.now c.args.number ≡ Some c.in-Some.held.now = sym c.in-Some.ensures.value in
    c.requires c.in-Some.held.now (rw (← c.self.view_is) (sym own.finds ∙ found))

pub copy_from-requires : goal.copy_from-requires
copy_from-requires c = (room c).high

pub overflow_sub-first : goal.overflow_sub-first
overflow_sub-first c = (room c).low

changed : (c : goal.After-self-2-1) → IsChanged number_of c.self.inside.last c.args.number (option_map (λ (row : Row). stored row (c.args.first - row.range.lo) c.args.values.now) (find_row (in_all c.self.inside.chains.items) c.args.number)) c.self.inside.chains.items
    (set c.self.inside.chains.items c.bucket_of-bucket.result (set c.index_mut-chain.result.now (place_of number_of c.index_mut-chain.result.now c.args.number) (record c.in-Some.held.now { cells = c.copy_from.new.self })))
changed c =
    let chains = c.self.inside.chains.items in
    let before = c.index_mut-chain.result.now in
    let n = c.args.number in
    let held = c.in-Some.held.now in
    let own = own_bucket number_of c.self.inside.last chains c.bucket_of-bucket.result n before c.self.invariant.0 (omega (arith, c.if-bucket-len.false, c.len.ensures)) c.bucket_of-bucket.ensures.bucket c.index_mut-chain.ensures.value in
    let found : find_row c.index_mut-chain.result.now c.args.number ≡ Some c.in-Some.held.now = sym c.in-Some.ensures.value in
    let same : find_row (in_all c.self.inside.chains.items) c.args.number ≡ Some c.in-Some.held.now = sym own.finds ∙ found in
    rw (same, c.copy_from.ensures)
    (bucket_changed number_of c.self.inside.last chains c.bucket_of-bucket.result n (Some (stored held (c.args.first - held.range.lo) c.args.values.now)) before _ c.self.invariant.0 (omega (arith, c.if-bucket-len.false, c.len.ensures)) c.bucket_of-bucket.ensures.bucket c.index_mut-chain.ensures.value
    (written_once number_of before n held (stored held (c.args.first - held.range.lo) c.args.values.now) own.once found refl)
    (written_set number_of before n held (stored held (c.args.first - held.range.lo) c.args.values.now) found refl))

pub invariant_of-self-2 : goal.invariant_of-self-2
invariant_of-self-2 c = ((changed c).spread, c.self.invariant.1)

pub returns : goal.returns
returns c = rw (← c.self.view_is) (changed c).is_set
