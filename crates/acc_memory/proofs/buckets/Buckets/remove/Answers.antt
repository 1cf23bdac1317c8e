use Rattle.std.proofs.Common.{◌≡◌, None, set, sym, ap, ◌∙◌, arith}
use Rattle.std.specs.Prelude.{is_some, remove}
use Rattle.acc_memory.specs.inner.Buckets.{find_by}
use Rattle.acc_memory.proofs.ByNumber.{kept_set, place_of, removed_once, removed_set}
use Rattle.acc_memory.proofs.Spread.{IsChanged, bucket_changed, find_past, own_bucket}
use Rattle.acc_memory.proofs.buckets.Buckets.remove.Given.{Over}
use Rattle.acc_memory.proofs.buckets.Buckets.remove.Goals as goal

changed : (g : Over) (c : goal.Joined-unlink_first_match g) → IsChanged g.T.Keyed.key_of c.self.inside.last c.args.number None c.self.inside.chains.items (set c.self.inside.chains.items c.bucket_of-bucket.result c.unlink_first_match.new.self)
changed g c =
    let key = g.T.Keyed.key_of in
    let n = c.args.number in
    let buckets = c.self.inside.chains.items in
    let before = c.index_mut-chain.result.now in
    let own = own_bucket key c.self.inside.last buckets c.bucket_of-bucket.result n before c.self.invariant.0 (omega (arith, c.if-bucket-len.false, c.len.ensures)) c.bucket_of-bucket.ensures.bucket c.index_mut-chain.ensures.value in
    rw c.unlink_first_match.ensures.rest
    (bucket_changed key c.self.inside.last buckets c.bucket_of-bucket.result n None before (remove before (place_of key before n)) c.self.invariant.0 (omega (arith, c.if-bucket-len.false, c.len.ensures)) c.bucket_of-bucket.ensures.bucket c.index_mut-chain.ensures.value
    (removed_once key before (place_of key before n) own.once) (removed_set key before n own.once))

pub invariant_of-self : goal.invariant_of-self
invariant_of-self g c = ((changed g c).spread, c.self.invariant.1)

pub returns-clause-there : goal.returns-clause-there
returns-clause-there g c =
    let own = own_bucket g.T.Keyed.key_of c.self.inside.last c.self.inside.chains.items c.bucket_of-bucket.result c.args.number c.index_mut-chain.result.now c.self.invariant.0 (omega (arith, c.if-bucket-len.false, c.len.ensures)) c.bucket_of-bucket.ensures.bucket c.index_mut-chain.ensures.value in
    rw (← c.self.view_is) (c.is_some.ensures ∙ ap is_some (c.unlink_first_match.ensures.node ∙ own.finds))

pub returns-clause-gone : goal.returns-clause-gone
returns-clause-gone g c = rw (← c.self.view_is) (changed g c).is_set

none : (g : Over) (c : goal.Then-bucket-len g) → find_by g.T.Keyed.key_of c.args.self.now c.args.number ≡ None
none g c =
    rw (← c.self.view_is)
    (find_past g.T.Keyed.key_of c.self.inside.last c.self.inside.chains.items c.args.number c.self.invariant.0 (omega (arith, c.if-bucket-len.true, c.len.ensures, c.bucket_of-bucket.ensures.bucket)))

pub returns-then-bucket-len-clause-there : goal.returns-then-bucket-len-clause-there
returns-then-bucket-len-clause-there g c = sym (ap is_some (none g c))

pub returns-then-bucket-len-clause-gone : goal.returns-then-bucket-len-clause-gone
returns-then-bucket-len-clause-gone g c = kept_set g.T.Keyed.key_of c.args.self.now c.args.number None (none g c)
