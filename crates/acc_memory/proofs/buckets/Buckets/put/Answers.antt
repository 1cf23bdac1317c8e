use Rattle.std.proofs.Common.{◌≡◌, Some, set, ap, ◌∙◌}
use Rattle.std.specs.Prelude.{◌==◌, if◌then◌else◌}
use Rattle.acc_memory.specs.inner.Buckets.{AreSpread, bucket_of}
use Rattle.acc_memory.proofs.ByNumber.{put_once, put_set}
use Rattle.acc_memory.proofs.Spread.{IsChanged, bucket_changed, found_same, own_bucket, spread_same}
use Rattle.acc_memory.proofs.buckets.Buckets.put.Given.{Over}
use Rattle.acc_memory.proofs.buckets.Buckets.put.Goals as goal

-- with the empty chains that were added
spread : (g : Over) (c : goal.After-self-1 g) → AreSpread g.T.Keyed.key_of c.self.inside.last c.reach.new.chains.items
spread g c = spread_same g.T.Keyed.key_of c.self.inside.last c.self.inside.chains.items c.reach.new.chains.items c.self.invariant.0 c.reach.ensures.few c.reach.ensures.same

changed : (g : Over) (c : goal.After-self-1 g) → IsChanged g.T.Keyed.key_of c.self.inside.last (g.T.Keyed.key_of c.args.node) (Some c.args.node) c.reach.new.chains.items (set c.reach.new.chains.items c.bucket_of-bucket.result c.push_back.new.self)
changed g c =
    let key = g.T.Keyed.key_of in
    let n = g.T.Keyed.key_of c.args.node in
    let buckets = c.reach.new.chains.items in
    let before = c.index_mut-chain.result.now in
    let same : c.bucket_of-bucket.result ≡ bucket_of c.self.inside.last (g.T.Keyed.key_of c.args.node) = c.bucket_of-bucket.ensures.bucket ∙ ap (bucket_of c.self.inside.last) (c.key.ensures ∙ ap key c.value.ensures) in
    let own = own_bucket key c.self.inside.last buckets c.bucket_of-bucket.result n before (spread g c) c.reach.ensures.there same c.index_mut-chain.ensures.value in
    let alike = found_same key c.self.inside.last c.self.inside.chains.items buckets c.self.invariant.0 (spread g c) c.reach.ensures.same n in
    let fresh = own.finds ∙ (alike ∙ rw (← c.self.view_is) at c.requires) in
    rw c.push_back.ensures (bucket_changed key c.self.inside.last buckets c.bucket_of-bucket.result n (Some c.args.node) before _ (spread g c) c.reach.ensures.there same c.index_mut-chain.ensures.value (put_once key before c.args.node own.once fresh) (put_set key before c.args.node fresh))

pub invariant_of-self : goal.invariant_of-self
invariant_of-self g c = ((changed g c).spread, c.reach.ensures.room)

pub returns : goal.returns
returns g c =
    let key = g.T.Keyed.key_of in
    let alike = found_same key c.self.inside.last c.self.inside.chains.items c.reach.new.chains.items c.self.invariant.0 (spread g c) c.reach.ensures.same in
    rw (← c.self.view_is) (λ k. (changed g c).is_set k ∙ ap (λ o. if k == key c.args.node then Some c.args.node else o) (alike k))
