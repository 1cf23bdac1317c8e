use Rattle.std.proofs.Common.{sym, ◌∙◌, arith}
use Rattle.acc_memory.proofs.Spread.{find_past, own_bucket}
use Rattle.acc_memory.proofs.buckets.Buckets.get.Goals as goal

pub returns-then-bucket-len : goal.returns-then-bucket-len
returns-then-bucket-len g c =
    rw (← c.self.view_is)
    (sym (find_past g.T.Keyed.key_of c.self.inside.last c.self.inside.chains.items c.args.number c.self.invariant.0 (omega (arith, c.if-bucket-len.true, c.len.ensures, c.bucket_of-bucket.ensures.bucket))))

pub returns : goal.returns
returns g c =
    rw (← c.self.view_is)
    (c.find.ensures
    ∙ (own_bucket g.T.Keyed.key_of c.self.inside.last c.self.inside.chains.items c.bucket_of-bucket.result c.args.number c.index.result.now c.self.invariant.0 (omega (arith, c.if-bucket-len.false, c.len.ensures)) c.bucket_of-bucket.ensures.bucket c.index.ensures).finds)
