use Rattle.std.proofs.Common.{sym}
use Rattle.acc_token.proofs.TokenSpelling.{single_token}
use Rattle.acc_token.proofs.token.sign_at.Goals as goal

pub returns-in-len1-up-clause-token : goal.returns-in-len1-up-clause-token
returns-in-len1-up-clause-token c =
    rw (c.split_at.ensures.front, c.split_at.ensures.back)
    (single_token c.args.in_directive c.args.at.line c.args.at.bytes.now c.in-len1-up.len_at_least (sym c.if-is_single.ensures))
