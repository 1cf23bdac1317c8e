use Rattle.std.proofs.Common.{◌≡◌, drop, arith}
use Rattle.std.specs.List.{prefix_len}
use Rattle.std.proofs.lemmas.Bool.{ne_eqb}
use Rattle.acc_token.proofs.Span.{span_token}
use Rattle.acc_token.specs.Tokens.{is_blank}
use Rattle.acc_token.proofs.token.span_at.Goals as goal

pub returns-else-is_skipped-clause-token : goal.returns-else-is_skipped-clause-token
returns-else-is_skipped-clause-token c line some =
    let bytes = c.args.bytes.now in
    let gap = c.blanks_len-gap.ensures.len in
    let from : c.split_at.result.1.now ≡ drop (prefix_len is_blank bytes) bytes = rw gap at c.split_at.ensures.back in
    let len = rw (ne_eqb c.plain_len.result 0 (λ e. omega (arith, some, e)), from) at c.plain_len.ensures.len line in
    let same = c.is_skipped.ensures in
    let feed = rw (same, c.front.ensures, from) at c.if-is_skipped.false in
    rw gap (span_token c.args.in_directive line c.plain_len.result bytes some len feed)
