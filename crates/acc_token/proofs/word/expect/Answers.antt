use Rattle.std.proofs.Common.{◌≡◌, ◌-◌, length, take, drop, sym}
use Rattle.std.proofs.lemmas.List.{take_rest}
use Rattle.acc_token.proofs.TokenSpelling.{sign_found}
use Rattle.acc_token.proofs.word.expect.Goals as goal

pub returns-in-len1-up-clause-found : goal.returns-in-len1-up-clause-found
returns-in-len1-up-clause-found c =
    let from = c.past_space.result.now in
    let rest : take (length from - 1) (drop 1 from) ≡ drop 1 from = take_rest from 1 in
    let is = sym (rw (c.front.ensures, rest) at c.if-is_sign_here.ensures) in
    let same = c.past_space.ensures.token c.args.in_directive c.args.at.line in
    rw rest (sign_found c.args.in_directive c.args.at.line c.args.text.now c.args.at.bytes.now from same c.in-len1-up.len_at_least is)
