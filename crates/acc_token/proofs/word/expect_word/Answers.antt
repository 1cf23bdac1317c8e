use Rattle.acc_token.proofs.TokenSpelling.{word_found}
use Rattle.acc_token.proofs.word.expect_word.Goals as goal

pub returns-in-Some-clause-found : goal.returns-in-Some-clause-found
returns-in-Some-clause-found c =
    let stands = c.in-Some.ensures.cases in
    let same = c.past_space.ensures.token c.args.in_directive c.args.at.line in
    let is = c.is_word_byte.ensures in
    let ends = rw (is, c.front.ensures, stands.1) at c.if-not-is_word_byte.true in
    rw stands.1 (word_found c.args.in_directive c.args.at.line c.args.word.now c.args.at.bytes.now c.past_space.result.now same c.requires.word stands.0 ends)
