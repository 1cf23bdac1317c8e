use Rattle.std.proofs.Common.{◌≡◌, ◌-◌, length, take, drop, sym, arith}
use Rattle.std.proofs.lemmas.Bool.{ne_eqb}
use Rattle.std.proofs.lemmas.List.{take_rest}
use Rattle.acc_token.proofs.TokenSpelling.{digits_token}
use Rattle.acc_token.proofs.token.number_here.Goals as goal

pub returns-in-len1-up-clause-token : goal.returns-in-len1-up-clause-token
returns-in-len1-up-clause-token c in_directive line some =
    let bytes = c.args.bytes.now in
    let rest : take (length bytes - 1) (drop 1 bytes) ≡ drop 1 bytes = take_rest bytes 1 in
    let len = rw (rest, ne_eqb c.number_len.result 0 (λ e. omega (arith, some, e))) at c.number_len.ensures.len line in
    digits_token in_directive line c.number_len.result bytes c.in-len1-up.len_at_least (sym c.if-is_digit.ensures) len
