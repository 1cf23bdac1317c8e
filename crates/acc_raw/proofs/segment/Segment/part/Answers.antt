use Rattle.std.proofs.Common.{◌≡◌, ◌++◌, ◌-◌, ap, ap₂, ◌∙◌, length, take, drop, true, cond, arith}
use Rattle.std.proofs.lemmas.List.{take_rest, take-append-drop, length-drop}
use Rattle.core.specs.Result.{is_ok}
use Rattle.acc_raw.proofs.segment.Segment.part.Goals as goal

pub returns-clause-seats : goal.returns-clause-seats
returns-clause-seats c =
    let xs = c.as_slice.result.now in let ys = c.args.self.now.seats.items in let us = c.args.upper.now.seats.items in
    let same : xs ≡ ys = c.as_slice.ensures.value in
    let upper : take (length xs - 64) (drop 64 xs) ≡ drop 64 ys = take_rest xs 64 ∙ ap (λ l. drop 64 l) same in
    let many = ap length upper ∙ length-drop 64 ys in let none = ap length c.requires.empty.0 in
    let ok : is_ok c.extend_from_slice.result ≡ true = c.extend_from_slice.ensures.succeeds (omega (arith, many, none, c.requires.full, c.requires.empty.1, c.args.upper.now.seats.ok.0)) in
    let moved = c.extend_from_slice.ensures.items ∙ ap (λ b. cond b (us ++ take (length xs - 64) (drop 64 xs)) us) ok ∙ ap₂ (λ u l. u ++ l) c.requires.empty.0 upper in
    ap₂ (λ l u. l ++ u) c.truncate.ensures.items moved ∙ take-append-drop 64 ys
