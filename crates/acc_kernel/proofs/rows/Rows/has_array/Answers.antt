use Rattle.std.proofs.Common.{◌≡◌, ℕ, ◌<◌, length, get_or, ◌∙◌, sym, ap, arith}
use Rattle.std.specs.Prelude.{nat_lt}
use Rattle.std.proofs.lemmas.List.{get_or_default}
use Rattle.acc_kernel.specs.Jobs.{is_used, place_of}
use Rattle.acc_kernel.proofs.ReadAndWritten.{is_used-place}
use Rattle.acc_kernel.proofs.rows.Rows.has_array.Goals as goal

pub returns : goal.returns
returns c =
    let uses = c.self.inside.uses.items in
    let places = c.self.inside.places.items in
    let few : c.from.result < length places = omega (arith, c.from.ensures, c.ranges.array.fits, c.self.invariant.table.count) in
    let place : c.index.result.now ≡ place_of uses c.args.array =
    c.index.ensures ∙ (get_or_default places c.from.result c.index.result.now 0 few ∙ (ap (λ (n : ℕ). get_or places n 0) c.from.ensures ∙ c.self.invariant.table.places_are c.args.array c.ranges.array.fits)) in
    let count : c.len.result ≡ length uses = omega (arith, c.len.ensures, c.self.invariant.shape.count, c.self.inside.rows.ok.0) in
    rw (← c.self.view_is) (ap (λ (n : ℕ). nat_lt n c.len.result) place ∙ (ap (nat_lt (place_of uses c.args.array)) count ∙ sym (is_used-place uses c.args.array)))
