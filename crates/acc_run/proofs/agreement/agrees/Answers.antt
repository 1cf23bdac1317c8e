use Rattle.std.proofs.Common.{◌≡◌, ◌+◌, ◌∷◌, drop, map, ap, sym, ◌∙◌, arith}
use Rattle.std.proofs.lemmas.List.{drop_more}
use Rattle.acc_run.specs.Agreement.{Agrees, histories_by}
use Rattle.acc_run.specs.Tokens.{listed_entry}
use Rattle.acc_run.proofs.ReadTokens.{one_read}
use Rattle.acc_run.proofs.agreement.agrees.Goals as goal

pub loop-entry-preserved : goal.loop-entry-preserved
loop-entry-preserved c =
    let xs = c.entries-entry-items.result.now in
    let i = c.loop-entry.entry-index in
    let x = c.entry-item.result in
    let here : drop i xs ≡ x ∷ drop (i + 1) xs = drop_more xs i x c.loop-entry-test.true ∙ ap (λ y. y ∷ drop (i + 1) xs) (sym c.entry-item.is) in
    let token = c.args.token.now in
    record {
      gone = omega (arith, c.loop-entry.invariant.gone, c.read.ensures.gone);
      same = one_read (Agrees (histories_by c.args.place.now c.args.works.now.items) token.host (map listed_entry token.entries)) c.loop-entry.unread c.read.new.self (drop i xs) (drop (i + 1) xs) x here (rw c.if-not-read.false at c.read.ensures.read) c.loop-entry.invariant.same;
    }
