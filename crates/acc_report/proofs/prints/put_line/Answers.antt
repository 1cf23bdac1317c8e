use Rattle.std.proofs.Common.{◌≡◌, List, [], ◌∷◌, ◌++◌, ℕ, pos, codes, decimal, sym, ap, subst, ◌∙◌}
use Rattle.std.proofs.lemmas.List.{append-nil}
use Rattle.acc_report.specs.Lines.{line_text}
use Rattle.acc_report.specs.Puts.{Puts, sink}
use Rattle.acc_report.proofs.JoinedPuts.{puts_then}
use Rattle.acc_report.proofs.prints.put_line.Goals as goal

pub returns : goal.returns
unfolding line_text
returns g c =
    let n = c.args.number in
    let text : decimal n ++ codes "\n" ≡ line_text (pos n ∷ []) ++ [] =
    ap (λ (t : List ℕ). t ++ codes "\n") (sym (append-nil (decimal n))) ∙ sym (append-nil (line_text (pos n ∷ []))) in
    subst (Puts (sink (g.W.Write.contents c.args.out.now) c.args.failed.now) (sink (g.W.Write.contents c.put.new.out) c.put.new.failed)) text
    (puts_then c.put_number.ensures c.put.ensures)
