use Rattle.std.proofs.Common.{reverse, sym, ap, ◌∙◌}
use Rattle.std.proofs.lemmas.List.{reverse-reverse}
use Rattle.acc_explore.proofs.histories.have_same_histories.Goals as goal

pub returns-then-are_same_entries-clause-history : goal.returns-then-are_same_entries-clause-history
returns-then-are_same_entries-clause-history c = λ same.
    let entries = c.are_same_entries.ensures.0 c.if-are_same_entries.true in
    sym (reverse-reverse c.args.old.now.history)
    ∙ (ap reverse (sym c.history.ensures.history ∙ (entries ∙ c.history-2.ensures.history))
    ∙ reverse-reverse c.args.new.now.history)

pub returns-then-are_same_entries-clause-counts : goal.returns-then-are_same_entries-clause-counts
returns-then-are_same_entries-clause-counts c = λ same.
    let counts = c.are_same_counts.ensures.0 same in
    sym (reverse-reverse c.args.old.now.counts)
    ∙ (ap reverse (sym c.counts.ensures ∙ (counts ∙ c.counts-then-are_same_entries.ensures))
    ∙ reverse-reverse c.args.new.now.counts)
