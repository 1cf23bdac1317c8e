use Rattle.std.proofs.Common.{reverse, subst}
use Rattle.std.specs.Prelude.{All}
use Rattle.std.proofs.lemmas.List.{reverse-reverse}
use Rattle.acc_explore.specs.inner.Comparing.{IsCountedBelow}
use Rattle.acc_place.proofs.AnswersKept.{All-reversed}
use Rattle.acc_explore.proofs.histories.have_accepted_alike.Goals as goal

pub returns : goal.returns
returns c = λ same.
    let below = IsCountedBelow c.args.hosts in
    let old = c.args.old.now.history in
    let new = c.args.new.now.history in
    let first : All below (reverse old) =
    subst (All below) c.history.ensures.history (c.are_counted_below.ensures.0 c.if-not-are_counted_below.false) in
    let second : All below (reverse new) =
    subst (All below) c.history-else-not-are_counted_below.ensures.history (c.are_counted_below-else-not-are_counted_below.ensures.0 c.if-not-are_counted_below-2.false) in
    record {
      first = subst (All below) (reverse-reverse old) (All-reversed below (reverse old) first);
      second = subst (All below) (reverse-reverse new) (All-reversed below (reverse new) second);
      entries = c.have_as_many.ensures c.if-not-have_as_many.false;
      batches = c.have_same_batches.ensures c.if-not-have_same_batches.false;
      present = c.have_same_presences.ensures c.if-not-have_same_presences.false;
      own = c.have_same_directives.ensures same;
    }
