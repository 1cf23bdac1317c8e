use Rattle.std.proofs.Common.{reverse, arith}
use Rattle.acc_explore.specs.inner.Comparing.{IsShownBelow}
use Rattle.acc_explore.proofs.ShownItems.{all_same, shown_same}
use Rattle.acc_place.proofs.AnswersKept.{All-reversed}
use Rattle.acc_explore.proofs.items.have_same_items.Goals as goal

pub returns-clause-shown : goal.returns-clause-shown
returns-clause-shown c =
    let n = c.args.hosts in
    let old = c.args.old.now.items in
    let new = c.args.new.now.items in
    let a = c.are_shown_below.ensures.0 c.if-not-are_shown_below.false in
    let b = c.are_shown_below-else-not-are_shown_below.ensures.0 c.if-not-are_shown_below-2.false in
    λ true_is.
    shown_same n (reverse old) (reverse new) (All-reversed (IsShownBelow n) old a) (All-reversed (IsShownBelow n) new b)
    (λ host low. c.loop-host.invariant host (omega (arith, low, c.loop-host-test.false)))

pub returns-clause-all : goal.returns-clause-all
returns-clause-all c =
    let n = c.args.hosts in
    let old = c.args.old.now.items in
    let new = c.args.new.now.items in
    let a = c.are_shown_below.ensures.0 c.if-not-are_shown_below.false in
    let b = c.are_shown_below-else-not-are_shown_below.ensures.0 c.if-not-are_shown_below-2.false in
    λ true_is.
    all_same n (reverse old) (reverse new) (All-reversed (IsShownBelow n) old a) (All-reversed (IsShownBelow n) new b)
    (λ host low. c.loop-host.invariant host (omega (arith, low, c.loop-host-test.false)))
