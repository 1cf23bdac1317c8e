use Rattle.std.proofs.Common.{inl, inr}
use Rattle.acc_report.proofs.JoinedPuts.{puts_then}
use Rattle.acc_steps.proofs.words.put_waits.Goals as goal

pub returns-in_default : goal.returns-in_default
returns-in_default g c = rw c.in_default.is c.put.ensures

pub returns-in-Await : goal.returns-in-Await
returns-in-Await g c = rw (c.in-Some.is, c.in-Await.is) (puts_then c.put-in-Await.ensures c.put_batch_of.ensures)

pub returns-in-Release : goal.returns-in-Release
returns-in-Release g c = elim c.in-Release.is [
  | inl release ↦ rw (c.in-Some.is, release.1) c.put-in-Release.ensures
  | inr others ↦ (elim others [
    | inl run ↦ rw (c.in-Some.is, run.2) c.put-in-Release.ensures
    | inr close ↦ rw (c.in-Some.is, close) c.put-in-Release.ensures
  ])
]

pub returns-in-Make : goal.returns-in-Make
returns-in-Make g c = elim c.in-Make.is [
  | inl make ↦ rw (c.in-Some.is, make.2) c.put-in-Make.ensures
  | inr others ↦ (elim others [
    | inl copy ↦ rw (c.in-Some.is, copy.2) c.put-in-Make.ensures
    | inr copy ↦ rw (c.in-Some.is, copy.2) c.put-in-Make.ensures
  ])
]
