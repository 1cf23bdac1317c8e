use Rattle.std.proofs.Common.{◌≡◌, refl}
use Rattle.acc_work.specs.Jobs.{IsOut}
use Rattle.acc_run.proofs.Publishing.{published_job, word_low, word_there}
use Rattle.acc_run.proofs.WorkSideSteps.{after_job, on_both}
use Rattle.acc_run.proofs.work_side.WorkSide.commit_job.Goals as goal

pub commit_and_publish-requires-clause-there : goal.commit_and_publish-requires-clause-there
commit_and_publish-requires-clause-there c =
    let i = c.self.inside in
    word_there i.work i.progress.numbers c.args.job.at c.self.invariant.1 c.keeps.ensures.order (rw (← c.self.view_is) at c.requires.queue)

pub commit_and_publish-requires-clause-few : goal.commit_and_publish-requires-clause-few
commit_and_publish-requires-clause-few c =
    let i = c.self.inside in
    word_low i.work i.progress.numbers c.args.job.at c.self.invariant.1 c.keeps.ensures.order (rw (← c.self.view_is) at c.requires.queue)

pub invariant_of-self : goal.invariant_of-self
invariant_of-self c =
    let i = c.self.inside in
    let h = rw (← c.self.view_is) at c.requires.queue in
    let did = c.commit_and_publish in (
      after_job did.result (IsOut i.work c.args.job) (λ b. b ≡ c.args.job) (λ b. did.new.progress ≡ i.progress) (λ b. IsOut i.work c.args.job → ⊥) i.config i.work did.new.work i.takers.items c.args.job.at c.self.invariant.0 c.keeps.ensures.order h did.ensures.committed did.ensures.back,
      published_job did.result (λ b. b ≡ c.args.job) (λ b. IsOut i.work c.args.job → ⊥) i.work did.new.work i.progress did.new.progress c.args.job c.self.invariant.1 c.keeps.ensures.order did.ensures.order h did.ensures.committed did.ensures.progress did.ensures.back,
    )

pub returns-clause-back : goal.returns-clause-back
returns-clause-back c =
    let did = c.commit_and_publish in
    rw (← c.self.view_is) (on_both did.result _ _ _ (λ done raised. record { config = refl; out = done.0; commits = done.1; lines = refl; progress = raised }) did.ensures.committed did.ensures.progress)
