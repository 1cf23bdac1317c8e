use Rattle.std.proofs.Common.{◌≡◌, ◌∙◌, ap, ap₂}
use Rattle.std.specs.Prelude.{codes, true}
use Rattle.std.proofs.lemmas.Result.{IfOk-weaker}
use Rattle.clap.specs.Words.{App, app_of, new_app, with_subcommand}
use Rattle.clap.specs.Simple.{app_of_fields, on_top}
use Rattle.accq.proofs.words.accq_words.Goals as goal

-- the program's own words
pub returns : goal.returns
returns c =
    let begun : app_of c.subcommand_required.result ≡ on_top (λ s. record s { has_version = true; subcommand_required = true }) (new_app (codes "accq")) =
    ap app_of_fields c.subcommand_required.ensures
    ∙ ap (λ (a : App). on_top (λ s. record s { subcommand_required = true }) a) (ap app_of_fields c.after_help.ensures ∙ ap app_of_fields c.override_usage.ensures ∙ ap app_of_fields c.about.ensures ∙ ap app_of_fields c.version.ensures ∙ ap (λ (a : App). on_top (λ s. record s { has_version = true }) a) c.new.ensures.app) in
    let replay = c.in_ok-subcommand.ensures.shape c.in_ok-replay_words.ensures.local ∙ ap₂ with_subcommand begun (ap (λ (a : App). a.top) c.in_ok-replay_words.ensures.app) in
    let run = c.in_ok-subcommand-2.ensures.shape c.in_ok-run_words.ensures.local ∙ ap₂ with_subcommand replay (ap (λ (a : App). a.top) c.in_ok-run_words.ensures.app) in
    let steps = c.in_ok-subcommand-3.ensures.shape c.in_ok-steps_words.ensures.local ∙ ap₂ with_subcommand run (ap (λ (a : App). a.top) c.in_ok-steps_words.ensures.app) in
    let explore = c.in_ok-subcommand-4.ensures.shape c.in_ok-explore_words.ensures.local ∙ ap₂ with_subcommand steps (ap (λ (a : App). a.top) c.in_ok-explore_words.ensures.app) in
    let check = c.in_ok-subcommand-5.ensures.shape c.in_ok-check_words.ensures.local ∙ ap₂ with_subcommand explore (ap (λ (a : App). a.top) c.in_ok-check_words.ensures.app) in
    let explain = c.in_ok-subcommand-6.ensures.shape c.in_ok-explain_words.ensures.local ∙ ap₂ with_subcommand check (ap (λ (a : App). a.top) c.in_ok-explain_words.ensures.app) in
    IfOk-weaker c.subcommand-7.result _ _ (λ made adds. adds.shape c.in_ok-test_words.ensures.local ∙ ap₂ with_subcommand explain (ap (λ (a : App). a.top) c.in_ok-test_words.ensures.app)) c.subcommand-7.ensures
