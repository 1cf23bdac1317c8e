use Rattle.std.proofs.Common.{rules, ◌≡◌, ◌∙◌, ap, ap₂, false}
use Rattle.std.specs.Prelude.{◌||◌, codes}
use Rattle.std.proofs.lemmas.Result.{IfOk-weaker}
use Rattle.clap.specs.Words.{app_of, new_app, rule_of, with_rule}
use Rattle.clap.specs.Simple.{app_of_fields}
use Rattle.clap.specs.declared.builder.command.Command.TheViews.{out-Command as fields_of}
use Rattle.accq.specs.Words.{name_rule, optional_rule}
use Rattle.accq.proofs.words.check_words.Goals as goal

-- the words that each call adds
pub returns-clause-app : goal.returns-clause-app
returns-clause-app c =
    let begun : app_of c.after_help.result ≡ new_app (codes "check") = ap app_of_fields c.after_help.ensures ∙ ap app_of_fields c.about.ensures ∙ c.new.ensures.app in
    let script_is : rule_of c.name.result ≡ name_rule (codes "SCRIPT") = search rules in
    let schedule_is : rule_of c.optional.result ≡ optional_rule (codes "SCHEDULE") = search rules in
    let script = c.in_ok-arg.ensures.shape c.name.ensures.local ∙ ap₂ with_rule begun script_is in
    let schedule = c.in_ok-arg-2.ensures.shape c.optional.ensures.local ∙ ap₂ with_rule script schedule_is in
    IfOk-weaker c.arg-3.result _ _ (λ made adds. adds.shape c.devices.ensures.local ∙ ap₂ with_rule schedule c.devices.ensures.rule) c.arg-3.ensures

-- none of them is global
pub returns-clause-local : goal.returns-clause-local
returns-clause-local c =
    let begun : (fields_of c.after_help.result).has_globals ≡ false = ap (λ f. f.has_globals) c.after_help.ensures ∙ ap (λ f. f.has_globals) c.about.ensures ∙ c.new.ensures.local in
    let script = c.in_ok-arg.ensures.globals ∙ ap₂ ◌||◌ begun c.name.ensures.local in
    let schedule = c.in_ok-arg-2.ensures.globals ∙ ap₂ ◌||◌ script c.optional.ensures.local in
    IfOk-weaker c.arg-3.result _ _ (λ made adds. adds.globals ∙ ap₂ ◌||◌ schedule c.devices.ensures.local) c.arg-3.ensures
