use Rattle.std.proofs.Common.{rules, ◌≡◌, ◌∙◌, ap, ap₂, false}
use Rattle.std.specs.Prelude.{◌||◌, codes}
use Rattle.std.proofs.lemmas.Result.{IfOk-weaker}
use Rattle.clap.specs.Words.{app_of, new_app, rule_of, with_rule}
use Rattle.clap.specs.Simple.{app_of_fields}
use Rattle.clap.specs.declared.builder.command.Command.TheViews.{out-Command as fields_of}
use Rattle.accq.specs.Words.{name_rule}
use Rattle.accq.proofs.words.explain_words.Goals as goal

-- the word that the call adds
pub returns-clause-app : goal.returns-clause-app
returns-clause-app c =
    let begun : app_of c.after_help.result ≡ new_app (codes "explain") = ap app_of_fields c.after_help.ensures ∙ ap app_of_fields c.about.ensures ∙ c.new.ensures.app in
    let word_is : rule_of c.name.result ≡ name_rule (codes "WORD") = search rules in
    IfOk-weaker c.arg.result _ _ (λ made adds. adds.shape c.name.ensures.local ∙ ap₂ with_rule begun word_is) c.arg.ensures

-- it is not global
pub returns-clause-local : goal.returns-clause-local
returns-clause-local c =
    let begun : (fields_of c.after_help.result).has_globals ≡ false = ap (λ f. f.has_globals) c.after_help.ensures ∙ ap (λ f. f.has_globals) c.about.ensures ∙ c.new.ensures.local in
    IfOk-weaker c.arg.result _ _ (λ made adds. adds.globals ∙ ap₂ ◌||◌ begun c.name.ensures.local) c.arg.ensures
