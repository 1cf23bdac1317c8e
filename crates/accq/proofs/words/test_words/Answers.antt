use Rattle.std.proofs.Common.{rules, ◌≡◌, ◌∙◌, ap, ap₂, false}
use Rattle.std.specs.Prelude.{◌||◌, codes}
use Rattle.std.proofs.lemmas.Result.{IfOk-weaker}
use Rattle.clap.specs.Words.{app_of, new_app, rule_of, with_rule}
use Rattle.clap.specs.Simple.{app_of_fields}
use Rattle.clap.specs.declared.builder.command.Command.TheViews.{out-Command as fields_of}
use Rattle.accq.specs.Words.{flag_rule, name_rule, with_options}
use Rattle.accq.proofs.words.test_words.Goals as goal

-- the words that each call adds
pub returns-clause-app : goal.returns-clause-app
returns-clause-app c =
    let begun : app_of c.after_help.result ≡ new_app (codes "test") = ap app_of_fields c.after_help.ensures ∙ ap app_of_fields c.about.ensures ∙ c.new.ensures.app in
    let folder_is : rule_of c.name.result ≡ name_rule (codes "FOLDER") = search rules in
    let bless_is : rule_of c.flag.result ≡ flag_rule (codes "bless") = search rules in
    let folder = c.in_ok-arg.ensures.shape c.name.ensures.local ∙ ap₂ with_rule begun folder_is in
    let bless = c.in_ok-words.ensures.shape c.flag.ensures.local ∙ ap₂ with_rule folder bless_is in
    IfOk-weaker c.with_options.result _ _ (λ made is. is ∙ ap with_options bless) c.with_options.ensures.app

-- none of them is global
pub with_options-requires : goal.with_options-requires
with_options-requires c =
    let begun : (fields_of c.after_help.result).has_globals ≡ false = ap (λ f. f.has_globals) c.after_help.ensures ∙ ap (λ f. f.has_globals) c.about.ensures ∙ c.new.ensures.local in
    let folder = c.in_ok-arg.ensures.globals ∙ ap₂ ◌||◌ begun c.name.ensures.local in
    c.in_ok-words.ensures.globals ∙ ap₂ ◌||◌ folder c.flag.ensures.local
