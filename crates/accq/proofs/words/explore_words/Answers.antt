use Rattle.std.proofs.Common.{rules, ◌≡◌, ◌∙◌, ap, ap₂, false}
use Rattle.std.specs.Prelude.{◌||◌, codes}
use Rattle.std.proofs.lemmas.Result.{IfOk-weaker}
use Rattle.clap.specs.Words.{app_of, new_app, rule_of, with_rule}
use Rattle.clap.specs.Simple.{app_of_fields}
use Rattle.clap.specs.declared.builder.command.Command.TheViews.{out-Command as fields_of}
use Rattle.accq.specs.declared.words.TheConstants.{MAX_STATES}
use Rattle.accq.specs.Words.{flag_rule, name_rule, number_rule, optional_number_rule, optional_rule, with_options}
use Rattle.accq.proofs.words.explore_words.Goals as goal

-- the words that each call adds
pub returns-clause-app : goal.returns-clause-app
returns-clause-app c =
    let begun : app_of c.after_help.result ≡ new_app (codes "explore") = ap app_of_fields c.after_help.ensures ∙ ap app_of_fields c.about.ensures ∙ c.new.ensures.app in
    let script_is : rule_of c.name.result ≡ name_rule (codes "SCRIPT") = search rules in
    let schedule_is : rule_of c.optional.result ≡ optional_rule (codes "SCHEDULE") = search rules in
    let from : rule_of c.number.result ≡ number_rule (codes "states") (codes "1000000") c.from.result = search rules in
    let states_is = from ∙ ap (number_rule (codes "states") (codes "1000000")) c.from.ensures in
    let close_is : rule_of c.flag.result ≡ flag_rule (codes "close") = search rules in
    let short_is : rule_of c.flag-2.result ≡ flag_rule (codes "short") = search rules in
    let script = c.in_ok-arg.ensures.shape c.name.ensures.local ∙ ap₂ with_rule begun script_is in
    let schedule = c.in_ok-arg-2.ensures.shape c.optional.ensures.local ∙ ap₂ with_rule script schedule_is in
    let states = c.in_ok-arg-3.ensures.shape c.number.ensures.local ∙ ap₂ with_rule schedule states_is in
    let close = c.in_ok-arg-4.ensures.shape c.flag.ensures.local ∙ ap₂ with_rule states close_is in
    let short = c.in_ok-arg-5.ensures.shape c.flag-2.ensures.local ∙ ap₂ with_rule close short_is in
    let depth_from : rule_of c.optional_number.result ≡ optional_number_rule (codes "depth") c.from-2.result = search rules in
    let depth_is = depth_from ∙ ap (optional_number_rule (codes "depth")) c.from-2.ensures in
    let depth = c.in_ok-words.ensures.shape c.optional_number.ensures.local ∙ ap₂ with_rule short depth_is in
    IfOk-weaker c.with_options.result _ _ (λ made is. is ∙ ap with_options depth) c.with_options.ensures.app

-- none of them is global
pub with_options-requires : goal.with_options-requires
with_options-requires c =
    let begun : (fields_of c.after_help.result).has_globals ≡ false = ap (λ f. f.has_globals) c.after_help.ensures ∙ ap (λ f. f.has_globals) c.about.ensures ∙ c.new.ensures.local in
    let script = c.in_ok-arg.ensures.globals ∙ ap₂ ◌||◌ begun c.name.ensures.local in
    let schedule = c.in_ok-arg-2.ensures.globals ∙ ap₂ ◌||◌ script c.optional.ensures.local in
    let states = c.in_ok-arg-3.ensures.globals ∙ ap₂ ◌||◌ schedule c.number.ensures.local in
    let close = c.in_ok-arg-4.ensures.globals ∙ ap₂ ◌||◌ states c.flag.ensures.local in
    let short = c.in_ok-arg-5.ensures.globals ∙ ap₂ ◌||◌ close c.flag-2.ensures.local in
    c.in_ok-words.ensures.globals ∙ ap₂ ◌||◌ short c.optional_number.ensures.local
