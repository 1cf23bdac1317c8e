use Rattle.std.proofs.Common.{rules, ◌≡◌, ◌∙◌, ap, ap₂, refl}
use Rattle.std.specs.Prelude.{◌||◌, codes}
use Rattle.std.proofs.lemmas.Result.{IfOk-weaker}
use Rattle.clap.specs.Words.{rule_of, with_rule}
use Rattle.acc_base.specs.declared.config.TheConstants.{MAX_CAPACITY, MAX_ROOM}
use Rattle.accq.specs.Words.{number_rule}
use Rattle.accq.proofs.words.with_options.Goals as goal

-- the words that each call adds
pub returns-clause-app : goal.returns-clause-app
returns-clause-app c =
    let cells_is : rule_of c.number.result ≡ number_rule (codes "cells") (codes "4194304") MAX_CAPACITY = search rules in
    let room_from : rule_of c.number-2.result ≡ number_rule (codes "room") (codes "64") c.from.result = search rules in
    let room_is : rule_of c.number-2.result ≡ number_rule (codes "room") (codes "64") MAX_ROOM = room_from ∙ ap (number_rule (codes "room") (codes "64")) c.from.ensures in
    let devices = c.in_ok-arg.ensures.shape c.devices.ensures.local ∙ ap₂ with_rule refl c.devices.ensures.rule in
    let cells = c.in_ok-arg-2.ensures.shape c.number.ensures.local ∙ ap₂ with_rule devices cells_is in
    IfOk-weaker c.arg-3.result _ _ (λ made adds. adds.shape c.number-2.ensures.local ∙ ap₂ with_rule cells room_is) c.arg-3.ensures

-- none of them is global
pub returns-clause-local : goal.returns-clause-local
returns-clause-local c =
    let devices = c.in_ok-arg.ensures.globals ∙ ap₂ ◌||◌ c.requires c.devices.ensures.local in
    let cells = c.in_ok-arg-2.ensures.globals ∙ ap₂ ◌||◌ devices c.number.ensures.local in
    IfOk-weaker c.arg-3.result _ _ (λ made adds. adds.globals ∙ ap₂ ◌||◌ cells c.number-2.ensures.local) c.arg-3.ensures
