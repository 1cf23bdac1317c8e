use Rattle.std.proofs.Common.{◌≡◌, None, sym, ap, ◌∙◌, rules}
use Rattle.std.specs.Prelude.{slice_get}
use Rattle.std.specs.Option.{option_and_then}
use Rattle.acc_place.specs.declared.directive.Kind.TheVariants as kind
use Rattle.acc_place.specs.Regions.{open_region}
use Rattle.acc_place.proofs.OpenRegion.{none_without}
use Rattle.acc_place.proofs.regions.enter_or_leave.Goals as goal

pub returns-in_default-open_index-clause-regions :
    goal.returns-in_default-open_index-clause-regions
returns-in_default-open_index-clause-regions c = λ counted is_opened.
    let rs = c.args.regions.now.items in
    let is : c.args.directive.now.kind ≡ kind.EndData = search rules in
    let none : open_region c.args.host rs ≡ None =
    ap (open_region c.args.host) (sym c.as_slice.ensures.value)
    ∙ (sym c.open_index.ensures.found ∙ ap (option_and_then (slice_get c.as_slice.result.now)) c.in_default-open_index.is) in
    rw is (sym (none_without c.args.host rs none))
