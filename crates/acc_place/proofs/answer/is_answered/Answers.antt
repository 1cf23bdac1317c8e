use Rattle.std.proofs.Common.{◌≡◌, Bool, ℕ, List, [], ◌∷◌, refl, ap, ◌∙◌, rules, tests}
use Rattle.std.specs.Prelude.{◌&&◌, is_some}
use Rattle.std.specs.List.{list_all}
use Rattle.std.specs.Option.{option_map}
use Rattle.std.proofs.lemmas.Iterator.{YieldsList-from_slice}
use Rattle.std.proofs.lemmas.Iterator.Search.{all_from_yields_List}
use Rattle.acc_present.specs.Presences.{Presence, holder, is_present}
use Rattle.acc_place.specs.declared.directive.DataItem.{DataItem}
use Rattle.acc_place.specs.declared.directive.Kind.TheVariants as kind
use Rattle.acc_place.proofs.WalkItem.{held_is_present}
use Rattle.acc_place.proofs.answer.is_answered.Goals as goal

abbrev has_counters : List Presence → DataItem → Bool
has_counters ps i = is_some {T = ℕ × ℕ} (option_map (λ (p : Presence). (p.s, p.d)) (holder ps i.range))

all_held : (ps : List Presence) (items : List DataItem) → list_all (has_counters ps) items ≡ list_all (λ (i : DataItem). is_present ps i.range) items
all_held ps [] = refl
all_held ps (i ∷ is) =
    ap (λ v. v && list_all (has_counters ps) is) (held_is_present {X = ℕ × ℕ} (λ (p : Presence). (p.s, p.d)) ps i.range) ∙ ap (λ v. is_present ps i.range && v) (all_held ps is)

pub returns-then-matches : goal.returns-then-matches
returns-then-matches c =
    let ps = c.args.table.now.presences in
    let items = c.args.items.now in
    let is : c.args.kind.now ≡ kind.IsPresent = search rules in
    rw is
    (all_from_yields_List (has_counters ps) _ _ _ c.all.ensures.ran (YieldsList-from_slice items cc) (λ x b q k. search (rules, tests)) ∙ all_held ps items)
