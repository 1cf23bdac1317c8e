-- What clauses keep while they are read: the directive may have them.
use Rattle.std.specs.Prelude.{◌≡◌, Bool, true, false, List}
use Rattle.std.specs.List.{list_all}
use Rattle.acc_place.specs.declared.directive.DataItem.{DataItem}
use Rattle.acc_place.specs.declared.directive.Target.{Target}
use Rattle.acc_place.specs.declared.directive.Target.TheVariants.{Plain}
use Rattle.acc_place.specs.declared.directive.Waits.{Waits}
use Rattle.acc_place.specs.declared.directive.Waits.TheVariants.{Nothing}
use Rattle.acc_script.specs.declared.head.Head.{Head}
use Rattle.acc_script.specs.declared.head.Head.TheVariants as head
use Rattle.acc_script.specs.declared.clause.Clauses.{Clauses}
use Rattle.acc_script.specs.Clauses.{allows, may_have_async, may_wait}

pub record AreAllowed (h : Head) (items : List DataItem) : Type 0 where
  pub each : list_all (λ (i : DataItem). allows h i.clause) items ≡ true

abbrev pub allows_target : Head → Target → Bool
allows_target h Plain = true
allows_target h t = may_have_async h

-- A `wait` names queues by itself.
abbrev pub allows_waits : Head → Waits → Bool
allows_waits head.Wait Nothing = false
allows_waits head.Wait w = true
allows_waits h Nothing = true
allows_waits h w = may_wait h

pub record IsKept (h : Head) (c : Clauses) : Type 0 where
  pub items : AreAllowed h c.items
  pub target : allows_target h c.target ≡ true
  pub waits : allows_waits h c.waits ≡ true
