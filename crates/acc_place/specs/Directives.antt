-- Directives as hosts give them.
use Rattle.std.specs.Prelude.{ℕ, ℤ, negsuc, List}
use Rattle.acc_place.specs.declared.directive.DataItem.{DataItem}
use Rattle.acc_place.specs.declared.directive.Kind.{Kind}
use Rattle.acc_place.specs.declared.directive.Target.{Target}
use Rattle.acc_place.specs.declared.directive.Waits.{Waits}
use Rattle.acc_place.specs.declared.directive.Written.{Written}

-- A directive with the device that is current, its host's default async value, and what is written.
pub record Directive : Type 0 where
  pub device : ℕ
  pub default : ℤ
  pub kind : Kind
  pub items : List DataItem
  pub target : Target
  pub waits : Waits

-- what is written, for device 0 and acc_async_noval
abbrev pub written_first : Written → Directive
written_first w =
    record { device = 0; default = negsuc 0; kind = w.kind; items = w.items; target = w.target; waits = w.waits }
