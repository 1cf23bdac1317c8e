use Rattle.std.proofs.Common.{◌≡◌, ◌≤◌, ℤ, codes, ◌++◌, length, take}
use Rattle.std.specs.Fmt.{signed_decimal}
use Rattle.std.specs.List.{flat_map}
use Rattle.acc_report.specs.declared.page.TheConstants.{PAGE}
use Rattle.acc_report.specs.Puts.{sink}
use Rattle.acc_report.specs.inner.Pages.{IsHandedOn}
use Rattle.acc_report.proofs.line.put_from.Given as goal

abbrev pub invariant-loop-value : goal.invariant-loop-value
invariant-loop-value g l = record {
  all : l.fn.values ≡ l.yielded ++ l.value-iterator;
  on : IsHandedOn (sink (g.W.Write.contents l.fn.out) l.fn.failed) (sink (g.W.Write.contents l.out) l.failed)
      (signed_decimal l.fn.first ++ flat_map (λ (v : ℤ). codes " " ++ signed_decimal v) l.yielded) (take l.waiting l.page);
  long : length l.page ≡ PAGE;
  within : l.waiting ≤ PAGE;
}
