-- Which clauses a directive may have (OpenACC API 3.0: the sections that Kind names, 2.16.1, async clause, and 2.16.2, wait
-- clause).
use Rattle.std.specs.Prelude.{ℕ, zero, suc, Bool, true, false, ◌&&◌, ◌||◌, ◌==◌, not, List, length}
use Rattle.std.specs.List.{list_all}
use Rattle.acc_place.specs.declared.directive.Clause.{Clause}
use Rattle.acc_place.specs.declared.directive.Clause.TheVariants as clause
use Rattle.acc_place.specs.declared.directive.DataItem.{DataItem}
use Rattle.acc_place.specs.declared.directive.Kind.{Kind}
use Rattle.acc_place.specs.declared.directive.Kind.TheVariants as kind
use Rattle.acc_place.specs.declared.directive.Target.{Target}
use Rattle.acc_place.specs.declared.directive.Target.TheVariants.{Plain}
use Rattle.acc_place.specs.declared.directive.Waits.{Waits}
use Rattle.acc_place.specs.declared.directive.Waits.TheVariants as waits
use Rattle.acc_place.specs.declared.directive.Written.{Written}

-- the data clauses of a data construct and of a loop
abbrev pub is_of_region : Clause → Bool
is_of_region clause.Copy = true
is_of_region clause.Copyin = true
is_of_region clause.Copyout = true
is_of_region clause.Create = true
is_of_region clause.Present = true
is_of_region c = false

-- The data clauses of a directive; the end of a data construct, a wait and a question about queues have none.
abbrev pub allows_clause : Kind → Clause → Bool
allows_clause kind.Data clause.NoCreate = true
allows_clause kind.Data c = is_of_region c
allows_clause (kind.Loop k) c = is_of_region c
allows_clause kind.EnterData clause.Copyin = true
allows_clause kind.EnterData clause.Create = true
allows_clause (kind.ExitData f) clause.Copyout = true
allows_clause (kind.ExitData f) clause.Delete = true
allows_clause (kind.Update p) clause.UpdateSelf = true
allows_clause (kind.Update p) clause.UpdateDevice = true
allows_clause kind.IsPresent clause.Present = true
allows_clause k c = false

-- How many items a directive may have; acc_is_present asks about one range.
abbrev pub allows_count : Kind → ℕ → Bool
allows_count kind.EndData n = true
allows_count kind.Wait n = true
allows_count (kind.Loop k) n = true
allows_count kind.AsyncTest n = true
allows_count kind.IsPresent n = n == 1
allows_count k zero = false
allows_count k (suc n) = true

-- the directives that may have an async and a wait clause
abbrev pub may_be_async : Kind → Bool
may_be_async kind.EnterData = true
may_be_async (kind.ExitData f) = true
may_be_async (kind.Update p) = true
may_be_async (kind.Loop k) = true
may_be_async k = false

-- A wait directive and a question about queues name queues; the others only by a wait clause.
abbrev pub is_about_queues : Kind → Bool
is_about_queues kind.Wait = true
is_about_queues kind.AsyncTest = true
is_about_queues k = false

abbrev pub allows_target : Kind → Target → Bool
allows_target k Plain = true
allows_target kind.Wait t = true
allows_target k t = may_be_async k

abbrev pub allows_waits : Kind → Waits → Bool
allows_waits k waits.Nothing = not (is_about_queues k)
allows_waits k w = may_be_async k || is_about_queues k

abbrev pub allows_items : Kind → List DataItem → Bool
allows_items k is = list_all (λ (i : DataItem). allows_clause k i.clause) is

abbrev pub is_well_formed : Written → Bool
is_well_formed w =
    allows_items w.kind w.items && allows_count w.kind (length w.items) && allows_target w.kind w.target && allows_waits w.kind w.waits
