-- Bytes that wait to be put. Only private contracts and proofs cite it.
use Rattle.std.specs.Prelude.{◌≡◌, ℕ, List, ◌++◌}
use Rattle.acc_report.specs.Puts.{Puts, Sink}

-- A beginning of what waited was put, and the rest waits.
pub record IsHandedOn (old new : Sink) (waited waits : List ℕ) : Type 0 where
  pub done : List ℕ
  pub puts : Puts old new done
  pub rest : waited ≡ done ++ waits
