-- What a contract sees of a runtime.
use Rattle.std.specs.Prelude.{Bool}
use Rattle.acc_base.specs.Configurations.{Configuration}

-- The configuration that it was made for, and whether the first reader of its queues' progress is still there. What is under its
-- locks changes while it is shared, and no contract sees it.
pub record RuntimeView : Type 0 where
  pub config : Configuration
  pub has_reader : Bool
