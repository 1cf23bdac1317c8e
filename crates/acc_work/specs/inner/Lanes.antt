-- How a lane counts the batches that it has performed. Only private contracts and proofs cite it.
use Rattle.std.specs.Prelude.{◌≡◌, ℕ, ◌-◌, ◌<◌, ◌^◌, length, min}
use Rattle.acc_work.specs.Lanes.{LaneView, lane_done}

-- Where something is left there is a batch that it is left of; and the count is that of the batches that are performed, as far as a
-- number of 64 bits goes.
pub record IsCounted (lane : LaneView) (done : ℕ) : Type 0 where
  pub begun : 0 < length lane.left → 0 < length lane.taken
  pub count : done ≡ min (lane_done lane) (2 ^ 64 - 1)
