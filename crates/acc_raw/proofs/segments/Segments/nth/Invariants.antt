use Rattle.std.proofs.Common.{◌≡◌, drop, slice_get}
use Rattle.acc_raw.specs.inner.Segments.{seats_of}
use Rattle.acc_raw.proofs.segments.Segments.nth.Given as goal

abbrev pub invariant-loop-segment : goal.invariant-loop-segment
invariant-loop-segment l = slice_get l.fn.self.items l.fn.at ≡ slice_get (seats_of (drop l.segment-index l.segment-items)) l.left
