-- The examples, computed.
use Rattle.std.proofs.Common.{refl}
use Rattle.acc_driver.specs.Inputs.{parts}
use Rattle.acc_driver.specs.worked.Splits.{SplitTexts}

pub split_texts : SplitTexts
unfolding parts
split_texts = record {
  whole = refl;
  nothing = refl;
  two_parts = refl;
  second_line = refl;
  at_start = refl;
  at_end = refl;
  behind_a_byte = refl;
  before_a_byte = refl;
  before_a_blank = refl;
  before_a_return = refl;
}
