-- The worked examples, computed.
use Rattle.std.proofs.Common.{refl}
use Rattle.acc_driver.specs.Inputs.{parts}
use Rattle.acc_cases.specs.worked.Options.{AreRefused, AreSaid}
use Rattle.acc_cases.specs.worked.Texts.{TextsAreFound}

pub are_said : AreSaid
are_said = record { nothing = refl; blanks = refl; one = refl; all = refl; lines = refl; common = refl; own = refl }

pub are_refused : AreRefused
are_refused = record {
  unknown = refl;
  joined = refl;
  number = refl;
  twice = refl;
  alone = refl;
  no_device = refl;
  fifth_device = refl;
  many_cells = refl;
  wide_room = refl;
  plus = refl;
}

pub texts_are_found : TextsAreFound
unfolding parts
texts_are_found = record { behind = refl; nothing_behind = refl; own = refl; empty = refl; neither = refl; both = refl }
