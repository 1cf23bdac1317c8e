-- The texts of a case, by its script and the schedule of its own.
use Rattle.std.specs.Prelude.{◌≡◌, [], Some, None, codes}
use Rattle.acc_cases.specs.Cases.{texts_of}

-- A schedule stands behind the script or in a file of its own, which may be empty; a case with none, or with both, has no texts.
pub record TextsAreFound : Type 0 where
  pub behind : texts_of (codes "a\n%%\nb") None ≡ Some (record { script = codes "a\n"; schedule = codes "b" })
  pub nothing_behind : texts_of (codes "a\n%%") None ≡ Some (record { script = codes "a\n"; schedule = [] })
  pub own : texts_of (codes "a\n") (Some (codes "b")) ≡ Some (record { script = codes "a\n"; schedule = codes "b" })
  pub empty : texts_of (codes "a\n") (Some []) ≡ Some (record { script = codes "a\n"; schedule = [] })
  pub neither : texts_of (codes "a\n") None ≡ None
  pub both : texts_of (codes "a\n%%\nb") (Some (codes "b")) ≡ None
