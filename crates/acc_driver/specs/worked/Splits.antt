-- The definition of where a text is split, computed on small texts.
use Rattle.std.specs.Prelude.{◌≡◌, ℕ, List, [], codes}
use Rattle.acc_driver.specs.Inputs.{parts}

abbrev splits : List ℕ → List ℕ → List ℕ → Type 0
splits text script schedule = parts text ≡ record { script = script; schedule = schedule }

pub record SplitTexts : Type 0 where
  pub whole : splits (codes "a\nb") (codes "a\nb") []
  pub nothing : splits [] [] []
  pub two_parts : splits (codes "a\n%%\nb\n") (codes "a\n") (codes "b\n")
  pub second_line : splits (codes "a\n%%\nb\n%%\nc") (codes "a\n") (codes "b\n%%\nc")
  pub at_start : splits (codes "%%\nb") [] (codes "b")
  pub at_end : splits (codes "a\n%%") (codes "a\n") []
  pub behind_a_byte : splits (codes "a%%\nb") (codes "a%%\nb") []
  pub before_a_byte : splits (codes "%%%\nb") (codes "%%%\nb") []
  pub before_a_blank : splits (codes "%% \nb") (codes "%% \nb") []
  pub before_a_return : splits (codes "%%\r\nb") (codes "%%\r\nb") []
