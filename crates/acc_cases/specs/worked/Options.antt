-- Lines of options, and what they say.
use Rattle.std.specs.Prelude.{◌≡◌, ℕ, List, [], ◌∷◌, Some, None, codes}
use Rattle.acc_driver.specs.Replays.{defaults}
use Rattle.acc_driver.specs.declared.options.Options.{Options}
use Rattle.acc_cases.specs.Options.{options_in}

-- beside the defaults the line says these options
abbrev says : List ℕ → ℕ → ℕ → ℕ → Type 0
says line devices cells room = options_in defaults line ≡ Some (record { devices = devices; cells = cells; room = room })

-- it says none
abbrev says_none : List ℕ → Type 0
says_none line = options_in defaults line ≡ None

-- three devices
abbrev three : Options
three = record defaults { devices = 3 }

-- Options stand in any order, between blanks. What a line doesn't say is as in the common options.
pub record AreSaid : Type 0 where
  pub nothing : says [] 1 4194304 64
  pub blanks : says (32 ∷ 9 ∷ 13 ∷ 10 ∷ []) 1 4194304 64
  pub one : says (codes "--devices 2\n") 2 4194304 64
  pub all : says (codes "--room 1024 --devices 4 --cells 4294967296") 4 4294967296 1024
  pub lines : says (codes " --room\n01\n--devices\t1") 1 4194304 1
  pub common : options_in three (codes "--room 4") ≡ Some (record three { room = 4 })
  pub own : options_in three (codes "--devices 2") ≡ Some (record three { devices = 2 })

-- A line says none with a word that is no option, an option that stands a second time or alone, and a number beyond its limits or not in digits alone.
pub record AreRefused : Type 0 where
  pub unknown : says_none (codes "--hosts 2")
  pub joined : says_none (codes "--devices=2")
  pub number : says_none (codes "2 --devices 2")
  pub twice : says_none (codes "--devices 2 --devices 2")
  pub alone : says_none (codes "--room")
  pub no_device : says_none (codes "--devices 0")
  pub fifth_device : says_none (codes "--room 2 --devices 5")
  pub many_cells : says_none (codes "--cells 4294967297")
  pub wide_room : says_none (codes "--room 1025")
  pub plus : says_none (codes "--room +3")
