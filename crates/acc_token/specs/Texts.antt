-- The limit of a text, its lines, and how its bytes are shown.
use Rattle.std.specs.Prelude.{ℕ, ◌+◌, ◌==◌, ◌&&◌, ◌||◌, not, nat_lt, List, length, take, count_by, Result, if◌then◌else◌}
use Rattle.acc_token.specs.declared.read_fault.ReadFault.{ReadFault}
use Rattle.acc_token.specs.declared.read_fault.ReadKind.TheVariants.{Limit}
use Rattle.acc_token.specs.Faults.{fails}

abbrev pub line_feeds : List ℕ → ℕ
line_feeds text = count_by (λ b. b == 10) text

-- A text that is too long is told by the line that its first bytes, up to the limit, end in.
abbrev pub within : {A : Type 0} → ℕ → (List ℕ → Result A ReadFault) → List ℕ → Result A ReadFault
within limit read text =
    if nat_lt limit (length text) then fails (1 + line_feeds (take limit text)) Limit else read text

-- a byte as it is shown: `?` for one that isn't printed, but for a tab
abbrev pub shown_byte : ℕ → ℕ
shown_byte b = if nat_lt b 32 && not (b == 9) || b == 127 then 63 else b
