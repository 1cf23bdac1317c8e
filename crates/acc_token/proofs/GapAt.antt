-- What one byte between two tokens does, at its place in the text.
use Rattle.std.proofs.Common.{◌≡◌, ℕ, ◌+◌, ◌<◌, Bool, List, length, drop, get_or, drop-cons, add-one, refl, Ok}
use Rattle.acc_token.specs.declared.read_fault.ReadKind.TheVariants.{Text}
use Rattle.acc_token.specs.declared.token.Gap.{Gap}
use Rattle.acc_token.specs.declared.token.Step.TheVariants.{Skip, Stop, Fail}
use Rattle.acc_token.specs.Faults.{fails}
use Rattle.acc_token.specs.Tokens.{gap_at, line_after, step_of}

pub gap_skips : (gap next : Gap) (in_directive : Bool) (line i : ℕ) (bytes : List ℕ)
    → i < length bytes → step_of gap in_directive (get_or bytes i 0) ≡ Skip next
    → gap_at gap in_directive line (drop i bytes) ≡ gap_at next in_directive (line_after line (get_or bytes i 0)) (drop (i + 1) bytes)
unfolding gap_at
gap_skips gap next in_directive line i bytes h e = rw (drop-cons bytes i 0, e, gap_at, add-one i) refl

pub gap_stops : (gap : Gap) (in_directive : Bool) (line i : ℕ) (bytes : List ℕ)
    → i < length bytes → step_of gap in_directive (get_or bytes i 0) ≡ Stop
    → gap_at gap in_directive line (drop i bytes) ≡ Ok (record { line = line; bytes = drop i bytes })
unfolding gap_at
gap_stops gap in_directive line i bytes h e = rw (drop-cons bytes i 0, e, gap_at) refl

pub gap_fails : (gap : Gap) (in_directive : Bool) (line i : ℕ) (bytes : List ℕ)
    → i < length bytes → step_of gap in_directive (get_or bytes i 0) ≡ Fail
    → gap_at gap in_directive line (drop i bytes) ≡ fails line Text
unfolding gap_at
gap_fails gap in_directive line i bytes h e = rw (drop-cons bytes i 0, e, gap_at) refl
