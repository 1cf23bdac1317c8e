-- One piece more of a text.
use Rattle.std.proofs.Common.{◌≡◌, ℕ, zero, suc, ◌+◌, ◌-◌, ◌<◌, ◌≤◌, true, false, List, [], ◌∷◌, ◌++◌, length, drop, refl, sym, ap, ◌∙◌, append_assoc, true≢false, arith}
use Rattle.acc_script.specs.Arrays.{array_turn}
use Rattle.acc_script.specs.Scripts.{host_turn, script_at, script_of}
use Rattle.acc_token.specs.Tokens.{gap_at, token_at, token_len}
use Rattle.acc_schedule.specs.Schedules.{schedule_of, events_behind}
use Rattle.acc_check.specs.declared.language.Language.{Language}
use Rattle.acc_check.specs.declared.language.Language.TheVariants.{Script, Schedule}
use Rattle.acc_check.specs.Languages.{may_go_on, schedule_fault, schedule_goes_on, script_fault}
use Rattle.acc_check.specs.Places.{ends_from, piece_len}

ends_from-next : (n at : ℕ) (rest : List ℕ) → 0 < length rest
    → ends_from (suc n) at rest ≡ (at + piece_len rest) ∷ ends_from n (at + piece_len rest) (drop (piece_len rest) rest)
unfolding ends_from
ends_from-next n at [] some = absurd (omega arith)
ends_from-next n at (b ∷ bs) some = refl

pub none_left : (n at : ℕ) (rest : List ℕ) → length rest ≡ 0 → ends_from n at rest ≡ []
unfolding ends_from
none_left zero at rest none = refl
none_left (suc n) at [] none = refl
none_left (suc n) at (b ∷ bs) none = absurd (omega arith)

pub one_more : (so_far : List ℕ) (all past : ℕ) (rest behind : List ℕ)
    → past < all → 0 < length rest → length rest ≤ all → behind ≡ drop (piece_len rest) rest → length behind + piece_len rest ≡ length rest
    → so_far ++ ends_from (all - past) (all - length rest) rest
    ≡ (so_far ++ (all - length behind) ∷ []) ++ ends_from (all - (past + 1)) (all - length behind) behind
one_more so_far all past rest behind more some within back parts =
    let fuel : all - past ≡ suc (all - (past + 1)) = omega arith in
    let at : (all - length rest) + piece_len rest ≡ all - length behind = omega arith in
    let first : ends_from (all - past) (all - length rest) rest ≡ (all - length behind) ∷ ends_from (all - (past + 1)) (all - length behind) behind =
    rw (fuel, ends_from-next (all - (past + 1)) (all - length rest) rest some, at, sym back) refl in
    ap (λ (ends : List ℕ). so_far ++ ends) first
    ∙ sym (append_assoc so_far ((all - length behind) ∷ []) (ends_from (all - (past + 1)) (all - length behind) behind))

-- nothing is a script, and a schedule
pub nothing_goes_on : (language : Language) → may_go_on language [] ≡ true
unfolding script_fault schedule_fault schedule_goes_on script_of script_at array_turn host_turn token_at gap_at token_len schedule_of events_behind
nothing_goes_on Script = refl
nothing_goes_on (Schedule hosts devices) = refl

pub stops_somewhere : (language : Language) (text : List ℕ) → may_go_on language text ≡ false → 0 < length text
stops_somewhere language [] stops = absurd (true≢false (sym (nothing_goes_on language) ∙ stops))
stops_somewhere language (b ∷ bs) stops = omega arith
