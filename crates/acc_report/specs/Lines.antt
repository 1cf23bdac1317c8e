-- The lines of a report: what a host printed and where it stands, a range that is present, and what a queue has performed.
use Rattle.std.specs.Prelude.{ℕ, zero, suc, ◌==◌, List, [], ◌∷◌, ◌++◌, slice_index_or, ℤ, codes, decimal, if◌then◌else◌}
use Rattle.std.specs.Fmt.{signed_decimal}
use Rattle.std.specs.List.{flat_map}
use Rattle.acc_base.specs.declared.fault.Fault.{Fault}
use Rattle.acc_base.specs.declared.ids.QueueAt.{QueueAt}
use Rattle.acc_base.specs.Faults.{fault_number, fault_name}
use Rattle.acc_present.specs.Presences.{Presence}
use Rattle.acc_host.specs.declared.state.HostState.{HostState}
use Rattle.acc_host.specs.declared.state.HostState.TheVariants.{Running, Finished, Refused}

-- the texts of 0 to n - 1, in order
abbrev pub each_below : ℕ → (ℕ → List ℕ) → List ℕ
each_below zero text = []
each_below (suc n) text = each_below n text ++ text n

-- the values of a print, separated by one space
abbrev pub values_text : List ℤ → List ℕ
values_text [] = []
values_text (value ∷ values) = signed_decimal value ++ flat_map (λ v. codes " " ++ signed_decimal v) values

-- a line of values
unfoldable pub line_text : List ℤ → List ℕ
line_text values = values_text values ++ codes "\n"

-- refused LINE Fn NAME
unfoldable pub refusal_text : ℕ → Fault → List ℕ
refusal_text line fault =
    codes "refused " ++ (decimal line ++ (codes " F" ++ (decimal (fault_number fault) ++ (codes " " ++ (fault_name fault ++ codes "\n")))))

-- where a host stands
unfoldable pub state_text : HostState → List ℕ
state_text (Running ended) = codes "unfinished\n"
state_text Finished = codes "done\n"
state_text (Refused ended line fault) = refusal_text line fault

-- present D NAME[LO:LEN] s S d N
unfoldable pub presence_text : List (List ℕ) → ℕ → Presence → List ℕ
presence_text names device p =
    codes "present " ++ (decimal device ++ (codes " " ++ (slice_index_or names p.range.array []
    ++ (codes "[" ++ (decimal p.range.lo ++ (codes ":" ++ (decimal p.range.len
    ++ (codes "] s " ++ (decimal p.s ++ (codes " d " ++ (decimal p.d ++ codes "\n")))))))))))

abbrev pub queue_name : ℕ → List ℕ
queue_name zero = codes "sync"
queue_name (suc zero) = codes "noval"
queue_name (suc (suc value)) = decimal value

-- what of a queue was discarded, if anything was
unfoldable pub discarded_text : ℕ → List ℕ
discarded_text count = if count == 0 then [] else codes " discarded " ++ decimal count

-- queue D Q batches B operations P of O, and where there is one, discarded X
unfoldable pub totals_text : QueueAt → ℕ → ℕ → ℕ → ℕ → List ℕ
totals_text at batches performed operations discarded =
    if batches == 0 then []
    else codes "queue " ++ (decimal at.device ++ (codes " " ++ (queue_name at.queue
    ++ (codes " batches " ++ (decimal batches ++ (codes " operations " ++ (decimal performed
    ++ (codes " of " ++ (decimal operations ++ (discarded_text discarded ++ codes "\n"))))))))))
