-- The number and the name of each fault, and the one of calls that ask for memory alone.
use Rattle.std.specs.Prelude.{◌≡◌, ℕ, List, IfErr, Result, codes}
use Rattle.acc_base.specs.declared.fault.Fault.{Fault}
use Rattle.acc_base.specs.declared.fault.Fault.TheVariants.{Closed, BadDevice, BadAsync, BadRange, TooMany, PartlyPresent, NotPresent, DeviceFull, OutsideRange, NoRegion, Memory, QueueFull, Unfinished, HostsDiffer}

abbrev pub fault_number : Fault → ℕ
fault_number Closed = 1
fault_number BadDevice = 2
fault_number BadAsync = 3
fault_number BadRange = 4
fault_number TooMany = 5
fault_number PartlyPresent = 6
fault_number NotPresent = 7
fault_number DeviceFull = 8
fault_number OutsideRange = 9
fault_number NoRegion = 10
fault_number Memory = 11
fault_number QueueFull = 12
fault_number Unfinished = 13
fault_number HostsDiffer = 14

abbrev pub fault_name : Fault → List ℕ
fault_name Closed = codes "Closed"
fault_name BadDevice = codes "BadDevice"
fault_name BadAsync = codes "BadAsync"
fault_name BadRange = codes "BadRange"
fault_name TooMany = codes "TooMany"
fault_name PartlyPresent = codes "PartlyPresent"
fault_name NotPresent = codes "NotPresent"
fault_name DeviceFull = codes "DeviceFull"
fault_name OutsideRange = codes "OutsideRange"
fault_name NoRegion = codes "NoRegion"
fault_name Memory = codes "Memory"
fault_name QueueFull = codes "QueueFull"
fault_name Unfinished = codes "Unfinished"
fault_name HostsDiffer = codes "HostsDiffer"

-- A call is refused for want of memory alone.
abbrev pub OnlyMemory : {X : Type 0} → Result X Fault → Type 0
OnlyMemory result = IfErr result (λ fault. fault ≡ Memory)
