-- The faults of a loop: the code and the name of each, and the first one.
use Rattle.std.specs.Prelude.{◌≡◌, ℕ, ℤ, ◌≤◌, ◌≤ℤ◌, pos, neg_ℤ, Bool, false, not, ◌&&◌, ◌||◌, ◌==◌, nat_lt, int_lt, List, length, codes, Option, Some, None, if◌then◌else◌}
use Rattle.std.specs.List.{All, list_any}
use Rattle.std.specs.Ordering.{int_eq}
use Rattle.acc_kernel.specs.declared.assign.Assign.{Assign}
use Rattle.acc_kernel.specs.declared.fault.KernelFault.{KernelFault}
use Rattle.acc_kernel.specs.declared.fault.KernelFault.TheVariants.{ReadsAssigned, NoStatement, TooDeep, TooFar, TooMany, Memory}
use Rattle.acc_kernel.specs.declared.limits.TheConstants.{MAX_DEPTH, MAX_DISTANCE, MAX_STATEMENTS}
use Rattle.acc_kernel.specs.Kernels.{Loop, references}
use Rattle.acc_kernel.specs.Trees.{Reference, depth_of}

abbrev pub code_of : KernelFault → List ℕ
code_of ReadsAssigned = codes "K1"
code_of NoStatement = codes "K2"
code_of TooDeep = codes "K3"
code_of TooFar = codes "K4"
code_of TooMany = codes "F5"
code_of Memory = codes "F11"

abbrev pub loop_fault_name : KernelFault → List ℕ
loop_fault_name ReadsAssigned = codes "ReadsAssigned"
loop_fault_name NoStatement = codes "NoStatement"
loop_fault_name TooDeep = codes "TooDeep"
loop_fault_name TooFar = codes "TooFar"
loop_fault_name TooMany = codes "TooMany"
loop_fault_name Memory = codes "Memory"

-- some statement assigns the array
abbrev pub is_assigned : List Assign → ℕ → Bool
is_assigned statements array = list_any (λ s. s.array == array) statements

-- the cell, off the index, of an array that is assigned
abbrev pub is_off_by : (ℕ → Bool) → Reference → Bool
is_off_by assigned r = not (int_eq r.offset (pos 0)) && assigned r.array

abbrev pub is_off : List Assign → Reference → Bool
is_off statements = is_off_by (is_assigned statements)

abbrev pub reads_assigned : List Assign → Bool
reads_assigned statements = list_any (is_off statements) (references statements)

abbrev pub is_deep : Assign → Bool
is_deep s = nat_lt MAX_DEPTH (depth_of s.value)

-- farther from zero than the limit, on either side
abbrev pub is_far : ℤ → Bool
is_far n = int_lt n (neg_ℤ MAX_DISTANCE) || int_lt MAX_DISTANCE n

abbrev pub has_far : Loop → Bool
has_far k = (is_far k.lo || is_far k.hi) || list_any (λ (r : Reference). is_far r.offset) (references k.statements)

-- the first fault, or none within the limits
abbrev pub loop_fault : Loop → Option KernelFault
loop_fault k =
    if reads_assigned k.statements then Some ReadsAssigned
    else (if length k.statements == 0 then Some NoStatement
    else (if list_any is_deep k.statements then Some TooDeep
    else (if has_far k then Some TooFar
    else (if nat_lt MAX_STATEMENTS (length k.statements) then Some TooMany else None))))

-- why a loop is refused: its first fault, and want of memory where it has none
abbrev pub IsLoopRefusal : Option KernelFault → KernelFault → Type 0
IsLoopRefusal (Some fault) f = f ≡ fault
IsLoopRefusal None f = f ≡ Memory

abbrev pub IsNear : ℤ → Type 0
IsNear n = (neg_ℤ MAX_DISTANCE ≤ℤ n) × (n ≤ℤ MAX_DISTANCE)

-- what each loop keeps that was accepted
pub record IsLoopWithinLimits (k : Loop) : Type 0 where
  pub apart : All (λ (r : Reference). is_off k.statements r ≡ false) (references k.statements)
  pub depth : All (λ (s : Assign). depth_of s.value ≤ MAX_DEPTH) k.statements
  pub lo : IsNear k.lo
  pub hi : IsNear k.hi
  pub offsets : All (λ (r : Reference). IsNear r.offset) (references k.statements)
  pub count : (1 ≤ length k.statements) × (length k.statements ≤ MAX_STATEMENTS)
