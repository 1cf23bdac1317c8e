-- What the code of operations that stand apart names. Only private contracts and proofs cite it.
use Rattle.acc_explore.specs.declared.conflicts.Access.{Access}
use Rattle.acc_explore.specs.ApartOperations.{in_block}
use Rattle.acc_kernel.specs.Faults.{is_assigned}
use Rattle.acc_kernel.specs.Jobs.{Use}
use Rattle.acc_kernel.specs.Kernels.{Loop}

-- the access of a loop's use
abbrev pub use_access : Loop → Use → Access
use_access k u = record { cells = in_block u.0 u.1; writes = is_assigned k.statements u.1.array }
