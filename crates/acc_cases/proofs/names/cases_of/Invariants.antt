use Rattle.std.proofs.Common.{◌≡◌, ℕ, List, take}
use Rattle.std.specs.Prelude.{bytes_eq, string_bytes}
use Rattle.std.specs.List.{list_any}
use Rattle.acc_cases.specs.Names.{is_of}
use Rattle.acc_cases.proofs.names.cases_of.Given as goal

abbrev pub invariant-loop-file : goal.invariant-loop-file
invariant-loop-file l =
    (name : List ℕ) → list_any (λ n. bytes_eq name n.now) l.names.items ≡ list_any (λ f. is_of name (string_bytes f)) (take l.file-index l.files)
