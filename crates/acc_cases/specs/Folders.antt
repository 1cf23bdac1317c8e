-- The files of a folder.
use Rattle.std.specs.Prelude.{◌≡◌, ℕ, List, [], ◌∷◌, Option, Some, None, Result, Ok, Err, bytes_eq, map, string_bytes, if◌then◌else◌}
use Rattle.std.specs.Global.{Global, Vec}
use Rattle.std.specs.Prelude as prelude
use Rattle.acc_cases.specs.declared.folder.FolderFault.{FolderFault}
use Rattle.acc_cases.specs.declared.folder.FolderFault.TheVariants.{Missing, Unusable, Memory}

pub record File : Type 0 where
  pub name : List ℕ
  pub bytes : List ℕ

-- what the file of a name holds, if there is one
abbrev pub file_bytes : List File → List ℕ → Option (List ℕ)
file_bytes [] name = None
file_bytes (f ∷ fs) name = if bytes_eq f.name name then Some f.bytes else file_bytes fs name

-- the files with one of this name and these bytes, in the place of the one of this name if there is one
abbrev pub with_file : List File → List ℕ → List ℕ → List File
with_file [] name bytes = record { name = name; bytes = bytes } ∷ []
with_file (f ∷ fs) name bytes = if bytes_eq f.name name then record f { bytes = bytes } ∷ fs else f ∷ with_file fs name bytes

-- It is so where the files are known.
abbrev pub Known : Option (List File) → (List File → Type 0) → Type 0
Known known P = (fs : List File) → known ≡ Some fs → P fs

-- The names are those of the files.
abbrev pub ListsFiles : List File → Result (Vec (prelude.String Global)) FolderFault → Type 0
ListsFiles fs (Ok names) = map string_bytes names.items ≡ map (λ f. f.name) fs
ListsFiles fs (Err Memory) = Unit {0}
ListsFiles fs (Err Missing) = ⊥
ListsFiles fs (Err Unusable) = ⊥

-- The bytes are those of the file of this name.
abbrev pub ReadsFile : List File → List ℕ → Result (Vec ℕ) FolderFault → Type 0
ReadsFile fs name (Ok bytes) = file_bytes fs name ≡ Some bytes.items
ReadsFile fs name (Err Missing) = file_bytes fs name ≡ None
ReadsFile fs name (Err Memory) = Unit {0}
ReadsFile fs name (Err Unusable) = ⊥
