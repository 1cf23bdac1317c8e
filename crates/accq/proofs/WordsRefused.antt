-- Words that are refused are told, and nothing is written.
use Rattle.std.proofs.Common.{inl, inr, ◌⊎◌, ◌≡◌, ℕ, List, [], Option, Some, None, sym}
use Rattle.std.specs.Prelude.{Bool}
use Rattle.std.specs.Io.KnownBytes.{Appends}
use Rattle.std.proofs.lemmas.List.{append-nil}
use Rattle.acc_cases.specs.Folders.{File}
use Rattle.accq.specs.Statuses.{TellsWords}
use Rattle.accq.specs.Words.{Asked}

appends_nothing : (written : Option (List ℕ)) → Appends written written []
appends_nothing None = tt
appends_nothing (Some xs) = sym (append-nil xs)

-- They ask for nothing, or no memory was there to read them.
pub words_refused : (asked : Option Asked) (holds : List ℕ → Option (List ℕ)) (opens : List ℕ → Option Bool) (files_in : List ℕ → Option (List File)) (written : Option (List ℕ)) (status : ℕ) (NoMemory : Type 0)
    → NoMemory ⊎ (asked ≡ None) → (NoMemory → status ≡ 3) → (status ≡ 2) ⊎ (status ≡ 3) → TellsWords asked holds opens files_in written written status
words_refused None holds opens files_in written status NoMemory why memory told = (appends_nothing written, told)
words_refused (Some asked) holds opens files_in written status NoMemory (inl none) memory told = inl (appends_nothing written, memory none)
words_refused (Some asked) holds opens files_in written status NoMemory (inr nothing) memory told = cc
