-- What the guide says of what a word names. Its texts are constants that are made of it.
use Rattle.std.specs.Prelude.{◌||◌, ℕ, Bool, List, [], ◌∷◌, Option, Some, None, bytes_eq, codes, find, map, option_map}
use Rattle.std.specs.Char.{to_ascii_lowercase}
use Rattle.accq.specs.declared.explanations.TheConstants.{BAD_ASYNC, BAD_DEVICE, BAD_RANGE, CLOSED, DEVICE_FULL, END, FORM, HOSTS_DIFFER, LIMIT, MEMORY, NAME, NOT_PRESENT, NO_REGION, OUTSIDE_RANGE, PARTLY_PRESENT, QUEUE_FULL, TEXT, TOO_MANY, UNFINISHED}

-- the same letters, be they capital or small
abbrev pub same_word : List ℕ → List ℕ → Bool
same_word a b = bytes_eq (map to_ascii_lowercase a) (map to_ascii_lowercase b)

-- A fault of a statement is named by its number or its name.
abbrev pub is_fault : List ℕ → List ℕ → List ℕ → Bool
is_fault number name word = same_word number word || same_word name word

-- each fault of a statement, with its text
abbrev pub faults : List (List ℕ × List ℕ × List ℕ)
faults =
    (codes "F1", codes "Closed", CLOSED.now) ∷ (codes "F2", codes "BadDevice", BAD_DEVICE.now) ∷ (codes "F3", codes "BadAsync", BAD_ASYNC.now)
    ∷ (codes "F4", codes "BadRange", BAD_RANGE.now) ∷ (codes "F5", codes "TooMany", TOO_MANY.now) ∷ (codes "F6", codes "PartlyPresent", PARTLY_PRESENT.now)
    ∷ (codes "F7", codes "NotPresent", NOT_PRESENT.now) ∷ (codes "F8", codes "DeviceFull", DEVICE_FULL.now) ∷ (codes "F9", codes "OutsideRange", OUTSIDE_RANGE.now)
    ∷ (codes "F10", codes "NoRegion", NO_REGION.now) ∷ (codes "F11", codes "Memory", MEMORY.now) ∷ (codes "F12", codes "QueueFull", QUEUE_FULL.now)
    ∷ (codes "F13", codes "Unfinished", UNFINISHED.now) ∷ (codes "F14", codes "HostsDiffer", HOSTS_DIFFER.now) ∷ []

-- each kind of fault of a text, with its text
abbrev pub kinds : List (List ℕ × List ℕ)
kinds =
    (codes "Text", TEXT.now) ∷ (codes "End", END.now) ∷ (codes "Name", NAME.now) ∷ (codes "Limit", LIMIT.now) ∷ (codes "Form", FORM.now) ∷ []

abbrev pub fault_explained : List ℕ → Option (List ℕ)
fault_explained word = option_map (λ f. f.2) (find (λ f. is_fault f.0 f.1 word) faults)

abbrev pub kind_explained : List ℕ → Option (List ℕ)
kind_explained word = option_map (λ k. k.1) (find (λ k. same_word k.0 word) kinds)

abbrev pub or_kind : List ℕ → Option (List ℕ) → Option (List ℕ)
or_kind word (Some text) = Some text
or_kind word None = kind_explained word

-- the text of the fault that a word names, or else of the kind
abbrev pub text_for : List ℕ → Option (List ℕ)
text_for word = or_kind word (fault_explained word)
