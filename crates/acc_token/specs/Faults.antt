-- What a reader answers: a value, or the first fault from the left.
use Rattle.std.specs.Prelude.{◌≡◌, ℕ, ◌≤◌, length, Result, Ok, Err, IfOk}
use Rattle.acc_token.specs.declared.at.At.{At}
use Rattle.acc_token.specs.declared.read_fault.ReadError.{ReadError}
use Rattle.acc_token.specs.declared.read_fault.ReadError.TheVariants as error
use Rattle.acc_token.specs.declared.read_fault.ReadFault.{ReadFault}
use Rattle.acc_token.specs.declared.read_fault.ReadKind.{ReadKind}

abbrev pub fails : {A : Type 0} → ℕ → ReadKind → Result A ReadFault
fails line kind = Err (record { line = line; kind = kind })

infixl 10 ◌>>=◌
abbrev pub ◌>>=◌ : {A B : Type 0} → Result A ReadFault → (A → Result B ReadFault) → Result B ReadFault
(Ok x) >>= f = f x
(Err fault) >>= f = Err fault

-- What a function answered, as the definition sees it, is what the definition gives.
abbrev pub Reads : {A B : Type 0} → (A → B) → Result A ReadFault → Result B ReadFault → Type 0
Reads view (Ok x) defined = defined ≡ Ok (view x)
Reads view (Err fault) defined = defined ≡ Err fault

-- Want of memory apart, a function that failed has the fault of the definition.
abbrev pub Fails : {A : Type 0} → ReadError → Result A ReadFault → Type 0
Fails error.Memory defined = Unit {0}
Fails (error.Fault fault) defined = defined ≡ Err fault

-- The same of a function that takes memory.
abbrev pub Gives : {A B : Type 0} → (A → B) → Result A ReadError → Result B ReadFault → Type 0
Gives view (Ok x) defined = defined ≡ Ok (view x)
Gives view (Err error) defined = Fails error defined

-- Behind what was read, no more bytes are left than there were.
abbrev pub Shortens : {A E : Type 0} → At → Result (A × At) E → Type 0
Shortens before result = IfOk result (λ read. length read.1.bytes.now ≤ length before.bytes.now)
