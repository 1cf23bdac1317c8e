-- Hosts that are run, each in a thread of its own.
use Rattle.std.specs.Prelude.{◌≡◌, ℕ, List, [], ◌∷◌, length, map}
use Rattle.acc_host.specs.Hosts.{AreNumbered, HostView, ready}
use Rattle.acc_host.specs.declared.program.HostProgram.{HostProgram}
use Rattle.acc_run.specs.Calling.{Went}
use Rattle.acc_run.specs.Tokens.{AreTokens, TokenView}

-- A host is ready for its first statement, and the token is its own.
pub record IsPaired (host : HostView) (token : TokenView) : Type 0 where
  pub own : token.host ≡ host.host
  pub program : HostProgram
  pub fresh : host ≡ ready program

-- So it is of each host and the token in its place.
abbrev pub Paired : List HostView → List TokenView → Type 0
Paired [] [] = Unit {0}
Paired (h ∷ hs) (t ∷ ts) = IsPaired h t × Paired hs ts
Paired [] (t ∷ ts) = ⊥
Paired (h ∷ hs) [] = ⊥

-- New hosts of programs in their order, and as many tokens that list nothing yet, are paired.
abbrev pub NewHostsArePaired : Type 0
NewHostsArePaired =
    (n : ℕ) (programs : List HostProgram) (tokens : List TokenView)
    → AreNumbered n programs → AreTokens n tokens → length tokens ≡ length programs → Paired (map ready programs) tokens

-- A host has gone, and came back with its own token.
pub record CameBack (devices : ℕ) (host : HostView) (token : TokenView) (after : HostView) (longer : TokenView) : Type 0 where
  pub own : longer.host ≡ token.host
  pub went : Went devices host token.entries after longer.entries

-- So has each host.
abbrev pub WentEach : ℕ → List HostView → List TokenView → List HostView → List TokenView → Type 0
WentEach devices [] [] [] [] = Unit {0}
WentEach devices (h ∷ hs) (t ∷ ts) (i ∷ is) (u ∷ us) = CameBack devices h t i u × WentEach devices hs ts is us
WentEach devices hs ts is us = ⊥
