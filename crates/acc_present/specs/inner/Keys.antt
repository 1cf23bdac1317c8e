-- The keys by which entries are found.
use Rattle.std.specs.Prelude.{◌≡◌, ℕ, ◌+◌, ◌*◌, ◌<◌, List, map, All}
use Rattle.std.specs.List.{position_or_len}
use Rattle.acc_base.specs.declared.range.Range.{Range}
use Rattle.acc_present.specs.declared.entry.Entry.{Entry}
use Rattle.acc_present.specs.Lifetimes.{is_before}
use Rattle.acc_present.specs.Presences.{Presence}

-- a number for the range's first cell
abbrev pub key_of : Range → ℕ
key_of r = r.array * 4294967296 + r.lo

-- these are the entries' keys, and no two cells of entries have the same
pub record AreKeyed (es : List Entry) (ks : List ℕ) : Type 0 where
  pub keys : ks ≡ map (λ e. key_of e.range) es
  pub low : All (λ e. e.range.lo < 4294967296) es

-- how many presences come before the first that begins behind a range's first cell
abbrev pub behind : Range → List Presence → ℕ
behind r ps = position_or_len (λ p. is_before r p.range) ps
