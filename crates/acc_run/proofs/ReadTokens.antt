-- A token's entries are compared with its host's own, one after another.
use Rattle.std.proofs.Common.{◌≡◌, List, ◌∷◌, true, ap}
use Rattle.std.specs.Prelude.{◌↔◌, map}
use Rattle.acc_run.specs.Tokens.{listed_entry}
use Rattle.acc_run.specs.declared.agreement.Unread.{Unread}
use Rattle.acc_run.specs.declared.token.TokenEntry.{TokenEntry}
use Rattle.acc_run.specs.inner.Reading.{IsListed, Reads}

-- one entry is read that is the same, and the others are left
pub one_read : (A : Type 0) (old new : Unread) (entries rest : List TokenEntry) (e : TokenEntry) → entries ≡ e ∷ rest → Reads old (listed_entry e) true new
    → (IsListed old (map listed_entry entries) ↔ A) → (IsListed new (map listed_entry rest) ↔ A)
one_read A old new entries rest e is read all =
    let one = read (map listed_entry rest) in
    let here : map listed_entry entries ≡ listed_entry e ∷ map listed_entry rest = ap (map listed_entry) is in
    (λ h. all.0 (rw here (one.0 h)), λ a. one.1 (rw here at (all.1 a)))
