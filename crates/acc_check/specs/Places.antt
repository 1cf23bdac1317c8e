-- Where a text stops being the beginning of one of its language.
use Rattle.std.specs.Prelude.{◌≡◌, ℕ, zero, suc, ◌+◌, ◌<◌, ◌≤◌, Bool, true, false, ◌&&◌, ◌||◌, ◌==◌, List, [], ◌∷◌, ◌++◌, length, take, drop, filter, slice_index_or, if◌then◌else◌}
use Rattle.std.specs.List.{prefix_len}
use Rattle.acc_token.specs.Tokens.{front, is_pair, is_word_byte}
use Rattle.acc_check.specs.declared.language.Language.{Language}
use Rattle.acc_check.specs.declared.place.Piece.{Piece}
use Rattle.acc_check.specs.declared.place.Place.{Place}
use Rattle.acc_check.specs.declared.place.Place.TheVariants.{AtEnd, AtPiece}
use Rattle.acc_check.specs.Languages.{may_go_on}

-- ## The pieces of a text

-- `//` and `/*`
abbrev pub opens_comment : ℕ → ℕ → Bool
opens_comment a b = a == 47 && (b == 47 || b == 42)

-- How many bytes the piece has that begins here: a word or a number is one, a sign, what opens a comment, and each other byte.
unfoldable pub piece_len : List ℕ → ℕ
piece_len [] = 0
piece_len (b ∷ bs) =
    if is_word_byte b then suc (prefix_len is_word_byte bs)
    else (if is_pair b (front bs) || opens_comment b (front bs) then 2 else 1)

-- where the pieces end that begin here, behind so many bytes; there are at most so many
unfoldable pub ends_from : ℕ → ℕ → List ℕ → List ℕ
ends_from zero at bytes = []
ends_from (suc n) at [] = []
ends_from (suc n) at (b ∷ bs) =
    (at + piece_len (b ∷ bs)) ∷ ends_from n (at + piece_len (b ∷ bs)) (drop (piece_len (b ∷ bs)) (b ∷ bs))

-- where each piece of a text ends
unfoldable pub ends_of : List ℕ → List ℕ
ends_of text = ends_from (length text) 0 text

-- where the piece of this number begins: where the one before it ends
abbrev pub piece_start : List ℕ → ℕ → ℕ
piece_start ends zero = 0
piece_start ends (suc i) = slice_index_or ends i 0

abbrev pub end_of : List ℕ → ℕ → ℕ
end_of ends i = slice_index_or ends i 0

-- A text stops at this piece: before it the text goes on, and with it it doesn't.
pub record Stops (language : Language) (text : List ℕ) (i : ℕ) : Type 0 where
  pub there : i < length (ends_of text)
  pub before : may_go_on language (take (piece_start (ends_of text) i) text) ≡ true
  pub behind : may_go_on language (take (end_of (ends_of text) i) text) ≡ false

-- The piece at which a text stops.
pub record IsStop (language : Language) (text : List ℕ) (p : Piece) : Type 0 where
  pub number : Stops language text p.number
  pub start : p.start ≡ piece_start (ends_of text) p.number
  pub end : p.end ≡ end_of (ends_of text) p.number
  pub within : (p.start ≤ length text) × (p.end ≤ length text)

-- Where a text stops: at its end where it goes on, or else at a piece.
abbrev pub IsPlace : Language → List ℕ → Place → Type 0
IsPlace language text AtEnd = may_go_on language text ≡ true
IsPlace language text (AtPiece p) = IsStop language text p

-- ## What could stand there

abbrev pub stands : Language → List ℕ → List ℕ → Bool
stands language before word = may_go_on language (before ++ 32 ∷ word)

abbrev pub could_stand : Language → List ℕ → List (List ℕ) → List (List ℕ)
could_stand language before words = filter (stands language before) words
