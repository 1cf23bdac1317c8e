-- What is told of a text that is none of its language: where it stops, and what could stand there.
use Rattle.std.specs.Prelude.{◌≡◌, ℕ, ◌+◌, ◌≤◌, Bool, true, false, ◌==◌, ◌||◌, List, [], ◌∷◌, length, map, take, drop, codes, decimal, Some, IfSome}
use Rattle.std.specs.List.{after_last}
use Rattle.acc_token.specs.Texts.{line_feeds}
use Rattle.acc_check.specs.declared.finding.Finding.{Finding}
use Rattle.acc_check.specs.declared.language.Language.{Language}
use Rattle.acc_check.specs.declared.place.Place.{Place}
use Rattle.acc_check.specs.declared.place.Place.TheVariants.{AtEnd, AtPiece}
use Rattle.acc_check.specs.Languages.{text_fault}
use Rattle.acc_check.specs.Places.{could_stand, stands, IsPlace}

-- what stands behind the last line feed of a text
abbrev pub begun_line : List ℕ → List ℕ
begun_line text = after_last (λ b. b == 10) text

-- how many bytes stand before the place
abbrev pub start_in : List ℕ → Place → ℕ
start_in text AtEnd = length text
start_in text (AtPiece p) = p.start

-- the piece at the place, and nothing at the end
abbrev pub token_in : List ℕ → Place → List ℕ
token_in text AtEnd = []
token_in text (AtPiece p) = drop p.start (take p.end text)

-- a number of one digit
abbrev pub number_stands : Language → List ℕ → Bool
number_stands language before = stands language before (codes "1") || stands language before (codes "0")

-- a name, if it is one
abbrev pub name_stands : Language → List ℕ → List ℕ → Bool
name_stands language before [] = false
name_stands language before (b ∷ bs) = stands language before (b ∷ bs)

-- The words that are asked for. Where a name that isn't declared could stand, each word could as a name, so those alone that are
-- reserved.
abbrev pub told_words : Bool → List (List ℕ) → List (List ℕ)
told_words true words = codes "long" ∷ codes "int" ∷ []
told_words false words = words

-- What is told: what is wrong, the place, its line and column from 1, and which of these words, a name, a number, and the end of
-- the line could stand there. A `@` could in a comment alone.
pub record TellsFault (language : Language) (text : List ℕ) (words : List (List ℕ)) (f : Finding) : Type 0 where
  pub fault : text_fault language text ≡ Some f.fault
  pub place : IsPlace language text f.place
  pub token : f.token.now ≡ token_in text f.place
  pub start : f.start ≡ start_in text f.place
  pub within : f.start ≤ length text
  pub line : f.line ≡ 1 + line_feeds (take f.start text)
  pub column : f.column ≡ 1 + length (begun_line (take f.start text))
  pub stand : map (λ w. w.now) f.words.items ≡ could_stand language (take f.start text) (told_words f.new_name words)
  pub array : (name : List ℕ) × (f.array ≡ name_stands language (take f.start text) name)
  pub loop_name : (name : List ℕ) × (f.loop_name ≡ name_stands language (take f.start text) name)
  pub new_name : f.new_name ≡ stands language (take f.start text) (codes "_")
  pub number : f.number ≡ number_stands language (take f.start text)
  pub in_comment : f.in_comment ≡ stands language (take f.start text) (codes "@")
  pub line_end : f.line_end ≡ stands language (take f.start text) (10 ∷ [])
  pub most : IfSome f.most (λ n. stands language (take f.start text) (decimal n) ≡ true)
  pub no_more : IfSome f.most (λ n. stands language (take f.start text) (decimal (n + 1)) ≡ false)
