-- The pieces of a text between bytes that part them, one after another: lines, and words.
use Rattle.std.proofs.Common.{◌≡◌, ℕ, suc, ◌+◌, ◌-◌, ◌<◌, ◌≤◌, Bool, true, false, List, [], ◌∷◌, length, take, drop, refl, sym, ap, ◌∙◌, arith}
use Rattle.std.proofs.lemmas.List.{take_all}
use Rattle.std.specs.Prelude.{◌==◌, not, filter}
use Rattle.std.specs.List.{prefix_len, slice_split, onto_first}
use Rattle.acc_schedule.specs.Schedules.{lines, is_space, is_filled, words, with_first}

prefix_len-yes : (p : ℕ → Bool) (b : ℕ) (bs : List ℕ) → p b ≡ true → prefix_len p (b ∷ bs) ≡ suc (prefix_len p bs)
prefix_len-yes p b bs e =
    let one : suc (prefix_len p bs) ≡ 1 + prefix_len p bs = omega arith in
    rw (e, one) refl

prefix_len-no : (p : ℕ → Bool) (b : ℕ) (bs : List ℕ) → p b ≡ false → prefix_len p (b ∷ bs) ≡ 0
prefix_len-no p b bs e = rw e refl

-- ## Pieces

module _ (parts : ℕ → Bool) where
  abbrev pub is_inside : ℕ → Bool
  is_inside b = not (parts b)

  split-part : (b : ℕ) (bs : List ℕ) → parts b ≡ true → slice_split parts (b ∷ bs) ≡ [] ∷ slice_split parts bs
  split-part b bs e = rw e refl

  split-inside : (b : ℕ) (bs : List ℕ) → parts b ≡ false → slice_split parts (b ∷ bs) ≡ onto_first b (slice_split parts bs)
  split-inside b bs e = rw e refl

  -- the pieces behind the first
  abbrev pub behind_first : List ℕ → List (List ℕ)
  behind_first [] = []
  behind_first (b ∷ bs) = slice_split parts bs

  pub split-first : (bs : List ℕ) → slice_split parts bs ≡ take (prefix_len is_inside bs) bs ∷ behind_first (drop (prefix_len is_inside bs) bs)
  split-first [] = refl
  split-first (b ∷ bs) = by_byte (parts b) refl (split-first bs)
    where
      by_byte : (v : Bool) → parts b ≡ v
          → slice_split parts bs ≡ take (prefix_len is_inside bs) bs ∷ behind_first (drop (prefix_len is_inside bs) bs)
          → slice_split parts (b ∷ bs) ≡ take (prefix_len is_inside (b ∷ bs)) (b ∷ bs) ∷ behind_first (drop (prefix_len is_inside (b ∷ bs)) (b ∷ bs))
      by_byte true e later = split-part b bs e ∙ ap (λ n. take n (b ∷ bs) ∷ behind_first (drop n (b ∷ bs))) (sym (prefix_len-no is_inside b bs (ap not e)))
      by_byte false e later =
          split-inside b bs e ∙ ap (onto_first b) later
          ∙ ap (λ n. take n (b ∷ bs) ∷ behind_first (drop n (b ∷ bs))) (sym (prefix_len-yes is_inside b bs (ap not e)))

-- ## Lines

abbrev pub line_len : List ℕ → ℕ
line_len text = prefix_len (λ b. not (b == 10)) text

pub lines-last : (text line behind : List ℕ) → line ≡ take (line_len text) text → behind ≡ drop (line_len text) text → length behind < 1
    → lines text ≡ line ∷ []
lines-last text line [] front back none =
    split-first (λ b. b == 10) text ∙ ap (λ l. l ∷ behind_first (λ b. b == 10) (drop (line_len text) text)) (sym front)
    ∙ ap (λ (bs : List ℕ). line ∷ behind_first (λ b. b == 10) bs) (sym back)
lines-last text line (b ∷ bs) front back none = absurd (omega arith)

pub lines-next : (text line behind : List ℕ) → line ≡ take (line_len text) text → behind ≡ drop (line_len text) text → 1 ≤ length behind
    → lines text ≡ line ∷ lines (take (length behind - 1) (drop 1 behind))
lines-next text line [] front back some = absurd (omega arith)
lines-next text line (b ∷ bs) front back some =
    split-first (λ b. b == 10) text ∙ ap (λ l. l ∷ behind_first (λ b. b == 10) (drop (line_len text) text)) (sym front)
    ∙ ap (λ (bs : List ℕ). line ∷ behind_first (λ b. b == 10) bs) (sym back)
    ∙ ap (λ (bs : List ℕ). line ∷ lines bs) (sym (take_all (length (b ∷ bs) - 1) bs (omega arith)))

-- ## Words

words-space : (b : ℕ) (bs : List ℕ) → is_space b ≡ true → words (b ∷ bs) ≡ words bs
words-space b bs e = ap (filter is_filled) (split-part is_space b bs e)

-- what is left behind spaces
abbrev pub begun : List ℕ → List ℕ
begun bs = drop (prefix_len is_space bs) bs

begun-space : (b : ℕ) (bs : List ℕ) → is_space b ≡ true → begun (b ∷ bs) ≡ begun bs
begun-space b bs e = ap (λ n. drop n (b ∷ bs)) (prefix_len-yes is_space b bs e)

begun-inside : (b : ℕ) (bs : List ℕ) → is_space b ≡ false → begun (b ∷ bs) ≡ b ∷ bs
begun-inside b bs e = ap (λ n. drop n (b ∷ bs)) (prefix_len-no is_space b bs e)

words-begun : (bs : List ℕ) → words (begun bs) ≡ words bs
words-begun [] = refl
words-begun (b ∷ bs) = by_byte (is_space b) refl (words-begun bs)
  where
    by_byte : (v : Bool) → is_space b ≡ v → words (begun bs) ≡ words bs → words (begun (b ∷ bs)) ≡ words (b ∷ bs)
    by_byte true e later = ap words (begun-space b bs e) ∙ later ∙ sym (words-space b bs e)
    by_byte false e later = ap words (begun-inside b bs e)

-- how many bytes the word has that begins here
abbrev pub word_len : List ℕ → ℕ
word_len bs = prefix_len (λ b. not (is_space b)) bs

word_len-space : (b : ℕ) (bs : List ℕ) → is_space b ≡ true → word_len (b ∷ bs) ≡ 0
word_len-space b bs e = prefix_len-no (λ b. not (is_space b)) b bs (ap not e)

word_len-inside : (b : ℕ) (bs : List ℕ) → is_space b ≡ false → word_len (b ∷ bs) ≡ suc (word_len bs)
word_len-inside b bs e = prefix_len-yes (λ b. not (is_space b)) b bs (ap not e)

-- where no word begins behind spaces, nothing is left
nothing_begun : (bs : List ℕ) → word_len (begun bs) ≡ 0 → begun bs ≡ []
nothing_begun [] none = refl
nothing_begun (b ∷ bs) none = by_byte (is_space b) refl (nothing_begun bs)
  where
    by_byte : (v : Bool) → is_space b ≡ v → (word_len (begun bs) ≡ 0 → begun bs ≡ []) → begun (b ∷ bs) ≡ []
    by_byte true e later = begun-space b bs e ∙ later (sym (ap word_len (begun-space b bs e)) ∙ none)
    by_byte false e later =
        let some = word_len-inside b bs e in
        let here : word_len (b ∷ bs) ≡ 0 = sym (ap word_len (begun-inside b bs e)) ∙ none in
        absurd (omega arith)

words-behind : (bs : List ℕ) → filter is_filled (behind_first is_space (drop (word_len bs) bs)) ≡ words (drop (word_len bs) bs)
words-behind [] = refl
words-behind (b ∷ bs) = by_byte (is_space b) refl (words-behind bs)
  where
    by_byte : (v : Bool) → is_space b ≡ v
        → filter is_filled (behind_first is_space (drop (word_len bs) bs)) ≡ words (drop (word_len bs) bs)
        → filter is_filled (behind_first is_space (drop (word_len (b ∷ bs)) (b ∷ bs))) ≡ words (drop (word_len (b ∷ bs)) (b ∷ bs))
    by_byte true e later = rw (word_len-space b bs e) (sym (words-space b bs e))
    by_byte false e later = rw (word_len-inside b bs e) later

pub words-next : (line word rest : List ℕ)
    → word ≡ take (word_len (begun line)) (begun line) → rest ≡ drop (word_len (begun line)) (begun line)
    → length word ≡ word_len (begun line)
    → words line ≡ with_first word (words rest)
words-next line [] rest front back long = sym (words-begun line) ∙ ap words (nothing_begun line (sym long))
words-next line (b ∷ bs) rest front back long =
    sym (words-begun line)
    ∙ ap (filter is_filled) (split-first is_space (begun line) ∙ ap (λ word. word ∷ behind_first is_space (drop (word_len (begun line)) (begun line))) (sym front))
    ∙ ap (λ others. (b ∷ bs) ∷ others) (words-behind (begun line) ∙ ap words (sym back))
