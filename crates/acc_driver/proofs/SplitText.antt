-- Where a text is split, and how much of it is read.
use Rattle.std.proofs.Common.{◌≡◌, ℕ, zero, suc, ◌+◌, ◌-◌, ◌*◌, ◌<◌, ◌≤◌, Bool, true, false, List, [], ◌∷◌, ◌++◌, length, take, drop, drop-drop, take-add, append-nil, append_assoc, Result, refl, sym, ap, ◌∙◌, arith}
use Rattle.std.proofs.lemmas.Bool.{and_parts, lt-ltb, ltb-true, ltb-false}
use Rattle.std.proofs.lemmas.List.{take_all, drop_all, take-take, drop-take, length-take-le}
use Rattle.std.specs.Prelude.{◌==◌, ◌&&◌, nat_lt, bytes_eq, codes, if◌then◌else◌}
use Rattle.acc_token.specs.declared.read_fault.ReadFault.{ReadFault}
use Rattle.acc_token.specs.declared.read_fault.ReadKind.TheVariants.{Limit}
use Rattle.acc_token.specs.Faults.{fails}
use Rattle.acc_token.specs.Texts.{line_feeds, within}
use Rattle.acc_driver.specs.Inputs.{Parts, first_line, behind_line, is_split_line, with_front, parts_from, parts}
use Rattle.acc_schedule.proofs.LinesAndWords.{line_len}

-- ## The line `%%`

-- one byte, or none, is no `%%`
pub too_short : (bs : List ℕ) → length bs < 2 → false ≡ is_split_line bs
too_short [] h = refl
too_short (a ∷ []) h =
    elim (a == 10) as (λ v. false ≡ bytes_eq (if v then [] else (a ∷ [])) (codes "%%")) [
      | true ↦ refl
      | false ↦ elim (a == 37) as (λ v. false ≡ v && false) [ true ↦ refl | false ↦ refl ]
    ]
too_short (a ∷ b ∷ bs) h = absurd (omega arith)

-- behind `%%` three bytes are gone, its line feed among them
pub behind_split : (bs : List ℕ) → is_split_line bs ≡ true → behind_line bs ≡ drop 3 bs
behind_split [] split = refl
behind_split (a ∷ []) split = absurd (let no = too_short (a ∷ []) (omega arith) in let off : false ≡ true = no ∙ split in cc)
behind_split (a ∷ b ∷ bs) split = first (a == 10) split
  where
    third : (c : ℕ) (cs : List ℕ) (w : Bool)
        → bytes_eq (a ∷ b ∷ (if w then [] else c ∷ first_line cs)) (codes "%%") ≡ true
        → (if w then cs else behind_line cs) ≡ cs
    third c cs true h = refl
    third c cs false h = absurd (let off = (and_parts (b == 37) false (and_parts (a == 37) (b == 37 && false) h).1).1 in cc)

    second : (ds : List ℕ) (v : Bool)
        → bytes_eq (a ∷ (if v then [] else b ∷ first_line ds)) (codes "%%") ≡ true
        → (if v then ds else behind_line ds) ≡ drop 1 ds
    second ds true h = absurd (let off = (and_parts (a == 37) false h).1 in cc)
    second [] false h = refl
    second (c ∷ cs) false h = third c cs (c == 10) h

    first : (u : Bool)
        → bytes_eq (if u then [] else a ∷ first_line (b ∷ bs)) (codes "%%") ≡ true
        → (if u then b ∷ bs else behind_line (b ∷ bs)) ≡ drop 1 bs
    first true h = cc
    first false h = second bs (b == 10) h

-- three bytes say whether the line is `%%`
three_decide : (a b c : ℕ) (cs ds : List ℕ) → is_split_line (a ∷ b ∷ c ∷ cs) ≡ is_split_line (a ∷ b ∷ c ∷ ds)
three_decide a b c cs ds =
    elim (a == 10) as (λ u. bytes_eq (if u then [] else a ∷ first_line (b ∷ c ∷ cs)) (codes "%%") ≡ bytes_eq (if u then [] else a ∷ first_line (b ∷ c ∷ ds)) (codes "%%")) [
      | true ↦ refl
      | false ↦ elim (b == 10) as (λ v. bytes_eq (a ∷ (if v then [] else b ∷ first_line (c ∷ cs))) (codes "%%") ≡ bytes_eq (a ∷ (if v then [] else b ∷ first_line (c ∷ ds))) (codes "%%")) [
        | true ↦ refl
        | false ↦ elim (c == 10) as (λ w. bytes_eq (a ∷ b ∷ (if w then [] else c ∷ first_line cs)) (codes "%%") ≡ bytes_eq (a ∷ b ∷ (if w then [] else c ∷ first_line ds)) (codes "%%")) [ true ↦ refl | false ↦ refl ]
      ]
    ]

take_nil : (k : ℕ) → take {A = ℕ} k [] ≡ []
take_nil k = take_all k [] (omega arith)

split_line-take : (bs : List ℕ) (k : ℕ) → is_split_line (take (k + 3) bs) ≡ is_split_line bs
split_line-take [] k = ap is_split_line (take_nil (k + 3))
split_line-take (a ∷ []) k = ap is_split_line (take_all (k + 3) (a ∷ []) (omega arith))
split_line-take (a ∷ b ∷ []) k = ap is_split_line (take_all (k + 3) (a ∷ b ∷ []) (omega arith))
split_line-take (a ∷ b ∷ c ∷ cs) k =
    let three : k + 3 ≡ suc (suc (suc k)) = omega arith in
    ap (λ n. is_split_line (take n (a ∷ b ∷ c ∷ cs))) three ∙ three_decide a b c (take k cs) cs

-- ## The parts

parts_from-split : (at_start : Bool) (b : ℕ) (bs : List ℕ) → at_start && is_split_line (b ∷ bs) ≡ true → parts_from at_start (b ∷ bs) ≡ record { script = []; schedule = behind_line (b ∷ bs) }
parts_from-split at_start b bs e = rw e refl

parts_from-other : (at_start : Bool) (b : ℕ) (bs : List ℕ) → at_start && is_split_line (b ∷ bs) ≡ false → parts_from at_start (b ∷ bs) ≡ with_front b (parts_from (b == 10) bs)
parts_from-other at_start b bs e = rw e refl

-- ## Line by line

abbrev with_line : List ℕ → Parts → Parts
with_line line others = record others { script = line ++ others.script }

-- from within a line, which belongs to the script, the next one begins behind its line feed
line-passes : (bs : List ℕ) → parts_from false bs ≡ with_line (take (line_len bs + 1) bs) (parts_from true (drop (line_len bs + 1) bs))
line-passes [] = refl
line-passes (b ∷ bs) = by_byte (b == 10) refl (line-passes bs)
  where
    by_byte : (v : Bool) → (b == 10) ≡ v
        → parts_from false bs ≡ with_line (take (line_len bs + 1) bs) (parts_from true (drop (line_len bs + 1) bs))
        → parts_from false (b ∷ bs) ≡ with_line (take (line_len (b ∷ bs) + 1) (b ∷ bs)) (parts_from true (drop (line_len (b ∷ bs) + 1) (b ∷ bs)))
    by_byte true e rest = rw e refl
    by_byte false e rest =
        let one : line_len (b ∷ bs) + 1 ≡ suc (line_len bs + 1) = rw e (omega arith) in
        rw (one, e) (ap (with_front b) rest)

other_line : (bs : List ℕ) → is_split_line bs ≡ false → parts_from true bs ≡ parts_from false bs
other_line [] other = refl
other_line (b ∷ bs) other = rw other refl

splits_here : (bs : List ℕ) → is_split_line bs ≡ true → parts_from true bs ≡ record { script = []; schedule = behind_line bs }
splits_here [] split = cc
splits_here (b ∷ bs) split = rw split refl

-- A line begins here, and no line before it is `%%`.
pub record LineBegins (text : List ℕ) (start : ℕ) : Type 0 where
  pub script : (parts text).script ≡ take start text ++ (parts_from true (drop start text)).script
  pub schedule : (parts text).schedule ≡ (parts_from true (drop start text)).schedule

pub next_line : (text here : List ℕ) (start len : ℕ) → LineBegins text start → here ≡ drop start text → is_split_line here ≡ false
    → len ≡ line_len here → LineBegins text (start + (len + 1))
next_line text here start len begins from other is =
    let passed : parts_from true here ≡ with_line (take (len + 1) here) (parts_from true (drop (len + 1) here)) =
    other_line here other ∙ rw is (line-passes here) in
    record {
      script = begins.script ∙ ap (λ (p : Parts). take start text ++ p.script) (rw from at passed) ∙ sym (append_assoc (take start text) (take (len + 1) (drop start text)) _)
          ∙ rw (take-add start (len + 1) text, drop-drop (len + 1) start text) refl;
      schedule = begins.schedule ∙ ap (λ (p : Parts). p.schedule) (rw from at passed) ∙ rw (drop-drop (len + 1) start text) refl;
    }

pub split_script : (text here : List ℕ) (start : ℕ) → LineBegins text start → here ≡ drop start text → is_split_line here ≡ true → (parts text).script ≡ take start text
split_script text here start begins is split =
    begins.script ∙ ap (λ (p : Parts). take start text ++ p.script) (splits_here (drop start text) (rw is at split)) ∙ append-nil (take start text)

pub split_schedule : (text here : List ℕ) (start : ℕ) → LineBegins text start → here ≡ drop start text → is_split_line here ≡ true → (parts text).schedule ≡ behind_line here
split_schedule text here start begins is split =
    begins.schedule ∙ ap (λ (p : Parts). p.schedule) (splits_here (drop start text) (rw is at split)) ∙ ap behind_line (sym is)

-- without a line `%%` the text is all script
pub whole_script : (text : List ℕ) (start : ℕ) → LineBegins text start → length text ≤ start → (parts text).script ≡ text
whole_script text start begins ends =
    begins.script ∙ ap (λ (bs : List ℕ). take start text ++ (parts_from true bs).script) (drop_all start text ends) ∙ append-nil (take start text) ∙ take_all start text ends

pub no_schedule : (text : List ℕ) (start : ℕ) → LineBegins text start → length text ≤ start → (parts text).schedule ≡ []
no_schedule text start begins ends = begins.schedule ∙ ap (λ (bs : List ℕ). (parts_from true bs).schedule) (drop_all start text ends)

-- ## A text that is cut

-- What is read of a text with a limit: from one byte more it is seen that the text is too long.
abbrev pub capped : ℕ → List ℕ → List ℕ
capped limit text = take (limit + 1) text

-- A text that is cut at twice the limit and four bytes gives the reader of each part what the whole text gives
-- it; behind a script that is too long the schedule does not count.
pub record CutIsEnough (limit : ℕ) (text : List ℕ) : Type 0 where
  pub script : capped limit (parts (take (2 * limit + 4) text)).script ≡ capped limit (parts text).script
  pub schedule : length (parts text).script ≤ limit
      → capped limit (parts (take (2 * limit + 4) text)).schedule ≡ capped limit (parts text).schedule

-- the line at a cut that is three bytes off, or more
split_line-cut : (b : ℕ) (bs : List ℕ) (k : ℕ) → 2 ≤ k → is_split_line (b ∷ take k bs) ≡ is_split_line (b ∷ bs)
split_line-cut b bs k far =
    let three : suc k ≡ (k - 2) + 3 = omega arith in
    ap (λ n. is_split_line (take n (b ∷ bs))) three ∙ split_line-take (b ∷ bs) (k - 2)

-- The first n bytes of the script are the same, where two bytes more are left.
script-cut : (at_start : Bool) (bs : List ℕ) (n k : ℕ) → n + 2 ≤ k → take n (parts_from at_start (take k bs)).script ≡ take n (parts_from at_start bs).script
script-cut at_start [] n k far = ap (λ (cs : List ℕ). take n (parts_from at_start cs).script) (take_nil k)
script-cut at_start (b ∷ bs) zero k far = refl
script-cut at_start (b ∷ bs) (suc n) zero far = absurd (omega arith)
script-cut at_start (b ∷ bs) (suc n) (suc k) far = by_line (at_start && is_split_line (b ∷ bs)) refl (script-cut (b == 10) bs n k (omega arith))
  where
    same : is_split_line (b ∷ take k bs) ≡ is_split_line (b ∷ bs)
    same = split_line-cut b bs k (omega arith)

    by_line : (v : Bool) → (at_start && is_split_line (b ∷ bs)) ≡ v
        → take n (parts_from (b == 10) (take k bs)).script ≡ take n (parts_from (b == 10) bs).script
        → take (suc n) (parts_from at_start (b ∷ take k bs)).script ≡ take (suc n) (parts_from at_start (b ∷ bs)).script
    by_line true e rest =
        let cut_too = ap (λ v. at_start && v) same ∙ e in
        rw (parts_from-split at_start b (take k bs) cut_too, parts_from-split at_start b bs e) refl
    by_line false e rest =
        let cut_too = ap (λ v. at_start && v) same ∙ e in
        rw (parts_from-other at_start b (take k bs) cut_too, parts_from-other at_start b bs e) (ap (λ ds. b ∷ ds) rest)

behind-cut : (bs : List ℕ) (m j : ℕ) → m ≤ j → is_split_line (take (3 + j) bs) ≡ true → is_split_line bs ≡ true → take m (behind_line (take (3 + j) bs)) ≡ take m (behind_line bs)
behind-cut bs m j far cut_too e =
    rw (behind_split (take (3 + j) bs) cut_too, behind_split bs e) (ap (λ ds. take m ds) (drop-take 3 j bs) ∙ take-take m j (drop 3 bs) far)

-- The first m bytes of the schedule are the same behind a script of n bytes at most, where three bytes more are left.
schedule-cut : (at_start : Bool) (bs : List ℕ) (n m k : ℕ) → n + m + 3 ≤ k → length (parts_from at_start bs).script ≤ n
    → take m (parts_from at_start (take k bs)).schedule ≡ take m (parts_from at_start bs).schedule
schedule-cut at_start [] n m k far short = ap (λ (cs : List ℕ). take m (parts_from at_start cs).schedule) (take_nil k)
schedule-cut at_start (b ∷ bs) n m zero far short = absurd (omega arith)
schedule-cut at_start (b ∷ bs) n m (suc k) far short =
    by_line (at_start && is_split_line (b ∷ bs)) refl (λ (some : 1 ≤ n) (h : length (parts_from (b == 10) bs).script ≤ n - 1). schedule-cut (b == 10) bs (n - 1) m k (omega arith) h)
  where
    same : is_split_line (b ∷ take k bs) ≡ is_split_line (b ∷ bs)
    same = split_line-cut b bs k (omega arith)

    by_line : (v : Bool) → (at_start && is_split_line (b ∷ bs)) ≡ v
        → (1 ≤ n → length (parts_from (b == 10) bs).script ≤ n - 1 → take m (parts_from (b == 10) (take k bs)).schedule ≡ take m (parts_from (b == 10) bs).schedule)
        → take m (parts_from at_start (b ∷ take k bs)).schedule ≡ take m (parts_from at_start (b ∷ bs)).schedule
    by_line true e rest =
        let cut_too = ap (λ v. at_start && v) same ∙ e in
        let three : suc k ≡ 3 + (k - 2) = omega arith in
        let is = (and_parts at_start (is_split_line (b ∷ bs)) e).1 in
        let cut_is : is_split_line (take (3 + (k - 2)) (b ∷ bs)) ≡ true = ap (λ n. is_split_line (take n (b ∷ bs))) (sym three) ∙ same ∙ is in
        rw (parts_from-split at_start b (take k bs) cut_too, parts_from-split at_start b bs e)
        (ap (λ n. take m (behind_line (take n (b ∷ bs)))) three ∙ behind-cut (b ∷ bs) m (k - 2) (omega arith) cut_is is)
    by_line false e rest =
        let cut_too = ap (λ v. at_start && v) same ∙ e in
        let fewer : suc (length (parts_from (b == 10) bs).script) ≤ n = rw (parts_from-other at_start b bs e) at short in
        rw (parts_from-other at_start b (take k bs) cut_too, parts_from-other at_start b bs e) (rest (omega arith) (omega arith))

pub cut_is_enough : (limit : ℕ) (text : List ℕ) → CutIsEnough limit text
unfolding parts
cut_is_enough limit text = record {
  script = script-cut true text (limit + 1) (2 * limit + 4) (omega arith);
  schedule = λ short. schedule-cut true text limit (limit + 1) (2 * limit + 4) (omega arith) short;
}

-- ## A text that is too long

within-long : {A : Type 0} (limit : ℕ) (read : List ℕ → Result A ReadFault) (text : List ℕ) → limit < length text
    → within limit read text ≡ fails (1 + line_feeds (take limit text)) Limit
within-long limit read text long = rw (lt-ltb limit (length text) long) refl

-- one byte more than the limit tells that the text is too long, and in which line
pub capped_is_enough : {A : Type 0} (limit : ℕ) (read : List ℕ → Result A ReadFault) (text : List ℕ)
    → within limit read (capped limit text) ≡ within limit read text
capped_is_enough limit read text = by_length (nat_lt limit (length text)) refl
  where
    by_length : (v : Bool) → nat_lt limit (length text) ≡ v → within limit read (capped limit text) ≡ within limit read text
    by_length true e =
        let long = ltb-true limit (length text) e in
        let cut : length (capped limit text) ≡ limit + 1 = length-take-le (limit + 1) text (omega arith) in
        within-long limit read (capped limit text) (omega arith)
        ∙ ap (λ (bs : List ℕ). fails (1 + line_feeds bs) Limit) (take-take limit (limit + 1) text (omega arith))
        ∙ sym (within-long limit read text long)
    by_length false e =
        let short = ltb-false limit (length text) e in
        ap (within limit read) (take_all (limit + 1) text (omega arith))
