-- The lines that tell a finding, or that a text is too long.
use Rattle.std.specs.Prelude.{ℕ, ◌+◌, ◌-◌, ◌/◌, ◌%◌, Bool, ◌&&◌, not, ◌==◌, nat_lt, List, [], ◌∷◌, ◌++◌, length, map, take, drop, Option, Some, None, codes, decimal, if◌then◌else◌}
use Rattle.std.specs.Borrow.{Bor}
use Rattle.std.specs.List.{flat_map, prefix_len}
use Rattle.acc_schedule.specs.Schedules.{is_space}
use Rattle.acc_token.specs.Texts.{line_feeds, shown_byte}
use Rattle.acc_token.specs.Tokens.{front}
use Rattle.acc_token.specs.declared.text.TheConstants.{MAX_TEXT}
use Rattle.acc_token.specs.declared.read_fault.ReadKind.{ReadKind}
use Rattle.acc_token.specs.declared.read_fault.ReadKind.TheVariants.{Text, End, Name, Limit, Form}
use Rattle.acc_check.specs.declared.finding.Finding.{Finding}
use Rattle.acc_check.specs.declared.finding.Lack.{Lack}
use Rattle.acc_check.specs.declared.finding.Lack.TheVariants as lack
use Rattle.acc_check.specs.declared.language.Language.{Language}
use Rattle.acc_check.specs.declared.language.Language.TheVariants.{Script, Schedule}
use Rattle.acc_check.specs.Findings.{begun_line}

-- ## The place, and what is wrong

abbrev pub kind_text : ReadKind → List ℕ
kind_text Text = codes "Text"
kind_text End = codes "End"
kind_text Name = codes "Name"
kind_text Limit = codes "Limit"
kind_text Form = codes "Form"

unfoldable pub numbered : ℕ → List ℕ
numbered n = codes ":" ++ decimal n

unfoldable pub kind_mark : ReadKind → List ℕ
kind_mark kind = codes ": " ++ (kind_text kind ++ codes ": ")

-- NAME:LINE:COLUMN: KIND:
unfoldable pub place_text : List ℕ → ℕ → ℕ → ReadKind → List ℕ
place_text name line column kind = name ++ (numbered line ++ (numbered column ++ kind_mark kind))

abbrev pub hex_digit : ℕ → ℕ
hex_digit n = if nat_lt n 10 then 48 + n else 65 + (n - 10)

-- a byte that isn't printed, by its number
unfoldable pub byte_text : ℕ → List ℕ
byte_text b =
    if b == 10 then codes "the end of the line"
    else (if b == 13 then codes "byte 0x0D (carriage return)"
    else (if b == 239 then codes "byte 0xEF (a byte order mark begins so)"
    else codes "byte 0x" ++ hex_digit (b / 16) ∷ hex_digit (b % 16) ∷ []))

abbrev pub is_printed : ℕ → Bool
is_printed b = nat_lt 32 b && nat_lt b 127

unfoldable pub quoted : List ℕ → List ℕ
quoted bytes = codes "`" ++ (bytes ++ codes "`")

-- a token as it is written, or by its number where it isn't printed
unfoldable pub token_text : List ℕ → List ℕ
token_text [] = codes "the end of the text"
token_text (b ∷ bs) = if is_printed b then quoted (b ∷ bs) else byte_text b

-- what is near, if anything is, and what holds of it
unfoldable pub near_text : List ℕ → List ℕ → List ℕ
near_text [] holds = []
near_text (b ∷ bs) holds = codes "; " ++ (quoted (b ∷ bs) ++ holds)

-- the largest number that could stand there, if one is known
unfoldable pub most_text : Option ℕ → List ℕ
most_text None = []
most_text (Some n) = codes "; the largest number here is " ++ decimal n

-- what is wrong with a token, by what it lacks
abbrev pub complaint : Lack → List ℕ
complaint lack.More = codes ", where more has to stand"
complaint lack.Place = codes " cannot stand here"
complaint lack.Short = codes " has more than 32 bytes"
complaint lack.New = codes " is declared already"
complaint lack.Other = codes " is an array's name"
complaint lack.Declared = codes " is not declared"
complaint lack.Within = codes " passes a limit"

-- what holds of the name that is near
abbrev pub holds : Lack → List ℕ
holds lack.More = codes " could"
holds lack.Place = codes " could"
holds lack.Short = codes " could"
holds lack.New = codes " could"
holds lack.Other = codes " could"
holds lack.Declared = codes " is"
holds lack.Within = codes " could"

-- what could stand there instead
unfoldable pub remedy : Finding → List ℕ
remedy f = near_text f.near.now (holds f.lack) ++ most_text f.most

unfoldable pub fault_line : Finding → List ℕ
fault_line f = token_text f.token.now ++ (complaint f.lack ++ (remedy f ++ codes "\n"))

-- ## The line of the place

-- whether a line is a directive's
abbrev pub is_directive_line : List ℕ → Bool
is_directive_line line = front (drop (prefix_len is_space line) line) == 35

-- as much room as a byte takes: none where it goes on with a character
abbrev pub room_of : ℕ → List ℕ
room_of b = if b == 9 then codes "\t" else (if nat_lt 127 b && nat_lt b 192 then [] else codes " ")

-- a line, and a mark below its place, behind what stands before it
unfoldable pub marked_line : List ℕ → List ℕ → List ℕ
marked_line begun rest =
    codes "  " ++ (map shown_byte begun ++ (map shown_byte rest ++ (codes "\n  " ++ (flat_map room_of begun ++ codes "^\n"))))

-- ## What could stand there, and what helps

abbrev pub words_text : List (Bor (List ℕ)) → List ℕ
words_text words = flat_map (λ word. codes ", " ++ token_text word.now) words

abbrev pub answer : Bool → List ℕ → List ℕ
answer is_one text = if is_one then text else []

unfoldable pub other_names : Finding → List ℕ
other_names f = answer f.loop_name (codes ", the loop's name") ++ answer f.new_name (codes ", a new name")

unfoldable pub names_text : Finding → List ℕ
names_text f = answer f.array (codes ", an array's name") ++ other_names f

-- the end of the line counts in a directive alone
unfoldable pub others_text : Finding → Bool → List ℕ
others_text f in_directive =
    answer f.number (codes ", a number") ++ answer (f.line_end && in_directive) (codes ", the end of the line")

unfoldable pub tokens_text : Finding → Bool → List ℕ
tokens_text f in_directive = words_text f.words.items ++ (names_text f ++ others_text f in_directive)

-- what could stand there, each with a comma before it; in a comment, what closes it
unfoldable pub answers : Finding → Bool → List ℕ
answers f in_directive = if f.in_comment then codes ", `*/`" else tokens_text f in_directive

-- the line of it, if anything could
unfoldable pub stand_text : Finding → Bool → List ℕ
stand_text f in_directive =
    if nat_lt (length (answers f in_directive)) 2 then []
    else codes "could stand: " ++ (drop 2 (answers f in_directive) ++ codes "\n")

abbrev pub help_line : List ℕ → List ℕ
help_line [] = []
help_line (b ∷ bs) = codes "help: " ++ ((b ∷ bs) ++ codes "\n")

unfoldable pub help_text : Finding → List ℕ
help_text f = help_line f.help.now

-- ## All lines

abbrev pub rest_of_line : List ℕ → List ℕ
rest_of_line behind = take (prefix_len (λ b. not (b == 10)) behind) behind

-- the place with what is wrong, and its line, where the text begins with this line of its file
unfoldable pub fault_text : List ℕ → ℕ → Finding → List ℕ → List ℕ → List ℕ
fault_text name first_line f begun rest =
    place_text name (first_line + f.line - 1) f.column f.fault.kind ++ (fault_line f ++ marked_line begun rest)

-- what could stand there, and what helps
unfoldable pub ways_text : Finding → Bool → List ℕ
ways_text f in_directive = stand_text f in_directive ++ help_text f

unfoldable pub finding_text : List ℕ → ℕ → List ℕ → Finding → List ℕ
finding_text name first_line text f =
    fault_text name first_line f (begun_line (take f.start text)) (rest_of_line (drop f.start text))
    ++ ways_text f (is_directive_line (begun_line (take f.start text)))

-- ## A text that is too long

abbrev pub article_of : Language → List ℕ
article_of Script = codes "a script"
article_of (Schedule hosts devices) = codes "a schedule"

-- how many bytes a text of the language can have
unfoldable pub length_help : Language → List ℕ
length_help language = codes "help: " ++ (article_of language ++ (codes " has at most " ++ (decimal MAX_TEXT ++ codes " bytes\n")))

-- the place behind the front of a text that begins with this line of its file
unfoldable pub length_place : List ℕ → ℕ → List ℕ → List ℕ
length_place name first_line front = place_text name (first_line + line_feeds front) (1 + length (begun_line front)) Limit

-- what is told of a text that is too long, by its front, of as many bytes as it can have
unfoldable pub length_text : Language → List ℕ → ℕ → List ℕ → List ℕ
length_text language name first_line front =
    length_place name first_line front ++ (codes "the text is too long\n" ++ length_help language)
