-- What a parse finds is what the words ask for, and a parse that fails finds that they ask for nothing.
use Rattle.std.proofs.Common.{◌≡◌, ◌∙◌, List, [], ◌∷◌, Option, Some, None, true, ap, ap₂, refl, sym, inl, inr}
use Rattle.std.proofs.lemmas.Option.{none-some, same_Some}
use Rattle.std.specs.Box.{box_value}
use Rattle.std.specs.Prelude.{◌⊎◌, Box, option_and_then, option_map}
use Rattle.clap.specs.declared.parser.matches.SubCommand.{SubCommand}
use Rattle.clap.specs.declared.parser.matches.ArgMatches.TheViews.{out-SubCommand}
use Rattle.clap.specs.Words.{App, HasKind, HasMatchesOf, Kinds, Text, fault_of, is_simple, is_simple_and_free, kind_of, subcommand_of, subcommand_rows_of}
use Rattle.clap.specs.declared.error.Error.{Error}
use Rattle.clap.specs.declared.error.kind.ErrorKind.TheVariants.{OutOfMemory}
use Rattle.clap.specs.declared.parser.matches.ArgMatches.{ArgMatches}
use Rattle.clap.proofs.OnLiterals.{clap_on_literals}
use Rattle.clap.specs.Words.{Row, subcommand_rows}
use Rattle.accq.specs.Words.{Asked, accq_app, asked_behind, asked_of, unless_any}

simple : is_simple accq_app ≡ true
unfolding clap_on_literals
simple = refl

simple_and_free : is_simple_and_free accq_app ≡ true
unfolding clap_on_literals
simple_and_free = refl

pub asked_found : (app : App) (words : List Text) (m : ArgMatches) → app ≡ accq_app → HasMatchesOf app words m → fault_of app words ≡ []
    → asked_of words ≡ option_and_then (λ p. asked_behind p.0 p.1) (subcommand_rows_of m)
asked_found app words m is found sound =
    ap (λ k. unless_any k (option_and_then (λ p. asked_behind p.0 p.1) (subcommand_of accq_app words))) (ap (λ (a : App). fault_of a words) (sym is) ∙ sound)
    ∙ ap (option_and_then (λ p. asked_behind p.0 p.1)) (ap (λ (a : App). subcommand_of a words) (sym is) ∙ sym (found (ap is_simple is ∙ simple)).1)

refused_at : (kinds : Kinds) (found : Option Asked) (e : Error) → HasKind kinds e → (kind_of e ≡ OutOfMemory) ⊎ (unless_any kinds found ≡ None)
refused_at kinds found e (inl memory) = inl memory
refused_at [] found e (inr among) = absurd among
refused_at (k ∷ kinds) found e (inr among) = inr refl

pub asked_refused : (app : App) (words : List Text) (e : Error) → app ≡ accq_app → HasKind (fault_of app words) e → (kind_of e ≡ OutOfMemory) ⊎ (asked_of words ≡ None)
asked_refused app words e is kinds = refused_at (fault_of accq_app words) _ e (rw is at kinds)

pub is_free : (app : App) → app ≡ accq_app → is_simple_and_free app ≡ true
is_free app is = ap is_simple_and_free is ∙ simple_and_free

-- What a parse finds behind a subcommand's name is asked for.
pub asked_entered : {Z : Type 0} (entered : Option (Box SubCommand Z)) (name : Text) (rows : List Row)
    → Some name ≡ option_map (λ b. (out-SubCommand (box_value b)).name.now) entered
    → Some rows ≡ option_map (λ p. p.1) (subcommand_rows entered)
    → asked_behind name rows ≡ option_and_then (λ p. asked_behind p.0 p.1) (subcommand_rows entered)
asked_entered None name rows is_name is_rows = absurd (none-some name (sym is_name))
asked_entered (Some b) name rows is_name is_rows = ap₂ asked_behind (same_Some name _ is_name) (same_Some rows _ is_rows)
