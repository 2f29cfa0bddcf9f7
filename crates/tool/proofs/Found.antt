-- What was found for a subcommand and its options.
use Rattle.std.proofs.Common.{◌≡◌, List, ℕ, sym, ◌∙◌, refl, subst}
use Rattle.std.specs.Prelude.{Option, Some, None, Result, Ok, IfSome, option_map}
use Rattle.std.specs.Borrow.{Bor}
use Rattle.std.specs.Str.Parse.{ParsesUnsigned}
use Rattle.std.proofs.lemmas.Option.{none-some}
use Rattle.clap.specs.Words.{ReadsOne, Row, Text, all_of, first_of, first_value, matched_of, one_text, raw_values, rows_of, subcommand_name_of, subcommand_rows, subcommand_rows_of}
use Rattle.clap.specs.declared.parser.matches.Found.{Found}
use Rattle.clap.proofs.WalkLemmas.{first_value-rows, one_text-rows, raw_values-rows}
use Rattle.clap.specs.declared.parser.matches.ArgMatches.{ArgMatches}
use Rattle.clap.specs.declared.parser.matches.ArgMatches.TheViews.{out-ArgMatches, out-SubCommand}
use Rattle.clap.specs.declared.parser.matches.SubCommand.{SubCommand}
use Rattle.std.specs.Prelude.{Box}
use Rattle.std.specs.Box.{box_value}
use Rattle.std.proofs.Common.{Global}
use Rattle.tool.specs.declared.task.Task.{Task}
use Rattle.tool.specs.Tasks.{AsksFor, AsksForIn, IsNumberOf}

pub number_found : (E : Type 0) (gives : List ℕ → Result ℕ E → Type 0) (f : Found) (name : Text) (result : Option ℕ)
    → ((t : List ℕ) (n : ℕ) → gives t (Ok n) → ParsesUnsigned {E = ℕ} 64 10 t (Ok n))
    → (one_text f name ≡ None → result ≡ None) → ((t : List ℕ) → one_text f name ≡ Some t → ReadsOne gives t result) → IfSome result (IsNumberOf name (rows_of f))
number_found E gives f name None parsed none value = tt
number_found E gives f name (Some n) parsed none value = go (one_text f name) refl
  where
    go : (o : Option (List ℕ)) → one_text f name ≡ o → IsNumberOf name (rows_of f) n
    go None e = absurd (none-some n (sym (none e)))
    go (Some t) e = (t, sym (one_text-rows f name) ∙ e, parsed t n (value t e))

-- the subcommand's name, by the rows
name_by_rows : (m : ArgMatches) → option_map (λ p. p.0) (subcommand_rows_of m) ≡ subcommand_name_of m
name_by_rows m = go (out-ArgMatches m).subcommand
  where
    go : (s : Option (Box SubCommand Global)) → option_map (λ p. p.0) (subcommand_rows s) ≡ option_map (λ b. (out-SubCommand (box_value b)).name.now) s
    go None = refl
    go (Some b) = refl

pub asks_for : (m : ArgMatches) (name : Text) (rows : List Row) (task : Task) → Some name ≡ subcommand_name_of m → Some rows ≡ option_map (λ p. p.1) (subcommand_rows_of m)
    → AsksFor (Some name) (Some rows) task → AsksForIn (subcommand_rows_of m) task
asks_for m name rows task named found asks =
    subst (λ (n : Option Text). AsksFor n (option_map (λ p. p.1) (subcommand_rows_of m)) task) (named ∙ sym (name_by_rows m))
    (subst (λ (r : Option (List Row)). AsksFor (Some name) r task) found asks)

-- a word, by the rows
pub word_by_rows : (f : Found) (name word : Text) → Some word ≡ first_value f name → first_of name (rows_of f) ≡ Some word
word_by_rows f name word e = sym (first_value-rows f name) ∙ sym e

-- a word that may be left out
pub word_given : (f : Found) (name : Text) (word : Option (Bor Text)) → option_map (λ (w : Bor Text). w.now) word ≡ first_value f name → first_of name (rows_of f) ≡ option_map (λ (w : Bor Text). w.now) word
word_given f name word e = sym (first_value-rows f name) ∙ sym e

-- all words of a name, by the rows
pub words_by_rows : (f : Found) (name : Text) (words : List Text) → Some words ≡ option_map raw_values (matched_of f name) → all_of name (rows_of f) ≡ Some words
words_by_rows f name words e = sym (raw_values-rows f name) ∙ sym e
