-- What the words of the command line ask for.
use Rattle.std.specs.Prelude.{◌≡◌, ◌≤◌, ℕ, Bool, true, false, List, map, length, Option, Some, None, Ok, codes}
use Rattle.std.specs.Prelude.{option_map}
use Rattle.std.specs.Borrow.{Bor}
use Rattle.std.specs.Str.Parse.{ParsesUnsigned}
use Rattle.clap.specs.Words.{Row, Text, all_of, first_of, one_of, subcommand_of}
use Rattle.engine.specs.OptionValues.{AreInRange, OptionValues}
use Rattle.browse.specs.declared.form.Form.{Form}
use Rattle.browse.specs.declared.form.Form.TheVariants as form
use Rattle.browse.specs.declared.style.Style.{Style}
use Rattle.browse.specs.declared.style.Style.TheVariants as style
use Rattle.script.specs.Words.{IsByteString}
use Rattle.texts.specs.Texts.{IsText}
use Rattle.tool.specs.CommandLine.{the_app}
use Rattle.tool.specs.declared.task.Bounds.{Bounds}
use Rattle.tool.specs.declared.task.Lookup.{Lookup}
use Rattle.tool.specs.declared.task.Mending.{Mending}
use Rattle.tool.specs.declared.task.Named.{Named}
use Rattle.tool.specs.declared.task.Notation.{Notation}
use Rattle.tool.specs.declared.task.Notation.TheVariants.{Words, Json}
use Rattle.tool.specs.declared.task.Numbers.{Numbers}
use Rattle.tool.specs.declared.task.OrderName.{OrderName}
use Rattle.tool.specs.declared.task.OrderName.TheVariants.{Bytes, Reverse}
use Rattle.tool.specs.declared.task.Pair.{Pair}
use Rattle.tool.specs.declared.task.Place.{Place}
use Rattle.tool.specs.declared.task.Pieces.{Pieces}
use Rattle.tool.specs.declared.task.Search.{Search}
use Rattle.tool.specs.declared.task.Task.{Task}
use Rattle.tool.specs.declared.task.Task.TheVariants.{Get, Scan, Export, Check, Stats, Dump, Run, Import, Compact}
use Rattle.tool.specs.declared.task.Task.TheVariants.{Put, Del, Mend}
use Rattle.tool.specs.declared.task.Turns.{Turns}

-- ---- an option

-- its word, where it is given
abbrev pub IsWord : Text → List Row → Option (Bor Text) → Type 0
IsWord name rows word = first_of name rows ≡ option_map (λ (w : Bor Text). w.now) word

-- its text, given or by default, is read as this number
abbrev pub IsNumberOf : Text → List Row → ℕ → Type 0
IsNumberOf name rows number = (text : Text) × (one_of name rows ≡ Some text) × ParsesUnsigned {E = ℕ} 64 10 text (Ok number)

-- the same, where it is given
abbrev pub IsOptional : Text → List Row → Option ℕ → Type 0
IsOptional name rows None = first_of name rows ≡ None
IsOptional name rows (Some number) = IsNumberOf name rows number

abbrev pub flag_word : Bool → Text
flag_word true = codes "true"
flag_word false = codes "false"

-- whether a flag is given
abbrev pub IsFlag : Text → List Row → Bool → Type 0
IsFlag name rows given = first_of name rows ≡ Some (flag_word given)

-- ---- what several tasks have

abbrev pub word_of : OrderName → Text
word_of Bytes = codes "bytes"
word_of Reverse = codes "reverse"

-- the word of --order, given or by default, is this order's
abbrev pub IsOrderOf : List Row → OrderName → Type 0
IsOrderOf rows order = first_of (codes "order") rows ≡ Some (word_of order)

pub record IsPlace (rows : List Row) (place : Place) : Type 0 where
  pub order : IsOrderOf rows place.order
  pub folder : first_of (codes "DIR") rows ≡ Some place.folder.now

-- the numbers as a database is told them
abbrev pub values_of : Numbers → OptionValues
values_of numbers = record {
  write_buffer = numbers.write_buffer;
  block_bytes = numbers.block_bytes;
  file_bytes = numbers.file_bytes;
  level0_files = numbers.level0_files;
  base_bytes = numbers.base_bytes;
  cache_blocks = numbers.cache_blocks;
}

pub record HaveNumbers (rows : List Row) (numbers : Numbers) : Type 0 where
  pub write_buffer : IsNumberOf (codes "write-buffer") rows numbers.write_buffer
  pub block_bytes : IsNumberOf (codes "block-bytes") rows numbers.block_bytes
  pub file_bytes : IsNumberOf (codes "file-bytes") rows numbers.file_bytes
  pub level0_files : IsNumberOf (codes "level0-files") rows numbers.level0_files
  pub base_bytes : IsNumberOf (codes "base-bytes") rows numbers.base_bytes
  pub cache_blocks : IsNumberOf (codes "cache-blocks") rows numbers.cache_blocks
  pub ranges : AreInRange (values_of numbers)

-- ---- keys and pairs

-- --text, or not
abbrev pub form_of : Bool → Form
form_of true = form.Text
form_of false = form.Hex

-- the bytes that a word is: two hexadecimal digits each, or as text
abbrev pub IsKey : Form → Text → List ℕ → Type 0
IsKey form.Hex word key = IsByteString word key
IsKey form.Text word key = IsText word key

-- what is found for this name, all of it
abbrev pub AreWords : Text → List Row → List (Bor Text) → Type 0
AreWords name rows words = all_of name rows ≡ Some (map (λ (w : Bor Text). w.now) words)

-- keys, of which one alone may be written as its bytes
pub record IsLookup (rows : List Row) (lookup : Lookup) : Type 0 where
  pub keys : AreWords (codes "KEY") rows lookup.keys.items
  pub text : Bool
  pub given : IsFlag (codes "text") rows text
  pub form : lookup.form ≡ form_of text
  pub raw : IsFlag (codes "raw") rows lookup.raw
  pub alone : lookup.raw ≡ true → length lookup.keys.items ≤ 1

pub record IsPair (rows : List Row) (pair : Pair) : Type 0 where
  pub key : first_of (codes "KEY") rows ≡ Some pair.key.now
  pub value : first_of (codes "VALUE") rows ≡ Some pair.value.now
  pub text : Bool
  pub given : IsFlag (codes "text") rows text
  pub form : pair.form ≡ form_of text

pub record IsNamed (rows : List Row) (named : Named) : Type 0 where
  pub key : first_of (codes "KEY") rows ≡ Some named.key.now
  pub text : Bool
  pub given : IsFlag (codes "text") rows text
  pub form : named.form ≡ form_of text

-- what --json and --text ask for: not both at once
abbrev pub notation_of : (json text : Bool) → Option Notation
notation_of false text = Some (Words (form_of text))
notation_of true false = Some Json
notation_of true true = None

pub record IsNotation (rows : List Row) (notation : Notation) : Type 0 where
  pub text : Bool
  pub json : Bool
  pub text_given : IsFlag (codes "text") rows text
  pub json_given : IsFlag (codes "json") rows json
  pub asked : notation_of json text ≡ Some notation

-- keys, or with --values pairs
abbrev pub style_of : Notation → (values : Bool) → Style
style_of (Words form) true = style.Pairs form
style_of (Words form) false = style.Keys form
style_of Json true = style.JsonPairs
style_of Json false = style.JsonKeys

pub record IsStyle (rows : List Row) (s : Style) : Type 0 where
  pub notation : Notation
  pub values : Bool
  pub noted : IsNotation rows notation
  pub values_given : IsFlag (codes "values") rows values
  pub style : s ≡ style_of notation values

-- which keys: a prefix is a range in the order of bytes alone
pub record AreBounds (rows : List Row) (order : OrderName) (bounds : Bounds) : Type 0 where
  pub from : IsWord (codes "from") rows bounds.from
  pub to : IsWord (codes "to") rows bounds.to
  pub prefix : IsWord (codes "prefix") rows bounds.prefix
  pub ranged : order ≡ Reverse → bounds.prefix ≡ None

-- which pairs
pub record IsSearch (rows : List Row) (order : OrderName) (search : Search) : Type 0 where
  pub bounds : AreBounds rows order search.bounds
  pub limit : IsOptional (codes "limit") rows search.limit
  pub reverse : IsFlag (codes "reverse") rows search.reverse
  pub count : IsFlag (codes "count") rows search.count
  pub style : IsStyle rows search.style

-- ---- scripts, imports, compactions

-- --work auto, or none
abbrev pub work_word : Bool → Option Text
work_word true = Some (codes "auto")
work_word false = None

pub record AreTurns (rows : List Row) (turns : Turns) : Type 0 where
  pub works : first_of (codes "work") rows ≡ work_word turns.works
  pub strict : IsFlag (codes "strict") rows turns.strict
  pub mends : IsFlag (codes "mend") rows turns.mends

pub record ArePieces (rows : List Row) (pieces : Pieces) : Type 0 where
  pub batch : IsNumberOf (codes "batch") rows pieces.batch
  pub sync : IsFlag (codes "sync") rows pieces.sync
  pub create : IsFlag (codes "create") rows pieces.create
  pub mends : IsFlag (codes "mend") rows pieces.mends

pub record IsMending (rows : List Row) (mending : Mending) : Type 0 where
  pub dry_run : IsFlag (codes "dry-run") rows mending.dry_run
  pub holes : IsFlag (codes "holes") rows mending.holes

-- ---- tasks

-- a subcommand's name and what was found for it ask for this
abbrev pub AsksFor : Option Text → Option (List Row) → Task → Type 0
AsksFor (Some name) (Some rows) (Get place lookup) = (name ≡ codes "get") × IsPlace rows place × IsLookup rows lookup
AsksFor (Some name) (Some rows) (Scan place search) = (name ≡ codes "scan") × IsPlace rows place × IsSearch rows place.order search
AsksFor (Some name) (Some rows) (Export place bounds) =
    (name ≡ codes "export") × IsPlace rows place × AreBounds rows place.order bounds
AsksFor (Some name) (Some rows) (Check place on) = (name ≡ codes "check") × IsPlace rows place × IsFlag (codes "keep-going") rows on
AsksFor (Some name) (Some rows) (Stats place json) = (name ≡ codes "stats") × IsPlace rows place × IsFlag (codes "json") rows json
AsksFor (Some name) (Some rows) (Dump place notation on) = (name ≡ codes "dump") × IsPlace rows place × IsNotation rows notation × IsFlag (codes "keep-going") rows on
AsksFor (Some name) (Some rows) (Run place numbers turns) = (name ≡ codes "run") × IsPlace rows place × HaveNumbers rows numbers × AreTurns rows turns
AsksFor (Some name) (Some rows) (Import place numbers pieces) = (name ≡ codes "import") × IsPlace rows place × HaveNumbers rows numbers × ArePieces rows pieces
AsksFor (Some name) (Some rows) (Compact place numbers level mends) =
    (name ≡ codes "compact") × IsPlace rows place × HaveNumbers rows numbers × IsOptional (codes "level") rows level
    × IsFlag (codes "mend") rows mends
AsksFor (Some name) (Some rows) (Mend place mending) =
    (name ≡ codes "mend") × IsPlace rows place × IsMending rows mending
AsksFor (Some name) (Some rows) (Put place pair) = (name ≡ codes "put") × IsPlace rows place × IsPair rows pair
AsksFor (Some name) (Some rows) (Del place named) = (name ≡ codes "del") × IsPlace rows place × IsNamed rows named
AsksFor _ _ task = ⊥

abbrev pub AsksForIn : Option (Text × List Row) → Task → Type 0
AsksForIn found task = AsksFor (option_map (λ p. p.0) found) (option_map (λ p. p.1) found) task

-- what clap reads from the words
abbrev pub IsTask : List Text → Task → Type 0
IsTask words task = AsksForIn (subcommand_of the_app words) task
