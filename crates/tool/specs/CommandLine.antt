-- The command line, in clap's terms.
use Rattle.std.specs.Prelude.{◌≡◌, ◌^◌, ◌-◌, ℕ, [], ◌∷◌, true, false, Some, codes}
use Rattle.clap.specs.Words.{App, Rule, Text, app_of, new_app, new_rule, rule_of, with_rule, with_subcommand}
use Rattle.clap.specs.declared.builder.action.ArgAction.TheVariants.{Append, SetTrue}
use Rattle.clap.specs.declared.builder.arg.Arg.{Arg}
use Rattle.clap.specs.declared.builder.command.Command.{Command}
use Rattle.clap.specs.declared.builder.command.Command.TheViews.{out-Command as fields_of}
use Rattle.clap.specs.declared.builder.value_parser.ValueParser.TheVariants as vp

-- ---- options and words

-- the option --NAME WORD, which may be left out
abbrev pub word_rule : Text → Rule
word_rule name = record (new_rule name) {
  long = Some name;
  value_names = 1;
}

-- the option --NAME N, with N from `least` to `most`, which may be left out
abbrev pub optional_rule : Text → ℕ → ℕ → Rule
optional_rule name least most = record (word_rule name) { parser = Some (vp.Unsigned least most) }

-- the option --NAME N, with N from 1 to `most`
abbrev pub number_rule : Text → Text → ℕ → Rule
number_rule name default most = record (word_rule name) {
  parser = Some (vp.Unsigned 1 most);
  defaults = default ∷ [];
}

-- the flag --NAME
abbrev pub flag_rule : Text → Rule
flag_rule name = record (new_rule name) {
  long = Some name;
  action = Some SetTrue;
}

-- the option --order ORDER, of any word
abbrev pub order_rule : Rule
order_rule = record (word_rule (codes "order")) { defaults = codes "bytes" ∷ [] }

-- a word that must be there
abbrev pub given_rule : Text → Rule
given_rule name = record (new_rule name) { required = true }

-- DIR
abbrev pub folder_rule : Rule
folder_rule = given_rule (codes "DIR")

-- KEY, once or more often
abbrev pub keys_rule : Rule
keys_rule = record (given_rule (codes "KEY")) { action = Some Append }

-- ---- what commands have in common

-- the folder, and the order of its keys
abbrev pub with_place : App → App
with_place app = with_rule (with_rule app order_rule) folder_rule

-- the six options of a database that is written
abbrev pub with_options : App → App
with_options app =
    with_rule (with_rule (with_rule (with_rule (with_rule (with_rule app
    (number_rule (codes "write-buffer") (codes "4194304") (2 ^ 30)))
    (number_rule (codes "block-bytes") (codes "4096") (2 ^ 20)))
    (number_rule (codes "file-bytes") (codes "2097152") (2 ^ 30)))
    (number_rule (codes "level0-files") (codes "4") 1024))
    (number_rule (codes "base-bytes") (codes "10485760") (2 ^ 40)))
    (number_rule (codes "cache-blocks") (codes "1024") 65536)

-- keys and values as text
abbrev pub with_text : App → App
with_text app = with_rule app (flag_rule (codes "text"))

-- ---- commands

abbrev pub get_app : App
get_app = with_rule (with_place (with_rule (with_text (new_app (codes "get"))) (flag_rule (codes "raw")))) keys_rule

-- which keys
abbrev pub with_bounds : App → App
with_bounds app =
    with_rule (with_rule (with_rule app
    (word_rule (codes "from")))
    (word_rule (codes "to")))
    (word_rule (codes "prefix"))

-- which keys, and how many of them, from which end
abbrev pub with_range : App → App
with_range app =
    with_rule (with_rule (with_bounds app) (optional_rule (codes "limit") 0 (2 ^ 64 - 1))) (flag_rule (codes "reverse"))

-- as what keys and values are printed
abbrev pub with_notation : App → App
with_notation app = with_rule (with_text app) (flag_rule (codes "json"))

-- what of a pair is printed, and how
abbrev pub with_style : App → App
with_style app = with_notation (with_rule app (flag_rule (codes "values")))

abbrev pub scan_app : App
scan_app = with_place (with_style (with_rule (with_range (new_app (codes "scan"))) (flag_rule (codes "count"))))

abbrev pub export_app : App
export_app = with_place (with_bounds (new_app (codes "export")))

abbrev pub stats_app : App
stats_app = with_place (with_rule (new_app (codes "stats")) (flag_rule (codes "json")))

-- that may go on behind a refusal
abbrev pub with_keep_going : App → App
with_keep_going app = with_rule app (flag_rule (codes "keep-going"))

abbrev pub check_app : App
check_app = with_place (with_keep_going (new_app (codes "check")))

abbrev pub dump_app : App
dump_app = with_place (with_keep_going (with_notation (new_app (codes "dump"))))

-- that may mend the directory first
abbrev pub with_mend : App → App
with_mend app = with_rule app (flag_rule (codes "mend"))

abbrev pub run_app : App
run_app =
    with_place (with_options (with_mend (with_rule (with_rule (new_app (codes "run"))
    (word_rule (codes "work")))
    (flag_rule (codes "strict")))))

abbrev pub import_app : App
import_app =
    with_place (with_options (with_mend (with_rule (with_rule (with_rule (new_app (codes "import"))
    (number_rule (codes "batch") (codes "1000") 65536))
    (flag_rule (codes "sync")))
    (flag_rule (codes "create")))))

abbrev pub compact_app : App
compact_app =
    with_place (with_options (with_mend (with_rule (new_app (codes "compact")) (optional_rule (codes "level") 0 5))))

abbrev pub put_app : App
put_app =
    with_rule (with_rule (with_place (with_text (new_app (codes "put")))) (given_rule (codes "KEY")))
    (given_rule (codes "VALUE"))

abbrev pub del_app : App
del_app = with_rule (with_place (with_text (new_app (codes "del")))) (given_rule (codes "KEY"))

abbrev pub mend_app : App
mend_app =
    with_place (with_rule (with_rule (new_app (codes "mend")) (flag_rule (codes "dry-run"))) (flag_rule (codes "holes")))

-- the command itself, which has a version and takes a subcommand
abbrev pub bare_app : App
bare_app = record {
  top = record (new_app (codes "ldbtool")).top { has_version = true; subcommand_required = true; arg_required_else_help = true };
  subs = [];
}

-- those that change nothing
abbrev pub with_readers : App → App
with_readers app =
    with_subcommand (with_subcommand (with_subcommand (with_subcommand (with_subcommand (with_subcommand app
    get_app.top)
    scan_app.top)
    export_app.top)
    stats_app.top)
    check_app.top)
    dump_app.top

-- those that write
abbrev pub with_writers : App → App
with_writers app =
    with_subcommand (with_subcommand (with_subcommand (with_subcommand (with_subcommand (with_subcommand app
    run_app.top)
    import_app.top)
    compact_app.top)
    put_app.top)
    del_app.top)
    mend_app.top

abbrev pub the_app : App
the_app = with_writers (with_readers bare_app)

-- ---- parts

pub record IsArg (arg : Arg) (rule : Rule) : Type 0 where
  pub reads : rule_of arg ≡ rule
  pub local : arg.global ≡ false

pub record IsCommand (command : Command) (app : App) : Type 0 where
  pub reads : app_of command ≡ app
  pub local : (fields_of command).has_globals ≡ false
