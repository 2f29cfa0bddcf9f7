-- Commands that are built part by part.
use Rattle.std.proofs.Common.{◌≡◌, ◌||◌, List, ℕ, Bool, true, ap, ap₂, ◌∙◌, refl}
use Rattle.std.specs.Prelude.{Option, Some}
use Rattle.std.specs.Borrow.{Bor}
use Rattle.clap.specs.Words.{AddsArg, AddsSubcommand, App, Rule, is_simple, with_rule, with_subcommand}
use Rattle.clap.specs.Simple.{app_of_fields}
use Rattle.clap.specs.declared.builder.arg.Arg.{Arg}
use Rattle.clap.specs.declared.builder.command.Command.{Command}
use Rattle.clap.specs.declared.builder.command.Command.TheViews.{out-Command as fields_of}
use Rattle.tool.specs.CommandLine.{the_app, IsArg, IsCommand}
use Rattle.clap.proofs.OnLiterals.{clap_on_literals}

pub add_arg : (old new : Command) (arg : Arg) (app : App) (rule : Rule) → IsCommand old app → IsArg arg rule → AddsArg old arg new → IsCommand new (with_rule app rule)
add_arg old new arg app rule was is adds = record {
  reads = adds.shape is.local ∙ ap₂ with_rule was.reads is.reads;
  local = adds.globals ∙ ap (λ b. b || arg.global) was.local ∙ is.local;
}

pub add_subcommand : (old sub new : Command) (app inner : App) → IsCommand old app → IsCommand sub inner → AddsSubcommand old sub new → IsCommand new (with_subcommand app inner.top)
add_subcommand old sub new app inner was is adds = record {
  reads = adds.shape is.local ∙ ap₂ with_subcommand was.reads (ap (λ (a : App). a.top) is.reads);
  local = adds.globals ∙ ap (λ b. b || (fields_of sub).has_globals) was.local ∙ is.local;
}

pub with_about : (old new : Command) (app : App) (text : Option (Bor (List ℕ))) → IsCommand old app → fields_of new ≡ record (fields_of old) { about = text } → IsCommand new app
with_about old new app text was e = record { reads = ap app_of_fields e ∙ was.reads; local = ap (λ f. f.has_globals) e ∙ was.local }

pub with_version : (old new : Command) (app : App) (text : Bor (List ℕ)) → IsCommand old app → fields_of new ≡ record (fields_of old) { version = Some text }
    → IsCommand new (record app { top = record app.top { has_version = true } })
with_version old new app text was e = record {
  reads = ap app_of_fields e ∙ ap (λ (a : App). record a { top = record a.top { has_version = true } }) was.reads;
  local = ap (λ f. f.has_globals) e ∙ was.local;
}

pub with_after_help : (old new : Command) (app : App) (text : Option (Bor (List ℕ))) → IsCommand old app → fields_of new ≡ record (fields_of old) { after_help = text } → IsCommand new app
with_after_help old new app text was e = record { reads = ap app_of_fields e ∙ was.reads; local = ap (λ f. f.has_globals) e ∙ was.local }

pub with_required : (old new : Command) (app : App) (wanted : Bool) → IsCommand old app → fields_of new ≡ record (fields_of old) { subcommand_required = wanted }
    → IsCommand new (record app { top = record app.top { subcommand_required = wanted } })
with_required old new app wanted was e = record {
  reads = ap app_of_fields e ∙ ap (λ (a : App). record a { top = record a.top { subcommand_required = wanted } }) was.reads;
  local = ap (λ f. f.has_globals) e ∙ was.local;
}

pub with_help_else : (old new : Command) (app : App) (wanted : Bool) → IsCommand old app → fields_of new ≡ record (fields_of old) { arg_required_else_help = wanted }
    → IsCommand new (record app { top = record app.top { arg_required_else_help = wanted } })
with_help_else old new app wanted was e = record {
  reads = ap app_of_fields e ∙ ap (λ (a : App). record a { top = record a.top { arg_required_else_help = wanted } }) was.reads;
  local = ap (λ f. f.has_globals) e ∙ was.local;
}

-- the command line is one of which clap says the matches
pub the_app_is_simple : is_simple the_app ≡ true
unfolding clap_on_literals
the_app_is_simple = refl
