use Rattle.std.proofs.Common.{◌≡◌, map, ap, ◌∙◌, true, string_bytes}
use Rattle.clap.specs.Words.{App, app_of, is_simple, subcommand_of}
use Rattle.tool.proofs.Commands.{the_app_is_simple}
use Rattle.tool.proofs.words.matches.Goals as goal

pub returns : goal.returns
returns c =
    let simple : is_simple (app_of c.in_ok-command.command) ≡ true = ap is_simple c.in_ok-command.ensures.reads ∙ the_app_is_simple in
    let words = map string_bytes c.args.words.now in
    (c.in_ok-matches.ensures.ok.2 simple).1 ∙ ap (λ (app : App). subcommand_of app words) c.in_ok-command.ensures.reads
