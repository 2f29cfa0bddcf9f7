use Rattle.std.proofs.Common.{sym, ap, ◌∙◌}
use Rattle.std.specs.Prelude.{codes, Some}
use Rattle.std.proofs.lemmas.Slice.Eq.{bytes_eq-Decides}
use Rattle.clap.specs.Words.{found_of}
use Rattle.tool.proofs.Found.{word_by_rows}
use Rattle.tool.proofs.words.read_flag.Goals as goal

pub returns-then-eq : goal.returns-then-eq
returns-then-eq c =
    let named = (bytes_eq-Decides c.in_ok-text.text.now (codes "true")).0 (sym c.if-eq.ensures) in
    word_by_rows (found_of c.args.found.now) c.args.name.now c.in_ok-text.text.now c.in_ok-text.ensures ∙ ap Some named

pub returns-then-eq-2 : goal.returns-then-eq-2
returns-then-eq-2 c =
    let named = (bytes_eq-Decides c.in_ok-text.text.now (codes "false")).0 (sym c.if-eq-2.ensures) in
    word_by_rows (found_of c.args.found.now) c.args.name.now c.in_ok-text.text.now c.in_ok-text.ensures ∙ ap Some named
