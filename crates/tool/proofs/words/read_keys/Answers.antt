use Rattle.std.proofs.Common.{List, ℕ, map, subst, sym}
use Rattle.std.specs.Prelude.{codes}
use Rattle.std.specs.Borrow.{Bor}
use Rattle.clap.specs.Words.{found_of, rows_of}
use Rattle.tool.specs.Tasks.{AreWords}
use Rattle.tool.proofs.Found.{words_by_rows}
use Rattle.tool.proofs.words.read_keys.Goals as goal

pub returns-in-Ok : goal.returns-in-Ok
returns-in-Ok c =
    let found = found_of c.args.found.now in
    subst (AreWords (codes "KEY") (rows_of found)) (sym c.in-Ok.ensures)
    (words_by_rows found (codes "KEY") (map (λ (word : Bor (List ℕ)). word.now) c.in_ok-words.words.now) c.in_ok-words.ensures)
