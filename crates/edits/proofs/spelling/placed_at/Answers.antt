use Rattle.std.proofs.lemmas.Result.{err_from_is_err_and}
use Rattle.coding.proofs.Refusals.{refuses_whole}
use Rattle.coding.specs.Spelling.{BeginsNone}
use Rattle.edits.specs.Edit.{IsLevel, SpellsTable, IsPlaced}
use Rattle.coding.proofs.Spellings.{begins_pair, none_first, none_second}
use Rattle.edits.proofs.Spellings.{none_placed, free_level}
use Rattle.edits.proofs.spelling.placed_at.Goals as goal

pub returns-in_err-level-clause-refused : goal.returns-in_err-level-clause-refused
returns-in_err-level-clause-refused c =
    let p = err_from_is_err_and c.from_residual.result c.from_residual.ensures.1 in
    rw (p.1, p.2) (refuses_whole (BeginsNone IsLevel c.args.bytes.now) (BeginsNone IsPlaced c.args.bytes.now) c.in_err-level.field-0.0 (λ none. none_placed c.args.bytes.now (none_first IsLevel SpellsTable c.args.bytes.now none)) c.in_err-level.ensures.refused)

pub returns-in_err-table-clause-refused : goal.returns-in_err-table-clause-refused
returns-in_err-table-clause-refused c =
    let p = err_from_is_err_and c.from_residual-in_err-table.result c.from_residual-in_err-table.ensures.1 in
    rw (p.1, p.2) (refuses_whole (BeginsNone SpellsTable c.in_ok-level.rest.now) (BeginsNone IsPlaced c.args.bytes.now) c.in_err-table.field-0.0 (λ none. none_placed c.args.bytes.now (none_second IsLevel SpellsTable c.args.bytes.now c.in_ok-level.rest.now c.in_ok-level.level free_level c.in_ok-level.ensures.found none)) c.in_err-table.ensures.refused)

pub returns-clause-found : goal.returns-clause-found
returns-clause-found c = begins_pair IsLevel SpellsTable c.args.bytes.now c.in_ok-level.rest.now c.in_ok-table.rest.now c.in_ok-level.level c.in_ok-table.table c.in_ok-level.ensures.found c.in_ok-table.ensures.found
