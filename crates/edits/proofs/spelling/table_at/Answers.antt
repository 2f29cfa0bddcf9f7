use Rattle.std.proofs.lemmas.Result.{err_from_is_err_and}
use Rattle.coding.proofs.Refusals.{refuses_whole}
use Rattle.coding.specs.Spelling.{InTurn, BeginsNone}
use Rattle.edits.specs.Edit.{IsLong, IsTableNumber, SpellsKey, SpellsTable}
use Rattle.coding.proofs.Spellings.{begins_pair, none_first, none_second}
use Rattle.edits.proofs.Spellings.{none_table, free_table_number, free_long}
use Rattle.edits.proofs.spelling.table_at.Goals as goal

pub returns-in_err-number-clause-refused : goal.returns-in_err-number-clause-refused
returns-in_err-number-clause-refused c =
    let p = err_from_is_err_and c.from_residual.result c.from_residual.ensures.1 in
    rw (p.1, p.2) (refuses_whole (BeginsNone IsTableNumber c.args.bytes.now) (BeginsNone SpellsTable c.args.bytes.now) c.in_err-number.field-0.0 (λ none. none_table c.args.bytes.now (none_first IsTableNumber (InTurn IsLong (InTurn SpellsKey SpellsKey)) c.args.bytes.now none)) c.in_err-number.ensures.refused)

pub returns-in_err-size-clause-refused : goal.returns-in_err-size-clause-refused
returns-in_err-size-clause-refused c =
    let p = err_from_is_err_and c.from_residual-in_err-size.result c.from_residual-in_err-size.ensures.1 in
    rw (p.1, p.2) (refuses_whole (BeginsNone IsLong c.in_ok-number.rest.now) (BeginsNone SpellsTable c.args.bytes.now) c.in_err-size.field-0.0 (λ none. none_table c.args.bytes.now (none_second IsTableNumber (InTurn IsLong (InTurn SpellsKey SpellsKey)) c.args.bytes.now c.in_ok-number.rest.now c.in_ok-number.number free_table_number c.in_ok-number.ensures.found (none_first IsLong (InTurn SpellsKey SpellsKey) c.in_ok-number.rest.now none))) c.in_err-size.ensures.refused)

pub returns-in_err-smallest-clause-refused : goal.returns-in_err-smallest-clause-refused
returns-in_err-smallest-clause-refused c =
    let p = err_from_is_err_and c.from_residual-in_err-smallest.result c.from_residual-in_err-smallest.ensures.1 in
    rw (p.1, p.2) (refuses_whole (BeginsNone (InTurn SpellsKey SpellsKey) c.in_ok-size.rest.now) (BeginsNone SpellsTable c.args.bytes.now) c.in_err-smallest.field-0.0 (λ none. none_table c.args.bytes.now (none_second IsTableNumber (InTurn IsLong (InTurn SpellsKey SpellsKey)) c.args.bytes.now c.in_ok-number.rest.now c.in_ok-number.number free_table_number c.in_ok-number.ensures.found (none_second IsLong (InTurn SpellsKey SpellsKey) c.in_ok-number.rest.now c.in_ok-size.rest.now c.in_ok-size.size free_long c.in_ok-size.ensures.found none))) c.in_err-smallest.ensures.refused)

pub returns-clause-found : goal.returns-clause-found
returns-clause-found c =
    begins_pair IsTableNumber (InTurn IsLong (InTurn SpellsKey SpellsKey)) c.args.bytes.now c.in_ok-number.rest.now c.in_ok-smallest.rest.now c.in_ok-number.number (c.in_ok-size.size, (c.in_ok-smallest.smallest, c.in_ok-smallest.largest)) c.in_ok-number.ensures.found
    (begins_pair IsLong (InTurn SpellsKey SpellsKey) c.in_ok-number.rest.now c.in_ok-size.rest.now c.in_ok-smallest.rest.now c.in_ok-size.size (c.in_ok-smallest.smallest, c.in_ok-smallest.largest) c.in_ok-size.ensures.found c.in_ok-smallest.ensures.found)
