use Rattle.std.proofs.lemmas.Result.{err_from_is_err_and}
use Rattle.coding.proofs.Refusals.{refuses_whole}
use Rattle.coding.specs.Spelling.{InTurn, BeginsNone}
use Rattle.coding.proofs.Spellings.{begins_pair, none_first, none_second}
use Rattle.edits.specs.Edit.{SpellsKey}
use Rattle.edits.proofs.Spellings.{free_key}
use Rattle.edits.proofs.spelling.keys_at.Goals as goal

pub returns-in_err-smallest-clause-refused : goal.returns-in_err-smallest-clause-refused
returns-in_err-smallest-clause-refused c =
    let p = err_from_is_err_and c.from_residual.result c.from_residual.ensures.1 in
    rw (p.1, p.2) (refuses_whole (BeginsNone SpellsKey c.args.bytes.now) (BeginsNone (InTurn SpellsKey SpellsKey) c.args.bytes.now) c.in_err-smallest.field-0.0 (none_first SpellsKey SpellsKey c.args.bytes.now) c.in_err-smallest.ensures.refused)

pub returns-in_err-largest-clause-refused : goal.returns-in_err-largest-clause-refused
returns-in_err-largest-clause-refused c =
    let p = err_from_is_err_and c.from_residual-in_err-largest.result c.from_residual-in_err-largest.ensures.1 in
    rw (p.1, p.2) (refuses_whole (BeginsNone SpellsKey c.in_ok-smallest.rest.now) (BeginsNone (InTurn SpellsKey SpellsKey) c.args.bytes.now) c.in_err-largest.field-0.0 (none_second SpellsKey SpellsKey c.args.bytes.now c.in_ok-smallest.rest.now c.in_ok-smallest.smallest free_key c.in_ok-smallest.ensures.found) c.in_err-largest.ensures.refused)

pub returns-clause-found : goal.returns-clause-found
returns-clause-found c = begins_pair SpellsKey SpellsKey c.args.bytes.now c.in_ok-smallest.rest.now c.in_ok-largest.rest.now c.in_ok-smallest.smallest c.in_ok-largest.largest c.in_ok-smallest.ensures.found c.in_ok-largest.ensures.found
