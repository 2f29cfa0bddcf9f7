use Rattle.block.proofs.EntryParts.{no_number}
use Rattle.block.proofs.entry.long_length_at.Goals as goal

pub returns-in_err-number-clause-none : goal.returns-in_err-number-clause-none
returns-in_err-number-clause-none c = rw c.from_residual.ensures (no_number c.args.bytes.now c.in_err-number.ensures.none)
