use Rattle.table.proofs.Handles.{begins_handle, no_offset, no_size}
use Rattle.table.proofs.handle.handle_at.Goals as goal

pub returns-in_err-offset-clause-none : goal.returns-in_err-offset-clause-none
returns-in_err-offset-clause-none c = rw c.from_residual.ensures (no_offset c.args.bytes.now c.in_err-offset.ensures.none)

pub returns-in_err-size-clause-none : goal.returns-in_err-size-clause-none
returns-in_err-size-clause-none c =
    rw c.from_residual-in_err-size.ensures (no_size c.args.bytes.now c.in_ok-offset.behind.now c.in_ok-offset.offset c.in_ok-offset.ensures.found c.in_err-size.ensures.none)

pub returns-clause-found : goal.returns-clause-found
returns-clause-found c =
    begins_handle c.args.bytes.now c.in_ok-offset.behind.now c.in_ok-size.behind.now (record { offset = c.in_ok-offset.offset; size = c.in_ok-size.size }) c.in_ok-offset.ensures.found c.in_ok-size.ensures.found
