use Rattle.table.proofs.Handles.{not_begun, not_whole}
use Rattle.table.proofs.handle.whole_handle.Goals as goal

pub returns-in_err-handle : goal.returns-in_err-handle
returns-in_err-handle c = rw c.from_residual.ensures (not_begun c.args.bytes.now c.in_err-handle.ensures.none)

pub returns-in_default : goal.returns-in_default
returns-in_default c = λ handle h.
    not_whole c.args.bytes.now c.in_ok-handle.field-0.1.now c.in_ok-handle.field-0.0 handle c.in_ok-handle.ensures.found c.in_default.len_at_least h
