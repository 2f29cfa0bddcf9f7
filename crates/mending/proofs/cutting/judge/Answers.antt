use Rattle.std.proofs.Common.{take}
use Rattle.std.proofs.lemmas.Result.{err_from_is_err_and}
use Rattle.mending.proofs.Fronts.{cut_refused, whole_refused}
use Rattle.mending.proofs.cutting.judge.Goals as goal

pub returns-in_err-read_log-in-Some-clause-refused : goal.returns-in_err-read_log-in-Some-clause-refused
returns-in_err-read_log-in-Some-clause-refused c =
    let p = err_from_is_err_and c.from_residual.result c.from_residual.ensures.1 in
    rw (p.1, p.2) (cut_refused c.args.ends c.args.bytes.now c.split_at.result.0.now (take c.in-Some.n c.args.bytes.now) c.in_err-read_log-in-Some.field-0.0
    c.split_at.ensures.front c.in-Some.ensures.1 c.in_err-read_log-in-Some.ensures.refused)

pub returns-in_err-read_log-in-None-clause-refused : goal.returns-in_err-read_log-in-None-clause-refused
returns-in_err-read_log-in-None-clause-refused c =
    let p = err_from_is_err_and c.from_residual-in_err-read_log-in-None.result c.from_residual-in_err-read_log-in-None.ensures.1 in
    rw (p.1, p.2) (whole_refused c.args.ends c.args.bytes.now c.in_err-read_log-in-None.field-0.0 c.in-None.ensures c.in_err-read_log-in-None.ensures.refused)
