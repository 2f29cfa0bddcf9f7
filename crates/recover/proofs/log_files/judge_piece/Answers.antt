use Rattle.recover.proofs.LogPieces.{judged}
use Rattle.recover.proofs.log_files.judge_piece.Goals as goal

pub returns-in-Err : goal.returns-in-Err
returns-in-Err c = record { refused = rw c.refusal_in.ensures (judged c.args.kind c.in-Err.error c.min.result c.args.piece.now c.min.ensures c.in-Err.ensures.refused) }
