use Rattle.ikey.proofs.SearchedSources as sources
use Rattle.ikey.proofs.laws.answered_in_row.Goals as goal

pub returns : goal.returns
returns c = sources.row_answer
