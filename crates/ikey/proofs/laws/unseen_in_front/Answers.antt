use Rattle.ikey.proofs.SearchedSources as sources
use Rattle.ikey.proofs.laws.unseen_in_front.Goals as goal

pub returns : goal.returns
returns c = sources.is_behind
