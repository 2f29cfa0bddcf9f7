use Rattle.ikey.proofs.SearchedSources as sources
use Rattle.ikey.proofs.laws.searched_when_replaced.Goals as goal

pub returns : goal.returns
returns c = sources.replaced
