use Rattle.ikey.proofs.SearchedSources as sources
use Rattle.ikey.proofs.laws.searched_by_two.Goals as goal

pub returns : goal.returns
returns c = sources.by_two
