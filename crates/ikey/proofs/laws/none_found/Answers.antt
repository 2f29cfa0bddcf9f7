use Rattle.ikey.proofs.SearchedSources as sources
use Rattle.ikey.proofs.laws.none_found.Goals as goal

pub returns : goal.returns
returns c = sources.none_found
