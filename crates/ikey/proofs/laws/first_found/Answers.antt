use Rattle.ikey.proofs.SearchedSources as sources
use Rattle.ikey.proofs.laws.first_found.Goals as goal

pub returns : goal.returns
returns c = sources.first_found
