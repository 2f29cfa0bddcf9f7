use Rattle.ikey.proofs.SearchedSources as sources
use Rattle.ikey.proofs.laws.same_view.Goals as goal

pub returns : goal.returns
returns c = sources.same_view
