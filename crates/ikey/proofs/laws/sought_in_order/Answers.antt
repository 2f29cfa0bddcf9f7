use Rattle.ikey.proofs.SearchedSources as sources
use Rattle.ikey.proofs.laws.sought_in_order.Goals as goal

pub returns : goal.returns
returns c = sources.sought
