use Rattle.ikey.proofs.SearchedSources as sources
use Rattle.ikey.proofs.laws.all_come_before.Goals as goal

pub returns : goal.returns
returns c = sources.all_before
