use Rattle.ikey.specs.KeyViews.{key_of}
use Rattle.table.proofs.Checked.{admitted_by}
use Rattle.table.proofs.checking.is_admitted.Goals as goal

pub returns : goal.returns
returns c = admitted_by c.args.filter.now c.args.offset c.args.key.now (key_of c.in-Some.parts) c.admits.result c.in-Some.ensures.found c.admits.ensures
