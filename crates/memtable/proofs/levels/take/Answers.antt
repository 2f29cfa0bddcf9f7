use Rattle.memtable.proofs.Ends.{ends-joined}
use Rattle.memtable.proofs.levels.take.Goals as goal

pub returns : goal.returns
returns g c = λ front back count total h ends none. (c.put.ensures.taken front back count total h, ends-joined c.args.ends.now c.args.number front back ends)
