use Rattle.batch.proofs.Made.{push_made}
use Rattle.batch.proofs.write_batch.Batch.push.Goals as goal

pub invariant_of-self-2 : goal.invariant_of-self-2
invariant_of-self-2 c =
    push_made c.self.inside.operations.items c.push.new.self.items c.args.operation c.self.inside.length c.args.taken c.self.invariant (rw c.self.view_is c.requires.few) c.requires.fits (rw c.self.view_is c.requires.taken) c.in_ok-push.ensures.items
