use Rattle.ikey.specs.Orders.{order_of}
use Rattle.running_job.proofs.Staying.{stays_beside}
use Rattle.running_job.proofs.laws.running_stays_beside.Goals as goal

pub returns : goal.returns
returns g c = λ work. stays_beside (order_of g.K.KeyOrder.name g.K.KeyOrder.cmp) work
