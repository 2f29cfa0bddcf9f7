use Rattle.ikey.specs.Orders.{order_of}
use Rattle.running_job.proofs.Staying.{stays}
use Rattle.running_job.proofs.laws.running_stays.Goals as goal

pub returns : goal.returns
returns g c = λ work. stays (order_of g.K.KeyOrder.name g.K.KeyOrder.cmp) work
