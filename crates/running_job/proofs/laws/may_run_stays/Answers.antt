use Rattle.ikey.specs.Orders.{order_of}
use Rattle.running_job.proofs.Staying.{may_stay}
use Rattle.running_job.proofs.laws.may_run_stays.Goals as goal

pub returns : goal.returns
returns g c = λ work. may_stay (order_of g.K.KeyOrder.name g.K.KeyOrder.cmp) work
