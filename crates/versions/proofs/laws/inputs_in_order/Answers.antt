use Rattle.versions.proofs.Inputs.{inputs}
use Rattle.versions.proofs.laws.inputs_in_order.Goals as goal

pub returns : goal.returns
returns c = inputs
