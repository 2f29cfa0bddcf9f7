use Rattle.std.proofs.Common.{[], false, refl}
use Rattle.table.proofs.Parts.{begun}
use Rattle.table.proofs.builder.TableBuilder.new.Goals as goal

pub returns-clause-none : goal.returns-clause-none
returns-clause-none g c = λ facts.
    ([], (refl, rw (c.new.ensures, c.new-2.ensures) refl), rw (c.new.ensures, c.new-2.ensures, c.new-3.ensures) (begun g.K.KeyOrder.cmp _ c.args.block_bytes false))
