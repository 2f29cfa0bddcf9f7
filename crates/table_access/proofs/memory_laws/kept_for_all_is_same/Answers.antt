use Rattle.std.specs.Prelude.{None, []}
use Rattle.table_access.proofs.Views.{same_inserts}
use Rattle.table_access.proofs.memory_laws.kept_for_all_is_same.Goals as goal

pub returns : goal.returns
returns g c = λ old new h. same_inserts g.K.KeyOrder.cmp old.inserts new.inserts (λ s. h (record { sequence = s; node = None; key = [] }))
