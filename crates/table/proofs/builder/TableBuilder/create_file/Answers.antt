use Rattle.table.proofs.Storing.{writes_none}
use Rattle.table.proofs.builder.TableBuilder.create_file.Goals as goal

pub returns-else-not-self-clause-writes : goal.returns-else-not-self-clause-writes
returns-else-not-self-clause-writes g c = writes_none (g.S.Store.facts c.args.store.now) c.args.self.now.name
