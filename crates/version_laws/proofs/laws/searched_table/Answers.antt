use Rattle.version_laws.proofs.Levels.{searched_table}
use Rattle.version_laws.proofs.laws.searched_table.Goals as goal

pub returns : goal.returns
returns c = searched_table
