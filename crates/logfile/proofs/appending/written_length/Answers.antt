use Rattle.logfile.proofs.Determined.{length-written, length_bounds}
use Rattle.logfile.proofs.appending.written_length.Goals as goal

pub returns-clause-length : goal.returns-clause-length
returns-clause-length c = length-written

pub returns-clause-least : goal.returns-clause-least
returns-clause-least c = λ room size. (length_bounds room size).0

pub returns-clause-most : goal.returns-clause-most
returns-clause-most c = λ room size. (length_bounds room size).1
