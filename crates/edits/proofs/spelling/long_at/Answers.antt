use Rattle.edits.proofs.Spellings.{varint_none}
use Rattle.edits.proofs.spelling.long_at.Goals as goal

pub returns-in_default-clause-refused : goal.returns-in_default-clause-refused
returns-in_default-clause-refused c = λ value rest b. varint_none c.args.bytes.now b.0 rest value (λ used v. c.in_default.ensures.none value used b.1.1 v) b.1.0 b.2
