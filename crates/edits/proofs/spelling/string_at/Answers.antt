use Rattle.edits.proofs.spelling.string_at.Goals as goal

pub returns-in_default-clause-refused : goal.returns-in_default-clause-refused
returns-in_default-clause-refused c = λ value rest b. c.in_default.ensures.none b.0 value rest b.1 b.2
