use Rattle.std.proofs.Common.{inl, inr, sym, arith}
use Rattle.std.proofs.lemmas.List.{take_all}
use Rattle.store.proofs.trouble.ShortName.as_bytes.Goals as goal

pub returns-in-None : goal.returns-in-None
returns-in-None c = elim c.in-None.ensures.lookup.0 [
  | inl below ↦ absurd (omega (arith, below))
  | inr past ↦ sym (take_all c.args.self.now.length c.args.self.now.bytes (omega (arith, past)))
]
