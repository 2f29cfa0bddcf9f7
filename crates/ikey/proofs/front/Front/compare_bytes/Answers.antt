use Rattle.std.proofs.Common.{◌∙◌, arith}
use Rattle.ikey.proofs.FrontNumbers.{behind-shared, front-less, front-greater}
use Rattle.ikey.proofs.front.Front.compare_bytes.Goals as goal

pub returns-then-self-other : goal.returns-then-self-other
returns-then-self-other c = λ shared x y a b. behind-shared shared x y ∙ front-less 16 0 x y a.bytes b.bytes (omega (arith, a.number, b.number, c.if-self-other.true))

pub returns-then-other-self : goal.returns-then-other-self
returns-then-other-self c = λ shared x y a b. behind-shared shared x y ∙ front-greater 16 0 x y a.bytes b.bytes (omega (arith, a.number, b.number, c.if-other-self.true))
