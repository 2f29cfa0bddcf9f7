use Rattle.std.proofs.Common.{sym}
use Rattle.ikey.specs.KeyViews.{key_of}
use Rattle.compact.proofs.Merges.{precedes-less, precedes-equal, lt-of}
use Rattle.compact.proofs.Refusing.{equal-refuses, greater-refuses}
use Rattle.compact.proofs.job.comes_behind.Goals as goal

pub returns-in-Less-clause-behind : goal.returns-in-Less-clause-behind
returns-in-Less-clause-behind g c = λ yes_is last_key next_key entry behind is next_is up key_is sequence_is.
    precedes-less g.K.KeyOrder.cmp g.met.K.KeyOrder.total c.args.last.now c.args.next.now (key_of c.in-Some.last) last_key (key_of c.in-Some-unpack.next) next_key entry behind
    c.in-Some.ensures.found is c.in-Some-unpack.ensures.found next_is (sym c.in-Less.ensures) up key_is

pub returns-in-Equal-clause-behind : goal.returns-in-Equal-clause-behind
returns-in-Equal-clause-behind g c = λ less last_key next_key entry behind is next_is up key_is sequence_is.
    precedes-equal g.K.KeyOrder.cmp c.args.last.now c.args.next.now (key_of c.in-Some.last) last_key (key_of c.in-Some-unpack.next) next_key entry behind
    c.in-Some.ensures.found is c.in-Some-unpack.ensures.found next_is (g.met.K.KeyOrder.exact _ _ (sym c.in-Equal.ensures)) (lt-of c.in-Some-unpack.next.sequence c.in-Some.last.sequence less) up key_is sequence_is

pub returns-in-Equal-clause-refused : goal.returns-in-Equal-clause-refused
returns-in-Equal-clause-refused g c = λ older next_key is. (
  key_of c.in-Some.last,
  c.in-Some.ensures.found,
  equal-refuses g.K.KeyOrder.cmp c.args.next.now (key_of c.in-Some.last) (key_of c.in-Some-unpack.next) next_key c.in-Some-unpack.ensures.found is (sym c.in-Equal.ensures) older,
)

pub returns-in-Greater-clause-refused : goal.returns-in-Greater-clause-refused
returns-in-Greater-clause-refused g c = λ done next_key is. (
  key_of c.in-Some.last,
  c.in-Some.ensures.found,
  greater-refuses g.K.KeyOrder.cmp g.met.K.KeyOrder.total c.args.next.now (key_of c.in-Some.last) (key_of c.in-Some-unpack.next) next_key c.in-Some-unpack.ensures.found is (sym c.in-Greater.ensures),
)
