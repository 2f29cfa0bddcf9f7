use Rattle.std.proofs.Common.{arith}
use Rattle.versions.proofs.Puts.{put_is, put_not}
use Rattle.versions.proofs.ordering.put_fresh.Goals as goal

pub returns-then-not-ends_before-clause-refused : goal.returns-then-not-ends_before-clause-refused
returns-then-not-ends_before-clause-refused g c =
    put_not g.K.KeyOrder.cmp g.met.K.KeyOrder.total c.args.tables.now.items c.requires.order c.args.new c.place_for-place.result (rw c.deref.ensures.value at c.place_for-place.ensures.within) (rw c.deref.ensures.value at c.place_for-place.ensures.front)
    (rw c.deref-2.ensures.value at c.if-not-ends_before.ensures) (rw c.deref.ensures.value at c.place_for-place.ensures.back)

pub returns-clause-done : goal.returns-clause-done
returns-clause-done g c =
    rw c.in_ok-insert.ensures.items
    (put_is g.K.KeyOrder.cmp g.met.K.KeyOrder.total c.args.tables.now.items c.requires.order c.args.new c.place_for-place.result (rw c.deref.ensures.value at c.place_for-place.ensures.within) (rw c.deref.ensures.value at c.place_for-place.ensures.front)
    (rw c.deref-2.ensures.value at c.if-not-ends_before.ensures) (omega arith) c.if-not-has_range.ensures c.requires.fresh)
