use Rattle.std.proofs.Common.{ℕ, Option, subst, arith}
use Rattle.std.specs.Prelude.{IfSome}
use Rattle.memtable.specs.Places.{IsPlace}
use Rattle.memtable.specs.Slots.{entry_seen}
use Rattle.table_access.proofs.Walking.{starts, ends, is_full, finds, steps_on, seen_is}
use Rattle.table_access.proofs.memory_cursor.seen_from.Goals as goal

pub loop-init : goal.loop-init
loop-init g c = starts g.K.KeyOrder.cmp c.args.table.now.inserts c.args.sequence c.args.node c.requires

pub returns-in_default-clause-first : goal.returns-in_default-clause-first
returns-in_default-clause-first g c = ends g.K.KeyOrder.cmp c.args.table.now.inserts c.args.sequence c.args.node c.loop.counter c.loop.at c.in_default.is c.loop.invariant

pub entry-requires : goal.entry-requires
entry-requires g c = subst (λ (o : Option ℕ). IfSome o (IsPlace c.args.table.now.inserts)) c.in-Some.is c.loop.invariant.place

pub returns-then-entry-sequence-clause-first : goal.returns-then-entry-sequence-clause-first
returns-then-entry-sequence-clause-first g c =
    finds g.K.KeyOrder.cmp c.args.table.now.inserts c.args.sequence c.args.node c.loop.counter c.loop.at c.in-Some.place (entry_seen c.entry.result) c.in-Some.is c.entry.ensures c.if-entry-sequence.true c.loop.invariant

pub returns-then-entry-sequence-clause-seen : goal.returns-then-entry-sequence-clause-seen
returns-then-entry-sequence-clause-seen g c = (
  subst (λ (o : Option ℕ). IfSome o (IsPlace c.args.table.now.inserts)) c.in-Some.is c.loop.invariant.place,
  λ entry at. seen_is c.args.table.now.inserts c.args.sequence c.in-Some.place (entry_seen c.entry.result) entry c.entry.ensures c.if-entry-sequence.true at,
)

pub next-at-requires : goal.next-at-requires
next-at-requires g c = subst (λ (o : Option ℕ). IfSome o (IsPlace c.args.table.now.inserts)) c.in-Some.is c.loop.invariant.place

pub loop-preserved : goal.loop-preserved
loop-preserved g c =
    steps_on g.K.KeyOrder.cmp c.args.table.now.inserts c.args.sequence c.args.node c.loop.counter c.loop.at c.next-at.result c.in-Some.place (entry_seen c.entry.result) c.in-Some.is c.entry.ensures c.if-entry-sequence.false
    c.next-at.ensures.neighbour c.next-at.ensures.place c.loop.invariant

pub returns-clause-first : goal.returns-clause-first
returns-clause-first g c =
    is_full g.K.KeyOrder.cmp c.args.table.now.inserts c.args.sequence c.args.node c.loop.counter c.loop.at (let l = c.len-end.ensures in let t = c.loop-test.false in omega (arith, l, t)) c.loop.invariant
