use Rattle.std.proofs.Common.{ℕ, Option, subst, arith}
use Rattle.std.specs.Prelude.{IfSome}
use Rattle.memtable.specs.Places.{IsPlace}
use Rattle.memtable.specs.Slots.{entry_seen}
use Rattle.table_access.proofs.Walking.{starts_back, ends_back, is_full_back, finds_back, steps_back, seen_is}
use Rattle.table_access.proofs.memory_cursor.seen_back.Goals as goal

pub loop-init : goal.loop-init
loop-init g c = starts_back g.K.KeyOrder.cmp c.args.table.now.inserts c.args.sequence c.args.node c.requires

pub returns-in_default-clause-last : goal.returns-in_default-clause-last
returns-in_default-clause-last g c = ends_back g.K.KeyOrder.cmp c.args.table.now.inserts c.args.sequence c.args.node c.loop.counter c.loop.at c.in_default.is c.loop.invariant

pub entry-requires : goal.entry-requires
entry-requires g c = subst (λ (o : Option ℕ). IfSome o (IsPlace c.args.table.now.inserts)) c.in-Some.is c.loop.invariant.place

pub returns-then-entry-sequence-clause-last : goal.returns-then-entry-sequence-clause-last
returns-then-entry-sequence-clause-last g c =
    finds_back g.K.KeyOrder.cmp c.args.table.now.inserts c.args.sequence c.args.node c.loop.counter c.loop.at c.in-Some.place (entry_seen c.entry.result) c.in-Some.is c.entry.ensures c.if-entry-sequence.true c.loop.invariant

pub returns-then-entry-sequence-clause-seen : goal.returns-then-entry-sequence-clause-seen
returns-then-entry-sequence-clause-seen g c = (
  subst (λ (o : Option ℕ). IfSome o (IsPlace c.args.table.now.inserts)) c.in-Some.is c.loop.invariant.place,
  λ entry at. seen_is c.args.table.now.inserts c.args.sequence c.in-Some.place (entry_seen c.entry.result) entry c.entry.ensures c.if-entry-sequence.true at,
)

pub prev-at-requires : goal.prev-at-requires
prev-at-requires g c = subst (λ (o : Option ℕ). IfSome o (IsPlace c.args.table.now.inserts)) c.in-Some.is c.loop.invariant.place

pub loop-preserved : goal.loop-preserved
loop-preserved g c =
    steps_back g.K.KeyOrder.cmp c.args.table.now.inserts c.args.sequence c.args.node c.loop.counter c.loop.at c.prev-at.result c.in-Some.place (entry_seen c.entry.result) c.in-Some.is c.entry.ensures c.if-entry-sequence.false
    c.prev-at.ensures.neighbour c.prev-at.ensures.place c.loop.invariant

pub returns-clause-last : goal.returns-clause-last
returns-clause-last g c =
    is_full_back g.K.KeyOrder.cmp c.args.table.now.inserts c.args.sequence c.args.node c.loop.counter c.loop.at (let l = c.len-end.ensures in let t = c.loop-test.false in omega (arith, l, t)) c.loop.invariant
