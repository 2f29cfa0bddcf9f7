use Rattle.std.proofs.Common.{◌≤◌, ◌-◌, ℕ, [], Option, length, inl, inr, refl, subst, arith}
use Rattle.std.specs.Prelude.{IfSome}
use Rattle.std.proofs.lemmas.Result.{err_from_is_err_and}
use Rattle.ikey.specs.declared.entry.Entry.{Entry}
use Rattle.memtable.specs.Places.{IsPlace}
use Rattle.memtable.specs.Slots.{entry_seen}
use Rattle.store.specs.Files.{Facts}
use Rattle.table.proofs.Storing.{refuses_later}
use Rattle.table.specs.Building.{Builds}
use Rattle.table.specs.Writing.{NeedsLongBlock}
use Rattle.directory_writes.specs.internal.Level0.{IsTooLarge, pair_of}
use Rattle.directory_writes.proofs.Filled.{none_added, among_at, may_follow, one_added, all_added, some_added, too_large, writes_by}
use Rattle.directory_writes.proofs.level0.add_entries.Goals as goal

pub loop-init : goal.loop-init
loop-init g c = none_added g.K.KeyOrder.cmp c.args.memory.now.inserts c.args.builder.now (g.S.Store.facts c.args.store.now) c.first-at.result c.requires.none c.first-at.ensures.first c.first-at.ensures.place

pub entry-requires : goal.entry-requires
entry-requires g c = subst (λ (o : Option ℕ). IfSome o (IsPlace c.args.memory.now.inserts)) c.in-Some.is c.loop.invariant.place

pub add_entry-requires-clause-sequence : goal.add_entry-requires-clause-sequence
add_entry-requires-clause-sequence g c = c.requires.sequences (entry_seen c.entry.result) (among_at c.args.memory.now.inserts (c.in-Some.place - 1) (entry_seen c.entry.result) c.entry.ensures)

pub add_entry-requires-clause-follows : goal.add_entry-requires-clause-follows
add_entry-requires-clause-follows g c =
    may_follow g.K.KeyOrder.cmp c.args.memory.now.inserts c.args.builder.now (g.S.Store.facts c.args.store.now) c.loop.builder (g.S.Store.facts c.loop.store) c.loop.at c.loop.counter c.in-Some.place (entry_seen c.entry.result)
    c.requires.sequences c.rises.ensures c.in-Some.is c.entry.ensures c.loop.invariant

pub next-at-requires : goal.next-at-requires
next-at-requires g c = subst (λ (o : Option ℕ). IfSome o (IsPlace c.args.memory.now.inserts)) c.in-Some.is c.loop.invariant.place

pub loop-preserved : goal.loop-preserved
loop-preserved g c =
    one_added g.K.KeyOrder.cmp c.args.memory.now.inserts c.args.builder.now (g.S.Store.facts c.args.store.now) c.loop.builder c.add_entry.new.builder (g.S.Store.facts c.loop.store) (g.S.Store.facts c.add_entry.new.store)
    c.loop.at c.next-at.result c.loop.counter c.in-Some.place (entry_seen c.entry.result) c.in-Some.is c.entry.ensures c.next-at.ensures.neighbour c.next-at.ensures.place
    c.in_ok-add_entry.ensures.name c.in_ok-add_entry.ensures.last c.in_ok-add_entry.ensures.writes c.in_ok-add_entry.ensures.stood c.in_ok-add_entry.ensures.added c.loop.invariant

pub returns-in_err-add_entry-clause-writes : goal.returns-in_err-add_entry-clause-writes
returns-in_err-add_entry-clause-writes g c =
    writes_by (g.S.Store.facts c.args.store.now) (g.S.Store.facts c.loop.store) (g.S.Store.facts c.add_entry.new.store) c.args.builder.now.name c.args.builder.now.name c.loop.builder.name refl c.loop.invariant.name
    c.loop.invariant.writes c.in_err-add_entry.ensures.writes

pub returns-in_err-add_entry-clause-refused : goal.returns-in_err-add_entry-clause-refused
returns-in_err-add_entry-clause-refused g c =
    let a : Facts = g.S.Store.facts c.args.store.now in
    let b : Facts = g.S.Store.facts c.loop.store in
    let d : Facts = g.S.Store.facts c.add_entry.new.store in
    let entry : Entry = entry_seen c.entry.result in
    let p = err_from_is_err_and c.from_residual.result c.from_residual.ensures.1 in
    rw (p.1, p.2) (refuses_later c.in_err-add_entry.field-0.0 a b d (NeedsLongBlock c.loop.builder (pair_of entry)) (Builds g.K.KeyOrder.cmp c.args.builder.now a [] → IsTooLarge d c.args.memory.now.inserts)
    (λ long start t. too_large g.K.KeyOrder.cmp c.args.memory.now.inserts c.args.builder.now a c.loop.builder b d c.loop.at c.loop.counter c.in-Some.place entry c.in-Some.is c.entry.ensures c.loop.invariant
    c.in_err-add_entry.ensures.writes.faithful long t start) c.loop.invariant.stood c.in_err-add_entry.ensures.refused)

pub returns-in_default-clause-last : goal.returns-in_default-clause-last
returns-in_default-clause-last g c = some_added g.K.KeyOrder.cmp c.args.memory.now.inserts c.args.builder.now (g.S.Store.facts c.args.store.now) c.loop.builder (g.S.Store.facts c.loop.store) c.loop.at c.loop.counter c.requires.some (inl c.in_default.is) c.loop.invariant

pub returns-in_default-clause-added : goal.returns-in_default-clause-added
returns-in_default-clause-added g c = all_added g.K.KeyOrder.cmp c.args.memory.now.inserts c.args.builder.now (g.S.Store.facts c.args.store.now) c.loop.builder (g.S.Store.facts c.loop.store) c.loop.at c.loop.counter (inl c.in_default.is) c.loop.invariant

pub returns-clause-last : goal.returns-clause-last
returns-clause-last g c =
    let end : length c.args.memory.now.inserts ≤ c.loop.counter = (let l = c.len-end.ensures in let t = c.loop-test.false in omega (arith, l, t)) in
    some_added g.K.KeyOrder.cmp c.args.memory.now.inserts c.args.builder.now (g.S.Store.facts c.args.store.now) c.loop.builder (g.S.Store.facts c.loop.store) c.loop.at c.loop.counter c.requires.some (inr end) c.loop.invariant

pub returns-clause-added : goal.returns-clause-added
returns-clause-added g c =
    let end : length c.args.memory.now.inserts ≤ c.loop.counter = (let l = c.len-end.ensures in let t = c.loop-test.false in omega (arith, l, t)) in
    all_added g.K.KeyOrder.cmp c.args.memory.now.inserts c.args.builder.now (g.S.Store.facts c.args.store.now) c.loop.builder (g.S.Store.facts c.loop.store) c.loop.at c.loop.counter (inr end) c.loop.invariant
