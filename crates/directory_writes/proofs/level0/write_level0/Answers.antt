use Rattle.std.proofs.Common.{◌≡◌, List, ℕ, Some, sym, subst, ◌∙◌, arith}
use Rattle.std.specs.FinMap.{get}
use Rattle.edits.specs.Names.{name_of, IsNumbered}
use Rattle.edits.specs.declared.names.FileName.TheVariants.{Table}
use Rattle.ikey.specs.Orders.{order_of}
use Rattle.store.specs.Files.{Facts}
use Rattle.table.proofs.Storing.{writes_none}
use Rattle.directory_writes.proofs.KeyEnds.{key_range}
use Rattle.directory_writes.proofs.Made.{is_level0}
use Rattle.directory_writes.proofs.level0.write_level0.Goals as goal

pub returns-in_err-smallest-clause-writes : goal.returns-in_err-smallest-clause-writes
returns-in_err-smallest-clause-writes g c = writes_none (g.S.Store.facts c.args.store.now) (name_of (Table c.args.number))

pub returns-in_err-largest-clause-writes : goal.returns-in_err-largest-clause-writes
returns-in_err-largest-clause-writes g c = writes_none (g.S.Store.facts c.args.store.now) (name_of (Table c.args.number))

pub returns-in_err-name-clause-writes : goal.returns-in_err-name-clause-writes
returns-in_err-name-clause-writes g c = writes_none (g.S.Store.facts c.args.store.now) (name_of (Table c.args.number))

pub returns-clause-written : goal.returns-clause-written
returns-clause-written g c = λ t.
    let d : Facts = g.S.Store.facts c.write_entries.new.store in
    let w = c.in_ok-size.ensures.written t in
    let named = c.deref.ensures ∙ c.in_ok-name.ensures in
    let numbered : IsNumbered c.args.number = (c.requires.number, omega arith) in
    is_level0 (order_of g.K.KeyOrder.name g.K.KeyOrder.cmp) g.met.K.KeyOrder.exact d.files c.args.memory.now.inserts
    (record { number = c.args.number; size = c.in_ok-size.size; smallest = c.in_ok-smallest.smallest; largest = c.in_ok-largest.largest }) w.0 c.in-Some.first c.in-Some-last.last
    c.requires.sequences c.rises_by_sequence.ensures numbered (sym c.in-Some.is ∙ c.first.ensures.first) (sym c.in-Some-last.is ∙ c.last.ensures.last)
    c.in_ok-smallest.ensures.key c.in_ok-largest.ensures.key (subst (λ (n : List ℕ). get d.files n ≡ Some w.0) named w.1) w.2 w.3

pub returns-clause-range : goal.returns-clause-range
returns-clause-range g c =
    key_range g.K.KeyOrder.cmp c.args.memory.now.inserts c.requires.sequences c.rises.ensures c.in-Some.first c.in-Some-last.last (sym c.in-Some.is ∙ c.first.ensures.first) (sym c.in-Some-last.is ∙ c.last.ensures.last)
    c.in_ok-smallest.smallest c.in_ok-largest.largest c.in_ok-smallest.ensures.key c.in_ok-largest.ensures.key

pub returns-clause-ends : goal.returns-clause-ends
returns-clause-ends g c f = c.in_ok-size.ensures.ends f
