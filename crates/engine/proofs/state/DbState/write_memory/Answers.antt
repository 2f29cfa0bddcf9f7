use Rattle.std.proofs.Common.{◌≡◌, ◌+◌, length, Result, Ok, Err, sym, ap, subst, ◌∙◌, arith, rules}
use Rattle.std.proofs.lemmas.Bool.{eqb-true}
use Rattle.coding.specs.declared.error.DbError.{DbError}
use Rattle.ikey.specs.Orders.{order_of}
use Rattle.engine.specs.Finishing.{CompactOutcome}
use Rattle.engine.specs.internal.Leading.{LeadsOpen}
use Rattle.engine.specs.OpenDb.{open_db}
use Rattle.db_cursor.specs.Whole.{seen_of}
use Rattle.engine.specs.internal.Pieces.{IsPiece, MayRefusePiece}
use Rattle.engine.proofs.Emptied.{on_ok}
use Rattle.engine.proofs.FlushEnds.{no_entries}
use Rattle.engine.proofs.Finishing.{outcome_by, outcome_of, outcome_then, serves_then, then_bound, within_bound}
use Rattle.engine.proofs.Breaking.{breaks_as, breaks_then, handed_on, serves_breaks}
use Rattle.engine.proofs.StopSteps.{keeps_then}
use Rattle.engine.specs.Stands.{no_ids}
use Rattle.engine.proofs.state.DbState.write_memory.Goals as goal

pub returns-in_err-write_sealed-clause-step : goal.returns-in_err-write_sealed-clause-step
returns-in_err-write_sealed-clause-step g c ids =
    let order = order_of g.K.KeyOrder.name g.K.KeyOrder.cmp in
    let old = seen_of g.S.Store.facts c.args.source.now in
    let before = open_db c.args.source.now.memory c.args.self.now in
    let new = seen_of g.S.Store.facts c.write_sealed.new.source in
    let after = open_db c.write_sealed.new.source.memory c.write_sealed.new.self in
    let e = c.in_err-write_sealed.field-0.0 in
    let said : c.from_residual.result ≡ Err e = search rules in
    subst (λ (r : Result _ DbError). LeadsOpen order old new ids before after (λ m n. IsPiece m 3 r n)) (sym said)
    (within_bound order old new ids before after (λ k. 1) (λ k. 3) (Err e) (λ k. omega arith) (c.in_err-write_sealed.ensures.step ids))

pub returns-in_err-write_sealed-clause-outcome : goal.returns-in_err-write_sealed-clause-outcome
returns-in_err-write_sealed-clause-outcome g c =
    let facts = g.S.Store.facts in
    let e = c.in_err-write_sealed.field-0.0 in
    let said : c.from_residual.result ≡ Err e = search rules in
    subst (λ (r : Result _ DbError). CompactOutcome MayRefusePiece (facts c.args.source.now.tables.store) (facts c.write_sealed.new.source.tables.store) (open_db c.args.source.now.memory c.args.self.now) (open_db c.write_sealed.new.source.memory c.write_sealed.new.self) r)
    (sym said) c.in_err-write_sealed.ensures.outcome

pub returns-then-is_empty-clause-step : goal.returns-then-is_empty-clause-step
returns-then-is_empty-clause-step g c ids =
    let order = order_of g.K.KeyOrder.name g.K.KeyOrder.cmp in
    let old = seen_of g.S.Store.facts c.args.source.now in
    let before = open_db c.args.source.now.memory c.args.self.now in
    let new = seen_of g.S.Store.facts c.write_sealed.new.source in
    let after = open_db c.write_sealed.new.source.memory c.write_sealed.new.self in
    within_bound order old new ids before after (λ k. 1) (λ k. 3) (Ok (tt {0})) (λ k. omega arith) (c.in_ok-write_sealed.ensures.step ids)

pub returns-then-is_empty-clause-written : goal.returns-then-is_empty-clause-written
returns-then-is_empty-clause-written g c =
    record {
      current = no_entries c.write_sealed.new.source.memory.current.inserts (eqb-true (length c.write_sealed.new.source.memory.current.inserts) 0 (sym c.is_empty.ensures ∙ c.if-is_empty.true));
      sealed = c.in_ok-write_sealed.ensures.written;
    }

pub returns-in_err-seal-clause-step : goal.returns-in_err-seal-clause-step
returns-in_err-seal-clause-step g c ids =
    let order = order_of g.K.KeyOrder.name g.K.KeyOrder.cmp in
    let old = seen_of g.S.Store.facts c.args.source.now in
    let before = open_db c.args.source.now.memory c.args.self.now in
    let mid = seen_of g.S.Store.facts c.write_sealed.new.source in
    let between = open_db c.write_sealed.new.source.memory c.write_sealed.new.self in
    let new = seen_of g.S.Store.facts c.seal.new.source in
    let after = open_db c.seal.new.source.memory c.seal.new.self in
    let e = c.in_err-seal.field-0.0 in
    let said : c.from_residual-in_err-seal.result ≡ Err e = search rules in
    subst (λ (r : Result _ DbError). LeadsOpen order old new ids before after (λ m n. IsPiece m 3 r n)) (sym said)
    (within_bound order old new ids before after (λ k. 1 + 1) (λ k. 3) (Err e) (λ k. omega arith)
    (then_bound order old mid new ids before between after (λ k. 1) (λ k. 1) (tt {0}) (Err e) (c.in_ok-write_sealed.ensures.step ids) (c.in_err-seal.ensures.step ids)))

pub returns-in_err-seal-clause-outcome : goal.returns-in_err-seal-clause-outcome
returns-in_err-seal-clause-outcome g c =
    let facts = g.S.Store.facts in
    let old = facts c.args.source.now.tables.store in
    let mid = facts c.write_sealed.new.source.tables.store in
    let new = facts c.seal.new.source.tables.store in
    let before = open_db c.args.source.now.memory c.args.self.now in
    let between = open_db c.write_sealed.new.source.memory c.write_sealed.new.self in
    let after = open_db c.seal.new.source.memory c.seal.new.self in
    let e = c.in_err-seal.field-0.0 in
    let said : c.from_residual-in_err-seal.result ≡ Err e = search rules in
    let s = c.in_err-seal.ensures in
    subst (λ (r : Result _ DbError). CompactOutcome MayRefusePiece old new before after r) (sym said)
    (outcome_then MayRefusePiece old mid new before between after (Err e) c.requires.whole c.in_ok-write_sealed.ensures.serves (outcome_of mid new between after e s.lock s.outcome))

pub returns-clause-step : goal.returns-clause-step
returns-clause-step g c ids =
    let order = order_of g.K.KeyOrder.name g.K.KeyOrder.cmp in
    let old = seen_of g.S.Store.facts c.args.source.now in
    let before = open_db c.args.source.now.memory c.args.self.now in
    let mid = seen_of g.S.Store.facts c.write_sealed.new.source in
    let first = open_db c.write_sealed.new.source.memory c.write_sealed.new.self in
    let later = seen_of g.S.Store.facts c.seal.new.source in
    let second = open_db c.seal.new.source.memory c.seal.new.self in
    let new = seen_of g.S.Store.facts c.flush.new.source in
    let after = open_db c.flush.new.source.memory c.flush.new.self in
    let r = c.flush.result in
    within_bound order old new ids before after (λ k. (1 + 1) + 1) (λ k. 3) r (λ k. omega arith)
    (then_bound order old later new ids before second after (λ k. 1 + 1) (λ k. 1) (tt {0}) r
    (then_bound order old mid later ids before first second (λ k. 1) (λ k. 1) (tt {0}) (Ok (tt {0})) (c.in_ok-write_sealed.ensures.step ids) (c.in_ok-seal.ensures.step ids)) (c.flush.ensures.step ids))

pub returns-clause-outcome : goal.returns-clause-outcome
returns-clause-outcome g c =
    let facts = g.S.Store.facts in
    let old = facts c.args.source.now.tables.store in
    let mid = facts c.write_sealed.new.source.tables.store in
    let later = facts c.seal.new.source.tables.store in
    let new = facts c.flush.new.source.tables.store in
    let before = open_db c.args.source.now.memory c.args.self.now in
    let first = open_db c.write_sealed.new.source.memory c.write_sealed.new.self in
    let second = open_db c.seal.new.source.memory c.seal.new.self in
    let after = open_db c.flush.new.source.memory c.flush.new.self in
    let f = c.flush.ensures in
    let so_far = serves_then old mid later before first second c.in_ok-write_sealed.ensures.serves c.in_ok-seal.ensures.serves in
    outcome_then MayRefusePiece old later new before second after c.flush.result c.requires.whole so_far (outcome_by later new second after c.flush.result c.in_ok-seal.ensures.serves.whole f.lock f.outcome f.serves)

pub returns-clause-serves : goal.returns-clause-serves
returns-clause-serves g c =
    let facts = g.S.Store.facts in
    let old = facts c.args.source.now.tables.store in
    let mid = facts c.write_sealed.new.source.tables.store in
    let later = facts c.seal.new.source.tables.store in
    let new = facts c.flush.new.source.tables.store in
    let before = open_db c.args.source.now.memory c.args.self.now in
    let first = open_db c.write_sealed.new.source.memory c.write_sealed.new.self in
    let second = open_db c.seal.new.source.memory c.seal.new.self in
    let after = open_db c.flush.new.source.memory c.flush.new.self in
    on_ok c.flush.result (λ h. serves_then old later new before second after (serves_then old mid later before first second c.in_ok-write_sealed.ensures.serves c.in_ok-seal.ensures.serves) h) c.flush.ensures.serves

pub returns-clause-written : goal.returns-clause-written
returns-clause-written g c =
    let s = c.in_ok-seal.ensures.does in
    on_ok c.flush.result (λ h. record { current = ap (λ t. t.inserts) h.current ∙ s.empty; sealed = h.gone }) c.flush.ensures.does

pub returns-clause-none : goal.returns-clause-none
returns-clause-none g c = on_ok c.flush.result (λ h. h.still) c.flush.ensures.does

pub returns-in_err-write_sealed-clause-breaks : goal.returns-in_err-write_sealed-clause-breaks
returns-in_err-write_sealed-clause-breaks g c = breaks_as (g.S.Store.facts c.args.source.now.tables.store) (g.S.Store.facts c.write_sealed.new.source.tables.store) c.write_sealed.new.self.broken (λ is. handed_on c.in_err-write_sealed.field-0.0 c.from_residual.result (search rules) is) c.in_err-write_sealed.ensures.breaks

pub returns-then-is_empty-clause-breaks : goal.returns-then-is_empty-clause-breaks
returns-then-is_empty-clause-breaks g c = serves_breaks (g.S.Store.facts c.args.source.now.tables.store) (g.S.Store.facts c.write_sealed.new.source.tables.store) (open_db c.args.source.now.memory c.args.self.now) (open_db c.write_sealed.new.source.memory c.write_sealed.new.self) c.in_ok-write_sealed.ensures.serves

pub returns-in_err-seal-clause-breaks : goal.returns-in_err-seal-clause-breaks
returns-in_err-seal-clause-breaks g c = breaks_then (g.S.Store.facts c.args.source.now.tables.store) (g.S.Store.facts c.write_sealed.new.source.tables.store) (g.S.Store.facts c.seal.new.source.tables.store) c.seal.new.self.broken c.in_ok-write_sealed.ensures.serves.unwritten (λ is. handed_on c.in_err-seal.field-0.0 c.from_residual-in_err-seal.result (search rules) is) c.in_err-seal.ensures.breaks

pub returns-clause-breaks : goal.returns-clause-breaks
returns-clause-breaks g c = breaks_then (g.S.Store.facts c.args.source.now.tables.store) (g.S.Store.facts c.seal.new.source.tables.store) (g.S.Store.facts c.flush.new.source.tables.store) c.flush.new.self.broken (c.in_ok-seal.ensures.serves.unwritten ∙ c.in_ok-write_sealed.ensures.serves.unwritten) (λ is. is) c.flush.ensures.breaks

-- ---- what a process crash leaves

pub returns-in_err-write_sealed-clause-stops : goal.returns-in_err-write_sealed-clause-stops
returns-in_err-write_sealed-clause-stops g c = c.in_err-write_sealed.ensures.stops

pub returns-then-is_empty-clause-stops : goal.returns-then-is_empty-clause-stops
returns-then-is_empty-clause-stops g c = c.in_ok-write_sealed.ensures.stops

pub returns-in_err-seal-clause-stops : goal.returns-in_err-seal-clause-stops
returns-in_err-seal-clause-stops g c =
    keeps_then (order_of g.K.KeyOrder.name g.K.KeyOrder.cmp) (seen_of g.S.Store.facts c.args.source.now) (seen_of g.S.Store.facts c.write_sealed.new.source) (seen_of g.S.Store.facts c.seal.new.source) (open_db c.args.source.now.memory c.args.self.now) (open_db c.write_sealed.new.source.memory c.write_sealed.new.self) (λ m. 1) (tt {0})
    c.in_ok-write_sealed.ensures.step (c.in_err-seal.ensures.step no_ids).faithful
    c.in_ok-write_sealed.ensures.stops c.in_err-seal.ensures.stops

pub returns-clause-stops : goal.returns-clause-stops
returns-clause-stops g c =
    let back = (c.flush.ensures.step no_ids).faithful in
    let later = (c.in_ok-seal.ensures.step no_ids).faithful in
    keeps_then (order_of g.K.KeyOrder.name g.K.KeyOrder.cmp) (seen_of g.S.Store.facts c.args.source.now) (seen_of g.S.Store.facts c.write_sealed.new.source) (seen_of g.S.Store.facts c.flush.new.source) (open_db c.args.source.now.memory c.args.self.now) (open_db c.write_sealed.new.source.memory c.write_sealed.new.self) (λ m. 1) (tt {0}) c.in_ok-write_sealed.ensures.step (λ f. later (back f)) c.in_ok-write_sealed.ensures.stops
    (keeps_then (order_of g.K.KeyOrder.name g.K.KeyOrder.cmp) (seen_of g.S.Store.facts c.write_sealed.new.source) (seen_of g.S.Store.facts c.seal.new.source) (seen_of g.S.Store.facts c.flush.new.source) (open_db c.write_sealed.new.source.memory c.write_sealed.new.self) (open_db c.seal.new.source.memory c.seal.new.self) (λ m. 1) (tt {0}) c.in_ok-seal.ensures.step back c.in_ok-seal.ensures.stops c.flush.ensures.stops)
