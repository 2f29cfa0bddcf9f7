use Rattle.std.proofs.Common.{◌≡◌, None, max, Result, Ok, Err, inl, inr, sym, subst, arith, rules}
use Rattle.coding.specs.declared.error.DbError.{DbError}
use Rattle.ikey.specs.Orders.{order_of}
use Rattle.engine.specs.declared.work.Progress.{Progress}
use Rattle.engine.specs.declared.work.Progress.TheVariants.{Worked}
use Rattle.engine.specs.internal.Leading.{LeadsOpen}
use Rattle.engine.specs.OpenDb.{open_db}
use Rattle.db_cursor.specs.Whole.{seen_of}
use Rattle.engine.specs.internal.Pieces.{IsPiece}
use Rattle.engine.proofs.WorkSteps.{piece_done, piece_failed, piece_within}
use Rattle.engine.proofs.WithinBudget.{not_some}
use Rattle.engine.proofs.Breaking.{breaks_as, handed_on, serves_breaks}
use Rattle.engine.proofs.state.DbState.do_unless_compacting.Goals as goal

pub returns-in_err-flush-clause-step : goal.returns-in_err-flush-clause-step
returns-in_err-flush-clause-step g c ids =
    let order = order_of g.K.KeyOrder.name g.K.KeyOrder.cmp in
    let old = seen_of g.S.Store.facts c.args.source.now in
    let new = seen_of g.S.Store.facts c.flush.new.source in
    let before = open_db c.args.source.now.memory c.args.self.now in
    let after = open_db c.flush.new.source.memory c.flush.new.self in
    let e = c.in_err-flush.field-0.0 in
    let is : c.from_residual.result ≡ Err e = search rules in
    subst (λ (r : Result Progress DbError). LeadsOpen order old new ids before after (λ m n. IsPiece m (max c.args.budget 1) r n)) (sym is)
    (piece_failed order old new ids before after (max c.args.budget 1) e (piece_within order old new ids before after 1 (max c.args.budget 1) (Err e) (omega arith) (c.in_err-flush.ensures.step ids)))

pub returns-then-is_some-clause-step : goal.returns-then-is_some-clause-step
returns-then-is_some-clause-step g c ids =
    let order = order_of g.K.KeyOrder.name g.K.KeyOrder.cmp in
    let old = seen_of g.S.Store.facts c.args.source.now in
    let new = seen_of g.S.Store.facts c.flush.new.source in
    let before = open_db c.args.source.now.memory c.args.self.now in
    let after = open_db c.flush.new.source.memory c.flush.new.self in
    piece_done order old new ids before after (max c.args.budget 1) (tt {0}) Worked (piece_within order old new ids before after 1 (max c.args.budget 1) (Ok (tt {0})) (omega arith) (c.in_ok-flush.ensures.step ids))

pub returns-in_err-seal-clause-step : goal.returns-in_err-seal-clause-step
returns-in_err-seal-clause-step g c ids =
    let order = order_of g.K.KeyOrder.name g.K.KeyOrder.cmp in
    let old = seen_of g.S.Store.facts c.args.source.now in
    let new = seen_of g.S.Store.facts c.seal.new.source in
    let before = open_db c.args.source.now.memory c.args.self.now in
    let after = open_db c.seal.new.source.memory c.seal.new.self in
    let e = c.in_err-seal.field-0.0 in
    let is : c.from_residual-in_err-seal.result ≡ Err e = search rules in
    subst (λ (r : Result Progress DbError). LeadsOpen order old new ids before after (λ m n. IsPiece m (max c.args.budget 1) r n)) (sym is)
    (piece_failed order old new ids before after (max c.args.budget 1) e (piece_within order old new ids before after 1 (max c.args.budget 1) (Err e) (omega arith) (c.in_err-seal.ensures.step ids)))

pub returns-clause-step : goal.returns-clause-step
returns-clause-step g c ids =
    let order = order_of g.K.KeyOrder.name g.K.KeyOrder.cmp in
    let old = seen_of g.S.Store.facts c.args.source.now in
    let new = seen_of g.S.Store.facts c.seal.new.source in
    let before = open_db c.args.source.now.memory c.args.self.now in
    let after = open_db c.seal.new.source.memory c.seal.new.self in
    piece_done order old new ids before after (max c.args.budget 1) (tt {0}) Worked (piece_within order old new ids before after 1 (max c.args.budget 1) (Ok (tt {0})) (omega arith) (c.in_ok-seal.ensures.step ids))

pub returns-then-is_some-clause-within : goal.returns-then-is_some-clause-within
returns-then-is_some-clause-within g c worked which f = absurd (elim which [
  | inl some ↦ not_some c.args.self.now.job c.requires.idle some
  | inr ease ↦ not_some c.args.source.now.memory.sealed ease.none c.in_ok-flush.ensures.does.was
])

pub returns-then-size-write_buffer-clause-within : goal.returns-then-size-write_buffer-clause-within
returns-then-size-write_buffer-clause-within g c worked which f = c.compact.ensures.few worked f

pub returns-then-is_some-clause-flushes : goal.returns-then-is_some-clause-flushes
returns-then-is_some-clause-flushes g c worked idle some = c.in_ok-flush.ensures.puts

pub returns-then-size-write_buffer-clause-flushes : goal.returns-then-size-write_buffer-clause-flushes
returns-then-size-write_buffer-clause-flushes g c worked idle some =
    let none : c.args.source.now.memory.sealed ≡ None = search rules in
    absurd (not_some c.args.source.now.memory.sealed none some)

pub returns-clause-flushes : goal.returns-clause-flushes
returns-clause-flushes g c worked idle some = absurd (not_some c.args.source.now.memory.sealed c.in_ok-seal.ensures.does.none some)

pub returns-in_err-flush-clause-breaks : goal.returns-in_err-flush-clause-breaks
returns-in_err-flush-clause-breaks g c = breaks_as (g.S.Store.facts c.args.source.now.tables.store) (g.S.Store.facts c.flush.new.source.tables.store) c.flush.new.self.broken (λ is. handed_on c.in_err-flush.field-0.0 c.from_residual.result (search rules) is) c.in_err-flush.ensures.breaks

pub returns-then-is_some-clause-breaks : goal.returns-then-is_some-clause-breaks
returns-then-is_some-clause-breaks g c = serves_breaks (g.S.Store.facts c.args.source.now.tables.store) (g.S.Store.facts c.flush.new.source.tables.store) (open_db c.args.source.now.memory c.args.self.now) (open_db c.flush.new.source.memory c.flush.new.self) c.in_ok-flush.ensures.serves

pub returns-in_err-seal-clause-breaks : goal.returns-in_err-seal-clause-breaks
returns-in_err-seal-clause-breaks g c = breaks_as (g.S.Store.facts c.args.source.now.tables.store) (g.S.Store.facts c.seal.new.source.tables.store) c.seal.new.self.broken (λ is. handed_on c.in_err-seal.field-0.0 c.from_residual-in_err-seal.result (search rules) is) c.in_err-seal.ensures.breaks

pub returns-clause-breaks : goal.returns-clause-breaks
returns-clause-breaks g c = serves_breaks (g.S.Store.facts c.args.source.now.tables.store) (g.S.Store.facts c.seal.new.source.tables.store) (open_db c.args.source.now.memory c.args.self.now) (open_db c.seal.new.source.memory c.seal.new.self) c.in_ok-seal.ensures.serves

-- ---- what a process crash leaves

pub returns-in_err-flush-clause-stops : goal.returns-in_err-flush-clause-stops
returns-in_err-flush-clause-stops g c = c.in_err-flush.ensures.stops

pub returns-then-is_some-clause-stops : goal.returns-then-is_some-clause-stops
returns-then-is_some-clause-stops g c = c.in_ok-flush.ensures.stops

pub returns-then-size-write_buffer-clause-stops : goal.returns-then-size-write_buffer-clause-stops
returns-then-size-write_buffer-clause-stops g c = c.compact.ensures.stops

pub returns-in_err-seal-clause-stops : goal.returns-in_err-seal-clause-stops
returns-in_err-seal-clause-stops g c = c.in_err-seal.ensures.stops

pub returns-clause-stops : goal.returns-clause-stops
returns-clause-stops g c = c.in_ok-seal.ensures.stops
