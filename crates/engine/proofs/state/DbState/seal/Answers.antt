use Rattle.std.proofs.Common.{◌≡◌, Result, Err, inl, inr, sym, subst, rules, refl}
use Rattle.coding.specs.declared.error.DbError.{DbError}
use Rattle.coding.specs.declared.error.DbError.TheVariants.{OutOfMemory}
use Rattle.ikey.specs.Orders.{order_of}
use Rattle.memtables.specs.Memories.{Memories}
use Rattle.db_cursor.proofs.ScanSteps.{scan_kept}
use Rattle.engine.specs.declared.state.DbState.{DbState}
use Rattle.engine.specs.internal.Leading.{LeadsOpen}
use Rattle.engine.specs.OpenDb.{open_db}
use Rattle.db_cursor.specs.Whole.{seen_of}
use Rattle.engine.specs.internal.Pieces.{IsPiece}
use Rattle.engine.proofs.WorkEnds.{ends_full, ends_sealed, ends_unsealed}
use Rattle.engine.proofs.Breaking.{IsIo, as_unwritten, unbroken, breaks_counted}
use Rattle.engine.specs.Breaking.{BreaksExactly}
use Rattle.engine.proofs.StopSteps.{keeps_logged, keeps_none}
use Rattle.engine.proofs.state.DbState.seal.Goals as goal

pub returns-in_err-seal-clause-step : goal.returns-in_err-seal-clause-step
returns-in_err-seal-clause-step g c ids =
    let order = order_of g.K.KeyOrder.name g.K.KeyOrder.cmp in
    let source = seen_of g.S.Store.facts c.args.source.now in
    let memory : c.from_residual-in_err-seal.result ≡ Err OutOfMemory = search rules in
    subst (λ (r : Result _ DbError). LeadsOpen order source source ids (open_db c.args.source.now.memory c.args.self.now) (open_db c.seal.new.self c.args.self.now) (λ m n. IsPiece m 1 r n)) (sym memory)
    (subst (λ (mem : Memories). LeadsOpen order source source ids (open_db c.args.source.now.memory c.args.self.now) (open_db mem c.args.self.now) (λ m n. IsPiece m 1 (Err OutOfMemory) n)) (sym c.in_err-seal.ensures.err)
    (ends_full order (λ scan. scan_kept order.cmp scan) c.sound_lasts.ensures source ids (open_db c.args.source.now.memory c.args.self.now) 1 c.requires.whole))

pub returns-in-Ok-clause-step : goal.returns-in-Ok-clause-step
returns-in-Ok-clause-step g c ids =
    let order = order_of g.K.KeyOrder.name g.K.KeyOrder.cmp in
    let source = seen_of g.S.Store.facts c.args.source.now in
    let ensures = c.in-Ok.ensures in
    ends_sealed order (λ scan. scan_kept order.cmp scan) c.one_directory.ensures c.sound_lasts.ensures c.same_view.ensures c.changes_are_kept.ensures.sealed source (g.S.Store.facts c.begin_log.new.store) ids c.args.self.now c.args.source.now.memory c.begin_log.new.numbers
    c.requires.whole ensures.call ensures.synced ensures.carries ensures.noted c.in-Ok.number c.in-Ok.name c.in_ok-front.front c.seal.new.self c.in_ok-front.ensures c.requires.unsealed c.requires.filled c.in_ok-seal.ensures.ok c.in_ok-seal.ensures.inserts ensures.drawn (ensures.begins order) (ensures.begins_each order) ensures.unsynced

pub returns-in-Err-clause-step : goal.returns-in-Err-clause-step
returns-in-Err-clause-step g c ids =
    let order = order_of g.K.KeyOrder.name g.K.KeyOrder.cmp in
    let source = seen_of g.S.Store.facts c.args.source.now in
    let facts = g.S.Store.facts c.begin_log.new.store in
    let ensures = c.in-Err.ensures in
    let e = c.in-Err.error in
    let after : _ → DbError → Type 0 = λ s r. LeadsOpen order source (record source { facts = facts }) ids (open_db c.args.source.now.memory c.args.self.now) (open_db c.unseal.new.self s) (λ m n. IsPiece m 1 (Err r) n) in
    let left = c.unseal.ensures.left c.args.source.now.memory c.in_ok-seal.ensures.ok in
    subst (after c.refuse.new.self) (sym c.refuse.ensures.answer)
    (subst (λ (s : DbState _ _). after s e) (sym c.refuse.ensures.broken)
    (ends_unsealed order (λ scan. scan_kept order.cmp scan) c.one_directory.ensures c.sound_lasts.ensures c.same_view.ensures c.changes_are_kept.ensures.sealed source facts ids c.args.self.now c.args.source.now.memory c.begin_log.new.numbers
    c.requires.whole ensures.call ensures.synced ensures.carries ensures.noted e c.unseal.new.self ensures.refused ensures.drawn (ensures.begins order) (ensures.begins_each order) left))

pub returns-in_err-front-clause-step : goal.returns-in_err-front-clause-step
returns-in_err-front-clause-step g c ids =
    let order = order_of g.K.KeyOrder.name g.K.KeyOrder.cmp in
    let source = seen_of g.S.Store.facts c.args.source.now in
    let db = open_db c.args.source.now.memory c.args.self.now in
    let memory : c.from_residual.result ≡ Err OutOfMemory = search rules in
    subst (λ (r : Result _ DbError). LeadsOpen order source source ids db db (λ m n. IsPiece m 1 r n)) (sym memory)
    (ends_full order (λ scan. scan_kept order.cmp scan) c.sound_lasts.ensures source ids db 1 c.requires.whole)

pub returns-in_err-front-clause-breaks : goal.returns-in_err-front-clause-breaks
returns-in_err-front-clause-breaks g c = unbroken (g.S.Store.facts c.args.source.now.tables.store) (g.S.Store.facts c.args.source.now.tables.store) c.args.self.now.broken c.requires.whole refl

pub returns-in_err-seal-clause-breaks : goal.returns-in_err-seal-clause-breaks
returns-in_err-seal-clause-breaks g c = unbroken (g.S.Store.facts c.args.source.now.tables.store) (g.S.Store.facts c.args.source.now.tables.store) c.args.self.now.broken c.requires.whole refl

pub returns-in-Ok-clause-breaks : goal.returns-in-Ok-clause-breaks
returns-in-Ok-clause-breaks g c = unbroken (g.S.Store.facts c.args.source.now.tables.store) (g.S.Store.facts c.begin_log.new.store) c.args.self.now.broken c.requires.whole (as_unwritten (g.S.Store.facts c.args.source.now.tables.store) (g.S.Store.facts c.begin_log.new.store) c.in-Ok.ensures.fails c.in-Ok.ensures.counted)

pub returns-in-Err-clause-breaks : goal.returns-in-Err-clause-breaks
returns-in-Err-clause-breaks g c =
    let old = g.S.Store.facts c.args.source.now.tables.store in
    let new = g.S.Store.facts c.begin_log.new.store in
    let given : DbState g.row.K.Denot g.K.KeyOrder = record c.args.self.now { directory = record c.args.self.now.directory { numbers = c.begin_log.new.numbers } } in
    let After : DbState g.row.K.Denot g.K.KeyOrder → DbError → Type 0 = λ t r. BreaksExactly old new t.broken (IsIo {T = Unit {0}} (Err r)) in
    subst (After c.refuse.new.self) (sym c.refuse.ensures.answer)
    (subst (λ (t : DbState g.row.K.Denot g.K.KeyOrder). After t c.in-Err.error) (sym c.refuse.ensures.broken)
    (breaks_counted {T = Unit {0}} old new given c.in-Err.error c.requires.whole c.in-Err.ensures.fails c.in-Err.ensures.counted))

-- ---- what a process crash leaves

pub returns-in_err-front-clause-stops : goal.returns-in_err-front-clause-stops
returns-in_err-front-clause-stops g c = keeps_none (order_of g.K.KeyOrder.name g.K.KeyOrder.cmp) (seen_of g.S.Store.facts c.args.source.now) (open_db c.args.source.now.memory c.args.self.now)

pub returns-in_err-seal-clause-stops : goal.returns-in_err-seal-clause-stops
returns-in_err-seal-clause-stops g c = keeps_none (order_of g.K.KeyOrder.name g.K.KeyOrder.cmp) (seen_of g.S.Store.facts c.args.source.now) (open_db c.args.source.now.memory c.args.self.now)

pub returns-in-Ok-clause-stops : goal.returns-in-Ok-clause-stops
returns-in-Ok-clause-stops g c =
    let source = (seen_of g.S.Store.facts c.args.source.now) in
    keeps_logged (order_of g.K.KeyOrder.name g.K.KeyOrder.cmp) source (record source { facts = g.S.Store.facts c.begin_log.new.store }) (open_db c.args.source.now.memory c.args.self.now) c.requires.whole c.same_view.ensures c.begin_log.new.numbers (λ f. c.in-Ok.ensures.stops f (order_of g.K.KeyOrder.name g.K.KeyOrder.cmp))
    (inr (c.in-Ok.ensures.drawn.2, c.in-Ok.ensures.drawn.3)) c.in-Ok.ensures.noted c.in-Ok.ensures.synced c.in-Ok.ensures.carries

pub returns-in-Err-clause-stops : goal.returns-in-Err-clause-stops
returns-in-Err-clause-stops g c =
    let source = (seen_of g.S.Store.facts c.args.source.now) in
    keeps_logged (order_of g.K.KeyOrder.name g.K.KeyOrder.cmp) source (record source { facts = g.S.Store.facts c.begin_log.new.store }) (open_db c.args.source.now.memory c.args.self.now) c.requires.whole c.same_view.ensures c.begin_log.new.numbers (λ f. c.in-Err.ensures.stops f (order_of g.K.KeyOrder.name g.K.KeyOrder.cmp))
    (elim c.in-Err.ensures.drawn [ inl none ↦ inl none.1 | inr more ↦ inr more ]) c.in-Err.ensures.noted c.in-Err.ensures.synced c.in-Err.ensures.carries
