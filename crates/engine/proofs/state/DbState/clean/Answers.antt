use Rattle.std.proofs.Common.{◌≡◌, ◌∙◌, ℕ, List, Result, Err, ap, inl, inr, sym, subst, rules}
use Rattle.memtables.specs.Memories.{Memories}
use Rattle.coding.specs.declared.error.DbError.{DbError}
use Rattle.ikey.specs.Orders.{order_of}
use Rattle.db_cursor.proofs.ScanSteps.{scan_kept}
use Rattle.engine.specs.internal.Leading.{LeadsOpen}
use Rattle.engine.specs.OpenDb.{open_db}
use Rattle.db_cursor.specs.Whole.{seen_of}
use Rattle.engine.specs.internal.Pieces.{ClosesTables, IsPiece}
use Rattle.store.proofs.Carrying.{carries_writes}
use Rattle.engine.proofs.WorkEnds.{ends_cleaned, ends_unlisted, memory_cleaned}
use Rattle.engine.proofs.StopSteps.{keeps_cleaned}
use Rattle.engine.proofs.state.DbState.clean.Goals as goal

pub returns-in_err-removal-clause-step : goal.returns-in_err-removal-clause-step
returns-in_err-removal-clause-step g c ids =
    let order = order_of g.K.KeyOrder.name g.K.KeyOrder.cmp in
    let source = seen_of g.S.Store.facts c.args.source.now in
    let facts = g.S.Store.facts c.remove_files.new.store in
    let db = open_db c.args.source.now.memory c.args.self.now in
    let e = c.in_err-removal.field-0.0 in
    let is : c.from_residual.result ≡ Err e = search rules in
    let ensures = c.in_err-removal.ensures in
    subst (λ (r : Result _ DbError). LeadsOpen order source (record source { facts = facts }) ids db db (λ m n. IsPiece m 0 r n)) (sym is)
    (ends_unlisted order (λ scan. scan_kept order.cmp scan) c.sound_lasts.ensures source facts ids db e c.requires.whole ensures.call ensures.refused ensures.removes.err (λ f. carries_writes source.facts facts _ (ensures.only f)))

pub returns-clause-step : goal.returns-clause-step
returns-clause-step g c ids =
    let order = order_of g.K.KeyOrder.name g.K.KeyOrder.cmp in
    let source = seen_of g.S.Store.facts c.args.source.now in
    let ensures = c.in_ok-removal.ensures in
    let removal = c.in_ok-removal.removal in
    let listed : c.deref.result.now ≡ removal.tables.items = c.deref.ensures.value in
    ends_cleaned order (λ scan. scan_kept order.cmp scan) c.one_directory.ensures c.sound_lasts.ensures c.changes_are_kept.ensures.dropped source (g.S.Store.facts c.remove_files.new.store) ids (open_db c.args.source.now.memory c.args.self.now) c.close_tables.new.tables.tables
    c.drop_unused.new.self removal.tables.items removal.complete c.requires.whole (λ f name. elim (ensures.removes.files f name) [ inl left ↦ inl left | inr gone ↦ inr gone.1 ]) ensures.call c.drop_unused.ensures ensures.tables ensures.close (subst (λ (numbers : List ℕ). ClosesTables source.tables c.close_tables.new.tables.tables numbers) listed c.close_tables.ensures) (λ f whole left differs change d good numbers. ensures.meaning_each whole left differs change f order d good numbers)
    (λ f. carries_writes source.facts (g.S.Store.facts c.remove_files.new.store) _ (ensures.only f))

pub returns-clause-memory : goal.returns-clause-memory
returns-clause-memory g c =
    memory_cleaned (order_of g.K.KeyOrder.name g.K.KeyOrder.cmp) (λ scan. scan_kept g.K.KeyOrder.cmp scan) c.one_directory.ensures c.sound_lasts.ensures c.changes_are_kept.ensures.dropped (seen_of g.S.Store.facts c.args.source.now) (g.S.Store.facts c.remove_files.new.store)
    (record { snapshot = 0; iterator = 0 }) (open_db c.args.source.now.memory c.args.self.now) c.close_tables.new.tables.tables c.drop_unused.new.self c.in_ok-removal.removal.tables.items c.drop_unused.ensures

pub returns-clause-dropped : goal.returns-clause-dropped
returns-clause-dropped g c = λ generation unused.
    let gone = c.drop_unused.ensures in
    gone.gone generation (λ used. unused (elim used [
      | inl sealed ↦ inl (ap (λ (m : Memories). m.sealed) gone.others ∙ sealed)
      | inr read ↦ inr read
    ]))

-- ---- what a process crash leaves

pub returns-in_err-removal-clause-stops : goal.returns-in_err-removal-clause-stops
returns-in_err-removal-clause-stops g c =
    let source = (seen_of g.S.Store.facts c.args.source.now) in
    keeps_cleaned (order_of g.K.KeyOrder.name g.K.KeyOrder.cmp) source (record source { facts = g.S.Store.facts c.remove_files.new.store }) (open_db c.args.source.now.memory c.args.self.now) c.requires.whole c.in_err-removal.ensures.stops c.in_err-removal.ensures.only
    (λ f name. elim (c.in_err-removal.ensures.removes.files f name) [ inl left ↦ inl left | inr gone ↦ inr gone.1 ])

pub returns-clause-stops : goal.returns-clause-stops
returns-clause-stops g c =
    let source = (seen_of g.S.Store.facts c.args.source.now) in
    keeps_cleaned (order_of g.K.KeyOrder.name g.K.KeyOrder.cmp) source (record source { facts = g.S.Store.facts c.remove_files.new.store; tables = c.close_tables.new.tables.tables }) (open_db c.args.source.now.memory c.args.self.now) c.requires.whole c.in_ok-removal.ensures.stops c.in_ok-removal.ensures.only
    (λ f name. elim (c.in_ok-removal.ensures.removes.files f name) [ inl left ↦ inl left | inr gone ↦ inr gone.1 ])

pub returns-in_err-removal-clause-only : goal.returns-in_err-removal-clause-only
returns-in_err-removal-clause-only g c = c.in_err-removal.ensures.only

pub returns-clause-only : goal.returns-clause-only
returns-clause-only g c = c.in_ok-removal.ensures.only
