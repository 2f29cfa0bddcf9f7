use Rattle.std.proofs.Common.{◌≡◌, [], length, Ok, Err, inl, refl, sym, ap, subst, ◌∙◌}
use Rattle.std.proofs.lemmas.Bool.{eqb-true}
use Rattle.coding.specs.declared.error.DbError.{DbError}
use Rattle.ikey.specs.Orders.{order_of}
use Rattle.memtables.specs.Memories.{Memories, inserts_of, sealed_inserts}
use Rattle.db_cursor.proofs.ScanSteps.{scan_kept}
use Rattle.directory_writes.specs.declared.flush.FlushPlan.{FlushPlan}
use Rattle.versions.specs.Levels.{Placement}
use Rattle.engine.specs.declared.state.DbState.{DbState}
use Rattle.engine.specs.internal.Leading.{LeadsOpen}
use Rattle.engine.specs.OpenDb.{open_db}
use Rattle.db_cursor.specs.Whole.{seen_of}
use Rattle.engine.specs.Stands.{no_ids}
use Rattle.engine.specs.internal.Pieces.{IsPiece, MayRefusePiece, flush_answer, settled_as}
use Rattle.engine.specs.WrittenTables.{PutsSealed}
use Rattle.directory_writes.proofs.SameChanges.{free_each}
use Rattle.engine.proofs.FlushEnds.{leaves_behind, ends_flushed, ends_let_go, ends_unflushed, no_entries, table_put, flush_keeps}
use Rattle.std.specs.Bool.{nat_eq}
use Rattle.engine.proofs.Breaking.{settles_broken, shows, flush_io, rose_all, some_as, IsIo, as_unwritten, breaks_settled, outcome_settles_broken, unbroken, unflushed_outcome}
use Rattle.engine.specs.Breaking.{BreaksExactly}
use Rattle.engine.specs.Outcomes.{DbOutcome}
use Rattle.engine.proofs.StopSteps.{keeps_none}
use Rattle.engine.proofs.Synced.{drawn_some, flushed_synced, no_old_table}
use Rattle.engine.proofs.state.DbState.flush.Goals as goal

pub returns-then-is_empty-clause-step : goal.returns-then-is_empty-clause-step
returns-then-is_empty-clause-step g c ids =
    let order = order_of g.K.KeyOrder.name g.K.KeyOrder.cmp in
    let source = seen_of g.S.Store.facts c.args.source.now in
    let none : sealed_inserts c.args.source.now.memory ≡ [] = sym (ap inserts_of c.in-Some.ensures) ∙ no_entries c.in-Some.table.now.inserts (eqb-true (length c.in-Some.table.now.inserts) 0 (sym c.is_empty.ensures ∙ c.if-is_empty.true)) in
    subst (λ (mem : Memories). LeadsOpen order source source ids (open_db c.args.source.now.memory c.args.self.now) (open_db mem c.args.self.now) (λ m n. IsPiece m 1 (Ok (tt {0})) n)) (sym c.flushed.ensures)
    (ends_let_go order (λ scan. scan_kept order.cmp scan) c.changes_are_kept.ensures.flushed source ids c.args.self.now c.args.source.now.memory c.requires.whole none)

pub returns-in-Ok-clause-step : goal.returns-in-Ok-clause-step
returns-in-Ok-clause-step g c ids =
    let order = order_of g.K.KeyOrder.name g.K.KeyOrder.cmp in
    let source = seen_of g.S.Store.facts c.args.source.now in
    let facts = g.S.Store.facts c.flush_memory.new.store in
    let state = c.args.self.now in
    let memory = c.args.source.now.memory in
    let numbers = c.flush_memory.new.numbers in
    let ensures = rw c.deref.ensures at c.in-Ok.ensures in
    let entries = c.in-Some.table.now.inserts in
    let plan : FlushPlan = record { log_number = state.log.number; previous_log_number = state.directory.previous_log; last_sequence = c.last-last_sequence.result; block_bytes = c.block_bytes.result } in
    let flushed = c.in-Ok.flushed in
    subst (λ (mem : Memories). LeadsOpen order source (record source { facts = facts }) ids (open_db memory state) (open_db mem c.take_flushed.new.self) (λ m n. IsPiece m 1 (Ok (tt {0})) n)) (sym c.flushed-in-Ok.ensures)
    (ends_flushed order (λ scan. scan_kept order.cmp scan) c.one_directory.ensures c.sound_lasts.ensures c.same_view.ensures c.changes_are_kept.ensures.flushed source facts ids state memory numbers plan entries
    c.requires.whole ensures.call ensures.drawn refl refl c.last-last_sequence.ensures.is (ap inserts_of c.in-Some.ensures) flushed.manifest_end flushed.version c.take_flushed.new.self.log.front c.take_flushed.new.self c.take_flushed.ensures.state ensures.version.2.in_order
    (leaves_behind order (λ scan. scan_kept order.cmp scan) c.one_directory.ensures c.sound_lasts.ensures c.same_view.ensures c.changes_are_kept.ensures.flushed source facts ids state memory numbers plan entries
    c.requires.whole ensures.call ensures.drawn refl refl c.last-last_sequence.ensures.is (ap inserts_of c.in-Some.ensures) state.version.value.tables (Ok flushed) refl ensures.leaves_each)
    (λ f m serving.
    let version = ensures.version in
    let drawn = drawn_some source.facts facts state.directory.numbers.next numbers.next version.1 ensures.drawn in
    flushed_synced source.facts facts state.log (record state.log { front = c.take_flushed.new.self.log.front }) state.directory numbers flushed.manifest_end state.version.value.tables flushed.version.value.tables version.2.table
    refl refl c.take_flushed.ensures.front version.1 drawn.0 drawn.1 version.2.number_is version.2.lists
    (λ q table manifest. (ensures.call.others f q table manifest, ensures.call.synced f q table manifest)) (ensures.syncs.table f) (ensures.syncs.manifest f)
    (no_old_table order source.facts.files state.directory.numbers.next ((free_each order source.facts.files serving.ideal state.directory.numbers.next serving.origin.differs).1 serving.log.knows.free) drawn.0 drawn.1) (ensures.carries f) (ensures.ends f) serving.synced) ensures.carries)

pub returns-then-is_empty-clause-puts : goal.returns-then-is_empty-clause-puts
returns-then-is_empty-clause-puts g c f ids m s =
    inl (sym (ap inserts_of c.in-Some.ensures) ∙ no_entries c.in-Some.table.now.inserts (eqb-true (length c.in-Some.table.now.inserts) 0 (sym c.is_empty.ensures ∙ c.if-is_empty.true)))

pub returns-in-Ok-clause-puts : goal.returns-in-Ok-clause-puts
returns-in-Ok-clause-puts g c =
    let order = order_of g.K.KeyOrder.name g.K.KeyOrder.cmp in
    let source = seen_of g.S.Store.facts c.args.source.now in
    let facts = g.S.Store.facts c.flush_memory.new.store in
    let state = c.args.self.now in
    let memory = c.args.source.now.memory in
    let numbers = c.flush_memory.new.numbers in
    let ensures = rw c.deref.ensures at c.in-Ok.ensures in
    let entries = c.in-Some.table.now.inserts in
    let plan : FlushPlan = record { log_number = state.log.number; previous_log_number = state.directory.previous_log; last_sequence = c.last-last_sequence.result; block_bytes = c.block_bytes.result } in
    let flushed = c.in-Ok.flushed in
    subst (λ (mem : Memories). PutsSealed order source (record source { facts = facts }) (open_db memory state) (open_db mem c.take_flushed.new.self)) (sym c.flushed-in-Ok.ensures)
    (table_put order (λ scan. scan_kept order.cmp scan) c.one_directory.ensures c.sound_lasts.ensures c.same_view.ensures c.changes_are_kept.ensures.flushed source facts no_ids state memory numbers plan entries
    c.requires.whole ensures.call ensures.drawn refl refl c.last-last_sequence.ensures.is (ap inserts_of c.in-Some.ensures) flushed.manifest_end flushed.version c.take_flushed.new.self.log.front c.take_flushed.new.self c.take_flushed.ensures.state
    ensures.leaves)

pub returns-in-Err-clause-step : goal.returns-in-Err-clause-step
returns-in-Err-clause-step g c ids =
    let order = order_of g.K.KeyOrder.name g.K.KeyOrder.cmp in
    let source = seen_of g.S.Store.facts c.args.source.now in
    let facts = g.S.Store.facts c.flush_memory.new.store in
    let state = c.args.self.now in
    let memory = c.args.source.now.memory in
    let numbers = c.flush_memory.new.numbers in
    let ensures = c.in-Err.ensures in
    let entries = c.in-Some.table.now.inserts in
    let plan : FlushPlan = record { log_number = state.log.number; previous_log_number = state.directory.previous_log; last_sequence = c.last-last_sequence.result; block_bytes = c.block_bytes.result } in
    let e = c.in-Err.error in
    let law = c.changes_are_kept.ensures.flushed in
    let after : _ → DbError → Type 0 = λ s r. LeadsOpen order source (record source { facts = facts }) ids (open_db memory state) (open_db memory s) (λ m n. IsPiece m 1 (Err r) n) in
    let failed = c.write_failures-failed.result in
    let b = nat_eq facts.write_failures failed in
    let is : failed ≡ source.facts.write_failures = c.write_failures-failed.ensures in
    let given : DbState g.row.K.Denot g.K.KeyOrder = record state { directory = record state.directory { numbers = numbers } } in
    subst (after c.flush_refusal.new.self) (sym c.flush_refusal.ensures.answer)
    (subst (λ (s : DbState _ _). after s (settled_as b (flush_answer e))) (sym c.flush_refusal.ensures.state)
    (settles_broken order source (record source { facts = facts }) ids (open_db memory state) memory given 1 (flush_answer e) b
    (λ io. shows source.facts facts failed is ensures.fails (flush_io source.facts facts _ _ _ _ e ensures.refused io) b refl)
    (rose_all source.facts facts failed is (some_as source.facts facts ensures.call.failures ensures.fails))
    (ends_unflushed order (λ scan. scan_kept order.cmp scan) c.one_directory.ensures c.sound_lasts.ensures c.same_view.ensures law source facts ids state memory numbers plan entries
    c.requires.whole ensures.call ensures.drawn refl refl c.last-last_sequence.ensures.is (ap inserts_of c.in-Some.ensures) c.deref.result.now.tables (ap (λ (p : Placement). p.tables) c.deref.ensures) e ensures.refused ensures.leaves_each ensures.spares ensures.carries)))

pub returns-in-Err-clause-outcome : goal.returns-in-Err-clause-outcome
returns-in-Err-clause-outcome g c =
    let old = g.S.Store.facts c.args.source.now.tables.store in
    let new = g.S.Store.facts c.flush_memory.new.store in
    let ensures = c.in-Err.ensures in
    let state = c.args.self.now in
    let memory = c.args.source.now.memory in
    let failed = c.write_failures-failed.result in
    let b = nat_eq new.write_failures failed in
    let is : failed ≡ old.write_failures = c.write_failures-failed.ensures in
    let e = c.in-Err.error in
    let given : DbState g.row.K.Denot g.K.KeyOrder = record state { directory = record state.directory { numbers = c.flush_memory.new.numbers } } in
    let After : DbState g.row.K.Denot g.K.KeyOrder → DbError → Type 0 = λ t r. DbOutcome {T = Unit {0}} MayRefusePiece old new (open_db memory state) (open_db memory t) (Err r) in
    subst (After c.flush_refusal.new.self) (sym c.flush_refusal.ensures.answer)
    (subst (λ (t : DbState g.row.K.Denot g.K.KeyOrder). After t (settled_as b (flush_answer e))) (sym c.flush_refusal.ensures.state)
    (outcome_settles_broken old new (open_db memory state) memory given (flush_answer e) b
    (λ io. shows old new failed is ensures.fails (flush_io old new _ _ _ _ e ensures.refused io) b refl)
    (rose_all old new failed is (some_as old new ensures.call.failures ensures.fails))
    (unflushed_outcome old new state memory c.flush_memory.new.numbers ensures.call.failures ensures.call.denials _ _ _ _ e ensures.refused)))

pub returns-then-is_empty-clause-breaks : goal.returns-then-is_empty-clause-breaks
returns-then-is_empty-clause-breaks g c = unbroken (g.S.Store.facts c.args.source.now.tables.store) (g.S.Store.facts c.args.source.now.tables.store) c.args.self.now.broken c.requires.whole refl

pub returns-in-Ok-clause-breaks : goal.returns-in-Ok-clause-breaks
returns-in-Ok-clause-breaks g c = unbroken (g.S.Store.facts c.args.source.now.tables.store) (g.S.Store.facts c.flush_memory.new.store) c.take_flushed.new.self.broken (ap (λ (t : DbState g.row.K.Denot g.K.KeyOrder). t.broken) c.take_flushed.ensures.state ∙ c.requires.whole) (as_unwritten (g.S.Store.facts c.args.source.now.tables.store) (g.S.Store.facts c.flush_memory.new.store) c.in-Ok.ensures.fails c.in-Ok.ensures.stood)

pub returns-in-Err-clause-breaks : goal.returns-in-Err-clause-breaks
returns-in-Err-clause-breaks g c =
    let old = g.S.Store.facts c.args.source.now.tables.store in
    let new = g.S.Store.facts c.flush_memory.new.store in
    let ensures = c.in-Err.ensures in
    let state = c.args.self.now in
    let memory = c.args.source.now.memory in
    let failed = c.write_failures-failed.result in
    let b = nat_eq new.write_failures failed in
    let is : failed ≡ old.write_failures = c.write_failures-failed.ensures in
    let e = c.in-Err.error in
    let given : DbState g.row.K.Denot g.K.KeyOrder = record state { directory = record state.directory { numbers = c.flush_memory.new.numbers } } in
    let After : DbState g.row.K.Denot g.K.KeyOrder → DbError → Type 0 = λ t r. BreaksExactly old new t.broken (IsIo {T = Unit {0}} (Err r)) in
    subst (After c.flush_refusal.new.self) (sym c.flush_refusal.ensures.answer)
    (subst (λ (t : DbState g.row.K.Denot g.K.KeyOrder). After t (settled_as b (flush_answer e))) (sym c.flush_refusal.ensures.state)
    (breaks_settled {T = Unit {0}} old new failed given (flush_answer e) is (some_as old new ensures.call.failures ensures.fails) c.requires.whole b refl))

-- ---- what a process crash leaves

pub returns-then-is_empty-clause-stops : goal.returns-then-is_empty-clause-stops
returns-then-is_empty-clause-stops g c = keeps_none (order_of g.K.KeyOrder.name g.K.KeyOrder.cmp) (seen_of g.S.Store.facts c.args.source.now) (open_db c.args.source.now.memory c.args.self.now)

pub returns-in-Ok-clause-stops : goal.returns-in-Ok-clause-stops
returns-in-Ok-clause-stops g c =
    let order = order_of g.K.KeyOrder.name g.K.KeyOrder.cmp in
    let source = seen_of g.S.Store.facts c.args.source.now in
    let facts = g.S.Store.facts c.flush_memory.new.store in
    let state = c.args.self.now in
    let memory = c.args.source.now.memory in
    let numbers = c.flush_memory.new.numbers in
    let ensures = c.in-Ok.ensures in
    let entries = c.in-Some.table.now.inserts in
    let plan : FlushPlan = record { log_number = state.log.number; previous_log_number = state.directory.previous_log; last_sequence = c.last-last_sequence.result; block_bytes = c.block_bytes.result } in
    flush_keeps order (λ scan. scan_kept order.cmp scan) c.one_directory.ensures c.sound_lasts.ensures c.same_view.ensures c.changes_are_kept.ensures.flushed source facts no_ids state memory numbers plan entries
    c.requires.whole ensures.call ensures.drawn refl refl c.last-last_sequence.ensures.is (ap inserts_of c.in-Some.ensures) c.deref.result.now.tables (ap (λ (p : Placement). p.tables) c.deref.ensures) ensures.stops ensures.puts

pub returns-in-Err-clause-stops : goal.returns-in-Err-clause-stops
returns-in-Err-clause-stops g c =
    let order = order_of g.K.KeyOrder.name g.K.KeyOrder.cmp in
    let source = seen_of g.S.Store.facts c.args.source.now in
    let facts = g.S.Store.facts c.flush_memory.new.store in
    let state = c.args.self.now in
    let memory = c.args.source.now.memory in
    let numbers = c.flush_memory.new.numbers in
    let ensures = c.in-Err.ensures in
    let entries = c.in-Some.table.now.inserts in
    let plan : FlushPlan = record { log_number = state.log.number; previous_log_number = state.directory.previous_log; last_sequence = c.last-last_sequence.result; block_bytes = c.block_bytes.result } in
    flush_keeps order (λ scan. scan_kept order.cmp scan) c.one_directory.ensures c.sound_lasts.ensures c.same_view.ensures c.changes_are_kept.ensures.flushed source facts no_ids state memory numbers plan entries
    c.requires.whole ensures.call ensures.drawn refl refl c.last-last_sequence.ensures.is (ap inserts_of c.in-Some.ensures) c.deref.result.now.tables (ap (λ (p : Placement). p.tables) c.deref.ensures) ensures.stops ensures.puts
