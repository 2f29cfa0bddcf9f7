use Rattle.std.proofs.Common.{◌≡◌, inl, ℕ, List, Err, sym, subst, string_bytes, arith}
use Rattle.std.specs.FinMap.{get}
use Rattle.ikey.specs.Orders.{order_of}
use Rattle.edits.specs.Names.{name_of}
use Rattle.edits.specs.declared.names.FileName.TheVariants.{Table}
use Rattle.directory_writes.specs.internal.Flush.{FlushLeaves, IsTableKeptNow, SparesManifest}
use Rattle.directory_writes.specs.declared.flush.Flushed.{Flushed}
use Rattle.directory_writes.specs.declared.flush.FlushError.{FlushError}
use Rattle.store.proofs.Carrying.{carries_writes}
use Rattle.directory_writes.proofs.Carrying.{carries_edit}
use Rattle.directory_writes.proofs.FlushedEach.{FlushEach, flush_stopped_each, maybe_each, none_each, ok_each, table_stopped_each}
use Rattle.directory_writes.proofs.Flushes.{touches_table, touches_both, syncs_both, flush_stopped, leaves_none, leaves_ok, leaves_maybe, table_stopped}
use Rattle.directory_writes.proofs.Putting.{puts_edit, puts_none}
use Rattle.directory_writes.proofs.Sparing.{spares_edit}
use Rattle.directory_writes.proofs.flush.flush_memory.Goals as goal

pub returns-in-Err-clause-call : goal.returns-in-Err-clause-call
returns-in-Err-clause-call g c =
    touches_table (g.S.Store.facts c.args.store.now) (g.S.Store.facts c.prepare.new.store) (name_of (Table c.args.numbers.now.next)) (string_bytes c.args.manifest.now.name) c.in-Err.ensures.writes

pub returns-in-Err-clause-leaves : goal.returns-in-Err-clause-leaves
returns-in-Err-clause-leaves g c =
    leaves_none g.row.K.Denot (order_of g.K.KeyOrder.name g.K.KeyOrder.cmp) (g.S.Store.facts c.args.store.now) c.args.numbers.now.next c.prepare.new.numbers.next c.args.plan c.args.manifest.now c.args.memory.now.inserts
    c.unread_law.ensures (g.S.Store.facts c.prepare.new.store) c.args.version.now.tables c.in-Err.error c.in-Err.ensures.writes c.in-Err.ensures.drawn c.in-Err.ensures.refused

pub returns-in-Ok-append_edit-clause-call : goal.returns-in-Ok-append_edit-clause-call
returns-in-Ok-append_edit-clause-call g c =
    touches_both (g.S.Store.facts c.args.store.now) (g.S.Store.facts c.prepare.new.store) (g.S.Store.facts c.append_edit.new.store) (name_of (Table c.args.numbers.now.next)) (string_bytes c.args.manifest.now.name)
    c.in-Ok.ensures.writes c.in-Ok-append_edit.ensures.call (c.in-Ok-append_edit.ensures.appends (order_of g.K.KeyOrder.name g.K.KeyOrder.cmp)).others c.in-Ok-append_edit.ensures.syncs.others

pub returns-in-Ok-append_edit-clause-syncs : goal.returns-in-Ok-append_edit-clause-syncs
returns-in-Ok-append_edit-clause-syncs g c =
    syncs_both (g.S.Store.facts c.prepare.new.store) (g.S.Store.facts c.append_edit.new.store) c.in-Ok.prepared.number c.args.numbers.now.next (string_bytes c.args.manifest.now.name) _
    c.in-Ok.ensures.prepares.0 c.in-Ok-append_edit.ensures.call.faithful c.in-Ok.ensures.prepares.4.synced (c.in-Ok-append_edit.ensures.appends (order_of g.K.KeyOrder.name g.K.KeyOrder.cmp)).others
    c.in-Ok-append_edit.manifest_end c.in-Ok-append_edit.ensures.syncs

pub returns-in-Ok-append_edit-clause-leaves : goal.returns-in-Ok-append_edit-clause-leaves
returns-in-Ok-append_edit-clause-leaves g c =
    let order = order_of g.K.KeyOrder.name g.K.KeyOrder.cmp in
    let p = c.in-Ok.ensures.prepares in
    leaves_ok order (g.S.Store.facts c.args.store.now) c.args.numbers.now.next c.prepare.new.numbers.next c.args.plan c.args.manifest.now c.args.memory.now.inserts
    c.unread_law.ensures c.flush_law.ensures c.same_manifest_law.ensures (g.S.Store.facts c.prepare.new.store) (g.S.Store.facts c.append_edit.new.store) c.args.version.now c.in-Ok.prepared
    c.in-Ok.ensures.writes c.in-Ok-append_edit.ensures.call p.0 p.1 p.2 p.3 p.4 c.in-Ok-append_edit.manifest_end (c.in-Ok-append_edit.ensures.appends order)

pub returns-in-Err-append_edit-clause-call : goal.returns-in-Err-append_edit-clause-call
returns-in-Err-append_edit-clause-call g c =
    touches_both (g.S.Store.facts c.args.store.now) (g.S.Store.facts c.prepare.new.store) (g.S.Store.facts c.append_edit.new.store) (name_of (Table c.args.numbers.now.next)) (string_bytes c.args.manifest.now.name)
    c.in-Ok.ensures.writes c.in-Err-append_edit.ensures.call (c.in-Err-append_edit.ensures.appends (order_of g.K.KeyOrder.name g.K.KeyOrder.cmp)).others c.in-Err-append_edit.ensures.syncs.others

pub returns-in-Err-append_edit-clause-leaves : goal.returns-in-Err-append_edit-clause-leaves
returns-in-Err-append_edit-clause-leaves g c =
    let order = order_of g.K.KeyOrder.name g.K.KeyOrder.cmp in
    let p = c.in-Ok.ensures.prepares in
    let P : FlushError → Type 0 = λ e. FlushLeaves {K = g.row.K.Denot} order (g.S.Store.facts c.args.store.now) (g.S.Store.facts c.append_edit.new.store) c.args.numbers.now.next c.prepare.new.numbers.next c.args.plan c.args.manifest.now
    c.args.memory.now.inserts c.args.version.now.tables (Err e) in
    subst P (sym c.edit_refusal.ensures)
    (leaves_maybe order (g.S.Store.facts c.args.store.now) c.args.numbers.now.next c.prepare.new.numbers.next c.args.plan c.args.manifest.now c.args.memory.now.inserts
    c.unread_law.ensures c.flush_law.ensures c.same_manifest_law.ensures (g.S.Store.facts c.prepare.new.store) (g.S.Store.facts c.append_edit.new.store) c.args.version.now c.in-Ok.prepared
    c.in-Ok.ensures.writes c.in-Err-append_edit.ensures.call p.0 p.1 p.2 p.3 p.4 c.in-Err-append_edit.error c.in-Err-append_edit.ensures.refused (c.in-Err-append_edit.ensures.appends order))

pub returns-in-Ok-append_edit-clause-fails : goal.returns-in-Ok-append_edit-clause-fails
returns-in-Ok-append_edit-clause-fails g c = omega (arith, c.in-Ok.ensures.writes.writes, c.in-Ok-append_edit.ensures.fails)

pub returns-in-Err-append_edit-clause-fails : goal.returns-in-Err-append_edit-clause-fails
returns-in-Err-append_edit-clause-fails g c = omega (arith, c.in-Ok.ensures.writes.writes, c.in-Err-append_edit.ensures.fails)

pub returns-in-Err-clause-stops : goal.returns-in-Err-clause-stops
returns-in-Err-clause-stops g c f =
    table_stopped (order_of g.K.KeyOrder.name g.K.KeyOrder.cmp) (g.S.Store.facts c.args.store.now) c.args.numbers.now.next c.prepare.new.numbers.next c.args.plan c.args.manifest.now c.args.memory.now.inserts c.args.version.now.tables
    c.unread_law.ensures (g.S.Store.facts c.prepare.new.store) c.in-Err.ensures.drawn (c.in-Err.ensures.writes.calls f).leaves

pub returns-in-Ok-append_edit-clause-stops : goal.returns-in-Ok-append_edit-clause-stops
returns-in-Ok-append_edit-clause-stops g c f =
    let order = order_of g.K.KeyOrder.name g.K.KeyOrder.cmp in
    let p = c.in-Ok.ensures.prepares in
    flush_stopped order (g.S.Store.facts c.args.store.now) c.args.numbers.now.next c.prepare.new.numbers.next c.args.plan c.args.manifest.now c.args.memory.now.inserts
    c.unread_law.ensures c.flush_law.ensures c.same_manifest_law.ensures (g.S.Store.facts c.prepare.new.store) (g.S.Store.facts c.append_edit.new.store) c.args.version.now c.in-Ok.prepared
    c.in-Ok.ensures.writes c.in-Ok.ensures.drawn c.in-Ok-append_edit.ensures.call p.0 p.1 p.2 p.3 p.4 (c.in-Ok-append_edit.ensures.stops f order) f

pub returns-in-Err-append_edit-clause-stops : goal.returns-in-Err-append_edit-clause-stops
returns-in-Err-append_edit-clause-stops g c f =
    let order = order_of g.K.KeyOrder.name g.K.KeyOrder.cmp in
    let p = c.in-Ok.ensures.prepares in
    flush_stopped order (g.S.Store.facts c.args.store.now) c.args.numbers.now.next c.prepare.new.numbers.next c.args.plan c.args.manifest.now c.args.memory.now.inserts
    c.unread_law.ensures c.flush_law.ensures c.same_manifest_law.ensures (g.S.Store.facts c.prepare.new.store) (g.S.Store.facts c.append_edit.new.store) c.args.version.now c.in-Ok.prepared
    c.in-Ok.ensures.writes c.in-Ok.ensures.drawn c.in-Err-append_edit.ensures.call p.0 p.1 p.2 p.3 p.4 (c.in-Err-append_edit.ensures.stops f order) f

pub returns-in-Err-clause-spares : goal.returns-in-Err-clause-spares
returns-in-Err-clause-spares g c f apart = (c.in-Err.ensures.writes.others f (string_bytes c.args.manifest.now.name) apart, c.in-Err.ensures.writes.synced f (string_bytes c.args.manifest.now.name) apart)

pub returns-in-Err-append_edit-clause-spares : goal.returns-in-Err-append_edit-clause-spares
returns-in-Err-append_edit-clause-spares g c =
    let order = order_of g.K.KeyOrder.name g.K.KeyOrder.cmp in
    let old = g.S.Store.facts c.args.store.now in
    let new = g.S.Store.facts c.append_edit.new.store in
    let name = string_bytes c.args.manifest.now.name in
    let P : FlushError → Type 0 = λ e. SparesManifest {T = Flushed g.row.K.Denot} old new name (λ q. q ≡ name_of (Table c.args.numbers.now.next)) (Err e) in
    subst P (sym c.edit_refusal.ensures)
    (spares_edit (Flushed g.row.K.Denot) order old (g.S.Store.facts c.prepare.new.store) new c.args.manifest.now.number name c.args.manifest.now.end c.in-Ok.prepared.edit (λ q. q ≡ name_of (Table c.args.numbers.now.next))
    c.in-Err-append_edit.error c.in-Err-append_edit.ensures.refused c.in-Err-append_edit.ensures.call.faithful
    (λ f apart. (c.in-Ok.ensures.writes.others f name apart, c.in-Ok.ensures.writes.synced f name apart)) (c.in-Err-append_edit.ensures.appends order) c.in-Err-append_edit.ensures.syncs)

-- ---- in each directory that differs in tables alone

pub returns-in-Err-clause-leaves_each : goal.returns-in-Err-clause-leaves_each
returns-in-Err-clause-leaves_each g c =
    none_each g.row.K.Denot (order_of g.K.KeyOrder.name g.K.KeyOrder.cmp) (g.S.Store.facts c.args.store.now) c.args.numbers.now.next c.prepare.new.numbers.next c.args.plan c.args.manifest.now c.args.memory.now.inserts
    c.unread_law.ensures (g.S.Store.facts c.prepare.new.store) c.args.version.now.tables c.in-Err.error c.in-Err.ensures.writes c.in-Err.ensures.drawn c.in-Err.ensures.refused

pub returns-in-Ok-append_edit-clause-leaves_each : goal.returns-in-Ok-append_edit-clause-leaves_each
returns-in-Ok-append_edit-clause-leaves_each g c =
    let order = order_of g.K.KeyOrder.name g.K.KeyOrder.cmp in
    let p = c.in-Ok.ensures.prepares in
    ok_each order (g.S.Store.facts c.args.store.now) c.args.numbers.now.next c.prepare.new.numbers.next c.args.plan c.args.manifest.now c.args.memory.now.inserts
    c.unread_law.ensures c.flush_law.ensures c.same_manifest_law.ensures (g.S.Store.facts c.prepare.new.store) (g.S.Store.facts c.append_edit.new.store) c.args.version.now c.in-Ok.prepared
    c.in-Ok.ensures.writes c.in-Ok-append_edit.ensures.call p.0 p.1 p.2 p.3 p.4 c.in-Ok-append_edit.manifest_end (c.in-Ok-append_edit.ensures.appends order)

pub returns-in-Err-append_edit-clause-leaves_each : goal.returns-in-Err-append_edit-clause-leaves_each
returns-in-Err-append_edit-clause-leaves_each g c =
    let order = order_of g.K.KeyOrder.name g.K.KeyOrder.cmp in
    let p = c.in-Ok.ensures.prepares in
    let P : FlushError → Type 0 = λ e. FlushEach g.row.K.Denot order (g.S.Store.facts c.args.store.now) c.args.numbers.now.next c.prepare.new.numbers.next c.args.plan c.args.manifest.now c.args.memory.now.inserts
    (g.S.Store.facts c.append_edit.new.store) c.args.version.now.tables (Err e) in
    subst P (sym c.edit_refusal.ensures)
    (maybe_each order (g.S.Store.facts c.args.store.now) c.args.numbers.now.next c.prepare.new.numbers.next c.args.plan c.args.manifest.now c.args.memory.now.inserts
    c.unread_law.ensures c.flush_law.ensures c.same_manifest_law.ensures (g.S.Store.facts c.prepare.new.store) (g.S.Store.facts c.append_edit.new.store) c.args.version.now c.in-Ok.prepared
    c.in-Ok.ensures.writes c.in-Err-append_edit.ensures.call p.0 p.1 p.2 p.3 p.4 c.in-Err-append_edit.error c.in-Err-append_edit.ensures.refused (c.in-Err-append_edit.ensures.appends order))

pub returns-in-Err-clause-stops_each : goal.returns-in-Err-clause-stops_each
returns-in-Err-clause-stops_each g c f =
    table_stopped_each (order_of g.K.KeyOrder.name g.K.KeyOrder.cmp) (g.S.Store.facts c.args.store.now) c.args.numbers.now.next c.prepare.new.numbers.next c.args.plan c.args.manifest.now c.args.memory.now.inserts c.args.version.now.tables
    c.unread_law.ensures (g.S.Store.facts c.prepare.new.store) c.in-Err.ensures.drawn (c.in-Err.ensures.writes.calls f).leaves

pub returns-in-Ok-append_edit-clause-stops_each : goal.returns-in-Ok-append_edit-clause-stops_each
returns-in-Ok-append_edit-clause-stops_each g c f =
    let order = order_of g.K.KeyOrder.name g.K.KeyOrder.cmp in
    let p = c.in-Ok.ensures.prepares in
    flush_stopped_each order (g.S.Store.facts c.args.store.now) c.args.numbers.now.next c.prepare.new.numbers.next c.args.plan c.args.manifest.now c.args.memory.now.inserts
    c.unread_law.ensures c.flush_law.ensures c.same_manifest_law.ensures (g.S.Store.facts c.prepare.new.store) (g.S.Store.facts c.append_edit.new.store) c.args.version.now c.in-Ok.prepared
    c.in-Ok.ensures.writes c.in-Ok.ensures.drawn c.in-Ok-append_edit.ensures.call p.0 p.1 p.2 p.3 p.4 (c.in-Ok-append_edit.ensures.stops f order) f

pub returns-in-Err-append_edit-clause-stops_each : goal.returns-in-Err-append_edit-clause-stops_each
returns-in-Err-append_edit-clause-stops_each g c f =
    let order = order_of g.K.KeyOrder.name g.K.KeyOrder.cmp in
    let p = c.in-Ok.ensures.prepares in
    flush_stopped_each order (g.S.Store.facts c.args.store.now) c.args.numbers.now.next c.prepare.new.numbers.next c.args.plan c.args.manifest.now c.args.memory.now.inserts
    c.unread_law.ensures c.flush_law.ensures c.same_manifest_law.ensures (g.S.Store.facts c.prepare.new.store) (g.S.Store.facts c.append_edit.new.store) c.args.version.now c.in-Ok.prepared
    c.in-Ok.ensures.writes c.in-Ok.ensures.drawn c.in-Err-append_edit.ensures.call p.0 p.1 p.2 p.3 p.4 (c.in-Err-append_edit.ensures.stops f order) f

-- ---- which names stay through it

pub returns-in-Err-clause-carries : goal.returns-in-Err-clause-carries
returns-in-Err-clause-carries g c f =
    carries_writes (g.S.Store.facts c.args.store.now) (g.S.Store.facts c.prepare.new.store) (λ (q : List ℕ). q ≡ name_of (Table c.args.numbers.now.next)) (c.in-Err.ensures.writes.calls f)

pub returns-in-Ok-append_edit-clause-carries : goal.returns-in-Ok-append_edit-clause-carries
returns-in-Ok-append_edit-clause-carries g c f =
    carries_edit (g.S.Store.facts c.args.store.now) (g.S.Store.facts c.prepare.new.store) (g.S.Store.facts c.append_edit.new.store) (λ (q : List ℕ). q ≡ name_of (Table c.args.numbers.now.next))
    (c.in-Ok.ensures.writes.calls (c.in-Ok-append_edit.ensures.call.faithful f)) (c.in-Ok-append_edit.ensures.carries f)

pub returns-in-Err-append_edit-clause-carries : goal.returns-in-Err-append_edit-clause-carries
returns-in-Err-append_edit-clause-carries g c f =
    carries_edit (g.S.Store.facts c.args.store.now) (g.S.Store.facts c.prepare.new.store) (g.S.Store.facts c.append_edit.new.store) (λ (q : List ℕ). q ≡ name_of (Table c.args.numbers.now.next))
    (c.in-Ok.ensures.writes.calls (c.in-Err-append_edit.ensures.call.faithful f)) (c.in-Err-append_edit.ensures.carries f)

-- ---- call by call

pub returns-in-Err-clause-puts : goal.returns-in-Err-clause-puts
returns-in-Err-clause-puts g c f =
    puts_none (g.S.Store.facts c.args.store.now) (g.S.Store.facts c.prepare.new.store) (λ (q : List ℕ). q ≡ name_of (Table c.args.numbers.now.next)) (string_bytes c.args.manifest.now.name) (IsTableKeptNow c.args.numbers.now.next)
    (c.in-Err.ensures.writes.calls f)

pub returns-in-Ok-append_edit-clause-puts : goal.returns-in-Ok-append_edit-clause-puts
returns-in-Ok-append_edit-clause-puts g c f =
    let mid = g.S.Store.facts c.prepare.new.store in
    let next = c.args.numbers.now.next in
    let early = c.in-Ok-append_edit.ensures.call.faithful f in
    let p = c.in-Ok.ensures.prepares in
    let S : ℕ → Type 0 = λ number. mid.synced (name_of (Table number)) ≡ get mid.files (name_of (Table number)) in
    puts_edit (g.S.Store.facts c.args.store.now) mid (g.S.Store.facts c.append_edit.new.store) (λ (q : List ℕ). q ≡ name_of (Table next)) (string_bytes c.args.manifest.now.name) (IsTableKeptNow next)
    (c.in-Ok.ensures.writes.calls early) (inl (c.in-Ok.ensures.ends early)) (c.in-Ok.ensures.ends early, subst S p.0 (p.4.synced early)) (c.in-Ok-append_edit.ensures.puts f)

pub returns-in-Err-append_edit-clause-puts : goal.returns-in-Err-append_edit-clause-puts
returns-in-Err-append_edit-clause-puts g c f =
    let mid = g.S.Store.facts c.prepare.new.store in
    let next = c.args.numbers.now.next in
    let early = c.in-Err-append_edit.ensures.call.faithful f in
    let p = c.in-Ok.ensures.prepares in
    let S : ℕ → Type 0 = λ number. mid.synced (name_of (Table number)) ≡ get mid.files (name_of (Table number)) in
    puts_edit (g.S.Store.facts c.args.store.now) mid (g.S.Store.facts c.append_edit.new.store) (λ (q : List ℕ). q ≡ name_of (Table next)) (string_bytes c.args.manifest.now.name) (IsTableKeptNow next)
    (c.in-Ok.ensures.writes.calls early) (inl (c.in-Ok.ensures.ends early)) (c.in-Ok.ensures.ends early, subst S p.0 (p.4.synced early)) (c.in-Err-append_edit.ensures.puts f)

pub returns-in-Ok-append_edit-clause-ends : goal.returns-in-Ok-append_edit-clause-ends
returns-in-Ok-append_edit-clause-ends g c f = c.in-Ok-append_edit.ensures.ends f
