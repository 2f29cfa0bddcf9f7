use Rattle.std.proofs.Common.{Err, string_bytes, sym, subst, arith}
use Rattle.ikey.specs.Orders.{order_of}
use Rattle.compact.specs.Outputs.{IsNumberAtHand, IsTableName}
use Rattle.directory_writes.specs.declared.install.Installed.{Installed}
use Rattle.directory_writes.specs.internal.Flush.{SparesManifest}
use Rattle.directory_writes.specs.internal.Install.{AreOutputsKept, InstallLeaves}
use Rattle.directory_writes.specs.declared.flush.FlushError.{FlushError}
use Rattle.store.proofs.Carrying.{carries_writes}
use Rattle.directory_writes.proofs.Carrying.{carries_edit}
use Rattle.directory_writes.proofs.InstallSynced.{synced_still}
use Rattle.directory_writes.proofs.InstalledEach.{InstallEach, OwnsEach, install_stopped_each, maybe_each, none_each, ok_each, owns_each, table_stopped_each}
use Rattle.directory_writes.proofs.Installing.{touches_job, install_stopped, install_stopped_own, leaves_none, leaves_ok, leaves_maybe, table_stopped, table_stopped_own}
use Rattle.directory_writes.proofs.Putting.{puts_edit, puts_none}
use Rattle.directory_writes.proofs.Sparing.{spares_edit}
use Rattle.directory_writes.proofs.install.install_job.Goals as goal

pub returns-in-Err-clause-leaves : goal.returns-in-Err-clause-leaves
returns-in-Err-clause-leaves g c =
    leaves_none (order_of g.K.KeyOrder.name g.K.KeyOrder.cmp) c.args.job c.args.numbers.now.next c.args.last_sequence c.args.numbers.now.in_range.1 c.requires.numbered (g.S.Store.facts c.args.store.now) (g.S.Store.facts c.prepare_job.new.store)
    c.in-Err.ensures.writes c.args.manifest.now g.met.K.KeyOrder.total c.args.version.now.tables c.in-Err.error c.in-Err.ensures.refused

pub returns-in-Ok-append_edit-clause-call : goal.returns-in-Ok-append_edit-clause-call
returns-in-Ok-append_edit-clause-call g c =
    touches_job (g.S.Store.facts c.args.store.now) (g.S.Store.facts c.prepare_job.new.store) (g.S.Store.facts c.append_edit.new.store) c.args.job.outputs (string_bytes c.args.manifest.now.name)
    c.in-Ok.ensures.writes c.in-Ok-append_edit.ensures.call (c.in-Ok-append_edit.ensures.appends (order_of g.K.KeyOrder.name g.K.KeyOrder.cmp)).others c.in-Ok-append_edit.ensures.syncs.others

pub returns-in-Ok-append_edit-clause-leaves : goal.returns-in-Ok-append_edit-clause-leaves
returns-in-Ok-append_edit-clause-leaves g c =
    let order = order_of g.K.KeyOrder.name g.K.KeyOrder.cmp in
    leaves_ok order c.args.job c.args.numbers.now.next c.args.last_sequence c.args.numbers.now.in_range.1 c.requires.numbered (g.S.Store.facts c.args.store.now) (g.S.Store.facts c.prepare_job.new.store)
    c.in-Ok.ensures.writes c.args.manifest.now (g.S.Store.facts c.append_edit.new.store) c.in-Ok-append_edit.ensures.call c.args.version.now c.in-Ok.prepared c.in-Ok.ensures.prepared
    c.in-Ok-append_edit.manifest_end (c.in-Ok-append_edit.ensures.appends order)

pub returns-in-Ok-append_edit-clause-keeps : goal.returns-in-Ok-append_edit-clause-keeps
returns-in-Ok-append_edit-clause-keeps g c f deep came merging =
    let mid = g.S.Store.facts c.prepare_job.new.store in
    let new = g.S.Store.facts c.append_edit.new.store in
    synced_still mid new (string_bytes c.args.manifest.now.name) ((c.in-Ok-append_edit.ensures.appends (order_of g.K.KeyOrder.name g.K.KeyOrder.cmp)).others f) (c.in-Ok-append_edit.ensures.syncs.others f)
    c.args.version.now.tables c.in-Ok.prepared.version.value.tables (c.in-Ok.ensures.prepared.synced deep came (c.in-Ok-append_edit.ensures.call.faithful f) merging)

pub returns-in-Err-append_edit-clause-call : goal.returns-in-Err-append_edit-clause-call
returns-in-Err-append_edit-clause-call g c =
    touches_job (g.S.Store.facts c.args.store.now) (g.S.Store.facts c.prepare_job.new.store) (g.S.Store.facts c.append_edit.new.store) c.args.job.outputs (string_bytes c.args.manifest.now.name)
    c.in-Ok.ensures.writes c.in-Err-append_edit.ensures.call (c.in-Err-append_edit.ensures.appends (order_of g.K.KeyOrder.name g.K.KeyOrder.cmp)).others c.in-Err-append_edit.ensures.syncs.others

pub returns-in-Err-append_edit-clause-leaves : goal.returns-in-Err-append_edit-clause-leaves
returns-in-Err-append_edit-clause-leaves g c =
    let order = order_of g.K.KeyOrder.name g.K.KeyOrder.cmp in
    let P : FlushError → Type 0 = λ e. InstallLeaves {K = g.row.K.Denot} {C = g.row.C.Denot} order c.args.job (g.S.Store.facts c.args.store.now) (g.S.Store.facts c.append_edit.new.store) c.args.numbers.now.next c.args.last_sequence
    c.args.manifest.now c.args.version.now.tables (Err e) in
    subst P (sym c.edit_refusal.ensures)
    (leaves_maybe order c.args.job c.args.numbers.now.next c.args.last_sequence c.args.numbers.now.in_range.1 c.requires.numbered (g.S.Store.facts c.args.store.now) (g.S.Store.facts c.prepare_job.new.store)
    c.in-Ok.ensures.writes c.args.manifest.now (g.S.Store.facts c.append_edit.new.store) c.in-Err-append_edit.ensures.call c.args.version.now c.in-Ok.prepared c.in-Ok.ensures.prepared
    c.same_manifest_law.ensures c.in-Err-append_edit.error c.in-Err-append_edit.ensures.refused (c.in-Err-append_edit.ensures.appends order))

pub returns-in-Ok-append_edit-clause-fails : goal.returns-in-Ok-append_edit-clause-fails
returns-in-Ok-append_edit-clause-fails g c = omega (arith, c.in-Ok.ensures.fails, c.in-Ok-append_edit.ensures.fails)

pub returns-in-Err-append_edit-clause-fails : goal.returns-in-Err-append_edit-clause-fails
returns-in-Err-append_edit-clause-fails g c = omega (arith, c.in-Ok.ensures.fails, c.in-Err-append_edit.ensures.fails)

pub returns-in-Err-clause-stops : goal.returns-in-Err-clause-stops
returns-in-Err-clause-stops g c f =
    table_stopped (order_of g.K.KeyOrder.name g.K.KeyOrder.cmp) c.args.job c.args.numbers.now.next c.args.last_sequence c.args.numbers.now.in_range.1 c.requires.numbered (g.S.Store.facts c.args.store.now) (g.S.Store.facts c.prepare_job.new.store)
    c.in-Err.ensures.writes c.args.manifest.now f c.args.version.now.tables

pub returns-in-Ok-append_edit-clause-stops : goal.returns-in-Ok-append_edit-clause-stops
returns-in-Ok-append_edit-clause-stops g c f =
    let order = order_of g.K.KeyOrder.name g.K.KeyOrder.cmp in
    install_stopped order c.args.job c.args.numbers.now.next c.args.last_sequence c.args.numbers.now.in_range.1 c.requires.numbered (g.S.Store.facts c.args.store.now) (g.S.Store.facts c.prepare_job.new.store)
    c.in-Ok.ensures.writes c.args.manifest.now (c.in-Ok-append_edit.ensures.call.faithful f) c.same_manifest_law.ensures (g.S.Store.facts c.append_edit.new.store) c.args.version.now c.in-Ok.prepared c.in-Ok.ensures.prepared
    (c.in-Ok-append_edit.ensures.stops f order)

pub returns-in-Err-append_edit-clause-stops : goal.returns-in-Err-append_edit-clause-stops
returns-in-Err-append_edit-clause-stops g c f =
    let order = order_of g.K.KeyOrder.name g.K.KeyOrder.cmp in
    install_stopped order c.args.job c.args.numbers.now.next c.args.last_sequence c.args.numbers.now.in_range.1 c.requires.numbered (g.S.Store.facts c.args.store.now) (g.S.Store.facts c.prepare_job.new.store)
    c.in-Ok.ensures.writes c.args.manifest.now (c.in-Err-append_edit.ensures.call.faithful f) c.same_manifest_law.ensures (g.S.Store.facts c.append_edit.new.store) c.args.version.now c.in-Ok.prepared c.in-Ok.ensures.prepared
    (c.in-Err-append_edit.ensures.stops f order)

pub returns-in-Err-clause-stops_own : goal.returns-in-Err-clause-stops_own
returns-in-Err-clause-stops_own g c f =
    table_stopped_own (order_of g.K.KeyOrder.name g.K.KeyOrder.cmp) c.args.job c.args.numbers.now.next c.args.last_sequence c.args.numbers.now.in_range.1 c.requires.numbered (g.S.Store.facts c.args.store.now) (g.S.Store.facts c.prepare_job.new.store)
    c.in-Err.ensures.writes c.args.manifest.now f c.args.version.now.tables

pub returns-in-Ok-append_edit-clause-stops_own : goal.returns-in-Ok-append_edit-clause-stops_own
returns-in-Ok-append_edit-clause-stops_own g c f =
    let order = order_of g.K.KeyOrder.name g.K.KeyOrder.cmp in
    install_stopped_own order c.args.job c.args.numbers.now.next c.args.last_sequence c.args.numbers.now.in_range.1 c.requires.numbered (g.S.Store.facts c.args.store.now) (g.S.Store.facts c.prepare_job.new.store)
    c.in-Ok.ensures.writes c.args.manifest.now (c.in-Ok-append_edit.ensures.call.faithful f) c.same_manifest_law.ensures (g.S.Store.facts c.append_edit.new.store) c.args.version.now c.in-Ok.prepared c.in-Ok.ensures.prepared
    (c.in-Ok-append_edit.ensures.stops f order)

pub returns-in-Err-append_edit-clause-stops_own : goal.returns-in-Err-append_edit-clause-stops_own
returns-in-Err-append_edit-clause-stops_own g c f =
    let order = order_of g.K.KeyOrder.name g.K.KeyOrder.cmp in
    install_stopped_own order c.args.job c.args.numbers.now.next c.args.last_sequence c.args.numbers.now.in_range.1 c.requires.numbered (g.S.Store.facts c.args.store.now) (g.S.Store.facts c.prepare_job.new.store)
    c.in-Ok.ensures.writes c.args.manifest.now (c.in-Err-append_edit.ensures.call.faithful f) c.same_manifest_law.ensures (g.S.Store.facts c.append_edit.new.store) c.args.version.now c.in-Ok.prepared c.in-Ok.ensures.prepared
    (c.in-Err-append_edit.ensures.stops f order)

pub returns-in-Err-clause-spares : goal.returns-in-Err-clause-spares
returns-in-Err-clause-spares g c f apart =
    let name = string_bytes c.args.manifest.now.name in
    (c.in-Err.ensures.writes.others f name (λ number at is. apart (number, at, is)), c.in-Err.ensures.writes.synced f name (λ number at is. apart (number, at, is)))

pub returns-in-Err-append_edit-clause-spares : goal.returns-in-Err-append_edit-clause-spares
returns-in-Err-append_edit-clause-spares g c =
    let order = order_of g.K.KeyOrder.name g.K.KeyOrder.cmp in
    let old = g.S.Store.facts c.args.store.now in
    let new = g.S.Store.facts c.append_edit.new.store in
    let name = string_bytes c.args.manifest.now.name in
    let mine = IsTableName (IsNumberAtHand c.args.job.outputs) in
    let P : FlushError → Type 0 = λ e. SparesManifest {T = Installed g.row.K.Denot} old new name mine (Err e) in
    subst P (sym c.edit_refusal.ensures)
    (spares_edit (Installed g.row.K.Denot) order old (g.S.Store.facts c.prepare_job.new.store) new c.args.manifest.now.number name c.args.manifest.now.end c.in-Ok.prepared.edit mine
    c.in-Err-append_edit.error c.in-Err-append_edit.ensures.refused c.in-Err-append_edit.ensures.call.faithful
    (λ f apart. (c.in-Ok.ensures.writes.others f name (λ number at is. apart (number, at, is)), c.in-Ok.ensures.writes.synced f name (λ number at is. apart (number, at, is))))
    (c.in-Err-append_edit.ensures.appends order) c.in-Err-append_edit.ensures.syncs)

-- ---- in each directory that differs in tables alone

pub returns-in-Err-clause-leaves_each : goal.returns-in-Err-clause-leaves_each
returns-in-Err-clause-leaves_each g c =
    let order = order_of g.K.KeyOrder.name g.K.KeyOrder.cmp in
    none_each order c.args.job c.args.numbers.now.next c.args.last_sequence c.args.numbers.now.in_range.1 c.requires.numbered (g.S.Store.facts c.args.store.now) (g.S.Store.facts c.prepare_job.new.store)
    c.in-Err.ensures.writes c.args.manifest.now g.met.K.KeyOrder.total c.args.version.now.tables c.in-Err.error c.in-Err.ensures.refused

pub returns-in-Ok-append_edit-clause-leaves_each : goal.returns-in-Ok-append_edit-clause-leaves_each
returns-in-Ok-append_edit-clause-leaves_each g c =
    let order = order_of g.K.KeyOrder.name g.K.KeyOrder.cmp in
    ok_each order c.args.job c.args.numbers.now.next c.args.last_sequence c.args.numbers.now.in_range.1 c.requires.numbered (g.S.Store.facts c.args.store.now) (g.S.Store.facts c.prepare_job.new.store)
    c.in-Ok.ensures.writes c.args.manifest.now (g.S.Store.facts c.append_edit.new.store) c.in-Ok-append_edit.ensures.call c.args.version.now c.in-Ok.prepared c.in-Ok.ensures.prepared
    c.in-Ok-append_edit.manifest_end (c.in-Ok-append_edit.ensures.appends order)

pub returns-in-Err-append_edit-clause-leaves_each : goal.returns-in-Err-append_edit-clause-leaves_each
returns-in-Err-append_edit-clause-leaves_each g c =
    let order = order_of g.K.KeyOrder.name g.K.KeyOrder.cmp in
    let P : FlushError → Type 0 = λ e. InstallEach {K = g.row.K.Denot} {C = g.row.C.Denot} order c.args.job c.args.numbers.now.next c.args.last_sequence c.args.numbers.now.in_range.1 c.requires.numbered (g.S.Store.facts c.args.store.now) (g.S.Store.facts c.prepare_job.new.store)
    c.in-Ok.ensures.writes c.args.manifest.now (g.S.Store.facts c.append_edit.new.store) c.args.version.now.tables (Err e) in
    subst P (sym c.edit_refusal.ensures)
    (maybe_each order c.args.job c.args.numbers.now.next c.args.last_sequence c.args.numbers.now.in_range.1 c.requires.numbered (g.S.Store.facts c.args.store.now) (g.S.Store.facts c.prepare_job.new.store)
    c.in-Ok.ensures.writes c.args.manifest.now (g.S.Store.facts c.append_edit.new.store) c.in-Err-append_edit.ensures.call c.args.version.now c.in-Ok.prepared c.in-Ok.ensures.prepared
    c.same_manifest_law.ensures c.in-Err-append_edit.error c.in-Err-append_edit.ensures.refused (c.in-Err-append_edit.ensures.appends order))

pub returns-in-Err-clause-owns_each : goal.returns-in-Err-clause-owns_each
returns-in-Err-clause-owns_each g c whole behind d same outputs stayed is = absurd (cc)

pub returns-in-Ok-append_edit-clause-owns_each : goal.returns-in-Ok-append_edit-clause-owns_each
returns-in-Ok-append_edit-clause-owns_each g c whole behind d same outputs stayed is = absurd (cc)

pub returns-in-Err-append_edit-clause-owns_each : goal.returns-in-Err-append_edit-clause-owns_each
returns-in-Err-append_edit-clause-owns_each g c =
    let order = order_of g.K.KeyOrder.name g.K.KeyOrder.cmp in
    let P : FlushError → Type 0 = λ e. OwnsEach {K = g.row.K.Denot} {C = g.row.C.Denot} order c.args.job c.args.numbers.now.next c.args.last_sequence c.args.numbers.now.in_range.1 c.requires.numbered (g.S.Store.facts c.args.store.now) (g.S.Store.facts c.prepare_job.new.store)
    c.in-Ok.ensures.writes c.args.manifest.now (g.S.Store.facts c.append_edit.new.store) c.args.version.now.tables (Err e) in
    subst P (sym c.edit_refusal.ensures)
    (owns_each order c.args.job c.args.numbers.now.next c.args.last_sequence c.args.numbers.now.in_range.1 c.requires.numbered (g.S.Store.facts c.args.store.now) (g.S.Store.facts c.prepare_job.new.store)
    c.in-Ok.ensures.writes c.args.manifest.now (g.S.Store.facts c.append_edit.new.store) c.in-Err-append_edit.ensures.call c.args.version.now c.in-Ok.prepared c.in-Ok.ensures.prepared
    c.same_manifest_law.ensures c.in-Err-append_edit.error c.in-Err-append_edit.ensures.refused (c.in-Err-append_edit.ensures.appends order))

pub returns-in-Err-clause-stops_each : goal.returns-in-Err-clause-stops_each
returns-in-Err-clause-stops_each g c f =
    let order = order_of g.K.KeyOrder.name g.K.KeyOrder.cmp in
    table_stopped_each order c.args.job c.args.numbers.now.next c.args.last_sequence c.args.numbers.now.in_range.1 c.requires.numbered (g.S.Store.facts c.args.store.now) (g.S.Store.facts c.prepare_job.new.store)
    c.in-Err.ensures.writes c.args.manifest.now f c.args.version.now.tables

pub returns-in-Ok-append_edit-clause-stops_each : goal.returns-in-Ok-append_edit-clause-stops_each
returns-in-Ok-append_edit-clause-stops_each g c f =
    let order = order_of g.K.KeyOrder.name g.K.KeyOrder.cmp in
    install_stopped_each order c.args.job c.args.numbers.now.next c.args.last_sequence c.args.numbers.now.in_range.1 c.requires.numbered (g.S.Store.facts c.args.store.now) (g.S.Store.facts c.prepare_job.new.store)
    c.in-Ok.ensures.writes c.args.manifest.now (c.in-Ok-append_edit.ensures.call.faithful f) c.same_manifest_law.ensures (g.S.Store.facts c.append_edit.new.store) c.args.version.now c.in-Ok.prepared c.in-Ok.ensures.prepared
    (c.in-Ok-append_edit.ensures.stops f order)

pub returns-in-Err-append_edit-clause-stops_each : goal.returns-in-Err-append_edit-clause-stops_each
returns-in-Err-append_edit-clause-stops_each g c f =
    let order = order_of g.K.KeyOrder.name g.K.KeyOrder.cmp in
    install_stopped_each order c.args.job c.args.numbers.now.next c.args.last_sequence c.args.numbers.now.in_range.1 c.requires.numbered (g.S.Store.facts c.args.store.now) (g.S.Store.facts c.prepare_job.new.store)
    c.in-Ok.ensures.writes c.args.manifest.now (c.in-Err-append_edit.ensures.call.faithful f) c.same_manifest_law.ensures (g.S.Store.facts c.append_edit.new.store) c.args.version.now c.in-Ok.prepared c.in-Ok.ensures.prepared
    (c.in-Err-append_edit.ensures.stops f order)

-- ---- which names stay through it

pub returns-in-Err-clause-carries : goal.returns-in-Err-clause-carries
returns-in-Err-clause-carries g c f =
    carries_writes (g.S.Store.facts c.args.store.now) (g.S.Store.facts c.prepare_job.new.store) (IsTableName (IsNumberAtHand c.args.job.outputs)) (c.in-Err.ensures.writes.calls f)

pub returns-in-Ok-append_edit-clause-carries : goal.returns-in-Ok-append_edit-clause-carries
returns-in-Ok-append_edit-clause-carries g c f =
    carries_edit (g.S.Store.facts c.args.store.now) (g.S.Store.facts c.prepare_job.new.store) (g.S.Store.facts c.append_edit.new.store) (IsTableName (IsNumberAtHand c.args.job.outputs))
    (c.in-Ok.ensures.writes.calls (c.in-Ok-append_edit.ensures.call.faithful f)) (c.in-Ok-append_edit.ensures.carries f)

pub returns-in-Err-append_edit-clause-carries : goal.returns-in-Err-append_edit-clause-carries
returns-in-Err-append_edit-clause-carries g c f =
    carries_edit (g.S.Store.facts c.args.store.now) (g.S.Store.facts c.prepare_job.new.store) (g.S.Store.facts c.append_edit.new.store) (IsTableName (IsNumberAtHand c.args.job.outputs))
    (c.in-Ok.ensures.writes.calls (c.in-Err-append_edit.ensures.call.faithful f)) (c.in-Err-append_edit.ensures.carries f)

-- ---- call by call

pub returns-in-Err-clause-puts : goal.returns-in-Err-clause-puts
returns-in-Err-clause-puts g c f =
    let old = g.S.Store.facts c.args.store.now in
    puts_none old (g.S.Store.facts c.prepare_job.new.store) (IsTableName (IsNumberAtHand c.args.job.outputs)) (string_bytes c.args.manifest.now.name) (AreOutputsKept g.K.KeyOrder.cmp c.args.job old c.args.numbers.now.next)
    (c.in-Err.ensures.writes.calls f)

pub returns-in-Ok-append_edit-clause-puts : goal.returns-in-Ok-append_edit-clause-puts
returns-in-Ok-append_edit-clause-puts g c f =
    let old = g.S.Store.facts c.args.store.now in
    let early = c.in-Ok-append_edit.ensures.call.faithful f in
    puts_edit old (g.S.Store.facts c.prepare_job.new.store) (g.S.Store.facts c.append_edit.new.store) (IsTableName (IsNumberAtHand c.args.job.outputs)) (string_bytes c.args.manifest.now.name)
    (AreOutputsKept g.K.KeyOrder.cmp c.args.job old c.args.numbers.now.next) (c.in-Ok.ensures.writes.calls early) (c.in-Ok.ensures.ends early) (c.in-Ok.ensures.kept early) (c.in-Ok-append_edit.ensures.puts f)

pub returns-in-Err-append_edit-clause-puts : goal.returns-in-Err-append_edit-clause-puts
returns-in-Err-append_edit-clause-puts g c f =
    let old = g.S.Store.facts c.args.store.now in
    let early = c.in-Err-append_edit.ensures.call.faithful f in
    puts_edit old (g.S.Store.facts c.prepare_job.new.store) (g.S.Store.facts c.append_edit.new.store) (IsTableName (IsNumberAtHand c.args.job.outputs)) (string_bytes c.args.manifest.now.name)
    (AreOutputsKept g.K.KeyOrder.cmp c.args.job old c.args.numbers.now.next) (c.in-Ok.ensures.writes.calls early) (c.in-Ok.ensures.ends early) (c.in-Ok.ensures.kept early) (c.in-Err-append_edit.ensures.puts f)

pub returns-in-Ok-append_edit-clause-ends : goal.returns-in-Ok-append_edit-clause-ends
returns-in-Ok-append_edit-clause-ends g c f = c.in-Ok-append_edit.ensures.ends f
