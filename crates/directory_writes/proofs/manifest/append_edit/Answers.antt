use Rattle.std.proofs.Common.{◌≡◌, ◌+◌, ℕ, List, [], length, Result, Ok, Err, inl, refl, sym, subst, string_bytes, arith, rules}
use Rattle.coding.specs.declared.error.DbError.{DbError}
use Rattle.edits.specs.Edit.{IsEdit}
use Rattle.store.specs.Files.{AppendsBeginning}
use Rattle.store.specs.Losses.{PutsSynced}
use Rattle.store.specs.Stops.{LeavesOnly}
use Rattle.store.proofs.LosingOn.{puts_begun}
use Rattle.directory_writes.specs.internal.Calls.{AppendsSynced}
use Rattle.directory_writes.specs.internal.Manifest.{AppendsEdit}
use Rattle.directory_writes.proofs.Carrying.{carries_none}
use Rattle.directory_writes.proofs.EditSteps.{edit_done, edit_refused, edit_stopped, edit_unstopped}
use Rattle.directory_writes.proofs.manifest.append_edit.Goals as goal

pub returns-in_err-append_synced-clause-appends : goal.returns-in_err-append_synced-clause-appends
returns-in_err-append_synced-clause-appends g c order =
    let old = g.S.Store.facts c.args.store.now in
    let new = g.S.Store.facts c.append_synced.new.store in
    let added = c.in_ok-record.record.items in
    let e = c.in_err-append_synced.field-0.0 in
    let manifest = c.args.manifest.now in
    let is : c.from_residual-in_err-append_synced.result ≡ Err e = search rules in
    let B : List ℕ → Type 0 = λ payload. IsEdit payload c.args.edit.now in
    let R : List ℕ → Type 0 = λ bytes. AppendsSynced old new c.as_str.result.now bytes (Err e) in
    let N : List ℕ → Type 0 = λ name. AppendsSynced old new name added (Err e) in
    subst (λ (r : Result ℕ DbError). AppendsEdit order old new manifest.number (string_bytes manifest.name) manifest.end c.args.edit.now r) (sym is)
    (edit_refused order old new manifest.number (string_bytes manifest.name) manifest.end c.args.edit.now c.deref.result.now added
    (subst B (sym c.deref.ensures.value) c.in_ok-payload.ensures) c.in_ok-record.ensures.appends c.one_manifest.ensures
    c.failed_edit_law.ensures c.failed_append.ensures c.in_ok-record.ensures.longest e c.in_err-append_synced.ensures.refused
    (subst N c.as_str.ensures.value (subst R c.deref-2.ensures.value c.in_err-append_synced.ensures.appends)))

pub returns-clause-appends : goal.returns-clause-appends
returns-clause-appends g c order =
    let old = g.S.Store.facts c.args.store.now in
    let new = g.S.Store.facts c.append_synced.new.store in
    let added = c.in_ok-record.record.items in
    let manifest = c.args.manifest.now in
    let B : List ℕ → Type 0 = λ payload. IsEdit payload c.args.edit.now in
    let R : List ℕ → Type 0 = λ bytes. AppendsSynced old new c.as_str.result.now bytes (Ok c.in_ok-append_synced.field-0) in
    let N : List ℕ → Type 0 = λ name. AppendsSynced old new name added (Ok c.in_ok-append_synced.field-0) in
    edit_done order old new manifest.number (string_bytes manifest.name) manifest.end c.args.edit.now c.deref.result.now added
    (subst B (sym c.deref.ensures.value) c.in_ok-payload.ensures) c.in_ok-record.ensures.appends c.one_manifest.ensures
    c.edit_law.ensures c.in-Some.end (let is : c.in-Some.end ≡ manifest.end + length added = omega (arith, c.in-Some.ensures.1, c.len.ensures, c.in_ok-record.record.ok) in is)
    (subst N c.as_str.ensures.value (subst R c.deref-2.ensures.value c.in_ok-append_synced.ensures.appends))

pub returns-in_err-payload-clause-stops : goal.returns-in_err-payload-clause-stops
returns-in_err-payload-clause-stops g c f order =
    let old = g.S.Store.facts c.args.store.now in
    let manifest = c.args.manifest.now in
    edit_unstopped order old manifest.number (string_bytes manifest.name) manifest.end c.args.edit.now old refl

pub returns-in_err-record-clause-stops : goal.returns-in_err-record-clause-stops
returns-in_err-record-clause-stops g c f order =
    let old = g.S.Store.facts c.args.store.now in
    let manifest = c.args.manifest.now in
    edit_unstopped order old manifest.number (string_bytes manifest.name) manifest.end c.args.edit.now old refl

pub returns-in_default-clause-stops : goal.returns-in_default-clause-stops
returns-in_default-clause-stops g c f order =
    let old = g.S.Store.facts c.args.store.now in
    let manifest = c.args.manifest.now in
    edit_unstopped order old manifest.number (string_bytes manifest.name) manifest.end c.args.edit.now old refl

pub returns-in_err-append_synced-clause-stops : goal.returns-in_err-append_synced-clause-stops
returns-in_err-append_synced-clause-stops g c f order =
    let old = g.S.Store.facts c.args.store.now in
    let new = g.S.Store.facts c.append_synced.new.store in
    let added = c.in_ok-record.record.items in
    let manifest = c.args.manifest.now in
    let B : List ℕ → Type 0 = λ payload. IsEdit payload c.args.edit.now in
    let R : List ℕ → Type 0 = λ bytes. LeavesOnly old new (λ files. AppendsBeginning old.files files c.as_str.result.now bytes) in
    let N : List ℕ → Type 0 = λ name. LeavesOnly old new (λ files. AppendsBeginning old.files files name added) in
    edit_stopped order old manifest.number (string_bytes manifest.name) manifest.end c.args.edit.now c.deref.result.now added
    (subst B (sym c.deref.ensures.value) c.in_ok-payload.ensures) c.in_ok-record.ensures.appends c.one_manifest.ensures
    c.failed_edit_law.ensures c.failed_append.ensures c.in_ok-record.ensures.longest new
    (subst N c.as_str.ensures.value (subst R c.deref-2.ensures.value (c.in_err-append_synced.ensures.stops f)))

pub returns-clause-stops : goal.returns-clause-stops
returns-clause-stops g c f order =
    let old = g.S.Store.facts c.args.store.now in
    let new = g.S.Store.facts c.append_synced.new.store in
    let added = c.in_ok-record.record.items in
    let manifest = c.args.manifest.now in
    let B : List ℕ → Type 0 = λ payload. IsEdit payload c.args.edit.now in
    let R : List ℕ → Type 0 = λ bytes. LeavesOnly old new (λ files. AppendsBeginning old.files files c.as_str.result.now bytes) in
    let N : List ℕ → Type 0 = λ name. LeavesOnly old new (λ files. AppendsBeginning old.files files name added) in
    edit_stopped order old manifest.number (string_bytes manifest.name) manifest.end c.args.edit.now c.deref.result.now added
    (subst B (sym c.deref.ensures.value) c.in_ok-payload.ensures) c.in_ok-record.ensures.appends c.one_manifest.ensures
    c.failed_edit_law.ensures c.failed_append.ensures c.in_ok-record.ensures.longest new
    (subst N c.as_str.ensures.value (subst R c.deref-2.ensures.value (c.in_ok-append_synced.ensures.stops f)))

pub returns-in_err-payload-clause-carries : goal.returns-in_err-payload-clause-carries
returns-in_err-payload-clause-carries g c f = carries_none (g.S.Store.facts c.args.store.now) (λ (q : List ℕ). ⊥)

pub returns-in_err-record-clause-carries : goal.returns-in_err-record-clause-carries
returns-in_err-record-clause-carries g c f = carries_none (g.S.Store.facts c.args.store.now) (λ (q : List ℕ). ⊥)

pub returns-in_default-clause-carries : goal.returns-in_default-clause-carries
returns-in_default-clause-carries g c f = carries_none (g.S.Store.facts c.args.store.now) (λ (q : List ℕ). ⊥)

pub returns-in_err-append_synced-clause-carries : goal.returns-in_err-append_synced-clause-carries
returns-in_err-append_synced-clause-carries g c f = c.in_err-append_synced.ensures.carries f

pub returns-clause-carries : goal.returns-clause-carries
returns-clause-carries g c f = c.in_ok-append_synced.ensures.carries f

pub returns-in_err-payload-clause-puts : goal.returns-in_err-payload-clause-puts
returns-in_err-payload-clause-puts g c f = ([], puts_begun (g.S.Store.facts c.args.store.now) (g.S.Store.facts c.args.store.now) (string_bytes c.args.manifest.now.name) [] refl (inl (refl, refl)))

pub returns-in_err-record-clause-puts : goal.returns-in_err-record-clause-puts
returns-in_err-record-clause-puts g c f = ([], puts_begun (g.S.Store.facts c.args.store.now) (g.S.Store.facts c.args.store.now) (string_bytes c.args.manifest.now.name) [] refl (inl (refl, refl)))

pub returns-in_default-clause-puts : goal.returns-in_default-clause-puts
returns-in_default-clause-puts g c f = ([], puts_begun (g.S.Store.facts c.args.store.now) (g.S.Store.facts c.args.store.now) (string_bytes c.args.manifest.now.name) [] refl (inl (refl, refl)))

pub returns-in_err-append_synced-clause-puts : goal.returns-in_err-append_synced-clause-puts
returns-in_err-append_synced-clause-puts g c f =
    let N : List ℕ → Type 0 = λ name. PutsSynced (g.S.Store.facts c.args.store.now) (g.S.Store.facts c.append_synced.new.store) name c.deref-2.result.now in
    (c.deref-2.result.now, subst N c.as_str.ensures.value (c.in_err-append_synced.ensures.puts f))

pub returns-clause-puts : goal.returns-clause-puts
returns-clause-puts g c f =
    let N : List ℕ → Type 0 = λ name. PutsSynced (g.S.Store.facts c.args.store.now) (g.S.Store.facts c.append_synced.new.store) name c.deref-2.result.now in
    (c.deref-2.result.now, subst N c.as_str.ensures.value (c.in_ok-append_synced.ensures.puts f))

pub returns-clause-ends : goal.returns-clause-ends
returns-clause-ends g c f = c.in_ok-append_synced.ensures.ends f
