use Rattle.ikey.specs.Orders.{order_of}
use Rattle.std.proofs.Common.{◌≡◌, ◌≢◌, ◌⊎◌, false, List, [], ◌∷◌, ◌++◌, length, ℕ, Result, Ok, Err, IsTrue, OnOk, inl, inr, refl, sym, ap, subst, ◌∙◌, append_assoc, rules, string_bytes}
use Rattle.coding.specs.declared.error.DbError.{DbError}
use Rattle.std.specs.FinMap.{contains_key, insert}
use Rattle.store.specs.Calls.{Adds, Idles}
use Rattle.store.specs.Files.{Call, Creation}
use Rattle.store.specs.Losses.{LosesOnly, StaysNamed}
use Rattle.store.specs.Stops.{LeavesOnly}
use Rattle.store.proofs.Staying.{stays_behind}
use Rattle.opening.proofs.StoreCalls.{created, Creates, MaySet}
use Rattle.opening.specs.internal.Calls.{Writes, MakesCurrent}
use Rattle.edits.specs.Names.{name_of}
use Rattle.edits.specs.declared.names.FileName.TheVariants.{Current, Manifest}
use Rattle.opening.specs.internal.Opening.{Rewrites}
use Rattle.opening.specs.internal.Renewing.{IsWritten, Makes, OnlyIt, SetsThen, SetsWhole, StartsNew}
use Rattle.opening.proofs.RenewSteps.{made_whole, renews_all, sets_last, sets_makes}
use Rattle.opening.specs.Durable.{SyncsOnly, LeavesDurable}
use Rattle.opening.specs.Losses.{BeginsSpared}
use Rattle.opening.specs.internal.Durable.{WritesSynced, MakesSynced, HasDurable, SparesBeside}
use Rattle.opening.proofs.Reopening.{OpenLaws, numbered_of, next_of}
use Rattle.opening.proofs.Since.{BeginsFile, log_begun, still_no_log}
use Rattle.opening.proofs.Syncing.{manifest_spared, manifest_unwritten, current_spared, current_interrupted, log_durable_named, log_spared}
use Rattle.opening.proofs.OpenSteps.{manifest_failed, current_failed, log_created, manifest_stops, current_stops, log_stops}
use Rattle.opening.proofs.RewrittenEach.{RewritesEach, manifest_failed_each, current_failed_each, log_created_each, manifest_stops_each, current_stops_each, log_stops_each}
use Rattle.opening.proofs.LosingOpens.{current_loses, log_loses, manifest_loses, temporary_apart}
use Rattle.opening.proofs.Uncut.{IsSet, MayBeSet}
use Rattle.opening.proofs.rewriting.rewrite_directory.Goals as goal

pub returns-in_err-write_file-clause-files : goal.returns-in_err-write_file-clause-files
returns-in_err-write_file-clause-files g c =
    let order = order_of g.K.KeyOrder.name g.K.KeyOrder.cmp in
    let old = g.S.Store.facts c.args.store.now in
    let new = g.S.Store.facts c.write_file.new.store in
    let e = c.in_err-write_file.field-0.0 in
    let is : c.from_residual.result ≡ Err e = search rules in
    let N : List ℕ → Type 0 = λ name. Writes old new name c.args.rewrite.now.manifest.items (Err e) in
    let B : List ℕ → Type 0 = λ bytes. Writes old new c.as_str.result.now bytes (Err e) in
    let written = subst N (c.as_str.ensures.value ∙ c.requires.planned.manifest_name) (subst B c.deref.ensures.value c.in_err-write_file.ensures.files) in
    let laws : OpenLaws = record { free = c.free_change_law.ensures; reopen = c.reopen_law.ensures; log = c.begin_log_law.ensures; manifest = c.one_manifest.ensures; directory = c.one_directory.ensures; recovered = c.recovered_law.ensures } in
    subst (λ (r : Result _ DbError). Rewrites order old new c.args.found.now (length c.args.rewrite.now.manifest.items) r) (sym is)
    (manifest_failed order laws old c.args.found.now c.requires.usable c.args.rewrite.now.manifest.items c.requires.planned.manifest new e written)

pub returns-in_err-make_current-clause-files : goal.returns-in_err-make_current-clause-files
returns-in_err-make_current-clause-files g c =
    let order = order_of g.K.KeyOrder.name g.K.KeyOrder.cmp in
    let old = g.S.Store.facts c.args.store.now in
    let mid = g.S.Store.facts c.write_file.new.store in
    let new = g.S.Store.facts c.make_current.new.store in
    let e = c.in_err-make_current.field-0.0 in
    let is : c.from_residual-in_err-make_current.result ≡ Err e = search rules in
    let done = Ok c.in_ok-write_file.field-0 in
    let N : List ℕ → Type 0 = λ name. Writes old mid name c.args.rewrite.now.manifest.items done in
    let B : List ℕ → Type 0 = λ bytes. Writes old mid c.as_str.result.now bytes done in
    let written = subst N (c.as_str.ensures.value ∙ c.requires.planned.manifest_name) (subst B c.deref.ensures.value c.in_ok-write_file.ensures.files) in
    let M : List ℕ → Type 0 = λ name. MakesCurrent mid new name c.args.rewrite.now.current.items (Err e) in
    let C : List ℕ → Type 0 = λ bytes. MakesCurrent mid new c.as_str-2.result.now bytes (Err e) in
    let made = subst M (c.as_str-2.ensures.value ∙ c.requires.planned.temporary_name) (subst C c.deref-2.ensures.value c.in_err-make_current.ensures.files) in
    let laws : OpenLaws = record { free = c.free_change_law.ensures; reopen = c.reopen_law.ensures; log = c.begin_log_law.ensures; manifest = c.one_manifest.ensures; directory = c.one_directory.ensures; recovered = c.recovered_law.ensures } in
    subst (λ (r : Result _ DbError). Rewrites order old new c.args.found.now (length c.args.rewrite.now.manifest.items) r) (sym is)
    (current_failed order laws old c.args.found.now c.requires.usable c.args.rewrite.now.manifest.items c.requires.planned.manifest mid new c.args.rewrite.now.current.items e written c.requires.planned.current made)

pub returns-clause-files : goal.returns-clause-files
returns-clause-files g c =
    let order = order_of g.K.KeyOrder.name g.K.KeyOrder.cmp in
    let old = g.S.Store.facts c.args.store.now in
    let mid = g.S.Store.facts c.write_file.new.store in
    let most = g.S.Store.facts c.make_current.new.store in
    let new = g.S.Store.facts c.create_file.new.store in
    let done = Ok c.in_ok-write_file.field-0 in
    let set = Ok c.in_ok-make_current.field-0 in
    let N : List ℕ → Type 0 = λ name. Writes old mid name c.args.rewrite.now.manifest.items done in
    let B : List ℕ → Type 0 = λ bytes. Writes old mid c.as_str.result.now bytes done in
    let written = subst N (c.as_str.ensures.value ∙ c.requires.planned.manifest_name) (subst B c.deref.ensures.value c.in_ok-write_file.ensures.files) in
    let M : List ℕ → Type 0 = λ name. MakesCurrent mid most name c.args.rewrite.now.current.items set in
    let C : List ℕ → Type 0 = λ bytes. MakesCurrent mid most c.as_str-2.result.now bytes set in
    let made = subst M (c.as_str-2.ensures.value ∙ c.requires.planned.temporary_name) (subst C c.deref-2.ensures.value c.in_ok-make_current.ensures.files) in
    let L : List ℕ → Type 0 = λ name. Creates most new name c.create_file.result in
    let created = subst L (c.as_str-3.ensures.value ∙ c.requires.planned.log_name) (created most new c.as_str-3.result.now c.create_file.result c.create_file.ensures.call c.create_file.ensures.counted c.create_file.ensures.refused c.create_file.ensures.creates) in
    let laws : OpenLaws = record { free = c.free_change_law.ensures; reopen = c.reopen_law.ensures; log = c.begin_log_law.ensures; manifest = c.one_manifest.ensures; directory = c.one_directory.ensures; recovered = c.recovered_law.ensures } in
    log_created order laws old c.args.found.now c.requires.usable c.args.rewrite.now.manifest.items c.requires.planned.manifest mid most new c.args.rewrite.now.current.items c.create_file.result written c.requires.planned.current made created

-- ---- what is synced, and which files are spared

pub returns-in_err-write_file-clause-durable : goal.returns-in_err-write_file-clause-durable
returns-in_err-write_file-clause-durable g c =
    let old = g.S.Store.facts c.args.store.now in
    let new = g.S.Store.facts c.write_file.new.store in
    let e = c.in_err-write_file.field-0.0 in
    let is : c.from_residual.result ≡ Err e = search rules in
    let found = c.args.found.now in
    let P : List ℕ → List ℕ → Type 0 = λ name bytes. Writes old new name bytes (Err e) × WritesSynced old new name bytes (Err e) in
    let both = subst (λ name. P name c.args.rewrite.now.manifest.items) (c.as_str.ensures.value ∙ c.requires.planned.manifest_name) (subst (λ bytes. P c.as_str.result.now bytes) c.deref.ensures.value (c.in_err-write_file.ensures.files, c.in_err-write_file.ensures.synced)) in
    subst (λ (r : Result _ DbError). LeavesDurable old new r) (sym is)
    (manifest_unwritten found.number (numbered_of found c.requires.usable) c.args.rewrite.now.manifest.items old new new e both.0 both.1)

pub returns-in_err-write_file-clause-spared : goal.returns-in_err-write_file-clause-spared
returns-in_err-write_file-clause-spared g c =
    let old = g.S.Store.facts c.args.store.now in
    let new = g.S.Store.facts c.write_file.new.store in
    let failed = Err c.in_err-write_file.field-0.0 in
    let found = c.args.found.now in
    let P : List ℕ → List ℕ → Type 0 = λ name bytes. Writes old new name bytes failed × WritesSynced old new name bytes failed in
    let both = subst (λ name. P name c.args.rewrite.now.manifest.items) (c.as_str.ensures.value ∙ c.requires.planned.manifest_name) (subst (λ bytes. P c.as_str.result.now bytes) c.deref.ensures.value (c.in_err-write_file.ensures.files, c.in_err-write_file.ensures.synced)) in
    manifest_spared found.number (numbered_of found c.requires.usable) c.args.rewrite.now.manifest.items old new new both.0 both.1

pub returns-in_err-make_current-clause-durable : goal.returns-in_err-make_current-clause-durable
returns-in_err-make_current-clause-durable g c =
    let old = g.S.Store.facts c.args.store.now in
    let mid = g.S.Store.facts c.write_file.new.store in
    let new = g.S.Store.facts c.make_current.new.store in
    let e = c.in_err-make_current.field-0.0 in
    let is : c.from_residual-in_err-make_current.result ≡ Err e = search rules in
    let found = c.args.found.now in
    let done = Ok c.in_ok-write_file.field-0 in
    let P : List ℕ → List ℕ → Type 0 = λ name bytes. Writes old mid name bytes done × WritesSynced old mid name bytes done in
    let wrote = subst (λ name. P name c.args.rewrite.now.manifest.items) (c.as_str.ensures.value ∙ c.requires.planned.manifest_name) (subst (λ bytes. P c.as_str.result.now bytes) c.deref.ensures.value (c.in_ok-write_file.ensures.files, c.in_ok-write_file.ensures.synced)) in
    let Q : List ℕ → List ℕ → Type 0 = λ name bytes. MakesCurrent mid new name bytes (Err e) × MakesSynced mid new name bytes (Err e) in
    let made = subst (λ name. Q name (name_of (Manifest found.number) ++ 10 ∷ [])) (c.as_str-2.ensures.value ∙ c.requires.planned.temporary_name) (subst (λ bytes. Q c.as_str-2.result.now bytes) (c.deref-2.ensures.value ∙ c.requires.planned.current) (c.in_err-make_current.ensures.files, c.in_err-make_current.ensures.synced)) in
    subst (λ (r : Result _ DbError). LeavesDurable old new r) (sym is)
    (current_interrupted found.number (numbered_of found c.requires.usable) c.args.rewrite.now.manifest.items old mid wrote.0 wrote.1 new e made.0 made.1)

pub returns-in_err-make_current-clause-spared : goal.returns-in_err-make_current-clause-spared
returns-in_err-make_current-clause-spared g c =
    let old = g.S.Store.facts c.args.store.now in
    let mid = g.S.Store.facts c.write_file.new.store in
    let new = g.S.Store.facts c.make_current.new.store in
    let e = c.in_err-make_current.field-0.0 in
    let found = c.args.found.now in
    let done = Ok c.in_ok-write_file.field-0 in
    let P : List ℕ → List ℕ → Type 0 = λ name bytes. Writes old mid name bytes done × WritesSynced old mid name bytes done in
    let wrote = subst (λ name. P name c.args.rewrite.now.manifest.items) (c.as_str.ensures.value ∙ c.requires.planned.manifest_name) (subst (λ bytes. P c.as_str.result.now bytes) c.deref.ensures.value (c.in_ok-write_file.ensures.files, c.in_ok-write_file.ensures.synced)) in
    let Q : List ℕ → List ℕ → Type 0 = λ name bytes. MakesCurrent mid new name bytes (Err e) × MakesSynced mid new name bytes (Err e) in
    let made = subst (λ name. Q name (name_of (Manifest found.number) ++ 10 ∷ [])) (c.as_str-2.ensures.value ∙ c.requires.planned.temporary_name) (subst (λ bytes. Q c.as_str-2.result.now bytes) (c.deref-2.ensures.value ∙ c.requires.planned.current) (c.in_err-make_current.ensures.files, c.in_err-make_current.ensures.synced)) in
    current_spared found.number (numbered_of found c.requires.usable) c.args.rewrite.now.manifest.items old mid wrote.0 wrote.1 new e made.0 made.1

-- once all is written
done_durable : (g : _) (c : goal.After-create_file g)
    → LeavesDurable (g.S.Store.facts c.args.store.now) (g.S.Store.facts c.create_file.new.store) c.create_file.result × (IsTrue (g.S.Store.facts c.create_file.new.store).faithful → OnOk c.create_file.result (HasDurable c.args.found.now.number (g.S.Store.facts c.create_file.new.store)))
    × (IsTrue (g.S.Store.facts c.create_file.new.store).faithful → SparesBeside c.args.found.now.number (g.S.Store.facts c.args.store.now) (g.S.Store.facts c.create_file.new.store))
done_durable g c =
    let old = g.S.Store.facts c.args.store.now in
    let mid = g.S.Store.facts c.write_file.new.store in
    let most = g.S.Store.facts c.make_current.new.store in
    let new = g.S.Store.facts c.create_file.new.store in
    let found = c.args.found.now in
    let done = Ok c.in_ok-write_file.field-0 in
    let set = Ok c.in_ok-make_current.field-0 in
    let P : List ℕ → List ℕ → Type 0 = λ name bytes. Writes old mid name bytes done × WritesSynced old mid name bytes done in
    let wrote = subst (λ name. P name c.args.rewrite.now.manifest.items) (c.as_str.ensures.value ∙ c.requires.planned.manifest_name) (subst (λ bytes. P c.as_str.result.now bytes) c.deref.ensures.value (c.in_ok-write_file.ensures.files, c.in_ok-write_file.ensures.synced)) in
    let Q : List ℕ → List ℕ → Type 0 = λ name bytes. MakesCurrent mid most name bytes set × MakesSynced mid most name bytes set in
    let made = subst (λ name. Q name (name_of (Manifest found.number) ++ 10 ∷ [])) (c.as_str-2.ensures.value ∙ c.requires.planned.temporary_name) (subst (λ bytes. Q c.as_str-2.result.now bytes) (c.deref-2.ensures.value ∙ c.requires.planned.current) (c.in_ok-make_current.ensures.files, c.in_ok-make_current.ensures.synced)) in
    let L : List ℕ → Type 0 = λ name. Creates most new name c.create_file.result × (IsTrue new.faithful → SyncsOnly most.synced new.synced name) in
    let created = subst L (c.as_str-3.ensures.value ∙ c.requires.planned.log_name) ((created most new c.as_str-3.result.now c.create_file.result c.create_file.ensures.call c.create_file.ensures.counted c.create_file.ensures.refused c.create_file.ensures.creates), c.create_file.ensures.creates.synced) in
    let num = numbered_of found c.requires.usable in
    let next = next_of found c.requires.usable in
    let manifest = c.args.rewrite.now.manifest.items in
    let durable = log_durable_named found.number num manifest old mid wrote.0 wrote.1 most made.0 made.1 next new c.create_file.result created.0 created.1 in
    (durable.0, durable.1, log_spared found.number num manifest old mid wrote.0 wrote.1 most made.0 made.1 next new c.create_file.result created.0 created.1)

pub returns-clause-durable : goal.returns-clause-durable
returns-clause-durable g c = (done_durable g c).0

pub returns-clause-current : goal.returns-clause-current
returns-clause-current g c = (done_durable g c).1

pub returns-clause-spared : goal.returns-clause-spared
returns-clause-spared g c = (done_durable g c).2

-- ---- what a process crash leaves

pub returns-in_err-write_file-clause-stops : goal.returns-in_err-write_file-clause-stops
returns-in_err-write_file-clause-stops g c f h =
    let old = g.S.Store.facts c.args.store.now in
    let new = g.S.Store.facts c.write_file.new.store in
    let laws : OpenLaws = record { free = c.free_change_law.ensures; reopen = c.reopen_law.ensures; log = c.begin_log_law.ensures; manifest = c.one_manifest.ensures; directory = c.one_directory.ensures; recovered = c.recovered_law.ensures } in
    manifest_stops (order_of g.K.KeyOrder.name g.K.KeyOrder.cmp) laws old c.args.found.now c.requires.usable c.args.rewrite.now.manifest.items c.requires.planned.manifest h new
    (subst (OnlyIt old new) (c.as_str.ensures.value ∙ c.requires.planned.manifest_name) (c.in_err-write_file.ensures.stops f)).leaves

pub returns-in_err-make_current-clause-stops : goal.returns-in_err-make_current-clause-stops
returns-in_err-make_current-clause-stops g c f h =
    let old = g.S.Store.facts c.args.store.now in
    let mid = g.S.Store.facts c.write_file.new.store in
    let new = g.S.Store.facts c.make_current.new.store in
    let m = c.in_err-make_current.ensures.files.call.faithful f in
    let done = Ok c.in_ok-write_file.field-0 in
    let N : List ℕ → Type 0 = λ name. Writes old mid name c.args.rewrite.now.manifest.items done in
    let B : List ℕ → Type 0 = λ bytes. Writes old mid c.as_str.result.now bytes done in
    let written = subst N (c.as_str.ensures.value ∙ c.requires.planned.manifest_name) (subst B c.deref.ensures.value c.in_ok-write_file.ensures.files) in
    let M : List ℕ → Type 0 = λ name. LeavesOnly mid new (MaySet mid.files name c.args.rewrite.now.current.items) in
    let C : List ℕ → Type 0 = λ bytes. LeavesOnly mid new (MaySet mid.files c.as_str-2.result.now bytes) in
    let laws : OpenLaws = record { free = c.free_change_law.ensures; reopen = c.reopen_law.ensures; log = c.begin_log_law.ensures; manifest = c.one_manifest.ensures; directory = c.one_directory.ensures; recovered = c.recovered_law.ensures } in
    current_stops (order_of g.K.KeyOrder.name g.K.KeyOrder.cmp) laws old c.args.found.now c.requires.usable c.args.rewrite.now.manifest.items c.requires.planned.manifest h mid new c.args.rewrite.now.current.items written c.requires.planned.current m
    (subst (OnlyIt old mid) (c.as_str.ensures.value ∙ c.requires.planned.manifest_name) (c.in_ok-write_file.ensures.stops m)).leaves
    (subst M (c.as_str-2.ensures.value ∙ c.requires.planned.temporary_name) (subst C c.deref-2.ensures.value (c.in_err-make_current.ensures.stops f)))

pub returns-clause-stops : goal.returns-clause-stops
returns-clause-stops g c f h =
    let old = g.S.Store.facts c.args.store.now in
    let mid = g.S.Store.facts c.write_file.new.store in
    let most = g.S.Store.facts c.make_current.new.store in
    let new = g.S.Store.facts c.create_file.new.store in
    let m = c.create_file.ensures.call.faithful f in
    let l = c.make_current.ensures.files.call.faithful m in
    let done = Ok c.in_ok-write_file.field-0 in
    let set = Ok c.in_ok-make_current.field-0 in
    let N : List ℕ → Type 0 = λ name. Writes old mid name c.args.rewrite.now.manifest.items done in
    let B : List ℕ → Type 0 = λ bytes. Writes old mid c.as_str.result.now bytes done in
    let written = subst N (c.as_str.ensures.value ∙ c.requires.planned.manifest_name) (subst B c.deref.ensures.value c.in_ok-write_file.ensures.files) in
    let M : List ℕ → Type 0 = λ name. MakesCurrent mid most name c.args.rewrite.now.current.items set in
    let C : List ℕ → Type 0 = λ bytes. MakesCurrent mid most c.as_str-2.result.now bytes set in
    let made = subst M (c.as_str-2.ensures.value ∙ c.requires.planned.temporary_name) (subst C c.deref-2.ensures.value c.in_ok-make_current.ensures.files) in
    let L : List ℕ → Type 0 = λ name. LeavesOnly most new (λ files. (files ≡ most.files) ⊎ (files ≡ insert most.files name [])) in
    let laws : OpenLaws = record { free = c.free_change_law.ensures; reopen = c.reopen_law.ensures; log = c.begin_log_law.ensures; manifest = c.one_manifest.ensures; directory = c.one_directory.ensures; recovered = c.recovered_law.ensures } in
    let V : List ℕ → Type 0 = λ name. LeavesOnly mid most (MaySet mid.files name c.args.rewrite.now.current.items) in
    let D : List ℕ → Type 0 = λ bytes. LeavesOnly mid most (MaySet mid.files c.as_str-2.result.now bytes) in
    let stopped = current_stops (order_of g.K.KeyOrder.name g.K.KeyOrder.cmp) laws old c.args.found.now c.requires.usable c.args.rewrite.now.manifest.items c.requires.planned.manifest h mid most c.args.rewrite.now.current.items written c.requires.planned.current l
    (subst (OnlyIt old mid) (c.as_str.ensures.value ∙ c.requires.planned.manifest_name) (c.in_ok-write_file.ensures.stops l)).leaves
    (subst V (c.as_str-2.ensures.value ∙ c.requires.planned.temporary_name) (subst D c.deref-2.ensures.value (c.in_ok-make_current.ensures.stops m))) in
    log_stops (order_of g.K.KeyOrder.name g.K.KeyOrder.cmp) laws old c.args.found.now c.requires.usable c.args.rewrite.now.manifest.items c.requires.planned.manifest h mid most new c.args.rewrite.now.current.items written c.requires.planned.current l
    (made.ok m) stopped (subst L (c.as_str-3.ensures.value ∙ c.requires.planned.log_name) (c.create_file.ensures.stops f))

-- ---- in each directory that differs in tables alone

pub returns-in_err-write_file-clause-files_each : goal.returns-in_err-write_file-clause-files_each
returns-in_err-write_file-clause-files_each g c =
    let order = order_of g.K.KeyOrder.name g.K.KeyOrder.cmp in
    let old = g.S.Store.facts c.args.store.now in
    let new = g.S.Store.facts c.write_file.new.store in
    let e = c.in_err-write_file.field-0.0 in
    let is : c.from_residual.result ≡ Err e = search rules in
    let N : List ℕ → Type 0 = λ name. Writes old new name c.args.rewrite.now.manifest.items (Err e) in
    let B : List ℕ → Type 0 = λ bytes. Writes old new c.as_str.result.now bytes (Err e) in
    let written = subst N (c.as_str.ensures.value ∙ c.requires.planned.manifest_name) (subst B c.deref.ensures.value c.in_err-write_file.ensures.files) in
    let laws : OpenLaws = record { free = c.free_change_law.ensures; reopen = c.reopen_law.ensures; log = c.begin_log_law.ensures; manifest = c.one_manifest.ensures; directory = c.one_directory.ensures; recovered = c.recovered_law.ensures } in
    subst (λ (r : Result _ DbError). RewritesEach order old new c.args.found.now (length c.args.rewrite.now.manifest.items) r) (sym is)
    (manifest_failed_each order laws old c.args.found.now c.requires.usable c.args.rewrite.now.manifest.items c.requires.planned.manifest new e written)

pub returns-in_err-make_current-clause-files_each : goal.returns-in_err-make_current-clause-files_each
returns-in_err-make_current-clause-files_each g c =
    let order = order_of g.K.KeyOrder.name g.K.KeyOrder.cmp in
    let old = g.S.Store.facts c.args.store.now in
    let mid = g.S.Store.facts c.write_file.new.store in
    let new = g.S.Store.facts c.make_current.new.store in
    let e = c.in_err-make_current.field-0.0 in
    let is : c.from_residual-in_err-make_current.result ≡ Err e = search rules in
    let done = Ok c.in_ok-write_file.field-0 in
    let N : List ℕ → Type 0 = λ name. Writes old mid name c.args.rewrite.now.manifest.items done in
    let B : List ℕ → Type 0 = λ bytes. Writes old mid c.as_str.result.now bytes done in
    let written = subst N (c.as_str.ensures.value ∙ c.requires.planned.manifest_name) (subst B c.deref.ensures.value c.in_ok-write_file.ensures.files) in
    let M : List ℕ → Type 0 = λ name. MakesCurrent mid new name c.args.rewrite.now.current.items (Err e) in
    let C : List ℕ → Type 0 = λ bytes. MakesCurrent mid new c.as_str-2.result.now bytes (Err e) in
    let made = subst M (c.as_str-2.ensures.value ∙ c.requires.planned.temporary_name) (subst C c.deref-2.ensures.value c.in_err-make_current.ensures.files) in
    let laws : OpenLaws = record { free = c.free_change_law.ensures; reopen = c.reopen_law.ensures; log = c.begin_log_law.ensures; manifest = c.one_manifest.ensures; directory = c.one_directory.ensures; recovered = c.recovered_law.ensures } in
    subst (λ (r : Result _ DbError). RewritesEach order old new c.args.found.now (length c.args.rewrite.now.manifest.items) r) (sym is)
    (current_failed_each order laws old c.args.found.now c.requires.usable c.args.rewrite.now.manifest.items c.requires.planned.manifest mid new c.args.rewrite.now.current.items e written c.requires.planned.current made)

pub returns-clause-files_each : goal.returns-clause-files_each
returns-clause-files_each g c =
    let order = order_of g.K.KeyOrder.name g.K.KeyOrder.cmp in
    let old = g.S.Store.facts c.args.store.now in
    let mid = g.S.Store.facts c.write_file.new.store in
    let most = g.S.Store.facts c.make_current.new.store in
    let new = g.S.Store.facts c.create_file.new.store in
    let done = Ok c.in_ok-write_file.field-0 in
    let set = Ok c.in_ok-make_current.field-0 in
    let N : List ℕ → Type 0 = λ name. Writes old mid name c.args.rewrite.now.manifest.items done in
    let B : List ℕ → Type 0 = λ bytes. Writes old mid c.as_str.result.now bytes done in
    let written = subst N (c.as_str.ensures.value ∙ c.requires.planned.manifest_name) (subst B c.deref.ensures.value c.in_ok-write_file.ensures.files) in
    let M : List ℕ → Type 0 = λ name. MakesCurrent mid most name c.args.rewrite.now.current.items set in
    let C : List ℕ → Type 0 = λ bytes. MakesCurrent mid most c.as_str-2.result.now bytes set in
    let made = subst M (c.as_str-2.ensures.value ∙ c.requires.planned.temporary_name) (subst C c.deref-2.ensures.value c.in_ok-make_current.ensures.files) in
    let L : List ℕ → Type 0 = λ name. Creates most new name c.create_file.result in
    let created = subst L (c.as_str-3.ensures.value ∙ c.requires.planned.log_name) (created most new c.as_str-3.result.now c.create_file.result c.create_file.ensures.call c.create_file.ensures.counted c.create_file.ensures.refused c.create_file.ensures.creates) in
    let laws : OpenLaws = record { free = c.free_change_law.ensures; reopen = c.reopen_law.ensures; log = c.begin_log_law.ensures; manifest = c.one_manifest.ensures; directory = c.one_directory.ensures; recovered = c.recovered_law.ensures } in
    log_created_each order laws old c.args.found.now c.requires.usable c.args.rewrite.now.manifest.items c.requires.planned.manifest mid most new c.args.rewrite.now.current.items c.create_file.result written c.requires.planned.current made created

pub returns-in_err-write_file-clause-stops_each : goal.returns-in_err-write_file-clause-stops_each
returns-in_err-write_file-clause-stops_each g c f =
    let old = g.S.Store.facts c.args.store.now in
    let new = g.S.Store.facts c.write_file.new.store in
    let laws : OpenLaws = record { free = c.free_change_law.ensures; reopen = c.reopen_law.ensures; log = c.begin_log_law.ensures; manifest = c.one_manifest.ensures; directory = c.one_directory.ensures; recovered = c.recovered_law.ensures } in
    manifest_stops_each (order_of g.K.KeyOrder.name g.K.KeyOrder.cmp) laws old c.args.found.now c.requires.usable c.args.rewrite.now.manifest.items c.requires.planned.manifest new
    (subst (OnlyIt old new) (c.as_str.ensures.value ∙ c.requires.planned.manifest_name) (c.in_err-write_file.ensures.stops f)).leaves

pub returns-in_err-make_current-clause-stops_each : goal.returns-in_err-make_current-clause-stops_each
returns-in_err-make_current-clause-stops_each g c f =
    let old = g.S.Store.facts c.args.store.now in
    let mid = g.S.Store.facts c.write_file.new.store in
    let new = g.S.Store.facts c.make_current.new.store in
    let m = c.in_err-make_current.ensures.files.call.faithful f in
    let done = Ok c.in_ok-write_file.field-0 in
    let N : List ℕ → Type 0 = λ name. Writes old mid name c.args.rewrite.now.manifest.items done in
    let B : List ℕ → Type 0 = λ bytes. Writes old mid c.as_str.result.now bytes done in
    let written = subst N (c.as_str.ensures.value ∙ c.requires.planned.manifest_name) (subst B c.deref.ensures.value c.in_ok-write_file.ensures.files) in
    let M : List ℕ → Type 0 = λ name. LeavesOnly mid new (MaySet mid.files name c.args.rewrite.now.current.items) in
    let C : List ℕ → Type 0 = λ bytes. LeavesOnly mid new (MaySet mid.files c.as_str-2.result.now bytes) in
    let laws : OpenLaws = record { free = c.free_change_law.ensures; reopen = c.reopen_law.ensures; log = c.begin_log_law.ensures; manifest = c.one_manifest.ensures; directory = c.one_directory.ensures; recovered = c.recovered_law.ensures } in
    current_stops_each (order_of g.K.KeyOrder.name g.K.KeyOrder.cmp) laws old c.args.found.now c.requires.usable c.args.rewrite.now.manifest.items c.requires.planned.manifest mid new c.args.rewrite.now.current.items written c.requires.planned.current m
    (subst (OnlyIt old mid) (c.as_str.ensures.value ∙ c.requires.planned.manifest_name) (c.in_ok-write_file.ensures.stops m)).leaves
    (subst M (c.as_str-2.ensures.value ∙ c.requires.planned.temporary_name) (subst C c.deref-2.ensures.value (c.in_err-make_current.ensures.stops f)))

pub returns-clause-stops_each : goal.returns-clause-stops_each
returns-clause-stops_each g c f =
    let old = g.S.Store.facts c.args.store.now in
    let mid = g.S.Store.facts c.write_file.new.store in
    let most = g.S.Store.facts c.make_current.new.store in
    let new = g.S.Store.facts c.create_file.new.store in
    let m = c.create_file.ensures.call.faithful f in
    let l = c.make_current.ensures.files.call.faithful m in
    let done = Ok c.in_ok-write_file.field-0 in
    let set = Ok c.in_ok-make_current.field-0 in
    let N : List ℕ → Type 0 = λ name. Writes old mid name c.args.rewrite.now.manifest.items done in
    let B : List ℕ → Type 0 = λ bytes. Writes old mid c.as_str.result.now bytes done in
    let written = subst N (c.as_str.ensures.value ∙ c.requires.planned.manifest_name) (subst B c.deref.ensures.value c.in_ok-write_file.ensures.files) in
    let M : List ℕ → Type 0 = λ name. MakesCurrent mid most name c.args.rewrite.now.current.items set in
    let C : List ℕ → Type 0 = λ bytes. MakesCurrent mid most c.as_str-2.result.now bytes set in
    let made = subst M (c.as_str-2.ensures.value ∙ c.requires.planned.temporary_name) (subst C c.deref-2.ensures.value c.in_ok-make_current.ensures.files) in
    let L : List ℕ → Type 0 = λ name. LeavesOnly most new (λ files. (files ≡ most.files) ⊎ (files ≡ insert most.files name [])) in
    let laws : OpenLaws = record { free = c.free_change_law.ensures; reopen = c.reopen_law.ensures; log = c.begin_log_law.ensures; manifest = c.one_manifest.ensures; directory = c.one_directory.ensures; recovered = c.recovered_law.ensures } in
    let V : List ℕ → Type 0 = λ name. LeavesOnly mid most (MaySet mid.files name c.args.rewrite.now.current.items) in
    let D : List ℕ → Type 0 = λ bytes. LeavesOnly mid most (MaySet mid.files c.as_str-2.result.now bytes) in
    let stopped = current_stops_each (order_of g.K.KeyOrder.name g.K.KeyOrder.cmp) laws old c.args.found.now c.requires.usable c.args.rewrite.now.manifest.items c.requires.planned.manifest mid most c.args.rewrite.now.current.items written c.requires.planned.current l
    (subst (OnlyIt old mid) (c.as_str.ensures.value ∙ c.requires.planned.manifest_name) (c.in_ok-write_file.ensures.stops l)).leaves
    (subst V (c.as_str-2.ensures.value ∙ c.requires.planned.temporary_name) (subst D c.deref-2.ensures.value (c.in_ok-make_current.ensures.stops m))) in
    log_stops_each (order_of g.K.KeyOrder.name g.K.KeyOrder.cmp) laws old c.args.found.now c.requires.usable c.args.rewrite.now.manifest.items c.requires.planned.manifest mid most new c.args.rewrite.now.current.items written c.requires.planned.current l
    (made.ok m) stopped (subst L (c.as_str-3.ensures.value ∙ c.requires.planned.log_name) (c.create_file.ensures.stops f))

-- ---- since the last sync

pub returns-clause-since : goal.returns-clause-since
returns-clause-since g c f h =
    let order = order_of g.K.KeyOrder.name g.K.KeyOrder.cmp in
    let old = g.S.Store.facts c.args.store.now in
    let mid = g.S.Store.facts c.write_file.new.store in
    let most = g.S.Store.facts c.make_current.new.store in
    let new = g.S.Store.facts c.create_file.new.store in
    let m = c.create_file.ensures.call.faithful f in
    let done = Ok c.in_ok-write_file.field-0 in
    let set = Ok c.in_ok-make_current.field-0 in
    let N : List ℕ → Type 0 = λ name. Writes old mid name c.args.rewrite.now.manifest.items done in
    let B : List ℕ → Type 0 = λ bytes. Writes old mid c.as_str.result.now bytes done in
    let written = subst N (c.as_str.ensures.value ∙ c.requires.planned.manifest_name) (subst B c.deref.ensures.value c.in_ok-write_file.ensures.files) in
    let M : List ℕ → Type 0 = λ name. MakesCurrent mid most name c.args.rewrite.now.current.items set in
    let C : List ℕ → Type 0 = λ bytes. MakesCurrent mid most c.as_str-2.result.now bytes set in
    let made = subst M (c.as_str-2.ensures.value ∙ c.requires.planned.temporary_name) (subst C c.deref-2.ensures.value c.in_ok-make_current.ensures.files) in
    let L : List ℕ → Type 0 = λ name. BeginsFile most new name c.create_file.result in
    let begins : BeginsFile most new c.as_str-3.result.now c.create_file.result = record { only = c.create_file.ensures.only; noted = c.create_file.ensures.noted; unsynced = c.create_file.ensures.unsynced } in
    let begun = subst L (c.as_str-3.ensures.value ∙ c.requires.planned.log_name) begins in
    subst (λ (name : List ℕ). OnOk c.create_file.result (BeginsSpared new name)) (sym c.requires.planned.log_name)
    (log_begun order c.args.found.now old mid most new c.args.rewrite.now.manifest.items c.args.rewrite.now.current.items c.create_file.result c.requires.usable h written made (c.in_ok-make_current.ensures.ends m) begun m f)

-- ---- what a power loss leaves

pub returns-in_err-write_file-clause-loses : goal.returns-in_err-write_file-clause-loses
returns-in_err-write_file-clause-loses g c f h stays =
    let order = order_of g.K.KeyOrder.name g.K.KeyOrder.cmp in
    let old = g.S.Store.facts c.args.store.now in
    let new = g.S.Store.facts c.write_file.new.store in
    let laws : OpenLaws = record { free = c.free_change_law.ensures; reopen = c.reopen_law.ensures; log = c.begin_log_law.ensures; manifest = c.one_manifest.ensures; directory = c.one_directory.ensures; recovered = c.recovered_law.ensures } in
    let only = subst (OnlyIt old new) (c.as_str.ensures.value ∙ c.requires.planned.manifest_name) (c.in_err-write_file.ensures.stops f) in
    manifest_loses order laws old c.args.found.now c.requires.usable c.args.rewrite.now.manifest.items c.requires.planned.manifest h new only stays

pub returns-in_err-make_current-clause-loses : goal.returns-in_err-make_current-clause-loses
returns-in_err-make_current-clause-loses g c f h stays =
    let order = order_of g.K.KeyOrder.name g.K.KeyOrder.cmp in
    let old = g.S.Store.facts c.args.store.now in
    let mid = g.S.Store.facts c.write_file.new.store in
    let new = g.S.Store.facts c.make_current.new.store in
    let m = c.in_err-make_current.ensures.files.call.faithful f in
    let done = Ok c.in_ok-write_file.field-0 in
    let wrote = c.in_ok-write_file.ensures in
    let P : List ℕ → List ℕ → Type 0 = λ name bytes. Writes old mid name bytes done × IsWritten old mid name bytes in
    let both = subst (λ name. P name c.args.rewrite.now.manifest.items) (c.as_str.ensures.value ∙ c.requires.planned.manifest_name) (subst (λ bytes. P c.as_str.result.now bytes) c.deref.ensures.value
    (wrote.files, record { only = wrote.stops m; there = wrote.files.ok m; kept = wrote.synced.ok m; ends = wrote.ends m })) in
    let M : List ℕ → List ℕ → Type 0 = λ name bytes. name ≢ name_of Current → ((q : List ℕ) → StaysNamed mid q) → LosesOnly mid new (MayBeSet mid name bytes) in
    let set = subst (λ name. M name c.args.rewrite.now.current.items) (c.as_str-2.ensures.value ∙ c.requires.planned.temporary_name) (subst (λ bytes. M c.as_str-2.result.now bytes) c.deref-2.ensures.value (c.in_err-make_current.ensures.loses f)) in
    let stopped = c.in_err-make_current.ensures.stops f in
    let laws : OpenLaws = record { free = c.free_change_law.ensures; reopen = c.reopen_law.ensures; log = c.begin_log_law.ensures; manifest = c.one_manifest.ensures; directory = c.one_directory.ensures; recovered = c.recovered_law.ensures } in
    current_loses order laws old c.args.found.now c.requires.usable c.args.rewrite.now.manifest.items c.requires.planned.manifest h mid c.args.rewrite.now.current.items both.0 c.requires.planned.current m both.1
    new stopped.more stopped.calls stays (set (temporary_apart c.args.found.now c.requires.usable) (λ q. stays_behind mid q both.1.ends))

pub returns-clause-loses : goal.returns-clause-loses
returns-clause-loses g c f h stays =
    let order = order_of g.K.KeyOrder.name g.K.KeyOrder.cmp in
    let old = g.S.Store.facts c.args.store.now in
    let mid = g.S.Store.facts c.write_file.new.store in
    let most = g.S.Store.facts c.make_current.new.store in
    let new = g.S.Store.facts c.create_file.new.store in
    let l = c.create_file.ensures.call.faithful f in
    let m = c.make_current.ensures.files.call.faithful l in
    let done = Ok c.in_ok-write_file.field-0 in
    let wrote = c.in_ok-write_file.ensures in
    let made = c.in_ok-make_current.ensures in
    let P : List ℕ → List ℕ → Type 0 = λ name bytes. Writes old mid name bytes done × IsWritten old mid name bytes in
    let both = subst (λ name. P name c.args.rewrite.now.manifest.items) (c.as_str.ensures.value ∙ c.requires.planned.manifest_name) (subst (λ bytes. P c.as_str.result.now bytes) c.deref.ensures.value
    (wrote.files, record { only = wrote.stops m; there = wrote.files.ok m; kept = wrote.synced.ok m; ends = wrote.ends m })) in
    let M : List ℕ → List ℕ → Type 0 = λ name bytes. (name ≢ name_of Current → ((q : List ℕ) → StaysNamed mid q) → LosesOnly mid most (MayBeSet mid name bytes)) × IsSet mid most name bytes in
    let set = subst (λ name. M name c.args.rewrite.now.current.items) (c.as_str-2.ensures.value ∙ c.requires.planned.temporary_name) (subst (λ bytes. M c.as_str-2.result.now bytes) c.deref-2.ensures.value
    (made.loses l, record { current = made.synced.ok l; others = λ q apart other. ((made.files.ok l).1 q apart other, made.synced.others l q apart other) })) in
    let L : List ℕ → Type 0 = λ name. OnlyIt most new name × (Idles most new ⊎ Adds most new (Creation name)) in
    let log = subst L (c.as_str-3.ensures.value ∙ c.requires.planned.log_name) (c.create_file.ensures.only f, c.create_file.ensures.noted f) in
    let stopped = made.stops l in
    let first = both.1.only.leaves in
    let laws : OpenLaws = record { free = c.free_change_law.ensures; reopen = c.reopen_law.ensures; log = c.begin_log_law.ensures; manifest = c.one_manifest.ensures; directory = c.one_directory.ensures; recovered = c.recovered_law.ensures } in
    let before = current_loses order laws old c.args.found.now c.requires.usable c.args.rewrite.now.manifest.items c.requires.planned.manifest h mid c.args.rewrite.now.current.items both.0 c.requires.planned.current m both.1
    most stopped.more stopped.calls stays (set.0 (temporary_apart c.args.found.now c.requires.usable) (λ q. stays_behind mid q both.1.ends)) in
    log_loses order laws old c.args.found.now c.requires.usable c.args.rewrite.now.manifest.items c.requires.planned.manifest h mid c.args.rewrite.now.current.items both.0 c.requires.planned.current m both.1
    most new (first.more ++ stopped.more) set.1 (made.ends l) log.0 log.1 (stopped.calls ∙ ap (λ (calls : List Call). calls ++ stopped.more) first.calls ∙ append_assoc old.calls first.more stopped.more) before

-- ---- call by call

pub returns-in_err-write_file-clause-renews : goal.returns-in_err-write_file-clause-renews
returns-in_err-write_file-clause-renews g c f =
    let old = g.S.Store.facts c.args.store.now in
    let new = g.S.Store.facts c.write_file.new.store in
    let N : List ℕ → Type 0 = λ name. contains_key old.files name ≡ false → StartsNew old new name in
    let starts = subst N c.as_str.ensures.value (c.in_err-write_file.ensures.starts f) in
    record { mid = new; only = subst (OnlyIt old new) c.as_str.ensures.value (c.in_err-write_file.ensures.stops f); starts = starts; goes = inl (refl, refl) }

pub returns-in_err-make_current-clause-renews : goal.returns-in_err-make_current-clause-renews
returns-in_err-make_current-clause-renews g c f =
    let old = g.S.Store.facts c.args.store.now in
    let mid = g.S.Store.facts c.write_file.new.store in
    let new = g.S.Store.facts c.make_current.new.store in
    let m = c.in_err-make_current.ensures.files.call.faithful f in
    let wrote = c.in_ok-write_file.ensures in
    let W : List ℕ → List ℕ → Type 0 = λ name bytes. IsWritten old mid name bytes in
    let written = subst (λ name. W name c.args.rewrite.now.manifest.items) c.as_str.ensures.value (subst (λ bytes. W c.as_str.result.now bytes) c.deref.ensures.value
    (record { only = wrote.stops m; there = wrote.files.ok m; kept = wrote.synced.ok m; ends = wrote.ends m })) in
    let N : List ℕ → Type 0 = λ name. contains_key old.files name ≡ false → StartsNew old mid name in
    let starts = subst N c.as_str.ensures.value (wrote.starts m) in
    let T : List ℕ → List ℕ → Type 0 = λ name bytes. name ≢ name_of Current → SetsThen mid new name bytes (λ last. last ≡ new) in
    let temporary = string_bytes c.args.rewrite.now.temporary_name in
    let sets = subst (λ name. T name c.args.rewrite.now.current.items) c.as_str-2.ensures.value (subst (λ bytes. T c.as_str-2.result.now bytes) c.deref-2.ensures.value (c.in_err-make_current.ensures.sets f)) in
    let apart : temporary ≢ name_of Current = λ e. temporary_apart c.args.found.now c.requires.usable (sym c.requires.planned.temporary_name ∙ e) in
    record { mid = mid; only = written.only; starts = starts; goes = inr (written, sets_last mid new temporary c.args.rewrite.now.current.items (string_bytes c.args.rewrite.now.log_name) (sets apart)) }

pub returns-clause-renews : goal.returns-clause-renews
returns-clause-renews g c f =
    let old = g.S.Store.facts c.args.store.now in
    let mid = g.S.Store.facts c.write_file.new.store in
    let most = g.S.Store.facts c.make_current.new.store in
    let new = g.S.Store.facts c.create_file.new.store in
    let l = c.create_file.ensures.call.faithful f in
    let m = c.make_current.ensures.files.call.faithful l in
    let wrote = c.in_ok-write_file.ensures in
    let W : List ℕ → List ℕ → Type 0 = λ name bytes. IsWritten old mid name bytes in
    let written = subst (λ name. W name c.args.rewrite.now.manifest.items) c.as_str.ensures.value (subst (λ bytes. W c.as_str.result.now bytes) c.deref.ensures.value
    (record { only = wrote.stops m; there = wrote.files.ok m; kept = wrote.synced.ok m; ends = wrote.ends m })) in
    let N : List ℕ → Type 0 = λ name. contains_key old.files name ≡ false → StartsNew old mid name in
    let starts = subst N c.as_str.ensures.value (wrote.starts m) in
    let T : List ℕ → List ℕ → Type 0 = λ name bytes. name ≢ name_of Current → SetsWhole mid most name bytes in
    let temporary = string_bytes c.args.rewrite.now.temporary_name in
    let sets = subst (λ name. T name c.args.rewrite.now.current.items) c.as_str-2.ensures.value (subst (λ bytes. T c.as_str-2.result.now bytes) c.deref-2.ensures.value (c.in_ok-make_current.ensures.whole l)) in
    let apart : temporary ≢ name_of Current = λ e. temporary_apart c.args.found.now c.requires.usable (sym c.requires.planned.temporary_name ∙ e) in
    let makes = subst (Makes most new) c.as_str-3.ensures.value (c.create_file.ensures.only f, c.create_file.ensures.noted f) in
    record { mid = mid; only = written.only; starts = starts; goes = inr (written, sets_makes mid most new temporary c.args.rewrite.now.current.items (string_bytes c.args.rewrite.now.log_name) (sets apart) makes) }

pub returns-clause-renewed : goal.returns-clause-renewed
returns-clause-renewed g c f finds =
    let order = order_of g.K.KeyOrder.name g.K.KeyOrder.cmp in
    let old = g.S.Store.facts c.args.store.now in
    let mid = g.S.Store.facts c.write_file.new.store in
    let most = g.S.Store.facts c.make_current.new.store in
    let new = g.S.Store.facts c.create_file.new.store in
    let found = c.args.found.now in
    let rewrite = c.args.rewrite.now in
    let planned = c.requires.planned in
    let l = c.create_file.ensures.call.faithful f in
    let m = c.make_current.ensures.files.call.faithful l in
    let wrote = c.in_ok-write_file.ensures in
    let made = c.in_ok-make_current.ensures in
    let done = Ok c.in_ok-write_file.field-0 in
    let set = Ok c.in_ok-make_current.field-0 in
    let W : List ℕ → List ℕ → Type 0 = λ name bytes. IsWritten old mid name bytes × Writes old mid name bytes done in
    let written = subst (λ name. W name rewrite.manifest.items) c.as_str.ensures.value (subst (λ bytes. W c.as_str.result.now bytes) c.deref.ensures.value
    (record { only = wrote.stops m; there = wrote.files.ok m; kept = wrote.synced.ok m; ends = wrote.ends m }, wrote.files)) in
    let T : List ℕ → List ℕ → Type 0 = λ name bytes. (name ≢ name_of Current → SetsWhole mid most name bytes) × MakesCurrent mid most name bytes set in
    let sets = subst (λ name. T name rewrite.current.items) c.as_str-2.ensures.value (subst (λ bytes. T c.as_str-2.result.now bytes) c.deref-2.ensures.value (made.whole l, made.files)) in
    let apart : string_bytes rewrite.temporary_name ≢ name_of Current = λ e. temporary_apart found c.requires.usable (sym planned.temporary_name ∙ e) in
    let L : List ℕ → Type 0 = λ name. Makes most new name × OnOk c.create_file.result (new.files ≡ insert most.files name []) in
    let makes = subst L c.as_str-3.ensures.value ((c.create_file.ensures.only f, c.create_file.ensures.noted f), c.create_file.ensures.creates.ok f) in
    let absent = still_no_log order old mid most found.number rewrite.manifest.items rewrite.current.items (numbered_of found c.requires.usable) (next_of found c.requires.usable) finds.number.0
    (subst (λ name. Writes old mid name rewrite.manifest.items done) planned.manifest_name written.1) (subst (λ name. MakesCurrent mid most name rewrite.current.items set) planned.temporary_name sets.1) l in
    renews_all old mid most new (string_bytes rewrite.manifest_name) rewrite.manifest.items (string_bytes rewrite.temporary_name) rewrite.current.items (string_bytes rewrite.log_name) c.create_file.result written.0 (sets.0 apart)
    (made_whole most new (string_bytes rewrite.log_name) c.create_file.result (ap (λ (name : List ℕ). contains_key most.files name) planned.log_name ∙ absent) makes.1 makes.0)
