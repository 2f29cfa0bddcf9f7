use Rattle.std.proofs.Common.{◌≡◌, ℕ, true, List, String, IsTrue, map, subst, sym, string_bytes}
use Rattle.std.specs.FinMap.{contains_key}
use Rattle.std.specs.Prelude.{Contains}
use Rattle.std.specs.declared.alloc.Global.{Global}
use Rattle.coding.specs.declared.error.DbError.TheVariants.{OutOfMemory}
use Rattle.store.specs.Files.{Files, Lists}
use Rattle.store.specs.Stops.{LeavesOnly, WritesOnly}
use Rattle.store.proofs.Stopping.{others_behind, others_more, others_same}
use Rattle.edits.specs.Names.{IsNumbered}
use Rattle.edits.specs.declared.names.FileName.{FileName}
use Rattle.directory_writes.specs.internal.Removal.{AreBoth, AreOlder, AreToClose, HasOlderToo, HasTwo, KeepsTable, LeavesFew, LosesDeadOnly, RemovesNamed}
use Rattle.directory_writes.specs.Removal.{IsDead, IsLiveAmong, IsLiveFile}
use Rattle.directory_writes.proofs.Cleaning.{Knows, all_live, knows_both, lists_to_close, removes_all, removes_as, removes_refused, same_live, table_from, table_kept}
use Rattle.directory_writes.proofs.FewLeft.{Among, few_all, few_as}
use Rattle.directory_writes.proofs.Meaning.{keeps_meaning, meaning_stopped, meaning_unstopped}
use Rattle.directory_writes.proofs.RemovedEach.{meaning_each, removed_each, unremoved_each}
use Rattle.directory_writes.specs.declared.removal.Removal.{Removal}
use Rattle.directory_writes.proofs.removal.remove_files.Given.{Over}
use Rattle.directory_writes.proofs.removal.remove_files.Goals as goal

pub returns-in_err-names-clause-meaning : goal.returns-in_err-names-clause-meaning
returns-in_err-names-clause-meaning g c =
    let old = g.S.Store.facts c.args.store.now in
    let new = g.S.Store.facts c.list_names.new.store in
    let in_use = g.L.LiveTables.has c.args.live.now in
    keeps_meaning c.args.numbers.now in_use old new _
    (removes_refused old new (IsLiveAmong old.files c.args.numbers.now in_use) OutOfMemory c.in_err-names.ensures.store.same c.in_err-names.ensures.store.synced) c.free_change_law.ensures

pub returns-in_err-names-clause-tables : goal.returns-in_err-names-clause-tables
returns-in_err-names-clause-tables g c f n num =
    table_kept (g.L.LiveTables.has c.args.live.now) (g.S.Store.facts c.args.store.now) (g.S.Store.facts c.list_names.new.store) n (c.in_err-names.ensures.store.same f)

pub returns-in_err-older-clause-meaning : goal.returns-in_err-older-clause-meaning
returns-in_err-older-clause-meaning g c =
    let old = g.S.Store.facts c.args.store.now in
    let new = g.S.Store.facts c.list_names.new.store in
    let in_use = g.L.LiveTables.has c.args.live.now in
    keeps_meaning c.args.numbers.now in_use old new _
    (removes_refused old new (IsLiveAmong old.files c.args.numbers.now in_use) OutOfMemory c.in_ok-names.ensures.store.same c.in_ok-names.ensures.store.synced) c.free_change_law.ensures

pub returns-in_err-older-clause-tables : goal.returns-in_err-older-clause-tables
returns-in_err-older-clause-tables g c f n num =
    table_kept (g.L.LiveTables.has c.args.live.now) (g.S.Store.facts c.args.store.now) (g.S.Store.facts c.list_names.new.store) n (c.in_ok-names.ensures.store.same f)

pub returns-in_err-tables-clause-meaning : goal.returns-in_err-tables-clause-meaning
returns-in_err-tables-clause-meaning g c =
    let old = g.S.Store.facts c.args.store.now in
    let new = g.S.Store.facts c.list_names.new.store in
    let in_use = g.L.LiveTables.has c.args.live.now in
    keeps_meaning c.args.numbers.now in_use old new _
    (removes_refused old new (IsLiveAmong old.files c.args.numbers.now in_use) OutOfMemory c.in_ok-names.ensures.store.same c.in_ok-names.ensures.store.synced) c.free_change_law.ensures

pub returns-in_err-tables-clause-tables : goal.returns-in_err-tables-clause-tables
returns-in_err-tables-clause-tables g c f n num =
    table_kept (g.L.LiveTables.has c.args.live.now) (g.S.Store.facts c.args.store.now) (g.S.Store.facts c.list_names.new.store) n (c.in_ok-names.ensures.store.same f)

pub returns-in_err-both-clause-meaning : goal.returns-in_err-both-clause-meaning
returns-in_err-both-clause-meaning g c =
    let old = g.S.Store.facts c.args.store.now in
    let new = g.S.Store.facts c.list_names.new.store in
    let in_use = g.L.LiveTables.has c.args.live.now in
    keeps_meaning c.args.numbers.now in_use old new _
    (removes_refused old new (IsLiveAmong old.files c.args.numbers.now in_use) OutOfMemory c.in_ok-names.ensures.store.same c.in_ok-names.ensures.store.synced) c.free_change_law.ensures

pub returns-in_err-both-clause-tables : goal.returns-in_err-both-clause-tables
returns-in_err-both-clause-tables g c f n num =
    table_kept (g.L.LiveTables.has c.args.live.now) (g.S.Store.facts c.args.store.now) (g.S.Store.facts c.list_names.new.store) n (c.in_ok-names.ensures.store.same f)

-- the tables that have two files, by what was listed
knows : (g : Over) (c : goal.After-drop-names-2 g) → IsTrue (g.S.Store.facts c.list_names.new.store).faithful → Knows (g.S.Store.facts c.args.store.now).files c.in_ok-both.both.items
knows g c early =
    let names = c.in_ok-names.names.items in
    let older = c.in_ok-older.older.items in
    let both = c.in_ok-both.both.items in
    let O : List (String Global) → Type 0 = λ ns. AreOlder (map string_bytes ns) older in
    let N : List (String Global) → Type 0 = λ ns. AreBoth c.deref-3.result.now (map string_bytes ns) both in
    let B : List ℕ → Type 0 = λ os. AreBoth os (map string_bytes names) both in
    knows_both (g.S.Store.facts c.args.store.now).files (map string_bytes names) older both (c.in_ok-names.ensures.names early)
    (subst O c.deref.ensures.value c.in_ok-older.ensures) (subst B c.deref-3.ensures.value (subst N c.deref-2.ensures.value c.in_ok-both.ensures))

pub returns-clause-removes : goal.returns-clause-removes
returns-clause-removes g c =
    let in_use : ℕ → Type 0 = g.L.LiveTables.has c.args.live.now in
    let both = c.in_ok-both.both.items in
    let live : List ℕ → FileName → Type 0 = λ bs. IsLiveFile c.args.numbers.now in_use (λ n. Contains bs n) in
    let old = g.S.Store.facts c.args.store.now in
    let mid = g.S.Store.facts c.list_names.new.store in
    let new = g.S.Store.facts c.remove_listed-complete.new.store in
    let names = c.in_ok-names.names.items in
    let removal : Removal = record { complete = c.remove_listed-complete.result; tables = c.in_ok-tables.tables } in
    let N : List (String Global) → Type 0 = λ ns. RemovesNamed mid new (live c.deref-7.result.now) (map string_bytes ns) c.remove_listed-complete.result in
    let B : List ℕ → Type 0 = λ bs. RemovesNamed mid new (live bs) (map string_bytes names) c.remove_listed-complete.result in
    removes_as old new (live both) (IsLiveAmong old.files c.args.numbers.now in_use)
    (λ f. same_live c.args.numbers.now in_use old.files both (knows g c (c.remove_listed-complete.ensures.call.faithful f))) removal
    (removes_all (live both) old mid new (map string_bytes names) removal
    c.in_ok-names.ensures.names c.in_ok-names.ensures.store.same c.in_ok-names.ensures.store.synced c.in_ok-names.ensures.counted
    c.remove_listed-complete.ensures.call (subst B c.deref-7.ensures.value (subst N c.deref-6.ensures.value c.remove_listed-complete.ensures.removes)))

pub returns-clause-tidy : goal.returns-clause-tidy
returns-clause-tidy g c f =
    all_live c.args.numbers.now (g.L.LiveTables.has c.args.live.now) (g.S.Store.facts c.args.store.now) (g.S.Store.facts c.remove_listed-complete.new.store)
    (record { complete = c.remove_listed-complete.result; tables = c.in_ok-tables.tables }) (returns-clause-removes g c) f

pub returns-clause-close : goal.returns-clause-close
returns-clause-close g c =
    let in_use : ℕ → Type 0 = g.L.LiveTables.has c.args.live.now in
    let names = c.in_ok-names.names.items in
    let numbers = c.in_ok-tables.tables.items in
    let N : List (String Global) → Type 0 = λ ns. AreToClose in_use c.deref-5.result.now (map string_bytes ns) numbers in
    let B : List ℕ → Type 0 = λ bs. AreToClose in_use bs (map string_bytes names) numbers in
    lists_to_close in_use (g.S.Store.facts c.args.store.now) (g.S.Store.facts c.list_names.new.store) (g.S.Store.facts c.remove_listed-complete.new.store)
    (map string_bytes names) c.in_ok-both.both.items numbers c.remove_listed-complete.ensures.call c.in_ok-names.ensures.names (knows g c)
    (subst B c.deref-5.ensures.value (subst N c.deref-4.ensures.value c.in_ok-tables.ensures))

pub returns-clause-tables : goal.returns-clause-tables
returns-clause-tables g c f n num =
    let in_use : ℕ → Type 0 = g.L.LiveTables.has c.args.live.now in
    let old = g.S.Store.facts c.args.store.now in
    let mid = g.S.Store.facts c.list_names.new.store in
    let new = g.S.Store.facts c.remove_listed-complete.new.store in
    let names = c.in_ok-names.names.items in
    let both = c.in_ok-both.both.items in
    let early = c.remove_listed-complete.ensures.call.faithful f in
    let same = c.in_ok-names.ensures.store.same early in
    let N : List (String Global) → Type 0 = λ ns. Knows mid.files c.deref-7.result.now → Lists mid.files (map string_bytes ns) → IsTrue new.faithful → (n : ℕ) → IsNumbered n → KeepsTable mid new in_use n in
    let B : List ℕ → Type 0 = λ bs. Knows mid.files bs → Lists mid.files (map string_bytes names) → IsTrue new.faithful → (n : ℕ) → IsNumbered n → KeepsTable mid new in_use n in
    let K : Files → Type 0 = λ files. Knows files both in
    let L : Files → Type 0 = λ files. Lists files (map string_bytes names) in
    table_from in_use old mid new n same
    (subst B c.deref-7.ensures.value (subst N c.deref-6.ensures.value c.remove_listed-complete.ensures.tables) (subst K (sym same) (knows g c early)) (subst L (sym same) (c.in_ok-names.ensures.names early)) f n num)

pub returns-clause-meaning : goal.returns-clause-meaning
returns-clause-meaning g c =
    keeps_meaning c.args.numbers.now (g.L.LiveTables.has c.args.live.now) (g.S.Store.facts c.args.store.now) (g.S.Store.facts c.remove_listed-complete.new.store) _ (returns-clause-removes g c) c.free_change_law.ensures

pub returns-clause-few : goal.returns-clause-few
returns-clause-few g c =
    let in_use : ℕ → Type 0 = g.L.LiveTables.has c.args.live.now in
    let both = c.in_ok-both.both.items in
    let live : List ℕ → FileName → Type 0 = λ bs. IsLiveFile c.args.numbers.now in_use (λ n. Contains bs n) in
    let old = g.S.Store.facts c.args.store.now in
    let mid = g.S.Store.facts c.list_names.new.store in
    let new = g.S.Store.facts c.remove_listed-complete.new.store in
    let names = c.in_ok-names.names.items in
    let N : List (String Global) → Type 0 = λ ns. LeavesFew mid new (live c.deref-7.result.now) (HasTwo (λ n. Contains c.deref-7.result.now n)) (Among (map string_bytes ns)) in
    let B : List ℕ → Type 0 = λ bs. LeavesFew mid new (live bs) (HasTwo (λ n. Contains bs n)) (Among (map string_bytes names)) in
    few_as old new (live both) (IsLiveAmong old.files c.args.numbers.now in_use) (HasOlderToo old.files) (λ name. contains_key old.files name ≡ true)
    (λ f. same_live c.args.numbers.now in_use old.files both (knows g c (c.remove_listed-complete.ensures.call.faithful f)))
    (few_all (live both) old mid new (map string_bytes names) both c.in_ok-names.ensures.names c.in_ok-names.ensures.counted (knows g c) c.remove_listed-complete.ensures.call
    (subst B c.deref-7.ensures.value (subst N c.deref-6.ensures.value c.remove_listed-complete.ensures.few)))

pub returns-in_err-names-clause-stops : goal.returns-in_err-names-clause-stops
returns-in_err-names-clause-stops g c f =
    meaning_unstopped c.args.numbers.now (g.L.LiveTables.has c.args.live.now) (g.S.Store.facts c.args.store.now) (g.S.Store.facts c.list_names.new.store) (c.in_err-names.ensures.store.calls f) (c.in_err-names.ensures.store.same f)

pub returns-in_err-older-clause-stops : goal.returns-in_err-older-clause-stops
returns-in_err-older-clause-stops g c f =
    meaning_unstopped c.args.numbers.now (g.L.LiveTables.has c.args.live.now) (g.S.Store.facts c.args.store.now) (g.S.Store.facts c.list_names.new.store) (c.in_ok-names.ensures.store.calls f) (c.in_ok-names.ensures.store.same f)

pub returns-in_err-tables-clause-stops : goal.returns-in_err-tables-clause-stops
returns-in_err-tables-clause-stops g c f =
    meaning_unstopped c.args.numbers.now (g.L.LiveTables.has c.args.live.now) (g.S.Store.facts c.args.store.now) (g.S.Store.facts c.list_names.new.store) (c.in_ok-names.ensures.store.calls f) (c.in_ok-names.ensures.store.same f)

pub returns-in_err-both-clause-stops : goal.returns-in_err-both-clause-stops
returns-in_err-both-clause-stops g c f =
    meaning_unstopped c.args.numbers.now (g.L.LiveTables.has c.args.live.now) (g.S.Store.facts c.args.store.now) (g.S.Store.facts c.list_names.new.store) (c.in_ok-names.ensures.store.calls f) (c.in_ok-names.ensures.store.same f)

pub returns-clause-stops : goal.returns-clause-stops
returns-clause-stops g c f =
    let in_use : ℕ → Type 0 = g.L.LiveTables.has c.args.live.now in
    let both = c.in_ok-both.both.items in
    let live : List ℕ → FileName → Type 0 = λ bs. IsLiveFile c.args.numbers.now in_use (λ n. Contains bs n) in
    let old = g.S.Store.facts c.args.store.now in
    let mid = g.S.Store.facts c.list_names.new.store in
    let new = g.S.Store.facts c.remove_listed-complete.new.store in
    let early = c.remove_listed-complete.ensures.call.faithful f in
    let B : List ℕ → Type 0 = λ bs. LeavesOnly mid new (LosesDeadOnly mid.files (live bs)) in
    meaning_stopped c.args.numbers.now in_use old mid (c.in_ok-names.ensures.store.calls early) (c.in_ok-names.ensures.store.same early) c.free_change_law.ensures (live both)
    (λ file is. (same_live c.args.numbers.now in_use old.files both (knows g c early) file is).1) new (subst B c.deref-7.ensures.value (c.remove_listed-complete.ensures.stops f))

-- ---- in each directory that differs in tables alone

pub returns-in_err-names-clause-meaning_each : goal.returns-in_err-names-clause-meaning_each
returns-in_err-names-clause-meaning_each g c =
    let old = g.S.Store.facts c.args.store.now in
    let new = g.S.Store.facts c.list_names.new.store in
    let in_use = g.L.LiveTables.has c.args.live.now in
    meaning_each c.args.numbers.now in_use old new _
    (removes_refused old new (IsLiveAmong old.files c.args.numbers.now in_use) OutOfMemory c.in_err-names.ensures.store.same c.in_err-names.ensures.store.synced) c.free_change_law.ensures

pub returns-in_err-names-clause-stops_each : goal.returns-in_err-names-clause-stops_each
returns-in_err-names-clause-stops_each g c f =
    unremoved_each c.args.numbers.now (g.L.LiveTables.has c.args.live.now) (g.S.Store.facts c.args.store.now) (g.S.Store.facts c.list_names.new.store) (c.in_err-names.ensures.store.calls f) (c.in_err-names.ensures.store.same f)

pub returns-in_err-older-clause-meaning_each : goal.returns-in_err-older-clause-meaning_each
returns-in_err-older-clause-meaning_each g c =
    let old = g.S.Store.facts c.args.store.now in
    let new = g.S.Store.facts c.list_names.new.store in
    let in_use = g.L.LiveTables.has c.args.live.now in
    meaning_each c.args.numbers.now in_use old new _
    (removes_refused old new (IsLiveAmong old.files c.args.numbers.now in_use) OutOfMemory c.in_ok-names.ensures.store.same c.in_ok-names.ensures.store.synced) c.free_change_law.ensures

pub returns-in_err-older-clause-stops_each : goal.returns-in_err-older-clause-stops_each
returns-in_err-older-clause-stops_each g c f =
    unremoved_each c.args.numbers.now (g.L.LiveTables.has c.args.live.now) (g.S.Store.facts c.args.store.now) (g.S.Store.facts c.list_names.new.store) (c.in_ok-names.ensures.store.calls f) (c.in_ok-names.ensures.store.same f)

pub returns-in_err-tables-clause-meaning_each : goal.returns-in_err-tables-clause-meaning_each
returns-in_err-tables-clause-meaning_each g c =
    let old = g.S.Store.facts c.args.store.now in
    let new = g.S.Store.facts c.list_names.new.store in
    let in_use = g.L.LiveTables.has c.args.live.now in
    meaning_each c.args.numbers.now in_use old new _
    (removes_refused old new (IsLiveAmong old.files c.args.numbers.now in_use) OutOfMemory c.in_ok-names.ensures.store.same c.in_ok-names.ensures.store.synced) c.free_change_law.ensures

pub returns-in_err-tables-clause-stops_each : goal.returns-in_err-tables-clause-stops_each
returns-in_err-tables-clause-stops_each g c f =
    unremoved_each c.args.numbers.now (g.L.LiveTables.has c.args.live.now) (g.S.Store.facts c.args.store.now) (g.S.Store.facts c.list_names.new.store) (c.in_ok-names.ensures.store.calls f) (c.in_ok-names.ensures.store.same f)

pub returns-in_err-both-clause-meaning_each : goal.returns-in_err-both-clause-meaning_each
returns-in_err-both-clause-meaning_each g c =
    let old = g.S.Store.facts c.args.store.now in
    let new = g.S.Store.facts c.list_names.new.store in
    let in_use = g.L.LiveTables.has c.args.live.now in
    meaning_each c.args.numbers.now in_use old new _
    (removes_refused old new (IsLiveAmong old.files c.args.numbers.now in_use) OutOfMemory c.in_ok-names.ensures.store.same c.in_ok-names.ensures.store.synced) c.free_change_law.ensures

pub returns-in_err-both-clause-stops_each : goal.returns-in_err-both-clause-stops_each
returns-in_err-both-clause-stops_each g c f =
    unremoved_each c.args.numbers.now (g.L.LiveTables.has c.args.live.now) (g.S.Store.facts c.args.store.now) (g.S.Store.facts c.list_names.new.store) (c.in_ok-names.ensures.store.calls f) (c.in_ok-names.ensures.store.same f)

pub returns-clause-meaning_each : goal.returns-clause-meaning_each
returns-clause-meaning_each g c =
    meaning_each c.args.numbers.now (g.L.LiveTables.has c.args.live.now) (g.S.Store.facts c.args.store.now) (g.S.Store.facts c.remove_listed-complete.new.store) _ (returns-clause-removes g c) c.free_change_law.ensures

pub returns-clause-stops_each : goal.returns-clause-stops_each
returns-clause-stops_each g c f =
    let in_use : ℕ → Type 0 = g.L.LiveTables.has c.args.live.now in
    let both = c.in_ok-both.both.items in
    let live : List ℕ → FileName → Type 0 = λ bs. IsLiveFile c.args.numbers.now in_use (λ n. Contains bs n) in
    let old = g.S.Store.facts c.args.store.now in
    let mid = g.S.Store.facts c.list_names.new.store in
    let new = g.S.Store.facts c.remove_listed-complete.new.store in
    let early = c.remove_listed-complete.ensures.call.faithful f in
    let B : List ℕ → Type 0 = λ bs. LeavesOnly mid new (LosesDeadOnly mid.files (live bs)) in
    removed_each c.args.numbers.now in_use old mid (c.in_ok-names.ensures.store.calls early) (c.in_ok-names.ensures.store.same early) c.free_change_law.ensures (live both)
    (λ file is. (same_live c.args.numbers.now in_use old.files both (knows g c early) file is).1) new (subst B c.deref-7.ensures.value (c.remove_listed-complete.ensures.stops f))

-- ---- which files it removes

pub returns-in_err-names-clause-only : goal.returns-in_err-names-clause-only
returns-in_err-names-clause-only g c f =
    others_same (g.S.Store.facts c.args.store.now) (g.S.Store.facts c.list_names.new.store) (IsDead (IsLiveAmong (g.S.Store.facts c.args.store.now).files c.args.numbers.now (g.L.LiveTables.has c.args.live.now)))
    (c.in_err-names.ensures.store.calls f) (c.in_err-names.ensures.store.same f) (c.in_err-names.ensures.store.synced f)

pub returns-in_err-older-clause-only : goal.returns-in_err-older-clause-only
returns-in_err-older-clause-only g c f =
    others_same (g.S.Store.facts c.args.store.now) (g.S.Store.facts c.list_names.new.store) (IsDead (IsLiveAmong (g.S.Store.facts c.args.store.now).files c.args.numbers.now (g.L.LiveTables.has c.args.live.now)))
    (c.in_ok-names.ensures.store.calls f) (c.in_ok-names.ensures.store.same f) (c.in_ok-names.ensures.store.synced f)

pub returns-in_err-tables-clause-only : goal.returns-in_err-tables-clause-only
returns-in_err-tables-clause-only g c f =
    others_same (g.S.Store.facts c.args.store.now) (g.S.Store.facts c.list_names.new.store) (IsDead (IsLiveAmong (g.S.Store.facts c.args.store.now).files c.args.numbers.now (g.L.LiveTables.has c.args.live.now)))
    (c.in_ok-names.ensures.store.calls f) (c.in_ok-names.ensures.store.same f) (c.in_ok-names.ensures.store.synced f)

pub returns-in_err-both-clause-only : goal.returns-in_err-both-clause-only
returns-in_err-both-clause-only g c f =
    others_same (g.S.Store.facts c.args.store.now) (g.S.Store.facts c.list_names.new.store) (IsDead (IsLiveAmong (g.S.Store.facts c.args.store.now).files c.args.numbers.now (g.L.LiveTables.has c.args.live.now)))
    (c.in_ok-names.ensures.store.calls f) (c.in_ok-names.ensures.store.same f) (c.in_ok-names.ensures.store.synced f)

pub returns-clause-only : goal.returns-clause-only
returns-clause-only g c f =
    let in_use : ℕ → Type 0 = g.L.LiveTables.has c.args.live.now in
    let both = c.in_ok-both.both.items in
    let live : List ℕ → FileName → Type 0 = λ bs. IsLiveFile c.args.numbers.now in_use (λ n. Contains bs n) in
    let old = g.S.Store.facts c.args.store.now in
    let mid = g.S.Store.facts c.list_names.new.store in
    let new = g.S.Store.facts c.remove_listed-complete.new.store in
    let early = c.remove_listed-complete.ensures.call.faithful f in
    let B : List ℕ → Type 0 = λ bs. WritesOnly mid new (IsDead (live bs)) in
    let dead = IsDead (IsLiveAmong old.files c.args.numbers.now in_use) in
    others_behind old mid new dead (c.in_ok-names.ensures.store.calls early) (c.in_ok-names.ensures.store.same early) (c.in_ok-names.ensures.store.synced early)
    (others_more mid new (IsDead (live both)) dead
    (λ q is. (is.0, is.1, is.2, λ alive. is.3 ((same_live c.args.numbers.now in_use old.files both (knows g c early) is.0 is.1).1 alive)))
    (subst B c.deref-7.ensures.value (c.remove_listed-complete.ensures.only f)))
