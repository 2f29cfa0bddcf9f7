-- What putting a batch after the log does to the directory.
use Rattle.std.specs.Prelude.{◌≡◌, ◌⊎◌, ℕ, ◌+◌, ◌<◌, ◌≤◌, List, ◌++◌, ◌∷◌, [], length, IsTrue, Result, Err, IfOk, IfErr, OnOk}
use Rattle.std.specs.List.{AllByRecursion}
use Rattle.std.specs.FinMap.{get}
use Rattle.batch.specs.declared.operation.Operation.{Operation}
use Rattle.store.specs.Calls.{Adds, FailsAsWrite, Idles}
use Rattle.store.specs.Files.{Files, Facts, Appends, AppendsBeginning, Sync, with_synced}
use Rattle.store.specs.Losses.{PutsSynced}
use Rattle.edits.specs.Names.{name_of}
use Rattle.edits.specs.declared.field.Field.{Field}
use Rattle.edits.specs.declared.layout.Layout.{Layout}
use Rattle.edits.specs.declared.names.FileName.TheVariants.{Log, Table, OldTable}
use Rattle.ikey.specs.Orders.{Order}
use Rattle.ikey.specs.declared.entry.Entry.{Entry}
use Rattle.recover.specs.internal.Changes.{IsExtended, ManifestEndsAt}
use Rattle.recover.specs.Directory.{Directory, IsConsistent}
use Rattle.recover.specs.Entries.{entries_of}
use Rattle.recover.specs.Logs.{LogContent}
use Rattle.recover.specs.Numbers.{IsFree}
use Rattle.recover.specs.Tables.{TableContent}
use Rattle.engine.specs.declared.log.LogError.{LogError}
use Rattle.engine.specs.declared.log.LogError.TheVariants.{Memory, Device}
use Rattle.machine.specs.Machine.{Machine}
use Rattle.opening.specs.Durable.{IsSynced}
use Rattle.opening.specs.Losses.{IsNoneOf}
use Rattle.engine.specs.internal.Directory.{IsReadable}
use Rattle.opening.specs.internal.Directories.{IsDirectoryOf, CanAppend}

-- The bytes stand after the file; or, if the store fails, nothing of them or a beginning.
pub record AppendsRecord (old new : Facts) (name bytes : List ℕ) (result : Result (Unit {0}) LogError) : Type 0 where
  pub faithful : IsTrue new.faithful → IsTrue old.faithful
  pub failures : old.failures ≤ new.failures
  pub denials : new.denials ≡ old.denials
  pub ok : IsTrue new.faithful → OnOk result (Appends old.files new.files name bytes)
  pub device : IsTrue new.faithful → result ≡ Err Device → AppendsBeginning old.files new.files name bytes
  pub counted : result ≡ Err Device → old.failures < new.failures
  pub memory : IsTrue new.faithful → result ≡ Err Memory → new.files ≡ old.files

-- What is synced of the file of this name is as before, or it is synced whole.
abbrev pub LeavesOrSyncs : Facts → Facts → List ℕ → Type 0
LeavesOrSyncs old new name = (new.synced name ≡ old.synced name) ⊎ IsSynced new name

-- The files of these names are synced, and no other; no file changes.
pub record SyncsThese (names : List (List ℕ)) (old new : Facts) : Type 0 where
  pub faithful : IsTrue new.faithful → IsTrue old.faithful
  pub failures : old.failures ≤ new.failures
  pub writes : FailsAsWrite old new
  pub denials : new.denials ≡ old.denials
  pub locked : new.locked ≡ old.locked
  pub files : IsTrue new.faithful → new.files ≡ old.files
  pub others : IsTrue new.faithful → (q : List ℕ) → IsNoneOf q names → new.synced q ≡ old.synced q
  pub keeps : IsTrue new.faithful → (q : List ℕ) → LeavesOrSyncs old new q

-- Each of them is; or, if the store fails, some are.
pub record SyncsFront (names : List (List ℕ)) (old new : Facts) (result : Result (Unit {0}) LogError) : Type 0 where
  pub these : SyncsThese names old new
  pub kept : IsTrue new.faithful → OnOk result (AllByRecursion (IsSynced new) names)
  pub done : OnOk result (new.failures ≡ old.failures)
  pub refused : IfErr result (λ e. (e ≡ Device) × (old.failures < new.failures))

-- The files of all tables are as before, under both of their names.
abbrev pub KeepsTables : Files → Files → Type 0
KeepsTables old new = (number : ℕ)
    → (get new (name_of (Table number)) ≡ get old (name_of (Table number))) × (get new (name_of (OldTable number)) ≡ get old (name_of (OldTable number)))

-- The operations are put after the log of this name, which ends at `end`, as a batch after `used`
-- sequence numbers. Or, if the store fails, none of them or all of them are there for the next
-- open. Nothing else changes: no other part of the directory, nor where its MANIFEST ends, nor
-- which numbers are free.
pub record Logs (order : Order) (old new : Facts) (log : ℕ) (name : List ℕ) (end used : ℕ) (operations : List Operation) (result : Result ℕ LogError) : Type 0 where
  pub faithful : IsTrue new.faithful → IsTrue old.faithful
  pub failures : old.failures ≤ new.failures
  pub denials : new.denials ≡ old.denials
  pub readable : IsTrue new.faithful → (tables : List TableContent) (entries : List Entry) → name ≡ name_of (Log log) → CanAppend order old.files log end tables entries used
      → (m : Machine) → IsReadable order old.files m → IsReadable order new.files m
  pub ok : IsTrue new.faithful → IfOk result (λ after. (tables : List TableContent) (entries : List Entry) → name ≡ name_of (Log log) → (a : CanAppend order old.files log end tables entries used)
      → (b : CanAppend order new.files log after tables (entries ++ entries_of (used + 1) operations) (used + length operations)) × IsExtended a.directory b.directory (entries_of (used + 1) operations))
  -- the log has the operations as one batch more, whichever directory reads it so
  pub batch : IsTrue new.faithful → OnOk result ((tables : List TableContent) (entries : List Entry) → name ≡ name_of (Log log) → (a : CanAppend order old.files log end tables entries used)
      → (e : Directory) → IsConsistent order new.files e → (x : IsExtended a.directory e (entries_of (used + 1) operations)) → x.next.batches ≡ x.last.batches ++ (used + 1, operations) ∷ [])
  pub device : IsTrue new.faithful → result ≡ Err Device → (tables : List TableContent) (entries : List Entry) → name ≡ name_of (Log log) → CanAppend order old.files log end tables entries used
      → IsDirectoryOf order new.files tables entries used ⊎ IsDirectoryOf order new.files tables (entries ++ entries_of (used + 1) operations) (used + length operations)
  pub counted : result ≡ Err Device → old.failures < new.failures
  pub memory : IsTrue new.faithful → result ≡ Err Memory → new.files ≡ old.files
  pub tables : IsTrue new.faithful → name ≡ name_of (Log log) → KeepsTables old.files new.files
  pub manifest : IsTrue new.faithful → (tables : List TableContent) (entries : List Entry) → name ≡ name_of (Log log) → CanAppend order old.files log end tables entries used
      → (number position : ℕ) (edits : List (List Field)) (layout : Layout) → ManifestEndsAt order old.files number position edits layout → ManifestEndsAt order new.files number position edits layout
  pub free : IsTrue new.faithful → (tables : List TableContent) (entries : List Entry) → name ≡ name_of (Log log) → CanAppend order old.files log end tables entries used
      → (n : ℕ) → IsFree order old.files n → IsFree order new.files n

-- ---- call by call

-- These files were synced, one after the other; no file changed.
abbrev pub SyncsEach : List (List ℕ) → Facts → Facts → Type 0
SyncsEach [] old new = Idles old new
SyncsEach (name ∷ names) old new = (mid : Facts) × Adds old mid (Sync name) × (mid.synced ≡ with_synced old.synced name (get old.files name)) × SyncsEach names mid new

-- The same for these, and after them all something is put after a file; or the calls ended before
-- that.
pub record SyncsThenPuts (names : List (List ℕ)) (old new : Facts) (puts : Facts → Type 0) : Type 0 where
  pub done : List (List ℕ)
  pub mid : Facts
  pub synced : SyncsEach done old mid
  pub ends : Idles mid new ⊎ ((done ≡ names) × puts mid)

-- The last log of the directory, which has this number, has the operations there as one batch more,
-- or what it had. Nothing else changes.
pub record HasLastLog (order : Order) (files : Files) (d : Directory) (log used : ℕ) (operations : List Operation) : Type 0 where
  pub before : List LogContent
  pub last : LogContent
  pub next : LogContent
  pub old : d.logs ≡ before ++ last ∷ []
  pub number : (last.number ≡ log) × (next.number ≡ log)
  pub batches : (next.batches ≡ last.batches) ⊎ (next.batches ≡ last.batches ++ (used + 1, operations) ∷ [])
  pub consistent : IsConsistent order files (record d { logs = before ++ next ∷ [] })

-- The same holds wherever a beginning of these bytes stands after the log of this name, which ended
-- at `end`.
abbrev pub AddsBatch : Order → Files → ℕ → List ℕ → ℕ → ℕ → List Operation → List ℕ → Type 0
AddsBatch order old log name end used operations bytes = (files : Files) → AppendsBeginning old files name bytes → (tables : List TableContent) (entries : List Entry) → name ≡ name_of (Log log)
    → (a : CanAppend order old log end tables entries used) → HasLastLog order files a.directory log used operations

-- The bytes of a batch are put after a log, and synced.
pub record PutsBatch (old mid new : Facts) (log : ℕ) (name : List ℕ) (end used : ℕ) (operations : List Operation) : Type 0 where
  pub bytes : List ℕ
  pub puts : PutsSynced mid new name bytes
  pub adds : (order : Order) → AddsBatch order old.files log name end used operations bytes
