-- Any open after other calls of the same store, whether it fails or not, whatever they were. What a
-- power loss leaves in its middle is what it left before it.
use Rattle.std.specs.Prelude.{◌≡◌, ◌⊎◌, ◌<◌, ◌≤◌, ◌++◌, ◌∷◌, [], ℕ, List, false, IsSome, IsTrue, Option, Some, None}
use Rattle.std.specs.FinMap.{get}
use Rattle.edits.specs.Names.{IsNumbered, name_of}
use Rattle.edits.specs.declared.names.FileName.TheVariants.{Current, Log, Manifest, OldTable, Table}
use Rattle.ikey.specs.Orders.{Order}
use Rattle.machine.specs.Machine.{Machine}
use Rattle.machine.specs.declared.command.Answer.{Answer}
use Rattle.machine.specs.declared.command.Answer.TheVariants.{Done}
use Rattle.machine.specs.declared.command.Op.{Op}
use Rattle.machine.specs.declared.command.Op.TheVariants.{Open}
use Rattle.opening.specs.Losses.{IsKept, IsLogRead}
use Rattle.opening.specs.declared.directory.DirectoryState.{DirectoryState}
use Rattle.store.specs.Files.{Facts, Files, lock_name}
use Rattle.store.specs.Losses.{LosesOnly}
use Rattle.engine.specs.Losses.{HoldsFirst, SparesBelow}
use Rattle.engine.specs.OpenDb.{OpenDb}
use Rattle.engine.specs.Stands.{Stands, StandsOver, ids_of, open_in, seen_in, store_of}
use Rattle.engine.specs.StandsDb.{StandsDb, db_store_of, open_by}
use Rattle.engine.specs.declared.db.Db.{Db}
use Rattle.engine.specs.declared.ids.Ids.{Ids}
use Rattle.engine.specs.declared.session.Session.{Session}
use Rattle.engine.specs.internal.Standing.{StandsClosed}
use Rattle.table_access.specs.Tables.{Seen}

-- ---- files that were there before

-- The file of this name is as it was, and kept if it was, or gone.
abbrev pub StaysOrGoes : Facts → Facts → List ℕ → Type 0
StaysOrGoes old new name = (get new.files name ≡ None) ⊎ ((get new.files name ≡ get old.files name) × (IsKept old name → IsKept new name))

-- The same for each with a number below this one.
abbrev pub StayBelow : Facts → Facts → ℕ → Type 0
StayBelow old new bound = (n : ℕ) → IsNumbered n → n < bound
    → StaysOrGoes old new (name_of (Table n)) × StaysOrGoes old new (name_of (OldTable n)) × StaysOrGoes old new (name_of (Log n))

-- `CURRENT` names the MANIFEST of this number.
abbrev pub NamesManifest : Facts → ℕ → Type 0
NamesManifest facts number = IsNumbered number × (get facts.files (name_of Current) ≡ Some (name_of (Manifest number) ++ 10 ∷ []))

-- The same for each since then; and `CURRENT` names no MANIFEST below that number.
pub record StaysFound (since now : Facts) (bound : ℕ) : Type 0 where
  pub from : (bound ≡ 0) ⊎ ((number : ℕ) × NamesManifest now number × (bound ≤ number))
  pub each : StayBelow since now bound

-- In a call of an open database the same holds for each that was there before its open; and
-- `CURRENT` and the lock's file are as they were.
pub record KeepsFound {K : Type 0} {g : _} (old new : Facts) (db : OpenDb K g) : Type 0 where
  pub current : get new.files (name_of Current) ≡ get old.files (name_of Current)
  pub lock : get new.files lock_name ≡ get old.files lock_name
  pub each : StayBelow old new db.directory.manifest.number

-- That holds from each state without damage of a database that isn't broken.
abbrev pub DbKeepsFound : {S K : Type 0} {g : _} → Order → (S → Facts) → Db S K g → Db S K g → Type 0
DbKeepsFound order facts old new = IsTrue (facts (db_store_of new)).faithful → (m : Machine) → m.damaged ≡ false → StandsDb order facts old m → (open_by old).broken ≡ false
    → KeepsFound (facts (db_store_of old)) (facts (db_store_of new)) (open_by old)

-- `CURRENT` names its MANIFEST.
abbrev pub DbNamesManifest : {S K : Type 0} {g : _} → Order → (S → Facts) → Db S K g → Type 0
DbNamesManifest order facts db = (m : Machine) → m.damaged ≡ false → StandsDb order facts db m → (open_by db).broken ≡ false → NamesManifest (facts (db_store_of db)) (open_by db).directory.manifest.number

-- The logs that were there before its open and that the next one reads are synced whole.
abbrev pub HasKeptLogs : Facts → DirectoryState → Type 0
HasKeptLogs facts state = (n : ℕ) → IsNumbered n → n < state.manifest.number → IsLogRead state n → IsKept facts (name_of (Log n))

-- No compaction is under way, and no iterator is open.
abbrev pub IsFresh : {K : Type 0} {g : _} → OpenDb K g → Type 0
IsFresh db = (db.job ≡ None) × (db.iterators.entries ≡ [])

-- ---- an open

-- A loss leaves a prefix of the batches of a machine, if it spares the files with numbers below
-- this one that were there then.
abbrev pub LeavesFirst : Order → Facts → ℕ → Machine → Files → Type 0
LeavesFirst order since bound m lost = SparesBelow since bound lost → HoldsFirst order lost m

-- If each loss until then does, each does at any moment since, and until the next call.
abbrev pub LosesOn : Order → Facts → Facts → Type 0
LosesOn order old new = (since : Facts) (bound : ℕ) (m : Machine) → StaysFound since old bound → LosesOnly old old (LeavesFirst order since bound m)
    → LosesOnly old new (LeavesFirst order since bound m) × StaysFound since new bound

-- The same holds in the middle of each open of a store that has the lock's file, as it has after
-- each that succeeded.
abbrev pub OpenLosesOn : Order → Facts → Facts → Ids → Type 0
OpenLosesOn order old new ids = IsTrue new.faithful → IsSome (get old.files lock_name) → (n : Machine) → n.damaged ≡ false → StandsClosed order old ids n → LosesOn order old new

-- ---- of a session

-- `CURRENT` names the MANIFEST of one that is open.
abbrev pub NamesOver : {K : Type 0} {g : _} → Order → Seen → Ids → Option (OpenDb K g) → Type 0
NamesOver order source ids None = Unit {0}
NamesOver order source ids (Some db) = (m : Machine) → m.damaged ≡ false → StandsOver order source ids (Some db) m → db.broken ≡ false → NamesManifest source.facts db.directory.manifest.number

abbrev pub SessionNamesManifest : {S K : Type 0} {g : _} → Order → (S → Facts) → Session S K g → Type 0
SessionNamesManifest order facts session = NamesOver order (seen_in facts session) (ids_of session) (open_in session)

-- What a command leaves of the files that a database found that is open and isn't broken.
abbrev pub FoundOver : {K : Type 0} {g : _} → Facts → Facts → Option (OpenDb K g) → Type 0
FoundOver old new None = Unit {0}
FoundOver old new (Some db) = db.broken ≡ false → KeepsFound old new db

abbrev pub SessionKeepsFound : {S K : Type 0} {g : _} → Order → (S → Facts) → Session S K g → Session S K g → Type 0
SessionKeepsFound order facts old new = IsTrue (facts (store_of new)).faithful → (m : Machine) → m.damaged ≡ false → Stands order facts old m → FoundOver (facts (store_of old)) (facts (store_of new)) (open_in old)

abbrev pub SessionLosesOn : {S K : Type 0} {g : _} → Order → (S → Facts) → Session S K g → Session S K g → Type 0
SessionLosesOn order facts old new = IsTrue (facts (store_of new)).faithful → IsSome (get (facts (store_of old)).files lock_name) → (m : Machine) → m.damaged ≡ false → Stands order facts old m
    → LosesOn order (facts (store_of old)) (facts (store_of new))

-- The logs that a successful open found are synced whole.
abbrev pub KeptOver : {K : Type 0} {g : _} → Facts → Option (OpenDb K g) → Answer → Type 0
KeptOver facts (Some db) Done = IsTrue facts.faithful → HasKeptLogs facts db.directory
KeptOver facts state answer = Unit {0}

abbrev pub SessionKeepsLogs : {S K : Type 0} {g : _} → (S → Facts) → Session S K g → Answer → Type 0
SessionKeepsLogs facts new answer = KeptOver (facts (store_of new)) (open_in new) answer

abbrev pub KeepsLogsBy : {S K : Type 0} {g : _} → Op → (S → Facts) → Session S K g → Answer → Type 0
KeepsLogsBy (Open mode) facts new answer = SessionKeepsLogs facts new answer
KeepsLogsBy _ facts new answer = Unit {0}

-- Nothing is under way after it.
abbrev pub FreshOver : {K : Type 0} {g : _} → Option (OpenDb K g) → Answer → Type 0
FreshOver (Some db) Done = IsFresh db
FreshOver state answer = Unit {0}

-- what is said of a command
abbrev pub LosesOnBy : {S K : Type 0} {g : _} → Op → Order → (S → Facts) → Session S K g → Session S K g → Type 0
LosesOnBy (Open mode) order facts old new = SessionLosesOn order facts old new
LosesOnBy _ order facts old new = Unit {0}
