-- What a power loss leaves of an open database.
use Rattle.std.specs.Prelude.{◌≡◌, ◌<◌, ◌≤◌, ℕ, length, take, false, IsTrue, Contains, List, [], map, string_bytes, Option, Some, None, Result, OnOk}
use Rattle.std.specs.FinMap.{get}
use Rattle.batch.specs.declared.operation.Operation.{Operation}
use Rattle.coding.specs.declared.error.DbError.{DbError}
use Rattle.edits.specs.Names.{IsNumbered, name_of}
use Rattle.edits.specs.declared.names.FileName.TheVariants.{Log, OldTable, Table}
use Rattle.ikey.specs.Orders.{Order}
use Rattle.machine.specs.Access.{accepted}
use Rattle.machine.specs.Machine.{Machine}
use Rattle.machine.specs.declared.command.Answer.{Answer}
use Rattle.machine.specs.declared.command.Op.{Op}
use Rattle.machine.specs.declared.command.Op.TheVariants.{Open, Write}
use Rattle.opening.specs.Durable.{IsSynced}
use Rattle.opening.specs.Losses.{AreCut, EndsInSync, IsLeftWhole, LeavesUncut}
use Rattle.recover.specs.Directory.{Directory, IsConsistent}
use Rattle.recover.specs.Logs.{LogContent}
use Rattle.recover.specs.Tables.{table_at}
use Rattle.store.specs.Files.{Facts, Files}
use Rattle.store.specs.Losses.{LosesOnly, Lost, StaysNamed}
use Rattle.store.specs.Stops.{moment}
use Rattle.table_access.specs.Tables.{Seen}
use Rattle.engine.specs.Headline.{Holds, HoldsAccepted}
use Rattle.engine.specs.OpenDb.{OpenDb}
use Rattle.engine.specs.Stands.{Stands, StandsOver, ids_of, open_in, seen_in, store_of}
use Rattle.engine.specs.StandsDb.{StandsDb, db_store_of, open_by}
use Rattle.engine.specs.Touching.{AsksSync, unit_result}
use Rattle.engine.specs.declared.db.Db.{Db}
use Rattle.engine.specs.declared.ids.Ids.{Ids}
use Rattle.engine.specs.internal.Standing.{StandsClosed}
use Rattle.engine.specs.declared.session.Session.{Session}

-- The last call synced the log that writes go to, no earlier log may be unsynced, and the database
-- goes on serving.
pub record HasSyncedLog {K : Type 0} {g : _} (facts : Facts) (db : OpenDb K g) : Type 0 where
  pub last : IsSynced facts (string_bytes db.log.name)
  pub front : db.log.front.items ≡ []
  pub ends : EndsInSync facts
  pub whole : db.broken ≡ false

-- The same holds after a write that asks for it, if it succeeds.
abbrev pub SyncsLogs : {K T : Type 0} {g : _} → Type 0 → Facts → OpenDb K g → Result T DbError → Type 0
SyncsLogs asked new after result = IsTrue new.faithful → asked → OnOk result (HasSyncedLog new after)

-- ---- what a loss leaves

-- The tables that were there before the open, whose numbers are below that of its MANIFEST, read as
-- they do. (Who wrote them synced them.)
abbrev pub LeavesFound : {K : Type 0} {g : _} → Files → Files → OpenDb K g → Type 0
LeavesFound files lost db = (n : ℕ) → IsNumbered n → n < db.directory.manifest.number → table_at lost n ≡ table_at files n

-- Every power loss until the next call leaves files that hold what the machine accepted, if it
-- leaves those tables.
abbrev pub Outlasts : {K : Type 0} {g : _} → Order → Facts → OpenDb K g → Machine → Type 0
Outlasts order facts db m = (lost : Files) → Lost facts (moment facts) lost → LeavesFound facts.files lost db → Holds order lost m

-- The same holds after a write that asks for it, if it succeeds: of whatever the database stands
-- for then.
abbrev pub DbOutlasts : {S K T : Type 0} {g : _} → Type 0 → Order → (S → Facts) → Db S K g → Result T DbError → Type 0
DbOutlasts asked order facts new result =
    IsTrue (facts (db_store_of new)).faithful → asked → OnOk result ((m : Machine) → m.damaged ≡ false → StandsDb order facts new m → Outlasts order (facts (db_store_of new)) (open_by new) m)

-- ---- of a session

-- The same holds of one whose write was answered so.
abbrev pub OutlastsOver : {K : Type 0} {g : _} → Type 0 → Order → Seen → Ids → Option (OpenDb K g) → Answer → Type 0
OutlastsOver asked order source ids None answer = Unit {0}
OutlastsOver asked order source ids (Some db) answer =
    IsTrue source.facts.faithful → asked → OnOk (unit_result answer) ((m : Machine) → m.damaged ≡ false → StandsOver order source ids (Some db) m → Outlasts order source.facts db m)

abbrev pub SessionOutlasts : {S K : Type 0} {g : _} → Type 0 → Order → (S → Facts) → Session S K g → Answer → Type 0
SessionOutlasts asked order facts new answer = OutlastsOver asked order (seen_in facts new) (ids_of new) (open_in new) answer

-- what is said of a command
abbrev pub OutlastsBy : {S K : Type 0} {g : _} → Op → Order → (S → Facts) → Session S K g → Answer → Type 0
OutlastsBy (Write operations sync) order facts new answer = SessionOutlasts (AsksSync operations.items sync) order facts new answer
OutlastsBy _ order facts new answer = Unit {0}

-- ---- between any two calls

-- All is left of the directory that the files are, except batches at the ends of logs, none of
-- which was synced.
pub record LeavesCut (order : Order) (facts : Facts) (lost : Files) : Type 0 where
  pub directory : Directory
  pub whole : IsConsistent order facts.files directory
  pub logs : List LogContent
  pub cut : AreCut facts directory.logs logs
  pub left : IsConsistent order lost (record directory { logs = logs })

-- The logs that were there before the open and aren't known to be durable whole are left as they
-- are. (An open that succeeds syncs them all: HasKeptLogs.)
abbrev pub LeavesFoundLogs : {K : Type 0} {g : _} → Files → Files → OpenDb K g → Type 0
LeavesFoundLogs files lost db = (n : ℕ) → IsNumbered n → n < db.directory.manifest.number → Contains (map string_bytes db.log.front.items) (name_of (Log n))
    → get lost (name_of (Log n)) ≡ get files (name_of (Log n))

-- The files hold a prefix of the batches that the machine accepted, no fewer than the last write
-- with sync synced, and no others: none is gone before one that is there. (A MANIFEST may have
-- recorded that later sequence numbers were used.)
pub record HoldsFirst (order : Order) (files : Files) (m : Machine) : Type 0 where
  pub count : ℕ
  pub within : count ≤ length m.batches
  pub enough : m.synced ≤ count
  pub used : ℕ
  pub holds : Holds order files (record m { batches = take count m.batches; used = used })

-- Every power loss until the next call leaves that much of an open database that isn't broken,
-- whatever the last call was and answered, if it leaves what the open found.
abbrev pub LosesEnds : {K : Type 0} {g : _} → Order → Facts → OpenDb K g → Machine → Type 0
LosesEnds order facts db m = db.broken ≡ false → (lost : Files) → Lost facts (moment facts) lost → LeavesFound facts.files lost db
    → LeavesCut order facts lost × (LeavesFoundLogs facts.files lost db → HoldsFirst order lost m)

abbrev pub DbLosesEnds : {S K : Type 0} {g : _} → Order → (S → Facts) → Db S K g → Type 0
DbLosesEnds order facts db = (m : Machine) → m.damaged ≡ false → StandsDb order facts db m → LosesEnds order (facts (db_store_of db)) (open_by db) m

-- The same holds of one that is open in a session.
abbrev pub LosesEndsOver : {K : Type 0} {g : _} → Order → Seen → Ids → Option (OpenDb K g) → Type 0
LosesEndsOver order source ids None = Unit {0}
LosesEndsOver order source ids (Some db) = (m : Machine) → m.damaged ≡ false → StandsOver order source ids (Some db) m → LosesEnds order source.facts db m

abbrev pub SessionLosesEnds : {S K : Type 0} {g : _} → Order → (S → Facts) → Session S K g → Type 0
SessionLosesEnds order facts session = LosesEndsOver order (seen_in facts session) (ids_of session) (open_in session)

-- ---- in the middle of a call

-- Of files with numbers below this one each is synced whole, or the loss has left it whole, or
-- removed it. (It removes no name that stays.)
abbrev pub SparesBelow : Facts → ℕ → Files → Type 0
SparesBelow facts bound lost = (n : ℕ) → IsNumbered n → n < bound
    → IsLeftWhole facts lost (name_of (Table n)) × IsLeftWhole facts lost (name_of (OldTable n)) × IsLeftWhole facts lost (name_of (Log n))

-- The same for those that were there before the open, whose numbers are below that of its MANIFEST.
abbrev pub SparesFound : {K : Type 0} {g : _} → Facts → OpenDb K g → Files → Type 0
SparesFound facts db lost = SparesBelow facts db.directory.manifest.number lost

-- A power loss at any moment since old leaves a prefix of the batches, if it spares these.
abbrev pub LosesFirst : {K : Type 0} {g : _} → Order → Facts → Facts → OpenDb K g → Machine → Type 0
LosesFirst order old new db m = LosesOnly old new (λ lost. SparesFound old db lost → HoldsFirst order lost m)

-- While the store is faithful, that holds from each state without damage of a database that isn't
-- broken.
abbrev pub DbLosesTo : {S K : Type 0} {g : _} → Order → (S → Facts) → Db S K g → Facts → Type 0
DbLosesTo order facts old new = IsTrue new.faithful → (m : Machine) → m.damaged ≡ false → StandsDb order facts old m → (open_by old).broken ≡ false
    → LosesFirst order (facts (db_store_of old)) new (open_by old) m

abbrev pub DbLoses : {S K : Type 0} {g : _} → Order → (S → Facts) → Db S K g → Db S K g → Type 0
DbLoses order facts old new = DbLosesTo order facts old (facts (db_store_of new))

-- In the middle of a write its batch is the last of them.
abbrev pub DbLosesWrite : {S K : Type 0} {g : _} → Order → (S → Facts) → List Operation → Db S K g → Db S K g → Type 0
DbLosesWrite order facts operations old new = IsTrue (facts (db_store_of new)).faithful → (m : Machine) → m.damaged ≡ false → StandsDb order facts old m → (open_by old).broken ≡ false
    → LosesFirst order (facts (db_store_of old)) (facts (db_store_of new)) (open_by old) (accepted m operations false)

-- ---- in the middle of an open

-- If the names that were there are durable, a power loss that truncates no file that was there
-- leaves what was accepted, the in-doubt batch wholly or not.
abbrev pub OpenLoses : Order → Facts → Facts → Ids → Type 0
OpenLoses order old new ids = IsTrue new.faithful → (m : Machine) → m.damaged ≡ false → StandsClosed order old ids m → ((name : List ℕ) → StaysNamed old name)
    → LosesOnly old new (λ lost. LeavesUncut old lost → HoldsAccepted order lost m)

-- ---- of a session

-- The machine whose first batches are left in the middle of a command: of a write its batch is the
-- last of them.
abbrev pub with_written : Machine → Op → Machine
with_written m (Write operations sync) = accepted m operations.items false
with_written m _ = m

-- The same holds of a command to an open database that isn't broken.
abbrev pub LosesOver : {K : Type 0} {g : _} → Order → Facts → Facts → Option (OpenDb K g) → Machine → Type 0
LosesOver order old new None m = Unit {0}
LosesOver order old new (Some db) m = db.broken ≡ false → LosesFirst order old new db m

-- The same of an open, too. If none is open it leaves what was accepted, as `OpenLoses` says it.
abbrev pub OpensOver : {K : Type 0} {g : _} → Order → Facts → Facts → Option (OpenDb K g) → Machine → Type 0
OpensOver order old new None m = ((name : List ℕ) → StaysNamed old name) → LosesOnly old new (λ lost. LeavesUncut old lost → HoldsAccepted order lost m)
OpensOver order old new (Some db) m = db.broken ≡ false → LosesFirst order old new db m

abbrev pub SessionLoses : {S K : Type 0} {g : _} → Order → (S → Facts) → Session S K g → Session S K g → Type 0
SessionLoses order facts old new = IsTrue (facts (store_of new)).faithful → (m : Machine) → m.damaged ≡ false → Stands order facts old m
    → LosesOver order (facts (store_of old)) (facts (store_of new)) (open_in old) m

abbrev pub SessionLosesWrite : {S K : Type 0} {g : _} → Order → (S → Facts) → List Operation → Session S K g → Session S K g → Type 0
SessionLosesWrite order facts operations old new = IsTrue (facts (store_of new)).faithful → (m : Machine) → m.damaged ≡ false → Stands order facts old m
    → LosesOver order (facts (store_of old)) (facts (store_of new)) (open_in old) (accepted m operations false)

abbrev pub SessionLosesOpen : {S K : Type 0} {g : _} → Order → (S → Facts) → Session S K g → Session S K g → Type 0
SessionLosesOpen order facts old new = IsTrue (facts (store_of new)).faithful → (m : Machine) → m.damaged ≡ false → Stands order facts old m
    → OpensOver order (facts (store_of old)) (facts (store_of new)) (open_in old) m

-- what is said of a command
abbrev pub LosesBy : {S K : Type 0} {g : _} → Op → Order → (S → Facts) → Session S K g → Session S K g → Type 0
LosesBy (Open mode) order facts old new = SessionLosesOpen order facts old new
LosesBy op order facts old new = IsTrue (facts (store_of new)).faithful → (m : Machine) → m.damaged ≡ false → Stands order facts old m
    → LosesOver order (facts (store_of old)) (facts (store_of new)) (open_in old) (with_written m op)
