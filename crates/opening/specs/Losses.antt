-- What a power loss leaves of a directory, by what of it is synced. (What it may leave of files:
-- `store`'s specs/Losses.)
use Rattle.std.specs.Prelude.{◌≡◌, ◌≢◌, ◌⊎◌, ◌<◌, ◌≤◌, ℕ, true, false, Some, None, List, [], ◌∷◌, ◌++◌, map, string_bytes}
use Rattle.std.specs.List.{AllByRecursion}
use Rattle.std.specs.FinMap.{get, contains_key}
use Rattle.store.specs.Files.{Facts, Files, Call, lock_name}
use Rattle.store.specs.Losses.{BeginsWith, Lost, StaysNamed, StaysOrBegins, is_sync}
use Rattle.store.specs.Stops.{moment}
use Rattle.ikey.specs.Orders.{Order}
use Rattle.logfile.specs.declared.record.Tail.{Tail}
use Rattle.edits.specs.Names.{name_of, IsNumbered}
use Rattle.edits.specs.declared.names.FileName.TheVariants.{Current, Log, Manifest, Table, OldTable}
use Rattle.recover.specs.Directory.{Directory, IsConsistent}
use Rattle.recover.specs.Logs.{Batch, IsBatchLog, IsLive, LogContent}
use Rattle.recover.specs.Tables.{TableContent, InTables, table_at}
use Rattle.directory_writes.specs.Differing.{OfEach}
use Rattle.opening.specs.declared.directory.CurrentLog.{CurrentLog}
use Rattle.opening.specs.declared.directory.DirectoryState.{DirectoryState}

-- The last call was a sync that succeeded.
abbrev pub EndsInSync : Facts → Type 0
EndsInSync facts = (calls : List Call) × (call : Call) × (facts.calls ≡ calls ++ call ∷ []) × (is_sync call.change ≡ true)

-- ---- names of logs

-- it is none of these names
abbrev pub IsNoneOf : List ℕ → List (List ℕ) → Type 0
IsNoneOf name names = AllByRecursion (λ (other : List ℕ). name ≢ other) names

-- it is the name of a log with a number below this one
abbrev pub IsLogBelow : ℕ → List ℕ → Type 0
IsLogBelow bound name = (n : ℕ) × IsNumbered n × (n < bound) × (name ≡ name_of (Log n))

-- The next open reads the log of this number.
abbrev pub IsLogRead : DirectoryState → ℕ → Type 0
IsLogRead state n = (state.first_log ≤ n) ⊎ ((n ≡ state.previous_log) × (0 < n))

-- The log that writes go to, and those before it that may not be durable whole.
abbrev pub logs_in_doubt : CurrentLog → List (List ℕ)
logs_in_doubt log = string_bytes log.name ∷ map string_bytes log.front.items

-- All logs that the next open reads are among them.
pub record AreInDoubt (files : Files) (log : CurrentLog) (state : DirectoryState) : Type 0 where
  pub front : AllByRecursion (IsLogBelow log.number) (map string_bytes log.front.items)
  pub all : (n : ℕ) → IsNumbered n → IsLogRead state n → IsNoneOf (name_of (Log n)) (logs_in_doubt log) → get files (name_of (Log n)) ≡ None

-- ---- what is synced

-- The file of this name is synced whole, if it is there.
abbrev pub IsKept : Facts → List ℕ → Type 0
IsKept facts name = (bytes : List ℕ) → get facts.files name ≡ Some bytes → facts.synced name ≡ Some bytes

-- What is there of this name the loss has left whole, or removed.
abbrev pub IsWholeOrGone : Files → Files → List ℕ → Type 0
IsWholeOrGone files lost name = (bytes : List ℕ) → get files name ≡ Some bytes → (get lost name ≡ None) ⊎ (get lost name ≡ Some bytes)

-- That holds, if the file isn't known to be synced.
abbrev pub IsLeftWhole : Facts → Files → List ℕ → Type 0
IsLeftWhole facts lost name = IsKept facts name ⊎ IsWholeOrGone facts.files lost name

-- The same for the file that is read as the table of this number: that of its newer name, or else
-- that of its older one.
abbrev pub IsTableKept : Facts → ℕ → Type 0
IsTableKept facts number = IsKept facts (name_of (Table number)) × (get facts.files (name_of (Table number)) ≡ None → IsKept facts (name_of (OldTable number)))

-- The same for all that a directory of these parts reads: `CURRENT`, its MANIFEST, its logs in use,
-- and its tables except those that the loss has left.
pub record IsKeptWhole (facts : Facts) (lost : Files) (d : Directory) : Type 0 where
  pub current : IsKept facts (name_of Current)
  pub manifest : IsKept facts (name_of (Manifest d.manifest))
  pub logs : (n : ℕ) → IsNumbered n → IsLive d.layout n → IsKept facts (name_of (Log n))
  pub tables : (content : TableContent) → InTables d.tables content
      → IsTableKept facts content.placed.table.number ⊎ (table_at lost content.placed.table.number ≡ table_at facts.files content.placed.table.number)

-- After a sync, every power loss until the next call leaves a directory of the same parts then.
abbrev pub KeptLaw : Type 0
KeptLaw = (order : Order) (facts : Facts) (d : Directory) (lost : Files)
    → IsConsistent order facts.files d → IsKeptWhole facts lost d → EndsInSync facts → Lost facts (moment facts) lost → IsConsistent order lost d

-- ---- logs that may be cut

-- All that a directory of these parts reads is synced whole but for its logs, and for tables that
-- the loss has left.
pub record IsKeptButLogs (facts : Facts) (whole after : Files) (d : Directory) : Type 0 where
  pub current : IsKept facts (name_of Current)
  pub manifest : IsKept facts (name_of (Manifest d.manifest))
  pub tables : (content : TableContent) → InTables d.tables content
      → IsTableKept facts content.placed.table.number ⊎ (table_at after content.placed.table.number ≡ table_at whole content.placed.table.number)

-- A log has lost some of its last batches, or none: none of those that were synced.
pub record IsCut (facts : Facts) (whole cut : LogContent) : Type 0 where
  pub number : cut.number ≡ whole.number
  pub lost : List Batch
  pub batches : whole.batches ≡ cut.batches ++ lost
  pub kept : (bytes : List ℕ) (synced : List Batch) (tail : Tail) → facts.synced (name_of (Log whole.number)) ≡ Some bytes → IsBatchLog bytes synced tail
      → (more : List Batch) × (cut.batches ≡ synced ++ more)

-- Each log is cut, or gone, if nothing of it was ever synced.
abbrev pub AreCut : Facts → List LogContent → List LogContent → Type 0
AreCut facts [] [] = Unit {0}
AreCut facts [] (cut ∷ cuts) = ⊥
AreCut facts (whole ∷ wholes) cuts =
    ((cut : LogContent) × (others : List LogContent) × (cuts ≡ cut ∷ others) × IsCut facts whole cut × AreCut facts wholes others)
    ⊎ ((facts.synced (name_of (Log whole.number)) ≡ None) × AreCut facts wholes cuts)

-- A directory of these parts reads the file of this name, and it is no log. (Of a table it reads
-- the file with the newer name, where that is there.)
abbrev pub IsReadIn : Files → Directory → List ℕ → Type 0
IsReadIn files d name = (name ≡ name_of Current) ⊎ (name ≡ name_of (Manifest d.manifest))
    ⊎ ((content : TableContent) × InTables d.tables content
    × ((name ≡ name_of (Table content.placed.table.number)) ⊎ ((name ≡ name_of (OldTable content.placed.table.number)) × (get files (name_of (Table content.placed.table.number)) ≡ None))))

-- it is one of its logs
abbrev pub IsLogIn : Directory → List ℕ → Type 0
IsLogIn d name = (n : ℕ) × IsNumbered n × IsLive d.layout n × (name ≡ name_of (Log n))

-- Of what the directory reads, these files are left: the same names, except logs of which nothing
-- was synced, and of each file a beginning of what it holds. That beginning has at least what of it
-- was synced. Whatever else lies there, and whatever is gone, is none of the directory's.
pub record IsLeftOf (facts : Facts) (d : Directory) (lost : Files) : Type 0 where
  pub names : (q : List ℕ) → IsReadIn facts.files d q → contains_key lost q ≡ contains_key facts.files q
  pub logs : (q : List ℕ) → IsLogIn d q → (contains_key lost q ≡ contains_key facts.files q) ⊎ ((contains_key lost q ≡ false) × (facts.synced q ≡ None))
  pub beginning : (q bytes : List ℕ) → IsReadIn facts.files d q ⊎ IsLogIn d q → get lost q ≡ Some bytes → (held : List ℕ) × (get facts.files q ≡ Some held) × BeginsWith held bytes
  pub kept : (q bytes synced : List ℕ) → IsReadIn facts.files d q ⊎ IsLogIn d q → get lost q ≡ Some bytes → facts.synced q ≡ Some synced → BeginsWith bytes synced

-- So a power loss leaves a consistent directory then, whose logs may be cut.
abbrev pub CutLaw : Type 0
CutLaw = (order : Order) (facts : Facts) (d : Directory) (lost : Files) → IsConsistent order facts.files d → IsKeptButLogs facts facts.files lost d → IsLeftOf facts d lost
    → (logs : List LogContent) × AreCut facts d.logs logs × IsConsistent order lost (record d { logs = logs })

-- ---- a loss since the last sync

-- The calls since the last sync spare what a directory of these parts reads. No file of it was
-- moved, replaced, made or removed, except that logs were begun of which nothing is synced.
pub record AreSpared (facts : Facts) (d : Directory) : Type 0 where
  pub reads : (name : List ℕ) → IsReadIn facts.files d name → StaysNamed facts name
  pub logs : (name : List ℕ) → IsLogIn d name → StaysOrBegins facts name

-- Then every power loss until the next call leaves of it what `IsLeftOf` says.
abbrev pub SparedLaw : Type 0
SparedLaw = (facts : Facts) (d : Directory) (lost : Files) → AreSpared facts d → Lost facts (moment facts) lost → IsLeftOf facts d lost

-- After an open the calls since the last sync spare all but the new log, which they may have begun.
pub record BeginsSpared (facts : Facts) (log : List ℕ) : Type 0 where
  pub others : (name : List ℕ) → name ≢ log → StaysNamed facts name
  pub begun : StaysOrBegins facts log

-- ---- in the middle of an open

-- Of what was there of this name the loss has left no mere beginning.
abbrev pub IsUncut : Files → Files → List ℕ → Type 0
IsUncut files lost name = (bytes held : List ℕ) → get files name ≡ Some bytes → get lost name ≡ Some held → BeginsWith bytes held → held ≡ bytes

-- Each file that was there is synced whole, or the loss has left no mere beginning of it.
abbrev pub LeavesUncut : Facts → Files → Type 0
LeavesUncut facts lost = (name : List ℕ) → IsKept facts name ⊎ IsUncut facts.files lost name

-- The names are durable as they are, but for that of the lock's file, which each open makes where
-- it was missing.
abbrev pub HaveNamesStayed : Facts → Type 0
HaveNamesStayed facts = (name : List ℕ) → name ≢ lock_name → StaysNamed facts name

-- But for the lock's file, they are files of which that is so.
abbrev pub IsButLock : (Files → Type 0) → Files → Type 0
IsButLock P files = (beside : Files) × ((name : List ℕ) → name ≢ lock_name → get files name ≡ get beside name) × P beside

-- ---- in each directory that differs in tables alone

-- The same for all that such a directory reads, and its tables except those that the same loss has
-- left there.
pub record IsKeptOver (facts : Facts) (whole after : Files) (d : Directory) : Type 0 where
  pub current : IsKept facts (name_of Current)
  pub manifest : IsKept facts (name_of (Manifest d.manifest))
  pub logs : (n : ℕ) → IsNumbered n → IsLive d.layout n → IsKept facts (name_of (Log n))
  pub tables : (content : TableContent) → InTables d.tables content
      → IsTableKept facts content.placed.table.number ⊎ (table_at after content.placed.table.number ≡ table_at whole content.placed.table.number)

-- After a sync, every power loss until the next call leaves that directory then.
abbrev pub KeptEachLaw : Type 0
KeptEachLaw = (order : Order) (facts : Facts) (d : Directory) (lost : Files) → EndsInSync facts → Lost facts (moment facts) lost
    → OfEach (λ whole after. IsConsistent order whole d → IsKeptOver facts whole after d → IsConsistent order after d) facts.files lost

-- A power loss that leaves of it what `IsLeftOf` says leaves it with logs that may be cut.
abbrev pub CutEachLaw : Type 0
CutEachLaw = (order : Order) (facts : Facts) (d : Directory) (lost : Files) → IsLeftOf facts d lost
    → OfEach (λ whole after. IsConsistent order whole d → IsKeptButLogs facts whole after d → (logs : List LogContent) × AreCut facts d.logs logs × IsConsistent order after (record d { logs = logs })) facts.files lost
