-- What an open has before its database is made, and what it leaves of the directory (LevelDB's
-- db/db_impl.cc, DB::Open).
use Rattle.std.specs.Prelude.{◌≡◌, ◌≢◌, ◌⊎◌, ◌<◌, ◌≤◌, ◌+◌, ◌^◌, ℕ, zero, suc, true, IsSome, IsTrue, List, [], ◌∷◌, map, string_bytes}
use Rattle.std.specs.List.{flat_map}
use Rattle.std.specs.FinMap.{contains_key}
use Rattle.coding.specs.declared.error.DbError.{DbError}
use Rattle.coding.specs.declared.error.DbError.TheVariants.{OutOfMemory, Io}
use Rattle.store.specs.Files.{Facts, Files}
use Rattle.ikey.specs.Orders.{Order}
use Rattle.ikey.specs.declared.entry.Entry.{Entry}
use Rattle.edits.specs.Names.{name_of, IsNumbered}
use Rattle.edits.specs.declared.names.FileName.TheVariants.{Current, Log}
use Rattle.memtables.specs.Memories.{logged_in}
use Rattle.recover.specs.declared.report.LogSummary.{LogSummary}
use Rattle.recover.specs.Numbers.{IsFree}
use Rattle.recover.specs.Tables.{TableContent, table_at}
use Rattle.versions.specs.Levels.{ListsSameTables, AreInOrder}
use Rattle.machine.specs.declared.command.Mode.{Mode}
use Rattle.opening.specs.Losses.{AreInDoubt}
use Rattle.opening.specs.internal.Durable.{SparesBeside, SparesTables}
use Rattle.opening.specs.declared.beginning.Begun.{Begun}
use Rattle.opening.specs.declared.directory.CurrentLog.{CurrentLog}
use Rattle.opening.specs.declared.directory.DirectoryState.{DirectoryState}
use Rattle.opening.specs.declared.finding.Found.{Found}
use Rattle.opening.specs.internal.Directories.{IsDirectoryOf, CanAppend}
use Rattle.opening.specs.internal.Knowing.{HasLogs, KnowsDirectory}
use Rattle.opening.specs.internal.Opening.{AllowsFiles}

-- Over any store: the log is an empty one under its name, the tables are in order, and the
-- sequence numbers fit.
pub record IsBegun {K : Type 0} (order : Order) (begun : Begun K) : Type 0 where
  pub named : string_bytes begun.log.name ≡ name_of (Log begun.log.number)
  pub empty : begun.log.end ≡ 0
  pub in_order : AreInOrder order.cmp begun.version.value.tables
  pub fits : begun.memory.last < 2 ^ 56
  -- nothing is read beside what the logs have
  pub written : begun.memory.current.inserts ≡ []

-- What a directory says is in memory: the entries of its logs, the last sequence number and the
-- tables. A record can be put after the new log.
pub record HasBegun {K : Type 0} (order : Order) (files : Files) (begun : Begun K) (tables : List TableContent) (entries : List Entry) (used : ℕ) : Type 0 where
  pub inserts : logged_in begun.memory ≡ entries
  pub last : begun.memory.last ≡ used
  pub version : ListsSameTables (map (λ (content : TableContent). content.placed) tables) begun.version.value.tables
  pub log : CanAppend order files begun.log.number begun.log.end tables entries used
  pub logs : HasLogs log.directory begun.log.number begun.memory
  pub knows : KnowsDirectory order files log.directory begun.log.number begun.directory

-- The same holds for what the directory says, wherever it is empty or consistent.
pub record Begins {K : Type 0} (order : Order) (mode : Mode) (old new : Files) (begun : Begun K) : Type 0 where
  pub allowed : AllowsFiles mode old
  pub made : contains_key new (name_of Current) ≡ true
  pub has : (tables : List TableContent) (entries : List Entry) (used : ℕ) → IsDirectoryOf order old tables entries used → HasBegun order new begun tables entries used
  pub least : (n : ℕ) → IsFree order old n → begun.directory.numbers.next ≤ n + 2

-- A refusal came before anything was written, or out of memory, or since the store failed.
abbrev pub IsUnwritten : DbError → Facts → Facts → Type 0
IsUnwritten error old new = (IsTrue new.faithful → new.files ≡ old.files) ⊎ ((error ≡ OutOfMemory) ⊎ (error ≡ Io))

-- The name of the log of a number. (None has 0.)
abbrev pub names_of_log : ℕ → List (List ℕ)
names_of_log zero = []
names_of_log (suc n) = name_of (Log (suc n)) ∷ []

abbrev pub names_of_logs : List LogSummary → List (List ℕ)
names_of_logs logs = flat_map (λ (log : LogSummary). names_of_log log.number) logs

-- They are the names of the logs that were found, where these have entries.
pub record IsFront (found : Found) (names : List (List ℕ)) : Type 0 where
  pub none : found.entries.items ≡ [] → names ≡ []
  pub all : found.entries.items ≢ [] → names ≡ names_of_logs found.logs.items

-- Which of the logs that the next open reads may not be durable whole, and that an open leaves
-- tables alone. Those that are there, and all logs but the new one, have numbers below that of its
-- MANIFEST; the new one is above it.
pub record BeginsSynced (old new : Facts) (log : CurrentLog) (state : DirectoryState) : Type 0 where
  pub logs : AreInDoubt new.files log state
  pub tables : SparesTables old new
  pub beside : SparesBeside state.manifest.number old new
  pub found : (n : ℕ) → IsNumbered n → IsSome (table_at new.files n) → n < state.manifest.number
  pub begun : (n : ℕ) → IsNumbered n → n ≢ log.number → contains_key new.files (name_of (Log n)) ≡ true → n < state.manifest.number
  pub since : state.manifest.number < log.number
