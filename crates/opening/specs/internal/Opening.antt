-- What an open finds in a directory, what it writes, and what that leaves (LevelDB's db/db_impl.cc,
-- DBImpl::Recover and DBImpl::NewDB).
use Rattle.std.specs.Prelude.{◌≡◌, ◌≢◌, ◌⊎◌, ◌<◌, ◌≤◌, ◌+◌, ◌^◌, ℕ, true, false, IsTrue, List, [], ◌∷◌, ◌++◌, Result, IfOk, string_bytes}
use Rattle.std.specs.List.{AllByRecursion}
use Rattle.std.specs.FinMap.{contains_key}
use Rattle.coding.specs.declared.error.DbError.{DbError}
use Rattle.coding.specs.declared.error.DbError.TheVariants as error
use Rattle.store.specs.Files.{Facts, Files}
use Rattle.ikey.specs.Orders.{Order}
use Rattle.logfile.specs.declared.record.Tail.TheVariants.{Clean}
use Rattle.edits.specs.Snapshot.{IsKept, IsBelowLimit, snapshot_fields}
use Rattle.edits.specs.Edit.{HasPastLimit}
use Rattle.edits.specs.Names.{name_of}
use Rattle.edits.specs.declared.field.Field.{Field}
use Rattle.edits.specs.declared.layout.Layout.{Layout}
use Rattle.edits.specs.declared.names.FileName.TheVariants.{Current, Log, Manifest, Temporary}
use Rattle.recover.specs.internal.Changes.{ManifestEndsAt, empty_log}
use Rattle.recover.specs.Entries.{RiseAbove, greatest}
use Rattle.recover.specs.Logs.{LogContent, logged}
use Rattle.recover.specs.Numbers.{IsFree, IsNextNumber}
use Rattle.recover.specs.Directory.{Directory, IsConsistent, IsManifest, IsEmpty}
use Rattle.recover.specs.Ranges.{HaveRanges}
use Rattle.recover.specs.Reading.{Recovers, IsBeyondReading, IsListing}
use Rattle.recover.specs.Tables.{TableContent}
use Rattle.recover.specs.declared.listing.Listing.{Listing}
use Rattle.recover.specs.declared.reading.Recovered.{Recovered}
use Rattle.ikey.specs.declared.entry.Entry.{Entry}
use Rattle.machine.specs.declared.command.Mode.{Mode}
use Rattle.machine.specs.declared.command.Mode.TheVariants.{Existing, New, Any}
use Rattle.opening.specs.declared.directory.DirectoryState.{DirectoryState}
use Rattle.opening.specs.declared.finding.Found.{Found}
use Rattle.opening.specs.declared.rewriting.Rewrite.{Rewrite}
use Rattle.opening.specs.internal.Calls.{Attempts}
use Rattle.opening.specs.internal.Directories.{IsDirectoryOf, CanAppend}
use Rattle.recover.specs.Limits.{IsWithinLimits}

-- ---- finding

-- there is no database
abbrev pub FindsNone : Files → Found → Type 0
FindsNone files found = IsEmpty files × (found.layout.tables.items ≡ []) × (found.entries.items ≡ []) × (found.used ≡ 0)

-- There is one, of which this was read. No table was, so that it needn't be consistent.
pub record FindsDirectory (order : Order) (files : Files) (found : Found) : Type 0 where
  pub recovered : Recovered
  pub read : Recovers order files recovered
  pub layout : found.layout ≡ recovered.layout
  pub entries : found.entries.items ≡ recovered.entries.items
  pub logs : found.logs.items ≡ recovered.logs.items
  pub used : found.used ≡ recovered.used

-- what an open found, and the file number that it draws
pub record Finds (order : Order) (files : Files) (found : Found) : Type 0 where
  pub what : FindsNone files found ⊎ FindsDirectory order files found
  pub number : IsNextNumber order files found.number

-- what any found thing keeps to, over any store
pub record IsUsable (order : Order) (found : Found) : Type 0 where
  pub kept : IsKept found.layout
  pub ranges : HaveRanges order found.layout.tables.items
  pub numbered : 0 < found.number
  pub fits : found.number + 1 < 2 ^ 62
  pub sequence : found.used < 2 ^ 56
  pub rising : RiseAbove 0 found.entries.items
  pub bounded : greatest found.entries.items ≤ found.used

-- the mode allows a directory with a database, or without one
abbrev pub AllowsFiles : Mode → Files → Type 0
AllowsFiles Existing files = contains_key files (name_of Current) ≡ true
AllowsFiles New files = contains_key files (name_of Current) ≡ false
AllowsFiles Any files = Unit {0}

-- Why an open ends before it writes.
abbrev pub RefusesOpen : Order → Mode → DbError → Facts → Facts → Type 0
RefusesOpen order mode error.OutOfMemory old new = Unit {0}
RefusesOpen order mode error.Io old new = old.failures < new.failures
RefusesOpen order mode error.NoDatabase old new = IsTrue new.faithful → (mode ≡ Existing) × IsEmpty old.files
RefusesOpen order mode error.Exists old new = IsTrue new.faithful → (mode ≡ New) × (contains_key old.files (name_of Current) ≡ true)
RefusesOpen order mode (error.Corrupt file what) old new = IsTrue new.faithful → (IsEmpty old.files → ⊥) × ((d : Directory) → IsConsistent order old.files d → ⊥)
RefusesOpen order mode (error.Unsupported what) old new = IsTrue new.faithful → (contains_key old.files (name_of Current) ≡ true) × IsBeyondReading order old.files
RefusesOpen order mode error.NumbersSpent old new = IsTrue new.faithful → (m : ℕ) → IsFree order old.files m → 2 ^ 62 ≤ m + 1
RefusesOpen order mode _ old new = ⊥

-- Why an open of an empty directory ends.
abbrev pub RefusesEmpty : Mode → DbError → Listing → Type 0
RefusesEmpty mode error.OutOfMemory listing = Unit {0}
RefusesEmpty mode error.NoDatabase listing = mode ≡ Existing
RefusesEmpty mode error.NumbersSpent listing = (order : Order) (files : Files) (m : ℕ) → IsListing files listing → IsEmpty files → IsFree order files m → 2 ^ 62 ≤ m + 1
RefusesEmpty mode _ listing = ⊥

-- ---- writing

-- Where the logs have entries they stay live; else the new log is the first.
abbrev pub KeepsLogs : Found → ℕ → ℕ → Type 0
KeepsLogs found log previous =
    ((found.entries.items ≢ []) × (log ≡ found.layout.log_number) × (previous ≡ found.layout.previous_log_number))
    ⊎ ((found.entries.items ≡ []) × (log ≡ found.number + 1) × (previous ≡ 0))

-- The MANIFEST of a new open, whose one edit leaves what was found under new numbers.
pub record IsNewManifest (order : Order) (found : Found) (bytes : List ℕ) : Type 0 where
  pub edit : List Field
  pub layout : Layout
  pub spelled : IsManifest order bytes (edit ∷ []) layout
  pub fields : edit ≡ snapshot_fields order.name layout
  pub within : AllByRecursion IsBelowLimit found.layout.tables.items → HasPastLimit edit → ⊥
  pub next : layout.next_file_number ≡ found.number + 2
  pub sequence : layout.last_sequence ≡ found.used
  pub pointers : layout.compact_pointers.items ≡ found.layout.compact_pointers.items
  pub tables : layout.tables.items ≡ found.layout.tables.items
  pub logs : KeepsLogs found layout.log_number layout.previous_log_number
  -- an edit can be put after it
  pub clean : spelled.tail ≡ Clean

-- The names and the bytes that the open writes.
pub record IsRewrite (order : Order) (found : Found) (rewrite : Rewrite) : Type 0 where
  pub manifest_name : string_bytes rewrite.manifest_name ≡ name_of (Manifest found.number)
  pub temporary_name : string_bytes rewrite.temporary_name ≡ name_of (Temporary found.number)
  pub log_name : string_bytes rewrite.log_name ≡ name_of (Log (found.number + 1))
  pub current : rewrite.current.items ≡ name_of (Manifest found.number) ++ 10 ∷ []
  pub manifest : IsNewManifest order found rewrite.manifest.items

-- What is known of the directory once that was written, with a MANIFEST of this name and length.
pub record IsKnownAfter (found : Found) (name : List ℕ) (end : ℕ) (state : DirectoryState) : Type 0 where
  pub number : state.manifest.number ≡ found.number
  pub named : string_bytes state.manifest.name ≡ name
  pub ends : state.manifest.end ≡ end
  pub next : state.numbers.next ≡ found.number + 2
  pub logs : KeepsLogs found state.first_log state.previous_log

-- What an open leaves of a directory as it was, wherever it ended. That is what it says, `CURRENT`,
-- which file numbers are free except the two that it may have drawn, and that no limit of reading
-- is passed.
pub record IsContinued (order : Order) (old new : Files) : Type 0 where
  pub meaning : (tables : List TableContent) (entries : List Entry) (used : ℕ) → IsDirectoryOf order old tables entries used → IsDirectoryOf order new tables entries used
  pub made : contains_key old (name_of Current) ≡ true → contains_key new (name_of Current) ≡ true
  pub free : (m : ℕ) → IsFree order old m → IsFree order new (m + 2)
  pub limits : (tables : List TableContent) (entries : List Entry) (used : ℕ) → IsDirectoryOf order old tables entries used → IsWithinLimits order old → IsWithinLimits order new

-- A record can be put after the new log, which is empty and after logs with all entries. An edit
-- can be put after the new MANIFEST, which is current, has this length, and says which logs are in
-- use.
pub record HasRewritten (order : Order) (files : Files) (found : Found) (end : ℕ) (tables : List TableContent) (entries : List Entry) (used : ℕ) : Type 0 where
  pub log : CanAppend order files (found.number + 1) 0 tables entries used
  pub before : List LogContent
  pub logs : log.directory.logs ≡ before ++ empty_log (found.number + 1) ∷ []
  pub in_front : entries ≡ logged before
  pub number : log.directory.manifest ≡ found.number
  pub manifest : ManifestEndsAt order files log.directory.manifest end log.directory.edits log.directory.layout
  pub live : KeepsLogs found log.directory.layout.log_number log.directory.layout.previous_log_number
  pub forward : log.directory.layout.log_number ≤ found.number + 1

-- There is a database, which was rewritten, and the numbers from after the new log on are free.
pub record IsReady (order : Order) (old new : Files) (found : Found) (end : ℕ) : Type 0 where
  pub made : contains_key new (name_of Current) ≡ true
  pub ends : (tables : List TableContent) (entries : List Entry) (used : ℕ) → IsDirectoryOf order old tables entries used → HasRewritten order new found end tables entries used
  pub free : IsFree order new (found.number + 2)

-- What the writing of an open does, with a MANIFEST of this length.
pub record Rewrites {T : Type 0} (order : Order) (old new : Facts) (found : Found) (end : ℕ) (result : Result T DbError) : Type 0 where
  pub call : Attempts old new result
  pub continued : IsTrue new.faithful → Finds order old.files found → IsContinued order old.files new.files
  pub ok : IsTrue new.faithful → IfOk result (λ _. Finds order old.files found → IsReady order old.files new.files found end)
