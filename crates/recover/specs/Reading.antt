-- What the names of a directory say, what reading its MANIFEST and its logs gives, and why it is
-- refused (LevelDB's db/db_impl.cc, DBImpl::Recover).
use Rattle.std.specs.Prelude.{◌≡◌, ◌⊎◌, ◌<◌, ◌≤◌, ◌-◌, ◌^◌, ◌↔◌, ℕ, min, max, true, List, [], ◌∷◌, ◌++◌, map, length, take, IsTrue, MatchBool, Result, Ok, Err, Contains, Some, None}
use Rattle.std.specs.FinMap.{get, contains_key}
use Rattle.coding.specs.declared.error.DbError.{DbError}
use Rattle.coding.specs.declared.error.DbError.TheVariants as error
use Rattle.store.specs.Calls.{FailsNoWrite, KeepsCalls}
use Rattle.store.specs.Files.{Facts, Files}
use Rattle.ikey.specs.Orders.{Order}
use Rattle.logfile.specs.Log.{IsLog}
use Rattle.logfile.specs.declared.record.Tail.{Tail}
use Rattle.edits.specs.Edit.{HasPastLimit}
use Rattle.edits.specs.Layout.{fields_of, AreOfOther}
use Rattle.edits.specs.Names.{name_of, IsFileName, IsNumbered}
use Rattle.edits.specs.declared.field.Field.{Field}
use Rattle.edits.specs.declared.layout.Layout.{Layout}
use Rattle.edits.specs.declared.names.FileName.{FileName}
use Rattle.edits.specs.declared.names.FileName.TheVariants.{Current, Log, Table, OldTable, Manifest}
use Rattle.recover.specs.declared.listing.Listing.{Listing}
use Rattle.recover.specs.declared.reading.Recovered.{Recovered}
use Rattle.recover.specs.Entries.{greatest}
use Rattle.recover.specs.Logs.{LogContent, HasLiveLogs, logged}
use Rattle.recover.specs.Ranges.{HaveRanges, HaveTableFiles}
use Rattle.recover.specs.Report.{log_summary}
use Rattle.recover.specs.Numbers.{number_of, IsNextNumber}
use Rattle.recover.specs.Directory.{Directory, IsConsistent, AreEdits, HasManifest}

-- A call that only reads: what holds of any store. And while it is faithful, the files and what of
-- them is synced stay, and it does none of the calls that change something.
pub record ReadsDirectory {T : Type 0} (old new : Facts) (result : Result T DbError) : Type 0 where
  pub faithful : IsTrue new.faithful → IsTrue old.faithful
  pub failures : old.failures ≤ new.failures
  pub writes : FailsNoWrite old new
  pub denials : new.denials ≡ old.denials
  pub locked : new.locked ≡ old.locked
  pub io : result ≡ Err error.Io → old.failures < new.failures
  pub same : IsTrue new.faithful → new.files ≡ old.files
  pub synced : IsTrue new.faithful → new.synced ≡ old.synced
  pub calls : KeepsCalls old new

-- Of the refusals Io alone is counted as a failure of the store,
abbrev pub IsErrorCounted : DbError → Facts → Facts → Type 0
IsErrorCounted error.Io old new = old.failures < new.failures
IsErrorCounted e old new = new.failures ≡ old.failures

-- and so a call raises the count of failures exactly where it answers Io.
abbrev pub IsCounted : {T : Type 0} → Facts → Facts → Result T DbError → Type 0
IsCounted old new (Ok value) = new.failures ≡ old.failures
IsCounted old new (Err e) = IsErrorCounted e old new

-- Out of memory comes, as an Ok, only of a call in which the store didn't fail.
abbrev pub IsErrorStill : DbError → Facts → Facts → Type 0
IsErrorStill error.OutOfMemory old new = new.failures ≡ old.failures
IsErrorStill e old new = Unit {0}

abbrev pub IsStill : {T : Type 0} → Facts → Facts → Result T DbError → Type 0
IsStill old new (Ok value) = new.failures ≡ old.failures
IsStill old new (Err e) = IsErrorStill e old new

-- ---- names

-- they rise, the first above this one
abbrev pub RiseFrom : ℕ → List ℕ → Type 0
RiseFrom low [] = Unit {0}
RiseFrom low (n ∷ ns) = (low < n) × RiseFrom n ns

-- a table is there, under either ending
abbrev pub HasTableFile : Files → Type 0
HasTableFile files = (n : ℕ) × IsNumbered n × ((contains_key files (name_of (Table n)) ≡ true) ⊎ (contains_key files (name_of (OldTable n)) ≡ true))

abbrev pub HasNoTableFile : Files → Type 0
HasNoTableFile files = (n : ℕ) → IsNumbered n → (get files (name_of (Table n)) ≡ None) × (get files (name_of (OldTable n)) ≡ None)

-- What the names of the files say.
pub record IsListing (files : Files) (listing : Listing) : Type 0 where
  pub current : listing.has_current ≡ contains_key files (name_of Current)
  pub tables : MatchBool listing.has_table (HasTableFile files) (HasNoTableFile files)
  -- the numbers of the logs, rising
  pub rising : RiseFrom 0 listing.logs.items
  pub logs : (n : ℕ) → IsNumbered n → Contains listing.logs.items n ↔ (contains_key files (name_of (Log n)) ≡ true)
  pub numbered : (n : ℕ) → Contains listing.logs.items n → IsNumbered n
  -- the greatest number in a name, or 0
  pub bound : (file : FileName) → IsFileName file → contains_key files (name_of file) ≡ true → number_of file ≤ listing.highest
  pub attained : (listing.highest ≡ 0) ⊎ ((file : FileName) × IsFileName file × (contains_key files (name_of file) ≡ true) × (number_of file ≡ listing.highest))

-- the next file number, as far as 64 bits tell it
abbrev pub IsNumberUpTo : Order → Files → ℕ → Type 0
IsNumberUpTo order files number = (n : ℕ) × IsNextNumber order files n × (number ≡ min n (2 ^ 64 - 1))

-- ---- contents

-- What was read of a directory: its MANIFEST, and its logs in use. Of the tables, which aren't
-- read, their files are there with the sizes of their edits, and the keys of these are in order.
pub record Recovers (order : Order) (files : Files) (recovered : Recovered) : Type 0 where
  pub number : ℕ
  pub edits : List (List Field)
  pub manifest : HasManifest order files number edits recovered.layout
  pub ranges : HaveRanges order recovered.layout.tables.items
  pub tables : HaveTableFiles files recovered.layout.tables.items
  pub contents : List LogContent
  pub live : HasLiveLogs files recovered.layout contents
  pub entries : recovered.entries.items ≡ logged contents
  pub logs : recovered.logs.items ≡ map log_summary contents
  pub used : recovered.used ≡ max recovered.layout.last_sequence (greatest (logged contents))
  pub next_number : IsNumberUpTo order files recovered.next_number

-- Why a directory wasn't read: out of memory, since the store failed, since it isn't consistent, or
-- since it has what isn't supported.
abbrev pub RefusesDirectory : DbError → Facts → Facts → Type 0 → Type 0 → Type 0
RefusesDirectory error.OutOfMemory old new damaged unsupported = Unit {0}
RefusesDirectory error.Io old new damaged unsupported = old.failures < new.failures
RefusesDirectory (error.Corrupt file what) old new damaged unsupported = IsTrue new.faithful → damaged
RefusesDirectory (error.Unsupported what) old new damaged unsupported = IsTrue new.faithful → unsupported
RefusesDirectory _ old new damaged unsupported = ⊥

abbrev pub IsInconsistent : Order → Files → Type 0
IsInconsistent order files = (d : Directory) → IsConsistent order files d → ⊥

-- no MANIFEST that can be read
abbrev pub HasNoManifest : Order → Files → Type 0
HasNoManifest order files = (number : ℕ) (edits : List (List Field)) (layout : Layout) → HasManifest order files number edits layout → ⊥

-- The bytes are a log. So many of its first records are edits that name a table past the limit of
-- numbers, or all of them are edits, of another order of keys.
pub record SpellsBeyond (order : Order) (bytes : List ℕ) : Type 0 where
  pub records : List (List ℕ)
  pub tail : Tail
  pub log : IsLog bytes records tail
  pub count : ℕ
  pub edits : List (List Field)
  pub spelled : AreEdits (take count records) edits
  pub beyond : HasPastLimit (fields_of edits) ⊎ ((length records ≤ count) × AreOfOther order.name (fields_of edits))

-- `CURRENT` names a MANIFEST of such bytes, which is there.
pub record IsBeyondReading (order : Order) (files : Files) : Type 0 where
  pub number : ℕ
  pub numbered : IsNumbered number
  pub current : get files (name_of Current) ≡ Some (name_of (Manifest number) ++ 10 ∷ [])
  pub bytes : List ℕ
  pub there : get files (name_of (Manifest number)) ≡ Some bytes
  pub spelled : SpellsBeyond order bytes
