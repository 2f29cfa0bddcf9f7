-- What the steps of reading a directory hand to one another.
use Rattle.std.specs.Prelude.{◌≡◌, ◌≤◌, ℕ, max, Bool, ◌&&◌, ◌||◌, ◌==◌, nat_lt, nat_le, List, [], ◌∷◌, ◌++◌, map, take, Some, None, IsTrue, Contains}
use Rattle.std.specs.FinMap.{get}
use Rattle.std.specs.List.{AllByRecursion}
use Rattle.coding.specs.declared.error.DbError.{DbError}
use Rattle.coding.specs.declared.error.DbError.TheVariants as error
use Rattle.coding.specs.declared.error.FileKind.{FileKind}
use Rattle.coding.specs.declared.error.ReadError.{ReadError}
use Rattle.coding.specs.declared.error.ReadError.TheVariants as read_error
use Rattle.store.specs.Calls.{FailsNoWrite, KeepsCalls}
use Rattle.store.specs.Files.{Facts, Files}
use Rattle.ikey.specs.Orders.{Order}
use Rattle.logfile.specs.Log.{IsLog}
use Rattle.logfile.specs.declared.record.Tail.{Tail}
use Rattle.ikey.specs.declared.entry.Entry.{Entry}
use Rattle.edits.specs.Edit.{HasPastLimit}
use Rattle.edits.specs.Layout.{fields_of}
use Rattle.edits.specs.Names.{name_of}
use Rattle.edits.specs.declared.names.FileName.TheVariants.{Log}
use Rattle.edits.specs.declared.field.Field.{Field}
use Rattle.edits.specs.declared.field.Field.TheVariants.{LogNumber, DeletedFile, NewFile, PreviousLogNumber}
use Rattle.edits.specs.declared.layout.Layout.{Layout}
use Rattle.recover.specs.declared.manifest.Manifest.{Manifest}
use Rattle.recover.specs.declared.replay.Replay.{Replay}
use Rattle.recover.specs.Entries.{RiseAbove, greatest}
use Rattle.recover.specs.Logs.{LogContent, HasLogs, logged}
use Rattle.recover.specs.Directory.{AreEdits, IsManifest, HasManifest}
use Rattle.recover.specs.Overviews.{HasLength, numbers_of}
use Rattle.recover.specs.Report.{log_summary}
use Rattle.recover.specs.declared.overview.LogLength.{LogLength}

-- ---- the store

-- no file has changed, as far as the store is faithful, nor did a call that changes something
pub record IsUnchanged (old new : Facts) : Type 0 where
  pub faithful : IsTrue new.faithful → IsTrue old.faithful
  pub failures : old.failures ≤ new.failures
  pub writes : FailsNoWrite old new
  pub denials : new.denials ≡ old.denials
  pub locked : new.locked ≡ old.locked
  pub same : IsTrue new.faithful → new.files ≡ old.files
  pub synced : IsTrue new.faithful → new.synced ≡ old.synced
  pub calls : KeepsCalls old new

-- ---- refusals

-- the refusal of a reader, where its bytes are those of a file of this kind
abbrev pub in_file : FileKind → ReadError → DbError
in_file kind read_error.Memory = error.OutOfMemory
in_file kind (read_error.Corrupt what) = error.Corrupt kind what
in_file kind (read_error.Unsupported what) = error.Unsupported what

-- Why the bytes of a file weren't read: out of memory, since they are damaged, or since they are
-- past what is supported.
abbrev pub RefusesBytes : DbError → Type 0 → Type 0 → Type 0
RefusesBytes error.OutOfMemory damaged unsupported = Unit {0}
RefusesBytes (error.Corrupt file what) damaged unsupported = damaged
RefusesBytes (error.Unsupported what) damaged unsupported = unsupported
RefusesBytes _ damaged unsupported = ⊥

-- what the file of this name has is no log
abbrev pub HoldsNoLog : Files → List ℕ → Type 0
HoldsNoLog files name = (bytes : List ℕ) (records : List (List ℕ)) (tail : Tail) → get files name ≡ Some bytes → IsLog bytes records tail → ⊥

-- ---- the MANIFEST

-- the number of the file that the field names, or 0
abbrev pub number_in : Field → ℕ
number_in (LogNumber n) = n
number_in (DeletedFile level n) = n
number_in (NewFile placed) = placed.table.number
number_in (PreviousLogNumber n) = n
number_in field = 0

-- the greatest, or 0
abbrev pub highest_in : List Field → ℕ
highest_in [] = 0
highest_in (field ∷ fields) = max (number_in field) (highest_in fields)

-- so many of the first records are edits, one of which names a table past the limit of numbers
abbrev pub ArePastLimit : List (List ℕ) → Type 0
ArePastLimit records = (count : ℕ) × (edits : List (List Field)) × AreEdits (take count records) edits × HasPastLimit (fields_of edits)

-- the bytes are those of a MANIFEST that says this
abbrev pub SpellsManifest : Order → List ℕ → Manifest → Type 0
SpellsManifest order bytes manifest = (edits : List (List Field)) × IsManifest order bytes edits manifest.layout × (manifest.highest ≡ highest_in (fields_of edits))

abbrev pub SpellsNone : Order → List ℕ → Type 0
SpellsNone order bytes = (edits : List (List Field)) (layout : Layout) → IsManifest order bytes edits layout → ⊥

-- `CURRENT` names a MANIFEST that says this
abbrev pub SaysManifest : Order → Files → Manifest → Type 0
SaysManifest order files manifest = (number : ℕ) × (edits : List (List Field)) × HasManifest order files number edits manifest.layout × (manifest.highest ≡ highest_in (fields_of edits))

-- ---- the logs

-- the log of this number is in use, where there are logs from number 1 on
abbrev pub is_live : Layout → ℕ → Bool
is_live layout n = nat_lt 0 n && (nat_le layout.log_number n || n == layout.previous_log_number)

abbrev pub numbers_in : List LogContent → List ℕ
numbers_in contents = map (λ content. content.number) contents

-- the entries follow the old ones, and their sequence numbers rise above the last of those
pub record Replays (old new : Replay) (more : List Entry) : Type 0 where
  pub entries : new.entries.items ≡ old.entries.items ++ more
  pub rise : RiseAbove old.last more
  pub last : new.last ≡ max old.last (greatest more)

-- the sequence numbers of its entries rise, and the last one is the greatest
abbrev pub IsRising : Replay → Type 0
IsRising replay = RiseAbove 0 replay.entries.items × (replay.last ≡ greatest replay.entries.items)

-- the files hold logs of these numbers, of which the replay has the entries
pub record HasReplayed (files : Files) (numbers : List ℕ) (replay : Replay) : Type 0 where
  pub contents : List LogContent
  pub logs : HasLogs files contents
  pub numbered : numbers_in contents ≡ numbers
  pub entries : replay.entries.items ≡ logged contents
  pub summaries : replay.logs.items ≡ map log_summary contents
  pub rise : RiseAbove 0 (logged contents)
  pub last : replay.last ≡ greatest (logged contents)

-- no logs of these numbers have sequence numbers that rise
abbrev pub HasNoReplay : Files → List ℕ → Type 0
HasNoReplay files numbers = (contents : List LogContent) → HasLogs files contents → numbers_in contents ≡ numbers → RiseAbove 0 (logged contents) → ⊥

-- ---- their lengths

-- the logs of these numbers, each with its length
abbrev pub HaveLengths : Files → List ℕ → List LogLength → Type 0
HaveLengths files numbers logs = (numbers_of logs ≡ numbers) × AllByRecursion (HasLength files) logs

-- one of them isn't there
abbrev pub LacksLog : Files → List ℕ → Type 0
LacksLog files numbers = (n : ℕ) × Contains numbers n × (get files (name_of (Log n)) ≡ None)
