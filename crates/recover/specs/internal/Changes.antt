-- What a database with tables does to its directory, and what that leaves of the meaning (LevelDB's
-- doc/impl.md).
use Rattle.std.specs.Prelude.{◌≡◌, ◌≢◌, ◌⊎◌, ◌<◌, ◌≤◌, ◌+◌, ℕ, true, Some, List, [], ◌∷◌, ◌++◌, if◌then◌else◌, length, take, map}
use Rattle.std.specs.FinMap.{get, insert, contains_key}
use Rattle.std.specs.Cmp.{IsTotalOrder}
use Rattle.ikey.specs.Orders.{Order}
use Rattle.ikey.specs.Keys.{Key, IsKey}
use Rattle.std.specs.declared.cmp.Ordering.TheVariants.{Less}
use Rattle.store.specs.Files.{Files}
use Rattle.logfile.specs.declared.record.Tail.TheVariants.{Clean}
use Rattle.edits.specs.Edit.{IsEdit, HasPastLimit}
use Rattle.edits.specs.Layout.{IsLayout, fields_of, is_before, inserted}
use Rattle.edits.specs.Names.{name_of, IsNumbered}
use Rattle.edits.specs.declared.field.Field.{Field}
use Rattle.edits.specs.declared.field.PlacedTable.{PlacedTable}
use Rattle.edits.specs.declared.layout.Layout.{Layout}
use Rattle.edits.specs.declared.names.FileName.TheVariants.{Current, Log, Table, OldTable, Manifest}
use Rattle.ikey.specs.declared.entry.Entry.{Entry}
use Rattle.batch.specs.Batch.{IsBatch}
use Rattle.batch.specs.declared.operation.Operation.{Operation}
use Rattle.table.specs.Writing.{KeepsOthers}
use Rattle.recover.specs.Entries.{entries_of}
use Rattle.ikey.specs.Views.{Among}
use Rattle.ikey.specs.Sources.{AreSorted, SameEntries}
use Rattle.recover.specs.Tables.{table_at, TableContent, HasTable, InTables, tabled}
use Rattle.recover.specs.Logs.{LogContent, IsLive, batch_entries, logged}
use Rattle.recover.specs.Directory.{Directory, IsConsistent, HasManifest, EndsAt, entries_in, used_in}
use Rattle.recover.specs.internal.Laws.{AddsRecord, AddsAllOrNothing, IsSameLayout}
use Rattle.recover.specs.Reading.{Recovers, IsBeyondReading}
use Rattle.recover.specs.declared.reading.Recovered.{Recovered}
use Rattle.recover.specs.Replacing.{AreDistinct, AreParted, MayReplace}

-- ---- the last log

-- the same parts, but for these entries after those of the last log
pub record IsExtended (d e : Directory) (more : List Entry) : Type 0 where
  pub before : List LogContent
  pub last : LogContent
  pub next : LogContent
  pub old : d.logs ≡ before ++ last ∷ []
  pub new : e ≡ record d { logs = before ++ next ∷ [] }
  pub number : next.number ≡ last.number
  pub entries : batch_entries next.batches ≡ batch_entries last.batches ++ more

-- A whole record for the next batch after the last log adds its entries there, and changes no other
-- part.
abbrev pub ExtendLaw : Type 0
ExtendLaw = (order : Order) (files : Files) (d : Directory) (log position : ℕ) (operations : List Operation) (payload added before : List ℕ)
    → IsConsistent order files d → EndsAt files d log position → get files (name_of (Log log)) ≡ Some before
    → IsBatch payload (used_in d + 1) operations → AddsRecord position payload added
    → (e : Directory) × IsConsistent order (insert files (name_of (Log log)) (before ++ added)) e
    × EndsAt (insert files (name_of (Log log)) (before ++ added)) e log (position + length added)
    × IsExtended d e (entries_of (used_in d + 1) operations) × (used_in e ≡ used_in d + length operations)

-- A beginning of its bytes changes no part but the last log, which ends otherwise, or has all of
-- the batch's entries.
abbrev pub FailedExtendLaw : Type 0
FailedExtendLaw = (order : Order) (files : Files) (d : Directory) (log position n : ℕ) (operations : List Operation) (payload added before : List ℕ)
    → IsConsistent order files d → EndsAt files d log position → get files (name_of (Log log)) ≡ Some before
    → IsBatch payload (used_in d + 1) operations → AddsAllOrNothing position payload added
    → (e : Directory) × IsConsistent order (insert files (name_of (Log log)) (before ++ take n added)) e
    × ((IsExtended d e [] × (used_in e ≡ used_in d)) ⊎ (IsExtended d e (entries_of (used_in d + 1) operations) × (used_in e ≡ used_in d + length operations)))

-- a log without batches
abbrev pub empty_log : ℕ → LogContent
empty_log number = record { number = number; batches = []; tail = Clean }

-- the same parts, and such a log after the others
abbrev pub with_log : Directory → ℕ → Directory
with_log d number = record d { logs = d.logs ++ empty_log number ∷ [] }

-- An empty log above all others changes no other part.
abbrev pub BeginLogLaw : Type 0
BeginLogLaw = (order : Order) (files : Files) (d : Directory) (number : ℕ)
    → IsConsistent order files d → IsNumbered number → IsLive d.layout number
    → ((n : ℕ) → IsNumbered n → contains_key files (name_of (Log n)) ≡ true → n < number)
    → IsConsistent order (insert files (name_of (Log number)) []) (with_log d number)
    × EndsAt (insert files (name_of (Log number)) []) (with_log d number) number 0
    × (logged (with_log d number).logs ≡ logged d.logs)

-- ---- the MANIFEST

-- the current MANIFEST, which ends clean at this position, so that an edit can be put after it
pub record ManifestEndsAt (order : Order) (files : Files) (number position : ℕ) (edits : List (List Field)) (layout : Layout) : Type 0 where
  pub manifest : HasManifest order files number edits layout
  pub clean : manifest.spelled.tail ≡ Clean
  pub length : length manifest.bytes ≡ position

-- The record of an edit after it adds the edit.
abbrev pub EditLaw : Type 0
EditLaw = (order : Order) (files : Files) (number position : ℕ) (edits : List (List Field)) (layout next : Layout) (edit : List Field) (payload added before : List ℕ)
    → ManifestEndsAt order files number position edits layout → get files (name_of (Manifest number)) ≡ Some before
    → IsEdit payload edit → AddsRecord position payload added → IsLayout order.name (edits ++ edit ∷ []) next
    → ManifestEndsAt order (insert files (name_of (Manifest number)) (before ++ added)) number (position + length added) (edits ++ edit ∷ []) next

-- A beginning of that record adds nothing, or all of the edit.
abbrev pub FailedEditLaw : Type 0
FailedEditLaw = (order : Order) (files : Files) (number position n : ℕ) (edits : List (List Field)) (layout next : Layout) (edit : List Field) (payload added before : List ℕ)
    → ManifestEndsAt order files number position edits layout → get files (name_of (Manifest number)) ≡ Some before
    → IsEdit payload edit → AddsAllOrNothing position payload added → IsLayout order.name (edits ++ edit ∷ []) next
    → HasManifest order (insert files (name_of (Manifest number)) (before ++ take n added)) number edits layout
    ⊎ HasManifest order (insert files (name_of (Manifest number)) (before ++ take n added)) number (edits ++ edit ∷ []) next

-- the files agree in the logs and tables of a directory of these parts
pub record AgreeBeside (old new : Files) (d : Directory) : Type 0 where
  pub logs : (n : ℕ) → IsNumbered n → IsLive d.layout n → get new (name_of (Log n)) ≡ get old (name_of (Log n))
  pub tables : (content : TableContent) → InTables d.tables content → table_at new content.placed.table.number ≡ table_at old content.placed.table.number

-- Where the MANIFEST says the same as before, these parts do too, however the bytes end after its
-- edits.
abbrev pub SameManifestLaw : Type 0
SameManifestLaw = (order : Order) (old new : Files) (d : Directory) → IsConsistent order old d
    → HasManifest order new d.manifest d.edits d.layout → AgreeBeside old new d → IsConsistent order new d

-- ---- a flush

-- the contents with one more in the place of its table
abbrev pub with_content : TableContent → List TableContent → List TableContent
with_content new [] = new ∷ []
with_content new (content ∷ contents) = if is_before new.placed content.placed then new ∷ content ∷ contents else content ∷ with_content new contents

-- The layout is that of a flush. What was logged before the current log is in a new table of level
-- 0 instead, whose number is above those of all tables. The log number is the current log's, and
-- all used sequence numbers are recorded.
pub record IsFlush (d : Directory) (next : Layout) (content : TableContent) (sealed : List LogContent) (current : LogContent) : Type 0 where
  pub logs : d.logs ≡ sealed ++ current ∷ []
  pub entries : SameEntries content.entries (logged sealed)
  pub level : content.placed.level ≡ 0
  pub above : (other : TableContent) → InTables d.tables other → other.placed.table.number < content.placed.table.number
  pub tables : next.tables.items ≡ inserted content.placed d.layout.tables.items
  pub forward : d.layout.log_number ≤ current.number
  pub log_number : next.log_number ≡ current.number
  pub previous_log_number : next.previous_log_number ≡ 0
  pub last_sequence : next.last_sequence ≡ used_in d

-- the parts after a flush
abbrev pub flushed : Directory → List (List Field) → Layout → TableContent → LogContent → Directory
flushed d edits next content current = record { manifest = d.manifest; edits = edits; layout = next; tables = with_content content d.tables; logs = current ∷ [] }

-- A flush keeps the meaning.
abbrev pub FlushLaw : Type 0
FlushLaw = (order : Order) (old new : Files) (d : Directory) (edits : List (List Field)) (next : Layout) (content : TableContent) (sealed : List LogContent) (current : LogContent)
    → IsConsistent order old d → HasManifest order new d.manifest edits next → AgreeBeside old new d → HasTable order new content → IsFlush d next content sealed current
    → IsConsistent order new (flushed d edits next content current)
    × SameEntries (entries_in (flushed d edits next content current)) (entries_in d) × (used_in (flushed d edits next content current) ≡ used_in d)

-- ---- a compaction

-- The layout is that of a compaction: instead of the inputs are outputs of a level from 1 on, in
-- order, with none but entries of the inputs. All used sequence numbers are recorded.
pub record IsCompaction (order : Order) (d : Directory) (next : Layout) (inputs rest outputs contents : List TableContent) (level : ℕ) : Type 0 where
  pub old_tables : AreParted d.tables inputs rest
  pub replaceable : MayReplace order inputs rest level
  pub positive : 0 < level
  pub levels : (output : TableContent) → InTables outputs output → output.placed.level ≡ level
  pub taken : (entry : Entry) → Among (tabled outputs) entry → Among (tabled inputs) entry
  pub sorted : AreSorted order (tabled outputs)
  pub new_tables : AreParted contents outputs rest
  pub tables : map (λ content. content.placed) contents ≡ next.tables.items
  pub log_number : next.log_number ≡ d.layout.log_number
  pub previous_log_number : next.previous_log_number ≡ d.layout.previous_log_number
  pub last_sequence : next.last_sequence ≡ used_in d

-- the parts after a compaction
abbrev pub compacted : Directory → List (List Field) → Layout → List TableContent → Directory
compacted d edits next contents = record { manifest = d.manifest; edits = edits; layout = next; tables = contents; logs = d.logs }

-- A compaction leaves a consistent directory, with the outputs' entries instead of the inputs'.
abbrev pub CompactionLaw : Type 0
CompactionLaw = (order : Order) (old new : Files) (d : Directory) (edits : List (List Field)) (next : Layout) (inputs rest outputs contents : List TableContent) (level : ℕ)
    → IsConsistent order old d → HasManifest order new d.manifest edits next → AgreeBeside old new d
    → ((output : TableContent) → InTables outputs output → HasTable order new output) → IsCompaction order d next inputs rest outputs contents level
    → IsConsistent order new (compacted d edits next contents)
    × SameEntries (entries_in d) (tabled inputs ++ (tabled rest ++ logged d.logs))
    × SameEntries (entries_in (compacted d edits next contents)) (tabled outputs ++ (tabled rest ++ logged d.logs))
    × (used_in (compacted d edits next contents) ≡ used_in d)

-- ---- which inputs may be replaced

-- each user key of the first table is below each of the second, by the keys of their edits
abbrev pub HasLowerKeys : Order → PlacedTable → PlacedTable → Type 0
HasLowerKeys order a b = (k l : Key) × IsKey a.table.largest k × IsKey b.table.smallest l × (order.cmp k.user l.user ≡ Less)

-- The inputs are tables of a level and of the next one. No table that stays shares a user key with
-- an input of the same level; in level 0 none stays. Those of the next level lie wholly below or
-- above all inputs.
pub record AreClosedInputs (order : Order) (inputs rest : List TableContent) (level : ℕ) : Type 0 where
  pub levels : (input : TableContent) → InTables inputs input → (input.placed.level ≡ level) ⊎ (input.placed.level ≡ level + 1)
  pub whole : (stays : TableContent) → InTables rest stays → stays.placed.level ≡ level → 0 < level
  pub same : (stays input : TableContent) → InTables rest stays → InTables inputs input → stays.placed.level ≡ level → input.placed.level ≡ level
      → HasLowerKeys order stays.placed input.placed ⊎ HasLowerKeys order input.placed stays.placed
  pub next : (stays : TableContent) → InTables rest stays → stays.placed.level ≡ level + 1
      → ((input : TableContent) → InTables inputs input → HasLowerKeys order stays.placed input.placed)
      ⊎ ((input : TableContent) → InTables inputs input → HasLowerKeys order input.placed stays.placed)

-- Such inputs may be replaced by tables of the next level.
abbrev pub ClosedLaw : Type 0
ClosedLaw = (order : Order) (files : Files) (d : Directory) (inputs rest : List TableContent) (level : ℕ) → IsTotalOrder order.cmp
    → IsConsistent order files d → AreParted d.tables inputs rest → AreClosedInputs order inputs rest level → MayReplace order inputs rest (level + 1)

-- ---- obsolete files

-- A directory of these parts reads no file of this name. It is neither `CURRENT` nor its MANIFEST
-- nor a log in use, and if it is the older name of a table, the table is there under the newer one.
pub record IsUnread (files : Files) (d : Directory) (name : List ℕ) : Type 0 where
  pub current : name ≢ name_of Current
  pub manifest : name ≢ name_of (Manifest d.manifest)
  pub logs : (n : ℕ) → IsNumbered n → IsLive d.layout n → name ≢ name_of (Log n)
  pub tables : (content : TableContent) → InTables d.tables content → name ≢ name_of (Table content.placed.table.number)
  pub old_tables : (content : TableContent) → InTables d.tables content
      → (name ≢ name_of (OldTable content.placed.table.number)) ⊎ (contains_key files (name_of (Table content.placed.table.number)) ≡ true)

-- Such a file may be written or removed.
abbrev pub UnreadLaw : Type 0
UnreadLaw = (order : Order) (old new : Files) (d : Directory) (name : List ℕ)
    → IsConsistent order old d → IsUnread old d name → KeepsOthers old new name → IsConsistent order new d

-- ---- which entries there are

-- Nor have two entries of a consistent directory, in whichever files they are.
abbrev pub DistinctLaw : Type 0
DistinctLaw = (order : Order) (files : Files) (d : Directory) → IsTotalOrder order.cmp → IsConsistent order files d → AreDistinct (entries_in d)

-- ---- past the limits

-- A MANIFEST that is there, and beyond what is read, names a table past the limit of numbers.
abbrev pub BeyondLaw : Type 0
BeyondLaw = (order : Order) (files : Files) (number : ℕ) (edits : List (List Field)) (layout : Layout)
    → IsBeyondReading order files → HasManifest order files number edits layout → HasPastLimit (fields_of edits)

-- ---- what was read without the tables

-- What was read of a directory is that of its parts, if it is consistent.
abbrev pub RecoveredLaw : Type 0
RecoveredLaw = (order : Order) (files : Files) (recovered : Recovered) (d : Directory) → Recovers order files recovered → IsConsistent order files d
    → IsSameLayout d.layout recovered.layout × (logged d.logs ≡ recovered.entries.items) × (used_in d ≡ recovered.used)
