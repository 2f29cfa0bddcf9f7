-- What a reader holds, as its contracts see it.
use Rattle.std.specs.Prelude.{◌≡◌, ℕ, List, IsTrue}
use Rattle.coding.specs.declared.error.DbError.{DbError}
use Rattle.store.specs.Files.{Facts, Files}
use Rattle.ikey.specs.Orders.{Order}
use Rattle.ikey.specs.Views.{Contents}
use Rattle.edits.specs.declared.field.PlacedTable.{PlacedTable}
use Rattle.db_cursor.specs.Whole.{Whole, whole_in}
use Rattle.db_cursor.specs.declared.scan.Scan.{Scan}
use Rattle.reader.specs.declared.read_only.ReadOnly.{ReadOnly}
use Rattle.reader.specs.declared.reader.Reader.{Reader}
use Rattle.reader.specs.declared.reader.ReaderWalk.{ReaderWalk}
use Rattle.reader.specs.ReadOnly.{looked_at}
use Rattle.reader.specs.internal.Shows.{HoldsRead, MayShow, Shows}
use Rattle.reader.specs.Refusals.{RefusesRead}

abbrev pub store_of : {S K : Type 0} → Reader S K → ReadOnly S
store_of reader = reader.source.tables.store

-- what is known of its store
abbrev pub facts_of : {S K : Type 0} → (S → Facts) → Reader S K → Facts
facts_of facts reader = looked_at facts (store_of reader)

-- what it reads: its store with what is kept of its tables, and the entries of the logs
abbrev pub whole_of : {S K : Type 0} → (S → Facts) → Reader S K → Whole
whole_of facts reader = whole_in (looked_at facts) reader.source

abbrev pub tables_of : {S K : Type 0} → Reader S K → List PlacedTable
tables_of reader = reader.version.value.tables

abbrev pub last_of : {S K : Type 0} → Reader S K → ℕ
last_of reader = reader.source.memory.last

abbrev pub scan_of : {K : Type 0} {g : _} → ReaderWalk K g → Scan K g
scan_of walk = walk.scan

-- the reader shows this map
abbrev pub ShowsMap : {S K : Type 0} → Order → (S → Facts) → Reader S K → Contents → Type 0
ShowsMap order facts reader map = Shows order (whole_of facts reader) (tables_of reader) map

-- the reader holds what was read of a directory
abbrev pub HoldsDirectory : {S K : Type 0} → Order → (S → Facts) → Files → Reader S K → Type 0
HoldsDirectory order facts files reader = HoldsRead order files (whole_of facts reader) (tables_of reader)

-- That is so after an open over these files, and its cache has room for so many blocks.
pub record IsOpened {S K : Type 0} (order : Order) (facts : S → Facts) (files : Files) (blocks : ℕ) (reader : Reader S K) : Type 0 where
  pub directory : IsTrue (facts_of facts reader).faithful → HoldsDirectory order facts files reader
  pub cache : reader.source.tables.blocks.capacity ≡ blocks

-- as far as the blocks of its tables tell, it may show this one
abbrev pub MayShowMap : {S K : Type 0} → Order → (S → Facts) → Reader S K → Contents → Type 0
MayShowMap order facts reader map = MayShow order (whole_of facts reader) (tables_of reader) map

-- Why a key isn't read.
abbrev pub RefusesGet : {S K : Type 0} → Order → (S → Facts) → Reader S K → Reader S K → DbError → Type 0
RefusesGet order facts old new e = RefusesRead order (tables_of old) (whole_of facts old) (whole_of facts new) e

-- While the store is faithful, a call leaves the map that is shown.
abbrev pub KeepsMaps : {S K : Type 0} → Order → (S → Facts) → Reader S K → Reader S K → Type 0
KeepsMaps order facts old new = IsTrue (facts_of facts new).faithful
    → (map : Contents) → ShowsMap order facts old map → ShowsMap order facts new map

-- And each that may be shown.
abbrev pub KeepsMayMaps : {S K : Type 0} → Order → (S → Facts) → Reader S K → Reader S K → Type 0
KeepsMayMaps order facts old new = IsTrue (facts_of facts new).faithful → (map : Contents) → MayShowMap order facts old map → MayShowMap order facts new map
