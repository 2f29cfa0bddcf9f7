-- A get through the tables of a version, whose files are read through caches.
use Rattle.std.specs.Prelude.{◌≡◌, ◌⊎◌, ◌<◌, ℕ, IsTrue, List, Option, None, Some}
use Rattle.cache.specs.Tables.{table_at}
use Rattle.cursor.specs.Places.{Cmp}
use Rattle.edits.specs.declared.field.PlacedTable.{PlacedTable}
use Rattle.ikey.specs.declared.entry.Entry.{Entry}
use Rattle.ikey.specs.Keys.{IsFirstKey}
use Rattle.ikey.specs.Orders.{Order}
use Rattle.ikey.specs.Sources.{IsAnswer, joined}
use Rattle.recover.specs.internal.Checks.{content_of}
use Rattle.recover.specs.Tables.{TableContent, HasTable, InTables}
use Rattle.version_laws.specs.Places.{table_sources, HasVersion, MayHaveVersion}
use Rattle.table_access.specs.Possible.{MayBeTable}
use Rattle.table_access.specs.Tables.{Seen, IsSound, SaysOf}
use Rattle.table_access.specs.Telling.{TellsOfKey, TornOfKey}
use Rattle.table_access.specs.Values.{IsTablePastLimit}
use Rattle.table.specs.Refusals.{IsFrameDamaged}
use Rattle.versions.specs.Searches.{IsSearchedAt}

-- ---- one table

-- what is kept is right, and the file of the table has these entries
abbrev pub TableHasEntries : Order → Seen → PlacedTable → List Entry → Type 0
TableHasEntries order source placed entries = IsSound order.cmp source × HasTable order source.facts.files (content_of placed entries)

-- no entries are those of the table
abbrev pub TableHasNoEntries : Order → Seen → PlacedTable → Type 0
TableHasNoEntries order source placed = (entries : List Entry) → TableHasEntries order source placed entries → ⊥

-- the file of the table is past a limit of reading
abbrev pub IsTooLong : Order → Seen → PlacedTable → Type 0
IsTooLong order source placed = (file : List ℕ) × (table_at source.facts.files placed.table.number ≡ Some file) × IsTablePastLimit order.cmp file

-- it is, whatever entries the table has
abbrev pub IsOnlyTooLong : Order → Seen → PlacedTable → Type 0
IsOnlyTooLong order source placed = (entries : List Entry) → TableHasEntries order source placed entries → IsTooLong order source placed

-- ---- all tables of a version

-- what is kept is right, and the files are the tables of the version, with these contents
abbrev pub HasTablesOf : Order → Seen → List PlacedTable → List TableContent → Type 0
HasTablesOf order source tables contents = IsSound order.cmp source × HasVersion order source.facts.files tables contents

-- no contents are those of the version
abbrev pub HasNoTablesOf : Order → Seen → List PlacedTable → Type 0
HasNoTablesOf order source tables = (contents : List TableContent) → HasTablesOf order source tables contents → ⊥

-- of a faithful store, this is what all tables of the version say of the key
abbrev pub SaysOfAll : Order → Seen → Seen → List PlacedTable → List ℕ → ℕ → Option (Option (List ℕ)) → Type 0
SaysOfAll order old new tables key sequence value =
    IsTrue new.facts.faithful → (contents : List TableContent) → HasTablesOf order old tables contents → IsAnswer (joined (table_sources contents)) sequence key value

-- what is kept is right, and as far as their blocks tell the files may be the tables of the
-- version, with these contents
abbrev pub MayHaveTablesOf : Order → Seen → List PlacedTable → List TableContent → Type 0
MayHaveTablesOf order source tables contents = IsSound order.cmp source × MayHaveVersion (MayBeTable order.cmp) order source.facts.files tables contents

-- of a faithful store, this is what all contents say of the key that the tables of the version may
-- have
abbrev pub SaysOfEach : Order → Seen → Seen → List PlacedTable → List ℕ → ℕ → Option (Option (List ℕ)) → Type 0
SaysOfEach order old new tables key sequence value =
    IsTrue new.facts.faithful → (contents : List TableContent) → MayHaveTablesOf order old tables contents → IsAnswer (joined (table_sources contents)) sequence key value

-- whatever contents they have, the file of one of them is past a limit of reading
abbrev pub IsOneTooLong : Order → Seen → List PlacedTable → Type 0
IsOneTooLong order source tables =
    (contents : List TableContent) → HasTablesOf order source tables contents → (content : TableContent) × InTables contents content × IsTooLong order source content.placed

-- ---- what the tables tell, whatever else their files hold

-- of a faithful store, this is what the filter or the blocks of the table tell of the key
abbrev pub TableTells : Cmp → Seen → Seen → List ℕ → ℕ → PlacedTable → Option (Option (List ℕ)) → Type 0
TableTells cmp old new key sequence placed value = SaysOf cmp old new placed.table.number (TellsOfKey cmp placed key sequence value)

module _ (cmp : Cmp) (old new : Seen) (tables : List PlacedTable) (key : List ℕ) (sequence : ℕ) (target : List ℕ) where
  -- no table is searched at this place, or one that tells nothing
  abbrev pub TellsNothingAt : ℕ → Type 0
  TellsNothingAt place =
      ((placed : PlacedTable) → IsSearchedAt cmp target tables place placed → ⊥)
      ⊎ ((placed : PlacedTable) × IsSearchedAt cmp target tables place placed × TableTells cmp old new key sequence placed None)

  -- the same holds at each place before this one
  abbrev pub TellNothing : ℕ → Type 0
  TellNothing end = (place : ℕ) → place < end → TellsNothingAt place

  -- none of the tables tells anything, or the first that does, as they are searched, tells this
  abbrev pub TellFirst : Option (Option (List ℕ)) → Type 0
  TellFirst None = (place : ℕ) → TellsNothingAt place
  TellFirst (Some value) = (place : ℕ) × (placed : PlacedTable) × IsSearchedAt cmp target tables place placed × TableTells cmp old new key sequence placed (Some value) × TellNothing place

abbrev pub TablesTell : Cmp → Seen → Seen → List PlacedTable → List ℕ → ℕ → Option (Option (List ℕ)) → Type 0
TablesTell cmp old new tables key sequence value = (target : List ℕ) × IsFirstKey key sequence target × TellFirst cmp old new tables key sequence target value

-- ---- refusals, whatever else the files hold

-- there is no such table, or its frame is damaged, or a search in it comes to a block that is none
abbrev pub TableTears : Cmp → Seen → Seen → List ℕ → ℕ → PlacedTable → Type 0
TableTears cmp old new key sequence placed =
    (placed.table.number ≡ 0) ⊎ SaysOf cmp old new placed.table.number (λ file. IsFrameDamaged cmp file ⊎ TornOfKey cmp placed key sequence file)

-- the same holds of a table that is searched, and each before it tells nothing
abbrev pub TablesTear : Cmp → Seen → Seen → List PlacedTable → List ℕ → ℕ → Type 0
TablesTear cmp old new tables key sequence =
    (target : List ℕ) × IsFirstKey key sequence target × (place : ℕ) × (placed : PlacedTable) × IsSearchedAt cmp target tables place placed
    × TellNothing cmp old new tables key sequence target place × TableTears cmp old new key sequence placed
