-- The tables of a directory.
use Rattle.std.specs.Prelude.{◌≡◌, ◌⊎◌, ◌<◌, ℕ, Option, Some, List, [], ◌∷◌, ◌++◌, length, map}
use Rattle.std.specs.FinMap.{get}
use Rattle.coding.specs.Fixed.{fixed64}
use Rattle.ikey.specs.Orders.{Order}
use Rattle.store.specs.Files.{Files}
use Rattle.edits.specs.declared.field.PlacedTable.{PlacedTable}
use Rattle.std.specs.Option.{option_or}
use Rattle.edits.specs.declared.names.FileName.TheVariants.{Table, OldTable}
use Rattle.edits.specs.Names.{name_of, IsNumbered}
use Rattle.ikey.specs.declared.entry.Entry.{Entry}
use Rattle.ikey.specs.Entries.{InternalEntry, internal_key_of, entry_of}
use Rattle.ikey.specs.Keys.{tag_of}
use Rattle.table.specs.Table.{IsTable}
use Rattle.ikey.specs.Sources.{ComesBefore, AreSorted}
use Rattle.ikey.specs.Views.{Among}

-- the bytes are the table file of these entries
abbrev pub IsTableFile : Order → List ℕ → List Entry → Type 0
IsTableFile order bytes entries = (kept : List InternalEntry) × IsTable order.cmp bytes kept × (entries ≡ map entry_of kept)

-- The bytes of a table: of the file that ends in `.ldb` or, if there is none, of the one that ends
-- in `.sst`, as older writers named it.
abbrev pub table_at : Files → ℕ → Option (List ℕ)
table_at files number = option_or (get files (name_of (Table number))) (get files (name_of (OldTable number)))

-- a table and what is in it
pub record TableContent : Type 0 where
  pub placed : PlacedTable
  pub entries : List Entry

-- the bytes of the internal key of an entry (LevelDB's db/dbformat.h)
abbrev pub internal_key : Entry → List ℕ
internal_key entry = entry.key ++ fixed64 (tag_of (internal_key_of entry))

-- The file is there with the size and the keys of its edit.
pub record HasTable (order : Order) (files : Files) (content : TableContent) : Type 0 where
  pub numbered : IsNumbered content.placed.table.number
  pub bytes : List ℕ
  pub there : table_at files content.placed.table.number ≡ Some bytes
  pub size : length bytes ≡ content.placed.table.size
  pub spelled : IsTableFile order bytes content.entries
  pub sorted : AreSorted order content.entries
  pub smallest : (first : Entry) × Among content.entries first × (internal_key first ≡ content.placed.table.smallest)
      × ((other : Entry) → Among content.entries other → (other ≡ first) ⊎ ComesBefore order first other)
  pub largest : (last : Entry) × Among content.entries last × (internal_key last ≡ content.placed.table.largest)
      × ((other : Entry) → Among content.entries other → (other ≡ last) ⊎ ComesBefore order other last)

abbrev pub HasTables : Order → Files → List TableContent → Type 0
HasTables order files [] = Unit {0}
HasTables order files (content ∷ contents) = HasTable order files content × HasTables order files contents

abbrev pub InTables : List TableContent → TableContent → Type 0
InTables [] content = ⊥
InTables (first ∷ contents) content = (content ≡ first) ⊎ InTables contents content

abbrev pub tabled : List TableContent → List Entry
tabled [] = []
tabled (content ∷ contents) = content.entries ++ tabled contents

-- all entries of one come before all of the other
abbrev pub LieApart : Order → TableContent → TableContent → Type 0
LieApart order a b = ((e f : Entry) → Among a.entries e → Among b.entries f → ComesBefore order e f) ⊎ ((e f : Entry) → Among a.entries e → Among b.entries f → ComesBefore order f e)

-- of the same key the entries of one are newer than those of the other
abbrev pub AreNewer : TableContent → TableContent → Type 0
AreNewer a b = (e f : Entry) → Among a.entries e → Among b.entries f → e.key ≡ f.key → f.sequence < e.sequence

-- What holds of any two tables, the first of which comes before the second by level and number. A
-- level below 0 has no overlaps, a shallower one is newer, and in level 0 the greater number is.
abbrev pub AreTwoTables : Order → TableContent → TableContent → Type 0
AreTwoTables order a b =
    (a.placed.level < b.placed.level → AreNewer a b)
    × (a.placed.level ≡ b.placed.level → 0 < a.placed.level → LieApart order a b)
    × (a.placed.level ≡ 0 → b.placed.level ≡ 0 → AreNewer b a)

abbrev pub AreTables : Order → List TableContent → Type 0
AreTables order [] = Unit {0}
AreTables order (content ∷ contents) = ((other : TableContent) → InTables contents other → AreTwoTables order content other) × AreTables order contents
