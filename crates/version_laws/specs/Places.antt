-- Where the entries of a version's tables are searched, place by place (LevelDB's
-- db/version_set.cc, Version::Get).
use Rattle.std.specs.Prelude.{◌≡◌, ◌⊎◌, ◌==◌, ◌<◌, ℕ, Some, List, [], ◌∷◌, ◌++◌, map, filter, reverse}
use Rattle.std.specs.List.{AllByRecursion}
use Rattle.ikey.specs.declared.entry.Entry.{Entry}
use Rattle.ikey.specs.Entries.{InternalEntry, entry_of, internal_key_of}
use Rattle.ikey.specs.Keys.{IsKey}
use Rattle.ikey.specs.Orders.{Order}
use Rattle.ikey.specs.Sources.{joined, AreSearched, AreSorted, AreInRow, ComesBefore}
use Rattle.ikey.specs.Views.{Among}
use Rattle.store.specs.Files.{Files}
use Rattle.edits.specs.Names.{IsNumbered}
use Rattle.edits.specs.declared.field.PlacedTable.{PlacedTable}
use Rattle.recover.specs.Tables.{TableContent, HasTables, table_at}

-- the tables of a level, in their order
abbrev pub contents_at : ℕ → List TableContent → List TableContent
contents_at level contents = filter (λ (content : TableContent). content.placed.level == level) contents

-- the entries of each of them
abbrev pub lists_of : List TableContent → List (List Entry)
lists_of contents = map (λ (content : TableContent). content.entries) contents

-- what is searched at each place: the tables of level 0 from the highest number down, and then each
-- deeper level as one
abbrev pub table_sources : List TableContent → List (List Entry)
table_sources contents =
    reverse (lists_of (contents_at 0 contents))
    ++ map (λ (level : ℕ). joined (lists_of (contents_at level contents))) (1 ∷ 2 ∷ 3 ∷ 4 ∷ 5 ∷ 6 ∷ [])

-- The files have the tables of a version, with these contents; in a level below 0 they lie in a
-- row.
pub record HasVersion (order : Order) (files : Files) (tables : List PlacedTable) (contents : List TableContent) : Type 0 where
  pub placed : map (λ (content : TableContent). content.placed) contents ≡ tables
  pub are : HasTables order files contents
  pub searched : AreSearched (table_sources contents)
  pub rows : (level : ℕ) → 0 < level → AreInRow order (lists_of (contents_at level contents))

-- ---- what the tables may have

-- The entries of a table fit its edit: they are in order, and lie between two of them that have the
-- edit's keys.
pub record FitsEdit (order : Order) (content : TableContent) : Type 0 where
  pub sorted : AreSorted order content.entries
  pub smallest : (first : Entry) × Among content.entries first × IsKey content.placed.table.smallest (internal_key_of first)
      × ((other : Entry) → Among content.entries other → (other ≡ first) ⊎ ComesBefore order first other)
  pub largest : (last : Entry) × Among content.entries last × IsKey content.placed.table.largest (internal_key_of last)
      × ((other : Entry) → Among content.entries other → (other ≡ last) ⊎ ComesBefore order other last)

-- Contents fit a version of these tables, whatever the files have: each fits its edit, what is
-- searched first is newer, and in a level below 0 they lie in a row.
pub record FitVersion (order : Order) (tables : List PlacedTable) (contents : List TableContent) : Type 0 where
  pub placed : map (λ (content : TableContent). content.placed) contents ≡ tables
  pub each : AllByRecursion (FitsEdit order) contents
  pub searched : AreSearched (table_sources contents)
  pub rows : (level : ℕ) → 0 < level → AreInRow order (lists_of (contents_at level contents))

-- The files have the table, whose bytes, by such a relation, may hold these entries.
pub record MayHold (holds : PlacedTable → List ℕ → List InternalEntry → Type 0) (files : Files) (content : TableContent) : Type 0 where
  pub numbered : IsNumbered content.placed.table.number
  pub bytes : List ℕ
  pub there : table_at files content.placed.table.number ≡ Some bytes
  pub kept : List InternalEntry
  pub held : holds content.placed bytes kept
  pub entries_are : content.entries ≡ map entry_of kept

-- By such a relation the files may have the tables of a version with these contents, which fit it.
pub record MayHaveVersion (holds : PlacedTable → List ℕ → List InternalEntry → Type 0) (order : Order) (files : Files) (tables : List PlacedTable) (contents : List TableContent) : Type 0 where
  pub fit : FitVersion order tables contents
  pub may : AllByRecursion (MayHold holds files) contents
