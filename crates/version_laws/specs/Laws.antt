-- What a search by places tells of the sources.
use Rattle.std.specs.Prelude.{◌≡◌, ◌<◌, ◌≤◌, ◌+◌, ℕ, Option, None, Some, List, [], ◌∷◌, ◌++◌, get_or, map}
use Rattle.std.specs.Cmp.{IsTotalOrder}
use Rattle.std.specs.FinMap.{IsAntisymmetric}
use Rattle.std.specs.List.Sorted.{IsPermutation}
use Rattle.ikey.specs.declared.entry.Entry.{Entry}
use Rattle.ikey.specs.Orders.{Order}
use Rattle.ikey.specs.Keys.{IsFirstKey}
use Rattle.ikey.specs.Sources.{joined, AreSearched, SameEntries, IsAnswer}
use Rattle.ikey.specs.Views.{IsUnseen}
use Rattle.store.specs.Files.{Files}
use Rattle.edits.specs.declared.field.PlacedTable.{PlacedTable}
use Rattle.versions.specs.Levels.{ListsSameTables, AreInOrder}
use Rattle.versions.specs.Searches.{IsSearchedAt, IsSearchedNext}
use Rattle.recover.specs.Replacing.{AreParted}
use Rattle.recover.specs.Directory.{Directory, IsConsistent, entries_in}
use Rattle.recover.specs.Logs.{LogContent, batch_entries, logged}
use Rattle.recover.specs.Tables.{TableContent, HasTable, InTables, tabled, table_at}
use Rattle.recover.specs.internal.Checks.{content_of}
use Rattle.version_laws.specs.Places.{table_sources, FitVersion, HasVersion}

-- The contents that a version has fit it, and a table of it has no other entries.
abbrev pub FitLaw : Type 0
FitLaw = (order : Order) (files : Files) (tables : List PlacedTable) (contents : List TableContent) → HasVersion order files tables contents
    → FitVersion order tables contents × ((content other : TableContent) → InTables contents content → HasTable order files other → content.placed ≡ other.placed → content ≡ other)

-- A table that is searched at a place is one of the version's.
abbrev pub SearchedLaw : Type 0
SearchedLaw = (order : Order) (tables : List PlacedTable) (contents : List TableContent) (key : List ℕ) (place : ℕ) (placed : PlacedTable)
    → FitVersion order tables contents → IsSearchedAt order.cmp key tables place placed → (entries : List Entry) × InTables contents (content_of placed entries)

-- whatever entries the contents have as those of the table, this is what a search for the key in
-- them tells
abbrev pub TableAnswers : List TableContent → PlacedTable → ℕ → List ℕ → Option (Option (List ℕ)) → Type 0
TableAnswers contents placed sequence user answer = (entries : List Entry) → InTables contents (content_of placed entries) → IsAnswer entries sequence user answer

-- What a table that is searched at a place answers, the source of the place answers.
abbrev pub AnsweredLaw : Type 0
AnsweredLaw = (order : Order) (tables : List PlacedTable) (contents : List TableContent) (user : List ℕ) (sequence : ℕ) (key : List ℕ) (place : ℕ) (placed : PlacedTable) (answer : Option (Option (List ℕ)))
    → IsTotalOrder order.cmp → IsAntisymmetric order.cmp → FitVersion order tables contents → IsFirstKey user sequence key
    → IsSearchedAt order.cmp key tables place placed → TableAnswers contents placed sequence user answer → IsAnswer (get_or (table_sources contents) place []) sequence user answer

-- The source of a place at which no table is searched has no entry of the key that is seen.
abbrev pub PassedLaw : Type 0
PassedLaw = (order : Order) (tables : List PlacedTable) (contents : List TableContent) (user : List ℕ) (sequence : ℕ) (key : List ℕ) (place : ℕ)
    → IsTotalOrder order.cmp → IsAntisymmetric order.cmp → FitVersion order tables contents → IsFirstKey user sequence key
    → ((placed : PlacedTable) → IsSearchedAt order.cmp key tables place placed → ⊥)
    → IsUnseen (get_or (table_sources contents) place []) sequence user

-- ---- a search that goes from place to place, as `Version::next_searched` leads

-- the places before this one have nothing that is seen
abbrev pub IsSearchedUpTo : List TableContent → List ℕ → ℕ → ℕ → Type 0
IsSearchedUpTo contents user sequence place = (i : ℕ) → i < place → IsUnseen (get_or (table_sources contents) i []) sequence user

-- What a step begins with: the next table that is searched from a place on.
pub record IsStep (order : Order) (tables : List PlacedTable) (contents : List TableContent) (user : List ℕ) (sequence : ℕ) (key : List ℕ) (from place : ℕ) (placed : PlacedTable) : Type 0 where
  pub total : IsTotalOrder order.cmp
  pub exact : IsAntisymmetric order.cmp
  pub version : FitVersion order tables contents
  pub sought : IsFirstKey user sequence key
  pub so_far : IsSearchedUpTo contents user sequence from
  pub next : IsSearchedNext order.cmp key tables from place placed

-- Where the key isn't seen in the table, the search goes on after its place.
abbrev pub StepLaw : Type 0
StepLaw = (order : Order) (tables : List PlacedTable) (contents : List TableContent) (user : List ℕ) (sequence : ℕ) (key : List ℕ) (from place : ℕ) (placed : PlacedTable)
    → IsStep order tables contents user sequence key from place placed → TableAnswers contents placed sequence user None → IsSearchedUpTo contents user sequence (place + 1)

-- Where it is seen, that is what all tables answer.
abbrev pub TableFoundLaw : Type 0
TableFoundLaw = (order : Order) (tables : List PlacedTable) (contents : List TableContent) (user : List ℕ) (sequence : ℕ) (key : List ℕ) (from place : ℕ) (placed : PlacedTable) (value : Option (List ℕ))
    → IsStep order tables contents user sequence key from place placed → TableAnswers contents placed sequence user (Some value) → IsAnswer (joined (table_sources contents)) sequence user (Some value)

-- Where no table is searched from a place on, the key is seen in none.
abbrev pub EndLaw : Type 0
EndLaw = (order : Order) (tables : List PlacedTable) (contents : List TableContent) (user : List ℕ) (sequence : ℕ) (key : List ℕ) (from : ℕ)
    → IsTotalOrder order.cmp → IsAntisymmetric order.cmp → FitVersion order tables contents → IsFirstKey user sequence key → IsSearchedUpTo contents user sequence from
    → ((place : ℕ) (placed : PlacedTable) → from ≤ place → IsSearchedAt order.cmp key tables place placed → ⊥) → IsUnseen (joined (table_sources contents)) sequence user

-- ---- the memtables in front

-- What the last log has, what the logs before it have, and the tables are searched in this turn,
-- and are all entries.
abbrev pub MemoryLaw : Type 0
MemoryLaw = (order : Order) (files : Files) (d : Directory) (before : List LogContent) (last : LogContent) (sources : List (List Entry))
    → IsConsistent order files d → d.logs ≡ before ++ last ∷ [] → AreSearched sources → SameEntries (joined sources) (tabled d.tables)
    → AreSearched (batch_entries last.batches ∷ logged before ∷ sources) × SameEntries (joined (batch_entries last.batches ∷ logged before ∷ sources)) (entries_in d)

-- ---- the tables of a directory

-- A version that lists the tables of a consistent directory has them, with all their entries.
abbrev pub VersionLaw : Type 0
VersionLaw = (order : Order) (files : Files) (d : Directory) (tables : List PlacedTable) → IsTotalOrder order.cmp → IsAntisymmetric order.cmp
    → IsConsistent order files d → ListsSameTables d.layout.tables.items tables → AreInOrder order.cmp tables
    → (contents : List TableContent) × HasVersion order files tables contents × SameEntries (joined (table_sources contents)) (tabled d.tables)

-- The same holds for a version of some of them alone, as the inputs of a compaction.
abbrev pub PartLaw : Type 0
PartLaw = (order : Order) (files : Files) (d : Directory) (chosen rest : List TableContent) (tables : List PlacedTable) → IsTotalOrder order.cmp → IsAntisymmetric order.cmp
    → IsConsistent order files d → AreParted d.tables chosen rest → IsPermutation tables (map (λ (content : TableContent). content.placed) chosen) → AreInOrder order.cmp tables
    → (contents : List TableContent) × HasVersion order files tables contents × SameEntries (joined (table_sources contents)) (tabled chosen)

-- A version keeps its tables while their files stay.
abbrev pub KeptLaw : Type 0
KeptLaw = (order : Order) (old new : Files) (tables : List PlacedTable) (contents : List TableContent) → HasVersion order old tables contents
    → ((content : TableContent) → InTables contents content → table_at new content.placed.table.number ≡ table_at old content.placed.table.number)
    → HasVersion order new tables contents
