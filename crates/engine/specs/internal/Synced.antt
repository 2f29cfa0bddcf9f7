-- What of its files an open database has synced.
use Rattle.std.specs.Prelude.{◌≡◌, ◌<◌, ◌≤◌, ℕ, false, None, List, Contains, map, string_bytes}
use Rattle.std.specs.FinMap.{get, contains_key}
use Rattle.std.specs.List.{AllByRecursion}
use Rattle.edits.specs.Names.{name_of, IsNumbered}
use Rattle.edits.specs.declared.field.PlacedTable.{PlacedTable}
use Rattle.edits.specs.declared.names.FileName.TheVariants.{Current, Log, Manifest, OldTable, Table}
use Rattle.opening.specs.Losses.{IsKept, IsLogBelow, IsLogRead, IsNoneOf, IsTableKept, logs_in_doubt}
use Rattle.opening.specs.declared.directory.CurrentLog.{CurrentLog}
use Rattle.opening.specs.declared.directory.DirectoryState.{DirectoryState}
use Rattle.store.specs.Files.{Facts}
use Rattle.store.specs.Losses.{StaysNamed, StaysOrBegins}

-- All that the next open reads is synced, except the logs of these names, and tables that were
-- there before this open. The numbers of those are below that of its MANIFEST, and what is durable
-- of them is known to who wrote them.
pub record AreSyncedBut (logs : List (List ℕ)) (facts : Facts) (state : DirectoryState) (tables : List PlacedTable) : Type 0 where
  pub current : IsKept facts (name_of Current)
  pub manifest : IsKept facts (name_of (Manifest state.manifest.number))
  pub others : (n : ℕ) → IsNumbered n → IsLogRead state n → IsNoneOf (name_of (Log n)) logs → IsKept facts (name_of (Log n))
  pub placed : (placed : PlacedTable) → Contains tables placed → state.manifest.number ≤ placed.table.number → IsTableKept facts placed.table.number

-- The files have the names that they should have, and their numbers were drawn.
pub record HaveNames (log : CurrentLog) (state : DirectoryState) (tables : List PlacedTable) : Type 0 where
  pub last : IsNumbered log.number × (log.number < state.numbers.next) × (string_bytes log.name ≡ name_of (Log log.number))
  pub front : AllByRecursion (IsLogBelow log.number) (map string_bytes log.front.items)
  pub forward : state.first_log ≤ log.number
  -- (it was begun by this open)
  pub begun : state.manifest.number < log.number
  pub manifest : IsNumbered state.manifest.number × (string_bytes state.manifest.name ≡ name_of (Manifest state.manifest.number))
  pub placed : (placed : PlacedTable) → Contains tables placed → IsNumbered placed.table.number × (placed.table.number < state.numbers.next)

-- Since the last sync no file that the next open reads was moved, replaced, made or removed, except
-- that logs were begun, of which nothing is synced. And there was no log with a number that is
-- still to be drawn.
pub record HaveStayed (facts : Facts) (state : DirectoryState) (tables : List PlacedTable) : Type 0 where
  pub current : StaysNamed facts (name_of Current)
  pub manifest : StaysNamed facts (name_of (Manifest state.manifest.number))
  pub logs : (n : ℕ) → IsNumbered n → IsLogRead state n → StaysOrBegins facts (name_of (Log n))
  -- (those that were there before this open weren't begun since)
  pub found : (n : ℕ) → IsNumbered n → IsLogRead state n → n < state.manifest.number → StaysNamed facts (name_of (Log n))
  pub placed : (placed : PlacedTable) → Contains tables placed → StaysNamed facts (name_of (Table placed.table.number))
      × (get facts.files (name_of (Table placed.table.number)) ≡ None → StaysNamed facts (name_of (OldTable placed.table.number)))
  pub undrawn : (n : ℕ) → IsNumbered n → state.numbers.next ≤ n → StaysNamed facts (name_of (Log n)) × (contains_key facts.files (name_of (Log n)) ≡ false)

-- All is synced but for the logs that a write with sync syncs.
pub record IsSyncedBut (facts : Facts) (log : CurrentLog) (state : DirectoryState) (tables : List PlacedTable) : Type 0 where
  pub synced : AreSyncedBut (logs_in_doubt log) facts state tables
  pub names : HaveNames log state tables
  pub stayed : HaveStayed facts state tables
