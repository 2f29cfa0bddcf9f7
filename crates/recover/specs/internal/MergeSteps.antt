-- What the steps of a merge of tables hand to one another.
use Rattle.std.specs.Prelude.{◌≡◌, ◌<◌, ◌≤◌, ℕ, Bool, true, false, List, [], ◌∷◌, Option, Some, None, length, map, slice_get, IsTrue}
use Rattle.coding.specs.declared.error.DbError.{DbError}
use Rattle.edits.specs.declared.field.PlacedTable.{PlacedTable}
use Rattle.ikey.specs.Keys.{Key}
use Rattle.ikey.specs.Orders.{Order}
use Rattle.ikey.specs.Sources.{ComesBefore}
use Rattle.ikey.specs.declared.entry.Entry.{Entry}
use Rattle.ikey.specs.declared.internal_key.InternalKey.{InternalKey}
use Rattle.store.specs.Files.{Files, Facts}
use Rattle.recover.specs.declared.logged.Logged.{Logged}
use Rattle.recover.specs.declared.merging.Against.{Against}
use Rattle.recover.specs.declared.merging.Lane.{Lane}
use Rattle.recover.specs.declared.merging.Merge.{Merge}
use Rattle.recover.specs.declared.report.TableSummary.{TableSummary}
use Rattle.recover.specs.internal.Checks.{Never, AreGood, AreOnly}
use Rattle.recover.specs.internal.Merging.{Came, IsMerging, AreByLevel, IsLogged, DoesWait}
use Rattle.recover.specs.internal.Parts.{IsUnchanged}
use Rattle.recover.specs.internal.Walking.{stamp}
use Rattle.recover.specs.Limits.{AnyIsUnsupported, TellsUnsupported}
use Rattle.recover.specs.Ranges.{HaveRanges}
use Rattle.recover.specs.Reading.{RefusesDirectory}
use Rattle.recover.specs.Report.{IsLongTable, table_summary}
use Rattle.recover.specs.Tables.{TableContent}

-- ---- what the tables are held against

-- what is logged, as entries: of these the values don't count
abbrev pub stamps : List Logged → List Entry
stamps [] = []
stamps (l ∷ logged) = stamp l.key.now l.sequence ∷ stamps logged

-- What is logged is in its order, and the tables are in theirs.
pub record IsAgainst (order : Order) (against : Against) : Type 0 where
  pub logged : IsLogged order (stamps against.logged.now) against.logged.now
  pub levels : AreByLevel against.tables.now
  pub ranges : HaveRanges order against.tables.now

-- ---- over any store

-- Each table has its summary, of so many entries, and is begun or not; and each lane is of a table.
pub record FitsTables {K : Type 0} (tables : List PlacedTable) (merge : Merge K) : Type 0 where
  pub lanes : (i : ℕ) (lane : Lane K) → slice_get merge.lanes.items i ≡ Some lane → lane.place < length tables
  pub begun : length merge.begun.items ≡ length tables
  pub summaries : length merge.summaries.items ≡ length tables
  pub of : (place : ℕ) (placed : PlacedTable) → slice_get tables place ≡ Some placed
      → (n : ℕ) × (slice_get merge.summaries.items place ≡ Some (record { level = placed.level; number = placed.table.number; entries = n }))

-- no table was begun
pub record IsFresh {K : Type 0} (tables : List PlacedTable) (merge : Merge K) : Type 0 where
  pub lanes : merge.lanes.items ≡ []
  pub last : merge.last.some ≡ false
  pub begun : (place : ℕ) → place < length tables → slice_get merge.begun.items place ≡ Some false

-- of the first tables, so many, none was begun, and each has its summary of no entries yet
pub record IsFilled (tables : List PlacedTable) (count : ℕ) (begun : List Bool) (summaries : List TableSummary) : Type 0 where
  pub inside : count ≤ length tables
  pub begun_long : length begun ≡ count
  pub unbegun : (place : ℕ) → place < count → slice_get begun place ≡ Some false
  pub long : length summaries ≡ count
  pub of : (place : ℕ) (placed : PlacedTable) → place < count → slice_get tables place ≡ Some placed
      → slice_get summaries place ≡ Some (record { level = placed.level; number = placed.table.number; entries = 0 })

-- ---- what has come

-- the tables are in the middle of their reading
abbrev pub IsMid : {K : Type 0} → Order → Files → Against → Merge K → Type 0
IsMid order files against merge =
    (came : List Came) × IsMerging order files (stamps against.logged.now) against.recorded against.tables.now merge.lanes.items merge.last merge.begun.items merge.summaries.items came

-- where the store is faithful, whose files were these
abbrev pub StandsMid : {K : Type 0} → Order → Facts → Facts → Against → Merge K → Type 0
StandsMid order old now against merge = IsTrue now.faithful → IsMid order old.files against merge

-- so they are after some steps, of which none has failed
pub record HoldsMerge {K : Type 0} (order : Order) (against : Against) (old now : Facts) (merge : Merge K) : Type 0 where
  pub store : IsUnchanged old now
  pub still : now.failures ≡ old.failures
  pub fits : FitsTables against.tables.now merge
  pub mid : IsTrue now.faithful → IsMid order old.files against merge

-- they were read to their ends, and are good
abbrev pub AreRead : {K : Type 0} → Order → Files → Against → Merge K → Type 0
AreRead order files against merge =
    (contents : List TableContent) × AreGood order files (stamps against.logged.now) against.recorded against.tables.now contents × (merge.summaries.items ≡ map table_summary contents)

-- the same where the store is faithful
abbrev pub StandsRead : {K : Type 0} → Order → Facts → Facts → Against → Merge K → Type 0
StandsRead order old now against merge = IsTrue now.faithful → AreRead order old.files against merge

-- what is answered as not supported isn't
abbrev pub TellsMerge : DbError → Order → Facts → Facts → Against → Type 0
TellsMerge e order old new against = TellsUnsupported e new (AnyIsUnsupported order old.files against.tables.now)

-- why they weren't
abbrev pub RefusesMerge : DbError → Order → Facts → Facts → Against → Type 0
RefusesMerge e order old new against =
    RefusesDirectory e old new (AreOnly Never order old.files (stamps against.logged.now) against.recorded against.tables.now)
    (AreOnly (IsLongTable order) order old.files (stamps against.logged.now) against.recorded against.tables.now)

-- ---- which table is begun next

-- the table at this place wasn't begun
abbrev pub CanBegin : List PlacedTable → List Bool → ℕ → Type 0
CanBegin tables begun place = (placed : PlacedTable) × (slice_get tables place ≡ Some placed) × (slice_get begun place ≡ Some false)

-- none that waits begins before this entry
abbrev pub AllBeginBehind : Order → List PlacedTable → List Bool → Entry → Type 0
AllBeginBehind order tables begun entry = (place : ℕ) (key : Key) → DoesWait tables begun place key → ComesBefore order (stamp key.user key.sequence) entry → ⊥

-- nor before this key; where there is no key none waits
abbrev pub AllBeginFrom : Order → List PlacedTable → List Bool → Option InternalKey → Type 0
AllBeginFrom order tables begun None = (place : ℕ) (key : Key) → DoesWait tables begun place key → ⊥
AllBeginFrom order tables begun (Some key) = AllBeginBehind order tables begun (stamp key.user.now key.sequence)

-- where there is no key no lane stands
abbrev pub HasEnded : {K : Type 0} → Option InternalKey → List (Lane K) → Type 0
HasEnded {K} None lanes = (i : ℕ) (lane : Lane K) → slice_get lanes i ≡ Some lane → lane.stands ≡ true → ⊥
HasEnded {K} (Some key) lanes = Unit {0}

-- none that waits begins before the entry of this lane
abbrev pub IsNext : {K : Type 0} → Order → List PlacedTable → Merge K → ℕ → Type 0
IsNext {K} order tables merge index =
    (lane : Lane K) → slice_get merge.lanes.items index ≡ Some lane → AllBeginBehind order tables merge.begun.items (stamp lane.walk.head.user.items lane.walk.head.sequence)
