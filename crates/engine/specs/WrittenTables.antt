-- What the table files hold that work writes.
use Rattle.std.specs.Prelude.{◌≡◌, ◌⊎◌, ℕ, IsTrue, IsSome, None, List, [], Contains, MatchOption, Result, Ok}
use Rattle.std.specs.List.Sorted.{IsPermutation}
use Rattle.cache.specs.Tables.{table_at}
use Rattle.coding.specs.declared.error.DbError.{DbError}
use Rattle.compact.specs.Needed.{AreNeeded}
use Rattle.directory_writes.specs.Replacing.{placed_in}
use Rattle.edits.specs.declared.field.PlacedTable.{PlacedTable}
use Rattle.ikey.specs.Orders.{Order}
use Rattle.ikey.specs.Sources.{SameEntries}
use Rattle.ikey.specs.declared.entry.Entry.{Entry}
use Rattle.memtables.specs.Memories.{sealed_inserts}
use Rattle.recover.specs.Tables.{HasTable, InTables, TableContent, tabled}
use Rattle.running_job.specs.Running.{deep_of}
use Rattle.running_job.specs.declared.open_job.OpenJob.{OpenJob}
use Rattle.store.specs.Files.{Files}
use Rattle.table_access.specs.Tables.{Seen}
use Rattle.versions.specs.Levels.{HasNumber}
use Rattle.versions.specs.Levels.{tables_at}
use Rattle.versions.specs.Plans.{IsLevelPlan}
use Rattle.versions.specs.declared.plan.JobPlan.{JobPlan}
use Rattle.engine.specs.declared.ids.Ids.{Ids}
use Rattle.engine.specs.declared.work.Progress.{Progress}
use Rattle.engine.specs.declared.work.Progress.TheVariants.{Worked}
use Rattle.engine.specs.OpenDb.{OpenDb}
use Rattle.engine.specs.Needed.{IsForLive}
use Rattle.machine.specs.Machine.{Machine}
use Rattle.engine.specs.internal.Standing.{StandsWhole}

-- The files of the tables of the version are as before.
abbrev pub KeepsTableFiles : {K : Type 0} {g : _} → Order → Seen → Seen → OpenDb K g → Type 0
KeepsTableFiles order old new before = (ids : Ids) (m : Machine) → StandsWhole order old ids before m → (number : ℕ) → HasNumber number before.tables → table_at new.facts.files number ≡ table_at old.facts.files number

-- ---- of a memtable

-- The version has a table of level 0 under the number that was next, whose file has exactly these
-- entries.
pub record HasFlushed {K : Type 0} {g : _} (order : Order) (files : Files) (entries : List Entry) (before after : OpenDb K g) : Type 0 where
  pub content : TableContent
  pub level : content.placed.level ≡ 0
  pub number : content.placed.table.number ≡ before.directory.numbers.next
  pub listed : Contains after.tables content.placed
  pub has : HasTable order files content
  pub entries_are : SameEntries content.entries entries

-- While the store is faithful, the same holds of the entries of the sealed memtable, unless there
-- are none.
abbrev pub PutsSealed : {K : Type 0} {g : _} → Order → Seen → Seen → OpenDb K g → OpenDb K g → Type 0
PutsSealed order old new before after =
    IsTrue new.facts.faithful → (ids : Ids) (m : Machine) → StandsWhole order old ids before m → (sealed_inserts before.memory ≡ []) ⊎ HasFlushed order new.facts.files (sealed_inserts before.memory) before after

-- The same holds after a call of work before which a memtable was sealed, and no compaction under
-- way.
abbrev pub FlushesSealed : {K : Type 0} {g : _} → Order → Seen → Seen → OpenDb K g → OpenDb K g → Result Progress DbError → Type 0
FlushesSealed order old new before after result = result ≡ Ok Worked → before.job ≡ None → IsSome before.memory.sealed → PutsSealed order old new before after

-- ---- of a compaction

-- Tables of its output level have come instead of its inputs. Their files have exactly those of the
-- inputs' entries that must be kept for its sequence numbers.
pub record HasMerged {K : Type 0} {g : _} (order : Order) (old new : Files) (work : OpenJob K g) (before after : OpenDb K g) : Type 0 where
  pub inputs : List TableContent
  pub outputs : List TableContent
  pub planned : IsPermutation work.job.plan.inputs.items (placed_in inputs)
  pub read : (input : TableContent) → InTables inputs input → HasTable order old input
  pub written : (output : TableContent) → InTables outputs output → HasTable order new output × (output.placed.level ≡ work.job.plan.output_level) × Contains after.tables output.placed
  pub others : (placed : PlacedTable) → Contains after.tables placed → Contains before.tables placed ⊎ Contains (placed_in outputs) placed
  pub entries : List Entry
  pub same : SameEntries entries (tabled inputs)
  pub needed : AreNeeded entries work.job.selection.snapshots (deep_of order.cmp work) (tabled outputs)

-- While the store is faithful, that is what the compaction under way has become.
abbrev pub PutsMerged : {K : Type 0} {g : _} → Order → Seen → Seen → OpenDb K g → OpenDb K g → Type 0
PutsMerged order old new before after =
    MatchOption before.job ⊥ (λ work. IsTrue new.facts.faithful → (ids : Ids) (m : Machine) → StandsWhole order old ids before m → HasMerged order old.facts.files new.facts.files work before after)

-- While the store is faithful, the call came through a state in which the compaction of this plan
-- had just begun, for the sequence numbers that are read at. That is what it has become.
abbrev pub MergesPlan : {K : Type 0} {g : _} → Order → JobPlan → Seen → Seen → OpenDb K g → OpenDb K g → Type 0
MergesPlan {K} {g} order plan old new before after =
    IsTrue new.facts.faithful → (between : Seen) × (mid : OpenDb K g) × ((ids : Ids) (m : Machine) → StandsWhole order old ids before m → (n : Machine) × StandsWhole order between ids mid n)
    × (mid.tables ≡ before.tables) × MatchOption mid.job ⊥ (λ work. (work.job.plan ≡ plan) × IsForLive work before) × PutsMerged order between new mid after

-- The same holds of a compaction of a level, unless the level had no table. The one under way, if
-- one was, had come to its end before it.
abbrev pub MergesLevel : {K : Type 0} {g : _} → Order → ℕ → Seen → Seen → OpenDb K g → OpenDb K g → Type 0
MergesLevel {K} {g} order level old new before after =
    IsTrue new.facts.faithful → (between : Seen) × (mid : OpenDb K g) × ((ids : Ids) (m : Machine) → StandsWhole order old ids before m → (n : Machine) × StandsWhole order between ids mid n)
    × (IsSome before.job → PutsMerged order old between before mid) × ((tables_at level mid.tables ≡ []) ⊎ ((plan : JobPlan) × IsLevelPlan order.cmp mid.tables level plan × MergesPlan order plan between new mid after))
