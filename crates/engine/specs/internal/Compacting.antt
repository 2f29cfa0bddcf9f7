-- A compaction that is under way in an open database (LevelDB's db/db_impl.cc,
-- DBImpl::DoCompactionWork).
use Rattle.std.specs.Prelude.{◌≡◌, ◌≤◌, ℕ, ◌++◌, Bool, false, Some, List, map, Contains}
use Rattle.std.specs.BTreeMap.{BTreeMap}
use Rattle.compact.specs.Laws.{SeesAsOne}
use Rattle.compact.specs.Outputs.{IsOwn}
use Rattle.ikey.specs.Entries.{InternalEntry, entry_of}
use Rattle.ikey.specs.Orders.{Order}
use Rattle.ikey.specs.Views.{AllUpTo}
use Rattle.running_job.specs.declared.open_job.OpenJob.{OpenJob}
use Rattle.running_job.specs.Running.{MayRun, deep_of}
use Rattle.db_cursor.specs.Inputs.{IsMergeIntact}
use Rattle.directory_writes.specs.Replacing.{IsPlanned, OwnsNone}
use Rattle.directory_writes.specs.internal.Each.{HasSameOutputs}
use Rattle.recover.specs.Tables.{TableContent}
use Rattle.store.specs.Files.{Files}
use Rattle.recover.specs.Directory.{Directory}
use Rattle.level_cursor.specs.InRows.{ListsNumber}
use Rattle.db_cursor.specs.declared.scan.Scan.{Scan}
use Rattle.db_cursor.specs.Scans.{tables_of}
use Rattle.db_cursor.specs.Whole.{Whole}
use Rattle.engine.specs.Reads.{kept_at}

-- what it compacts are no entries above this sequence number, which is one that it was begun for
pub record IsBegunAt {K : Type 0} {g : _} (work : OpenJob K g) (entries : List InternalEntry) (last reach : ℕ) : Type 0 where
  pub kept : Contains work.job.selection.snapshots reach
  pub used : reach ≤ last
  pub above : AllUpTo reach (map entry_of entries)

-- The job is under way over inputs that have the contents of this directory, in which the tables
-- that it wrote have the same files. Without damage no block of them is torn. No table that it
-- writes is one of the directory.
pub record IsRunningOver {K : Type 0} {g : _} (order : Order) (damaged : Bool) (whole : Whole) (ideal : Files) (next : ℕ) (d : Directory) (work : OpenJob K g) (came left : List InternalEntry) : Type 0 where
  pub inputs : List TableContent
  pub rest : List TableContent
  pub planned : IsPlanned order (deep_of order.cmp work) work.job.plan d.tables inputs rest
  pub unused : OwnsNone work.job.outputs d.layout.tables.items
  pub may : MayRun order whole next inputs work came left
  pub same : HasSameOutputs work.job.outputs whole.seen.facts.files ideal
  pub intact : damaged ≡ false → IsMergeIntact order.cmp work.job.cursor whole

-- Each snapshot sees of what it compacts what one of the sequence numbers sees for which it was
-- begun: those of the snapshots then, and the last one. No open iterator reads a table that it
-- writes.
pub record IsCompacting {K : Type 0} {g : _} (order : Order) (damaged : Bool) (whole : Whole) (ideal : Files) (next : ℕ) (snapshots : BTreeMap ℕ ℕ) (iterators : BTreeMap ℕ (Scan K g)) (d : Directory) (work : OpenJob K g) : Type 0 where
  pub came : List InternalEntry
  pub left : List InternalEntry
  pub running : IsRunningOver order damaged whole ideal next d work came left
  pub reach : ℕ
  pub begun : IsBegunAt work (came ++ left) whole.memory.last reach
  pub seen : (id sequence : ℕ) → kept_at snapshots id ≡ Some sequence → SeesAsOne (map entry_of (came ++ left)) work.job.selection.snapshots sequence
  pub unread : (id : ℕ) (scan : Scan K g) → kept_at iterators id ≡ Some scan → (number : ℕ) → ListsNumber (tables_of scan) number → IsOwn work.job.outputs number → ⊥
  -- no table that it writes was there before the open
  pub since : (number : ℕ) → IsOwn work.job.outputs number → d.manifest ≤ number
