-- Which tables and memtables an open database still reads.
use Rattle.std.specs.Prelude.{◌≡◌, ◌⊎◌, ℕ, List, Option, Some, None, Any, MatchOption}
use Rattle.std.specs.BTreeMap.{BTreeMap}
use Rattle.std.specs.Map.{values_of}
use Rattle.compact.specs.Outputs.{IsOwn}
use Rattle.edits.specs.declared.field.PlacedTable.{PlacedTable}
use Rattle.memtables.specs.Memories.{Memories, older_at}
use Rattle.running_job.specs.declared.open_job.OpenJob.{OpenJob}
use Rattle.db_cursor.specs.Scans.{reads_memory, tables_of}
use Rattle.db_cursor.specs.declared.scan.Scan.{Scan}
use Rattle.versions.specs.Levels.{HasNumber}

-- one of the open iterators has this property
abbrev pub AnyIterator : {K : Type 0} {g : _} → BTreeMap ℕ (Scan K g) → (Scan K g → Type 0) → Type 0
AnyIterator iterators P = Any P (values_of iterators.entries)

-- the table of this number is one of these, or of the version of an open iterator
abbrev pub IsTableRead : {K : Type 0} {g : _} → List PlacedTable → BTreeMap ℕ (Scan K g) → ℕ → Type 0
IsTableRead tables iterators number = HasNumber number tables ⊎ AnyIterator iterators (λ scan. HasNumber number (tables_of scan))

-- it is one of those that the compaction under way goes over, or that it has written
abbrev pub IsJobTable : {K : Type 0} {g : _} → Option (OpenJob K g) → ℕ → Type 0
IsJobTable job number = MatchOption job ⊥ (λ work. HasNumber number work.job.plan.inputs.items ⊎ IsOwn work.job.outputs number)

-- any of these
abbrev pub IsTableUsed : {K : Type 0} {g : _} → List PlacedTable → Option (OpenJob K g) → BTreeMap ℕ (Scan K g) → ℕ → Type 0
IsTableUsed tables job iterators number = IsTableRead tables iterators number ⊎ IsJobTable job number

-- an open iterator reads the memtable of this generation
abbrev pub IsMemoryUsed : {K : Type 0} {g : _} → BTreeMap ℕ (Scan K g) → ℕ → Type 0
IsMemoryUsed iterators generation = AnyIterator iterators (λ scan. reads_memory scan generation)

-- beside the current memtable none is there but the sealed one and those that open iterators
-- read
abbrev pub HasUsedMemory : {K : Type 0} {g : _} → Memories → BTreeMap ℕ (Scan K g) → Type 0
HasUsedMemory memory iterators = (generation : ℕ) → ((memory.sealed ≡ Some generation) ⊎ IsMemoryUsed iterators generation → ⊥) → older_at memory.older generation ≡ None
