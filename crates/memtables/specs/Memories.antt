-- The memtables of an open database (LevelDB's db/db_impl.h, DBImpl::mem_ and DBImpl::imm_).
use Rattle.std.specs.Prelude.{◌≡◌, ◌<◌, ◌≤◌, ◌+◌, ◌^◌, ℕ, nat_eq, if◌then◌else◌, List, [], ◌++◌, length, sum_by, Option, Some, None, IfSome, IsSome}
use Rattle.std.specs.Option.{option_and_then}
use Rattle.std.specs.Ordering.{nat_cmp}
use Rattle.std.specs.BTreeMap.{is_at}
use Rattle.std.specs.Map.{lookup}
use Rattle.batch.specs.declared.operation.Operation.{Operation}
use Rattle.batch.specs.declared.operation.Operation.TheVariants.{Put, Delete}
use Rattle.ikey.specs.declared.entry.Entry.{Entry}
use Rattle.ikey.specs.Sources.{IsNewerThan}
use Rattle.ikey.specs.Views.{AllUpTo}
use Rattle.memtable.specs.Contents.{Contents}

-- The table that writes go to, with the last sequence number used and the generation under which it
-- is known. And the older ones under theirs, with that of the sealed one, which waits to be written
-- into a table file.
pub record Memories : Type 0 where
  pub current : Contents
  pub last : ℕ
  pub generation : ℕ
  pub sealed : Option ℕ
  pub older : List (ℕ × Contents)

-- the older table of a generation
abbrev pub older_at : List (ℕ × Contents) → ℕ → Option Contents
older_at older generation = lookup (is_at (nat_cmp generation)) older

-- the table of a generation
abbrev pub table_in : Memories → ℕ → Option Contents
table_in memories generation = if nat_eq generation memories.generation then Some memories.current else older_at memories.older generation

-- the sealed table
abbrev pub sealed_in : Memories → Option Contents
sealed_in memories = option_and_then (older_at memories.older) memories.sealed

abbrev pub inserts_of : Option Contents → List Entry
inserts_of None = []
inserts_of (Some table) = table.inserts

-- the entries of the sealed table, and none where no table is sealed
abbrev pub sealed_inserts : Memories → List Entry
sealed_inserts memories = inserts_of (sealed_in memories)

-- the entries of the logs, in their order: those of the sealed table, and then the current one's
abbrev pub logged_in : Memories → List Entry
logged_in memories = sealed_inserts memories ++ memories.current.inserts

-- No entry is above the last sequence number, older tables have lower generations, and the sealed
-- one is one of them. Of the same key, the current table's entries are newer than the sealed one's.
pub record AreMemories (memories : Memories) : Type 0 where
  pub current : AllUpTo memories.last memories.current.inserts
  pub older : (generation : ℕ) (table : Contents) → older_at memories.older generation ≡ Some table → AllUpTo memories.last table.inserts
  pub below : (generation : ℕ) (table : Contents) → older_at memories.older generation ≡ Some table → generation < memories.generation
  pub sealed : IfSome memories.sealed (λ (generation : ℕ). IsSome (older_at memories.older generation))
  pub newer : IsNewerThan memories.current.inserts (sealed_inserts memories)
  pub fits : memories.last < 2 ^ 56

-- there is no table beside the current one
pub record IsAlone (memories : Memories) : Type 0 where
  pub sealed : memories.sealed ≡ None
  pub older : (generation : ℕ) → older_at memories.older generation ≡ None

-- ---- room

-- the bytes that an operation has
abbrev pub operation_bytes : Operation → ℕ
operation_bytes (Put key value) = length key + length value
operation_bytes (Delete key) = length key

-- the current table has room for the entries of the operations
pub record HasRoom (memories : Memories) (operations : List Operation) : Type 0 where
  pub entries : length operations ≤ memories.current.entry_room
  pub bytes : sum_by operation_bytes operations ≤ memories.current.byte_room
