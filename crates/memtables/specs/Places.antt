-- Where a cursor over one of the memtables stands, and what its moves leave.
use Rattle.std.specs.Prelude.{◌≡◌, ℕ, List, Option, IsSomeAnd}
use Rattle.std.specs.Option.{option_map}
use Rattle.cursor.specs.Places.{Cmp, Listed}
use Rattle.ikey.specs.declared.entry.Entry.{Entry}
use Rattle.memtable.specs.Contents.{Contents}
use Rattle.memtable.specs.Order.{Placed, ordered}
use Rattle.memtable.specs.Places.{up_to}
use Rattle.memtables.specs.Memories.{Memories, older_at, table_in}
use Rattle.table_access.specs.Memory.{MemoryPlace, ListsMemory, KeepsMemory}

-- the generation of the table that it reads, and where it stands there
pub record MemoriesPlace : Type 0 where
  pub generation : ℕ
  pub place : MemoryPlace

-- the table of this generation is there, and cursor and table are this list and this place
abbrev pub ListsMemoryTable : Cmp → ℕ → MemoryPlace → Memories → Listed → Type 0
ListsMemoryTable cmp generation place memories at = IsSomeAnd (table_in memories generation) (λ (table : Contents). ListsMemory cmp place table at)

-- cursor and memtables are this list and this place
abbrev pub ListsMemories : Cmp → MemoriesPlace → Memories → Listed → Type 0
ListsMemories cmp cursor memories at = ListsMemoryTable cmp cursor.generation cursor.place memories at

-- the entries that the cursor lists of a table, with their nodes
abbrev pub seen_by : Cmp → MemoryPlace → Contents → List Placed
seen_by cmp place table = up_to place.sequence (ordered cmp table.inserts)

-- The table of its generation is there in both, with the same entries that the cursor lists at the
-- same nodes, or in neither.
abbrev pub KeepsMemories : Cmp → MemoriesPlace → Memories → Memories → Type 0
KeepsMemories cmp cursor old new =
    option_map (seen_by cmp cursor.place) (table_in old cursor.generation) ≡ option_map (seen_by cmp cursor.place) (table_in new cursor.generation)

-- ---- moves

-- the entries of the older table of a generation, where it is there
abbrev pub older_inserts : Memories → ℕ → Option (List Entry)
older_inserts memories generation = option_map (λ (table : Contents). table.inserts) (older_at memories.older generation)

-- What a move leaves: all entries, and which tables there are. What room is reserved may change.
pub record LeavesMemories (old new : Memories) : Type 0 where
  pub inserts : new.current.inserts ≡ old.current.inserts
  pub last : new.last ≡ old.last
  pub generation : new.generation ≡ old.generation
  pub sealed : new.sealed ≡ old.sealed
  pub older : (generation : ℕ) → older_inserts new generation ≡ older_inserts old generation

-- What a move leaves, and what the cursor reads of any table as it did before.
pub record StaysInMemories (cmp : Cmp) (old new : MemoryPlace) (before after : Memories) : Type 0 where
  pub left : LeavesMemories before after
  pub same : (s t : Contents) → KeepsMemory cmp old s t → KeepsMemory cmp new s t
