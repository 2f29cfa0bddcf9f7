-- Cursors over memtables (LevelDB's db/memtable.cc, MemTableIterator).
use Rattle.std.specs.Prelude.{◌≡◌, ◌≤◌, ◌++◌, ℕ, true, false, List, [], ◌∷◌, Option, Some, None, length, map}
use Rattle.std.specs.FinMap.{empty}
use Rattle.std.specs.List.{AllByRecursion}
use Rattle.store.specs.Files.{Facts}
use Rattle.ikey.specs.declared.entry.Entry.{Entry}
use Rattle.ikey.specs.Entries.{InternalEntry, internal_entry_of, internal_key_of}
use Rattle.ikey.specs.Keys.{Key, IsKey}
use Rattle.memtable.specs.Contents.{Contents, entry_at}
use Rattle.memtable.specs.Order.{Placed, ordered}
use Rattle.memtable.specs.Places.{IsPlace, first_of, up_to}
use Rattle.cursor.specs.Places.{Cmp, Listed, Rises, is_below}

-- a cursor: the sequence number up to which it lists entries, the node that it stands on, and the
-- internal key at hand
pub record MemoryPlace : Type 0 where
  pub sequence : ℕ
  pub node : Option ℕ
  pub key : List ℕ

-- an entry of a memtable as a cursor lists it
abbrev pub entry_listed : Placed → InternalEntry
entry_listed one = internal_entry_of one.entry

-- the entries of the inserts up to the sequence number, in internal order, as a cursor lists them
abbrev pub seen_entries : Cmp → List Entry → ℕ → List InternalEntry
seen_entries cmp inserts sequence = map entry_listed (up_to sequence (ordered cmp inserts))

-- Among these entries the cursor stands on its node, with that entry's internal key at hand: so
-- many stand in front.
pub record StandsSeen (node : ℕ) (key : List ℕ) (seen : List Placed) (place : Option ℕ) : Type 0 where
  pub front : List Placed
  pub entry : Entry
  pub back : List Placed
  pub seen_is : seen ≡ front ++ record { node = node; entry = entry } ∷ back
  pub place_is : place ≡ Some (length front)
  pub key_is : IsKey key (internal_key_of entry)

abbrev pub IsPlacedSeen : Option ℕ → List ℕ → List Placed → Option ℕ → Type 0
IsPlacedSeen None key seen place = place ≡ None
IsPlacedSeen (Some node) key seen place = StandsSeen node key seen place

-- the cursor lists these entries, at this place
pub record ListsSeen (cmp : Cmp) (cursor : MemoryPlace) (seen : List Placed) (at : Listed) : Type 0 where
  pub entries : at.entries ≡ map entry_listed seen
  pub rises : Rises cmp at.entries
  pub place : IsPlacedSeen cursor.node cursor.key seen at.place

-- cursor and memtable are this list and this place
abbrev pub ListsMemory : Cmp → MemoryPlace → Contents → Listed → Type 0
ListsMemory cmp cursor contents at = ListsSeen cmp cursor (up_to cursor.sequence (ordered cmp contents.inserts)) at

-- the second memtable has the entries that the cursor lists of the first, at the same nodes,
-- and no others up to its sequence number
abbrev pub KeepsMemory : Cmp → MemoryPlace → Contents → Contents → Type 0
KeepsMemory cmp cursor old new = up_to cursor.sequence (ordered cmp old.inserts) ≡ up_to cursor.sequence (ordered cmp new.inserts)

-- a memtable reads no store
abbrev pub memory_facts : Facts
memory_facts = record { files = empty; synced = λ name. None; calls = []; faithful = true; locked = false; failures = 0; write_failures = 0; denials = 0 }

-- ---- parts of moves

-- the node's entry is one up to the sequence number
abbrev pub IsSeen : List Entry → ℕ → ℕ → Type 0
IsSeen inserts sequence node = IsPlace inserts node × ((entry : Entry) → entry_at inserts node ≡ Some entry → entry.sequence ≤ sequence)

-- the bytes are the internal key of the node's entry
abbrev pub IsKeyAt : List Entry → List ℕ → ℕ → Type 0
IsKeyAt inserts key node = (entry : Entry) → entry_at inserts node ≡ Some entry → IsKey key (internal_key_of entry)

-- in order the entries below the key stand before this node, and all others from it on
pub record IsFrom (cmp : Cmp) (key : Key) (placed : List Placed) (node : Option ℕ) : Type 0 where
  pub front : List Placed
  pub back : List Placed
  pub placed_is : placed ≡ front ++ back
  pub node_is : node ≡ first_of back
  pub below : AllByRecursion (λ (one : Placed). is_below cmp key (entry_listed one) ≡ true) front
  pub others : AllByRecursion (λ (one : Placed). is_below cmp key (entry_listed one) ≡ false) back
