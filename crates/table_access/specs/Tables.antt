-- A store whose tables are read through caches.
use Rattle.std.specs.FinMap.{get}
use Rattle.std.specs.Prelude.{◌≡◌, ◌⊎◌, ℕ, List, Some, [], IsSome, IsTrue, Contains, length, slice_get}
use Rattle.cache.specs.Blocks.{BlockCache, KeptBlock}
use Rattle.cache.specs.Holding.{HoldsBlocks, HoldsTables}
use Rattle.cache.specs.Tables.{TableCache, KeptTable, table_at}
use Rattle.cursor.specs.Places.{Cmp}
use Rattle.edits.specs.declared.field.PlacedTable.{PlacedTable}
use Rattle.edits.specs.Names.{IsNumbered, name_of}
use Rattle.edits.specs.declared.names.FileName.TheVariants.{Table, OldTable}
use Rattle.ikey.specs.Entries.{Pair}
use Rattle.store.specs.Files.{Facts}
use Rattle.table.specs.Frame.{Frame, IsFrame}
use Rattle.table.specs.Intact.{IsIntact, IsTornAt, IsUnsupportedAt}
use Rattle.table.specs.Reading.{Reads, HasFile}
use Rattle.table.specs.Refusals.{IsFrameDamaged, IsFrameUnsupported}
use Rattle.table_access.specs.Ends.{IsIntactIn}
use Rattle.table_access.specs.declared.tables.Tables.{Tables}

-- what is known of the store, and what is kept of its tables
pub record Seen : Type 0 where
  pub facts : Facts
  pub tables : List KeptTable
  pub blocks : List KeptBlock

abbrev pub seen : Facts → TableCache → BlockCache → Seen
seen facts tables blocks = record { facts = facts; tables = tables.tables; blocks = blocks.blocks }

-- the same of a store whose tables are read through caches
abbrev pub seen_through : {S K : Type 0} → (S → Facts) → Tables K S → Seen
seen_through facts source = seen (facts source.store) source.tables source.blocks

-- how many tables stay open
abbrev pub open_tables : ℕ
open_tables = 990

-- Each kept table and block is what a read of the store's file gives, of those numbers of which it
-- has a table.
pub record IsSound (cmp : Cmp) (source : Seen) : Type 0 where
  pub tables : HoldsTables cmp (table_at source.facts.files) source.facts source.tables
  pub blocks : HoldsBlocks cmp (table_at source.facts.files) source.blocks

-- something is kept of the table of this number
abbrev pub KeepsOf : Seen → ℕ → Type 0
KeepsOf source number =
    ((kept : KeptTable) × Contains source.tables kept × (kept.number ≡ number)) ⊎ ((kept : KeptBlock) × Contains source.blocks kept × (kept.file ≡ number))

-- something is, or the store has this table
unfoldable pub Knows : Seen → ℕ → Type 0
Knows source number = KeepsOf source number ⊎ (IsNumbered number × IsSome (table_at source.facts.files number))

-- the table of this number alone
abbrev pub Only : ℕ → ℕ → Type 0
Only number other = other ≡ number

-- A call that reads tables of such numbers only reads the store, and leaves what is kept right.
-- What it keeps anew is of tables that are there: of what it knows afterwards, it knew before. And
-- it is of tables of such numbers, whatever the store returns.
pub record Carries (cmp : Cmp) (numbers : ℕ → Type 0) (old new : Seen) : Type 0 where
  pub reads : Reads old.facts new.facts
  pub sound : IsTrue new.facts.faithful → IsSound cmp old → IsSound cmp new
  pub kept : IsTrue new.facts.faithful → (number : ℕ) → Knows new number → Knows old number
  pub gathered : (number : ℕ) → KeepsOf new number → KeepsOf old number ⊎ numbers number

-- the store has this file as the table of this number, and what is kept is right
pub record HasSoundTable (cmp : Cmp) (source : Seen) (number : ℕ) (file : List ℕ) : Type 0 where
  pub sound : IsSound cmp source
  pub file_is : table_at source.facts.files number ≡ Some file

-- of a faithful store, this is so of the table of this number, if there is one
abbrev pub SaysOf : Cmp → Seen → Seen → ℕ → (List ℕ → Type 0) → Type 0
SaysOf cmp old new number is = IsTrue new.facts.faithful → (file : List ℕ) → HasSoundTable cmp old number file → is file

-- what is open of the file is its frame, of which nothing wasn't supported
abbrev pub IsOpenFrame : Cmp → List ℕ → Frame → Type 0
IsOpenFrame cmp file frame = IsFrame cmp file frame × (IsFrameUnsupported file → ⊥)

-- frame or block are damaged
abbrev pub IsBlockDamaged : Cmp → ℕ → List ℕ → Type 0
IsBlockDamaged cmp index file = IsFrameDamaged cmp file ⊎ ((frame : Frame) → IsFrame cmp file frame → IsTornAt cmp file frame.places index)

-- one of them isn't supported
abbrev pub IsBlockUnsupported : Cmp → ℕ → List ℕ → Type 0
IsBlockUnsupported cmp index file = IsFrameUnsupported file ⊎ ((frame : Frame) → IsFrame cmp file frame → IsUnsupportedAt file frame.places index)

-- the file has the data block of these pairs as that of this index, whole and in its place
abbrev pub HasIntact : Cmp → ℕ → List Pair → List ℕ → Type 0
HasIntact cmp index pairs file = (frame : Frame) → IsFrame cmp file frame → IsIntact cmp file frame.places index pairs

-- The store has, as this table of an edit, a file of this frame whose data blocks may have these
-- pairs: each that is one has its own.
pub record HasData (cmp : Cmp) (source : Seen) (placed : PlacedTable) (frame : Frame) (groups : List (List Pair)) : Type 0 where
  pub file : List ℕ
  pub table : HasSoundTable cmp source placed.table.number file
  pub open_is : IsOpenFrame cmp file frame
  pub same_length : length frame.places ≡ length groups
  pub each : (index : ℕ) (pairs others : List Pair) → slice_get groups index ≡ Some pairs → IsIntactIn cmp placed file frame.places index others → pairs ≡ others

-- ---- laws

-- of nothing that is kept, all is right
abbrev pub EmptyIsSound : Type 0
EmptyIsSound = (cmp : Cmp) (facts : Facts) → IsSound cmp (record { facts = facts; tables = []; blocks = [] })

-- What is kept stays right while files change, where those of the tables of which something is kept
-- stay or go.
abbrev pub SoundLasts : Type 0
SoundLasts = (cmp : Cmp) (source : Seen) (facts : Facts)
    → ((kept : KeptTable) (file : List ℕ) → Contains source.tables kept → table_at facts.files kept.number ≡ Some file
    → (table_at source.facts.files kept.number ≡ Some file) × (HasFile source.facts kept.table.name file → HasFile facts kept.table.name file))
    → ((kept : KeptBlock) (file : List ℕ) → Contains source.blocks kept → table_at facts.files kept.file ≡ Some file → table_at source.facts.files kept.file ≡ Some file)
    → IsSound cmp source → IsSound cmp (record { facts = facts; tables = source.tables; blocks = source.blocks })

-- And so it does while files change, where those that have the name of a table stay as they are.
abbrev pub SoundStays : Type 0
SoundStays = (cmp : Cmp) (source : Seen) (facts : Facts)
    → ((number : ℕ) → get facts.files (name_of (Table number)) ≡ get source.facts.files (name_of (Table number)))
    → ((number : ℕ) → get facts.files (name_of (OldTable number)) ≡ get source.facts.files (name_of (OldTable number)))
    → IsSound cmp source → IsSound cmp (record { facts = facts; tables = source.tables; blocks = source.blocks })
