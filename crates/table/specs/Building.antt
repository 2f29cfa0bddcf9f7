-- A table that is being written (LevelDB's table/table_builder.cc): what the builder keeps, and
-- what stands in the file.
use Rattle.std.specs.Prelude.{◌≡◌, ◌<◌, ◌≤◌, ◌+◌, ◌^◌, ◌⊎◌, ℕ, Bool, List, [], ◌∷◌, ◌++◌, Option, Some, None, length, MatchBool}
use Rattle.std.specs.List.{AllByRecursion, flat_map}
use Rattle.std.specs.Option.{ForSome}
use Rattle.std.specs.declared.cmp.Ordering.{Ordering}
use Rattle.block.specs.Block.{AreAbove}
use Rattle.block.specs.Built.{written_length}
use Rattle.block.specs.Written.{last_key}
use Rattle.filter.specs.Blocks.{filter_index}
use Rattle.filter.specs.Builder.{with_hash}
use Rattle.filter.specs.Hash.{hash_of}
use Rattle.ikey.specs.Below.{IsBelowInternal}
use Rattle.ikey.specs.Entries.{Pair}
use Rattle.ikey.specs.Keys.{Key, IsKey}
use Rattle.store.specs.Files.{Facts}
use Rattle.table.specs.declared.handle.Place.{Place}
use Rattle.table.specs.Frame.{ArePlaces}
use Rattle.table.specs.Reading.{HasFile}
use Rattle.table.specs.Stored.{end_of}
use Rattle.table.specs.Table.{AreData}

-- ---- what a builder keeps

pub record Building : Type 0 where
  -- of its file
  pub name : List ℕ
  -- from this many bytes on, a data block is ended
  pub block_bytes : ℕ
  pub created : Bool
  -- how many bytes the data blocks that were ended take in the file
  pub offset : ℕ
  -- their places, as the index has them
  pub index : List Pair
  -- the pairs of the data block at hand
  pub block : List Pair
  -- the hashes of the user keys of each filter
  pub hashes : List (List ℕ)

-- the key that was added last, if there is one
abbrev pub last_added : Building → Option (List ℕ)
last_added b = last_key (b.index ++ b.block)

-- the key is an internal key above that one
pub record MayFollow (cmp : List ℕ → List ℕ → Ordering) (b : Building) (key : List ℕ) : Type 0 where
  pub parts : Key
  pub parts_are : IsKey key parts
  pub rises : ForSome (last_added b) (λ (last : List ℕ). IsBelowInternal cmp last key)

-- how many bytes a data block and an index of these pairs take: a data block has a restart every 16
-- entries, an index at each
abbrev pub data_length : List Pair → ℕ
data_length pairs = written_length (record { interval = 16; pairs = pairs })

abbrev pub index_length : List Pair → ℕ
index_length pairs = written_length (record { interval = 1; pairs = pairs })

abbrev pub length_at_hand : List Pair → ℕ
length_at_hand [] = 0
length_at_hand (pair ∷ pairs) = data_length (pair ∷ pairs)

-- the bytes of the data blocks, with those of the one at hand if it has an entry
abbrev pub data_size : Building → ℕ
data_size b = b.offset + length_at_hand b.block

-- With the pair added the block at hand is ended where it has block_bytes bytes or more, and else
-- it goes on.
abbrev pub EndsBlock : Building → Building → Pair → Type 0
EndsBlock old new pair =
    ((data_length (old.block ++ pair ∷ []) < old.block_bytes) × (new.block ≡ old.block ++ pair ∷ []) × (new.index ≡ old.index))
    ⊎ ((old.block_bytes ≤ data_length (old.block ++ pair ∷ [])) × (new.block ≡ []))

-- ---- what stands in the file

-- The blocks stand one after another from this offset to that end, and none is too long to be read.
abbrev pub AreInLine : ℕ → List Place → ℕ → Type 0
AreInLine offset [] end = offset ≡ end
AreInLine offset (place ∷ places) end = (place.handle.offset ≡ offset) × (place.handle.size ≤ 2 ^ 30) × AreInLine (end_of place.handle) places end

-- each block ends with the key of its place
abbrev pub AreEnded : List Place → List (List Pair) → Type 0
AreEnded [] [] = Unit {0}
AreEnded (place ∷ places) (pairs ∷ others) = (last_key pairs ≡ Some place.key) × AreEnded places others
AreEnded places blocks = ⊥

-- With the user keys of these pairs added, which stand in the block at this offset, the hashes of
-- the filters are the new ones: one for each pair, in order.
abbrev pub AddsHashes : List (List ℕ) → ℕ → List Pair → List (List ℕ) → Type 0
AddsHashes old offset [] new = new ≡ old
AddsHashes old offset (pair ∷ pairs) new = (key : Key) × IsKey pair.key key × AddsHashes (with_hash old (filter_index offset) (hash_of key.user)) offset pairs new

-- the same of the pairs of the blocks at these places
abbrev pub AddsAllHashes : List (List ℕ) → List Place → List (List Pair) → List (List ℕ) → Type 0
AddsAllHashes old [] [] new = new ≡ old
AddsAllHashes old (place ∷ places) (pairs ∷ blocks) new =
    (hashes : List (List ℕ)) × AddsHashes old place.handle.offset pairs hashes × AddsAllHashes hashes places blocks new
AddsAllHashes old places blocks new = ⊥

-- The file is the data blocks of the pairs that were added, but for those of the block at hand.
pub record IsPart (cmp : List ℕ → List ℕ → Ordering) (b : Building) (file : List ℕ) (pairs : List Pair) : Type 0 where
  pub blocks : List (List Pair)
  pub places : List Place
  pub index_is : ArePlaces b.index places
  pub data_is : AreData cmp file places blocks
  pub line : AreInLine 0 places b.offset
  pub long : length file ≡ b.offset
  pub ended : AreEnded places blocks
  pub ended_hashes : List (List ℕ)
  pub hashed : AddsAllHashes [] places blocks ended_hashes
  pub block_hashed : AddsHashes ended_hashes b.offset b.block b.hashes
  pub all : pairs ≡ flat_map (λ (block : List Pair). block) blocks ++ b.block
  pub rises : AreAbove (IsBelowInternal cmp) None pairs
  pub keys : AllByRecursion (λ (pair : Pair). (key : Key) × IsKey pair.key key) pairs
  pub last : last_key pairs ≡ last_added b
  pub block_short : data_length b.block ≤ 2 ^ 30
  pub index_short : index_length b.index ≤ 2 ^ 30

-- Of the builder's file the store has these bytes. Before the first pair there is none.
abbrev pub HasPart : Building → Facts → List ℕ → Type 0
HasPart b facts file = MatchBool b.created (HasFile facts b.name file) ((file ≡ []) × (last_added b ≡ None))

-- Over this store these pairs were added to the builder, and nothing else has changed its file.
abbrev pub Builds : (List ℕ → List ℕ → Ordering) → Building → Facts → List Pair → Type 0
Builds cmp b facts pairs = (file : List ℕ) × HasPart b facts file × IsPart cmp b file pairs
