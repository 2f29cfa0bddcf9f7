-- What the parts of a builder do, one after another.
use Rattle.std.specs.Prelude.{◌≡◌, ◌≤◌, ◌+◌, ◌*◌, ◌^◌, ◌⊎◌, ℕ, List, [], ◌∷◌, ◌++◌, None, Some, length, IsTrue}
use Rattle.std.specs.declared.cmp.Ordering.{Ordering}
use Rattle.block.specs.Block.{IsBlock, AreAbove}
use Rattle.block.specs.Written.{Added, last_key}
use Rattle.filter.specs.Blocks.{filter_index}
use Rattle.filter.specs.Builder.{with_hash}
use Rattle.filter.specs.Hash.{hash_of}
use Rattle.ikey.specs.Below.{IsBelowInternal}
use Rattle.ikey.specs.Entries.{Pair}
use Rattle.ikey.specs.Keys.{Key, IsKey}
use Rattle.store.specs.Files.{Facts}
use Rattle.table.specs.Building.{Building, data_length, index_length}
use Rattle.table.specs.Reading.{HasFile}
use Rattle.table.specs.Stored.{IsHandle, stored}

-- What holds of a builder at any time, also after a refusal. Few blocks, none of 2^32 bytes, keep
-- the offset small.
pub record IsKept (cmp : List ℕ → List ℕ → Ordering) (offset : ℕ) (index block : Added) : Type 0 where
  pub index_interval : index.interval ≡ 1
  pub block_interval : block.interval ≡ 16
  pub rises : AreAbove (IsBelowInternal cmp) None (index.pairs ++ block.pairs)
  pub few : length index.pairs ≤ 2 ^ 31
  pub fits : offset ≤ length index.pairs * (2 ^ 32 + 4)

-- with one pair more
abbrev pub with_pair : Added → Pair → Added
with_pair added pair = record added { pairs = added.pairs ++ pair ∷ [] }

-- nothing has changed, or there is one pair more
abbrev pub MayAdd : Added → Added → Pair → Type 0
MayAdd old new pair = (new ≡ old) ⊎ (new ≡ with_pair old pair)

-- the pair stands in the block at hand, and its user key in the filter
pub record IsPushed (old new : Building) (pair : Pair) : Type 0 where
  pub key : Key
  pub key_is : IsKey pair.key key
  pub short : data_length (old.block ++ pair ∷ []) ≤ 2 ^ 30
  pub new_is : new ≡ record old { block = old.block ++ pair ∷ []; hashes = with_hash old.hashes (filter_index old.offset) (hash_of key.user) }

-- the bytes stand after the file of this name
abbrev pub Appended : Facts → Facts → List ℕ → List ℕ → Type 0
Appended old new name bytes = IsTrue new.faithful → (before : List ℕ) → HasFile old name before → HasFile new name (before ++ bytes)

-- the block at hand stands in the file, and its place in the index
pub record IsEnded (cmp : List ℕ → List ℕ → Ordering) (old new : Building) (before after : Facts) : Type 0 where
  pub bytes : List ℕ
  pub place : Pair
  pub block_is : IsBlock (IsBelowInternal cmp) bytes old.block
  pub size_is : length bytes ≡ data_length old.block
  pub key_is : last_key old.block ≡ Some place.key
  pub value_is : IsHandle place.value (record { offset = old.offset; size = length bytes })
  pub short : index_length (old.index ++ place ∷ []) ≤ 2 ^ 30
  pub new_is : new ≡ record old { offset = old.offset + (length bytes + 5); index = old.index ++ place ∷ []; block = [] }
  pub appended : Appended before after old.name (stored bytes)
