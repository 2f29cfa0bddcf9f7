-- How a filter block is written. What is built in is a list of hashes for each filter, from the
-- first on.
use Rattle.std.specs.Prelude.{◌≡◌, ◌<◌, ◌+◌, ◌-◌, ℕ, List, [], ◌∷◌, ◌++◌, length, replicate, slice_index_or, slice_set}
use Rattle.std.specs.List.{concat, flat_map}
use Rattle.coding.specs.Fixed.{fixed32}
use Rattle.coding.specs.declared.error.DbError.{DbError}
use Rattle.coding.specs.declared.error.DbError.TheVariants.{OutOfMemory, Unsupported}
use Rattle.filter.specs.Blocks.{IsFilterBlock, filter_count, filter_at}
use Rattle.filter.specs.Bloom.{IsFilter}

-- one more hash in filter i, with empty filters up to it where there are fewer
abbrev pub with_empty : List (List ℕ) → ℕ → List (List ℕ)
with_empty groups i = groups ++ replicate (i + 1 - length groups) []

abbrev pub with_hash : List (List ℕ) → ℕ → ℕ → List (List ℕ)
with_hash groups i h = slice_set (with_empty groups i) i (slice_index_or (with_empty groups i) i [] ++ h ∷ [])

-- each list of hashes has its filter
abbrev pub AreFilters : List (List ℕ) → List (List ℕ) → Type 0
AreFilters [] [] = Unit {0}
AreFilters (hashes ∷ groups) (filter ∷ filters) = IsFilter hashes filter × AreFilters groups filters
AreFilters groups filters = ⊥

-- where each filter begins, after those before it
abbrev pub starts_of : ℕ → List (List ℕ) → List ℕ
starts_of start [] = []
starts_of start (filter ∷ filters) = start ∷ starts_of (start + length filter) filters

-- the filter block: the filters, where each begins, where the array of these begins, and the base
-- 11
pub record IsWritten (groups : List (List ℕ)) (bytes : List ℕ) : Type 0 where
  pub filters : List (List ℕ)
  pub each : AreFilters groups filters
  pub parts : bytes ≡ concat filters ++ (flat_map fixed32 (starts_of 0 filters) ++ (fixed32 (length (concat filters)) ++ 11 ∷ []))

-- as it is read, the block has a filter for each list of hashes
pub record HasFilters (groups : List (List ℕ)) (bytes : List ℕ) : Type 0 where
  pub block : IsFilterBlock bytes
  pub count : filter_count bytes ≡ length groups
  pub each : (i : ℕ) → i < length groups → IsFilter (slice_index_or groups i []) (filter_at bytes i)

-- Why a block isn't written: out of memory, or since it would be too long, which is so only where
-- this fact holds.
abbrev pub GivesUpOnly : DbError → Type 0 → Type 0
GivesUpOnly OutOfMemory too_long = Unit {0}
GivesUpOnly (Unsupported what) too_long = too_long
GivesUpOnly e too_long = ⊥
