-- What a builder keeps.
use Rattle.std.specs.Prelude.{◌≡◌, ◌<◌, ◌+◌, ◌*◌, ◌-◌, ◌%◌, ◌^◌, ◌==◌, ℕ, zero, suc, List, [], ◌∷◌, ◌++◌, None, length, if◌then◌else◌}
use Rattle.coding.specs.Varint.{varint_length}
use Rattle.ikey.specs.Entries.{Pair}
use Rattle.std.specs.Prelude.{Bool, true, false, nat_eq}
use Rattle.std.specs.List.{common_prefix_len}
use Rattle.block.specs.Block.{AreAbove, IsEntry, IsKeyBehind}
use Rattle.block.specs.Reading.{pairs_of}
use Rattle.block.specs.Written.{AreWritten, Added, shared_at, or_first, key_behind}

-- how many bytes an entry takes that shares this much of its key
abbrev pub entry_length : ℕ → Pair → ℕ
entry_length shared pair = varint_length shared + varint_length (length pair.key - shared) + varint_length (length pair.value) + (length pair.key - shared) + length pair.value

-- how many bytes the entries take from an index on, after the key `previous`
abbrev pub entries_length : ℕ → ℕ → List ℕ → List Pair → ℕ
entries_length interval index previous [] = 0
entries_length interval index previous (pair ∷ pairs) =
    entry_length (shared_at interval index previous pair.key) pair + entries_length interval (suc index) pair.key pairs

-- how many entries of these indexes are restarts
abbrev pub restart_count : ℕ → ℕ → List Pair → ℕ
restart_count interval index [] = 0
restart_count interval index (pair ∷ pairs) = (if index % interval == 0 then 1 else 0) + restart_count interval (suc index) pairs

abbrev pub at_least_one : ℕ → ℕ
at_least_one zero = 1
at_least_one (suc n) = suc n

-- how many bytes the block takes
abbrev pub written_length : Added → ℕ
written_length added = entries_length added.interval 0 [] added.pairs + 4 * at_least_one (restart_count added.interval 0 added.pairs) + 4

pub record IsBuilt (below : List ℕ → List ℕ → Type 0) (out restarts last : List ℕ) (count interval : ℕ) : Type 0 where
  pub interval_is : 0 < interval
  pub all : List ℕ
  pub written : AreWritten interval 0 0 [] (pairs_of out) all out
  pub restarts_are : or_first all ≡ 0 ∷ restarts
  pub count_is : count ≡ length (pairs_of out)
  pub last_is : last ≡ key_behind [] (pairs_of out)
  pub rises : AreAbove below None (pairs_of out)
  pub small : length out + 4 * length restarts + 8 < 2 ^ 32

-- the entry of a key and a value is pushed, which shares nothing where it is a restart
abbrev pub PushesEntry : Bool → List ℕ → List ℕ → List ℕ → List ℕ → List ℕ → Type 0
PushesEntry is_restart previous key value old new =
    let shared = if is_restart then 0 else common_prefix_len nat_eq previous key in
    (rest entry : List ℕ) × IsEntry shared rest value entry × IsKeyBehind previous shared rest key × (new ≡ old ++ entry)

-- what is pushed to the restarts after the first one
abbrev pub restart_of : Bool → Bool → ℕ → List ℕ
restart_of true false offset = offset ∷ []
restart_of is_restart is_first offset = []
