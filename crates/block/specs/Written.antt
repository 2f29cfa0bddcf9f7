-- The writer's choice: each entry shares as much as it can, but every so many entries one shares
-- nothing and is a restart.
use Rattle.std.specs.Prelude.{◌≡◌, ◌+◌, ◌%◌, ◌==◌, ℕ, suc, nat_eq, List, [], ◌∷◌, ◌++◌, Option, Some, None, length, if◌then◌else◌}
use Rattle.std.specs.List.{common_prefix_len}
use Rattle.ikey.specs.Entries.{Pair}
use Rattle.block.specs.Block.{IsEntry, IsKeyBehind, trailer}

-- how much the entry of this index shares
abbrev pub shared_at : ℕ → ℕ → List ℕ → List ℕ → ℕ
shared_at interval index previous key = if index % interval == 0 then 0 else common_prefix_len nat_eq previous key

-- From an index and an offset on, after the key `previous`, the bytes are what is written for these
-- pairs.
abbrev pub AreWritten : ℕ → ℕ → ℕ → List ℕ → List Pair → List ℕ → List ℕ → Type 0
AreWritten interval index offset previous [] restarts bytes = (bytes ≡ []) × (restarts ≡ [])
AreWritten interval index offset previous (pair ∷ pairs) restarts bytes =
    (rest entry behind later : List ℕ) × IsEntry (shared_at interval index previous pair.key) rest pair.value entry
    × IsKeyBehind previous (shared_at interval index previous pair.key) rest pair.key × (bytes ≡ entry ++ behind)
    × (restarts ≡ (if index % interval == 0 then offset ∷ later else later))
    × AreWritten interval (suc index) (offset + length entry) pair.key pairs later behind

-- a block without entries has the restart 0
abbrev pub or_first : List ℕ → List ℕ
or_first [] = 0 ∷ []
or_first (restart ∷ restarts) = restart ∷ restarts

-- the bytes are the block that is written for these pairs, with a restart every `interval` entries
pub record IsWritten (interval : ℕ) (pairs : List Pair) (bytes : List ℕ) : Type 0 where
  pub body : List ℕ
  pub restarts : List ℕ
  pub written : AreWritten interval 0 0 [] pairs restarts body
  pub parts : bytes ≡ body ++ trailer (or_first restarts)

-- what a builder holds
pub record Added : Type 0 where
  pub interval : ℕ
  pub pairs : List Pair

-- the key of the last pair, or the one before them, if there is one
abbrev pub last_key_from : Option (List ℕ) → List Pair → Option (List ℕ)
last_key_from previous [] = previous
last_key_from previous (pair ∷ pairs) = last_key_from (Some pair.key) pairs

abbrev pub last_key : List Pair → Option (List ℕ)
last_key pairs = last_key_from None pairs

-- the same, where the key before them is known
abbrev pub key_behind : List ℕ → List Pair → List ℕ
key_behind previous [] = previous
key_behind previous (pair ∷ pairs) = key_behind pair.key pairs
