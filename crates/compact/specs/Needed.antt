-- The entries that a compaction must keep (LevelDB's doc/impl.md, "Compactions", and its
-- db/db_impl.cc, DoCompactionWork).
use Rattle.std.specs.Prelude.{◌≡◌, ◌<◌, ◌⊎◌, ℕ, Bool, None, IsTrue, IsSome, List, Contains}
use Rattle.ikey.specs.declared.entry.Entry.{Entry}
use Rattle.compact.specs.Lists.{IsPartWith}
use Rattle.ikey.specs.Views.{IsNewest}

-- Some of the sequence numbers sees the entry: up to that one it is the newest of its key.
abbrev pub IsSeenBySome : List Entry → List ℕ → Entry → Type 0
IsSeenBySome entries sequences entry = (sequence : ℕ) × Contains sequences sequence × IsNewest entries sequence entry

-- a put of the same key, older than the entry, that some of the sequence numbers sees
pub record IsOlderPut (entries : List Entry) (sequences : List ℕ) (entry put : Entry) : Type 0 where
  pub same_key : put.key ≡ entry.key
  pub older : put.sequence < entry.sequence
  pub is_put : IsSome put.value
  pub visible : IsSeenBySome entries sequences put

-- The entry must be kept, where `deep` are the keys that a file below the output level covers. Some
-- of the sequence numbers sees it, and if it is a delete, there may still be something for it to
-- hide.
pub record IsNeeded (entries : List Entry) (sequences : List ℕ) (deep : List ℕ → Bool) (entry : Entry) : Type 0 where
  pub visible : IsSeenBySome entries sequences entry
  pub hides : entry.value ≡ None → IsTrue (deep entry.key) ⊎ ((put : Entry) × IsOlderPut entries sequences entry put)

-- these are the entries to be kept, in their order
abbrev pub AreNeeded : List Entry → List ℕ → (List ℕ → Bool) → List Entry → Type 0
AreNeeded entries sequences deep needed = IsPartWith (IsNeeded entries sequences deep) entries needed
