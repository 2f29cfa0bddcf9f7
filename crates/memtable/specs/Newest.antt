-- What a search for a user key finds (LevelDB's doc/index.md, "Snapshots").
use Rattle.std.specs.Prelude.{◌≡◌, ℕ, Option, Some, None, List, [], ◌∷◌}
use Rattle.std.specs.Borrow.{Bor}
use Rattle.ikey.specs.declared.entry.Entry.{Entry}
use Rattle.ikey.specs.Views.{Among, IsNewest, IsUnseen}
use Rattle.memtable.specs.Slots.{value_seen}

-- an entry has this user key and sequence number
abbrev pub HasEntry : List Entry → List ℕ → ℕ → Type 0
HasEntry entries key sequence = (entry : Entry) × Among entries entry × (entry.key ≡ key) × (entry.sequence ≡ sequence)

-- no entry has this user key and sequence number
abbrev pub IsNew : List Entry → List ℕ → ℕ → Type 0
IsNew entries key sequence = (entry : Entry) → Among entries entry → entry.key ≡ key → entry.sequence ≡ sequence → ⊥

-- no two entries have the same user key and sequence number
abbrev pub AllDiffer : List Entry → Type 0
AllDiffer [] = Unit {0}
AllDiffer (entry ∷ entries) = IsNew entries entry.key entry.sequence × AllDiffer entries

-- what a search for a user key has found: nothing where none of its entries is seen, and else what
-- the newest one put
abbrev pub IsLookUp : List Entry → ℕ → List ℕ → Option (Option (Bor (List ℕ))) → Type 0
IsLookUp entries sequence key None = IsUnseen entries sequence key
IsLookUp entries sequence key (Some value) =
    (entry : Entry) × IsNewest entries sequence entry × (entry.key ≡ key) × (value_seen value ≡ entry.value)
