-- What calls change of the memtables.
use Rattle.std.specs.Prelude.{◌≡◌, ◌≢◌, ◌⊎◌, ◌+◌, ◌++◌, ℕ, List, [], Some, None}
use Rattle.ikey.specs.declared.entry.Entry.{Entry}
use Rattle.memtables.specs.Memories.{Memories, older_at, table_in}

-- These entries were added to the current table, and the last sequence number may have risen.
pub record HasMoreEntries (old new : Memories) (more : List Entry) : Type 0 where
  pub inserts : new.current.inserts ≡ old.current.inserts ++ more
  pub others : new ≡ record old { current = new.current; last = new.last }

-- The current table was sealed, and an empty one of the next generation took its place.
pub record IsSealed (old new : Memories) : Type 0 where
  pub current : new.current ≡ record { inserts = []; entry_room = 0; byte_room = 0 }
  pub last : new.last ≡ old.last
  pub generation : new.generation ≡ old.generation + 1
  pub unsealed : old.sealed ≡ None
  pub sealed : new.sealed ≡ Some old.generation
  pub vacant : older_at old.older old.generation ≡ None
  pub kept : older_at new.older old.generation ≡ Some old.current
  pub others : (generation : ℕ) → generation ≢ old.generation → older_at new.older generation ≡ older_at old.older generation
  pub fresh : table_in old new.generation ≡ None

-- no table is sealed any more, and the one that was stays
abbrev pub DropsSealed : Memories → Memories → Type 0
DropsSealed old new = new ≡ record old { sealed = None }

-- The older tables that aren't of use are gone, and nothing else is changed.
pub record KeepsUsed (used : ℕ → Type 0) (old new : Memories) : Type 0 where
  pub others : new ≡ record old { older = new.older }
  pub kept : (generation : ℕ) → used generation → older_at new.older generation ≡ older_at old.older generation
  pub gone : (generation : ℕ) → (used generation → ⊥) → older_at new.older generation ≡ None

-- an older table is of use while it is sealed, or a reader names it
abbrev pub IsUsed : (ℕ → Type 0) → Memories → ℕ → Type 0
IsUsed names memories generation = (memories.sealed ≡ Some generation) ⊎ names generation

-- it is of use as long as it is sealed, or isn't the one to be forgotten
abbrev pub IsRemembered : ℕ → Memories → ℕ → Type 0
IsRemembered forgotten memories generation = (memories.sealed ≡ Some generation) ⊎ (generation ≢ forgotten)
