-- What a call that writes tables, and then an edit, does to the store, call by call.
use Rattle.std.specs.Prelude.{◌≡◌, ◌⊎◌, ℕ, List, []}
use Rattle.store.specs.Calls.{Idles}
use Rattle.store.specs.Files.{Facts}
use Rattle.store.specs.Losses.{PutsSynced, behind_sync}
use Rattle.store.specs.Stops.{WritesOnly}

-- Bytes were put after the MANIFEST, and synced: after a sync of what was written before, or of
-- nothing; and this was so of what was written.
pub record PutsEdit (old mid new : Facts) (manifest : List ℕ) (is_kept : Facts → Type 0) : Type 0 where
  pub bytes : List ℕ
  pub puts : PutsSynced mid new manifest bytes
  pub ends : (behind_sync [] mid.calls ≡ []) ⊎ Idles old mid
  pub kept : is_kept mid

-- Files of these names were written, and no others; and then an edit was put after the MANIFEST, or
-- the call ended before.
pub record WritesThenPuts (old new : Facts) (mine : List ℕ → Type 0) (manifest : List ℕ) (is_kept : Facts → Type 0) : Type 0 where
  pub mid : Facts
  pub writes : WritesOnly old mid mine
  pub puts : Idles mid new ⊎ PutsEdit old mid new manifest is_kept
