-- A call that writes tables, and then an edit: call by call.
use Rattle.std.proofs.Common.{◌≡◌, ◌⊎◌, inl, inr, ℕ, List, [], refl}
use Rattle.store.specs.Calls.{Idles}
use Rattle.store.specs.Files.{Facts}
use Rattle.store.specs.Losses.{PutsSynced, behind_sync}
use Rattle.store.specs.Stops.{WritesOnly}
use Rattle.directory_writes.specs.internal.Putting.{WritesThenPuts}

-- it ended before the edit
pub puts_none : (old new : Facts) (mine : List ℕ → Type 0) (manifest : List ℕ) (is_kept : Facts → Type 0) → WritesOnly old new mine → WritesThenPuts old new mine manifest is_kept
puts_none old new mine manifest is_kept writes = record { mid = new; writes = writes; puts = inl (refl, refl) }

pub puts_edit : (old mid new : Facts) (mine : List ℕ → Type 0) (manifest : List ℕ) (is_kept : Facts → Type 0) → WritesOnly old mid mine → (behind_sync [] mid.calls ≡ []) ⊎ Idles old mid → is_kept mid
    → (bytes : List ℕ) × PutsSynced mid new manifest bytes → WritesThenPuts old new mine manifest is_kept
puts_edit old mid new mine manifest is_kept writes ends kept puts = record { mid = mid; writes = writes; puts = inr (record { bytes = puts.0; puts = puts.1; ends = ends; kept = kept }) }
