-- The tables that a merge has yet to begin, by their smallest keys.
use Rattle.std.specs.Prelude.{◌≡◌, ◌≢◌, ◌<◌, ◌≤◌, ℕ, Bool, true, false, List, Some, map, slice_get, All, AllPairs, Contains}
use Rattle.std.specs.List.Sorted.{IsSortedBy}
use Rattle.std.specs.Ordering.{nat_cmp, is_lt, then_cmp, on, flip_args}
use Rattle.std.specs.declared.cmp.Ordering.{Ordering}
use Rattle.edits.specs.declared.field.PlacedTable.{PlacedTable}
use Rattle.ikey.specs.Keys.{Key, IsKey}
use Rattle.ikey.specs.KeyViews.{key_of}
use Rattle.recover.specs.declared.waiting.Waiting.{Waiting}

-- it has the place and the smallest key of a table
abbrev pub IsWaiting : List PlacedTable → Waiting → Type 0
IsWaiting tables waiting =
    (placed : PlacedTable) × (slice_get tables waiting.place ≡ Some placed)
    × IsKey placed.table.smallest (key_of waiting.smallest)

-- each of the first tables, so many, that has a smallest key stands there once
pub record AreWaiting (tables : List PlacedTable) (count : ℕ) (waiting : List Waiting) : Type 0 where
  pub each : All (IsWaiting tables) waiting
  pub all : (place : ℕ) (placed : PlacedTable) (key : Key) → place < count
      → slice_get tables place ≡ Some placed → IsKey placed.table.smallest key
      → (w : Waiting) × Contains waiting w × (w.place ≡ place)
  pub within : All (λ w. w.place < count) waiting
  pub apart : AllPairs (λ a b. a ≢ b) (map (λ w. w.place) waiting)

-- by smallest key: its user key, and of one user key the newer first
abbrev pub waiting_cmp : (List ℕ → List ℕ → Ordering) → Waiting → Waiting → Ordering
waiting_cmp cmp =
    then_cmp (on (λ (w : Waiting). w.smallest.user.now) cmp)
    (flip_args (on (λ (w : Waiting). w.smallest.sequence) nat_cmp))

abbrev pub AreSorted : (List ℕ → List ℕ → Ordering) → List Waiting → Type 0
AreSorted cmp waiting = IsSortedBy (λ a b. is_lt (waiting_cmp cmp a b)) waiting

-- those before this index were begun, and no others
pub record AreBegun (waiting : List Waiting) (index : ℕ) (begun : List Bool) : Type 0 where
  pub gone : (i : ℕ) (w : Waiting) → i < index → slice_get waiting i ≡ Some w
      → slice_get begun w.place ≡ Some true
  pub left : (i : ℕ) (w : Waiting) → index ≤ i → slice_get waiting i ≡ Some w
      → slice_get begun w.place ≡ Some false
