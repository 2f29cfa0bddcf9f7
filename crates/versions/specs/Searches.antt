-- Which table of a level is searched for a key (LevelDB's db/version_set.cc, FindFile).
use Rattle.std.specs.Prelude.{◌≡◌, ◌⊎◌, ◌<◌, ◌≤◌, ◌+◌, ◌-◌, ℕ, IsTrue, List, length, HoldsAt, Contains}
use Rattle.std.specs.List.{AllWithin}
use Rattle.std.specs.declared.cmp.Ordering.{Ordering}
use Rattle.std.specs.Cmp.{IsTotalOrder}
use Rattle.ikey.specs.Below.{IsBelowInternal}
use Rattle.edits.specs.declared.field.PlacedTable.{PlacedTable}
use Rattle.ikey.specs.Keys.{Key, IsKey}
use Rattle.versions.specs.Levels.{AreInOrder, tables_at}
use Rattle.versions.specs.Ranges.{covers, is_up_to, last_user, user_of}

-- all keys of the table are below this one
abbrev pub EndsBelow : (List ℕ → List ℕ → Ordering) → List ℕ → PlacedTable → Type 0
EndsBelow cmp key placed = IsBelowInternal cmp placed.table.largest key

-- The table is the only one of these, which lie each below the next, that may hold the first key
-- from this one on: those before it end below the key.
abbrev pub IsTableFor : (List ℕ → List ℕ → Ordering) → List ℕ → List PlacedTable → PlacedTable → Type 0
IsTableFor cmp key tables placed =
    (i : ℕ) × (i < length tables) × HoldsAt (λ other. other ≡ placed) tables i
    × (EndsBelow cmp key placed → ⊥) × AllWithin (EndsBelow cmp key) tables 0 i

-- ---- the tables that are searched for a key, in places: one for each table of level 0, and one
-- for each deeper level

abbrev pub search_length : List PlacedTable → ℕ
search_length tables = length (tables_at 0 tables) + 6

-- The table is searched for the key, an internal one, at this place, since it covers its user key.
-- First come those of level 0, from the highest number down, and then of each deeper level the
-- first that doesn't end below the key.
abbrev pub IsSearchedAt : (List ℕ → List ℕ → Ordering) → List ℕ → List PlacedTable → ℕ → PlacedTable → Type 0
IsSearchedAt cmp key tables place placed =
    (((place < length (tables_at 0 tables)) × HoldsAt (λ other. other ≡ placed) (tables_at 0 tables) (length (tables_at 0 tables) - 1 - place))
    ⊎ ((above : ℕ) × (above < 6) × (place ≡ length (tables_at 0 tables) + above) × IsTableFor cmp key (tables_at (above + 1) tables) placed))
    × IsTrue (covers cmp placed (user_of key))

-- the table is the first that is searched from the one place on, and it is at the other
pub record IsSearchedNext (cmp : List ℕ → List ℕ → Ordering) (key : List ℕ) (tables : List PlacedTable) (from place : ℕ) (placed : PlacedTable) : Type 0 where
  pub behind : from ≤ place
  pub within : place < search_length tables
  pub here : IsSearchedAt cmp key tables place placed
  pub first : (other : ℕ) (passed : PlacedTable) → from ≤ other → other < place → IsSearchedAt cmp key tables other passed → ⊥

-- the same at a deeper level
abbrev pub IsSearchedIn : (List ℕ → List ℕ → Ordering) → List ℕ → List PlacedTable → ℕ → PlacedTable → Type 0
IsSearchedIn cmp key tables level placed = IsTableFor cmp key (tables_at level tables) placed × IsTrue (covers cmp placed (user_of key))

-- the table is the first that is searched from the one level on, and it is at the other
pub record IsSearchedFirst (cmp : List ℕ → List ℕ → Ordering) (key : List ℕ) (tables : List PlacedTable) (from level : ℕ) (placed : PlacedTable) : Type 0 where
  pub behind : from ≤ level
  pub within : level < 7
  pub here : IsSearchedIn cmp key tables level placed
  pub first : (other : ℕ) (passed : PlacedTable) → from ≤ other → other < level → IsSearchedIn cmp key tables other passed → ⊥

-- the table ends with the user key of the key, and not below the key; and all of it comes before
-- the other table
abbrev pub EndsAtUser : (List ℕ → List ℕ → Ordering) → List ℕ → PlacedTable → PlacedTable → Type 0
EndsAtUser cmp key placed other =
    IsBelowInternal cmp placed.table.largest other.table.smallest × (EndsBelow cmp key placed → ⊥) × IsTrue (is_up_to cmp (last_user placed) (user_of key))

-- Each table that covers the user key and doesn't end below the key is searched, or instead of it
-- one of its level that comes before it and ends with the user key. That one has the first entry
-- from the key on.
abbrev pub SearchesReach : Type 0
SearchesReach = (cmp : List ℕ → List ℕ → Ordering) → IsTotalOrder cmp → (key : List ℕ) (k : Key) (tables : List PlacedTable) → IsKey key k → AreInOrder cmp tables
    → (placed : PlacedTable) → Contains tables placed → IsTrue (covers cmp placed (user_of key)) → (EndsBelow cmp key placed → ⊥)
    → (place : ℕ) × (searched : PlacedTable) × IsSearchedAt cmp key tables place searched × ((searched ≡ placed) ⊎ EndsAtUser cmp key searched placed)
