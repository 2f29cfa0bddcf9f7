-- The first entry that isn't below a target.
use Rattle.std.specs.Prelude.{◌≡◌, ℕ, List, [], ◌∷◌, ◌++◌, Option, Some, None}
use Rattle.std.specs.List.{AllByRecursion}
use Rattle.std.specs.declared.cmp.Ordering.{Ordering}
use Rattle.std.specs.declared.cmp.Ordering.TheVariants.{Less}
use Rattle.ikey.specs.Entries.{InternalEntry, Pair}
use Rattle.ikey.specs.Keys.{Key, key_cmp}
use Rattle.table.specs.declared.pair.KeyValue.{KeyValue}
use Rattle.table.specs.Views.{pair_of}

-- in the order of internal keys the first entry that isn't below a target, if there is one
abbrev pub IsFirstFrom : (List ℕ → List ℕ → Ordering) → Key → List InternalEntry → Option InternalEntry → Type 0
IsFirstFrom cmp target entries None = AllByRecursion (λ (entry : InternalEntry). key_cmp cmp entry.key target ≡ Less) entries
IsFirstFrom cmp target entries (Some found) =
    (front : List InternalEntry) × (back : List InternalEntry) × (entries ≡ front ++ found ∷ back)
    × AllByRecursion (λ (entry : InternalEntry). key_cmp cmp entry.key target ≡ Less) front × (key_cmp cmp found.key target ≡ Less → ⊥)

-- the same of pairs, whose keys are in some order
abbrev pub IsFirstOf : (List ℕ → List ℕ → Type 0) → List ℕ → List Pair → Option Pair → Type 0
IsFirstOf below target pairs None = AllByRecursion (λ (pair : Pair). below pair.key target) pairs
IsFirstOf below target pairs (Some found) =
    (front : List Pair) × (back : List Pair) × (pairs ≡ front ++ found ∷ back)
    × AllByRecursion (λ (pair : Pair). below pair.key target) front × (below found.key target → ⊥)

abbrev pub found_pair : Option KeyValue → Option Pair
found_pair None = None
found_pair (Some found) = Some (pair_of found)

abbrev pub pairs_found : Option KeyValue → List Pair
pairs_found None = []
pairs_found (Some found) = pair_of found ∷ []

abbrev pub entry_list : Option InternalEntry → List InternalEntry
entry_list None = []
entry_list (Some entry) = entry ∷ []
