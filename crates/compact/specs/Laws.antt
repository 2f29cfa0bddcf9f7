-- What a compaction leaves of the views.
use Rattle.std.specs.Prelude.{◌≡◌, ◌<◌, ◌≤◌, ◌⊎◌, ℕ, Bool, Some, IsTrue, IsSome, List, [], ◌∷◌, ◌++◌, Contains}
use Rattle.std.specs.FinMap.{get}
use Rattle.ikey.specs.declared.entry.Entry.{Entry}
use Rattle.compact.specs.Needed.{AreNeeded}
use Rattle.ikey.specs.Views.{Among, Contents, IsView}

-- Of a key of these entries the others are newer, or the key is one that files below the output
-- level cover.
abbrev pub AreNewerOrDeep : List Entry → List Entry → (List ℕ → Bool) → Type 0
AreNewerOrDeep entries others deep =
    (entry other : Entry) → Among entries entry → Among others other → other.key ≡ entry.key → (entry.sequence < other.sequence) ⊎ IsTrue (deep entry.key)

-- Of these entries a reader at this sequence number sees what one of the sequence numbers sees: it
-- is one of them, or above the last of them as all entries aren't.
abbrev pub SeesAsOne : List Entry → List ℕ → ℕ → Type 0
SeesAsOne entries sequences p =
    (q : ℕ) × Contains sequences q × (q ≤ p) × ((entry : Entry) → Among entries entry → entry.sequence ≤ p → entry.sequence ≤ q)

-- The views of the needed entries with the others are those of all entries with the others.
abbrev pub KeepsViews : Type 0
KeepsViews =
    (entries needed others : List Entry) (sequences : List ℕ) (deep : List ℕ → Bool) (p : ℕ) (map : Contents)
    → AreNeeded entries sequences deep needed → AreNewerOrDeep entries others deep → SeesAsOne entries sequences p
    → IsView (entries ++ others) p map → IsView (needed ++ others) p map

-- All that is needed is needed once more.
abbrev pub KeepsNeeded : Type 0
KeepsNeeded =
    (entries needed : List Entry) (sequences : List ℕ) (deep : List ℕ → Bool)
    → AreNeeded entries sequences deep needed → AreNeeded needed sequences deep needed

-- no two entries share key and sequence number
abbrev pub AreDistinct : List Entry → Type 0
AreDistinct entries = (entry other : Entry) → Among entries entry → Among entries other → other.key ≡ entry.key → other.sequence ≡ entry.sequence → other ≡ entry

-- The entries are the pairs of the map, one put each.
pub record ArePairsOf (map : Contents) (entries : List Entry) : Type 0 where
  pub puts : (entry : Entry) → Among entries entry → IsSome entry.value × (get map entry.key ≡ entry.value)
  pub all : (key value : List ℕ) → get map key ≡ Some value → (entry : Entry) × Among entries entry × (entry.key ≡ key) × (entry.value ≡ Some value)
  pub once : (entry other : Entry) → Among entries entry → Among entries other → other.key ≡ entry.key → other ≡ entry

-- With one sequence number, that of the view, and no files below, what is needed is the map itself.
abbrev pub LeavesPairs : Type 0
LeavesPairs =
    (entries needed : List Entry) (deep : List ℕ → Bool) (last : ℕ) (map : Contents)
    → ((key : List ℕ) → IsTrue (deep key) → ⊥) → AreDistinct entries → IsView entries last map
    → AreNeeded entries (last ∷ []) deep needed → ArePairsOf map needed

-- A view is one of a set of entries.
abbrev pub ViewsAreOfSets : Type 0
ViewsAreOfSets =
    (entries others : List Entry) (p : ℕ) (map : Contents)
    → ((entry : Entry) → Among entries entry → Among others entry) → ((entry : Entry) → Among others entry → Among entries entry)
    → IsView entries p map → IsView others p map
