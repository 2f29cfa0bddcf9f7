-- Sorted lists that are merged into one.
use Rattle.std.specs.Prelude.{◌≡◌, ℕ, Bool, false, List, Option, Some, None, length, slice_get}
use Rattle.std.specs.Option.{option_map_or}
use Rattle.ikey.specs.Entries.{InternalEntry}
use Rattle.ikey.specs.Keys.{Key, IsKey}
use Rattle.ikey.specs.Views.{Among}
use Rattle.cursor.specs.declared.child.Child.{Child}
use Rattle.cursor.specs.declared.child.Side.{Side}
use Rattle.cursor.specs.declared.child.Side.TheVariants.{Ahead, Behind, Astray}
use Rattle.cursor.specs.Cuts.{Cut}
use Rattle.cursor.specs.Places.{Cmp, Listed, Rises, is_below, within, index_before, leading}

-- ---- the union

-- The union of these lists, sorted: it rises, and has the entries of the lists and no others; no
-- two lists share an internal key.
pub record IsUnion (cmp : Cmp) (lists : List (List InternalEntry)) (union : List InternalEntry) : Type 0 where
  pub rises : Rises cmp union
  pub each_rises : (i : ℕ) (list : List InternalEntry) → slice_get lists i ≡ Some list → Rises cmp list
  pub found : (entry : InternalEntry) → Among union entry → (i : ℕ) × (list : List InternalEntry) × (slice_get lists i ≡ Some list) × Among list entry
  pub covers : (i : ℕ) (list : List InternalEntry) (entry : InternalEntry) → slice_get lists i ≡ Some list → Among list entry → Among union entry
  pub apart : (i j : ℕ) (list other : List InternalEntry) (entry twin : InternalEntry) → slice_get lists i ≡ Some list → slice_get lists j ≡ Some other
      → Among list entry → Among other twin → entry.key ≡ twin.key → i ≡ j

-- ---- where children stand

abbrev pub listed : List InternalEntry → Option ℕ → Listed
listed entries place = record { entries = entries; place = place }

-- on the first entry that fails the test, where those that pass it stand in front
abbrev pub ahead : (InternalEntry → Bool) → List InternalEntry → Option ℕ
ahead test entries = within entries (leading test entries)

-- on the last entry that passes it
abbrev pub behind : (InternalEntry → Bool) → List InternalEntry → Option ℕ
behind test entries = index_before (leading test entries)

-- a child on this side of a key
abbrev pub IsBeside : {C S : Type 0} → Cmp → (C → S → Listed → Type 0) → S → Key → List InternalEntry → C → Side → Type 0
IsBeside cmp lists source key list cursor Ahead = lists cursor source (listed list (ahead (is_below cmp key) list))
IsBeside cmp lists source key list cursor Behind = lists cursor source (listed list (behind (is_below cmp key) list))
IsBeside cmp lists source key list cursor Astray = (place : Option ℕ) × lists cursor source (listed list place)

-- the same of each child and its list
pub record Each {C : Type 0} (children : List (Child C)) (lists : List (List InternalEntry)) (is : ℕ → Child C → List InternalEntry → Type 0) : Type 0 where
  pub same_length : length children ≡ length lists
  pub each : (i : ℕ) (child : Child C) (list : List InternalEntry) → slice_get children i ≡ Some child → slice_get lists i ≡ Some list → is i child list

-- The children stand beside the key, all but the one that is left out; a target is the key, where
-- one is astray.
abbrev pub AreBeside : {C S : Type 0} → Cmp → (C → S → Listed → Type 0) → List (Child C) → Option ℕ → S → Key → List (List InternalEntry) → Type 0
AreBeside cmp lists children left_out source key all =
    Each children all (λ i child list. (Some i ≡ left_out → ⊥) → IsBeside cmp lists source key list child.cursor child.side)

abbrev pub IsTarget : {C : Type 0} → List (Child C) → List ℕ → Key → Type 0
IsTarget {C} children target key = (i : ℕ) (child : Child C) → slice_get children i ≡ Some child → child.side ≡ Astray → IsKey target key

-- The merge stands on an entry: this child stands on it, and the others beside it.
pub record StandsOn {C S : Type 0} (cmp : Cmp) (lists : C → S → Listed → Type 0) (children : List (Child C)) (current : ℕ) (target : List ℕ) (source : S) (all : List (List InternalEntry)) (at : Listed) : Type 0 where
  pub index : ℕ
  pub entry : InternalEntry
  pub place_is : at.place ≡ Some index
  pub entry_is : slice_get at.entries index ≡ Some entry
  pub child : Child C
  pub list : List InternalEntry
  pub within_list : ℕ
  pub child_is : slice_get children current ≡ Some child
  pub list_is : slice_get all current ≡ Some list
  pub same : slice_get list within_list ≡ Some entry
  pub on : lists child.cursor source (listed list (Some within_list))
  pub beside : AreBeside cmp lists children (Some current) source entry.key all
  pub target_is : IsTarget children target entry.key

-- it stands nowhere, and each child anywhere
pub record StandsNowhere {C S : Type 0} (cmp : Cmp) (lists : C → S → Listed → Type 0) (children : List (Child C)) (source : S) (all : List (List InternalEntry)) (at : Listed) : Type 0 where
  pub place_is : at.place ≡ None
  pub beside : (key : Key) → AreBeside cmp lists children None source key all

abbrev pub IsPlaced : {C S : Type 0} → Cmp → (C → S → Listed → Type 0) → List (Child C) → Option ℕ → List ℕ → S → List (List InternalEntry) → Listed → Type 0
IsPlaced cmp lists children None target source all at = StandsNowhere cmp lists children source all at
IsPlaced cmp lists children (Some current) target source all at = StandsOn cmp lists children current target source all at

-- children, current child and target are a merge of this list at this place
abbrev pub IsMerge : {C S : Type 0} → Cmp → (C → S → Listed → Type 0) → List (Child C) → Option ℕ → List ℕ → S → Listed → Type 0
IsMerge cmp lists children current target source at =
    (all : List (List InternalEntry)) × IsUnion cmp all at.entries × IsPlaced cmp lists children current target source all at

-- ---- what a merge reads

abbrev pub KeepsAll : {C S : Type 0} → (C → S → S → Type 0) → List (Child C) → S → S → Type 0
KeepsAll {C} keeps children old new = (i : ℕ) (child : Child C) → slice_get children i ≡ Some child → keeps child.cursor old new

abbrev pub AnyLimited : {C S : Type 0} → (C → S → Type 0) → List (Child C) → S → Type 0
AnyLimited {C} limited children source = (i : ℕ) × (child : Child C) × (slice_get children i ≡ Some child) × limited child.cursor source

-- one of them has a torn block at this cut
abbrev pub AnyTorn : {C S : Type 0} → (C → S → Cut → Type 0) → List (Child C) → S → Cut → Type 0
AnyTorn {C} torn children source cut = (i : ℕ) × (child : Child C) × (slice_get children i ≡ Some child) × torn child.cursor source cut

-- one that isn't left out has
abbrev pub OtherTorn : {C S : Type 0} → (C → S → Cut → Type 0) → List (Child C) → Option ℕ → S → Cut → Type 0
OtherTorn {C} torn children left_out source cut =
    (i : ℕ) × (child : Child C) × (slice_get children i ≡ Some child) × (Some i ≡ left_out → ⊥) × torn child.cursor source cut

-- a merge goes over the tables that its children go over
abbrev pub GoesOverAny : {C : Type 0} → (C → ℕ → Type 0) → List (Child C) → ℕ → Type 0
GoesOverAny {C} over children number = (i : ℕ) × (child : Child C) × (slice_get children i ≡ Some child) × over child.cursor number

abbrev pub child_stands : {C : Type 0} → (C → Bool) → List (Child C) → Option ℕ → Bool
child_stands stands children None = false
child_stands stands children (Some index) = option_map_or (λ child. stands child.cursor) (slice_get children index) false
