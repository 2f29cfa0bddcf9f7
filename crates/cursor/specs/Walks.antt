-- What a walk over the visible pairs stands for.
use Rattle.std.specs.Prelude.{◌≡◌, ℕ, Bool, true, false, List, Option, Some, None, Result, Ok, Err, slice_get, if◌then◌else◌}
use Rattle.coding.specs.declared.error.DbError.{DbError}
use Rattle.ikey.specs.Entries.{InternalEntry, Pair}
use Rattle.cursor.specs.declared.visible.Visible.{Visible}
use Rattle.cursor.specs.declared.standing.Position.{Position}
use Rattle.cursor.specs.declared.standing.Position.TheVariants.{Here, Behind, Astray}
use Rattle.cursor.specs.Places.{Cmp, Listed}
use Rattle.cursor.specs.Merging.{listed}
use Rattle.cursor.specs.Standing.{StandsAt}
use Rattle.cursor.specs.Views.{IsViewList, IsVisible, Walked, shown}

-- the walk stands on the pair of this index
pub record StandsOnPair {C S : Type 0} (cmp : Cmp) (lists : C → S → Listed → Type 0) (cursor : C) (sequence : ℕ) (position : Position) (key value : List ℕ) (source : S) (entries : List InternalEntry) (at : Walked) : Type 0 where
  pub index : ℕ
  pub entry : InternalEntry
  pub place_is : at.place ≡ Some index
  pub pair_is : slice_get at.pairs index ≡ Some (shown entry)
  pub visible : IsVisible entries sequence entry
  pub key_is : key ≡ entry.key.user
  pub beneath : StandsAt cmp lists position cursor source entries entry value

-- it stands nowhere, and the cursor beneath anywhere
abbrev pub StandsOnNone : {C S : Type 0} → (C → S → Listed → Type 0) → C → S → List InternalEntry → Walked → Type 0
StandsOnNone lists cursor source entries at = (at.place ≡ None) × ((place : Option ℕ) × lists cursor source (listed entries place))

abbrev pub IsPlacedWalk : {C S : Type 0} → Cmp → (C → S → Listed → Type 0) → C → ℕ → Bool → Position → List ℕ → List ℕ → S → List InternalEntry → Walked → Type 0
IsPlacedWalk cmp lists cursor sequence true position key value source entries at = StandsOnPair cmp lists cursor sequence position key value source entries at
IsPlacedWalk cmp lists cursor sequence false position key value source entries at = StandsOnNone lists cursor source entries at

-- The walk, over this source, is the view of what its cursor lists, at this place.
abbrev pub IsWalk : {K C S : Type 0} {g : _} → Cmp → (C → S → Listed → Type 0) → Visible K C g → S → Walked → Type 0
IsWalk cmp lists walk source at =
    (entries : List InternalEntry) × IsViewList cmp entries walk.sequence at.pairs
    × IsPlacedWalk cmp lists walk.cursor walk.sequence walk.stands walk.position walk.here.key.items walk.here.value.items source entries at

-- its value is at hand
abbrev pub value_at_hand : {K C : Type 0} {g : _} → (C → Bool) → Visible K C g → Bool
value_at_hand {K} {C} stands walk = at_hand walk.position
  where
    at_hand : Position → Bool
    at_hand Here = stands walk.cursor
    at_hand Behind = true
    at_hand Astray = false

-- What a move of an iteration leads to: the place where it leads, or, where it is refused, the
-- place that there was.
abbrev pub walk_after : {T : Type 0} → Result T DbError → Option ℕ → Walked → Walked
walk_after (Ok done) to at = record at { place = to }
walk_after (Err error) to at = at

-- ---- parts of moves

abbrev pub walked : List Pair → Option ℕ → Walked
walked pairs place = record { pairs = pairs; place = place }

-- the same pair, whose entry is looked for again
pub record HasStayed {K C : Type 0} {g : _} (old new : Visible K C g) : Type 0 where
  pub stands : new.stands ≡ old.stands
  pub position : new.position ≡ Astray
  pub key : new.here.key.items ≡ old.here.key.items

-- the user key on which the walk stood before its last move, which succeeded
abbrev pub key_before : {K C : Type 0} {g : _} → Visible K C g → List ℕ
key_before walk = if walk.stands then walk.spare.key.items else walk.here.key.items
