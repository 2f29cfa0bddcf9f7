-- The pairs that are visible at a sequence number (LevelDB's doc/index.md, "Snapshots"), as a
-- sorted list.
use Rattle.std.specs.Prelude.{◌≡◌, ◌⊎◌, ◌≤◌, ℕ, zero, suc, Bool, List, [], ◌∷◌, Option, length, option_and_then, if◌then◌else◌}
use Rattle.std.specs.List.{AllByRecursion}
use Rattle.std.specs.declared.cmp.Ordering.TheVariants.{Less}
use Rattle.ikey.specs.declared.internal_key.Kind.TheVariants.{Put}
use Rattle.ikey.specs.Entries.{InternalEntry, Pair}
use Rattle.ikey.specs.Views.{Among}
use Rattle.cursor.specs.Places.{Cmp, is_less, within, index_before, index_behind}

-- Of the entries of its user key up to the sequence number the entry is the newest.
pub record IsNewest (entries : List InternalEntry) (sequence : ℕ) (entry : InternalEntry) : Type 0 where
  pub member : Among entries entry
  pub seen : entry.key.sequence ≤ sequence
  pub greatest : (other : InternalEntry) → Among entries other → other.key.user ≡ entry.key.user → other.key.sequence ≤ sequence → other.key.sequence ≤ entry.key.sequence

-- the same, and a put
abbrev pub IsVisible : List InternalEntry → ℕ → InternalEntry → Type 0
IsVisible entries sequence entry = IsNewest entries sequence entry × (entry.key.kind ≡ Put)

-- a user key and its value
abbrev pub shown : InternalEntry → Pair
shown entry = record { key = entry.key.user; value = entry.value }

abbrev pub HasPair : List Pair → Pair → Type 0
HasPair [] pair = ⊥
HasPair (first ∷ pairs) pair = (pair ≡ first) ⊎ HasPair pairs pair

-- the user keys rise strictly
abbrev pub KeysRise : Cmp → List Pair → Type 0
KeysRise cmp [] = Unit {0}
KeysRise cmp (pair ∷ pairs) = AllByRecursion (λ (later : Pair). cmp pair.key later.key ≡ Less) pairs × KeysRise cmp pairs

-- The view of the entries at a sequence number, as a list: its keys rise, and its pairs are those
-- of the visible entries and no others.
pub record IsViewList (cmp : Cmp) (entries : List InternalEntry) (sequence : ℕ) (pairs : List Pair) : Type 0 where
  pub rises : KeysRise cmp pairs
  pub found : (pair : Pair) → HasPair pairs pair → (entry : InternalEntry) × IsVisible entries sequence entry × (pair ≡ shown entry)
  pub covers : (entry : InternalEntry) → IsVisible entries sequence entry → HasPair pairs (shown entry)

-- pairs, and the index of the one that a walk stands on, if it stands on one
pub record Walked : Type 0 where
  pub pairs : List Pair
  pub place : Option ℕ

-- how many pairs at the front have user keys that pass the test
abbrev pub passed : (List ℕ → Bool) → List Pair → ℕ
passed test [] = zero
passed test (pair ∷ pairs) = if test pair.key then suc (passed test pairs) else zero

-- how many pairs come before the user key
abbrev pub keys_before : Cmp → List ℕ → List Pair → ℕ
keys_before cmp key pairs = passed (λ (user : List ℕ). is_less (cmp user key)) pairs

-- the entry's user key comes before this one
abbrev pub is_user_below : Cmp → List ℕ → InternalEntry → Bool
is_user_below cmp user entry = is_less (cmp entry.key.user user)

-- ---- where the moves lead

abbrev pub walk_first : Walked → Option ℕ
walk_first at = within at.pairs 0

abbrev pub walk_last : Walked → Option ℕ
walk_last at = index_before (length at.pairs)

abbrev pub walk_to : Cmp → List ℕ → Walked → Option ℕ
walk_to cmp key at = within at.pairs (keys_before cmp key at.pairs)

abbrev pub walk_next : Walked → Option ℕ
walk_next at = option_and_then (index_behind at.pairs) at.place

abbrev pub walk_prev : Walked → Option ℕ
walk_prev at = option_and_then index_before at.place
