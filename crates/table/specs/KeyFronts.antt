-- The fronts of the user keys that bound data blocks.
use Rattle.std.specs.Prelude.{◌<◌, ◌≤◌, ℕ, List, length, slice_index_or}
use Rattle.ikey.specs.Fronts.{IsFront}
use Rattle.ikey.specs.Keys.{Key, IsKey}
use Rattle.ikey.specs.declared.front.Front.{Front}
use Rattle.table.specs.declared.handle.Place.{Place}

-- the bytes are an internal key, whose user key has this front
abbrev pub IsSoughtBy : Front → List ℕ → Type 0
IsSoughtBy front bytes = (key : Key) × IsKey bytes key × IsFront front key.user

-- the same of the first places
pub record AreFronts (places : List Place) (fronts : List Front) : Type 0 where
  pub few : length fronts ≤ length places
  pub each : (i : ℕ) (d : Place) (e : Front) → i < length fronts → IsSoughtBy (slice_index_or fronts i e) (slice_index_or places i d).key
