-- A log of which a power loss left zeros, and where it is cut: behind its last whole fragment.
use Rattle.std.specs.Prelude.{◌≡◌, ◌<◌, ◌≤◌, ◌+◌, ◌-◌, ◌⊎◌, ℕ, false, List, ◌++◌, length, take, drop}
use Rattle.std.specs.Prelude.{replicate, slice_index}
use Rattle.coding.specs.declared.error.Damage.TheVariants.{Checksum, Kind}
use Rattle.logfile.specs.Appends.{room_behind}
use Rattle.logfile.specs.Faults.{HasFaultAt}
use Rattle.logfile.specs.Log.{Fragment, data_of, fragment_bytes, length_said, AreBlocks, IsLog}
use Rattle.logfile.specs.declared.record.Tail.{Tail}

-- ---- what a power loss leaves of a file

-- A prefix of what was held, and then zeros, together no longer.
pub record IsZeroed (held bytes : List ℕ) : Type 0 where
  pub kept : ℕ
  pub zeros : ℕ
  pub fits : kept + zeros ≤ length held
  pub parts : bytes ≡ take kept held ++ replicate zeros 0

-- Each byte is what was held there, or zero; together they are no longer.
pub record IsHoled (held bytes : List ℕ) : Type 0 where
  pub short : length bytes ≤ length held
  pub each : (i : ℕ) → (slice_index bytes i ≡ slice_index held i) ⊎ (slice_index bytes i ≡ 0)

-- A fragment that stands at its place, with the checksum that fits, is one that was written there.
abbrev pub AreWritten : List ℕ → List ℕ → Type 0
AreWritten held bytes = (front rest : List ℕ) (fragments : List Fragment) (f : Fragment)
    → bytes ≡ front ++ (fragment_bytes f ++ rest) → AreBlocks front fragments false
    → 7 + length (data_of f) ≤ room_behind front
    → (more : List ℕ) × (drop (length front) held ≡ fragment_bytes f ++ more)

-- Each is a byte.
abbrev pub AreAllBytes : List ℕ → Type 0
AreAllBytes bytes = (i : ℕ) → slice_index bytes i < 256

-- ---- where a log is cut

-- What may stand where `room` bytes are left in the block: a whole fragment, or the zeros at its
-- end.
abbrev pub IsPiece : ℕ → List ℕ → Type 0
IsPiece room piece = ((f : Fragment) × (piece ≡ fragment_bytes f) × (7 + length (data_of f) ≤ room))
    ⊎ ((room < 7) × (piece ≡ replicate room 0))

abbrev pub HasNoPiece : ℕ → List ℕ → Type 0
HasNoPiece room rest = (piece behind : List ℕ) → rest ≡ piece ++ behind → IsPiece room piece → ⊥

-- The first n bytes are whole fragments, and no longer front is.
pub record IsLongestFront (bytes : List ℕ) (n : ℕ) : Type 0 where
  pub fragments : List Fragment
  pub fits : n ≤ length bytes
  pub whole : AreBlocks (take n bytes) fragments false
  pub longest : (other more : List ℕ) (others : List Fragment)
      → bytes ≡ other ++ more → AreBlocks other others false → length other ≤ n

-- Where `room` bytes are left in the block: a header and the data that it says, all there and
-- within the block, which are no fragment.
abbrev pub IsBroken : ℕ → List ℕ → Type 0
IsBroken room rest = HasFaultAt Checksum room (take room rest) ⊎ HasFaultAt Kind room (take room rest)

-- From the last byte on that the header says, all are zeros.
abbrev pub EndsInZeros : List ℕ → Type 0
EndsInZeros rest = drop (6 + length_said rest) rest ≡ replicate (length rest - (6 + length_said rest)) 0

abbrev pub IsBrokenOff : ℕ → List ℕ → Type 0
IsBrokenOff room rest = IsBroken room rest × EndsInZeros rest

-- The front is whole fragments, and what stands behind it is broken.
pub record IsCutAt (bytes front : List ℕ) : Type 0 where
  pub fragments : List Fragment
  pub rest : List ℕ
  pub parts : bytes ≡ front ++ rest
  pub whole : AreBlocks front fragments false
  pub broken : IsBroken (room_behind front) rest

-- The front is whole fragments, and what stands behind it is one broken place and then zeros.
pub record IsMended (bytes front : List ℕ) : Type 0 where
  pub fragments : List Fragment
  pub rest : List ℕ
  pub parts : bytes ≡ front ++ rest
  pub whole : AreBlocks front fragments false
  pub broken : IsBrokenOff (room_behind front) rest

-- ---- what that makes of a power loss

-- It reads as what was held does that is cut off at the same place.
pub record ReadsAsCut (held bytes : List ℕ) : Type 0 where
  pub records : List (List ℕ)
  pub tail : Tail
  pub log : IsLog bytes records tail
  pub cut : IsLog (take (length bytes) held) records tail

-- It is broken behind a prefix of what was held.
pub record IsCutTo (held bytes : List ℕ) : Type 0 where
  pub front : List ℕ
  pub more : List ℕ
  pub at : IsCutAt bytes front
  pub begins : held ≡ front ++ more

-- It is broken behind a prefix of what was held, and ends in zeros.
pub record IsMendedTo (held bytes : List ℕ) : Type 0 where
  pub front : List ℕ
  pub more : List ℕ
  pub mended : IsMended bytes front
  pub begins : held ≡ front ++ more
