-- Where the bytes of a log are cut, and what becomes of them.
use Rattle.std.specs.Prelude.{◌≡◌, ◌≢◌, ◌<◌, ◌≤◌, ◌+◌, ◌-◌, ◌%◌, ◌⊎◌, ℕ, List, Option, Some, None, length}
use Rattle.std.specs.Prelude.{take, drop, slice_index}
use Rattle.logfile.specs.Log.{length_said, IsLog}
use Rattle.logfile.specs.Mending.{IsCutAt, IsMended}
use Rattle.logfile.specs.declared.record.Tail.{Tail}
use Rattle.mending.specs.declared.ends.Ends.{Ends}
use Rattle.mending.specs.declared.ends.Ends.TheVariants.{Zeros, Holes}

-- The byte before place n of `rest` is a zero that ends a sector of 512 bytes or the file. `at`
-- bytes stand in front of `rest`.
abbrev pub IsMark : List ℕ → ℕ → ℕ → Type 0
IsMark rest n at = (n ≤ length rest) × (((at + n) % 512 ≡ 0) ⊎ (n ≡ length rest)) × (slice_index rest (n - 1) ≡ 0)

-- So does one from the broken fragment on that begins at `at`, and up to a sector after it.
abbrev pub HasHole : List ℕ → ℕ → Type 0
HasHole bytes at = (n : ℕ) × (0 < n) × (n < length_said (drop at bytes) + 519) × IsMark (drop at bytes) n at

-- The bytes are cut behind this front.
abbrev pub IsCut : Ends → List ℕ → List ℕ → Type 0
IsCut Zeros bytes front = IsMended bytes front
IsCut Holes bytes front = IsMended bytes front ⊎ (IsCutAt bytes front × HasHole bytes (length front))

abbrev pub IsReadable : List ℕ → Type 0
IsReadable bytes = (records : List (List ℕ)) × (tail : Tail) × IsLog bytes records tail

-- What becomes of the bytes: they stay, or are cut. It is a log.
pub record Becomes (ends : Ends) (bytes front : List ℕ) : Type 0 where
  pub how : (front ≡ bytes) ⊎ IsCut ends bytes front
  pub readable : IsReadable front

-- the bytes cut off at a place, or as they are
abbrev pub front_by : Option ℕ → List ℕ → List ℕ
front_by None bytes = bytes
front_by (Some n) bytes = take n bytes

-- The bytes end in so many zeros, and in no more.
pub record EndsIn (n : ℕ) (bytes : List ℕ) : Type 0 where
  pub fits : n ≤ length bytes
  pub zeros : (i : ℕ) → length bytes ≤ i + n → slice_index bytes i ≡ 0
  pub most : (0 < length bytes - n) → slice_index bytes (length bytes - n - 1) ≢ 0
