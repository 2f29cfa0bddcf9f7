-- A log file (LevelDB's doc/log_format.md): blocks of 32,768 bytes. The last one may be partial.
-- Bytes, records and tail are related from the bytes up: blocks, the fragments in each, the records
-- that the fragments join to.
use Rattle.std.specs.Prelude.{◌≡◌, ◌<◌, ◌≤◌, ◌+◌, ◌-◌, ◌*◌, ◌⊎◌, ℕ, Bool, true, false, ◌||◌, if◌then◌else◌, List, [], ◌∷◌, ◌++◌, length, replicate, slice_index, nat_lt}
use Rattle.std.specs.List.{flat_map}
use Rattle.coding.specs.Checksum.{checksum, masked}
use Rattle.coding.specs.Fixed.{fixed16, fixed32}
use Rattle.logfile.specs.declared.record.Tail.{Tail}
use Rattle.logfile.specs.declared.record.Tail.TheVariants.{Clean, Torn}

-- ---- fragments

-- a fragment by its type and its data: a whole record, or a record's first, middle or last part
pub data Fragment : Type 0 where
  full : List ℕ → Fragment
  first : List ℕ → Fragment
  middle : List ℕ → Fragment
  last : List ℕ → Fragment

abbrev pub type_of : Fragment → ℕ
type_of (full bytes) = 1
type_of (first bytes) = 2
type_of (middle bytes) = 3
type_of (last bytes) = 4

abbrev pub data_of : Fragment → List ℕ
data_of (full bytes) = bytes
data_of (first bytes) = bytes
data_of (middle bytes) = bytes
data_of (last bytes) = bytes

-- type and data, which the checksum covers
abbrev pub covered : Fragment → List ℕ
covered fragment = type_of fragment ∷ data_of fragment

-- the stored checksum, the length of the data, the type, the data
unfoldable pub fragment_bytes : Fragment → List ℕ
fragment_bytes fragment = fixed32 (masked (checksum (covered fragment))) ++ fixed16 (length (data_of fragment)) ++ covered fragment

-- ---- blocks

-- what the header at the front says of the length of the data
abbrev pub length_said : List ℕ → ℕ
length_said rest = slice_index rest 4 + 256 * slice_index rest 5

-- The file's end cuts off what begins here: zeros where no header fits, a header, or a fragment's
-- data. `room` bytes are left in the block. The header says that the data end within them.
abbrev pub IsCutZeros : ℕ → List ℕ → Type 0
IsCutZeros room rest = (room < 7) × (0 < length rest) × (length rest < room) × (rest ≡ replicate (length rest) 0)

abbrev pub IsCutHeader : ℕ → List ℕ → Type 0
IsCutHeader room rest = (7 ≤ room) × (0 < length rest) × (length rest < 7)

abbrev pub IsCutData : ℕ → List ℕ → Type 0
IsCutData room rest = (7 ≤ length rest) × (length rest < 7 + length_said rest) × (7 + length_said rest ≤ room)

-- What stands behind the last whole fragment of a block, with `room` bytes left there: nothing, the
-- zeros of the trailer if no header fits, or something cut off.
abbrev pub IsEnding : Bool → ℕ → List ℕ → Type 0
IsEnding false room rest = (rest ≡ []) ⊎ ((room < 7) × (rest ≡ replicate room 0))
IsEnding true room rest = IsCutZeros room rest ⊎ (IsCutHeader room rest ⊎ IsCutData room rest)

-- The bytes are these whole fragments, each within the `room` left in the block, and what stands
-- behind them. `cut` says whether that is cut off.
abbrev pub IsLogBlock : ℕ → List Fragment → Bool → List ℕ → Type 0
IsLogBlock room [] cut bytes = IsEnding cut room bytes
IsLogBlock room (fragment ∷ fragments) cut bytes =
    (rest : List ℕ) × (bytes ≡ fragment_bytes fragment ++ rest) × (7 + length (data_of fragment) ≤ room)
    × IsLogBlock (room - (7 + length (data_of fragment))) fragments cut rest

-- the bytes are whole blocks and one that is shorter, perhaps empty; their fragments in order
pub data AreBlocks : List ℕ → List Fragment → Bool → Type 0 where
  shorter : {bytes : List ℕ} {fragments : List Fragment} {cut : Bool} → length bytes < 32768 → IsLogBlock 32768 fragments cut bytes → AreBlocks bytes fragments cut
  whole : {bytes : List ℕ} {fragments : List Fragment} {cut : Bool} (block rest : List ℕ) (here others : List Fragment)
      → bytes ≡ block ++ rest → fragments ≡ here ++ others
      → length block ≡ 32768 → IsLogBlock 32768 here false block → AreBlocks rest others cut → AreBlocks bytes fragments cut

-- ---- records

-- From a place on, inside a record or not, the fragments join to these records. Inside one, the
-- first of them is what is left of it. `begun`: the last record lacks its end, and isn't listed.
abbrev pub Join : Bool → List Fragment → List (List ℕ) → Bool → Type 0
Join inside [] [] begun = begun ≡ inside
Join inside [] (record_bytes ∷ records) begun = ⊥
Join false (full bytes ∷ fragments) (record_bytes ∷ records) begun = (record_bytes ≡ bytes) × Join false fragments records begun
Join false (full bytes ∷ fragments) [] begun = ⊥
Join false (first bytes ∷ fragments) [] begun = Join true fragments [] begun
Join false (first bytes ∷ fragments) (record_bytes ∷ records) begun = (rest : List ℕ) × (record_bytes ≡ bytes ++ rest) × Join true fragments (rest ∷ records) begun
Join true (middle bytes ∷ fragments) [] begun = Join true fragments [] begun
Join true (middle bytes ∷ fragments) (record_bytes ∷ records) begun = (rest : List ℕ) × (record_bytes ≡ bytes ++ rest) × Join true fragments (rest ∷ records) begun
Join true (last bytes ∷ fragments) (record_bytes ∷ records) begun = (record_bytes ≡ bytes) × Join false fragments records begun
Join true (last bytes ∷ fragments) [] begun = ⊥
Join false (middle bytes ∷ fragments) records begun = ⊥
Join false (last bytes ∷ fragments) records begun = ⊥
Join true (full bytes ∷ fragments) records begun = ⊥
Join true (first bytes ∷ fragments) records begun = ⊥

-- the log: its records, and whether something at its end was cut off
pub record IsLog (bytes : List ℕ) (records : List (List ℕ)) (tail : Tail) : Type 0 where
  pub fragments : List Fragment
  pub cut : Bool
  pub begun : Bool
  pub blocks : AreBlocks bytes fragments cut
  pub joined : Join false fragments records begun
  pub tail_is : tail ≡ (if cut || begun then Torn else Clean)

-- ---- the writer's choice

-- Each fragment but the last fills its block, and none but the first is empty. So each is as long
-- as its block allows. `room` bytes are left where the first begins.
abbrev pub AreLongest : ℕ → List Fragment → Type 0
AreLongest room [] = ⊥
AreLongest room (fragment ∷ []) = 7 + length (data_of fragment) ≤ room
AreLongest room (fragment ∷ next ∷ fragments) =
    (7 + length (data_of fragment) ≡ room) × (0 < length (data_of next)) × AreLongest 32768 (next ∷ fragments)

-- the bytes that our writer adds for a record where `room` bytes are left in the block
pub record IsWritten (room : ℕ) (payload bytes : List ℕ) : Type 0 where
  pub fragments : List Fragment
  pub skipped : ℕ
  pub skips : skipped ≡ (if nat_lt room 7 then room else 0)
  pub parts : bytes ≡ replicate skipped 0 ++ flat_map fragment_bytes fragments
  pub longest : AreLongest (if nat_lt room 7 then 32768 else room) fragments
  pub joined : Join false fragments (payload ∷ []) false
