-- A write batch, in the words of LevelDB's db/write_batch.cc:
--   WriteBatch::rep_ := sequence number: fixed64, count: fixed32, data: record[count]
--   record := kTypeValue varstring varstring | kTypeDeletion varstring
--   varstring := len: varint32, data: uint8[len]
use Rattle.std.specs.Prelude.{◌≡◌, ◌<◌, ◌≤◌, ◌+◌, ◌^◌, ℕ, Bool, ◌||◌, nat_lt, nat_le, if◌then◌else◌, List, [], ◌∷◌, ◌++◌, length, Option, Some, None, All}
use Rattle.std.specs.Option.{option_or}
use Rattle.coding.specs.Fixed.{fixed32, fixed64}
use Rattle.coding.specs.Varint.{IsString, string_length}
use Rattle.coding.specs.declared.error.DbError.{DbError}
use Rattle.coding.specs.declared.error.DbError.TheVariants.{KeyTooLong, ValueTooLong, BatchTooLarge}
use Rattle.batch.specs.declared.operation.Operation.{Operation}
use Rattle.batch.specs.declared.operation.Operation.TheVariants.{Put, Delete}

-- a put is the byte 1, the key and the value; a delete is the byte 0 and the key
abbrev pub IsOperation : List ℕ → Operation → Type 0
IsOperation [] operation = ⊥
IsOperation (kind ∷ bytes) (Put key value) = (kind ≡ 1) × (first second : List ℕ) × IsString first key × IsString second value × (bytes ≡ first ++ second)
IsOperation (kind ∷ bytes) (Delete key) = (kind ≡ 0) × IsString bytes key

-- the operations one after the other, and nothing after them
abbrev pub AreOperations : List ℕ → List Operation → Type 0
AreOperations bytes [] = bytes ≡ []
AreOperations bytes (operation ∷ operations) = (first rest : List ℕ) × IsOperation first operation × AreOperations rest operations × (bytes ≡ first ++ rest)

-- The bytes are the batch of these operations. Operation i has the sequence number `sequence + i`,
-- and all are below 2 ^ 56.
pub record IsBatch (bytes : List ℕ) (sequence : ℕ) (operations : List Operation) : Type 0 where
  pub sequence_fits : sequence < 2 ^ 56
  pub last_fits : sequence + length operations ≤ 2 ^ 56
  pub count_fits : length operations < 2 ^ 32
  pub body : List ℕ
  pub parts : bytes ≡ fixed64 sequence ++ (fixed32 (length operations) ++ body)
  pub spelled : AreOperations body operations

-- ---- limits on what is written

-- how many bytes an operation takes, and a batch
abbrev pub operation_length : Operation → ℕ
operation_length (Put key value) = 1 + string_length key + string_length value
operation_length (Delete key) = 1 + string_length key

abbrev pub operations_length : List Operation → ℕ
operations_length [] = 0
operations_length (operation ∷ operations) = operation_length operation + operations_length operations

abbrev pub encoded_length : List Operation → ℕ
encoded_length operations = 12 + operations_length operations

-- A batch of `size` bytes and `count` operations would have more bytes, or more operations, with
-- this one than a batch may.
abbrev pub is_too_large : ℕ → ℕ → Operation → Bool
is_too_large size count next = nat_lt 536870912 (size + operation_length next) || nat_le 1048576 count

-- Why an operation can't be added to a batch of `size` bytes and `count` operations: the key first,
-- then the value, then the batch.
abbrev pub refusal_at : ℕ → ℕ → Operation → Option DbError
refusal_at size count (Put key value) =
    if nat_lt 65535 (length key) then Some KeyTooLong
    else if nat_lt 268435456 (length value) then Some ValueTooLong
    else if is_too_large size count (Put key value) then Some BatchTooLarge
    else None
refusal_at size count (Delete key) =
    if nat_lt 65535 (length key) then Some KeyTooLong
    else if is_too_large size count (Delete key) then Some BatchTooLarge
    else None

-- why an operation can't be added to the batch of these operations
abbrev pub refusal_of : List Operation → Operation → Option DbError
refusal_of operations next = refusal_at (encoded_length operations) (length operations) next

-- the first refusal, where the second operations are added one after the other to a batch of the
-- first ones
abbrev pub first_refusal : List Operation → List Operation → Option DbError
first_refusal taken [] = None
first_refusal taken (operation ∷ operations) = option_or (refusal_of taken operation) (first_refusal (taken ++ operation ∷ []) operations)

-- ---- what a batch in memory keeps

-- each string has a length that its encoding can say
abbrev pub CanBeEncoded : Operation → Type 0
CanBeEncoded (Put key value) = (length key < 2 ^ 32) × (length value < 2 ^ 32)
CanBeEncoded (Delete key) = length key < 2 ^ 32

-- `taken` is how many bytes the batch of these operations takes
pub record IsMade (operations : List Operation) (taken : ℕ) : Type 0 where
  pub taken_is : taken ≡ encoded_length operations
  pub count_fits : length operations < 2 ^ 32
  pub each : All CanBeEncoded operations
