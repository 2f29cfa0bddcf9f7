-- A batch in memory knows how many bytes it takes.
use Rattle.std.proofs.Common.{◌≡◌, ℕ, ◌+◌, ◌^◌, ◌<◌, List, [], ◌∷◌, ◌++◌, length, ap, arith}
use Rattle.std.proofs.lemmas.List.{length-append}
use Rattle.std.proofs.lemmas.List.Elements.{All-push, All-from_recursion}
use Rattle.std.specs.List.{AllByRecursion}
use Rattle.coding.specs.Fixed.{fixed32, fixed64}
use Rattle.coding.proofs.Varints.{length-string}
use Rattle.batch.specs.declared.operation.Operation.{Operation}
use Rattle.batch.specs.declared.operation.Operation.TheVariants.{Put, Delete}
use Rattle.batch.specs.Batch.{IsOperation, AreOperations, IsBatch, IsMade, CanBeEncoded, operation_length, operations_length, encoded_length}

pub operations_length-push : (os : List Operation) (o : Operation) → operations_length (os ++ o ∷ []) ≡ operations_length os + operation_length o
operations_length-push [] o = omega arith
operations_length-push (p ∷ os) o = omega (arith, operations_length-push os o)

pub push_made : (os new : List Operation) (o : Operation) (taken more : ℕ) → IsMade os taken → length os < 2 ^ 20 → CanBeEncoded o → more ≡ encoded_length os + operation_length o → new ≡ os ++ o ∷ [] → IsMade new more
push_made os new o taken more made few fits more-is new-is =
    rw new-is (record {
      taken_is = omega (arith, operations_length-push os o, more-is);
      count_fits = omega (arith, length-append os (o ∷ []), few);
      each = All-push CanBeEncoded os o made.each fits;
    })

length-operation : (bytes : List ℕ) (o : Operation) → IsOperation bytes o → length bytes ≡ operation_length o
length-operation [] o h = absurd h
length-operation (kind ∷ bytes) (Put key value) h = omega (arith, ap length h.5, length-append h.1 h.2, length-string h.1 key h.3, length-string h.2 value h.4)
length-operation (kind ∷ bytes) (Delete key) h = omega (arith, length-string bytes key h.1)

length-operations : (bytes : List ℕ) (os : List Operation) → AreOperations bytes os → length bytes ≡ operations_length os
length-operations bytes [] h = ap length h
length-operations bytes (o ∷ os) h = omega (arith, ap length h.4, length-append h.0 h.1, length-operation h.0 o h.2, length-operations h.1 os h.3)

can_be_encoded : (bytes : List ℕ) (o : Operation) → IsOperation bytes o → CanBeEncoded o
can_be_encoded [] o h = absurd h
can_be_encoded (kind ∷ bytes) (Put key value) h = (h.3.fits, h.4.fits)
can_be_encoded (kind ∷ bytes) (Delete key) h = h.1.fits

each_can : (bytes : List ℕ) (os : List Operation) → AreOperations bytes os → AllByRecursion CanBeEncoded os
each_can bytes [] h = tt
each_can bytes (o ∷ os) h = (can_be_encoded h.0 o h.2, each_can h.1 os h.3)

pub length-batch : (bytes : List ℕ) (sequence : ℕ) (os : List Operation) → IsBatch bytes sequence os → length bytes ≡ encoded_length os
length-batch bytes sequence os h =
    omega (arith, ap length h.parts, length-append (fixed64 sequence) (fixed32 (length os) ++ h.body), length-append (fixed32 (length os)) h.body, length-operations h.body os h.spelled)

pub batch_made : (bytes : List ℕ) (sequence : ℕ) (os : List Operation) → IsBatch bytes sequence os → IsMade os (length bytes)
batch_made bytes sequence os h = record {
  taken_is = length-batch bytes sequence os h;
  count_fits = h.count_fits;
  each = All-from_recursion CanBeEncoded os (each_can h.body os h.spelled);
}
