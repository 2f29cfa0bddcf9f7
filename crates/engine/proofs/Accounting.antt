-- How much a database can have, with a batch more.
use Rattle.std.proofs.Common.{◌≡◌, ℕ, suc, ◌+◌, List, [], ◌∷◌, ◌++◌, length, sum_by, inl, inr, refl, ap, subst, append_assoc, arith}
use Rattle.std.proofs.lemmas.List.{length-append}
use Rattle.std.proofs.lemmas.List.Sums.{sum_by-append, sum_by-cons, sum_by_push}
use Rattle.batch.specs.declared.operation.Operation.{Operation}
use Rattle.batch.specs.declared.operation.Operation.TheVariants.{Put, Delete}
use Rattle.ikey.specs.declared.entry.Entry.{Entry}
use Rattle.ikey.proofs.SearchedSources.{among_split, among_front, among_back}
use Rattle.recover.specs.Entries.{made_entry, entries_of}
use Rattle.engine.specs.internal.Accounted.{AreAccounted}
use Rattle.machine.specs.Machine.{entry_weight, Machine, entry_count, operation_weight, weight}

-- ---- the entries of a batch

weighs : (sequence : ℕ) (operation : Operation) → entry_weight (made_entry sequence operation) ≡ operation_weight operation
weighs sequence (Put key value) = refl
weighs sequence (Delete key) = omega arith

all_weigh : (first : ℕ) (operations : List Operation) → sum_by entry_weight (entries_of first operations) ≡ sum_by operation_weight operations
all_weigh first [] = refl
all_weigh first (operation ∷ operations) =
    let entries = sum_by-cons entry_weight (made_entry first operation) (entries_of (first + 1) operations) in
    let all = sum_by-cons operation_weight operation operations in
    omega (arith, entries, all, weighs first operation, all_weigh (first + 1) operations)

as_many : (first : ℕ) (operations : List Operation) → length (entries_of first operations) ≡ length operations
as_many first [] = refl
as_many first (operation ∷ operations) = ap suc (as_many (first + 1) operations)

-- ---- after others

accounted_behind : (entries : List Entry) (count weight first : ℕ) (operations : List Operation) → AreAccounted entries count weight
    → AreAccounted (entries ++ entries_of first operations) (count + length operations) (weight + sum_by operation_weight operations)
accounted_behind entries count weight first operations h =
    let more = entries_of first operations in
    record {
      all = h.all ++ more;
      within = λ entry i. elim (among_split entries more entry i) [ inl j ↦ among_front h.all more entry (h.within entry j) | inr j ↦ among_back h.all more entry j ];
      count = (let few = h.count in omega (arith, length-append h.all more, as_many first operations, few));
      weight = (let light = h.weight in omega (arith, sum_by-append entry_weight h.all more, all_weigh first operations, light));
    }

-- a batch after those of the logs
pub accounted_written : (tables inserts : List Entry) (count weight first : ℕ) (operations : List Operation) → AreAccounted (tables ++ inserts) count weight
    → AreAccounted (tables ++ (inserts ++ entries_of first operations)) (count + length operations) (weight + sum_by operation_weight operations)
accounted_written tables inserts count weight first operations h =
    subst (λ (es : List Entry). AreAccounted es (count + length operations) (weight + sum_by operation_weight operations)) (append_assoc tables inserts (entries_of first operations))
    (accounted_behind (tables ++ inserts) count weight first operations h)

-- ---- the machine with the batch

module _ (m n : Machine) (operations : List Operation) (batches : n.batches ≡ m.batches ++ operations ∷ []) where
  pub count_written : n.first_entries ≡ m.first_entries → entry_count n ≡ entry_count m + length operations
  count_written first =
      let all = ap (sum_by (λ (os : List Operation). length os)) batches in
      omega (arith, first, all, sum_by_push (λ (os : List Operation). length os) m.batches operations)

  pub weight_written : n.first_weight ≡ m.first_weight → weight n ≡ weight m + sum_by operation_weight operations
  weight_written first =
      let all = ap (sum_by (sum_by operation_weight)) batches in
      omega (arith, first, all, sum_by_push (sum_by operation_weight) m.batches operations)
