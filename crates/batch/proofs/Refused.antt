-- What is refused, and what is known of operations that aren't.
use Rattle.std.proofs.Common.{◌≡◌, ℕ, ◌+◌, ◌<◌, ◌≤◌, Bool, true, false, ◌||◌, ltb, leb, cond, List, [], ◌∷◌, ◌++◌, length, get_or, take, drop, All, refl, sym, ap, ◌∙◌, append_assoc, arith}
use Rattle.std.specs.Prelude.{Option, Some, None, Result, Ok, Err, MatchOption}
use Rattle.std.specs.Option.{option_or}
use Rattle.std.specs.List.{AllByRecursion}
use Rattle.std.proofs.lemmas.Bool.{leb-false, ltb-false, or_parts}
use Rattle.std.proofs.lemmas.List.{length-append, length-take, take_more, drop_more, append-nil}
use Rattle.std.proofs.lemmas.List.Elements.{All-from_recursion}
use Rattle.coding.specs.declared.error.DbError.{DbError}
use Rattle.coding.specs.declared.error.DbError.TheVariants.{KeyTooLong, ValueTooLong, BatchTooLarge}
use Rattle.batch.specs.declared.operation.Operation.{Operation}
use Rattle.batch.specs.declared.operation.Operation.TheVariants.{Put, Delete}
use Rattle.batch.specs.Batch.{CanBeEncoded, operation_length, operations_length, encoded_length, refusal_at, refusal_of, first_refusal}
use Rattle.batch.proofs.Made.{operations_length-push}

none_of_three : (a b c : Bool) (x y z : DbError) → cond a (Some x) (cond b (Some y) (cond c (Some z) None)) ≡ None → (a ≡ false) × (b ≡ false) × (c ≡ false)
none_of_three true b c x y z e = absurd cc
none_of_three false true c x y z e = absurd cc
none_of_three false false true x y z e = absurd cc
none_of_three false false false x y z e = (refl, refl, refl)

none_of_two : (a b : Bool) (x y : DbError) → cond a (Some x) (cond b (Some y) None) ≡ None → (a ≡ false) × (b ≡ false)
none_of_two true b x y e = absurd cc
none_of_two false true x y e = absurd cc
none_of_two false false x y e = (refl, refl)

both_none : (a b : Option DbError) → option_or a b ≡ None → (a ≡ None) × (b ≡ None)
both_none None b e = (refl, e)
both_none (Some x) b e = absurd cc

-- an operation that isn't refused fits
accepted_fits : (size count : ℕ) (o : Operation) → refusal_at size count o ≡ None → CanBeEncoded o × (size + operation_length o ≤ 536870912) × (count < 1048576)
accepted_fits size count (Put key value) e =
    let t = none_of_three (ltb 65535 (length key)) (ltb 268435456 (length value)) (ltb 536870912 (size + operation_length (Put key value)) || leb 1048576 count) KeyTooLong ValueTooLong BatchTooLarge e in
    let s = or_parts (ltb 536870912 (size + operation_length (Put key value))) (leb 1048576 count) t.2 in
    let k : length key ≤ 65535 = ltb-false 65535 (length key) t.0 in
    let v : length value ≤ 268435456 = ltb-false 268435456 (length value) t.1 in
    ((omega (arith, k), omega (arith, v)), ltb-false 536870912 (size + operation_length (Put key value)) s.0, leb-false 1048576 count s.1)
accepted_fits size count (Delete key) e =
    let t = none_of_two (ltb 65535 (length key)) (ltb 536870912 (size + operation_length (Delete key)) || leb 1048576 count) KeyTooLong BatchTooLarge e in
    let s = or_parts (ltb 536870912 (size + operation_length (Delete key))) (leb 1048576 count) t.1 in
    let k : length key ≤ 65535 = ltb-false 65535 (length key) t.0 in
    (omega (arith, k), ltb-false 536870912 (size + operation_length (Delete key)) s.0, leb-false 1048576 count s.1)

all_fit : (taken os : List Operation) → encoded_length taken ≤ 536870912 → length taken ≤ 1048576 → first_refusal taken os ≡ None
    → (encoded_length taken + operations_length os ≤ 536870912) × (length taken + length os ≤ 1048576) × AllByRecursion CanBeEncoded os
all_fit taken [] p q e = (omega (arith, p), omega (arith, q), tt)
all_fit taken (o ∷ os) p q e =
    let b = both_none (refusal_of taken o) (first_refusal (taken ++ o ∷ []) os) e in
    let f = accepted_fits (encoded_length taken) (length taken) o b.0 in
    let more = operations_length-push taken o in
    let len = length-append taken (o ∷ []) in
    let r = all_fit (taken ++ o ∷ []) os (omega (arith, more, f.1)) (omega (arith, len, f.2)) b.1 in
    (omega (arith, more, r.0), omega (arith, len, r.1), (f.0, r.2))

pub limits_hold : (os : List Operation) → first_refusal [] os ≡ None → (encoded_length os ≤ 536870912) × (length os ≤ 1048576)
limits_hold os e =
    let r = all_fit [] os (omega arith) (omega arith) e in
    (omega (arith, r.0), omega (arith, r.1))

pub each_fits : (os : List Operation) → first_refusal [] os ≡ None → All CanBeEncoded os
each_fits os e = All-from_recursion CanBeEncoded os (all_fit [] os (omega arith) (omega arith) e).2

-- ---- one after the other

pub accepted : (o : Option DbError) (n m : ℕ) (r : Result ℕ DbError) → r ≡ Ok n → MatchOption o (r ≡ Ok m) (λ e. r ≡ Err e) → (o ≡ None) × (n ≡ m)
accepted None n m r e h = (refl, cc)
accepted (Some x) n m r e h = absurd cc

pub one_more : (os : List Operation) (i size count new : ℕ) (o : Operation) → i < length os → o ≡ get_or os i o → size ≡ encoded_length (take i os) → count ≡ i
    → refusal_at size count o ≡ None → new ≡ size + operation_length o
    → (new ≡ encoded_length (take (i + 1) os)) × (first_refusal (take i os) (drop i os) ≡ first_refusal (take (i + 1) os) (drop (i + 1) os))
one_more os i size count new o lt at size-is count-is none new-is =
    let more : take (i + 1) os ≡ take i os ++ o ∷ [] = take_more os i o lt ∙ ap (λ (v : Operation). take i os ++ v ∷ []) (sym at) in
    let left : drop i os ≡ o ∷ drop (i + 1) os = drop_more os i o lt ∙ ap (λ (v : Operation). v ∷ drop (i + 1) os) (sym at) in
    let len : length (take i os) ≡ i = omega (arith, length-take i os, lt) in
    let same : refusal_of (take i os) o ≡ None = ap (λ (n : ℕ). refusal_at n (length (take i os)) o) (sym size-is) ∙ ap (λ (n : ℕ). refusal_at size n o) (len ∙ sym count-is) ∙ none in (
      omega (arith, new-is, size-is, ap operations_length more, operations_length-push (take i os) o),
      ap (λ (v : List Operation). first_refusal (take i os) v) left ∙ ap (λ (v : Option DbError). option_or v (first_refusal (take i os ++ o ∷ []) (drop (i + 1) os))) same
          ∙ ap (λ (v : List Operation). first_refusal v (drop (i + 1) os)) (sym more),
    )

-- ---- with one more

or_none : (a : Option DbError) → option_or a None ≡ a
or_none None = refl
or_none (Some x) = refl

or_assoc : (a b c : Option DbError) → option_or a (option_or b c) ≡ option_or (option_or a b) c
or_assoc None b c = refl
or_assoc (Some x) b c = refl

grown : (taken os : List Operation) (p : Operation) → first_refusal taken (os ++ p ∷ []) ≡ option_or (first_refusal taken os) (refusal_of (taken ++ os) p)
grown taken [] p = or_none (refusal_of taken p) ∙ ap (λ (v : List Operation). refusal_of v p) (sym (append-nil taken))
grown taken (o ∷ os) p =
    ap (option_or (refusal_of taken o)) (grown (taken ++ o ∷ []) os p ∙ ap (λ (v : List Operation). option_or (first_refusal (taken ++ o ∷ []) os) (refusal_of v p)) (append_assoc taken (o ∷ []) os))
    ∙ or_assoc (refusal_of taken o) (first_refusal (taken ++ o ∷ []) os) (refusal_of (taken ++ o ∷ os) p)

pub one_more_refused : (os : List Operation) (p : Operation) → first_refusal [] (os ++ p ∷ []) ≡ option_or (first_refusal [] os) (refusal_of os p)
one_more_refused os p = grown [] os p
