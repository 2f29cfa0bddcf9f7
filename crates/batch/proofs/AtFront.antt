-- What stands at the front of bytes, and what doesn't.
use Rattle.std.proofs.Common.{◌≡◌, ℕ, ◌+◌, ◌-◌, ◌^◌, ◌<◌, ◌≤◌, false, eqb, List, [], ◌∷◌, ◌++◌, length, get_or, take, drop, refl, sym, ap, ◌∙◌, append_assoc, arith}
use Rattle.std.proofs.lemmas.List.{take_rest, append-nil, nil_from_length}
use Rattle.coding.specs.Varint.{IsString}
use Rattle.coding.specs.Fixed.{fixed32, fixed64}
use Rattle.coding.proofs.Fronts.{string_front, fixed32_front, fixed64_front}
use Rattle.batch.specs.declared.operation.Operation.{Operation}
use Rattle.batch.specs.declared.operation.Operation.TheVariants.{Put, Delete}
use Rattle.batch.specs.Batch.{IsOperation, AreOperations, IsBatch}
use Rattle.batch.proofs.Batches.{operation_front}

abbrev pub NoString : List ℕ → Type 0
NoString bytes = (front text rest : List ℕ) → IsString front text → bytes ≡ front ++ rest → ⊥

abbrev pub NoOperation : List ℕ → Type 0
NoOperation bytes = (front rest : List ℕ) (o : Operation) → IsOperation front o → bytes ≡ front ++ rest → ⊥

abbrev pub NoOperations : ℕ → List ℕ → Type 0
NoOperations count bytes = (front rest : List ℕ) (os : List Operation) → AreOperations front os → length os ≡ count → bytes ≡ front ++ rest → ⊥

abbrev pub NoBatch : List ℕ → Type 0
NoBatch bytes = (sequence : ℕ) (os : List Operation) → IsBatch bytes sequence os → ⊥

pub first_and_rest : (bytes : List ℕ) (kind : ℕ) → 1 ≤ length bytes → get_or bytes 0 0 ≡ kind → bytes ≡ kind ∷ take (length bytes - 1) (drop 1 bytes)
first_and_rest [] kind some e = absurd (omega arith)
first_and_rest (b ∷ bytes) kind some e = cc (e, take_rest (b ∷ bytes) 1)

pub no_put_key : (bytes behind : List ℕ) → bytes ≡ 1 ∷ behind → NoString behind → NoOperation bytes
no_put_key bytes behind e none [] rest o h f = h
no_put_key bytes behind e none (c ∷ a) rest (Put k v) h f =
    let tails : behind ≡ a ++ rest = cc in
    none h.1 k (h.2 ++ rest) h.3 (tails ∙ ap (λ (x : List ℕ). x ++ rest) h.5 ∙ append_assoc h.1 h.2 rest)
no_put_key bytes behind e none (c ∷ a) rest (Delete k) h f =
    let heads : 1 ≡ c = cc in omega (arith, heads, h.0)

pub no_put_value : (bytes behind first key after : List ℕ) → bytes ≡ 1 ∷ behind → IsString first key → behind ≡ first ++ after → NoString after → NoOperation bytes
no_put_value bytes behind first key after e s parts none [] rest o h f = h
no_put_value bytes behind first key after e s parts none (c ∷ a) rest (Put k v) h f =
    let tails : behind ≡ a ++ rest = cc in
    let again = string_front first h.1 after (h.2 ++ rest) key k s h.3 (sym parts ∙ tails ∙ ap (λ (x : List ℕ). x ++ rest) h.5 ∙ append_assoc h.1 h.2 rest) in
    none h.2 v rest h.4 again.1
no_put_value bytes behind first key after e s parts none (c ∷ a) rest (Delete k) h f =
    let heads : 1 ≡ c = cc in omega (arith, heads, h.0)

pub no_delete_key : (bytes behind : List ℕ) → bytes ≡ 0 ∷ behind → NoString behind → NoOperation bytes
no_delete_key bytes behind e none [] rest o h f = h
no_delete_key bytes behind e none (c ∷ a) rest (Delete k) h f =
    let tails : behind ≡ a ++ rest = cc in none a k rest h.1 tails
no_delete_key bytes behind e none (c ∷ a) rest (Put k v) h f =
    let heads : 0 ≡ c = cc in omega (arith, heads, h.0)

pub put_found : (bytes behind first key after second value rest : List ℕ) → bytes ≡ 1 ∷ behind → IsString first key → behind ≡ first ++ after → IsString second value → after ≡ second ++ rest
    → (front : List ℕ) × IsOperation front (Put key value) × (bytes ≡ front ++ rest)
put_found bytes behind first key after second value rest e s parts t more = (
  1 ∷ (first ++ second),
  (refl, first, second, s, t, refl),
  e ∙ ap (λ (x : List ℕ). 1 ∷ x) (parts ∙ ap (λ (x : List ℕ). first ++ x) more ∙ sym (append_assoc first second rest)),
)

pub delete_found : (bytes behind first key rest : List ℕ) → bytes ≡ 0 ∷ behind → IsString first key → behind ≡ first ++ rest
    → (front : List ℕ) × IsOperation front (Delete key) × (bytes ≡ front ++ rest)
delete_found bytes behind first key rest e s parts = (0 ∷ first, (refl, s), e ∙ ap (λ (x : List ℕ). 0 ∷ x) parts)

-- one operation more
pub AreOperations-push : (bytes more : List ℕ) (os : List Operation) (o : Operation) → AreOperations bytes os → IsOperation more o → AreOperations (bytes ++ more) (os ++ o ∷ [])
AreOperations-push bytes more [] o h k = (more, [], k, refl, ap (λ (x : List ℕ). x ++ more) h ∙ sym (append-nil more))
AreOperations-push bytes more (p ∷ os) o h k =
    (h.0, h.1 ++ more, h.2, AreOperations-push h.1 more os o h.3 k, ap (λ (x : List ℕ). x ++ more) h.4 ∙ append_assoc h.0 h.1 more)

-- the first ones of the operations at the front are these, and what stands after them is the same
pub operations_front : (front other x y : List ℕ) (os ps : List Operation) → AreOperations front os → AreOperations other ps → length os ≡ length ps → front ++ x ≡ other ++ y → (os ≡ ps) × (x ≡ y)
operations_front front other x y [] [] h k len e = (refl, ap (λ (v : List ℕ). v ++ x) (sym h) ∙ e ∙ ap (λ (v : List ℕ). v ++ y) k)
operations_front front other x y [] (p ∷ ps) h k len e = absurd (omega (arith, len))
operations_front front other x y (o ∷ os) [] h k len e = absurd (omega (arith, len))
operations_front front other x y (o ∷ os) (p ∷ ps) h k len e =
    let left : front ++ x ≡ h.0 ++ (h.1 ++ x) = ap (λ (v : List ℕ). v ++ x) h.4 ∙ append_assoc h.0 h.1 x in
    let right : other ++ y ≡ k.0 ++ (k.1 ++ y) = ap (λ (v : List ℕ). v ++ y) k.4 ∙ append_assoc k.0 k.1 y in
    let s = operation_front h.0 k.0 (h.1 ++ x) (k.1 ++ y) o p h.2 k.2 (sym left ∙ e ∙ right) in
    let r = operations_front h.1 k.1 x y os ps h.3 k.3 (omega (arith, len)) s.1 in
    (cc (s.0, r.0), r.1)

-- where there are more operations than these, another stands after them
no_more_front : (front other x y : List ℕ) (os ps : List Operation) → AreOperations front os → AreOperations other ps → length os < length ps → front ++ x ≡ other ++ y → NoOperation x → ⊥
no_more_front front other x y os [] h k lt e none = omega (arith, lt)
no_more_front front other x y [] (p ∷ ps) h k lt e none =
    none k.0 (k.1 ++ y) p k.2 (sym (ap (λ (v : List ℕ). v ++ x) h) ∙ e ∙ ap (λ (v : List ℕ). v ++ y) k.4 ∙ append_assoc k.0 k.1 y)
no_more_front front other x y (o ∷ os) (p ∷ ps) h k lt e none =
    let left : front ++ x ≡ h.0 ++ (h.1 ++ x) = ap (λ (v : List ℕ). v ++ x) h.4 ∙ append_assoc h.0 h.1 x in
    let right : other ++ y ≡ k.0 ++ (k.1 ++ y) = ap (λ (v : List ℕ). v ++ y) k.4 ∙ append_assoc k.0 k.1 y in
    let s = operation_front h.0 k.0 (h.1 ++ x) (k.1 ++ y) o p h.2 k.2 (sym left ∙ e ∙ right) in
    no_more_front h.1 k.1 x y os ps h.3 k.3 (omega (arith, lt)) s.1 none

pub no_more : (bytes front rest : List ℕ) (os : List Operation) (count : ℕ) → AreOperations front os → length os < count → bytes ≡ front ++ rest → NoOperation rest → NoOperations count bytes
no_more bytes front rest os count h lt e none other y ps k len f =
    no_more_front front other rest y os ps h k (omega (arith, lt, len)) (sym e ∙ f) none

-- the header of a batch
header_parts : (bytes body : List ℕ) (sequence count : ℕ) → sequence < 2 ^ 64 → count < 2 ^ 32 → bytes ≡ fixed64 sequence ++ (fixed32 count ++ body)
    → (other : ℕ) (os : List Operation) (b : IsBatch bytes other os) → (sequence ≡ other) × (count ≡ length os) × (body ≡ b.body)
header_parts bytes body sequence count p q e other os b =
    let s = fixed64_front sequence other (fixed32 count ++ body) (fixed32 (length os) ++ b.body) p (omega (arith, b.sequence_fits)) (sym e ∙ b.parts) in
    let r = fixed32_front count (length os) body b.body q b.count_fits s.1 in
    (s.0, r.0, r.1)

pub no_batch : (bytes body : List ℕ) (sequence count : ℕ) → sequence < 2 ^ 64 → count < 2 ^ 32 → bytes ≡ fixed64 sequence ++ (fixed32 count ++ body) → NoOperations count body → NoBatch bytes
no_batch bytes body sequence count p q e none other os b =
    let h = header_parts bytes body sequence count p q e other os b in
    none b.body [] os b.spelled (sym h.1) (h.2 ∙ sym (append-nil b.body))

pub bytes_left : (bytes body front rest : List ℕ) (sequence count : ℕ) (os : List Operation) → sequence < 2 ^ 64 → count < 2 ^ 32 → bytes ≡ fixed64 sequence ++ (fixed32 count ++ body)
    → AreOperations front os → length os ≡ count → body ≡ front ++ rest → 0 < length rest → NoBatch bytes
bytes_left bytes body front rest sequence count os p q e h len parts some other ps b =
    let g = header_parts bytes body sequence count p q e other ps b in
    let r = operations_front front b.body rest [] os ps h b.spelled (len ∙ g.1) (sym parts ∙ g.2 ∙ sym (append-nil b.body)) in
    omega (arith, some, ap length r.1)

pub decoded : (bytes body front rest : List ℕ) (sequence count : ℕ) (os : List Operation) → sequence < 2 ^ 56 → sequence + count ≤ 2 ^ 56 → count < 2 ^ 32 → bytes ≡ fixed64 sequence ++ (fixed32 count ++ body)
    → AreOperations front os → length os ≡ count → body ≡ front ++ rest → length rest ≡ 0 → IsBatch bytes sequence os
decoded bytes body front rest sequence count os p fits q e h len parts none =
    let whole : body ≡ front = parts ∙ ap (λ (v : List ℕ). front ++ v) (nil_from_length rest none) ∙ append-nil front in
    record {
      sequence_fits = p;
      last_fits = omega (arith, len, fits);
      count_fits = omega (arith, len, q);
      body = front;
      parts = e ∙ ap (λ (v : List ℕ). fixed64 sequence ++ (fixed32 count ++ v)) whole ∙ ap (λ (n : ℕ). fixed64 sequence ++ (fixed32 n ++ front)) (sym len);
      spelled = h;
    }

pub some_left : (rest : List ℕ) → eqb (length rest) 0 ≡ false → 0 < length rest
some_left [] e = absurd cc
some_left (b ∷ rest) e = omega arith
