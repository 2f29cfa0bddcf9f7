-- No bytes are two batches.
use Rattle.std.proofs.Common.{◌≡◌, ℕ, List, [], ◌∷◌, ◌++◌, length, refl, sym, ap, ◌∙◌, append_assoc, arith}
use Rattle.coding.specs.Fixed.{fixed32}
use Rattle.coding.proofs.Fronts.{fixed64_front, fixed32_front, string_front}
use Rattle.batch.specs.declared.operation.Operation.{Operation}
use Rattle.batch.specs.declared.operation.Operation.TheVariants.{Put, Delete}
use Rattle.batch.specs.Batch.{IsOperation, AreOperations, IsBatch}

pub operation_front : (a b x y : List ℕ) (o p : Operation) → IsOperation a o → IsOperation b p → a ++ x ≡ b ++ y → (o ≡ p) × (x ≡ y)
operation_front [] b x y o p h k e = absurd h
operation_front (c ∷ a) [] x y o p h k e = absurd k
operation_front (c ∷ a) (d ∷ b) x y (Put m v) (Put n w) h k e =
    let t : a ++ x ≡ b ++ y = cc in
    let left : a ++ x ≡ h.1 ++ (h.2 ++ x) = ap (λ (z : List ℕ). z ++ x) h.5 ∙ append_assoc h.1 h.2 x in
    let right : b ++ y ≡ k.1 ++ (k.2 ++ y) = ap (λ (z : List ℕ). z ++ y) k.5 ∙ append_assoc k.1 k.2 y in
    let s = string_front h.1 k.1 (h.2 ++ x) (k.2 ++ y) m n h.3 k.3 (sym left ∙ t ∙ right) in
    let r = string_front h.2 k.2 x y v w h.4 k.4 s.1 in
    (cc (s.0, r.0), r.1)
operation_front (c ∷ a) (d ∷ b) x y (Delete m) (Delete n) h k e =
    let t : a ++ x ≡ b ++ y = cc in
    let s = string_front a b x y m n h.1 k.1 t in
    (ap Delete s.0, s.1)
operation_front (c ∷ a) (d ∷ b) x y (Put m v) (Delete n) h k e =
    let t : c ≡ d = cc in absurd (omega (arith, t, h.0, k.0))
operation_front (c ∷ a) (d ∷ b) x y (Delete m) (Put n w) h k e =
    let t : c ≡ d = cc in absurd (omega (arith, t, h.0, k.0))

nothing_in_front : (a x : List ℕ) (o : Operation) → IsOperation a o → [] ≡ a ++ x → ⊥
nothing_in_front [] x o h e = h
nothing_in_front (c ∷ a) x o h e = cc

pub same_operations : (bytes others : List ℕ) (os ps : List Operation) → AreOperations bytes os → AreOperations others ps → bytes ≡ others → os ≡ ps
same_operations bytes others [] [] h k e = refl
same_operations bytes others [] (p ∷ ps) h k e = absurd (nothing_in_front k.0 k.1 p k.2 (sym h ∙ e ∙ k.4))
same_operations bytes others (o ∷ os) [] h k e = absurd (nothing_in_front h.0 h.1 o h.2 (sym k ∙ sym e ∙ h.4))
same_operations bytes others (o ∷ os) (p ∷ ps) h k e =
    let s = operation_front h.0 k.0 h.1 k.1 o p h.2 k.2 (sym h.4 ∙ e ∙ k.4) in
    let r = same_operations h.1 k.1 os ps h.3 k.3 s.1 in
    cc (s.0, r)

pub same_batch : (bytes : List ℕ) (sequence other : ℕ) (operations others : List Operation) → IsBatch bytes sequence operations → IsBatch bytes other others → (sequence ≡ other) × (operations ≡ others)
same_batch bytes sequence other operations others h k =
    let s = fixed64_front sequence other (fixed32 (length operations) ++ h.body) (fixed32 (length others) ++ k.body) (omega (arith, h.sequence_fits)) (omega (arith, k.sequence_fits)) (sym h.parts ∙ k.parts) in
    let r = fixed32_front (length operations) (length others) h.body k.body h.count_fits k.count_fits s.1 in
    (s.0, same_operations h.body k.body operations others h.spelled k.spelled r.1)
