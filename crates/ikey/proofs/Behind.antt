-- Keys that share a front with the key before them.
use Rattle.std.proofs.Common.{◌≡◌, ◌<◌, ◌≤◌, ℕ, zero, suc, Bool, true, false, List, [], ◌∷◌, ◌++◌, length, take, get_or, refl, sym, ap, ◌∙◌, append_assoc, arith}
use Rattle.std.proofs.lemmas.Bool.{ltb-true}
use Rattle.std.proofs.lemmas.List.{take-append-le}
use Rattle.std.specs.Prelude.{MatchBool, ⊤, nat_lt}
use Rattle.std.specs.Ordering.{nat_cmp, ordering_then}
use Rattle.std.specs.Cmp.Lexicographic.{slice_cmp}
use Rattle.std.specs.declared.cmp.Ordering.{Ordering}
use Rattle.std.specs.declared.cmp.Ordering.TheVariants.{Less}
use Rattle.coding.specs.Fixed.{fixed64}
use Rattle.ikey.specs.Keys.{Key, IsKey, tag_of}
use Rattle.ikey.specs.Below.{IsBelowInternal}
use Rattle.ikey.proofs.Words.{less-is, tied-is}

-- after the same front a smaller byte comes first
less-behind : (k : ℕ) (xs rest : List ℕ) → k < length xs → 0 < length rest → get_or xs k 0 < get_or rest 0 0 → slice_cmp nat_cmp xs (take k xs ++ rest) ≡ Less
less-behind k [] rest p q lt = absurd (omega (arith, p))
less-behind zero (x ∷ xs) [] p q lt = absurd (omega (arith, q))
less-behind zero (x ∷ xs) (y ∷ rest) p q lt = ap (λ (o : Ordering). ordering_then o (slice_cmp nat_cmp xs rest)) (less-is x y lt)
less-behind (suc k) (x ∷ xs) rest p q lt =
    ap (λ (o : Ordering). ordering_then o (slice_cmp nat_cmp xs (take k xs ++ rest))) (tied-is x x refl) ∙ less-behind k xs rest (omega (arith, p)) q lt

-- the same, as what a comparison of the two bytes answers
pub plainly-behind : (k : ℕ) (xs rest : List ℕ) (x y : ℕ) → k < length xs → 0 < length rest → x ≡ get_or xs k 0 → y ≡ get_or rest 0 0 → MatchBool (nat_lt x y) (slice_cmp nat_cmp xs (take k xs ++ rest) ≡ Less) ⊤
plainly-behind k xs rest x y p q e f = decided (nat_lt x y) refl
  where
    decided : (answer : Bool) → nat_lt x y ≡ answer → MatchBool answer (slice_cmp nat_cmp xs (take k xs ++ rest) ≡ Less) ⊤
    decided true t = less-behind k xs rest p q (omega (arith, e, f, ltb-true x y t))
    decided false t = tt

-- The same holds for internal keys that share a part of the user key.
internal-behind : (cmp : List ℕ → List ℕ → Ordering) (a rest : List ℕ) (shared : ℕ) (k n : Key) → IsKey a k → IsKey rest n → shared ≤ length k.user
    → cmp k.user (take shared k.user ++ n.user) ≡ Less → IsBelowInternal cmp a (take shared a ++ rest)
internal-behind cmp a rest shared k n h j le less =
    let front : take shared a ≡ take shared k.user = ap (take shared) h.parts ∙ take-append-le shared k.user (fixed64 (tag_of k)) le in
    let parts : take shared a ++ rest ≡ (take shared k.user ++ n.user) ++ fixed64 (tag_of n) =
    (λ i. front i ++ j.parts i) ∙ sym (append_assoc (take shared k.user) n.user (fixed64 (tag_of n))) in (
      k,
      record { user = take shared k.user ++ n.user; sequence = n.sequence; kind = n.kind },
      h,
      record { sequence_fits = j.sequence_fits; parts = parts },
      ap (λ (o : Ordering). ordering_then o (nat_cmp (tag_of n) (tag_of k))) less,
    )

-- the same, as what the order of user keys answers
pub internal-plainly : (cmp : List ℕ → List ℕ → Ordering) (a rest : List ℕ) (shared : ℕ) (k n : Key) (answer : Bool) → IsKey a k → IsKey rest n → shared ≤ length k.user
    → MatchBool answer (cmp k.user (take shared k.user ++ n.user) ≡ Less) ⊤ → MatchBool answer (IsBelowInternal cmp a (take shared a ++ rest)) ⊤
internal-plainly cmp a rest shared k n true h j le less = internal-behind cmp a rest shared k n h j le less
internal-plainly cmp a rest shared k n false h j le less = tt
