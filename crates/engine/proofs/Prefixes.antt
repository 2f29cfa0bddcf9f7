-- Keys that begin with a prefix, in the order of bytes.
use Rattle.std.proofs.Common.{◌≡◌, ◌⊎◌, ℕ, ◌+◌, ◌<◌, ◌≤◌, ◌&&◌, ◌↔◌, Bool, true, false, not, cond, List, [], ◌∷◌, ◌++◌, All, length, take, get_or, ◌-◌, Option, Some, None, IsTrue, inl, inr, refl, sym, ap, ◌∙◌, arith}
use mathlib.Core.Bool.{true≢false}
use Rattle.std.specs.Bool.{nat_lt, ◌==◌}
use Rattle.std.specs.Cmp.Lexicographic.{slice_cmp}
use Rattle.std.specs.List.{AllByRecursion}
use Rattle.std.specs.Ordering.{is_lt, nat_cmp, ordering_then}
use Rattle.std.specs.declared.cmp.Ordering.{Ordering}
use Rattle.std.specs.declared.cmp.Ordering.TheVariants.{Less, Equal, Greater}
use Rattle.std.proofs.lemmas.Bool.{cases_lt, lt-ltb, le-ltb, ltb-false, eq-eqb, eqb-true}
use Rattle.std.proofs.lemmas.List.{take_all, take_more}
use Rattle.std.proofs.lemmas.List.Elements.{recursion_from_All}
use Rattle.engine.specs.Ranges.{BeginsWith, end_of, is_before_end, is_in_range, prefix_end}

abbrev Key : Type 0
Key = List ℕ

abbrev SameBool : Bool → Bool → Type 0
SameBool b c = b ≡ c

-- ---- two bytes

less_is : (x y : ℕ) → x < y → nat_cmp x y ≡ Less
less_is x y below = ap (λ (b : Bool). cond b Less (cond (x == y) Equal Greater)) (lt-ltb x y below)

equal_is : (x y : ℕ) → x ≡ y → nat_cmp x y ≡ Equal
equal_is x y same =
    ap (λ (b : Bool). cond b Less (cond (x == y) Equal Greater)) (le-ltb x y (omega (arith, same)))
    ∙ ap (λ (b : Bool). cond b Equal Greater) (eq-eqb x y same)

greater_is : (x y : ℕ) → y < x → nat_cmp x y ≡ Greater
greater_is x y above =
    ap (λ (b : Bool). cond b Less (cond (x == y) Equal Greater)) (le-ltb x y (omega (arith, above)))
    ∙ ap (λ (b : Bool). cond b Equal Greater) (at (x == y) refl)
  where
    at : (b : Bool) → (x == y) ≡ b → b ≡ false
    at false test = refl
    at true test = (let same : x ≡ y = eqb-true x y test in absurd (let never : ⊥ = omega (arith, same, above) in never))

-- ---- where the first bytes decide

abbrev Test : Key → Option Key → Key → Bool
Test prefix end key = not (is_lt (slice_cmp nat_cmp key prefix)) && is_before_end (slice_cmp nat_cmp) end key

abbrev Says : Bool → Type 0 → Type 0
Says test P = (test ≡ true → P) × (P → test ≡ true)

never_says : (test : Bool) (P : Type 0) → test ≡ false → (P → ⊥) → Says test P
never_says test P is no_p = (λ h. absurd (true≢false (sym h ∙ is)), λ p. absurd (no_p p))

same_says : (test other : Bool) (P Q : Type 0) → test ≡ other → (Q → P) → (P → Q) → Says other Q → Says test P
same_says test other P Q is f g says = (λ h. f (says.0 (sym is ∙ h)), λ p. is ∙ says.1 (g p))

none_below : (key : Key) → is_lt (slice_cmp nat_cmp key []) ≡ false
none_below [] = refl
none_below (k ∷ ks) = refl

module _ (b k : ℕ) (rest ks : Key) where
  -- how the first byte decides the first half of the test, and each kind of end
  first_as : (o : Ordering) → nat_cmp k b ≡ o → SameBool (Test (b ∷ rest) (end_of b (prefix_end rest)) (k ∷ ks))
      (not (is_lt (ordering_then o (slice_cmp nat_cmp ks rest))) && is_before_end (slice_cmp nat_cmp) (end_of b (prefix_end rest)) (k ∷ ks))
  first_as o is = ap (λ (p : Ordering). not (is_lt (ordering_then p (slice_cmp nat_cmp ks rest))) && is_before_end (slice_cmp nat_cmp) (end_of b (prefix_end rest)) (k ∷ ks)) is

  first_parts : BeginsWith (b ∷ rest) (k ∷ ks) → (k ≡ b) × BeginsWith rest ks
  first_parts h = (
    (let same : k ∷ ks ≡ b ∷ (rest ++ h.0) = h.1 in cc),
    (h.0, (let same : k ∷ ks ≡ b ∷ (rest ++ h.0) = h.1 in cc)),
  )

  -- of the same first byte the end decides as that of the rest
  same_end : k ≡ b → (end : Option Key) → SameBool (is_before_end (slice_cmp nat_cmp) (end_of b end) (k ∷ ks)) (is_before_end (slice_cmp nat_cmp) end ks)
  same_end is (Some end) = ap (λ (p : Ordering). is_lt (ordering_then p (slice_cmp nat_cmp ks end))) (equal_is k b is)
  same_end is None = at (nat_lt b 255)
    where
      at : (t : Bool) → SameBool (is_before_end (slice_cmp nat_cmp) (cond t (Some ((b + 1) ∷ [])) None) (k ∷ ks)) true
      at true = ap (λ (p : Ordering). is_lt (ordering_then p (slice_cmp nat_cmp ks []))) (less_is k (b + 1) (omega (arith, is)))
      at false = refl

  -- a greater first byte is after it
  behind_end : b < k → k < 256 → (end : Option Key) → SameBool (is_before_end (slice_cmp nat_cmp) (end_of b end) (k ∷ ks)) false
  behind_end above small (Some end) = ap (λ (p : Ordering). is_lt (ordering_then p (slice_cmp nat_cmp ks end))) (greater_is k b above)
  behind_end above small None = at (nat_lt b 255) refl
    where
      raised : (b + 1 < k) ⊎ (k ≡ b + 1) → is_lt (ordering_then (nat_cmp k (b + 1)) (slice_cmp nat_cmp ks [])) ≡ false
      raised (inl over) = ap (λ (p : Ordering). is_lt (ordering_then p (slice_cmp nat_cmp ks []))) (greater_is k (b + 1) over)
      raised (inr same) = ap (λ (p : Ordering). is_lt (ordering_then p (slice_cmp nat_cmp ks []))) (equal_is k (b + 1) same) ∙ none_below ks

      split : (b + 1 < k) ⊎ (k ≡ b + 1)
      split = elim (cases_lt (b + 1) k) [ inl over ↦ inl over | inr within ↦ inr (omega (arith, within, above)) ]

      at : (t : Bool) → nat_lt b 255 ≡ t → SameBool (is_before_end (slice_cmp nat_cmp) (cond t (Some ((b + 1) ∷ [])) None) (k ∷ ks)) false
      at true test = raised split
      at false test = (let least : 255 ≤ b = ltb-false b 255 test in absurd (let never : ⊥ = omega (arith, least, above, small) in never))

  step : k < 256 → Says (Test rest (prefix_end rest) ks) (BeginsWith rest ks) → Says (Test (b ∷ rest) (end_of b (prefix_end rest)) (k ∷ ks)) (BeginsWith (b ∷ rest) (k ∷ ks))
  step small says = elim (cases_lt k b) [
    | inl below ↦ never_says _ _ (first_as Less (less_is k b below)) (λ h. (let same : k ≡ b = (first_parts h).0 in (let never : ⊥ = omega (arith, same, below) in never)))
    | inr least ↦ elim (cases_lt b k) [
      | inl above ↦ never_says _ _ (first_as Greater (greater_is k b above) ∙ behind_end above small (prefix_end rest)) (λ h. (let same : k ≡ b = (first_parts h).0 in (let never : ⊥ = omega (arith, same, above) in never)))
      | inr most ↦ (
          let same : k ≡ b = omega (arith, least, most) in
          same_says _ _ _ _
          (first_as Equal (equal_is k b same) ∙ ap (λ (t : Bool). not (is_lt (slice_cmp nat_cmp ks rest)) && t) (same_end same (prefix_end rest)))
          (λ h. (h.0, λ i. same i ∷ h.1 i))
          (λ h. (first_parts h).1)
          says
          )
    ]
  ]

says_prefix : (prefix key : Key) → AllByRecursion (λ (byte : ℕ). byte < 256) key → Says (Test prefix (prefix_end prefix) key) (BeginsWith prefix key)
says_prefix [] key all = (λ h. (key, refl), λ h. ap (λ (t : Bool). not t && true) (none_below key))
says_prefix (b ∷ rest) [] all = never_says _ _ refl (λ h. (let same : [] ≡ b ∷ (rest ++ h.0) = h.1 in (let never : ⊥ = (cc) in never)))
says_prefix (b ∷ rest) (k ∷ ks) all = step b k rest ks all.0 (says_prefix rest ks all.1)

pub begins_so : (prefix key : Key) → All (λ (byte : ℕ). byte < 256) key → IsTrue (is_in_range (slice_cmp nat_cmp) (record { from = Some prefix; to = prefix_end prefix }) key) ↔ BeginsWith prefix key
begins_so prefix key all = says_prefix prefix key (recursion_from_All (λ (byte : ℕ). byte < 256) key all)

-- ---- a prefix by its last byte

end_raised : (front : Key) (last : ℕ) → last < 255 → prefix_end (front ++ last ∷ []) ≡ Some (front ++ (last + 1) ∷ [])
end_raised [] last small = ap (λ (t : Bool). cond t (Some ((last + 1) ∷ [])) None) (lt-ltb last 255 small)
end_raised (byte ∷ front) last small = ap (end_of byte) (end_raised front last small)

end_shorter : (front : Key) (last : ℕ) → 255 ≤ last → prefix_end (front ++ last ∷ []) ≡ prefix_end front
end_shorter [] last great = ap (λ (t : Bool). cond t (Some ((last + 1) ∷ [])) None) (le-ltb last 255 great)
end_shorter (byte ∷ front) last great = ap (end_of byte) (end_shorter front last great)

last_of : (bytes : Key) → 1 ≤ length bytes → bytes ≡ take (length bytes - 1) bytes ++ get_or bytes (length bytes - 1) 0 ∷ []
last_of bytes some =
    let front : take (length bytes - 1 + 1) bytes ≡ take (length bytes - 1) bytes ++ get_or bytes (length bytes - 1) 0 ∷ [] = take_more bytes (length bytes - 1) 0 (omega (arith, some)) in
    sym (take_all (length bytes - 1 + 1) bytes (omega (arith, some))) ∙ front

pub raised_last : (bytes : Key) → 1 ≤ length bytes → get_or bytes (length bytes - 1) 0 < 255 → prefix_end bytes ≡ Some (take (length bytes - 1) bytes ++ (get_or bytes (length bytes - 1) 0 + 1) ∷ [])
raised_last bytes some small = ap prefix_end (last_of bytes some) ∙ end_raised (take (length bytes - 1) bytes) (get_or bytes (length bytes - 1) 0) small

pub without_last : (bytes : Key) → 1 ≤ length bytes → 255 ≤ get_or bytes (length bytes - 1) 0 → prefix_end (take (length bytes - 1) bytes) ≡ prefix_end bytes
without_last bytes some great = sym (end_shorter (take (length bytes - 1) bytes) (get_or bytes (length bytes - 1) 0) great) ∙ ap prefix_end (sym (last_of bytes some))
