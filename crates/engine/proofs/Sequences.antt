-- What the sequence numbers hold that a compaction keeps the views of, once they are sorted.
use Rattle.std.proofs.Common.{◌≡◌, ℕ, Bool, true, false, cond, List, [], ◌∷◌, Option, Some, zero, suc, arith, sym, subst, ◌∙◌, ◌++◌, map, Bor, None, Contains, inl, inr}
use Rattle.std.specs.BTreeMap.{BTreeMap}
use Rattle.std.specs.Iterator.{Yields}
use Rattle.std.specs.List.Sorted.{IsPermutation}
use Rattle.std.specs.Map.{lookup, values_of}
use Rattle.std.specs.Map.Iter.{TakesFirst, deref}
use Rattle.std.proofs.lemmas.List.Elements.{Contains-append_left, Contains-push, Contains-push_cases}
use Rattle.std.proofs.lemmas.List.Sorted.{Contains-permutation, IsPermutation-sym}
use Rattle.std.proofs.lemmas.Map.Iter.{iter_end}
use Rattle.engine.specs.Reads.{kept_at}

further : (x y : ℕ) (ys : List ℕ) → Contains ys x → Contains (y ∷ ys) x
further x y ys (k, lt, is) = (suc k, omega (arith, lt), is)

value_found : (test : ℕ → Bool) (entries : List (ℕ × ℕ)) (x : ℕ) → lookup test entries ≡ Some x → Contains (values_of entries) x
value_found test [] x is = absurd (cc)
value_found test (e ∷ entries) x is = at (λ there. value_found test entries x there) (test e.0) is
  where
    at : (lookup test entries ≡ Some x → Contains (values_of entries) x) → (b : Bool) → cond b (Some e.1) (lookup test entries) ≡ Some x → Contains (values_of (e ∷ entries)) x
    at later true here = (let same : e.1 ≡ x = cc in (0, omega arith, same))
    at later false there = further x e.1 (values_of entries) (later there)

-- the one that was pushed after the others
pub last_kept : (xs items sorted : List ℕ) (last : ℕ) → items ≡ xs ++ last ∷ [] → IsPermutation items sorted → Contains sorted last
last_kept xs items sorted last behind moved = Contains-permutation items sorted last moved (subst (λ (ys : List ℕ). Contains ys last) (sym behind) (Contains-push xs last))

-- one that is kept under an id, where the others are all that the map has yielded
pub live_kept : (kept : BTreeMap ℕ ℕ) (yielded : List (Bor ℕ)) (s t u : List ℕ) (r : Option (Bor ℕ)) (xs items sorted : List ℕ) (last : ℕ) → xs ≡ map deref yielded → s ≡ values_of kept.entries → Yields (TakesFirst deref) s yielded t → r ≡ None
    → TakesFirst deref t r u → items ≡ xs ++ last ∷ [] → IsPermutation items sorted → (id sequence : ℕ) → kept_at kept id ≡ Some sequence → Contains sorted sequence
live_kept kept yielded s t u r xs items sorted last pushed start y is step behind moved id sequence there =
    let all = iter_end deref (values_of kept.entries) yielded s t u r start y is step in
    let among : Contains xs sequence = subst (λ (ys : List ℕ). Contains ys sequence) (sym (pushed ∙ all.0)) (value_found _ kept.entries sequence there) in
    Contains-permutation items sorted sequence moved (subst (λ (ys : List ℕ). Contains ys sequence) (sym behind) (Contains-append_left xs (last ∷ []) sequence among))

-- the one that was pushed is there, and those of the map are too
pub each_kept : (kept : BTreeMap ℕ ℕ) (yielded : List (Bor ℕ)) (s t u : List ℕ) (r : Option (Bor ℕ)) (xs items sorted : List ℕ) (last : ℕ) → xs ≡ map deref yielded → s ≡ values_of kept.entries → Yields (TakesFirst deref) s yielded t → r ≡ None
    → TakesFirst deref t r u → items ≡ xs ++ last ∷ [] → IsPermutation items sorted → (sequence : ℕ) → Contains (last ∷ values_of kept.entries) sequence → Contains sorted sequence
each_kept kept yielded s t u r xs items sorted last pushed start y is step behind moved sequence (zero, lt, same) =
    subst (λ (one : ℕ). Contains sorted one) same (last_kept xs items sorted last behind moved)
each_kept kept yielded s t u r xs items sorted last pushed start y is step behind moved sequence (suc k, lt, same) =
    let all = iter_end deref (values_of kept.entries) yielded s t u r start y is step in
    let among : Contains xs sequence = subst (λ (ys : List ℕ). Contains ys sequence) (sym (pushed ∙ all.0)) (k, omega (arith, lt), same) in
    Contains-permutation items sorted sequence moved (subst (λ (ys : List ℕ). Contains ys sequence) (sym behind) (Contains-append_left xs (last ∷ []) sequence among))

-- none is there but the one that was pushed and those of the map
pub only_kept : (kept : BTreeMap ℕ ℕ) (yielded : List (Bor ℕ)) (s t u : List ℕ) (r : Option (Bor ℕ)) (xs items sorted : List ℕ) (last : ℕ) → xs ≡ map deref yielded → s ≡ values_of kept.entries → Yields (TakesFirst deref) s yielded t → r ≡ None
    → TakesFirst deref t r u → items ≡ xs ++ last ∷ [] → IsPermutation items sorted → (sequence : ℕ) → Contains sorted sequence → Contains (last ∷ values_of kept.entries) sequence
only_kept kept yielded s t u r xs items sorted last pushed start y is step behind moved sequence there =
    let all = iter_end deref (values_of kept.entries) yielded s t u r start y is step in
    let values : xs ≡ values_of kept.entries = pushed ∙ all.0 in
    let before : Contains (xs ++ last ∷ []) sequence = subst (λ (ys : List ℕ). Contains ys sequence) behind (Contains-permutation sorted items sequence (IsPermutation-sym items sorted moved) there) in
    elim (Contains-push_cases xs last sequence before) [
      | inl value ↦ further sequence last (values_of kept.entries) (subst (λ (ys : List ℕ). Contains ys sequence) values value)
      | inr same ↦ (0, omega arith, same)
    ]
