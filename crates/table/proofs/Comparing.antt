-- What a comparison of two byte strings says.
use Rattle.std.proofs.Common.{◌≡◌, ℕ, List, Bool, true, false, eqb, refl, sym}
use Rattle.std.proofs.lemmas.Slice.Eq.{slice_eq-Decides}
use Rattle.std.proofs.lemmas.Bool.Decides.{Decides-eqb}
use Rattle.std.specs.Cmp.Lexicographic.{pointwise}
use mathlib.Core.Bool.{not}

not_true : (b : Bool) → true ≡ not b → b ≡ true → ⊥
not_true true e h = cc
not_true false e h = cc

not_false : (b : Bool) → false ≡ not b → b ≡ true
not_false true e = refl
not_false false e = cc

pub ne_lists : (xs ys : List ℕ) → true ≡ not (pointwise eqb xs ys) → xs ≡ ys → ⊥
ne_lists xs ys e h = not_true (pointwise eqb xs ys) e ((slice_eq-Decides Decides-eqb xs ys (pointwise eqb xs ys) refl).1 h)

pub eq_lists : (xs ys : List ℕ) → false ≡ not (pointwise eqb xs ys) → xs ≡ ys
eq_lists xs ys e = (slice_eq-Decides Decides-eqb xs ys (pointwise eqb xs ys) refl).0 (not_false (pointwise eqb xs ys) e)

pub same_lists : (xs ys : List ℕ) → true ≡ pointwise eqb xs ys → xs ≡ ys
same_lists xs ys e = (slice_eq-Decides Decides-eqb xs ys (pointwise eqb xs ys) refl).0 (sym e)
