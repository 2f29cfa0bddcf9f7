-- Where a cursor stands that has passed some entries.
use Rattle.std.proofs.Common.{◌≡◌, ◌+◌, ℕ, suc, Bool, true, false, not, is_some, Option, Some, None, List, [], ◌∷◌, ◌++◌, length, if◌then◌else◌, refl, sym, ap, subst, ◌∙◌, arith}
use Rattle.std.specs.List.{slice_get}
use Rattle.std.specs.Option.{option_and_then}
use Rattle.std.proofs.lemmas.Bool.{lt-ltb, le-ltb}
use Rattle.std.proofs.lemmas.List.{append_assoc, length-append}
use mathlib.Core.Bool.{true≢false}
use Rattle.cursor.specs.Merging.{listed}
use Rattle.cursor.specs.Places.{Listed, within, index_behind}
use Rattle.ikey.specs.Entries.{InternalEntry}
use Rattle.compact.specs.Merging.{HasPassed}

pub standing : (came : List InternalEntry) (entry : InternalEntry) (rest : List InternalEntry) → within (came ++ entry ∷ rest) (length came) ≡ Some (length came)
standing came entry rest =
    ap (λ (b : Bool). if b then Some (length came) else None) (lt-ltb (length came) (length (came ++ entry ∷ rest)) (omega (arith, length-append came (entry ∷ rest))))

pub at_place : (came : List InternalEntry) (entry : InternalEntry) (rest : List InternalEntry) → slice_get (came ++ entry ∷ rest) (length came) ≡ Some entry
at_place [] entry rest = refl
at_place (first ∷ came) entry rest = at_place came entry rest

ended : (came : List InternalEntry) → within (came ++ []) (length came) ≡ None
ended came = ap (λ (b : Bool). if b then Some (length came) else None) (le-ltb (length came) (length (came ++ [])) (omega (arith, length-append came [])))

-- a cursor that stands has an entry left
pub some-left : (came back : List InternalEntry) → is_some (within (came ++ back) (length came)) ≡ true → (entry : InternalEntry) × (rest : List InternalEntry) × (back ≡ entry ∷ rest)
some-left came [] e = let t : true ≡ false = sym e ∙ ap is_some (ended came) in absurd (true≢false t)
some-left came (entry ∷ rest) e = (entry, rest, refl)

-- and one that doesn't has none
pub none-left : (came back : List InternalEntry) → is_some (within (came ++ back) (length came)) ≡ false → back ≡ []
none-left came [] e = refl
none-left came (entry ∷ rest) e = let t : true ≡ false = sym (ap is_some (standing came entry rest)) ∙ e in absurd (true≢false t)

pub not-ended : (came back : List InternalEntry) → is_some (within (came ++ back) (length came)) ≡ true → back ≡ [] → ⊥
not-ended came back e none = let found = some-left came back e in let t : found.0 ∷ found.1 ≡ [] = sym found.2 ∙ none in cc

-- the next place
pub moved : (came : List InternalEntry) (entry : InternalEntry) (rest : List InternalEntry)
    → listed (came ++ entry ∷ rest) (option_and_then (index_behind (came ++ entry ∷ rest)) (within (came ++ entry ∷ rest) (length came)))
    ≡ listed ((came ++ entry ∷ []) ++ rest) (within ((came ++ entry ∷ []) ++ rest) (length (came ++ entry ∷ [])))
moved came entry rest =
    let all : came ++ entry ∷ rest ≡ (came ++ entry ∷ []) ++ rest = sym (append_assoc came (entry ∷ []) rest) in
    let long : suc (length came) ≡ length (came ++ entry ∷ []) = omega (arith, length-append came (entry ∷ [])) in
    ap (λ (place : Option ℕ). listed (came ++ entry ∷ rest) (option_and_then (index_behind (came ++ entry ∷ rest)) place)) (standing came entry rest)
    ∙ (λ i. listed (all i) (within (all i) (long i)))

pub passed-more : {C H : Type 0} (lists : C → H → Listed → Type 0) (cursor : C) (source : H) (came : List InternalEntry) (entry : InternalEntry) (rest : List InternalEntry)
    → lists cursor source (listed (came ++ entry ∷ rest) (option_and_then (index_behind (came ++ entry ∷ rest)) (within (came ++ entry ∷ rest) (length came))))
    → HasPassed lists cursor source (came ++ entry ∷ []) rest
passed-more lists cursor source came entry rest h = subst (lists cursor source) (moved came entry rest) h

-- ---- steps

pub front-more : (rest front back behind : List InternalEntry) (entry : InternalEntry) → rest ≡ front ++ back → back ≡ entry ∷ behind → rest ≡ (front ++ entry ∷ []) ++ behind
front-more rest front back behind entry e f = e ∙ ap (λ l. front ++ l) f ∙ sym (append_assoc front (entry ∷ []) behind)

pub longer : (front : List InternalEntry) (entry : InternalEntry) (n : ℕ) → length front ≡ n → length (front ++ entry ∷ []) ≡ n + 1
longer front entry n e = omega (arith, e, length-append front (entry ∷ []))

pub not-true : (b : Bool) → not b ≡ true → b ≡ false
not-true true e = sym e
not-true false e = refl

pub not-false : (b : Bool) → not b ≡ false → b ≡ true
not-false true e = refl
not-false false e = sym e
