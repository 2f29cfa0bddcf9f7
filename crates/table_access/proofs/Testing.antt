-- Whether a block at an end of a table has the key that is said of it.
use Rattle.std.proofs.Common.{◌≡◌, ℕ, suc, Bool, true, false, List, [], ◌∷◌, Some, is_some, length, refl, sym, ap, ◌∙◌, subst, arith}
use Rattle.std.specs.Bool.{MatchBool}
use Rattle.std.specs.List.{slice_get}
use Rattle.block.specs.Bounds.{IsFirstKey}
use Rattle.block.specs.Places.{Placed, last_of}
use Rattle.edits.specs.declared.field.PlacedTable.{PlacedTable}
use Rattle.ikey.specs.Entries.{Pair}
use Rattle.table_access.specs.Ends.{BeginsAt, EndsAt, HasEnds}
use Rattle.table_access.proofs.Placing.{some_at}

same_test : (answer : Bool) (P Q : Type 0) → (P → Q) → (Q → P) → MatchBool answer P (P → ⊥) → MatchBool answer Q (Q → ⊥)
same_test true P Q f g h = f h
same_test false P Q f g h = λ q. h (g q)

pub first_test : (first key : List ℕ) (index : ℕ) (pairs : List Pair) → IsFirstKey first pairs → index ≡ 0 → (answer : Bool) → MatchBool answer (first ≡ key) (first ≡ key → ⊥)
    → MatchBool answer (index ≡ 0 → BeginsAt key pairs) ((index ≡ 0 → BeginsAt key pairs) → ⊥)
first_test first key index [] is z answer h = absurd is
first_test first key index (p ∷ pairs) is z answer h =
    same_test answer (first ≡ key) (index ≡ 0 → BeginsAt key (p ∷ pairs))
    (λ e w pair at. let s : p ≡ pair = let t : Some p ≡ Some pair = at in cc in subst (λ (q : Pair). q.key ≡ key) s (is ∙ e))
    (λ q. sym is ∙ q z p refl) h

pub last_test : (cursor : Placed) (found key : List ℕ) (index count : ℕ) (pairs : List Pair) → cursor.pairs ≡ pairs → cursor.place ≡ last_of pairs → is_some cursor.place ≡ true
    → ((at : ℕ) (pair : Pair) → cursor.place ≡ Some at → slice_get cursor.pairs at ≡ Some pair → found ≡ pair.key) → suc index ≡ count → (answer : Bool) → MatchBool answer (found ≡ key) (found ≡ key → ⊥)
    → MatchBool answer (suc index ≡ count → EndsAt key pairs) ((suc index ≡ count → EndsAt key pairs) → ⊥)
last_test cursor found key index count [] its place stands says z answer h = absurd (let none : is_some cursor.place ≡ false = ap is_some place in let bad : true ≡ false = sym stands ∙ none in cc)
last_test cursor found key index count (p ∷ pairs) its place stands says z answer h =
    let x = some_at (p ∷ pairs) (length pairs) (omega arith) in
    let its_key : (pair : Pair) → slice_get (p ∷ pairs) (length pairs) ≡ Some pair → found ≡ pair.key = λ pair at. says (length pairs) pair place (ap (λ (ps : List Pair). slice_get ps (length pairs)) its ∙ at) in
    same_test answer (found ≡ key) (suc index ≡ count → EndsAt key (p ∷ pairs))
    (λ e w last pair long at.
    let same : last ≡ length pairs = omega (arith, long) in
    sym (its_key pair (ap (slice_get (p ∷ pairs)) (sym same) ∙ at)) ∙ e)
    (λ q. its_key x.0 x.1 ∙ q z (length pairs) x.0 refl x.1) h

pub both_ends : (placed : PlacedTable) (count index : ℕ) (pairs : List Pair) → (index ≡ 0 → BeginsAt placed.table.smallest pairs) → (answer : Bool)
    → MatchBool answer (suc index ≡ count → EndsAt placed.table.largest pairs) ((suc index ≡ count → EndsAt placed.table.largest pairs) → ⊥) → MatchBool answer (HasEnds placed count index pairs) (HasEnds placed count index pairs → ⊥)
both_ends placed count index pairs first answer h =
    same_test answer (suc index ≡ count → EndsAt placed.table.largest pairs) (HasEnds placed count index pairs) (λ last. record { first = first; last = last }) (λ ends. ends.last) h
