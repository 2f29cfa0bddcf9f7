-- Where tables end.
use Rattle.std.proofs.Common.{◌≡◌, ◌⊎◌, ℕ, false, Option, Some, None, List, [], ◌∷◌, ◌++◌, inl, inr, refl, sym, ap, subst, ◌∙◌}
use Rattle.std.specs.List.{flat_map}
use Rattle.std.specs.Option.{is_some}
use Rattle.std.proofs.lemmas.List.{append-nil}
use Rattle.std.specs.declared.cmp.Ordering.{Ordering}
use Rattle.block.specs.Written.{last_key}
use Rattle.edits.specs.declared.field.TableFile.{TableFile}
use Rattle.ikey.specs.Entries.{Pair}
use Rattle.ikey.specs.Keys.{Key, IsKey}
use Rattle.store.specs.Files.{Facts}
use Rattle.compact.specs.Outputs.{first_key, Filling, AreClosed, IsAtHand, TablesWritten, HasWritten, EndsWithOtherUser, EndAtUserKeys, HandsOther, IsOpen}
use Rattle.compact.proofs.Tables.{last-behind}

abbrev joined : List (List Pair) → List Pair
joined tables = flat_map (λ (table : List Pair). table) tables

no-key : (key : List ℕ) → None ≡ Some key → ⊥
no-key key e = cc

-- ---- one pair more

first-more : (rest : List Pair) (pair : Pair) → (rest ≡ [] → ⊥) → first_key (rest ++ pair ∷ []) ≡ first_key rest
first-more [] pair some = absurd (some refl)
first-more (first ∷ rest) pair some = refl

pub ends-more : (tables : List (List Pair)) (rest : List Pair) (pair : Pair) → (rest ≡ [] → ⊥) → EndAtUserKeys tables rest → EndAtUserKeys tables (rest ++ pair ∷ [])
ends-more [] rest pair some h = tt
ends-more (pairs ∷ []) rest pair some h = ((λ first key is of. h.0 first key (sym (first-more rest pair some) ∙ is) of), tt)
ends-more (pairs ∷ other ∷ tables) rest pair some h = (h.0, ends-more (other ∷ tables) rest pair some h.1)

-- ---- the table at hand is ended

pub ends-closed : (tables : List (List Pair)) (rest : List Pair) → EndAtUserKeys tables rest → EndAtUserKeys (tables ++ rest ∷ []) []
ends-closed [] rest h = ((λ first key is of. absurd (no-key first is)), tt)
ends-closed (pairs ∷ []) rest h = (h.0, ends-closed [] rest tt)
ends-closed (pairs ∷ other ∷ tables) rest h = (h.0, ends-closed (other ∷ tables) rest h.1)

-- ---- a new one begins

some-first : (pairs more : List Pair) (key : List ℕ) → first_key pairs ≡ Some key → pairs ++ more ≡ [] → ⊥
some-first [] more key is e = absurd (no-key key is)
some-first (first ∷ pairs) more key is e = cc

pub ends-begun : (cmp : List ℕ → List ℕ → Ordering) (facts : Facts) (cs : List TableFile) (tables : List (List Pair)) (pair : Pair) → AreClosed cmp facts cs tables
    → ((key : Key) → IsKey pair.key key → EndsWithOtherUser (joined tables) key.user) → EndAtUserKeys tables [] → EndAtUserKeys tables (pair ∷ [])
ends-begun cmp facts cs [] pair closed before h = tt
ends-begun cmp facts [] (pairs ∷ tables) pair closed before h = absurd closed
ends-begun cmp facts (c ∷ cs) (pairs ∷ []) pair closed before h = (
  λ first key is of last k last_is last_of.
      before key (subst (λ (bytes : List ℕ). IsKey bytes key) (sym (same-some pair.key first is)) of) last k (ap last_key (append-nil pairs) ∙ last_is) last_of,
  tt,
)
  where
    same-some : (a b : List ℕ) → Some a ≡ Some b → a ≡ b
    same-some a b e = cc
ends-begun cmp facts (c ∷ []) (pairs ∷ other ∷ tables) pair closed before h = absurd closed.1
ends-begun cmp facts (c ∷ d ∷ cs) (pairs ∷ other ∷ tables) pair closed before h = (
  h.0,
  ends-begun cmp facts (d ∷ cs) (other ∷ tables) pair closed.1
      (λ key is last k last_is of. before key is last k (last-behind None pairs (joined (other ∷ tables)) (some-first other (joined tables) d.smallest closed.1.0.smallest) ∙ last_is) of)
      h.1,
)

-- ---- before which user keys it may

no-tables : (cmp : List ℕ → List ℕ → Ordering) (facts : Facts) (tables : List (List Pair)) → AreClosed cmp facts [] tables → tables ≡ []
no-tables cmp facts [] h = refl
no-tables cmp facts (pairs ∷ tables) h = absurd h

none-before : (cmp : List ℕ → List ℕ → Ordering) (w : TablesWritten) (facts : Facts) (next : ℕ) (pairs : List Pair) → w.at_hand ≡ None → w.closed ≡ [] → HasWritten cmp w facts next pairs → pairs ≡ []
none-before cmp w facts next pairs none closed h =
    let tables : h.tables ≡ [] = no-tables cmp facts h.tables (subst (λ (cs : List TableFile). AreClosed cmp facts cs h.tables) closed h.closed_are) in
    let rest : h.rest ≡ [] = subst (λ (o : Option Filling). IsAtHand cmp facts o h.rest) none h.rest_is in
    h.all ∙ (λ i. joined (tables i) ++ rest i)

pub ends-before : (cmp : List ℕ → List ℕ → Ordering) (old new : TablesWritten) (facts : Facts) (next : ℕ) (pairs : List Pair) (user : List ℕ) → (new ≡ old) ⊎ HandsOther old user → new.at_hand ≡ None → IsOpen old
    → HasWritten cmp old facts next pairs → EndsWithOtherUser pairs user
ends-before cmp old new facts next pairs user (inl same) none further h = λ last key is of.
    let old_none : old.at_hand ≡ None = ap (λ (w : TablesWritten). w.at_hand) (sym same) ∙ none in
    absurd (no-key last (sym (ap last_key (none-before cmp old facts next pairs old_none (further old_none) h)) ∙ is))
ends-before cmp old new facts next pairs user (inr (t, at, other)) none further h = λ last key is of.
    let rest = subst (λ (o : Option Filling). IsAtHand cmp facts o h.rest) at h.rest_is in
    let largest : last_key h.rest ≡ Some t.largest = filled rest.1 rest.0.largest in
    let same : Some last ≡ Some t.largest = sym is ∙ ap last_key h.all ∙ last-behind None (joined h.tables) h.rest rest.1 ∙ largest in
    other key (subst (λ (bytes : List ℕ). IsKey bytes key) (same-some last t.largest same) of)
  where
    filled : {rest : List Pair} {key : Option (List ℕ)} → (rest ≡ [] → ⊥) → (rest ≡ []) ⊎ (last_key rest ≡ key) → last_key rest ≡ key
    filled some (inl e) = absurd (some e)
    filled some (inr e) = e

    same-some : (a b : List ℕ) → Some a ≡ Some b → a ≡ b
    same-some a b e = cc

pub some-open : (w : TablesWritten) (t : Filling) → w.at_hand ≡ Some t → IsOpen w
some-open w t at none = (let e : Some t ≡ None = sym at ∙ none in absurd cc)

pub none-is : (o : Option Filling) → is_some o ≡ false → o ≡ None
none-is None e = refl
none-is (Some t) e = cc
