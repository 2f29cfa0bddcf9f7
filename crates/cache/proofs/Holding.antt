-- What is answered and kept of blocks, where each kept block is that of its table.
use Rattle.std.proofs.Common.{◌≡◌, ◌⊎◌, ◌==◌, ℕ, true, false, List, [], ◌∷◌, Option, Some, None, Result, Ok, Err, IfOk, IfErr, IsTrue, MatchOption, Contains, arith, refl, sym, ap, subst, inl, inr, ◌∙◌}
use Rattle.std.specs.declared.cmp.Ordering.{Ordering}
use Rattle.std.proofs.lemmas.Bool.{eqb-true}
use Rattle.lru.proofs.Splits.{Contains-head, Contains-tail}
use Rattle.coding.specs.declared.error.DbError.{DbError}
use Rattle.ikey.specs.Entries.{Pair}
use Rattle.store.specs.Files.{Facts}
use Rattle.table.specs.Frame.{Frame, Opened}
use Rattle.table.specs.Reading.{Reads, Finds, Refuses}
use Rattle.table.specs.Intact.{IsIntact, IsTornAt, IsUnsupportedAt}
use Rattle.table.proofs.FrameParts.{one_frame}
use Rattle.cache.specs.Blocks.{KeptBlock, kept_at, is_at, Hits, IsAnswered}
use Rattle.cache.specs.Holding.{HoldsBlocks, HasContent, IsBlockOf}
use Rattle.cache.specs.Tables.{ReadsBlock}
use Rattle.cache.proofs.Keeping.{same_slot}

-- a block that is kept of an index is in the list
pub Contains-kept_at : (ks : List KeptBlock) (file index : ℕ) (pairs : List Pair) → kept_at ks file index ≡ Some pairs
    → Contains ks (record { file = file; index = index; pairs = pairs })
unfolding kept_at
Contains-kept_at [] file index pairs h = cc
Contains-kept_at (k ∷ ks) file index pairs h = (elim (is_at k file index) as (λ y. is_at k file index ≡ y → Contains (k ∷ ks) (record { file = file; index = index; pairs = pairs })) [
  | true ↦ λ t.
      let at = same_slot file index k.file k.index t in
      let h2 = rw t at h in
      let its : k.pairs ≡ pairs = cc in
      subst (Contains (k ∷ ks)) (λ i. record { file = at.0 i; index = at.1 i; pairs = its i }) (Contains-head k ks)
  | false ↦ λ t. Contains-tail k ks _ (Contains-kept_at ks file index pairs (rw t at h))
]) refl

-- a block that is found in the file of a table's name is that table's
found_in : (cmp : List ℕ → List ℕ → Ordering) (content : ℕ → Option (List ℕ)) (number index : ℕ) (old new : Facts) (table : Opened) (pairs : List Pair)
    → HasContent cmp content number old table → IsTrue new.faithful → Finds old new table.name (λ file. IsIntact cmp file table.frame.places index pairs) → IsBlockOf cmp content number index pairs
found_in cmp content number index old new table pairs is t found file there frame framed =
    let at = found t in
    let has = is file there in
    let same : Some at.0 ≡ Some file = sym at.1 ∙ has.0 in
    let e : at.0 ≡ file = cc in
    subst (λ (f : Frame). IsIntact cmp file f.places index pairs) (one_frame cmp file table.frame frame has.1 framed) (subst (λ f. IsIntact cmp f table.frame.places index pairs) e at.2)

-- an answer to what is kept of an index, or to what is read, is the table's
pub answered : (cmp : List ℕ → List ℕ → Ordering) (content : ℕ → Option (List ℕ)) (ks : List KeptBlock) (number : ℕ) (index : ℕ) (table : Opened) (old new : Facts) (answer : Result (List Pair) DbError)
    (X : Type 0) (o : Option (List Pair)) → kept_at ks number index ≡ o
    → MatchOption o (ReadsBlock cmp table old new index answer) (λ pairs. Hits pairs answer × X)
    → HoldsBlocks cmp content ks → HasContent cmp content number old table → IsTrue new.faithful
    → (pairs : List Pair) → answer ≡ Ok pairs → IsBlockOf cmp content number index pairs
answered cmp content ks number index table old new answer X None e h holds is t pairs ok =
    let found = subst (λ a. IfOk a (λ pairs. Finds old new table.name (λ file. IsIntact cmp file table.frame.places index pairs))) ok h.found in
    found_in cmp content number index old new table pairs is t found
answered cmp content ks number index table old new answer X (Some kept) e h holds is t pairs ok = elim h.0 [
  | inl hit ↦ let both : Ok kept ≡ Ok pairs = sym hit ∙ ok in let same : kept ≡ pairs = cc in
      holds (record { file = number; index = index; pairs = pairs }) (Contains-kept_at ks number index pairs (e ∙ ap Some same))
  | inr miss ↦ cc
]

pub answered_if : (cmp : List ℕ → List ℕ → Ordering) (content : ℕ → Option (List ℕ)) (number : ℕ) (index : ℕ) (answer : Result (List Pair) DbError)
    → ((pairs : List Pair) → answer ≡ Ok pairs → IsBlockOf cmp content number index pairs) → IfOk answer (λ pairs. IsBlockOf cmp content number index pairs)
answered_if cmp content number index (Ok pairs) h = h pairs refl
answered_if cmp content number index (Err e) h = tt

-- and those that are kept afterwards are too
pub holds_more : (cmp : List ℕ → List ℕ → Ordering) (content : ℕ → Option (List ℕ)) (before after : List KeptBlock) (number : ℕ) (index : ℕ) (answer : Result (List Pair) DbError)
    → ((kept : KeptBlock) → Contains after kept → Contains before kept ⊎ IsAnswered kept number index answer)
    → HoldsBlocks cmp content before → ((pairs : List Pair) → answer ≡ Ok pairs → IsBlockOf cmp content number index pairs) → HoldsBlocks cmp content after
holds_more cmp content before after number index answer kept holds answered k there = elim (kept k there) [
  | inl was ↦ holds k was
  | inr new ↦ subst (λ n. IsBlockOf cmp content n k.index k.pairs) (sym new.0)
      (subst (λ h. IsBlockOf cmp content number h k.pairs) (sym new.1) (answered k.pairs new.2))
]

-- whether a block is kept or read, the store is only read, and what is refused is as the reader
-- says
pub reads_none : (facts : Facts) → Reads facts facts
reads_none facts = record { faithful = λ t. t; files = λ t. refl; failures = omega arith; writes = refl; denials = refl; locked = refl; synced = λ f. refl; calls = λ f. refl }

pub reads_any : (cmp : List ℕ → List ℕ → Ordering) (index : ℕ) (table : Opened) (old new : Facts) (answer : Result (List Pair) DbError)
    (X : Type 0) (same : X → new ≡ old) (o : Option (List Pair))
    → MatchOption o (ReadsBlock cmp table old new index answer) (λ pairs. Hits pairs answer × X) → Reads old new
reads_any cmp index table old new answer X same None h = h.reads
reads_any cmp index table old new answer X same (Some kept) h = subst (Reads old) (sym (same h.1)) (reads_none old)

pub stood_any : (cmp : List ℕ → List ℕ → Ordering) (index : ℕ) (table : Opened) (old new : Facts) (answer : Result (List Pair) DbError)
    (X : Type 0) (same : X → new ≡ old) (o : Option (List Pair))
    → MatchOption o (ReadsBlock cmp table old new index answer) (λ pairs. Hits pairs answer × X) → IfOk answer (λ _. new.failures ≡ old.failures)
stood_any cmp index table old new answer X same None h = h.stood
stood_any cmp index table old new answer X same (Some kept) h = elim h.0 [
  | inl hit ↦ subst (λ a. IfOk a (λ _. new.failures ≡ old.failures)) (sym hit) (ap (λ f. f.failures) (same h.1))
  | inr miss ↦ subst (λ a. IfOk a (λ _. new.failures ≡ old.failures)) (sym miss) tt
]

pub refused_any : (cmp : List ℕ → List ℕ → Ordering) (index : ℕ) (table : Opened) (old new : Facts) (answer : Result (List Pair) DbError)
    (X : Type 0) (same : X → new ≡ old) (o : Option (List Pair))
    → MatchOption o (ReadsBlock cmp table old new index answer) (λ pairs. Hits pairs answer × X)
    → IfErr answer (λ e. Refuses e old new table.name (λ file. IsTornAt cmp file table.frame.places index) (λ file. IsUnsupportedAt file table.frame.places index))
refused_any cmp index table old new answer X same None h = h.refused
refused_any cmp index table old new answer X same (Some kept) h =
    let Is : Result (List Pair) DbError → Type 0 = λ a. IfErr a (λ e. Refuses e old new table.name (λ file. IsTornAt cmp file table.frame.places index) (λ file. IsUnsupportedAt file table.frame.places index)) in
    elim h.0 [
      | inl hit ↦ subst Is (sym hit) tt
      | inr miss ↦ subst Is (sym miss) (ap (λ f. f.failures) (same h.1))
    ]
