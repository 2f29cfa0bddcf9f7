-- What is answered and kept of tables, where each kept table is that of its number.
use Rattle.std.proofs.Common.{◌≡◌, ◌⊎◌, ◌==◌, ℕ, true, false, List, [], ◌∷◌, Option, Some, None, Result, Ok, Err, IfOk, IfErr, IsTrue, MatchOption, Contains, refl, sym, ap, subst, inl, inr, ◌∙◌}
use Rattle.std.specs.declared.cmp.Ordering.{Ordering}
use Rattle.std.specs.FinMap.{get}
use Rattle.std.proofs.lemmas.Bool.{eqb-true}
use Rattle.lru.proofs.Splits.{Contains-head, Contains-tail}
use Rattle.coding.specs.declared.error.DbError.{DbError}
use Rattle.store.specs.Files.{Facts}
use Rattle.table.specs.Frame.{Frame, Opened, IsFrame, IsOversized}
use Rattle.table.specs.Reading.{Reads}
use Rattle.table.specs.Refusals.{IsFrameDamaged, IsFrameUnsupported}
use Rattle.cache.specs.Holding.{HoldsTables, HasTableInUse, IsOpenOf}
use Rattle.cache.specs.Tables.{KeptTable, OpensTable, OpensFile, RefusesTable, IsNameOf, HitsTable, IsAnsweredTable, kept_table_at}
use Rattle.cache.proofs.Holding.{reads_none}

-- a table that is kept of a number is in the list
pub Contains-kept_table_at : (ks : List KeptTable) (number : ℕ) (table : Opened) → kept_table_at ks number ≡ Some table → Contains ks (record { number = number; table = table })
unfolding kept_table_at
Contains-kept_table_at [] number table h = cc
Contains-kept_table_at (k ∷ ks) number table h = (elim (number == k.number) as (λ y. (number == k.number) ≡ y → Contains (k ∷ ks) (record { number = number; table = table })) [
  | true ↦ λ t.
      let same : k.number ≡ number = sym (eqb-true number k.number t) in
      let h2 = rw t at h in
      let its : k.table ≡ table = cc in
      subst (Contains (k ∷ ks)) (λ i. record { number = same i; table = its i }) (Contains-head k ks)
  | false ↦ λ t. Contains-tail k ks _ (Contains-kept_table_at ks number table (rw t at h))
]) refl

-- a call that only reads leaves a table open
pub still_open : (cmp : List ℕ → List ℕ → Ordering) (content : ℕ → Option (List ℕ)) (old new : Facts) (number : ℕ) (table : Opened) → Reads old new → IsTrue new.faithful
    → IsOpenOf cmp content old number table → IsOpenOf cmp content new number table
still_open cmp content old new number table reads t is = (is.0, λ file e. let p = is.1 file e in (ap (λ files. get files table.name) (reads.files t) ∙ p.0, p.1, p.2))

opened_if : (cmp : List ℕ → List ℕ → Ordering) (content : ℕ → Option (List ℕ)) (new : Facts) (number : ℕ) (answer : Result Opened DbError)
    → ((table : Opened) → answer ≡ Ok table → IsOpenOf cmp content new number table) → IfOk answer (λ table. IsOpenOf cmp content new number table)
opened_if cmp content new number (Ok table) h = h table refl
opened_if cmp content new number (Err e) h = tt

module _ (cmp : List ℕ → List ℕ → Ordering) (number : ℕ) (old new : Facts) (answer : Result Opened DbError) (X : Type 0) (same : X → new ≡ old) where
  -- a table is kept, or it is opened
  abbrev pub Fetched : Option Opened → Type 0
  Fetched o = MatchOption o (OpensTable cmp old new number answer) (λ table. HitsTable table answer × X)

  pub reads_fetched : (o : Option Opened) → Fetched o → Reads old new
  reads_fetched None h = h.reads
  reads_fetched (Some kept) h = subst (Reads old) (sym (same h.1)) (reads_none old)

  pub stood_fetched : (o : Option Opened) → Fetched o → IfOk answer (λ _. new.failures ≡ old.failures)
  stood_fetched None h = h.stood
  stood_fetched (Some kept) h = elim h.0 [
    | inl hit ↦ subst (λ a. IfOk a (λ _. new.failures ≡ old.failures)) (sym hit) (ap (λ f. f.failures) (same h.1))
    | inr miss ↦ subst (λ a. IfOk a (λ _. new.failures ≡ old.failures)) (sym miss) tt
  ]

  -- what is said of a table that is refused is so of a kept one too
  refused_hit : (damaged unsupported : List ℕ → Type 0) (kept : Opened) → HitsTable kept answer × X → IfErr answer (λ e. RefusesTable e old new number damaged unsupported)
  refused_hit damaged unsupported kept h = elim h.0 [
    | inl hit ↦ subst (λ a. IfErr a (λ e. RefusesTable e old new number damaged unsupported)) (sym hit) tt
    | inr miss ↦ subst (λ a. IfErr a (λ e. RefusesTable e old new number damaged unsupported)) (sym miss) (ap (λ f. f.failures) (same h.1))
  ]

  pub told_fetched : (o : Option Opened) → Fetched o → IfErr answer (λ e. RefusesTable e old new number (IsFrameDamaged cmp) IsFrameUnsupported)
  told_fetched None h = h.told
  told_fetched (Some kept) h = refused_hit (IsFrameDamaged cmp) IsFrameUnsupported kept h

  pub refused_fetched : (o : Option Opened) → Fetched o
      → IfErr answer (λ e. RefusesTable e old new number (λ file. (frame : Frame) → IsFrame cmp file frame → ⊥) (λ file. (frame : Frame) (is : IsFrame cmp file frame) → IsOversized cmp file frame is))
  refused_fetched None h = h.refused
  refused_fetched (Some kept) h = refused_hit (λ file. (frame : Frame) → IsFrame cmp file frame → ⊥) (λ file. (frame : Frame) (is : IsFrame cmp file frame) → IsOversized cmp file frame is) kept h

  module _ (content : ℕ → Option (List ℕ)) (ks : List KeptTable) where
    pub fetched : (o : Option Opened) → kept_table_at ks number ≡ o → Fetched o → HoldsTables cmp content old ks → HasTableInUse content number old → IsTrue new.faithful
        → (table : Opened) → answer ≡ Ok table → IsOpenOf cmp content new number table
    fetched None e h holds has t table ok = (
      subst (λ a. IfOk a (λ opened. IsNameOf number opened.name)) ok h.named,
      λ file there.
          let found = subst (λ a. IfOk a (λ opened. IsTrue new.faithful → OpensFile cmp old.files number opened)) ok h.found in
          let at = found t in
          let both : Some at.0 ≡ Some file = sym at.1 ∙ has file there in
          let its : at.0 ≡ file = cc in
          (ap (λ files. get files table.name) (h.reads.files t) ∙ at.2 ∙ both, subst (λ f. IsFrame cmp f table.frame) its at.3, subst (λ f. IsFrameUnsupported f → ⊥) its at.4),
    )
    fetched (Some kept) e h holds has t table ok = elim h.0 [
      | inl hit ↦ let both : Ok kept ≡ Ok table = sym hit ∙ ok in let its : kept ≡ table = cc in
          still_open cmp content old new number table (reads_fetched (Some kept) h) t
          (holds (record { number = number; table = table }) (Contains-kept_table_at ks number table (e ∙ ap Some its)))
      | inr miss ↦ cc
    ]

    pub fetched_if : ((table : Opened) → answer ≡ Ok table → IsOpenOf cmp content new number table) → IfOk answer (λ table. IsOpenOf cmp content new number table)
    fetched_if h = opened_if cmp content new number answer h

    pub holds_fetched : (after : List KeptTable) → ((kept : KeptTable) → Contains after kept → Contains ks kept ⊎ IsAnsweredTable kept number answer)
        → HoldsTables cmp content old ks → Reads old new → IsTrue new.faithful → ((table : Opened) → answer ≡ Ok table → IsOpenOf cmp content new number table) → HoldsTables cmp content new after
    holds_fetched after kept holds reads t opened k there = elim (kept k there) [
      | inl was ↦ still_open cmp content old new k.number k.table reads t (holds k was)
      | inr is ↦ subst (λ n. IsOpenOf cmp content new n k.table) (sym is.0) (opened k.table is.1)
    ]
