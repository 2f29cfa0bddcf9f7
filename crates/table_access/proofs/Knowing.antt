-- That what is kept anew is of a table that is there.
use Rattle.std.proofs.Common.{◌≡◌, ◌⊎◌, ℕ, List, Option, Some, None, Result, Ok, Err, IfOk, IfSome, IsTrue, IsSome, MatchOption, OnOk, Contains, refl, sym, subst, ◌∙◌, inl, inr}
use Rattle.std.specs.declared.alloc.Global.{Global}
use Rattle.std.specs.declared.rc.Rc.{Rc}
use Rattle.cache.specs.Blocks.{KeptBlock}
use Rattle.cache.specs.Tables.{HitsTable, IsAnsweredTable, KeptTable, OpensTable, OpensFile, kept_table_at, table_answer_of, table_at}
use Rattle.cache.proofs.HoldingTables.{Contains-kept_table_at}
use Rattle.coding.specs.declared.error.DbError.{DbError}
use Rattle.cursor.specs.Places.{Cmp}
use Rattle.edits.specs.Names.{IsNumbered}
use Rattle.table_access.specs.Tables.{Seen, Carries, KeepsOf, Knows, Only}
use Rattle.table_access.proofs.Carrying.{reads_both}
use Rattle.store.specs.Files.{Facts, Files}
use Rattle.table.specs.Frame.{Opened}
use Rattle.table.specs.Reading.{Reads}

-- a table that the store has it had before
known_before : (old new : Seen) (number : ℕ) → Reads old.facts new.facts → IsTrue new.facts.faithful → (KeepsOf new number → Knows old number) → Knows new number → Knows old number
unfolding Knows
known_before old new number reads t before (inl kept) = before kept
known_before old new number reads t before (inr there) = inr (there.0, subst (λ (files : Files). IsSome (table_at files number)) (reads.files t) there.1)

-- ---- a table is opened

module _ (cmp : Cmp) (old : Seen) (facts : Facts) (number : ℕ) (numbered : IsNumbered number) (answer : Result Opened DbError) (X : Type 0) where
  -- a table is kept, or it is opened
  abbrev Fetched : Option Opened → Type 0
  Fetched o = MatchOption o (OpensTable cmp old.facts facts number answer) (λ table. HitsTable table answer × X)

  known_of : (o : Option Opened) → kept_table_at old.tables number ≡ o → Fetched o → IsTrue facts.faithful → (table : Opened) → answer ≡ Ok table → Knows old number
  unfolding Knows
  known_of None e h t table ok =
      let found = subst (λ a. IfOk a (λ opened. IsTrue facts.faithful → OpensFile cmp old.facts.files number opened)) ok h.found in
      inr (numbered, subst IsSome (sym (found t).1) refl)
  known_of (Some kept) e h t table ok = inl (inl (record { number = number; table = kept }, Contains-kept_table_at old.tables number kept e, refl))

  pub known_opened : Fetched (kept_table_at old.tables number) → IsTrue facts.faithful → (table : Opened) → answer ≡ Ok table → Knows old number
  known_opened h t table ok = known_of (kept_table_at old.tables number) refl h t table ok

  pub known_if : (result : Result (Rc Opened Global) DbError) → table_answer_of result ≡ answer → Fetched (kept_table_at old.tables number) → OnOk result (IsTrue facts.faithful → Knows old number)
  known_if (Ok table) is h = λ t. known_opened h t table.value (sym is)
  known_if (Err e) is h = tt

  pub hit_opened : (o : Option Opened) → Fetched o → IfSome o (λ table. HitsTable table answer × X)
  hit_opened None h = tt
  hit_opened (Some kept) h = h

  module _ (h : Fetched (kept_table_at old.tables number)) (tables : List KeptTable) (kept : (kept : KeptTable) → Contains tables kept → Contains old.tables kept ⊎ IsAnsweredTable kept number answer)
      (reads : Reads old.facts facts) (t : IsTrue facts.faithful) (n : ℕ) where
    abbrev New : Seen
    New = record { facts = facts; tables = tables; blocks = old.blocks }

    kept_before : KeepsOf New n → Knows old n
    unfolding Knows
    kept_before (inl one) = elim (kept one.0 one.1) [
      | inl was ↦ inl (inl (one.0, was, one.2))
      | inr is ↦ subst (Knows old) (sym is.0 ∙ one.2) (known_opened h t one.0.table is.1)
    ]
    kept_before (inr one) = inl (inr one)

    pub kept_opened : Knows New n → Knows old n
    kept_opened k = known_before old New n reads t kept_before k

-- what is kept anew is of this table, whatever the store returns
pub gathered_opened : (old : Seen) (facts : Facts) (number : ℕ) (answer : Result Opened DbError) (tables : List KeptTable)
    → ((kept : KeptTable) → Contains tables kept → Contains old.tables kept ⊎ IsAnsweredTable kept number answer)
    → (n : ℕ) → KeepsOf (record { facts = facts; tables = tables; blocks = old.blocks }) n → KeepsOf old n ⊎ Only number n
gathered_opened old facts number answer tables kept n (inl one) = elim (kept one.0 one.1) [
  | inl was ↦ inl (inl (one.0, was, one.2))
  | inr is ↦ inr (sym one.2 ∙ is.0)
]
gathered_opened old facts number answer tables kept n (inr one) = inl (inr one)

-- ---- a block is read through an open table

pub gathered_read : (cmp : Cmp) (old mid : Seen) (facts : Facts) (number : ℕ) (blocks : List KeptBlock) → Carries cmp (Only number) old mid
    → ((kept : KeptBlock) → Contains blocks kept → Contains mid.blocks kept ⊎ (kept.file ≡ number))
    → (n : ℕ) → KeepsOf (record { facts = facts; tables = mid.tables; blocks = blocks }) n → KeepsOf old n ⊎ Only number n
gathered_read cmp old mid facts number blocks carries kept n (inl one) = carries.gathered n (inl one)
gathered_read cmp old mid facts number blocks carries kept n (inr one) = elim (kept one.0 one.1) [
  | inl was ↦ carries.gathered n (inr (one.0, was, one.2))
  | inr is ↦ inr (sym one.2 ∙ is)
]

module _ {numbers : ℕ → Type 0} (cmp : Cmp) (old mid : Seen) (facts : Facts) (number : ℕ) (blocks : List KeptBlock) (carries : Carries cmp numbers old mid) (reads : Reads mid.facts facts) (t : IsTrue facts.faithful) (known : Knows old number)
    (kept : (kept : KeptBlock) → Contains blocks kept → Contains mid.blocks kept ⊎ (kept.file ≡ number)) (n : ℕ) where
  abbrev Read : Seen
  Read = record { facts = facts; tables = mid.tables; blocks = blocks }

  kept_here : KeepsOf Read n → Knows old n
  unfolding Knows
  kept_here (inl one) = carries.kept (reads.faithful t) n (inl (inl one))
  kept_here (inr one) = elim (kept one.0 one.1) [
    | inl was ↦ carries.kept (reads.faithful t) n (inl (inr (one.0, was, one.2)))
    | inr is ↦ subst (Knows old) (sym is ∙ one.2) known
  ]

  pub kept_read : Knows Read n → Knows old n
  kept_read k = known_before old Read n (reads_both old.facts mid.facts facts carries.reads reads) t kept_here k
