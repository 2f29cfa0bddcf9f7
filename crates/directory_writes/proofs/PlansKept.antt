-- What a flush leaves of the tables that a plan takes.
use Rattle.std.proofs.Common.{◌≡◌, ◌==◌, ◌&&◌, ◌||◌, nat_lt, inl, inr, ℕ, Bool, true, false, cond, List, [], ◌∷◌, ◌++◌, refl, sym, ap, ◌∙◌, subst, arith}
use Rattle.std.proofs.lemmas.Bool.Decides.{nat_tests}
use Rattle.edits.specs.Edit.{IsPlacedBefore}
use Rattle.edits.specs.Layout.{is_before}
use Rattle.edits.specs.Snapshot.{AreInPlace}
use Rattle.edits.specs.declared.field.PlacedTable.{PlacedTable}
use Rattle.edits.specs.declared.layout.Layout.{Layout}
use Rattle.edits.proofs.Orders.{before_true, before_trans}
use Rattle.ikey.specs.declared.entry.Entry.{Entry}
use Rattle.ikey.specs.Orders.{Order}
use Rattle.ikey.specs.Views.{Among}
use Rattle.store.specs.Files.{Files}
use Rattle.recover.specs.Tables.{TableContent, InTables, AreNewer, tabled}
use Rattle.recover.specs.Directory.{Directory, IsConsistent}
use Rattle.recover.specs.Replacing.{AreParted, MayReplace}
use Rattle.recover.specs.internal.Changes.{IsFlush, with_content}
use Rattle.recover.specs.Logs.{LogContent, logged}
use Rattle.recover.proofs.Adding.{logged-append}
use Rattle.recover.proofs.Flushing.{kept_by}
use Rattle.recover.proofs.Memberships.{in_with, from_rest, from_chosen, from_tabled, to_tabled, among_front}
use Rattle.compact.specs.Laws.{AreNewerOrDeep}
use Rattle.versions.specs.declared.plan.JobPlan.{JobPlan}
use Rattle.directory_writes.specs.Replacing.{IsPlanned}
use Rattle.directory_writes.specs.internal.Planned.{FlushedPlanLaw}
use Rattle.directory_writes.proofs.JobTables.{InRow, row_of}

-- ---- one more table is one of the rest

comes_first : (l m n k : ℕ) → IsPlacedBefore (l, m) (n, k) → (nat_lt l n || (l == n && nat_lt m k)) ≡ true
comes_first l m n k (inl lt) = grind (arith, nat_tests)
comes_first l m n k (inr h) = grind (arith, nat_tests)

first_with : (content : TableContent) (rest : List TableContent) → ((x : TableContent) → InTables rest x → is_before content.placed x.placed ≡ true) → with_content content rest ≡ content ∷ rest
first_with content [] h = refl
first_with content (x ∷ rest) h = ap (λ (b : Bool). cond b (content ∷ x ∷ rest) (x ∷ with_content content rest)) (h x (inl refl))

later_with : (content x : TableContent) (rest : List TableContent) → is_before content.placed x.placed ≡ false → with_content content (x ∷ rest) ≡ x ∷ with_content content rest
later_with content x rest e = ap (λ (b : Bool). cond b (content ∷ x ∷ rest) (x ∷ with_content content rest)) e

parted_with : (content : TableContent) (contents chosen rest : List TableContent) → AreParted contents chosen rest → InRow contents → AreParted (with_content content contents) chosen (with_content content rest)
parted_with content [] chosen rest h row = inr ([], ap (with_content content) h.1, (h.0, refl))
parted_with content (c ∷ contents) chosen rest h row = by (λ xs ys p. parted_with content contents xs ys p row.1) (is_before content.placed c.placed) refl
  where
    before_all : is_before content.placed c.placed ≡ true → (x : TableContent) → InTables (c ∷ contents) x → is_before content.placed x.placed ≡ true
    before_all e x (inl same) = ap (λ (t : TableContent). is_before content.placed t.placed) same ∙ e
    before_all e x (inr i) =
        let first = before_true content.placed.level content.placed.table.number c.placed.level c.placed.table.number e in
        comes_first content.placed.level content.placed.table.number x.placed.level x.placed.table.number
        (before_trans (content.placed.level, content.placed.table.number) (c.placed.level, c.placed.table.number) (x.placed.level, x.placed.table.number) first (row.0 x i).0)

    behind : ((xs ys : List TableContent) → AreParted contents xs ys → AreParted (with_content content contents) xs (with_content content ys)) → AreParted (c ∷ contents) chosen rest → is_before content.placed c.placed ≡ false → AreParted (c ∷ with_content content contents) chosen (with_content content rest)
    behind more (inl p) e = inl (p.0, p.1, more p.0 rest p.2)
    behind more (inr p) e = inr (with_content content p.0, ap (with_content content) p.1 ∙ later_with content c p.0 e, more chosen p.0 p.2)

    by : ((xs ys : List TableContent) → AreParted contents xs ys → AreParted (with_content content contents) xs (with_content content ys)) → (b : Bool) → is_before content.placed c.placed ≡ b → AreParted (cond b (content ∷ c ∷ contents) (c ∷ with_content content contents)) chosen (with_content content rest)
    by more true e = inr (rest, first_with content rest (λ x i. before_all e x (from_rest (c ∷ contents) chosen rest x h i)), h)
    by more false e = behind more h e

-- ---- a flush

module _ (order : Order) (files : Files) (deep : List ℕ → Bool) (plan : JobPlan) (d : Directory) (next : Layout) (content : TableContent) (sealed : List LogContent) (current : LogContent) (inputs rest : List TableContent)
    (h : IsConsistent order files d) (f : IsFlush d next content sealed current) (p : IsPlanned order deep plan d.tables inputs rest) where
  row : InRow d.tables
  row = row_of d.tables (subst (λ (ts : List PlacedTable). AreInPlace ts) (sym h.placed) (kept_by order files d.manifest d.edits d.layout h.manifest).in_place)

  was_logged : (e : Entry) → Among content.entries e → Among (logged d.logs) e
  was_logged e i =
      let whole : logged d.logs ≡ logged sealed ++ logged (current ∷ []) = ap logged f.logs ∙ logged-append sealed (current ∷ []) in
      subst (λ (es : List Entry). Among es e) (sym whole) (among_front (logged sealed) (logged (current ∷ [])) e ((f.entries e).0 i))

  newer_content : (input : TableContent) → InTables inputs input → AreNewer content input
  newer_content input i e g a b key = h.newer e g (was_logged e a) (to_tabled d.tables input g (from_chosen d.tables inputs rest input p.parted i) b) key

  replaceable : MayReplace order inputs (with_content content rest) plan.output_level
  replaceable = record {
    newer = λ stays input i j lt. elim (in_with content rest stays i) [
      | inl e ↦ subst (λ (t : TableContent). AreNewer t input) (sym e) (newer_content input j)
      | inr k ↦ p.replaceable.newer stays input k j lt
    ];
    older = λ stays input i j lt. elim (in_with content rest stays i) [
      | inl e ↦ absurd (omega (arith, lt, ap (λ (t : TableContent). t.placed.level) e, f.level))
      | inr k ↦ p.replaceable.older stays input k j lt
    ];
    beside = λ stays i at. elim (in_with content rest stays i) [
      | inl e ↦ absurd (omega (arith, at, ap (λ (t : TableContent). t.placed.level) e, f.level, p.positive))
      | inr k ↦ p.replaceable.beside stays k at
    ];
  }

  apart : AreNewerOrDeep (tabled inputs) (tabled (with_content content rest)) deep
  apart entry other i j same =
      let t = from_tabled (with_content content rest) other j in
      let input = from_tabled inputs entry i in
      elim (in_with content rest t.0 t.1) [
        | inl e ↦ inl (newer_content input.0 input.1 other entry (subst (λ (c : TableContent). Among c.entries other) e t.2) input.2 same)
        | inr k ↦ p.apart entry other i (to_tabled rest t.0 other k t.2) same
      ]

  kept : IsPlanned order deep plan (with_content content d.tables) inputs (with_content content rest)
  kept = record {
    parted = parted_with content d.tables inputs rest p.parted row;
    planned = p.planned;
    positive = p.positive;
    replaceable = replaceable;
    apart = apart;
    distinct = p.distinct;
    proper = p.proper;
  }

pub flushed_plan : FlushedPlanLaw
flushed_plan = kept
