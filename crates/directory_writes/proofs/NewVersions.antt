-- A version with one table more at level 0.
use Rattle.std.proofs.Common.{◌≡◌, ◌≢◌, ◌⊎◌, ◌<◌, ℕ, zero, suc, Bool, true, false, Option, List, [], ◌∷◌, get_or, All, AllPairs, Contains, inl, inr, refl, sym, ap, subst, ◌∙◌, arith}
use Rattle.std.specs.Option.{option_or}
use Rattle.std.specs.declared.cmp.Ordering.{Ordering}
use Rattle.std.proofs.lemmas.Bool.{cond_both, cases_lt}
use Rattle.std.proofs.lemmas.List.Elements.{All-cons, All-from_recursion}
use Rattle.std.proofs.lemmas.List.Kept.{AllPairs-cons}
use Rattle.coding.specs.declared.error.DbError.{DbError}
use Rattle.coding.specs.declared.error.DbError.TheVariants.{OutOfMemory, Io, Corrupt, Unsupported, NumbersSpent}
use Rattle.ikey.specs.declared.entry.Entry.{Entry}
use Rattle.store.specs.Files.{Facts}
use Rattle.edits.specs.declared.field.Field.{Field}
use Rattle.edits.specs.declared.field.PlacedTable.{PlacedTable}
use Rattle.edits.specs.declared.field.TableFile.{TableFile}
use Rattle.edits.specs.Layout.{is_used, is_before, inserted, after_edit, last_said, compact_pointer_in}
use Rattle.edits.proofs.Orders.{unused}
use Rattle.versions.specs.Applying.{LeadsLayout, LeadsAstray}
use Rattle.versions.specs.Levels.{HasNumber, Placement, ListsSameTables, IsRange, StandsBefore, AreInOrder, AreTablesApart, pointers_after}
use Rattle.versions.proofs.Sets.{inside, no_some, used_in}
use Rattle.versions.proofs.Pairs.{all_contained}
use Rattle.directory_writes.specs.internal.Flush.{HasNewVersion, RefusesNewTable, RefusesVersion}
use Rattle.directory_writes.specs.internal.FlushEdits.{flush_fields}
use Rattle.directory_writes.proofs.FlushEdits.{new_one, none_edit, pointer_said}

-- ---- one more in its place

all_inserted : (P : PlacedTable → Type 0) (new : PlacedTable) (tables : List PlacedTable) → P new → All P tables → All P (inserted new tables)
all_inserted P new [] here all = All-cons P new [] here all
all_inserted P new (c ∷ tables) here all =
    let rest : All P tables = λ k d lt. all (suc k) d (omega (arith, lt)) in
    cond_both (is_before new c) (new ∷ c ∷ tables) (c ∷ inserted new tables) (λ (ts : List PlacedTable). All P ts)
    (λ _. All-cons P new (c ∷ tables) here all)
    (λ _. All-cons P c (inserted new tables) (all 0 c (omega arith)) (all_inserted P new tables here rest))

pairs_inserted : (R : PlacedTable → PlacedTable → Type 0) (new : PlacedTable) (tables : List PlacedTable) → AllPairs R tables → All (λ (c : PlacedTable). R new c) tables → All (λ (c : PlacedTable). R c new) tables
    → AllPairs R (inserted new tables)
pairs_inserted R new [] pairs behind front = AllPairs-cons R new [] behind pairs
pairs_inserted R new (c ∷ tables) pairs behind front =
    let rest : AllPairs R tables = λ a b d lt le. pairs (suc a) (suc b) d (omega (arith, lt)) (omega (arith, le)) in
    let later : All (R c) tables = λ k d lt. pairs 0 (suc k) d (omega arith) (omega (arith, lt)) in
    let more_behind : All (λ (x : PlacedTable). R new x) tables = λ k d lt. behind (suc k) d (omega (arith, lt)) in
    let more_front : All (λ (x : PlacedTable). R x new) tables = λ k d lt. front (suc k) d (omega (arith, lt)) in
    cond_both (is_before new c) (new ∷ c ∷ tables) (c ∷ inserted new tables) (λ (ts : List PlacedTable). AllPairs R ts)
    (λ _. AllPairs-cons R new (c ∷ tables) behind pairs)
    (λ _. AllPairs-cons R c (inserted new tables) (all_inserted (R c) new tables (front 0 c (omega arith)) later) (pairs_inserted R new tables rest more_behind more_front))

-- ---- which tables a version can have

module _ (cmp : List ℕ → List ℕ → Ordering) (table : TableFile) where
  abbrev new : PlacedTable
  new = record { level = 0; table = table }

  -- at level 0 the numbers alone count
  beside : (c : PlacedTable) → table.number ≢ c.table.number → StandsBefore cmp c new ⊎ StandsBefore cmp new c
  beside c other = by c.level refl
    where
      by : (level : ℕ) → level ≡ c.level → StandsBefore cmp c new ⊎ StandsBefore cmp new c
      by zero is =
          let F : ℕ → Type 0 = λ n. Rattle.versions.specs.Levels.IsFirstAt cmp n c new in
          elim (cases_lt c.table.number table.number) [
            | inl less ↦ inl (inr (sym is, subst F is less))
            | inr most ↦ elim (cases_lt table.number c.table.number) [
              | inl less ↦ inr (inr (is, less))
              | inr least ↦ absurd (other (omega (arith, most, least)))
            ]
          ]
      by (suc n) is = inr (inl (omega (arith, is)))

  apart_with : (tables : List PlacedTable) → AreInOrder cmp tables → IsRange cmp new → is_used table.number tables ≡ false → AreTablesApart cmp (inserted new tables)
  apart_with tables order range fresh =
      let others = All-from_recursion (λ (p : PlacedTable). table.number ≢ p.table.number) tables (unused table.number tables fresh) in
      record {
        levels = all_inserted (λ p. p.level < 7) new tables (omega arith) order.levels;
        ranges = all_inserted (IsRange cmp) new tables range order.ranges;
        numbers = pairs_inserted (λ a b. a.table.number ≢ b.table.number) new tables order.numbers others (λ k d lt e. others k d lt (sym e));
        places = pairs_inserted (λ a b. StandsBefore cmp a b ⊎ StandsBefore cmp b a) new tables
            (λ a b d lt le. inl (order.places a b d lt le))
            (λ k d lt. elim (beside (get_or tables k d) (others k d lt)) [ inl p ↦ inr p | inr p ↦ inl p ])
            (λ k d lt. beside (get_or tables k d) (others k d lt));
      }

  lists_itself : (tables : List PlacedTable) → AreInOrder cmp tables → ListsSameTables tables tables
  lists_itself tables order = record { numbers = order.numbers; all = all_contained (Contains tables) tables (λ p c. c); only = all_contained (Contains tables) tables (λ p c. c) }

  used_number : (tables : List PlacedTable) → is_used table.number tables ≡ true → HasNumber table.number tables
  used_number tables used =
      let u = used_in table.number tables used in
      let c = u.1 in
      (c.0, u.0, c.1, c.2, u.2)

  by_used : {R : Type 0} (tables : List PlacedTable) → (is_used table.number tables ≡ true → R) → (is_used table.number tables ≡ false → R) → R
  by_used {R} tables yes_used not_used = by (is_used table.number tables) refl
    where
      by : (b : Bool) → is_used table.number tables ≡ b → R
      by true is = yes_used is
      by false is = not_used is

  module _ (log previous next last : ℕ) (tables : List PlacedTable) (order : AreInOrder cmp tables) where
    abbrev change : List PlacedTable → Option (List PlacedTable)
    change = after_edit (flush_fields log previous next last table)

    -- Only a table of the same number is in the way.
    pub number_used : IsRange cmp new → LeadsAstray cmp change tables → HasNumber table.number tables
    number_used range astray = by_used tables (used_number tables)
        (λ fresh. absurd (astray tables (inserted new tables) (lists_itself tables order) (new_one log previous next last table tables fresh) (apart_with tables order range fresh)))

    -- where there is a version, none is
    fresh_by : (after : List PlacedTable) → LeadsLayout change tables after → is_used table.number tables ≡ false
    fresh_by after leads = by_used tables
        (λ used. let r = leads tables (lists_itself tables order) in no_some r.0 (sym (none_edit log previous next last table tables used) ∙ r.1))
        (λ fresh. fresh)

    lists_new : (after : List PlacedTable) → LeadsLayout change tables after → ListsSameTables (inserted new tables) after
    lists_new after leads =
        let r = leads tables (lists_itself tables order) in
        let same : r.0 ≡ inserted new tables = inside r.0 (inserted new tables) (sym r.1 ∙ new_one log previous next last table tables (fresh_by after leads)) in
        subst (λ (ts : List PlacedTable). ListsSameTables ts after) same r.2

    same_pointers : (level : ℕ) (pointers : List (Option (List ℕ))) → pointers_after (flush_fields log previous next last table) level pointers ≡ pointers
    same_pointers level [] = refl
    same_pointers level (pointer ∷ pointers) =
        let here : option_or (last_said (compact_pointer_in level) (flush_fields log previous next last table)) pointer ≡ pointer =
        ap (λ (o : Option (List ℕ)). option_or o pointer) (pointer_said level log previous next last table) in
        let rest = same_pointers (suc level) pointers in
        λ i. here i ∷ rest i

    pub new_version : (number : ℕ) (pointers : List (Option (List ℕ))) (after : Placement) → table.number ≡ number → LeadsLayout change tables after.tables → AreInOrder cmp after.tables
        → after.compact_pointers ≡ pointers_after (flush_fields log previous next last table) 0 pointers → HasNewVersion cmp number (record { tables = tables; compact_pointers = pointers }) after
    new_version number pointers after is leads in_order said = record {
      table = table;
      number_is = is;
      lists = lists_new after.tables leads;
      in_order = in_order;
      pointers = said ∙ same_pointers 0 pointers;
    }

-- ---- why there is none

refused_by : (e : DbError) (old now : Facts) (entries : List Entry) (tables : List PlacedTable) (next after : ℕ) (astray : Type 0) → (astray → HasNumber next tables) → now.failures ≡ old.failures
    → RefusesVersion e astray → RefusesNewTable e old now entries tables next after
refused_by OutOfMemory old now entries tables next after astray to stood h = stood
refused_by (Corrupt file what) old now entries tables next after astray to stood h = to h
refused_by Io old now entries tables next after astray to stood h = absurd h
refused_by (Unsupported what) old now entries tables next after astray to stood h = absurd h
refused_by NumbersSpent old now entries tables next after astray to stood h = absurd h
refused_by e old now entries tables next after astray to stood h = absurd h

module _ (cmp : List ℕ → List ℕ → Ordering) (table : TableFile) (log previous next_file last : ℕ) (tables : List PlacedTable) (order : AreInOrder cmp tables) (edit : List Field)
    (is : edit ≡ flush_fields log previous next_file last table) (number : ℕ) (number_is : table.number ≡ number) where
  pub version_refused : (e : DbError) (old new : Facts) (entries : List Entry) (after : ℕ) → IsRange cmp (record { level = 0; table = table }) → new.failures ≡ old.failures
      → RefusesVersion e (LeadsAstray cmp (after_edit edit) tables) → RefusesNewTable e old new entries tables number after
  version_refused e old new entries after range stood h =
      refused_by e old new entries tables number after (LeadsAstray cmp (after_edit edit) tables)
      (λ astray. subst (λ (n : ℕ). HasNumber n tables) number_is
      (number_used cmp table log previous next_file last tables order range (subst (λ (fields : List Field). LeadsAstray cmp (after_edit fields) tables) is astray)))
      stood h

  pub version_made : (pointers : List (Option (List ℕ))) (after : Placement) → LeadsLayout (after_edit edit) tables after.tables → AreInOrder cmp after.tables → after.compact_pointers ≡ pointers_after edit 0 pointers
      → HasNewVersion cmp number (record { tables = tables; compact_pointers = pointers }) after
  version_made pointers after leads in_order said =
      new_version cmp table log previous next_file last tables order number pointers after number_is
      (subst (λ (fields : List Field). LeadsLayout (after_edit fields) tables after.tables) is leads) in_order (said ∙ ap (λ (fields : List Field). pointers_after fields 0 pointers) is)
