-- How far a get through tables has come, and why it was refused.
use Rattle.std.proofs.Common.{◌≡◌, inl, inr, ◌==◌, ◌+◌, ◌-◌, ◌<◌, ◌≤◌, ℕ, suc, Bool, true, false, cond, IsTrue, Option, Some, None, List, [], ◌∷◌, map, length, refl, sym, ap, ◌∙◌, subst, arith}
use Rattle.std.specs.Prelude.{Contains}
use Rattle.std.specs.Cmp.{IsTotalOrder}
use Rattle.cursor.specs.Moves.{Refuses}
use Rattle.coding.specs.declared.error.DbError.{DbError}
use Rattle.coding.specs.declared.error.DbError.TheVariants.{OutOfMemory, Io, Corrupt, Unsupported}
use Rattle.edits.specs.declared.field.PlacedTable.{PlacedTable}
use Rattle.ikey.specs.declared.entry.Entry.{Entry}
use Rattle.ikey.specs.Orders.{Order}
use Rattle.ikey.specs.Sources.{IsAnswer}
use Rattle.recover.specs.internal.Checks.{content_of}
use Rattle.recover.specs.Tables.{TableContent, HasTable, InTables}
use Rattle.recover.proofs.Memberships.{one_of_tables}
use Rattle.recover.proofs.NameScan.{in_cons, in_none}
use Rattle.version_get.specs.Gets.{TableHasEntries, TableHasNoEntries, IsTooLong, IsOnlyTooLong, HasTablesOf, HasNoTablesOf, IsOneTooLong}
use Rattle.version_laws.specs.Places.{HasVersion}
use Rattle.version_laws.proofs.TableKeys.{first_kept, last_kept}
use Rattle.table_access.specs.Ends.{HasKeysOf}
use Rattle.table_access.specs.Tables.{Seen, Carries, HasSoundTable as HasFileOf, Only}
use Rattle.table_access.specs.Values.{IsLookUp, IsNoTable, IsTablePastLimit}
use Rattle.table_access.specs.TableLaws.{carries_both, carries_itself, carries_more}
use Rattle.cache.specs.Tables.{table_at}
use Rattle.versions.specs.Levels.{HasNumber}
use Rattle.versions.specs.Levels.{tables_at}
use Rattle.versions.specs.Searches.{IsSearchedAt, IsSearchedNext, search_length}

-- ---- one table

pub answer_is : (entries : List Entry) (key : List ℕ) (sequence : ℕ) (value : Option (Option (List ℕ))) → IsLookUp entries sequence key value → IsAnswer entries sequence key value
answer_is entries key sequence None h = h
answer_is entries key sequence (Some value) h = h

module _ (order : Order) (total : IsTotalOrder order.cmp) (old new : Seen) (placed : PlacedTable) where
  file_of : (entries : List Entry) (has : TableHasEntries order old placed entries) → HasFileOf order.cmp old placed.table.number has.1.bytes
  file_of entries has = record { sound = has.0; file_is = has.1.there }

  keys_of : (entries : List Entry) (has : TableHasEntries order old placed entries) → HasKeysOf placed has.1.spelled.0
  keys_of entries has = record { first = first_kept order total old.facts.files (content_of placed entries) has.1; last = last_kept order total old.facts.files (content_of placed entries) has.1 }

  pub not_table : (e : DbError) → Refuses e old.facts new.facts ((file : List ℕ) → HasFileOf order.cmp old placed.table.number file → IsNoTable order.cmp placed file) ((file : List ℕ) → HasFileOf order.cmp old placed.table.number file → IsTablePastLimit order.cmp file)
      → Refuses e old.facts new.facts (TableHasNoEntries order old placed) (IsOnlyTooLong order old placed)
  not_table OutOfMemory h = h
  not_table Io h = h
  not_table (Corrupt kind what) h = λ t entries has. h t has.1.bytes (file_of entries has) has.1.spelled.0 has.1.spelled.1 (keys_of entries has)
  not_table (Unsupported what) h = λ t. elim (h t) [
    | inl none ↦ inl (λ entries has. none has.1.bytes (file_of entries has) has.1.spelled.0 has.1.spelled.1 (keys_of entries has))
    | inr past ↦ inr (λ entries has. (has.1.bytes, has.1.there, past has.1.bytes (file_of entries has)))
  ]
  not_table e h = absurd h

  pub no_number : placed.table.number ≡ 0 → TableHasNoEntries order old placed
  no_number same entries has = let some = has.1.numbered.0 in omega (arith, some, same)

-- ---- the tables of a version

abbrev placed_of : List TableContent → List PlacedTable
placed_of contents = map (λ (content : TableContent). content.placed) contents

from_placed : (contents : List TableContent) (placed : PlacedTable) → Contains (placed_of contents) placed → (content : TableContent) × InTables contents content × (content.placed ≡ placed)
from_placed [] placed i = absurd (in_none placed i)
from_placed (c ∷ contents) placed i =
    elim (in_cons c.placed (placed_of contents) placed i) [
      | inl e ↦ (c, inl refl, e)
      | inr j ↦ let rest = from_placed contents placed j in (rest.0, inr rest.1, rest.2)
    ]

from_level : (level : ℕ) (tables : List PlacedTable) (placed : PlacedTable) → Contains (tables_at level tables) placed → Contains tables placed
from_level level [] placed i = i
from_level level (p ∷ tables) placed i0 = by (p.level == level) (λ i. from_level level tables placed i) i0
  where
    behind : Contains tables placed → Contains (p ∷ tables) placed
    behind i = (suc i.0, omega (arith, i.1), i.2)

    by : (b : Bool) → (Contains (tables_at level tables) placed → Contains tables placed) → Contains (cond b (p ∷ tables_at level tables) (tables_at level tables)) placed → Contains (p ∷ tables) placed
    by true rest i = elim (in_cons p (tables_at level tables) placed i) [
      | inl e ↦ (0, omega arith, e)
      | inr j ↦ behind (rest j)
    ]
    by false rest i = behind (rest i)

level_length : (level : ℕ) (tables : List PlacedTable) → length (tables_at level tables) ≤ length tables
level_length level [] = omega arith
level_length level (p ∷ tables) = by (p.level == level) (level_length level tables)
  where
    by : (b : Bool) → length (tables_at level tables) ≤ length tables → length (cond b (p ∷ tables_at level tables) (tables_at level tables)) ≤ length (p ∷ tables)
    by true h = omega (arith, h)
    by false h = omega (arith, h)

in_version : (order : Order) (tables : List PlacedTable) (key : List ℕ) (place : ℕ) (placed : PlacedTable) → IsSearchedAt order.cmp key tables place placed → Contains tables placed
in_version order tables key place placed (inl first, cover) = from_level 0 tables placed (length (tables_at 0 tables) - 1 - place, omega (arith, first.0), first.1 placed)
in_version order tables key place placed (inr found, cover) = from_level (found.0 + 1) tables placed (found.3.0, found.3.1, found.3.2 placed)

pub few_places : (tables : List PlacedTable) (place end : ℕ) → place < search_length tables → end ≡ length tables + 7 → place + 1 ≤ end
few_places tables place end h e = let n = level_length 0 tables in omega (arith, h, e, n)

within_places : (order : Order) (tables : List PlacedTable) (key : List ℕ) (place : ℕ) (placed : PlacedTable) → IsSearchedAt order.cmp key tables place placed → place < search_length tables
within_places order tables key place placed (inl first, cover) = omega (arith, first.0)
within_places order tables key place placed (inr found, cover) = omega (arith, found.1, found.2)

pub none_behind : (order : Order) (tables : List PlacedTable) (key : List ℕ) (from end : ℕ) → end ≡ length tables + 7 → end ≤ from → (place : ℕ) (placed : PlacedTable) → from ≤ place → IsSearchedAt order.cmp key tables place placed → ⊥
none_behind order tables key from end e le place placed low is =
    let n = level_length 0 tables in
    let h = within_places order tables key place placed is in
    omega (arith, e, le, low, n, h)

-- ---- a search

-- So far it has read some of the tables.
pub record IsSought (order : Order) (old now : Seen) (tables : List PlacedTable) : Type 0 where
  pub carries : Carries order.cmp (λ number. HasNumber number tables) old now
  pub still : now.facts.failures ≡ old.facts.failures

pub begins : (order : Order) (old : Seen) (tables : List PlacedTable) → IsSought order old old tables
begins order old tables = record { carries = carries_itself order.cmp old; still = refl }

module _ (order : Order) (old now : Seen) (tables : List PlacedTable) (target : List ℕ) (from : ℕ) (sought : IsSought order old now tables) (place : ℕ) (placed : PlacedTable) (next : IsSearchedNext order.cmp target tables from place placed) where
  content_at : (contents : List TableContent) → HasVersion order old.facts.files tables contents → (content : TableContent) × InTables contents content × (content.placed ≡ placed)
  content_at contents version = from_placed contents placed (subst (λ (ps : List PlacedTable). Contains ps placed) (sym version.placed) (in_version order tables target place placed next.here))

  -- the table has its entries, in the source as it was and as it is
  has_old : (contents : List TableContent) (version : HasVersion order old.facts.files tables contents) → HasTable order old.facts.files (content_of placed (content_at contents version).0.entries)
  has_old contents version =
      let c = content_at contents version in
      let P : PlacedTable → Type 0 = λ p. HasTable order old.facts.files (content_of p c.0.entries) in
      subst P c.2 (one_of_tables order old.facts.files contents c.0 version.are c.1)

  has_now : IsTrue now.facts.faithful → (contents : List TableContent) (has : HasTablesOf order old tables contents) → TableHasEntries order now placed (content_at contents has.1).0.entries
  has_now t contents has =
      let entries = (content_at contents has.1).0.entries in
      (sought.carries.sound t has.0, subst (λ files. HasTable order files (content_of placed entries)) (sym (sought.carries.reads.files t)) (has_old contents has.1))

  its_number : (number : ℕ) → Only placed.table.number number → HasNumber number tables
  its_number number same = let there = in_version order tables target place placed next.here in (there.0, placed, there.1, there.2, sym same)

  module _ (new : Seen) (carries : Carries order.cmp (Only placed.table.number) now new) where
    pub carried : Carries order.cmp (λ number. HasNumber number tables) old new
    carried = carries_both order.cmp old now new sought.carries (carries_more order.cmp now new its_number carries)

    -- the table is read
    pub goes_on : new.facts.failures ≡ now.facts.failures → IsSought order old new tables
    goes_on stood = record { carries = carried; still = stood ∙ sought.still }

    -- it isn't
    pub not_read : (e : DbError) → Refuses e now.facts new.facts (TableHasNoEntries order now placed) (IsOnlyTooLong order now placed) → Refuses e old.facts new.facts (HasNoTablesOf order old tables) (IsOneTooLong order old tables)
    not_read OutOfMemory h = tt
    not_read Io h = let f = sought.carries.reads.failures in omega (arith, f, h)
    not_read (Corrupt kind what) h = λ t contents has. let before = carries.reads.faithful t in h t (content_at contents has.1).0.entries (has_now before contents has)
    not_read (Unsupported what) h = λ t. let before = carries.reads.faithful t in elim (h t) [
      | inl none ↦ inl (λ contents has. none (content_at contents has.1).0.entries (has_now before contents has))
      | inr past ↦ inr (λ contents has.
          let c = content_at contents has.1 in
          let long = past c.0.entries (has_now before contents has) in
          let here : IsTooLong order old placed = (long.0, ap (λ files. table_at files placed.table.number) (sym (sought.carries.reads.files before)) ∙ long.1, long.2) in
          (c.0, c.1, subst (λ (p : PlacedTable). IsTooLong order old p) (sym c.2) here))
    ]
    not_read e h = absurd h
