-- What a version has fits it.
use Rattle.std.proofs.Common.{◌≡◌, ℕ, List, [], ◌∷◌, subst}
use Rattle.std.specs.List.{AllByRecursion}
use Rattle.ikey.specs.declared.entry.Entry.{Entry}
use Rattle.ikey.specs.Entries.{InternalEntry, internal_key_of}
use Rattle.ikey.specs.Keys.{IsKey}
use Rattle.ikey.specs.Orders.{Order}
use Rattle.ikey.specs.Views.{Among}
use Rattle.edits.specs.declared.field.PlacedTable.{PlacedTable}
use Rattle.store.specs.Files.{Files}
use Rattle.table.specs.Table.{IsTable}
use Rattle.recover.specs.Tables.{HasTable, HasTables, TableContent, internal_key}
use Rattle.recover.proofs.Memberships.{one_of_tables}
use Rattle.recover.proofs.OneMeaning.{same_table_content}
use Rattle.recover.proofs.TableFacts.{fits_of, key_is}
use Rattle.version_laws.specs.Laws.{FitLaw}
use Rattle.version_laws.specs.Places.{FitsEdit, HasVersion, MayHaveVersion, MayHold}

pub fits_edit : (order : Order) (files : Files) (content : TableContent) → HasTable order files content → FitsEdit order content
fits_edit order files content h = record {
  sorted = h.sorted;
  smallest = (h.smallest.0, h.smallest.1, has_key h.smallest.0 content.placed.table.smallest h.smallest.1 h.smallest.2, h.smallest.3);
  largest = (h.largest.0, h.largest.1, has_key h.largest.0 content.placed.table.largest h.largest.1 h.largest.2, h.largest.3);
}
  where
    has_key : (entry : Entry) (bytes : List ℕ) → Among content.entries entry → internal_key entry ≡ bytes → IsKey bytes (internal_key_of entry)
    has_key entry bytes i e = subst (λ (b : List ℕ). IsKey b (internal_key_of entry)) e (key_is entry (fits_of order h.bytes content.entries entry h.spelled i))

pub fit_edits : (order : Order) (files : Files) (contents : List TableContent) → HasTables order files contents → AllByRecursion (FitsEdit order) contents
fit_edits order files [] h = tt
fit_edits order files (content ∷ contents) h = (fits_edit order files content h.0, fit_edits order files contents h.1)

pub fits : FitLaw
fits order files tables contents h = (
  record { placed = h.placed; each = fit_edits order files contents h.are; searched = h.searched; rows = h.rows },
  λ content other i has same. same_table_content order files content other same (one_of_tables order files contents content h.are i) has,
)

-- What the files have they may have, by each relation in which a table's bytes stand to its
-- entries.
module _ (holds : PlacedTable → List ℕ → List InternalEntry → Type 0) (order : Order) (is : (placed : PlacedTable) (file : List ℕ) (kept : List InternalEntry) → IsTable order.cmp file kept → holds placed file kept) (files : Files) where
  pub may_hold : (contents : List TableContent) → HasTables order files contents → AllByRecursion (MayHold holds files) contents
  may_hold [] h = tt
  may_hold (content ∷ contents) h = (
    record {
      numbered = h.0.numbered;
      bytes = h.0.bytes;
      there = h.0.there;
      kept = h.0.spelled.0;
      held = is content.placed h.0.bytes h.0.spelled.0 h.0.spelled.1;
      entries_are = h.0.spelled.2;
    },
    may_hold contents h.1,
  )

  pub may_have : (tables : List PlacedTable) (contents : List TableContent) → HasVersion order files tables contents → MayHaveVersion holds order files tables contents
  may_have tables contents h = record { fit = (fits order files tables contents h).0; may = may_hold contents h.are }
