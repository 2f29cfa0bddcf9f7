-- What tables may have that may have come from others.
use Rattle.std.proofs.Common.{◌≡◌, ℕ, List, [], ◌∷◌, Option, Some, map, sym, ap, ◌∙◌, subst, inl, inr}
use Rattle.std.specs.Cmp.{IsTotalOrder}
use Rattle.std.specs.FinMap.{get}
use Rattle.std.specs.List.{AllByRecursion}
use Rattle.std.specs.Option.{option_or}
use Rattle.cursor.specs.Places.{Cmp}
use Rattle.edits.specs.declared.field.PlacedTable.{PlacedTable}
use Rattle.edits.specs.declared.names.FileName.TheVariants.{Table, OldTable}
use Rattle.edits.specs.Names.{name_of}
use Rattle.ikey.specs.Entries.{InternalEntry}
use Rattle.ikey.specs.Orders.{Order}
use Rattle.recover.specs.Tables.{HasTable, HasTables, TableContent, table_at}
use Rattle.recover.proofs.NameScan.{first_in, in_cons, in_none, next_in}
use Rattle.store.specs.Files.{Files}
use Rattle.db_cursor.specs.Origins.{HasOrigin, HaveOrigins, MayComeFrom, OriginLaw, OriginStaysLaw, SameOriginLaw}
use Rattle.table_access.specs.Possible.{MayBeTable, MayHave}
use Rattle.table_access.proofs.Wholes.{may_be}
use Rattle.table.specs.Frame.{Frame, IsFrame}
use Rattle.version_laws.specs.Places.{HasVersion, MayHold}
use Rattle.version_laws.proofs.Fitting.{fits}

-- What a file may have that has the origin's frame, it may have with its own.
module _ (cmp : Cmp) (placed : PlacedTable) (file whole : List ℕ) (from : MayComeFrom cmp placed file whole) where
  same_groups : (frame : Frame) (entries : List InternalEntry) → IsFrame cmp file frame → MayHave cmp placed whole frame entries → MayHave cmp placed file frame entries
  same_groups frame entries is has = record {
    groups = has.groups;
    same_length = has.same_length;
    each = λ index pairs others at intact. has.each index pairs others at (from.blocks frame index others is intact);
    bounds = has.bounds;
    entries_are = has.entries_are;
    rises = has.rises;
    admitted = has.admitted;
  }

  -- what the origin may be, it may be
  pub may_be_origin : (entries : List InternalEntry) → MayBeTable cmp placed whole entries → MayBeTable cmp placed file entries
  may_be_origin entries may = record {
    some = may.some;
    keyed = may.keyed;
    rises = may.rises;
    filled = λ frame is. same_groups frame entries is (may.filled frame (from.framed frame is));
  }

module _ (order : Order) (total : IsTotalOrder order.cmp) (files ideal : Files) where
  one_held : (content : TableContent) → HasTable order ideal content → HasOrigin order.cmp files ideal content.placed → MayHold (MayBeTable order.cmp) files content
  one_held content has from =
      let both : Some has.bytes ≡ Some from.whole = sym has.there ∙ from.ideal_there in
      let same : has.bytes ≡ from.whole = cc in
      record {
        numbered = has.numbered;
        bytes = from.bytes;
        there = from.there;
        kept = has.spelled.0;
        held = may_be_origin order.cmp content.placed from.bytes from.whole from.origin has.spelled.0
            (subst (λ (file : List ℕ). MayBeTable order.cmp content.placed file has.spelled.0) same (may_be order.cmp total content.placed has.bytes has.spelled.0 has.spelled.1));
        entries_are = has.spelled.2;
      }

  all_held : (contents : List TableContent) → HasTables order ideal contents → HaveOrigins order.cmp files ideal (map (λ (content : TableContent). content.placed) contents) → AllByRecursion (MayHold (MayBeTable order.cmp) files) contents
  all_held [] has from = tt
  all_held (content ∷ contents) has from =
      let placed = map (λ (other : TableContent). other.placed) contents in (
        one_held content has.0 (from content.placed (first_in content.placed placed)),
        all_held contents has.1 (λ other i. from other (next_in content.placed placed other i)),
      )

pub origins_held : OriginLaw
origins_held order files ideal tables contents total has from = record {
  fit = (fits order ideal tables contents has).0;
  may = all_held order total files ideal contents has.are (subst (λ (placed : List PlacedTable). HaveOrigins order.cmp files ideal placed) (sym has.placed) from);
}

pub from_itself : (cmp : Cmp) (placed : PlacedTable) (file : List ℕ) → MayComeFrom cmp placed file file
from_itself cmp placed file = record { framed = λ frame is. is; blocks = λ frame index pairs is intact. intact }

pub same_origin : SameOriginLaw
same_origin cmp placed file = (
  from_itself cmp placed file,
  λ files ideal there ideal_there. record { bytes = file; whole = file; there = there; ideal_there = ideal_there; origin = from_itself cmp placed file },
)

pub origin_stays : OriginStaysLaw
origin_stays cmp old new whole after placed kept ideal_kept from = record {
  bytes = from.bytes;
  whole = from.whole;
  there = kept ∙ from.there;
  ideal_there = ideal_kept ∙ from.ideal_there;
  origin = from.origin;
}

-- ---- of directories

-- a change that leaves the files of both names of a table alone, done to both directories
pub origin_left : (cmp : Cmp) (old new whole after : Files) (placed : PlacedTable) → ((name : List ℕ) → get new name ≡ get old name → get after name ≡ get whole name)
    → get new (name_of (Table placed.table.number)) ≡ get old (name_of (Table placed.table.number)) → get new (name_of (OldTable placed.table.number)) ≡ get old (name_of (OldTable placed.table.number))
    → HasOrigin cmp old whole placed → HasOrigin cmp new after placed
origin_left cmp old new whole after placed stays one other = origin_stays cmp old new whole after placed (both old new one other) (both whole after (stays _ one) (stays _ other))
  where
    both : (a b : Files) → get b (name_of (Table placed.table.number)) ≡ get a (name_of (Table placed.table.number)) → get b (name_of (OldTable placed.table.number)) ≡ get a (name_of (OldTable placed.table.number))
        → table_at b placed.table.number ≡ table_at a placed.table.number
    both a b e f = λ i. option_or (e i) (f i)

-- a table that is written alike in both
pub origin_written : (cmp : Cmp) (files ideal : Files) (placed : PlacedTable) (file : List ℕ) → get files (name_of (Table placed.table.number)) ≡ Some file
    → get ideal (name_of (Table placed.table.number)) ≡ get files (name_of (Table placed.table.number)) → HasOrigin cmp files ideal placed
origin_written cmp files ideal placed file there same = (same_origin cmp placed file).1 files ideal (at files there) (at ideal (same ∙ there))
  where
    at : (a : Files) → get a (name_of (Table placed.table.number)) ≡ Some file → table_at a placed.table.number ≡ Some file
    at a e = ap (λ (bytes : Option (List ℕ)). option_or bytes (get a (name_of (OldTable placed.table.number)))) e

-- the tables of a version come from themselves
module _ (order : Order) (files : Files) where
  own_origins : (contents : List TableContent) → HasTables order files contents → HaveOrigins order.cmp files files (map (λ (content : TableContent). content.placed) contents)
  own_origins [] has placed i = absurd (in_none placed i)
  own_origins (content ∷ contents) has placed i = elim (in_cons content.placed (map (λ (other : TableContent). other.placed) contents) placed i) [
    | inl same ↦ subst (λ (p : PlacedTable). HasOrigin order.cmp files files p) same ((same_origin order.cmp content.placed has.0.bytes).1 files files has.0.there has.0.there)
    | inr later ↦ own_origins contents has.1 placed later
  ]

  pub version_origins : (tables : List PlacedTable) (contents : List TableContent) → HasVersion order files tables contents → HaveOrigins order.cmp files files tables
  version_origins tables contents has = subst (λ (placed : List PlacedTable). HaveOrigins order.cmp files files placed) has.placed (own_origins contents has.are)
