-- Why a table of a row isn't read.
use Rattle.std.proofs.Common.{◌≡◌, ◌⊎◌, ℕ, List, Option, Some, IsTrue, sym, subst, arith, inl, inr}
use Rattle.std.specs.List.{slice_get}
use Rattle.block.specs.Places.{Placed}
use Rattle.cache.specs.Tables.{RefusesTable}
use Rattle.coding.specs.declared.error.DbError.{DbError}
use Rattle.coding.specs.declared.error.DbError.TheVariants.{OutOfMemory, Io, Corrupt, Unsupported}
use Rattle.cursor.specs.Cuts.{Cut, SameCut}
use Rattle.cursor.specs.Moves.{Refuses}
use Rattle.cursor.specs.Places.{Cmp, Listed}
use Rattle.edits.specs.declared.field.PlacedTable.{PlacedTable}
use Rattle.ikey.specs.Entries.{InternalEntry}
use Rattle.level_cursor.specs.InRows.{HasList, IsOneLimited, IsOneTorn, IsTornOne, LiesIn}
use Rattle.level_cursor.specs.Searches.{IsOneOf}
use Rattle.level_cursor.specs.RowLists.{member_at}
use Rattle.table_access.specs.declared.in_block.InBlock.{InBlock}
use Rattle.table_access.specs.TablePlaces.{ListsTable}
use Rattle.table_access.specs.Tables.{Seen, Carries, HasSoundTable, IsOpenFrame, SaysOf}
use Rattle.table_access.specs.Torn.{TornTable}
use Rattle.table_access.specs.TornLaws.{torn_same}
use Rattle.table_access.specs.Values.{IsTablePastLimit}
use Rattle.table_access.proofs.Carrying.{still_has}
use Rattle.store.specs.Files.{Facts}
use Rattle.table.specs.Frame.{AnyLong, Frame, handles}
use Rattle.table.specs.Reading.{Reads}
use Rattle.table.specs.Refusals.{IsFrameDamaged, IsFrameUnsupported}

-- what a call after others refuses, for a reason that stands from the beginning
pub refused_later : (e : DbError) (old mid new : Facts) (a b limit limited : Type 0) → Reads old mid → Reads mid new → (IsTrue mid.faithful → a → b) → (IsTrue mid.faithful → limit → b ⊎ limited) → Refuses e mid new a limit
    → Refuses e old new b limited
refused_later OutOfMemory old mid new a b limit limited first second f l h = tt
refused_later Io old mid new a b limit limited first second f l h = let k = first.failures in omega (arith, k, h)
refused_later (Corrupt kind what) old mid new a b limit limited first second f l h = λ t. f (second.faithful t) (h t)
refused_later (Unsupported what) old mid new a b limit limited first second f l h = λ t. elim (h t) [
  | inl x ↦ inl (f (second.faithful t) x)
  | inr y ↦ l (second.faithful t) y
]
refused_later e old mid new a b limit limited first second f l h = absurd h

pub refused_so : (e : DbError) (old new : Facts) (a b limited : Type 0) → (a → b) → Refuses e old new a limited → Refuses e old new b limited
refused_so OutOfMemory old new a b limited f h = tt
refused_so Io old new a b limited f h = h
refused_so (Corrupt kind what) old new a b limited f h = λ t. f (h t)
refused_so (Unsupported what) old new a b limited f h = λ t. elim (h t) [ inl x ↦ inl (f x) | inr y ↦ inr y ]
refused_so e old new a b limited f h = absurd h

module _ (cmp : Cmp) (old new : Seen) (placed : PlacedTable) where
  -- the file of the table is past a limit
  abbrev pub IsLimited : Type 0
  IsLimited = (file : List ℕ) → HasSoundTable cmp old placed.table.number file → IsTablePastLimit cmp file

  -- it isn't opened
  pub not_opened : (e : DbError) → RefusesTable e old.facts new.facts placed.table.number (IsFrameDamaged cmp) IsFrameUnsupported → Refuses e old.facts new.facts ((list : List InternalEntry) (cut : Cut) → HasList cmp old placed list → IsTornOne cmp old placed cut) IsLimited
  not_opened OutOfMemory h = tt
  not_opened Io h = h
  not_opened (Corrupt kind what) h = λ t list cut has file there. inl (h t file there.file_is)
  not_opened (Unsupported what) h = λ t. inr (λ file has. inl (h t file has.file_is))
  not_opened e h = absurd h

  -- there is no table of the number 0
  pub no_number : placed.table.number ≡ 0 → (list : List InternalEntry) (cut : Cut) → HasList cmp old placed list → IsTornOne cmp old placed cut
  no_number same list cut has = let some = has.positive in absurd (omega (arith, some, same))

  -- it is open, and one of its blocks is none
  pub torn_opened : {numbers : ℕ → Type 0} (frame : Frame) (cut : Cut) → Carries cmp numbers old new → IsTrue new.facts.faithful → SaysOf cmp old new placed.table.number (λ file. IsOpenFrame cmp file frame) → TornTable cmp new placed frame cut
      → IsTornOne cmp old placed cut
  torn_opened frame cut carries t says torn file has = inr (frame, says t file has, torn file (still_has cmp old new placed.table.number file carries t has))

  -- it is open, and one of its blocks is too long
  pub long_one : (frame : Frame) → IsTrue new.facts.faithful → SaysOf cmp old new placed.table.number (λ file. IsOpenFrame cmp file frame) → AnyLong (handles frame) → IsLimited
  long_one frame t says long = λ file has. inr (frame, (says t file has).0, long)

-- a table that is past a limit was so before calls that only read
pub limited_before : {numbers : ℕ → Type 0} (cmp : Cmp) (old now : Seen) (row : List PlacedTable) → Carries cmp numbers old now → IsTrue now.facts.faithful → IsOneLimited cmp now row → IsOneLimited cmp old row
limited_before cmp old now row carries t one = (one.0, one.1, λ file has. one.2 file (still_has cmp old now one.0.table.number file carries t has))

-- so was that of a cursor that was opened in them
pub opened_limited : (cmp : Cmp) (old new : Seen) (row : List PlacedTable) (index : ℕ) (placed : PlacedTable) (frame : Frame) → IsOneOf cmp old new row index placed frame → IsTrue new.facts.faithful → AnyLong (handles frame) → IsOneLimited cmp old row
opened_limited cmp old new row index placed frame one t long = (placed, member_at row index placed one.there, λ file has. inr (frame, (one.open_is t file has).0, long))

-- and what is torn of it was so
pub opened_torn : {numbers : ℕ → Type 0} (cmp : Cmp) (old new : Seen) (row : List PlacedTable) (index : ℕ) (placed : PlacedTable) (frame : Frame) (cut : Cut) → IsOneOf cmp old new row index placed frame → Carries cmp numbers old new → IsTrue new.facts.faithful
    → LiesIn cmp row index cut → TornTable cmp new placed frame cut → IsOneTorn cmp old row cut
opened_torn cmp old new row index placed frame cut one carries t lies torn = record { index = index; placed = placed; placed_is = one.there; lies = lies; torn = torn_opened cmp old new placed frame cut carries t one.open_is torn }

-- a table that is torn was so before calls that only read
pub torn_before : {numbers : ℕ → Type 0} (cmp : Cmp) (old now : Seen) (row : List PlacedTable) (cut : Cut) → Carries cmp numbers old now → IsTrue now.facts.faithful → IsOneTorn cmp now row cut → IsOneTorn cmp old row cut
torn_before cmp old now row cut carries t one = record {
  index = one.index;
  placed = one.placed;
  placed_is = one.placed_is;
  lies = one.lies;
  torn = λ file has. one.torn file (still_has cmp old now one.placed.table.number file carries t has);
}

-- a cursor that was opened in one of them after other reads
pub one_opened : {numbers others : ℕ → Type 0} (cmp : Cmp) (old now new : Seen) (row : List PlacedTable) (index : ℕ) (placed opened : PlacedTable) (frame : Frame) → Carries cmp numbers old now → Carries cmp others now new → slice_get row index ≡ Some placed → opened ≡ placed
    → SaysOf cmp now new placed.table.number (λ file. IsOpenFrame cmp file frame) → IsOneOf cmp old new row index opened frame
one_opened cmp old now new row index placed opened frame first second there same says =
    subst (λ (its : PlacedTable). IsOneOf cmp old new row index its frame) (sym same)
    (record { there = there; open_is = λ t file has. says t file (still_has cmp old now placed.table.number file first (second.reads.faithful t) has) })

-- a block is none of one that was opened, at each cut that is the same for its list
pub entered_torn : {numbers : ℕ → Type 0} (cmp : Cmp) (old mid : Seen) (placed opened : PlacedTable) (frame : Frame) (here : Option (InBlock Placed)) (at : Listed) (its cut : Cut) → opened ≡ placed → Carries cmp numbers old mid → IsTrue mid.facts.faithful
    → SaysOf cmp old mid placed.table.number (λ file. IsOpenFrame cmp file frame) → ListsTable cmp mid opened frame here at → SameCut cmp at.entries its cut → TornTable cmp mid opened frame its → IsTornOne cmp old placed cut
entered_torn cmp old mid placed opened frame here at its cut same carries t says lists cuts torn =
    torn_opened cmp old mid placed frame cut carries t says (subst (λ (p : PlacedTable). TornTable cmp mid p frame cut) same (torn_same cmp mid opened frame here at lists its cut cuts torn))

-- one of them isn't read
pub refused_at : {numbers others : ℕ → Type 0} (cmp : Cmp) (e : DbError) (old now new : Seen) (row : List PlacedTable) (index : ℕ) (placed : PlacedTable) (a b : Type 0) → Carries cmp numbers old now → Carries cmp others now new → slice_get row index ≡ Some placed
    → (IsTrue now.facts.faithful → ((cut : Cut) → LiesIn cmp row index cut → IsTornOne cmp now placed cut → IsOneTorn cmp old row cut) → a → b) → Refuses e now.facts new.facts a (IsLimited cmp now new placed) → Refuses e old.facts new.facts b (IsOneLimited cmp old row)
refused_at cmp e old now new row index placed a b first second there f h =
    refused_later e old.facts now.facts new.facts a b (IsLimited cmp now new placed) (IsOneLimited cmp old row) first.reads second.reads
    (λ t x.
    f t (λ cut lies torn. record { index = index; placed = placed; placed_is = there; lies = lies; torn = λ file has. torn file (still_has cmp old now placed.table.number file first t has) }) x)
    (λ t limit. inr (limited_before cmp old now row first t (placed, member_at row index placed there, limit))) h
