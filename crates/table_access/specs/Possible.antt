-- The lists of entries that a table may have, as far as its blocks tell.
use Rattle.std.specs.List.{AllByRecursion}
use Rattle.std.specs.Prelude.{◌≡◌, ◌<◌, ℕ, List, None, length, slice_get, Some}
use Rattle.block.specs.Block.{AreAbove}
use Rattle.cursor.specs.Places.{Cmp, Rises}
use Rattle.edits.specs.declared.field.PlacedTable.{PlacedTable}
use Rattle.ikey.specs.Below.{IsBelowInternal}
use Rattle.ikey.specs.Entries.{InternalEntry, Pair}
use Rattle.ikey.specs.Keys.{IsKey}
use Rattle.table_access.specs.Ends.{IsIntactIn}
use Rattle.table_access.specs.TablePlaces.{joined}
use Rattle.table.specs.Frame.{Frame, IsFrame}
use Rattle.table.specs.Table.{AreAdmitted, AreBounds, ArePairs}

-- With this frame the table may have these entries: the pairs of its data blocks joined, of each
-- block that is one its own, and of another one any. They rise strictly, each within the bounds of
-- its block and admitted by its filter.
pub record MayHave (cmp : Cmp) (placed : PlacedTable) (file : List ℕ) (frame : Frame) (entries : List InternalEntry) : Type 0 where
  pub groups : List (List Pair)
  pub same_length : length frame.places ≡ length groups
  pub each : (index : ℕ) (pairs others : List Pair) → slice_get groups index ≡ Some pairs → IsIntactIn cmp placed file frame.places index others → pairs ≡ others
  pub bounds : AreBounds cmp frame.places groups
  pub entries_are : ArePairs (joined groups) entries
  pub rises : AreAbove (IsBelowInternal cmp) None (joined groups)
  pub admitted : AreAdmitted frame.filter frame.places groups

-- each entry has an internal key that bytes may be
abbrev pub HaveKeys : List InternalEntry → Type 0
HaveKeys entries = AllByRecursion (λ (entry : InternalEntry). (bytes : List ℕ) × IsKey bytes entry.key) entries

-- The file may be the table of these entries, of which there is one at least, and which rise: those
-- of each frame that it has, and any where it has none.
pub record MayBeTable (cmp : Cmp) (placed : PlacedTable) (file : List ℕ) (entries : List InternalEntry) : Type 0 where
  pub some : 0 < length entries
  pub keyed : HaveKeys entries
  pub rises : Rises cmp entries
  pub filled : (frame : Frame) → IsFrame cmp file frame → MayHave cmp placed file frame entries
