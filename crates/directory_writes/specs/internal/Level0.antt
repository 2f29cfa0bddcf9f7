-- A memtable as a table file of level 0 (LevelDB's db/builder.cc, BuildTable).
use Rattle.std.specs.Prelude.{◌≡◌, ◌<◌, ◌^◌, ℕ, IsTrue, List, map}
use Rattle.compact.specs.Rooms.{AreLarge}
use Rattle.edits.specs.declared.field.TableFile.{TableFile}
use Rattle.ikey.specs.declared.entry.Entry.{Entry}
use Rattle.ikey.specs.Entries.{Pair, value_kept}
use Rattle.ikey.specs.Orders.{Order}
use Rattle.ikey.specs.Sources.{SameEntries}
use Rattle.ikey.specs.Views.{Among}
use Rattle.memtable.specs.Order.{Placed}
use Rattle.recover.specs.Report.{IsLongTable, HasBytes}
use Rattle.recover.specs.Tables.{TableContent, HasTable, internal_key}
use Rattle.store.specs.Files.{Files, Facts}

-- each sequence number fits seven bytes
abbrev pub HaveSequences : List Entry → Type 0
HaveSequences entries = (entry : Entry) → Among entries entry → entry.sequence < 2 ^ 56

-- the key and the value of an entry, as a table file has them
abbrev pub pair_of : Entry → Pair
pair_of entry = record { key = internal_key entry; value = value_kept entry.value }

-- those of entries in order
abbrev pub pairs_of : List Placed → List Pair
pairs_of placed = map (λ (one : Placed). pair_of one.entry) placed

-- Over a faithful store a block of a table of these entries is too long to be read only where they
-- need so much room.
abbrev pub IsTooLarge : Facts → List Entry → Type 0
IsTooLarge facts entries = IsTrue facts.faithful → AreLarge entries

-- The files have the table of this number at level 0 with these entries, and it is what an edit may
-- say of it. No block of it is too long to be read.
pub record IsLevel0 (order : Order) (files : Files) (number : ℕ) (entries : List Entry) (table : TableFile) : Type 0 where
  pub content : TableContent
  pub placed : content.placed ≡ record { level = 0; table = table }
  pub number_is : table.number ≡ number
  pub same : SameEntries content.entries entries
  pub has : HasTable order files content
  pub short : HasBytes (IsLongTable order) files content → ⊥
