-- What the steps of checking a directory hand to one another.
use Rattle.std.specs.Prelude.{◌≡◌, ◌<◌, ◌≤◌, ℕ, List, [], ◌∷◌, Option, Some, None}
use Rattle.std.specs.List.{AllByRecursion}
use Rattle.block.specs.Written.{last_key}
use Rattle.ikey.specs.Orders.{Order}
use Rattle.ikey.specs.declared.entry.Entry.{Entry}
use Rattle.store.specs.Files.{Files}
use Rattle.edits.specs.declared.field.PlacedTable.{PlacedTable}
use Rattle.edits.specs.declared.field.TableFile.{TableFile}
use Rattle.ikey.specs.Entries.{Pair}
use Rattle.ikey.specs.Views.{Among}
use Rattle.ikey.specs.Sources.{ComesBefore}
use Rattle.recover.specs.Tables.{TableContent, HasTable, InTables, AreTwoTables}
use Rattle.recover.specs.Report.{HasBytes, AnyHasBytes}

-- ---- entries

-- the entry comes before the first of these, if there is one
abbrev pub StartsBefore : Order → Entry → List Entry → Type 0
StartsBefore order entry [] = Unit {0}
StartsBefore order entry (first ∷ rest) = ComesBefore order entry first

-- the entry is newer than those of its key
abbrev pub IsNewerThanAll : Entry → List Entry → Type 0
IsNewerThanAll entry others = (other : Entry) → Among others other → entry.key ≡ other.key → other.sequence < entry.sequence

-- and so is each of these
abbrev pub AreNewerThan : List Entry → List Entry → Type 0
AreNewerThan entries others = AllByRecursion (λ entry. IsNewerThanAll entry others) entries

-- ---- tables

abbrev pub first_key : List Pair → Option (List ℕ)
first_key [] = None
first_key (pair ∷ pairs) = Some pair.key

-- the first and the last pair have the keys of the edit
abbrev pub IsSpanned : TableFile → List Pair → Type 0
IsSpanned table pairs = (first_key pairs ≡ Some table.smallest) × (last_key pairs ≡ Some table.largest)

abbrev pub content_of : PlacedTable → List Entry → TableContent
content_of placed entries = record { placed = placed; entries = entries }

-- the same of no bytes
abbrev pub Never : List ℕ → Type 0
Never bytes = ⊥

-- whatever entries it has, its file has bytes of which this is so
abbrev pub IsOnly : (List ℕ → Type 0) → Order → Files → PlacedTable → Type 0
IsOnly is order files placed = (entries : List Entry) → HasTable order files (content_of placed entries) → HasBytes is files (content_of placed entries)

-- the table's entries are older than those logged of their keys, and their sequence numbers are
-- recorded
pub record IsOlder (logged : List Entry) (recorded : ℕ) (content : TableContent) : Type 0 where
  pub newer : AreNewerThan logged content.entries
  pub sequences : AllByRecursion (λ (entry : Entry). entry.sequence ≤ recorded) content.entries

-- The tables have these contents, older than what is logged, and each two may stand as they do.
abbrev pub AreGood : Order → Files → List Entry → ℕ → List PlacedTable → List TableContent → Type 0
AreGood order files logged recorded [] [] = Unit {0}
AreGood order files logged recorded (placed ∷ tables) (content ∷ contents) =
    (content.placed ≡ placed) × HasTable order files content × IsOlder logged recorded content
    × ((other : TableContent) → InTables contents other → AreTwoTables order content other) × AreGood order files logged recorded tables contents
AreGood order files logged recorded tables contents = ⊥

-- whatever contents they have, one of their files has such bytes
abbrev pub AreOnly : (List ℕ → Type 0) → Order → Files → List Entry → ℕ → List PlacedTable → Type 0
AreOnly is order files logged recorded tables = (contents : List TableContent) → AreGood order files logged recorded tables contents → AnyHasBytes is files contents
