-- What the calls that change a directory make of each that differs from it in tables alone.
use Rattle.std.specs.Prelude.{◌≡◌, ◌≤◌, ◌⊎◌, ℕ, List, IsTrue, Result}
use Rattle.std.specs.FinMap.{get}
use Rattle.std.specs.List.{AllByRecursion}
use Rattle.coding.specs.declared.error.DbError.{DbError}
use Rattle.ikey.specs.Orders.{Order}
use Rattle.edits.specs.declared.field.Field.{Field}
use Rattle.edits.specs.declared.field.TableFile.{TableFile}
use Rattle.store.specs.Files.{Files, Facts, Appends, AppendsBeginning}
use Rattle.store.specs.Losses.{StaysNamed}
use Rattle.table.specs.Writing.{Writes}
use Rattle.compact.specs.Outputs.{TablesWritten, IsMineUpTo, IsOwn, WritesTables, table_name}
use Rattle.edits.specs.Names.{name_of, IsFileName}
use Rattle.edits.specs.declared.names.FileName.{FileName}
use Rattle.recover.specs.Numbers.{IsFree, number_of}
use Rattle.directory_writes.specs.Differing.{DiffersInTables, IsSameChange, OfEach, with_files}
use Rattle.directory_writes.specs.internal.Manifest.{AppendsEdit}

-- Each change can be done to each such directory, and what it leaves differs in tables alone again.
abbrev pub SameChangeLaw : Type 0
SameChangeLaw = (old new whole : Files) → DiffersInTables old whole → (after : Files) × IsSameChange old new whole after × DiffersInTables new after

-- What the same change leaves differs in tables alone too; where both had the same file before,
-- they have the same one then.
abbrev pub SameFileLaw : Type 0
SameFileLaw = (old new whole after : Files) → DiffersInTables old whole → IsSameChange old new whole after
    → DiffersInTables new after × ((name : List ℕ) → get whole name ≡ get old name → get after name ≡ get new name)

-- Each file stayed in both, or is the new one there too. So what holds of the two directories file
-- by file, as of what of a damaged table is whole, holds of them still.
abbrev pub EachFileLaw : Type 0
EachFileLaw = (old new whole after : Files) → IsSameChange old new whole after
    → (name : List ℕ) → ((get new name ≡ get old name) × (get after name ≡ get whole name)) ⊎ (get after name ≡ get new name)

-- A directory differs in nothing from itself, and a change is the same as itself; one thing is left
-- by it.
abbrev pub OneChangeLaw : Type 0
OneChangeLaw = (old new : Files) → DiffersInTables old old × IsSameChange old new old new
    × ((whole after other : Files) → IsSameChange old new whole after → IsSameChange old new whole other → after ≡ other)

-- Bytes after a file that is the same in both stand after it in both.
abbrev pub AppendsEachLaw : Type 0
AppendsEachLaw = (old new : Files) (name bytes : List ℕ)
    → (Appends old new name bytes → OfEach (λ whole after. get whole name ≡ get old name → Appends whole after name bytes) old new)
    × (AppendsBeginning old new name bytes → OfEach (λ whole after. get whole name ≡ get old name → AppendsBeginning whole after name bytes) old new)

-- A call that writes one file writes that one.
abbrev pub WritesEachLaw : Type 0
WritesEachLaw = (old new : Facts) (name : List ℕ) → IsTrue new.faithful → Writes old new name
    → OfEach (λ whole after. Writes (with_files old whole) (with_files new after) name) old.files new.files

-- One that writes tables of such numbers writes those.
abbrev pub WritesTablesEachLaw : Type 0
WritesTablesEachLaw = (old new : Facts) (w : TablesWritten) (next more : ℕ) → IsTrue new.faithful → WritesTables old new (IsMineUpTo w next more)
    → OfEach (λ whole after. WritesTables (with_files old whole) (with_files new after) (IsMineUpTo w next more)) old.files new.files

-- An edit that is put after the MANIFEST, or in doubt there, is so there too.
abbrev pub AppendsEditEachLaw : Type 0
AppendsEditEachLaw = (order : Order) (old new : Facts) (number : ℕ) (name : List ℕ) (end : ℕ) (edit : List Field) (result : Result ℕ DbError)
    → IsTrue new.faithful → AppendsEdit order old new number name end edit result
    → OfEach (λ whole after. AppendsEdit order (with_files old whole) (with_files new after) number name end edit result) old.files new.files

-- A name whose number is free is missing in both.
abbrev pub FreeFileLaw : Type 0
FreeFileLaw = (order : Order) (files whole : Files) (next : ℕ) (file : FileName) → DiffersInTables files whole → IsFree order whole next → IsFileName file → next ≤ number_of file
    → get whole (name_of file) ≡ get files (name_of file)

-- What is free in the one is so in the other.
abbrev pub FreeEachLaw : Type 0
FreeEachLaw = (order : Order) (files whole : Files) (next : ℕ) → DiffersInTables files whole → (IsFree order files next → IsFree order whole next) × (IsFree order whole next → IsFree order files next)

-- the tables that a job has written, ended or at hand, have the same files in both
abbrev pub HasSameOutputs : TablesWritten → Files → Files → Type 0
HasSameOutputs w files whole = (number : ℕ) → IsOwn w number → get whole (table_name number) ≡ get files (table_name number)

-- since the last sync those that were ended have stayed under their names
abbrev pub HaveStayed : TablesWritten → Facts → Type 0
HaveStayed w facts = AllByRecursion (λ (table : TableFile). StaysNamed facts (table_name table.number)) w.closed
