-- What the steps of a job leave of a directory (LevelDB's db/db_impl.cc, DoCompactionWork).
use Rattle.std.specs.Prelude.{◌≡◌, ◌<◌, ◌≤◌, ◌^◌, ℕ, List, IsTrue, false}
use Rattle.ikey.specs.Orders.{Order}
use Rattle.store.specs.Files.{Files, Facts}
use Rattle.edits.specs.Layout.{is_used}
use Rattle.edits.specs.Names.{IsNumbered}
use Rattle.edits.specs.declared.field.Field.{Field}
use Rattle.edits.specs.declared.layout.Layout.{Layout}
use Rattle.recover.specs.Tables.{table_at}
use Rattle.recover.specs.Directory.{Directory, IsConsistent, EndsAt}
use Rattle.recover.specs.internal.Changes.{ManifestEndsAt}
use Rattle.recover.specs.Numbers.{IsFree}
use Rattle.compact.specs.Outputs.{TablesWritten, AreNumbered, IsMineUpTo, WritesTables}
use Rattle.directory_writes.specs.Replacing.{OwnsNone}

-- A directory of these parts stays one, and its MANIFEST and its last log end where they did.
-- Tables of other numbers are as they were, and no number from `more` on is taken.
pub record KeepsOtherTables (order : Order) (old new : Files) (mine : ℕ → Type 0) (more : ℕ) (d : Directory) : Type 0 where
  pub consistent : IsConsistent order new d
  pub log : (number position : ℕ) → EndsAt old d number position → EndsAt new d number position
  pub manifest : (position : ℕ) (edits : List (List Field)) (layout : Layout) → ManifestEndsAt order old d.manifest position edits layout → ManifestEndsAt order new d.manifest position edits layout
  pub tables : (number : ℕ) → IsNumbered number → (mine number → ⊥) → table_at new number ≡ table_at old number
  pub free : IsFree order new more

-- That is what a job leaves that writes the table at hand, and tables of numbers that it draws.
abbrev pub JobWritesLaw : Type 0
JobWritesLaw = (order : Order) (old new : Facts) (w : TablesWritten) (next more : ℕ) (d : Directory)
    → IsTrue new.faithful → WritesTables old new (IsMineUpTo w next more) → next ≤ more → more < 2 ^ 64
    → IsConsistent order old.files d → IsFree order old.files next → AreNumbered w next → OwnsNone w d.layout.tables.items
    → KeepsOtherTables order old.files new.files (IsMineUpTo w next more) more d

-- A number that is free is that of no table.
abbrev pub FreeNumberLaw : Type 0
FreeNumberLaw = (order : Order) (files : Files) (d : Directory) (next number : ℕ) → IsConsistent order files d → IsFree order files next → next ≤ number
    → is_used number d.layout.tables.items ≡ false
