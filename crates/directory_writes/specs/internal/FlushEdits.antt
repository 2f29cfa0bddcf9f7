-- The edit of a flush (LevelDB's db/db_impl.cc, DBImpl::CompactMemTable).
use Rattle.std.specs.Prelude.{◌≡◌, ◌==◌, ℕ, List, [], ◌∷◌, if◌then◌else◌}
use Rattle.edits.specs.declared.field.Field.{Field}
use Rattle.edits.specs.declared.field.Field.TheVariants.{LogNumber, NextFileNumber, LastSequence, NewFile, PreviousLogNumber}
use Rattle.edits.specs.declared.field.TableFile.{TableFile}
use Rattle.edits.specs.declared.layout.Layout.{Layout}
use Rattle.edits.specs.Layout.{inserted}

-- a previous log is given up, if there is one
abbrev pub previous_gone : ℕ → List Field
previous_gone number = if number == 0 then [] else PreviousLogNumber 0 ∷ []

-- The fields of the edit: a new table at level 0, and these numbers.
abbrev pub flush_fields : ℕ → ℕ → ℕ → ℕ → TableFile → List Field
flush_fields log previous next_file last table =
    LogNumber log ∷ NextFileNumber next_file ∷ LastSequence last ∷ NewFile (record { level = 0; table = table }) ∷ previous_gone previous

-- What it leaves of a layout: the tables with the new one in its place, and these numbers.
pub record IsAfterFlush (log next_file last : ℕ) (table : TableFile) (old new : Layout) : Type 0 where
  pub log_number : new.log_number ≡ log
  pub previous_log_number : new.previous_log_number ≡ 0
  pub next_file_number : new.next_file_number ≡ next_file
  pub last_sequence : new.last_sequence ≡ last
  pub compact_pointers : new.compact_pointers.items ≡ old.compact_pointers.items
  pub tables : new.tables.items ≡ inserted (record { level = 0; table = table }) old.tables.items
