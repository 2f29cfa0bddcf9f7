-- What an edit after the MANIFEST does to the directory (LevelDB's db/version_set.cc,
-- VersionSet::LogAndApply).
use Rattle.std.specs.Prelude.{◌≡◌, ◌⊎◌, ◌<◌, ◌≤◌, ℕ, List, [], ◌∷◌, ◌++◌, IsTrue, Result, Err, IfOk, OnOk, OnErr}
use Rattle.std.specs.List.{AllByRecursion}
use Rattle.std.specs.FinMap.{get}
use Rattle.coding.specs.declared.error.DbError.{DbError}
use Rattle.coding.specs.declared.error.DbError.TheVariants.{OutOfMemory, Io}
use Rattle.ikey.specs.Orders.{Order}
use Rattle.store.specs.Files.{Files, Facts}
use Rattle.edits.specs.Layout.{IsLayout}
use Rattle.edits.specs.Names.{name_of}
use Rattle.edits.specs.declared.field.Field.{Field}
use Rattle.edits.specs.declared.layout.Layout.{Layout}
use Rattle.edits.specs.declared.names.FileName.TheVariants.{Manifest}
use Rattle.table.specs.Writing.{KeepsOthers, SyncsOnly}
use Rattle.recover.specs.Directory.{HasManifest}
use Rattle.recover.specs.internal.Changes.{ManifestEndsAt}
use Rattle.recover.specs.Numbers.{NamesBelow, IsFree}

-- The file of this name is the current MANIFEST, and ends at this position after these edits. With
-- one more they leave the layout `next`.
pub record CanAddEdit (order : Order) (files : Files) (number : ℕ) (name : List ℕ) (end : ℕ) (edits : List (List Field)) (layout : Layout) (edit : List Field) (next : Layout) : Type 0 where
  pub named : name ≡ name_of (Manifest number)
  pub ends : ManifestEndsAt order files number end edits layout
  pub folded : IsLayout order.name (edits ++ edit ∷ []) next

-- the edit names no file from this number on, and the layout records none
pub record IsRecordedBelow (n : ℕ) (edit : List Field) (next : Layout) : Type 0 where
  pub next_file_number : next.next_file_number ≤ n
  pub log_number : next.log_number < n
  pub previous_log_number : next.previous_log_number < n
  pub named : AllByRecursion (NamesBelow n) edit

-- The edit is put after the MANIFEST of this name, which ends at `end`; or, if the store fails, it
-- is there or not for whoever reads it next. Nothing else changes, and out of memory nothing at
-- all. Numbers above those that it records stay free.
pub record AppendsEdit (order : Order) (old new : Facts) (number : ℕ) (name : List ℕ) (end : ℕ) (edit : List Field) (result : Result ℕ DbError) : Type 0 where
  pub ok : IsTrue new.faithful → IfOk result (λ after. (edits : List (List Field)) (layout next : Layout) → CanAddEdit order old.files number name end edits layout edit next
      → ManifestEndsAt order new.files number after (edits ++ edit ∷ []) next)
  pub device : IsTrue new.faithful → result ≡ Err Io → (edits : List (List Field)) (layout next : Layout) → CanAddEdit order old.files number name end edits layout edit next
      → HasManifest order new.files number edits layout ⊎ HasManifest order new.files number (edits ++ edit ∷ []) next
  pub memory : IsTrue new.faithful → result ≡ Err OutOfMemory → new.files ≡ old.files
  pub others : IsTrue new.faithful → KeepsOthers old.files new.files name
  pub free : IsTrue new.faithful → (edits : List (List Field)) (layout next : Layout) → CanAddEdit order old.files number name end edits layout edit next
      → (n : ℕ) → IsFree order old.files n → IsRecordedBelow n edit next → IsFree order new.files n

-- Where it is put there, the disk keeps the whole MANIFEST. Of no other file does it keep more or
-- less than before.
pub record SyncsEdit (old new : Facts) (name : List ℕ) (result : Result ℕ DbError) : Type 0 where
  pub ok : IsTrue new.faithful → OnOk result (new.synced name ≡ get new.files name)
  pub err : IsTrue new.faithful → OnErr result (new.synced ≡ old.synced)
  pub others : IsTrue new.faithful → SyncsOnly old.synced new.synced name
