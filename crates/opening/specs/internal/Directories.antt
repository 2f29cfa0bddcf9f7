-- What a directory is to an open.
use Rattle.std.specs.Prelude.{◌≡◌, ◌⊎◌, ℕ, List, []}
use Rattle.store.specs.Files.{Files}
use Rattle.ikey.specs.Orders.{Order}
use Rattle.ikey.specs.declared.entry.Entry.{Entry}
use Rattle.recover.specs.Directory.{Directory, IsConsistent, IsEmpty, EndsAt, used_in}
use Rattle.recover.specs.Logs.{logged}
use Rattle.recover.specs.Tables.{TableContent}

-- The files are a directory that is empty or consistent, with these tables, these entries in its
-- logs, and these used sequence numbers.
abbrev pub IsDirectoryOf : Order → Files → List TableContent → List Entry → ℕ → Type 0
IsDirectoryOf order files tables entries used =
    (IsEmpty files × (tables ≡ []) × (entries ≡ []) × (used ≡ 0))
    ⊎ ((d : Directory) × IsConsistent order files d × (tables ≡ d.tables) × (entries ≡ logged d.logs) × (used ≡ used_in d))

-- They are a consistent one, and a record can be put after the log of this number, which ends at
-- this position.
pub record CanAppend (order : Order) (files : Files) (log position : ℕ) (tables : List TableContent) (entries : List Entry) (used : ℕ) : Type 0 where
  pub directory : Directory
  pub consistent : IsConsistent order files directory
  pub ends : EndsAt files directory log position
  pub in_tables : tables ≡ directory.tables
  pub in_logs : entries ≡ logged directory.logs
  pub spent : used ≡ used_in directory
