-- What the answer to an open tells of the directory that it found.
use Rattle.std.specs.Prelude.{◌≡◌, ◌⊎◌, true, [], Result, Ok, Err}
use Rattle.std.specs.FinMap.{contains_key}
use Rattle.coding.specs.declared.error.DbError.{DbError}
use Rattle.coding.specs.declared.error.DbError.TheVariants as error
use Rattle.store.specs.Files.{Files}
use Rattle.ikey.specs.Orders.{Order}
use Rattle.edits.specs.Names.{name_of}
use Rattle.edits.specs.declared.names.FileName.TheVariants.{Current}
use Rattle.recover.specs.Directory.{Directory, IsConsistent, IsEmpty}
use Rattle.recover.specs.Reading.{Recovers, IsBeyondReading}
use Rattle.recover.specs.declared.reading.Recovered.{Recovered}

-- It is empty, or its MANIFEST and its logs are whole, and so are the names, sizes and keys of its
-- tables, which aren't read. Without tables it is consistent.
abbrev pub IsOpenable : Order → Files → Type 0
IsOpenable order files = IsEmpty files
    ⊎ ((recovered : Recovered) × Recovers order files recovered × (recovered.layout.tables.items ≡ [] → (d : Directory) × IsConsistent order files d))

-- Damage is neither an empty directory nor a consistent one. What isn't supported is a MANIFEST
-- that is there and says so. There is no database where the directory is empty, and one where
-- `CURRENT` is there.
abbrev pub RefusalTells : Order → Files → DbError → Type 0
RefusalTells order files (error.Corrupt file what) = (IsEmpty files → ⊥) × ((d : Directory) → IsConsistent order files d → ⊥)
RefusalTells order files (error.Unsupported what) = IsBeyondReading order files
RefusalTells order files error.NoDatabase = IsEmpty files
RefusalTells order files error.Exists = contains_key files (name_of Current) ≡ true
RefusalTells order files _ = Unit {0}

abbrev pub Tells : {T : Type 0} → Order → Files → Result T DbError → Type 0
Tells order files (Ok x) = IsOpenable order files
Tells order files (Err e) = RefusalTells order files e
