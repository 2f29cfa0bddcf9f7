-- What a new log does to the directory (LevelDB's db/db_impl.cc, DBImpl::MakeRoomForWrite).
use Rattle.std.specs.Prelude.{◌≡◌, ◌⊎◌, ◌<◌, ◌≤◌, ◌+◌, ◌^◌, ℕ, List, IsTrue, Result, MatchResult, OnOk, OnErr, string_bytes, String}
use Rattle.std.specs.declared.alloc.Global.{Global}
use Rattle.coding.specs.declared.error.DbError.{DbError}
use Rattle.coding.specs.declared.error.DbError.TheVariants.{OutOfMemory, Io, NumbersSpent}
use Rattle.ikey.specs.Orders.{Order}
use Rattle.store.specs.Files.{Files, Facts}
use Rattle.edits.specs.Names.{name_of}
use Rattle.edits.specs.declared.field.Field.{Field}
use Rattle.edits.specs.declared.layout.Layout.{Layout}
use Rattle.edits.specs.declared.names.FileName.TheVariants.{Log}
use Rattle.table.specs.Writing.{KeepsOthers}
use Rattle.recover.specs.Logs.{logged}
use Rattle.recover.specs.Directory.{Directory, IsConsistent, EndsAt}
use Rattle.recover.specs.internal.Changes.{ManifestEndsAt, with_log}
use Rattle.recover.specs.Numbers.{IsFree}

-- The log has the number that is next, and its name. However it ends, at most that number is drawn,
-- or nothing was done.
abbrev pub DrawsLog : Facts → Facts → ℕ → ℕ → Result (ℕ × String Global) DbError → Type 0
DrawsLog old new next after result =
    MatchResult result (λ log. (log.0 ≡ next) × (string_bytes log.1 ≡ name_of (Log next)) × (after ≡ next + 1) × (next < 2 ^ 62))
    (λ e. ((after ≡ next) × (new ≡ old)) ⊎ ((after ≡ next + 1) × (next < 2 ^ 62)))

-- Why there is no new log. Without memory or a number the files are as before.
abbrev pub RefusesLog : DbError → Facts → Facts → ℕ → ℕ → Type 0
RefusesLog OutOfMemory old new next after = IsTrue new.faithful → (new.files ≡ old.files) × (new.synced ≡ old.synced)
RefusesLog Io old new next after = old.failures < new.failures
RefusesLog NumbersSpent old new next after = (2 ^ 62 ≤ next) × (after ≡ next) × (new ≡ old)
RefusesLog e old new next after = ⊥

-- The same directory with an empty log of this number after the others, where a record can be put.
pub record HasNewLog (order : Order) (files : Files) (d : Directory) (number : ℕ) : Type 0 where
  pub consistent : IsConsistent order files (with_log d number)
  pub ends : EndsAt files (with_log d number) number 0
  pub entries : logged (with_log d number).logs ≡ logged d.logs

-- It is the same directory, or has an empty log of this number after the others.
abbrev pub MayHaveLog : Order → Files → ℕ → Files → Type 0
MayHaveLog order old number new = (d : Directory) → IsConsistent order old d → IsFree order old number → IsConsistent order new d ⊎ HasNewLog order new d number

-- An empty log of this number is there; or, if the store fails, perhaps. The MANIFEST stays, and no
-- number from `after` on is taken.
pub record BeginsLog {T : Type 0} (order : Order) (old new : Facts) (number after : ℕ) (result : Result T DbError) : Type 0 where
  pub ok : IsTrue new.faithful → OnOk result ((d : Directory) → IsConsistent order old.files d → IsFree order old.files number → HasNewLog order new.files d number)
  pub err : IsTrue new.faithful → OnErr result ((d : Directory) → IsConsistent order old.files d → IsFree order old.files number → IsConsistent order new.files d ⊎ HasNewLog order new.files d number)
  pub manifest : IsTrue new.faithful → (current end : ℕ) (edits : List (List Field)) (layout : Layout) → ManifestEndsAt order old.files current end edits layout → ManifestEndsAt order new.files current end edits layout
  pub others : IsTrue new.faithful → KeepsOthers old.files new.files (name_of (Log number))
  pub free : IsTrue new.faithful → IsFree order old.files number → IsFree order new.files after
