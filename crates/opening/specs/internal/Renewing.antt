-- What an open does to the store, one call after the other: each step after the one before it,
-- where that was done, or the calls ended there.
use Rattle.std.specs.Prelude.{◌≡◌, ◌⊎◌, ◌+◌, ℕ, false, List, [], Some, string_bytes}
use Rattle.std.specs.FinMap.{get, contains_key}
use Rattle.store.specs.Calls.{Adds, Idles}
use Rattle.store.specs.Files.{Creation, Facts, Move, Sync, renamed, with_synced}
use Rattle.store.specs.Losses.{behind_sync}
use Rattle.store.specs.Stops.{WritesOnly}
use Rattle.edits.specs.Names.{name_of}
use Rattle.edits.specs.declared.names.FileName.TheVariants.{Current}
use Rattle.ikey.specs.Orders.{Order}
use Rattle.opening.specs.declared.directory.CurrentLog.{CurrentLog}
use Rattle.opening.specs.declared.directory.DirectoryState.{DirectoryState}
use Rattle.opening.specs.declared.finding.Found.{Found}
use Rattle.opening.specs.declared.rewriting.Rewrite.{Rewrite}
use Rattle.opening.specs.internal.Opening.{Finds, IsRewrite, IsUsable}

-- the file of this name alone was written
abbrev pub OnlyIt : Facts → Facts → List ℕ → Type 0
OnlyIt old new name = WritesOnly old new (λ (q : List ℕ). q ≡ name)

-- A file was written anew, and is durable.
pub record IsWritten (old new : Facts) (name bytes : List ℕ) : Type 0 where
  pub only : OnlyIt old new name
  pub there : get new.files name ≡ Some bytes
  pub kept : new.synced name ≡ Some bytes
  pub ends : behind_sync [] new.calls ≡ []

-- ---- `CURRENT`

-- the temporary file has taken its name
abbrev pub IsRenamed : Facts → Facts → List ℕ → Type 0
IsRenamed old new temporary = Adds old new (Move temporary (name_of Current)) × (new.synced ≡ renamed old.synced temporary (name_of Current))

-- and that was synced
abbrev pub IsCurrentSynced : Facts → Facts → Type 0
IsCurrentSynced old new = Adds old new (Sync (name_of Current)) × (new.synced ≡ with_synced old.synced (name_of Current) (get old.files (name_of Current)))

-- all of that
abbrev pub SetsWhole : Facts → Facts → List ℕ → List ℕ → Type 0
SetsWhole old new temporary bytes = (mid : Facts) × (third : Facts) × IsWritten old mid temporary bytes × IsRenamed mid third temporary × IsCurrentSynced third new

-- It is synced, and then this is so; or that failed.
abbrev pub SyncsThen : Facts → Facts → (Facts → Type 0) → Type 0
SyncsThen old new next = Idles old new ⊎ ((last : Facts) × IsCurrentSynced old last × next last)

abbrev pub RenamesThen : Facts → Facts → List ℕ → (Facts → Type 0) → Type 0
RenamesThen old new temporary next = Idles old new ⊎ ((third : Facts) × IsRenamed old third temporary × SyncsThen third new next)

-- It gets these bytes by way of a temporary file, and then this is so; or the calls ended before.
pub record SetsThen (old new : Facts) (temporary bytes : List ℕ) (next : Facts → Type 0) : Type 0 where
  pub mid : Facts
  pub only : OnlyIt old mid temporary
  pub goes : Idles mid new ⊎ (IsWritten old mid temporary bytes × RenamesThen mid new temporary next)

-- ---- all that is written

-- A file was made anew, and then it alone was written; or nothing was done.
abbrev pub StartsNew : Facts → Facts → List ℕ → Type 0
StartsNew old new name = Idles old new ⊎ ((made : Facts) × Adds old made (Creation name) × OnlyIt made new name)

-- A file was made, or nothing was done.
abbrev pub Makes : Facts → Facts → List ℕ → Type 0
Makes old new name = OnlyIt old new name × (Idles old new ⊎ Adds old new (Creation name))

-- A new MANIFEST was written, made first where there was none of its name, then `CURRENT` was set,
-- and then a log was made; or the calls ended before.
pub record Renews (old new : Facts) (manifest content temporary current log : List ℕ) : Type 0 where
  pub mid : Facts
  pub only : OnlyIt old mid manifest
  pub starts : contains_key old.files manifest ≡ false → StartsNew old mid manifest
  pub goes : Idles mid new ⊎ (IsWritten old mid manifest content × SetsThen mid new temporary current (λ last. Makes last new log))

-- All of it was done.
abbrev pub RenewsAll : Facts → Facts → List ℕ → List ℕ → List ℕ → List ℕ → List ℕ → Type 0
RenewsAll old new manifest content temporary current log =
    (mid : Facts) × (last : Facts) × IsWritten old mid manifest content × SetsWhole mid last temporary current × OnlyIt last new log × Adds last new (Creation log)

-- So an open does with what it has found and means to write; or it writes nothing.
pub record RenewsFound (order : Order) (old new : Facts) : Type 0 where
  pub found : Found
  pub rewrite : Rewrite
  pub usable : IsUsable order found
  pub finds : Finds order old.files found
  pub planned : IsRewrite order found rewrite
  pub renews : Renews old new (string_bytes rewrite.manifest_name) rewrite.manifest.items (string_bytes rewrite.temporary_name) rewrite.current.items (string_bytes rewrite.log_name)

abbrev pub RenewsBy : Order → Facts → Facts → Type 0
RenewsBy order old new = Idles old new ⊎ RenewsFound order old new

-- One that succeeds does all of it, and has the numbers of what it wrote.
pub record RenewsWhole (order : Order) (old new : Facts) (log : CurrentLog) (state : DirectoryState) : Type 0 where
  pub found : Found
  pub rewrite : Rewrite
  pub usable : IsUsable order found
  pub finds : Finds order old.files found
  pub planned : IsRewrite order found rewrite
  pub renews : RenewsAll old new (string_bytes rewrite.manifest_name) rewrite.manifest.items (string_bytes rewrite.temporary_name) rewrite.current.items (string_bytes rewrite.log_name)
  pub log_number : log.number ≡ found.number + 1
  pub manifest_number : state.manifest.number ≡ found.number
