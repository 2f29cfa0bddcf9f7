-- What calls on a folder promise: opening it, checking and mending it.
use Rattle.std.specs.Prelude.{◌≡◌, ◌⊎◌, ℕ, ℤ, pos, false, Option, Some, None, []}
use Rattle.std.specs.FinMap.{empty}
use Rattle.coding.specs.declared.error.DbError.{DbError}
use Rattle.coding.specs.declared.error.DbError.TheVariants as error
use Rattle.engine.specs.OptionValues.{OptionValues}
use Rattle.machine.specs.declared.command.Mode.{Mode}
use Rattle.store.specs.Files.{Facts}
use Rattle.store.specs.declared.file_store.FileStore.{FileStore}
use Rattle.c_calls.specs.Calls.{bytewise}
use Rattle.c_calls.specs.Folders.{Begins, BeginsNot, IsMode}
use Rattle.c_calls.specs.Told.{number}
use Rattle.c_calls.specs.declared.handle.Handle.{Handle}
use Rattle.wachuspi.specs.Handles.{folder_facts}
use Rattle.wachuspi.specs.declared.crossing.COptions.{COptions}
use Rattle.wachuspi.specs.declared.held.Held.{Held}

-- of a folder of which nothing was read yet
abbrev pub unread : Facts
unread = record {
  files = empty;
  synced = λ name. None;
  calls = [];
  faithful = false;
  locked = false;
  failures = 0;
  write_failures = 0;
  denials = 0;
}

-- The path isn't UTF-8, nothing is there, it is no folder that can be opened, or memory ran out.
abbrev pub IsFolderCode : ℤ → Type 0
IsFolderCode code = (code ≡ pos 64) ⊎ ((code ≡ number error.NoDatabase) ⊎ ((code ≡ number error.Io) ⊎ (code ≡
    number error.OutOfMemory)))

-- The folder wasn't opened, or the call keeps its promise over its files.
abbrev pub FolderTold : (Facts → Facts → ℤ → Type 0) → ℤ → Type 0
FolderTold promise code = IsFolderCode code
    ⊎ ((old new : FileStore) × (folder_facts old ≡ unread) × promise (folder_facts old) (folder_facts new) code)

-- the options that C names
abbrev pub options_in : COptions → OptionValues
options_in options = record {
  write_buffer = options.write_buffer;
  block_bytes = options.block_bytes;
  file_bytes = options.file_bytes;
  level0_files = options.level0_files;
  base_bytes = options.base_bytes;
  cache_blocks = options.cache_blocks;
}

-- 0 and this handle, or out of memory and none
abbrev pub KeptTold : Handle FileStore → Option Held → ℤ → Type 0
KeptTold handle (Some held) code = (code ≡ pos 0) × (held.handle ≡ handle)
KeptTold handle None code = code ≡ number error.OutOfMemory

-- An open that was refused, or for which there was no memory.
abbrev pub IsRefusedOpen : Mode → ℤ → Type 0
IsRefusedOpen mode code = (code ≡ number error.OutOfMemory)
    ⊎ ((store left : FileStore) × (e : DbError) × (folder_facts store ≡ unread)
    × BeginsNot bytewise folder_facts mode store left e × (code ≡ number e))

-- What `Db::open` promises of the files of a folder, of which nothing was read before.
abbrev pub StoreTold : Mode → OptionValues → Option Held → ℤ → Type 0
StoreTold mode options (Some held) code = (code ≡ pos 0) × (held.handle.iterators.items ≡ [])
    × (store : FileStore) × (folder_facts store ≡ unread)
    × Begins bytewise folder_facts mode options store held.handle.db
StoreTold mode options None code = IsRefusedOpen mode code

-- A handle that is open stays as it is. Another one is open after 0, and else stays closed: a mode
-- or an option was out of range, the folder wasn't opened, or the open was refused.
abbrev pub OpenTold : ℕ → COptions → Option Held → Option Held → ℤ → Type 0
OpenTold mode options (Some old) new code = (new ≡ Some old) × (code ≡ pos 64)
OpenTold mode options None (Some new) code =
    (how : Mode) × IsMode mode (Some how) × StoreTold how (options_in options) (Some new) code
OpenTold mode options None None code = IsFolderCode code
    ⊎ ((how : Mode) × IsMode mode (Some how) × IsRefusedOpen how code)
