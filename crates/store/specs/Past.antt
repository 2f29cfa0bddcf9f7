-- What a store in memory keeps of its calls, and what they found by it.
use Rattle.std.specs.Prelude.{◌≡◌, ℕ, List, [], ◌∷◌, ◌++◌, Option, Some, None, take, drop, reverse, string_bytes}
use Rattle.std.specs.FinMap.{get, insert, remove}
use Rattle.std.specs.Option.{option_map, option_and_then}
use Rattle.store.specs.Files.{Files, Disk, Call, Change, Creation, Addition, Sync, Move, Removal, LockFile, lock_name, with_synced}
use Rattle.store.specs.MemFile.{front_of, synced_bytes}
use Rattle.store.specs.declared.mem_file.MemFile.{MemFile}
use Rattle.store.specs.declared.past.Past.{Past}
use Rattle.store.specs.declared.past.Past.TheVariants.{Made, Grown, Kept, Moved, Taken, Locked}

-- the bytes of a file, and what of them is synced
abbrev pub bytes_of : Option MemFile → Option (List ℕ)
bytes_of file = option_map (λ (v : MemFile). v.bytes) file

abbrev pub synced_in : Option MemFile → Option (List ℕ)
synced_in file = option_and_then (λ (v : MemFile). synced_bytes v) file

-- the name held this file, or none
abbrev pub Holds : Disk → List ℕ → Option MemFile → Type 0
Holds disk name file = (get disk.files name ≡ bytes_of file) × (disk.synced name ≡ synced_in file)

-- the same files, but that this is what the file of one name has, if there is one
abbrev pub with_file : Files → List ℕ → Option (List ℕ) → Files
with_file files name None = remove files name
with_file files name (Some bytes) = insert files name bytes

-- what a call found, by what it left
abbrev pub undone : Past → Disk → Disk
undone (Made name held) now = record {
  files = with_file now.files (string_bytes name) (bytes_of held);
  synced = with_synced now.synced (string_bytes name) (synced_in held);
}
undone (Grown name length) now = record {
  files = with_file now.files (string_bytes name) (option_map (take length) (get now.files (string_bytes name)));
  synced = now.synced;
}
undone (Kept name count) now = record {
  files = now.files;
  synced = with_synced now.synced (string_bytes name) (option_and_then (λ bytes. front_of bytes count) (get now.files (string_bytes name)));
}
undone (Moved from to held) now = record {
  files = with_file (with_file now.files (string_bytes to) (bytes_of held)) (string_bytes from) (get now.files (string_bytes to));
  synced = with_synced (with_synced now.synced (string_bytes to) (synced_in held)) (string_bytes from) (now.synced (string_bytes to));
}
undone (Taken name file) now = record {
  files = with_file now.files (string_bytes name) (Some file.bytes);
  synced = with_synced now.synced (string_bytes name) (synced_bytes file);
}
undone Locked now = record { files = with_file now.files lock_name None; synced = now.synced }

-- all bytes from an offset on, of a file that is there
abbrev pub rest_of : ℕ → Option (List ℕ) → List ℕ
rest_of length None = []
rest_of length (Some bytes) = drop length bytes

-- what it did
abbrev pub change_of : Past → Disk → Change
change_of (Made name held) now = Creation (string_bytes name)
change_of (Grown name length) now = Addition (string_bytes name) (rest_of length (get now.files (string_bytes name)))
change_of (Kept name count) now = Sync (string_bytes name)
change_of (Moved from to held) now = Move (string_bytes from) (string_bytes to)
change_of (Taken name file) now = Removal (string_bytes name)
change_of Locked now = LockFile

-- the calls by which the files came to be as they are now, of which the last is kept first
abbrev pub calls_before : List Past → Disk → List Call
calls_before [] now = []
calls_before (past ∷ older) now = calls_before older (undone past now) ++ (record { found = undone past now; change = change_of past now }) ∷ []

abbrev pub calls_of : List Past → Disk → List Call
calls_of past now = calls_before (reverse past) now
