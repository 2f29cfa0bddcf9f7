-- What an open database knows of its directory, beside the entries: the parts that flushes,
-- compactions and new logs change.
use Rattle.std.specs.Prelude.{◌≡◌, ℕ, ◌≤◌, None, List, [], ◌∷◌, ◌++◌, string_bytes}
use Rattle.edits.specs.Names.{name_of}
use Rattle.edits.specs.declared.names.FileName.TheVariants.{Manifest}
use Rattle.ikey.specs.Orders.{Order}
use Rattle.memtables.specs.Memories.{Memories, sealed_inserts}
use Rattle.recover.specs.internal.Changes.{ManifestEndsAt}
use Rattle.recover.specs.Directory.{Directory}
use Rattle.recover.specs.Logs.{LogContent, batch_entries, logged}
use Rattle.recover.specs.Numbers.{IsFree}
use Rattle.store.specs.Files.{Files}
use Rattle.opening.specs.declared.directory.DirectoryState.{DirectoryState}

-- The last log of the directory has this number, and the entries of the current memtable; those
-- before it have the sealed one's. Where no table is sealed there are none in front, and one that
-- is sealed has entries.
pub record HasLogs (d : Directory) (log : ℕ) (memory : Memories) : Type 0 where
  pub sealed : List LogContent
  pub current : LogContent
  pub logs : d.logs ≡ sealed ++ current ∷ []
  pub number : current.number ≡ log
  pub sealed_are : sealed_inserts memory ≡ logged sealed
  pub current_are : memory.current.inserts ≡ batch_entries current.batches
  pub front : memory.sealed ≡ None → sealed ≡ []
  pub some : sealed_inserts memory ≡ [] → memory.sealed ≡ None

-- The database knows which logs the directory reads, and a number from which on none is taken. It
-- knows which MANIFEST is current and where that ends, so that an edit can be put after it.
pub record KnowsDirectory (order : Order) (files : Files) (d : Directory) (log : ℕ) (state : DirectoryState) : Type 0 where
  pub first_log : d.layout.log_number ≡ state.first_log
  pub forward : state.first_log ≤ log
  pub previous_log : d.layout.previous_log_number ≡ state.previous_log
  pub number : state.manifest.number ≡ d.manifest
  pub named : string_bytes state.manifest.name ≡ name_of (Manifest d.manifest)
  pub ends : ManifestEndsAt order files d.manifest state.manifest.end d.edits d.layout
  pub free : IsFree order files state.numbers.next
