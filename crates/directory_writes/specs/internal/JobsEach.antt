-- A job under way, in each directory that differs in tables alone.
use Rattle.std.specs.Prelude.{◌≤◌, ◌<◌, ◌⊎◌, ◌^◌, ℕ, Bool, List, IsTrue}
use Rattle.std.specs.declared.cmp.Ordering.{Ordering}
use Rattle.ikey.specs.Entries.{InternalEntry}
use Rattle.ikey.specs.Orders.{Order}
use Rattle.edits.specs.Names.{IsNumbered}
use Rattle.store.specs.Files.{Facts, Files}
use Rattle.recover.specs.Directory.{Directory, IsConsistent}
use Rattle.recover.specs.Numbers.{IsFree}
use Rattle.compact.specs.Choosing.{Choosing}
use Rattle.compact.specs.Merging.{IsMerging}
use Rattle.compact.specs.Outputs.{AreNumbered, IsMineUpTo, IsOwn, TablesWritten, WritesTables}
use Rattle.directory_writes.specs.Differing.{DiffersInTables, IsSameChange, OfEach, with_files}
use Rattle.directory_writes.specs.Replacing.{OwnsNone}
use Rattle.directory_writes.specs.internal.Each.{HasSameOutputs}
use Rattle.directory_writes.specs.internal.JobWrites.{KeepsOtherTables}

-- What a job has merged and written, it has there too, where its tables have the same files.
abbrev pub MergingEachLaw : Type 0
MergingEachLaw = (cmp : List ℕ → List ℕ → Ordering) (deep : List ℕ → Bool) (last : List ℕ) (c : Choosing) (w : TablesWritten) (facts : Facts) (next : ℕ) (came : List InternalEntry) (whole : Files)
    → AreNumbered w next → HasSameOutputs w facts.files whole → IsMerging cmp deep last c w facts next came → IsMerging cmp deep last c w (with_files facts whole) next came

-- They have them still after a change by which some of numbers that were free came to them.
abbrev pub SameOutputsLaw : Type 0
SameOutputsLaw = (order : Order) (old new whole after : Files) (w v : TablesWritten) (next : ℕ) → DiffersInTables old whole → IsSameChange old new whole after → IsFree order whole next → HasSameOutputs w old whole
    → ((number : ℕ) → IsOwn v number → IsOwn w number ⊎ ((next ≤ number) × IsNumbered number)) → HasSameOutputs v new after

-- A job that writes the table at hand, and tables of numbers that it draws, leaves the other parts
-- of each such directory.
abbrev pub JobWritesEachLaw : Type 0
JobWritesEachLaw = (order : Order) (old new : Facts) (w : TablesWritten) (next more : ℕ) (d : Directory)
    → IsTrue new.faithful → WritesTables old new (IsMineUpTo w next more) → next ≤ more → more < 2 ^ 64 → AreNumbered w next → OwnsNone w d.layout.tables.items
    → OfEach (λ whole after. IsConsistent order whole d → IsFree order whole next → KeepsOtherTables order whole after (IsMineUpTo w next more) more d) old.files new.files
