-- What a power loss leaves of an open database in the middle of a step of a compaction.
use Rattle.std.proofs.Common.{◌≡◌, ◌≤◌, ◌+◌, ℕ, Some, IsTrue, inl, inr, arith}
use Rattle.compact.specs.Outputs.{IsMineUpTo, IsTableName}
use Rattle.edits.specs.Names.{IsFileName, IsNumbered, name_of}
use Rattle.edits.specs.declared.names.FileName.{FileName}
use Rattle.edits.specs.declared.names.FileName.TheVariants.{Current, Lock, Log, OldTable, Table}
use Rattle.edits.specs.declared.numbers.FileNumbers.{FileNumbers}
use Rattle.ikey.specs.Orders.{Order}
use Rattle.recover.specs.internal.Laws.{OneDirectoryLaw}
use Rattle.running_job.specs.declared.open_job.OpenJob.{OpenJob}
use Rattle.running_job.specs.internal.Stepping.{KeepsSound, StepTouches}
use Rattle.memtables.specs.Memories.{Memories}
use Rattle.db_cursor.specs.internal.Scanning.{ScanIsKept}
use Rattle.db_cursor.specs.declared.scan.Scan.{Scan}
use Rattle.table_access.specs.Tables.{Seen}
use Rattle.machine.specs.Machine.{Machine}
use Rattle.opening.proofs.Reopening.{files_apart}
use Rattle.engine.proofs.Compacting.{manifest_below}
use Rattle.engine.proofs.LosingCalls.{found_written, writes_first}
use Rattle.engine.proofs.Stepping.{mine_numbered, spares_written, the_job}
use Rattle.engine.proofs.Synced.{one_number}
use Rattle.engine.specs.Losses.{LosesFirst}
use Rattle.engine.specs.OpenDb.{OpenDb, whole_of}
use Rattle.engine.specs.Reopening.{KeepsFound}
use Rattle.engine.specs.internal.Standing.{IsServing}

module _ {K : Type 0} {g : _} (order : Order) (kept : (scan : Scan K g) → ScanIsKept order.cmp scan) (one : OneDirectoryLaw)
    (old new : Seen) (db : OpenDb K g) (memory : Memories) (numbers : FileNumbers) (most : ℕ) (before after : OpenJob K g) (is : db.job ≡ Some before)
    (le : db.directory.numbers.next ≤ numbers.next) (upto : numbers.next ≤ db.directory.numbers.next + most)
    (touches : StepTouches (whole_of old db) (record { seen = new; memory = memory }) db.directory.numbers.next numbers.next before after)
    (keeps : KeepsSound order (whole_of old db) (record { seen = new; memory = memory }) db.directory.numbers.next before) (m : Machine) (serving : IsServing order old db m) (f : IsTrue new.facts.faithful) where
  -- it writes tables that aren't read
  pub step_first : serving.ideal ≡ old.facts.files → LosesFirst order old.facts new.facts db m
  step_first same =
      writes_first order old db m serving same new.facts (IsTableName (IsMineUpTo before.job.outputs db.directory.numbers.next numbers.next)) (touches.writes.calls f)
      (spares_written order kept one old new db memory numbers most before after is le upto touches keeps m serving f)

  numbered : (number : ℕ) → IsMineUpTo before.job.outputs db.directory.numbers.next numbers.next number → IsNumbered number
  numbered = mine_numbered order kept one old new db memory numbers most before after is le upto touches keeps m serving f

  since : (number : ℕ) → IsMineUpTo before.job.outputs db.directory.numbers.next numbers.next number → db.directory.manifest.number ≤ number
  since number (inl at) =
      let least = (the_job order kept one old new db memory numbers most before after is le upto touches keeps m serving).since number (inl at) in
      let number_is = serving.log.knows.number in
      omega (arith, least, number_is)
  since number (inr drawn) =
      let below = manifest_below order serving.ideal serving.log.directory.directory db.directory.numbers.next serving.log.directory.consistent serving.log.knows.free in
      let number_is = serving.log.knows.number in
      omega (arith, drawn.0, below, number_is)

  beside : (file : FileName) → IsFileName file → ((number : ℕ) → IsMineUpTo before.job.outputs db.directory.numbers.next numbers.next number → file ≡ Table number → ⊥)
      → IsTableName (IsMineUpTo before.job.outputs db.directory.numbers.next numbers.next) (name_of file) → ⊥
  beside file is_file apart mine = files_apart file (Table mine.0) is_file (numbered mine.0 mine.1) (apart mine.0 mine.1) mine.2

  -- and that weren't there before the open
  pub step_found : KeepsFound old.facts new.facts db
  step_found =
      found_written old.facts new.facts db (IsTableName (IsMineUpTo before.job.outputs db.directory.numbers.next numbers.next)) (touches.writes.calls f) (beside Current tt (λ number mine e. cc)) (beside Lock tt (λ number mine e. cc))
      (λ n num below. (
        beside (Table n) num (λ number mine e. (let same : number ≡ n = one_number e in let least = since number mine in omega (arith, same, least, below))),
        beside (OldTable n) num (λ number mine e. cc),
        beside (Log n) num (λ number mine e. cc),
      ))
