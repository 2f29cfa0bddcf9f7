-- What `check` and `dump` do over a directory.
use Rattle.std.specs.Prelude.{◌≡◌, ◌⊎◌, ℕ, List, [], ◌∷◌, Option, Some, None, Result, Ok, Err, IfOk, IfErr, IsTrue}
use Rattle.std.specs.Io.KnownBytes.{Appends}
use Rattle.coding.specs.declared.error.DbError.{DbError}
use Rattle.store.specs.Files.{Facts}
use Rattle.ikey.specs.Orders.{Order}
use Rattle.ikey.specs.declared.entry.Entry.{Entry}
use Rattle.recover.specs.Directory.{Directory, IsConsistent, IsEmpty}
use Rattle.recover.specs.Limits.{PassesLimit}
use Rattle.recover.specs.Origins.{HasEntries, HasNoEntries, PassesLimitAt}
use Rattle.recover.specs.Reading.{IsInconsistent, IsStill, ReadsDirectory, RefusesDirectory}
use Rattle.recover.specs.Report.{IsReport}
use Rattle.recover.specs.declared.origins.Origin.{Origin}
use Rattle.recover.specs.declared.report.Report.{Report}
use Rattle.recover.specs.declared.report.Report.TheVariants.{Empty, Good}
use Rattle.tool.specs.declared.task.Notation.{Notation}
use Rattle.tool.specs.EntryLines.{entry_line_of}
use Rattle.tool.specs.Reports.{check_text_of, origins_of_summary, status_of_answer, texts}

-- what a check answers: the directory's report, or why it is refused
pub record IsChecked (order : Order) (old new : Facts) (answer : Result Report DbError) : Type 0 where
  pub reads : ReadsDirectory old new answer
  pub found : IfOk answer (λ report. IsTrue new.faithful → IsReport order old.files report)
  pub refused : IfErr answer (λ error. RefusesDirectory error old new ((IsEmpty old.files → ⊥) × IsInconsistent order old.files) ((IsEmpty old.files → ⊥) × PassesLimit order old.files))
  pub still : IsStill old new answer

-- It is written, and the status says which.
pub record Checks (order : Order) (old new : Facts) (before after : Option (List ℕ)) (status : ℕ) : Type 0 where
  pub answer : Result Report DbError
  pub checked : IsChecked order old new answer
  pub written : Appends before after (check_text_of answer)
  pub ended : status ≡ status_of_answer answer

-- ---- a dump

-- what the entries of a file are, or why they are refused
pub record IsFileRead (order : Order) (origin : Origin) (old new : Facts) (answer : Result (List Entry) DbError) : Type 0 where
  pub reads : ReadsDirectory old new answer
  pub found : IfOk answer (λ entries. IsTrue new.faithful → (d : Directory) → IsConsistent order old.files d → HasEntries d origin entries)
  pub refused : IfErr answer (λ error. RefusesDirectory error old new (HasNoEntries order old.files origin) (PassesLimitAt order old.files origin))
  pub still : IsStill old new answer

-- The lines of the entries of a file are written, in this notation, or its refusal, with which all
-- ends: then there is a status.
abbrev pub PrintsFile : Order → Notation → Origin → Facts → Facts → Option (List ℕ) → Option (List ℕ) → Option ℕ → Type 0
PrintsFile order notation origin old new before after None =
    (entries : List Entry) × IsFileRead order origin old new (Ok entries) × Appends before after (texts (entry_line_of notation origin) entries)
PrintsFile order notation origin old new before after (Some status) =
    (error : DbError) × IsFileRead order origin old new (Err error) × Appends before after (check_text_of (Err error)) × (status ≡ 1)

-- So file after file, up to a refusal.
abbrev pub PrintsFiles : Order → Notation → List Origin → Facts → Facts → Option (List ℕ) → Option (List ℕ) → ℕ → Type 0
PrintsFiles order notation [] old new before after status = (new ≡ old) × (after ≡ before) × (status ≡ 0)
PrintsFiles order notation (origin ∷ origins) old new before after status =
    PrintsFile order notation origin old new before after (Some status)
    ⊎ ((mid : Facts) × (between : Option (List ℕ)) × PrintsFile order notation origin old mid before between None × PrintsFiles order notation origins mid new between after status)

-- The directory is checked. Its refusal is written; or the entries of its files, of which an empty
-- one has none.
abbrev pub DumpsAnswer : Order → Notation → Result Report DbError → Facts → Facts → Option (List ℕ) → Option (List ℕ) → ℕ → Type 0
DumpsAnswer order notation (Ok Empty) old new before after status = (new ≡ old) × (after ≡ before) × (status ≡ 0)
DumpsAnswer order notation (Ok (Good summary)) old new before after status = PrintsFiles order notation (origins_of_summary summary) old new before after status
DumpsAnswer order notation (Err error) old new before after status = (new ≡ old) × Appends before after (check_text_of (Err error)) × (status ≡ 1)

abbrev pub Dumps : Order → Notation → Facts → Facts → Option (List ℕ) → Option (List ℕ) → ℕ → Type 0
Dumps order notation old new before after status =
    (mid : Facts) × (answer : Result Report DbError) × IsChecked order old mid answer × DumpsAnswer order notation answer mid new before after status
