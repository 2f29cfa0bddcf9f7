-- What `check` and `dump` print.
use Rattle.std.specs.Prelude.{◌≡◌, ◌++◌, ℕ, List, [], ◌∷◌, codes, map, Result, Ok, Err}
use Rattle.std.specs.Fmt.{decimal}
use Rattle.coding.specs.declared.error.DbError.{DbError}
use Rattle.logfile.specs.declared.record.Tail.{Tail}
use Rattle.logfile.specs.declared.record.Tail.TheVariants.{Clean, Torn}
use Rattle.recover.specs.declared.report.Report.{Report}
use Rattle.recover.specs.declared.report.Report.TheVariants.{Empty, Good}
use Rattle.recover.specs.declared.report.Summary.{Summary}
use Rattle.recover.specs.declared.report.TableSummary.{TableSummary}
use Rattle.recover.specs.declared.report.LogSummary.{LogSummary}
use Rattle.recover.specs.declared.origins.Origin.{Origin}
use Rattle.recover.specs.declared.origins.Origin.TheVariants.{Table, Log}
use Rattle.script.specs.Script.{refusal_of}

-- what each is written as, one after the other
abbrev pub texts : {A : Type 0} → (A → List ℕ) → List A → List ℕ
texts text_of [] = []
texts text_of (x ∷ xs) = text_of x ++ texts text_of xs

-- ---- of a check

abbrev pub table_line_of : TableSummary → List ℕ
table_line_of table = (codes "table " ++ decimal table.level ++ 32 ∷ decimal table.number ++ 32 ∷ decimal table.entries) ++ 10 ∷ []

abbrev pub tail_text_of : Tail → List ℕ
tail_text_of Clean = codes "clean"
tail_text_of Torn = codes "torn"

abbrev pub log_line_of : LogSummary → List ℕ
log_line_of log = (codes "log " ++ decimal log.number ++ 32 ∷ decimal log.batches ++ 32 ∷ tail_text_of log.tail) ++ 10 ∷ []

abbrev pub report_text_of : Report → List ℕ
report_text_of Empty = codes "empty\n"
report_text_of (Good summary) =
    codes "good\nlast-sequence " ++ decimal summary.last_sequence ++ 10 ∷ texts table_line_of summary.tables.items ++ texts log_line_of summary.logs.items

-- the status with which a check ends
abbrev pub status_of_answer : Result Report DbError → ℕ
status_of_answer (Ok report) = 0
status_of_answer (Err error) = 1

-- the report, or the refusal
abbrev pub check_text_of : Result Report DbError → List ℕ
check_text_of (Ok report) = report_text_of report
check_text_of (Err error) = refusal_of error ++ 10 ∷ []

-- ---- of a dump

-- the files of a directory: tables by level and number, then logs by number
abbrev pub origins_of_summary : Summary → List Origin
origins_of_summary summary =
    map (λ (table : TableSummary). Table table.level table.number) summary.tables.items ++ map (λ (log : LogSummary). Log log.number) summary.logs.items
