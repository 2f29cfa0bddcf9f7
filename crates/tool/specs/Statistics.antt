-- What `stats` prints.
use Rattle.std.specs.Prelude.{◌≡◌, ◌++◌, ◌∷◌, ℕ, Bool, true, false, List, [], codes, Option, Some, None, Result, Ok, Err, IfOk, IfErr, IsTrue}
use Rattle.std.specs.Fmt.{decimal}
use Rattle.std.specs.Io.KnownBytes.{Appends}
use Rattle.coding.specs.declared.error.DbError.{DbError}
use Rattle.edits.specs.declared.layout.Layout.{Layout}
use Rattle.engine.specs.OptionValues.{default_values}
use Rattle.ikey.specs.Orders.{Order}
use Rattle.recover.specs.Directory.{IsEmpty}
use Rattle.recover.specs.Overviews.{IsOverview}
use Rattle.recover.specs.Reading.{HasNoManifest, IsBeyondReading, IsCounted, ReadsDirectory, RefusesDirectory}
use Rattle.recover.specs.declared.overview.LogLength.{LogLength}
use Rattle.recover.specs.declared.overview.Overview.{Overview}
use Rattle.store.specs.Files.{Facts}
use Rattle.tool.specs.Reports.{texts}
use Rattle.versions.specs.Uses.{AreUses}
use Rattle.versions.specs.declared.level_uses.LevelUse.{LevelUse}

-- ---- lines: words, or objects of JSON

-- comparator leveldb.BytewiseComparator · recorded-sequence 3 · next-file 7
abbrev pub head_words_of : List ℕ → Layout → List ℕ
head_words_of comparator layout =
    (((codes "comparator " ++ comparator) ++ (codes "\nrecorded-sequence " ++ decimal layout.last_sequence)) ++ (codes "\nnext-file " ++ decimal layout.next_file_number)) ++ 10 ∷ []

-- {"comparator":"leveldb.BytewiseComparator","recorded-sequence":3,"next-file":7}
abbrev pub head_object_of : List ℕ → Layout → List ℕ
head_object_of comparator layout =
    (codes "{\"comparator\":\"" ++ comparator ++ codes "\",\"recorded-sequence\":" ++ decimal layout.last_sequence ++ codes ",\"next-file\":" ++ decimal layout.next_file_number) ++ codes "}\n"

abbrev pub head_line_of : Bool → List ℕ → Layout → List ℕ
head_line_of false comparator layout = head_words_of comparator layout
head_line_of true comparator layout = head_object_of comparator layout

-- level 0 files 4 bytes 1000 due
abbrev pub due_words_of : Bool → List ℕ
due_words_of true = codes " due"
due_words_of false = []

abbrev pub level_words_of : LevelUse → List ℕ
level_words_of level =
    ((codes "level " ++ decimal level.level ++ codes " files " ++ decimal level.files ++ codes " bytes " ++ decimal level.bytes) ++ due_words_of level.is_due) ++ 10 ∷ []

-- {"level":0,"files":4,"bytes":1000,"due":true}
abbrev pub due_member_of : Bool → List ℕ
due_member_of true = codes ",\"due\":true"
due_member_of false = codes ",\"due\":false"

abbrev pub level_object_of : LevelUse → List ℕ
level_object_of level =
    ((codes "{\"level\":" ++ decimal level.level ++ codes ",\"files\":" ++ decimal level.files ++ codes ",\"bytes\":" ++ decimal level.bytes) ++ due_member_of level.is_due) ++ codes "}\n"

abbrev pub level_line_of : Bool → LevelUse → List ℕ
level_line_of false level = level_words_of level
level_line_of true level = level_object_of level

-- log 6 bytes 33 · {"log":6,"bytes":33}
abbrev pub log_length_words_of : LogLength → List ℕ
log_length_words_of log = (codes "log " ++ decimal log.number ++ codes " bytes " ++ decimal log.length) ++ 10 ∷ []

abbrev pub log_length_object_of : LogLength → List ℕ
log_length_object_of log = (codes "{\"log\":" ++ decimal log.number ++ codes ",\"bytes\":" ++ decimal log.length) ++ codes "}\n"

abbrev pub log_length_line_of : Bool → LogLength → List ℕ
log_length_line_of false log = log_length_words_of log
log_length_line_of true log = log_length_object_of log

-- ---- the whole

-- The database's lines, those of the seven levels, and those of the live logs. A compaction is due
-- by LevelDB's thresholds.
pub record PrintsOverview (comparator : List ℕ) (json : Bool) (overview : Overview) (before after : Option (List ℕ)) : Type 0 where
  pub levels : List LevelUse
  pub counted : AreUses default_values.level0_files default_values.base_bytes overview.layout.tables.items 0 7 levels
  pub written : Appends before after (head_line_of json comparator overview.layout ++ texts (level_line_of json) levels ++ texts (log_length_line_of json) overview.logs.items)

-- what the directory answers, without its tables and logs being read
pub record IsLookedOver (order : Order) (old new : Facts) (answer : Result (Option Overview) DbError) : Type 0 where
  pub reads : ReadsDirectory old new answer
  pub found : IfOk answer (λ found. IsTrue new.faithful → IsOverview order old.files found)
  pub refused : IfErr answer (λ error. RefusesDirectory error old new ((IsEmpty old.files → ⊥) × HasNoManifest order old.files) (IsBeyondReading order old.files))
  pub counted : IsCounted old new answer

-- Nothing of a directory without a database, or of one that is refused.
abbrev pub PrintsAnswer : Order → Bool → Result (Option Overview) DbError → Option (List ℕ) → Option (List ℕ) → ℕ → Type 0
PrintsAnswer order json (Ok (Some overview)) before after status = PrintsOverview order.name json overview before after × (status ≡ 0)
PrintsAnswer order json (Ok None) before after status = (after ≡ before) × (status ≡ 1)
PrintsAnswer order json (Err error) before after status = (after ≡ before) × (status ≡ 1)

abbrev pub PrintsStats : Order → Bool → Facts → Facts → Option (List ℕ) → Option (List ℕ) → ℕ → Type 0
PrintsStats order json old new before after status = (answer : Result (Option Overview) DbError) × IsLookedOver order old new answer × PrintsAnswer order json answer before after status
