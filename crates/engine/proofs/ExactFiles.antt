-- That the files of a database without work are exactly those in use.
use Rattle.std.proofs.Common.{◌≡◌, ◌⊎◌, ◌++◌, ◌≤◌, ℕ, true, false, List, [], ◌∷◌, Contains, Option, Some, None, Result, Ok, IsSome, IsTrue, inl, inr, refl, sym, ap, subst, ◌∙◌, arith}
use Rattle.std.specs.Bool.{nat_eq}
use Rattle.std.specs.FinMap.{contains_key, get}
use Rattle.std.specs.Map.{lookup}
use Rattle.cache.specs.Tables.{table_at}
use Rattle.coding.specs.declared.error.DbError.{DbError}
use Rattle.edits.specs.Names.{IsFileName, IsNumbered, name_of}
use Rattle.edits.specs.declared.field.PlacedTable.{PlacedTable}
use Rattle.edits.specs.declared.names.FileName.{FileName}
use Rattle.edits.specs.declared.names.FileName.TheVariants.{Current, Lock, Log, Table, OldTable, Manifest, Temporary}
use Rattle.ikey.specs.Orders.{Order}
use Rattle.running_job.specs.declared.open_job.OpenJob.{OpenJob}
use Rattle.recover.proofs.Memberships.{one_of_tables}
use Rattle.recover.specs.Directory.{Directory}
use Rattle.recover.specs.Logs.{InLogs, IsLive, LogContent}
use Rattle.recover.specs.Tables.{HasTable, TableContent}
use Rattle.db_cursor.specs.Scans.{tables_of}
use Rattle.db_cursor.specs.declared.scan.Scan.{Scan}
use Rattle.table_access.specs.Tables.{Seen}
use Rattle.directory_writes.proofs.JobTables.{contains_among, content_at}
use Rattle.directory_writes.specs.Replacing.{placed_in}
use Rattle.versions.specs.Levels.{HasNumber}
use Rattle.engine.specs.declared.ids.Ids.{Ids}
use Rattle.engine.specs.declared.work.Progress.{Progress}
use Rattle.engine.specs.declared.work.Progress.TheVariants as progress
use Rattle.engine.specs.ExactFiles.{HasExactlyLive, IsLiveAtEase, LeavesExactlyLive}
use Rattle.engine.specs.internal.Leading.{LeadsOpen}
use Rattle.engine.specs.OpenDb.{OpenDb, whole_of}
use Rattle.engine.specs.InUse.{IsJobTable, IsTableRead, IsTableUsed}
use Rattle.engine.specs.internal.Live.{IsBoth, IsLiveWalk}
use Rattle.engine.specs.Reads.{kept_at}
use Rattle.machine.specs.Machine.{Machine}
use Rattle.engine.specs.OptionValues.{OptionValues}
use Rattle.engine.specs.internal.Standing.{IsServing}
use Rattle.machine.specs.Upkeep.{Works}
use Rattle.engine.specs.Working.{DoesWork, HasLiveOnly, IsLiveIn, work_answer}
use Rattle.engine.proofs.Compacting.{all_contains}
use Rattle.engine.proofs.Flags.{works_flag}
use Rattle.engine.proofs.InUse.{as_listed}
use Rattle.engine.proofs.Origins.{undamaged_serving}
use Rattle.engine.proofs.Steps.{serving_of}

some_of : {X : Type 0} (o : Option X) (x : X) → o ≡ Some x → IsSome o
some_of {X} o x is = subst (λ (p : Option X). IsSome p) (sym is) refl

-- what stands for a thing that is kept
both_of : {X Y : Type 0} (Is : X → Y → Type 0) (x : X) (o : Option X) (p : Option Y) → o ≡ Some x → IsBoth Is o p → (y : Y) × Is x y
both_of {X} {Y} Is x o None is h = absurd (subst (λ (q : Option X). IsBoth {X = X} {Y = Y} Is q None) is h)
both_of {X} {Y} Is x o (Some y) is h = (y, subst (λ (q : Option X). IsBoth {X = X} {Y = Y} Is q (Some y)) is h)

module _ {K : Type 0} {g : _} (order : Order) (source : Seen) (db : OpenDb K g) (m : Machine) (serving : IsServing order source db m) where
  abbrev d : Directory
  d = serving.log.directory.directory

  table_of_version : (number : ℕ) → HasNumber number db.tables → (content : TableContent) × HasTable order serving.ideal content × (content.placed.table.number ≡ number)
  table_of_version number has =
      let a = serving.log.directory in
      let listed = as_listed db.tables number has in
      let here : Contains (placed_in serving.contents) listed.0 = all_contains (Contains (placed_in serving.contents)) db.tables listed.0 serving.tables.version.only listed.1 in
      let content = content_at d.tables listed.0 (contains_among (placed_in d.tables) listed.0 (subst (λ (contents : List TableContent). Contains (placed_in contents) listed.0) a.in_tables here)) in
      (content.0, one_of_tables order serving.ideal d.tables content.0 a.consistent.tables content.1, ap (λ (p : PlacedTable). p.table.number) content.2 ∙ listed.2)

  pub table_numbered : (number : ℕ) → HasNumber number db.tables → IsNumbered number
  table_numbered number has = let found = table_of_version number has in subst IsNumbered found.2 found.1.numbered

-- So without damage, where the directory is the files themselves.
module _ {K : Type 0} {g : _} (order : Order) (source : Seen) (db : OpenDb K g) (m : Machine) (undamaged : m.damaged ≡ false) (was : IsServing order source db m) where
  abbrev serving : IsServing order source db m
  serving = undamaged_serving order source db m undamaged was

  abbrev parts : Directory
  parts = serving.log.directory.directory

  -- the only log in use
  live_log : db.memory.sealed ≡ None → (n : ℕ) → IsNumbered n → contains_key source.facts.files (name_of (Log n)) ≡ true → (db.directory.first_log ≤ n) ⊎ (n ≡ db.directory.previous_log) → n ≡ db.log.number
  live_log none n numbered there live =
      let knows = serving.log.knows in
      let logs = serving.log.logs in
      let is_live : IsLive parts.layout n = elim live [
        | inl le ↦ inl (let is = knows.first_log in omega (arith, le, is))
        | inr is ↦ inr (is ∙ sym knows.previous_log, numbered.0)
      ] in
      let alone : parts.logs ≡ logs.current ∷ [] = logs.logs ∙ ap (λ (front : List LogContent). front ++ logs.current ∷ []) (logs.front none) in
      elim (subst (λ (contents : List LogContent). InLogs contents n) alone (serving.log.directory.consistent.all n numbered is_live there)) [
        | inl is ↦ is ∙ logs.number
        | inr other ↦ absurd other
      ]

  -- without a compaction no table is one that it needs
  read_alone : db.job ≡ None → (n : ℕ) → IsTableUsed db.tables db.job db.iterators n → IsTableRead db.tables db.iterators n
  read_alone idle n (inl read) = read
  read_alone idle n (inr needed) = absurd (subst (λ (job : Option (OpenJob K g)). IsJobTable job n) idle needed)

  live_at_ease : db.job ≡ None → db.memory.sealed ≡ None → (file : FileName) → IsFileName file → contains_key source.facts.files (name_of file) ≡ true → IsLiveIn source.facts.files db file → IsLiveAtEase source.facts.files db file
  live_at_ease idle none Current named there live = tt
  live_at_ease idle none Lock named there live = tt
  live_at_ease idle none (Log n) named there live = live_log none n named there live
  live_at_ease idle none (Table n) named there live = read_alone idle n live
  live_at_ease idle none (OldTable n) named there live = (read_alone idle n live.0, λ newer. live.1 (newer, there))
  live_at_ease idle none (Manifest n) named there live = live
  live_at_ease idle none (Temporary n) named there live = live

  table_there : (number : ℕ) → HasNumber number db.tables → IsSome (table_at source.facts.files number)
  table_there number has =
      let found = table_of_version order source db m serving number has in
      subst (λ (k : ℕ). IsSome (table_at source.facts.files k)) found.2 (some_of (table_at source.facts.files found.0.placed.table.number) found.1.bytes found.1.there)

  pinned_there : (id : ℕ) (scan : Scan K g) → kept_at db.iterators id ≡ Some scan → (number : ℕ) → HasNumber number (tables_of scan) → IsSome (table_at source.facts.files number)
  pinned_there id scan there number has =
      let walk = both_of (IsLiveWalk order.cmp m.over_limit m.damaged (whole_of source db)) scan (kept_at db.iterators id) (lookup (nat_eq id) m.iterators) there (serving.iterators id) in
      (walk.1.tables number (inl (as_listed (tables_of scan) number has))).2

  pub exactly_live : db.job ≡ None → db.memory.sealed ≡ None → HasLiveOnly source.facts.files db → HasExactlyLive source.facts.files db
  exactly_live idle none live =
      let a = serving.log.directory in
      let manifest = a.consistent.manifest in
      let known = serving.log.knows.number in
      record {
        only = λ file named there. live_at_ease idle none file named there (live file named there);
        current = some_of (get source.facts.files (name_of Current)) _ manifest.current;
        manifest = subst (λ (k : ℕ). IsSome (get source.facts.files (name_of (Manifest k)))) (sym known) (some_of (get source.facts.files (name_of (Manifest parts.manifest))) manifest.bytes manifest.there);
        log = some_of (get source.facts.files (name_of (Log db.log.number))) a.ends.bytes a.ends.there;
        tables = table_there;
        pinned = pinned_there;
      }

abbrev IsIdle : Result Progress DbError → Type 0
IsIdle result = result ≡ Ok progress.Idle

pub leaves_exactly : {K : Type 0} {g : _} (order : Order) (old new : Seen) (before after : OpenDb K g) (options : OptionValues) (budget : ℕ) (done : Progress)
    → ((ids : Ids) → LeadsOpen order old new ids before after (λ m n. Works m budget (work_answer (Ok done)) n)) → (IsIdle (Ok done) → after.broken ≡ false)
    → (IsIdle (Ok done) → IsTrue new.facts.faithful → new.facts.failures ≡ old.facts.failures → HasLiveOnly new.facts.files after) → DoesWork order.cmp options budget before after (Ok done) → LeavesExactlyLive order old new before after (Ok done)
leaves_exactly order old new before after options budget progress.Idle step whole tidy does is f same ids m s =
    let moved = (step ids).moved f m s.stands in
    let still = works_flag m moved.0 budget (work_answer (Ok progress.Idle)) moved.1 ∙ s.undamaged in
    let ease = does.1.ease in
    exactly_live order new after moved.0 still (serving_of order new ids after moved.0 (whole is) moved.2) ease.idle ease.none (tidy is f same)
leaves_exactly order old new before after options budget progress.Worked step whole tidy does is f same ids m s = absurd (cc)
