-- What a power loss leaves of an open database.
use Rattle.std.proofs.Common.{◌≡◌, ◌≢◌, ◌⊎◌, ◌<◌, ◌≤◌, ◌+◌, ◌++◌, ◌∷◌, ℕ, suc, false, List, [], length, drop, Contains, map, Option, Some, None, Result, Ok, Err, OnOk, inl, inr, sym, ap, subst, ◌∙◌, arith, append_assoc, string_bytes}
use Rattle.std.proofs.lemmas.Bool.{cases_lt}
use Rattle.std.proofs.lemmas.List.{length-append, length-drop}
use Rattle.std.specs.FinMap.{get}
use Rattle.coding.specs.declared.error.DbError.{DbError}
use Rattle.directory_writes.specs.Replacing.{placed_in}
use Rattle.edits.specs.Names.{name_of, IsNumbered}
use Rattle.edits.specs.declared.names.FileName.TheVariants.{Log, Manifest}
use Rattle.ikey.specs.Orders.{Order}
use Rattle.ikey.specs.declared.entry.Entry.{Entry}
use Rattle.ikey.specs.Views.{IsView}
use Rattle.machine.specs.Machine.{Machine, current}
use Rattle.machine.specs.declared.command.Answer.TheVariants.{Refused}
use Rattle.opening.specs.Losses.{AreSpared, CutLaw, IsKept, IsKeptButLogs, IsKeptWhole, IsLogRead, IsNoneOf, IsReadIn, IsTableKept, KeptLaw, SparedLaw}
use Rattle.recover.specs.Directory.{Directory, used_in}
use Rattle.recover.proofs.Adding.{logs_apart}
use Rattle.recover.proofs.Keeping.{live_of}
use Rattle.recover.specs.Logs.{InLogs, IsLive, LogContent, logged}
use Rattle.recover.specs.Tables.{TableContent, InTables, table_at, tabled}
use Rattle.store.specs.Files.{Files}
use Rattle.store.specs.Losses.{StaysNamed, StaysOrBegins}
use Rattle.table_access.specs.Tables.{Seen}
use Rattle.engine.proofs.Compacting.{all_contains}
use Rattle.engine.proofs.FrontSyncing.{same_or_other}
use Rattle.engine.proofs.Origins.{undamaged_serving}
use Rattle.engine.proofs.Reading.{has_placed}
use Rattle.engine.proofs.RecentLosses.{in_first, in_front_of_last, recent_cut}
use Rattle.engine.proofs.Steps.{serving_of}
use Rattle.engine.proofs.WriteSynced.{kept_synced}
use Rattle.engine.specs.Losses.{HasSyncedLog, LeavesFound, LeavesFoundLogs, LosesEnds, LosesEndsOver, Outlasts, OutlastsOver}
use Rattle.engine.specs.OpenDb.{OpenDb}
use Rattle.engine.specs.Reopening.{NamesManifest, NamesOver}
use Rattle.engine.specs.declared.ids.Ids.{Ids}
use Rattle.engine.specs.internal.Standing.{IsServing, StandsOpen, entries_of}

some_more : (xs ys : List LogContent) → 0 < length ys → 0 < length (xs ++ ys)
some_more xs ys some = (let sum = length-append xs ys in omega (arith, some, sum))

-- one of these names, or none of them
one_or_none : (q : List ℕ) (names : List (List ℕ)) → Contains names q ⊎ IsNoneOf q names
one_or_none q [] = inr tt
one_or_none q (name ∷ names) = elim (same_or_other q name) [
  | inl it ↦ inl (0, omega arith, sym it)
  | inr apart ↦ elim (one_or_none q names) [
    | inl there ↦ inl (suc there.0, (let less = there.1 in omega (arith, less)), there.2)
    | inr none ↦ inr (apart, none)
  ]
]

-- so many batches after the first of some, of which there are no more
pub counted_within : (m : Machine) (from count : ℕ) → from ≤ length m.batches → count ≤ length (drop from m.batches) → from + count ≤ length m.batches
counted_within m from count within le =
    let left = length-drop from m.batches in
    omega (arith, within, le, left)

module _ {K : Type 0} {g : _} (order : Order) (source : Seen) (db : OpenDb K g) (m : Machine) (serving : IsServing order source db m) where
  abbrev pub d : Directory
  d = serving.log.directory.directory

  pub read_live : (n : ℕ) → IsLive d.layout n → IsLogRead db.directory n
  read_live n (inl least) = inl (subst (λ (k : ℕ). k ≤ n) serving.log.knows.first_log least)
  read_live n (inr is) = inr (is.0 ∙ serving.log.knows.previous_log, is.1)

  -- a table of the directory is one of the version
  pub listed : (content : TableContent) → InTables d.tables content → Contains db.tables content.placed
  listed content among =
      let here : InTables serving.contents content = subst (λ (contents : List TableContent). InTables contents content) (sym serving.log.directory.in_tables) among in
      all_contains (Contains db.tables) (placed_in serving.contents) content.placed serving.tables.version.all (has_placed serving.contents content here)

  entries_are : entries_of serving.contents db ≡ tabled d.tables ++ logged d.logs
  entries_are = λ i. tabled (serving.log.directory.in_tables i) ++ serving.log.directory.in_logs i

  -- the calls since the last sync spare what it reads
  stays_read : (name : List ℕ) → IsReadIn source.facts.files d name → StaysNamed source.facts name
  stays_read name (inl is) = subst (StaysNamed source.facts) (sym is) serving.synced.stayed.current
  stays_read name (inr (inl is)) =
      subst (StaysNamed source.facts) (sym is) (subst (λ (n : ℕ). StaysNamed source.facts (name_of (Manifest n))) serving.log.knows.number serving.synced.stayed.manifest)
  stays_read name (inr (inr (content, among, inl is))) = subst (StaysNamed source.facts) (sym is) (serving.synced.stayed.placed content.placed (listed content among)).0
  stays_read name (inr (inr (content, among, inr older))) = subst (StaysNamed source.facts) (sym older.0) ((serving.synced.stayed.placed content.placed (listed content among)).1 older.1)

  pub spared : AreSpared source.facts d
  spared = record {
    reads = stays_read;
    logs = λ name log. subst (StaysOrBegins source.facts) (sym log.3) (serving.synced.stayed.logs log.0 log.1 (read_live log.0 log.2));
  }

  module _ (lost : Files) (found : LeavesFound source.facts.files lost db) where
    -- each table is one that was found, or was synced
    table_kept : (content : TableContent) → InTables d.tables content
        → IsTableKept source.facts content.placed.table.number ⊎ (table_at lost content.placed.table.number ≡ table_at source.facts.files content.placed.table.number)
    table_kept content among =
        let there = listed content among in
        elim (cases_lt content.placed.table.number db.directory.manifest.number) [
          | inl less ↦ inr (found content.placed.table.number (serving.synced.names.placed content.placed there).0 less)
          | inr from ↦ inl (serving.synced.synced.placed content.placed there (omega (arith, from)))
        ]

    but_logs : IsKeptButLogs source.facts source.facts.files lost d
    but_logs = record {
      current = serving.synced.synced.current;
      manifest = subst (λ (n : ℕ). IsKept source.facts (name_of (Manifest n))) serving.log.knows.number serving.synced.synced.manifest;
      tables = table_kept;
    }

    -- a log that the open found is one of those in doubt, which are left, or is synced whole
    found_or_kept : LeavesFoundLogs source.facts.files lost db → (n : ℕ) → IsNumbered n → InLogs serving.recent.parts.found n → n < db.directory.manifest.number
        → IsKept source.facts (name_of (Log n)) ⊎ (get lost (name_of (Log n)) ≡ get source.facts.files (name_of (Log n)))
    found_or_kept same n num i below =
        let parts = serving.recent.parts in
        let good = serving.log.directory.consistent in
        let has = serving.log.logs in
        let all : d.logs ≡ parts.found ++ (parts.kept ++ parts.doubted) = parts.all ∙ append_assoc parts.found parts.kept parts.doubted in
        let less = in_front_of_last 0 d.logs parts.found (parts.kept ++ parts.doubted) has.sealed has.current n good.rising all has.logs (some_more parts.kept parts.doubted parts.some) i in
        let live = live_of d.layout d.logs n good.live (subst (λ (ls : List LogContent). InLogs ls n) (sym all) (in_first n parts.found (parts.kept ++ parts.doubted) i)) in
        let apart : name_of (Log n) ≢ string_bytes db.log.name = λ is. logs_apart n db.log.number num serving.synced.names.last.0 (λ is_last. (let number = has.number in omega (arith, less, is_last, number))) (is ∙ serving.synced.names.last.2) in
        elim (one_or_none (name_of (Log n)) (map string_bytes db.log.front.items)) [
          | inl front ↦ inr (same n num below front)
          | inr none ↦ inl (serving.synced.synced.others n num (read_live n live) (apart, none))
        ]

    module _ (last : HasSyncedLog source.facts db) where
      -- each log is the one that was synced last, or was synced before
      log_kept : (n : ℕ) → IsNumbered n → IsLogRead db.directory n → IsKept source.facts (name_of (Log n))
      log_kept n num read = elim (same_or_other (name_of (Log n)) (string_bytes db.log.name)) [
        | inl it ↦ subst (IsKept source.facts) (sym it) (kept_synced source.facts (string_bytes db.log.name) last.last)
        | inr apart ↦ serving.synced.synced.others n num read (apart, subst (IsNoneOf (name_of (Log n))) (sym (ap (map string_bytes) last.front)) tt)
      ]

      whole : IsKeptWhole source.facts lost d
      whole = record { current = but_logs.current; manifest = but_logs.manifest; logs = λ n num live. log_kept n num (read_live n live); tables = table_kept }

pub outlasts : {K : Type 0} {g : _} (order : Order) (law : KeptLaw) (source : Seen) (ids : Ids) (db : OpenDb K g) (m : Machine) → HasSyncedLog source.facts db → m.damaged ≡ false → StandsOpen order source ids db m → Outlasts order source.facts db m
outlasts order law source ids db m last undamaged s lost may found =
    let serving = undamaged_serving order source db m undamaged (serving_of order source ids db m last.whole s) in
    let d = serving.log.directory.directory in
    record {
      entries = entries_of serving.contents db;
      directory = inr (
        d,
        law order source.facts d lost serving.log.directory.consistent (whole order source db m serving lost found last) last.ends may,
        entries_are order source db m serving,
        serving.entries.used ∙ serving.log.directory.spent,
      );
      view = subst (λ (used : ℕ). IsView (entries_of serving.contents db) used (current m)) (sym serving.entries.used) serving.entries.view;
    }

pub synced_outlasts : {K T : Type 0} {g : _} (order : Order) (law : KeptLaw) (source : Seen) (ids : Ids) (db : OpenDb K g) (result : Result T DbError) → OnOk result (HasSyncedLog source.facts db) → OnOk result ((m : Machine) → m.damaged ≡ false → StandsOpen order source ids db m → Outlasts order source.facts db m)
synced_outlasts order law source ids db (Ok x) last = λ m undamaged s. outlasts order law source ids db m last undamaged s
synced_outlasts order law source ids db (Err e) last = tt

-- of any open database
pub loses_ends : {K : Type 0} {g : _} (order : Order) (spared_law : SparedLaw) (cut_law : CutLaw) (source : Seen) (ids : Ids) (db : OpenDb K g) (m : Machine) → m.damaged ≡ false → StandsOpen order source ids db m → LosesEnds order source.facts db m
loses_ends order spared_law cut_law source ids db m undamaged s unbroken lost may found =
    let serving = undamaged_serving order source db m undamaged (serving_of order source ids db m unbroken s) in
    let d = serving.log.directory.directory in
    let left = spared_law source.facts d lost (spared order source db m serving) may in
    let cut = cut_law order source.facts d lost serving.log.directory.consistent (but_logs order source db m serving lost found) left in (
      record { directory = d; whole = serving.log.directory.consistent; logs = cut.0; cut = cut.1; left = cut.2 },
      λ same.
          let logs_left = found_or_kept order source db m serving lost found same in
          let logged_are : entries_of serving.contents db ≡ tabled serving.contents ++ logged d.logs = ap (λ (es : List Entry). tabled serving.contents ++ es) serving.log.directory.in_logs in
          let first = recent_cut order source.facts lost db.directory.manifest.number serving.contents (entries_of serving.contents db) d cut.0 m serving.recent source.facts.files serving.log.directory.consistent serving.log.directory.consistent.logs cut.1 cut.2 logs_left logged_are serving.log.directory.in_tables in
          record { count = serving.recent.from + first.0; within = counted_within m serving.recent.from first.0 serving.recent.within first.1; enough = first.2; used = used_in (record d { logs = cut.0 }); holds = first.3 },
    )

pub any_loses_ends : {K : Type 0} {g : _} (order : Order) → SparedLaw → CutLaw → (source : Seen) (ids : Ids) (db : Option (OpenDb K g)) → LosesEndsOver order source ids db
any_loses_ends order spared_law cut_law source ids None = tt
any_loses_ends order spared_law cut_law source ids (Some db) = λ m undamaged s. loses_ends order spared_law cut_law source ids db m undamaged s

-- a session's write that was refused
pub refused_outlasts : {K : Type 0} {g : _} (asked : Type 0) (order : Order) (source : Seen) (ids : Ids) (db : Option (OpenDb K g)) (e : DbError) → OutlastsOver asked order source ids db (Refused e)
refused_outlasts asked order source ids None e = tt
refused_outlasts asked order source ids (Some db) e = λ f a. tt

-- ---- the MANIFEST that `CURRENT` names

pub names_open : {K : Type 0} {g : _} (order : Order) (source : Seen) (ids : Ids) (db : OpenDb K g) (m : Machine) → m.damaged ≡ false → StandsOpen order source ids db m → db.broken ≡ false → NamesManifest source.facts db.directory.manifest.number
names_open order source ids db m undamaged s whole =
    let serving = undamaged_serving order source db m undamaged (serving_of order source ids db m whole s) in
    let manifest = serving.log.directory.consistent.manifest in
    subst (λ (n : ℕ). NamesManifest source.facts n) (sym serving.log.knows.number) (manifest.numbered, manifest.current)

pub any_names : {K : Type 0} {g : _} (order : Order) (source : Seen) (ids : Ids) (db : Option (OpenDb K g)) → NamesOver order source ids db
any_names order source ids None = tt
any_names order source ids (Some db) = λ m undamaged s whole. names_open order source ids db m undamaged s whole
