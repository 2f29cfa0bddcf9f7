-- What an open database keeps of its directory.
use Rattle.std.proofs.Common.{◌≡◌, ◌≢◌, ◌⊎◌, ◌<◌, ◌≤◌, inl, inr, ℕ, suc, false, List, [], ◌∷◌, length, Contains, Some, refl, sym, subst, ◌∙◌, arith}
use Rattle.std.specs.FinMap.{get}
use Rattle.std.proofs.lemmas.Bool.{cases_lt}
use Rattle.edits.specs.Names.{name_of, IsNumbered}
use Rattle.edits.specs.declared.names.FileName.TheVariants.{Log, Manifest}
use Rattle.engine.proofs.FrontSyncing.{same_or_other}
use Rattle.engine.proofs.Losing.{listed, read_live, spared}
use Rattle.engine.proofs.Origins.{undamaged_serving}
use Rattle.engine.proofs.Steps.{serving_of}
use Rattle.engine.specs.Losses.{LeavesFound}
use Rattle.engine.specs.OpenDb.{OpenDb}
use Rattle.engine.specs.declared.ids.Ids.{Ids}
use Rattle.engine.specs.internal.Standing.{IsServing, StandsOpen}
use Rattle.ikey.specs.Orders.{Order}
use Rattle.machine.specs.Machine.{Machine}
use Rattle.mended_db.specs.Cut.{IsSyncedEnd, MendedCutLaw}
use Rattle.mended_db.specs.Ends.{MendsDirectory, SyncsEnds}
use Rattle.mended_db.proofs.Cutting.{log_numbered}
use Rattle.opening.specs.Losses.{IsKept, IsKeptButLogs, IsNoneOf, IsTableKept, logs_in_doubt}
use Rattle.recover.specs.Directory.{Directory}
use Rattle.recover.specs.Logs.{InLogs}
use Rattle.recover.specs.Tables.{InTables, TableContent, table_at}
use Rattle.recover.proofs.Keeping.{live_of}
use Rattle.store.specs.Files.{Facts, Files}
use Rattle.table_access.specs.Tables.{Seen}

one_or_none : (q : List ℕ) (names : List (List ℕ)) → Contains names q ⊎ IsNoneOf q names
one_or_none q [] = inr tt
one_or_none q (name ∷ names) = elim (same_or_other q name) [
  | inl it ↦ inl (0, omega arith, sym it)
  | inr apart ↦ elim (one_or_none q names) [
    | inl there ↦ inl (suc there.0, (let less = there.1 in omega (arith, less)), there.2)
    | inr none ↦ inr (apart, none)
  ]
]

same_some : (a b : List ℕ) → Some a ≡ Some b → a ≡ b
same_some a b e = cc

module _ {K : Type 0} {g : _} (order : Order) (source : Seen) (db : OpenDb K g) (m : Machine) (serving : IsServing order source db m) where
  abbrev d : Directory
  d = serving.log.directory.directory

  kept_or_ends : SyncsEnds source.facts db → (n : ℕ) → InLogs d.logs n → IsSyncedEnd source.facts n
  kept_or_ends ends n among =
      let good = serving.log.directory.consistent in
      let num : IsNumbered n = log_numbered serving.ideal d.logs n good.logs among in
      elim (one_or_none (name_of (Log n)) (logs_in_doubt db.log)) [
        | inl doubted ↦ ends n num doubted
        | inr none ↦
            let kept : IsKept source.facts (name_of (Log n)) = serving.synced.synced.others n num (read_live order source db m serving n (live_of d.layout d.logs n good.live among)) none in
            λ held synced is k. inl (same_some synced held (sym k ∙ kept held is))
      ]

  module _ (lost : Files) (found : LeavesFound source.facts.files lost db) where
    table_kept : (content : TableContent) → InTables d.tables content
        → IsTableKept source.facts content.placed.table.number ⊎ (table_at lost content.placed.table.number ≡ table_at source.facts.files content.placed.table.number)
    table_kept content among =
        let there = listed order source db m serving content among in
        elim (cases_lt content.placed.table.number db.directory.manifest.number) [
          | inl less ↦ inr (found content.placed.table.number (serving.synced.names.placed content.placed there).0 less)
          | inr from ↦ inl (serving.synced.synced.placed content.placed there (omega (arith, from)))
        ]

    but_logs : IsKeptButLogs source.facts source.facts.files lost d
    but_logs = record {
      current = serving.synced.synced.current;
      manifest = subst (λ (n : ℕ). IsKept source.facts (name_of (Manifest n))) serving.log.knows.number serving.synced.synced.manifest;
      tables = table_kept;
    }

pub mends : {K : Type 0} {g : _} (order : Order) (law : MendedCutLaw) (source : Seen) (ids : Ids) (db : OpenDb K g) (m : Machine) → m.damaged ≡ false → StandsOpen order source ids db m → db.broken ≡ false → (lost : Files) → LeavesFound source.facts.files lost db
    → MendsDirectory order source.facts lost db
mends order law source ids db m undamaged s unbroken lost found =
    let serving = undamaged_serving order source db m undamaged (serving_of order source ids db m unbroken s) in
    let d : Directory = serving.log.directory.directory in
    record {
      directory = d;
      whole = serving.log.directory.consistent;
      left = λ fronts synced chance holed ends mended by.
          law order ends source.facts d lost mended serving.log.directory.consistent (but_logs order source db m serving lost found) (spared order source db m serving) fronts (kept_or_ends order source db m serving synced) chance holed by;
    }
