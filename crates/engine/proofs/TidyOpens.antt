-- After an open in which no call of the store failed no table and no log lies about that its
-- directory doesn't read.
use Rattle.std.proofs.Common.{◌≡◌, ◌⊎◌, ◌<◌, ◌≤◌, ℕ, true, List, [], ◌∷◌, length, Option, Some, None, is_some, Any, Contains, inl, inr, refl, sym, ap, subst, ◌∙◌, arith}
use Rattle.std.specs.FinMap.{get, contains_key}
use Rattle.std.specs.Map.{values_of}
use Rattle.db_cursor.specs.declared.scan.Scan.{Scan}
use Rattle.directory_writes.proofs.JobTables.{contains_among, content_at}
use Rattle.edits.specs.Names.{IsNumbered, name_of}
use Rattle.edits.specs.declared.field.PlacedTable.{PlacedTable}
use Rattle.edits.specs.declared.names.FileName.TheVariants.{Log, OldTable, Table}
use Rattle.ikey.specs.Orders.{Order}
use Rattle.machine.specs.Machine.{Machine}
use Rattle.opening.specs.Losses.{IsLeftWhole, IsLogIn, IsReadIn}
use Rattle.recover.proofs.OneMeaning.{same_directory}
use Rattle.recover.specs.Directory.{Directory, IsConsistent}
use Rattle.recover.specs.Logs.{IsLive}
use Rattle.recover.specs.Tables.{InTables, TableContent}
use Rattle.running_job.specs.declared.open_job.OpenJob.{OpenJob}
use Rattle.store.specs.Files.{Files}
use Rattle.table_access.specs.Tables.{Seen}
use Rattle.versions.specs.Levels.{HasNumber, ListsSameTables}
use Rattle.engine.proofs.Compacting.{all_contains}
use Rattle.engine.specs.InUse.{AnyIterator, IsJobTable, IsTableUsed}
use Rattle.engine.specs.LosesRun.{SparesUnread}
use Rattle.engine.specs.OpenDb.{OpenDb}
use Rattle.engine.specs.Reopening.{IsFresh}
use Rattle.engine.specs.Working.{HasLiveOnly}
use Rattle.engine.specs.internal.Standing.{IsServing}

abbrev placed_in : List TableContent → List PlacedTable
placed_in [] = []
placed_in (content ∷ contents) = content.placed ∷ placed_in contents

-- a file that isn't there is left whole
gone_whole : (source : Seen) (lost : Files) (q : List ℕ) → get source.facts.files q ≡ None → IsLeftWhole source.facts lost q
gone_whole source lost q none = inl (λ bytes there. absurd (let bad : None ≡ Some bytes = sym none ∙ there in cc))

module _ {K : Type 0} {g : _} (order : Order) (source : Seen) (db : OpenDb K g) (m : Machine) (serving : IsServing order source db m) (same : serving.ideal ≡ source.facts.files) (fresh : IsFresh db) (live : HasLiveOnly source.facts.files db) where
  abbrev d : Directory
  d = serving.log.directory.directory

  good : IsConsistent order source.facts.files d
  good = subst (λ (fs : Files). IsConsistent order fs d) same serving.log.directory.consistent

  no_iterator : (P : Scan K g → Type 0) → AnyIterator db.iterators P → ⊥
  no_iterator P any = (let none = subst (λ (entries : List (ℕ × Scan K g)). Any P (values_of entries)) fresh.1 any in let within : none.0 < length {A = Scan K g} [] = none.2 in omega (arith, within))

  no_job : (n : ℕ) → IsJobTable db.job n → ⊥
  no_job n job = subst (λ (o : Option (OpenJob K g)). IsJobTable o n) fresh.0 job

  -- a table in use is one of the directory's
  in_use : (n : ℕ) → IsTableUsed db.tables db.job db.iterators n → (content : TableContent) × InTables d.tables content × (content.placed.table.number ≡ n)
  in_use n (inl (inl has)) = listed has
    where
      listed : HasNumber n db.tables → (content : TableContent) × InTables d.tables content × (content.placed.table.number ≡ n)
      listed (k, placed, lt, e, is) =
          let version = subst (λ (contents : List TableContent). ListsSameTables (placed_in contents) db.tables) serving.log.directory.in_tables serving.tables.version in
          let content = content_at d.tables placed (contains_among (placed_in d.tables) placed (all_contains (Contains (placed_in d.tables)) db.tables placed version.only (k, lt, e))) in
          (content.0, content.1, ap (λ (p : PlacedTable). p.table.number) content.2 ∙ is)
  in_use n (inl (inr any)) = absurd (no_iterator (λ scan. _) any)
  in_use n (inr job) = absurd (no_job n job)

  -- of whatever parts the directory is said to have
  module _ (e : Directory) (is : IsConsistent order source.facts.files e) (lost : Files) (n : ℕ) (num : IsNumbered n) (q : List ℕ) (unread : IsReadIn source.facts.files e q ⊎ IsLogIn e q → ⊥) where
    in_tables : (content : TableContent) → InTables d.tables content → InTables e.tables content
    in_tables content among = subst (λ (contents : List TableContent). InTables contents content) (same_directory order source.facts.files d e good is).3 among

    -- were the file there, it would be read
    newer : q ≡ name_of (Table n) → (o : Option (List ℕ)) → get source.facts.files q ≡ o → IsLeftWhole source.facts lost q
    newer named None none = gone_whole source lost q none
    newer named (Some bytes) there =
        let used = in_use n (live (Table n) num (ap (λ (p : List ℕ). contains_key source.facts.files p) (sym named) ∙ ap is_some there)) in
        absurd (unread (inl (inr (inr (used.0, in_tables used.0 used.1, inl (named ∙ ap (λ (k : ℕ). name_of (Table k)) (sym used.2)))))))

    older : q ≡ name_of (OldTable n) → (o newest : Option (List ℕ)) → get source.facts.files q ≡ o → get source.facts.files (name_of (Table n)) ≡ newest → IsLeftWhole source.facts lost q
    older named None newest none is_newest = gone_whole source lost q none
    older named (Some bytes) newest there is_newest = at newest is_newest
      where
        at : (o : Option (List ℕ)) → get source.facts.files (name_of (Table n)) ≡ o → IsLeftWhole source.facts lost q
        at None none =
            let here : contains_key source.facts.files (name_of (OldTable n)) ≡ true = ap (λ (p : List ℕ). contains_key source.facts.files p) (sym named) ∙ ap is_some there in
            let content = in_use n (live (OldTable n) num here).0 in
            let absent : get source.facts.files (name_of (Table content.0.placed.table.number)) ≡ None = ap (λ (k : ℕ). get source.facts.files (name_of (Table k))) content.2 ∙ none in
            absurd (unread (inl (inr (inr (content.0, in_tables content.0 content.1, inr (named ∙ ap (λ (k : ℕ). name_of (OldTable k)) (sym content.2), absent))))))
        at (Some other) both =
            let here : contains_key source.facts.files (name_of (OldTable n)) ≡ true = ap (λ (p : List ℕ). contains_key source.facts.files p) (sym named) ∙ ap is_some there in
            absurd ((live (OldTable n) num here).1 (ap is_some both, here))

    logged_here : (is_live : IsLive e.layout n) → q ≡ name_of (Log n) → IsLeftWhole source.facts lost q
    logged_here is_live named = absurd (unread (inr (n, num, is_live, named)))

    log : q ≡ name_of (Log n) → (o : Option (List ℕ)) → get source.facts.files q ≡ o → IsLeftWhole source.facts lost q
    log named None none = gone_whole source lost q none
    log named (Some bytes) there =
        let layout = (same_directory order source.facts.files d e good is).2 in
        let knows = serving.log.knows in
        elim (live (Log n) num (ap (λ (p : List ℕ). contains_key source.facts.files p) (sym named) ∙ ap is_some there)) [
          | inl from ↦ logged_here (inl (subst (λ (k : ℕ). k ≤ n) (sym knows.first_log ∙ layout.log_number) from)) named
          | inr previous ↦ logged_here (inr (previous ∙ sym knows.previous_log ∙ layout.previous_log_number, num.0)) named
        ]

  pub tidy_unread : (lost : Files) → SparesUnread order source.facts lost
  tidy_unread lost e is n num below q named unread = elim named [
    | inl newest ↦ newer e is lost n num q unread newest (get source.facts.files q) refl
    | inr (inl oldest) ↦ older e is lost n num q unread oldest (get source.facts.files q) (get source.facts.files (name_of (Table n))) refl refl
    | inr (inr logged) ↦ log e is lost n num q unread logged (get source.facts.files q) refl
  ]
