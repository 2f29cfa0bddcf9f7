-- What a power loss leaves while an open that succeeded removes the obsolete files: what it left
-- before the open.
use Rattle.std.proofs.Common.{◌≡◌, ◌≢◌, ◌⊎◌, ◌<◌, ◌≤◌, ◌+◌, ◌++◌, ◌∷◌, ℕ, Bool, false, true, IsTrue, List, [], Option, Some, None, if◌then◌else◌, is_some, map, string_bytes, inl, inr, refl, sym, ap, subst, ◌∙◌, arith, append-nil, append_assoc}
use Rattle.std.specs.FinMap.{contains_key, get}
use Rattle.std.specs.List.{AllByRecursion}
use Rattle.std.specs.Option.{option_or}
use Rattle.directory_writes.proofs.StoreCalls.{behind_added}
use Rattle.directory_writes.specs.Removal.{IsDead}
use Rattle.directory_writes.specs.internal.Calls.{LeavesFile}
use Rattle.edits.specs.Names.{IsNumbered, name_of}
use Rattle.edits.specs.declared.field.PlacedTable.{PlacedTable}
use Rattle.edits.specs.declared.names.FileName.TheVariants.{Current, Log, Manifest, OldTable, Table, Temporary}
use Rattle.ikey.specs.Orders.{Order}
use Rattle.machine.specs.Lifetime.{Opens}
use Rattle.machine.specs.Machine.{Machine}
use Rattle.machine.specs.declared.command.Answer.TheVariants.{Done}
use Rattle.machine.specs.declared.command.Mode.{Mode}
use Rattle.opening.proofs.Losing.{none_of, some_of}
use Rattle.opening.proofs.LosingWrites.{log_in}
use Rattle.opening.proofs.Reopening.{files_apart, next_of, numbered_of}
use Rattle.opening.proofs.Uncut.{IsSet, renamed_set, set_synced}
use Rattle.opening.specs.Losses.{IsKept}
use Rattle.opening.specs.internal.Cuts.{ReadsNone}
use Rattle.opening.specs.declared.directory.CurrentLog.{CurrentLog}
use Rattle.opening.specs.declared.directory.DirectoryState.{DirectoryState}
use Rattle.opening.specs.internal.Renewing.{RenewsAll, RenewsWhole}
use Rattle.recover.proofs.Adding.{table_of}
use Rattle.recover.proofs.Keeping.{keep_manifest}
use Rattle.recover.proofs.NewLogs.{log_there}
use Rattle.recover.proofs.OneMeaning.{same_manifest}
use Rattle.recover.specs.Directory.{Directory, IsConsistent, IsEmpty}
use Rattle.recover.specs.Logs.{InLogs, IsLive, LogContent}
use Rattle.recover.specs.Tables.{InTables, TableContent, table_at}
use Rattle.recover.specs.internal.Laws.{Agree, IsSameLayout}
use Rattle.store.proofs.LosingOn.{loses_both, loses_later}
use Rattle.store.specs.Files.{Call, Facts, Files}
use Rattle.store.specs.Losses.{LosesOnly, Lost, SyncsBeginnings}
use Rattle.store.specs.Stops.{WritesOnly, moment}
use Rattle.table_access.specs.Tables.{Seen}
use Rattle.engine.proofs.Flags.{opens_flag}
use Rattle.engine.proofs.HoldingOn.{IsAsLeft, holds_agreeing, spares_before}
use Rattle.engine.proofs.InUse.{table_used}
use Rattle.engine.proofs.LosingCalls.{reads_none}
use Rattle.engine.proofs.LosingPieces.{serving_whole}
use Rattle.engine.proofs.LostRemovals.{EndsAfresh, IsAmong, IsMadeAlone, IsTaken, afresh_each, lost_removed}
use Rattle.engine.proofs.RecentLosses.{in_second}
use Rattle.engine.proofs.ReopeningSteps.{left_stays, stays_through}
use Rattle.engine.proofs.StayedNames.{SparesRead, spares_dead}
use Rattle.engine.specs.Follows.{Leads}
use Rattle.engine.specs.InUse.{IsTableUsed}
use Rattle.engine.specs.Losses.{HoldsFirst}
use Rattle.engine.specs.OpenDb.{OpenDb}
use Rattle.engine.specs.Reopening.{LeavesFirst, LosesOn, StaysOrGoes}
use Rattle.engine.specs.Working.{IsLiveIn, LosesDead}
use Rattle.engine.specs.declared.ids.Ids.{Ids}
use Rattle.engine.specs.internal.Logs.{SyncsEach}
use Rattle.engine.specs.internal.Resting.{Rests}
use Rattle.engine.specs.internal.Standing.{IsServing, StandsOpen}

-- ---- the names that a directory reads

-- of a table that of its newer file, where it is there
abbrev table_name : Files → ℕ → List ℕ
table_name files n = if contains_key files (name_of (Table n)) then name_of (Table n) else name_of (OldTable n)

abbrev table_names : Files → List TableContent → List (List ℕ)
table_names files [] = []
table_names files (content ∷ contents) = table_name files content.placed.table.number ∷ table_names files contents

abbrev log_names : List LogContent → List (List ℕ)
log_names [] = []
log_names (log ∷ logs) = name_of (Log log.number) ∷ log_names logs

abbrev pub names_read : Files → Directory → List (List ℕ)
names_read files d = name_of Current ∷ name_of (Manifest d.manifest) ∷ (table_names files d.tables ++ log_names d.logs)

module _ (P : List ℕ → Type 0) where
  all_both : (xs ys : List (List ℕ)) → AllByRecursion P xs → AllByRecursion P ys → AllByRecursion P (xs ++ ys)
  all_both [] ys h k = k
  all_both (x ∷ xs) ys h k = (h.0, all_both xs ys h.1 k)

  all_first : (xs ys : List (List ℕ)) → AllByRecursion P (xs ++ ys) → AllByRecursion P xs
  all_first [] ys h = tt
  all_first (x ∷ xs) ys h = (h.0, all_first xs ys h.1)

  all_second : (xs ys : List (List ℕ)) → AllByRecursion P (xs ++ ys) → AllByRecursion P ys
  all_second [] ys h = h
  all_second (x ∷ xs) ys h = all_second xs ys h.1

  each_table : (files : Files) (contents : List TableContent) → ((content : TableContent) → InTables contents content → P (table_name files content.placed.table.number)) → AllByRecursion P (table_names files contents)
  each_table files [] h = tt
  each_table files (content ∷ contents) h = (h content (inl refl), each_table files contents (λ other among. h other (inr among)))

  each_log : (logs : List LogContent) → ((n : ℕ) → InLogs logs n → P (name_of (Log n))) → AllByRecursion P (log_names logs)
  each_log [] h = tt
  each_log (log ∷ logs) h = (h log.number (inl refl), each_log logs (λ n among. h n (inr among)))

  table_in : (files : Files) (contents : List TableContent) (content : TableContent) → InTables contents content → AllByRecursion P (table_names files contents) → P (table_name files content.placed.table.number)
  table_in files [] content among all = absurd among
  table_in files (first ∷ contents) content (inl is) all = subst (λ (one : TableContent). P (table_name files one.placed.table.number)) (sym is) all.0
  table_in files (first ∷ contents) content (inr among) all = table_in files contents content among all.1

  log_among : (logs : List LogContent) (n : ℕ) → InLogs logs n → AllByRecursion P (log_names logs) → P (name_of (Log n))
  log_among [] n among all = absurd among
  log_among (log ∷ logs) n (inl is) all = subst (λ (k : ℕ). P (name_of (Log k))) (sym is) all.0
  log_among (log ∷ logs) n (inr among) all = log_among logs n among all.1

among_logs : (n : ℕ) (logs : List LogContent) → InLogs logs n → IsAmong (name_of (Log n)) (log_names logs)
among_logs n [] among = absurd among
among_logs n (log ∷ logs) (inl is) = inl (ap (λ (k : ℕ). name_of (Log k)) is)
among_logs n (log ∷ logs) (inr among) = inr (among_logs n logs among)

among_second : (q : List ℕ) (xs ys : List (List ℕ)) → IsAmong q ys → IsAmong q (xs ++ ys)
among_second q [] ys h = h
among_second q (x ∷ xs) ys h = inr (among_second q xs ys h)

-- tables of the same placed ones
placed_in : (xs ys : List TableContent) (content : TableContent) → map (λ (c : TableContent). c.placed) xs ≡ map (λ (c : TableContent). c.placed) ys → InTables xs content → (other : TableContent) × InTables ys other × (other.placed ≡ content.placed)
placed_in [] ys content same among = absurd among
placed_in (x ∷ xs) [] content same among = absurd (cc)
placed_in (x ∷ xs) (y ∷ ys) content same (inl is) =
    let first : y.placed ≡ x.placed = cc in
    (y, inl refl, first ∙ ap (λ (c : TableContent). c.placed) (sym is))
placed_in (x ∷ xs) (y ∷ ys) content same (inr among) =
    let rest : map (λ (c : TableContent). c.placed) xs ≡ map (λ (c : TableContent). c.placed) ys = cc in
    let there = placed_in xs ys content rest among in
    (there.0, inr there.1, there.2)

never : {T : Type 0} (o : Option (List ℕ)) (bytes : List ℕ) → o ≡ None → o ≡ Some bytes → T
never o bytes none some = absurd (let bad : None ≡ Some bytes = sym none ∙ some in cc)

-- ---- none of them is removed

module _ (order : Order) (made : Facts) (dead : List ℕ → Type 0) (d : Directory) (good : IsConsistent order made.files d) (unread : ReadsNone made.files d dead) where
  table_unread : (content : TableContent) → InTables d.tables content → dead (table_name made.files content.placed.table.number) → ⊥
  table_unread content among = at (contains_key made.files (name_of (Table content.placed.table.number))) refl
    where
      at : (b : Bool) → contains_key made.files (name_of (Table content.placed.table.number)) ≡ b
          → dead (if b then name_of (Table content.placed.table.number) else name_of (OldTable content.placed.table.number)) → ⊥
      at true is = unread (name_of (Table content.placed.table.number)) (inl (inr (inr (content, among, inl refl))))
      at false is =
          unread (name_of (OldTable content.placed.table.number)) (inl (inr (inr (content, among, inr (refl, none_of (get made.files (name_of (Table content.placed.table.number))) is)))))

  pub none_dead : AllByRecursion (λ (q : List ℕ). dead q → ⊥) (names_read made.files d)
  none_dead =
      let P : List ℕ → Type 0 = λ q. dead q → ⊥ in (
        unread (name_of Current) (inl (inl refl)),
        (
          unread (name_of (Manifest d.manifest)) (inl (inr (inl refl))),
          all_both P (table_names made.files d.tables) (log_names d.logs) (each_table P made.files d.tables (λ content among. table_unread content among))
              (each_log P d.logs (λ n among. unread (name_of (Log n)) (inr (log_in order made.files d n good among)))),
        ),
      )

  pub names_log : (n : ℕ) → InLogs d.logs n → IsAmong (name_of (Log n)) (names_read made.files d)
  names_log n among = inr (inr (among_second (name_of (Log n)) (table_names made.files d.tables) (log_names d.logs) (among_logs n d.logs among)))

  -- ---- with the files that nothing reads as they were, a loss agrees in what is read

  module _ (number : ℕ) (last_log : InLogs d.logs number) (current : IsKept made (name_of Current)) (manifest : IsKept made (name_of (Manifest d.manifest)))
      (lost : Files) (t : IsTaken made (name_of (Log number)) dead (names_read made.files d) lost) where
    abbrev Same : List ℕ → Type 0
    Same q = get t.before q ≡ get lost q

    tables_part : AllByRecursion Same (table_names made.files d.tables)
    tables_part = all_first Same (table_names made.files d.tables) (log_names d.logs) t.read.1.1

    logs_part : AllByRecursion Same (log_names d.logs)
    logs_part = all_second Same (table_names made.files d.tables) (log_names d.logs) t.read.1.1

    other_log : (q : List ℕ) → contains_key made.files q ≡ false → q ≢ name_of (Log number)
    other_log q none same =
        let there = (log_there made.files d.logs number good.logs last_log).1 in
        (let bad : true ≡ false = sym there ∙ ap (λ (p : List ℕ). contains_key made.files p) (sym same) ∙ none in cc)

    -- a file that isn't there is in neither
    same_at : (q : List ℕ) → (dead q → ⊥) → (contains_key made.files q ≡ true → Same q) → Same q
    same_at q live there = at (contains_key made.files q) refl
      where
        at : (b : Bool) → contains_key made.files q ≡ b → Same q
        at true is = there is
        at false is =
            let none : get lost q ≡ None = none_of (get lost q) (t.names q live (other_log q is) ∙ is) in
            elim (t.each q) [ inl same ↦ same | inr was ↦ was ∙ none_of (get made.files q) is ∙ sym none ]

    kept_whole : (q bytes : List ℕ) → (dead q → ⊥) → q ≢ name_of (Log number) → Same q → IsKept made q → get made.files q ≡ Some bytes → get t.before q ≡ get made.files q
    kept_whole q bytes live apart same kept there = same ∙ t.kept q bytes live apart there (kept bytes there) ∙ sym there

    current_then : get t.before (name_of Current) ≡ get made.files (name_of Current)
    current_then = kept_whole (name_of Current) _ none_dead.0 (files_apart Current (Log number) tt (log_there made.files d.logs number good.logs last_log).0 (λ e. cc)) t.read.0 current good.manifest.current

    manifest_then : get t.before (name_of (Manifest d.manifest)) ≡ get made.files (name_of (Manifest d.manifest))
    manifest_then =
        kept_whole (name_of (Manifest d.manifest)) good.manifest.bytes none_dead.1.0 (files_apart (Manifest d.manifest) (Log number) good.manifest.numbered (log_there made.files d.logs number good.logs last_log).0 (λ e. cc))
        t.read.1.0 manifest good.manifest.there

    module _ (content : TableContent) (among : InTables d.tables content) where
      abbrev newer : List ℕ
      newer = name_of (Table content.placed.table.number)

      abbrev older : List ℕ
      older = name_of (OldTable content.placed.table.number)

      live_newer : dead newer → ⊥
      live_newer = unread newer (inl (inr (inr (content, among, inl refl))))

      table_by : (b : Bool) → contains_key made.files newer ≡ b → Same (if b then newer else older) → table_at lost content.placed.table.number ≡ table_at t.before content.placed.table.number
      table_by true is same =
          let num = (log_there made.files d.logs number good.logs last_log).0 in
          let apart : newer ≢ name_of (Log number) = files_apart (Table content.placed.table.number) (Log number) (table_of order made.files d.tables content good.tables among) num (λ e. cc) in
          let there = some_of (get lost newer) (t.names newer live_newer apart ∙ is) in
          ap (λ (o : Option (List ℕ)). option_or o (get lost older)) there.1 ∙ sym (ap (λ (o : Option (List ℕ)). option_or o (get t.before older)) (same ∙ there.1))
      table_by false is same =
          let first : get lost newer ≡ get t.before newer = sym (same_at newer live_newer (λ here. absurd (let bad : true ≡ false = sym here ∙ is in cc))) in
          let second : get lost older ≡ get t.before older = sym same in
          λ i. option_or (first i) (second i)

      table_same : table_at lost content.placed.table.number ≡ table_at t.before content.placed.table.number
      table_same = table_by (contains_key made.files newer) refl (table_in Same made.files d.tables content among tables_part)

    module _ (e : Directory) (now : IsConsistent order t.before e) where
      one : (e.manifest ≡ d.manifest) × (e.edits ≡ d.edits) × IsSameLayout e.layout d.layout
      one = same_manifest order t.before e.manifest d.manifest e.edits d.edits e.layout d.layout now.manifest (keep_manifest order made.files t.before d.manifest d.edits d.layout current_then manifest_then good.manifest)

      live_too : (n : ℕ) → IsLive e.layout n → IsLive d.layout n
      live_too n (inl from) = inl (subst (λ (k : ℕ). k ≤ n) one.2.log_number from)
      live_too n (inr is) = inr (is.0 ∙ one.2.previous_log_number, is.1)

      log_same : (n : ℕ) → IsNumbered n → IsLive e.layout n → Same (name_of (Log n))
      log_same n num live =
          let was = live_too n live in
          same_at (name_of (Log n)) (unread (name_of (Log n)) (inr (n, num, was, refl))) (λ there. log_among Same d.logs n (good.all n num was there) logs_part)

      placed_same : map (λ (c : TableContent). c.placed) e.tables ≡ map (λ (c : TableContent). c.placed) d.tables
      placed_same = now.placed ∙ one.2.tables ∙ sym good.placed

      pub agree : Agree t.before lost e
      agree = record {
        current = sym t.read.0;
        manifest = let back : get lost (name_of (Manifest d.manifest)) ≡ get t.before (name_of (Manifest d.manifest)) = sym t.read.1.0 in
            subst (λ (n : ℕ). get lost (name_of (Manifest n)) ≡ get t.before (name_of (Manifest n))) (sym one.0) back;
        logs = λ n num live. sym (log_same n num live);
        tables = λ content among.
            let was = placed_in e.tables d.tables content placed_same among in
            subst (λ (p : PlacedTable). table_at lost p.table.number ≡ table_at t.before p.table.number) was.2 (table_same was.0 was.1);
      }

    none_empty : IsEmpty t.before → IsEmpty lost
    none_empty empty = never (get t.before (name_of Current)) _ empty.current (current_then ∙ good.manifest.current)

    -- So it holds what that held.
    pub holds_taken : (m : Machine) → HoldsFirst order t.before m → HoldsFirst order lost m
    holds_taken m h = holds_agreeing order m t.before lost h agree none_empty

-- ---- all that the open wrote

-- some calls after others
abbrev GoesTo : Facts → Facts → Type 0
GoesTo a b = (more : List Call) × (b.calls ≡ a.calls ++ more)

to_both : (a b c : Facts) → GoesTo a b → GoesTo b c → GoesTo a c
to_both a b c h k = (h.0 ++ k.0, k.1 ∙ ap (λ (calls : List Call). calls ++ k.0) h.1 ∙ append_assoc a.calls h.0 k.0)

module _ (old made : Facts) (k : ℕ) (content current : List ℕ) (numbered : IsNumbered k) (next : IsNumbered (k + 1)) (lacks : contains_key old.files (name_of (Log (k + 1))) ≡ false)
    (all : RenewsAll old made (name_of (Manifest k)) content (name_of (Temporary k)) current (name_of (Log (k + 1)))) where
  abbrev between : Facts
  between = all.0

  abbrev last : Facts
  last = all.1

  abbrev front : Facts
  front = all.3.0

  abbrev third : Facts
  third = all.3.1

  abbrev new_log : List ℕ
  new_log = name_of (Log (k + 1))

  set : IsSet between last (name_of (Temporary k)) current
  set = set_synced between third last (name_of (Temporary k)) current (renamed_set between front third (name_of (Temporary k)) current all.3.2 all.3.3.0.1 all.3.3.1) all.3.4.0.1 all.3.4.1

  calls_all : GoesTo old made
  calls_all =
      to_both old last made (to_both old third last (to_both old front third (to_both old between front (all.2.only.leaves.more, all.2.only.leaves.calls) (all.3.2.only.leaves.more, all.3.2.only.leaves.calls)) (_, all.3.3.0.0)) (_, all.3.4.0.0)) (_, all.5.0)

  left_last : (q : List ℕ) → q ≢ name_of (Manifest k) → q ≢ name_of (Temporary k) → q ≢ name_of Current → LeavesFile old last q
  left_last q a b c =
      let second = set.others q b c in
      (second.0 ∙ all.2.only.leaves.now q a, second.1 ∙ all.2.only.synced q a)

  lacks_all : contains_key last.files new_log ≡ false
  lacks_all =
      ap is_some (left_last new_log (files_apart (Log (k + 1)) (Manifest k) next numbered (λ e. cc)) (files_apart (Log (k + 1)) (Temporary k) next numbered (λ e. cc)) (files_apart (Log (k + 1)) Current next tt (λ e. cc))).0
      ∙ lacks

  -- the log was made alone after the sync of `CURRENT`
  alone : IsMadeAlone last made new_log
  alone = record { ends = behind_added third last (name_of Current) all.3.4.0; lacks = lacks_all; adds = all.5 }

module _ (order : Order) (old made : Facts) (log : CurrentLog) (state : DirectoryState) (whole : RenewsWhole order old made log state) where
  abbrev k : ℕ
  k = whole.found.number

  abbrev content : List ℕ
  content = whole.rewrite.manifest.items

  abbrev current : List ℕ
  current = whole.rewrite.current.items

  all : RenewsAll old made (name_of (Manifest k)) content (name_of (Temporary k)) current (name_of (Log (k + 1)))
  all =
      let p = whole.planned in
      let A : List ℕ → Type 0 = λ name. RenewsAll old made name content (string_bytes whole.rewrite.temporary_name) current (string_bytes whole.rewrite.log_name) in
      let B : List ℕ → Type 0 = λ name. RenewsAll old made (name_of (Manifest k)) content name current (string_bytes whole.rewrite.log_name) in
      let C : List ℕ → Type 0 = λ name. RenewsAll old made (name_of (Manifest k)) content (name_of (Temporary k)) current name in
      subst C p.log_name (subst B p.temporary_name (subst A p.manifest_name whole.renews))

  numbered : IsNumbered k
  numbered = numbered_of whole.found whole.usable

  next : IsNumbered (k + 1)
  next = next_of whole.found whole.usable

  lacks : contains_key old.files (name_of (Log (k + 1))) ≡ false
  lacks = at (get old.files (name_of (Log (k + 1)))) refl
    where
      at : (o : Option (List ℕ)) → get old.files (name_of (Log (k + 1))) ≡ o → contains_key old.files (name_of (Log (k + 1))) ≡ false
      at None none = ap is_some none
      at (Some bytes) there = absurd (let bad : k + 1 < k = whole.finds.number.0.listed (Log (k + 1)) next (ap is_some there) in omega (arith, bad))

  whole_calls : GoesTo old made
  whole_calls = calls_all old made k content current numbered next lacks all

  whole_afresh : EndsAfresh made (name_of (Log log.number))
  whole_afresh =
      subst (λ (n : ℕ). EndsAfresh made (name_of (Log n))) (sym whole.log_number) (inr (all.1, alone old made k content current numbered next lacks all))

-- ---- and the syncs after it

each_calls : (names : List (List ℕ)) (old new : Facts) → SyncsEach names old new → GoesTo old new
each_calls [] old new idle = ([], idle.0 ∙ sym (append-nil old.calls))
each_calls (name ∷ names) old new h = to_both old h.0 new (_, h.1.0) (each_calls names h.0 new h.3)

-- ---- the removal at its end

module _ {K : Type 0} {g : _} (order : Order) (old : Facts) (kept : Seen) (db : OpenDb K g) (n : Machine) (serving : IsServing order kept db n) (same : serving.ideal ≡ kept.facts.files) (sound : SyncsBeginnings kept.facts) (goes : GoesTo old kept.facts)
    (afresh : EndsAfresh kept.facts (name_of (Log db.log.number))) (new : Facts) (writes : WritesOnly kept.facts new (IsDead (IsLiveIn kept.facts.files db))) (left : (q : List ℕ) → LeavesFile kept.facts new q ⊎ (get new.files q ≡ None)) where
  abbrev Dead : List ℕ → Type 0
  Dead = IsDead (IsLiveIn kept.facts.files db)

  abbrev d : Directory
  d = serving.log.directory.directory

  abbrev log : List ℕ
  log = name_of (Log db.log.number)

  spares : SparesRead Dead kept.facts.files db.directory db.tables
  spares = spares_dead kept.facts.files db.log db.directory db.tables (λ number. IsTableUsed db.tables db.job db.iterators number) serving.synced.names
      (λ p there. table_used db.tables db.job db.iterators p.table.number (p, there, refl))

  unread : ReadsNone kept.facts.files d Dead
  unread = reads_none order kept db n serving same new Dead writes spares

  good : IsConsistent order kept.facts.files d
  good = subst (λ (fs : Files). IsConsistent order fs d) same serving.log.directory.consistent

  -- the new log is the last of them
  log_in_all : InLogs d.logs db.log.number
  log_in_all =
      let ends = serving.log.directory.ends in
      let last : InLogs d.logs ends.last.number = subst (λ (logs : List LogContent). InLogs logs ends.last.number) (sym ends.logs) (in_second ends.last.number ends.before (ends.last ∷ []) (inl refl)) in
      subst (InLogs d.logs) ends.number last

  -- What a loss has left in its middle, but for what isn't read.
  taken : (lost : Files) → Lost new (moment kept.facts) lost → IsTaken kept.facts log Dead (names_read kept.facts.files d) lost
  taken lost h =
      lost_removed kept.facts new log Dead (names_read kept.facts.files d) afresh sound writes (none_dead order kept.facts Dead d good unread) (names_log order kept.facts Dead d good unread db.log.number log_in_all) lost h

  stays_or_goes : (q : List ℕ) → StaysOrGoes kept.facts new q
  stays_or_goes q = elim (left q) [ inl stayed ↦ left_stays kept.facts new q stayed | inr gone ↦ inl gone ]

  as_left : (lost : Files) (h : Lost new (moment kept.facts) lost) (q : List ℕ) → IsAsLeft kept.facts (taken lost h).before lost q
  as_left lost h q = elim ((taken lost h).each q) [ inl is ↦ inl is | inr was ↦ inr (inr was) ]

  pub removed_on : LosesOn order old kept.facts → LosesOn order old new
  removed_on opens since bound m stays here =
      let P = LeavesFirst order since bound m in
      let first = opens since bound m stays here in
      let before : LosesOnly kept.facts kept.facts P = loses_later old kept.facts goes.0 P goes.1 first.0 in
      let behind : LosesOnly kept.facts new P = λ lost h spared.
      let t = taken lost h in
      holds_taken order kept.facts Dead d good unread db.log.number log_in_all serving.synced.synced.current (subst (λ (i : ℕ). IsKept kept.facts (name_of (Manifest i))) serving.log.knows.number serving.synced.synced.manifest) lost t m
      (before t.before t.left (spares_before since kept.facts bound t.before lost first.1.each
      (λ i num below. (as_left lost h (name_of (Table i)), as_left lost h (name_of (OldTable i)), as_left lost h (name_of (Log i)))) spared)) in (
        loses_both old kept.facts new writes.leaves.more P writes.leaves.calls first.0 behind,
        stays_through since kept.facts new bound (writes.leaves.now (name_of Current) (unread (name_of Current) (inl (inl refl))))
            (λ i num below. (stays_or_goes (name_of (Table i)), stays_or_goes (name_of (OldTable i)), stays_or_goes (name_of (Log i)))) first.1,
      )

-- From each state without damage that the directory may be in, with syncs before it.
pub opened_on : {K : Type 0} {g : _} (order : Order) (old : Facts) (mid kept new : Seen) (db cleared after : OpenDb K g) (mode : Mode) → (IsTrue new.facts.faithful → IsTrue kept.facts.faithful) → (IsTrue kept.facts.faithful → IsTrue mid.facts.faithful)
    → ((ids : Ids) → Leads old kept.facts (Rests order old ids) (StandsOpen order kept ids cleared) (λ m n. Opens m mode Done n)) → (IsTrue kept.facts.faithful → LosesOn order old kept.facts)
    → SyncsBeginnings kept.facts → (IsTrue mid.facts.faithful → RenewsWhole order old mid.facts db.log db.directory) → (IsTrue kept.facts.faithful → (done : List (List ℕ)) × SyncsEach done mid.facts kept.facts)
    → cleared.log.number ≡ db.log.number → cleared.broken ≡ false
    → (IsTrue new.facts.faithful → WritesOnly kept.facts new.facts (IsDead (IsLiveIn kept.facts.files cleared))) → (IsTrue new.facts.faithful → LosesDead kept.facts new.facts after)
    → IsTrue new.facts.faithful → (ids : Ids) (m : Machine) → m.damaged ≡ false → Rests order old ids m → LosesOn order old new.facts
opened_on order old mid kept new db cleared after mode back further step first sound renewed syncs number whole only removes f ids m undamaged r =
    let one = (step ids).moved (back f) m r in
    let n = one.0 in
    let serving = serving_whole order kept ids cleared n (record { stands = one.2; undamaged = opens_flag m n mode Done one.1 ∙ undamaged }) whole in
    let wrote = renewed (further (back f)) in
    let each = syncs (back f) in
    let goes = to_both old mid.facts kept.facts (whole_calls order old mid.facts db.log db.directory wrote) (each_calls each.0 mid.facts kept.facts each.1) in
    let made = afresh_each each.0 mid.facts kept.facts (name_of (Log db.log.number)) each.1 (whole_afresh order old mid.facts db.log db.directory wrote) in
    let afresh : EndsAfresh kept.facts (name_of (Log cleared.log.number)) = subst (λ (i : ℕ). EndsAfresh kept.facts (name_of (Log i))) (sym number) made in
    removed_on order old kept cleared n serving refl sound goes afresh new.facts (only f) (λ q. elim (removes f q) [ inl left ↦ inl left | inr gone ↦ inr gone.1 ]) (first (back f))
