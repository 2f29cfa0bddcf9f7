-- What stays synced over a seal, a flush, a removal of files and an open.
use Rattle.std.proofs.Common.{◌≡◌, ◌≢◌, ◌⊎◌, ◌<◌, ◌≤◌, ◌+◌, ◌^◌, ◌++◌, ℕ, zero, suc, true, false, is_some, List, [], ◌∷◌, Contains, map, Option, Some, None, inl, inr, refl, sym, ap, subst, ◌∙◌, arith, string_bytes}
use Rattle.std.proofs.lemmas.Bool.{cases_lt, cond_both}
use Rattle.std.specs.FinMap.{get, contains_key}
use Rattle.std.specs.List.{AllByRecursion}
use Rattle.edits.specs.Layout.{inserted, is_before}
use Rattle.edits.specs.Names.{name_of, IsFileName, IsNumbered}
use Rattle.edits.specs.declared.field.PlacedTable.{PlacedTable}
use Rattle.edits.specs.declared.field.TableFile.{TableFile}
use Rattle.edits.specs.declared.names.FileName.{FileName}
use Rattle.edits.specs.declared.names.FileName.TheVariants.{Current, Log, Manifest, Table, OldTable}
use Rattle.edits.specs.declared.numbers.FileNumbers.{FileNumbers}
use Rattle.opening.specs.Losses.{AreInDoubt, BeginsSpared, IsKept, IsLogBelow, IsLogRead, IsNoneOf, IsTableKept}
use Rattle.opening.specs.Durable.{IsSynced, LeavesFile}
use Rattle.opening.specs.declared.directory.CurrentLog.{CurrentLog}
use Rattle.opening.specs.declared.directory.DirectoryState.{DirectoryState}
use Rattle.opening.proofs.Reopening.{files_apart}
use Rattle.store.specs.Calls.{Adds, Idles}
use Rattle.store.specs.Files.{Creation, Facts, Files, Synced}
use Rattle.store.proofs.Carrying.{carries_same}
use Rattle.store.proofs.Staying.{stays_on}
use Rattle.store.specs.Losses.{CarriesBut, StaysNamed, behind_sync}
use Rattle.directory_writes.specs.internal.Flush.{DrawsTable}
use Rattle.directory_writes.specs.internal.Install.{IsTableSynced}
use Rattle.directory_writes.specs.internal.Removal.{table_number}
use Rattle.ikey.specs.Orders.{Order}
use Rattle.running_job.specs.internal.Staying.{LeavesWhole}
use Rattle.recover.specs.Numbers.{IsFree}
use Rattle.versions.specs.Levels.{ListsSameTables}
use Rattle.engine.proofs.Compacting.{all_contains}
use Rattle.engine.proofs.StayedNames.{stayed_begun, stayed_behind, stayed_opened, stayed_same, undrawn_still}
use Rattle.engine.specs.internal.Synced.{HaveNames, HaveStayed, IsSyncedBut}

-- ---- names

-- a file that a call leaves, and what of it is synced
pub kept_still : (old new : Facts) (q : List ℕ) → LeavesFile old new q → IsKept old q → IsKept new q
kept_still old new q left h bytes there = left.1 ∙ h bytes (sym left.0 ∙ there)

-- the same of a table
pub table_still : (old new : Facts) (n : ℕ) → LeavesFile old new (name_of (Table n)) → LeavesFile old new (name_of (OldTable n)) → IsTableKept old n → IsTableKept new n
table_still old new n newer older h = (kept_still old new (name_of (Table n)) newer h.0, λ none. kept_still old new (name_of (OldTable n)) older (h.1 (sym newer.0 ∙ none)))

-- one that is there, and synced whole
pub table_synced : (facts : Facts) (n : ℕ) → IsTableSynced facts n → IsTableKept facts n
table_synced facts n whole = (λ bytes there. whole.2 ∙ (sym whole.1 ∙ there), λ none. absurd (let bad : None ≡ Some whole.0 = sym none ∙ whole.1 in cc))

pub one_number : {a b : ℕ} → Table a ≡ Table b → b ≡ a
one_number e = cc

log_number : {a b : ℕ} → Log a ≡ Log b → a ≡ b
log_number e = cc

logs_apart : (a b : ℕ) → IsNumbered a → IsNumbered b → a ≢ b → name_of (Log a) ≢ name_of (Log b)
logs_apart a b num other apart = files_apart (Log a) (Log b) num other (λ e. apart (log_number e))

none_both : (q : List ℕ) (xs ys : List (List ℕ)) → IsNoneOf q (xs ++ ys) → IsNoneOf q xs × IsNoneOf q ys
none_both q [] ys h = (tt, h)
none_both q (x ∷ xs) ys h = (let rest = none_both q xs ys h.1 in ((h.0, rest.0), rest.1))

below_more : (bound more : ℕ) (names : List (List ℕ)) → bound ≤ more → AllByRecursion (IsLogBelow bound) names → AllByRecursion (IsLogBelow more) names
below_more bound more [] le h = tt
below_more bound more (name ∷ names) le h = ((h.0.0, h.0.1, (let less = h.0.2 in omega (arith, le, less)), h.0.3), below_more bound more names le h.1)

all_both : (P : List ℕ → Type 0) (xs ys : List (List ℕ)) → AllByRecursion P xs → AllByRecursion P ys → AllByRecursion P (xs ++ ys)
all_both P [] ys h k = k
all_both P (x ∷ xs) ys h k = (h.0, all_both P xs ys h.1 k)

-- a log above them all is none of them
none_above : (n bound : ℕ) (names : List (List ℕ)) → IsNumbered n → bound ≤ n → AllByRecursion (IsLogBelow bound) names → IsNoneOf (name_of (Log n)) names
none_above n bound [] num le h = tt
none_above n bound (name ∷ names) num le h = (
  (λ is. logs_apart n h.0.0 num h.0.1 (λ same. (let less = h.0.2 in omega (arith, le, less, same))) (is ∙ h.0.3)),
  none_above n bound names num le h.1,
)

-- the same of one of a compaction's tables
pub whole_left : (old new : Facts) (q : List ℕ) → LeavesFile old new q → (StaysNamed old q → StaysNamed new q) → LeavesWhole old new q
whole_left old new q left names = (left.0, λ file there was. left.1 ∙ was, names)

-- it is as before, or gone
pub lost_kept : (old new : Facts) (q : List ℕ) → LeavesFile old new q ⊎ (get new.files q ≡ None) → IsKept old q → IsKept new q
lost_kept old new q (inl left) h = kept_still old new q left h
lost_kept old new q (inr none) h = λ bytes there. absurd (let bad : None ≡ Some bytes = sym none ∙ there in cc)

pub lost_table : (old new : Facts) (n : ℕ) → LeavesFile old new (name_of (Table n)) ⊎ (get new.files (name_of (Table n)) ≡ None) → LeavesFile old new (name_of (OldTable n)) ⊎ (get new.files (name_of (OldTable n)) ≡ None)
    → get new.files (name_of (Table n)) ≡ get old.files (name_of (Table n)) → IsTableKept old n → IsTableKept new n
lost_table old new n newer older same h = (lost_kept old new (name_of (Table n)) newer h.0, λ none. lost_kept old new (name_of (OldTable n)) older (h.1 (sym same ∙ none)))

-- ---- a new log

module _ (old new : Facts) (log after : CurrentLog) (state : DirectoryState) (numbers : FileNumbers) (tables : List PlacedTable) (number : after.number ≡ state.numbers.next) (name : string_bytes after.name ≡ name_of (Log state.numbers.next))
    (front : map string_bytes after.front.items ≡ map string_bytes log.front.items ++ string_bytes log.name ∷ []) (next : numbers.next ≡ state.numbers.next + 1) (fits : state.numbers.next < 2 ^ 62)
    (left : (q : List ℕ) → q ≢ name_of (Log state.numbers.next) → LeavesFile old new q) (carries : CarriesBut old new (λ (q : List ℕ). q ≡ name_of (Log state.numbers.next)))
    (noted : Idles old new ⊎ Adds old new (Creation (name_of (Log state.numbers.next)))) (unsynced : new.synced (name_of (Log state.numbers.next)) ≡ None) (h : IsSyncedBut old log state tables) where
  new_number : IsNumbered state.numbers.next
  new_number = (state.numbers.in_range.0, omega (arith, fits))

  beside : (file : FileName) → IsFileName file → file ≢ Log state.numbers.next → LeavesFile old new (name_of file)
  beside file is other = left (name_of file) (files_apart file (Log state.numbers.next) is new_number other)

  apart : (file : FileName) → IsFileName file → file ≢ Log state.numbers.next → IsKept old (name_of file) → IsKept new (name_of file)
  apart file is other kept = kept_still old new (name_of file) (beside file is other) kept

  pub sealed_synced : IsSyncedBut new after (record state { numbers = numbers }) tables
  sealed_synced = record {
    synced = record {
      current = apart Current tt (λ e. cc) h.synced.current;
      manifest = apart (Manifest state.manifest.number) h.names.manifest.0 (λ e. cc) h.synced.manifest;
      others = λ n num read none.
          let behind = none_both (name_of (Log n)) (map string_bytes log.front.items) (string_bytes log.name ∷ []) (subst (IsNoneOf (name_of (Log n))) front none.1) in
          kept_still old new (name_of (Log n)) (left (name_of (Log n)) (λ is. none.0 (is ∙ sym name))) (h.synced.others n num read (behind.1.0, behind.0));
      placed = λ placed there from.
          let numbered = (h.names.placed placed there).0 in
          table_still old new placed.table.number (beside (Table placed.table.number) numbered (λ e. cc)) (beside (OldTable placed.table.number) numbered (λ e. cc)) (h.synced.placed placed there from);
    };
    names = record {
      last = subst (λ (n : ℕ). IsNumbered n × (n < numbers.next) × (string_bytes after.name ≡ name_of (Log n))) (sym number) (new_number, omega (arith, next), name);
      front = subst (λ (n : ℕ). AllByRecursion (IsLogBelow n) (map string_bytes after.front.items)) (sym number) (subst (AllByRecursion (IsLogBelow state.numbers.next)) (sym front)
          (all_both (IsLogBelow state.numbers.next) (map string_bytes log.front.items) (string_bytes log.name ∷ [])
          (below_more log.number state.numbers.next (map string_bytes log.front.items) (let less = h.names.last.1 in omega (arith, less)) h.names.front)
          ((log.number, h.names.last.0, h.names.last.1, h.names.last.2), tt)));
      forward = (let least = h.names.forward in let less = h.names.last.1 in omega (arith, least, less, number));
      begun = (let since = h.names.begun in let less = h.names.last.1 in omega (arith, since, less, number));
      manifest = h.names.manifest;
      placed = λ placed there. (let known = h.names.placed placed there in (known.0, (let less = known.1 in omega (arith, less, next))));
    };
    stayed = stayed_begun old new log state numbers tables next fits h.names carries noted unsynced h.stayed;
  }

-- ---- the logs stay

module _ (old new : Facts) (log : CurrentLog) (state later : DirectoryState) (tables more : List PlacedTable) (number : later.manifest.number ≡ state.manifest.number) (name : later.manifest.name ≡ state.manifest.name)
    (first_log : later.first_log ≡ state.first_log) (previous_log : later.previous_log ≡ state.previous_log) (le : state.numbers.next ≤ later.numbers.next)
    (left : (file : FileName) → IsFileName file → table_number file ≡ None → IsKept old (name_of file) → IsKept new (name_of file)) (h : IsSyncedBut old log state tables) where
  read_before : (n : ℕ) → IsLogRead later n → IsLogRead state n
  read_before n (inl least) = inl (subst (λ (k : ℕ). k ≤ n) first_log least)
  read_before n (inr is) = inr (is.0 ∙ previous_log, is.1)

  -- with these tables
  pub synced_with : ((p : PlacedTable) → Contains more p → state.manifest.number ≤ p.table.number → IsTableKept new p.table.number)
      → ((p : PlacedTable) → Contains more p → IsNumbered p.table.number × (p.table.number < later.numbers.next)) → HaveStayed new later more → IsSyncedBut new log later more
  synced_with placed named stayed = record {
    synced = record {
      current = left Current tt refl h.synced.current;
      manifest = subst (λ (n : ℕ). IsKept new (name_of (Manifest n))) (sym number) (left (Manifest state.manifest.number) h.names.manifest.0 refl h.synced.manifest);
      others = λ n num read none. left (Log n) num refl (h.synced.others n num (read_before n read) none);
      placed = λ p there from. placed p there (subst (λ (n : ℕ). n ≤ p.table.number) number from);
    };
    names = record {
      last = (h.names.last.0, (let less = h.names.last.1 in omega (arith, less, le)), h.names.last.2);
      front = h.names.front;
      forward = subst (λ (n : ℕ). n ≤ log.number) (sym first_log) h.names.forward;
      begun = subst (λ (n : ℕ). n < log.number) (sym number) h.names.begun;
      manifest = (subst IsNumbered (sym number) h.names.manifest.0, ap string_bytes name ∙ h.names.manifest.1 ∙ ap (λ (n : ℕ). name_of (Manifest n)) (sym number));
      placed = named;
    };
    stayed = stayed;
  }

-- and the tables
module _ (old new : Facts) (log : CurrentLog) (state later : DirectoryState) (tables : List PlacedTable) (number : later.manifest.number ≡ state.manifest.number) (name : later.manifest.name ≡ state.manifest.name)
    (first_log : later.first_log ≡ state.first_log) (previous_log : later.previous_log ≡ state.previous_log) (le : state.numbers.next ≤ later.numbers.next) (h : IsSyncedBut old log state tables) where
  pub synced_still : ((file : FileName) → IsFileName file → table_number file ≡ None → IsKept old (name_of file) → IsKept new (name_of file))
      → ((p : PlacedTable) → Contains tables p → IsNumbered p.table.number × (p.table.number < state.numbers.next) → IsTableKept old p.table.number → IsTableKept new p.table.number) → HaveStayed new later tables → IsSyncedBut new log later tables
  synced_still left placed stayed =
      synced_with old new log state later tables tables number name first_log previous_log le left h
      (λ p there from. placed p there (h.names.placed p there) (h.synced.placed p there from))
      (λ p there. (let known = h.names.placed p there in (known.0, (let less = known.1 in omega (arith, less, le))))) stayed

  -- all files
  pub synced_beside : new.files ≡ old.files → new.synced ≡ old.synced → HaveStayed new later tables → IsSyncedBut new log later tables
  synced_beside files synced stayed =
      let left : (q : List ℕ) → LeavesFile old new q = λ q. (ap (λ (fs : Files). get fs q) files, ap (λ (s : Synced). s q) synced) in
      synced_still (λ file is none. kept_still old new (name_of file) (left (name_of file)))
      (λ p there known. table_still old new p.table.number (left (name_of (Table p.table.number))) (left (name_of (OldTable p.table.number))))
      stayed

  pub synced_same : new.calls ≡ old.calls → new.files ≡ old.files → new.synced ≡ old.synced → IsSyncedBut new log later tables
  synced_same calls files synced = synced_beside files synced (stayed_same old new log state later tables number first_log previous_log le h.names calls files synced h.stayed)

-- the tables of these numbers keep their names, if these have stayed since the last sync
abbrev pub KeepsNames : Facts → Facts → (ℕ → Type 0) → Type 0
KeepsNames old new used = (n : ℕ) → IsNumbered n → used n → StaysNamed old (name_of (Table n)) → StaysNamed new (name_of (Table n))

pub names_carried : (old new : Facts) (mine : List ℕ → Type 0) (used : ℕ → Type 0) → ((n : ℕ) → IsNumbered n → used n → mine (name_of (Table n)) → ⊥) → CarriesBut old new mine → KeepsNames old new used
names_carried old new mine used apart carries n numbered one = stays_on old new mine (name_of (Table n)) (apart n numbered one) carries

-- What a call does to what is synced, where it writes no table and leaves all that is known but the
-- log.
abbrev pub StaysSynced : Facts → Facts → CurrentLog → CurrentLog → DirectoryState → List PlacedTable → (ℕ → Type 0) → Type 0
StaysSynced old new log after state tables used = IsSyncedBut old log state tables
    → IsSyncedBut new after state tables × ((n : ℕ) → IsNumbered n → new.synced (name_of (Table n)) ≡ old.synced (name_of (Table n))) × KeepsNames old new used

pub stays_same : (old new : Facts) (log : CurrentLog) (state : DirectoryState) (tables : List PlacedTable) (used : ℕ → Type 0) → new.calls ≡ old.calls → new.files ≡ old.files → new.synced ≡ old.synced → StaysSynced old new log log state tables used
stays_same old new log state tables used calls files synced h = (
  synced_same old new log state state tables refl refl refl refl (omega arith) h calls files synced,
  λ n numbered. ap (λ (s : Synced). s (name_of (Table n))) synced,
  names_carried old new (λ (q : List ℕ). ⊥) used (λ n numbered one is. is) (carries_same old new (λ (q : List ℕ). ⊥) calls files synced),
)

-- or may have done something that is undone
pub stays_beside : (old new : Facts) (log : CurrentLog) (state : DirectoryState) (tables : List PlacedTable) (used : ℕ → Type 0) → new.files ≡ old.files → new.synced ≡ old.synced → (IsSyncedBut old log state tables → HaveStayed new state tables)
    → KeepsNames old new used → StaysSynced old new log log state tables used
stays_beside old new log state tables used files synced stayed keeps h =
    (synced_beside old new log state state tables refl refl refl refl (omega arith) h files synced (stayed h), λ n numbered. ap (λ (s : Synced). s (name_of (Table n))) synced, keeps)

-- what is no table's
pub no_table : (file : FileName) (n : ℕ) → table_number file ≡ None → file ≢ Table n
no_table file n none is = (let bad : None ≡ Some n = sym none ∙ ap table_number is in cc)

-- ---- a flush

head_or : (x p : PlacedTable) (xs : List PlacedTable) → Contains (x ∷ xs) p → (x ≡ p) ⊎ Contains xs p
head_or x p xs (zero, less, is) = inl is
head_or x p xs (suc k, less, is) = inr (k, omega (arith, less), is)

behind_head : (x p : PlacedTable) (xs : List PlacedTable) → Contains xs p → Contains (x ∷ xs) p
behind_head x p xs c = (suc c.0, (let less = c.1 in omega (arith, less)), c.2)

in_inserted : (new p : PlacedTable) (tables : List PlacedTable) → Contains (inserted new tables) p → (new ≡ p) ⊎ Contains tables p
in_inserted new p [] c = elim (head_or new p [] c) [ inl is ↦ inl is | inr other ↦ inr other ]
in_inserted new p (t ∷ tables) c =
    cond_both (is_before new t) (new ∷ t ∷ tables) (t ∷ inserted new tables) (λ (ts : List PlacedTable). Contains ts p → (new ≡ p) ⊎ Contains (t ∷ tables) p)
    (λ _ d. head_or new p (t ∷ tables) d)
    (λ _ d. elim (head_or t p (inserted new tables) d) [
      | inl is ↦ inr (0, omega arith, is)
      | inr other ↦ elim (in_inserted new p tables other) [ inl is ↦ inl is | inr there ↦ inr (behind_head t p tables there) ]
    ]) c

module _ (old new : Facts) (log after : CurrentLog) (state : DirectoryState) (numbers : FileNumbers) (end : ℕ) (tables more : List PlacedTable) (table : TableFile)
    (number : after.number ≡ log.number) (name : string_bytes after.name ≡ string_bytes log.name) (front : after.front.items ≡ []) (next : numbers.next ≡ state.numbers.next + 1) (some : 0 < state.numbers.next) (fits : state.numbers.next < 2 ^ 62)
    (table_is : table.number ≡ state.numbers.next) (lists : ListsSameTables (inserted (record { level = 0; table = table }) tables) more)
    (left : (q : List ℕ) → q ≢ name_of (Table state.numbers.next) → q ≢ string_bytes state.manifest.name → LeavesFile old new q)
    (written : name_of (Table state.numbers.next) ≢ string_bytes state.manifest.name → IsSynced new (name_of (Table state.numbers.next))) (edited : IsSynced new (string_bytes state.manifest.name))
    (free : get old.files (name_of (OldTable state.numbers.next)) ≡ None) (carries : CarriesBut old new (λ (q : List ℕ). q ≡ name_of (Table state.numbers.next))) (ends : behind_sync [] new.calls ≡ []) (h : IsSyncedBut old log state tables) where
  abbrev flushed : DirectoryState
  flushed = record state { numbers = numbers; manifest = record state.manifest { end = end }; first_log = log.number; previous_log = 0 }

  only : (p : PlacedTable) → Contains more p → Contains (inserted (record { level = 0; table = table }) tables) p
  only p there = all_contains (Contains (inserted (record { level = 0; table = table }) tables)) more p lists.only there

  drawn : IsNumbered state.numbers.next
  drawn = (some, omega (arith, fits))

  -- neither the table nor the MANIFEST
  besides : (file : FileName) → IsFileName file → file ≢ Table state.numbers.next → file ≢ Manifest state.manifest.number → LeavesFile old new (name_of file)
  besides file is other another =
      left (name_of file) (files_apart file (Table state.numbers.next) is drawn other)
      (λ same. files_apart file (Manifest state.manifest.number) is h.names.manifest.0 another (same ∙ h.names.manifest.1))

  beside_kept : (file : FileName) → IsFileName file → file ≢ Table state.numbers.next → file ≢ Manifest state.manifest.number → IsKept old (name_of file) → IsKept new (name_of file)
  beside_kept file is other another kept = kept_still old new (name_of file) (besides file is other another) kept

  synced_kept : (q : List ℕ) → IsSynced new q → IsKept new q
  synced_kept q is bytes there = is ∙ there

  none_there : {P : Type 0} (o : Option (List ℕ)) (bytes : List ℕ) → o ≡ None → o ≡ Some bytes → P
  none_there o bytes none some = absurd (let bad : None ≡ Some bytes = sym none ∙ some in cc)

  -- the new table
  table_kept : IsTableKept new state.numbers.next
  table_kept = (
    synced_kept (name_of (Table state.numbers.next)) (written (λ same. files_apart (Table state.numbers.next) (Manifest state.manifest.number) drawn h.names.manifest.0 (λ e. cc) (same ∙ h.names.manifest.1))),
    λ none bytes there. none_there (get new.files (name_of (OldTable state.numbers.next))) bytes
        ((besides (OldTable state.numbers.next) drawn (λ e. cc) (λ e. cc)).0 ∙ free) there,
  )

  same_number : {a b : ℕ} → Table a ≡ Table b → a ≡ b
  same_number e = cc

  -- one that was there
  old_kept : (p : PlacedTable) → Contains tables p → state.manifest.number ≤ p.table.number → IsTableKept new p.table.number
  old_kept p there from =
      let known = h.names.placed p there in
      table_still old new p.table.number (besides (Table p.table.number) known.0 (λ e. (let same = same_number e in let less = known.1 in omega (arith, same, less))) (λ e. cc))
      (besides (OldTable p.table.number) known.0 (λ e. cc) (λ e. cc)) (h.synced.placed p there from)

  of_number : (p : PlacedTable) → record { level = 0; table = table } ≡ p → p.table.number ≡ state.numbers.next
  of_number p is = sym (ap (λ (q : PlacedTable). q.table.number) is) ∙ table_is

  above_log : (n : ℕ) → IsNumbered n → IsLogRead flushed n → name_of (Log n) ≢ string_bytes log.name → log.number < n
  above_log n num (inl least) apart = (let other : n ≢ log.number = λ same. apart (ap (λ (k : ℕ). name_of (Log k)) same ∙ sym h.names.last.2) in elim (cases_lt log.number n) [
    | inl less ↦ less
    | inr most ↦ absurd (let at_least : log.number ≤ n = least in other (omega (arith, most, at_least)))
  ])
  above_log n num (inr none) apart = absurd (let zero_is : n ≡ 0 = none.0 in let some : 0 < n = none.1 in omega (arith, zero_is, some))

  pub flushed_synced : IsSyncedBut new after flushed more
  flushed_synced = record {
    synced = record {
      current = beside_kept Current tt (λ e. cc) (λ e. cc) h.synced.current;
      manifest = subst (IsKept new) h.names.manifest.1 (synced_kept (string_bytes state.manifest.name) edited);
      others = λ n num read none.
          let apart : name_of (Log n) ≢ string_bytes log.name = λ is. none.0 (is ∙ sym name) in
          let less = above_log n num read apart in
          let before = h.names.forward in
          beside_kept (Log n) num (λ e. cc) (λ e. cc)
          (h.synced.others n num (inl (omega (arith, before, less))) (apart, none_above n log.number (map string_bytes log.front.items) num (omega (arith, less)) h.names.front));
      placed = λ p there from. elim (in_inserted (record { level = 0; table = table }) p tables (only p there)) [
        | inl is ↦ subst (IsTableKept new) (sym (of_number p is)) table_kept
        | inr was ↦ old_kept p was from
      ];
    };
    names = record {
      last = subst (λ (n : ℕ). IsNumbered n × (n < numbers.next) × (string_bytes after.name ≡ name_of (Log n))) (sym number) (h.names.last.0, (let less = h.names.last.1 in omega (arith, less, next)), name ∙ h.names.last.2);
      front = subst (λ (names : List (List ℕ)). AllByRecursion (IsLogBelow after.number) names) (sym (ap (map string_bytes) front)) tt;
      forward = omega (arith, number);
      begun = (let since = h.names.begun in omega (arith, since, number));
      manifest = h.names.manifest;
      placed = λ p there. elim (in_inserted (record { level = 0; table = table }) p tables (only p there)) [
        | inl is ↦ subst (λ (n : ℕ). IsNumbered n × (n < numbers.next)) (sym (of_number p is)) (drawn, omega (arith, next))
        | inr was ↦ (let known = h.names.placed p was in (known.0, (let less = known.1 in omega (arith, less, next))))
      ];
    };
    stayed = stayed_behind new flushed more ends (undrawn_still old new (λ (q : List ℕ). q ≡ name_of (Table state.numbers.next)) state tables numbers.next carries (λ n num. files_apart (Log n) (Table state.numbers.next) num drawn (λ e. cc)) (omega (arith, next)) h.stayed);
  }

-- ---- an open

module _ (new : Facts) (log : CurrentLog) (state : DirectoryState) (tables : List PlacedTable) (doubt : AreInDoubt new.files log state) (names : HaveNames log state tables)
    (current : IsKept new (name_of Current)) (manifest : IsKept new (name_of (Manifest state.manifest.number))) (found : (p : PlacedTable) → Contains tables p → p.table.number < state.manifest.number)
    (since : BeginsSpared new (string_bytes log.name)) (undrawn : (n : ℕ) → IsNumbered n → state.numbers.next ≤ n → contains_key new.files (name_of (Log n)) ≡ false) where
  pub opened_synced : IsSyncedBut new log state tables
  opened_synced = record {
    synced = record {
      current = current;
      manifest = manifest;
      others = λ n num read none bytes there. absurd (let gone : get new.files (name_of (Log n)) ≡ None = doubt.all n num read none in let bad : None ≡ Some bytes = sym gone ∙ there in cc);
      placed = λ p there from. absurd (let less = found p there in omega (arith, less, from));
    };
    names = names;
    stayed = stayed_opened new log state tables since names undrawn;
  }

-- ---- numbers that are drawn

pub drawn_least : (old new : Facts) (next after : ℕ) → ((after ≡ next) × (new ≡ old)) ⊎ ((after ≡ next + 1) × (next < 2 ^ 62)) → next ≤ after
drawn_least old new next after (inl none) = (let is = none.0 in omega (arith, is))
drawn_least old new next after (inr more) = (let is = more.0 in omega (arith, is))

pub drawn_some : (old new : Facts) (next after : ℕ) → after ≡ next + 1 → DrawsTable old new next after → (0 < next) × (next < 2 ^ 62)
drawn_some old new next after is (inl none) = absurd (let same = none.0 in omega (arith, is, same))
drawn_some old new next after is (inr more) = (more.1, more.2)

not_there : (o : Option (List ℕ)) → (is_some o ≡ true → ⊥) → o ≡ None
not_there None h = refl
not_there (Some x) h = absurd (h refl)

-- no table has a number that is free
pub no_old_table : (order : Order) (files : Files) (next : ℕ) → IsFree order files next → 0 < next → next < 2 ^ 62 → get files (name_of (OldTable next)) ≡ None
no_old_table order files next free some fits = not_there (get files (name_of (OldTable next))) (λ there. (let below : next < next = free.listed (OldTable next) (some, omega (arith, fits)) there in omega (arith, below)))
