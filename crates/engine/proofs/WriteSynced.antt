-- What stays synced over a write.
use Rattle.std.proofs.Common.{◌≡◌, ◌≢◌, ◌<◌, ◌≤◌, ℕ, Bool, true, false, List, [], ◌∷◌, Contains, map, Result, Ok, IsTrue, inl, inr, refl, sym, ap, subst, ◌∙◌, arith, length, string_bytes}
use Rattle.std.specs.List.{AllByRecursion}
use Rattle.batch.specs.declared.operation.Operation.{Operation}
use Rattle.edits.specs.Names.{name_of, IsNumbered}
use Rattle.edits.specs.declared.field.PlacedTable.{PlacedTable}
use Rattle.edits.specs.declared.names.FileName.TheVariants.{Current, Log, Manifest, Table, OldTable}
use Rattle.opening.specs.Durable.{IsSynced, LeavesFile}
use Rattle.opening.specs.Losses.{IsKept, IsLogBelow, IsLogRead, IsNoneOf, IsTableKept, logs_in_doubt}
use Rattle.opening.specs.declared.directory.CurrentLog.{CurrentLog}
use Rattle.opening.specs.declared.directory.DirectoryState.{DirectoryState}
use Rattle.opening.specs.internal.Calls.{KeepsOthers}
use Rattle.recover.proofs.Adding.{current_apart, logs_apart, manifest_apart, old_table_apart, table_apart}
use Rattle.store.specs.Files.{Facts}
use Rattle.store.specs.Losses.{CarriesBut}
use Rattle.engine.proofs.FrontSyncing.{same_or_other}
use Rattle.engine.proofs.RecentSure.{SyncsLast}
use Rattle.engine.proofs.StayedNames.{stayed_all}
use Rattle.engine.proofs.Synced.{KeepsNames, kept_still, names_carried, table_still}
use Rattle.engine.specs.Touching.{SyncsLog}
use Rattle.engine.specs.internal.Synced.{AreSyncedBut, HaveNames, IsSyncedBut}

-- ---- names

-- what is no log's is none of these
none_below : (q : List ℕ) (bound : ℕ) (names : List (List ℕ)) → ((n : ℕ) → IsNumbered n → q ≢ name_of (Log n)) → AllByRecursion (IsLogBelow bound) names → IsNoneOf q names
none_below q bound [] apart logs = tt
none_below q bound (name ∷ names) apart logs = ((λ is. apart logs.0.0 logs.0.1 (is ∙ logs.0.3)), none_below q bound names apart logs.1)

pub none_of_logs : (q : List ℕ) (log : CurrentLog) (state : DirectoryState) (tables : List PlacedTable) → ((n : ℕ) → IsNumbered n → q ≢ name_of (Log n)) → HaveNames log state tables → IsNoneOf q (logs_in_doubt log)
none_of_logs q log state tables apart names = ((λ is. apart log.number names.last.0 (is ∙ names.last.2)), none_below q log.number (map string_bytes log.front.items) apart names.front)

pub kept_synced : (facts : Facts) (q : List ℕ) → IsSynced facts q → IsKept facts q
kept_synced facts q is bytes there = is ∙ there

not_below : (m n : ℕ) → m ≡ n → n < m → ⊥
not_below m n same below = omega (arith, same, below)

-- one of these, or none of them
pub kept_each : (facts : Facts) (q : List ℕ) (names : List (List ℕ)) → AllByRecursion (IsSynced facts) names → (IsNoneOf q names → IsKept facts q) → IsKept facts q
kept_each facts q [] h other = other tt
kept_each facts q (name ∷ names) h other = elim (same_or_other q name) [
  | inl it ↦ subst (IsKept facts) (sym it) (kept_synced facts name h.0)
  | inr apart ↦ kept_each facts q names h.1 (λ none. other (apart, none))
]

-- ---- a write

pub no_operations : (operations : List Operation) → length operations ≡ 0 → operations ≡ []
no_operations [] is = refl
no_operations (one ∷ operations) is = absurd (omega (arith, is))

module _ (old new : Facts) (log : CurrentLog) (state : DirectoryState) (tables : List PlacedTable)
    (beside : KeepsOthers old.files new.files (string_bytes log.name))
    (others : (q : List ℕ) → q ≢ string_bytes log.name → IsNoneOf q (map string_bytes log.front.items) → new.synced q ≡ old.synced q)
    (carries : CarriesBut old new (λ (q : List ℕ). ⊥)) (h : IsSyncedBut old log state tables) where
  pub beside_all : (q : List ℕ) → IsNoneOf q (logs_in_doubt log) → LeavesFile old new q
  beside_all q none = (beside q none.0, others q none.0 none.1)

  still : (q : List ℕ) → IsNoneOf q (logs_in_doubt log) → IsKept old q → IsKept new q
  still q none kept = kept_still old new q (beside_all q none) kept

  apart : (q : List ℕ) → ((n : ℕ) → IsNumbered n → q ≢ name_of (Log n)) → IsKept old q → IsKept new q
  apart q other kept = still q (none_of_logs q log state tables other h.names) kept

  abbrev Reads : List (List ℕ) → Type 0
  Reads logs = (n : ℕ) → IsNumbered n → IsLogRead state n → IsNoneOf (name_of (Log n)) logs → IsKept new (name_of (Log n))

  -- the same of all tables
  tables_as : (placed : PlacedTable) → Contains tables placed → state.manifest.number ≤ placed.table.number → IsTableKept new placed.table.number
  tables_as placed there from =
      let numbered = (h.names.placed placed there).0 in
      let newer = none_of_logs (name_of (Table placed.table.number)) log state tables (λ n num. table_apart placed.table.number n numbered num) h.names in
      let older = none_of_logs (name_of (OldTable placed.table.number)) log state tables (λ n num. old_table_apart placed.table.number n numbered num) h.names in
      table_still old new placed.table.number (beside_all (name_of (Table placed.table.number)) newer) (beside_all (name_of (OldTable placed.table.number)) older) (h.synced.placed placed there from)

  -- what is said of logs says it of all
  synced_as : (logs : List (List ℕ)) → Reads logs → AreSyncedBut logs new state tables
  synced_as logs reads = record {
    current = apart (name_of Current) current_apart h.synced.current;
    manifest = apart (name_of (Manifest state.manifest.number)) (λ n num. manifest_apart state.manifest.number n h.names.manifest.0 num) h.synced.manifest;
    others = reads;
    placed = tables_as;
  }

  names_after : (after : CurrentLog) → after.number ≡ log.number → string_bytes after.name ≡ string_bytes log.name → AllByRecursion (IsLogBelow log.number) (map string_bytes after.front.items) → HaveNames after state tables
  names_after after number name front = record {
    last = subst (λ (n : ℕ). IsNumbered n × (n < state.numbers.next) × (string_bytes after.name ≡ name_of (Log n))) (sym number) (h.names.last.0, h.names.last.1, name ∙ h.names.last.2);
    front = subst (λ (n : ℕ). AllByRecursion (IsLogBelow n) (map string_bytes after.front.items)) (sym number) front;
    forward = subst (λ (n : ℕ). state.first_log ≤ n) (sym number) h.names.forward;
    begun = subst (λ (n : ℕ). state.manifest.number < n) (sym number) h.names.begun;
    manifest = h.names.manifest;
    placed = h.names.placed;
  }

  -- the same logs are in doubt
  pub still_synced : (after : CurrentLog) → after.number ≡ log.number → string_bytes after.name ≡ string_bytes log.name → map string_bytes after.front.items ≡ map string_bytes log.front.items → IsSyncedBut new after state tables
  still_synced after number name front = record {
    synced = subst (λ (logs : List (List ℕ)). AreSyncedBut logs new state tables) (λ i. sym name i ∷ sym front i) (synced_as (logs_in_doubt log) (λ n num read none. still (name_of (Log n)) none (h.synced.others n num read none)));
    names = names_after after number name (subst (AllByRecursion (IsLogBelow log.number)) (sym front) h.names.front);
    stayed = stayed_all old new log state tables h.names carries h.stayed;
  }

  -- none is in doubt but the one that was written to, since those before it were synced
  pub synced_but_last : (after : CurrentLog) → after.number ≡ log.number → string_bytes after.name ≡ string_bytes log.name → after.front.items ≡ [] → AllByRecursion (IsSynced new) (map string_bytes log.front.items) → IsSyncedBut new after state tables
  synced_but_last after number name empty front =
      let in_doubt : string_bytes log.name ∷ [] ≡ logs_in_doubt after = λ i. sym name i ∷ map string_bytes (sym empty i) in
      record {
        synced = subst (λ (logs : List (List ℕ)). AreSyncedBut logs new state tables) in_doubt (synced_as (string_bytes log.name ∷ []) (λ n num read none.
            kept_each new (name_of (Log n)) (map string_bytes log.front.items) front (λ none_of. still (name_of (Log n)) (none.0, none_of) (h.synced.others n num read (none.0, none_of)))));
        names = names_after after number name (subst (AllByRecursion (IsLogBelow log.number)) (sym (ap (map string_bytes) empty)) tt);
        stayed = stayed_all old new log state tables h.names carries h.stayed;
      }

  -- The log has another name than those before it.
  none_in_front : (names : List (List ℕ)) → AllByRecursion (IsLogBelow log.number) names → IsNoneOf (string_bytes log.name) names
  none_in_front [] below = tt
  none_in_front (name ∷ names) below = (
    (λ is. logs_apart log.number below.0.0 h.names.last.0 below.0.1 (λ same. not_below log.number below.0.0 same below.0.2) (sym h.names.last.2 ∙ is ∙ below.0.3)),
    none_in_front names below.1,
  )

  pub apart_from_front : IsNoneOf (string_bytes log.name) (map string_bytes log.front.items)
  apart_from_front = none_in_front (map string_bytes log.front.items) h.names.front

-- The log that was written to is synced where that was asked for, and else the same of it is.
pub appended_last : {T E : Type 0} (sync : Bool) (old new : Facts) (log : CurrentLog) (state : DirectoryState) (tables : List PlacedTable) → IsTrue new.faithful → KeepsOthers old.files new.files (string_bytes log.name)
    → CarriesBut old new (λ (q : List ℕ). ⊥) → IsSyncedBut old log state tables → (x : T) → SyncsLog {T = T} {E = E} (Unit {0}) (sync ≡ true) sync (string_bytes log.name) (map string_bytes log.front.items) old new (Ok x)
    → SyncsLast sync old new (string_bytes log.name)
appended_last true old new log state tables f beside carries h x s = s.kept f refl
appended_last false old new log state tables f beside carries h x s = s.unasked f refl (string_bytes log.name) (apart_from_front old new log state tables beside (s.others f) carries h)

-- of the tables the same is synced
abbrev KeepsTables : Facts → Facts → Type 0
KeepsTables old new = (n : ℕ) → IsNumbered n → new.synced (name_of (Table n)) ≡ old.synced (name_of (Table n))

-- by what a write says of it
module _ {T E : Type 0} (some asked : Type 0) (sync : Bool) (old new : Facts) (log after : CurrentLog) (state : DirectoryState) (tables : List PlacedTable) (f : IsTrue new.faithful)
    (used : ℕ → Type 0) (beside : KeepsOthers old.files new.files (string_bytes log.name)) (carries : CarriesBut old new (λ (q : List ℕ). ⊥)) (h : IsSyncedBut old log state tables) where
  abbrev Says : Result T E → Type 0
  Says result = SyncsLog some asked sync (string_bytes log.name) (map string_bytes log.front.items) old new result

  tables_same : (result : Result T E) → Says result → KeepsTables old new
  tables_same result s n numbered =
      let none = none_of_logs (name_of (Table n)) log state tables (λ k num. table_apart n k numbered num) h.names in
      s.others f (name_of (Table n)) none.0 none.1

  -- (and they keep their names)
  pub written_stays : (result : Result T E) → Says result → after.number ≡ log.number → string_bytes after.name ≡ string_bytes log.name → map string_bytes after.front.items ≡ map string_bytes log.front.items → IsSyncedBut new after state tables × KeepsTables old new × KeepsNames old new used
  written_stays result s number name front = (still_synced old new log state tables beside (s.others f) carries h after number name front, tables_same result s, names_carried old new (λ (q : List ℕ). ⊥) used (λ n numbered one is. is) carries)

  pub appended_stays : some → after.front.items ≡ [] → after.number ≡ log.number → string_bytes after.name ≡ string_bytes log.name → (x : T) → Says (Ok x) → IsSyncedBut new after state tables × KeepsTables old new × KeepsNames old new used
  appended_stays puts front number name x s =
      (synced_but_last old new log state tables beside (s.others f) carries h after number name front (s.front_kept f puts (apart_from_front old new log state tables beside (s.others f) carries h)), tables_same (Ok x) s, names_carried old new (λ (q : List ℕ). ⊥) used (λ n numbered one is. is) carries)
