-- What a get that reads the tables of a database answers.
use Rattle.std.proofs.Common.{◌≡◌, ℕ, ◌≤◌, ◌<◌, Bool, false, cond, Option, Some, None, is_some, List, [], ◌∷◌, Result, Ok, Err, length, unwrap_or, refl, sym, ap, subst, ◌∙◌, arith, inl, inr}
use Rattle.std.specs.Bool.{nat_eq}
use Rattle.std.specs.Cmp.{IsTotalOrder}
use Rattle.std.specs.FinMap.{IsAntisymmetric}
use Rattle.std.specs.Map.{lookup}
use Rattle.std.specs.Option.{option_or, ok_or}
use Rattle.coding.specs.declared.error.DbError.{DbError}
use Rattle.coding.specs.declared.error.DbError.TheVariants as error
use Rattle.cursor.specs.Moves.{Refuses}
use Rattle.edits.specs.declared.field.PlacedTable.{PlacedTable}
use Rattle.ikey.specs.Orders.{Order}
use Rattle.ikey.specs.Sources.{IsAnswer, FrontLaw, BehindLaw, SameViewLaw}
use Rattle.ikey.specs.Views.{IsUnseen}
use Rattle.memtables.specs.Memories.{logged_in}
use Rattle.memtables.specs.PlaceLaws.{left_there}
use Rattle.version_get.specs.Gets.{HasNoTablesOf, IsOneTooLong, SaysOfEach}
use Rattle.db_cursor.specs.internal.Scanning.{ScanIsKept}
use Rattle.db_cursor.specs.declared.scan.Scan.{Scan}
use Rattle.version_laws.specs.Laws.{VersionLaw}
use Rattle.table_access.specs.Tables.{Seen, Carries}
use Rattle.table.specs.Reading.{IsErrorStill, Reads}
use Rattle.store.specs.Files.{Facts}
use Rattle.versions.specs.Levels.{HasNumber}
use Rattle.machine.specs.declared.command.Answer.TheVariants.{Value, Refused}
use Rattle.engine.specs.declared.ids.Ids.{Ids}
use Rattle.machine.specs.Access.{Gets}
use Rattle.engine.specs.Causes.{IsCausedIn, open_status}
use Rattle.engine.specs.Stands.{no_ids}
use Rattle.machine.specs.Causes.{get_cause, no_snapshot}
use Rattle.opening.specs.Refusals.{IsMet}
use Rattle.engine.specs.internal.Leading.{LeadsOpen}
use Rattle.engine.specs.OpenDb.{OpenDb}
use Rattle.engine.specs.internal.Standing.{entries_of, IsServing}
use Rattle.engine.specs.internal.Gathering.{Gathers}
use Rattle.engine.specs.Reads.{kept_at, sequence_at, ReadsMemory}
use Rattle.engine.specs.internal.Live.{IsBoth, IsSnapshot}
use Rattle.machine.specs.Machine.{Machine}
use Rattle.engine.specs.Outcomes.{DbOutcome, IsSame, MayRefuseGet}
use Rattle.engine.specs.Touching.{LeavesStore}
use Rattle.engine.proofs.InUse.{as_listed}
use Rattle.engine.proofs.Reading.{GathersRead, read_by, stands_read}
use Rattle.engine.proofs.Steps.{denies_none, serving_of, got_value, got_refused, tables_value, tables_refused}

-- ---- the sequence number of a read

abbrev Found : Result ℕ DbError → Result ℕ DbError → Type 0
Found a b = a ≡ b

pub found_at : (o : Option ℕ) (sequence : ℕ) → Found (Ok sequence) (ok_or o error.NoSnapshot) → o ≡ Some sequence
found_at None sequence is = absurd (cc)
found_at (Some other) sequence is = (let same : sequence ≡ other = cc in ap Some (sym same))

pub missing_at : (o : Option ℕ) (e : DbError) → Found (Err e) (ok_or o error.NoSnapshot) → (o ≡ None) × (e ≡ error.NoSnapshot)
missing_at None e is = (refl, (let same : e ≡ error.NoSnapshot = cc in same))
missing_at (Some other) e is = absurd (cc)

-- no snapshot sees more than what is used
pub within_last : {K : Type 0} {g : _} → (order : Order) (source : Seen) (db : OpenDb K g) (m : Machine) (snapshot : Option ℕ) (sequence : ℕ) → IsServing order source db m → sequence_at db snapshot ≡ Some sequence → sequence ≤ db.memory.last
within_last order source db m None sequence serving at = (let same : db.memory.last ≡ sequence = cc in omega (arith, same))
within_last order source db m (Some id) sequence serving at = by (kept_at db.snapshots id) (lookup (nat_eq id) m.snapshots) at (serving.snapshots id)
  where
    by : (o live : Option ℕ) → o ≡ Some sequence → IsBoth (IsSnapshot (entries_of serving.contents db) db.memory.last m) o live → sequence ≤ db.memory.last
    by None live is h = absurd (cc)
    by (Some kept) (Some count) is h = (let same : kept ≡ sequence = cc in let below : kept ≤ db.memory.last = h.1 in omega (arith, same, below))
    by (Some kept) None is h = absurd h

-- what a get keeps anew is of the version's tables
pub gathers_of : {K : Type 0} {g : _} (db : OpenDb K g) (old new : Seen) → Gathers (λ number. HasNumber number db.tables) old new → GathersRead db old new
gathers_of db old new h number kept = elim (h number kept) [ inl before ↦ inl before | inr has ↦ inr (inl (as_listed db.tables number has)) ]

-- ---- the machine

module _ {K : Type 0} {g : _} {numbers : ℕ → Type 0} (order : Order) (kept : (scan : Scan K g) → ScanIsKept order.cmp scan) (version : VersionLaw) (total : IsTotalOrder order.cmp) (exact : IsAntisymmetric order.cmp)
    (old new : Seen) (ids : Ids) (db : OpenDb K g) (key : List ℕ) (snapshot : Option ℕ) (sequence below : ℕ) (whole : db.broken ≡ false) (at : sequence_at db snapshot ≡ Some sequence)
    (clamped : sequence ≤ db.memory.last → below ≡ sequence) (carries : Carries order.cmp numbers old new) (gathers : GathersRead db old new) where
  pub tables_read : FrontLaw → BehindLaw → SameViewLaw → IsUnseen (logged_in db.memory) sequence key → (answer : Option (Option (List ℕ))) → SaysOfEach order old new db.tables key below answer
      → LeadsOpen order old new ids db db (λ m n. Gets m key snapshot (Value (unwrap_or answer None)) n)
  tables_read front behind same unseen answer says = record {
    faithful = carries.reads.faithful;
    moved = λ f m s.
        let serving = serving_of order old ids db m whole s in
        let is : below ≡ sequence = clamped (within_last order old db m snapshot sequence serving at) in
        let value = tables_value order old ids db m key snapshot s whole sequence at front behind same version total exact unseen new answer f (subst (λ (n : ℕ). SaysOfEach order old new db.tables key n answer) is says) in (
          read_by new.facts m,
          got_value order old ids db m key snapshot s whole sequence at (read_by new.facts m) (unwrap_or answer None)
              (denies_none m (read_by new.facts m) _ (let rise : old.facts.failures ≤ new.facts.failures = carries.reads.failures in omega (arith, s.counts.failures, rise)) (carries.reads.denials ∙ sym s.counts.denials)) refl value,
          stands_read order kept old new ids db db.memory m carries gathers f (left_there db.memory) s,
        );
  }

  pub tables_failed : (e : DbError) → Refuses e old.facts new.facts (HasNoTablesOf order old db.tables) (IsOneTooLong order old db.tables) → LeadsOpen order old new ids db db (λ m n. Gets m key snapshot (Refused e) n)
  tables_failed e refused = record {
    faithful = carries.reads.faithful;
    moved = λ f m s. (
      read_by new.facts m,
      got_refused order old ids db m key snapshot s whole sequence at (read_by new.facts m) e
          (denies_none m (read_by new.facts m) _ (let rise : old.facts.failures ≤ new.facts.failures = carries.reads.failures in omega (arith, s.counts.failures, rise)) (carries.reads.denials ∙ sym s.counts.denials))
          (tables_refused order old ids db m key snapshot s whole sequence at version total exact new.facts e f refused),
      stands_read order kept old new ids db db.memory m carries gathers f (left_there db.memory) s,
    );
  }

-- ---- over any store

pub reads_itself : (facts : Facts) → Reads facts facts
reads_itself facts = record { faithful = λ f. f; files = λ f. refl; failures = omega arith; writes = refl; denials = refl; locked = refl; synced = λ f. refl; calls = λ f. refl }

pub reads_leave : (old new : Facts) → Reads old new → LeavesStore old new
reads_leave old new reads = record { writes = reads.writes; files = reads.files; synced = reads.synced; locked = reads.locked; calls = reads.calls }

unseen_as : {K : Type 0} {g : _} → (db : OpenDb K g) (snapshot : Option ℕ) → no_snapshot (open_status no_ids db) snapshot ≡ cond (is_some (sequence_at db snapshot)) None (Some error.NoSnapshot)
unseen_as db None = refl
unseen_as db (Some id) = refl

no_cause_to : {K : Type 0} {g : _} → (db : OpenDb K g) (snapshot : Option ℕ) (sequence : ℕ) → db.broken ≡ false → sequence_at db snapshot ≡ Some sequence → get_cause (open_status no_ids db) snapshot ≡ None
no_cause_to db snapshot sequence whole at =
    ap (λ (b : Bool). option_or (cond b (Some error.Broken) None) (no_snapshot (open_status no_ids db) snapshot)) whole
    ∙ unseen_as db snapshot ∙ ap (λ (o : Option ℕ). cond (is_some o) None (Some error.NoSnapshot)) at

met_by : {S T : Type 0} → (cause : Option DbError) (old new : S) (result : Result T DbError) → cause ≡ None → ((e : DbError) → result ≡ Err e → IsMet e) → IsCausedIn cause old new result
met_by cause old new result none met = subst (λ (o : Option DbError). IsCausedIn o old new result) (sym none) met

pub caused_ok : {S T K : Type 0} {g : _} → (db : OpenDb K g) (snapshot : Option ℕ) (sequence : ℕ) (old new : S) (x : T) → db.broken ≡ false → sequence_at db snapshot ≡ Some sequence → IsCausedIn (get_cause (open_status no_ids db) snapshot) old new (Ok x)
caused_ok db snapshot sequence old new x whole at = met_by (get_cause (open_status no_ids db) snapshot) old new (Ok x) (no_cause_to db snapshot sequence whole at) (λ e is. absurd (cc))

met : (e : DbError) (old new : Facts) (P Q : Type 0) → Refuses e old new P Q → IsMet e
met error.OutOfMemory old new P Q h = tt
met error.Io old new P Q h = tt
met (error.Corrupt file what) old new P Q h = tt
met (error.Unsupported what) old new P Q h = tt
met _ old new P Q h = absurd h

pub caused_err : {S K : Type 0} {g : _} → (T : Type 0) (db : OpenDb K g) (snapshot : Option ℕ) (sequence : ℕ) (old new : S) (e : DbError) (a b : Facts) (P Q : Type 0) → db.broken ≡ false → sequence_at db snapshot ≡ Some sequence → Refuses e a b P Q
    → IsCausedIn {S = S} {T = T} (get_cause (open_status no_ids db) snapshot) old new (Err e)
caused_err {S} T db snapshot sequence old new e a b P Q whole at h =
    met_by {S = S} {T = T} (get_cause (open_status no_ids db) snapshot) old new (Err e) (no_cause_to db snapshot sequence whole at) (λ other is. let same : e ≡ other = cc in subst IsMet same (met e a b P Q h))

may : (e : DbError) (old new : Facts) (P Q : Type 0) → Refuses e old new P Q → MayRefuseGet e
may error.OutOfMemory old new P Q h = tt
may error.Io old new P Q h = tt
may (error.Corrupt file what) old new P Q h = tt
may (error.Unsupported what) old new P Q h = tt
may _ old new P Q h = absurd h

rises : (e : DbError) (old new : Facts) (P Q : Type 0) → e ≡ error.Io → Refuses e old new P Q → old.failures < new.failures
rises e old new P Q is h = subst (λ (x : DbError). Refuses x old new P Q) is h

stood : (e : DbError) (old new : Facts) → e ≡ error.OutOfMemory → IsErrorStill e old new → new.failures ≡ old.failures
stood e old new is h = subst (λ (x : DbError). IsErrorStill x old new) is h

same_as : {K : Type 0} {g : _} → (db : OpenDb K g) → IsSame db db
same_as db = record { entries = refl; sequence = refl; tables = refl; log = refl; snapshots = λ id. refl; iterators = λ id. refl }

pub outcome_ok : {T K : Type 0} {g : _} → (old new : Facts) (db : OpenDb K g) (x : T) → Reads old new → DbOutcome MayRefuseGet old new db db (Ok x)
outcome_ok old new db x reads = record { failures = reads.failures; denials = reads.denials; io = λ e. absurd (cc); memory = λ e. absurd (cc); allowed = tt; refused = tt }

pub outcome_err : {T K : Type 0} {g : _} → (old new : Facts) (db : OpenDb K g) (e : DbError) (P Q : Type 0) → Reads old new → Refuses e old new P Q → IsErrorStill e old new → DbOutcome {T = T} MayRefuseGet old new db db (Err e)
outcome_err old new db e P Q reads h still = record {
  failures = reads.failures;
  denials = reads.denials;
  io = λ is. (let same : e ≡ error.Io = cc in rises e old new P Q same h);
  memory = λ is. (let same : e ≡ error.OutOfMemory = cc in stood e old new same still);
  allowed = may e old new P Q h;
  refused = (same_as db, inl refl);
}

-- what memory answers
pub reads_seen : {K : Type 0} {g : _} → (db : OpenDb K g) (sequence : ℕ) (key : List ℕ) (value : Option (List ℕ)) → IsAnswer (logged_in db.memory) sequence key (Some value) → ReadsMemory db sequence key value
reads_seen db sequence key value a = record { first = λ seen. inl a; alone = λ none. inl a }

-- where the key isn't seen there, and there are no tables
pub reads_nothing : {K : Type 0} {g : _} → (db : OpenDb K g) (sequence : ℕ) (key : List ℕ) → IsUnseen (logged_in db.memory) sequence key → ReadsMemory db sequence key None
reads_nothing db sequence key unseen = record { first = λ seen. absurd (seen unseen); alone = λ none. inr (unseen, refl) }

-- or there are
pub reads_behind : {K : Type 0} {g : _} → (db : OpenDb K g) (sequence : ℕ) (key : List ℕ) (value : Option (List ℕ)) → IsUnseen (logged_in db.memory) sequence key → (db.tables ≡ [] → ⊥) → ReadsMemory db sequence key value
reads_behind db sequence key value unseen some = record { first = λ seen. absurd (seen unseen); alone = λ none. absurd (some none) }

pub none_of : (tables : List PlacedTable) → length tables ≡ 0 → tables ≡ []
none_of [] e = refl
none_of (p ∷ tables) e = absurd (omega (arith, e))
