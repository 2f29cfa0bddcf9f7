-- What calls leave of the names of the files that the next open reads.
use Rattle.std.proofs.Common.{◌≡◌, ◌≢◌, ◌⊎◌, ◌<◌, ◌≤◌, ◌+◌, ◌^◌, ℕ, true, false, is_some, List, [], Contains, Option, Some, None, inl, inr, refl, sym, ap, subst, ◌∙◌, arith, string_bytes}
use Rattle.std.proofs.lemmas.Bool.{cases_eq}
use Rattle.std.specs.FinMap.{get, contains_key}
use Rattle.edits.proofs.FileNames.{one_file}
use Rattle.edits.specs.Names.{name_of, IsFileName, IsNumbered}
use Rattle.edits.specs.declared.field.PlacedTable.{PlacedTable}
use Rattle.edits.specs.declared.names.FileName.{FileName}
use Rattle.edits.specs.declared.names.FileName.TheVariants.{Current, Log, Manifest, Table, OldTable}
use Rattle.edits.specs.declared.numbers.FileNumbers.{FileNumbers}
use Rattle.directory_writes.specs.Removal.{IsDead, IsLiveAmong}
use Rattle.directory_writes.specs.internal.Removal.{table_number}
use Rattle.opening.specs.Losses.{BeginsSpared, IsLogRead}
use Rattle.opening.specs.declared.directory.CurrentLog.{CurrentLog}
use Rattle.opening.specs.declared.directory.DirectoryState.{DirectoryState}
use Rattle.opening.proofs.Reopening.{files_apart}
use Rattle.recover.proofs.NamedFiles.{get_same}
use Rattle.store.proofs.Carrying.{carries_same}
use Rattle.store.proofs.Staying.{begins_on, begun_by, stays_begins, stays_behind, begins_behind, stays_on}
use Rattle.store.specs.Calls.{Adds, Idles}
use Rattle.store.specs.Files.{Creation, Facts, Files}
use Rattle.store.specs.Losses.{CarriesBut, StaysNamed, StaysOrBegins, behind_sync}
use Rattle.engine.specs.Working.{numbers_of}
use Rattle.engine.specs.internal.Synced.{HaveNames, HaveStayed}

-- None of these names is that of a file which the next open reads: of a table it reads the one with
-- the newer name, where that is there.
pub record SparesRead (mine : List ℕ → Type 0) (files : Files) (state : DirectoryState) (tables : List PlacedTable) : Type 0 where
  pub current : mine (name_of Current) → ⊥
  pub manifest : mine (name_of (Manifest state.manifest.number)) → ⊥
  pub logs : (n : ℕ) → IsNumbered n → IsLogRead state n → mine (name_of (Log n)) → ⊥
  pub placed : (placed : PlacedTable) → Contains tables placed → (mine (name_of (Table placed.table.number)) → ⊥)
      × (get files (name_of (Table placed.table.number)) ≡ None → mine (name_of (OldTable placed.table.number)) → ⊥)

pub spares_none : (files : Files) (state : DirectoryState) (tables : List PlacedTable) → SparesRead (λ (q : List ℕ). ⊥) files state tables
spares_none files state tables = record { current = λ is. is; manifest = λ is. is; logs = λ n num read is. is; placed = λ placed there. (λ is. is, λ none is. is) }

-- where they are those of tables that aren't in the version
pub spares_tables : (mine : List ℕ → Type 0) (files : Files) (log : CurrentLog) (state : DirectoryState) (tables : List PlacedTable) → HaveNames log state tables → ((file : FileName) → IsFileName file → table_number file ≡ None → mine (name_of file) → ⊥)
    → ((placed : PlacedTable) → Contains tables placed → IsNumbered placed.table.number × (placed.table.number < state.numbers.next) → (mine (name_of (Table placed.table.number)) → ⊥) × (mine (name_of (OldTable placed.table.number)) → ⊥)) → SparesRead mine files state tables
spares_tables mine files log state tables names others placed = record {
  current = others Current tt refl;
  manifest = others (Manifest state.manifest.number) names.manifest.0 refl;
  logs = λ n num read. others (Log n) num refl;
  placed = λ p there. (let both = placed p there (names.placed p there) in (both.0, λ none. both.1));
}

-- a live file isn't dead
pub not_dead : (live : FileName → Type 0) (file : FileName) → IsFileName file → live file → IsDead live (name_of file) → ⊥
not_dead live file is alive dead = dead.3 (subst live (one_file file dead.0 is dead.1 dead.2) alive)

-- what is obsolete isn't read
pub spares_dead : (files : Files) (log : CurrentLog) (state : DirectoryState) (tables : List PlacedTable) (in_use : ℕ → Type 0) → HaveNames log state tables → ((placed : PlacedTable) → Contains tables placed → in_use placed.table.number)
    → SparesRead (IsDead (IsLiveAmong files (numbers_of state) in_use)) files state tables
spares_dead files log state tables in_use names used =
    let live : FileName → Type 0 = IsLiveAmong files (numbers_of state) in_use in
    record {
      current = not_dead live Current tt tt;
      manifest = not_dead live (Manifest state.manifest.number) names.manifest.0 refl;
      logs = λ n num read. not_dead live (Log n) num (elim read [ inl least ↦ inl least | inr is ↦ inr is.0 ]);
      placed = λ p there.
          let numbered = (names.placed p there).0 in (
            not_dead live (Table p.table.number) numbered (used p there),
            λ none.
                not_dead live (OldTable p.table.number) numbered (used p there, λ both. (let bad : true ≡ false = sym both.0 ∙ ap is_some none in cc)),
          );
    }

-- the log that writes go to, and any after it, is read
pub first_least : (log : CurrentLog) (state : DirectoryState) (tables : List PlacedTable) → HaveNames log state tables → state.first_log ≤ state.numbers.next
first_least log state tables names = (let forward = names.forward in let less = names.last.1 in omega (arith, forward, less))

none_too : (a b : Option (List ℕ)) → is_some b ≡ is_some a → b ≡ None → a ≡ None
none_too None b same none = refl
none_too (Some x) None same none = absurd (let bad : false ≡ true = same in cc)
none_too (Some x) (Some y) same none = absurd (cc)

-- ---- calls that leave these names

module _ (old new : Facts) (mine : List ℕ → Type 0) (state later : DirectoryState) (tables : List PlacedTable) (number : later.manifest.number ≡ state.manifest.number) (first_log : later.first_log ≡ state.first_log)
    (previous_log : later.previous_log ≡ state.previous_log) (le : state.numbers.next ≤ later.numbers.next) (least : state.first_log ≤ state.numbers.next) (carries : CarriesBut old new mine) (spares : SparesRead mine old.files state tables) (h : HaveStayed old state tables) where
  read_before : (n : ℕ) → IsLogRead later n → IsLogRead state n
  read_before n (inl least) = inl (subst (λ (k : ℕ). k ≤ n) first_log least)
  read_before n (inr is) = inr (is.0 ∙ previous_log, is.1)

  pub stayed_on : HaveStayed new later tables
  stayed_on = record {
    current = stays_on old new mine (name_of Current) spares.current carries h.current;
    manifest = subst (λ (n : ℕ). StaysNamed new (name_of (Manifest n))) (sym number) (stays_on old new mine (name_of (Manifest state.manifest.number)) spares.manifest carries h.manifest);
    logs = λ n num read. (let was = read_before n read in begins_on old new mine (name_of (Log n)) (spares.logs n num was) carries (h.logs n num was));
    found = λ n num read below.
        let was = read_before n read in
        stays_on old new mine (name_of (Log n)) (spares.logs n num was) carries (h.found n num was (subst (λ (k : ℕ). n < k) number below));
    placed = λ p there.
        let apart = spares.placed p there in
        let was = h.placed p there in (
          stays_on old new mine (name_of (Table p.table.number)) apart.0 carries was.0,
          λ none.
              let before = none_too (get old.files (name_of (Table p.table.number))) (get new.files (name_of (Table p.table.number))) (carries.now (name_of (Table p.table.number)) apart.0) none in
              stays_on old new mine (name_of (OldTable p.table.number)) (apart.1 before) carries (was.1 before),
        );
    undrawn = λ n num from.
        let before : state.numbers.next ≤ n = omega (arith, le, from) in
        let apart = spares.logs n num (inl (omega (arith, least, before))) in
        let was = h.undrawn n num before in
        (stays_on old new mine (name_of (Log n)) apart carries was.0, carries.now (name_of (Log n)) apart ∙ was.1);
  }

-- they change nothing
pub stayed_same : (old new : Facts) (log : CurrentLog) (state later : DirectoryState) (tables : List PlacedTable) → later.manifest.number ≡ state.manifest.number → later.first_log ≡ state.first_log → later.previous_log ≡ state.previous_log
    → state.numbers.next ≤ later.numbers.next → HaveNames log state tables → new.calls ≡ old.calls → new.files ≡ old.files → new.synced ≡ old.synced → HaveStayed old state tables → HaveStayed new later tables
stayed_same old new log state later tables number first_log previous_log le names calls files synced h =
    stayed_on old new (λ (q : List ℕ). ⊥) state later tables number first_log previous_log le (first_least log state tables names) (carries_same old new (λ (q : List ℕ). ⊥) calls files synced)
    (spares_none old.files state tables) h

-- or the names of no file
pub stayed_all : (old new : Facts) (log : CurrentLog) (state : DirectoryState) (tables : List PlacedTable) → HaveNames log state tables → CarriesBut old new (λ (q : List ℕ). ⊥) → HaveStayed old state tables → HaveStayed new state tables
stayed_all old new log state tables names carries h =
    stayed_on old new (λ (q : List ℕ). ⊥) state state tables refl refl refl (omega arith) (first_least log state tables names) carries (spares_none old.files state tables) h

-- ---- a new log

log_apart : (a b : ℕ) → IsNumbered a → IsNumbered b → (a ≡ b → ⊥) → name_of (Log a) ≢ name_of (Log b)
log_apart a b num other apart = files_apart (Log a) (Log b) num other (λ e. apart (let same : a ≡ b = cc in same))

module _ (old new : Facts) (log : CurrentLog) (state : DirectoryState) (numbers : FileNumbers) (tables : List PlacedTable) (next : numbers.next ≡ state.numbers.next + 1) (fits : state.numbers.next < 2 ^ 62) (names : HaveNames log state tables)
    (carries : CarriesBut old new (λ (q : List ℕ). q ≡ name_of (Log state.numbers.next))) (noted : Idles old new ⊎ Adds old new (Creation (name_of (Log state.numbers.next)))) (unsynced : new.synced (name_of (Log state.numbers.next)) ≡ None) (h : HaveStayed old state tables) where
  abbrev Mine : List ℕ → Type 0
  Mine q = q ≡ name_of (Log state.numbers.next)

  new_number : IsNumbered state.numbers.next
  new_number = (state.numbers.in_range.0, omega (arith, fits))

  beside : (file : FileName) → IsFileName file → file ≢ Log state.numbers.next → Mine (name_of file) → ⊥
  beside file is other = files_apart file (Log state.numbers.next) is new_number other

  begun : StaysOrBegins new (name_of (Log state.numbers.next))
  begun = (let was = h.undrawn state.numbers.next new_number (omega arith) in begun_by old new (name_of (Log state.numbers.next)) noted was.0 was.1 unsynced)

  pub stayed_begun : HaveStayed new (record state { numbers = numbers }) tables
  stayed_begun = record {
    current = stays_on old new Mine (name_of Current) (beside Current tt (λ e. cc)) carries h.current;
    manifest = stays_on old new Mine (name_of (Manifest state.manifest.number)) (beside (Manifest state.manifest.number) names.manifest.0 (λ e. cc)) carries h.manifest;
    logs = λ n num read. elim (cases_eq n state.numbers.next) [
      | inl same ↦ subst (λ (k : ℕ). StaysOrBegins new (name_of (Log k))) (sym same) begun
      | inr other ↦ begins_on old new Mine (name_of (Log n)) (log_apart n state.numbers.next num new_number other) carries (h.logs n num read)
    ];
    found = λ n num read below.
        let apart = log_apart n state.numbers.next num new_number (λ same. (let since = names.begun in let less = names.last.1 in omega (arith, same, below, since, less))) in
        stays_on old new Mine (name_of (Log n)) apart carries (h.found n num read below);
    placed = λ p there.
        let numbered = (names.placed p there).0 in
        let apart = beside (Table p.table.number) numbered (λ e. cc) in
        let was = h.placed p there in (
          stays_on old new Mine (name_of (Table p.table.number)) apart carries was.0,
          λ none.
              stays_on old new Mine (name_of (OldTable p.table.number)) (beside (OldTable p.table.number) numbered (λ e. cc)) carries
              (was.1 (none_too (get old.files (name_of (Table p.table.number))) (get new.files (name_of (Table p.table.number))) (carries.now (name_of (Table p.table.number)) apart) none)),
        );
    undrawn = λ n num from.
        let apart = log_apart n state.numbers.next num new_number (λ same. omega (arith, same, from, next)) in
        let was = h.undrawn n num (omega (arith, from, next)) in
        (stays_on old new Mine (name_of (Log n)) apart carries was.0, carries.now (name_of (Log n)) apart ∙ was.1);
  }

-- one that wasn't made, though its number is drawn, as the files are the same
pub unmade_calls : (old new : Facts) (name : List ℕ) → Idles old new ⊎ Adds old new (Creation name) → new.files ≡ old.files → contains_key old.files name ≡ false → new.calls ≡ old.calls
unmade_calls old new name (inl idle) same lacks = idle.0
unmade_calls old new name (inr adds) same lacks =
    let made : contains_key new.files name ≡ true = ap (λ (fs : Files). contains_key fs name) adds.1 ∙ ap is_some (get_same old.files name []) in
    absurd (let bad : true ≡ false = sym made ∙ ap (λ (fs : Files). contains_key fs name) same ∙ lacks in cc)

-- ---- after a sync

pub undrawn_still : (old new : Facts) (mine : List ℕ → Type 0) (state : DirectoryState) (tables : List PlacedTable) (next : ℕ) → CarriesBut old new mine → ((n : ℕ) → IsNumbered n → mine (name_of (Log n)) → ⊥) → state.numbers.next ≤ next → HaveStayed old state tables
    → (n : ℕ) → IsNumbered n → next ≤ n → contains_key new.files (name_of (Log n)) ≡ false
undrawn_still old new mine state tables next carries apart le h n num from = carries.now (name_of (Log n)) (apart n num) ∙ (h.undrawn n num (omega (arith, le, from))).1

pub stayed_behind : (facts : Facts) (state : DirectoryState) (tables : List PlacedTable) → behind_sync [] facts.calls ≡ [] → ((n : ℕ) → IsNumbered n → state.numbers.next ≤ n → contains_key facts.files (name_of (Log n)) ≡ false) → HaveStayed facts state tables
stayed_behind facts state tables ends undrawn = record {
  current = stays_behind facts (name_of Current) ends;
  manifest = stays_behind facts (name_of (Manifest state.manifest.number)) ends;
  logs = λ n num read. begins_behind facts (name_of (Log n)) ends;
  found = λ n num read below. stays_behind facts (name_of (Log n)) ends;
  placed = λ p there. (stays_behind facts (name_of (Table p.table.number)) ends, λ none. stays_behind facts (name_of (OldTable p.table.number)) ends);
  undrawn = λ n num from. (stays_behind facts (name_of (Log n)) ends, undrawn n num from);
}

-- ---- an open

module _ (facts : Facts) (log : CurrentLog) (state : DirectoryState) (tables : List PlacedTable) (since : BeginsSpared facts (string_bytes log.name)) (names : HaveNames log state tables)
    (undrawn : (n : ℕ) → IsNumbered n → state.numbers.next ≤ n → contains_key facts.files (name_of (Log n)) ≡ false) where
  apart_last : (file : FileName) → IsFileName file → file ≢ Log log.number → name_of file ≢ string_bytes log.name
  apart_last file is other same = files_apart file (Log log.number) is names.last.0 other (same ∙ names.last.2)

  number_of_log : {a b : ℕ} → Log a ≡ Log b → a ≡ b
  number_of_log e = cc

  pub stayed_opened : HaveStayed facts state tables
  stayed_opened = record {
    current = since.others (name_of Current) (apart_last Current tt (λ e. cc));
    manifest = since.others (name_of (Manifest state.manifest.number)) (apart_last (Manifest state.manifest.number) names.manifest.0 (λ e. cc));
    logs = λ n num read. elim (cases_eq n log.number) [
      | inl same ↦ subst (StaysOrBegins facts) (names.last.2 ∙ ap (λ (k : ℕ). name_of (Log k)) (sym same)) since.begun
      | inr other ↦ stays_begins facts (name_of (Log n)) (since.others (name_of (Log n)) (apart_last (Log n) num (λ e. other (number_of_log e))))
    ];
    found = λ n num read below. since.others (name_of (Log n)) (apart_last (Log n) num (λ e. (let same = number_of_log e in let least = names.begun in omega (arith, same, below, least))));
    placed = λ p there.
        let numbered = (names.placed p there).0 in
        (since.others (name_of (Table p.table.number)) (apart_last (Table p.table.number) numbered (λ e. cc)), λ none. since.others (name_of (OldTable p.table.number)) (apart_last (OldTable p.table.number) numbered (λ e. cc)));
    undrawn = λ n num from. (since.others (name_of (Log n)) (apart_last (Log n) num (λ e. (let same = number_of_log e in let less = names.last.1 in omega (arith, same, less, from)))), undrawn n num from);
  }
