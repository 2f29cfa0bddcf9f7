-- What the writing of an open leaves of a directory, after each of its steps.
use Rattle.std.proofs.Common.{◌≡◌, ◌≢◌, ◌⊎◌, ℕ, ◌+◌, ◌<◌, ◌≤◌, ◌^◌, ◌==◌, cond, Bool, true, false, List, [], ◌∷◌, ◌++◌, length, map, suc, Option, Some, None, is_some, inl, inr, refl, sym, ap, subst, ◌∙◌, arith, append-nil}
use Rattle.std.specs.List.{AllByRecursion}
use Rattle.std.specs.Option.{option_or}
use Rattle.std.specs.FinMap.{get, insert, contains_key}
use Rattle.std.proofs.lemmas.Bool.{cases_eq}
use Rattle.store.specs.Files.{Files}
use Rattle.ikey.specs.Orders.{Order}
use Rattle.ikey.specs.declared.entry.Entry.{Entry}
use Rattle.edits.specs.Edit.{HasPastLimit}
use Rattle.edits.specs.Layout.{fields_of}
use Rattle.edits.specs.Names.{name_of, IsNumbered, IsFileName}
use Rattle.edits.specs.Snapshot.{IsBelowLimit, pointer_fields, previous_fields, snapshot_fields}
use Rattle.edits.specs.declared.field.Field.{Field}
use Rattle.edits.specs.declared.field.Field.TheVariants.{Comparator, LogNumber, NextFileNumber, LastSequence, CompactPointer, DeletedFile, NewFile, PreviousLogNumber}
use Rattle.edits.specs.declared.field.PlacedTable.{PlacedTable}
use Rattle.edits.specs.declared.layout.Layout.{Layout}
use Rattle.edits.specs.declared.names.FileName.{FileName}
use Rattle.edits.specs.declared.names.FileName.TheVariants.{Current, Lock, Log, Table, OldTable, Manifest, Temporary}
use Rattle.edits.proofs.FileNames.{one_file}
use Rattle.recover.specs.internal.Changes.{BeginLogLaw, RecoveredLaw, ManifestEndsAt}
use Rattle.recover.specs.Tables.{TableContent, table_at, HasTables, InTables}
use Rattle.recover.specs.Logs.{logged}
use Rattle.recover.specs.Numbers.{number_of, NamesBelow, IsFree}
use Rattle.recover.specs.Ranges.{HaveTableFiles}
use Rattle.recover.specs.Report.{IsLongTable, AnyHasBytes}
use Rattle.recover.specs.Directory.{Directory, IsConsistent, HasManifest, IsEmpty, used_in}
use Rattle.recover.specs.internal.Laws.{FreeChangeLaw, ReopenLaw, OneManifestLaw, OneDirectoryLaw, IsSameLayout}
use Rattle.recover.proofs.NamedFiles.{get_other}
use Rattle.recover.proofs.Adding.{table_of}
use Rattle.recover.proofs.OneMeaning.{same_current}
use Rattle.opening.specs.declared.finding.Found.{Found}
use Rattle.opening.specs.internal.Calls.{KeepsOthers, SetsCurrent}
use Rattle.opening.specs.internal.Directories.{IsDirectoryOf}
use Rattle.recover.specs.Limits.{IsWithinLimits}
use Rattle.opening.specs.internal.Opening.{FindsNone, FindsDirectory, Finds, IsUsable, IsNewManifest, IsContinued}
use Rattle.opening.proofs.FoundSteps.{parts_found}

-- what is known of directories, by laws
pub record OpenLaws : Type 0 where
  pub free : FreeChangeLaw
  pub reopen : ReopenLaw
  pub log : BeginLogLaw
  pub manifest : OneManifestLaw
  pub directory : OneDirectoryLaw
  pub recovered : RecoveredLaw

-- ---- files of other names

pub files_apart : (a b : FileName) → IsFileName a → IsFileName b → a ≢ b → name_of a ≢ name_of b
files_apart a b p q apart e = apart (one_file a b p q e)

-- but for the new MANIFEST and the temporary file, the files are as before
unfoldable pub Beside : ℕ → Files → Files → Type 0
Beside n old new = (file : FileName) → IsFileName file → file ≢ Manifest n → file ≢ Temporary n → get new (name_of file) ≡ get old (name_of file)

-- the same, but for `CURRENT` too
unfoldable pub Behind : ℕ → Files → Files → Type 0
Behind n old new = (file : FileName) → IsFileName file → file ≢ Manifest n → file ≢ Temporary n → file ≢ Current → get new (name_of file) ≡ get old (name_of file)

-- the same, but for the new log too
unfoldable pub Around : ℕ → Files → Files → Type 0
Around n old new = (file : FileName) → IsFileName file → file ≢ Manifest n → file ≢ Temporary n → file ≢ Current → file ≢ Log (n + 1) → get new (name_of file) ≡ get old (name_of file)

pub beside_manifest : (n : ℕ) (old new : Files) → IsNumbered n → KeepsOthers old new (name_of (Manifest n)) → Beside n old new
unfolding Beside
beside_manifest n old new num k file is apart other = k (name_of file) (files_apart file (Manifest n) is num apart)

pub beside_both : (n : ℕ) (old mid new : Files) → IsNumbered n → Beside n old mid → KeepsOthers mid new (name_of (Temporary n)) → Beside n old new
unfolding Beside
beside_both n old mid new num h k file is apart other = k (name_of file) (files_apart file (Temporary n) is num other) ∙ h file is apart other

pub behind_current : (n : ℕ) (old mid new : Files) (bytes : List ℕ) → IsNumbered n → Beside n old mid → SetsCurrent mid new (name_of (Temporary n)) bytes → Behind n old new
unfolding Beside Behind
behind_current n old mid new bytes num h k file is apart other current =
    k.1 (name_of file) (files_apart file (Temporary n) is num other) (files_apart file Current is tt current) ∙ h file is apart other

pub around_behind : (n : ℕ) (old new : Files) → Behind n old new → Around n old new
unfolding Behind Around
around_behind n old new h file is apart other current log = h file is apart other current

pub around_beside : (n : ℕ) (old new : Files) → Beside n old new → Around n old new
unfolding Beside Around
around_beside n old new h file is apart other current log = h file is apart other

pub around_log : (n : ℕ) (old mid : Files) → IsNumbered (n + 1) → Behind n old mid → Around n old (insert mid (name_of (Log (n + 1))) [])
unfolding Behind Around
around_log n old mid num h file is apart other current log =
    get_other mid (name_of (Log (n + 1))) [] (name_of file) (files_apart file (Log (n + 1)) is num log) ∙ h file is apart other current

-- ---- file numbers

module _ (order : Order) (old new : Files) (n m : ℕ) where
  there_before : (file : FileName) → IsFileName file → get new (name_of file) ≡ get old (name_of file) → IsFree order old m → contains_key new (name_of file) ≡ true → number_of file < m + 2
  there_before file is same free there = (let below : number_of file < m = free.listed file is (ap is_some (sym same) ∙ there) in omega (arith, below))

  manifest_free : (k : ℕ) → IsNumbered k → Around n old new → IsFree order old m → n ≤ m → contains_key new (name_of (Manifest k)) ≡ true → k < m + 2
  unfolding Around
  manifest_free k num h free le there = elim (cases_eq k n) [
    | inl e ↦ omega (arith, e, le)
    | inr apart ↦ there_before (Manifest k) num (h (Manifest k) num (λ e. apart (let i : k ≡ n = cc in i)) (λ e. cc) (λ e. cc) (λ e. cc)) free there
  ]

  temporary_free : (k : ℕ) → IsNumbered k → Around n old new → IsFree order old m → n ≤ m → contains_key new (name_of (Temporary k)) ≡ true → k < m + 2
  unfolding Around
  temporary_free k num h free le there = elim (cases_eq k n) [
    | inl e ↦ omega (arith, e, le)
    | inr apart ↦ there_before (Temporary k) num (h (Temporary k) num (λ e. cc) (λ e. apart (let i : k ≡ n = cc in i)) (λ e. cc) (λ e. cc)) free there
  ]

  log_free : (k : ℕ) → IsNumbered k → Around n old new → IsFree order old m → n ≤ m → contains_key new (name_of (Log k)) ≡ true → k < m + 2
  unfolding Around
  log_free k num h free le there = elim (cases_eq k (n + 1)) [
    | inl e ↦ omega (arith, e, le)
    | inr apart ↦ there_before (Log k) num (h (Log k) num (λ e. cc) (λ e. cc) (λ e. cc) (λ e. apart (let i : k ≡ n + 1 = cc in i))) free there
  ]

  pub listed_free : (file : FileName) → IsFileName file → Around n old new → IsFree order old m → n ≤ m → contains_key new (name_of file) ≡ true → number_of file < m + 2
  unfolding Around
  listed_free Current is h free le there = omega arith
  listed_free Lock is h free le there = omega arith
  listed_free (Log k) is h free le there = log_free k is h free le there
  listed_free (Table k) is h free le there = there_before (Table k) is (h (Table k) is (λ e. cc) (λ e. cc) (λ e. cc) (λ e. cc)) free there
  listed_free (OldTable k) is h free le there = there_before (OldTable k) is (h (OldTable k) is (λ e. cc) (λ e. cc) (λ e. cc) (λ e. cc)) free there
  listed_free (Manifest k) is h free le there = manifest_free k is h free le there
  listed_free (Temporary k) is h free le there = temporary_free k is h free le there

names_more : (m : ℕ) (field : Field) → NamesBelow m field → NamesBelow (m + 2) field
names_more m (Comparator name) h = tt
names_more m (LogNumber k) h = omega (arith, h)
names_more m (NextFileNumber k) h = tt
names_more m (LastSequence k) h = tt
names_more m (CompactPointer level key) h = tt
names_more m (DeletedFile level k) h = omega (arith, h)
names_more m (NewFile placed) h = omega (arith, h)
names_more m (PreviousLogNumber k) h = omega (arith, h)

pub all_names_more : (m : ℕ) (fields : List Field) → AllByRecursion (NamesBelow m) fields → AllByRecursion (NamesBelow (m + 2)) fields
all_names_more m [] h = tt
all_names_more m (field ∷ fields) h = (names_more m field h.0, all_names_more m fields h.1)

-- ---- what was found

pub numbered_of : {order : Order} (found : Found) → IsUsable order found → IsNumbered found.number
numbered_of found u = (u.numbered, omega (arith, u.fits))

pub next_of : {order : Order} (found : Found) → IsUsable order found → IsNumbered (found.number + 1)
next_of found u = (omega arith, omega (arith, u.fits))

least : (order : Order) (old : Files) (found : Found) (m : ℕ) → Finds order old found → IsFree order old m → found.number ≤ m
least order old found m h free = h.number.1 m free

pub no_current : (files : Files) (bytes : List ℕ) → IsEmpty files → get files (name_of Current) ≡ Some bytes → ⊥
no_current files bytes e is = (let both : None ≡ Some bytes = sym e.current ∙ is in cc)

-- ---- the numbers of its tables

found_under : (a b : Option (List ℕ)) (bytes : List ℕ) → option_or a b ≡ Some bytes → (is_some a ≡ true) ⊎ (is_some b ≡ true)
found_under None b bytes is = inr (ap is_some is)
found_under (Some x) b bytes is = inl refl

tables_below : (order : Order) (files : Files) (m : ℕ) (tables : List PlacedTable) → IsFree order files m → HaveTableFiles files tables → AllByRecursion (λ (placed : PlacedTable). placed.table.number < m) tables
tables_below order files m [] free h = tt
tables_below order files m (placed ∷ tables) free h = (
  elim (found_under (get files (name_of (Table placed.table.number))) (get files (name_of (OldTable placed.table.number))) h.0.1.0 h.0.1.1) [
    | inl ldb ↦ free.listed (Table placed.table.number) h.0.0 ldb
    | inr sst ↦ free.listed (OldTable placed.table.number) h.0.0 sst
  ],
  tables_below order files m tables free h.1,
)

-- they are below each number that is free
found_below : (order : Order) (old : Files) (found : Found) (m : ℕ) → Finds order old found → IsFree order old m → AllByRecursion (λ (placed : PlacedTable). placed.table.number < m) found.layout.tables.items
found_below order old found m h free =
    let B : List PlacedTable → Type 0 = λ ts. AllByRecursion (λ (placed : PlacedTable). placed.table.number < m) ts in
    elim h.what [
      | inl none ↦ subst B (sym none.1) tt
      | inr some ↦ subst (λ (l : Layout). B l.tables.items) (sym some.layout) (tables_below order old m some.recovered.layout.tables.items free some.read.tables)
    ]

all_limited : (m : ℕ) (tables : List PlacedTable) → m < 2 ^ 62 → AllByRecursion (λ (placed : PlacedTable). placed.table.number < m) tables → AllByRecursion IsBelowLimit tables
all_limited m [] low h = tt
all_limited m (placed ∷ tables) low h = (omega (arith, low, h.0), all_limited m tables low h.1)

-- ---- tables that stay

abbrev pub TablesStay : Files → Files → List TableContent → Type 0
TablesStay old new tables = (content : TableContent) → InTables tables content → table_at new content.placed.table.number ≡ table_at old content.placed.table.number

pub long_back : (order : Order) (old new : Files) (tables : List TableContent) → TablesStay old new tables → AnyHasBytes (IsLongTable order) new tables → AnyHasBytes (IsLongTable order) old tables
long_back order old new tables stay any = (any.0, any.1, (any.2.0, sym (stay any.0 any.1) ∙ any.2.1, any.2.2))

module _ (order : Order) (old new : Files) (found : Found) where
  -- `CURRENT` doesn't name a MANIFEST of the number that is drawn
  other_number : (number : ℕ) → IsNumbered number → Finds order old found → get old (name_of Current) ≡ Some (name_of (Manifest number) ++ 10 ∷ []) → number ≢ found.number
  other_number number num h is e = elim h.what [
    | inl none ↦ absurd (no_current old _ none.0 is)
    | inr some ↦
        let m = some.read.manifest in
        let same : some.read.number ≡ number = same_current old some.read.number number m.numbered num m.current is in
        let below : some.read.number < found.number = h.number.0.listed (Manifest some.read.number) m.numbered (ap is_some m.there) in
        absurd (omega (arith, same, below, e))
  ]

  -- a MANIFEST that is current beside the new one was there before
  pub manifest_back : Finds order old found → Beside found.number old new → (number : ℕ) (edits : List (List Field)) (layout : Layout) → HasManifest order new number edits layout → HasManifest order old number edits layout
  unfolding Beside
  manifest_back h beside number edits layout has =
      let current : get old (name_of Current) ≡ Some (name_of (Manifest number) ++ 10 ∷ []) = sym (beside Current tt (λ e. cc) (λ e. cc)) ∙ has.current in
      let apart = other_number number has.numbered h current in
      record {
        numbered = has.numbered;
        current = current;
        bytes = has.bytes;
        there = sym (beside (Manifest number) has.numbered (λ e. apart (let i : number ≡ found.number = cc in i)) (λ e. cc)) ∙ has.there;
        spelled = has.spelled;
      }

  empty_still : Behind found.number old new → get new (name_of Current) ≡ get old (name_of Current) → IsEmpty old → IsEmpty new
  unfolding Behind
  empty_still behind current e = record {
    current = current ∙ e.current;
    no_log = λ k num. behind (Log k) num (λ e. cc) (λ e. cc) (λ e. cc) ∙ e.no_log k num;
    no_table = λ k num. behind (Table k) num (λ e. cc) (λ e. cc) (λ e. cc) ∙ e.no_table k num;
    no_old_table = λ k num. behind (OldTable k) num (λ e. cc) (λ e. cc) (λ e. cc) ∙ e.no_old_table k num;
  }

  table_still : Around found.number old new → (k : ℕ) → IsNumbered k → table_at new k ≡ table_at old k
  unfolding Around
  table_still around k num =
      let ldb : get new (name_of (Table k)) ≡ get old (name_of (Table k)) = around (Table k) num (λ e. cc) (λ e. cc) (λ e. cc) (λ e. cc) in
      let sst : get new (name_of (OldTable k)) ≡ get old (name_of (OldTable k)) = around (OldTable k) num (λ e. cc) (λ e. cc) (λ e. cc) (λ e. cc) in
      λ i. option_or (ldb i) (sst i)

  pub tables_stay : (files : Files) (tables : List TableContent) → Around found.number old new → HasTables order files tables → TablesStay old new tables
  tables_stay files tables around has content i = table_still around content.placed.table.number (table_of order files tables content has i)

  -- ---- while `CURRENT` is as it was

  consistent_beside : FreeChangeLaw → Finds order old found → Beside found.number old new → (d : Directory) → IsConsistent order old d → IsConsistent order new d
  unfolding Beside
  consistent_beside law h beside d good =
      let apart = other_number d.manifest good.manifest.numbered h good.manifest.current in
      law order old new d (record {
        current = beside Current tt (λ e. cc) (λ e. cc);
        manifest = beside (Manifest d.manifest) good.manifest.numbered (λ e. apart (let i : d.manifest ≡ found.number = cc in i)) (λ e. cc);
        logs = λ k num live. beside (Log k) num (λ e. cc) (λ e. cc);
        tables = tables_stay old d.tables (around_beside found.number old new beside) good.tables;
      }) good

  consistent_back : FreeChangeLaw → Finds order old found → Beside found.number old new → (d : Directory) → IsConsistent order new d → IsConsistent order old d
  unfolding Beside
  consistent_back law h beside d good =
      let before = manifest_back h beside d.manifest d.edits d.layout good.manifest in
      let apart = other_number d.manifest before.numbered h before.current in
      law order new old d (record {
        current = sym (beside Current tt (λ e. cc) (λ e. cc));
        manifest = sym (beside (Manifest d.manifest) before.numbered (λ e. apart (let i : d.manifest ≡ found.number = cc in i)) (λ e. cc));
        logs = λ k num live. sym (beside (Log k) num (λ e. cc) (λ e. cc));
        tables = λ content i. sym (tables_stay new d.tables (around_beside found.number old new beside) good.tables content i);
      }) good

  meaning_beside : FreeChangeLaw → Finds order old found → Beside found.number old new → (tables : List TableContent) (entries : List Entry) (used : ℕ) → IsDirectoryOf order old tables entries used → IsDirectoryOf order new tables entries used
  unfolding Beside Behind
  meaning_beside law h beside tables entries used (inl none) =
      inl (empty_still (λ file is apart other current. beside file is apart other) (beside Current tt (λ e. cc) (λ e. cc)) none.0, none.1, none.2, none.3)
  meaning_beside law h beside tables entries used (inr there) = inr (there.0, consistent_beside law h beside there.0 there.1, there.2, there.3, there.4)

  limits_beside : FreeChangeLaw → Finds order old found → Beside found.number old new → IsWithinLimits order old → IsWithinLimits order new
  limits_beside law h beside within d good past =
      let before = consistent_back law h beside d good in
      within d before (elim past [
        | inl number ↦ inl number
        | inr long ↦ inr (long_back order old new d.tables (tables_stay new d.tables (around_beside found.number old new beside) good.tables) long)
      ])

  pub continued_beside : FreeChangeLaw → Finds order old found → Beside found.number old new → IsContinued order old new
  unfolding Beside
  continued_beside law h beside = record {
    meaning = meaning_beside law h beside;
    made = λ there. ap is_some (beside Current tt (λ e. cc) (λ e. cc)) ∙ there;
    free = λ m free. record {
      some = omega (arith, free.some);
      listed = λ file is there. listed_free order old new found.number m file is (around_beside found.number old new beside) free (least order old found m h free) there;
      recorded = λ number edits layout has.
          let r = free.recorded number edits layout (manifest_back h beside number edits layout has) in
          (omega (arith, r.0), omega (arith, r.1), omega (arith, r.2), all_names_more m (fields_of edits) r.3);
    };
    limits = λ tables entries used of within. limits_beside law h beside within;
  }

-- ---- the new MANIFEST

all_below-append : (m : ℕ) (xs ys : List Field) → AllByRecursion (NamesBelow m) xs → AllByRecursion (NamesBelow m) ys → AllByRecursion (NamesBelow m) (xs ++ ys)
all_below-append m [] ys h k = k
all_below-append m (x ∷ xs) ys h k = (h.0, all_below-append m xs ys h.1 k)

pointers_below : (m level : ℕ) (pointers : List (Option (List ℕ))) → AllByRecursion (NamesBelow m) (pointer_fields level pointers)
pointers_below m level [] = tt
pointers_below m level (None ∷ pointers) = pointers_below m (suc level) pointers
pointers_below m level (Some key ∷ pointers) = (tt, pointers_below m (suc level) pointers)

previous_below_at : (b : Bool) (m number : ℕ) → number < m → AllByRecursion (NamesBelow m) (cond b [] (PreviousLogNumber number ∷ []))
previous_below_at true m number lt = tt
previous_below_at false m number lt = (lt, tt)

news_below : (m : ℕ) (tables : List PlacedTable) → AllByRecursion (λ (placed : PlacedTable). placed.table.number < m) tables → AllByRecursion (NamesBelow m) (map NewFile tables)
news_below m [] h = tt
news_below m (placed ∷ tables) h = (h.0, news_below m tables h.1)

-- the fields of a new MANIFEST name no number from this one on
snapshot_below : (m : ℕ) (name : List ℕ) (layout : Layout) → layout.log_number < m → layout.previous_log_number < m → AllByRecursion (λ (placed : PlacedTable). placed.table.number < m) layout.tables.items
    → AllByRecursion (NamesBelow m) (fields_of (snapshot_fields name layout ∷ []))
snapshot_below m name layout log previous below =
    let pointers = pointer_fields 0 layout.compact_pointers.items in
    let news = map NewFile layout.tables.items in
    let last = previous_fields layout.previous_log_number in
    let rest : AllByRecursion (NamesBelow m) (((pointers ++ news) ++ last) ++ []) =
    all_below-append m ((pointers ++ news) ++ last) []
    (all_below-append m (pointers ++ news) last
    (all_below-append m pointers news (pointers_below m 0 layout.compact_pointers.items) (news_below m layout.tables.items below))
    (previous_below_at (layout.previous_log_number == 0) m layout.previous_log_number previous))
    tt in
    (tt, (log, (tt, (tt, rest))))

more_below : (m : ℕ) (tables : List PlacedTable) → AllByRecursion (λ (placed : PlacedTable). placed.table.number < m) tables → AllByRecursion (λ (placed : PlacedTable). placed.table.number < m + 2) tables
more_below m [] h = tt
more_below m (placed ∷ tables) h = (omega (arith, h.0), more_below m tables h.1)

-- a consistent directory with these parts
abbrev pub HasParts : Order → Files → List TableContent → List Entry → ℕ → Type 0
HasParts order files tables entries used = (d : Directory) × IsConsistent order files d × (tables ≡ d.tables) × (entries ≡ logged d.logs) × (used ≡ used_in d)

module _ (order : Order) (old new : Files) (found : Found) (bytes : List ℕ) where
  -- `CURRENT` names the new MANIFEST, which is there, and to which an edit can be added
  unfoldable pub HasNew : IsNewManifest order found bytes → Type 0
  HasNew w = ManifestEndsAt order new found.number (length bytes) (w.edit ∷ []) w.layout

  -- the parts are after the new MANIFEST
  abbrev pub HasNewParts : IsNewManifest order found bytes → List TableContent → List Entry → ℕ → Type 0
  HasNewParts w tables entries used = (parts : HasParts order new tables entries used) × (parts.0.manifest ≡ found.number) × (parts.0.edits ≡ w.edit ∷ []) × (parts.0.layout ≡ w.layout)

  -- the log numbers of the new layout are below the number after the one of the new log
  pub logs_below : (w : IsNewManifest order found bytes) → Finds order old found → (w.layout.log_number < found.number + 2) × (w.layout.previous_log_number < found.number + 2)
  logs_below w h = elim w.logs [
    | inl same ↦ elim h.what [
      | inl none ↦ absurd (same.0 none.2)
      | inr some ↦
          let r = h.number.0.recorded some.read.number some.read.edits some.recovered.layout some.read.manifest in
          let log : found.layout.log_number ≡ some.recovered.layout.log_number = ap (λ (l : Layout). l.log_number) some.layout in
          let previous : found.layout.previous_log_number ≡ some.recovered.layout.previous_log_number = ap (λ (l : Layout). l.previous_log_number) some.layout in
          (omega (arith, same.1, log, r.1), omega (arith, same.2, previous, r.2))
    ]
    | inr fresh ↦ (omega (arith, fresh.1), omega (arith, fresh.2))
  ]

  pub one_new : OneManifestLaw → (w : IsNewManifest order found bytes) → HasNew w → (number : ℕ) (edits : List (List Field)) (layout : Layout) → HasManifest order new number edits layout
      → (number ≡ found.number) × (edits ≡ w.edit ∷ []) × IsSameLayout layout w.layout
  unfolding HasNew
  one_new one w has number edits layout other = one order new number found.number edits (w.edit ∷ []) layout w.layout other has.manifest

  new_recorded : OneManifestLaw → (w : IsNewManifest order found bytes) → HasNew w → Finds order old found → (m : ℕ) → IsFree order old m → (number : ℕ) (edits : List (List Field)) (layout : Layout) → HasManifest order new number edits layout
      → (layout.next_file_number ≤ m + 2) × (layout.log_number < m + 2) × (layout.previous_log_number < m + 2) × AllByRecursion (NamesBelow (m + 2)) (fields_of edits)
  new_recorded one w has h m free number edits layout other =
      let le = least order old found m h free in
      let same = one_new one w has number edits layout other in
      let below = logs_below w h in
      let log : w.layout.log_number < m + 2 = omega (arith, below.0, le) in
      let previous : w.layout.previous_log_number < m + 2 = omega (arith, below.1, le) in
      let T : List PlacedTable → Type 0 = λ ts. AllByRecursion (λ (placed : PlacedTable). placed.table.number < m + 2) ts in
      let tables = subst T (sym w.tables) (more_below m found.layout.tables.items (found_below order old found m h free)) in
      let parts = snapshot_below (m + 2) order.name w.layout log previous tables in
      let E : List Field → Type 0 = λ edit. AllByRecursion (NamesBelow (m + 2)) (fields_of (edit ∷ [])) in
      let F : List (List Field) → Type 0 = λ es. AllByRecursion (NamesBelow (m + 2)) (fields_of es) in (
        omega (arith, same.2.next_file_number, w.next, le),
        omega (arith, same.2.log_number, log),
        omega (arith, same.2.previous_log_number, previous),
        subst F (sym same.1) (subst E (sym w.fields) parts),
      )

  -- it passes no limit
  new_within : (w : IsNewManifest order found bytes) → IsUsable order found → Finds order old found → HasPastLimit (fields_of (w.edit ∷ [])) → ⊥
  new_within w u h past =
      let low : found.number < 2 ^ 62 = omega (arith, u.fits) in
      let Q : List Field → Type 0 = λ fields. HasPastLimit fields in
      w.within (all_limited found.number found.layout.tables.items low (found_below order old found found.number h h.number.0)) (subst Q (append-nil w.edit) past)

  new_long : (tables : List TableContent) (entries : List Entry) (used : ℕ) → IsDirectoryOf order old tables entries used → Around found.number old new → IsWithinLimits order old → AnyHasBytes (IsLongTable order) new tables → ⊥
  new_long tables entries used (inl none) around within any =
      let N : List TableContent → Type 0 = λ ts. InTables ts any.0 in absurd (subst N none.1 any.1)
  new_long tables entries used (inr there) around within any =
      let A : List TableContent → Type 0 = λ ts. AnyHasBytes (IsLongTable order) new ts in
      let d = there.0 in
      within d there.1 (inr (long_back order old new d.tables (tables_stay order old new found old d.tables around there.1.tables) (subst A there.2 any)))

  new_limits : OpenLaws → (w : IsNewManifest order found bytes) → HasNew w → IsUsable order found → Finds order old found → Around found.number old new → (tables : List TableContent) (entries : List Entry) (used : ℕ)
      → IsDirectoryOf order old tables entries used → HasParts order new tables entries used → IsWithinLimits order old → IsWithinLimits order new
  new_limits laws w has u h around tables entries used of e within d good past =
      let same = laws.directory order new d e.0 good e.1 in
      let manifest = one_new laws.manifest w has d.manifest d.edits d.layout good.manifest in
      let P : List (List Field) → Type 0 = λ es. HasPastLimit (fields_of es) in
      let A : List TableContent → Type 0 = λ ts. AnyHasBytes (IsLongTable order) new ts in
      elim past [
        | inl number ↦ new_within w u h (subst P manifest.1 number)
        | inr long ↦ new_long tables entries used of around within (subst A (same.3 ∙ sym e.2) long)
      ]

  -- what is known of the files once the new MANIFEST is current
  pub continued_new : OpenLaws → (w : IsNewManifest order found bytes) → HasNew w → IsUsable order found → Finds order old found → Around found.number old new → contains_key new (name_of Current) ≡ true
      → ((tables : List TableContent) (entries : List Entry) (used : ℕ) → IsDirectoryOf order old tables entries used → HasParts order new tables entries used) → IsContinued order old new
  continued_new laws w has u h around current meaning = record {
    meaning = λ tables entries used of. inr (meaning tables entries used of);
    made = λ there. current;
    free = λ m free. record {
      some = omega (arith, free.some);
      listed = λ file is there. listed_free order old new found.number m file is around free (least order old found m h free) there;
      recorded = new_recorded laws.manifest w has h m free;
    };
    limits = λ tables entries used of within. new_limits laws w has u h around tables entries used of (meaning tables entries used of) within;
  }

  -- the first MANIFEST of a directory without a database
  first_directory : (w : IsNewManifest order found bytes) → HasNew w → Behind found.number old new → FindsNone old found → HasNewParts w [] [] 0
  unfolding HasNew Behind
  first_directory w has behind none = (
    (
      record { manifest = found.number; edits = w.edit ∷ []; layout = w.layout; tables = []; logs = [] },
      record {
        manifest = has.manifest;
        tables = tt;
        placed = sym (w.tables ∙ none.1);
        logs = tt;
        live = tt;
        rising = tt;
        all = λ k num live there.
            let gone : get new (name_of (Log k)) ≡ None = behind (Log k) num (λ e. cc) (λ e. cc) (λ e. cc) ∙ none.0.no_log k num in
            absurd (let no : is_some (get new (name_of (Log k))) ≡ false = ap is_some gone in cc);
        apart = tt;
        newer = λ e f i. absurd i;
        sequences = tt;
        recorded = λ f i. absurd i;
      },
      refl,
      refl,
      (let last : w.layout.last_sequence ≡ found.used = w.sequence in omega (arith, last, none.3)),
    ),
    refl,
    refl,
    refl,
  )

  reopened_parts : (w : IsNewManifest order found bytes) (d e : Directory) → IsConsistent order new e → used_in e ≡ used_in d → e.manifest ≡ found.number → e.edits ≡ w.edit ∷ [] → e.layout ≡ w.layout
      → e.tables ≡ d.tables → logged e.logs ≡ logged d.logs → HasNewParts w d.tables (logged d.logs) (used_in d)
  reopened_parts w d e good used manifest edits layout tables logs = ((e, good, sym tables, sym logs, sym used), manifest, edits, layout)

  -- the one that leaves what was read
  reopened_directory : OpenLaws → (w : IsNewManifest order found bytes) → HasNew w → Behind found.number old new → Finds order old found → FindsDirectory order old found → (d : Directory) → IsConsistent order old d
      → HasNewParts w d.tables (logged d.logs) (used_in d)
  unfolding HasNew Behind
  reopened_directory laws w has behind h some d good =
      let parts = parts_found order old found d laws.recovered some good in
      let told = laws.reopen order old new d found.number (w.edit ∷ []) w.layout good has.manifest
      (record {
        tables = w.tables ∙ sym parts.0.tables;
        sequence = w.sequence ∙ sym parts.2;
        logs = elim w.logs [
          | inl same ↦ inl (same.1 ∙ sym parts.0.log_number, same.2 ∙ sym parts.0.previous_log_number)
          | inr fresh ↦ inr (parts.1 ∙ fresh.0, fresh.2, λ k num there. (let below : k < found.number = h.number.0.listed (Log k) num there in omega (arith, below, fresh.1)))
        ];
      })
      (λ k num. behind (Log k) num (λ e. cc) (λ e. cc) (λ e. cc))
      (tables_stay order old new found old d.tables (around_behind found.number old new behind) good.tables) in
      reopened_parts w d told.0 told.1 told.3 told.4 told.5 told.6 told.7 told.8

  -- it is what the files say
  pub new_parts : OpenLaws → (w : IsNewManifest order found bytes) → HasNew w → Behind found.number old new → Finds order old found → (tables : List TableContent) (entries : List Entry) (used : ℕ)
      → IsDirectoryOf order old tables entries used → HasNewParts w tables entries used
  new_parts laws w has behind h tables entries used (inl none) = elim h.what [
    | inl first ↦ let e = first_directory w has behind first in ((e.0.0, e.0.1, none.1 ∙ e.0.2, none.2 ∙ e.0.3, none.3 ∙ e.0.4), e.1, e.2, e.3)
    | inr some ↦ absurd (no_current old _ none.0 some.read.manifest.current)
  ]
  new_parts laws w has behind h tables entries used (inr there) = elim h.what [
    | inl first ↦ absurd (no_current old _ first.0 there.1.manifest.current)
    | inr some ↦ let e = reopened_directory laws w has behind h some there.0 there.1 in ((e.0.0, e.0.1, there.2 ∙ e.0.2, there.3 ∙ e.0.3, there.4 ∙ e.0.4), e.1, e.2, e.3)
  ]
