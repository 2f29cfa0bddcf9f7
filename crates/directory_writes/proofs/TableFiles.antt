-- A table that the directory doesn't know yet.
use Rattle.std.proofs.Common.{◌≡◌, ◌≢◌, ◌⊎◌, ◌<◌, ◌+◌, ℕ, Bool, true, false, List, [], ◌∷◌, ◌++◌, map, Contains, Option, Some, None, is_some, inl, inr, refl, sym, ap, subst, ◌∙◌, arith}
use Rattle.std.specs.Cmp.{tied_itself}
use Rattle.std.specs.Cmp.Lexicographic.{slice_cmp, nat_list_cmp_total}
use Rattle.std.specs.Ordering.{is_eq, nat_cmp, eq_by_cmp}
use Rattle.std.specs.FinMap.{get, contains_key}
use Rattle.std.specs.Option.{option_or}
use Rattle.std.proofs.lemmas.Bool.{false≢true}
use Rattle.std.proofs.lemmas.List.Elements.{All-contains}
use Rattle.coding.specs.declared.error.DbError.{DbError}
use Rattle.coding.specs.declared.error.DbError.TheVariants.{Corrupt}
use Rattle.store.specs.Files.{Files, Facts}
use Rattle.ikey.specs.declared.entry.Entry.{Entry}
use Rattle.ikey.specs.Orders.{Order}
use Rattle.edits.specs.Names.{name_of, IsNumbered}
use Rattle.edits.specs.declared.field.PlacedTable.{PlacedTable}
use Rattle.edits.specs.declared.names.FileName.TheVariants.{Current, Log, Table, OldTable, Manifest}
use Rattle.edits.proofs.FileNames.{one_file}
use Rattle.table.specs.Writing.{KeepsOthers}
use Rattle.recover.specs.Tables.{TableContent, InTables}
use Rattle.recover.specs.Logs.{LogContent, HasLogs, IsLive, InLogs}
use Rattle.recover.specs.Directory.{Directory, IsConsistent, EndsAt}
use Rattle.recover.specs.internal.Changes.{ManifestEndsAt, AgreeBeside, IsUnread, UnreadLaw}
use Rattle.recover.specs.Numbers.{IsFree, number_of}
use Rattle.recover.proofs.Adding.{last_in, logs_back}
use Rattle.recover.proofs.Keeping.{keep_manifest, live_of}
use Rattle.recover.proofs.Memberships.{one_of_tables}
use Rattle.recover.proofs.NamedFiles.{same_name}
use Rattle.versions.proofs.Pairs.{Among, among_contained}
use Rattle.directory_writes.specs.internal.Flush.{CanFlush, IsCorrupt, IsUnflushed, RefusesNewTable}
use Rattle.directory_writes.specs.declared.flush.FlushPlan.{FlushPlan}
use Rattle.directory_writes.specs.declared.manifest.CurrentManifest.{CurrentManifest}
use Rattle.directory_writes.proofs.NewLogFiles.{recorded_more}

-- ---- names

-- the names are the same or not
pub one_name : (q name : List ℕ) → (q ≡ name) ⊎ (q ≢ name)
one_name q name = by (eq_by_cmp (slice_cmp nat_cmp) q name) refl
  where
    by : (b : Bool) → eq_by_cmp (slice_cmp nat_cmp) q name ≡ b → (q ≡ name) ⊎ (q ≢ name)
    by true is = inl (same_name q name is)
    by false is = inr (λ e.
        let itself : eq_by_cmp (slice_cmp nat_cmp) name name ≡ true = ap is_eq (tied_itself nat_list_cmp_total name) in
        false≢true (sym is ∙ ap (λ (x : List ℕ). eq_by_cmp (slice_cmp nat_cmp) x name) e ∙ itself))

pub current_table : (n : ℕ) → IsNumbered n → name_of Current ≢ name_of (Table n)
current_table n q e = let same : Current ≡ Table n = one_file Current (Table n) tt q e in cc

pub manifest_table : (m n : ℕ) → IsNumbered m → IsNumbered n → name_of (Manifest m) ≢ name_of (Table n)
manifest_table m n p q e = let same : Manifest m ≡ Table n = one_file (Manifest m) (Table n) p q e in cc

pub log_table : (m n : ℕ) → IsNumbered m → IsNumbered n → name_of (Log m) ≢ name_of (Table n)
log_table m n p q e = let same : Log m ≡ Table n = one_file (Log m) (Table n) p q e in cc

pub old_table_table : (m n : ℕ) → IsNumbered m → IsNumbered n → name_of (OldTable m) ≢ name_of (Table n)
old_table_table m n p q e = let same : OldTable m ≡ Table n = one_file (OldTable m) (Table n) p q e in cc

pub table_table : (m n : ℕ) → IsNumbered m → IsNumbered n → m ≢ n → name_of (Table m) ≢ name_of (Table n)
table_table m n p q apart e = let same : Table m ≡ Table n = one_file (Table m) (Table n) p q e in apart cc

pub log_manifest : (m n : ℕ) → IsNumbered m → IsNumbered n → name_of (Log m) ≢ name_of (Manifest n)
log_manifest m n p q e = let same : Log m ≡ Manifest n = one_file (Log m) (Manifest n) p q e in cc

pub table_manifest : (m n : ℕ) → IsNumbered m → IsNumbered n → name_of (Table m) ≢ name_of (Manifest n)
table_manifest m n p q e = let same : Table m ≡ Manifest n = one_file (Table m) (Manifest n) p q e in cc

pub old_table_manifest : (m n : ℕ) → IsNumbered m → IsNumbered n → name_of (OldTable m) ≢ name_of (Manifest n)
old_table_manifest m n p q e = let same : OldTable m ≡ Manifest n = one_file (OldTable m) (Manifest n) p q e in cc

-- ---- which numbers are taken

there_as : (files : Files) (n : ℕ) (a b : Option (List ℕ)) (bytes : List ℕ) → get files (name_of (Table n)) ≡ a → get files (name_of (OldTable n)) ≡ b → option_or a b ≡ Some bytes
    → (contains_key files (name_of (Table n)) ≡ true) ⊎ (contains_key files (name_of (OldTable n)) ≡ true)
there_as files n (Some x) b bytes p q e = inl (ap is_some p)
there_as files n None b bytes p q e = inr (ap is_some (q ∙ e))

module _ (order : Order) (files : Files) (d : Directory) (n : ℕ) (h : IsConsistent order files d) (free : IsFree order files n) where
  pub numbered_table : (content : TableContent) → InTables d.tables content → IsNumbered content.placed.table.number
  numbered_table content i = (one_of_tables order files d.tables content h.tables i).numbered

  -- the directory's tables have numbers below what is free
  pub below_free : (content : TableContent) → InTables d.tables content → content.placed.table.number < n
  below_free content i =
      let has = one_of_tables order files d.tables content h.tables i in
      let m = content.placed.table.number in
      elim (there_as files m (get files (name_of (Table m))) (get files (name_of (OldTable m))) has.bytes refl refl has.there) [
        | inl there ↦ free.listed (Table m) has.numbered there
        | inr there ↦ free.listed (OldTable m) has.numbered there
      ]

-- ---- what stays beside

agree_itself : (files : Files) (d : Directory) → AgreeBeside files files d
agree_itself files d = record { logs = λ n num live. refl; tables = λ content i. refl }

pub agree_then : (a b c : Files) (d : Directory) → AgreeBeside a b d → AgreeBeside b c d → AgreeBeside a c d
agree_then a b c d p q = record { logs = λ n num live. q.logs n num live ∙ p.logs n num live; tables = λ content i. q.tables content i ∙ p.tables content i }

numbered_last : (files : Files) (before : List LogContent) (last : LogContent) → HasLogs files (before ++ last ∷ []) → IsNumbered last.number
numbered_last files before last h = (logs_back files before (last ∷ []) h).0.numbered

-- the last log is one of the live ones
module _ (order : Order) (old new : Files) (d : Directory) (h : IsConsistent order old d) (agree : AgreeBeside old new d) where
  pub last_numbered : (before : List LogContent) (last : LogContent) → d.logs ≡ before ++ last ∷ [] → IsNumbered last.number
  last_numbered before last logs = let P : List LogContent → Type 0 = λ cs. HasLogs old cs in numbered_last old before last (subst P logs h.logs)

  pub last_live : (before : List LogContent) (last : LogContent) → d.logs ≡ before ++ last ∷ [] → IsLive d.layout last.number
  last_live before last logs =
      let P : List LogContent → Type 0 = λ cs. InLogs cs last.number in
      live_of d.layout d.logs last.number h.live (subst P (sym logs) (last_in before last))

  pub log_stays : (before : List LogContent) (last : LogContent) (log : ℕ) → d.logs ≡ before ++ last ∷ [] → last.number ≡ log → get new (name_of (Log log)) ≡ get old (name_of (Log log))
  log_stays before last log logs is =
      let P : ℕ → Type 0 = λ m. get new (name_of (Log m)) ≡ get old (name_of (Log m)) in
      subst P is (agree.logs last.number (last_numbered before last logs) (last_live before last logs))

  pub end_kept : (log position : ℕ) → EndsAt old d log position → EndsAt new d log position
  end_kept log position e = record {
    before = e.before;
    last = e.last;
    logs = e.logs;
    number = e.number;
    clean = e.clean;
    bytes = e.bytes;
    there = log_stays e.before e.last log e.logs e.number ∙ e.there;
    length = e.length;
  }

-- ---- the table's file

module _ (order : Order) (old mid : Files) (n : ℕ) (numbered : IsNumbered n) (others : KeepsOthers old mid (name_of (Table n))) where
  free_then : IsFree order old n → IsFree order mid (n + 1)
  free_then free = record {
    some = omega arith;
    listed = λ file is there. elim (one_name (name_of file) (name_of (Table n))) [
      | inl same ↦ let e : number_of file ≡ n = ap number_of (one_file file (Table n) is numbered same) in omega (arith, e)
      | inr apart ↦ let below : number_of file < n = free.listed file is (ap is_some (sym (others (name_of file) apart)) ∙ there) in omega (arith, below)
    ];
    recorded = λ m edits layout has. recorded_more order old n free m edits layout
        (keep_manifest order mid old m edits layout (sym (others (name_of Current) (current_table n numbered))) (sym (others (name_of (Manifest m)) (manifest_table m n has.numbered numbered))) has);
  }

  module _ (plan : FlushPlan) (manifest : CurrentManifest) (entries : List Entry) (tables : List PlacedTable) (d : Directory) (sealed : List LogContent) (current : LogContent)
      (can : CanFlush order old n plan manifest entries tables d sealed current) where
    other_number : (content : TableContent) → InTables d.tables content → content.placed.table.number ≢ n
    other_number content i e = let below = below_free order old d n can.consistent can.free content i in omega (arith, below, e)

    beside : AgreeBeside old mid d
    beside = record {
      logs = λ m num live. others (name_of (Log m)) (log_table m n num numbered);
      tables = λ content i.
          let m = content.placed.table.number in
          let num = numbered_table order old d n can.consistent can.free content i in
          let here = others (name_of (Table m)) (table_table m n num numbered (other_number content i)) in
          let older = others (name_of (OldTable m)) (old_table_table m n num numbered) in
          λ j. option_or (here j) (older j);
    }

    unread : IsUnread old d (name_of (Table n))
    unread = record {
      current = λ e. current_table n numbered (sym e);
      manifest = λ e. manifest_table d.manifest n can.consistent.manifest.numbered numbered (sym e);
      logs = λ m num live e. log_table m n num numbered (sym e);
      tables = λ content i e. table_table content.placed.table.number n (numbered_table order old d n can.consistent can.free content i) numbered (other_number content i) (sym e);
      old_tables = λ content i. inl (λ e. old_table_table content.placed.table.number n (numbered_table order old d n can.consistent can.free content i) numbered (sym e));
    }

    ends_kept : ManifestEndsAt order mid d.manifest manifest.end d.edits d.layout
    ends_kept =
        let e = can.ends.manifest in
        record {
          manifest = record {
            numbered = e.numbered;
            current = others (name_of Current) (current_table n numbered) ∙ e.current;
            bytes = e.bytes;
            there = others (name_of (Manifest d.manifest)) (manifest_table d.manifest n e.numbered numbered) ∙ e.there;
            spelled = e.spelled;
          };
          clean = can.ends.clean;
          length = can.ends.length;
        }

    -- what was written of it changes nothing
    pub unflushed : UnreadLaw → IsUnflushed order old mid (n + 1) plan manifest entries tables d sealed current
    unflushed law = record {
      can = record {
        consistent = law order old mid d (name_of (Table n)) can.consistent unread others;
        logs = can.logs;
        entries_are = can.entries_are;
        log_number = can.log_number;
        forward = can.forward;
        previous = can.previous;
        used = can.used;
        number = can.number;
        named = can.named;
        ends = ends_kept;
        free = free_then can.free;
        listed = can.listed;
      };
      kept = record { beside = beside; ends = end_kept order old mid d can.consistent beside };
    }

-- where nothing was done
pub unflushed_yet : (order : Order) (files : Files) (n : ℕ) (plan : FlushPlan) (manifest : CurrentManifest) (entries : List Entry) (tables : List PlacedTable) (d : Directory) (sealed : List LogContent) (current : LogContent)
    → CanFlush order files n plan manifest entries tables d sealed current → IsUnflushed order files files n plan manifest entries tables d sealed current
unflushed_yet order files n plan manifest entries tables d sealed current can = record { can = can; kept = record { beside = agree_itself files d; ends = λ log position e. e } }

-- ---- the version has room

in_placed : (contents : List TableContent) (p : PlacedTable) → Among p (map (λ (content : TableContent). content.placed) contents) → (content : TableContent) × InTables contents content × (content.placed ≡ p)
in_placed [] p h = absurd h
in_placed (c ∷ contents) p (inl e) = (c, inl refl, e)
in_placed (c ∷ contents) p (inr h) = let r = in_placed contents p h in (r.0, inr r.1, r.2)

-- a directory's tables have numbers below what is free
pub below_placed : (order : Order) (files : Files) (d : Directory) (n : ℕ) → IsConsistent order files d → IsFree order files n → (p : PlacedTable) → Among p (map (λ (content : TableContent). content.placed) d.tables) → p.table.number < n
below_placed order files d n h free p a =
    let r = in_placed d.tables p a in
    let below = below_free order files d n h free r.0 r.1 in
    omega (arith, below, ap (λ (q : PlacedTable). q.table.number) r.2)

pub not_corrupt : (order : Order) (files : Files) (n after : ℕ) (plan : FlushPlan) (manifest : CurrentManifest) (entries : List Entry) (tables : List PlacedTable) (d : Directory) (sealed : List LogContent) (current : LogContent)
    (old new : Facts) (e : DbError) → CanFlush order files n plan manifest entries tables d sealed current → RefusesNewTable e old new entries tables n after → IsCorrupt e → ⊥
not_corrupt order files n after plan manifest entries tables d sealed current old new (Corrupt file what) can (i, p, lt, here, is) c =
    let items = map (λ (content : TableContent). content.placed) d.tables in
    let there = All-contains (Contains items) tables p can.listed.only (i, lt, here) in
    let below = below_placed order files d n can.consistent can.free p (among_contained p items there.0 there.1 there.2) in
    omega (arith, below, is)
not_corrupt order files n after plan manifest entries tables d sealed current old new e can h c = absurd c
