-- The edit of a flush after the MANIFEST.
use Rattle.std.proofs.Common.{◌≡◌, ◌≢◌, ◌⊎◌, ◌<◌, ◌≤◌, ◌+◌, ◌^◌, ℕ, suc, Bool, true, false, eqb, List, [], ◌∷◌, ◌++◌, length, map, Some, All, AllPairs, Ok, Err, IsTrue, string_bytes, is_some, inl, inr, refl, sym, ap, subst, ◌∙◌, arith}
use Rattle.std.specs.Global.{Vec}
use Rattle.std.specs.List.{AllByRecursion, IsDistinct, list_any}
use Rattle.std.specs.Option.{option_or}
use Rattle.std.proofs.lemmas.Bool.{cond_both, or_cases, eqb-true, ne_eqb}
use Rattle.std.proofs.lemmas.Map.Steps.{length-le_from_distinct_below}
use Rattle.coding.specs.declared.error.DbError.TheVariants.{OutOfMemory, Io}
use Rattle.store.specs.Files.{Files, Facts}
use Rattle.ikey.specs.declared.entry.Entry.{Entry}
use Rattle.ikey.specs.Orders.{Order}
use Rattle.edits.specs.Edit.{HasPastLimit}
use Rattle.edits.specs.Layout.{IsLayout, fields_of, is_used, is_before, inserted, after_edit}
use Rattle.edits.specs.Names.{name_of, IsNumbered}
use Rattle.edits.specs.declared.field.Field.{Field}
use Rattle.edits.specs.declared.field.PlacedTable.{PlacedTable}
use Rattle.edits.specs.declared.field.TableFile.{TableFile}
use Rattle.edits.specs.declared.layout.Layout.{Layout}
use Rattle.edits.specs.declared.names.FileName.TheVariants.{Log, Table, OldTable, Manifest}
use Rattle.table.specs.Writing.{KeepsOthers}
use Rattle.versions.specs.Applying.{LeadsLayout}
use Rattle.versions.specs.Levels.{ListsSameTables}
use Rattle.versions.proofs.Pairs.{Among, among_contained}
use Rattle.versions.proofs.Sets.{inside, used_in}
use Rattle.recover.specs.Tables.{TableContent, HasTable, table_at}
use Rattle.recover.specs.Logs.{LogContent, HasLogs}
use Rattle.recover.specs.Directory.{Directory, IsConsistent, HasManifest, EndsAt, used_in as used_of}
use Rattle.recover.specs.internal.Changes.{ManifestEndsAt, AgreeBeside, IsFlush, flushed, with_content, FlushLaw, SameManifestLaw}
use Rattle.recover.specs.Numbers.{NamesBelow}
use Rattle.recover.specs.Report.{IsLongTable, HasBytes}
use Rattle.recover.proofs.Adding.{logs_back}
use Rattle.recover.proofs.Memberships.{in_with, placed_with}
use Rattle.directory_writes.specs.internal.Flush.{CanFlush, PassesNoLimit, KeepsLogsAndTables, HasFlushed, IsFlushed, IsUnflushed, MayBeFlushed}
use Rattle.directory_writes.specs.internal.FlushEdits.{IsAfterFlush, flush_fields}
use Rattle.directory_writes.specs.internal.Level0.{IsLevel0}
use Rattle.directory_writes.specs.internal.Manifest.{CanAddEdit, IsRecordedBelow, AppendsEdit}
use Rattle.directory_writes.specs.declared.flush.FlushPlan.{FlushPlan}
use Rattle.directory_writes.specs.declared.manifest.CurrentManifest.{CurrentManifest}
use Rattle.directory_writes.proofs.FlushEdits.{after_flush, all_said, fields_last, new_one}
use Rattle.directory_writes.proofs.TableFiles.{below_free, below_placed, numbered_table, agree_then, log_stays, end_kept, log_manifest, table_manifest, old_table_manifest}

-- ---- tables of distinct numbers

abbrev placed_of : List TableContent → List PlacedTable
placed_of contents = map (λ (content : TableContent). content.placed) contents

abbrev numbers_of : List PlacedTable → List ℕ
numbers_of tables = map (λ (p : PlacedTable). p.table.number) tables

others_apart : (x : ℕ) (tables : List PlacedTable) → All (λ (q : PlacedTable). x ≢ q.table.number) tables → AllByRecursion (λ (y : ℕ). eqb x y ≡ false) (numbers_of tables)
others_apart x [] h = tt
others_apart x (q ∷ tables) h = (ne_eqb x q.table.number (h 0 q (omega arith)), others_apart x tables (λ k d lt. h (suc k) d (omega (arith, lt))))

distinct_numbers : (tables : List PlacedTable) → AllPairs (λ (a : PlacedTable) (b : PlacedTable). a.table.number ≢ b.table.number) tables → IsDistinct eqb (numbers_of tables)
unfolding IsDistinct
distinct_numbers [] h = tt
distinct_numbers (p ∷ tables) h =
    (others_apart p.table.number tables (λ k d lt. h 0 (suc k) d (omega arith) (omega (arith, lt))), distinct_numbers tables (λ a b d lt le. h (suc a) (suc b) d (omega (arith, lt)) (omega (arith, le))))

one_of_numbers : (q : ℕ) (tables : List PlacedTable) → list_any (eqb q) (numbers_of tables) ≡ true → (p : PlacedTable) × Among p tables × (q ≡ p.table.number)
one_of_numbers q [] e = absurd (cc)
one_of_numbers q (p ∷ tables) e = elim (or_cases (eqb q p.table.number) (list_any (eqb q) (numbers_of tables)) e) [
  | inl here ↦ (p, inl refl, eqb-true q p.table.number here)
  | inr later ↦ let r = one_of_numbers q tables later in (r.0, inr r.1, r.2)
]

count_numbers : (tables : List PlacedTable) → length (numbers_of tables) ≡ length tables
count_numbers [] = refl
count_numbers (p ∷ tables) = ap suc (count_numbers tables)

-- there are few of them
pub few_tables : (tables : List PlacedTable) (n : ℕ) → AllPairs (λ (a : PlacedTable) (b : PlacedTable). a.table.number ≢ b.table.number) tables
    → ((p : PlacedTable) → Among p tables → p.table.number < n) → length tables ≤ n
few_tables tables n pairs below =
    let all : length (numbers_of tables) ≤ n = length-le_from_distinct_below (numbers_of tables) n (distinct_numbers tables pairs)
    (λ q e. let r = one_of_numbers q tables e in (let lt = below r.0 r.1 in omega (arith, lt, r.2))) in
    omega (arith, all, count_numbers tables)

length-inserted : (new : PlacedTable) (tables : List PlacedTable) → length (inserted new tables) ≡ suc (length tables)
length-inserted new [] = refl
length-inserted new (p ∷ tables) =
    cond_both (is_before new p) (new ∷ p ∷ tables) (p ∷ inserted new tables) (λ (ts : List PlacedTable). length ts ≡ suc (length (p ∷ tables)))
    (λ _. refl) (λ _. ap suc (length-inserted new tables))

abbrev pub with_tables : (v : Vec PlacedTable) (tables : List PlacedTable) → length tables < 2 ^ 63 → Vec PlacedTable
with_tables v tables short = record { ptr = v.ptr; len = length tables; cap = length tables; alloc = v.alloc; items = tables; ok = (refl, omega arith); small = short }

-- ---- the last log

last_or : LogContent → List LogContent → LogContent
last_or x [] = x
last_or x (y ∷ logs) = last_or y logs

last_or-push : (x : LogContent) (logs : List LogContent) (last : LogContent) → last_or x (logs ++ last ∷ []) ≡ last
unfolding last_or
last_or-push x [] last = refl
last_or-push x (y ∷ logs) last = last_or-push y logs last

one_last : (xs ys : List LogContent) (a b : LogContent) → xs ++ a ∷ [] ≡ ys ++ b ∷ [] → a ≡ b
one_last xs ys a b e = sym (last_or-push a xs a) ∙ ap (last_or a) e ∙ last_or-push a ys b

-- ---- limits

pub past_split : (xs ys : List Field) → HasPastLimit (xs ++ ys) → HasPastLimit xs ⊎ HasPastLimit ys
past_split [] ys h = inr h
past_split (x ∷ xs) ys (inl a) = inl (inl a)
past_split (x ∷ xs) ys (inr h) = elim (past_split xs ys h) [ inl a ↦ inl (inr a) | inr b ↦ inr b ]

-- ---- what the edit leaves

module _ (order : Order) (old : Files) (m : Facts) (n after : ℕ) (few : n < 2 ^ 62) (more : after ≡ n + 1) (plan : FlushPlan) (manifest : CurrentManifest) (entries : List Entry) (tables : List PlacedTable)
    (d : Directory) (sealed : List LogContent) (current : LogContent) (can : CanFlush order old n plan manifest entries tables d sealed current)
    (now : IsUnflushed order old m.files after plan manifest entries tables d sealed current)
    (table : TableFile) (number_is : table.number ≡ n) (level0 : IsLevel0 order m.files n entries table)
    (edit : List Field) (is : edit ≡ flush_fields plan.log_number plan.previous_log_number after plan.last_sequence table) (limit : HasPastLimit edit → ⊥) where
  abbrev mid : Files
  mid = m.files

  abbrev placed : PlacedTable
  placed = record { level = 0; table = table }

  abbrev items : List PlacedTable
  items = placed_of d.tables

  content_number : level0.content.placed.table.number ≡ n
  content_number = ap (λ (p : PlacedTable). p.table.number) level0.placed ∙ number_is

  below_items : (p : PlacedTable) → Among p items → p.table.number < n
  below_items = below_placed order old d n can.consistent can.free

  fresh_at : (b : Bool) → is_used table.number items ≡ b → is_used table.number items ≡ false
  fresh_at true e =
      let u = used_in table.number items e in
      let below = below_items u.0 (among_contained u.0 items u.1.0 u.1.1 u.1.2) in
      absurd (omega (arith, below, u.2, number_is))
  fresh_at false e = e

  fresh : is_used table.number items ≡ false
  fresh = fresh_at (is_used table.number items) refl

  fresh_layout : is_used table.number d.layout.tables.items ≡ false
  fresh_layout = subst (λ (ts : List PlacedTable). is_used table.number ts ≡ false) can.consistent.placed fresh

  pub short : length (inserted placed d.layout.tables.items) < 2 ^ 63
  short =
      let all : length items ≤ n = few_tables items n can.listed.numbers below_items in
      let same : length items ≡ length d.layout.tables.items = ap length can.consistent.placed in
      omega (arith, all, same, few, length-inserted placed d.layout.tables.items)

  abbrev pub next : Layout
  next = record {
    log_number = current.number;
    previous_log_number = 0;
    next_file_number = after;
    last_sequence = used_of d;
    compact_pointers = d.layout.compact_pointers;
    tables = with_tables d.layout.tables (inserted placed d.layout.tables.items) short;
  }

  folded : IsLayout order.name (d.edits ++ edit ∷ []) next
  folded =
      let after_it : IsAfterFlush plan.log_number after plan.last_sequence table d.layout next = record {
        log_number = can.log_number;
        previous_log_number = refl;
        next_file_number = refl;
        last_sequence = sym can.used;
        compact_pointers = refl;
        tables = refl;
      } in
      subst (λ (e : List Field). IsLayout order.name (d.edits ++ e ∷ []) next) (sym is)
      (after_flush order.name d.edits d.layout next plan.log_number plan.previous_log_number after plan.last_sequence table can.consistent.manifest.spelled.folded can.previous fresh_layout after_it)

  can_add : CanAddEdit order mid manifest.number (string_bytes manifest.name) manifest.end d.edits d.layout edit next
  can_add = record {
    named = can.named ∙ ap (λ (m : ℕ). name_of (Manifest m)) (sym can.number);
    ends = subst (λ (m : ℕ). ManifestEndsAt order mid m manifest.end d.edits d.layout) (sym can.number) now.can.ends;
    folded = folded;
  }

  current_below : current.number < n
  current_below =
      let P : List LogContent → Type 0 = λ cs. HasLogs old cs in
      let has = (logs_back old sealed (current ∷ []) (subst P can.logs can.consistent.logs)).0 in
      can.free.listed (Log current.number) has.numbered (ap is_some has.there)

  recorded : IsRecordedBelow after edit next
  recorded = record {
    next_file_number = omega arith;
    log_number = omega (arith, current_below, more);
    previous_log_number = omega (arith, more);
    named = subst (AllByRecursion (NamesBelow after)) (sym is)
        (all_said (NamesBelow after) plan.log_number plan.previous_log_number after plan.last_sequence table
        (omega (arith, current_below, more, can.log_number)) tt tt (omega (arith, number_is, more)) (omega (arith, more)));
  }

  is_flush : IsFlush d next level0.content sealed current
  is_flush = record {
    logs = can.logs;
    entries = λ e. (λ i. (can.entries_are e).0 ((level0.same e).0 i), λ i. (level0.same e).1 ((can.entries_are e).1 i));
    level = ap (λ (p : PlacedTable). p.level) level0.placed;
    above = λ other i. (let below = below_free order old d n can.consistent can.free other i in omega (arith, below, content_number));
    tables = ap (λ (p : PlacedTable). inserted p d.layout.tables.items) (sym level0.placed);
    forward = omega (arith, can.forward, can.log_number);
    log_number = refl;
    previous_log_number = refl;
    last_sequence = refl;
  }

  is_after : IsAfterFlush current.number after (used_of d) level0.content.placed.table d.layout next
  is_after = record {
    log_number = refl;
    previous_log_number = refl;
    next_file_number = refl;
    last_sequence = refl;
    compact_pointers = refl;
    tables = ap (λ (p : PlacedTable). inserted (record { level = 0; table = p.table }) d.layout.tables.items) (sym level0.placed);
  }

  module _ (new : Files) (others : KeepsOthers mid new (string_bytes manifest.name)) where
    others_named : KeepsOthers mid new (name_of (Manifest d.manifest))
    others_named = subst (λ (q : List ℕ). KeepsOthers mid new q) can.named others

    table_stays : (m : ℕ) → IsNumbered m → table_at new m ≡ table_at mid m
    table_stays m num =
        let kept = others_named in
        let here = kept (name_of (Table m)) (table_manifest m d.manifest num can.consistent.manifest.numbered) in
        let older = kept (name_of (OldTable m)) (old_table_manifest m d.manifest num can.consistent.manifest.numbered) in
        λ j. option_or (here j) (older j)

    beside_edit : AgreeBeside mid new d
    beside_edit = record {
      logs = λ m num live. others_named (name_of (Log m)) (log_manifest m d.manifest num can.consistent.manifest.numbered);
      tables = λ content i. table_stays content.placed.table.number (numbered_table order old d n can.consistent can.free content i);
    }

    beside_all : AgreeBeside old new d
    beside_all = agree_then old mid new d now.kept.beside beside_edit

    has_new : HasTable order new level0.content
    has_new =
        let h = level0.has in
        record {
          numbered = h.numbered;
          bytes = h.bytes;
          there = table_stays level0.content.placed.table.number h.numbered ∙ h.there;
          size = h.size;
          spelled = h.spelled;
          sorted = h.sorted;
          smallest = h.smallest;
          largest = h.largest;
        }

    abbrev done : Directory
    done = flushed d (d.edits ++ edit ∷ []) next level0.content current

    ends_behind : (log position : ℕ) → EndsAt old d log position → EndsAt new done log position
    ends_behind log position e =
        let same : e.last ≡ current = one_last e.before sealed e.last current (sym e.logs ∙ can.logs) in
        record {
          before = [];
          last = current;
          logs = refl;
          number = ap (λ (c : LogContent). c.number) (sym same) ∙ e.number;
          clean = ap (λ (c : LogContent). c.tail) (sym same) ∙ e.clean;
          bytes = e.bytes;
          there = log_stays order old new d can.consistent beside_all e.before e.last log e.logs e.number ∙ e.there;
          length = e.length;
        }

    within : PassesNoLimit order old d → PassesNoLimit order new done
    within h (inl past) = elim (past_split (fields_of d.edits) edit (subst HasPastLimit (fields_last d.edits edit) past)) [
      | inl before ↦ h (inl before)
      | inr here ↦ limit here
    ]
    within h (inr (content, i, has)) = elim (in_with level0.content d.tables content i) [
      | inl same ↦
          let P : TableContent → Type 0 = λ t. HasBytes (IsLongTable order) new t in
          let long = subst P same has in
          level0.short (long.0, sym (table_stays level0.content.placed.table.number level0.has.numbered) ∙ long.1, long.2)
      | inr before ↦ h (inr (content, before, (has.0, sym (beside_all.tables content before) ∙ has.1, has.2)))
    ]

    -- where the MANIFEST has the edit
    pub has_flushed : FlushLaw → HasManifest order new d.manifest (d.edits ++ edit ∷ []) next → HasFlushed order old new n after entries d sealed current
    has_flushed law has =
        let said = law order mid new d (d.edits ++ edit ∷ []) next level0.content sealed current now.can.consistent has beside_edit has_new is_flush in
        record {
          content = level0.content;
          edit = edit;
          next = next;
          number_is = content_number;
          table_entries = level0.same;
          flush = is_flush;
          layout = is_after;
          consistent = said.0;
          same = said.1;
          used = said.2;
          kept = record { beside = beside_all; ends = ends_behind };
          limits = within;
        }

    -- where it hasn't
    pub has_kept : SameManifestLaw → HasManifest order new d.manifest d.edits d.layout → IsConsistent order new d × KeepsLogsAndTables old new d d
    has_kept law has = (law order mid new d now.can.consistent has beside_edit, record { beside = beside_all; ends = end_kept order old new d can.consistent beside_all })

  listed_behind : (left : List PlacedTable) → LeadsLayout (after_edit edit) tables left → ListsSameTables (placed_of (with_content level0.content d.tables)) left
  listed_behind left leads =
      let r = leads items can.listed in
      let made : after_edit edit items ≡ Some (inserted placed items) = ap (λ (e : List Field). after_edit e items) is ∙ new_one plan.log_number plan.previous_log_number after plan.last_sequence table items fresh in
      let same : r.0 ≡ inserted placed items = inside r.0 (inserted placed items) (sym r.1 ∙ made) in
      let all : r.0 ≡ placed_of (with_content level0.content d.tables) = same ∙ ap (λ (p : PlacedTable). inserted p items) (sym level0.placed) ∙ sym (placed_with level0.content d.tables) in
      subst (λ (ts : List PlacedTable). ListsSameTables ts left) all r.2

  -- ---- how the call may end

  pub flushed_ok : FlushLaw → (new : Facts) (end : ℕ) (left : List PlacedTable) → IsTrue new.faithful → AppendsEdit order m new manifest.number (string_bytes manifest.name) manifest.end edit (Ok end)
      → LeadsLayout (after_edit edit) tables left → IsFlushed order old new.files n after end entries left d sealed current
  unfolding has_flushed
  flushed_ok law new end left f r leads =
      let ends : ManifestEndsAt order new.files d.manifest end (d.edits ++ edit ∷ []) next =
      subst (λ (k : ℕ). ManifestEndsAt order new.files k end (d.edits ++ edit ∷ []) next) can.number (r.ok f d.edits d.layout next can_add) in
      record {
        has = has_flushed new.files (r.others f) law ends.manifest;
        ends = ends;
        free = r.free f d.edits d.layout next can_add after now.can.free recorded;
        listed = listed_behind left leads;
      }

  pub maybe_flushed : FlushLaw → SameManifestLaw → (new : Facts) → IsTrue new.faithful → AppendsEdit order m new manifest.number (string_bytes manifest.name) manifest.end edit (Err Io)
      → MayBeFlushed order old new.files n after entries d sealed current
  maybe_flushed law same new f r = record {
    either = elim (r.device f refl d.edits d.layout next can_add) [
      | inl has ↦ inl (has_kept new.files (r.others f) same (subst (λ (k : ℕ). HasManifest order new.files k d.edits d.layout) can.number has))
      | inr has ↦ inr (has_flushed new.files (r.others f) law (subst (λ (k : ℕ). HasManifest order new.files k (d.edits ++ edit ∷ []) next) can.number has))
    ];
    free = r.free f d.edits d.layout next can_add after now.can.free recorded;
  }

  pub unflushed_still : (new : Facts) → IsTrue new.faithful → AppendsEdit order m new manifest.number (string_bytes manifest.name) manifest.end edit (Err OutOfMemory)
      → IsUnflushed order old new.files after plan manifest entries tables d sealed current
  unflushed_still new f r = subst (λ (fs : Files). IsUnflushed order old fs after plan manifest entries tables d sealed current) (sym (r.memory f refl)) now
