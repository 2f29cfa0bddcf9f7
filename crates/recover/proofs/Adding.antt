-- What a change of the last log does to the meaning of a directory.
use Rattle.std.proofs.Common.{◌≡◌, ◌≢◌, ℕ, ◌+◌, ◌<◌, ◌≤◌, max, ◌⊎◌, inl, inr, true, List, [], ◌∷◌, ◌++◌, length, take, Some, is_some, refl, sym, ap, ◌∙◌, subst, append_assoc, arith}
use Rattle.std.specs.FinMap.{get, insert, contains_key}
use Rattle.std.proofs.lemmas.Bool.{cases_eq}
use Rattle.std.proofs.lemmas.List.{append-nil, length-append}
use Rattle.ikey.specs.Orders.{Order}
use Rattle.store.specs.Files.{Files}
use Rattle.logfile.specs.Log.{IsLog}
use Rattle.logfile.specs.declared.record.Tail.{Tail}
use Rattle.logfile.specs.declared.record.Tail.TheVariants.{Clean}
use Rattle.batch.specs.Batch.{IsBatch}
use Rattle.batch.specs.declared.operation.Operation.{Operation}
use Rattle.batch.specs.declared.operation.Operation.TheVariants.{Put, Delete}
use Rattle.edits.specs.Names.{name_of, IsNumbered}
use Rattle.std.specs.Option.{option_or}
use Rattle.edits.specs.declared.layout.Layout.{Layout}
use Rattle.edits.specs.declared.names.FileName.TheVariants.{Current, Log, Table, OldTable, Manifest}
use Rattle.edits.proofs.FileNames.{one_file}
use Rattle.ikey.specs.declared.entry.Entry.{Entry}
use Rattle.recover.specs.Entries.{made_entry, entries_of, greatest, RiseAbove}
use Rattle.ikey.specs.Views.{Among}
use Rattle.recover.specs.Tables.{table_at, TableContent, HasTables, InTables, tabled}
use Rattle.recover.specs.Logs.{Batch, LogContent, AreBatches, HasLog, HasLogs, IsLive, AreLive, InLogs, NumbersRise, batch_entries, logged}
use Rattle.recover.specs.Directory.{Directory, IsConsistent, EndsAt, IsAppendable, IsDirectory, entries_in, used_in}
use Rattle.recover.specs.internal.Laws.{AppendLaw, FailedAppendLaw}
use Rattle.recover.specs.internal.Changes.{IsExtended, ExtendLaw, FailedExtendLaw}
use Rattle.recover.proofs.NamedFiles.{get_other, get_same}
use Rattle.recover.proofs.Keeping.{keep_tables, keep_logs}

-- ---- entries

pub among_split : (xs ys : List Entry) (e : Entry) → Among (xs ++ ys) e → Among xs e ⊎ Among ys e
among_split [] ys e h = inr h
among_split (x ∷ xs) ys e (inl h) = inl (inl h)
among_split (x ∷ xs) ys e (inr h) = elim (among_split xs ys e h) [ inl i ↦ inl (inr i) | inr i ↦ inr i ]

pub greatest-append : (xs ys : List Entry) → greatest (xs ++ ys) ≡ max (greatest xs) (greatest ys)
greatest-append [] ys = omega arith
greatest-append (x ∷ xs) ys = omega (arith, greatest-append xs ys)

pub rise-append : (low mark : ℕ) (xs ys : List Entry) → RiseAbove low xs → low ≤ mark → greatest xs ≤ mark → RiseAbove mark ys → RiseAbove low (xs ++ ys)
rise-append low mark [] ys h le top k = lower low mark ys le k
  where
    lower : (low mark : ℕ) (ys : List Entry) → low ≤ mark → RiseAbove mark ys → RiseAbove low ys
    lower low mark [] le k = tt
    lower low mark (y ∷ ys) le k = (omega (arith, k.0, le), k.1)
rise-append low mark (x ∷ xs) ys h le top k = (h.0, rise-append x.sequence mark xs ys h.1 (omega (arith, top)) (omega (arith, top)) k)

pub above : (low : ℕ) (ys : List Entry) (e : Entry) → RiseAbove low ys → Among ys e → low < e.sequence
above low [] e k i = absurd i
above low (y ∷ ys) e k (inl i) = omega (arith, k.0, ap (λ (f : Entry). f.sequence) i)
above low (y ∷ ys) e k (inr i) = let rest : y.sequence < e.sequence = above y.sequence ys e k.1 i in omega (arith, k.0, rest)

pub sequence-entry_of : (s : ℕ) (o : Operation) → (made_entry s o).sequence ≡ s
sequence-entry_of s (Put key value) = refl
sequence-entry_of s (Delete key) = refl

pub rise-entries_of : (low s : ℕ) (os : List Operation) → low < s → RiseAbove low (entries_of s os)
rise-entries_of low s [] lt = tt
rise-entries_of low s (o ∷ os) lt =
    (omega (arith, lt, sequence-entry_of s o), let P : ℕ → Type 0 = λ n. RiseAbove n (entries_of (s + 1) os) in subst P (sym (sequence-entry_of s o)) (rise-entries_of s (s + 1) os (omega arith)))

pub greatest-entries_of : (used : ℕ) (os : List Operation) → max used (greatest (entries_of (used + 1) os)) ≡ used + length os
greatest-entries_of used [] = omega arith
greatest-entries_of used (o ∷ os) = omega (arith, greatest-entries_of (used + 1) os, sequence-entry_of (used + 1) o)

-- ---- logs

pub logged-append : (xs ys : List LogContent) → logged (xs ++ ys) ≡ logged xs ++ logged ys
logged-append [] ys = refl
logged-append (x ∷ xs) ys = ap (λ (es : List Entry). batch_entries x.batches ++ es) (logged-append xs ys) ∙ sym (append_assoc (batch_entries x.batches) (logged xs) (logged ys))

pub batch_entries-push : (bs : List Batch) (b : Batch) → batch_entries (bs ++ b ∷ []) ≡ batch_entries bs ++ entries_of b.0 b.1
batch_entries-push [] b = append-nil (entries_of b.0 b.1)
batch_entries-push (c ∷ bs) b = ap (λ (es : List Entry). entries_of c.0 c.1 ++ es) (batch_entries-push bs b) ∙ sym (append_assoc (entries_of c.0 c.1) (batch_entries bs) (entries_of b.0 b.1))

pub batches-push : (records : List (List ℕ)) (bs : List Batch) (payload : List ℕ) (b : Batch) → AreBatches records bs → IsBatch payload b.0 b.1 → AreBatches (records ++ payload ∷ []) (bs ++ b ∷ [])
batches-push [] [] payload b h k = (k, tt)
batches-push (r ∷ records) (c ∷ bs) payload b h k = (h.0, batches-push records bs payload b h.1 k)
batches-push [] (c ∷ bs) payload b h k = absurd h
batches-push (r ∷ records) [] payload b h k = absurd h

pub logs_front : (files : Files) (xs ys : List LogContent) → HasLogs files (xs ++ ys) → HasLogs files xs
logs_front files [] ys h = tt
logs_front files (x ∷ xs) ys h = (h.0, logs_front files xs ys h.1)

pub logs_back : (files : Files) (xs ys : List LogContent) → HasLogs files (xs ++ ys) → HasLogs files ys
logs_back files [] ys h = h
logs_back files (x ∷ xs) ys h = logs_back files xs ys h.1

pub logs_join : (files : Files) (xs ys : List LogContent) → HasLogs files xs → HasLogs files ys → HasLogs files (xs ++ ys)
logs_join files [] ys h k = k
logs_join files (x ∷ xs) ys h k = (h.0, logs_join files xs ys h.1 k)

live_again : (layout : Layout) (xs : List LogContent) (last next : LogContent) → next.number ≡ last.number → AreLive layout (xs ++ last ∷ []) → AreLive layout (xs ++ next ∷ [])
live_again layout [] last next e h = let P : ℕ → Type 0 = λ n. IsLive layout n in (subst P (sym e) h.0, tt)
live_again layout (x ∷ xs) last next e h = (h.0, live_again layout xs last next e h.1)

rise_again : (low : ℕ) (xs : List LogContent) (last next : LogContent) → next.number ≡ last.number → NumbersRise low (xs ++ last ∷ []) → NumbersRise low (xs ++ next ∷ [])
rise_again low [] last next e h = (omega (arith, h.0, e), tt)
rise_again low (x ∷ xs) last next e h = (h.0, rise_again x.number xs last next e h.1)

in_again : (xs : List LogContent) (last next : LogContent) (n : ℕ) → next.number ≡ last.number → InLogs (xs ++ last ∷ []) n → InLogs (xs ++ next ∷ []) n
in_again [] last next n e (inl h) = inl (h ∙ sym e)
in_again [] last next n e (inr h) = inr h
in_again (x ∷ xs) last next n e (inl h) = inl h
in_again (x ∷ xs) last next n e (inr h) = inr (in_again xs last next n e h)

pub last_in : (xs : List LogContent) (last : LogContent) → InLogs (xs ++ last ∷ []) last.number
last_in [] last = inl refl
last_in (x ∷ xs) last = inr (last_in xs last)

pub above_low : (low : ℕ) (xs : List LogContent) (last : LogContent) → NumbersRise low (xs ++ last ∷ []) → low < last.number
above_low low [] last h = h.0
above_low low (x ∷ xs) last h = let rest : x.number < last.number = above_low x.number xs last h.1 in omega (arith, h.0, rest)

pub below_last : (low : ℕ) (xs : List LogContent) (last : LogContent) (n : ℕ) → NumbersRise low (xs ++ last ∷ []) → InLogs xs n → n < last.number
below_last low [] last n h i = absurd i
below_last low (x ∷ xs) last n h (inl i) = let rest : x.number < last.number = above_low x.number xs last h.1 in omega (arith, i, rest)
below_last low (x ∷ xs) last n h (inr i) = below_last x.number xs last n h.1 i

-- ---- names

pub logs_apart : (m n : ℕ) → IsNumbered m → IsNumbered n → m ≢ n → name_of (Log m) ≢ name_of (Log n)
logs_apart m n p q apart e = let same : Log m ≡ Log n = one_file (Log m) (Log n) p q e in apart cc

pub current_apart : (n : ℕ) → IsNumbered n → name_of Current ≢ name_of (Log n)
current_apart n q e = let same : Current ≡ Log n = one_file Current (Log n) tt q e in cc

pub manifest_apart : (m n : ℕ) → IsNumbered m → IsNumbered n → name_of (Manifest m) ≢ name_of (Log n)
manifest_apart m n p q e = let same : Manifest m ≡ Log n = one_file (Manifest m) (Log n) p q e in cc

pub old_table_apart : (m n : ℕ) → IsNumbered m → IsNumbered n → name_of (OldTable m) ≢ name_of (Log n)
old_table_apart m n p q e = let same : OldTable m ≡ Log n = one_file (OldTable m) (Log n) p q e in cc

pub table_apart : (m n : ℕ) → IsNumbered m → IsNumbered n → name_of (Table m) ≢ name_of (Log n)
table_apart m n p q e = let same : Table m ≡ Log n = one_file (Table m) (Log n) p q e in cc

pub table_other : (files : Files) (m n : ℕ) (text : List ℕ) → IsNumbered m → IsNumbered n → table_at (insert files (name_of (Log n)) text) m ≡ table_at files m
table_other files m n text p q =
    let now : get (insert files (name_of (Log n)) text) (name_of (Table m)) ≡ get files (name_of (Table m)) = get_other files (name_of (Log n)) text (name_of (Table m)) (table_apart m n p q) in
    let old : get (insert files (name_of (Log n)) text) (name_of (OldTable m)) ≡ get files (name_of (OldTable m)) = get_other files (name_of (Log n)) text (name_of (OldTable m)) (old_table_apart m n p q) in
    λ i. option_or (now i) (old i)

pub table_of : (order : Order) (files : Files) (contents : List TableContent) (content : TableContent) → HasTables order files contents → InTables contents content → IsNumbered content.placed.table.number
table_of order files [] content h i = absurd i
table_of order files (c ∷ contents) content h (inl i) = let P : TableContent → Type 0 = λ t. IsNumbered t.placed.table.number in subst P (sym i) h.0.numbered
table_of order files (c ∷ contents) content h (inr i) = table_of order files contents content h.1 i

-- ---- another last log

-- the parts with another last log
replaced : Directory → List LogContent → LogContent → Directory
replaced d before next = record { manifest = d.manifest; edits = d.edits; layout = d.layout; tables = d.tables; logs = before ++ next ∷ [] }

logged-replaced : (d : Directory) (before : List LogContent) (last next : LogContent) (more : List Entry) → d.logs ≡ before ++ last ∷ []
    → batch_entries next.batches ≡ batch_entries last.batches ++ more → logged (before ++ next ∷ []) ≡ logged d.logs ++ more
logged-replaced d before last next more parts added =
    logged-append before (next ∷ [])
    ∙ ap (λ (es : List Entry). logged before ++ es) (append-nil (batch_entries next.batches) ∙ added ∙ ap (λ (es : List Entry). es ++ more) (sym (append-nil (batch_entries last.batches))))
    ∙ sym (append_assoc (logged before) (logged (last ∷ [])) more)
    ∙ ap (λ (es : List Entry). es ++ more) (sym (logged-append before (last ∷ [])) ∙ ap logged (sym parts))

-- files with another text after the last log's name
put : Files → LogContent → List ℕ → Files
put files last text = insert files (name_of (Log last.number)) text

newer_too : (d : Directory) (es more : List Entry) → es ≡ logged d.logs ++ more → RiseAbove (used_in d) more
    → ((e f : Entry) → Among (logged d.logs) e → Among (tabled d.tables) f → e.key ≡ f.key → f.sequence < e.sequence)
    → ((f : Entry) → Among (tabled d.tables) f → f.sequence ≤ d.layout.last_sequence)
    → (e f : Entry) → Among es e → Among (tabled d.tables) f → e.key ≡ f.key → f.sequence < e.sequence
newer_too d es more whole rise newer recorded e f i j key =
    let P : List Entry → Type 0 = λ xs. Among xs e in
    elim (among_split (logged d.logs) more e (subst P whole i)) [
      | inl old ↦ newer e f old j key
      | inr new ↦ let top : used_in d < e.sequence = above (used_in d) more e rise new in omega (arith, top, recorded f j)
    ]

all_too : (order : Order) (files : Files) (d : Directory) (before : List LogContent) (last next : LogContent) (text : List ℕ) → IsConsistent order files d → d.logs ≡ before ++ last ∷ [] → next.number ≡ last.number → IsNumbered last.number
    → (n : ℕ) → IsNumbered n → IsLive d.layout n → contains_key (put files last text) (name_of (Log n)) ≡ true → InLogs (before ++ next ∷ []) n
unfolding put
all_too order files d before last next text h parts same numbered n num live there =
    let P : ℕ → Type 0 = λ m. InLogs (before ++ next ∷ []) m in
    elim (cases_eq n last.number) [
      | inl e ↦ subst P (same ∙ sym e) (last_in before next)
      | inr apart ↦
          let Q : List LogContent → Type 0 = λ cs. InLogs cs n in
          in_again before last next n same (subst Q parts (h.all n num live (ap is_some (sym (get_other files (name_of (Log last.number)) text (name_of (Log n)) (logs_apart n last.number num numbered apart))) ∙ there)))
    ]

good_again : (order : Order) (files : Files) (d : Directory) (before : List LogContent) (last next : LogContent) (text : List ℕ) (more : List Entry) → IsConsistent order files d
    → d.logs ≡ before ++ last ∷ [] → next.number ≡ last.number → HasLog (put files last text) next
    → batch_entries next.batches ≡ batch_entries last.batches ++ more → RiseAbove (used_in d) more → IsConsistent order (put files last text) (replaced d before next)
unfolding put replaced
good_again order files d before last next text more h parts same has added rise =
    let Q : List LogContent → Type 0 = λ cs. HasLogs files cs in
    let logs = subst Q parts h.logs in
    let numbered = (logs_back files before (last ∷ []) logs).0.numbered in
    let N : List LogContent → Type 0 = λ cs. NumbersRise 0 cs in
    let rising = subst N parts h.rising in
    let L : List LogContent → Type 0 = λ cs. AreLive d.layout cs in
    let whole = logged-replaced d before last next more parts added in
    record {
      manifest = record {
        numbered = h.manifest.numbered;
        current = get_other files (name_of (Log last.number)) text (name_of Current) (current_apart last.number numbered) ∙ h.manifest.current;
        bytes = h.manifest.bytes;
        there = get_other files (name_of (Log last.number)) text (name_of (Manifest d.manifest)) (manifest_apart d.manifest last.number h.manifest.numbered numbered) ∙ h.manifest.there;
        spelled = h.manifest.spelled;
      };
      tables = keep_tables order files (insert files (name_of (Log last.number)) text) d.tables
          (λ content i. table_other files content.placed.table.number last.number text (table_of order files d.tables content h.tables i) numbered)
          h.tables;
      placed = h.placed;
      logs = logs_join (insert files (name_of (Log last.number)) text) before (next ∷ [])
          (keep_logs files (insert files (name_of (Log last.number)) text) before
          (λ n num i. let lt : n < last.number = below_last 0 before last n rising i in
          get_other files (name_of (Log last.number)) text (name_of (Log n)) (logs_apart n last.number num numbered (λ e. omega (arith, lt, e))))
          (logs_front files before (last ∷ []) logs))
          (has, tt);
      live = live_again d.layout before last next same (subst L parts h.live);
      rising = rise_again 0 before last next same rising;
      all = all_too order files d before last next text h parts same numbered;
      apart = h.apart;
      newer = newer_too d (logged (before ++ next ∷ [])) more whole rise h.newer h.recorded;
      sequences = let R : List Entry → Type 0 = λ es. RiseAbove 0 es in
          subst R (sym whole) (rise-append 0 (used_in d) (logged d.logs) more h.sequences (omega arith) (omega arith) rise);
      recorded = h.recorded;
    }

-- ---- appending

-- the last log with one more batch
appended_log : LogContent → Batch → LogContent
appended_log last batch = record { number = last.number; batches = last.batches ++ batch ∷ []; tail = Clean }

has_appended : (files : Files) (last : LogContent) (batch : Batch) (payload text : List ℕ) (h : HasLog files last) → IsBatch payload batch.0 batch.1
    → IsLog text (h.spelled.records ++ payload ∷ []) Clean → HasLog (put files last text) (appended_log last batch)
unfolding put appended_log
has_appended files last batch payload text h spelled log = record {
  bytes = text;
  numbered = h.numbered;
  there = get_same files (name_of (Log last.number)) text;
  spelled = record { records = h.spelled.records ++ payload ∷ []; log = log; spelled = batches-push h.spelled.records last.batches payload batch h.spelled.spelled spelled };
}

last_log : (order : Order) (files : Files) (d : Directory) (before : List LogContent) (last : LogContent) → IsConsistent order files d → d.logs ≡ before ++ last ∷ [] → HasLog files last
last_log order files d before last h parts = let Q : List LogContent → Type 0 = λ cs. HasLogs files cs in (logs_back files before (last ∷ []) (subst Q parts h.logs)).0

more_used : (d : Directory) (es : List Entry) (os : List Operation) → es ≡ logged d.logs ++ entries_of (used_in d + 1) os → used_in d + length os ≡ max d.layout.last_sequence (greatest es)
more_used d es os e = omega (arith, ap greatest e, greatest-append (logged d.logs) (entries_of (used_in d + 1) os), greatest-entries_of (used_in d) os)

appended_directory : (order : Order) (files : Files) (d : Directory) (before : List LogContent) (last : LogContent) (os : List Operation) (payload text : List ℕ) (h : IsConsistent order files d) (parts : d.logs ≡ before ++ last ∷ [])
    → IsBatch payload (used_in d + 1) os → IsLog text ((last_log order files d before last h parts).spelled.records ++ payload ∷ []) Clean
    → IsConsistent order (put files last text) (replaced d before (appended_log last (used_in d + 1, os)))
unfolding appended_log
appended_directory order files d before last os payload text h parts spelled log =
    good_again order files d before last (appended_log last (used_in d + 1, os)) text (entries_of (used_in d + 1) os) h parts refl
    (has_appended files last (used_in d + 1, os) payload text (last_log order files d before last h parts) spelled log)
    (batch_entries-push last.batches (used_in d + 1, os))
    (rise-entries_of (used_in d) (used_in d + 1) os (omega arith))

-- what the parts with one more batch mean
entries-appended : (d : Directory) (before : List LogContent) (last : LogContent) (os : List Operation) → d.logs ≡ before ++ last ∷ []
    → logged (before ++ appended_log last (used_in d + 1, os) ∷ []) ≡ logged d.logs ++ entries_of (used_in d + 1) os
unfolding appended_log
entries-appended d before last os parts =
    logged-replaced d before last (appended_log last (used_in d + 1, os)) (entries_of (used_in d + 1) os) parts (batch_entries-push last.batches (used_in d + 1, os))

append_at : (order : Order) (files : Files) (d : Directory) (before : List LogContent) (last : LogContent) (os : List Operation) (payload text : List ℕ) (h : IsConsistent order files d) (parts : d.logs ≡ before ++ last ∷ [])
    → IsBatch payload (used_in d + 1) os → IsLog text ((last_log order files d before last h parts).spelled.records ++ payload ∷ []) Clean
    → IsAppendable order (insert files (name_of (Log last.number)) text) last.number (length text) (entries_in d ++ entries_of (used_in d + 1) os) (used_in d + length os)
unfolding put replaced appended_log
append_at order files d before last os payload text h parts spelled log =
    let whole = entries-appended d before last os parts in
    record {
      directory = replaced d before (appended_log last (used_in d + 1, os));
      consistent = appended_directory order files d before last os payload text h parts spelled log;
      ends = record { before = before; last = appended_log last (used_in d + 1, os); logs = refl; number = refl; clean = refl; bytes = text; there = get_same files (name_of (Log last.number)) text; length = refl };
      meant = append_assoc (tabled d.tables) (logged d.logs) (entries_of (used_in d + 1) os) ∙ ap (λ (es : List Entry). tabled d.tables ++ es) (sym whole);
      spent = more_used d (logged (before ++ appended_log last (used_in d + 1, os) ∷ [])) os whole;
    }

last_bytes : (order : Order) (files : Files) (d : Directory) (before : List LogContent) (last : LogContent) (h : IsConsistent order files d) (parts : d.logs ≡ before ++ last ∷ []) (log : ℕ) (bytes : List ℕ)
    → last.number ≡ log → get files (name_of (Log log)) ≡ Some bytes → last.tail ≡ Clean → IsLog bytes (last_log order files d before last h parts).spelled.records Clean
last_bytes order files d before last h parts log bytes number there clean =
    let l = last_log order files d before last h parts in
    let both : Some l.bytes ≡ Some bytes = sym l.there ∙ ap (λ (n : ℕ). get files (name_of (Log n))) number ∙ there in
    let same : l.bytes ≡ bytes = cc in
    let P : List ℕ → Type 0 = λ b. IsLog b l.spelled.records Clean in
    let Q : Tail → Type 0 = λ t. IsLog l.bytes l.spelled.records t in
    subst P same (subst Q clean l.spelled.log)

pub same_bytes : (files : Files) (name a b : List ℕ) → get files name ≡ Some a → get files name ≡ Some b → a ≡ b
same_bytes files name a b p q = let both : Some a ≡ Some b = sym p ∙ q in cc

pub append : AppendLaw
append order files log position entries used os payload added text a there spelled adds =
    let d = a.directory in
    let ends = a.ends in
    let len : length text ≡ position = ap length (same_bytes files (name_of (Log log)) text ends.bytes there ends.there) ∙ ends.length in
    let records = (last_log order files d ends.before ends.last a.consistent ends.logs).spelled.records in
    let B : ℕ → Type 0 = λ u. IsBatch payload (u + 1) os in
    let made = append_at order files d ends.before ends.last os payload (text ++ added) a.consistent ends.logs (subst B a.spent spelled)
    (adds text records len (last_bytes order files d ends.before ends.last a.consistent ends.logs log text ends.number there ends.clean)) in
    let total : length (text ++ added) ≡ position + length added = omega (arith, length-append text added, len) in
    let P : ℕ → Type 0 = λ l. IsAppendable order (insert files (name_of (Log l)) (text ++ added)) l (length (text ++ added)) (entries_in d ++ entries_of (used_in d + 1) os) (used_in d + length os) in
    let Q : ℕ → Type 0 = λ n. IsAppendable order (insert files (name_of (Log log)) (text ++ added)) log n (entries_in d ++ entries_of (used_in d + 1) os) (used_in d + length os) in
    let R : ℕ → Type 0 = λ u. IsAppendable order (insert files (name_of (Log log)) (text ++ added)) log (position + length added) (entries_in d ++ entries_of (u + 1) os) (u + length os) in
    let S : List Entry → Type 0 = λ es. IsAppendable order (insert files (name_of (Log log)) (text ++ added)) log (position + length added) (es ++ entries_of (used + 1) os) (used + length os) in
    subst S (sym a.meant) (subst R (sym a.spent) (subst Q total (subst P ends.number made)))

-- ---- an append that failed

-- the last log with another tail
torn_log : LogContent → Tail → LogContent
torn_log last tail = record { number = last.number; batches = last.batches; tail = tail }

torn_at : (order : Order) (files : Files) (d : Directory) (before : List LogContent) (last : LogContent) (text : List ℕ) (tail : Tail) (h : IsConsistent order files d) (parts : d.logs ≡ before ++ last ∷ [])
    → IsLog text (last_log order files d before last h parts).spelled.records tail
    → IsDirectory order (insert files (name_of (Log last.number)) text) (entries_in d) (used_in d)
unfolding put replaced torn_log
torn_at order files d before last text tail h parts log =
    let l = last_log order files d before last h parts in
    let next = torn_log last tail in
    let whole = logged-replaced d before last next [] parts (sym (append-nil (batch_entries last.batches))) ∙ append-nil (logged d.logs) in
    inr (
      replaced d before next,
      good_again order files d before last next text [] h parts refl
          (record { bytes = text; numbered = l.numbered; there = get_same files (name_of (Log last.number)) text; spelled = record { records = l.spelled.records; log = log; spelled = l.spelled.spelled } })
          (sym (append-nil (batch_entries last.batches))) tt,
      ap (λ (es : List Entry). tabled d.tables ++ es) (sym whole),
      ap (λ (es : List Entry). max d.layout.last_sequence (greatest es)) (sym whole),
    )

pub appendable_means : (order : Order) (files : Files) (log position : ℕ) (entries : List Entry) (used : ℕ) → IsAppendable order files log position entries used → IsDirectory order files entries used
appendable_means order files log position entries used a = inr (a.directory, a.consistent, a.meant, a.spent)

pub failed_append : FailedAppendLaw
failed_append order files log position entries used n os payload added text a there spelled adds =
    let d = a.directory in
    let ends = a.ends in
    let len : length text ≡ position = ap length (same_bytes files (name_of (Log log)) text ends.bytes there ends.there) ∙ ends.length in
    let records = (last_log order files d ends.before ends.last a.consistent ends.logs).spelled.records in
    let B : ℕ → Type 0 = λ u. IsBatch payload (u + 1) os in
    let new = text ++ take n added in
    let Old : ℕ → List Entry → ℕ → Type 0 = λ l es u. IsDirectory order (insert files (name_of (Log l)) new) es u in
    let P : ℕ → Type 0 = λ l. Old l (entries_in d) (used_in d) in
    let Q : List Entry → Type 0 = λ es. Old log es (used_in d) in
    let R : ℕ → Type 0 = λ u. Old log entries u in
    let P' : ℕ → Type 0 = λ l. Old l (entries_in d ++ entries_of (used_in d + 1) os) (used_in d + length os) in
    let Q' : List Entry → Type 0 = λ es. Old log (es ++ entries_of (used_in d + 1) os) (used_in d + length os) in
    let R' : ℕ → Type 0 = λ u. Old log (entries ++ entries_of (u + 1) os) (u + length os) in
    elim (adds text records n len (last_bytes order files d ends.before ends.last a.consistent ends.logs log text ends.number there ends.clean)) [
      | inl torn ↦ inl (subst R (sym a.spent) (subst Q (sym a.meant) (subst P ends.number (torn_at order files d ends.before ends.last new torn.0 a.consistent ends.logs torn.1))))
      | inr whole ↦ inr (subst R' (sym a.spent) (subst Q' (sym a.meant) (subst P' ends.number
          (appendable_means order (insert files (name_of (Log ends.last.number)) new) ends.last.number (length new) (entries_in d ++ entries_of (used_in d + 1) os) (used_in d + length os)
          (append_at order files d ends.before ends.last os payload new a.consistent ends.logs (subst B a.spent spelled) whole)))))
    ]

-- ---- the parts that stay

-- what a record after the last log leaves, by its number
ExtendsTo : Order → Files → Directory → List Operation → List ℕ → ℕ → ℕ → Type 0
ExtendsTo order files d os text log position =
    (e : Directory) × IsConsistent order (insert files (name_of (Log log)) text) e × EndsAt (insert files (name_of (Log log)) text) e log position
    × IsExtended d e (entries_of (used_in d + 1) os) × (used_in e ≡ used_in d + length os)

extend_at : (order : Order) (files : Files) (d : Directory) (before : List LogContent) (last : LogContent) (os : List Operation) (payload text : List ℕ) (h : IsConsistent order files d) (parts : d.logs ≡ before ++ last ∷ [])
    → IsBatch payload (used_in d + 1) os → IsLog text ((last_log order files d before last h parts).spelled.records ++ payload ∷ []) Clean
    → ExtendsTo order files d os text last.number (length text)
unfolding put replaced appended_log ExtendsTo
extend_at order files d before last os payload text h parts spelled log =
    let next = appended_log last (used_in d + 1, os) in (
      replaced d before next,
      appended_directory order files d before last os payload text h parts spelled log,
      record { before = before; last = next; logs = refl; number = refl; clean = refl; bytes = text; there = get_same files (name_of (Log last.number)) text; length = refl },
      record { before = before; last = last; next = next; old = parts; new = refl; number = refl; entries = batch_entries-push last.batches (used_in d + 1, os) },
      sym (more_used d (logged (before ++ next ∷ [])) os (entries-appended d before last os parts)),
    )

pub extend : ExtendLaw
unfolding ExtendsTo
extend order files d log position os payload added text h ends there spelled adds =
    let len : length text ≡ position = ap length (same_bytes files (name_of (Log log)) text ends.bytes there ends.there) ∙ ends.length in
    let records = (last_log order files d ends.before ends.last h ends.logs).spelled.records in
    let total : length (text ++ added) ≡ position + length added = omega (arith, length-append text added, len) in
    let made = extend_at order files d ends.before ends.last os payload (text ++ added) h ends.logs spelled
    (adds text records len (last_bytes order files d ends.before ends.last h ends.logs log text ends.number there ends.clean)) in
    let P : ℕ → Type 0 = λ l. ExtendsTo order files d os (text ++ added) l (length (text ++ added)) in
    let Q : ℕ → Type 0 = λ n. ExtendsTo order files d os (text ++ added) log n in
    subst Q total (subst P ends.number made)

-- what a beginning of a record after the last log leaves, by its number
FailsTo : Order → Files → Directory → List Operation → List ℕ → ℕ → Type 0
FailsTo order files d os text log =
    (e : Directory) × IsConsistent order (insert files (name_of (Log log)) text) e
    × ((IsExtended d e [] × (used_in e ≡ used_in d)) ⊎ (IsExtended d e (entries_of (used_in d + 1) os) × (used_in e ≡ used_in d + length os)))

fail_torn : (order : Order) (files : Files) (d : Directory) (before : List LogContent) (last : LogContent) (os : List Operation) (text : List ℕ) (tail : Tail) (h : IsConsistent order files d) (parts : d.logs ≡ before ++ last ∷ [])
    → IsLog text (last_log order files d before last h parts).spelled.records tail
    → FailsTo order files d os text last.number
unfolding put replaced torn_log FailsTo
fail_torn order files d before last os text tail h parts log =
    let l = last_log order files d before last h parts in
    let next = torn_log last tail in
    let same = sym (append-nil (batch_entries last.batches)) in
    let whole = logged-replaced d before last next [] parts same ∙ append-nil (logged d.logs) in (
      replaced d before next,
      good_again order files d before last next text [] h parts refl
          (record { bytes = text; numbered = l.numbered; there = get_same files (name_of (Log last.number)) text; spelled = record { records = l.spelled.records; log = log; spelled = l.spelled.spelled } })
          same tt,
      inl (
        record { before = before; last = last; next = next; old = parts; new = refl; number = refl; entries = same },
        ap (λ (es : List Entry). max d.layout.last_sequence (greatest es)) whole,
      ),
    )

fail_whole : (order : Order) (files : Files) (d : Directory) (before : List LogContent) (last : LogContent) (os : List Operation) (payload text : List ℕ) (h : IsConsistent order files d) (parts : d.logs ≡ before ++ last ∷ [])
    → IsBatch payload (used_in d + 1) os → IsLog text ((last_log order files d before last h parts).spelled.records ++ payload ∷ []) Clean
    → FailsTo order files d os text last.number
unfolding ExtendsTo FailsTo
fail_whole order files d before last os payload text h parts spelled log =
    let made = extend_at order files d before last os payload text h parts spelled log in
    (made.0, made.1, inr (made.3, made.4))

pub failed_extend : FailedExtendLaw
unfolding FailsTo
failed_extend order files d log position n os payload added text h ends there spelled adds =
    let len : length text ≡ position = ap length (same_bytes files (name_of (Log log)) text ends.bytes there ends.there) ∙ ends.length in
    let records = (last_log order files d ends.before ends.last h ends.logs).spelled.records in
    let new = text ++ take n added in
    let P : ℕ → Type 0 = λ l. FailsTo order files d os new l in
    elim (adds text records n len (last_bytes order files d ends.before ends.last h ends.logs log text ends.number there ends.clean)) [
      | inl torn ↦ subst P ends.number (fail_torn order files d ends.before ends.last os new torn.0 h ends.logs torn.1)
      | inr whole ↦ subst P ends.number (fail_whole order files d ends.before ends.last os payload new h ends.logs spelled whole)
    ]

-- the tables stay, and the entries stand after those that were logged
pub logged-extended : (d e : Directory) (more : List Entry) → IsExtended d e more → (e.tables ≡ d.tables) × (logged e.logs ≡ logged d.logs ++ more)
logged-extended d e more x = (
  ap (λ (f : Directory). f.tables) x.new,
  ap (λ (f : Directory). logged f.logs) x.new ∙ logged-replaced d x.before x.last x.next more x.old x.entries,
)
