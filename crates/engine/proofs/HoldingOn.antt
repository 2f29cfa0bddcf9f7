-- What files hold goes on where they change in what isn't read, where an empty log is put after the
-- others, and where an open has replaced `CURRENT`.
use Rattle.std.proofs.Common.{◌≡◌, ◌≢◌, ◌⊎◌, ◌<◌, ◌≤◌, ◌+◌, ◌++◌, ◌∷◌, ℕ, true, List, [], Option, Some, None, cond, is_some, take, inl, inr, refl, sym, ap, subst, ◌∙◌, append_assoc, arith}
use Rattle.std.specs.Cmp.Lexicographic.{nat_list_cmp_total}
use Rattle.std.specs.FinMap.{get, insert, remove, contains_key, get-remove}
use Rattle.std.specs.Option.{option_or}
use Rattle.batch.proofs.Batches.{same_batch}
use Rattle.edits.proofs.FileNames.{one_file}
use Rattle.edits.specs.Names.{name_of, IsFileName, IsNumbered}
use Rattle.edits.specs.declared.layout.Layout.{Layout}
use Rattle.edits.specs.declared.names.FileName.{FileName}
use Rattle.edits.specs.declared.names.FileName.TheVariants.{Current, Log, Manifest, OldTable, Table, Temporary}
use Rattle.ikey.specs.Orders.{Order}
use Rattle.ikey.specs.Views.{Among, AllUpTo}
use Rattle.ikey.specs.declared.entry.Entry.{Entry}
use Rattle.logfile.proofs.Parts.{between}
use Rattle.logfile.specs.declared.record.Tail.{Tail}
use Rattle.machine.specs.Machine.{Machine, current}
use Rattle.opening.proofs.Losing.{some_of}
use Rattle.opening.proofs.LosingEdits.{itself, same_or_not}
use Rattle.opening.proofs.LosingNames.{gone_other}
use Rattle.opening.proofs.Reopening.{files_apart, numbered_of}
use Rattle.opening.specs.Losses.{IsLeftWhole}
use Rattle.opening.specs.declared.finding.Found.{Found}
use Rattle.opening.specs.declared.rewriting.Rewrite.{Rewrite}
use Rattle.opening.specs.internal.Opening.{Finds, FindsDirectory, IsNewManifest, IsRewrite, IsUsable}
use Rattle.recover.proofs.Adding.{table_of}
use Rattle.recover.proofs.Keeping.{all_live, free_change, keep_logs, keep_tables, live_of, same_live}
use Rattle.recover.proofs.NamedFiles.{get_other, get_same}
use Rattle.recover.proofs.NewLogs.{begin_log, log_there}
use Rattle.recover.proofs.OneMeaning.{same_content, same_manifest}
use Rattle.recover.proofs.WholeReading.{recovered_parts}
use Rattle.recover.specs.Directory.{Directory, HasManifest, IsConsistent, IsDirectory, IsEmpty, entries_in, used_in}
use Rattle.recover.specs.Entries.{entries_of}
use Rattle.recover.specs.Logs.{AreBatches, Batch, HasLiveLogs, HasLog, HasLogs, InLogs, IsBatchLog, IsLive, LogContent, batch_entries, logged}
use Rattle.recover.specs.Tables.{InTables, TableContent, table_at, tabled}
use Rattle.recover.specs.internal.Changes.{with_log}
use Rattle.recover.specs.internal.Laws.{Agree, IsSameLayout}
use Rattle.store.specs.Files.{Facts, Files}
use Rattle.store.specs.Losses.{BeginsWith}
use Rattle.engine.proofs.RecentBatches.{all_seen}
use Rattle.engine.proofs.Tabled.{directory_bounded}
use Rattle.engine.specs.Losses.{HoldsFirst, SparesBelow}
use Rattle.engine.specs.Reopening.{StayBelow, StaysOrGoes}

-- ---- the same entries

-- no entry of a directory is above the sequence numbers used
bounded : (order : Order) (files : Files) (entries : List Entry) (used : ℕ) → IsDirectory order files entries used → AllUpTo used entries
bounded order files entries used (inl none) e i = absurd (subst (λ (es : List Entry). Among es e) none.1 i)
bounded order files entries used (inr some) e i =
    let d = some.0 in
    directory_bounded order files d.tables (logged d.logs) used (inr (d, some.1, refl, refl, some.3)) e (subst (λ (es : List Entry). Among es e) some.2 i)

-- What has the same entries holds the same batches, however many sequence numbers are used.
holds_by : (order : Order) (m : Machine) (before after : Files) → ((entries : List Entry) (used : ℕ) → IsDirectory order before entries used → (more : ℕ) × IsDirectory order after entries more)
    → HoldsFirst order before m → HoldsFirst order after m
holds_by order m before after goes h =
    let entries = h.holds.entries in
    let to = goes entries h.used h.holds.directory in
    record {
      count = h.count;
      within = h.within;
      enough = h.enough;
      used = to.0;
      holds = record {
        entries = entries;
        directory = to.1;
        view = all_seen entries h.used to.0 (current (record m { batches = take h.count m.batches; used = to.0 })) (bounded order before entries h.used h.holds.directory) (bounded order after entries to.0 to.1) h.holds.view;
      };
    }

-- the files are a directory of these entries
abbrev IsDirectoryWith : Order → Files → List Entry → Type 0
IsDirectoryWith order files entries = (e : Directory) × IsConsistent order files e × (entries_in e ≡ entries)

holds_in : (order : Order) (m : Machine) (before after : Files) → (IsEmpty before → IsEmpty after ⊎ IsDirectoryWith order after []) → ((d : Directory) → IsConsistent order before d → IsDirectoryWith order after (entries_in d))
    → HoldsFirst order before m → HoldsFirst order after m
holds_in order m before after empty goes = holds_by order m before after at
  where
    at : (entries : List Entry) (used : ℕ) → IsDirectory order before entries used → (more : ℕ) × IsDirectory order after entries more
    at entries used (inl none) = elim (empty none.0) [
      | inl still ↦ (0, inl (still, none.1, refl))
      | inr some ↦ (used_in some.0, inr (some.0, some.1, none.1 ∙ sym some.2, refl))
    ]
    at entries used (inr some) = let to = goes some.0 some.1 in (used_in to.0, inr (to.0, to.1, some.2 ∙ sym to.2, refl))

-- ---- what isn't read

-- where all agrees that a directory reads
pub holds_agreeing : (order : Order) (m : Machine) (before after : Files) → HoldsFirst order before m → ((d : Directory) → IsConsistent order before d → Agree before after d) → (IsEmpty before → IsEmpty after)
    → HoldsFirst order after m
holds_agreeing order m before after h agree empty =
    holds_in order m before after (λ none. inl (empty none)) (λ d good. (d, free_change order before after d (agree d good) good, refl)) h

-- a MANIFEST, or a temporary file
abbrev pub IsBesideRead : FileName → Type 0
IsBesideRead (Manifest n) = Unit {0}
IsBesideRead (Temporary n) = Unit {0}
IsBesideRead _ = ⊥

apart_beside : (file other : FileName) → IsFileName file → IsBesideRead file → IsFileName other → (IsBesideRead other → ⊥) → name_of other ≢ name_of file
apart_beside file other is beside named unread same = unread (subst IsBesideRead (one_file file other is named (sym same)) beside)

gone : (files : Files) (name : List ℕ) → get (remove files name) name ≡ None
gone files name = get-remove nat_list_cmp_total files name name ∙ ap (λ (b : _). cond b None (get files name)) (itself name)

never : {T : Type 0} (o : Option (List ℕ)) (bytes : List ℕ) → o ≡ None → o ≡ Some bytes → T
never o bytes none some = absurd (let bad : None ≡ Some bytes = sym none ∙ some in cc)

-- One more MANIFEST that isn't current, or one more temporary file, is nothing that is read.
pub holds_beside : (order : Order) (m : Machine) (file : FileName) → IsFileName file → IsBesideRead file → (lost : Files) → HoldsFirst order (remove lost (name_of file)) m → HoldsFirst order lost m
holds_beside order m file is beside lost h = holds_agreeing order m before lost h agrees still
  where
    name : List ℕ
    name = name_of file

    before : Files
    before = remove lost name

    other : (another : FileName) → IsFileName another → (IsBesideRead another → ⊥) → get lost (name_of another) ≡ get before (name_of another)
    other another named unread = sym (gone_other lost name (name_of another) (apart_beside file another is beside named unread))

    agrees : (d : Directory) → IsConsistent order before d → Agree before lost d
    agrees d good = record {
      current = other Current tt (λ x. x);
      manifest = sym (gone_other lost name (name_of (Manifest d.manifest)) (λ same.
          never (get before name) good.manifest.bytes (gone lost name) (ap (get before) (sym same) ∙ good.manifest.there)));
      logs = λ n num live. other (Log n) num (λ x. x);
      tables = λ content among.
          let num = table_of order before d.tables content good.tables among in
          let newer = other (Table content.placed.table.number) num (λ x. x) in
          let older = other (OldTable content.placed.table.number) num (λ x. x) in
          λ i. option_or (newer i) (older i);
    }

    still : IsEmpty before → IsEmpty lost
    still none = record {
      current = other Current tt (λ x. x) ∙ none.current;
      no_log = λ n num. other (Log n) num (λ x. x) ∙ none.no_log n num;
      no_table = λ n num. other (Table n) num (λ x. x) ∙ none.no_table n num;
      no_old_table = λ n num. other (OldTable n) num (λ x. x) ∙ none.no_old_table n num;
    }

-- ---- an empty log

-- where no file is another
pub agree_same : (before after : Files) (d : Directory) → ((q : List ℕ) → get after q ≡ get before q) → Agree before after d
agree_same before after d same = record {
  current = same (name_of Current);
  manifest = same (name_of (Manifest d.manifest));
  logs = λ n num live. same (name_of (Log n));
  tables = λ content among.
      let newer = same (name_of (Table content.placed.table.number)) in
      let older = same (name_of (OldTable content.placed.table.number)) in
      λ i. option_or (newer i) (older i);
}

-- One that is live, and above the others, holds nothing.
pub holds_log : (order : Order) (m : Machine) (number : ℕ) → IsNumbered number → (lost : Files) → get lost (name_of (Log number)) ≡ Some []
    → ((n : ℕ) → IsNumbered n → contains_key (remove lost (name_of (Log number))) (name_of (Log n)) ≡ true → n < number)
    → ((d : Directory) → IsConsistent order (remove lost (name_of (Log number))) d → IsLive d.layout number)
    → contains_key lost (name_of Current) ≡ true → HoldsFirst order (remove lost (name_of (Log number))) m → HoldsFirst order lost m
holds_log order m number numbered lost empty above live made h = holds_in order m before lost none some h
  where
    name : List ℕ
    name = name_of (Log number)

    before : Files
    before = remove lost name

    again : Files
    again = insert before name []

    same : (q : List ℕ) → get lost q ≡ get again q
    same q = elim (same_or_not q name) [
      | inl is ↦ ap (get lost) is ∙ empty ∙ sym (get_same before name []) ∙ ap (get again) (sym is)
      | inr apart ↦ sym (gone_other lost name q apart) ∙ sym (get_other before name [] q apart)
    ]

    none : IsEmpty before → IsEmpty lost ⊎ IsDirectoryWith order lost []
    none is =
        let there : contains_key before (name_of Current) ≡ true = ap is_some (gone_other lost name (name_of Current) (files_apart Current (Log number) tt numbered (λ e. cc))) ∙ made in
        absurd (let bad : contains_key before (name_of Current) ≡ _ = ap is_some is.current in cc)

    some : (d : Directory) → IsConsistent order before d → IsDirectoryWith order lost (entries_in d)
    some d good =
        let begun = begin_log order before d number good numbered (live d good) above in
        (with_log d number, free_change order again lost (with_log d number) (agree_same again lost (with_log d number) same) begun.0, ap (λ (es : List Entry). tabled d.tables ++ es) begun.2)

-- ---- beginnings of logs without entries

both_none : (xs ys : List Entry) → xs ++ ys ≡ [] → (xs ≡ []) × (ys ≡ [])
both_none [] ys e = (refl, e)
both_none (x ∷ xs) ys e = absurd cc

front_batches : (records rest : List (List ℕ)) (kept batches : List Batch) → AreBatches records kept → AreBatches (records ++ rest) batches → batch_entries batches ≡ [] → batch_entries kept ≡ []
front_batches [] rest [] batches h g e = refl
front_batches [] rest (b ∷ kept) batches h g e = absurd h
front_batches (r ∷ records) rest [] batches h g e = absurd h
front_batches (r ∷ records) rest (b ∷ kept) [] h g e = absurd g
front_batches (r ∷ records) rest (b ∷ kept) (c ∷ batches) h g e =
    let is = same_batch r b.0 c.0 b.1 c.1 h.0 g.0 in
    let none = both_none (entries_of c.0 c.1) (batch_entries batches) e in
    let here : entries_of b.0 b.1 ≡ [] = (λ i. entries_of (is.0 i) (is.1 i)) ∙ none.0 in
    let later : batch_entries kept ≡ [] = front_batches records rest kept batches h.1 g.1 none.1 in
    λ i. here i ++ later i

-- a beginning of a log has none where the log has none
front_none : (front more : List ℕ) (kept batches : List Batch) (tail end : Tail) → IsBatchLog front kept tail → IsBatchLog (front ++ more) batches end → batch_entries batches ≡ [] → batch_entries kept ≡ []
front_none front more kept batches tail end h k none =
    let p = between front more h.records k.records tail end 0 h.log k.log in
    let is : k.records ≡ h.records ++ (p.0 ++ p.1) = p.3 ∙ append_assoc h.records p.0 p.1 in
    front_batches h.records (p.0 ++ p.1) kept batches h.spelled (subst (λ (rs : List (List ℕ)). AreBatches rs batches) is k.spelled) none

-- a log of some that have none together
record WithNone (files : Files) (n : ℕ) : Type 0 where
  log : LogContent
  has : HasLog files log
  number : log.number ≡ n
  none : batch_entries log.batches ≡ []

none_in : (files : Files) (logs : List LogContent) (n : ℕ) → HasLogs files logs → logged logs ≡ [] → InLogs logs n → WithNone files n
none_in files [] n has none i = absurd i
none_in files (log ∷ logs) n has none (inl is) = record { log = log; has = has.0; number = sym is; none = (both_none (batch_entries log.batches) (logged logs) none).0 }
none_in files (log ∷ logs) n has none (inr i) = none_in files logs n has.1 (both_none (batch_entries log.batches) (logged logs) none).1 i

-- each log there has a beginning of what it held
abbrev pub AreLogFronts : Files → Files → Type 0
AreLogFronts old before = (n : ℕ) (bytes : List ℕ) → IsNumbered n → get before (name_of (Log n)) ≡ Some bytes → (held : List ℕ) × (get old (name_of (Log n)) ≡ Some held) × BeginsWith held bytes

none_left : (old before : Files) (wholes : List LogContent) → HasLogs old wholes → logged wholes ≡ [] → AreLogFronts old before → (logs : List LogContent) → HasLogs before logs → ((n : ℕ) → InLogs logs n → InLogs wholes n) → logged logs ≡ []
none_left old before wholes have none begin [] has within = refl
none_left old before wholes have none begin (log ∷ logs) has within =
    let w = none_in old wholes log.number have none (within log.number (inl refl)) in
    let b = begin log.number has.0.bytes has.0.numbered has.0.there in
    let held : w.has.bytes ≡ b.0 = same_content old (name_of (Log log.number)) w.has.bytes b.0 (subst (λ (n : ℕ). get old (name_of (Log n)) ≡ Some w.has.bytes) w.number w.has.there) b.1 in
    let is : w.has.bytes ≡ has.0.bytes ++ b.2.0 = held ∙ b.2.1 in
    let here : batch_entries log.batches ≡ [] =
    front_none has.0.bytes b.2.0 log.batches w.log.batches log.tail w.log.tail has.0.spelled (subst (λ (bytes : List ℕ). IsBatchLog bytes w.log.batches w.log.tail) is w.has.spelled) w.none in
    let later : logged logs ≡ [] = none_left old before wholes have none begin logs has.1 (λ n i. within n (inr i)) in
    λ i. here i ++ later i

-- ---- an open has replaced `CURRENT`

module _ (order : Order) (old : Files) (found : Found) (rewrite : Rewrite) (usable : IsUsable order found) (finds : Finds order old found) (planned : IsRewrite order found rewrite) where
  abbrev k : ℕ
  k = found.number

  abbrev w : IsNewManifest order found rewrite.manifest.items
  w = planned.manifest

  numbered : IsNumbered k
  numbered = numbered_of found usable

  manifest_in : (files : Files) → get files (name_of Current) ≡ Some rewrite.current.items → get files (name_of (Manifest k)) ≡ Some rewrite.manifest.items → HasManifest order files k (w.edit ∷ []) w.layout
  manifest_in files set there = record { numbered = numbered; current = set ∙ ap Some planned.current; bytes = rewrite.manifest.items; there = there; spelled = w.spelled }

  -- the recorded number of the logs is that of the layout that was found, or of the new log
  log_within : w.layout.log_number ≤ k + 1
  log_within = elim w.logs [
    | inr none ↦ (let same = none.1 in omega (arith, same))
    | inl keep ↦ elim finds.what [
      | inl none ↦ absurd (keep.0 none.2)
      | inr some ↦
          let recorded : some.recovered.layout.log_number < k = (finds.number.0.recorded some.read.number some.read.edits some.recovered.layout some.read.manifest).1 in
          let same : w.layout.log_number ≡ some.recovered.layout.log_number = keep.1 ∙ ap (λ (l : Layout). l.log_number) some.layout in
          omega (arith, same, recorded)
    ]
  ]

  -- the new log is in use there
  pub live_renewed : (files : Files) (d : Directory) → IsConsistent order files d → get files (name_of Current) ≡ Some rewrite.current.items → get files (name_of (Manifest k)) ≡ Some rewrite.manifest.items → IsLive d.layout (k + 1)
  live_renewed files d good set there =
      let same = same_manifest order files d.manifest k d.edits (w.edit ∷ []) d.layout w.layout good.manifest (manifest_in files set there) in
      let is : d.layout.log_number ≡ w.layout.log_number = same.2.log_number in
      let within = log_within in
      inl (omega (arith, is, within))

  -- What stays of tables and logs, and what was there of logs.
  module _ (before after : Files)
      (current_same : get before (name_of Current) ≡ get old (name_of Current))
      (manifest_same : (n : ℕ) → IsNumbered n → get old (name_of Current) ≡ Some (name_of (Manifest n) ++ 10 ∷ []) → get before (name_of (Manifest n)) ≡ get old (name_of (Manifest n)))
      (set : get after (name_of Current) ≡ Some rewrite.current.items)
      (there : get after (name_of (Manifest k)) ≡ Some rewrite.manifest.items)
      (stay : (n : ℕ) → IsNumbered n → (get after (name_of (Table n)) ≡ get before (name_of (Table n))) × (get after (name_of (OldTable n)) ≡ get before (name_of (OldTable n))) × (get after (name_of (Log n)) ≡ get before (name_of (Log n))))
      (begin : AreLogFronts old before) where
    -- there was none
    renewed_none : IsEmpty old → IsEmpty before → IsDirectoryWith order after []
    renewed_none was none =
        let tables : found.layout.tables.items ≡ [] = elim finds.what [ inl nothing ↦ nothing.1 | inr some ↦ never (get old (name_of Current)) _ was.current some.read.manifest.current ] in (
          record { manifest = k; edits = w.edit ∷ []; layout = w.layout; tables = []; logs = [] },
          record {
            manifest = manifest_in after set there;
            tables = tt;
            placed = sym (w.tables ∙ tables);
            logs = tt;
            live = tt;
            rising = tt;
            all = λ n num live here. (let at = some_of (get after (name_of (Log n))) here in never (get after (name_of (Log n))) at.0 ((stay n num).2 ∙ none.no_log n num) at.1);
            apart = tt;
            newer = λ e f i. absurd i;
            sequences = tt;
            recorded = λ f i. absurd i;
          },
          refl,
        )

    -- There was one, of the same MANIFEST.
    module _ (d c : Directory) (was : IsConsistent order old d) (good : IsConsistent order before c) where
      had : HasManifest order old c.manifest c.edits c.layout
      had =
          let m = good.manifest in
          let current : get old (name_of Current) ≡ Some (name_of (Manifest c.manifest) ++ 10 ∷ []) = sym current_same ∙ m.current in
          record { numbered = m.numbered; current = current; bytes = m.bytes; there = sym (manifest_same c.manifest m.numbered current) ∙ m.there; spelled = m.spelled }

      same : IsSameLayout c.layout d.layout
      same = (same_manifest order old c.manifest d.manifest c.edits d.edits c.layout d.layout had was.manifest).2

      has : FindsDirectory order old found
      has = elim finds.what [ inl none ↦ never (get old (name_of Current)) _ none.0.current was.manifest.current | inr some ↦ some ]

      said : IsSameLayout d.layout has.recovered.layout × (logged d.logs ≡ has.recovered.entries.items) × (used_in d ≡ has.recovered.used)
      said = recovered_parts order old has.recovered d has.read was

      had_log : (n : ℕ) → IsNumbered n → contains_key before (name_of (Log n)) ≡ true → contains_key old (name_of (Log n)) ≡ true
      had_log n num here = (let at = some_of (get before (name_of (Log n))) here in ap is_some (begin n at.0 num at.1).1)

      -- Its logs, or none if they have no entries.
      abbrev KeepsRead : Type 0
      KeepsRead = (logs : List LogContent) × HasLiveLogs after w.layout logs × (logged logs ≡ logged c.logs)

      same_read : w.layout.log_number ≡ found.layout.log_number → w.layout.previous_log_number ≡ found.layout.previous_log_number → KeepsRead
      same_read first second =
          let one : w.layout.log_number ≡ c.layout.log_number = first ∙ ap (λ (l : Layout). l.log_number) has.layout ∙ sym said.0.log_number ∙ sym same.log_number in
          let two : w.layout.previous_log_number ≡ c.layout.previous_log_number = second ∙ ap (λ (l : Layout). l.previous_log_number) has.layout ∙ sym said.0.previous_log_number ∙ sym same.previous_log_number in (
            c.logs,
            record {
              logs = keep_logs before after c.logs (λ n num i. (stay n num).2) good.logs;
              live = all_live c.layout w.layout c.logs (sym one) (sym two) good.live;
              rising = good.rising;
              all = λ n num live here. good.all n num (same_live w.layout c.layout n one two live) (ap is_some (sym (stay n num).2) ∙ here);
              sequences = good.sequences;
            },
            refl,
          )

      none_logged : found.entries.items ≡ [] → logged c.logs ≡ []
      none_logged none =
          none_left old before d.logs was.logs (said.1 ∙ sym has.entries ∙ none) begin c.logs good.logs (λ n i.
          let at = log_there before c.logs n good.logs i in
          was.all n at.0 (same_live c.layout d.layout n same.log_number same.previous_log_number (live_of c.layout c.logs n good.live i)) (had_log n at.0 at.1))

      none_live : w.layout.log_number ≡ k + 1 → w.layout.previous_log_number ≡ 0 → (n : ℕ) → IsNumbered n → IsLive w.layout n → contains_key after (name_of (Log n)) ≡ true → ⊥
      none_live first second n num (inr live) here = omega (arith, second, live.0, live.1)
      none_live first second n num (inl live) here =
          let below : n < k = finds.number.0.listed (Log n) num (had_log n num (ap is_some (sym (stay n num).2) ∙ here)) in
          omega (arith, first, live, below)

      none_read : found.entries.items ≡ [] → w.layout.log_number ≡ k + 1 → w.layout.previous_log_number ≡ 0 → KeepsRead
      none_read none first second = ([], record { logs = tt; live = tt; rising = tt; all = λ n num live here. absurd (none_live first second n num live here); sequences = tt }, sym (none_logged none))

      keeps_read : KeepsRead
      keeps_read = elim w.logs [ inl keep ↦ same_read keep.1 keep.2 | inr none ↦ none_read none.0 none.1 none.2 ]

      tables_same : (content : TableContent) → InTables c.tables content → table_at after content.placed.table.number ≡ table_at before content.placed.table.number
      tables_same content among =
          let on = stay content.placed.table.number (table_of order before c.tables content good.tables among) in
          λ i. option_or (on.0 i) (on.1 i)

      recorded_within : c.layout.last_sequence ≤ w.layout.last_sequence
      recorded_within =
          let is : w.layout.last_sequence ≡ used_in d = w.sequence ∙ has.used ∙ sym said.2 in
          let last = same.last_sequence in
          omega (arith, is, last)

      renewed_some : IsDirectoryWith order after (entries_in c)
      renewed_some =
          let read = keeps_read in (
            record { manifest = k; edits = w.edit ∷ []; layout = w.layout; tables = c.tables; logs = read.0 },
            record {
              manifest = manifest_in after set there;
              tables = keep_tables order before after c.tables tables_same good.tables;
              placed = good.placed ∙ same.tables ∙ said.0.tables ∙ ap (λ (l : Layout). l.tables.items) (sym has.layout) ∙ sym w.tables;
              logs = read.1.logs;
              live = read.1.live;
              rising = read.1.rising;
              all = read.1.all;
              apart = good.apart;
              newer = λ e f i. good.newer e f (subst (λ (es : List Entry). Among es e) read.2 i);
              sequences = read.1.sequences;
              recorded = λ f i. (let below = good.recorded f i in let within = recorded_within in omega (arith, below, within));
            },
            ap (λ (es : List Entry). tabled c.tables ++ es) read.2,
          )

    -- The new directory holds what was held before it.
    pub holds_renewed : (m : Machine) → HoldsFirst order old m → HoldsFirst order before m → HoldsFirst order after m
    holds_renewed m whole h = elim whole.holds.directory [
      | inl none ↦ holds_in order m before after
          (λ nothing. inr (renewed_none none.0 nothing))
          (λ c good. never (get old (name_of Current)) _ none.0.current (sym current_same ∙ good.manifest.current)) h
      | inr some ↦ holds_in order m before after
          (λ nothing. never (get before (name_of Current)) _ nothing.current (current_same ∙ some.1.manifest.current))
          (λ c good. renewed_some some.0 c some.1 good) h
    ]

-- ---- what is spared

-- The file of this name is as the loss left it, or gone, or as it was then.
abbrev pub IsAsLeft : Facts → Files → Files → List ℕ → Type 0
IsAsLeft then before lost name = (get before name ≡ get lost name) ⊎ (get before name ≡ None) ⊎ (get before name ≡ get then.files name)

spared_one : (since then : Facts) (before lost : Files) (name : List ℕ) → StaysOrGoes since then name → IsAsLeft then before lost name → IsLeftWhole since lost name → IsLeftWhole since before name
spared_one since then before lost name stays left (inl kept) = inl kept
spared_one since then before lost name stays (inl same) (inr whole) = inr (λ bytes there. elim (whole bytes there) [ inl none ↦ inl (same ∙ none) | inr here ↦ inr (same ∙ here) ])
spared_one since then before lost name stays (inr (inl none)) (inr whole) = inr (λ bytes there. inl none)
spared_one since then before lost name (inl none) (inr (inr was)) (inr whole) = inr (λ bytes there. inl (was ∙ none))
spared_one since then before lost name (inr on) (inr (inr was)) (inr whole) = inr (λ bytes there. inr (was ∙ on.0 ∙ there))

-- A loss that spares what was there since then leaves files before which it was spared, too.
pub spares_before : (since then : Facts) (bound : ℕ) (before lost : Files) → StayBelow since then bound
    → ((n : ℕ) → IsNumbered n → n < bound → IsAsLeft then before lost (name_of (Table n)) × IsAsLeft then before lost (name_of (OldTable n)) × IsAsLeft then before lost (name_of (Log n)))
    → SparesBelow since bound lost → SparesBelow since bound before
spares_before since then bound before lost stay left spares n num fewer =
    let on = stay n num fewer in
    let is = left n num fewer in
    let whole = spares n num fewer in (
      spared_one since then before lost (name_of (Table n)) on.0 is.0 whole.0,
      spared_one since then before lost (name_of (OldTable n)) on.1 is.1 whole.1,
      spared_one since then before lost (name_of (Log n)) on.2 is.2 whole.2,
    )
