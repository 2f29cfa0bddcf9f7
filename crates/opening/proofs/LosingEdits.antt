-- What a power loss leaves of a directory while an edit is put after its MANIFEST and synced.
use Rattle.std.proofs.Common.{◌≡◌, ◌≢◌, ◌⊎◌, inl, inr, ℕ, Bool, true, false, cond, List, [], ◌∷◌, ◌++◌, length, take, drop, Option, Some, None, is_some, refl, sym, ap, subst, ◌∙◌, append_assoc, append-nil}
use Rattle.std.proofs.Math.Seq.{take-append_seam}
use Rattle.std.proofs.lemmas.List.{append_cancel_left, take-append-drop}
use Rattle.std.specs.Cmp.{tied_itself}
use Rattle.std.specs.Cmp.Lexicographic.{slice_cmp, nat_list_cmp_total}
use Rattle.std.specs.FinMap.{get, insert, contains_key}
use Rattle.std.specs.Ordering.{is_eq, nat_cmp, eq_by_cmp}
use Rattle.store.specs.Calls.{Adds, Idles}
use Rattle.store.specs.Files.{Addition, AppendsBeginning, Call, Disk, Facts, Files, Sync, Synced, disk_of, with_synced}
use Rattle.store.specs.Losses.{BeginsWith, CarriesBut, LosesOnly, PutsSynced, behind_sync}
use Rattle.store.specs.Stops.{LeavesOnly}
use Rattle.store.proofs.Carrying.{carries_begun}
use Rattle.store.proofs.LosingOn.{loses_appended, loses_both, loses_noted, loses_same, puts_left}
use Rattle.store.proofs.Staying.{begins_behind, begins_on, stays_behind, stays_on}
use Rattle.ikey.specs.Orders.{Order}
use Rattle.edits.specs.Names.{name_of}
use Rattle.edits.specs.declared.names.FileName.TheVariants.{Current, Log, Manifest, Table, OldTable}
use Rattle.recover.specs.Directory.{Directory, IsConsistent}
use Rattle.recover.specs.Logs.{InLogs}
use Rattle.recover.proofs.Adding.{manifest_apart, table_of}
use Rattle.recover.proofs.NamedFiles.{get_other, get_same, same_name}
use Rattle.directory_writes.proofs.StoreCalls.{behind_added, with_other}
use Rattle.opening.specs.Losses.{AreSpared, CutLaw, IsKept, IsLeftOf, IsLeftWhole, IsLogIn, IsReadIn, SparedLaw}
use Rattle.opening.specs.internal.Cuts.{AreLeft, IsLeftCut, LeavesOneCut}
use Rattle.opening.proofs.Losing.{none_of, some_of}
use Rattle.opening.proofs.LosingWrites.{cut_as, left_but_logs, left_cut, numbered_in}
use Rattle.opening.proofs.Reopening.{files_apart}

-- ---- one name, or another

pub itself : (name : List ℕ) → eq_by_cmp (slice_cmp nat_cmp) name name ≡ true
itself name = ap is_eq (tied_itself nat_list_cmp_total name)

pub same_or_not : (q name : List ℕ) → (q ≡ name) ⊎ (q ≢ name)
same_or_not q name = at (eq_by_cmp (slice_cmp nat_cmp) q name) refl
  where
    at : (b : Bool) → eq_by_cmp (slice_cmp nat_cmp) q name ≡ b → (q ≡ name) ⊎ (q ≢ name)
    at true is = inl (same_name q name is)
    at false is = inr (λ e. let bad : true ≡ false = sym (itself name) ∙ ap (λ (n : List ℕ). eq_by_cmp (slice_cmp nat_cmp) n name) (sym e) ∙ is in absurd cc)

pub with_same : (s : Synced) (name : List ℕ) (content : Option (List ℕ)) → with_synced s name content name ≡ content
with_same s name content = ap (λ (b : Bool). cond b content (s name)) (itself name)

same_begins : (a b : List ℕ) → a ≡ b → BeginsWith a b
same_begins a b is = ([], is ∙ sym (append-nil b))

never : (o : Option (List ℕ)) (x : List ℕ) → o ≡ Some x → o ≡ None → ⊥
never o x some none = let bad : Some x ≡ None = sym some ∙ none in cc

-- ---- the file of one name as the loss left it

-- These files have it so, and are else as they were before the append. Those of the moment after it
-- are too.
record IsShort (old mid : Facts) (name : List ℕ) (lost files : Files) (left : List ℕ) : Type 0 where
  there : get lost name ≡ Some left
  had : contains_key mid.files name ≡ true
  here : get files name ≡ Some left
  others : (q : List ℕ) → q ≢ name → get files q ≡ get old.files q
  mids : (q : List ℕ) → q ≢ name → get mid.files q ≡ get old.files q
  synced : (q : List ℕ) → q ≢ name → mid.synced q ≡ old.synced q

module _ (old mid : Facts) (name : List ℕ) (lost files : Files) (left : List ℕ) (h : IsShort old mid name lost files left) where
  -- made up: that much of the file is there, and taken for synced
  abbrev up : Facts
  up = record old { files = files; synced = with_synced old.synced name (Some left) }

  same_names : (q : List ℕ) → contains_key files q ≡ contains_key mid.files q
  same_names q = elim (same_or_not q name) [
    | inl is ↦ ap (λ (n : List ℕ). contains_key files n) is ∙ ap is_some h.here ∙ sym h.had ∙ ap (λ (n : List ℕ). contains_key mid.files n) (sym is)
    | inr apart ↦ ap is_some (h.others q apart ∙ sym (h.mids q apart))
  ]

  read_mid : (x : Directory) (q : List ℕ) → IsReadIn files x q → IsReadIn mid.files x q
  read_mid x q (inl current) = inl current
  read_mid x q (inr (inl manifest)) = inr (inl manifest)
  read_mid x q (inr (inr some)) = inr (inr (
    some.0,
    some.1,
    elim some.2 [
      | inl newer ↦ inl newer
      | inr older ↦ inr (older.0, let n = name_of (Table some.0.placed.table.number) in none_of (get mid.files n) (sym (same_names n) ∙ ap is_some older.1))
    ],
  ))

  either_mid : (x : Directory) (q : List ℕ) → IsReadIn files x q ⊎ IsLogIn x q → IsReadIn mid.files x q ⊎ IsLogIn x q
  either_mid x q (inl read) = inl (read_mid x q read)
  either_mid x q (inr log) = inr log

  -- what the loss leaves of the directory, it leaves of these files
  left_none : (q : List ℕ) → contains_key lost q ≡ false → mid.synced q ≡ None → up.synced q ≡ None
  left_none q gone none = elim (same_or_not q name) [
    | inl is ↦ absurd (let bad : true ≡ false = sym (ap is_some h.there) ∙ ap (λ (n : List ℕ). contains_key lost n) (sym is) ∙ gone in cc)
    | inr apart ↦ with_other old.synced name q (Some left) apart ∙ sym (h.synced q apart) ∙ none
  ]

  left_beginning : (x : Directory) (q bytes : List ℕ) → IsLeftOf mid x lost → IsReadIn files x q ⊎ IsLogIn x q → get lost q ≡ Some bytes → (held : List ℕ) × (get files q ≡ Some held) × BeginsWith held bytes
  left_beginning x q bytes k mine there = elim (same_or_not q name) [
    | inl is ↦
        let same : left ≡ bytes = (let both : Some left ≡ Some bytes = sym h.there ∙ ap (λ (n : List ℕ). get lost n) (sym is) ∙ there in cc) in
        (left, ap (λ (n : List ℕ). get files n) is ∙ h.here, same_begins left bytes same)
    | inr apart ↦
        let begun = k.beginning q bytes (either_mid x q mine) there in
        (begun.0, h.others q apart ∙ sym (h.mids q apart) ∙ begun.1, begun.2)
  ]

  left_kept : (x : Directory) (q bytes synced : List ℕ) → IsLeftOf mid x lost → IsReadIn files x q ⊎ IsLogIn x q → get lost q ≡ Some bytes → up.synced q ≡ Some synced → BeginsWith bytes synced
  left_kept x q bytes synced k mine there kept = elim (same_or_not q name) [
    | inl is ↦
        let first : left ≡ bytes = (let both : Some left ≡ Some bytes = sym h.there ∙ ap (λ (n : List ℕ). get lost n) (sym is) ∙ there in cc) in
        let second : left ≡ synced = (let both : Some left ≡ Some synced = sym (with_same old.synced name (Some left)) ∙ ap up.synced (sym is) ∙ kept in cc) in
        same_begins bytes synced (sym first ∙ second)
    | inr apart ↦ k.kept q bytes synced (either_mid x q mine) there (h.synced q apart ∙ sym (with_other old.synced name q (Some left) apart) ∙ kept)
  ]

  left_up : (x : Directory) → IsLeftOf mid x lost → IsLeftOf up x lost
  left_up x k = record {
    names = λ q read. k.names q (read_mid x q read) ∙ sym (same_names q);
    logs = λ q log. elim (k.logs q log) [ inl same ↦ inl (same ∙ sym (same_names q)) | inr gone ↦ inr (gone.0, left_none q gone.0 gone.1) ];
    beginning = λ q bytes mine there. left_beginning x q bytes k mine there;
    kept = λ q bytes synced mine there kept. left_kept x q bytes synced k mine there kept;
  }

  -- what was synced is
  kept_up : (q : List ℕ) → IsKept old q → IsKept up q
  kept_up q k bytes there = elim (same_or_not q name) [
    | inl is ↦ ap up.synced is ∙ with_same old.synced name (Some left) ∙ sym h.here ∙ ap (λ (n : List ℕ). get files n) (sym is) ∙ there
    | inr apart ↦ with_other old.synced name q (Some left) apart ∙ k bytes (sym (h.others q apart) ∙ there)
  ]

  none_before : (q : List ℕ) → get files q ≡ None → get old.files q ≡ None
  none_before q none = elim (same_or_not q name) [
    | inl is ↦ absurd (never (get files name) left h.here (ap (λ (n : List ℕ). get files n) (sym is) ∙ none))
    | inr apart ↦ sym (h.others q apart) ∙ none
  ]

  whole_up : (q : List ℕ) → q ≢ name → IsLeftWhole old lost q → IsLeftWhole up lost q
  whole_up q apart (inl kept) = inl (kept_up q kept)
  whole_up q apart (inr whole) = inr (λ bytes there. whole bytes (sym (h.others q apart) ∙ there))

  short_left : (order : Order) (x : Directory) → IsConsistent order files x → name ≡ name_of (Manifest x.manifest) → AreLeft old x lost → AreLeft up x lost
  short_left order x good named k = record {
    current = kept_up (name_of Current) k.current;
    manifest = kept_up (name_of (Manifest x.manifest)) k.manifest;
    tables = λ content among.
        let some = k.tables content among in
        let n = content.placed.table.number in
        let num = table_of order files x.tables content good.tables among in
        let first : name_of (Table n) ≢ name = λ e. files_apart (Table n) (Manifest x.manifest) num good.manifest.numbered (λ s. cc) (e ∙ named) in
        let second : name_of (OldTable n) ≢ name = λ e. files_apart (OldTable n) (Manifest x.manifest) num good.manifest.numbered (λ s. cc) (e ∙ named) in
        (whole_up (name_of (Table n)) first some.0, λ none. whole_up (name_of (OldTable n)) second (some.1 (none_before (name_of (Table n)) none)));
  }

  -- in a directory that these files are, logs alone may be cut
  short_cut : CutLaw → (order : Order) (x : Directory) → IsConsistent order files x → name ≡ name_of (Manifest x.manifest) → IsLeftOf mid x lost → AreLeft old x lost → IsLeftCut order old x lost
  short_cut cut order x good named k kept =
      let keeps = left_up x k in
      let some = cut order up x lost good (left_but_logs up x lost keeps (short_left order x good named kept)) keeps in
      let synced : (n : ℕ) → InLogs x.logs n → up.synced (name_of (Log n)) ≡ old.synced (name_of (Log n)) =
      λ n among. with_other old.synced name (name_of (Log n)) (Some left) (λ e. manifest_apart x.manifest n good.manifest.numbered (numbered_in files x.logs n good.logs among) (sym named ∙ sym e)) in
      (some.0, cut_as old up x.logs some.0 synced some.1, some.2)

-- ---- a beginning of what was put after it

behind_both : (a b c : List ℕ) → BeginsWith a b → BeginsWith b c → BeginsWith a c
behind_both a b c h k = (k.0 ++ h.0, h.1 ∙ ap (λ (x : List ℕ). x ++ h.0) k.1 ∙ append_assoc c k.0 h.0)

cut_append : (before bytes left : List ℕ) (n : ℕ) → BeginsWith (before ++ take n bytes) left → BeginsWith left before → (k : ℕ) × (left ≡ before ++ take k bytes)
cut_append before bytes left n h k =
    let more = k.0 in
    let part : take n bytes ≡ more ++ h.0 = append_cancel_left before (take n bytes) (more ++ h.0) (h.1 ∙ ap (λ (x : List ℕ). x ++ h.0) k.1 ∙ append_assoc before more h.0) in
    let all : bytes ≡ more ++ (h.0 ++ drop n bytes) = sym (take-append-drop n bytes) ∙ ap (λ (x : List ℕ). x ++ drop n bytes) part ∙ append_assoc more h.0 (drop n bytes) in
    (length more, k.1 ∙ ap (λ (x : List ℕ). before ++ x) (sym (ap (take (length more)) all ∙ take-append_seam more (h.0 ++ drop n bytes))))

-- Bytes stand after the file, as many as came, and of it is synced what it held before, or more.
record IsPut (old mid : Facts) (name bytes : List ℕ) : Type 0 where
  before : List ℕ
  was : get old.files name ≡ Some before
  count : ℕ
  held : get mid.files name ≡ Some (before ++ take count bytes)
  others : (q : List ℕ) → q ≢ name → get mid.files q ≡ get old.files q
  part : List ℕ
  kept : mid.synced name ≡ Some part
  begun : BeginsWith part before
  synced : (q : List ℕ) → q ≢ name → mid.synced q ≡ old.synced q

abbrev put_to : Files → List ℕ → List ℕ → List ℕ → ℕ → Files
put_to files name before bytes k = insert files name (before ++ take k bytes)

short_by : (old mid : Facts) (name bytes : List ℕ) (lost : Files) (p : IsPut old mid name bytes) (left : List ℕ) (k : ℕ) → get lost name ≡ Some left → left ≡ p.before ++ take k bytes
    → IsShort old mid name lost (put_to old.files name p.before bytes k) (p.before ++ take k bytes)
short_by old mid name bytes lost p left k there is = record {
  there = there ∙ ap Some is;
  had = ap is_some p.held;
  here = get_same old.files name (p.before ++ take k bytes);
  others = λ q apart. get_other old.files name (p.before ++ take k bytes) q apart;
  mids = p.others;
  synced = p.synced;
}

put_short : (old mid : Facts) (name bytes : List ℕ) (x : Directory) (lost : Files) (p : IsPut old mid name bytes) → name ≡ name_of (Manifest x.manifest) → IsLeftOf mid x lost
    → (k : ℕ) × IsShort old mid name lost (put_to old.files name p.before bytes k) (p.before ++ take k bytes)
put_short old mid name bytes x lost p named left =
    let read : IsReadIn mid.files x name = inr (inl named) in
    let there = some_of (get lost name) (left.names name read ∙ ap is_some p.held) in
    let begun = left.beginning name there.0 (inl read) there.1 in
    let held : begun.0 ≡ p.before ++ take p.count bytes = (let both : Some begun.0 ≡ Some (p.before ++ take p.count bytes) = sym begun.1 ∙ p.held in cc) in
    let front : BeginsWith (p.before ++ take p.count bytes) there.0 = subst (λ (b : List ℕ). BeginsWith b there.0) held begun.2 in
    let kept = behind_both there.0 p.part p.before (left.kept name there.0 p.part (inl read) there.1 p.kept) p.begun in
    let some = cut_append p.before bytes there.0 p.count front kept in
    (some.0, short_by old mid name bytes lost p there.0 some.0 there.1 some.1)

-- What each beginning of these bytes after the file leaves: one of these directories, and the file
-- is its MANIFEST.
pub record LeavesOne (order : Order) (old : Files) (name bytes : List ℕ) (Q : Directory → Type 0) : Type 0 where
  pub one : (files : Files) → AppendsBeginning old files name bytes → (x : Directory) × Q x × IsConsistent order files x
  pub named : (x : Directory) → Q x → name ≡ name_of (Manifest x.manifest)

-- each loss until the next call
put_loses : SparedLaw → CutLaw → (order : Order) (old mid : Facts) (name bytes : List ℕ) (Q : Directory → Type 0) → IsPut old mid name bytes → LeavesOne order old.files name bytes Q → ((x : Directory) → Q x → AreSpared mid x)
    → LosesOnly mid mid (LeavesOneCut order old Q)
put_loses spared cut order old mid name bytes Q p leaves spares lost since kept =
    let first = leaves.one old.files (inl refl) in
    let short = put_short old mid name bytes first.0 lost p (leaves.named first.0 first.1) (spared mid first.0 lost (spares first.0 first.1) since) in
    let files = put_to old.files name p.before bytes short.0 in
    let some = leaves.one files (inr (short.0, (p.before, p.was, refl))) in
    let x = some.0 in
    (x, some.1, short_cut old mid name lost files (p.before ++ take short.0 bytes) short.1 cut order x some.2 (leaves.named x some.1) (spared mid x lost (spares x some.1) since) (kept x some.1))

-- ---- after the append, and after the sync

put_noted : (old mid : Facts) (name bytes before : List ℕ) → get old.files name ≡ Some before → IsKept old name → mid.synced ≡ old.synced → Idles old mid ⊎ ((n : ℕ) × Adds old mid (Addition name (take n bytes))) → IsPut old mid name bytes
put_noted old mid name bytes before was kept synced (inl idle) = record {
  before = before;
  was = was;
  count = 0;
  held = ap (λ (disk : Disk). get disk.files name) idle.1 ∙ was ∙ ap Some (sym (append-nil before));
  others = λ q apart. ap (λ (disk : Disk). get disk.files q) idle.1;
  part = before;
  kept = ap (λ (s : Synced). s name) synced ∙ kept before was;
  begun = same_begins before before refl;
  synced = λ q apart. ap (λ (s : Synced). s q) synced;
}
put_noted old mid name bytes before was kept synced (inr some) =
    let done = some.1.1 in
    record {
      before = done.0;
      was = done.1;
      count = some.0;
      held = ap (λ (fs : Files). get fs name) done.2 ∙ get_same old.files name (done.0 ++ take some.0 bytes);
      others = λ q apart. ap (λ (fs : Files). get fs q) done.2 ∙ get_other old.files name (done.0 ++ take some.0 bytes) q apart;
      part = done.0;
      kept = ap (λ (s : Synced). s name) synced ∙ kept done.0 done.1;
      begun = same_begins done.0 done.0 refl;
      synced = λ q apart. ap (λ (s : Synced). s q) synced;
    }

put_synced : (old mid new : Facts) (name bytes : List ℕ) → IsPut old mid name bytes → new.files ≡ mid.files → new.synced ≡ with_synced mid.synced name (get mid.files name) → IsPut old new name bytes
put_synced old mid new name bytes p files synced = record {
  before = p.before;
  was = p.was;
  count = p.count;
  held = ap (λ (fs : Files). get fs name) files ∙ p.held;
  others = λ q apart. ap (λ (fs : Files). get fs q) files ∙ p.others q apart;
  part = p.before ++ take p.count bytes;
  kept = ap (λ (s : Synced). s name) synced ∙ with_same mid.synced name (get mid.files name) ∙ p.held;
  begun = (take p.count bytes, refl);
  synced = λ q apart. ap (λ (s : Synced). s q) synced ∙ with_other mid.synced name q (get mid.files name) apart ∙ p.synced q apart;
}

read_on : (old mid : Facts) (x : Directory) (q : List ℕ) → CarriesBut old mid (λ (p : List ℕ). ⊥) → IsReadIn mid.files x q → IsReadIn old.files x q
read_on old mid x q c (inl current) = inl current
read_on old mid x q c (inr (inl manifest)) = inr (inl manifest)
read_on old mid x q c (inr (inr some)) = inr (inr (
  some.0,
  some.1,
  elim some.2 [
    | inl newer ↦ inl newer
    | inr older ↦ inr (older.0, let n = name_of (Table some.0.placed.table.number) in none_of (get old.files n) (sym (c.now n (λ none. none)) ∙ ap is_some older.1))
  ],
))

-- calls that leave all names
pub spared_on : (old mid : Facts) (x : Directory) → CarriesBut old mid (λ (p : List ℕ). ⊥) → AreSpared old x → AreSpared mid x
spared_on old mid x c s = record {
  reads = λ q read. stays_on old mid (λ (p : List ℕ). ⊥) q (λ none. none) c (s.reads q (read_on old mid x q c read));
  logs = λ q log. begins_on old mid (λ (p : List ℕ). ⊥) q (λ none. none) c (s.logs q log);
}

pub spared_behind : (facts : Facts) (x : Directory) → behind_sync [] facts.calls ≡ [] → AreSpared facts x
spared_behind facts x none = record { reads = λ q read. stays_behind facts q none; logs = λ q log. begins_behind facts q none }

-- before it
here_loses : SparedLaw → CutLaw → (order : Order) (old : Facts) (name bytes : List ℕ) (Q : Directory → Type 0) → LeavesOne order old.files name bytes Q → ((x : Directory) → Q x → AreSpared old x) → LosesOnly old old (LeavesOneCut order old Q)
here_loses spared cut order old name bytes Q leaves spares lost since kept =
    let first = leaves.one old.files (inl refl) in
    let x = first.0 in
    (x, first.1, left_cut spared cut order old x first.2 (spares x first.1) lost since (kept x first.1))

-- Bytes are put after the MANIFEST and synced, of which each beginning leaves one of these
-- directories. Each loss leaves one too, at any moment, except for the ends of logs.
pub loses_edits : SparedLaw → CutLaw → (order : Order) (old new : Facts) (name bytes : List ℕ) (Q : Directory → Type 0) → PutsSynced old new name bytes → LeavesOne order old.files name bytes Q → IsKept old name → ((x : Directory) → Q x → AreSpared old x)
    → LosesOnly old new (LeavesOneCut order old Q)
loses_edits spared cut order old new name bytes Q puts leaves whole spares =
    let mid = puts.mid in
    let P = LeavesOneCut order old Q in
    let first = leaves.one old.files (inl refl) in
    let was = ap (λ (n : List ℕ). get old.files n) (leaves.named first.0 first.1) ∙ first.2.manifest.there in
    let put = put_noted old mid name bytes first.2.manifest.bytes was whole puts.kept puts.noted in
    let carries = carries_begun old mid name bytes (λ (p : List ℕ). ⊥) puts.kept puts.noted in
    let before : LosesOnly old old P = here_loses spared cut order old name bytes Q leaves spares in
    let between : LosesOnly mid mid P = put_loses spared cut order old mid name bytes Q put leaves (λ x is. spared_on old mid x carries (spares x is)) in
    let begun : LosesOnly old mid P = loses_appended old mid name bytes P puts.noted before between in
    elim puts.done [
      | inl idle ↦ loses_both old mid new [] P (idle.0 ∙ sym (append-nil mid.calls)) begun (loses_same mid new P idle.0 (ap (λ (disk : Disk). disk.files) idle.1) (ap (λ (disk : Disk). disk.synced) idle.1) between)
      | inr done ↦
          let ends = behind_added mid new name done.0 in
          let behind : LosesOnly new new P = put_loses spared cut order old new name bytes Q (put_synced old mid new name bytes put done.0.1 done.1) leaves (λ x is. spared_behind new x ends) in
          loses_both old mid new (record { found = disk_of mid; change = Sync name } ∷ []) P done.0.0 begun (loses_noted mid new (Sync name) P (inr done.0) between behind)
    ]

-- The same holds of what a process crash of the whole may leave.
pub loses_put : SparedLaw → CutLaw → (order : Order) (old mid new : Facts) (more : List Call) (name bytes : List ℕ) (P : Files → Type 0) (Q : Directory → Type 0)
    → mid.calls ≡ old.calls ++ more → PutsSynced mid new name bytes → LeavesOnly old new P
    → ((files : Files) → P files → (x : Directory) × Q x × IsConsistent order files x) → ((x : Directory) → Q x → name ≡ name_of (Manifest x.manifest))
    → IsKept mid name → ((x : Directory) → Q x → AreSpared mid x) → LosesOnly mid new (LeavesOneCut order mid Q)
loses_put spared cut order old mid new more name bytes P Q calls puts stops one named whole spares =
    let came = puts_left old mid new more name bytes P calls puts stops in
    loses_edits spared cut order mid new name came.0 Q came.1 (record { one = λ files put. one files (came.2 files put); named = named }) whole spares
