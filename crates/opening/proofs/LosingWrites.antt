-- What a power loss leaves of a directory while calls write files that it doesn't read.
use Rattle.std.proofs.Common.{◌≡◌, ◌⊎◌, inl, inr, ℕ, true, false, List, [], ◌∷◌, Option, Some, None, is_some, refl, sym, ap, subst, ◌∙◌}
use Rattle.std.specs.FinMap.{get, contains_key}
use Rattle.std.specs.Option.{option_or}
use Rattle.store.specs.Files.{Facts, Files}
use Rattle.store.specs.Losses.{LosesOnly}
use Rattle.store.specs.Stops.{WritesOnly}
use Rattle.store.proofs.LosingOn.{KeepsAt, facts_at, keeps_at, loses_at}
use Rattle.store.proofs.Staying.{begins_on, stays_on}
use Rattle.ikey.specs.Orders.{Order}
use Rattle.edits.specs.Names.{name_of, IsNumbered}
use Rattle.edits.specs.declared.names.FileName.TheVariants.{Current, Log, Manifest, Table, OldTable}
use Rattle.recover.specs.Directory.{Directory, IsConsistent}
use Rattle.recover.specs.Logs.{HasLogs, InLogs, LogContent}
use Rattle.recover.specs.Tables.{InTables, TableContent, table_at}
use Rattle.recover.specs.internal.Laws.{Agree, FreeChangeLaw}
use Rattle.recover.proofs.Keeping.{live_of}
use Rattle.opening.specs.Losses.{AreCut, AreSpared, CutLaw, IsKept, IsKeptButLogs, IsLeftOf, IsLeftWhole, IsLogIn, IsReadIn, IsTableKept, IsWholeOrGone, SparedLaw}
use Rattle.opening.specs.internal.Cuts.{AreLeft, LeavesCutIf, ReadsNone}
use Rattle.opening.proofs.Losing.{none_of}

-- ---- the tables of which it isn't known

-- the newer name of a table is read whether or not it is there
tabled : (files : Files) (d : Directory) (content : TableContent) → InTables d.tables content → IsReadIn files d (name_of (Table content.placed.table.number))
tabled files d content among = inr (inr (content, among, inl refl))

tabled_before : (files : Files) (d : Directory) (content : TableContent) → InTables d.tables content → get files (name_of (Table content.placed.table.number)) ≡ None → IsReadIn files d (name_of (OldTable content.placed.table.number))
tabled_before files d content among none = inr (inr (content, among, inr (refl, none)))

-- What is there under a name that has stayed the loss has left whole, if it hasn't taken it away.
pub whole_left : (files lost : Files) (q : List ℕ) (o : Option (List ℕ)) → contains_key lost q ≡ contains_key files q → IsWholeOrGone files lost q → get files q ≡ o → get lost q ≡ o
whole_left files lost q None names h is = none_of (get lost q) (names ∙ ap is_some is)
whole_left files lost q (Some bytes) names h is = elim (h bytes is) [
  | inl gone ↦ absurd (let bad : false ≡ true = sym (ap is_some gone) ∙ names ∙ ap is_some is in cc)
  | inr whole ↦ whole
]

table_left : (facts : Facts) (d : Directory) (lost : Files) (content : TableContent) (o : Option (List ℕ)) → InTables d.tables content → IsLeftOf facts d lost → IsLeftWhole facts lost (name_of (Table content.placed.table.number))
    → (get facts.files (name_of (Table content.placed.table.number)) ≡ None → IsLeftWhole facts lost (name_of (OldTable content.placed.table.number))) → get facts.files (name_of (Table content.placed.table.number)) ≡ o
    → IsTableKept facts content.placed.table.number ⊎ (table_at lost content.placed.table.number ≡ table_at facts.files content.placed.table.number)
table_left facts d lost content (Some bytes) among left newer older is =
    let n = content.placed.table.number in
    elim newer [
      | inl kept ↦ inl (kept, λ none. absurd (let bad : Some bytes ≡ None = sym is ∙ none in cc))
      | inr whole ↦
          let there = whole_left facts.files lost (name_of (Table n)) (Some bytes) (left.names (name_of (Table n)) (tabled facts.files d content among)) whole is in
          let after : table_at lost n ≡ Some bytes = ap (λ (o : Option (List ℕ)). option_or o (get lost (name_of (OldTable n)))) there in
          let before : table_at facts.files n ≡ Some bytes = ap (λ (o : Option (List ℕ)). option_or o (get facts.files (name_of (OldTable n)))) is in
          inr (after ∙ sym before)
    ]
table_left facts d lost content None among left newer older is =
    let n = content.placed.table.number in
    elim (older is) [
      | inl kept ↦ inl ((λ bytes there. absurd (let bad : Some bytes ≡ None = sym there ∙ is in cc)), λ none. kept)
      | inr whole ↦
          let first : get lost (name_of (Table n)) ≡ get facts.files (name_of (Table n)) =
          none_of (get lost (name_of (Table n))) (left.names (name_of (Table n)) (tabled facts.files d content among) ∙ ap is_some is) ∙ sym is in
          let second : get lost (name_of (OldTable n)) ≡ get facts.files (name_of (OldTable n)) =
          whole_left facts.files lost (name_of (OldTable n)) (get facts.files (name_of (OldTable n))) (left.names (name_of (OldTable n)) (tabled_before facts.files d content among is)) whole refl in
          inr (λ i. option_or (first i) (second i))
    ]

pub left_but_logs : (facts : Facts) (d : Directory) (lost : Files) → IsLeftOf facts d lost → AreLeft facts d lost → IsKeptButLogs facts facts.files lost d
left_but_logs facts d lost left h = record {
  current = h.current;
  manifest = h.manifest;
  tables = λ content among. let some = h.tables content among in table_left facts d lost content (get facts.files (name_of (Table content.placed.table.number))) among left some.0 some.1 refl;
}

-- ---- each loss until the next call

pub left_cut : SparedLaw → CutLaw → (order : Order) (facts : Facts) (d : Directory) → IsConsistent order facts.files d → AreSpared facts d → LosesOnly facts facts (LeavesCutIf order facts d)
left_cut spared cut order facts d good spares lost since h =
    let left = spared facts d lost spares since in
    cut order facts d lost good (left_but_logs facts d lost left h) left

-- ---- what the directory reads is as it was

-- the files that it reads, but for logs, and what of them is synced
pub record SameRead (old then : Facts) (d : Directory) : Type 0 where
  pub files : (q : List ℕ) → IsReadIn old.files d q → get then.files q ≡ get old.files q
  pub synced : (q : List ℕ) → IsReadIn old.files d q → then.synced q ≡ old.synced q

pub same_read : (old then : Facts) (d : Directory) (mine : List ℕ → Type 0) → KeepsAt old then mine → ReadsNone old.files d mine → SameRead old then d
same_read old then d mine h apart = record { files = λ q read. h.files q (apart q (inl read)); synced = λ q read. h.synced q (apart q (inl read)) }

pub read_back : (old then : Facts) (d : Directory) → SameRead old then d → (q : List ℕ) → IsReadIn then.files d q → IsReadIn old.files d q
read_back old then d h q (inl current) = inl current
read_back old then d h q (inr (inl manifest)) = inr (inl manifest)
read_back old then d h q (inr (inr some)) = inr (inr (
  some.0,
  some.1,
  elim some.2 [
    | inl newer ↦ inl newer
    | inr older ↦ inr (older.0, sym (h.files (name_of (Table some.0.placed.table.number)) (tabled old.files d some.0 some.1)) ∙ older.1)
  ],
))

table_same : (old then : Facts) (d : Directory) (content : TableContent) (o : Option (List ℕ)) → SameRead old then d → InTables d.tables content
    → get old.files (name_of (Table content.placed.table.number)) ≡ o → table_at then.files content.placed.table.number ≡ table_at old.files content.placed.table.number
table_same old then d content None h among is =
    let n = content.placed.table.number in
    let first = h.files (name_of (Table n)) (tabled old.files d content among) in
    let second = h.files (name_of (OldTable n)) (tabled_before old.files d content among is) in
    λ i. option_or (first i) (second i)
table_same old then d content (Some file) h among is =
    let n = content.placed.table.number in
    let first : get then.files (name_of (Table n)) ≡ Some file = h.files (name_of (Table n)) (tabled old.files d content among) ∙ is in
    let there : table_at then.files n ≡ Some file = ap (λ (o : Option (List ℕ)). option_or o (get then.files (name_of (OldTable n)))) first in
    let was : table_at old.files n ≡ Some file = ap (λ (o : Option (List ℕ)). option_or o (get old.files (name_of (OldTable n)))) is in
    there ∙ sym was

pub agree_at : (old then : Facts) (d : Directory) (mine : List ℕ → Type 0) → KeepsAt old then mine → ReadsNone old.files d mine → Agree old.files then.files d
agree_at old then d mine h apart =
    let same = same_read old then d mine h apart in
    record {
      current = same.files (name_of Current) (inl refl);
      manifest = same.files (name_of (Manifest d.manifest)) (inr (inl refl));
      logs = λ n num live. h.files (name_of (Log n)) (apart (name_of (Log n)) (inr (n, num, live, refl)));
      tables = λ content among. table_same old then d content (get old.files (name_of (Table content.placed.table.number))) same among refl;
    }

-- ---- its names have stayed

pub spared_at : (old then : Facts) (d : Directory) (mine : List ℕ → Type 0) → KeepsAt old then mine → ReadsNone old.files d mine → AreSpared old d → AreSpared then d
spared_at old then d mine h apart s = record {
  reads = λ q read. let was = read_back old then d (same_read old then d mine h apart) q read in stays_on old then mine q (apart q (inl was)) h.carries (s.reads q was);
  logs = λ q log. begins_on old then mine q (apart q (inr log)) h.carries (s.logs q log);
}

-- ---- what of it is synced is the same

kept_read : (old then : Facts) (d : Directory) → SameRead old then d → (q : List ℕ) → IsReadIn old.files d q → IsKept old q → IsKept then q
kept_read old then d h q read kept bytes there = h.synced q read ∙ kept bytes (sym (h.files q read) ∙ there)

whole_read : (old then : Facts) (lost : Files) (d : Directory) (q : List ℕ) → SameRead old then d → IsReadIn old.files d q → IsLeftWhole old lost q → IsLeftWhole then lost q
whole_read old then lost d q h read (inl kept) = inl (kept_read old then d h q read kept)
whole_read old then lost d q h read (inr whole) = inr (λ bytes there. whole bytes (sym (h.files q read) ∙ there))

pub left_at : (old then : Facts) (lost : Files) (d : Directory) → SameRead old then d → AreLeft old d lost → AreLeft then d lost
left_at old then lost d h k = record {
  current = kept_read old then d h (name_of Current) (inl refl) k.current;
  manifest = kept_read old then d h (name_of (Manifest d.manifest)) (inr (inl refl)) k.manifest;
  tables = λ content among.
      let some = k.tables content among in
      let n = content.placed.table.number in
      let newer = tabled old.files d content among in (
        whole_read old then lost d (name_of (Table n)) h newer some.0,
        λ none.
            let was : get old.files (name_of (Table n)) ≡ None = sym (h.files (name_of (Table n)) newer) ∙ none in
            whole_read old then lost d (name_of (OldTable n)) h (tabled_before old.files d content among was) (some.1 was),
      );
}

-- ---- and so is what of its logs is left

pub cut_as : (old then : Facts) (wholes cuts : List LogContent) → ((n : ℕ) → InLogs wholes n → then.synced (name_of (Log n)) ≡ old.synced (name_of (Log n))) → AreCut then wholes cuts → AreCut old wholes cuts
cut_as old then [] [] same h = tt
cut_as old then [] (cut ∷ cuts) same h = absurd h
cut_as old then (whole ∷ wholes) cuts same (inr gone) = inr (sym (same whole.number (inl refl)) ∙ gone.0, cut_as old then wholes cuts (λ n among. same n (inr among)) gone.1)
cut_as old then (whole ∷ wholes) cuts same (inl one) = inl (
  one.0,
  one.1,
  one.2,
  record {
    number = one.3.number;
    lost = one.3.lost;
    batches = one.3.batches;
    kept = λ bytes synced tail is spelled. one.3.kept bytes synced tail (same whole.number (inl refl) ∙ is) spelled;
  },
  cut_as old then wholes one.1 (λ n among. same n (inr among)) one.4,
)

pub numbered_in : (files : Files) (logs : List LogContent) (n : ℕ) → HasLogs files logs → InLogs logs n → IsNumbered n
numbered_in files [] n h among = absurd among
numbered_in files (log ∷ logs) n h (inl is) = subst IsNumbered (sym is) h.0.numbered
numbered_in files (log ∷ logs) n h (inr among) = numbered_in files logs n h.1 among

-- a log of the directory is one that it reads
pub log_in : (order : Order) (files : Files) (d : Directory) (n : ℕ) → IsConsistent order files d → InLogs d.logs n → IsLogIn d (name_of (Log n))
log_in order files d n good among = (n, numbered_in files d.logs n good.logs among, live_of d.layout d.logs n good.live among, refl)

-- ---- at each moment of the calls

pub loses_then : FreeChangeLaw → SparedLaw → CutLaw → (order : Order) (old then : Facts) (d : Directory) (mine : List ℕ → Type 0) → KeepsAt old then mine → ReadsNone old.files d mine → IsConsistent order old.files d → AreSpared old d
    → LosesOnly then then (LeavesCutIf order old d)
loses_then free spared cut order old then d mine h apart good spares lost since kept =
    let still : IsConsistent order then.files d = free order old.files then.files d (agree_at old then d mine h apart) good in
    let left = left_cut spared cut order then d still (spared_at old then d mine h apart spares) lost since (left_at old then lost d (same_read old then d mine h apart) kept) in
    (left.0, cut_as old then d.logs left.0 (λ n among. h.synced (name_of (Log n)) (apart (name_of (Log n)) (inr (log_in order old.files d n good among)))) left.1, left.2)

pub loses_writing : FreeChangeLaw → SparedLaw → CutLaw → (order : Order) (old new : Facts) (d : Directory) (mine : List ℕ → Type 0) → WritesOnly old new mine → ReadsNone old.files d mine → IsConsistent order old.files d → AreSpared old d
    → LosesOnly old new (LeavesCutIf order old d)
loses_writing free spared cut order old new d mine h apart good spares =
    loses_at old new (LeavesCutIf order old d) (λ m least most lost since. loses_then free spared cut order old (facts_at new m) d mine (keeps_at old new mine m h least) apart good spares lost since)
