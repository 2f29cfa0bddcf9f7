-- What a power loss leaves of a directory whose logs aren't synced whole.
use Rattle.std.proofs.Common.{◌≡◌, ◌≤◌, ◌<◌, ◌⊎◌, inl, inr, ℕ, Bool, true, false, List, [], ◌∷◌, ◌++◌, length, take, Option, Some, None, is_some, refl, sym, ap, subst, ◌∙◌, arith, append_assoc}
use Rattle.std.specs.FinMap.{get, contains_key}
use Rattle.std.specs.Option.{option_or}
use Rattle.store.specs.Files.{Facts, Files}
use Rattle.store.specs.Losses.{BeginsWith}
use Rattle.ikey.specs.declared.entry.Entry.{Entry}
use Rattle.ikey.specs.Views.{Among}
use Rattle.logfile.specs.Log.{IsLog, shorter}
use Rattle.logfile.specs.declared.record.Tail.{Tail}
use Rattle.logfile.specs.declared.record.Tail.TheVariants.{Clean}
use Rattle.logfile.proofs.LogLaws.{same_log}
use Rattle.logfile.proofs.Parts.{between}
use Rattle.edits.specs.Names.{name_of}
use Rattle.edits.specs.declared.layout.Layout.{Layout}
use Rattle.edits.specs.declared.names.FileName.TheVariants.{Current, Log, Manifest, Table, OldTable}
use Rattle.recover.specs.Directory.{Directory}
use Rattle.recover.specs.Entries.{RiseAbove, entries_of}
use Rattle.recover.specs.Logs.{AreBatches, AreLive, Batch, HasLog, HasLogs, InLogs, IsBatchLog, IsLive, LogContent, NumbersRise, batch_entries, logged}
use Rattle.recover.specs.Tables.{TableContent, InTables, table_at}
use Rattle.recover.proofs.Keeping.{keep_manifest, keep_tables}
use Rattle.recover.proofs.OneMeaning.{same_batches}
use Rattle.opening.proofs.Losing.{both_begin, none_of, some_of}
use Rattle.opening.specs.Losses.{AreCut, CutLaw, IsCut, IsKept, IsKeptButLogs, IsLeftOf, IsLogIn, IsReadIn, IsTableKept}

-- ---- a log that is cut

empty_log : IsLog [] [] Clean
empty_log = record { fragments = []; cut = false; begun = false; blocks = shorter (omega arith) (inl refl); joined = refl; tail_is = refl }

take_front : (a b : List ℕ) → take (length a) (a ++ b) ≡ a
take_front [] b = refl
take_front (x ∷ a) b = ap (λ (rest : List ℕ). x ∷ rest) (take_front a b)

-- a beginning of a log is a log of the first records
record Front (bytes : List ℕ) (records : List (List ℕ)) : Type 0 where
  first : List (List ℕ)
  rest : List (List ℕ)
  tail : Tail
  parts : records ≡ first ++ rest
  log : IsLog bytes first tail

front_log : (front more : List ℕ) (records : List (List ℕ)) (tail : Tail) → IsLog (front ++ more) records tail → Front front records
front_log front more records tail h =
    let p = between [] (front ++ more) [] records Clean tail (length front) empty_log h in
    record { first = p.0; rest = p.1; tail = p.2; parts = p.3; log = subst (λ (bytes : List ℕ). IsLog bytes p.0 p.2) (take_front front more) p.4 }

record SplitBatches (first : List (List ℕ)) (batches : List Batch) : Type 0 where
  front : List Batch
  back : List Batch
  parts : batches ≡ front ++ back
  spelled : AreBatches first front

split_batches : (first rest : List (List ℕ)) (batches : List Batch) → AreBatches (first ++ rest) batches → SplitBatches first batches
split_batches [] rest batches h = record { front = []; back = batches; parts = refl; spelled = tt }
split_batches (bytes ∷ first) rest [] h = absurd h
split_batches (bytes ∷ first) rest (batch ∷ batches) h =
    let s = split_batches first rest batches h.1 in
    record { front = batch ∷ s.front; back = s.back; parts = ap (λ (bs : List Batch). batch ∷ bs) s.parts; spelled = (h.0, s.spelled) }

front_batches : (front more : List ℕ) (batches : List Batch) (tail : Tail) → IsBatchLog (front ++ more) batches tail → (kept : List Batch) × (lost : List Batch) × (at : Tail) × (batches ≡ kept ++ lost) × IsBatchLog front kept at
front_batches front more batches tail h =
    let p = front_log front more h.records tail h.log in
    let s = split_batches p.first p.rest batches (subst (λ (rs : List (List ℕ)). AreBatches rs batches) p.parts h.spelled) in
    (s.front, s.back, p.tail, s.parts, record { records = p.first; log = p.log; spelled = s.spelled })

one_batch_log : (bytes : List ℕ) (bs cs : List Batch) (tail end : Tail) → IsBatchLog bytes bs tail → IsBatchLog bytes cs end → bs ≡ cs
one_batch_log bytes bs cs tail end h k =
    same_batches h.records bs cs h.spelled (subst (λ (rs : List (List ℕ)). AreBatches rs cs) (sym (same_log bytes h.records k.records tail end h.log k.log).0) k.spelled)

-- what is synced is in front
kept_front : (front more : List ℕ) (batches synced : List Batch) (tail end : Tail) → IsBatchLog (front ++ more) batches tail → IsBatchLog front synced end → (rest : List Batch) × (batches ≡ synced ++ rest)
kept_front front more batches synced tail end h k =
    let f = front_batches front more batches tail h in
    (f.1, f.3 ∙ ap (λ (bs : List Batch). bs ++ f.1) (one_batch_log front f.0 synced f.2 end f.4 k))

cut_log : (facts : Facts) (d : Directory) (lost : Files) (whole : LogContent) → IsLeftOf facts d lost → IsLive d.layout whole.number → (has : HasLog facts.files whole) → contains_key lost (name_of (Log whole.number)) ≡ true
    → (cut : LogContent) × HasLog lost cut × IsCut facts whole cut
cut_log facts d lost whole h live has present =
    let name = name_of (Log whole.number) in
    let mine : IsReadIn facts.files d name ⊎ IsLogIn d name = inr (whole.number, has.numbered, live, refl) in
    let there = some_of (get lost name) present in
    let begun = h.beginning name there.0 mine there.1 in
    let held : begun.0 ≡ has.bytes = (let both : Some begun.0 ≡ Some has.bytes = sym begun.1 ∙ has.there in cc) in
    let is : has.bytes ≡ there.0 ++ begun.2.0 = sym held ∙ begun.2.1 in
    let f = front_batches there.0 begun.2.0 whole.batches whole.tail (subst (λ (bytes : List ℕ). IsBatchLog bytes whole.batches whole.tail) is has.spelled) in (
      record { number = whole.number; batches = f.0; tail = f.2 },
      record { bytes = there.0; numbered = has.numbered; there = there.1; spelled = f.4 },
      record {
        number = refl;
        lost = f.1;
        batches = f.3;
        kept = λ bytes synced tail at log.
            let begins = h.kept name there.0 bytes mine there.1 at in
            kept_front bytes begins.0 f.0 synced f.2 tail (subst (λ (b : List ℕ). IsBatchLog b f.0 f.2) begins.1 f.4) log;
      },
    )

-- what is left of some logs
pub record Cuts (facts : Facts) (lost : Files) (wholes : List LogContent) : Type 0 where
  pub cuts : List LogContent
  pub there : HasLogs lost cuts
  pub are : AreCut facts wholes cuts
  pub all : (n : ℕ) → InLogs wholes n → contains_key lost (name_of (Log n)) ≡ true → InLogs cuts n

no_both : {A : Type 0} (b : Bool) → b ≡ true → b ≡ false → A
no_both b t f = let bad : true ≡ false = sym t ∙ f in absurd cc

pub cut_logs : (facts : Facts) (d : Directory) (lost : Files) (wholes : List LogContent) → IsLeftOf facts d lost → AreLive d.layout wholes → HasLogs facts.files wholes → Cuts facts lost wholes
cut_logs facts d lost [] h live has = record { cuts = []; there = tt; are = tt; all = λ n i present. absurd i }
cut_logs facts d lost (whole ∷ wholes) h live has =
    let others = cut_logs facts d lost wholes h live.1 has.1 in
    let name = name_of (Log whole.number) in
    let log : IsLogIn d name = (whole.number, has.0.numbered, live.0, refl) in
    elim (h.logs name log) [
      | inl same ↦
          let one = cut_log facts d lost whole h live.0 has.0 (same ∙ ap is_some has.0.there) in
          record {
            cuts = one.0 ∷ others.cuts;
            there = (one.1, others.there);
            are = inl (one.0, others.cuts, refl, one.2, others.are);
            all = λ n i present. elim i [ inl is ↦ inl (is ∙ sym one.2.number) | inr later ↦ inr (others.all n later present) ];
          }
      | inr gone ↦ record {
        cuts = others.cuts;
        there = others.there;
        are = inr (gone.1, others.are);
        all = λ n i present. elim i [
          | inl is ↦ no_both (contains_key lost (name_of (Log n))) present (subst (λ (m : ℕ). contains_key lost (name_of (Log m)) ≡ false) (sym is) gone.0)
          | inr later ↦ others.all n later present
        ];
      }
    ]

-- ---- what is said of logs goes for cut ones

pub cut_live : (facts : Facts) (layout : Layout) (wholes cuts : List LogContent) → AreCut facts wholes cuts → AreLive layout wholes → AreLive layout cuts
cut_live facts layout [] [] c h = tt
cut_live facts layout [] (cut ∷ cuts) c h = absurd c
cut_live facts layout (whole ∷ wholes) cuts (inr gone) h = cut_live facts layout wholes cuts gone.1 h.1
cut_live facts layout (whole ∷ wholes) cuts (inl one) h =
    subst (AreLive layout) (sym one.2) (subst (λ (n : ℕ). IsLive layout n) (sym one.3.number) h.0, cut_live facts layout wholes one.1 one.4 h.1)

numbers_lower : (low least : ℕ) (logs : List LogContent) → low < least → NumbersRise least logs → NumbersRise low logs
numbers_lower low least [] lt h = tt
numbers_lower low least (log ∷ logs) lt h = ((let first = h.0 in omega (arith, lt, first)), h.1)

pub cut_rising : (facts : Facts) (low : ℕ) (wholes cuts : List LogContent) → AreCut facts wholes cuts → NumbersRise low wholes → NumbersRise low cuts
cut_rising facts low [] [] c h = tt
cut_rising facts low [] (cut ∷ cuts) c h = absurd c
cut_rising facts low (whole ∷ wholes) cuts (inr gone) h = numbers_lower low whole.number cuts h.0 (cut_rising facts whole.number wholes cuts gone.1 h.1)
cut_rising facts low (whole ∷ wholes) cuts (inl one) h =
    subst (NumbersRise low) (sym one.2) (subst (λ (n : ℕ). (low < n) × NumbersRise n one.1) (sym one.3.number) (h.0, cut_rising facts whole.number wholes one.1 one.4 h.1))

entries-append : (front back : List Batch) → batch_entries (front ++ back) ≡ batch_entries front ++ batch_entries back
entries-append [] back = refl
entries-append (b ∷ front) back =
    ap (λ (es : List Entry). entries_of b.0 b.1 ++ es) (entries-append front back) ∙ sym (append_assoc (entries_of b.0 b.1) (batch_entries front) (batch_entries back))

in_first : (xs ys : List Entry) (e : Entry) → Among xs e → Among (xs ++ ys) e
in_first [] ys e i = absurd i
in_first (x ∷ xs) ys e (inl is) = inl is
in_first (x ∷ xs) ys e (inr i) = inr (in_first xs ys e i)

in_second : (xs ys : List Entry) (e : Entry) → Among ys e → Among (xs ++ ys) e
in_second [] ys e i = i
in_second (x ∷ xs) ys e i = inr (in_second xs ys e i)

in_either : (xs ys : List Entry) (e : Entry) → Among (xs ++ ys) e → Among xs e ⊎ Among ys e
in_either [] ys e i = inr i
in_either (x ∷ xs) ys e (inl is) = inl (inl is)
in_either (x ∷ xs) ys e (inr i) = elim (in_either xs ys e i) [ inl here ↦ inl (inr here) | inr there ↦ inr there ]

pub cut_among : (facts : Facts) (wholes cuts : List LogContent) → AreCut facts wholes cuts → (e : Entry) → Among (logged cuts) e → Among (logged wholes) e
cut_among facts [] [] c e i = absurd i
cut_among facts [] (cut ∷ cuts) c e i = absurd c
cut_among facts (whole ∷ wholes) cuts (inr gone) e i = in_second (batch_entries whole.batches) (logged wholes) e (cut_among facts wholes cuts gone.1 e i)
cut_among facts (whole ∷ wholes) cuts (inl one) e i =
    let cut = one.0 in
    let j = subst (λ (ls : List LogContent). Among (logged ls) e) one.2 i in
    elim (in_either (batch_entries cut.batches) (logged one.1) e j) [
      | inl here ↦
          let same : batch_entries whole.batches ≡ batch_entries cut.batches ++ batch_entries one.3.lost = ap batch_entries one.3.batches ∙ entries-append cut.batches one.3.lost in
          in_first (batch_entries whole.batches) (logged wholes) e (subst (λ (es : List Entry). Among es e) (sym same) (in_first (batch_entries cut.batches) (batch_entries one.3.lost) e here))
      | inr later ↦ in_second (batch_entries whole.batches) (logged wholes) e (cut_among facts wholes one.1 one.4 e later)
    ]

-- ---- they rise still

rise_lower : (low least : ℕ) (xs : List Entry) → low ≤ least → RiseAbove least xs → RiseAbove low xs
rise_lower low least [] le h = tt
rise_lower low least (x ∷ xs) le h = ((let first = h.0 in omega (arith, le, first)), h.1)

rise_behind : (low : ℕ) (xs ys : List Entry) → RiseAbove low (xs ++ ys) → RiseAbove low ys
rise_behind low [] ys h = h
rise_behind low (x ∷ xs) ys h = rise_lower low x.sequence ys (let first = h.0 in omega (arith, first)) (rise_behind x.sequence xs ys h.1)

rise_both : (low : ℕ) (xs rest other : List Entry) → ((least : ℕ) → RiseAbove least rest → RiseAbove least other) → RiseAbove low (xs ++ rest) → RiseAbove low (xs ++ other)
rise_both low [] rest other goes h = goes low h
rise_both low (x ∷ xs) rest other goes h = (h.0, rise_both x.sequence xs rest other goes h.1)

pub cut_rise : (facts : Facts) (wholes cuts : List LogContent) → AreCut facts wholes cuts → (low : ℕ) → RiseAbove low (logged wholes) → RiseAbove low (logged cuts)
cut_rise facts [] [] c low h = tt
cut_rise facts [] (cut ∷ cuts) c low h = absurd c
cut_rise facts (whole ∷ wholes) cuts (inr gone) low h = cut_rise facts wholes cuts gone.1 low (rise_behind low (batch_entries whole.batches) (logged wholes) h)
cut_rise facts (whole ∷ wholes) cuts (inl one) low h =
    let cut = one.0 in
    let same : batch_entries whole.batches ≡ batch_entries cut.batches ++ batch_entries one.3.lost = ap batch_entries one.3.batches ∙ entries-append cut.batches one.3.lost in
    let all : batch_entries whole.batches ++ logged wholes ≡ batch_entries cut.batches ++ (batch_entries one.3.lost ++ logged wholes) =
    ap (λ (es : List Entry). es ++ logged wholes) same ∙ append_assoc (batch_entries cut.batches) (batch_entries one.3.lost) (logged wholes) in
    subst (λ (ls : List LogContent). RiseAbove low (logged ls)) (sym one.2)
    (rise_both low (batch_entries cut.batches) (batch_entries one.3.lost ++ logged wholes) (logged one.1)
    (λ least k. cut_rise facts wholes one.1 one.4 least (rise_behind least (batch_entries one.3.lost) (logged wholes) k)) (subst (λ (es : List Entry). RiseAbove low es) all h))

-- ---- the directory

read_of : (facts : Facts) (d : Directory) (lost : Files) (q : List ℕ) (o : Option (List ℕ)) → IsLeftOf facts d lost → IsReadIn facts.files d q → IsKept facts q → get facts.files q ≡ o → get lost q ≡ o
read_of facts d lost q None h read kept is = none_of (get lost q) (h.names q read ∙ ap is_some is)
read_of facts d lost q (Some bytes) h read kept is =
    let there = some_of (get lost q) (h.names q read ∙ ap is_some is) in
    let begun = h.beginning q there.0 (inl read) there.1 in
    let held : begun.0 ≡ bytes = (let both : Some begun.0 ≡ Some bytes = sym begun.1 ∙ is in cc) in
    let front : BeginsWith bytes there.0 = subst (λ (b : List ℕ). BeginsWith b there.0) held begun.2 in
    there.1 ∙ ap Some (both_begin there.0 bytes (h.kept q there.0 bytes (inl read) there.1 (kept bytes is)) front)

pub read_same : (facts : Facts) (d : Directory) (lost : Files) (q : List ℕ) → IsLeftOf facts d lost → IsReadIn facts.files d q → IsKept facts q → get lost q ≡ get facts.files q
read_same facts d lost q h read kept = read_of facts d lost q (get facts.files q) h read kept refl

table_read : (facts : Facts) (d : Directory) (lost : Files) (content : TableContent) (o : Option (List ℕ)) → get facts.files (name_of (Table content.placed.table.number)) ≡ o → IsLeftOf facts d lost → InTables d.tables content
    → IsTableKept facts content.placed.table.number → table_at lost content.placed.table.number ≡ table_at facts.files content.placed.table.number
table_read facts d lost content None is h among kept =
    let n = content.placed.table.number in
    let first = read_same facts d lost (name_of (Table n)) h (inr (inr (content, among, inl refl))) kept.0 in
    let second = read_same facts d lost (name_of (OldTable n)) h (inr (inr (content, among, inr (refl, is)))) (kept.1 is) in
    λ i. option_or (first i) (second i)
table_read facts d lost content (Some file) is h among kept =
    let n = content.placed.table.number in
    let first : get lost (name_of (Table n)) ≡ Some file = read_same facts d lost (name_of (Table n)) h (inr (inr (content, among, inl refl))) kept.0 ∙ is in
    let there : table_at lost n ≡ Some file = ap (λ (o : Option (List ℕ)). option_or o (get lost (name_of (OldTable n)))) first in
    let was : table_at facts.files n ≡ Some file = ap (λ (o : Option (List ℕ)). option_or o (get facts.files (name_of (OldTable n)))) is in
    there ∙ sym was

tables_read : (facts : Facts) (d : Directory) (lost : Files) → IsLeftOf facts d lost → IsKeptButLogs facts facts.files lost d
    → (content : TableContent) → InTables d.tables content → table_at lost content.placed.table.number ≡ table_at facts.files content.placed.table.number
tables_read facts d lost h k content among = elim (k.tables content among) [
  | inl kept ↦ table_read facts d lost content (get facts.files (name_of (Table content.placed.table.number))) refl h among kept
  | inr left ↦ left
]

pub still_there : (facts : Facts) (d : Directory) (lost : Files) (n : ℕ) → IsLeftOf facts d lost → IsLogIn d (name_of (Log n)) → contains_key lost (name_of (Log n)) ≡ true → contains_key facts.files (name_of (Log n)) ≡ true
still_there facts d lost n h log present = elim (h.logs (name_of (Log n)) log) [
  | inl same ↦ sym same ∙ present
  | inr gone ↦ no_both (contains_key lost (name_of (Log n))) present gone.0
]

pub cut_directory : CutLaw
cut_directory order facts d lost c k h =
    let left = cut_logs facts d lost d.logs h c.live c.logs in (
      left.cuts,
      left.are,
      record {
        manifest = keep_manifest order facts.files lost d.manifest d.edits d.layout (read_same facts d lost (name_of Current) h (inl refl) k.current) (read_same facts d lost (name_of (Manifest d.manifest)) h (inr (inl refl)) k.manifest) c.manifest;
        tables = keep_tables order facts.files lost d.tables (tables_read facts d lost h k) c.tables;
        placed = c.placed;
        logs = left.there;
        live = cut_live facts d.layout d.logs left.cuts left.are c.live;
        rising = cut_rising facts 0 d.logs left.cuts left.are c.rising;
        all = λ n num live there. left.all n (c.all n num live (still_there facts d lost n h (n, num, live, refl) there)) there;
        apart = c.apart;
        newer = λ e f i j same. c.newer e f (cut_among facts d.logs left.cuts left.are e i) j same;
        sequences = cut_rise facts d.logs left.cuts left.are 0 c.sequences;
        recorded = c.recorded;
      },
    )
