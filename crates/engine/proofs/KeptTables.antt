-- What losses tell of tables: one that is read, and that wasn't there before all of them, is synced
-- whole, as a loss would cut it else.
use Rattle.std.proofs.Common.{◌≡◌, ◌≢◌, ◌⊎◌, ◌<◌, ◌≤◌, ◌+◌, ◌++◌, ◌∷◌, ℕ, List, [], Contains, length, Option, Some, None, is_some, inl, inr, refl, sym, ap, subst, ◌∙◌, append-nil, arith}
use Rattle.std.proofs.lemmas.Bool.{cases_eq, cases_lt}
use Rattle.std.proofs.lemmas.List.{length-append}
use Rattle.std.specs.FinMap.{get}
use Rattle.std.specs.Option.{option_or}
use Rattle.directory_writes.proofs.JobTables.{contains_among, content_at}
use Rattle.directory_writes.specs.Replacing.{placed_in}
use Rattle.edits.specs.Names.{name_of, IsFileName, IsNumbered}
use Rattle.edits.specs.declared.field.PlacedTable.{PlacedTable}
use Rattle.edits.specs.declared.layout.Layout.{Layout}
use Rattle.edits.specs.declared.names.FileName.{FileName}
use Rattle.edits.specs.declared.names.FileName.TheVariants.{Current, Log, Manifest, OldTable, Table}
use Rattle.ikey.specs.Orders.{Order}
use Rattle.ikey.specs.declared.entry.Entry.{Entry}
use Rattle.machine.specs.Machine.{Machine}
use Rattle.opening.proofs.LosingEdits.{same_or_not}
use Rattle.opening.proofs.Reopening.{files_apart}
use Rattle.opening.proofs.Spared.{ReadsLeft}
use Rattle.opening.specs.Losses.{IsKept, IsLeftWhole, IsLogIn, IsReadIn, IsTableKept}
use Rattle.recover.proofs.Adding.{table_of}
use Rattle.recover.proofs.Memberships.{one_of_tables}
use Rattle.recover.proofs.OneMeaning.{same_content, same_manifest}
use Rattle.recover.specs.Directory.{Directory, HasManifest, IsConsistent}
use Rattle.recover.specs.Logs.{IsLive}
use Rattle.recover.specs.Tables.{InTables, IsTableFile, TableContent, table_at}
use Rattle.store.specs.Files.{Facts, Files}
use Rattle.store.specs.Losses.{BeginsWith, LosesOnly, Lost, SyncsBeginnings}
use Rattle.store.specs.Past.{with_file}
use Rattle.store.specs.Stops.{moment}
use Rattle.table.proofs.Footers.{length-footer}
use Rattle.engine.proofs.LosingFirst.{left_on}
use Rattle.engine.proofs.LostEarlier.{left_whole, lost_each, with_file_other, with_file_same}
use Rattle.engine.proofs.Reading.{has_placed}
use Rattle.engine.proofs.ReopeningSteps.{whole_spares}
use Rattle.engine.specs.Losses.{HoldsFirst, SparesBelow}
use Rattle.engine.specs.LosesRun.{IsNameOf, SparesUnread}
use Rattle.engine.specs.Reopening.{LeavesFirst, StayBelow, StaysFound}

-- ---- a file is cut

-- to a beginning of it that has what is synced
lost_cut : (now : Facts) (name bytes cut : List ℕ) → SyncsBeginnings now → get now.files name ≡ Some bytes → BeginsWith bytes cut → ((synced : List ℕ) → now.synced name ≡ Some synced → BeginsWith cut synced)
    → Lost now (moment now) (with_file now.files name (Some cut))
lost_cut now name bytes cut sound there front has = lost_each now lost each
  where
    lost : Files
    lost = with_file now.files name (Some cut)

    here : get lost name ≡ Some cut
    here = with_file_same now.files name (Some cut)

    itself : (held : List ℕ) → get lost name ≡ Some held → cut ≡ held
    itself held is = same_content lost name cut held here is

    left : ReadsLeft now lost name
    left = record {
      name = ap is_some here ∙ sym (ap is_some there);
      begun = record {
        beginning = λ held is. (bytes, there, subst (λ (b : List ℕ). BeginsWith bytes b) (itself held is) front);
        kept = λ held synced is kept. subst (λ (b : List ℕ). BeginsWith b synced) (itself held is) (has synced kept);
      };
    }

    each : (q : List ℕ) → ReadsLeft now lost q
    each q = elim (same_or_not q name) [
      | inl is ↦ subst (λ (n : List ℕ). ReadsLeft now lost n) (sym is) left
      | inr apart ↦ left_whole now lost q (with_file_other now.files name (Some cut) q apart) (sound q)
    ]

-- no table is an empty file
no_table : (order : Order) (bytes : List ℕ) (entries : List Entry) → IsTableFile order bytes entries → length bytes ≡ 0 → ⊥
no_table order bytes entries h none =
    let footer = h.1.1.footer in
    let whole : length bytes ≡ length footer.body + length footer.footer = ap length footer.parts ∙ length-append footer.body footer.footer in
    let is : length footer.footer ≡ 48 = length-footer footer.footer h.1.1.metaindex h.1.1.index footer.footer_is in
    absurd (omega (arith, whole, is, none))

no_rest : (rest : List ℕ) → length rest ≡ 0 → rest ≡ []
no_rest [] e = refl
no_rest (x ∷ rest) e = absurd (omega (arith, e))

-- a beginning as long as all is all
all_of : (bytes front : List ℕ) → BeginsWith bytes front → length front ≡ length bytes → front ≡ bytes
all_of bytes front h same =
    let sum : length bytes ≡ length front + length h.0 = ap length h.1 ∙ length-append front h.0 in
    let none : h.0 ≡ [] = no_rest h.0 (omega (arith, sum, same)) in
    sym (h.1 ∙ ap (λ (rest : List ℕ). front ++ rest) none ∙ append-nil front)

-- ---- names

-- it is no table and no log with a number below this one, neither `CURRENT` nor a MANIFEST
record IsApart (bound : ℕ) (file : FileName) : Type 0 where
  named : IsFileName file
  table : (k : ℕ) → k < bound → Table k ≢ file
  older : (k : ℕ) → k < bound → OldTable k ≢ file
  log : (k : ℕ) → Log k ≢ file
  current : Current ≢ file
  manifest : (k : ℕ) → Manifest k ≢ file

number_of_table : {a b : ℕ} → Table a ≡ Table b → a ≡ b
number_of_table e = cc

number_of_older : {a b : ℕ} → OldTable a ≡ OldTable b → a ≡ b
number_of_older e = cc

number_of_log : {a b : ℕ} → Log a ≡ Log b → a ≡ b
number_of_log e = cc

table_apart : (bound n : ℕ) → IsNumbered n → bound ≤ n → IsApart bound (Table n)
table_apart bound n num from = record {
  named = num;
  table = λ k below e. (let same = number_of_table e in omega (arith, below, from, same));
  older = λ k below e. cc;
  log = λ k e. cc;
  current = λ e. cc;
  manifest = λ k e. cc;
}

older_apart : (bound n : ℕ) → IsNumbered n → bound ≤ n → IsApart bound (OldTable n)
older_apart bound n num from = record {
  named = num;
  table = λ k below e. cc;
  older = λ k below e. (let same = number_of_older e in omega (arith, below, from, same));
  log = λ k e. cc;
  current = λ e. cc;
  manifest = λ k e. cc;
}

-- where all other files are as they are, those are spared that were there before
spares_other : (since now : Facts) (bound : ℕ) (file : FileName) (lost : Files) → StayBelow since now bound → IsApart bound file → ((q : List ℕ) → q ≢ name_of file → get lost q ≡ get now.files q) → SparesBelow since bound lost
spares_other since now bound file lost stays apart others n num below =
    let spares = whole_spares since now bound stays n num below in (
      at (name_of (Table n)) (files_apart (Table n) file num apart.named (apart.table n below)) spares.0,
      at (name_of (OldTable n)) (files_apart (OldTable n) file num apart.named (apart.older n below)) spares.1,
      at (name_of (Log n)) (files_apart (Log n) file num apart.named (apart.log n)) spares.2,
    )
  where
    at : (q : List ℕ) → q ≢ name_of file → IsLeftWhole since now.files q → IsLeftWhole since lost q
    at q other (inl kept) = inl kept
    at q other (inr left) = inr (λ bytes there. elim (left bytes there) [ inl gone ↦ inl (others q other ∙ gone) | inr whole ↦ inr (others q other ∙ whole) ])

-- ---- a table that was cut

-- What holds a prefix of the batches, and has the same MANIFEST, has each of its tables with its
-- size.
sized : (order : Order) (now : Files) (d : Directory) (m : Machine) (lost : Files) → IsConsistent order now d → HoldsFirst order lost m → get lost (name_of Current) ≡ get now (name_of Current) → get lost (name_of (Manifest d.manifest)) ≡ get now (name_of (Manifest d.manifest))
    → (content : TableContent) → InTables d.tables content → (bytes : List ℕ) × (table_at lost content.placed.table.number ≡ Some bytes) × (length bytes ≡ content.placed.table.size)
sized order now d m lost good h current manifest content among = elim h.holds.directory [
  | inl none ↦ absurd (let bad : None ≡ Some _ = sym none.0.current ∙ current ∙ good.manifest.current in cc)
  | inr some ↦
      let e = some.0 in
      let has : HasManifest order lost d.manifest d.edits d.layout = record {
        numbered = good.manifest.numbered;
        current = current ∙ good.manifest.current;
        bytes = good.manifest.bytes;
        there = manifest ∙ good.manifest.there;
        spelled = good.manifest.spelled;
      } in
      let one = same_manifest order lost d.manifest e.manifest d.edits e.edits d.layout e.layout has some.1.manifest in
      let placed : placed_in d.tables ≡ placed_in e.tables = good.placed ∙ one.2.tables ∙ sym some.1.placed in
      let listed = subst (λ (ps : List PlacedTable). Contains ps content.placed) placed (has_placed d.tables content among) in
      let found = content_at e.tables content.placed (contains_among (placed_in e.tables) content.placed listed) in
      let table = one_of_tables order lost e.tables found.0 some.1.tables found.1 in
      let P : PlacedTable → Type 0 = λ p. (table_at lost p.table.number ≡ Some table.bytes) × (length table.bytes ≡ p.table.size) in
      let is = subst P found.2 (table.there, table.size) in
      (table.bytes, is.0, is.1)
]

module _ (order : Order) (since now : Facts) (bound : ℕ) (m : Machine) (d : Directory) (sound : SyncsBeginnings now) (stays : StaysFound since now bound) (here : LosesOnly now now (LeavesFirst order since bound m)) (good : IsConsistent order now.files d)
    (content : TableContent) (among : InTables d.tables content) where
  abbrev number : ℕ
  number = content.placed.table.number

  -- the bytes to which it is cut are no fewer
  no_shorter : (file : FileName) → IsApart bound file → (bytes cut : List ℕ) → get now.files (name_of file) ≡ Some bytes → BeginsWith bytes cut → ((synced : List ℕ) → now.synced (name_of file) ≡ Some synced → BeginsWith cut synced)
      → table_at (with_file now.files (name_of file) (Some cut)) number ≡ Some cut → length cut ≡ content.placed.table.size
  no_shorter file apart bytes cut there front has read =
      let lost = with_file now.files (name_of file) (Some cut) in
      let others : (q : List ℕ) → q ≢ name_of file → get lost q ≡ get now.files q = λ q other. with_file_other now.files (name_of file) (Some cut) q other in
      let first = here lost (lost_cut now (name_of file) bytes cut sound there front has) (spares_other since now bound file lost stays.each apart others) in
      let current = others (name_of Current) (files_apart Current file tt apart.named apart.current) in
      let manifest = others (name_of (Manifest d.manifest)) (files_apart (Manifest d.manifest) file good.manifest.numbered apart.named (apart.manifest d.manifest)) in
      let is = sized order now.files d m lost good first current manifest content among in
      let same : cut ≡ is.0 = (let both : Some cut ≡ Some is.0 = sym read ∙ is.1 in cc) in
      ap length same ∙ is.2

  -- so what is synced of it is all
  whole_synced : (file : FileName) → IsApart bound file → (bytes : List ℕ) → get now.files (name_of file) ≡ Some bytes → table_at now.files number ≡ Some bytes
      → ((cut : List ℕ) → table_at (with_file now.files (name_of file) (Some cut)) number ≡ Some cut) → now.synced (name_of file) ≡ Some bytes
  whole_synced file apart bytes there at reads = with_synced (now.synced (name_of file)) refl
    where
      table : length bytes ≡ content.placed.table.size
      table =
          let has = one_of_tables order now.files d.tables content good.tables among in
          let same : has.bytes ≡ bytes = (let both : Some has.bytes ≡ Some bytes = sym has.there ∙ at in cc) in
          sym (ap length same) ∙ has.size

      some : length bytes ≡ 0 → ⊥
      some none =
          let has = one_of_tables order now.files d.tables content good.tables among in
          let same : has.bytes ≡ bytes = (let both : Some has.bytes ≡ Some bytes = sym has.there ∙ at in cc) in
          no_table order has.bytes content.entries has.spelled (ap length same ∙ none)

      with_synced : (o : Option (List ℕ)) → now.synced (name_of file) ≡ o → now.synced (name_of file) ≡ Some bytes
      with_synced None none =
          let short = no_shorter file apart bytes [] there (bytes, refl) (λ synced is. absurd (let bad : None ≡ Some synced = sym none ∙ is in cc)) (reads []) in
          absurd (some (table ∙ sym short))
      with_synced (Some cut) is =
          let front : BeginsWith bytes cut = sound (name_of file) bytes cut there is in
          let short = no_shorter file apart bytes cut there front (λ synced also. (let same : cut ≡ synced = (let both : Some cut ≡ Some synced = sym is ∙ also in cc) in ([], same ∙ sym (append-nil synced)))) (reads cut) in
          is ∙ ap Some (all_of bytes cut front (short ∙ sym table))

-- Each table of the directory is synced whole, but those that were there before.
pub tables_kept : (order : Order) (since now : Facts) (bound : ℕ) (m : Machine) (d : Directory) → SyncsBeginnings now → StaysFound since now bound → LosesOnly now now (LeavesFirst order since bound m) → IsConsistent order now.files d
    → (content : TableContent) → InTables d.tables content → bound ≤ content.placed.table.number → IsTableKept now content.placed.table.number
tables_kept order since now bound m d sound stays here good content among from = (
  λ bytes there.
      whole_synced order since now bound m d sound stays here good content among (Table n) (table_apart bound n num from) bytes there
      (ap (λ (o : Option (List ℕ)). option_or o (get now.files (name_of (OldTable n)))) there)
      (λ cut. ap (λ (o : Option (List ℕ)). option_or o (get (with_file now.files (name_of (Table n)) (Some cut)) (name_of (OldTable n)))) (with_file_same now.files (name_of (Table n)) (Some cut))),
  λ none bytes there.
      whole_synced order since now bound m d sound stays here good content among (OldTable n) (older_apart bound n num from) bytes there
      (λ i. option_or (none i) (there i))
      (λ cut.
      let gone : get (with_file now.files (name_of (OldTable n)) (Some cut)) (name_of (Table n)) ≡ None =
      with_file_other now.files (name_of (OldTable n)) (Some cut) (name_of (Table n)) (files_apart (Table n) (OldTable n) num num (λ e. cc)) ∙ none in
      let is : get (with_file now.files (name_of (OldTable n)) (Some cut)) (name_of (OldTable n)) ≡ Some cut = with_file_same now.files (name_of (OldTable n)) (Some cut) in
      λ i. option_or (gone i) (is i)),
)
  where
    n : ℕ
    n = content.placed.table.number

    num : IsNumbered n
    num = table_of order now.files d.tables content good.tables among

-- ---- what an open leaves

-- a table of this number is listed, or none is
listed_or_not : (contents : List TableContent) (n : ℕ) → ((content : TableContent) × InTables contents content × (content.placed.table.number ≡ n)) ⊎ ((content : TableContent) → InTables contents content → content.placed.table.number ≡ n → ⊥)
listed_or_not [] n = inr (λ content among is. among)
listed_or_not (first ∷ contents) n = elim (cases_eq first.placed.table.number n) [
  | inl is ↦ inl (first, inl refl, is)
  | inr other ↦ elim (listed_or_not contents n) [
    | inl some ↦ inl (some.0, inr some.1, some.2)
    | inr none ↦ inr (λ content among is. elim among [ inl same ↦ other (ap (λ (c : TableContent). c.placed.table.number) (sym same) ∙ is) | inr rest ↦ none content rest is ])
  ]
]

live_or_not : (layout : Layout) (n : ℕ) → IsNumbered n → IsLive layout n ⊎ (IsLive layout n → ⊥)
live_or_not layout n num = elim (cases_lt n layout.log_number) [
  | inl below ↦ elim (cases_eq n layout.previous_log_number) [
    | inl is ↦ inl (inr (is, num.0))
    | inr other ↦ inr (λ live. elim live [ inl least ↦ absurd (omega (arith, below, least)) | inr is ↦ other is.0 ])
  ]
  | inr from ↦ inl (inl (omega (arith, from)))
]

there_or_not : (o : Option (List ℕ)) → (o ≡ None) ⊎ (o ≡ None → ⊥)
there_or_not None = inl refl
there_or_not (Some bytes) = inr (λ none. absurd (cc))

-- Of the files below its MANIFEST's number each is spared: of those that the directory reads a
-- table was spared before, or is synced whole, and so are its logs.
module _ (order : Order) (since now : Facts) (bound : ℕ) (m : Machine) (d : Directory) (sound : SyncsBeginnings now) (stays : StaysFound since now bound) (here : LosesOnly now now (LeavesFirst order since bound m)) (good : IsConsistent order now.files d)
    (logs : (n : ℕ) → IsNumbered n → n < d.manifest → IsLive d.layout n → IsKept now (name_of (Log n))) (lost : Files) (spares : SparesBelow since bound lost) (unread : SparesUnread order now lost) (n : ℕ) (num : IsNumbered n) (below : n < d.manifest) where
  -- a file of this number isn't read
  not_read : (file : FileName) → IsFileName file → IsNameOf n (name_of file) → file ≢ Current → (file ≢ Manifest d.manifest)
      → ((content : TableContent) → InTables d.tables content → file ≢ Table content.placed.table.number)
      → ((content : TableContent) → InTables d.tables content → get now.files (name_of (Table content.placed.table.number)) ≡ None → file ≢ OldTable content.placed.table.number)
      → ((k : ℕ) → IsLive d.layout k → file ≢ Log k) → IsLeftWhole now lost (name_of file)
  not_read file named is current manifest newer older log = unread d good n num below (name_of file) is at
    where
      at : IsReadIn now.files d (name_of file) ⊎ IsLogIn d (name_of file) → ⊥
      at (inl (inl same)) = files_apart file Current named tt current same
      at (inl (inr (inl same))) = files_apart file (Manifest d.manifest) named good.manifest.numbered manifest same
      at (inl (inr (inr (content, among, inl same)))) = files_apart file (Table content.placed.table.number) named (table_of order now.files d.tables content good.tables among) (newer content among) same
      at (inl (inr (inr (content, among, inr same)))) = files_apart file (OldTable content.placed.table.number) named (table_of order now.files d.tables content good.tables among) (older content among same.1) same.0
      at (inr some) = files_apart file (Log some.0) named some.1 (log some.0 some.2) some.3

  -- what was spared before is so
  spared_still : n < bound → IsLeftWhole now lost (name_of (Table n)) × IsLeftWhole now lost (name_of (OldTable n))
  spared_still less =
      let stay = stays.each n num less in
      let was = spares n num less in
      (left_on since now lost (name_of (Table n)) stay.0 was.0, left_on since now lost (name_of (OldTable n)) stay.1 was.1)

  kept_here : (content : TableContent) → InTables d.tables content → content.placed.table.number ≡ n → bound ≤ n → IsTableKept now n
  kept_here content among is from =
      subst (λ (k : ℕ). IsTableKept now k) is (tables_kept order since now bound m d sound stays here good content among (omega (arith, from, is)))

  spared_table : IsLeftWhole now lost (name_of (Table n))
  spared_table = elim (listed_or_not d.tables n) [
    | inl some ↦ elim (cases_lt n bound) [
      | inl less ↦ (spared_still less).0
      | inr from ↦ inl (kept_here some.0 some.1 some.2 (omega (arith, from))).0
    ]
    | inr none ↦ not_read (Table n) num (inl refl) (λ e. cc) (λ e. cc) (λ content among e. none content among (sym (number_of_table e))) (λ content among gone e. cc) (λ k live e. cc)
  ]

  spared_older : IsLeftWhole now lost (name_of (OldTable n))
  spared_older = elim (listed_or_not d.tables n) [
    | inl some ↦ elim (cases_lt n bound) [
      | inl less ↦ (spared_still less).1
      | inr from ↦ elim (there_or_not (get now.files (name_of (Table n)))) [
        | inl gone ↦ inl ((kept_here some.0 some.1 some.2 (omega (arith, from))).1 gone)
        | inr there ↦
            not_read (OldTable n) num (inr (inl refl)) (λ e. cc) (λ e. cc) (λ content among e. cc)
            (λ content among gone e. there (subst (λ (k : ℕ). get now.files (name_of (Table k)) ≡ None) (sym (number_of_older e)) gone)) (λ k live e. cc)
      ]
    ]
    | inr none ↦ not_read (OldTable n) num (inr (inl refl)) (λ e. cc) (λ e. cc) (λ content among e. cc) (λ content among gone e. none content among (sym (number_of_older e))) (λ k live e. cc)
  ]

  spared_log : IsLeftWhole now lost (name_of (Log n))
  spared_log = elim (live_or_not d.layout n num) [
    | inl live ↦ inl (logs n num below live)
    | inr dead ↦
        not_read (Log n) num (inr (inr refl)) (λ e. cc) (λ e. cc) (λ content among e. cc) (λ content among gone e. cc)
        (λ k live e. dead (subst (λ (j : ℕ). IsLive d.layout j) (sym (number_of_log e)) live))
  ]

  spared_each : IsLeftWhole now lost (name_of (Table n)) × IsLeftWhole now lost (name_of (OldTable n)) × IsLeftWhole now lost (name_of (Log n))
  spared_each = (spared_table, spared_older, spared_log)

pub spared_open : (order : Order) (since now : Facts) (bound : ℕ) (m : Machine) (d : Directory) → SyncsBeginnings now → StaysFound since now bound → LosesOnly now now (LeavesFirst order since bound m) → IsConsistent order now.files d
    → ((n : ℕ) → IsNumbered n → n < d.manifest → IsLive d.layout n → IsKept now (name_of (Log n))) → (lost : Files) → SparesBelow since bound lost → SparesUnread order now lost → SparesBelow now d.manifest lost
spared_open order since now bound m d sound stays here good logs lost spares unread n num below = spared_each order since now bound m d sound stays here good logs lost spares unread n num below
