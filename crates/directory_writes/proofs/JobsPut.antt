-- A directory with the outputs of a job instead of its inputs.
use Rattle.std.proofs.Common.{◌≡◌, ◌⊎◌, ◌+◌, ◌<◌, ℕ, Bool, false, IsTrue, List, [], ◌∷◌, ◌++◌, map, inl, inr, refl, sym, subst, arith}
use Rattle.std.proofs.lemmas.Bool.{cases_lt}
use Rattle.std.specs.Cmp.{IsTotalOrder}
use Rattle.std.specs.FinMap.{get}
use Rattle.std.specs.Option.{option_or}
use Rattle.edits.specs.declared.field.Field.{Field}
use Rattle.edits.specs.declared.field.Field.TheVariants.{NewFile}
use Rattle.edits.specs.declared.field.PlacedTable.{PlacedTable}
use Rattle.edits.specs.declared.names.FileName.{FileName}
use Rattle.edits.specs.declared.names.FileName.TheVariants.{Log, Manifest, Table, OldTable}
use Rattle.edits.specs.Layout.{is_used}
use Rattle.edits.specs.Names.{name_of, IsFileName, IsNumbered}
use Rattle.edits.proofs.FileNames.{one_file}
use Rattle.ikey.specs.declared.entry.Entry.{Entry}
use Rattle.ikey.specs.Entries.{InternalEntry, entry_of}
use Rattle.ikey.specs.Orders.{Order}
use Rattle.ikey.specs.Sources.{SameEntries}
use Rattle.ikey.specs.Views.{Among, Contents, IsView}
use Rattle.store.specs.Files.{Files}
use Rattle.table.specs.Writing.{KeepsOthers}
use Rattle.recover.specs.Tables.{TableContent, HasTable, InTables, table_at, tabled}
use Rattle.recover.specs.Logs.{logged}
use Rattle.recover.specs.Directory.{Directory, IsConsistent, entries_in}
use Rattle.recover.specs.internal.Changes.{AgreeBeside, AreClosedInputs, compacted}
use Rattle.recover.specs.Replacing.{AreParted}
use Rattle.recover.proofs.Adding.{among_split}
use Rattle.recover.proofs.Keeping.{keep_tables}
use Rattle.recover.proofs.Memberships.{from_tabled, among_chosen, among_front, among_back, from_chosen, from_rest, one_of_tables}
use Rattle.recover.proofs.Compacting.{compact}
use Rattle.recover.proofs.Closed.{all_lower, no_same, closed}
use Rattle.compact.specs.JobEdits.{IsOwnIn}
use Rattle.compact.specs.Laws.{AreNewerOrDeep, SeesAsOne}
use Rattle.compact.specs.Outputs.{TablesWritten, IsOwn}
use Rattle.compact.proofs.Keeping.{keeps_views, views_are_of_sets}
use Rattle.directory_writes.specs.internal.Compactions.{IsUnused, UnusedLaw, JobPutLaw}

-- ---- numbers that are the job's

unused_field : (w : TablesWritten) (f : Field) (tables : List PlacedTable) → ((number : ℕ) → IsOwn w number → is_used number tables ≡ false) → IsOwnIn w f → IsUnused tables f
unused_field w (NewFile placed) tables h own = h placed.table.number own
unused_field w f tables h own = tt

pub unused_by : UnusedLaw
unused_by w [] tables own h = tt
unused_by w (f ∷ edit) tables own h = (unused_field w f tables h own.0, unused_by w edit tables own.1 h)

-- ---- what stays beside the MANIFEST

module _ (order : Order) (old new : Files) (number : ℕ) (numbered : IsNumbered number) (others : KeepsOthers old new (name_of (Manifest number))) where
  other_file : (file : FileName) → IsFileName file → (file ≡ Manifest number → ⊥) → get new (name_of file) ≡ get old (name_of file)
  other_file file is apart = others (name_of file) (λ e. apart (one_file file (Manifest number) is numbered e))

  pub same_table : (n : ℕ) → IsNumbered n → table_at new n ≡ table_at old n
  same_table n is =
      let newer : get new (name_of (Table n)) ≡ get old (name_of (Table n)) = other_file (Table n) is (λ e. cc) in
      let older : get new (name_of (OldTable n)) ≡ get old (name_of (OldTable n)) = other_file (OldTable n) is (λ e. cc) in
      λ i. option_or (newer i) (older i)

  pub agree : (d : Directory) → IsConsistent order old d → AgreeBeside old new d
  agree d h = record {
    logs = λ n is live. other_file (Log n) is (λ e. cc);
    tables = λ content i. same_table content.placed.table.number (one_of_tables order old d.tables content h.tables i).numbered;
  }

  pub still_there : (content : TableContent) → HasTable order old content → HasTable order new content
  still_there content has =
      let P : TableContent → Type 0 = λ t. table_at new t.placed.table.number ≡ table_at old t.placed.table.number in
      (keep_tables order old new (content ∷ []) (λ other i. elim i [ inl e ↦ subst P (sym e) (same_table content.placed.table.number has.numbered) | inr none ↦ absurd none ]) (has, tt)).0

-- ---- views

front_along : (xs ys others : List Entry) → ((e : Entry) → Among xs e → Among ys e) → (e : Entry) → Among (xs ++ others) e → Among (ys ++ others) e
front_along xs ys others h e i = elim (among_split xs others e i) [
  | inl j ↦ among_front ys others e (h e j)
  | inr j ↦ among_back ys others e j
]

seen_alike : (deep : List ℕ → Bool) (snapshots : List ℕ) (merged inputs outputs others before after : List Entry) (p : ℕ) (map : Contents)
    → ((sequences : List ℕ) (map : Contents) → AreNewerOrDeep merged others deep → SeesAsOne merged sequences p → sequences ≡ snapshots → IsView (merged ++ others) p map → IsView (outputs ++ others) p map)
    → SameEntries merged inputs → SameEntries before (inputs ++ others) → SameEntries after (outputs ++ others)
    → AreNewerOrDeep inputs others deep → SeesAsOne inputs snapshots p → IsView before p map → IsView after p map
seen_alike deep snapshots merged inputs outputs others before after p map keeps same was is apart sees view =
    let all : IsView (inputs ++ others) p map = views_are_of_sets before (inputs ++ others) p map (λ e. (was e).0) (λ e. (was e).1) view in
    let came : IsView (merged ++ others) p map =
    views_are_of_sets (inputs ++ others) (merged ++ others) p map (front_along inputs merged others (λ e. (same e).1)) (front_along merged inputs others (λ e. (same e).0)) all in
    let kept : IsView (outputs ++ others) p map =
    keeps snapshots map (λ entry other i j key. apart entry other ((same entry).0 i) j key) (sees.0, sees.1, sees.2, λ entry i le. sees.3 entry ((same entry).0 i) le) refl came in
    views_are_of_sets (outputs ++ others) after p map (λ e. (is e).1) (λ e. (is e).0) kept

pub job_put : JobPutLaw
job_put order deep level snapshots old new came edit d next inputs rest outputs contents h put all_came has others =
    let numbered : IsNumbered d.manifest = h.manifest.numbered in
    let edits = d.edits ++ edit ∷ [] in
    let c = put.compaction next has.spelled.folded in
    let law = compact order old new d edits next inputs rest outputs contents level h has (agree order old new d.manifest numbered others d h)
    (λ output i. still_there order old new d.manifest numbered others output (put.has output i)) c in (
      law.0,
      law.3,
      λ apart p map sees view.
          seen_alike deep snapshots (map_of came) (tabled inputs) (tabled outputs) (tabled rest ++ logged d.logs) (entries_in d) (entries_in (compacted d edits next contents)) p map
          (λ sequences other a s same v. keeps_views (map_of came) (tabled outputs) (tabled rest ++ logged d.logs) snapshots deep p other put.needed a (subst (λ (xs : List ℕ). SeesAsOne (map_of came) xs p) same s) v)
          all_came law.1 law.2 apart sees view,
    )
  where
    map_of : List InternalEntry → List Entry
    map_of entries = map entry_of entries

-- ---- what lies beside the inputs

module _ (order : Order) (files : Files) (d : Directory) (inputs rest : List TableContent) (level : ℕ) (deep : List ℕ → Bool) (o : IsTotalOrder order.cmp)
    (h : IsConsistent order files d) (parted : AreParted d.tables inputs rest) (c : AreClosedInputs order inputs rest level)
    (covered : (stays : TableContent) (entry : Entry) → InTables rest stays → level + 1 < stays.placed.level → Among stays.entries entry → IsTrue (deep entry.key)) where
  has : (t : TableContent) → InTables d.tables t → HasTable order files t
  has t i = one_of_tables order files d.tables t h.tables i

  beside : (stays input : TableContent) (entry other : Entry) → InTables rest stays → InTables inputs input → Among input.entries entry → Among stays.entries other → other.key ≡ entry.key → stays.placed.level ≡ level + 1 → ⊥
  beside stays input entry other i j p q same at =
      let here = has stays (from_rest d.tables inputs rest stays parted i) in
      let there = has input (from_chosen d.tables inputs rest input parted j) in
      elim (c.next stays i at) [
        | inl low ↦ no_same order other entry o (all_lower order files stays input other entry o here there (low input j) q p) same
        | inr high ↦ no_same order entry other o (all_lower order files input stays entry other o there here (high input j) p q) (sym same)
      ]

  two_tables : (stays input : TableContent) (entry other : Entry) → InTables rest stays → InTables inputs input → Among input.entries entry → Among stays.entries other → other.key ≡ entry.key
      → (entry.sequence < other.sequence) ⊎ IsTrue (deep entry.key)
  two_tables stays input entry other i j p q same =
      let may = closed order files d inputs rest level o h parted c in
      elim (cases_lt stays.placed.level (level + 1)) [
        | inl above ↦ inl (may.newer stays input i j above other entry q p same)
        | inr le ↦ elim (cases_lt (level + 1) stays.placed.level) [
          | inl below ↦ let P : List ℕ → Type 0 = λ k. IsTrue (deep k) in inr (subst P same (covered stays other i below q))
          | inr ge ↦ absurd (beside stays input entry other i j p q same (omega (arith, le, ge)))
        ]
      ]

  pub job_apart : AreNewerOrDeep (tabled inputs) (tabled rest ++ logged d.logs) deep
  job_apart entry other i j same =
      let input = from_tabled inputs entry i in
      elim (among_split (tabled rest) (logged d.logs) other j) [
        | inl k ↦ let stays = from_tabled rest other k in two_tables stays.0 input.0 entry other stays.1 input.1 input.2 stays.2 same
        | inr k ↦ inl (h.newer other entry k (among_chosen d.tables inputs rest entry parted i) same)
      ]
