-- Where the tables of a directory come from after an open, and after the lock's file.
use Rattle.std.proofs.Common.{◌≡◌, ◌⊎◌, ◌++◌, ℕ, Bool, true, false, List, [], ◌∷◌, Contains, length, Option, Some, None, is_some, inl, inr, refl, sym, ap, subst, ◌∙◌, arith}
use Rattle.std.proofs.lemmas.Bool.{cases_eq}
use Rattle.std.specs.FinMap.{get, insert}
use Rattle.std.specs.Option.{option_or, unwrap_or}
use Rattle.db_cursor.proofs.Origins.{origin_left, origin_stays, origin_written, same_origin}
use Rattle.db_cursor.specs.Origins.{HasOrigin}
use Rattle.directory_writes.proofs.JobTables.{contains_among, content_at}
use Rattle.directory_writes.proofs.SameChanges.{differs_after, each_file, one_change, same_change}
use Rattle.directory_writes.proofs.TableFiles.{one_name}
use Rattle.directory_writes.specs.Differing.{DiffersInTables, IsSameChange, OfEach}
use Rattle.directory_writes.specs.Replacing.{placed_in}
use Rattle.edits.specs.Names.{name_of, IsNumbered}
use Rattle.edits.specs.declared.field.PlacedTable.{PlacedTable}
use Rattle.edits.specs.declared.names.FileName.TheVariants.{Current, Log, Manifest, OldTable, Table}
use Rattle.ikey.specs.Orders.{Order}
use Rattle.ikey.specs.declared.entry.Entry.{Entry}
use Rattle.opening.proofs.Reopening.{files_apart}
use Rattle.opening.specs.internal.Directories.{IsDirectoryOf}
use Rattle.opening.specs.internal.Opening.{IsContinued}
use Rattle.recover.proofs.Adding.{table_of}
use Rattle.recover.proofs.Keeping.{free_change}
use Rattle.recover.proofs.Memberships.{one_of_tables}
use Rattle.recover.proofs.NameScan.{in_none}
use Rattle.recover.proofs.NamedFiles.{get_other, get_same}
use Rattle.recover.proofs.OneMeaning.{same_directory}
use Rattle.recover.specs.Directory.{Directory, IsConsistent, used_in}
use Rattle.recover.specs.Logs.{logged}
use Rattle.recover.specs.Tables.{HasTable, InTables, TableContent, table_at}
use Rattle.recover.specs.internal.Laws.{Agree}
use Rattle.store.specs.Files.{Files}
use Rattle.engine.specs.Origins.{ComesFrom}

-- ---- files under the two names of a table

at_newer : (files : Files) (n : ℕ) (file : List ℕ) → get files (name_of (Table n)) ≡ Some file → table_at files n ≡ Some file
at_newer files n file is = ap (λ (o : Option (List ℕ)). option_or o (get files (name_of (OldTable n)))) is

at_older : (files : Files) (n : ℕ) → get files (name_of (Table n)) ≡ None → table_at files n ≡ get files (name_of (OldTable n))
at_older files n none = ap (λ (o : Option (List ℕ)). option_or o (get files (name_of (OldTable n)))) none

some_too : (o p : Option (List ℕ)) (x : List ℕ) → is_some o ≡ is_some p → o ≡ Some x → (y : List ℕ) × (p ≡ Some y)
some_too o (Some y) x both is = (y, refl)
some_too o None x both is = absurd (let clash : true ≡ false = sym (ap is_some is) ∙ both in cc)

none_too : (o p : Option (List ℕ)) → is_some o ≡ is_some p → o ≡ None → p ≡ None
none_too o None both is = refl
none_too o (Some y) both is = absurd (let clash : false ≡ true = sym (ap is_some is) ∙ both in cc)

same_length : (a b : List ℕ) → Some a ≡ Some b → length a ≡ length b
same_length a b is = ap (λ (o : Option (List ℕ)). length (unwrap_or o [])) is

same_number : {a b : ℕ} → OldTable a ≡ OldTable b → a ≡ b
same_number e = cc

-- ---- a table that was read by its newer name isn't read by its older one after an open

-- No open leaves a table that is read by its newer name without that file. With other bytes under
-- its older name, the directory would still be there before, but not after it.
module _ (order : Order) (old new ideal : Files) (differs : DiffersInTables old ideal) (continued : OfEach (λ whole behind. IsContinued order whole behind) old new) (d : Directory) (good : IsConsistent order ideal d)
    (content : TableContent) (is : InTables d.tables content) where
  abbrev n : ℕ
  n = content.placed.table.number

  abbrev newer : List ℕ
  newer = name_of (Table n)

  abbrev older : List ℕ
  older = name_of (OldTable n)

  has : HasTable order ideal content
  has = one_of_tables order ideal d.tables content good.tables is

  module _ (x y z : List ℕ) (was : get old newer ≡ Some x) (read : get ideal newer ≡ Some y) (beside : get ideal older ≡ Some z) (gone : get new newer ≡ None) (kept : get new older ≡ get old older) where
    abbrev whole : Files
    whole = insert ideal older (0 ∷ y)

    differs_whole : DiffersInTables old whole
    differs_whole = record {
      names = λ q. elim (one_name q older) [
        | inl here ↦ subst (λ (name : List ℕ). is_some (get whole name) ≡ is_some (get old name)) (sym here) (ap is_some (get_same ideal older (0 ∷ y)) ∙ sym (ap is_some beside) ∙ differs.names older)
        | inr apart ↦ ap is_some (get_other ideal older (0 ∷ y) q apart) ∙ differs.names q
      ];
      others = λ q no. get_other ideal older (0 ∷ y) q (λ e. no (n, has.numbered, inr e)) ∙ differs.others q no;
    }

    table_kept : (m : ℕ) → IsNumbered m → (m ≡ n) ⊎ (m ≡ n → ⊥) → table_at whole m ≡ table_at ideal m
    table_kept m num (inl same) =
        let newer_same : get whole newer ≡ Some y = get_other ideal older (0 ∷ y) newer (files_apart (Table n) (OldTable n) has.numbered has.numbered (λ e. cc)) ∙ read in
        subst (λ (k : ℕ). table_at whole k ≡ table_at ideal k) (sym same) (at_newer whole n y newer_same ∙ sym (at_newer ideal n y read))
    table_kept m num (inr apart) =
        let one = get_other ideal older (0 ∷ y) (name_of (Table m)) (files_apart (Table m) (OldTable n) num has.numbered (λ e. cc)) in
        let other = get_other ideal older (0 ∷ y) (name_of (OldTable m)) (files_apart (OldTable m) (OldTable n) num has.numbered (λ e. apart (same_number e))) in
        λ i. option_or (one i) (other i)

    agree : Agree ideal whole d
    agree = record {
      current = get_other ideal older (0 ∷ y) (name_of Current) (files_apart Current (OldTable n) tt has.numbered (λ e. cc));
      manifest = get_other ideal older (0 ∷ y) (name_of (Manifest d.manifest)) (files_apart (Manifest d.manifest) (OldTable n) good.manifest.numbered has.numbered (λ e. cc));
      logs = λ k num live. get_other ideal older (0 ∷ y) (name_of (Log k)) (files_apart (Log k) (OldTable n) num has.numbered (λ e. cc));
      tables = λ other i. table_kept other.placed.table.number (table_of order ideal d.tables other good.tables i) (cases_eq other.placed.table.number n);
    }

    no_longer : (behind : Files) → IsSameChange old new whole behind → IsDirectoryOf order behind d.tables (logged d.logs) (used_in d) → ⊥
    no_longer behind change (inl none) = subst (λ (contents : List TableContent). InTables contents content) none.1 is
    no_longer behind change (inr there) =
        let still = one_of_tables order behind there.0.tables content there.1.tables (subst (λ (contents : List TableContent). InTables contents content) there.2 is) in
        let lost : get behind newer ≡ None = change.changes newer (λ same. (let clash : None ≡ Some x = sym gone ∙ same ∙ was in cc)) ∙ gone in
        let found : table_at behind n ≡ Some (0 ∷ y) = at_older behind n lost ∙ change.stays older kept ∙ get_same ideal older (0 ∷ y) in
        let long = same_length (0 ∷ y) still.bytes (sym found ∙ still.there) in
        let short = same_length y has.bytes (sym (at_newer ideal n y read) ∙ has.there) in
        let now = still.size in
        let before = has.size in
        omega (arith, long, short, now, before)

    never : ⊥
    never =
        let change = same_change old new whole differs_whole in
        no_longer change.0 change.1 ((continued whole change.0 differs_whole change.1).meaning d.tables (logged d.logs) (used_in d) (inr (d, free_change order ideal whole d agree good, refl, refl, refl)))

  -- where it is read after it
  pub stays_newer : (after : Files) → IsSameChange old new ideal after → (x bytes : List ℕ) → get old newer ≡ Some x → get new newer ≡ None → get new older ≡ get old older → table_at after n ≡ Some bytes → ⊥
  stays_newer after change x bytes was gone kept there =
      let lost : get after newer ≡ None = change.changes newer (λ same. (let clash : None ≡ Some x = sym gone ∙ same ∙ was in cc)) ∙ gone in
      let read = some_too (get old newer) (get ideal newer) x (sym (differs.names newer)) was in
      let found : get ideal older ≡ Some bytes = sym (change.stays older kept) ∙ sym (at_older after n lost) ∙ there in
      never x read.0 bytes was read.1 found gone kept

-- ---- each table comes from the same, or is the same in both

module _ (order : Order) (old new ideal after : Files) (differs : DiffersInTables old ideal) (change : IsSameChange old new ideal after) (placed : PlacedTable) (was : HasOrigin order.cmp old ideal placed)
    (bytes : List ℕ) (there : table_at after placed.table.number ≡ Some bytes)
    (never : (x : List ℕ) → get old (name_of (Table placed.table.number)) ≡ Some x → get new (name_of (Table placed.table.number)) ≡ None → get new (name_of (OldTable placed.table.number)) ≡ get old (name_of (OldTable placed.table.number)) → ⊥) where
  abbrev its_newer : List ℕ
  its_newer = name_of (Table placed.table.number)

  abbrev its_older : List ℕ
  its_older = name_of (OldTable placed.table.number)

  alike : table_at new placed.table.number ≡ table_at after placed.table.number → HasOrigin order.cmp new after placed
  alike same = (same_origin order.cmp placed bytes).1 new after (same ∙ there) there

  -- both are read by their older names, and are the same there
  older_alike : get after its_newer ≡ None → get new its_newer ≡ None → get after its_older ≡ get new its_older → HasOrigin order.cmp new after placed
  older_alike none gone same = alike (at_older new placed.table.number gone ∙ sym same ∙ sym (at_older after placed.table.number none))

  newer_stayed : (o : Option (List ℕ)) → get after its_newer ≡ o → get new its_newer ≡ get old its_newer → get after its_newer ≡ get ideal its_newer → get after its_older ≡ get new its_older → HasOrigin order.cmp new after placed
  newer_stayed (Some file) is kept ideal_kept same =
      let first : get ideal its_newer ≡ Some file = sym ideal_kept ∙ is in
      let second = some_too (get ideal its_newer) (get old its_newer) file (differs.names its_newer) first in
      origin_stays order.cmp old new ideal after placed
      (at_newer new placed.table.number second.0 (kept ∙ second.1) ∙ sym (at_newer old placed.table.number second.0 second.1))
      (at_newer after placed.table.number file is ∙ sym (at_newer ideal placed.table.number file first)) was
  newer_stayed None none kept ideal_kept same =
      older_alike none (kept ∙ none_too (get ideal its_newer) (get old its_newer) (differs.names its_newer) (sym ideal_kept ∙ none)) same

  gone_newer : (o : Option (List ℕ)) → get old its_newer ≡ o → get new its_newer ≡ None → get new its_older ≡ get old its_older → HasOrigin order.cmp new after placed
  gone_newer (Some x) is gone kept = absurd (never x is gone kept)
  gone_newer None is gone kept = origin_left order.cmp old new ideal after placed change.stays (gone ∙ sym is) kept was

  newer_changed : (o : Option (List ℕ)) → get after its_newer ≡ o → get after its_newer ≡ get new its_newer
      → ((get new its_older ≡ get old its_older) × (get after its_older ≡ get ideal its_older)) ⊎ (get after its_older ≡ get new its_older) → HasOrigin order.cmp new after placed
  newer_changed (Some file) is same other = origin_written order.cmp new after placed file (sym same ∙ is) same
  newer_changed None none same (inl stays) = gone_newer (get old its_newer) refl (sym same ∙ none) stays.0
  newer_changed None none same (inr other) = older_alike none (sym same ∙ none) other

  pub origin_behind : HasOrigin order.cmp new after placed
  origin_behind = elim (each_file old new ideal after change its_newer) [
    | inl stays ↦ elim (each_file old new ideal after change its_older) [
      | inl stays_too ↦ origin_left order.cmp old new ideal after placed change.stays stays.0 stays_too.0 was
      | inr same ↦ newer_stayed (get after its_newer) refl stays.0 stays.1 same
    ]
    | inr same ↦ newer_changed (get after its_newer) refl same (each_file old new ideal after change its_older)
  ]

-- ---- the whole directory

-- without damage both change alike
pub same_back : (old new ideal after : Files) → IsSameChange old new ideal after → ideal ≡ old → after ≡ new
same_back old new ideal after change whole =
    let other : IsSameChange old new old after = subst (λ (fs : Files). IsSameChange old new fs after) whole change in
    (one_change old new).2 old after new other (one_change old new).1

-- The same change to both: where each table that the directory then says comes from one of the
-- other, the files come from it.
pub comes_behind : (order : Order) (b : Bool) (old new ideal after : Files) (tables : List TableContent) (entries : List Entry) (used : ℕ) → ComesFrom order b old ideal → IsSameChange old new ideal after
    → IsDirectoryOf order after tables entries used → ((e : Directory) → IsConsistent order after e → tables ≡ e.tables → (placed : PlacedTable) → Contains (placed_in tables) placed → HasOrigin order.cmp new after placed)
    → ComesFrom order b new after
comes_behind order b old new ideal after tables entries used from change behind each = record {
  differs = differs_after old new ideal after from.differs change;
  origins = λ f good placed is. at f good placed is behind;
  undamaged = λ is. same_back old new ideal after change (from.undamaged is);
}
  where
    at : (f : Directory) → IsConsistent order after f → (placed : PlacedTable) → Contains f.layout.tables.items placed → IsDirectoryOf order after tables entries used → HasOrigin order.cmp new after placed
    at f good placed is (inl none) = absurd (let clash : None ≡ Some (name_of (Manifest f.manifest) ++ 10 ∷ []) = sym none.0.current ∙ good.manifest.current in cc)
    at f good placed is (inr there) =
        let same : f.layout.tables.items ≡ placed_in tables = sym good.placed ∙ ap placed_in ((same_directory order after f there.0 good there.1).3 ∙ sym there.2) in
        each there.0 there.1 there.2 placed (subst (λ (ps : List PlacedTable). Contains ps placed) same is)

-- a table that was there
record WasThere (order : Order) (old ideal : Files) (tables : List TableContent) (placed : PlacedTable) : Type 0 where
  d : Directory
  good : IsConsistent order ideal d
  content : TableContent
  among : InTables d.tables content
  named : content.placed ≡ placed
  numbered : IsNumbered placed.table.number
  origin : HasOrigin order.cmp old ideal placed

was_there : (order : Order) (b : Bool) (old ideal : Files) (tables : List TableContent) (entries : List Entry) (used : ℕ) → ComesFrom order b old ideal → IsDirectoryOf order ideal tables entries used
    → (placed : PlacedTable) → Contains (placed_in tables) placed → WasThere order old ideal tables placed
was_there order b old ideal tables entries used from (inl none) placed is = absurd (in_none placed (subst (λ (contents : List TableContent). Contains (placed_in contents) placed) none.1 is))
was_there order b old ideal tables entries used from (inr there) placed is =
    let d = there.0 in
    let listed = subst (λ (contents : List TableContent). Contains (placed_in contents) placed) there.2 is in
    let found = content_at d.tables placed (contains_among (placed_in d.tables) placed listed) in
    record {
      d = d;
      good = there.1;
      content = found.0;
      among = found.1;
      named = found.2;
      numbered = subst (λ (p : PlacedTable). IsNumbered p.table.number) found.2 (table_of order ideal d.tables found.0 there.1.tables found.1);
      origin = from.origins d there.1 placed (subst (λ (ps : List PlacedTable). Contains ps placed) there.1.placed listed);
    }

module _ (order : Order) (b : Bool) (old new ideal after : Files) (tables : List TableContent) (entries : List Entry) (used : ℕ) (from : ComesFrom order b old ideal) (change : IsSameChange old new ideal after)
    (before : IsDirectoryOf order ideal tables entries used) (behind : IsDirectoryOf order after tables entries used) where
  -- after an open that left the files of tables alone
  pub comes_open : ((n : ℕ) → IsNumbered n → (get new (name_of (Table n)) ≡ get old (name_of (Table n))) × (get new (name_of (OldTable n)) ≡ get old (name_of (OldTable n)))) → ComesFrom order b new after
  comes_open stays = comes_behind order b old new ideal after tables entries used from change behind (λ e again same placed is.
      let w = was_there order b old ideal tables entries used from before placed is in
      let both = stays placed.table.number w.numbered in
      origin_left order.cmp old new ideal after placed change.stays both.0 both.1 w.origin)

  -- after one that was refused, and had written
  pub comes_refused : OfEach (λ whole left. IsContinued order whole left) old new → ComesFrom order b new after
  comes_refused continued = comes_behind order b old new ideal after tables entries used from change behind (λ e again same placed is.
      let w = was_there order b old ideal tables entries used from before placed is in
      let listed = subst (λ (contents : List TableContent). Contains (placed_in contents) placed) same is in
      let found = content_at e.tables placed (contains_among (placed_in e.tables) placed listed) in
      let now = one_of_tables order after e.tables found.0 again.tables found.1 in
      let there : table_at after placed.table.number ≡ Some now.bytes = subst (λ (p : PlacedTable). table_at after p.table.number ≡ Some now.bytes) found.2 now.there in
      origin_behind order old new ideal after from.differs change placed w.origin now.bytes there (λ x was gone kept.
      subst (λ (p : PlacedTable). get old (name_of (Table p.table.number)) ≡ Some x → get new (name_of (Table p.table.number)) ≡ None → get new (name_of (OldTable p.table.number)) ≡ get old (name_of (OldTable p.table.number))
      → table_at after p.table.number ≡ Some now.bytes → ⊥) w.named
      (stays_newer order old new ideal from.differs continued w.d w.good w.content w.among after change x now.bytes) was gone kept there))
