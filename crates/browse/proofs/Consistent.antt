-- What a consistent directory has, and what it says of refusals.
use Rattle.std.proofs.Common.{◌≡◌, inl, inr, ℕ, zero, suc, IsTrue, Some, List, [], ◌∷◌, Contains, map, refl, sym, ap, subst, ◌∙◌, arith}
use Rattle.std.specs.Cmp.{IsTotalOrder}
use Rattle.coding.specs.declared.error.DbError.{DbError}
use Rattle.coding.specs.declared.error.DbError.TheVariants as error
use Rattle.ikey.specs.Orders.{Order}
use Rattle.ikey.specs.Views.{Contents, IsView}
use Rattle.ikey.specs.declared.entry.Entry.{Entry}
use Rattle.store.specs.Files.{Facts, Files}
use Rattle.table.specs.Reading.{Reads}
use Rattle.edits.specs.declared.field.PlacedTable.{PlacedTable}
use Rattle.table.proofs.FrameParts.{long_frame}
use Rattle.table_access.specs.Values.{IsTablePastLimit}
use Rattle.recover.specs.Directory.{Directory, IsConsistent, IsEmpty, entries_in, used_in}
use Rattle.recover.specs.Reading.{IsErrorCounted}
use Rattle.recover.specs.Report.{AnyHasBytes, IsLongTable}
use Rattle.recover.specs.Tables.{HasTable, InTables, IsTableFile, TableContent, table_at}
use Rattle.recover.proofs.Distinct.{distinct}
use Rattle.recover.proofs.Memberships.{one_of_tables}
use Rattle.recover.proofs.OneMeaning.{same_directory}
use Rattle.recover.proofs.SaidNumbers.{beyond_past}
use Rattle.reader.specs.declared.reader.Reader.{Reader}
use Rattle.reader.specs.Readers.{RefusesGet, ShowsMap, facts_of}
use Rattle.reader.specs.Refusals.{RefusesReader}
use Rattle.engine.proofs.DistinctViews.{map_of, view_of}
use Rattle.browse.specs.Browsing.{IsThere}
use Rattle.browse.specs.Choices.{MeansMap}
use Rattle.browse.specs.Refusals.{HasLongTable, IsDamaged, RefusesScan, RefusesGet as Refuses}
use Rattle.browse.specs.internal.Walking.{RefusesMove}

-- ---- a consistent directory

-- it has a map
pub has_map : (order : Order) (files : Files) (d : Directory) → IsTotalOrder order.cmp → IsConsistent order files d → (m : Contents) × IsView (entries_in d) (used_in d) m
has_map order files d total good = (map_of (entries_in d) (used_in d), view_of (entries_in d) (used_in d) (distinct order files d total good))

-- a directory that is there isn't empty
pub not_empty : (order : Order) (files : Files) → IsThere order files → IsEmpty files → ⊥
not_empty order files there empty = (let never = sym empty.current ∙ there.1.manifest.current in cc)

find_placed : (contents : List TableContent) (p : PlacedTable) → Contains (map (λ (content : TableContent). content.placed) contents) p → (c : TableContent) × InTables contents c × (c.placed ≡ p)
find_placed [] p (k, lt, e) = absurd (omega (arith, lt))
find_placed (c ∷ contents) p (zero, lt, e) = (c, inl refl, e)
find_placed (c ∷ contents) p (suc k, lt, e) = let rest = find_placed contents p (k, omega (arith, lt), e) in (rest.0, inr rest.1, rest.2)

long_table : (order : Order) (file : List ℕ) (entries : List Entry) (t : IsTableFile order file entries) → IsTablePastLimit order.cmp file → IsLongTable order file
long_table order file entries t (inl unsupported) = (t.1.0, (t.1.1, inl (long_frame order.cmp file unsupported t.1.0 t.1.1)))
long_table order file entries t (inr long) = (long.0, (long.1, inr long.2))

-- ---- a reader of it

module _ {S K : Type 0} (order : Order) (total : IsTotalOrder order.cmp) (facts : S → Facts) (old : Facts) (reader : Reader S K) (reads : Reads old (facts_of facts reader)) (stood : (facts_of facts reader).failures ≡ old.failures)
    (shows : IsTrue (facts_of facts reader).faithful → (d : Directory) (m : Contents) → IsConsistent order old.files d → IsView (entries_in d) (used_in d) m → ShowsMap order facts reader m)
    (there : IsTrue (facts_of facts reader).faithful → IsThere order old.files) where
  pub shown : IsTrue (facts_of facts reader).faithful → (m : Contents) → MeansMap order old.files m → ShowsMap order facts reader m
  shown f m means = shows f means.0 m means.1 means.2

  -- what is so of no map that it shows is damage
  damaged : IsTrue (facts_of facts reader).faithful → ((m : Contents) → ShowsMap order facts reader m → ⊥) → IsDamaged order old.files
  damaged f none = (not_empty order old.files (there f), λ d good. (let m = has_map order old.files d total good in none m.0 (shows f d m.0 good m.1)))

  -- a table of the version that is past a limit is one of the directory
  past_limit : IsTrue (facts_of facts reader).faithful → (d : Directory) → IsConsistent order old.files d → (m : Contents) (s : ShowsMap order facts reader m) → (placed : PlacedTable) → Contains s.directory.layout.tables.items placed
      → (file : List ℕ) → table_at old.files placed.table.number ≡ Some file → IsTablePastLimit order.cmp file → AnyHasBytes (IsLongTable order) old.files d.tables
  past_limit f d good m s placed listed file is past =
      let shown_good : IsConsistent order old.files s.directory = subst (λ (fs : Files). IsConsistent order fs s.directory) (reads.files f) s.consistent in
      let one = find_placed s.directory.tables placed (subst (λ (ps : List PlacedTable). Contains ps placed) (sym s.consistent.placed) listed) in
      let has : HasTable order old.files one.0 = one_of_tables order old.files s.directory.tables one.0 shown_good.tables one.1 in
      let at : table_at old.files one.0.placed.table.number ≡ Some file = ap (λ (p : PlacedTable). table_at old.files p.table.number) one.2 ∙ is in
      let both : Some has.bytes ≡ Some file = sym has.there ∙ at in
      let same : has.bytes ≡ file = cc in
      let spelled : IsTableFile order file one.0.entries = subst (λ (bytes : List ℕ). IsTableFile order bytes one.0.entries) same has.spelled in
      let tables = (same_directory order old.files s.directory d shown_good good).3 in
      (one.0, subst (λ (contents : List TableContent). InTables contents one.0) tables one.1, (file, at, long_table order file one.0.entries spelled past))

  -- why a value isn't told
  pub value_refused : (new : Reader S K) → Reads (facts_of facts reader) (facts_of facts new) → (e : DbError) → RefusesGet order facts reader new e → Refuses order e old (facts_of facts new)
  value_refused new later error.OutOfMemory h = h ∙ stood
  value_refused new later error.Io h = omega (arith, h, stood)
  value_refused new later (error.Corrupt file what) h = λ f. damaged (later.faithful f) (h f)
  value_refused new later (error.Unsupported what) h = λ f d good.
      let f' = later.faithful f in
      let m = has_map order old.files d total good in
      let s = shows f' d m.0 good m.1 in
      let past = h f m.0 s in
      let listed = subst (λ (p : PlacedTable). Contains s.directory.layout.tables.items p) past.1.2 (s.version.only past.1.0 past.0 past.1.1) in
      inr (past_limit f' d good m.0 s past.0 listed past.2 (subst (λ (fs : Files). table_at fs past.0.table.number ≡ Some past.2) (reads.files f') past.3) past.4)
  value_refused new later _ h = absurd h

  -- why no further pair is told
  pub pairs_refused : (new : Reader S K) → Reads (facts_of facts reader) (facts_of facts new) → (e : DbError) → RefusesMove order.cmp e (facts_of facts reader) (facts_of facts new) (λ P. (m : Contents) → ShowsMap order facts reader m → P)
      → RefusesScan order e old (facts_of facts new)
  pairs_refused new later error.OutOfMemory h = h ∙ stood
  pairs_refused new later error.Io h = omega (arith, h, stood)
  pairs_refused new later error.NoPlace h = λ f. damaged (later.faithful f) (h f)
  pairs_refused new later (error.Corrupt file what) h = λ f. damaged (later.faithful f) (h f)
  pairs_refused new later (error.Unsupported what) h = λ f d good.
      let f' = later.faithful f in
      let m = has_map order old.files d total good in
      inr (subst (λ (fs : Files). HasLongTable order.cmp fs) (reads.files f') (h f m.0 (shows f' d m.0 good m.1)))
  pairs_refused new later _ h = absurd h

-- ---- no reader of it

-- why there is none
pub open_refused : (order : Order) (e : DbError) (old new : Facts) → RefusesReader order e old new → IsErrorCounted e old new → Refuses order e old new
open_refused order error.OutOfMemory old new h counted = counted
open_refused order error.Io old new h counted = counted
open_refused order error.NoDatabase old new h counted = h
open_refused order (error.Corrupt file what) old new h counted = h
open_refused order (error.Unsupported what) old new h counted = λ f d good. inl (beyond_past order old.files d.manifest d.edits d.layout (h f) good.manifest)
open_refused order _ old new h counted = absurd h

pub scan_refused : (order : Order) (e : DbError) (old new : Facts) → Refuses order e old new → RefusesScan order e old new
scan_refused order error.OutOfMemory old new h = h
scan_refused order error.Io old new h = h
scan_refused order error.NoDatabase old new h = h
scan_refused order (error.Corrupt file what) old new h = h
scan_refused order (error.Unsupported what) old new h = λ f d good. inl (h f)
scan_refused order error.NoPlace old new h = absurd h
scan_refused order _ old new h = h
