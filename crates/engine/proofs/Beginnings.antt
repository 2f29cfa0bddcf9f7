-- That there is a first machine.
use Rattle.std.proofs.Common.{◌≡◌, ℕ, ◌+◌, ◌<◌, ◌≤◌, ◌^◌, max, Bool, true, false, List, [], ◌∷◌, ◌++◌, Contains, length, sum_by, Some, None, inl, inr, refl, sym, ◌∙◌, subst, arith}
use mathlib.Core.Bool.{true≢false}
use Rattle.std.specs.List.{AllByRecursion}
use Rattle.std.specs.Ordering.{nat_cmp}
use Rattle.std.specs.Cmp.Lexicographic.{slice_cmp}
use Rattle.std.specs.FinMap.{get, empty, get-empty, contains_key}
use Rattle.store.specs.Files.{Files, Facts}
use Rattle.db_cursor.proofs.Origins.{same_origin}
use Rattle.db_cursor.specs.Origins.{HasOrigin}
use Rattle.directory_writes.proofs.JobTables.{contains_among, content_at}
use Rattle.directory_writes.proofs.SameChanges.{one_change}
use Rattle.directory_writes.specs.Replacing.{placed_in}
use Rattle.edits.specs.declared.field.PlacedTable.{PlacedTable}
use Rattle.ikey.specs.Orders.{Order}
use Rattle.ikey.specs.Views.{Contents, IsView}
use Rattle.ikey.specs.declared.entry.Entry.{Entry}
use Rattle.edits.specs.Layout.{fields_of}
use Rattle.edits.specs.Names.{name_of, IsFileName}
use Rattle.edits.specs.declared.field.Field.{Field}
use Rattle.edits.specs.declared.field.Field.TheVariants.{Comparator, LogNumber, NextFileNumber, LastSequence, CompactPointer, DeletedFile, NewFile, PreviousLogNumber}
use Rattle.edits.specs.declared.names.FileName.{FileName}
use Rattle.edits.specs.declared.names.FileName.TheVariants.{Current, Lock, Log, Table, OldTable, Manifest, Temporary}
use Rattle.recover.proofs.Memberships.{one_of_tables}
use Rattle.recover.specs.internal.Changes.{DistinctLaw}
use Rattle.recover.specs.Directory.{Directory, IsConsistent, IsDirectory, IsEmpty, entries_in, used_in}
use Rattle.recover.specs.internal.Laws.{OneManifestLaw}
use Rattle.recover.specs.Numbers.{number_of, NamesBelow, IsFree}
use Rattle.recover.specs.internal.Parts.{highest_in}
use Rattle.machine.specs.Machine.{Machine, current, entry_weight}
use Rattle.recover.specs.Limits.{IsWithinLimits}
use Rattle.engine.specs.FromFiles.{FirstOfMapLaw}
use Rattle.engine.specs.Headline.{IsFirst, FirstLaw}
use Rattle.engine.specs.Origins.{ComesFrom}
use Rattle.engine.proofs.DistinctViews.{map_of, view_of}

-- ---- a number that is free

names_below : (m : ℕ) (fields : List Field) → highest_in fields < m → AllByRecursion (NamesBelow m) fields
names_below m [] h = tt
names_below m (Comparator name ∷ fields) h = (tt, names_below m fields (omega (arith, h)))
names_below m (LogNumber n ∷ fields) h = (omega (arith, h), names_below m fields (omega (arith, h)))
names_below m (NextFileNumber n ∷ fields) h = (tt, names_below m fields (omega (arith, h)))
names_below m (LastSequence n ∷ fields) h = (tt, names_below m fields (omega (arith, h)))
names_below m (CompactPointer level key ∷ fields) h = (tt, names_below m fields (omega (arith, h)))
names_below m (DeletedFile level n ∷ fields) h = (omega (arith, h), names_below m fields (omega (arith, h)))
names_below m (NewFile placed ∷ fields) h = (omega (arith, h), names_below m fields (omega (arith, h)))
names_below m (PreviousLogNumber n ∷ fields) h = (omega (arith, h), names_below m fields (omega (arith, h)))

file_below : (m : ℕ) (file : FileName) → IsFileName file → 2 ^ 64 ≤ m → number_of file < m
file_below m Current is h = omega (arith, h)
file_below m Lock is h = omega (arith, h)
file_below m (Log n) is h = omega (arith, h, is.1)
file_below m (Table n) is h = omega (arith, h, is.1)
file_below m (OldTable n) is h = omega (arith, h, is.1)
file_below m (Manifest n) is h = omega (arith, h, is.1)
file_below m (Temporary n) is h = omega (arith, h, is.1)

-- names have numbers of at most 64 bits, and the MANIFEST has a greatest
some_free : (order : Order) (files : Files) (d : Directory) → OneManifestLaw → IsConsistent order files d → (numbers : ℕ) × IsFree order files numbers
some_free order files d one good =
    let top = highest_in (fields_of d.edits) in
    let m : ℕ = max (2 ^ 64) (max d.layout.next_file_number (max (d.layout.log_number + 1) (max (d.layout.previous_log_number + 1) (top + 1)))) in
    let wide : 2 ^ 64 ≤ m = omega arith in
    let next : d.layout.next_file_number ≤ m = omega arith in
    let log : d.layout.log_number < m = omega arith in
    let previous : d.layout.previous_log_number < m = omega arith in
    let high : top < m = omega arith in
    let below = names_below m (fields_of d.edits) high in (
      m,
      record {
        some = omega (arith, wide);
        listed = λ file is there. file_below m file is wide;
        recorded = λ number edits layout has.
            let same = one order files number d.manifest edits d.edits layout d.layout has good.manifest in
            let N : List (List Field) → Type 0 = λ es. AllByRecursion (NamesBelow m) (fields_of es) in
            (omega (arith, next, same.2.next_file_number), omega (arith, log, same.2.log_number), omega (arith, previous, same.2.previous_log_number), subst N (sym same.1) below);
      },
    )

-- where there is no database, none is recorded
free_of_empty : (order : Order) (files : Files) → IsEmpty files → IsFree order files (2 ^ 64)
free_of_empty order files is = record {
  some = omega arith;
  listed = λ file name there. file_below (2 ^ 64) file name (omega arith);
  recorded = λ number edits layout has. (let gone : None ≡ Some (name_of (Manifest number) ++ 10 ∷ []) = sym is.current ∙ has.current in absurd (cc));
}

none_there : (name : List ℕ) → get {R = slice_cmp nat_cmp} (empty {X = List ℕ}) name ≡ None
none_there name = get-empty (slice_cmp nat_cmp) name

-- the machine of these entries
abbrev begun : Facts → List Entry → Contents → ℕ → ℕ → Bool → Bool → Machine
begun facts entries map used numbers over_limit damaged = record {
  base = map;
  batches = [];
  synced = 0;
  used = used;
  made = contains_key facts.files (name_of Current);
  opened = false;
  broken = false;
  in_doubt = None;
  snapshots = [];
  iterators = [];
  last_snapshot = 0;
  last_iterator = 0;
  numbers = numbers;
  failures = facts.failures;
  denials = facts.denials;
  over_limit = over_limit;
  damaged = damaged;
  first_entries = length entries;
  first_weight = sum_by entry_weight entries;
}

first : (order : Order) (facts : Facts) (entries : List Entry) (map : Contents) (used numbers : ℕ) (over_limit damaged : Bool)
    → IsDirectory order facts.files entries used → IsView entries used map → IsFree order facts.files numbers → (over_limit ≡ false → IsWithinLimits order facts.files)
    → (m : Machine) × IsFirst order facts m × (m.over_limit ≡ over_limit) × (m.damaged ≡ damaged)
first order facts entries map used numbers over_limit damaged directory view free within = (
  begun facts entries map used numbers over_limit damaged,
  record {
    holds = record { entries = entries; directory = directory; view = view };
    bounds = record { made = refl; numbers = free; limits = within };
    accepted = (refl, refl, refl);
    closed = (refl, refl, refl, refl);
    ids = (refl, refl);
    counts = (refl, refl);
    size = (refl, refl);
  },
  refl,
  refl,
)

pub there_is_one : DistinctLaw → OneManifestLaw → FirstLaw
there_is_one distinct one order facts entries used over_limit damaged total (inl h) within =
    first order facts entries empty used (2 ^ 64) over_limit damaged (inl h) (subst (λ (es : List Entry). IsView es used empty) (sym h.1) (record { found = λ e newest. absurd newest.member; missing = λ key unseen. none_there key })) (free_of_empty order facts.files h.0) within
there_is_one distinct one order facts entries used over_limit damaged total (inr h) within =
    let free = some_free order facts.files h.0 one h.1 in
    let view = view_of (entries_in h.0) (used_in h.0) (distinct order facts.files h.0 total h.1) in
    let seen = subst (λ (es : List Entry). IsView es (used_in h.0) (map_of (entries_in h.0) (used_in h.0))) (sym h.2) view in
    first order facts entries (map_of (entries_in h.0) (used_in h.0)) used free.0 over_limit damaged (inr h)
    (subst (λ (n : ℕ). IsView entries n (map_of (entries_in h.0) (used_in h.0))) (sym h.3) seen) free.1 within

-- the same of a map that the directory shows
first_of_map : (order : Order) (facts : Facts) (entries : List Entry) (map : Contents) (used numbers : ℕ) → IsDirectory order facts.files entries used → IsView entries used map → IsFree order facts.files numbers
    → (m : Machine) × IsFirst order facts m × (m.damaged ≡ false) × (current m ≡ map)
first_of_map order facts entries map used numbers directory view free = (
  begun facts entries map used numbers true false,
  record {
    holds = record { entries = entries; directory = directory; view = view };
    bounds = record { made = refl; numbers = free; limits = λ is. absurd (true≢false is) };
    accepted = (refl, refl, refl);
    closed = (refl, refl, refl, refl);
    ids = (refl, refl);
    counts = (refl, refl);
    size = (refl, refl);
  },
  refl,
  refl,
)

pub there_is_one_of_map : OneManifestLaw → FirstOfMapLaw
there_is_one_of_map one order facts map shows =
    let free : (numbers : ℕ) × IsFree order facts.files numbers = elim shows.directory [
      | inl h ↦ (2 ^ 64, free_of_empty order facts.files h.0)
      | inr h ↦ some_free order facts.files h.0 one h.1
    ] in
    first_of_map order facts shows.entries map shows.used free.0 shows.directory shows.view free.1

-- ---- files and themselves

-- each table may have come from itself
pub comes_from_itself : (order : Order) (damaged : Bool) (files : Files) → ComesFrom order damaged files files
comes_from_itself order damaged files = record {
  differs = (one_change files files).0;
  origins = λ d good placed is.
      let content = content_at d.tables placed (contains_among (placed_in d.tables) placed (subst (λ (ps : List PlacedTable). Contains ps placed) (sym good.placed) is)) in
      let has = one_of_tables order files d.tables content.0 good.tables content.1 in
      subst (λ (p : PlacedTable). HasOrigin order.cmp files files p) content.2 ((same_origin order.cmp content.0.placed has.bytes).1 files files has.there has.there);
  undamaged = λ is. refl;
}
