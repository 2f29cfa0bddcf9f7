-- What stands when a piece of work has changed the files, the memtables and what is kept of
-- tables.
use Rattle.std.proofs.Common.{◌≡◌, ◌⊎◌, ℕ, ◌+◌, ◌≤◌, true, List, [], ◌∷◌, length, Option, Some, None, is_some, MatchOption, inl, inr, refl, sym, ap, subst, ◌∙◌, arith, sum_by}
use Rattle.std.specs.List.{AllByRecursion}
use Rattle.std.specs.BTreeMap.{BTreeMap}
use Rattle.std.specs.FinMap.{contains_key}
use Rattle.std.specs.Bool.{nat_eq}
use Rattle.std.specs.Map.{lookup}
use Rattle.edits.specs.Layout.{fields_of}
use Rattle.edits.specs.Edit.{HasPastLimit}
use Rattle.edits.specs.Names.{name_of}
use Rattle.edits.specs.declared.field.Field.{Field}
use Rattle.edits.specs.declared.field.Field.TheVariants.{Comparator, LogNumber, NextFileNumber, LastSequence, CompactPointer, DeletedFile, NewFile, PreviousLogNumber}
use Rattle.edits.specs.declared.names.FileName.TheVariants.{Current}
use Rattle.batch.specs.declared.operation.Operation.{Operation}
use Rattle.ikey.specs.Orders.{Order}
use Rattle.ikey.specs.Sources.{SameEntries, SameViewLaw}
use Rattle.ikey.specs.Views.{AllUpTo, IsView}
use Rattle.ikey.specs.declared.entry.Entry.{Entry}
use Rattle.recover.specs.Directory.{Directory, IsConsistent, entries_in, used_in}
use Rattle.recover.specs.internal.Laws.{OneDirectoryLaw}
use Rattle.recover.specs.Numbers.{IsFree, NamesBelow}
use Rattle.recover.specs.Report.{IsLongTable, AnyHasBytes}
use Rattle.recover.specs.Tables.{TableContent}
use Rattle.db_cursor.specs.Scans.{KeepsScan}
use Rattle.db_cursor.specs.internal.Scanning.{ScanIsKept}
use Rattle.db_cursor.specs.Whole.{Whole}
use Rattle.db_cursor.specs.declared.scan.Scan.{Scan}
use Rattle.store.specs.Files.{Files}
use Rattle.table_access.specs.Tables.{Seen}
use Rattle.engine.specs.internal.Accounted.{AreAccounted}
use Rattle.engine.specs.internal.Directory.{Means, MeansAccepted}
use Rattle.recover.specs.Limits.{IsWithinLimits}
use Rattle.engine.specs.OpenDb.{OpenDb}
use Rattle.engine.specs.internal.Standing.{entries_of, IsServing}
use Rattle.engine.specs.Reads.{kept_at}
use Rattle.engine.specs.internal.Live.{IsBoth, AreLive, AreSnapshots, AreWalks, IsLiveWalk, IsSnapshot}
use Rattle.machine.specs.Machine.{Machine, Walk, after_batch, current, entry_count, operation_weight, view_at, weight}
use Rattle.engine.proofs.Reading.{walk_kept}
use Rattle.opening.proofs.Reopening.{TablesStay, long_back}

-- ---- what is live

module _ {X Y : Type 0} (Is Was : X → Y → Type 0) (kept : BTreeMap ℕ X) (live : List (ℕ × Y)) where
  -- what is kept under an id stands for the same as before
  pub live_each : ((id : ℕ) (x : X) (y : Y) → kept_at kept id ≡ Some x → Is x y → Was x y) → AreLive Is kept live → AreLive Was kept live
  live_each each h id = at (kept_at kept id) (lookup (nat_eq id) live) refl (h id)
    where
      at : (o : Option X) (p : Option Y) → kept_at kept id ≡ o → IsBoth Is o p → IsBoth Was o p
      at None None there both = tt
      at (Some x) (Some y) there both = each id x y there both
      at None (Some y) there both = absurd both
      at (Some x) None there both = absurd both

module _ {K : Type 0} {g : _} (order : Order) (kept : (scan : Scan K g) → ScanIsKept order.cmp scan) where
  -- each iterator reads what it read
  pub walks_each : (old new : Whole) (iterators : BTreeMap ℕ (Scan K g)) (m : Machine)
      → ((id : ℕ) (scan : Scan K g) (walk : Walk) → kept_at iterators id ≡ Some scan → IsLiveWalk order.cmp m.over_limit m.damaged old scan walk → KeepsScan order.cmp scan old new) → old.memory.last ≤ new.memory.last
      → AreWalks order.cmp old m iterators → AreWalks order.cmp new m iterators
  walks_each old new iterators m keeps last h =
      live_each (IsLiveWalk order.cmp m.over_limit m.damaged old) (IsLiveWalk order.cmp m.over_limit m.damaged new) iterators m.iterators
      (λ id scan walk there is. walk_kept order kept m.over_limit m.damaged old new scan walk (keeps id scan walk there is) last is) h

-- ---- what is known of the files

-- Where the directory is the same, and its tables' files are, no limit is passed that wasn't.
pub limits_stay : (order : Order) (old new : Files) (d : Directory) → OneDirectoryLaw → IsConsistent order old d → IsConsistent order new d → TablesStay old new d.tables → IsWithinLimits order old → IsWithinLimits order new
limits_stay order old new d one before after stay within e good past =
    let same = one order new e d good after in
    elim past [
      | inl numbers ↦ within d before (inl (subst (λ (edits : List (List Field)). HasPastLimit (fields_of edits)) same.1 numbers))
      | inr long ↦ within d before (inr (long_back order old new d.tables stay (subst (λ (tables : List TableContent). AnyHasBytes (IsLongTable order) new tables) same.3 long)))
    ]

-- a consistent directory has a database
pub has_current : (order : Order) (files : Files) (d : Directory) → IsConsistent order files d → contains_key files (name_of Current) ≡ true
has_current order files d good = ap is_some good.manifest.current

pub made_still : (order : Order) (old new : Files) (d e : Directory) (m : Machine) → IsConsistent order old d → IsConsistent order new e → m.made ≡ contains_key old (name_of Current) → m.made ≡ contains_key new (name_of Current)
made_still order old new d e m before after is = is ∙ has_current order old d before ∙ sym (has_current order new e after)

-- ---- numbers that are free

names_up : (a b : ℕ) (field : Field) → a ≤ b → NamesBelow a field → NamesBelow b field
names_up a b (Comparator name) le h = tt
names_up a b (LogNumber k) le h = omega (arith, h, le)
names_up a b (NextFileNumber k) le h = tt
names_up a b (LastSequence k) le h = tt
names_up a b (CompactPointer level key) le h = tt
names_up a b (DeletedFile level k) le h = omega (arith, h, le)
names_up a b (NewFile placed) le h = omega (arith, h, le)
names_up a b (PreviousLogNumber k) le h = omega (arith, h, le)

all_names_up : (a b : ℕ) (fields : List Field) → a ≤ b → AllByRecursion (NamesBelow a) fields → AllByRecursion (NamesBelow b) fields
all_names_up a b [] le h = tt
all_names_up a b (field ∷ fields) le h = (names_up a b field le h.0, all_names_up a b fields le h.1)

-- above a number that is free, each is
pub free_up : (order : Order) (files : Files) (a b : ℕ) → a ≤ b → IsFree order files a → IsFree order files b
free_up order files a b le free = record {
  some = (let some = free.some in omega (arith, some, le));
  listed = λ file is there. (let below = free.listed file is there in omega (arith, below, le));
  recorded = λ number edits layout has. let r = free.recorded number edits layout has in (omega (arith, r.0, le), omega (arith, r.1, le), omega (arith, r.2, le), all_names_up a b (fields_of edits) le r.3);
}

-- ---- the same entries

same_itself : (xs ys : List Entry) → xs ≡ ys → SameEntries xs ys
same_itself xs ys is = subst (λ (es : List Entry). SameEntries xs es) is (λ e. (λ i. i, λ i. i))

pub same_back : (xs ys : List Entry) → SameEntries xs ys → SameEntries ys xs
same_back xs ys same e = ((same e).1, (same e).0)

pub same_on : (xs ys zs : List Entry) → SameEntries xs ys → SameEntries ys zs → SameEntries xs zs
same_on xs ys zs first next e = (λ i. (next e).0 ((first e).0 i), λ i. (first e).1 ((next e).1 i))

pub same_by : (xs ys zs ws : List Entry) → xs ≡ ys → SameEntries ys zs → zs ≡ ws → SameEntries xs ws
same_by xs ys zs ws first same next = same_on xs ys ws (same_itself xs ys first) (same_on ys zs ws same (same_itself zs ws next))

-- the same entries are accounted for alike
pub accounted_same : (xs ys : List Entry) (count weight : ℕ) → SameEntries xs ys → AreAccounted xs count weight → AreAccounted ys count weight
accounted_same xs ys count weight same h = record { all = h.all; within = λ e i. h.within e ((same e).1 i); count = h.count; weight = h.weight }

pub bounded_same : (xs ys : List Entry) (last : ℕ) → SameEntries xs ys → AllUpTo last xs → AllUpTo last ys
bounded_same xs ys last same h e i = h e ((same e).1 i)

-- snapshots see the same
pub snapshots_same : (law : SameViewLaw) (xs ys : List Entry) (last : ℕ) (m : Machine) (snapshots : BTreeMap ℕ ℕ) → SameEntries xs ys → AreSnapshots xs last m snapshots → AreSnapshots ys last m snapshots
snapshots_same law xs ys last m snapshots same h =
    live_each (IsSnapshot xs last m) (IsSnapshot ys last m) snapshots m.snapshots
    (λ id sequence count there is. (is.0, is.1, (law xs ys sequence same).0 (view_at m count) is.2)) h

-- ---- a database that is broken

-- a directory of which the machine's map is the view is what the machine stands for, as it stands
-- for that of an open database
pub rests_seen : {K : Type 0} {g : _} (order : Order) (source : Seen) (db : OpenDb K g) (m : Machine) (serving : IsServing order source db m) (files : Files) (e : Directory)
    → IsConsistent order files e → IsView (entries_in e) db.memory.last (current m) → AreAccounted (entries_in e) (entry_count m) (weight m) → used_in e ≡ db.memory.last → MeansAccepted order files m
rests_seen order source db m serving files e good view accounted used =
    let means : Means order files (current m) m.used (entry_count m) (weight m) = record {
      entries = entries_in e;
      spelled = inr (e, good, refl, serving.entries.used ∙ sym used);
      view = subst (λ (n : ℕ). IsView (entries_in e) n (current m)) (sym serving.entries.used) view;
      accounted = accounted;
    } in
    let Accepted : Option (List Operation) → Type 0 = λ o. MatchOption o (Means order files (current m) m.used (entry_count m) (weight m)) (λ operations.
    Means order files (current m) m.used (entry_count m) (weight m)
    ⊎ Means order files (after_batch (current m) operations) (m.used + length operations) (entry_count m + length operations) (weight m + sum_by operation_weight operations)) in
    subst Accepted (sym serving.certain) means

-- the same for one of the same entries
pub rests_as : {K : Type 0} {g : _} (order : Order) (law : SameViewLaw) (source : Seen) (db : OpenDb K g) (m : Machine) (serving : IsServing order source db m) (files : Files) (e : Directory)
    → IsConsistent order files e → SameEntries (entries_of serving.contents db) (entries_in e) → used_in e ≡ db.memory.last → MeansAccepted order files m
rests_as order law source db m serving files e good same used =
    rests_seen order source db m serving files e good ((law (entries_of serving.contents db) (entries_in e) db.memory.last same).0 (current m) serving.entries.view)
    (accounted_same (entries_of serving.contents db) (entries_in e) (entry_count m) (weight m) same serving.accounted) used
