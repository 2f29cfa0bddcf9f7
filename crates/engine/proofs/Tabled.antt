-- Entries of which some lie in tables, and the newer ones in the logs: what a read of both answers,
-- and what a write adds.
use Rattle.std.proofs.Common.{◌≡◌, inl, inr, ℕ, ◌+◌, ◌<◌, ◌≤◌, Option, Some, None, List, [], ◌∷◌, ◌++◌, length, unwrap_or, refl, subst, append_assoc, arith}
use Rattle.std.specs.BTreeMap.{BTreeMap}
use Rattle.std.specs.List.{AllByRecursion}
use Rattle.batch.specs.declared.operation.Operation.{Operation}
use Rattle.store.specs.Files.{Files}
use Rattle.ikey.specs.Orders.{Order}
use Rattle.ikey.specs.declared.entry.Entry.{Entry}
use Rattle.ikey.specs.Sources.{IsNewerThan, joined, SameEntries, IsAnswer, FrontLaw, BehindLaw, SameViewLaw}
use Rattle.ikey.specs.Views.{Among, AllUpTo, Contents, IsValueAt, IsView}
use Rattle.ikey.proofs.SearchedSources.{among_split, among_front, among_back}
use Rattle.recover.specs.Directory.{Directory, IsConsistent, IsDirectory, used_in}
use Rattle.recover.specs.Entries.{made_entry, entries_of, greatest}
use Rattle.recover.specs.Logs.{logged}
use Rattle.recover.specs.Tables.{TableContent, tabled}
use Rattle.recover.proofs.Memberships.{up_to_greatest}
use Rattle.opening.specs.internal.Directories.{IsDirectoryOf, CanAppend}
use Rattle.engine.specs.internal.Live.{AreSnapshots}
use Rattle.machine.specs.Machine.{Machine, after_batch}
use Rattle.engine.proofs.EntryViews.{view_batch, entry_sequence}
use Rattle.engine.proofs.LiveIds.{snapshots_written}

-- ---- a directory's entries

-- what can be appended to is a directory
pub appendable_of : (order : Order) (files : Files) (log end : ℕ) (tables : List TableContent) (entries : List Entry) (used : ℕ) → CanAppend order files log end tables entries used → IsDirectoryOf order files tables entries used
appendable_of order files log end tables entries used a = inr (a.directory, a.consistent, a.in_tables, a.in_logs, a.spent)

-- with all its entries
pub directory_of : (order : Order) (files : Files) (tables : List TableContent) (entries : List Entry) (used : ℕ) → IsDirectoryOf order files tables entries used → IsDirectory order files (tabled tables ++ entries) used
directory_of order files tables entries used (inl none) = inl (none.0, (λ i. tabled (none.1 i) ++ none.2 i), none.3)
directory_of order files tables entries used (inr some) = inr (some.0, some.1, (λ i. tabled (some.2 i) ++ some.3 i), some.4)

-- of the same key, what is in the logs is newer than what is in tables
pub logged_newer : (order : Order) (files : Files) (tables : List TableContent) (entries : List Entry) (used : ℕ) → IsDirectoryOf order files tables entries used → IsNewerThan entries (tabled tables)
logged_newer order files tables entries used (inl none) a b i j key = absurd (subst (λ (es : List Entry). Among es a) none.2 i)
logged_newer order files tables entries used (inr some) a b i j key =
    some.1.newer a b (subst (λ (es : List Entry). Among es a) some.3 i) (subst (λ (cs : List TableContent). Among (tabled cs) b) some.2 j) key

-- no entry is above the last sequence number used
bounded_in : (order : Order) (files : Files) (d : Directory) → IsConsistent order files d → AllUpTo (used_in d) (tabled d.tables ++ logged d.logs)
bounded_in order files d h e i = elim (among_split (tabled d.tables) (logged d.logs) e i) [
  | inl old ↦ (let below : e.sequence ≤ d.layout.last_sequence = h.recorded e old in omega (arith, below))
  | inr new ↦ (let below : e.sequence ≤ greatest (logged d.logs) = up_to_greatest (logged d.logs) e new in omega (arith, below))
]

pub directory_bounded : (order : Order) (files : Files) (tables : List TableContent) (entries : List Entry) (used : ℕ) → IsDirectoryOf order files tables entries used → AllUpTo used (tabled tables ++ entries)
directory_bounded order files tables entries used (inl none) e i =
    absurd (subst (λ (es : List Entry). Among es e) none.2 (subst (λ (cs : List TableContent). Among (tabled cs ++ entries) e) none.1 i))
directory_bounded order files tables entries used (inr some) e i =
    let d = some.0 in
    let at : Among (tabled d.tables ++ logged d.logs) e = subst (λ (es : List Entry). Among (tabled d.tables ++ es) e) some.3 (subst (λ (cs : List TableContent). Among (tabled cs ++ entries) e) some.2 i) in
    (let below : e.sequence ≤ used_in d = bounded_in order files d some.1 e at in omega (arith, below, some.4))

-- ---- a get

turned : (xs ys : List Entry) → SameEntries (xs ++ ys) (ys ++ xs)
turned xs ys e = (
  λ i. elim (among_split xs ys e i) [ inl j ↦ among_back ys xs e j | inr j ↦ among_front ys xs e j ],
  λ i. elim (among_split ys xs e i) [ inl j ↦ among_back xs ys e j | inr j ↦ among_front xs ys e j ],
)

-- the value of what a search has found
answered : (source : List Entry) (sequence : ℕ) (key : List ℕ) (answer : Option (Option (List ℕ))) → IsAnswer source sequence key answer → IsValueAt source sequence key (unwrap_or answer None)
answered source sequence key (Some value) a = inl a
answered source sequence key None a = inr (a, refl)

module _ (front : FrontLaw) (behind : BehindLaw) (same : SameViewLaw) (tables inserts : List Entry) (sequence : ℕ) (key : List ℕ) where
  -- what is found in memory
  pub value_in_memory : (value : Option (List ℕ)) → IsNewerThan inserts tables → IsAnswer inserts sequence key (Some value) → IsValueAt (tables ++ inserts) sequence key value
  value_in_memory value newer a =
      (same (inserts ++ tables) (tables ++ inserts) sequence (turned inserts tables)).1 key value (inl (a.0, front inserts tables sequence a.0 newer a.1, a.2, a.3))

  -- and where nothing is, what is found in the tables
  pub value_behind : (sources : List (List Entry)) (answer : Option (Option (List ℕ))) → SameEntries (joined sources) tables → IsAnswer inserts sequence key None → IsAnswer (joined sources) sequence key answer
      → IsValueAt (tables ++ inserts) sequence key (unwrap_or answer None)
  value_behind sources answer are unseen a =
      let value = unwrap_or answer None in
      let in_tables : IsValueAt tables sequence key value = (same (joined sources) tables sequence are).1 key value (answered (joined sources) sequence key answer a) in
      (same (inserts ++ tables) (tables ++ inserts) sequence (turned inserts tables)).1 key value (behind inserts tables sequence key value unseen in_tables)

-- ---- a write

-- the entries of a batch after those of the logs
pub written_view : (tables inserts : List Entry) (used : ℕ) (operations : List Operation) (map : Contents) → IsView (tables ++ inserts) used map → AllUpTo used (tables ++ inserts)
    → IsView (tables ++ (inserts ++ entries_of (used + 1) operations)) (used + length operations) (after_batch map operations) × AllUpTo (used + length operations) (tables ++ (inserts ++ entries_of (used + 1) operations))
written_view tables inserts used operations map view bounded =
    let more = entries_of (used + 1) operations in
    let views = view_batch operations (tables ++ inserts) used map view bounded in
    let is : (tables ++ inserts) ++ more ≡ tables ++ (inserts ++ more) = append_assoc tables inserts more in (
      subst (λ (es : List Entry). IsView es (used + length operations) (after_batch map operations)) is views.0,
      subst (λ (es : List Entry). AllUpTo (used + length operations) es) is views.1,
    )

pub written_snapshots : (tables inserts : List Entry) (last : ℕ) (m n : Machine) (kept : BTreeMap ℕ ℕ) (operations : List Operation) → n.base ≡ m.base → n.batches ≡ m.batches ++ operations ∷ [] → n.snapshots ≡ m.snapshots
    → AreSnapshots (tables ++ inserts) last m kept → AreSnapshots (tables ++ (inserts ++ entries_of (last + 1) operations)) (last + length operations) n kept
written_snapshots tables inserts last m n kept operations base batches snapshots h =
    subst (λ (es : List Entry). AreSnapshots es (last + length operations) n kept) (append_assoc tables inserts (entries_of (last + 1) operations))
    (snapshots_written (tables ++ inserts) last m n kept operations base batches snapshots h)

-- what is written is above what is used
pub above_last : (last : ℕ) (operations : List Operation) → AllByRecursion (λ (e : Entry). last < e.sequence) (entries_of (last + 1) operations)
above_last last operations = at operations (last + 1) (omega arith)
  where
    at : (operations : List Operation) (first : ℕ) → last < first → AllByRecursion (λ (e : Entry). last < e.sequence) (entries_of first operations)
    at [] first above = tt
    at (operation ∷ operations) first above = ((let same : (made_entry first operation).sequence ≡ first = entry_sequence first operation in omega (arith, same, above)), at operations (first + 1) (omega (arith, above)))
