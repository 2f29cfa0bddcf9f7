-- What a database keeps under ids, beside what the machine has under them.
use Rattle.std.specs.Prelude.{◌≡◌, ℕ, ◌≤◌, nat_eq, Bool, false, Option, Some, None, IsSome, List, length}
use Rattle.std.specs.BTreeMap.{BTreeMap}
use Rattle.std.specs.Map.{lookup}
use Rattle.std.specs.declared.cmp.Ordering.{Ordering}
use Rattle.ikey.specs.declared.entry.Entry.{Entry}
use Rattle.ikey.specs.Views.{IsView}
use Rattle.db_cursor.specs.Whole.{Whole}
use Rattle.db_cursor.specs.declared.scan.Scan.{Scan}
use Rattle.cache.specs.Tables.{table_at}
use Rattle.cursor.specs.Cuts.{Cut}
use Rattle.db_cursor.specs.Scans.{IsOnePastLimit, IsScanTorn, reads_table, tables_of}
use Rattle.edits.specs.Names.{IsNumbered}
use Rattle.level_cursor.specs.InRows.{ListsNumber}
use Rattle.reader.specs.internal.Iterators.{MayBeWalk}
use Rattle.machine.specs.Machine.{Machine, Walk, view_at}
use Rattle.engine.specs.Reads.{kept_at}

-- both are there, the one standing for the other, or neither
abbrev pub IsBoth : {X Y : Type 0} → (X → Y → Type 0) → Option X → Option Y → Type 0
IsBoth Is None None = Unit {0}
IsBoth Is (Some x) (Some y) = Is x y
IsBoth Is None (Some y) = ⊥
IsBoth Is (Some x) None = ⊥

-- The same ids are live, and what is kept under each stands for what the machine has.
abbrev pub AreLive : {X Y : Type 0} → (X → Y → Type 0) → BTreeMap ℕ X → List (ℕ × Y) → Type 0
AreLive Is kept live = (id : ℕ) → IsBoth Is (kept_at kept id) (lookup (nat_eq id) live)

-- ---- snapshots

-- The entries up to this sequence number are what the machine has after so many batches.
abbrev pub IsSnapshot : List Entry → ℕ → Machine → ℕ → ℕ → Type 0
IsSnapshot entries last m sequence count =
    (count ≤ length m.batches) × (sequence ≤ last) × IsView entries sequence (view_at m count)

abbrev pub AreSnapshots : List Entry → ℕ → Machine → BTreeMap ℕ ℕ → Type 0
AreSnapshots entries last m kept = AreLive (IsSnapshot entries last m) kept m.snapshots

-- ---- iterators

-- Over what the database reads, the iterator goes over the pairs of the machine's, which are such
-- as its tables may have. Without damage no block of them is torn, and where no limit of reading is
-- passed, none of its tables passes one. It reads tables of its version alone, and they are there.
pub record IsLiveWalk {K : Type 0} {g : _} (cmp : List ℕ → List ℕ → Ordering) (limited damaged : Bool) (whole : Whole) (iterator : Scan K g) (walk : Walk) : Type 0 where
  pub may : MayBeWalk cmp whole iterator walk
  pub limits : limited ≡ false → damaged ≡ false → IsOnePastLimit cmp (tables_of iterator) whole → ⊥
  pub intact : damaged ≡ false → (cut : Cut) → IsScanTorn cmp iterator whole cut → ⊥
  pub tables : (number : ℕ) → reads_table iterator number → ListsNumber (tables_of iterator) number × IsNumbered number × IsSome (table_at whole.seen.facts.files number)

-- Each iterator goes over the pairs of the machine's.
abbrev pub AreWalks : {K : Type 0} {g : _} → (List ℕ → List ℕ → Ordering) → Whole → Machine → BTreeMap ℕ (Scan K g) → Type 0
AreWalks cmp whole m kept = AreLive (IsLiveWalk cmp m.over_limit m.damaged whole) kept m.iterators
