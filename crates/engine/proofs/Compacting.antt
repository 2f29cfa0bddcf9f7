-- What calls beside a compaction that is under way leave of it.
use Rattle.std.proofs.Common.{◌≡◌, ◌≢◌, ◌⊎◌, ◌<◌, ◌≤◌, ◌^◌, ℕ, zero, suc, Bool, true, false, cond, is_some, List, [], ◌∷◌, ◌++◌, map, All, Any, Contains, Option, Some, None, MatchOption, inl, inr, refl, sym, ap, subst, ◌∙◌, arith}
use Rattle.std.proofs.lemmas.List.Sorted.{Contains-permutation}
use Rattle.std.specs.BTreeMap.{BTreeMap}
use Rattle.std.specs.FinMap.{get}
use Rattle.std.specs.List.{AllByRecursion}
use Rattle.std.specs.List.Sorted.{IsPermutation}
use Rattle.std.specs.Ordering.{nat_cmp, is_eq}
use Rattle.compact.specs.Laws.{SeesAsOne}
use Rattle.compact.specs.Outputs.{AreNumbered, IsOwn, TablesWritten, table_name}
use Rattle.edits.proofs.Orders.{unused, unused_from}
use Rattle.edits.specs.Edit.{IsTableProper}
use Rattle.edits.specs.Layout.{inserted, is_before, is_used}
use Rattle.cache.specs.Tables.{table_at}
use Rattle.edits.specs.Names.{IsNumbered, name_of}
use Rattle.edits.specs.declared.field.PlacedTable.{PlacedTable}
use Rattle.edits.specs.declared.field.TableFile.{TableFile}
use Rattle.edits.specs.declared.names.FileName.TheVariants.{Manifest, OldTable, Table}
use Rattle.ikey.specs.Entries.{InternalEntry, entry_of}
use Rattle.ikey.specs.Orders.{Order}
use Rattle.ikey.specs.Views.{Among}
use Rattle.running_job.specs.Running.{IsRunning, deep_of, is_input, is_to_write}
use Rattle.running_job.specs.internal.Staying.{LeavesInputs, LeavesWhole}
use Rattle.running_job.specs.declared.open_job.OpenJob.{OpenJob}
use Rattle.running_job.proofs.Staying.{may_stay, stays}
use Rattle.recover.proofs.Adding.{table_of}
use Rattle.recover.proofs.Memberships.{from_chosen}
use Rattle.recover.specs.Replacing.{AreParted}
use Rattle.recover.specs.Directory.{Directory, IsConsistent}
use Rattle.recover.specs.Numbers.{IsFree}
use Rattle.recover.specs.Tables.{InTables, TableContent}
use Rattle.level_cursor.specs.InRows.{ListsNumber}
use Rattle.db_cursor.specs.Scans.{tables_of}
use Rattle.db_cursor.specs.Whole.{Whole}
use Rattle.db_cursor.specs.declared.scan.Scan.{Scan}
use Rattle.table_access.proofs.Sounding.{same_table}
use Rattle.table_access.specs.Tables.{IsSound, KeepsOf}
use Rattle.store.specs.Files.{Files}
use Rattle.directory_writes.proofs.JobTables.{among_contains, among_placed, contains_among, content_at}
use Rattle.directory_writes.proofs.JobWritten.{hand_below}
use Rattle.directory_writes.proofs.TableFiles.{below_placed}
use Rattle.directory_writes.specs.Differing.{IsSameChange}
use Rattle.directory_writes.specs.Replacing.{placed_in, IsPlanned, OwnsNone}
use Rattle.directory_writes.specs.internal.Each.{HasSameOutputs}
use Rattle.db_cursor.specs.Inputs.{IsMergeIntact}
use Rattle.versions.proofs.Pairs.{among_contained}
use Rattle.versions.specs.Levels.{ListsSameTables}
use Rattle.engine.specs.internal.Compacting.{IsCompacting, IsRunningOver}
use Rattle.engine.specs.InUse.{IsJobTable}
use Rattle.engine.specs.Reads.{kept_at}
use Rattle.engine.proofs.InUse.{as_used}

-- ---- where there is one

pub each_job : {X : Type 0} (P Q : X → Type 0) (o : Option X) → ((x : X) → o ≡ Some x → P x → Q x) → MatchOption o (Unit {0}) P → MatchOption o (Unit {0}) Q
each_job P Q None f h = tt
each_job P Q (Some x) f h = f x refl h

-- ---- the numbers of its tables

closed_number : (cs : List TableFile) (next number : ℕ) → AllByRecursion IsTableProper cs → AllByRecursion (λ (t : TableFile). t.number < next) cs → Any (λ (t : TableFile). t.number ≡ number) cs → (0 < number) × (number < next)
closed_number [] next number p b (k, x, lt, is, e) = absurd (omega (arith, lt))
closed_number (t ∷ cs) next number p b (zero, x, lt, is, e) = let same : t.number ≡ number = ap (λ (o : TableFile). o.number) is ∙ e in (omega (arith, p.0.0, same), omega (arith, b.0, same))
closed_number (t ∷ cs) next number p b (suc k, x, lt, is, e) = closed_number cs next number p.1 b.1 (k, x, omega (arith, lt), is, e)

-- one that it has written has a number that was drawn
pub own_number : (w : TablesWritten) (next number : ℕ) → AreNumbered w next → IsOwn w number → (0 < number) × (number < next)
own_number w next number h (inl at) = hand_below w next number h at
own_number w next number h (inr closed) = closed_number w.closed next number h.proper h.below closed

-- a table of the directory has a number below those that are free
pub listed_number : (order : Order) (files : Files) (d : Directory) (next : ℕ) (content : TableContent) → IsConsistent order files d → IsFree order files next → InTables d.tables content
    → IsNumbered content.placed.table.number × (content.placed.table.number < next)
listed_number order files d next content consistent free i =
    let there = among_contains (placed_in d.tables) content.placed (among_placed d.tables content i) in (
      table_of order files d.tables content consistent.tables i,
      below_placed order files d next consistent free content.placed (among_contained content.placed (placed_in d.tables) there.0 there.1 there.2),
    )

-- so has its MANIFEST
pub manifest_below : (order : Order) (files : Files) (d : Directory) (next : ℕ) → IsConsistent order files d → IsFree order files next → d.manifest < next
manifest_below order files d next consistent free = free.listed (Manifest d.manifest) consistent.manifest.numbered (ap is_some consistent.manifest.there)

-- so has an input
pub input_number : (order : Order) (files : Files) (d : Directory) (next : ℕ) (tables : List PlacedTable) (inputs rest : List TableContent) → IsConsistent order files d → IsFree order files next → AreParted d.tables inputs rest → IsPermutation tables (placed_in inputs)
    → (number : ℕ) → ListsNumber tables number → IsNumbered number × (number < next)
input_number order files d next tables inputs rest consistent free parted permuted number is =
    let content = content_at inputs is.0 (contains_among (placed_in inputs) is.0 (Contains-permutation tables (placed_in inputs) is.0 permuted is.1)) in
    let same : content.0.placed.table.number ≡ number = ap (λ (p : PlacedTable). p.table.number) content.2 ∙ is.2 in
    subst (λ (n : ℕ). IsNumbered n × (n < next)) same (listed_number order files d next content.0 consistent free (from_chosen d.tables inputs rest content.0 parted content.1))

all_at : (P : PlacedTable → Type 0) (tables : List PlacedTable) (placed : PlacedTable) → AllByRecursion P tables → Among tables placed → P placed
all_at P [] placed h i = absurd i
all_at P (x ∷ tables) placed h (inl e) = subst P (sym e) h.0
all_at P (x ∷ tables) placed h (inr i) = all_at P tables placed h.1 i

-- none of the directory's tables has a number that is the job's
pub unowned : (w : TablesWritten) (tables : List PlacedTable) (number : ℕ) → OwnsNone w tables → ListsNumber tables number → IsOwn w number → ⊥
unowned w tables number none has own = all_at (λ (x : PlacedTable). number ≢ x.table.number) tables has.0 (unused number tables (none number own)) (contains_among tables has.0 has.1) (sym has.2)

pub all_contains : (P : PlacedTable → Type 0) (tables : List PlacedTable) (placed : PlacedTable) → All P tables → Contains tables placed → P placed
all_contains P tables placed h at = subst P at.2 (h at.0 placed at.1)

-- the same of a version that has them
pub version_unowned : (w : TablesWritten) (order : Order) (files : Files) (d : Directory) (contents : List TableContent) (tables : List PlacedTable) (number : ℕ) → IsConsistent order files d → contents ≡ d.tables → ListsSameTables (placed_in contents) tables
    → OwnsNone w d.layout.tables.items → ListsNumber tables number → IsOwn w number → ⊥
version_unowned w order files d contents tables number consistent same listed none has own =
    let at = all_contains (Contains (placed_in contents)) tables has.0 listed.only has.1 in
    unowned w d.layout.tables.items number none (has.0, subst (λ (ps : List PlacedTable). Contains ps has.0) (ap placed_in same ∙ consistent.placed) at, has.2) own

-- and their numbers were drawn
pub version_number : (order : Order) (files : Files) (d : Directory) (next : ℕ) (contents : List TableContent) (tables : List PlacedTable) (number : ℕ) → IsConsistent order files d → IsFree order files next → contents ≡ d.tables → ListsSameTables (placed_in contents) tables
    → ListsNumber tables number → IsNumbered number × (number < next)
version_number order files d next contents tables number consistent free same listed has =
    let content = content_at d.tables has.0 (contains_among (placed_in d.tables) has.0 (subst (λ (cs : List TableContent). Contains (placed_in cs) has.0) same (all_contains (Contains (placed_in contents)) tables has.0 listed.only has.1))) in
    subst (λ (n : ℕ). IsNumbered n × (n < next)) (ap (λ (p : PlacedTable). p.table.number) content.2 ∙ has.2) (listed_number order files d next content.0 consistent free content.1)

-- nor where one is put in whose number isn't
all_inserted : (P : PlacedTable → Type 0) (new : PlacedTable) (tables : List PlacedTable) → P new → AllByRecursion P tables → AllByRecursion P (inserted new tables)
all_inserted P new [] p h = (p, tt)
all_inserted P new (placed ∷ tables) p h = at (is_before new placed) (all_inserted P new tables p h.1)
  where
    at : (b : Bool) → AllByRecursion P (inserted new tables) → AllByRecursion P (cond b (new ∷ placed ∷ tables) (placed ∷ inserted new tables))
    at true later = (p, h)
    at false later = (h.0, later)

pub owns_none_with : (w : TablesWritten) (new : PlacedTable) (tables after : List PlacedTable) → after ≡ inserted new tables → (IsOwn w new.table.number → ⊥) → OwnsNone w tables → OwnsNone w after
owns_none_with w new tables after is other none number own =
    subst (λ (ts : List PlacedTable). is_used number ts ≡ false) (sym is)
    (unused_from number (inserted new tables)
    (all_inserted (λ (x : PlacedTable). x.table.number ≢ number) new tables (λ same. other (subst (IsOwn w) (sym same) own)) (turned number tables (unused number tables (none number own)))))
  where
    turned : (number : ℕ) (ts : List PlacedTable) → AllByRecursion (λ (x : PlacedTable). number ≢ x.table.number) ts → AllByRecursion (λ (x : PlacedTable). x.table.number ≢ number) ts
    turned number [] h = tt
    turned number (x ∷ ts) h = ((λ same. h.0 (sym same)), turned number ts h.1)

-- ---- what is kept under an id

abbrev pub Known : BTreeMap ℕ ℕ → ℕ → ℕ → Type 0
Known snapshots last sequence = ((other : ℕ) × (kept_at snapshots other ≡ Some sequence)) ⊎ (last ≤ sequence)

-- the snapshots are as they were, but for such as see all that is there
abbrev pub AreKnown : BTreeMap ℕ ℕ → ℕ → BTreeMap ℕ ℕ → Type 0
AreKnown snapshots last kept = (id sequence : ℕ) → kept_at kept id ≡ Some sequence → Known snapshots last sequence

pub known_same : (snapshots kept : BTreeMap ℕ ℕ) (last : ℕ) → ((q : ℕ) → kept_at kept q ≡ kept_at snapshots q) → AreKnown snapshots last kept
known_same snapshots kept last same id sequence is = inl (id, sym (same id) ∙ is)

pub known_itself : (snapshots : BTreeMap ℕ ℕ) (last : ℕ) → AreKnown snapshots last snapshots
known_itself snapshots last = known_same snapshots snapshots last (λ q. refl)

either : {X : Type 0} (b : Bool) (x : Option X) (y : Option X) (z : X) → cond b x y ≡ Some z → (x ≡ Some z) ⊎ (y ≡ Some z)
either true x y z is = inl is
either false x y z is = inr is

-- one was put under an id, or removed
pub known_updated : (snapshots kept : BTreeMap ℕ ℕ) (last id : ℕ) (put : Option ℕ) → ((sequence : ℕ) → put ≡ Some sequence → last ≤ sequence) → ((q : ℕ) → kept_at kept q ≡ cond (is_eq (nat_cmp id q)) put (kept_at snapshots q)) → AreKnown snapshots last kept
known_updated snapshots kept last id put above updates q sequence is = elim (either (is_eq (nat_cmp id q)) put (kept_at snapshots q) sequence (sym (updates q) ∙ is)) [
  | inl new ↦ inr (above sequence new)
  | inr old ↦ inl (q, old)
]

module _ {K : Type 0} {g : _} where
  -- its version is that of an iterator that was open, or has these tables
  abbrev pub HasKnown : BTreeMap ℕ (Scan K g) → List PlacedTable → Scan K g → Type 0
  HasKnown iterators tables scan = ((other : ℕ) × (was : Scan K g) × (kept_at iterators other ≡ Some was) × (tables_of scan ≡ tables_of was)) ⊎ (tables_of scan ≡ tables)

  abbrev pub HaveKnown : BTreeMap ℕ (Scan K g) → List PlacedTable → BTreeMap ℕ (Scan K g) → Type 0
  HaveKnown iterators tables open_ones = (id : ℕ) (scan : Scan K g) → kept_at open_ones id ≡ Some scan → HasKnown iterators tables scan

  pub have_same : (iterators open_ones : BTreeMap ℕ (Scan K g)) (tables : List PlacedTable) → ((q : ℕ) → kept_at open_ones q ≡ kept_at iterators q) → HaveKnown iterators tables open_ones
  have_same iterators open_ones tables same id scan is = inl (id, scan, sym (same id) ∙ is, refl)

  pub have_itself : (iterators : BTreeMap ℕ (Scan K g)) (tables : List PlacedTable) → HaveKnown iterators tables iterators
  have_itself iterators tables = have_same iterators iterators tables (λ q. refl)

  pub have_updated : (iterators open_ones : BTreeMap ℕ (Scan K g)) (tables : List PlacedTable) (id : ℕ) (put : Option (Scan K g)) → ((scan : Scan K g) → put ≡ Some scan → HasKnown iterators tables scan)
      → ((q : ℕ) → kept_at open_ones q ≡ cond (is_eq (nat_cmp id q)) put (kept_at iterators q)) → HaveKnown iterators tables open_ones
  have_updated iterators open_ones tables id put known updates q scan is = elim (either (is_eq (nat_cmp id q)) put (kept_at iterators q) scan (sym (updates q) ∙ is)) [
    | inl new ↦ known scan new
    | inr old ↦ inl (q, scan, old, refl)
  ]

-- ---- without damage

-- a job is under way over the contents that its inputs have
abbrev pub running_whole : {K : Type 0} {g : _} (order : Order) (damaged : Bool) (whole : Whole) (ideal : Files) (next : ℕ) (d : Directory) (work : OpenJob K g) (came left : List InternalEntry) → damaged ≡ false
    → IsRunningOver order damaged whole ideal next d work came left → IsRunning order whole next d work came left
running_whole order damaged whole ideal next d work came left is r =
    let h = r.may in
    record {
      inputs = r.inputs;
      rest = r.rest;
      planned = r.planned;
      entries = h.entries;
      own_sequences = h.own_sequences;
      merging = h.merging;
      goes_on = h.goes_on;
      stands = h.stands;
      no_memory = h.no_memory;
      over = h.over;
      outside = h.outside;
      unkept = h.unkept;
      numbered = h.numbered;
      drawn = h.drawn;
      counted = h.counted;
      unused = r.unused;
      limits = h.limits;
      intact = r.intact is;
    }

-- ---- it goes on beside what has changed

module _ {K : Type 0} {g : _} (order : Order) (old new : Whole) (next more : ℕ) (snapshots kept : BTreeMap ℕ ℕ) (iterators open_ones : BTreeMap ℕ (Scan K g)) (tables : List PlacedTable) (damaged : Bool) (ideal after : Files) (d e : Directory) (work : OpenJob K g)
    (c : IsCompacting order damaged old ideal next snapshots iterators d work) where
  seen_on : AreKnown snapshots old.memory.last kept → (id sequence : ℕ) → kept_at kept id ≡ Some sequence → SeesAsOne (map entry_of (c.came ++ c.left)) work.job.selection.snapshots sequence
  seen_on known id sequence is = elim (known id sequence is) [
    | inl before ↦ c.seen before.0 sequence before.1
    | inr above ↦ (c.reach, c.begun.kept, (let used = c.begun.used in omega (arith, above, used)), λ entry i le. c.begun.above entry i)
  ]

  unread_on : HaveKnown iterators tables open_ones → ((number : ℕ) → ListsNumber tables number → IsOwn work.job.outputs number → ⊥) → (id : ℕ) (scan : Scan K g) → kept_at open_ones id ≡ Some scan → (number : ℕ) → ListsNumber (tables_of scan) number → IsOwn work.job.outputs number → ⊥
  unread_on known none id scan is number has own = elim (known id scan is) [
    | inl before ↦ c.unread before.0 before.1 before.2 number (subst (λ (ts : List PlacedTable). ListsNumber ts number) before.3 has) own
    | inr same ↦ none number (subst (λ (ts : List PlacedTable). ListsNumber ts number) same has) own
  ]

  pub goes_on_as : IsRunningOver order damaged new after more e work c.came c.left → old.memory.last ≤ new.memory.last → AreKnown snapshots old.memory.last kept → HaveKnown iterators tables open_ones
      → ((number : ℕ) → ListsNumber tables number → IsOwn work.job.outputs number → ⊥) → e.manifest ≡ d.manifest
      → IsCompacting order damaged new after more kept open_ones e work
  goes_on_as running last known have none manifest = record {
    came = c.came;
    left = c.left;
    running = running;
    reach = c.reach;
    begun = record { kept = c.begun.kept; used = (let used = c.begun.used in omega (arith, used, last)); above = c.begun.above };
    seen = seen_on known;
    unread = unread_on have none;
    since = λ number own. subst (λ (k : ℕ). k ≤ number) (sym manifest) (c.since number own);
  }

  -- the files of its tables are as they were, under both of their names
  abbrev pub KeepsJobFiles : Type 0
  KeepsJobFiles = (number : ℕ) → IsNumbered number → number < next → IsJobTable (Some work) number
      → LeavesWhole old.seen.facts new.seen.facts (name_of (Table number)) × (get new.seen.facts.files (name_of (OldTable number)) ≡ get old.seen.facts.files (name_of (OldTable number)))

  -- its tables read as they did, and the files with their newer names are as they were
  abbrev pub KeepsJobTables : Type 0
  KeepsJobTables = (number : ℕ) → IsNumbered number → number < next → IsJobTable (Some work) number
      → LeavesWhole old.seen.facts new.seen.facts (name_of (Table number)) × (table_at new.seen.facts.files number ≡ table_at old.seen.facts.files number)

  by_names : KeepsJobFiles → KeepsJobTables
  by_names files number numbered below one = let both = files number numbered below one in (both.0, same_table old.seen.facts.files new.seen.facts.files number both.0.0 both.1)

  module _ (consistent : IsConsistent order ideal d) (free : IsFree order ideal next) (fits : next < 2 ^ 64) where
    pub is_input_number : (number : ℕ) → is_input work number → IsNumbered number × (number < next)
    is_input_number number is = input_number order ideal d next work.job.plan.inputs.items c.running.inputs c.running.rest consistent free c.running.planned.parted c.running.planned.planned number is

    pub is_own_number : (number : ℕ) → IsOwn work.job.outputs number → IsNumbered number × (number < next)
    is_own_number number own = let n = own_number work.job.outputs next number c.running.may.numbered own in ((n.0, omega (arith, n.1, fits)), n.1)

    -- a table that isn't the job's, and has a number that was drawn, isn't one that the job writes
    pub not_to_write : (number : ℕ) → number < next → (IsOwn work.job.outputs number → ⊥) → is_to_write work next number → ⊥
    not_to_write number below other (inl at) = other (inl at)
    not_to_write number below other (inr come) = absurd (omega (arith, come.0, below))

    to_write_before : next ≤ more → (number : ℕ) → is_to_write work more number → is_to_write work next number
    to_write_before le number (inl at) = inl at
    to_write_before le number (inr come) = inr (omega (arith, le, come.0), come.1)

    pub leaves_inputs : next ≤ more → KeepsJobTables → (IsSound order.cmp old.seen → IsSound order.cmp new.seen) → ((number : ℕ) → KeepsOf new.seen number → KeepsOf old.seen number ⊎ ((number < next) × (IsOwn work.job.outputs number → ⊥)))
        → LeavesInputs order work old new next more
    leaves_inputs le files sound gathered = record {
      drawn = le;
      files = λ number is.
          let n = is_input_number number is in
          (files number n.0 n.1 (inl (as_used work.job.plan.inputs.items number is))).1;
      outputs = λ number own. let n = is_own_number number own in (files number n.0 n.1 (inr own)).0;
      sound = sound;
      unkept = λ number is mine. elim (gathered number is) [
        | inl before ↦ c.running.may.unkept number before (to_write_before le number mine)
        | inr other ↦ not_to_write number other.0 other.1 (to_write_before le number mine)
      ];
    }

    -- what it wrote is the same in both still
    same_still : KeepsJobTables → IsSameChange old.seen.facts.files new.seen.facts.files ideal after → HasSameOutputs work.job.outputs new.seen.facts.files after
    same_still files change number own =
        let n = is_own_number number own in
        let stayed = (files number n.0 n.1 (inr own)).0.0 in
        change.stays (table_name number) stayed ∙ c.running.same number own ∙ sym stayed

    -- and no block is torn that wasn't
    intact_still : LeavesInputs order work old new next more → damaged ≡ false → IsMergeIntact order.cmp work.job.cursor new
    intact_still leaves is = (stays order work old new next more d d c.came c.left (running_whole order damaged old ideal next d work c.came c.left is c.running) (record {
      drawn = leaves.drawn;
      files = leaves.files;
      outputs = leaves.outputs;
      sound = leaves.sound;
      unkept = leaves.unkept;
      rest = c.running.rest;
      planned = c.running.planned;
      unused = c.running.unused;
    })).intact

    -- it is under way over what there is then
    pub runs_still : next ≤ more → KeepsJobTables → (IsSound order.cmp old.seen → IsSound order.cmp new.seen) → ((number : ℕ) → KeepsOf new.seen number → KeepsOf old.seen number ⊎ ((number < next) × (IsOwn work.job.outputs number → ⊥)))
        → IsSameChange old.seen.facts.files new.seen.facts.files ideal after → (rest : List TableContent) → IsPlanned order (deep_of order.cmp work) work.job.plan e.tables c.running.inputs rest → OwnsNone work.job.outputs e.layout.tables.items
        → IsRunningOver order damaged new after more e work c.came c.left
    runs_still le files sound gathered change rest planned unused =
        let leaves = leaves_inputs le files sound gathered in
        record {
          inputs = c.running.inputs;
          rest = rest;
          planned = planned;
          unused = unused;
          may = may_stay order work old new next more c.running.inputs c.came c.left c.running.may leaves;
          same = same_still files change;
          intact = intact_still leaves;
        }

    -- the same holds if the directory has the same tables
    pub goes_beside_read : next ≤ more → KeepsJobTables → (IsSound order.cmp old.seen → IsSound order.cmp new.seen) → ((number : ℕ) → KeepsOf new.seen number → KeepsOf old.seen number ⊎ ((number < next) × (IsOwn work.job.outputs number → ⊥)))
        → IsSameChange old.seen.facts.files new.seen.facts.files ideal after → e.tables ≡ d.tables → e.layout.tables.items ≡ d.layout.tables.items → e.manifest ≡ d.manifest → old.memory.last ≤ new.memory.last → AreKnown snapshots old.memory.last kept → HaveKnown iterators tables open_ones
        → ((number : ℕ) → ListsNumber tables number → IsOwn work.job.outputs number → ⊥) → IsCompacting order damaged new after more kept open_ones e work
    goes_beside_read le files sound gathered change tables_same listed manifest last known have none =
        goes_on_as
        (runs_still le files sound gathered change c.running.rest
        (subst (λ (cs : List TableContent). IsPlanned order (deep_of order.cmp work) work.job.plan cs c.running.inputs c.running.rest) (sym tables_same) c.running.planned)
        (subst (λ (ps : List PlacedTable). OwnsNone work.job.outputs ps) (sym listed) c.running.unused)) last known have none manifest

    pub goes_beside : next ≤ more → KeepsJobFiles → (IsSound order.cmp old.seen → IsSound order.cmp new.seen) → ((number : ℕ) → KeepsOf new.seen number → KeepsOf old.seen number ⊎ ((number < next) × (IsOwn work.job.outputs number → ⊥)))
        → IsSameChange old.seen.facts.files new.seen.facts.files ideal after → e.tables ≡ d.tables → e.layout.tables.items ≡ d.layout.tables.items → e.manifest ≡ d.manifest → old.memory.last ≤ new.memory.last → AreKnown snapshots old.memory.last kept → HaveKnown iterators tables open_ones
        → ((number : ℕ) → ListsNumber tables number → IsOwn work.job.outputs number → ⊥) → IsCompacting order damaged new after more kept open_ones e work
    goes_beside le files sound gathered change tables_same listed manifest last known have none = goes_beside_read le (by_names files) sound gathered change tables_same listed manifest last known have none
