-- A job that has begun.
use Rattle.std.proofs.Common.{◌≡◌, ◌⊎◌, ◌<◌, ℕ, None, IsTrue, List, [], map, inl, inr, refl, sym, ap, subst, ◌∙◌, arith}
use Rattle.std.proofs.lemmas.List.Sorted.{Contains-permutation}
use Rattle.std.specs.Cmp.{IsTotalOrder}
use Rattle.std.specs.FinMap.{IsAntisymmetric}
use Rattle.std.specs.List.Sorted.{IsPermutation}
use Rattle.coding.specs.declared.error.DbError.{DbError}
use Rattle.coding.specs.declared.error.DbError.TheVariants.{Corrupt}
use Rattle.compact.specs.JobEdits.{IsPlanProper}
use Rattle.compact.specs.Merging.{AreDisjoint, HaveOwnSequences, ReadsApart}
use Rattle.compact.specs.Outputs.{AreNumbered, IsMine, IsOwn, IsToCome, RefusesEntry, TablesWritten}
use Rattle.compact.proofs.Writing.{refuses-as}
use Rattle.cursor.specs.declared.merge.Merge.{Merge}
use Rattle.cursor.specs.Merging.{listed}
use Rattle.cursor.specs.Cuts.{Cut, Front, TornAt, first_cut}
use Rattle.edits.specs.declared.field.PlacedTable.{PlacedTable}
use Rattle.ikey.specs.declared.entry.Entry.{Entry}
use Rattle.ikey.specs.declared.key_order.KeyOrder.{Ghosts}
use Rattle.ikey.specs.Entries.{InternalEntry, entry_of}
use Rattle.ikey.specs.Orders.{Order}
use Rattle.ikey.specs.Sources.{SameEntries}
use Rattle.running_job.specs.declared.open_job.OpenJob.{OpenJob}
use Rattle.running_job.specs.internal.Beginning.{CanBegin, MayBegin}
use Rattle.running_job.specs.Running.{IsRunning, MayRun, deep_of}
use Rattle.running_job.proofs.Read.{Gathers, IsView, Keeps, Limited, Lists, Over, View, read_lists, reads_apart, seen_lists, whole_of, Torn}
use Rattle.running_job.proofs.Stepped.{IsJobOver, planned_as}
use Rattle.recover.specs.Directory.{Directory, IsConsistent}
use Rattle.recover.specs.Replacing.{AreParted}
use Rattle.recover.specs.Numbers.{IsFree}
use Rattle.recover.specs.Tables.{TableContent, tabled, table_at}
use Rattle.recover.proofs.Memberships.{from_chosen}
use Rattle.level_cursor.specs.InRows.{ListsNumber}
use Rattle.db_cursor.specs.declared.source_cursor.SourceCursor.{SourceCursor}
use Rattle.db_cursor.specs.internal.Inputs.{BeginsMerge, MayBeginMerge}
use Rattle.db_cursor.specs.Inputs.{IsMergeIntact, IsMergeLimited, IsMergeTorn, ReadsNoMemory}
use Rattle.db_cursor.specs.Places.{OneGoesOver}
use Rattle.db_cursor.specs.Scans.{IsOnePastLimit, IsOneTornFile, ListsMerged}
use Rattle.db_cursor.specs.Whole.{Whole}
use Rattle.db_cursor.proofs.KeptMerges.{moved_read_none}
use Rattle.version_laws.specs.Laws.{PartLaw}
use Rattle.version_laws.proofs.Version.{tabled_again}
use Rattle.table_access.specs.Tables.{SoundLasts}
use Rattle.table_access.specs.Telling.{IfCorrupt}
use Rattle.store.specs.Files.{Facts, Files}
use Rattle.table.specs.Reading.{Reads}
use Rattle.directory_writes.specs.Replacing.{placed_in, OwnsNone, IsPlanned}
use Rattle.directory_writes.specs.internal.Planned.{PlannedLaw}
use Rattle.directory_writes.proofs.JobTables.{among_contains, among_placed, contains_among, content_at}
use Rattle.directory_writes.proofs.TableFiles.{below_placed}
use Rattle.compact.specs.Deeper.{is_covered_below}
use Rattle.versions.proofs.Pairs.{among_contained}
use Rattle.versions.specs.declared.plan.JobPlan.{JobPlan}
use Rattle.versions.specs.Levels.{AreInOrder}
use Rattle.versions.specs.Plans.{IsPlanOf}

-- an input is a table of the directory, and has a number that is taken
input_below : (order : Order) (files : Files) (d : Directory) (next : ℕ) (tables : List PlacedTable) (inputs rest : List TableContent) → IsConsistent order files d → IsFree order files next → AreParted d.tables inputs rest → IsPermutation tables (placed_in inputs)
    → (number : ℕ) → ListsNumber tables number → number < next
input_below order files d next tables inputs rest consistent free parted permuted number is =
    let content = content_at inputs is.0 (contains_among (placed_in inputs) is.0 (Contains-permutation tables (placed_in inputs) is.0 permuted is.1)) in
    let there = among_contains (placed_in d.tables) content.0.placed (among_placed d.tables content.0 (from_chosen d.tables inputs rest content.0 parted content.1)) in
    let below = below_placed order files d next consistent free content.0.placed (among_contained content.0.placed (placed_in d.tables) there.0 there.1 there.2) in
    let same : content.0.placed.table.number ≡ number = ap (λ (p : PlacedTable). p.table.number) content.2 ∙ is.2 in
    omega (arith, below, same)

same_then : (xs ys zs : List Entry) → SameEntries xs ys → SameEntries zs ys → (ws : List Entry) → SameEntries zs ws → SameEntries xs ws
same_then xs ys zs h k ws l e = (λ i. (l e).0 ((k e).1 ((h e).0 i)), λ i. (h e).1 ((k e).0 ((l e).1 i)))

-- What a new merge over the inputs of a plan is, where a job can begin.
pub record IsReady {K : Type 0} {g : Ghosts K} (order : Order) (a : Whole) (next : ℕ) (tables : List PlacedTable) (plan : JobPlan) (d : Directory) (merge : Merge K (SourceCursor K g)) : Type 0 where
  pub inputs : List TableContent
  pub rest : List TableContent
  pub planned : IsPlanned order (is_covered_below order.cmp plan.output_level tables) plan d.tables inputs rest
  pub entries : List InternalEntry
  pub same : SameEntries (map entry_of entries) (tabled inputs)
  pub own : HaveOwnSequences entries
  pub lists : ListsMerged order.cmp merge a (listed entries None)
  pub limits : IsMergeLimited order.cmp merge a → IsOnePastLimit order.cmp plan.inputs.items a
  pub intact : IsMergeIntact order.cmp merge a
  pub below : (number : ℕ) → ListsNumber plan.inputs.items number → number < next

pub ready : {K : Type 0} {g : Ghosts K} (order : Order) (a : Whole) (next : ℕ) (tables : List PlacedTable) (plan : JobPlan) (d : Directory) (merge : Merge K (SourceCursor K g))
    → PlannedLaw → PartLaw → IsTotalOrder order.cmp → IsAntisymmetric order.cmp → AreInOrder order.cmp tables → AreInOrder order.cmp plan.inputs.items → IsPlanOf order.cmp tables plan
    → BeginsMerge order plan.inputs.items merge → CanBegin order a next tables d → IsReady order a next tables plan d merge
ready order a next tables plan d merge planned_law part_law total exact in_order inputs_in_order is begins can =
    let p = planned_law order a.seen.facts.files d tables plan total exact can.consistent can.listed in_order is in
    let part = part_law order a.seen.facts.files d p.0 p.1 plan.inputs.items total exact can.consistent p.2.parted p.2.planned inputs_in_order in
    let m = begins a part.0 can.sound part.1 in
    let again = tabled_again plan.inputs.items part.0 part.1.placed inputs_in_order.levels in
    record {
      inputs = p.0;
      rest = p.1;
      planned = p.2;
      entries = m.entries;
      same = same_then (map entry_of m.entries) (tabled part.0) _ m.same again (tabled p.0) part.2;
      own = m.own;
      lists = m.lists;
      limits = m.limits;
      intact = m.intact;
      below = input_below order a.seen.facts.files d next plan.inputs.items p.0 p.1 can.consistent can.free p.2.parted p.2.planned;
    }

-- The same over contents that the inputs may have.
pub record MayBeReady {K : Type 0} {g : Ghosts K} (order : Order) (a : Whole) (next : ℕ) (plan : JobPlan) (contents : List TableContent) (merge : Merge K (SourceCursor K g)) : Type 0 where
  pub entries : List InternalEntry
  pub same : SameEntries (map entry_of entries) (tabled contents)
  pub own : HaveOwnSequences entries
  pub lists : ListsMerged order.cmp merge a (listed entries None)
  pub limits : IsMergeLimited order.cmp merge a → IsOnePastLimit order.cmp plan.inputs.items a
  pub torn : (cut : Cut) → IsMergeTorn order.cmp merge a cut → IsOneTornFile order.cmp plan.inputs.items a cut
  pub below : (number : ℕ) → ListsNumber plan.inputs.items number → number < next

pub may_be_ready : {K : Type 0} {g : Ghosts K} (order : Order) (a : Whole) (next : ℕ) (plan : JobPlan) (contents : List TableContent) (merge : Merge K (SourceCursor K g))
    → MayBeginMerge order plan.inputs.items merge → MayBegin order a next plan contents → MayBeReady order a next plan contents merge
may_be_ready order a next plan contents merge begins can =
    let m = begins a contents can.sound can.may in
    record { entries = m.entries; same = m.same; own = m.own; lists = m.lists; limits = m.limits; torn = m.torn; below = can.below }

abbrev as_ready : {K : Type 0} {g : Ghosts K} (order : Order) (a : Whole) (next : ℕ) (tables : List PlacedTable) (plan : JobPlan) (d : Directory) (merge : Merge K (SourceCursor K g)) → (r : IsReady order a next tables plan d merge)
    → MayBeReady order a next plan r.inputs merge
as_ready order a next tables plan d merge r = record { entries = r.entries; same = r.same; own = r.own; lists = r.lists; limits = r.limits; torn = λ cut t. absurd (r.intact cut t); below = r.below }

-- an edit can name what is planned for a directory
pub nameable : (order : Order) (a : Whole) (next : ℕ) (tables : List PlacedTable) (plan : JobPlan) (d : Directory)
    → PlannedLaw → IsTotalOrder order.cmp → IsAntisymmetric order.cmp → AreInOrder order.cmp tables → IsPlanOf order.cmp tables plan → CanBegin order a next tables d → IsPlanProper plan
nameable order a next tables plan d law total exact in_order is can = (law order a.seen.facts.files d tables plan total exact can.consistent can.listed in_order is).2.proper

mine_none : (w : TablesWritten) (next number : ℕ) → w ≡ record { closed = []; at_hand = None } → IsMine w next number → IsToCome next number
mine_none w next number none mine = elim (subst (λ (u : TablesWritten). IsMine u next number) none mine) [
  | inl at ↦ absurd at
  | inr come ↦ come
]

numbered_none : (w : TablesWritten) (next : ℕ) → w ≡ record { closed = []; at_hand = None } → AreNumbered w next
numbered_none w next none = subst (λ (u : TablesWritten). AreNumbered u next) (sym none) (record { proper = tt; rise = tt; below = tt; at_hand = tt })

owns_none : (w : TablesWritten) (tables : List PlacedTable) → w ≡ record { closed = []; at_hand = None } → OwnsNone w tables
owns_none w tables none number own = elim (subst (λ (u : TablesWritten). IsOwn u number) none own) [
  | inl at ↦ absurd at
  | inr o ↦ absurd (omega (arith, o.2))
]

-- what a cursor over the inputs reads is apart from what is to come
pub none_over : {K : Type 0} {g : Ghosts K} (plan : JobPlan) (merge : Merge K (SourceCursor K g)) (next : ℕ) → ((number : ℕ) → OneGoesOver merge.children.items number → ListsNumber plan.inputs.items number) → ((number : ℕ) → ListsNumber plan.inputs.items number → number < next)
    → AreDisjoint (Over merge) (IsToCome next)
none_over plan merge next over below n read come = let lt = below n (over n read) in absurd (omega (arith, lt, come.0))

module _ {K : Type 0} {g : Ghosts K} {H S : Type 0} (order : Order) (v : View H S) (view : IsView v) where
  pub apart_before : SoundLasts → (plan : JobPlan) (merge : Merge K (SourceCursor K g)) (next : ℕ) → ReadsNoMemory order.cmp merge → ((number : ℕ) → OneGoesOver merge.children.items number → ListsNumber plan.inputs.items number) → ((number : ℕ) → ListsNumber plan.inputs.items number → number < next)
      → ReadsApart v.facts v.store_of v.with_store (Gathers v) (Keeps order.cmp v) merge (IsToCome next)
  apart_before lasts plan merge next none over below = reads_apart order.cmp v view merge lasts (IsToCome next) (λ n come. come.1) none (none_over plan merge next over below)

  pub may_begin : (a b : H) (next : ℕ) (plan : JobPlan) (contents : List TableContent) (merge : Merge K (SourceCursor K g)) (work : OpenJob K g) → (r : MayBeReady order (whole_of v a) next plan contents merge)
      → ReadsNoMemory order.cmp merge → ((number : ℕ) → OneGoesOver merge.children.items number → ListsNumber plan.inputs.items number)
      → work.job.plan ≡ plan → work.job.outputs ≡ record { closed = []; at_hand = None } → work.next ≡ 0 → work.merged ≡ 0
      → ((number : ℕ) → Over work.job.cursor number → Over merge number) → ((s t : H) → Keeps order.cmp v merge s t → Keeps order.cmp v work.job.cursor s t)
      → IsTrue (v.facts (v.store_of b)).faithful → Reads (v.facts (v.store_of a)) (v.facts (v.store_of b))
      → (Limited order.cmp v work.job.cursor b → Limited order.cmp v merge a) → ((cut : Cut) → Torn order.cmp v work.job.cursor b cut → Torn order.cmp v merge a cut)
      → IsJobOver order v (deep_of order.cmp work) work b next [] r.entries
      → MayRun order (whole_of v b) next contents work [] r.entries
  may_begin a b next plan contents merge work r none over plan_is outputs none_drawn none_merged within same t reads limit torn j = record {
    entries = r.same;
    own_sequences = r.own;
    merging = j.merging;
    goes_on = j.goes_on;
    stands = seen_lists order.cmp v view work.job.cursor b _ j.left;
    no_memory = moved_read_none order.cmp (whole_of v) v.with_memory view.remembered a merge work.job.cursor same none;
    over = λ n read. subst (λ (q : JobPlan). ListsNumber q.inputs.items n) (sym plan_is) (over n (within n read));
    outside = λ n is mine.
        let lt = r.below n (subst (λ (q : JobPlan). ListsNumber q.inputs.items n) plan_is is) in
        let come = mine_none work.job.outputs next n outputs mine in
        absurd (omega (arith, lt, come.0));
    unkept = j.ungathered;
    numbered = numbered_none work.job.outputs next outputs;
    drawn = omega (arith, none_drawn);
    counted = omega (arith, none_merged);
    limits = λ l.
        let past = r.limits (limit l) in
        subst (λ (q : JobPlan). IsOnePastLimit order.cmp q.inputs.items (whole_of v b)) (sym plan_is)
        (past.0, past.1, past.2, ap (λ (files : Files). table_at files past.0.table.number) (reads.files t) ∙ past.3, past.4);
    torn = λ cut l.
        let one = r.torn cut (torn cut l) in
        subst (λ (q : JobPlan). IsOneTornFile order.cmp q.inputs.items (whole_of v b) cut) (sym plan_is)
        (one.0, one.1, one.2, ap (λ (files : Files). table_at files one.0.table.number) (reads.files t) ∙ one.3, one.4);
  }

  pub begun : (a b : H) (next : ℕ) (tables : List PlacedTable) (plan : JobPlan) (d : Directory) (merge : Merge K (SourceCursor K g)) (work : OpenJob K g) → (r : IsReady order (whole_of v a) next tables plan d merge)
      → ReadsNoMemory order.cmp merge → ((number : ℕ) → OneGoesOver merge.children.items number → ListsNumber plan.inputs.items number)
      → work.job.plan ≡ plan → work.version.value.tables ≡ tables → work.job.outputs ≡ record { closed = []; at_hand = None } → work.next ≡ 0 → work.merged ≡ 0
      → ((number : ℕ) → Over work.job.cursor number → Over merge number) → ((s t : H) → Keeps order.cmp v merge s t → Keeps order.cmp v work.job.cursor s t)
      → IsTrue (v.facts (v.store_of b)).faithful → Reads (v.facts (v.store_of a)) (v.facts (v.store_of b))
      → (Limited order.cmp v work.job.cursor b → Limited order.cmp v merge a) → ((cut : Cut) → Torn order.cmp v work.job.cursor b cut → Torn order.cmp v merge a cut)
      → IsJobOver order v (deep_of order.cmp work) work b next [] r.entries
      → IsRunning order (whole_of v b) next d work [] r.entries
  begun a b next tables plan d merge work r none over plan_is tables_is outputs none_drawn none_merged within same t reads limit torn j =
      let m = may_begin a b next plan r.inputs merge work (as_ready order (whole_of v a) next tables plan d merge r) none over plan_is outputs none_drawn none_merged within same t reads limit torn j in
      record {
        inputs = r.inputs;
        rest = r.rest;
        planned = planned_as order d r.inputs r.rest plan work.job.plan tables work.version.value.tables plan_is tables_is r.planned;
        entries = m.entries;
        own_sequences = m.own_sequences;
        merging = m.merging;
        goes_on = m.goes_on;
        stands = m.stands;
        no_memory = m.no_memory;
        over = m.over;
        outside = m.outside;
        unkept = m.unkept;
        numbered = m.numbered;
        drawn = m.drawn;
        counted = m.counted;
        unused = owns_none work.job.outputs d.layout.tables.items outputs;
        limits = m.limits;
        intact = λ cut l. r.intact cut (torn cut l);
      }

  pub refuses_begin : (a : H) (new : Facts) (tables : List PlacedTable) (plan : JobPlan) (merge : Merge K (SourceCursor K g)) (e : DbError)
      → ((next : ℕ) (d : Directory) → CanBegin order (whole_of v a) next tables d → IsReady order (whole_of v a) next tables plan d merge)
      → RefusesEntry e (v.facts (v.store_of a)) new (IsTrue new.faithful → TornAt (Lists order.cmp v) (Torn order.cmp v) first_cut merge a) (IsTrue new.faithful → TornAt (Lists order.cmp v) (Torn order.cmp v) first_cut merge a ⊎ Limited order.cmp v merge a) ⊥
      → RefusesEntry e (v.facts (v.store_of a)) new
      (IsTrue new.faithful → (next : ℕ) (d : Directory) → CanBegin order (whole_of v a) next tables d → ⊥)
      (IsTrue new.faithful → (next : ℕ) (d : Directory) → CanBegin order (whole_of v a) next tables d → IsOnePastLimit order.cmp plan.inputs.items (whole_of v a))
      ⊥
  refuses_begin a new tables plan merge e are h =
      refuses-as e (v.facts (v.store_of a)) (v.facts (v.store_of a)) new _ _ _ _ _ _ refl
      (λ none t next d can. let r = are next d can in r.intact Front (none t (listed r.entries None) (read_lists order.cmp v view merge a _ r.lists)))
      (λ long t next d can. let r = are next d can in elim (long t) [
        | inl none ↦ absurd (r.intact Front (none (listed r.entries None) (read_lists order.cmp v view merge a _ r.lists)))
        | inr limited ↦ r.limits limited
      ])
      (λ u. u) h

  pub tears_begin : (a : H) (old new : Facts) (long spent : Type 0) (plan : JobPlan) (merge : Merge K (SourceCursor K g)) (e : DbError)
      → ((next : ℕ) (contents : List TableContent) → MayBegin order (whole_of v a) next plan contents → MayBeReady order (whole_of v a) next plan contents merge)
      → RefusesEntry e old new (IsTrue new.faithful → TornAt (Lists order.cmp v) (Torn order.cmp v) first_cut merge a) long spent
      → IfCorrupt e (IsTrue new.faithful → (next : ℕ) (contents : List TableContent) → MayBegin order (whole_of v a) next plan contents → IsPlanProper plan → IsOneTornFile order.cmp plan.inputs.items (whole_of v a) Front)
  tears_begin a old new long spent plan merge (Corrupt kind what) are h =
      λ t next contents can proper. let r = are next contents can in r.torn Front (h t (listed r.entries None) (read_lists order.cmp v view merge a _ r.lists))
  tears_begin a old new long spent plan merge e are h = tt
