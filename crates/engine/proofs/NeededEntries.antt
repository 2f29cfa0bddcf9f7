-- What the end of a compaction of all leaves: the entries of the tables are those that must be
-- kept.
use Rattle.std.proofs.Common.{◌≡◌, ◌&&◌, ◌<◌, ℕ, Bool, true, false, nat_lt, List, [], ◌∷◌, ◌++◌, map, All, Contains, Option, Some, None, MatchOption, IsTrue, slice_index_or, inl, inr, sym, ap, subst, ◌∙◌, arith}
use Rattle.std.proofs.lemmas.Bool.{le-ltb}
use Rattle.std.proofs.lemmas.List.Folds.{list_any_none}
use Rattle.std.proofs.lemmas.List.Sorted.{Contains-permutation}
use Rattle.std.specs.Map.{values_of}
use Rattle.compact.proofs.Keeping.{keeps_needed}
use Rattle.compact.proofs.Parts.{part-all, part-members}
use Rattle.compact.specs.Deeper.{is_covered_below}
use Rattle.compact.specs.Needed.{AreNeeded, IsNeeded, IsSeenBySome}
use Rattle.cursor.specs.Places.{Cmp}
use Rattle.edits.specs.Snapshot.{AreInPlace}
use Rattle.edits.specs.declared.field.PlacedTable.{PlacedTable}
use Rattle.ikey.specs.Entries.{InternalEntry, entry_of}
use Rattle.ikey.specs.Orders.{Order}
use Rattle.ikey.specs.Views.{Among}
use Rattle.ikey.specs.declared.entry.Entry.{Entry}
use Rattle.running_job.specs.Running.{deep_of}
use Rattle.running_job.specs.declared.open_job.OpenJob.{OpenJob}
use Rattle.memtables.specs.Memories.{Memories}
use Rattle.recover.proofs.Flushing.{kept_by}
use Rattle.recover.proofs.Memberships.{among_chosen, among_contents, from_rest, from_tabled}
use Rattle.recover.specs.internal.Changes.{compacted}
use Rattle.recover.specs.Directory.{Directory, IsConsistent}
use Rattle.recover.specs.Tables.{InTables, TableContent, tabled}
use Rattle.store.specs.Files.{Files}
use Rattle.directory_writes.proofs.JobTables.{contains_among, content_at, row_of}
use Rattle.directory_writes.proofs.PlanParts.{parts_apart}
use Rattle.directory_writes.specs.Replacing.{placed_in, IsPlanned}
use Rattle.directory_writes.specs.internal.Install.{HasInstalled}
use Rattle.versions.specs.Levels.{ListsSameTables}
use Rattle.versions.specs.Plans.{IsWholePlan}
use Rattle.versions.specs.Ranges.{covers}
use Rattle.versions.specs.declared.plan.JobPlan.{JobPlan}
use Rattle.engine.specs.declared.state.DbState.{DbState}
use Rattle.engine.specs.OpenDb.{OpenDb, open_db}
use Rattle.engine.specs.Needed.{HasNeeded, IsForLive, live_sequences, none_below}
use Rattle.engine.specs.internal.TakingAll.{IsTakingAll, TakesAll}
use Rattle.engine.proofs.Compacting.{all_contains}
use Rattle.engine.proofs.Reading.{has_placed}

-- ---- entries that are needed

-- those that are needed, and no deeper table covers them, are so where more is read, in whatever
-- order they stand
module _ (entries others : List Entry) (fewer more : List ℕ) (to : (entry : Entry) → Among others entry → Among entries entry) (back : (entry : Entry) → Among entries entry → Among others entry)
    (within : (sequence : ℕ) → Contains fewer sequence → Contains more sequence) where
  visible_too : (entry : Entry) → IsSeenBySome entries fewer entry → IsSeenBySome others more entry
  visible_too entry h = (h.0, within h.0 h.1, record { member = back entry h.2.member; seen = h.2.seen; greatest = λ other i same up. h.2.greatest other (to other i) same up })

  needed_too : (deep : List ℕ → Bool) → ((key : List ℕ) → IsTrue (deep key) → ⊥) → (entry : Entry) → IsNeeded entries fewer deep entry → IsNeeded others more none_below entry
  needed_too deep none entry h = record {
    visible = visible_too entry h.visible;
    hides = λ is. elim (h.hides is) [
      | inl covered ↦ absurd (none entry.key covered)
      | inr put ↦ inr (put.0, record { same_key = put.1.same_key; older = put.1.older; is_put = put.1.is_put; visible = visible_too put.0 put.1.visible })
    ];
  }

  pub all_needed : (deep : List ℕ → Bool) → ((key : List ℕ) → IsTrue (deep key) → ⊥) → AreNeeded entries fewer deep entries → AreNeeded others more none_below others
  all_needed deep none all = part-all (IsNeeded others more none_below) others (λ entry i. needed_too deep none entry (part-members (IsNeeded entries fewer deep) entries entries entry all (to entry i)).1)

-- ---- tables of the last level

-- none lies below
none_covered : (cmp : Cmp) (tables : List PlacedTable) (key : List ℕ) → All (λ (placed : PlacedTable). placed.level < 7) tables → IsTrue (is_covered_below cmp 6 tables key) → ⊥
none_covered cmp tables key levels is =
    let none : is_covered_below cmp 6 tables key ≡ false = list_any_none (λ (p : PlacedTable). nat_lt 6 p.level && covers cmp p key) tables
    (λ k d lt. ap (λ (b : Bool). b && covers cmp (slice_index_or tables k d) key) (le-ltb 6 (slice_index_or tables k d).level (let below = levels k d lt in omega (arith, below)))) in
    let bad : true ≡ false = sym is ∙ none in
    cc

-- ---- the outputs are all that is left

module _ {K : Type 0} {g : _} (order : Order) (old new : Files) (d : Directory) (work : OpenJob K g) (tables : List PlacedTable) (inputs rest : List TableContent) (came : List InternalEntry) (consistent : IsConsistent order old d)
    (planned : IsPlanned order (deep_of order.cmp work) work.job.plan d.tables inputs rest) (listed : ListsSameTables (placed_in d.tables) tables) (levels : All (λ (placed : PlacedTable). placed.level < 7) tables)
    (all : work.job.plan.inputs.items ≡ tables) (output : work.job.plan.output_level ≡ 6) (version : work.version.value.tables ≡ tables) where
  -- no table is beside the inputs
  none_beside : (content : TableContent) → InTables rest content → ⊥
  none_beside content i =
      let placed = content.placed in
      let row = row_of d.tables (subst (λ (ts : List PlacedTable). AreInPlace ts) (sym consistent.placed) (kept_by order old d.manifest d.edits d.layout consistent.manifest).in_place) in
      let here : Contains (placed_in d.tables) placed = has_placed d.tables content (from_rest d.tables inputs rest content planned.parted i) in
      let taken : Contains work.job.plan.inputs.items placed = subst (λ (ts : List PlacedTable). Contains ts placed) (sym all) (all_contains (Contains tables) (placed_in d.tables) placed listed.all here) in
      let other = content_at inputs placed (contains_among (placed_in inputs) placed (Contains-permutation work.job.plan.inputs.items (placed_in inputs) placed planned.planned taken)) in
      parts_apart d.tables inputs rest other.0 content planned.parted row other.1 i (ap (λ (p : PlacedTable). p.table.number) other.2)

  none_deep : (key : List ℕ) → IsTrue (deep_of order.cmp work key) → ⊥
  none_deep key is =
      none_covered order.cmp tables key levels
      (subst (λ (level : ℕ). IsTrue (is_covered_below order.cmp level tables key)) output (subst (λ (ts : List PlacedTable). IsTrue (is_covered_below order.cmp work.job.plan.output_level ts key)) version is))

  module _ (has : HasInstalled order (deep_of order.cmp work) work.job.plan.output_level work.job.selection.snapshots old new came d inputs rest) where
    from_outputs : (entry : Entry) → Among (tabled has.contents) entry → Among (tabled has.outputs) entry
    from_outputs entry i = elim (among_contents has.contents has.outputs rest entry has.compaction.new_tables i) [
      | inl out ↦ out
      | inr beside ↦ (let content = from_tabled rest entry beside in absurd (none_beside content.0 content.1))
    ]

    pub installed_needed : (sequences : List ℕ) → ((sequence : ℕ) → Contains work.job.selection.snapshots sequence → Contains sequences sequence) → HasNeeded order new sequences
    installed_needed sequences only =
        let kept = work.job.selection.snapshots in
        record {
          directory = compacted d (d.edits ++ has.edit ∷ []) has.next has.contents;
          consistent = has.consistent;
          needed = all_needed (tabled has.outputs) (tabled has.contents) kept sequences from_outputs (λ entry i. among_chosen has.contents has.outputs rest entry has.compaction.new_tables i) only (deep_of order.cmp work) none_deep
              (keeps_needed (map entry_of came) (tabled has.outputs) kept (deep_of order.cmp work) has.put.needed);
        }

-- ---- a job that takes all tables

module _ {K : Type 0} {g : _} where
  pub taking : (db : OpenDb K g) (work : OpenJob K g) → db.job ≡ Some work → IsTakingAll db → TakesAll db work
  taking db work is h = subst (λ (o : Option (OpenJob K g)). MatchOption o ⊥ (TakesAll db)) is h

  pub not_taking : (db : OpenDb K g) → db.job ≡ None → IsTakingAll db → ⊥
  not_taking db is h = subst (λ (o : Option (OpenJob K g)). MatchOption o ⊥ (TakesAll db)) is h

  -- it goes on
  pub takes_on : (before after : OpenDb K g) (work more : OpenJob K g) → more.job.plan ≡ work.job.plan → more.version ≡ work.version → more.job.selection.snapshots ≡ work.job.selection.snapshots → after.tables ≡ before.tables
      → live_sequences after ≡ live_sequences before → TakesAll before work → TakesAll after more
  takes_on before after work more plan version snapshots tables sequences h = record {
    inputs = ap (λ p. p.inputs.items) plan ∙ h.inputs ∙ sym tables;
    output = ap (λ p. p.output_level) plan ∙ h.output;
    version = ap (λ v. v.value.tables) version ∙ h.version ∙ sym tables;
    sequences = λ s i. subst (λ (ss : List ℕ). Contains ss s) (sym sequences) (h.sequences s (subst (λ (ss : List ℕ). Contains ss s) snapshots i));
  }

  -- one that is for the sequence numbers that are read at is so where it is for the same, and the
  -- same are read at
  pub still_live : (work more : OpenJob K g) (before after : OpenDb K g) → more.job.selection.snapshots ≡ work.job.selection.snapshots → live_sequences after ≡ live_sequences before → IsForLive work before → IsForLive more after
  still_live work more before after kept same h = record {
    each = λ s i. subst (λ (ss : List ℕ). Contains ss s) (sym kept) (h.each s (subst (λ (ss : List ℕ). Contains ss s) same i));
    only = λ s i. subst (λ (ss : List ℕ). Contains ss s) (sym same) (h.only s (subst (λ (ss : List ℕ). Contains ss s) kept i));
  }

  -- one that was begun for all
  pub takes_begun : (state : DbState K g) (memory after_memory : Memories) (plan : JobPlan) (work : OpenJob K g) (sequences : List ℕ) → work.job.plan ≡ plan → work.version.value.tables ≡ state.version.value.tables → work.job.selection.snapshots ≡ sequences → after_memory.last ≡ memory.last
      → ((sequence : ℕ) → Contains sequences sequence → Contains (live_sequences (open_db memory state)) sequence) → IsWholePlan state.version.value.tables plan → TakesAll (open_db after_memory (record state { job = Some work })) work
  takes_begun state memory after_memory plan work sequences plan_is version kept last only planned = record {
    inputs = ap (λ p. p.inputs.items) plan_is ∙ planned.inputs;
    output = ap (λ p. p.output_level) plan_is ∙ planned.output;
    version = version;
    sequences = λ s i. subst (λ (n : ℕ). Contains (n ∷ values_of state.snapshots.entries) s) (sym last) (only s (subst (λ (ss : List ℕ). Contains ss s) kept i));
  }
