-- That a compaction of all leaves what is needed: after its first pieces, without tables, and
-- beside the machine's map.
use Rattle.std.proofs.Common.{◌≡◌, ◌++◌, ℕ, Bool, true, false, List, [], ◌∷◌, Option, Some, None, IsSome, MatchOption, Result, Ok, Err, MatchBool, OnOk, cond, inl, inr, refl, sym, ap, subst, ◌∙◌, arith, append-nil}
use Rattle.std.proofs.lemmas.Bool.{eq-eqb}
use Rattle.std.specs.BTreeMap.{BTreeMap}
use Rattle.std.specs.Bool.{nat_eq}
use Rattle.std.specs.Cmp.{IsTotalOrder, unsigned_tied}
use Rattle.std.specs.Map.{lookup, values_of}
use Rattle.std.specs.Option.{option_and_then}
use Rattle.std.specs.Ordering.{is_eq, nat_cmp}
use Rattle.coding.specs.declared.error.DbError.{DbError}
use Rattle.compact.proofs.Keeping.{leaves_pairs}
use Rattle.compact.specs.Laws as laws
use Rattle.compact.specs.Laws.{ArePairsOf}
use Rattle.compact.specs.Needed.{AreNeeded}
use Rattle.edits.specs.declared.field.PlacedTable.{PlacedTable}
use Rattle.ikey.specs.Orders.{Order}
use Rattle.ikey.specs.Views.{Contents, IsView}
use Rattle.ikey.specs.declared.entry.Entry.{Entry}
use Rattle.memtables.specs.Memories.{Memories, inserts_of, logged_in, older_at, sealed_inserts}
use Rattle.recover.proofs.Distinct.{distinct}
use Rattle.recover.proofs.OneMeaning.{same_directory}
use Rattle.recover.specs.Replacing.{AreDistinct}
use Rattle.recover.specs.Logs.{logged}
use Rattle.recover.specs.Tables.{TableContent, tabled}
use Rattle.table_access.specs.Tables.{Seen}
use Rattle.directory_writes.proofs.PlanParts.{distinct_front}
use Rattle.directory_writes.specs.Replacing.{placed_in}
use Rattle.running_job.specs.declared.open_job.OpenJob.{OpenJob}
use Rattle.versions.specs.Levels.{ListsSameTables, tables_at}
use Rattle.versions.specs.Plans.{IsLevelPlan}
use Rattle.versions.specs.declared.plan.JobPlan.{JobPlan}
use Rattle.engine.specs.declared.ids.Ids.{Ids}
use Rattle.engine.specs.Finishing.{HasNoMemory, IsAllCompacted}
use Rattle.engine.specs.internal.Leading.{LeadsOpen}
use Rattle.engine.specs.OpenDb.{OpenDb}
use Rattle.engine.specs.internal.Standing.{entries_of, IsBroken, IsServing, StandsOpen}
use Rattle.engine.specs.internal.Live.{IsBoth, IsSnapshot}
use Rattle.engine.specs.Reads.{kept_at}
use Rattle.machine.specs.Machine.{Machine, current}
use Rattle.engine.specs.internal.TakingAll.{EndsNeeded}
use Rattle.engine.specs.Needed.{HasNeeded, IsForLive, LeavesNeeded, live_sequences, none_below}
use Rattle.machine.specs.Upkeep.{most_drawn}
use Rattle.engine.specs.internal.Pieces.{IsPiece}
use Rattle.engine.specs.WrittenTables.{MergesLevel, MergesPlan, PutsMerged}
use Rattle.engine.proofs.Origins.{undamaged_serving}
use Rattle.engine.proofs.Steps.{serving_of}
use Rattle.engine.proofs.WorkSteps.{KeepsFlag, stands_whole}

-- ---- after what came first

module _ {K : Type 0} {g : _} (order : Order) (old mid new : Seen) (before between after : OpenDb K g) {P Q : Machine → Machine → Type 0} where
  pub needed_behind : ((ids : Ids) → LeadsOpen order old mid ids before between P) → KeepsFlag P → ((ids : Ids) → LeadsOpen order mid new ids between after Q) → EndsNeeded order mid new between after → EndsNeeded order old new before after
  needed_behind first flag next ends f ids m s =
      let one = (first ids).moved ((next ids).faithful f) m s.stands in
      ends f ids one.0 (stands_whole order mid ids between m one.0 s.undamaged (flag m one.0 one.1) one.2)

module _ {K : Type 0} {g : _} (order : Order) (plan : JobPlan) (old mid new : Seen) (before between after : OpenDb K g) {P Q : Machine → Machine → Type 0} where
  pub merges_plan : ((ids : Ids) → LeadsOpen order old mid ids before between P) → KeepsFlag P → ((ids : Ids) → LeadsOpen order mid new ids between after Q) → between.tables ≡ before.tables → IsSome between.job
      → MatchOption between.job ⊥ (λ work. (work.merged ≡ 0) × (work.job.plan ≡ plan)) → MatchOption between.job ⊥ (λ work. IsForLive work before) → (IsSome between.job → PutsMerged order mid new between after) → MergesPlan order plan old new before after
  merges_plan first flag next tables some begun live merges f =
      (mid, between, (λ ids m s. let one = (first ids).moved ((next ids).faithful f) m s.stands in (one.0, stands_whole order mid ids between m one.0 s.undamaged (flag m one.0 one.1) one.2)), tables, both between.job begun live, merges some)
    where
      both : (o : Option (OpenJob K g)) → MatchOption o ⊥ (λ work. (work.merged ≡ 0) × (work.job.plan ≡ plan)) → MatchOption o ⊥ (λ work. IsForLive work before) → MatchOption o ⊥ (λ work. (work.job.plan ≡ plan) × IsForLive work before)
      both None begun live = begun
      both (Some work) begun live = (begun.1, live)

pub merges_none : {K : Type 0} {g : _} (order : Order) (level : ℕ) (old new : Seen) (before after : OpenDb K g) {P : Machine → Machine → Type 0} → ((ids : Ids) → LeadsOpen order old new ids before after P) → KeepsFlag P → (IsSome before.job → PutsMerged order old new before after)
    → tables_at level after.tables ≡ [] → MergesLevel order level old new before after
merges_none order level old new before after first flag merges none f =
    (new, after, (λ ids m s. let one = (first ids).moved f m s.stands in (one.0, stands_whole order new ids after m one.0 s.undamaged (flag m one.0 one.1) one.2)), merges, inl none)

pub merges_level : {K : Type 0} {g : _} (order : Order) (level : ℕ) (old mid new : Seen) (before between after : OpenDb K g) (plan : JobPlan) {P Q : Machine → Machine → Type 0} → ((ids : Ids) → LeadsOpen order old mid ids before between P) → KeepsFlag P
    → ((ids : Ids) → LeadsOpen order mid new ids between after Q) → (IsSome before.job → PutsMerged order old mid before between) → IsLevelPlan order.cmp between.tables level plan → MergesPlan order plan mid new between after → MergesLevel order level old new before after
merges_level order level old mid new before between after plan first flag next ended is merges f =
    (mid, between, (λ ids m s. let one = (first ids).moved ((next ids).faithful f) m s.stands in (one.0, stands_whole order mid ids between m one.0 s.undamaged (flag m one.0 one.1) one.2)), ended, inr (plan, is, merges))

-- ---- without tables

none_placed : (contents : List TableContent) → ListsSameTables (placed_in contents) [] → contents ≡ []
none_placed [] listed = refl
none_placed (c ∷ contents) listed = (let there = listed.all 0 c.placed (omega arith) in absurd (omega (arith, there.1)))

pub needed_none : {K : Type 0} {g : _} (order : Order) (source : Seen) (db : OpenDb K g) → db.broken ≡ false → db.tables ≡ [] → EndsNeeded order source source db db
needed_none order source db whole none f ids m s =
    let serving = undamaged_serving order source db m s.undamaged (serving_of order source ids db m whole s.stands) in
    let d = serving.log.directory.directory in
    let empty : d.tables ≡ [] = sym serving.log.directory.in_tables ∙ none_placed serving.contents (subst (λ (ts : List PlacedTable). ListsSameTables (placed_in serving.contents) ts) none serving.tables.version) in
    record {
      directory = d;
      consistent = serving.log.directory.consistent;
      needed = subst (λ (ts : List TableContent). AreNeeded (tabled ts) (live_sequences db) none_below (tabled ts)) (sym empty) refl;
    }

-- ---- the machine's map

-- entries that are distinct one after the other are so one beside the other
any_two : (entries : List Entry) → AreDistinct entries → laws.AreDistinct entries
any_two [] h entry other i j key sequence = absurd i
any_two (first ∷ entries) h entry other (inl e) (inl f) key sequence = f ∙ sym e
any_two (first ∷ entries) h entry other (inl e) (inr j) key sequence = absurd (h.0 other j (sym (ap (λ (x : Entry). x.key) e) ∙ sym key) (sym (ap (λ (x : Entry). x.sequence) e) ∙ sym sequence))
any_two (first ∷ entries) h entry other (inr i) (inl f) key sequence = absurd (h.0 entry i (sym (ap (λ (x : Entry). x.key) f) ∙ key) (sym (ap (λ (x : Entry). x.sequence) f) ∙ sequence))
any_two (first ∷ entries) h entry other (inr i) (inr j) key sequence = any_two entries h.1 entry other i j key sequence

-- where nothing is kept under an id, nothing is kept
none_kept : (kept : BTreeMap ℕ ℕ) → ((id : ℕ) → kept_at kept id ≡ None) → kept.entries ≡ []
none_kept kept none = at kept.entries none
  where
    at : (entries : List (ℕ × ℕ)) → ((id : ℕ) → lookup (λ k. is_eq (nat_cmp id k)) entries ≡ None) → entries ≡ []
    at [] h = refl
    at (e ∷ entries) h =
        let here : is_eq (nat_cmp e.0 e.0) ≡ true = unsigned_tied e.0 e.0 ∙ eq-eqb e.0 e.0 refl in
        let found : lookup (λ k. is_eq (nat_cmp e.0 k)) (e ∷ entries) ≡ Some e.1 = ap (λ (b : Bool). cond b (Some e.1) (lookup (λ k. is_eq (nat_cmp e.0 k)) entries)) here in
        let bad : None ≡ Some e.1 = sym (h e.0) ∙ found in
        absurd (cc)

none_both : {X Y : Type 0} (Is : X → Y → Type 0) (o : Option X) → IsBoth Is o None → o ≡ None
none_both Is None h = refl
none_both Is (Some x) h = absurd h

no_logs : (memory : Memories) → memory.current.inserts ≡ [] → memory.sealed ≡ None → logged_in memory ≡ []
no_logs memory current sealed = ap (λ (es : List Entry). sealed_inserts memory ++ es) current ∙ append-nil (sealed_inserts memory) ∙ ap (λ (o : Option ℕ). inserts_of (option_and_then (older_at memory.older) o)) sealed

module _ {K : Type 0} {g : _} (order : Order) (total : IsTotalOrder order.cmp) (new : Seen) (db : OpenDb K g) (n : Machine) (undamaged : n.damaged ≡ false) (given : IsServing order new db n) (memory : HasNoMemory db) (h : HasNeeded order new.facts.files (live_sequences db)) where
  abbrev left : List Entry
  left = tabled h.directory.tables

  abbrev serving : IsServing order new db n
  serving = undamaged_serving order new db n undamaged given

  same_left : entries_of serving.contents db ≡ left
  same_left =
      let one = same_directory order new.facts.files h.directory serving.log.directory.directory h.consistent serving.log.directory.consistent in
      ap (λ (es : List Entry). tabled serving.contents ++ es) (no_logs db.memory memory.current memory.sealed) ∙ append-nil (tabled serving.contents) ∙ ap tabled (serving.log.directory.in_tables ∙ sym one.3)

  apart : laws.AreDistinct left
  apart = any_two left (distinct_front left (logged h.directory.logs) (distinct order new.facts.files h.directory total h.consistent))

  last_alone : n.snapshots ≡ [] → live_sequences db ≡ db.memory.last ∷ []
  last_alone none =
      let Is : ℕ → ℕ → Type 0 = IsSnapshot (entries_of serving.contents db) db.memory.last n in
      ap (λ (es : List (ℕ × ℕ)). db.memory.last ∷ values_of es)
      (none_kept db.snapshots (λ id. none_both Is (kept_at db.snapshots id) (subst (λ (live : List (ℕ × ℕ)). IsBoth Is (kept_at db.snapshots id) (lookup (nat_eq id) live)) none (serving.snapshots id))))

  pub pairs_left : n.snapshots ≡ [] → ArePairsOf (current n) left
  pairs_left none =
      leaves_pairs left left none_below db.memory.last (current n) (λ key is. let bad : false ≡ true = is in cc) apart (subst (λ (es : List Entry). IsView es db.memory.last (current n)) same_left serving.entries.view)
      (subst (λ (sequences : List ℕ). AreNeeded left sequences none_below left) (last_alone none) h.needed)

-- it serves on where the machine does
serving_on : {K : Type 0} {g : _} (order : Order) (source : Seen) (ids : Ids) (db : OpenDb K g) (n : Machine) → n.broken ≡ false → StandsOpen order source ids db n → IsServing order source db n
serving_on order source ids db n whole s = at db.broken s.rest
  where
    at : (b : Bool) → MatchBool b (IsBroken order source.facts.files n) (IsServing order source db n) → IsServing order source db n
    at true h = absurd (let bad : true ≡ false = sym h.broken ∙ whole in cc)
    at false h = h

module _ {K T : Type 0} {g : _} (order : Order) (total : IsTotalOrder order.cmp) (old new : Seen) (before after : OpenDb K g) (whole : before.broken ≡ false) where
  pub only_left : (result : Result T DbError) → ((ids : Ids) → LeadsOpen order old new ids before after (λ m n. IsPiece m (most_drawn m) result n)) → OnOk result (IsAllCompacted after) → OnOk result (EndsNeeded order old new before after)
      → OnOk result (LeavesNeeded order old new before after)
  only_left (Ok done) step compacted ends = λ f ids m s.
      let one = (step ids).moved f m s.stands in
      let n = one.0 in
      let same = one.1.what.1 in
      let was = serving_of order old ids before m whole s.stands in
      let h = ends f ids m s in
      let serving = serving_on order new ids after n (ap (λ (k : Machine). k.broken) same ∙ was.whole) one.2 in
      record {
        tables = h;
        pairs = λ none. subst (λ (contents : Contents). ArePairsOf contents (tabled h.directory.tables)) (ap current same) (pairs_left order total new after n (ap (λ (k : Machine). k.damaged) same ∙ s.undamaged) serving compacted.memory h (ap (λ (k : Machine). k.snapshots) same ∙ none));
      }
  only_left (Err e) step compacted ends = tt
