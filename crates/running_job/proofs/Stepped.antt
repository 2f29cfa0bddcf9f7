-- A job that goes on.
use Rattle.std.proofs.Common.{arith, ◌≡◌, ◌⊎◌, ◌<◌, ◌≤◌, ◌+◌, ◌^◌, ◌++◌, ℕ, Bool, IsTrue, List, length, map, inl, inr, refl, sym, ap, subst, ◌∙◌}
use Rattle.std.proofs.lemmas.List.{append_assoc, length-append}
use Rattle.coding.specs.declared.error.DbError.{DbError}
use Rattle.coding.specs.declared.error.DbError.TheVariants.{Corrupt}
use Rattle.compact.specs.Deeper.{is_covered_below}
use Rattle.compact.specs.Leaving.{LeavesOthers}
use Rattle.compact.specs.Merging.{HaveOwnSequences, IsJob, IsMerging, KeepsMine}
use Rattle.compact.specs.Outputs.{IsMineUpTo, IsTableName, NumbersOn, RefusesEntry, WritesTables}
use Rattle.compact.specs.Rooms.{AreLarge}
use Rattle.compact.proofs.Merges.{mine-before}
use Rattle.compact.proofs.Writing.{mine-in, refuses-as, writes-nothing, writes-stopped}
use Rattle.cursor.specs.declared.merge.Merge.{Merge}
use Rattle.edits.specs.declared.field.PlacedTable.{PlacedTable}
use Rattle.ikey.specs.declared.key_order.KeyOrder.{Ghosts}
use Rattle.ikey.specs.Entries.{InternalEntry, entry_of}
use Rattle.ikey.specs.Orders.{Order}
use Rattle.ikey.specs.Sources.{SameEntries}
use Rattle.running_job.specs.declared.open_job.OpenJob.{OpenJob}
use Rattle.running_job.specs.Running.{IsRunning, MayRun, deep_of, goes_over, is_input, is_to_write, shown, CanStep}
use Rattle.running_job.specs.internal.Stepping.{StepKeeps, StepStops, StepTouches}
use Rattle.cursor.specs.Cuts.{Cut}
use Rattle.running_job.proofs.Read.{Gathers, IsView, Keeps, Leaves, Limited, Lists, Over, View, led, mine_small, read_lists, reads_apart, seen_lists, whole_of, Torn}
use Rattle.memtables.specs.PlaceLaws.{left_there}
use Rattle.recover.specs.Directory.{Directory, IsConsistent}
use Rattle.recover.specs.Tables.{TableContent, tabled, table_at}
use Rattle.level_cursor.specs.InRows.{ListsNumber}
use Rattle.db_cursor.specs.declared.source_cursor.SourceCursor.{SourceCursor}
use Rattle.db_cursor.specs.Scans.{IsOnePastLimit, IsOneTornFile}
use Rattle.db_cursor.specs.Whole.{Whole}
use Rattle.db_cursor.proofs.KeptMerges.{moved_read_none}
use Rattle.db_cursor.proofs.WritesBeside.{beside}
use Rattle.db_cursor.specs.Inputs.{IsMergeIntact}
use Rattle.table_access.specs.Tables.{IsSound, SoundLasts}
use Rattle.table_access.specs.Telling.{IfCorrupt}
use Rattle.store.specs.Files.{Facts}
use Rattle.store.specs.Stops.{KeepsBut, stopped_at}
use Rattle.store.proofs.Stopping.{leaves_so}
use Rattle.directory_writes.specs.internal.JobWrites.{FreeNumberLaw, JobWritesLaw}
use Rattle.directory_writes.specs.Replacing.{IsPlanned}
use Rattle.versions.specs.declared.plan.JobPlan.{JobPlan}

-- what a plan takes, where plan and version are the same
pub planned_as : (order : Order) (d : Directory) (inputs rest : List TableContent) (plan same : JobPlan) (tables others : List PlacedTable) → same ≡ plan → others ≡ tables
    → IsPlanned order (is_covered_below order.cmp plan.output_level tables) plan d.tables inputs rest → IsPlanned order (is_covered_below order.cmp same.output_level others) same d.tables inputs rest
planned_as order d inputs rest plan same tables others p t h =
    subst (λ (q : JobPlan). IsPlanned order (is_covered_below order.cmp q.output_level others) q d.tables inputs rest) (sym p)
    (subst (λ (ts : List PlacedTable). IsPlanned order (is_covered_below order.cmp plan.output_level ts) plan d.tables inputs rest) (sym t) h)

abbrev pub IsJobOver : {K : Type 0} {g : Ghosts K} {H S : Type 0} → Order → View H S → (List ℕ → Bool) → OpenJob K g → H → ℕ → List InternalEntry → List InternalEntry → Type 0
IsJobOver order v deep work h next came left =
    IsJob order.cmp deep v.facts v.store_of v.with_store (Gathers v) (Lists order.cmp v) (Keeps order.cmp v) Over work.job.last.items work.job.cursor work.job.selection work.job.outputs h next came left

abbrev pub Leaving : {K : Type 0} {g : Ghosts K} {H S : Type 0} → Order → View H S → (before : OpenJob K g) → Merge K (SourceCursor K g) → (a b : H) (next more : ℕ) → Type 0
Leaving order v before cursor a b next more = LeavesOthers v.facts v.store_of v.with_store (Keeps order.cmp v) (Leaves order.cmp v) Over (IsMineUpTo before.job.outputs next more) before.job.cursor cursor a b

abbrev pub Writing : {K : Type 0} {g : Ghosts K} {H S : Type 0} → View H S → (before : OpenJob K g) (a b : H) (next more : ℕ) → Type 0
Writing v before a b next more = WritesTables (v.facts (v.store_of a)) (v.facts (v.store_of b)) (IsMineUpTo before.job.outputs next more)

-- what a counter shows once more came
counted_on : (before merged after : ℕ) (came front : List InternalEntry) → before ≡ shown (length came) → length front ≡ merged → after ≡ shown (before + merged) → after ≡ shown (length (came ++ front))
counted_on before merged after came front was long is = (let whole = length-append came front in omega (arith, was, long, is, whole))

-- the contents that its inputs have they may have
pub may_of : {K : Type 0} {g : Ghosts K} (order : Order) (whole : Whole) (next : ℕ) (d : Directory) (work : OpenJob K g) (came left : List InternalEntry) → (r : IsRunning order whole next d work came left) → MayRun order whole next r.inputs work came left
may_of order whole next d work came left r = record {
  entries = r.entries;
  own_sequences = r.own_sequences;
  merging = r.merging;
  goes_on = r.goes_on;
  stands = r.stands;
  no_memory = r.no_memory;
  over = r.over;
  outside = r.outside;
  unkept = r.unkept;
  numbered = r.numbered;
  drawn = r.drawn;
  counted = r.counted;
  limits = r.limits;
  torn = λ cut t. absurd (r.intact cut t);
}

module _ {K : Type 0} {g : Ghosts K} {H S : Type 0} (order : Order) (v : View H S) (view : IsView v) where
  -- ---- what the job reads is what the definition of a job over any source wants

  pub may_run : SoundLasts → (contents : List TableContent) (work : OpenJob K g) (deep : List ℕ → Bool) (h : H) (next : ℕ) (came left : List InternalEntry) → next < 2 ^ 64 → deep ≡ deep_of order.cmp work
      → MayRun order (whole_of v h) next contents work came left → IsJobOver order v deep work h next came left
  may_run lasts contents work deep h next came left fits is r = record {
    merging = subst (λ (known : List ℕ → Bool). IsMerging order.cmp known work.job.last.items work.job.selection work.job.outputs (v.facts (v.store_of h)) next came) (sym is) r.merging;
    goes_on = r.goes_on;
    left = read_lists order.cmp v view work.job.cursor h _ r.stands;
    apart = reads_apart order.cmp v view work.job.cursor lasts (is_to_write work next) (λ n mine. mine_small work.job.outputs next n fits r.numbered mine) r.no_memory (λ n over mine. r.outside n (r.over n over) mine);
    ungathered = r.unkept;
    outside = λ n over mine. r.outside n (r.over n over) mine;
  }

  pub runs : SoundLasts → (d : Directory) (work : OpenJob K g) (deep : List ℕ → Bool) (h : H) (next : ℕ) (came left : List InternalEntry) → next < 2 ^ 64 → deep ≡ deep_of order.cmp work
      → IsRunning order (whole_of v h) next d work came left → IsJobOver order v deep work h next came left
  runs lasts d work deep h next came left fits is r = may_run lasts r.inputs work deep h next came left fits is (may_of order (whole_of v h) next d work came left r)

  -- ---- what a step leaves

  pub touched_none : (before : OpenJob K g) (a : H) (next : ℕ) → StepTouches (whole_of v a) (whole_of v a) next next before before
  touched_none before a next = record {
    writes = writes-nothing (v.facts (v.store_of a)) (IsMineUpTo before.job.outputs next next);
    memory = left_there (v.memory_of a);
    gathered = λ n kept. inl kept;
    within = λ n over. over;
  }

  pub keeps_none : (before : OpenJob K g) (a : H) (next : ℕ) (d : Directory) (came left : List InternalEntry) → CanStep order (whole_of v a) next d before came left → StepKeeps order (whole_of v a) (whole_of v a) next next before d
  keeps_none before a next d came left can = record {
    others = record {
      consistent = can.consistent;
      log = λ n position ends. ends;
      manifest = λ position edits layout ends. ends;
      tables = λ n is apart. refl;
      free = can.free;
    };
    sound = can.sound;
  }

  pub touched : (before after : OpenJob K g) (a b : H) (next more : ℕ) → Writing v before a b next more → Leaving order v before after.job.cursor a b next more → StepTouches (whole_of v a) (whole_of v b) next more before after
  touched before after a b next more writes leaves =
      let l = led order.cmp v view (goes_over before) (IsMineUpTo before.job.outputs next more) leaves.turns.0 a b leaves.turns.1 in
      record { writes = writes; memory = l.memory; gathered = l.gathered; within = leaves.within }

  -- what is kept of tables stays right
  pub sound_on : SoundLasts → (before : OpenJob K g) (cursor : Merge K (SourceCursor K g)) (a b : H) (next more : ℕ) → more < 2 ^ 64 → next < 2 ^ 64 → Writing v before a b next more → Leaving order v before cursor a b next more
      → IsTrue (v.facts (v.store_of b)).faithful → (contents : List TableContent) (came left : List InternalEntry) → MayRun order (whole_of v a) next contents before came left
      → IsSound order.cmp (whole_of v a).seen → IsSound order.cmp (whole_of v b).seen
  sound_on lasts before cursor a b next more fits small writes leaves t contents came left r sound =
      let l = led order.cmp v view (goes_over before) (IsMineUpTo before.job.outputs next more) leaves.turns.0 a b leaves.turns.1 in
      l.sound lasts (λ n mine. mine_small before.job.outputs next n small r.numbered (mine-in before.job.outputs next more n fits mine))
      (λ n over mine. r.outside n (r.over n over) (mine-in before.job.outputs next more n fits mine))
      (λ n kept mine. r.unkept n kept (mine-in before.job.outputs next more n fits mine)) t sound

  pub keeps_on : SoundLasts → JobWritesLaw → (before : OpenJob K g) (cursor : Merge K (SourceCursor K g)) (a b : H) (next more : ℕ) → next ≤ more → more < 2 ^ 64 → next < 2 ^ 64 → Writing v before a b next more → Leaving order v before cursor a b next more
      → IsTrue (v.facts (v.store_of b)).faithful → (d : Directory) (came left : List InternalEntry) → CanStep order (whole_of v a) next d before came left
      → StepKeeps order (whole_of v a) (whole_of v b) next more before d
  keeps_on lasts law before cursor a b next more le fits small writes leaves t d came left can =
      let r = can.running in
      record {
        others = law order (v.facts (v.store_of a)) (v.facts (v.store_of b)) before.job.outputs next more d t writes le fits can.consistent can.free r.numbered r.unused;
        sound = sound_on lasts before cursor a b next more fits small writes leaves t r.inputs came left (may_of order (whole_of v a) next d before came left r) can.sound;
      }

  -- so it does while it is written
  pub stopped_on : JobWritesLaw → (before : OpenJob K g) (a b : H) (next more : ℕ) → next ≤ more → more < 2 ^ 64 → Writing v before a b next more → StepStops order (whole_of v a) (whole_of v b) next before
  stopped_on law before a b next more le fits writes t d came left can =
      let old = v.facts (v.store_of a) in
      let mine = IsMineUpTo before.job.outputs next more in
      let r = can.running in
      leaves_so old (v.facts (v.store_of b)) (KeepsBut old.files (IsTableName mine)) (λ files. IsConsistent order files d)
      (λ files kept.
      (law order old (stopped_at old files) before.job.outputs next more d refl (writes-stopped old files mine (writes.faithful t) kept) le fits can.consistent can.free r.numbered r.unused).consistent) (writes.calls t).leaves

  -- the files of its inputs stay
  input_files : SoundLasts → (before : OpenJob K g) (a b : H) (next more : ℕ) (contents : List TableContent) (came left : List InternalEntry) → more < 2 ^ 64 → next < 2 ^ 64 → Writing v before a b next more
      → IsTrue (v.facts (v.store_of b)).faithful → MayRun order (whole_of v a) next contents before came left → (number : ℕ) → is_input before number
      → table_at (whole_of v b).seen.facts.files number ≡ table_at (whole_of v a).seen.facts.files number
  input_files lasts before a b next more contents came left fits small writes t r =
      (beside (whole_of v a).seen (v.facts (v.store_of b)) (IsMineUpTo before.job.outputs next more) (λ n mine. mine_small before.job.outputs next n small r.numbered (mine-in before.job.outputs next more n fits mine)) t writes order.cmp (is_input before) lasts
      (λ n mine kept. r.unkept n kept (mine-in before.job.outputs next more n fits mine)) (λ n is mine. r.outside n is (mine-in before.job.outputs next more n fits mine))).files

  -- ---- the job after a step

  pub may_go : SoundLasts → (before after : OpenJob K g) (a b : H) (next more : ℕ) → next ≤ more → more < 2 ^ 64 → next < 2 ^ 64 → Writing v before a b next more → Leaving order v before after.job.cursor a b next more
      → after.job.plan ≡ before.job.plan → after.version ≡ before.version → after.next ≤ more → (merged : ℕ) → after.merged ≡ shown (before.merged + merged) → KeepsMine before.job.outputs next after.job.outputs more → NumbersOn before.job.outputs next after.job.outputs more
      → (deep : List ℕ → Bool) → deep ≡ deep_of order.cmp before
      → IsTrue (v.facts (v.store_of b)).faithful → (contents : List TableContent) (came left front back : List InternalEntry) → MayRun order (whole_of v a) next contents before came left → left ≡ front ++ back → length front ≡ merged
      → IsJobOver order v deep after b more (came ++ front) back
      → (Limited order.cmp v after.job.cursor b → Limited order.cmp v before.job.cursor a) → ((cut : Cut) → Torn order.cmp v after.job.cursor b cut → Torn order.cmp v before.job.cursor a cut)
      → MayRun order (whole_of v b) more contents after (came ++ front) back
  may_go lasts before after a b next more le fits small writes leaves plan version drawn merged counted mine_kept numbers deep deep_is t contents came left front back r left_is long j limit torn =
      let same_tables : after.version.value.tables ≡ before.version.value.tables = ap (λ v. v.value.tables) version in
      let all : came ++ left ≡ (came ++ front) ++ back = ap (λ (l : List InternalEntry). came ++ l) left_is ∙ sym (append_assoc came front back) in
      let same_deep : deep ≡ deep_of order.cmp after = deep_is ∙ (λ i. is_covered_below order.cmp (sym plan i).output_level (sym same_tables i)) in
      let files = input_files lasts before a b next more contents came left fits small writes t r in
      record {
        entries = subst (λ (l : List InternalEntry). SameEntries (map entry_of l) (tabled contents)) all r.entries;
        own_sequences = subst HaveOwnSequences all r.own_sequences;
        merging = subst (λ (known : List ℕ → Bool). IsMerging order.cmp known after.job.last.items after.job.selection after.job.outputs (v.facts (v.store_of b)) more (came ++ front)) same_deep j.merging;
        goes_on = j.goes_on;
        stands = seen_lists order.cmp v view after.job.cursor b _ j.left;
        no_memory = moved_read_none order.cmp (whole_of v) v.with_memory view.remembered a before.job.cursor after.job.cursor leaves.same r.no_memory;
        over = λ n over. subst (λ (q : JobPlan). ListsNumber q.inputs.items n) (sym plan) (r.over n (leaves.within n over));
        outside = λ n is mine. r.outside n (subst (λ (q : JobPlan). ListsNumber q.inputs.items n) plan is) (mine-before before.job.outputs after.job.outputs next more n le fits mine_kept mine);
        unkept = j.ungathered;
        numbered = numbers.keeps r.numbered;
        drawn = drawn;
        counted = counted_on before.merged merged after.merged came front r.counted long counted;
        limits = λ l.
            let past = r.limits (limit l) in
            subst (λ (q : JobPlan). IsOnePastLimit order.cmp q.inputs.items (whole_of v b)) (sym plan) (past.0, past.1, past.2, files past.0.table.number (past.0, past.1, refl) ∙ past.3, past.4);
        torn = λ cut l.
            let one = r.torn cut (torn cut l) in
            subst (λ (q : JobPlan). IsOneTornFile order.cmp q.inputs.items (whole_of v b) cut) (sym plan) (one.0, one.1, one.2, files one.0.table.number (one.0, one.1, refl) ∙ one.3, one.4);
      }

  pub goes : SoundLasts → FreeNumberLaw → (before after : OpenJob K g) (a b : H) (next more : ℕ) → next ≤ more → more < 2 ^ 64 → next < 2 ^ 64 → Writing v before a b next more → Leaving order v before after.job.cursor a b next more
      → after.job.plan ≡ before.job.plan → after.version ≡ before.version → after.next ≤ more → (merged : ℕ) → after.merged ≡ shown (before.merged + merged) → KeepsMine before.job.outputs next after.job.outputs more → NumbersOn before.job.outputs next after.job.outputs more
      → (deep : List ℕ → Bool) → deep ≡ deep_of order.cmp before
      → IsTrue (v.facts (v.store_of b)).faithful → (d : Directory) (came left front back : List InternalEntry) → CanStep order (whole_of v a) next d before came left → left ≡ front ++ back → length front ≡ merged
      → IsJobOver order v deep after b more (came ++ front) back
      → (Limited order.cmp v after.job.cursor b → Limited order.cmp v before.job.cursor a) → ((cut : Cut) → Torn order.cmp v after.job.cursor b cut → Torn order.cmp v before.job.cursor a cut)
      → IsRunning order (whole_of v b) more d after (came ++ front) back
  goes lasts free before after a b next more le fits small writes leaves plan version drawn merged counted mine_kept numbers deep deep_is t d came left front back can left_is long j limit torn =
      let r = can.running in
      let m = may_go lasts before after a b next more le fits small writes leaves plan version drawn merged counted mine_kept numbers deep deep_is t r.inputs came left front back (may_of order (whole_of v a) next d before came left r) left_is long j limit torn in
      record {
        inputs = r.inputs;
        rest = r.rest;
        planned = planned_as order d r.inputs r.rest before.job.plan after.job.plan before.version.value.tables after.version.value.tables plan (ap (λ v. v.value.tables) version) r.planned;
        entries = m.entries;
        own_sequences = m.own_sequences;
        merging = m.merging;
        goes_on = m.goes_on;
        stands = m.stands;
        no_memory = m.no_memory;
        over = m.over;
        outside = m.outside;
        unkept = m.unkept;
        numbered = m.numbered;
        drawn = m.drawn;
        counted = m.counted;
        unused = λ n own. elim (numbers.owns n own) [
          | inl was ↦ r.unused n was
          | inr new ↦ free order (whole_of v a).seen.facts.files d next n can.consistent can.free new
        ];
        limits = m.limits;
        intact = λ cut l. r.intact cut (torn cut l);
      }

  -- ---- why a step is refused

  pub tears_step : SoundLasts → (before : OpenJob K g) (a : H) (old new : Facts) (long spent : Type 0) (e : DbError) (deep : List ℕ → Bool) (next : ℕ) → next < 2 ^ 64 → deep ≡ deep_of order.cmp before
      → RefusesEntry e old new
      (IsTrue new.faithful → (came : List InternalEntry) (left : List InternalEntry) → IsJobOver order v deep before a next came left → HaveOwnSequences (came ++ left) → ((cut : Cut) → Torn order.cmp v before.job.cursor a cut → ⊥) → ⊥)
      long spent
      → IfCorrupt e (IsTrue new.faithful → (contents : List TableContent) (came left : List InternalEntry) → MayRun order (whole_of v a) next contents before came left → IsMergeIntact order.cmp before.job.cursor (whole_of v a) → ⊥)
  tears_step lasts before a old new long spent (Corrupt kind what) deep next fits is h =
      λ t contents came left r intact. h t came left (may_run lasts contents before deep a next came left fits is r) r.own_sequences intact
  tears_step lasts before a old new long spent e deep next fits is h = tt

  pub refuses_step : SoundLasts → (before : OpenJob K g) (a : H) (old new : Facts) (next more : ℕ) (e : DbError) (deep : List ℕ → Bool) → next < 2 ^ 64 → deep ≡ deep_of order.cmp before
      → RefusesEntry e old new
      (IsTrue new.faithful → (came : List InternalEntry) (left : List InternalEntry) → IsJobOver order v deep before a next came left → HaveOwnSequences (came ++ left) → ((cut : Cut) → Torn order.cmp v before.job.cursor a cut → ⊥) → ⊥)
      (IsTrue new.faithful → (came : List InternalEntry) (left : List InternalEntry) → IsJobOver order v deep before a next came left → ((cut : Cut) → Torn order.cmp v before.job.cursor a cut → ⊥) → Limited order.cmp v before.job.cursor a ⊎ AreLarge (map entry_of (came ++ left)))
      (2 ^ 62 ≤ more)
      → RefusesEntry e old new
      (IsTrue new.faithful → (d : Directory) (came left : List InternalEntry) → CanStep order (whole_of v a) next d before came left → ⊥)
      (IsTrue new.faithful → (d : Directory) (came left : List InternalEntry) → CanStep order (whole_of v a) next d before came left → IsOnePastLimit order.cmp before.job.plan.inputs.items (whole_of v a) ⊎ AreLarge (map entry_of (came ++ left)))
      (2 ^ 62 ≤ more)
  refuses_step lasts before a old new next more e deep fits is h =
      refuses-as e old old new _ _ _ _ _ _ refl
      (λ falls t d came left can. falls t came left (runs lasts d before deep a next came left fits is can.running) can.running.own_sequences can.running.intact)
      (λ long t d came left can. elim (long t came left (runs lasts d before deep a next came left fits is can.running) can.running.intact) [
        | inl limited ↦ inl (can.running.limits limited)
        | inr large ↦ inr large
      ])
      (λ u. u) h
