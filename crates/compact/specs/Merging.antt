-- A compaction that is under way.
use Rattle.std.specs.Prelude.{◌≡◌, ◌≤◌, ◌⊎◌, ℕ, Bool, true, false, List, [], ◌++◌, None, IsTrue, map, max, length}
use Rattle.std.specs.List.{AllByRecursion}
use Rattle.edits.specs.declared.field.Field.{Field}
use Rattle.edits.specs.declared.field.TableFile.{TableFile}
use Rattle.versions.specs.declared.plan.JobPlan.{JobPlan}
use Rattle.compact.specs.JobEdits.{IsEditOf}
use Rattle.compact.specs.declared.job.Job.{Job}
use Rattle.compact.specs.declared.job.Progress.{Progress}
use Rattle.std.specs.declared.cmp.Ordering.TheVariants.{Less}
use Rattle.cursor.specs.declared.cursor.Cursor.{Ghosts as OfCursor}
use Rattle.cursor.specs.Cuts.{Cut}
use Rattle.cursor.specs.Merging.{listed}
use Rattle.cursor.specs.Places.{Cmp, Listed, within}
use Rattle.ikey.specs.declared.entry.Entry.{Entry}
use Rattle.ikey.specs.declared.internal_key.Kind.TheVariants.{Delete}
use Rattle.ikey.specs.Entries.{InternalEntry, Pair, entry_of, value_kept, value_of}
use Rattle.ikey.specs.Keys.{Key, IsKey}
use Rattle.ikey.specs.Orders.{order_of}
use Rattle.ikey.specs.Sources.{AreSorted}
use Rattle.store.specs.declared.has_store.HasStore.{Ghosts as OfSource}
use Rattle.store.specs.declared.store.Store.{Ghosts as OfStore}
use Rattle.store.specs.Files.{Facts}
use Rattle.table.specs.Table.{ArePairs}
use Rattle.ikey.specs.Views.{Among}
use Rattle.compact.specs.Choosing.{Choosing, Chooses}
use Rattle.compact.specs.Outputs.{TablesWritten, HasWritten, IsOpen, IsNumberAtHand, IsMine, IsMineUpTo, WritesTables}

-- ---- what came

-- the entry is this key's, or comes before it
abbrev pub IsUpTo : Cmp → Entry → Key → Type 0
IsUpTo cmp entry key = (cmp entry.key key.user ≡ Less) ⊎ ((entry.key ≡ key.user) × (key.sequence ≤ entry.sequence))

-- a delete as a file keeps it
abbrev pub kept_delete : List ℕ → ℕ → InternalEntry
kept_delete user sequence = record { key = record { user = user; sequence = sequence; kind = Delete }; value = [] }

-- it has the value that says what it is: none, where it is a delete
abbrev pub IsWellKept : InternalEntry → Type 0
IsWellKept entry = entry.value ≡ value_kept (value_of entry.key.kind entry.value)

-- These entries of the inputs came, and of them those were written that are needed. The last has
-- this key, and none comes after it. Each came before all that came later, whatever the name of the
-- order is.
pub record IsMerging (cmp : Cmp) (deep : List ℕ → Bool) (last : List ℕ) (c : Choosing) (w : TablesWritten) (facts : Facts) (next : ℕ) (came : List InternalEntry) : Type 0 where
  pub written : List Pair
  pub kept : List InternalEntry
  pub written_are : ArePairs written kept
  pub well_kept : AllByRecursion IsWellKept kept
  pub has_written : HasWritten cmp w facts next written
  pub chooses : Chooses cmp deep c (map entry_of came) (map entry_of kept)
  pub last_is : ((came ≡ []) × (last ≡ [])) ⊎ ((entry : InternalEntry) × Among came entry × IsKey last entry.key)
  pub bound : (entry : Entry) → Among (map entry_of came) entry → (key : Key) × IsKey last key × IsUpTo cmp entry key
  pub sorted : (name : List ℕ) → AreSorted (order_of name cmp) (map entry_of came)

-- each entry of a user key has a sequence number of its own: no two differ in their kind alone
abbrev pub HaveOwnSequences : List InternalEntry → Type 0
HaveOwnSequences entries = (entry other : InternalEntry) → Among entries entry → Among entries other → entry.key.user ≡ other.key.user → entry.key.sequence ≡ other.key.sequence → entry.key.kind ≡ other.key.kind

-- ---- what is left

-- Of what the cursor lists these came, and those are left: it stands on the first of them.
abbrev pub HasPassed : {C H : Type 0} → (C → H → Listed → Type 0) → C → H → List InternalEntry → List InternalEntry → Type 0
HasPassed lists cursor source came rest = lists cursor source (listed (came ++ rest) (within (came ++ rest) (length came)))

-- no number is both
abbrev pub AreDisjoint : (ℕ → Type 0) → (ℕ → Type 0) → Type 0
AreDisjoint first second = (number : ℕ) → first number → second number → ⊥

-- What changes no file but those of tables with such numbers, of which the source keeps nothing
-- beside its store, keeps what the cursor reads.
abbrev pub ReadsApart : {C H S : Type 0} → (S → Facts) → (H → S) → (H → S → H) → (H → ℕ → Type 0) → (C → H → H → Type 0) → C → (ℕ → Type 0) → Type 0
ReadsApart {C} {H} {S} facts store_of with_store gathers keeps cursor mine =
    (source : H) (store : S) → IsTrue (facts store).faithful
    → WritesTables (facts (store_of source)) (facts store) (λ (number : ℕ). mine number × (gathers source number → ⊥)) → keeps cursor source (with_store source store)

-- ---- both

-- These entries came to the job, and those are left. What is needed of the former is written. What
-- is still to be written is nothing that is read, or that is kept of a table beside the store.
pub record IsJob {C H S : Type 0} (cmp : Cmp) (deep : List ℕ → Bool) (facts : S → Facts) (store_of : H → S) (with_store : H → S → H) (gathers : H → ℕ → Type 0) (lists : C → H → Listed → Type 0) (keeps : C → H → H → Type 0) (over : C → ℕ → Type 0)
    (last : List ℕ) (cursor : C) (c : Choosing) (w : TablesWritten) (source : H) (next : ℕ) (came rest : List InternalEntry) : Type 0 where
  pub merging : IsMerging cmp deep last c w (facts (store_of source)) next came
  pub goes_on : IsOpen w
  pub left : HasPassed lists cursor source came rest
  pub apart : ReadsApart facts store_of with_store gathers keeps cursor (IsMine w next)
  pub ungathered : AreDisjoint (gathers source) (IsMine w next)
  pub outside : AreDisjoint (over cursor) (IsMine w next)

-- The same of a job as its fields have it, by what the traits say of its store, of the source that
-- has it and of the cursor.
abbrev pub IsBetween : {K C H S : Type 0} → Cmp → (List ℕ → Bool) → OfStore S → OfSource H S → OfCursor C K H → Job K C → H → ℕ → List InternalEntry → List InternalEntry → Type 0
IsBetween cmp deep of_store of_source of_cursor job source next came rest =
    IsJob cmp deep of_store.facts of_source.store_of of_source.with_store of_source.gathers of_cursor.lists of_cursor.keeps of_cursor.over
    job.last.items job.cursor job.selection job.outputs source next came rest

-- the table at hand was so before, or has a number that was drawn since
abbrev pub KeepsMine : TablesWritten → ℕ → TablesWritten → ℕ → Type 0
KeepsMine old next new more = (number : ℕ) → IsNumberAtHand new number → IsMineUpTo old next more number

-- A step with this budget has taken the front of what was left: as many entries as the budget has,
-- one for 0, or all.
pub record IsStepOf (budget : ℕ) (progress : Progress) (front back : List InternalEntry) : Type 0 where
  pub long : length front ≡ progress.merged
  pub most : progress.merged ≤ max budget 1
  pub ended : progress.ended ≡ true → back ≡ []
  pub going_on : progress.ended ≡ false → (progress.merged ≡ max budget 1) × (back ≡ [] → ⊥)

-- what it reads of the source passes a limit of reading
abbrev pub IsLimited : {K C H : Type 0} → (C → H → Type 0) → Job K C → H → Type 0
IsLimited limited job source = limited job.cursor source

-- no block to which its cursor comes is none
abbrev pub ReadsIntact : {K C H : Type 0} → (C → H → Cut → Type 0) → Job K C → H → Type 0
ReadsIntact torn job source = (cut : Cut) → torn job.cursor source cut → ⊥

-- All that came was merged into these tables, and the edit puts them instead of the inputs.
abbrev pub IsFinished : Cmp → (List ℕ → Bool) → JobPlan → List ℕ → Choosing → Facts → ℕ → ℕ → List InternalEntry → List Field → Type 0
IsFinished cmp deep plan last c facts next last_sequence came edit =
    (tables : List TableFile) × IsEditOf plan.output_level plan.inputs.items plan.compact_pointer tables next last_sequence edit
    × IsMerging cmp deep last c (record { closed = tables; at_hand = None }) facts next came
