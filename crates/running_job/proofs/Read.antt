-- What a job reads and leaves of what an open database reads.
use Rattle.std.proofs.Common.{◌≡◌, ◌⊎◌, ◌<◌, ◌^◌, ℕ, zero, suc, Option, Some, None, MatchOption, IsTrue, List, inl, inr, sym, ap, subst, ◌∙◌, arith}
use Rattle.cache.specs.Blocks.{KeptBlock}
use Rattle.cache.specs.Tables.{KeptTable}
use Rattle.compact.specs.Leaving.{AreTurns, IsTurn}
use Rattle.compact.specs.Merging.{AreDisjoint, ReadsApart}
use Rattle.compact.specs.Outputs.{AreNumbered, Filling, IsMine, IsNext, TablesWritten, WritesTables}
use Rattle.cursor.specs.declared.merge.Merge.{Merge}
use Rattle.cursor.specs.Cuts.{Cut}
use Rattle.cursor.specs.Merging.{AnyLimited, AnyTorn, IsMerge, KeepsAll}
use Rattle.cursor.specs.Places.{Cmp, Listed}
use Rattle.edits.specs.declared.field.TableFile.{TableFile}
use Rattle.ikey.specs.declared.key_order.KeyOrder.{Ghosts}
use Rattle.memtables.specs.Memories.{Memories}
use Rattle.memtables.specs.PlaceLaws.{left_there, left_onward}
use Rattle.memtables.specs.Places.{LeavesMemories}
use Rattle.db_cursor.specs.declared.source_cursor.SourceCursor.{SourceCursor}
use Rattle.db_cursor.specs.Inputs.{KeepsMerge, ReadsNoMemory}
use Rattle.db_cursor.specs.Places.{KeepsSource, LeavesSource, LimitedSource, ListsSource, OneGoesOver, TornSource}
use Rattle.db_cursor.specs.Scans.{ListsMerged}
use Rattle.db_cursor.specs.Whole.{Whole}
use Rattle.db_cursor.proofs.KeptMerges.{merge_is_kept}
use Rattle.db_cursor.proofs.Sights.{merged_as}
use Rattle.db_cursor.proofs.WritesBeside.{beside}
use Rattle.table_access.specs.Tables.{IsSound, KeepsOf, SoundLasts}
use Rattle.store.specs.Files.{Facts}

-- ---- numbers

at_hand_below : (hand : Option Filling) (closed : List TableFile) (next number : ℕ) → MatchOption hand (Unit {0}) (IsNext closed next) → MatchOption hand ⊥ (λ (t : Filling). number ≡ t.number) → number < next
at_hand_below None closed next number n is = absurd is
at_hand_below (Some t) closed next number n is = omega (arith, n.number.1, is)

-- the numbers of a job's tables have 64 bits
pub mine_small : (w : TablesWritten) (next number : ℕ) → next < 2 ^ 64 → AreNumbered w next → IsMine w next number → number < 2 ^ 64
mine_small w next number fits n (inl at) = let below = at_hand_below w.at_hand w.closed next number n.at_hand at in omega (arith, below, fits)
mine_small w next number fits n (inr come) = come.1

-- ---- one turn, as contracts see it

abbrev pub with_facts : Whole → Facts → Whole
with_facts a facts = record { seen = record { facts = facts; tables = a.seen.tables; blocks = a.seen.blocks }; memory = a.memory }

-- What turns leave of what is read over tables of such numbers, where tables of others are written.
pub record LedOn (cmp : Cmp) (over mine : ℕ → Type 0) (a b : Whole) : Type 0 where
  pub faithful : IsTrue b.seen.facts.faithful → IsTrue a.seen.facts.faithful
  pub memory : LeavesMemories a.memory b.memory
  pub gathered : (number : ℕ) → KeepsOf b.seen number → KeepsOf a.seen number ⊎ over number
  pub sound : SoundLasts → ((number : ℕ) → mine number → number < 2 ^ 64) → AreDisjoint over mine → AreDisjoint (KeepsOf a.seen) mine → IsTrue b.seen.facts.faithful → IsSound cmp a.seen → IsSound cmp b.seen

led_moved : (cmp : Cmp) (over mine : ℕ → Type 0) (a b : Whole) → LeavesSource cmp over a b → LedOn cmp over mine a b
led_moved cmp over mine a b l = record {
  faithful = l.carries.reads.faithful;
  memory = l.memory;
  gathered = l.carries.gathered;
  sound = λ lasts small apart none t sound. l.carries.sound t sound;
}

led_written : (cmp : Cmp) (over mine : ℕ → Type 0) (a : Whole) (facts : Facts) → WritesTables a.seen.facts facts mine → LedOn cmp over mine a (with_facts a facts)
led_written cmp over mine a facts w = record {
  faithful = w.faithful;
  memory = left_there a.memory;
  gathered = λ number kept. inl kept;
  sound = λ lasts small apart none t. (beside a.seen facts mine small t w cmp (λ number. ⊥) lasts (λ number is kept. none number kept is) (λ number is. absurd is)).sound;
}

led_both : (cmp : Cmp) (over mine : ℕ → Type 0) (a b d : Whole) → LedOn cmp over mine a b → LedOn cmp over mine b d → LedOn cmp over mine a d
led_both cmp over mine a b d h k = record {
  faithful = λ t. h.faithful (k.faithful t);
  memory = left_onward a.memory b.memory d.memory h.memory k.memory;
  gathered = λ number kept. elim (k.gathered number kept) [ inl was ↦ h.gathered number was | inr is ↦ inr is ];
  sound = λ lasts small apart none t sound.
      k.sound lasts small apart (λ number kept is. elim (h.gathered number kept) [ inl was ↦ none number was is | inr read ↦ apart number read is ]) t (h.sound lasts small apart none (k.faithful t) sound);
}

led_none : (cmp : Cmp) (over mine : ℕ → Type 0) (a : Whole) → LedOn cmp over mine a a
led_none cmp over mine a = record { faithful = λ t. t; memory = left_there a.memory; gathered = λ number kept. inl kept; sound = λ lasts small apart none t sound. sound }

-- ---- a source of cursors

-- what contracts see of a source
pub record View (H S : Type 0) : Type 0 where
  pub facts : S → Facts
  pub store_of : H → S
  pub with_store : H → S → H
  pub tables_of : H → List KeptTable
  pub blocks_of : H → List KeptBlock
  pub memory_of : H → Memories
  pub with_memory : H → Memories → H

abbrev pub whole_of : {H S : Type 0} → View H S → H → Whole
whole_of v h = record { seen = record { facts = v.facts (v.store_of h); tables = v.tables_of h; blocks = v.blocks_of h }; memory = v.memory_of h }

-- another store or other memtables are put in alone
pub record IsView {H S : Type 0} (v : View H S) : Type 0 where
  pub stored : (h : H) (s : S) → whole_of v (v.with_store h s) ≡ with_facts (whole_of v h) (v.facts s)
  pub remembered : (h : H) (w : Memories) → whole_of v (v.with_memory h w) ≡ record { seen = (whole_of v h).seen; memory = w }

abbrev pub Gathers : {H S : Type 0} → View H S → H → ℕ → Type 0
Gathers v h number = KeepsOf (whole_of v h).seen number

abbrev pub Leaves : {H S : Type 0} → Cmp → View H S → (ℕ → Type 0) → H → H → Type 0
Leaves cmp v numbers s t = LeavesSource cmp numbers (whole_of v s) (whole_of v t)

abbrev pub Over : {K : Type 0} {g : Ghosts K} → Merge K (SourceCursor K g) → ℕ → Type 0
Over merge number = OneGoesOver merge.children.items number

abbrev pub Lists : {K : Type 0} {g : Ghosts K} {H S : Type 0} → Cmp → View H S → Merge K (SourceCursor K g) → H → Listed → Type 0
Lists cmp v merge h at = IsMerge cmp (λ cursor s at. ListsSource cmp cursor (whole_of v s) at) merge.children.items merge.current merge.target.items h at

abbrev pub Keeps : {K : Type 0} {g : Ghosts K} {H S : Type 0} → Cmp → View H S → Merge K (SourceCursor K g) → H → H → Type 0
Keeps cmp v merge s t = KeepsAll (λ cursor s t. KeepsSource cmp cursor (whole_of v s) (whole_of v t)) merge.children.items s t

abbrev pub Limited : {K : Type 0} {g : Ghosts K} {H S : Type 0} → Cmp → View H S → Merge K (SourceCursor K g) → H → Type 0
Limited cmp v merge s = AnyLimited (λ cursor s. LimitedSource cmp cursor (whole_of v s)) merge.children.items s

abbrev pub Torn : {K : Type 0} {g : Ghosts K} {H S : Type 0} → Cmp → View H S → Merge K (SourceCursor K g) → H → Cut → Type 0
Torn cmp v merge s cut = AnyTorn (λ cursor s cut. TornSource cmp cursor (whole_of v s) cut) merge.children.items s cut

module _ {H S : Type 0} (cmp : Cmp) (v : View H S) (is : IsView v) where
  led_turn : (over mine : ℕ → Type 0) (a b : H) → IsTurn v.facts v.store_of v.with_store (Leaves cmp v over) mine a b → LedOn cmp over mine (whole_of v a) (whole_of v b)
  led_turn over mine a b (inl moved) = led_moved cmp over mine (whole_of v a) (whole_of v b) moved
  led_turn over mine a b (inr wrote) =
      subst (λ (w : Whole). LedOn cmp over mine (whole_of v a) w) (sym (ap (whole_of v) wrote.1 ∙ is.stored a wrote.0)) (led_written cmp over mine (whole_of v a) (v.facts wrote.0) wrote.2)

  pub led : (over mine : ℕ → Type 0) (n : ℕ) (a b : H) → AreTurns v.facts v.store_of v.with_store (Leaves cmp v over) mine n a b → LedOn cmp over mine (whole_of v a) (whole_of v b)
  led over mine zero a b h = subst (λ (s : H). LedOn cmp over mine (whole_of v a) (whole_of v s)) (sym h) (led_none cmp over mine (whole_of v a))
  led over mine (suc n) a b h = led_both cmp over mine (whole_of v a) (whole_of v h.0) (whole_of v b) (led_turn over mine a h.0 h.1) (led over mine n h.0 b h.2)

module _ {K : Type 0} {g : Ghosts K} {H S : Type 0} (cmp : Cmp) (v : View H S) (is : IsView v) (merge : Merge K (SourceCursor K g)) where
  pub seen_lists : (h : H) (at : Listed) → Lists cmp v merge h at → ListsMerged cmp merge (whole_of v h) at
  seen_lists h at m =
      merged_as cmp (λ cursor s at. ListsSource cmp cursor (whole_of v s) at) (ListsSource cmp) h (whole_of v h) merge.children.items merge.current merge.target.items at (λ i child at is l. l) m

  pub read_lists : (h : H) (at : Listed) → ListsMerged cmp merge (whole_of v h) at → Lists cmp v merge h at
  read_lists h at m =
      merged_as cmp (ListsSource cmp) (λ cursor s at. ListsSource cmp cursor (whole_of v s) at) (whole_of v h) h merge.children.items merge.current merge.target.items at (λ i child at is l. l) m

  pub reads_apart : SoundLasts → (mine : ℕ → Type 0) → ((number : ℕ) → mine number → number < 2 ^ 64) → ReadsNoMemory cmp merge → AreDisjoint (Over merge) mine
      → ReadsApart v.facts v.store_of v.with_store (Gathers v) (Keeps cmp v) merge mine
  reads_apart lasts mine small none apart source store t writes =
      subst (λ (w : Whole). KeepsMerge cmp merge (whole_of v source) w) (sym (is.stored source store))
      (merge_is_kept cmp merge (whole_of v source) (with_facts (whole_of v source) (v.facts store)) none
      (beside (whole_of v source).seen (v.facts store) (λ (n : ℕ). mine n × (Gathers v source n → ⊥)) (λ n w. small n w.0) t writes cmp (Over merge) lasts (λ n w. w.1) (λ n over w. apart n over w.0))).keeps
