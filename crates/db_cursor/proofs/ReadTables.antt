-- Which memtables and which tables a scan reads.
use Rattle.std.proofs.Common.{◌≡◌, ◌<◌, ℕ, Bool, true, false, cond, List, [], Option, Some, None, inl, inr, refl, sym, ap, ◌∙◌, subst, arith}
use Rattle.std.specs.Prelude.{IsSome, IfSome, nat_eq}
use Rattle.std.specs.Option.{option_map, option_and_then}
use Rattle.std.proofs.lemmas.Bool.{eq-eqb, eqb-true}
use Rattle.cursor.specs.Places.{Cmp}
use Rattle.edits.specs.declared.field.PlacedTable.{PlacedTable}
use Rattle.memtable.specs.Contents.{Contents}
use Rattle.memtables.specs.Memories.{AreMemories, Memories, inserts_of, older_at, sealed_inserts, table_in}
use Rattle.memtables.specs.Places.{LeavesMemories, seen_by}
use Rattle.db_cursor.specs.declared.scan.Scan.{Scan}
use Rattle.db_cursor.specs.internal.Inputs.{KeepsFiles}
use Rattle.db_cursor.specs.Places.{GoesOver, KeepsSource, OneGoesOver}
use Rattle.db_cursor.specs.Rows.{IsGenerationOf}
use Rattle.db_cursor.specs.internal.Rows.{place_in}
use Rattle.db_cursor.specs.internal.Scanning.{ReadsAs}
use Rattle.db_cursor.specs.Scans.{KeepsWhole, reads_memory, reads_table, tables_of}
use Rattle.db_cursor.specs.declared.source_cursor.SourceCursor.{SourceCursor}
use Rattle.db_cursor.specs.declared.source_cursor.SourceCursor.TheVariants.{Memory, Row}
use Rattle.level_cursor.specs.declared.in_table.InTable.{InTable}
use Rattle.level_cursor.specs.declared.row_cursor.RowCursor.{RowCursor}
use Rattle.level_cursor.specs.InRows.{ListsNumber, IsOpenNumber, KeepsOpen}
use Rattle.level_cursor.specs.Rows.{KeepsRow}
use Rattle.db_cursor.specs.Whole.{Whole}
use Rattle.table_access.specs.Tables.{Seen}

pub read_before : {K : Type 0} {g : _} (old new : Scan K g) → ReadsAs old new → (generation : ℕ) → reads_memory new generation → reads_memory old generation
read_before old new same generation (inl e) = inl (e ∙ same.generation)
read_before old new same generation (inr e) = inr (sym same.sealed ∙ e)

pub read_after : {K : Type 0} {g : _} (old new : Scan K g) → ReadsAs old new → (generation : ℕ) → reads_memory old generation → reads_memory new generation
read_after old new same generation (inl e) = inl (e ∙ sym same.generation)
read_after old new same generation (inr e) = inr (same.sealed ∙ e)

pub tables_as : {K : Type 0} {g : _} (old new : Scan K g) → ReadsAs old new → tables_of new ≡ tables_of old
tables_as old new same = ap (λ (v : _). v.value.tables) same.version

-- ---- tables

-- what reads the tables of the same version reads no others, where its cursors go over no others
pub table_before : {K : Type 0} {g : _} (old new : Scan K g) → ReadsAs old new
    → ((number : ℕ) → OneGoesOver new.walk.cursor.children.items number → OneGoesOver old.walk.cursor.children.items number)
    → (number : ℕ) → reads_table new number → reads_table old number
table_before old new same within number (inl has) = inl (subst (λ (tables : List PlacedTable). ListsNumber tables number) (tables_as old new same) has)
table_before old new same within number (inr over) = inr (within number over)

-- ---- rows

open_kept : {K : Type 0} {g : _} (cmp : Cmp) (numbers : ℕ → Type 0) (old new : Seen) (here : Option (InTable K g)) → ((number : ℕ) → IsOpenNumber here number → numbers number) → KeepsFiles cmp numbers old new → KeepsOpen cmp here old new
open_kept cmp numbers old new None over k = tt
open_kept cmp numbers old new (Some here) over k = record { same = k.files here.cursor.placed.table.number (over here.cursor.placed.table.number refl); sound = k.sound }

-- a cursor over a row reads what it read where the files of its tables stay
pub row_kept : {K : Type 0} {g : _} (cmp : Cmp) (numbers : ℕ → Type 0) (old new : Seen) (row : RowCursor K g) → ((number : ℕ) → GoesOver (Row row) number → numbers number) → KeepsFiles cmp numbers old new → KeepsRow cmp row old new
row_kept cmp numbers old new row over k = record {
  same = λ placed i. k.files placed.table.number (over placed.table.number (inl (placed, i, refl)));
  sound = k.sound;
  here = open_kept cmp numbers old new row.here (λ number is. over number (inr is)) k;
}

-- and any cursor does, where it reads what it read of the memtables
pub source_stays : {K : Type 0} {g : _} (cmp : Cmp) (numbers : ℕ → Type 0) (cursor : SourceCursor K g) (seen : Seen) (old new : Whole) → ((number : ℕ) → GoesOver cursor number → numbers number) → KeepsFiles cmp numbers old.seen new.seen
    → KeepsSource cmp cursor (record { seen = seen; memory = old.memory }) (record { seen = seen; memory = new.memory }) → KeepsSource cmp cursor old new
source_stays cmp numbers (Memory cursor) seen old new over k m = m
source_stays cmp numbers (Row cursor) seen old new over k m = row_kept cmp numbers old.seen new.seen cursor over k

pub files_kept : (cmp : Cmp) (generations numbers : ℕ → Type 0) (sequence : ℕ) (old new : Whole) → KeepsWhole cmp generations numbers sequence old new → KeepsFiles cmp numbers old.seen new.seen
files_kept cmp generations numbers sequence old new k = record { files = k.files; sound = k.sound }

-- ---- what is there

some_mapped : {A B : Type 0} (f : A → B) (old new : Option A) → option_map f old ≡ option_map f new → IsSome old → IsSome new
some_mapped f None new e is = absurd (let bad : false ≡ true = is in cc)
some_mapped f (Some x) None e is = absurd (cc)
some_mapped f (Some x) (Some y) e is = is

-- where what is read is kept, the tables stay
pub there_kept : (cmp : Cmp) (reads numbers : ℕ → Type 0) (sequence : ℕ) (old new : Whole) → KeepsWhole cmp reads numbers sequence old new
    → ((generation : ℕ) → reads generation → IsSome (table_in old.memory generation)) → (generation : ℕ) → reads generation → IsSome (table_in new.memory generation)
there_kept cmp reads numbers sequence old new k there generation is =
    some_mapped (seen_by cmp (place_in 0 generation).place) (table_in old.memory generation) (table_in new.memory generation) (k.memory (place_in 0 generation) is (omega arith)) (there generation is)

-- the same where a move leaves them
pub there_left : (old new : Memories) → LeavesMemories old new → (generation : ℕ) → IsSome (table_in old generation) → IsSome (table_in new generation)
there_left old new left generation is = by (nat_eq generation old.generation) (nat_eq generation new.generation) (ap (nat_eq generation) left.generation) is
  where
    by : (a b : Bool) → b ≡ a → IsSome (cond a (Some old.current) (older_at old.older generation)) → IsSome (cond b (Some new.current) (older_at new.older generation))
    by true true e is = refl
    by false false e is = some_mapped (λ (table : Contents). table.inserts) (older_at old.older generation) (older_at new.older generation) (sym (left.older generation)) is
    by true false e is = absurd (cc)
    by false true e is = absurd (cc)

-- ---- the current and the sealed table

pub current_there : (m : Memories) → table_in m m.generation ≡ Some m.current
current_there m = ap (λ (b : Bool). cond b (Some m.current) (older_at m.older m.generation)) (eq-eqb m.generation m.generation refl)

-- the sealed table is there
pub record HasSealed (m : Memories) (generation : ℕ) : Type 0 where
  pub table : Contents
  pub there : table_in m generation ≡ Some table
  pub inserts : sealed_inserts m ≡ table.inserts

pub sealed_there : (m : Memories) (generation : ℕ) → AreMemories m → m.sealed ≡ Some generation → HasSealed m generation
sealed_there m generation are is = with_older (older_at m.older generation) refl (subst (λ (o : Option ℕ). IfSome o (λ (n : ℕ). IsSome (older_at m.older n))) is are.sealed)
  where
    with_older : (o : Option Contents) → older_at m.older generation ≡ o → IsSome (older_at m.older generation) → HasSealed m generation
    with_older None e some = absurd (let bad : IsSome {T = Contents} None = subst IsSome e some in let false_is : false ≡ true = bad in cc)
    with_older (Some table) e some =
        let below = are.below generation table e in
        let other : nat_eq generation m.generation ≡ false = apart generation m.generation below in
        record {
          table = table;
          there = ap (λ (b : Bool). cond b (Some m.current) (older_at m.older generation)) other ∙ e;
          inserts = ap (λ (o : Option ℕ). inserts_of (option_and_then (older_at m.older) o)) is ∙ ap inserts_of e;
        }
      where
        apart : (n k : ℕ) → n < k → nat_eq n k ≡ false
        apart n k less = cond_none (nat_eq n k) refl
          where
            cond_none : (b : Bool) → nat_eq n k ≡ b → nat_eq n k ≡ false
            cond_none false e = e
            cond_none true e = let same = eqb-true n k e in absurd (omega (arith, same, less))

pub sealed_none : (m : Memories) → m.sealed ≡ None → sealed_inserts m ≡ []
sealed_none m is = ap (λ (o : Option ℕ). inserts_of (option_and_then (older_at m.older) o)) is

-- those that a new scan reads are there
pub new_there : (m : Memories) → AreMemories m → (generation : ℕ) → IsGenerationOf m.generation m.sealed generation → IsSome (table_in m generation)
new_there m are generation (inl e) = subst (λ (n : ℕ). IsSome (table_in m n)) (sym e) (subst IsSome (sym (current_there m)) refl)
new_there m are generation (inr e) = let has = sealed_there m generation are e in subst IsSome (sym has.there) refl
