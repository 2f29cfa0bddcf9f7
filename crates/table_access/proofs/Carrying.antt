-- Calls that only read tables, one after another.
use Rattle.std.proofs.Common.{◌≡◌, ◌⊎◌, ℕ, List, IsSome, IsTrue, ap, ◌∙◌, arith, inl}
use Rattle.cache.specs.Tables.{table_at}
use Rattle.cursor.specs.Places.{Cmp}
use Rattle.edits.specs.Names.{IsNumbered}
use Rattle.edits.specs.declared.field.PlacedTable.{PlacedTable}
use Rattle.ikey.specs.Entries.{Pair}
use Rattle.table_access.specs.Tables.{Seen, Carries, HasSoundTable, HasData, KeepsOf, Knows}
use Rattle.store.specs.Files.{Facts}
use Rattle.table.specs.Frame.{Frame}
use Rattle.table.specs.Reading.{Reads}

pub reads_both : (old mid new : Facts) → Reads old mid → Reads mid new → Reads old new
reads_both old mid new first second =
    let a = first.failures in
    let b = second.failures in
    record {
      faithful = λ t. first.faithful (second.faithful t);
      files = λ t. second.files t ∙ first.files (second.faithful t);
      failures = omega (arith, a, b);
      writes = second.writes ∙ first.writes;
      denials = second.denials ∙ first.denials;
      locked = second.locked ∙ first.locked;
      synced = λ t. second.synced t ∙ first.synced (second.faithful t);
      calls = λ t. second.calls t ∙ first.calls (second.faithful t);
    }

-- what is kept afterwards is of tables of which something was kept before, or that are there
pub kept_anew : {numbers : ℕ → Type 0} (cmp : Cmp) (old new : Seen) (number : ℕ) → Carries cmp numbers old new → IsTrue new.facts.faithful → KeepsOf new number → KeepsOf old number ⊎ (IsNumbered number × IsSome (table_at old.facts.files number))
unfolding Knows
kept_anew cmp old new number carries t kept = carries.kept t number (inl kept)

-- a source has the same tables afterwards
pub same_table_at : {numbers : ℕ → Type 0} (cmp : Cmp) (old new : Seen) (number : ℕ) → Carries cmp numbers old new → IsTrue new.facts.faithful → table_at new.facts.files number ≡ table_at old.facts.files number
same_table_at cmp old new number carries t = ap (λ files. table_at files number) (carries.reads.files t)

pub still_has : {numbers : ℕ → Type 0} (cmp : Cmp) (old new : Seen) (number : ℕ) (file : List ℕ) → Carries cmp numbers old new → IsTrue new.facts.faithful → HasSoundTable cmp old number file → HasSoundTable cmp new number file
still_has cmp old new number file carries t h = record { sound = carries.sound t h.sound; file_is = same_table_at cmp old new number carries t ∙ h.file_is }

pub still_data : {numbers : ℕ → Type 0} (cmp : Cmp) (old new : Seen) (placed : PlacedTable) (frame : Frame) (groups : List (List Pair)) → Carries cmp numbers old new → IsTrue new.facts.faithful → HasData cmp old placed frame groups
    → HasData cmp new placed frame groups
still_data cmp old new placed frame groups carries t h = record {
  file = h.file;
  table = still_has cmp old new placed.table.number h.file carries t h.table;
  open_is = h.open_is;
  same_length = h.same_length;
  each = h.each;
}
