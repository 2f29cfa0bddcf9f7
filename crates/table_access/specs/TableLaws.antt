-- Laws of cursors over tables.
use Rattle.std.specs.Prelude.{◌≡◌, ℕ, List, Option, Some, None, IsTrue, is_some}
use Rattle.cache.specs.Tables.{table_at}
use Rattle.std.proofs.Common.{refl, sym, ap, ◌∙◌, arith, inl, inr}
use Rattle.block.specs.Places.{Placed}
use Rattle.cursor.specs.Cuts.{Cut}
use Rattle.cursor.specs.Places.{Cmp, Listed}
use Rattle.edits.specs.declared.field.PlacedTable.{PlacedTable}
use Rattle.ikey.specs.Entries.{Pair}
use Rattle.table_access.specs.declared.in_block.InBlock.{InBlock}
use Rattle.table_access.specs.Tables.{Seen, Carries}
use Rattle.table_access.specs.Torn.{TornTable}
use Rattle.table_access.specs.TablePlaces.{IsPlacedIn, ListsTable, KeepsSeenTable, block_stands}
use Rattle.store.specs.Files.{Facts}
use Rattle.table.proofs.Steps.{reads_then}
use Rattle.table.specs.Frame.{Frame}
use Rattle.table.specs.Reading.{Reads}

pub placed_in : (groups : List (List Pair)) (here : Option (InBlock Placed)) (place : Option ℕ) → IsPlacedIn groups here place → block_stands here ≡ is_some place
placed_in groups None place h = sym (ap is_some h)
placed_in groups (Some here) place h = ap is_some h.stands ∙ sym (ap is_some h.place_is)

pub lists_kept : (cmp : Cmp) (placed : PlacedTable) (frame : Frame) (here : Option (InBlock Placed)) (old new : Seen) (at : Listed)
    → KeepsSeenTable cmp placed.table.number old new → ListsTable cmp old placed frame here at → ListsTable cmp new placed frame here at
lists_kept cmp placed frame here old new at keeps lists = record {
  groups = lists.groups;
  has = record {
    file = lists.has.file;
    table = record { sound = keeps.sound lists.has.table.sound; file_is = keeps.same ∙ lists.has.table.file_is };
    open_is = lists.has.open_is;
    same_length = lists.has.same_length;
    each = lists.has.each;
  };
  ends = lists.ends;
  bounds = lists.bounds;
  entries_are = lists.entries_are;
  rises = lists.rises;
  inside = lists.inside;
  place = lists.place;
}

pub table_still : (cmp : Cmp) (number : ℕ) (source : Seen) → KeepsSeenTable cmp number source source
table_still cmp number source = record { same = refl; sound = λ h. h }

pub table_onward : (cmp : Cmp) (number : ℕ) (first second third : Seen) → KeepsSeenTable cmp number first second → KeepsSeenTable cmp number second third → KeepsSeenTable cmp number first third
table_onward cmp number first second third k l = record { same = l.same ∙ k.same; sound = λ h. l.sound (k.sound h) }

pub torn_kept : (cmp : Cmp) (placed : PlacedTable) (frame : Frame) (old new : Seen) (cut : Cut) → KeepsSeenTable cmp placed.table.number old new → TornTable cmp new placed frame cut → TornTable cmp old placed frame cut
torn_kept cmp placed frame old new cut k t file has = t file (record { sound = k.sound has.sound; file_is = k.same ∙ has.file_is })

-- ---- calls that only read tables

reads_itself : (facts : Facts) → Reads facts facts
reads_itself facts = record { faithful = λ t. t; files = λ t. refl; failures = omega arith; writes = refl; denials = refl; locked = refl; synced = λ t. refl; calls = λ t. refl }

-- a source carries itself
pub carries_itself : {numbers : ℕ → Type 0} (cmp : Cmp) (source : Seen) → Carries cmp numbers source source
carries_itself cmp source = record { reads = reads_itself source.facts; sound = λ t h. h; kept = λ t number k. k; gathered = λ number k. inl k }

-- two calls, one after the other
pub carries_both : {numbers : ℕ → Type 0} (cmp : Cmp) (old mid new : Seen) → Carries cmp numbers old mid → Carries cmp numbers mid new → Carries cmp numbers old new
carries_both cmp old mid new first second = record {
  reads = reads_then old.facts mid.facts new.facts first.reads second.reads;
  sound = λ t h. second.sound t (first.sound (second.reads.faithful t) h);
  kept = λ t number k. first.kept (second.reads.faithful t) number (second.kept t number k);
  gathered = λ number k. elim (second.gathered number k) [ inl was ↦ first.gathered number was | inr its ↦ inr its ];
}

-- over fewer tables, and so over more of them
pub carries_more : {fewer more : ℕ → Type 0} (cmp : Cmp) (old new : Seen) → ((number : ℕ) → fewer number → more number) → Carries cmp fewer old new → Carries cmp more old new
carries_more cmp old new less carries = record {
  reads = carries.reads;
  sound = carries.sound;
  kept = carries.kept;
  gathered = λ number k. elim (carries.gathered number k) [ inl was ↦ inl was | inr its ↦ inr (less number its) ];
}

-- a table has no block anew that is none
pub torn_carried : {numbers : ℕ → Type 0} (cmp : Cmp) (old new : Seen) (placed : PlacedTable) (frame : Frame) (cut : Cut) → Carries cmp numbers old new → IsTrue new.facts.faithful → TornTable cmp new placed frame cut → TornTable cmp old placed frame cut
torn_carried cmp old new placed frame cut carries f t file has =
    t file (record { sound = carries.sound f has.sound; file_is = ap (λ files. table_at files placed.table.number) (carries.reads.files f) ∙ has.file_is })
