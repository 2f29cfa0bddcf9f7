-- What a reader begins with.
use Rattle.std.proofs.Common.{◌≡◌, List, [], sym, subst, ◌∙◌}
use Rattle.cache.specs.Blocks.{KeptBlock}
use Rattle.cache.specs.Tables.{KeptTable}
use Rattle.cursor.specs.Places.{Cmp}
use Rattle.edits.specs.declared.field.PlacedTable.{PlacedTable}
use Rattle.ikey.specs.Orders.{Order}
use Rattle.ikey.specs.Views.{Contents, IsView}
use Rattle.recover.specs.internal.Changes.{RecoveredLaw}
use Rattle.recover.specs.Directory.{Directory, IsConsistent, entries_in, used_in}
use Rattle.recover.specs.Reading.{Recovers}
use Rattle.recover.specs.declared.reading.Recovered.{Recovered}
use Rattle.store.specs.Files.{Files, Facts}
use Rattle.table_access.specs.Tables.{EmptyIsSound, IsSound}
use Rattle.versions.specs.Levels.{ListsSameTables, AreInOrder}
use Rattle.db_cursor.specs.Whole.{Whole}
use Rattle.opening.specs.Looking.{IsSealedOf}
use Rattle.opening.proofs.BegunSteps.{sealed_logged}
use Rattle.reader.specs.internal.Shows.{HoldsRead, Shows}

-- ---- what is shown

-- of nothing that is kept, all is right
pub sound_empty : (cmp : Cmp) (facts : Facts) (tables : List KeptTable) (blocks : List KeptBlock) → EmptyIsSound → tables ≡ [] → blocks ≡ [] → IsSound cmp (record { facts = facts; tables = tables; blocks = blocks })
sound_empty cmp facts tables blocks law t b =
    let T : List KeptTable → Type 0 = λ ts. IsSound cmp (record { facts = facts; tables = ts; blocks = blocks }) in
    let B : List KeptBlock → Type 0 = λ bs. IsSound cmp (record { facts = facts; tables = []; blocks = bs }) in
    subst T (sym t) (subst B (sym b) (law cmp facts))

-- What was read of the directory is held.
pub held_found : (order : Order) (old : Files) (whole : Whole) (found : Recovered) (tables : List PlacedTable) → Recovers order old found → whole.seen.facts.files ≡ old → ListsSameTables found.layout.tables.items tables → AreInOrder order.cmp tables
    → IsSound order.cmp whole.seen → IsSealedOf whole.memory found.entries.items found.used → HoldsRead order old whole tables
held_found order old whole found tables read same lists in_order sound sealed = record {
  recovered = found;
  read = read;
  same = same;
  listed = lists;
  in_order = in_order;
  sound = sound;
  logs = sealed_logged whole.memory found.entries.items found.used sealed;
  last = sealed.last;
}

-- So it is shown, for any map that it has.
pub shown_found : (order : Order) (old : Files) (whole : Whole) (tables : List PlacedTable) → RecoveredLaw → HoldsRead order old whole tables
    → (d : Directory) (contents : Contents) → IsConsistent order old d → IsView (entries_in d) (used_in d) contents → Shows order whole tables contents
shown_found order old whole tables law held d contents good view =
    let parts = law order old held.recovered d held.read good in
    record {
      directory = d;
      consistent = subst (λ (fs : Files). IsConsistent order fs d) (sym held.same) good;
      version = subst (λ (ps : List PlacedTable). ListsSameTables ps tables) (sym parts.0.tables) held.listed;
      in_order = held.in_order;
      sound = held.sound;
      logs = held.logs ∙ sym parts.1;
      last = held.last ∙ sym parts.2;
      view = view;
    }
