-- What a batch after the last log leaves of what a database knows of its directory.
use Rattle.std.proofs.Common.{◌≡◌, ◌<◌, ℕ, Bool, false, List, [], ◌∷◌, ◌++◌, Contains, length, inl, inr, refl, sym, ap, subst, ◌∙◌, arith}
use Rattle.std.proofs.lemmas.List.{length-append}
use Rattle.std.specs.FinMap.{get}
use Rattle.db_cursor.proofs.Origins.{origin_left, same_origin}
use Rattle.db_cursor.specs.Origins.{HasOrigin}
use Rattle.directory_writes.proofs.JobTables.{among_contains, among_placed, contains_among, content_at}
use Rattle.directory_writes.proofs.SameChanges.{differs_after, one_change}
use Rattle.directory_writes.specs.Differing.{IsSameChange}
use Rattle.directory_writes.specs.Replacing.{placed_in}
use Rattle.edits.specs.Names.{IsNumbered}
use Rattle.edits.specs.declared.field.PlacedTable.{PlacedTable}
use Rattle.ikey.specs.Orders.{Order}
use Rattle.ikey.specs.declared.entry.Entry.{Entry}
use Rattle.memtables.specs.Changes.{HasMoreEntries}
use Rattle.memtables.specs.Memories.{Memories, sealed_inserts}
use Rattle.recover.specs.internal.Changes.{IsExtended, ManifestEndsAt, with_content}
use Rattle.recover.proofs.Memberships.{in_with, one_of_tables}
use Rattle.recover.proofs.OneMeaning.{same_directory, same_manifest}
use Rattle.recover.specs.Tables.{InTables, TableContent, table_at}
use Rattle.recover.specs.Directory.{Directory, HasManifest, IsConsistent}
use Rattle.recover.specs.Logs.{LogContent, batch_entries, logged}
use Rattle.recover.specs.Numbers.{IsFree}
use Rattle.store.specs.Files.{Files}
use Rattle.opening.specs.internal.Knowing.{HasLogs, KnowsDirectory}
use Rattle.opening.specs.declared.directory.DirectoryState.{DirectoryState}
use Rattle.engine.specs.Origins.{ComesFrom}
use Rattle.engine.proofs.Compacting.{listed_number}
use Rattle.engine.proofs.Origins.{StaysUnder}

-- a list ends in one way
pub one_end : {X : Type 0} → (xs ys : List X) (x y : X) → xs ++ x ∷ [] ≡ ys ++ y ∷ [] → (xs ≡ ys) × (x ≡ y)
one_end [] [] x y e = (refl, cc)
one_end [] (b ∷ ys) x y e = absurd (let long = ap length e in omega (arith, long, length-append ys (y ∷ [])))
one_end (a ∷ xs) [] x y e = absurd (let long = ap length e in omega (arith, long, length-append xs (x ∷ [])))
one_end (a ∷ xs) (b ∷ ys) x y e =
    let first : a ≡ b = cc in
    let rest : xs ++ x ∷ [] ≡ ys ++ y ∷ [] = cc in
    let ends = one_end xs ys x y rest in
    ((λ i. first i ∷ ends.0 i), ends.1)

-- The entries come after those of the last log and of the current memtable.
pub logs_extended : (d e : Directory) (log : ℕ) (old new : Memories) (more : List Entry) → IsExtended d e more → HasMoreEntries old new more → HasLogs d log old → HasLogs e log new
logs_extended d e log old new more x written h =
    let same = one_end h.sealed x.before h.current x.last (sym h.logs ∙ x.old) in
    let sealed : new.sealed ≡ old.sealed = ap (λ (m : Memories). m.sealed) written.others in
    record {
      sealed = x.before;
      current = x.next;
      logs = ap (λ (f : Directory). f.logs) x.new;
      number = x.number ∙ ap (λ (c : LogContent). c.number) (sym same.1) ∙ h.number;
      sealed_are = ap sealed_inserts written.others ∙ h.sealed_are ∙ ap logged same.0;
      current_are = written.inserts ∙ ap (λ (es : List Entry). es ++ more) (h.current_are ∙ ap (λ (c : LogContent). batch_entries c.batches) same.1) ∙ sym x.entries;
      front = λ none. sym same.0 ∙ h.front (sym sealed ∙ none);
      some = λ none. sealed ∙ h.some (sym (ap sealed_inserts written.others) ∙ none);
    }

-- No other part is changed.
pub knows_extended : (order : Order) (old new : Files) (d e : Directory) (log : ℕ) (state : DirectoryState) (more : List Entry) → IsExtended d e more
    → (ManifestEndsAt order old d.manifest state.manifest.end d.edits d.layout → ManifestEndsAt order new d.manifest state.manifest.end d.edits d.layout)
    → (IsFree order old state.numbers.next → IsFree order new state.numbers.next)
    → KnowsDirectory order old d log state → KnowsDirectory order new e log state
knows_extended order old new d e log state more x ends free h = subst (λ (f : Directory). KnowsDirectory order new f log state) (sym x.new) (record {
  first_log = h.first_log;
  forward = h.forward;
  previous_log = h.previous_log;
  number = h.number;
  named = h.named;
  ends = ends h.ends;
  free = free h.free;
})

-- ---- the directory from which the files come

-- what is there stays where nothing is done
pub no_change : (old new ideal : Files) → new ≡ old → IsSameChange old new ideal ideal
no_change old new ideal same = record { stays = λ q is. refl; changes = λ q apart. absurd (apart (ap (λ (fs : Files). get fs q) same)) }

-- a table of a directory has a number that was drawn
pub placed_number : (order : Order) (files : Files) (d : Directory) (next : ℕ) (placed : PlacedTable) → IsConsistent order files d → IsFree order files next → Contains d.layout.tables.items placed
    → IsNumbered placed.table.number × (placed.table.number < next)
placed_number order files d next placed good free is =
    let content = content_at d.tables placed (contains_among (placed_in d.tables) placed (subst (λ (ps : List PlacedTable). Contains ps placed) (sym good.placed) is)) in
    subst (λ (n : ℕ). IsNumbered n × (n < next)) (ap (λ (p : PlacedTable). p.table.number) content.2) (listed_number order files d next content.0 good free content.1)

module _ (order : Order) (b : Bool) (old new ideal after : Files) (d : Directory) (from : ComesFrom order b old ideal) (change : IsSameChange old new ideal after) (before : IsConsistent order ideal d)
    (stays : (placed : PlacedTable) → Contains d.layout.tables.items placed → StaysUnder old new placed.table.number) where
  still_from : (placed : PlacedTable) → Contains d.layout.tables.items placed → HasOrigin order.cmp new after placed
  still_from placed is = let kept = stays placed is in origin_left order.cmp old new ideal after placed change.stays kept.0 kept.1 (from.origins d before placed is)

  whole_still : b ≡ false → after ≡ new
  whole_still is =
      let whole : ideal ≡ old = from.undamaged is in
      let other : IsSameChange old new old after = subst (λ (fs : Files). IsSameChange old new fs after) whole change in
      (one_change old new).2 old after new other (one_change old new).1

  -- The files come from what a call leaves that changes no table and not what the MANIFEST says.
  pub comes_extended : HasManifest order after d.manifest d.edits d.layout → ComesFrom order b new after
  comes_extended has = record {
    differs = differs_after old new ideal after from.differs change;
    origins = λ e good placed is.
        let said = same_manifest order after d.manifest e.manifest d.edits e.edits d.layout e.layout has good.manifest in
        still_from placed (subst (λ (ps : List PlacedTable). Contains ps placed) (sym said.2.tables) is);
    undamaged = whole_still;
  }

  -- So they do where one more table is there, which is the same in both.
  pub comes_with : (e : Directory) (content : TableContent) → IsConsistent order after e → e.tables ≡ with_content content d.tables → table_at after content.placed.table.number ≡ table_at new content.placed.table.number → ComesFrom order b new after
  comes_with e content behind same alike = record {
    differs = differs_after old new ideal after from.differs change;
    origins = λ f good placed is.
        let tables : f.tables ≡ with_content content d.tables = (same_directory order after f e good behind).3 ∙ same in
        let at = content_at f.tables placed (contains_among (placed_in f.tables) placed (subst (λ (ps : List PlacedTable). Contains ps placed) (sym good.placed) is)) in
        subst (λ (p : PlacedTable). HasOrigin order.cmp new after p) at.2 (elim (in_with content d.tables at.0 (subst (λ (cs : List TableContent). InTables cs at.0) tables at.1)) [
          | inl it ↦
              let has = one_of_tables order after f.tables at.0 good.tables at.1 in
              let here : table_at after at.0.placed.table.number ≡ table_at new at.0.placed.table.number = subst (λ (c : TableContent). table_at after c.placed.table.number ≡ table_at new c.placed.table.number) (sym it) alike in
              (same_origin order.cmp at.0.placed has.bytes).1 new after (sym here ∙ has.there) has.there
          | inr was ↦ still_from at.0.placed (subst (λ (ps : List PlacedTable). Contains ps at.0.placed) before.placed (among_contains (placed_in d.tables) at.0.placed (among_placed d.tables at.0 was)))
        ]);
    undamaged = whole_still;
  }
