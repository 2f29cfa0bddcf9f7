-- A cursor over a table that was opened.
use Rattle.std.proofs.Common.{◌≡◌, ℕ, List, [], ◌∷◌, Some, None, IsTrue, refl, sym, ◌∙◌}
use Rattle.std.specs.Cmp.{IsTotalOrder}
use Rattle.std.specs.List.{AllByRecursion}
use Rattle.std.specs.declared.cmp.Ordering.TheVariants.{Less}
use Rattle.block.specs.Block.{AreAbove}
use Rattle.cursor.specs.Merging.{listed}
use Rattle.cursor.specs.Places.{Cmp, Rises}
use Rattle.edits.specs.declared.field.PlacedTable.{PlacedTable}
use Rattle.ikey.specs.Below.{IsBelowInternal, key_total, same_key}
use Rattle.ikey.specs.Entries.{InternalEntry, Pair, IsPair}
use Rattle.ikey.specs.Keys.{key_cmp}
use Rattle.table_access.specs.Ends.{HasKeysOf}
use Rattle.table_access.specs.Possible.{MayBeTable}
use Rattle.table_access.specs.TablePlaces.{ListsTable}
use Rattle.table_access.specs.Tables.{Seen, Carries, HasSoundTable, IsOpenFrame}
use Rattle.table_access.proofs.Carrying.{still_has}
use Rattle.table_access.proofs.EndKeys.{data_ends}
use Rattle.table.specs.Frame.{Frame}
use Rattle.table.specs.Table.{ArePairs}

module _ (cmp : Cmp) (total : IsTotalOrder cmp) where
  all_above : (a b : InternalEntry) (entries : List InternalEntry) → key_cmp cmp a.key b.key ≡ Less → AllByRecursion (λ (later : InternalEntry). key_cmp cmp b.key later.key ≡ Less) entries
      → AllByRecursion (λ (later : InternalEntry). key_cmp cmp a.key later.key ≡ Less) entries
  all_above a b [] less h = tt
  all_above a b (x ∷ entries) less h = ((key_total cmp total).trans a.key b.key x.key less h.0, all_above a b entries less h.1)

  rises_behind : (first : Pair) (entry : InternalEntry) (pairs : List Pair) (entries : List InternalEntry) → IsPair first entry → AreAbove (IsBelowInternal cmp) (Some first.key) pairs → ArePairs pairs entries
      → AllByRecursion (λ (later : InternalEntry). key_cmp cmp entry.key later.key ≡ Less) entries × Rises cmp entries
  rises_behind first entry [] [] is up are = (tt, tt)
  rises_behind first entry [] (y ∷ entries) is up are = absurd are
  rises_behind first entry (x ∷ pairs) [] is up are = absurd are
  rises_behind first entry (x ∷ pairs) (y ∷ entries) is up are =
      let rest = rises_behind x y pairs entries are.0 up.1 are.1 in
      let b = up.0 in
      let left = same_key first.key b.0 entry.key b.2 is.key in
      let right = same_key x.key b.1 y.key b.3 are.0.key in
      let less : key_cmp cmp entry.key y.key ≡ Less = sym (λ i. key_cmp cmp (left i) (right i)) ∙ b.4 in
      ((less, all_above entry y entries less rest.0), rest)

  pub entries_rise : (pairs : List Pair) (entries : List InternalEntry) → AreAbove (IsBelowInternal cmp) None pairs → ArePairs pairs entries → Rises cmp entries
  entries_rise [] [] up are = tt
  entries_rise [] (y ∷ entries) up are = absurd are
  entries_rise (x ∷ pairs) [] up are = absurd are
  entries_rise (x ∷ pairs) (y ∷ entries) up are = rises_behind x y pairs entries are.0 up are.1

  pub begins : {numbers : ℕ → Type 0} (old new : Seen) (placed : PlacedTable) (frame : Frame) (file : List ℕ) (entries : List InternalEntry) → Carries cmp numbers old new → IsTrue new.facts.faithful → HasSoundTable cmp old placed.table.number file → IsOpenFrame cmp file frame
      → MayBeTable cmp placed file entries → HasKeysOf placed entries → ListsTable cmp new placed frame None (listed entries None)
  begins old new placed frame file entries carries t has open_is table keys =
      let may = table.filled frame open_is.0 in
      record {
        groups = may.groups;
        has = record { file = file; table = still_has cmp old new placed.table.number file carries t has; open_is = open_is; same_length = may.same_length; each = may.each };
        ends = data_ends placed may.groups entries may.entries_are keys;
        bounds = may.bounds;
        entries_are = may.entries_are;
        rises = table.rises;
        inside = λ index e. let bad : None ≡ Some index = e in cc;
        place = refl;
      }
