-- Tables all of whose blocks are intact.
use Rattle.std.proofs.Common.{◌≡◌, ◌<◌, ℕ, List, [], ◌∷◌, Some, length, sym, ◌∙◌, subst}
use Rattle.std.specs.Cmp.{IsTotalOrder}
use Rattle.std.specs.List.{slice_get}
use Rattle.cursor.specs.Cuts.{Cut}
use Rattle.cursor.specs.Places.{Cmp}
use Rattle.edits.specs.declared.field.PlacedTable.{PlacedTable}
use Rattle.ikey.specs.Entries.{InternalEntry, Pair}
use Rattle.table_access.specs.Ends.{HasEnds, HasKeysOf, IsIntactIn}
use Rattle.table_access.specs.Possible.{HaveKeys, MayBeTable, MayHave}
use Rattle.table_access.specs.TablePlaces.{joined}
use Rattle.table_access.specs.Torn.{HasTorn}
use Rattle.table_access.proofs.EndKeys.{data_ends}
use Rattle.table_access.proofs.Opening.{entries_rise}
use Rattle.table_access.proofs.Placing.{data_at, data_length, some_at}
use Rattle.table.specs.Frame.{Frame, IsFrame}
use Rattle.table.specs.Table.{ArePairs, IsFilled, IsTable}
use Rattle.table.proofs.DataBlocks.{one_data}
use Rattle.table.proofs.FrameParts.{one_frame}
use Rattle.table.proofs.Within.{filled_within, intact_at}

module _ (cmp : Cmp) (placed : PlacedTable) (file : List ℕ) (frame : Frame) (entries : List InternalEntry) (filled : IsFilled cmp file frame entries) where
  -- a block that is intact is the one that it has there
  pub each_block : (index : ℕ) (pairs others : List Pair) → slice_get filled.blocks index ≡ Some pairs → IsIntactIn cmp placed file frame.places index others → pairs ≡ others
  each_block index pairs others at is =
      let d = data_at cmp file frame.places filled.blocks index is.intact.place filled.data_is is.intact.place_is in
      let both : Some pairs ≡ Some d.0 = sym at ∙ d.1 in
      let same : pairs ≡ d.0 = cc in
      same ∙ one_data cmp file is.intact.place.handle d.0 others d.2 is.intact.has

  pub may_have : MayHave cmp placed file frame entries
  may_have = record {
    groups = filled.blocks;
    same_length = data_length cmp file frame.places filled.blocks filled.data_is;
    each = each_block;
    bounds = filled.bounds;
    entries_are = filled.entries_are;
    rises = filled.rises;
    admitted = filled.admitted;
  }

  -- each block is intact
  pub all_intact : HasKeysOf placed entries → (index : ℕ) → index < length frame.places → (pairs : List Pair) × IsIntactIn cmp placed file frame.places index pairs
  all_intact keys index less =
      let place = some_at frame.places index less in
      let d = data_at cmp file frame.places filled.blocks index place.0 filled.data_is place.1 in
      let within = filled_within cmp frame.places filled.blocks entries filled.bounds filled.entries_are in
      let long = data_length cmp file frame.places filled.blocks filled.data_is in
      let ends = data_ends placed filled.blocks entries filled.entries_are keys index d.0 d.1 in (
        d.0,
        record {
          intact = intact_at cmp file frame.places filled.blocks index place.0 d.0 within place.1 d.1 d.2;
          ends = subst (λ (n : ℕ). HasEnds placed n index d.0) (sym long) ends;
        },
      )

-- what a table has that has this frame
pub filled_of : (cmp : Cmp) (file : List ℕ) (frame : Frame) (entries : List InternalEntry) → IsFrame cmp file frame → IsTable cmp file entries → IsFilled cmp file frame entries
filled_of cmp file frame entries is table = subst (λ (f : Frame). IsFilled cmp file f entries) (one_frame cmp file table.0 frame table.1 is) table.2

have_keys : (pairs : List Pair) (entries : List InternalEntry) → ArePairs pairs entries → HaveKeys entries
have_keys [] [] h = tt
have_keys [] (entry ∷ entries) h = absurd h
have_keys (pair ∷ pairs) [] h = absurd h
have_keys (pair ∷ pairs) (entry ∷ entries) h = ((pair.key, h.0.key), have_keys pairs entries h.1)

-- a table may be what it is
pub may_be : (cmp : Cmp) → IsTotalOrder cmp → (placed : PlacedTable) (file : List ℕ) (entries : List InternalEntry) → IsTable cmp file entries → MayBeTable cmp placed file entries
may_be cmp total placed file entries table = record {
  some = table.2.some;
  keyed = have_keys (joined table.2.blocks) entries table.2.entries_are;
  rises = entries_rise cmp total (joined table.2.blocks) entries table.2.rises table.2.entries_are;
  filled = λ frame is. may_have cmp placed file frame entries (filled_of cmp file frame entries is table);
}

-- it has no block that is none
pub none_torn : (cmp : Cmp) (placed : PlacedTable) (file : List ℕ) (entries : List InternalEntry) → IsTable cmp file entries → HasKeysOf placed entries → (frame : Frame) → IsFrame cmp file frame → (cut : Cut) → HasTorn cmp placed file frame cut → ⊥
none_torn cmp placed file entries table keys frame is cut t =
    let block = all_intact cmp placed file frame entries (filled_of cmp file frame entries is table) keys t.index t.inside in
    t.torn block.0 block.1
