-- Tables in a row, and where a cursor stands in them.
use Rattle.std.specs.Prelude.{◌≡◌, ◌⊎◌, ◌<◌, ◌+◌, ℕ, zero, suc, Bool, true, false, List, [], ◌∷◌, Option, None, Some, Contains, length, slice_get}
use Rattle.std.specs.List.{AllByRecursion, flat_map}
use Rattle.block.specs.Places.{Placed}
use Rattle.cache.specs.Tables.{table_at}
use Rattle.cursor.specs.Cuts.{Cut, is_in_front}
use Rattle.cursor.specs.Merging.{listed}
use Rattle.cursor.specs.Places.{Cmp, Listed, Rises}
use Rattle.edits.specs.declared.field.PlacedTable.{PlacedTable}
use Rattle.ikey.specs.Below.{IsBelowInternal}
use Rattle.ikey.specs.Entries.{InternalEntry}
use Rattle.ikey.specs.Keys.{Key, IsKey}
use Rattle.level_cursor.specs.declared.in_table.InTable.{InTable}
use Rattle.table_access.specs.declared.in_block.InBlock.{InBlock}
use Rattle.table_access.specs.Ends.{HasKeysOf}
use Rattle.table_access.specs.Possible.{MayBeTable}
use Rattle.table_access.specs.Torn.{HasTorn, TornTable}
use Rattle.table_access.specs.TablePlaces.{KeepsSeenTable, ListsTable, block_stands}
use Rattle.table_access.specs.Tables.{Seen, IsSound, HasSoundTable, IsOpenFrame}
use Rattle.table_access.specs.Values.{IsTablePastLimit}
use Rattle.table.specs.Frame.{AnyLong, Frame, handles}
use Rattle.table.specs.Refusals.{IsFrameDamaged}

-- the entries of all its tables
abbrev pub joined : List (List InternalEntry) → List InternalEntry
joined lists = flat_map (λ (list : List InternalEntry). list) lists

-- how many entries lie in the tables before this one
unfoldable pub entries_before : List (List InternalEntry) → ℕ → ℕ
entries_before [] index = zero
entries_before (list ∷ lists) zero = zero
entries_before (list ∷ lists) (suc index) = length list + entries_before lists index

-- ---- what the tables hold

-- no entry comes after the key
abbrev pub EndsBy : Cmp → List ℕ → List InternalEntry → Type 0
EndsBy cmp key entries = AllByRecursion (λ (entry : InternalEntry). (bytes : List ℕ) → IsKey bytes entry.key → IsBelowInternal cmp key bytes → ⊥) entries

-- The source has this table of an edit, which may have these entries, as far as its blocks tell.
-- They have the edit's keys at their ends, so that none comes after the largest.
pub record HasList (cmp : Cmp) (source : Seen) (placed : PlacedTable) (entries : List InternalEntry) : Type 0 where
  pub positive : 0 < placed.table.number
  pub file : List ℕ
  pub there : HasSoundTable cmp source placed.table.number file
  pub spelled : MayBeTable cmp placed file entries
  pub keys : HasKeysOf placed entries
  pub ends : EndsBy cmp placed.table.largest entries

-- it has each of them
abbrev pub HaveLists : Cmp → Seen → List PlacedTable → List (List InternalEntry) → Type 0
HaveLists cmp source [] [] = Unit {0}
HaveLists cmp source (placed ∷ tables) (list ∷ lists) = HasList cmp source placed list × HaveLists cmp source tables lists
HaveLists cmp source tables lists = ⊥

-- ---- where the cursor stands

-- The table of this index has a list, in which the cursor over it stands on an entry; place is that
-- among the entries of all tables.
pub record IsInTable (cmp : Cmp) (source : Seen) (lists : List (List InternalEntry)) (index : ℕ) (placed : PlacedTable) (frame : Frame) (here : Option (InBlock Placed)) (place : Option ℕ) : Type 0 where
  pub list : List InternalEntry
  pub inside : ℕ
  pub list_is : slice_get lists index ≡ Some list
  pub stands : ListsTable cmp source placed frame here (listed list (Some inside))
  pub place_is : place ≡ Some (entries_before lists index + inside)

-- so it stands at this place, in the table that is open, or nowhere where none is
abbrev pub IsPlacedRow : {K : Type 0} {g : _} → Cmp → Seen → List (List InternalEntry) → Option (InTable K g) → Option ℕ → Type 0
IsPlacedRow cmp source lists None place = place ≡ None
IsPlacedRow cmp source lists (Some here) place = IsInTable cmp source lists here.index here.cursor.placed here.cursor.table.value.frame here.cursor.here place

abbrev pub table_stands : {K : Type 0} {g : _} → Option (InTable K g) → Bool
table_stands None = false
table_stands (Some here) = block_stands here.cursor.here

-- A cursor with this table open, over a row of these tables, is this list and this place.
pub record ListsTables {K : Type 0} {g : _} (cmp : Cmp) (source : Seen) (row : List PlacedTable) (here : Option (InTable K g)) (at : Listed) : Type 0 where
  pub lists : List (List InternalEntry)
  pub sound : IsSound cmp source
  pub tables : HaveLists cmp source row lists
  pub entries_are : at.entries ≡ joined lists
  pub rises : Rises cmp at.entries
  pub inside : (index : ℕ) → at.place ≡ Some index → index < length at.entries
  pub place : IsPlacedRow cmp source lists here at.place

-- the second source has the same table where one is open
abbrev pub KeepsOpen : {K : Type 0} {g : _} → Cmp → Option (InTable K g) → Seen → Seen → Type 0
KeepsOpen cmp None old new = Unit {0}
KeepsOpen cmp (Some here) old new = KeepsSeenTable cmp here.cursor.placed.table.number old new

-- The second source has the same tables, and what it keeps is right where that of the first is.
pub record KeepsTables {K : Type 0} {g : _} (cmp : Cmp) (row : List PlacedTable) (open_one : Option (InTable K g)) (old new : Seen) : Type 0 where
  pub same : (placed : PlacedTable) → Contains row placed → table_at new.facts.files placed.table.number ≡ table_at old.facts.files placed.table.number
  pub sound : IsSound cmp old → IsSound cmp new
  pub here : KeepsOpen cmp open_one old new

-- One of the tables passes a limit of reading, whatever file it is.
abbrev pub IsOneLimited : Cmp → Seen → List PlacedTable → Type 0
IsOneLimited cmp source row = (placed : PlacedTable) × Contains row placed × ((file : List ℕ) → HasSoundTable cmp source placed.table.number file → IsTablePastLimit cmp file)

-- one of these tables has this number
abbrev pub ListsNumber : List PlacedTable → ℕ → Type 0
ListsNumber tables number = (placed : PlacedTable) × Contains tables placed × (placed.table.number ≡ number)

-- the table that is open has it
abbrev pub IsOpenNumber : {K : Type 0} {g : _} → Option (InTable K g) → ℕ → Type 0
IsOpenNumber None number = ⊥
IsOpenNumber (Some here) number = here.cursor.placed.table.number ≡ number

abbrev pub IsOpenLimited : {K : Type 0} {g : _} → Option (InTable K g) → Type 0
IsOpenLimited None = ⊥
IsOpenLimited (Some here) = AnyLong (handles here.cursor.table.value.frame)

-- ---- torn tables

-- the file of this table of an edit has no frame, or a block of it that lies at the cut is none
abbrev pub IsTornFile : Cmp → PlacedTable → List ℕ → Cut → Type 0
IsTornFile cmp placed file cut = IsFrameDamaged cmp file ⊎ ((frame : Frame) × IsOpenFrame cmp file frame × HasTorn cmp placed file frame cut)

-- the same for the one that the source has
abbrev pub IsTornOne : Cmp → Seen → PlacedTable → Cut → Type 0
IsTornOne cmp source placed cut = (file : List ℕ) → HasSoundTable cmp source placed.table.number file → IsTornFile cmp placed file cut

-- The cut lies in the table of this index: the tables before it end before the cut, and those after
-- it begin after the cut.
pub record LiesIn (cmp : Cmp) (row : List PlacedTable) (index : ℕ) (cut : Cut) : Type 0 where
  pub front : (k : ℕ) (placed : PlacedTable) (key : Key) → k < index → slice_get row k ≡ Some placed → IsKey placed.table.largest key → is_in_front cmp cut key ≡ true
  pub back : (k : ℕ) (placed : PlacedTable) (key : Key) → index < k → slice_get row k ≡ Some placed → IsKey placed.table.smallest key → is_in_front cmp cut key ≡ false

-- one of them is torn there
pub record IsOneTorn (cmp : Cmp) (source : Seen) (row : List PlacedTable) (cut : Cut) : Type 0 where
  pub index : ℕ
  pub placed : PlacedTable
  pub placed_is : slice_get row index ≡ Some placed
  pub lies : LiesIn cmp row index cut
  pub torn : IsTornOne cmp source placed cut

-- the one that is open is
abbrev pub IsOpenTorn : {K : Type 0} {g : _} → Cmp → Seen → List PlacedTable → Option (InTable K g) → Cut → Type 0
IsOpenTorn cmp source row None cut = ⊥
IsOpenTorn cmp source row (Some here) cut = LiesIn cmp row here.index cut × TornTable cmp source here.cursor.placed here.cursor.table.value.frame cut

-- a block of the open one is none at this cut, wherever the table lies
abbrev pub IsTornHere : {K : Type 0} {g : _} → Cmp → Seen → Option (InTable K g) → Cut → Type 0
IsTornHere cmp source None cut = ⊥
IsTornHere cmp source (Some here) cut = TornTable cmp source here.cursor.placed here.cursor.table.value.frame cut
