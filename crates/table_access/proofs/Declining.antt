-- Why a look-up in a table is refused, and what it reads.
use Rattle.std.proofs.Common.{◌≡◌, ◌⊎◌, ◌≤◌, ℕ, List, length, IsTrue, sym, subst, arith, inl, inr}
use Rattle.cache.specs.Tables.{RefusesTable}
use Rattle.coding.specs.declared.error.Damage.{Damage}
use Rattle.coding.specs.declared.error.DbError.{DbError}
use Rattle.coding.specs.declared.error.FileKind.{FileKind}
use Rattle.coding.specs.declared.error.DbError.TheVariants.{OutOfMemory, Io, Corrupt, Unsupported}
use Rattle.cursor.specs.Moves.{Refuses}
use Rattle.cursor.specs.Places.{Cmp}
use Rattle.edits.specs.declared.field.PlacedTable.{PlacedTable}
use Rattle.ikey.specs.Entries.{InternalEntry}
use Rattle.table_access.specs.Tables.{Seen, Carries, HasData, HasSoundTable, IsOpenFrame}
use Rattle.table_access.specs.Values.{IsNoTable, IsTablePastLimit}
use Rattle.table_access.proofs.Carrying.{still_has}
use Rattle.table_access.proofs.Placing.{data_length}
use Rattle.table_access.proofs.Wholes.{all_intact, each_block, filled_of}
use Rattle.table_access.specs.Torn.{LacksOn}
use Rattle.table.specs.Frame.{AnyLong, Frame, handles}
use Rattle.table.specs.Refusals.{IsFirstPlace, IsFrameDamaged, IsFrameUnsupported}
use Rattle.table.specs.Table.{IsFilled}

pub data_of : {numbers : ℕ → Type 0} (cmp : Cmp) (old mid : Seen) (placed : PlacedTable) (file : List ℕ) (frame : Frame) (entries : List InternalEntry) → Carries cmp numbers old mid → IsTrue mid.facts.faithful → HasSoundTable cmp old placed.table.number file → IsOpenFrame cmp file frame
    → (filled : IsFilled cmp file frame entries) → HasData cmp mid placed frame filled.blocks
data_of cmp old mid placed file frame entries carries m has open_is filled = record {
  file = file;
  table = still_has cmp old mid placed.table.number file carries m has;
  open_is = open_is;
  same_length = data_length cmp file frame.places filled.blocks filled.data_is;
  each = each_block cmp placed file frame entries filled;
}

pub starts_inside : (cmp : Cmp) (file target : List ℕ) (frame : Frame) (entries : List InternalEntry) (start : ℕ) → IsFirstPlace cmp target frame.places start → (filled : IsFilled cmp file frame entries) → start ≤ length filled.blocks
starts_inside cmp file target frame entries start first filled =
    let l = data_length cmp file frame.places filled.blocks filled.data_is in let i = first.inside in omega (arith, l, i)

module _ (cmp : Cmp) (old : Seen) (placed : PlacedTable) where
  abbrev pub NoTableThere : Type 0
  NoTableThere = (file : List ℕ) → HasSoundTable cmp old placed.table.number file → IsNoTable cmp placed file

  abbrev pub LimitThere : Type 0
  LimitThere = (file : List ℕ) → HasSoundTable cmp old placed.table.number file → IsTablePastLimit cmp file

  pub not_opened : (e : DbError) (new : Seen) → RefusesTable e old.facts new.facts placed.table.number (IsFrameDamaged cmp) IsFrameUnsupported → Refuses e old.facts new.facts NoTableThere LimitThere
  not_opened OutOfMemory new h = tt
  not_opened Io new h = h
  not_opened (Corrupt kind what) new h = λ t file has entries table keys. (h t file has.file_is).0 table.0 table.1
  not_opened (Unsupported what) new h = λ t. inr (λ file has. inl (h t file has.file_is))
  not_opened e new h = absurd h

  -- what was found isn't answered
  pub not_valued : (e : DbError) (new : Seen) (kind : FileKind) (what : Damage) → (e ≡ OutOfMemory) ⊎ ((e ≡ Corrupt kind what) × (IsTrue new.facts.faithful → NoTableThere)) → Refuses e old.facts new.facts NoTableThere LimitThere
  not_valued e new kind what (inl memory) = subst (λ (r : DbError). Refuses r old.facts new.facts NoTableThere LimitThere) (sym memory) tt
  not_valued e new kind what (inr corrupt) = subst (λ (r : DbError). Refuses r old.facts new.facts NoTableThere LimitThere) (sym corrupt.0) corrupt.1

  module _ {numbers : ℕ → Type 0} (mid new : Seen) (first_reads : Carries cmp numbers old mid) (second : Carries cmp numbers mid new) (passed : List ℕ → Type 0) (frame : Frame) (start : ℕ)
      (says : IsTrue mid.facts.faithful → (file : List ℕ) → HasSoundTable cmp old placed.table.number file → IsOpenFrame cmp file frame) where
    lacks_table : IsTrue new.facts.faithful → LacksOn cmp passed mid placed frame start → NoTableThere
    lacks_table t lacks file has entries table keys =
        let m = second.reads.faithful t in
        let open_is = says m file has in
        let filled = filled_of cmp file frame entries open_is.0 table in
        let stops = lacks file (still_has cmp old mid placed.table.number file first_reads m has) open_is in
        let block = all_intact cmp placed file frame entries filled keys stops.index stops.inside in
        stops.torn block.0 block.1

    pub not_searched : (e : DbError) → Refuses e mid.facts new.facts (LacksOn cmp passed mid placed frame start) (AnyLong (handles frame)) → Refuses e old.facts new.facts NoTableThere LimitThere
    not_searched OutOfMemory h = tt
    not_searched Io h = let f = first_reads.reads.failures in omega (arith, f, h)
    not_searched (Corrupt kind what) h = λ t. lacks_table t (h t)
    not_searched (Unsupported what) h = λ t. elim (h t) [
      | inl lacks ↦ inl (lacks_table t lacks)
      | inr long ↦ inr (λ file has. inr (frame, (says (second.reads.faithful t) file has).0, long))
    ]
    not_searched e h = absurd h
