-- That what is kept stays right, and what is answered of tables that the store has.
use Rattle.std.proofs.Common.{◌≡◌, ℕ, List, Option, Result, Ok, Err, IfOk, IfErr, IsTrue, sym, ap, ◌∙◌, subst, arith, inl, inr}
use Rattle.std.specs.FinMap.{get}
use Rattle.std.specs.Option.{option_or}
use Rattle.cache.specs.Blocks.{KeptBlock}
use Rattle.cache.specs.Holding.{HoldsBlocks, HoldsTables, IsBlockOf, HasContent, IsOpenOf}
use Rattle.cache.specs.Tables.{IsNameOf, KeptTable, RefusesTable, table_at}
use Rattle.cache.proofs.HoldingTables.{still_open}
use Rattle.coding.specs.declared.error.DbError.{DbError}
use Rattle.coding.specs.declared.error.DbError.TheVariants.{OutOfMemory, Io, Corrupt, Unsupported}
use Rattle.cursor.specs.Places.{Cmp}
use Rattle.edits.specs.Names.{name_of}
use Rattle.edits.specs.declared.names.FileName.TheVariants.{Table, OldTable}
use Rattle.ikey.specs.Entries.{Pair}
use Rattle.table_access.specs.Tables.{Seen, IsSound, Carries, HasSoundTable, SaysOf, IsOpenFrame, HasIntact, IsBlockDamaged, IsBlockUnsupported}
use Rattle.store.specs.Files.{Facts, Files}
use Rattle.table.specs.Frame.{Frame, Opened}
use Rattle.table.specs.Intact.{IsTornAt, IsUnsupportedAt}
use Rattle.table.specs.Reading.{Reads, HasFile, Refuses}
use Rattle.table.specs.Refusals.{IsFrameDamaged, IsFrameUnsupported}
use Rattle.table.proofs.FrameParts.{one_frame}

-- ---- a table is opened

pub sound_opened : (cmp : Cmp) (old : Seen) (facts : Facts) (tables : List KeptTable) → Reads old.facts facts → IsTrue facts.faithful → HoldsTables cmp (table_at old.facts.files) facts tables → IsSound cmp old
    → IsSound cmp (record { facts = facts; tables = tables; blocks = old.blocks })
sound_opened cmp old facts tables reads t holds sound =
    let same = sym (reads.files t) in
    record {
      tables = subst (λ (files : Files). HoldsTables cmp (table_at files) facts tables) same holds;
      blocks = subst (λ (files : Files). HoldsBlocks cmp (table_at files) old.blocks) same sound.blocks;
    }

pub says_open : (cmp : Cmp) (old new : Seen) (number : ℕ) (answer : Result Opened DbError)
    → (IsSound cmp old → IsTrue new.facts.faithful → IfOk answer (λ table. IsOpenOf cmp (table_at old.facts.files) new.facts number table))
    → IfOk answer (λ table. SaysOf cmp old new number (λ file. HasFile new.facts table.name file × IsOpenFrame cmp file table.frame))
says_open cmp old new number (Ok table) h = λ t file has. let p = (h has.sound t).1 file has.file_is in (p.0, (p.1, p.2))
says_open cmp old new number (Err e) h = tt

-- ---- files change

-- the table of a number is still the same, where both of its names have the files that they had
pub same_table : (old new : Files) (number : ℕ) → get new (name_of (Table number)) ≡ get old (name_of (Table number)) → get new (name_of (OldTable number)) ≡ get old (name_of (OldTable number))
    → table_at new number ≡ table_at old number
same_table old new number table old_table = ap (λ found. option_or found (get new (name_of (OldTable number)))) table ∙ ap (option_or (get old (name_of (Table number)))) old_table

-- and so is the file of either name
pub same_file : (old new : Files) (number : ℕ) (name : List ℕ) → IsNameOf number name → get new (name_of (Table number)) ≡ get old (name_of (Table number))
    → get new (name_of (OldTable number)) ≡ get old (name_of (OldTable number)) → get new name ≡ get old name
same_file old new number name is table old_table = elim is [
  | inl its ↦ subst (λ n. get new n ≡ get old n) (sym its) table
  | inr its ↦ subst (λ n. get new n ≡ get old n) (sym its) old_table
]

-- ---- a block is read through an open table

-- the file of the table is that of its name
pub content_of : {numbers : ℕ → Type 0} (cmp : Cmp) (old mid : Seen) (number : ℕ) (table : Opened) → IsTrue mid.facts.faithful → IsSound cmp old → Carries cmp numbers old mid
    → SaysOf cmp old mid number (λ file. HasFile mid.facts table.name file × IsOpenFrame cmp file table.frame) → HasContent cmp (table_at mid.facts.files) number mid.facts table
content_of cmp old mid number table t sound carries says file there =
    let is = says t file (record { sound = sound; file_is = ap (λ (files : Files). table_at files number) (sym (carries.reads.files t)) ∙ there }) in (is.0, is.1.0)

pub sound_read : (cmp : Cmp) (mid : Seen) (facts : Facts) (blocks : List KeptBlock) → Reads mid.facts facts → IsTrue facts.faithful → HoldsBlocks cmp (table_at mid.facts.files) blocks → IsSound cmp mid
    → IsSound cmp (record { facts = facts; tables = mid.tables; blocks = blocks })
sound_read cmp mid facts blocks reads t holds sound =
    let same = sym (reads.files t) in
    record {
      tables = λ kept there. subst (λ (files : Files). IsOpenOf cmp (table_at files) facts kept.number kept.table) same
          (still_open cmp (table_at mid.facts.files) mid.facts facts kept.number kept.table reads t (sound.tables kept there));
      blocks = subst (λ (files : Files). HoldsBlocks cmp (table_at files) blocks) same holds;
    }

pub says_block : {numbers : ℕ → Type 0} (cmp : Cmp) (old mid new : Seen) (number index : ℕ) (table : Opened) (answer : Result (List Pair) DbError) → Carries cmp numbers old mid → Reads mid.facts new.facts
    → SaysOf cmp old mid number (λ file. HasFile mid.facts table.name file × IsOpenFrame cmp file table.frame)
    → ((content : ℕ → Option (List ℕ)) → HoldsBlocks cmp content mid.blocks → HasContent cmp content number mid.facts table → IsTrue new.facts.faithful → IfOk answer (λ pairs. IsBlockOf cmp content number index pairs))
    → IfOk answer (λ pairs. SaysOf cmp old new number (HasIntact cmp index pairs))
says_block cmp old mid new number index table (Err e) carries reads says found = tt
says_block cmp old mid new number index table (Ok pairs) carries reads says found = λ t file has.
    let m = reads.faithful t in
    let sound = carries.sound m has.sound in
    found (table_at mid.facts.files) sound.blocks (content_of cmp old mid number table m has.sound carries says) t file (ap (λ (files : Files). table_at files number) (carries.reads.files m) ∙ has.file_is)

-- ---- refusals

pub refuses_as : (e : DbError) (old new : Facts) (number : ℕ) (a b c d : List ℕ → Type 0) → ((file : List ℕ) → a file → c file) → ((file : List ℕ) → b file → d file) → RefusesTable e old new number a b
    → RefusesTable e old new number c d
refuses_as OutOfMemory old new number a b c d f k h = h
refuses_as Io old new number a b c d f k h = h
refuses_as (Corrupt kind what) old new number a b c d f k h = λ t file there. f file (h t file there)
refuses_as (Unsupported what) old new number a b c d f k h = λ t file there. k file (h t file there)
refuses_as e old new number a b c d f k h = absurd h

-- the table isn't opened
pub no_table : (cmp : Cmp) (e : DbError) (old new : Seen) (number index : ℕ) → RefusesTable e old.facts new.facts number (IsFrameDamaged cmp) IsFrameUnsupported
    → RefusesTable e old.facts new.facts number (λ file. HasSoundTable cmp old number file → IsBlockDamaged cmp index file) (λ file. HasSoundTable cmp old number file → IsBlockUnsupported cmp index file)
no_table cmp e old new number index h =
    refuses_as e old.facts new.facts number (IsFrameDamaged cmp) IsFrameUnsupported (λ file. HasSoundTable cmp old number file → IsBlockDamaged cmp index file) (λ file. HasSoundTable cmp old number file → IsBlockUnsupported cmp index file)
    (λ file d has. inl d) (λ file d has. inl d) h

module _ {numbers : ℕ → Type 0} (cmp : Cmp) (old mid new : Seen) (number index : ℕ) (table : Opened) (carries : Carries cmp numbers old mid) (stood : mid.facts.failures ≡ old.facts.failures) (reads : Reads mid.facts new.facts)
    (says : SaysOf cmp old mid number (λ file. HasFile mid.facts table.name file × IsOpenFrame cmp file table.frame)) where
  pub no_block : (e : DbError) → Refuses e mid.facts new.facts table.name (λ file. IsTornAt cmp file table.frame.places index) (λ file. IsUnsupportedAt file table.frame.places index)
      → RefusesTable e old.facts new.facts number (λ file. HasSoundTable cmp old number file → IsBlockDamaged cmp index file) (λ file. HasSoundTable cmp old number file → IsBlockUnsupported cmp index file)
  no_block OutOfMemory h = h ∙ stood
  no_block Io h = omega (arith, h, stood)
  no_block (Corrupt kind what) h = λ t file there has.
      let is = says (reads.faithful t) file has in
      inr (λ frame framed. subst (λ (f : Frame). IsTornAt cmp file f.places index) (one_frame cmp file table.frame frame is.1.0 framed) (h t file is.0))
  no_block (Unsupported what) h = λ t file there has.
      let is = says (reads.faithful t) file has in
      inr (λ frame framed. subst (λ (f : Frame). IsUnsupportedAt file f.places index) (one_frame cmp file table.frame frame is.1.0 framed) (h t file is.0))
  no_block e h = absurd h

  pub no_block_of : (answer : Result (List Pair) DbError) → IfErr answer (λ e. Refuses e mid.facts new.facts table.name (λ file. IsTornAt cmp file table.frame.places index) (λ file. IsUnsupportedAt file table.frame.places index))
      → IfErr answer (λ e. RefusesTable e old.facts new.facts number (λ file. HasSoundTable cmp old number file → IsBlockDamaged cmp index file) (λ file. HasSoundTable cmp old number file → IsBlockUnsupported cmp index file))
  no_block_of (Ok pairs) h = tt
  no_block_of (Err e) h = no_block e h

  pub carries_block : (blocks : List KeptBlock) → new ≡ record { facts = new.facts; tables = mid.tables; blocks = blocks }
      → ((content : ℕ → Option (List ℕ)) → HoldsBlocks cmp content mid.blocks → HasContent cmp content number mid.facts table → IsTrue new.facts.faithful → HoldsBlocks cmp content blocks) → IsTrue new.facts.faithful
      → IsSound cmp old → IsSound cmp (record { facts = new.facts; tables = mid.tables; blocks = blocks })
  carries_block blocks is holds t sound =
      let m = reads.faithful t in
      let between = carries.sound m sound in
      sound_read cmp mid new.facts blocks reads t (holds (table_at mid.facts.files) between.blocks (content_of cmp old mid number table m sound carries says) t) between
