-- What a table cache keeps (LevelDB's db/table_cache.cc), what it answers, and how tables and their
-- blocks are read.
use Rattle.std.specs.Prelude.{◌≡◌, ◌⊎◌, ◌<◌, ◌==◌, ℕ, List, [], ◌∷◌, map, Option, Some, None, Result, Ok, Err, IfOk, IfErr, IsTrue, cond}
use Rattle.std.specs.declared.alloc.Global.{Global}
use Rattle.std.specs.declared.rc.Rc.{Rc}
use Rattle.std.specs.declared.cmp.Ordering.{Ordering}
use Rattle.std.specs.FinMap.{get}
use Rattle.std.specs.Option.{option_or}
use Rattle.coding.specs.declared.error.DbError.{DbError}
use Rattle.coding.specs.declared.error.DbError.TheVariants.{OutOfMemory, Io, Corrupt, Unsupported}
use Rattle.edits.specs.Names.{name_of}
use Rattle.edits.specs.declared.names.FileName.TheVariants.{Table, OldTable}
use Rattle.ikey.specs.Entries.{Pair}
use Rattle.lru.specs.LruCache.{LruCache}
use Rattle.store.specs.Files.{Files, Facts}
use Rattle.table.specs.Frame.{Frame, Opened, IsFrame, IsOversized}
use Rattle.table.specs.Intact.{IsIntact, IsTornAt, IsUnsupportedAt}
use Rattle.table.specs.Reading.{Reads, Finds, Refuses}
use Rattle.table.specs.Refusals.{IsFrameDamaged, IsFrameUnsupported}
use Rattle.cache.specs.Uses.{when_used, IsPutFirst}

-- what a table that is open answers of the block of an index, and what becomes of the store
pub record ReadsBlock (cmp : List ℕ → List ℕ → Ordering) (table : Opened) (old new : Facts) (index : ℕ) (answer : Result (List Pair) DbError) : Type 0 where
  pub reads : Reads old new
  pub found : IfOk answer (λ pairs. Finds old new table.name (λ file. IsIntact cmp file table.frame.places index pairs))
  pub stood : IfOk answer (λ _. new.failures ≡ old.failures)
  pub refused : IfErr answer (λ e. Refuses e old new table.name (λ file. IsTornAt cmp file table.frame.places index)
      (λ file. IsUnsupportedAt file table.frame.places index))

-- The bytes of a table: of the file that ends in `.ldb` or, if there is none, of the one that ends
-- in `.sst`, as older writers named it.
abbrev pub table_at : Files → ℕ → Option (List ℕ)
table_at files number = option_or (get files (name_of (Table number))) (get files (name_of (OldTable number)))

-- it is one of the two names that the file of the table of this number may have
abbrev pub IsNameOf : ℕ → List ℕ → Type 0
IsNameOf number name = (name ≡ name_of (Table number)) ⊎ (name ≡ name_of (OldTable number))

-- ---- what is kept

-- a table that is kept: its number, the name of its file, and what was read of it
pub record KeptTable : Type 0 where
  pub number : ℕ
  pub table : Opened

abbrev pub kept_table : ℕ → Opened → KeptTable
kept_table number table = record { number = number; table = table }

-- the tables, the most recently used first, and how many there may be
pub record TableCache : Type 0 where
  pub tables : List KeptTable
  pub capacity : ℕ

-- the tables that are in a cache of pairs
abbrev pub tables_in : List (ℕ × Rc Opened Global) → List KeptTable
tables_in entries = map (λ e. kept_table e.0 e.1.value) entries

-- what is kept in a cache of pairs, if there is one
abbrev pub tables_of : Option (LruCache ℕ (Rc Opened Global)) → TableCache
tables_of None = record { tables = []; capacity = 0 }
tables_of (Some cache) = record { tables = tables_in cache.entries; capacity = cache.cap }

-- the table that is kept of this number
unfoldable pub kept_table_at : List KeptTable → ℕ → Option Opened
kept_table_at [] number = None
kept_table_at (kept ∷ others) number = cond (number == kept.number) (Some kept.table) (kept_table_at others number)

-- how the tables stand once that of this number is used
abbrev pub tables_when_used : ℕ → List KeptTable → List KeptTable
tables_when_used number tables = when_used (λ kept. number == kept.number) tables

-- and how once it is put, where there may be so many
abbrev pub IsTablePut : ℕ → Opened → ℕ → List KeptTable → List KeptTable → Type 0
IsTablePut number table capacity old new = IsPutFirst (λ kept. number == kept.number) old new capacity (kept_table number table)

-- ---- what is answered

abbrev pub table_answer_of : Result (Rc Opened Global) DbError → Result Opened DbError
table_answer_of (Ok table) = Ok table.value
table_answer_of (Err e) = Err e

abbrev pub table_if : Option (Rc Opened Global) → Option Opened
table_if (Some table) = Some table.value
table_if None = None

-- what a kept table answers: itself, or that memory ran out
abbrev pub HitsTable : Opened → Result Opened DbError → Type 0
HitsTable table answer = (answer ≡ Ok table) ⊎ (answer ≡ Err OutOfMemory)

-- it is this table of this number
abbrev pub IsKeptOf : KeptTable → ℕ → Opened → Type 0
IsKeptOf kept number table = (kept.number ≡ number) × (kept.table ≡ table)

-- it is what was answered for this number
abbrev pub IsAnsweredTable : KeptTable → ℕ → Result Opened DbError → Type 0
IsAnsweredTable kept number answer = (kept.number ≡ number) × (answer ≡ Ok kept.table)

-- what was answered of a table that wasn't kept is put, and a refusal isn't
abbrev pub IsTableAnswerPut : ℕ → Result Opened DbError → ℕ → List KeptTable → List KeptTable → Type 0
IsTableAnswerPut number (Ok table) capacity old new = IsTablePut number table capacity old new
IsTableAnswerPut number (Err e) capacity old new = new ≡ old

-- ---- opening

-- why a call that only reads stopped: out of memory, while no call of the store failed, or since
-- one failed
abbrev pub StopsReading : DbError → Facts → Facts → Type 0
StopsReading e old new = ((e ≡ OutOfMemory) × (new.failures ≡ old.failures)) ⊎ ((e ≡ Io) × (old.failures < new.failures))

-- of a faithful store, the table of this number is the file of this name
abbrev pub FindsName : Facts → Facts → ℕ → List ℕ → Type 0
FindsName old new number name = IsTrue new.faithful → table_at old.files number ≡ get old.files name

-- the table of this number was opened: it has this file, of this name, what was read is its frame,
-- and nothing of that wasn't supported
abbrev pub OpensFile : (List ℕ → List ℕ → Ordering) → Files → ℕ → Opened → Type 0
OpensFile cmp files number table =
    (file : List ℕ) × (table_at files number ≡ Some file) × (get files table.name ≡ Some file) × IsFrame cmp file table.frame × (IsFrameUnsupported file → ⊥)

-- of a faithful store, this is so of the bytes of the table of this number, where it has a file
abbrev pub TableAnswers : Facts → Facts → ℕ → (List ℕ → Type 0) → Type 0
TableAnswers old new number is = IsTrue new.faithful → (file : List ℕ) → table_at old.files number ≡ Some file → is file

-- Why a table isn't opened. Out of memory: no call of the store failed, or one did. Corrupt: in a
-- faithful store it has no file or is damaged. Unsupported: it has no file or isn't supported.
abbrev pub RefusesTable : DbError → Facts → Facts → ℕ → (List ℕ → Type 0) → (List ℕ → Type 0) → Type 0
RefusesTable OutOfMemory old new number damaged unsupported = new.failures ≡ old.failures
RefusesTable Io old new number damaged unsupported = old.failures < new.failures
RefusesTable (Corrupt kind what) old new number damaged unsupported = TableAnswers old new number damaged
RefusesTable (Unsupported what) old new number damaged unsupported = TableAnswers old new number unsupported
RefusesTable e old new number damaged unsupported = ⊥

-- what the opening of the table of this number answers, and what becomes of the store
pub record OpensTable (cmp : List ℕ → List ℕ → Ordering) (old new : Facts) (number : ℕ) (answer : Result Opened DbError) : Type 0 where
  pub reads : Reads old new
  pub found : IfOk answer (λ table. IsTrue new.faithful → OpensFile cmp old.files number table)
  pub named : IfOk answer (λ table. IsNameOf number table.name)
  pub stood : IfOk answer (λ _. new.failures ≡ old.failures)
  pub told : IfErr answer (λ e. RefusesTable e old new number (IsFrameDamaged cmp) IsFrameUnsupported)
  -- a frame is refused only if one of its blocks is too long
  pub refused : IfErr answer (λ e. RefusesTable e old new number (λ file. (frame : Frame) → IsFrame cmp file frame → ⊥)
      (λ file. (frame : Frame) (is : IsFrame cmp file frame) → IsOversized cmp file frame is))
