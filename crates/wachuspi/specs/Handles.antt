-- What a call does with what C holds.
use Rattle.std.specs.Prelude.{◌≡◌, ℕ, ℤ, pos, negsuc, Option, Some, None, List, []}
use Rattle.engine.specs.StandsDb.{open_by}
use Rattle.store.specs.FileFacts.{counted_facts}
use Rattle.store.specs.Files.{Facts}
use Rattle.store.specs.declared.file_store.FileStore.{FileStore}
use Rattle.c_calls.specs.Told.{TablesTold}
use Rattle.wachuspi.specs.declared.held.Held.{Held}

-- A closed handle stays closed, and the answer says so. An open one stays open, and the call keeps
-- its promise over what was held, what is held now, and its answer.
abbrev pub Served : {A : Type 0} → (A → A → ℤ → Type 0) → Option A → Option A → ℤ → Type 0
Served promise None new code = (new ≡ None) × (code ≡ pos 65)
Served promise (Some old) (Some new) code = promise old new code
Served promise (Some old) None code = ⊥

-- The same of a call of which no more is said.
abbrev pub Keeps : {A : Type 0} → Option A → Option A → ℤ → Type 0
Keeps old new code = Served (λ before after answer. Unit {0}) old new code

-- how many tables a level of an open database has
abbrev pub TablesServed : ℕ → Option Held → ℤ → Type 0
TablesServed level None code = code ≡ negsuc 0
TablesServed level (Some held) code = TablesTold level (open_by held.handle.db).tables code

-- what is known of a folder
abbrev pub folder_facts : FileStore → Facts
folder_facts store = counted_facts store.locked store.counters

-- the operations of a batch; where there is no batch yet, none
abbrev pub operations_in : {A : Type 0} → Option (List A) → List A
operations_in None = []
operations_in (Some operations) = operations
