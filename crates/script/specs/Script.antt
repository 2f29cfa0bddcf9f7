-- What the lines of a script say, and how answers are written.
use Rattle.std.specs.Prelude.{◌≡◌, ◌⊎◌, ◌++◌, ℕ, Bool, true, false, List, [], ◌∷◌, codes, Option, Some, None}
use Rattle.std.specs.Fmt.{decimal}
use Rattle.batch.specs.declared.operation.Operation.{Operation}
use Rattle.batch.specs.declared.operation.Operation.TheVariants.{Put, Delete}
use Rattle.coding.specs.Errors as error
use Rattle.coding.specs.declared.error.DbError.{DbError}
use Rattle.machine.specs.declared.command.Mode.{Mode}
use Rattle.machine.specs.declared.command.Mode.TheVariants.{Existing, New, Any}
use Rattle.machine.specs.declared.command.Op.{Op}
use Rattle.machine.specs.declared.command.Op.TheVariants as op
use Rattle.machine.specs.declared.command.Answer.{Answer}
use Rattle.machine.specs.declared.command.Answer.TheVariants as answer
use Rattle.script.specs.declared.verb.Verb.{Verb}
use Rattle.script.specs.declared.verb.Verb.TheVariants as verb
use Rattle.script.specs.Verbs.{name_of}
use Rattle.script.specs.Words.{words_of, IsNumber, IsByteString, text_of_bytes}

-- ---- batches

-- the command that writes these operations, and syncs them if `sync` is true
abbrev pub IsWrite : List Operation → Bool → Op → Type 0
IsWrite operations sync (op.Write written synced) = (written.items ≡ operations) × (synced ≡ sync)
IsWrite operations sync _ = ⊥

abbrev pub IsPut : List ℕ → List ℕ → Operation → Type 0
IsPut k v operation =
    (key value : List ℕ) × IsByteString k key × IsByteString v value × (operation ≡ Put key value)

abbrev pub IsDelete : List ℕ → Operation → Type 0
IsDelete k operation = (key : List ℕ) × IsByteString k key × (operation ≡ Delete key)

-- `put` with a key and a value, or `del` with a key, and then the rest
abbrev pub IsOperation : List (List ℕ) → Operation → List (List ℕ) → Type 0
IsOperation words operation rest =
    ((k v : List ℕ) × (words ≡ codes "put" ∷ k ∷ v ∷ rest) × IsPut k v operation)
    ⊎ ((k : List ℕ) × (words ≡ codes "del" ∷ k ∷ rest) × IsDelete k operation)

-- the operations one after the other, and nothing behind them
abbrev pub AreOperations : List (List ℕ) → List Operation → Type 0
AreOperations words [] = words ≡ []
AreOperations words (operation ∷ operations) =
    (rest : List (List ℕ)) × IsOperation words operation rest × AreOperations rest operations

-- ---- commands

-- the words by which an open says which directories it takes
abbrev pub mode_words : Mode → List (List ℕ)
mode_words Existing = []
mode_words New = codes "new" ∷ []
mode_words Any = codes "any" ∷ []

-- the word by which a write says that the device is to keep it
abbrev pub sync_words : Bool → List (List ℕ)
sync_words false = []
sync_words true = codes "sync" ∷ []

-- a number of at most so many bits, which is the only word
abbrev pub IsNumberAlone : ℕ → List (List ℕ) → ℕ → Type 0
IsNumberAlone bits words number = (word : List ℕ) × (words ≡ word ∷ []) × IsNumber bits word number

-- a snapshot's id, or no word where there is none
abbrev pub AreSnapshot : List (List ℕ) → Option ℕ → Type 0
AreSnapshot words None = words ≡ []
AreSnapshot words (Some id) = IsNumberAlone 64 words id

-- the command that such a number makes
abbrev pub TakesNumber : ℕ → List (List ℕ) → (ℕ → Op) → Op → Type 0
TakesNumber bits words make command = (number : ℕ) × IsNumberAlone bits words number × (command ≡ make number)

-- a compaction of all, or of a level
abbrev pub IsCompaction : List (List ℕ) → Op → Type 0
IsCompaction words command = ((words ≡ codes "all" ∷ []) × (command ≡ op.CompactAll)) ⊎ TakesNumber 32 words op.CompactLevel command

-- what a verb and the words behind it say
abbrev pub Spells : Verb → List (List ℕ) → Op → Type 0
Spells verb.Open words command = (mode : Mode) × (words ≡ mode_words mode) × (command ≡ op.Open mode)
Spells verb.Put words command =
    (k v : List ℕ) × (operation : Operation) × (words ≡ k ∷ v ∷ []) × IsPut k v operation × IsWrite (operation ∷ []) false command
Spells verb.Del words command =
    (k : List ℕ) × (operation : Operation) × (words ≡ k ∷ []) × IsDelete k operation × IsWrite (operation ∷ []) false command
Spells verb.Write words command =
    (sync : Bool) × (rest : List (List ℕ)) × (operations : List Operation)
    × (words ≡ sync_words sync ++ rest) × AreOperations rest operations × IsWrite operations sync command
Spells verb.Get words command =
    (k : List ℕ) × (rest : List (List ℕ)) × (key : List ℕ) × (snapshot : Option ℕ)
    × (words ≡ k ∷ rest) × IsByteString k key × AreSnapshot rest snapshot × (command ≡ op.Get key snapshot)
Spells verb.Snapshot words command = (words ≡ []) × (command ≡ op.Snapshot)
Spells verb.Release words command = TakesNumber 64 words op.Release command
Spells verb.Iter words command = (snapshot : Option ℕ) × AreSnapshot words snapshot × (command ≡ op.Iterate snapshot)
Spells verb.First words command = TakesNumber 64 words op.First command
Spells verb.Last words command = TakesNumber 64 words op.Last command
Spells verb.Seek words command =
    (n k : List ℕ) × (id : ℕ) × (key : List ℕ)
    × (words ≡ n ∷ k ∷ []) × IsNumber 64 n id × IsByteString k key × (command ≡ op.Seek id key)
Spells verb.Next words command = TakesNumber 64 words op.Next command
Spells verb.Prev words command = TakesNumber 64 words op.Prev command
Spells verb.Drop words command = TakesNumber 64 words op.DropIterator command
Spells verb.Work words command = TakesNumber 32 words op.Work command
Spells verb.Compact words command = IsCompaction words command
Spells verb.Close words command = (words ≡ []) × (command ≡ op.Close)

-- the words are a command's: a verb's name and what that verb takes
abbrev pub AreCommand : List (List ℕ) → Op → Type 0
AreCommand words command =
    (first : Verb) × (rest : List (List ℕ)) × (words ≡ name_of first ∷ rest) × Spells first rest command

-- a line says a command by its words
abbrev pub Says : List ℕ → Op → Type 0
Says line command = AreCommand (words_of line) command

-- the same command: lists of operations are compared, and not the memory that holds them
abbrev pub IsSame : Op → Op → Type 0
IsSame (op.Write operations sync) command = IsWrite operations.items sync command
IsSame command other = other ≡ command

-- ---- answers

-- the number and the name of a refusal
abbrev pub refusal_of : DbError → List ℕ
refusal_of e = codes "refused " ++ decimal (error.number_of e) ++ 32 ∷ error.name_of e

abbrev pub line_of : Answer → List ℕ
line_of answer.Done = codes "ok"
line_of (answer.Value None) = codes "none"
line_of (answer.Value (Some value)) = codes "value " ++ text_of_bytes value
line_of (answer.Snapshot id) = codes "snapshot " ++ decimal id
line_of (answer.Iterator id) = codes "iter " ++ decimal id
line_of (answer.Pair None) = codes "end"
line_of (answer.Pair (Some (key, value))) = codes "at " ++ text_of_bytes key ++ 32 ∷ text_of_bytes value
line_of answer.Worked = codes "worked"
line_of answer.Idle = codes "idle"
line_of (answer.Refused e) = refusal_of e
