-- Entries, of which the meaning of a directory speaks.
use Rattle.std.specs.Prelude.{◌≡◌, ℕ, Option, Some, None, List, []}
use Rattle.ikey.specs.declared.entry.Entry.{Entry}
use Rattle.ikey.specs.declared.internal_key.Kind.{Kind}
use Rattle.ikey.specs.declared.internal_key.Kind.TheVariants.{Delete, Put}
use Rattle.ikey.specs.Keys.{Key, IsKey}

-- an internal key and its value, as files and memory keep them
pub record InternalEntry : Type 0 where
  pub key : Key
  pub value : List ℕ

-- an entry with a value is a put, and one without a delete
abbrev pub kind_of : Option (List ℕ) → Kind
kind_of None = Delete
kind_of (Some value) = Put

-- the internal key of an entry
abbrev pub internal_key_of : Entry → Key
internal_key_of entry = record { user = entry.key; sequence = entry.sequence; kind = kind_of entry.value }

-- a delete is kept with an empty value
abbrev pub value_kept : Option (List ℕ) → List ℕ
value_kept None = []
value_kept (Some value) = value

-- an entry as files and memory keep it
abbrev pub internal_entry_of : Entry → InternalEntry
internal_entry_of entry = record { key = internal_key_of entry; value = value_kept entry.value }

-- what a kept entry of this kind and value says of its key: the value that stands beside a delete
-- means nothing
abbrev pub value_of : Kind → List ℕ → Option (List ℕ)
value_of Delete value = None
value_of Put value = Some value

-- a kept entry as an entry
abbrev pub entry_of : InternalEntry → Entry
entry_of kept = record { key = kept.key.user; sequence = kept.key.sequence; value = value_of kept.key.kind kept.value }

-- a stored key and its value, as the bytes of a file have them
pub record Pair : Type 0 where
  pub key : List ℕ
  pub value : List ℕ

-- the pair is this entry
pub record IsPair (pair : Pair) (entry : InternalEntry) : Type 0 where
  pub key : IsKey pair.key entry.key
  pub value : pair.value ≡ entry.value
