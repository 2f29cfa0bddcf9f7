-- Lists of entries that have no key in common.
use Rattle.std.specs.Prelude.{◌≡◌, ℕ, List, Some, slice_get}
use Rattle.ikey.specs.Entries.{InternalEntry}
use Rattle.ikey.specs.Views.{Among}

-- no two of the lists share an internal key
abbrev pub ShareNoKey : List (List InternalEntry) → Type 0
ShareNoKey lists = (i j : ℕ) (list other : List InternalEntry) (entry twin : InternalEntry) → slice_get lists i ≡ Some list → slice_get lists j ≡ Some other
    → Among list entry → Among other twin → entry.key ≡ twin.key → i ≡ j
