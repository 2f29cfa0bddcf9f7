-- Blocks (LevelDB's doc/table_format.md and table/block_builder.cc): entries that share the front
-- of the key before, then the offsets at which a reader may start, then their number.
use Rattle.std.specs.Prelude.{◌≡◌, ◌<◌, ◌≤◌, ◌+◌, ◌^◌, ◌⊎◌, ℕ, List, [], ◌∷◌, ◌++◌, Option, Some, None, length, take}
use Rattle.std.specs.List.{flat_map}
use Rattle.coding.specs.declared.error.ReadError.{ReadError}
use Rattle.coding.specs.declared.error.ReadError.TheVariants as read_error
use Rattle.coding.specs.Fixed.{fixed32}
use Rattle.coding.specs.Varint.{IsVarint}
use Rattle.ikey.specs.Entries.{Pair}

-- An entry: how much of the key before it shares, the lengths of what follows, the rest of the key,
-- the value.
pub record IsEntry (shared : ℕ) (rest value bytes : List ℕ) : Type 0 where
  pub first : List ℕ
  pub second : List ℕ
  pub third : List ℕ
  pub shared_number : IsVarint first shared
  pub rest_number : IsVarint second (length rest)
  pub value_number : IsVarint third (length value)
  pub shared_fits : shared < 2 ^ 32
  pub rest_fits : length rest < 2 ^ 32
  pub value_fits : length value < 2 ^ 32
  pub parts : bytes ≡ first ++ (second ++ (third ++ (rest ++ value)))

-- the key is the front of the one before that it shares, and the rest
abbrev pub IsKeyBehind : List ℕ → ℕ → List ℕ → List ℕ → Type 0
IsKeyBehind previous shared rest key = (shared ≤ length previous) × (key ≡ take shared previous ++ rest)

-- a restart may stand at an entry that shares nothing; `later` are the restarts after this entry's
-- offset
abbrev pub TakesRestart : ℕ → ℕ → List ℕ → List ℕ → Type 0
TakesRestart offset shared restarts later = (restarts ≡ later) ⊎ ((shared ≡ 0) × (restarts ≡ offset ∷ later))

-- From an offset on, after the key `previous`, the bytes are the entries of these pairs; of their
-- offsets these are restarts.
abbrev pub AreEntries : ℕ → List ℕ → List Pair → List ℕ → List ℕ → Type 0
AreEntries offset previous [] restarts bytes = (bytes ≡ []) × (restarts ≡ [])
AreEntries offset previous (pair ∷ pairs) restarts bytes =
    (shared : ℕ) × (rest entry behind later : List ℕ) × IsEntry shared rest pair.value entry × IsKeyBehind previous shared rest pair.key
    × (bytes ≡ entry ++ behind) × TakesRestart offset shared restarts later × AreEntries (offset + length entry) pair.key pairs later behind

-- the first restart is 0, also where there is no entry
abbrev pub IsBody : List Pair → List ℕ → List ℕ → Type 0
IsBody [] restarts body = (body ≡ []) × (restarts ≡ 0 ∷ [])
IsBody (pair ∷ pairs) restarts body = (later : List ℕ) × (restarts ≡ 0 ∷ later) × AreEntries 0 [] (pair ∷ pairs) restarts body

-- the keys rise strictly from this one on, if there is one
abbrev pub AreAbove : (List ℕ → List ℕ → Type 0) → Option (List ℕ) → List Pair → Type 0
AreAbove below previous [] = Unit {0}
AreAbove below None (pair ∷ pairs) = AreAbove below (Some pair.key) pairs
AreAbove below (Some key) (pair ∷ pairs) = below key pair.key × AreAbove below (Some pair.key) pairs

-- the last key, or this one where there is no pair
abbrev pub last_key_from : List ℕ → List Pair → List ℕ
last_key_from key [] = key
last_key_from key (pair ∷ pairs) = last_key_from pair.key pairs

-- the restarts and their number, as they stand after the entries
abbrev pub trailer : List ℕ → List ℕ
trailer restarts = flat_map fixed32 restarts ++ fixed32 (length restarts)

pub record IsLaidOut (below : List ℕ → List ℕ → Type 0) (body restarts bytes : List ℕ) (pairs : List Pair) : Type 0 where
  pub fits : length bytes < 2 ^ 32
  pub parts : bytes ≡ body ++ trailer restarts
  pub entries : IsBody pairs restarts body
  pub rises : AreAbove below None pairs

-- the bytes are the encoding of these pairs, whose keys rise strictly
abbrev pub IsBlock : (List ℕ → List ℕ → Type 0) → List ℕ → List Pair → Type 0
IsBlock below bytes pairs = (body restarts : List ℕ) × IsLaidOut below body restarts bytes pairs

-- Why a block isn't read: memory ran out, the bytes are damaged, or it passes the limit on its
-- length.
abbrev pub Refuses : ReadError → Type 0 → Type 0 → Type 0
Refuses read_error.Memory damaged large = Unit {0}
Refuses (read_error.Corrupt what) damaged large = damaged
Refuses (read_error.Unsupported what) damaged large = large

-- numbers of at most 32 bits
abbrev pub AllSmall : List ℕ → Type 0
AllSmall [] = Unit {0}
AllSmall (n ∷ ns) = (n < 2 ^ 32) × AllSmall ns
