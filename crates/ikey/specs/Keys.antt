-- Internal keys (LevelDB's db/dbformat.h): the user key, then the sequence number and the kind in
-- one number of eight bytes.
use Rattle.std.specs.Prelude.{◌≡◌, ◌≢◌, ◌<◌, ◌≤◌, ◌+◌, ◌*◌, ◌^◌, ℕ, List, ◌++◌}
use Rattle.std.specs.declared.cmp.Ordering.{Ordering}
use Rattle.std.specs.declared.cmp.Ordering.TheVariants.{Greater}
use Rattle.std.specs.Ordering.{nat_cmp, then_cmp, on, flip_args}
use Rattle.std.specs.Cmp.{IsTotalOrder}
use Rattle.coding.specs.Fixed.{fixed64}
use Rattle.ikey.specs.declared.internal_key.Kind.{Kind}
use Rattle.ikey.specs.declared.internal_key.Kind.TheVariants.{Delete, Put}

-- a user key with the sequence number and the kind of one write to it
pub record Key : Type 0 where
  pub user : List ℕ
  pub sequence : ℕ
  pub kind : Kind

abbrev pub kind_number : Kind → ℕ
kind_number Delete = 0
kind_number Put = 1

-- the sequence number and the kind in one number
abbrev pub tag : ℕ → Kind → ℕ
tag sequence kind = sequence * 256 + kind_number kind

abbrev pub tag_of : Key → ℕ
tag_of key = tag key.sequence key.kind

-- the bytes are this key
pub record IsKey (bytes : List ℕ) (key : Key) : Type 0 where
  pub sequence_fits : key.sequence < 2 ^ 56
  pub parts : bytes ≡ key.user ++ fixed64 (tag_of key)

-- the user keys up, in the given order; then the number of sequence number and kind down, so the
-- newer one comes first (LevelDB's db/dbformat.cc, InternalKeyComparator)
abbrev pub key_cmp : (List ℕ → List ℕ → Ordering) → Key → Key → Ordering
key_cmp cmp = then_cmp (on (λ (k : Key). k.user) cmp) (flip_args (on tag_of nat_cmp))

-- the bytes are the first internal key of this user key whose sequence number is at most
-- `sequence`, in whatever order of user keys
pub record IsFirstKey (user : List ℕ) (sequence : ℕ) (bytes : List ℕ) : Type 0 where
  pub key : Key
  pub encoded : IsKey bytes key
  pub user_is : key.user ≡ user
  pub visible : key.sequence ≤ sequence
  pub first : (cmp : List ℕ → List ℕ → Ordering) → IsTotalOrder cmp
      → (other : Key) → other.user ≡ user → other.sequence ≤ sequence → key_cmp cmp key other ≢ Greater
