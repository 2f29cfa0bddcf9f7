-- Looking for the next visible entry, either way (LevelDB's db/db_iter.cc, FindNextUserEntry and
-- FindPrevUserEntry).
use Rattle.std.specs.Prelude.{◌≡◌, ◌⊎◌, ◌<◌, ◌≤◌, ℕ, Bool, true, false, IsTrue, List, Option, None, Some, slice_get}
use Rattle.std.specs.declared.cmp.Ordering.TheVariants.{Less}
use Rattle.coding.specs.declared.error.DbError.{DbError}
use Rattle.coding.specs.declared.error.DbError.TheVariants.{OutOfMemory, Corrupt}
use Rattle.store.specs.Files.{Facts}
use Rattle.ikey.specs.declared.internal_key.Kind.TheVariants.{Delete, Put}
use Rattle.ikey.specs.Entries.{InternalEntry}
use Rattle.ikey.specs.Keys.{Key, IsKey}
use Rattle.cursor.specs.Cuts.{Cut}
use Rattle.cursor.specs.Places.{Cmp, Listed, is_less}
use Rattle.cursor.specs.Moves.{Stays}
use Rattle.cursor.specs.Merging.{listed, behind}
use Rattle.cursor.specs.Views.{IsVisible, is_user_below}

-- What several moves of a cursor leave: it stands somewhere in the same list.
pub record Wanders {C S : Type 0} (facts : S → Facts) (lists : C → S → Listed → Type 0) (keeps : C → S → S → Type 0) (limited : C → S → Type 0) (torn : C → S → Cut → Type 0) (leaves : (ℕ → Type 0) → S → S → Type 0) (over : C → ℕ → Type 0) (old new : C) (before after : S) : Type 0 where
  pub stays : Stays facts keeps limited torn leaves over old new before after
  pub somewhere : IsTrue (facts after).faithful → (at : Listed) → lists old before at → (place : Option ℕ) × lists new after (listed at.entries place)

-- ---- tests of user keys

-- where a key passes, lower ones do
abbrev pub PassesLower : Cmp → (List ℕ → Bool) → Type 0
PassesLower cmp test = (low high : List ℕ) → cmp low high ≡ Less → test high ≡ true → test low ≡ true

-- the same of each entry before the index, or from it on
abbrev pub InFront : List InternalEntry → ℕ → (InternalEntry → Type 0) → Type 0
InFront entries index is = (k : ℕ) (entry : InternalEntry) → k < index → slice_get entries k ≡ Some entry → is entry

abbrev pub FromOn : List InternalEntry → ℕ → (InternalEntry → Type 0) → Type 0
FromOn entries index is = (k : ℕ) (entry : InternalEntry) → index ≤ k → slice_get entries k ≡ Some entry → is entry

-- the index stands between the entries of no higher user keys and those of no lower ones
pub record StandsBetween (cmp : Cmp) (entries : List InternalEntry) (index : ℕ) (user : List ℕ) : Type 0 where
  pub front : InFront entries index (λ entry. is_less (cmp user entry.key.user) ≡ false)
  pub rest : FromOn entries index (λ entry. is_less (cmp entry.key.user user) ≡ false)

-- ---- forth

-- A search for the first visible entry whose user key fails the test has come to this index. It has
-- passed none. From here on it hides the entries of the hidden user key, if it hides one, and it
-- knows of no entry of another one.
pub record SearchesOn (cmp : Cmp) (entries : List InternalEntry) (sequence : ℕ) (test : List ℕ → Bool) (index : ℕ) (hides : Bool) (hidden : List ℕ) : Type 0 where
  pub lower : PassesLower cmp test
  pub passed : InFront entries index (λ entry. IsVisible entries sequence entry → test entry.key.user ≡ true)
  pub left : FromOn entries index (λ entry. test entry.key.user ≡ true → (hides ≡ true) × (entry.key.user ≡ hidden))
  pub apart : InFront entries index (λ entry. FromOn entries index (λ later. entry.key.sequence ≤ sequence → entry.key.user ≡ later.key.user → (hides ≡ true) × (later.key.user ≡ hidden)))
  pub hiding : hides ≡ true → (entry : InternalEntry) → IsVisible entries sequence entry → entry.key.user ≡ hidden → test entry.key.user ≡ true

-- it has found that entry, on which the cursor stands
pub record FoundOn {C S : Type 0} (cmp : Cmp) (lists : C → S → Listed → Type 0) (cursor : C) (source : S) (entries : List InternalEntry) (sequence : ℕ) (test : List ℕ → Bool) (key : List ℕ) : Type 0 where
  pub index : ℕ
  pub entry : InternalEntry
  pub entry_is : slice_get entries index ≡ Some entry
  pub on : lists cursor source (listed entries (Some index))
  pub key_is : key ≡ entry.key.user
  pub visible : IsVisible entries sequence entry
  pub fails : test entry.key.user ≡ false
  pub least : (other : InternalEntry) → IsVisible entries sequence other → test other.key.user ≡ false → is_less (cmp other.key.user entry.key.user) ≡ false

-- what such a search answers
abbrev pub AnswersOn : {C S : Type 0} → Cmp → (C → S → Listed → Type 0) → C → S → List InternalEntry → ℕ → (List ℕ → Bool) → List ℕ → Bool → Type 0
AnswersOn cmp lists cursor source entries sequence test key true = FoundOn cmp lists cursor source entries sequence test key
AnswersOn cmp lists cursor source entries sequence test key false = (entry : InternalEntry) → IsVisible entries sequence entry → test entry.key.user ≡ true

-- what it does at one entry: it has found it, it hides the older ones from now on, or it passes on
abbrev pub Hidden : Bool → List ℕ → List ℕ → Type 0
Hidden hides hidden user = (hides ≡ true) × (hidden ≡ user)

-- what is hidden once an entry was found deleted, whose user key is held, and before
abbrev pub hides_now : Bool → Bool → Bool
hides_now true hides = true
hides_now false hides = hides

abbrev pub hidden_now : Bool → List ℕ → List ℕ → List ℕ
hidden_now true hidden held = held
hidden_now false hidden held = hidden

pub record Takes (key : Key) (sequence : ℕ) (hides : Bool) (hidden found : List ℕ) : Type 0 where
  pub seen : key.sequence ≤ sequence
  pub shown : Hidden hides hidden key.user → ⊥
  pub put : key.kind ≡ Put
  pub found_is : found ≡ key.user

pub record Hides (key : Key) (sequence : ℕ) (hides : Bool) (hidden : List ℕ) (hides_now : Bool) (hidden_now : List ℕ) : Type 0 where
  pub seen : key.sequence ≤ sequence
  pub shown : Hidden hides hidden key.user → ⊥
  pub delete : key.kind ≡ Delete
  pub hides_is : hides_now ≡ true
  pub hidden_is : hidden_now ≡ key.user

pub record Passes (key : Key) (sequence : ℕ) (hides : Bool) (hidden : List ℕ) (hides_now : Bool) (hidden_now : List ℕ) : Type 0 where
  pub why : (sequence < key.sequence) ⊎ Hidden hides hidden key.user
  pub hides_is : hides_now ≡ hides
  pub hidden_is : hidden_now ≡ hidden

abbrev pub LooksOn : Key → ℕ → Bool → List ℕ → Bool → List ℕ → Bool → Type 0
LooksOn key sequence hides hidden hides_now hidden_now true = Takes key sequence hides hidden hidden_now
LooksOn key sequence hides hidden hides_now hidden_now false =
    Hides key sequence hides hidden hides_now hidden_now ⊎ Passes key sequence hides hidden hides_now hidden_now

-- why an entry's bytes aren't looked at: out of memory, or since they are no internal key
abbrev pub RefusesKey : DbError → List ℕ → Type 0
RefusesKey OutOfMemory bytes = Unit {0}
RefusesKey (Corrupt file what) bytes = (key : Key) → IsKey bytes key → ⊥
RefusesKey error bytes = ⊥

-- ---- back

-- A candidate of a search back from this index, for the last visible entry whose user key passes
-- the test. Of the entries from the index on it is the newest of its user key, which is the lowest
-- there, and a put.
pub record IsCandidate (cmp : Cmp) (entries : List InternalEntry) (sequence : ℕ) (test : List ℕ → Bool) (index : ℕ) (key value : List ℕ) : Type 0 where
  pub place : ℕ
  pub entry : InternalEntry
  pub inside : index ≤ place
  pub entry_is : slice_get entries place ≡ Some entry
  pub key_is : key ≡ entry.key.user
  pub value_is : value ≡ entry.value
  pub seen : entry.key.sequence ≤ sequence
  pub put : entry.key.kind ≡ Put
  pub passes : test entry.key.user ≡ true
  pub newest : FromOn entries index (λ other. other.key.user ≡ entry.key.user → other.key.sequence ≤ sequence → other.key.sequence ≤ entry.key.sequence)
  pub lowest : FromOn entries index (λ other. is_less (cmp other.key.user entry.key.user) ≡ false)
  pub only : FromOn entries index (λ other. IsVisible entries sequence other → test other.key.user ≡ true → other.key.user ≡ entry.key.user)

-- from the index on no visible entry passes the test
abbrev pub HasPassedNone : List InternalEntry → ℕ → (List ℕ → Bool) → ℕ → Type 0
HasPassedNone entries sequence test index = FromOn entries index (λ other. IsVisible entries sequence other → test other.key.user ≡ true → ⊥)

-- how far a search back has come, with a candidate or with none
abbrev pub SearchesBack : Cmp → List InternalEntry → ℕ → (List ℕ → Bool) → ℕ → Bool → List ℕ → List ℕ → Type 0
SearchesBack cmp entries sequence test index true key value = IsCandidate cmp entries sequence test index key value
SearchesBack cmp entries sequence test index false key value = HasPassedNone entries sequence test index

-- it has found that entry, and the cursor stands on the last one of a lower user key
pub record FoundBack {C S : Type 0} (cmp : Cmp) (lists : C → S → Listed → Type 0) (cursor : C) (source : S) (entries : List InternalEntry) (sequence : ℕ) (test : List ℕ → Bool) (key value : List ℕ) : Type 0 where
  pub entry : InternalEntry
  pub beneath : lists cursor source (listed entries (behind (is_user_below cmp entry.key.user) entries))
  pub key_is : key ≡ entry.key.user
  pub value_is : value ≡ entry.value
  pub visible : IsVisible entries sequence entry
  pub passes : test entry.key.user ≡ true
  pub greatest : (other : InternalEntry) → IsVisible entries sequence other → test other.key.user ≡ true → is_less (cmp entry.key.user other.key.user) ≡ false

abbrev pub AnswersBack : {C S : Type 0} → Cmp → (C → S → Listed → Type 0) → C → S → List InternalEntry → ℕ → (List ℕ → Bool) → List ℕ → List ℕ → Bool → Type 0
AnswersBack cmp lists cursor source entries sequence test key value true = FoundBack cmp lists cursor source entries sequence test key value
AnswersBack cmp lists cursor source entries sequence test key value false = (entry : InternalEntry) → IsVisible entries sequence entry → test entry.key.user ≡ true → ⊥

-- the user keys below a bound, or all
abbrev pub below_bound : Cmp → Option (List ℕ) → List ℕ → Bool
below_bound cmp None user = true
below_bound cmp (Some bound) user = is_less (cmp user bound)

-- What a search back does at one entry: it ends, it has a new candidate, it has none any more, or
-- it passes on.
pub record Ends (key : Key) (has : Bool) (found value : List ℕ) (has_now : Bool) (found_now value_now : List ℕ) : Type 0 where
  pub has_is : has ≡ true
  pub other : key.user ≡ found → ⊥
  pub found_is : found_now ≡ found
  pub value_is : value_now ≡ value

pub record Replaces (key : Key) (here : List ℕ) (sequence : ℕ) (test : List ℕ → Bool) (has : Bool) (found : List ℕ) (has_now : Bool) (found_now value_now : List ℕ) : Type 0 where
  pub same : has ≡ true → key.user ≡ found
  pub seen : key.sequence ≤ sequence
  pub passes : test key.user ≡ true
  pub put : key.kind ≡ Put
  pub has_is : has_now ≡ true
  pub found_is : found_now ≡ key.user
  pub value_is : value_now ≡ here

pub record Clears (key : Key) (sequence : ℕ) (test : List ℕ → Bool) (has : Bool) (found : List ℕ) (has_now : Bool) : Type 0 where
  pub same : has ≡ true → key.user ≡ found
  pub seen : key.sequence ≤ sequence
  pub passes : test key.user ≡ true
  pub delete : key.kind ≡ Delete
  pub has_is : has_now ≡ false

pub record Skips (key : Key) (sequence : ℕ) (test : List ℕ → Bool) (has : Bool) (found value : List ℕ) (has_now : Bool) (found_now value_now : List ℕ) : Type 0 where
  pub same : has ≡ true → key.user ≡ found
  pub why : (sequence < key.sequence) ⊎ (test key.user ≡ false)
  pub has_is : has_now ≡ has
  pub found_is : found_now ≡ found
  pub value_is : value_now ≡ value

abbrev pub LooksBack : Key → List ℕ → ℕ → (List ℕ → Bool) → Bool → List ℕ → List ℕ → Bool → List ℕ → List ℕ → Bool → Type 0
LooksBack key here sequence test has found value has_now found_now value_now true = Ends key has found value has_now found_now value_now
LooksBack key here sequence test has found value has_now found_now value_now false =
    Replaces key here sequence test has found has_now found_now value_now
    ⊎ (Clears key sequence test has found has_now ⊎ Skips key sequence test has found value has_now found_now value_now)
