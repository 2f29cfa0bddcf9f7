-- Where entries lie in the body of a block.
use Rattle.std.specs.Prelude.{◌≡◌, ◌<◌, ◌≤◌, ◌+◌, ◌-◌, ℕ, suc, Bool, true, false, List, [], ◌++◌, Some, length, take, drop, slice_get}
use Rattle.std.specs.List.{flat_map, AllByRecursion}
use Rattle.coding.specs.Fixed.{fixed32}
use Rattle.ikey.specs.Entries.{Pair}
use Rattle.block.specs.Block.{IsEntry, IsKeyBehind, AreEntries, AllSmall, IsBody}
use Rattle.block.specs.Reading.{Contents, pairs_of}
use Rattle.block.specs.Written.{key_behind}

-- an entry begins at this offset that can be read after the key `previous`
abbrev pub IsReadable : List ℕ → List ℕ → ℕ → Type 0
IsReadable body previous offset =
    (shared : ℕ) × (rest value entry behind : List ℕ) × IsEntry shared rest value entry × (shared ≤ length previous)
    × (offset ≤ length body) × (drop offset body ≡ entry ++ behind)

-- the entry at this offset after the key `previous` has this key, begins at `start`, and its value
-- and the next entry begin at `value` and `next`
pub record IsRead (body previous : List ℕ) (offset : ℕ) (key : List ℕ) (start value next : ℕ) : Type 0 where
  pub shared : ℕ
  pub rest : List ℕ
  pub entry : List ℕ
  pub value_bytes : List ℕ
  pub start_is : start ≡ offset
  pub encoded : IsEntry shared rest value_bytes entry
  pub key_is : IsKeyBehind previous shared rest key
  pub inside : next ≤ length body
  pub next_is : next ≡ offset + length entry
  pub value_is : value + length value_bytes ≡ next
  pub parts : drop offset body ≡ entry ++ drop next body

-- the entries before this offset are the first `index` pairs
pub record IsFront (body : List ℕ) (pairs : List Pair) (index offset : ℕ) : Type 0 where
  pub inside : offset ≤ length body
  pub counted : index ≤ length pairs
  pub entries : AreEntries 0 [] (take index pairs) [] (take offset body)

-- so they are, the entries from there on are the other pairs, and reading on after the key
-- `previous` gives them
pub record IsBefore (body : List ℕ) (pairs : List Pair) (index : ℕ) (previous : List ℕ) (offset : ℕ) : Type 0 where
  pub front : IsFront body pairs index offset
  pub later : List ℕ
  pub behind : AreEntries offset (key_behind [] (take index pairs)) (drop index pairs) later (drop offset body)
  pub readable : AreEntries offset previous (drop index pairs) later (drop offset body)

-- the entry of this index has this key, begins at `start`, and its value and the next entry begin
-- at `value` and `next`
pub record IsSpot (body : List ℕ) (pairs : List Pair) (index : ℕ) (key : List ℕ) (start value next : ℕ) : Type 0 where
  pub pair : Pair
  pub pair_is : slice_get pairs index ≡ Some pair
  pub key_is : key ≡ pair.key
  pub front : IsFront body pairs index start
  pub ordered : value ≤ next
  pub value_is : take (next - value) (drop value body) ≡ pair.value
  pub before : IsBefore body pairs (suc index) key next

-- what a cursor keeps: where it stands, it is on an entry
abbrev pub IsCursor : Contents → Bool → List ℕ → ℕ → ℕ → ℕ → Type 0
IsCursor block false key start value next = Unit {0}
IsCursor block true key start value next = (index : ℕ) × IsSpot block.body block.pairs index key start value next

-- the bytes are the restarts of this body
pub record HasRestarts (body bytes : List ℕ) : Type 0 where
  pub list : List ℕ
  pub small : AllSmall list
  pub encoded : bytes ≡ flat_map fixed32 list
  pub entries : IsBody (pairs_of body) list body

-- the keys of these pairs are below the target
abbrev pub AreBelow : (List ℕ → List ℕ → Type 0) → List ℕ → List Pair → Type 0
AreBelow below target pairs = AllByRecursion (λ (pair : Pair). below pair.key target) pairs

-- reading can start at this offset
abbrev pub IsStart : List ℕ → ℕ → Type 0
IsStart body offset = (index : ℕ) × IsBefore body (pairs_of body) index [] offset

-- Reading can start at this restart before the offset; and the restart after it, if there is one,
-- doesn't stand in front.
pub record IsLastInFront (body list : List ℕ) (offset restart : ℕ) : Type 0 where
  pub starts : IsStart body restart
  pub less : restart < offset
  pub index : ℕ
  pub found : slice_get list index ≡ Some restart
  pub above : (next : ℕ) → slice_get list (suc index) ≡ Some next → offset ≤ next

-- reading can start at this offset, and the keys before it are below the target
abbrev pub StartsBelow : (List ℕ → List ℕ → Type 0) → List ℕ → List ℕ → ℕ → Type 0
StartsBelow below target body offset =
    (index : ℕ) × IsBefore body (pairs_of body) index [] offset × AreBelow below target (take index (pairs_of body))

-- reading can start at this offset, and the key there isn't below the target
abbrev pub StartsNotBelow : (List ℕ → List ℕ → Type 0) → List ℕ → List ℕ → ℕ → Type 0
StartsNotBelow below target body offset =
    (index : ℕ) × IsBefore body (pairs_of body) index [] offset × ((pair : Pair) → slice_get (pairs_of body) index ≡ Some pair → below pair.key target → ⊥)

-- Reading can start at this restart with the keys before it below the target; and the entry at the
-- restart after it, if there is one, isn't below it.
pub record IsLastBelow (below : List ℕ → List ℕ → Type 0) (target body restarts : List ℕ) (restart : ℕ) : Type 0 where
  pub starts : StartsBelow below target body restart
  pub has : HasRestarts body restarts
  pub index : ℕ
  pub found : slice_get has.list index ≡ Some restart
  pub above : (next : ℕ) → slice_get has.list (suc index) ≡ Some next → StartsNotBelow below target body next

-- this is the first entry whose key isn't below the target, as all keys before it are
abbrev pub IsFound : (List ℕ → List ℕ → Type 0) → List ℕ → List ℕ → List Pair → List ℕ → ℕ → ℕ → ℕ → Type 0
IsFound below target body pairs key start value next =
    (index : ℕ) × IsSpot body pairs index key start value next × AreBelow below target (take index pairs) × (below key target → ⊥)
