-- A table that is read from its front.
use Rattle.std.specs.Prelude.{◌≡◌, ◌<◌, ◌≤◌, ◌+◌, ℕ, Bool, MatchBool, List, [], ◌∷◌, ◌++◌, Some, None, length, map, drop, slice_get}
use Rattle.std.specs.FinMap.{get}
use Rattle.std.specs.declared.cmp.Ordering.{Ordering}
use Rattle.block.specs.Places.{Placed}
use Rattle.edits.specs.Names.{IsNumbered}
use Rattle.edits.specs.declared.field.PlacedTable.{PlacedTable}
use Rattle.ikey.specs.Entries.{InternalEntry, Pair, IsPair, entry_of}
use Rattle.ikey.specs.Keys.{Key, IsKey}
use Rattle.ikey.specs.Orders.{Order}
use Rattle.ikey.specs.Sources.{ComesBefore, AreSorted}
use Rattle.ikey.specs.declared.entry.Entry.{Entry}
use Rattle.store.specs.Files.{Files}
use Rattle.table.specs.Blocks.{IsBegun}
use Rattle.table.specs.Frame.{Frame, IsFrame, Opened}
use Rattle.table.specs.Table.{ArePairs}
use Rattle.recover.specs.internal.Checks.{first_key, content_of, IsOnly}
use Rattle.recover.specs.declared.walking.Head.{Head}
use Rattle.recover.specs.declared.walking.TableWalk.{TableWalk}
use Rattle.recover.specs.Limits.{IsUnsupportedFile}
use Rattle.recover.specs.Tables.{table_at, HasTable}

-- ---- keys

-- an entry of this key and this sequence number: where it comes among others doesn't depend on its
-- value
abbrev pub stamp : List ℕ → ℕ → Entry
stamp key sequence = record { key = key; sequence = sequence; value = None }

-- the key at hand is that of the entry
abbrev pub IsHead : Head → Entry → Type 0
IsHead head entry = (entry.key ≡ head.user.items) × (entry.sequence ≡ head.sequence)

-- the pair at this place has this internal key
abbrev pub IsKeyAt : List Pair → ℕ → Key → Type 0
IsKeyAt pairs at key = (pair : Pair) × (slice_get pairs at ≡ Some pair) × IsKey pair.key key

-- the cursor stands on the pair of this index
abbrev pub IsHere : Placed → ℕ → Type 0
IsHere block at = (block.place ≡ Some at) × (at < length block.pairs)

-- and this is the pair
abbrev pub IsPairAt : Placed → ℕ → Pair → Type 0
IsPairAt block at pair = (block.place ≡ Some at) × (slice_get block.pairs at ≡ Some pair)

-- a pair stands after it
abbrev pub HasMore : Placed → Type 0
HasMore block = (at : ℕ) × (block.place ≡ Some at) × (at + 1 < length block.pairs)

-- none stands after it
abbrev pub HasNoMore : Placed → Type 0
HasNoMore block = (at : ℕ) → block.place ≡ Some at → length block.pairs ≤ at + 1

-- whatever the first blocks of the file have, so many, those from there up to this number have
-- these pairs
abbrev pub AddsPairs : (List ℕ → List ℕ → Ordering) → List ℕ → Frame → ℕ → ℕ → List Pair → Type 0
AddsPairs cmp file frame from to pairs = (found : List Pair) → IsBegun cmp file frame from found → IsBegun cmp file frame to (found ++ pairs)

-- the smallest key of the edit is that of the entry
abbrev pub IsSmallest : PlacedTable → Entry → Type 0
IsSmallest placed entry = (key : Key) × IsKey placed.table.smallest key × (key.user ≡ entry.key) × (key.sequence ≡ entry.sequence)

-- ---- walks

-- The table of the edit is open, and so many of its blocks have these pairs.
pub record AreFirst (order : Order) (files : Files) (placed : PlacedTable) (table : Opened) (next : ℕ) (found : List Pair) : Type 0 where
  pub numbered : IsNumbered placed.table.number
  pub bytes : List ℕ
  pub there : table_at files placed.table.number ≡ Some bytes
  pub size : length bytes ≡ placed.table.size
  pub named : get files table.name ≡ Some bytes
  pub frame : IsFrame order.cmp bytes table.frame
  pub begun : IsBegun order.cmp bytes table.frame next found

-- The walk has passed the first entries of its table, which are in order, and stands on the next
-- one.
pub record Passes {K : Type 0} (order : Order) (files : Files) (placed : PlacedTable) (walk : TableWalk K) (passed : List Entry) (here : Entry) : Type 0 where
  pub front : List Pair
  pub at : ℕ
  pub at_is : walk.block.place ≡ Some at
  pub first : AreFirst order files placed walk.table walk.next (front ++ drop at walk.block.pairs)
  pub kept : List InternalEntry
  pub kept_are : ArePairs front kept
  pub passed_are : passed ≡ map entry_of kept
  pub pair : Pair
  pub pair_is : slice_get walk.block.pairs at ≡ Some pair
  pub entry : InternalEntry
  pub entry_is : IsPair pair entry
  pub here_is : here ≡ entry_of entry
  pub head : IsHead walk.head here
  pub sorted : AreSorted order (passed ++ here ∷ [])
  pub smallest : first_key (front ++ pair ∷ []) ≡ Some placed.table.smallest
  pub count : walk.passed ≡ length passed

-- it has passed one more
abbrev pub GoesOn : {K : Type 0} → Order → Files → PlacedTable → TableWalk K → List Entry → Entry → Type 0
GoesOn order files placed walk passed here = (next : Entry) × Passes order files placed walk (passed ++ here ∷ []) next × ComesBefore order here next

-- whatever it has passed, it has passed one more; or that one was the last, and these are all
-- entries of the table
abbrev pub IsPassed : {K : Type 0} → Order → Files → PlacedTable → Bool → TableWalk K → TableWalk K → Type 0
IsPassed order files placed more old new = (passed : List Entry) (here : Entry) → Passes order files placed old passed here
    → MatchBool more (GoesOn order files placed new passed here) (HasTable order files (content_of placed (passed ++ here ∷ [])) × (new.passed ≡ length (passed ++ here ∷ [])))

-- whatever it has passed, the file isn't supported
abbrev pub IsToldOf : {K : Type 0} → Order → Files → PlacedTable → TableWalk K → Type 0
IsToldOf order files placed walk = (passed : List Entry) (here : Entry) → Passes order files placed walk passed here → IsUnsupportedFile order files placed

-- and whatever entries it has, its file has bytes of which this is so
abbrev pub IsOnlyOf : {K : Type 0} → (List ℕ → Type 0) → Order → Files → PlacedTable → TableWalk K → Type 0
IsOnlyOf is order files placed walk = (passed : List Entry) (here : Entry) → Passes order files placed walk passed here → IsOnly is order files placed
