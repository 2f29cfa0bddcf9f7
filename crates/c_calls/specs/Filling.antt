-- What a call that copies many pairs promises.
use Rattle.std.specs.Prelude.{◌≡◌, ◌⊎◌, ◌≤◌, ◌<◌, ◌+◌, ◌-◌, ◌*◌, ◌^◌, ◌++◌, ℕ, ℤ, pos, negsuc}
use Rattle.std.specs.Prelude.{Option, Some, None, Ok, Err}
use Rattle.std.specs.Prelude.{List, [], ◌∷◌, length, take, drop}
use Rattle.byteorder.specs.Endian.{little_bytes}
use Rattle.coding.specs.declared.error.DbError.{DbError}
use Rattle.coding.specs.declared.error.DbError.TheVariants.{NoIterator}
use Rattle.ikey.specs.Orders.{Order}
use Rattle.machine.specs.Causes.{Motion}
use Rattle.store.specs.Files.{Facts}
use Rattle.c_calls.specs.Calls.{MoveDone}
use Rattle.c_calls.specs.Standings.{moved_to, pair_of}
use Rattle.c_calls.specs.Told.{number}
use Rattle.c_calls.specs.declared.filling.Copied.{Copied}
use Rattle.c_calls.specs.declared.filling.Copied.TheVariants as copied
use Rattle.c_calls.specs.declared.filling.Step.{Step}
use Rattle.c_calls.specs.declared.filling.Step.TheVariants as step
use Rattle.c_calls.specs.declared.handle.Handle.{Handle}
use Rattle.c_calls.specs.declared.filling.Filled.{Filled}

-- the bytes of a pair: the lengths of its key and of its value, its key and its value
abbrev pub laid : List ℕ → List ℕ → List ℕ
laid key value = little_bytes 4 (length key) ++ little_bytes 4 (length value) ++ key ++ value

-- those of pairs, one after the other
abbrev pub all_laid : List (List ℕ × List ℕ) → List ℕ
all_laid [] = []
all_laid (pair ∷ pairs) = laid pair.0 pair.1 ++ all_laid pairs

-- so many bytes are too few for a pair, or its lengths don't fit in four bytes
abbrev pub HasNoRoom : List ℕ → List ℕ → ℕ → Type 0
HasNoRoom key value left = (left < 8 + (length key + length value)) ⊎ ((2 ^ 32 ≤ length key) ⊎ (2 ^ 32 ≤ length value))

-- A pair was put to the front of a room, or had no room there.
abbrev pub PutsPair : List ℕ → List ℕ → List ℕ → List ℕ → Option ℕ → Type 0
PutsPair key value before after None = HasNoRoom key value (length before) × (after ≡ before)
PutsPair key value before after (Some taken) =
    (taken ≡ 8 + (length key + length value)) × (taken ≤ length before)
    × (after ≡ laid key value ++ drop taken before)

-- A pair was added behind those that are there.
pub record AddsPair (key value before after : List ℕ) (old new : Filled) : Type 0 where
  pub used : new.used ≡ old.used + (8 + (length key + length value))
  pub pairs : new.pairs ≡ old.pairs + 1
  pub fits : new.used ≤ length before
  pub bytes : after ≡ take old.used before ++ (laid key value ++ drop new.used before)

-- It had no room, and nothing was changed.
pub record AddsNone (key value before after : List ℕ) (old new : Filled) : Type 0 where
  pub full : HasNoRoom key value (length before - old.used)
  pub bytes : after ≡ before
  pub same : new ≡ old

-- ---- one pair

-- there is no such iterator, or it stands on no pair
abbrev pub IsNowhere : Option (Option (List ℕ × List ℕ)) → ℤ → Type 0
IsNowhere None code = code ≡ number NoIterator
IsNowhere (Some None) code = code ≡ negsuc 0
IsNowhere (Some (Some pair)) code = ⊥

-- The pair on which an iterator stands was added, or had no room, or there is none.
abbrev pub CopiesPair : Option (Option (List ℕ × List ℕ)) → List ℕ → List ℕ → Filled → Filled → Copied → Type 0
CopiesPair found before after old new copied.Added =
    (pair : List ℕ × List ℕ) × (found ≡ Some (Some pair)) × AddsPair pair.0 pair.1 before after old new
CopiesPair found before after old new copied.Full =
    (pair : List ℕ × List ℕ) × (found ≡ Some (Some pair)) × AddsNone pair.0 pair.1 before after old new
CopiesPair found before after old new (copied.Nowhere code) =
    IsNowhere found code × (after ≡ before) × (new ≡ old)

-- The iterator was moved to this pair, or the move was refused.
abbrev pub MovesOn : {S : Type 0} → Order → (S → Facts) → ℕ → Motion → Handle S → Handle S → Option ℤ → Type 0
MovesOn order facts id way old new None = (found : Option (List ℕ × List ℕ))
    × MoveDone order facts id way old.db new.db (Ok found)
    × (new.iterators.items ≡ moved_to id found old.iterators.items)
MovesOn order facts id way old new (Some code) = (error : DbError) × (code ≡ number error)
    × MoveDone order facts id way old.db new.db (Err error) × (new.iterators.items ≡ old.iterators.items)

-- A pair was copied and the iterator moved on; or it had no room; or there is none; or the pair was
-- copied and the move was refused.
abbrev pub FillsOne : {S : Type 0} → Order → (S → Facts) → ℕ → Motion → List ℕ → List ℕ → Filled → Filled
    → Handle S → Handle S → Step → Type 0
FillsOne order facts id way before after counted counts old new step.Copied =
    CopiesPair (pair_of id old.iterators.items) before after counted counts copied.Added
    × MovesOn order facts id way old new None
FillsOne order facts id way before after counted counts old new step.Full =
    CopiesPair (pair_of id old.iterators.items) before after counted counts copied.Full × (new ≡ old)
FillsOne order facts id way before after counted counts old new (step.Ended code) =
    CopiesPair (pair_of id old.iterators.items) before after counted counts (copied.Nowhere code) × (new ≡ old)
FillsOne order facts id way before after counted counts old new (step.Refused code) =
    CopiesPair (pair_of id old.iterators.items) before after counted counts copied.Added
    × MovesOn order facts id way old new (Some code)

-- ---- all of them

-- where it ends with so many bytes left: there is no pair, or this one has no room
abbrev pub IsEnd : ℕ → Option (Option (List ℕ × List ℕ)) → ℤ → Type 0
IsEnd left None code = code ≡ number NoIterator
IsEnd left (Some None) code = code ≡ negsuc 0
IsEnd left (Some (Some pair)) code = (code ≡ pos 0) × HasNoRoom pair.0 pair.1 left

-- The iterator stood on each of these pairs in turn, and was moved on after each. It ends where it
-- stands, or with a move that was refused.
abbrev pub Passes : {S : Type 0} → Order → (S → Facts) → ℕ → Motion → ℕ → List (List ℕ × List ℕ) → Handle S → Handle S
    → ℤ → Type 0
Passes order facts id way left [] old new code = (new ≡ old) × IsEnd left (pair_of id old.iterators.items) code
Passes {S} order facts id way left (pair ∷ pairs) old new code = (pair_of id old.iterators.items ≡ Some (Some pair))
    × (((mid : Handle S) × MovesOn order facts id way old mid None × Passes order facts id way left pairs mid new code)
    ⊎ ((pairs ≡ []) × MovesOn order facts id way old new (Some code)))

-- These pairs were laid out at the front of a room, and the rest of it is as it was.
pub record IsLaid (before now : List ℕ) (filled : Filled) (pairs : List (List ℕ × List ℕ)) : Type 0 where
  pub count : filled.pairs ≡ length pairs
  pub used : filled.used ≡ length (all_laid pairs)
  pub least : 8 * filled.pairs ≤ filled.used
  pub fits : filled.used ≤ length before
  pub room : length now ≡ length before
  pub bytes : now ≡ all_laid pairs ++ drop filled.used before

-- what a call that copies many pairs promises
pub record FillServed {S : Type 0} (order : Order) (facts : S → Facts) (id : ℕ) (way : Motion) (before after : List ℕ)
    (filled : Filled) (old new : Handle S) (code : ℤ) : Type 0 where
  pub pairs : List (List ℕ × List ℕ)
  pub laid : IsLaid before after filled pairs
  pub moves : Passes order facts id way (length before - filled.used) pairs old new code

-- What is so far: whatever follows from here continues these pairs.
pub record FillsSoFar {S : Type 0} (order : Order) (facts : S → Facts) (id : ℕ) (way : Motion) (before now : List ℕ)
    (filled : Filled) (begun here : Handle S) : Type 0 where
  pub pairs : List (List ℕ × List ℕ)
  pub laid : IsLaid before now filled pairs
  pub moves : (left : ℕ) (rest : List (List ℕ × List ℕ)) (end : Handle S) (code : ℤ)
      → Passes order facts id way left rest here end code
      → Passes order facts id way left (pairs ++ rest) begun end code
