-- Entries that a cursor keeps for its steps back.
use Rattle.std.specs.Prelude.{◌≤◌, ◌-◌, ℕ, List, [], ◌∷◌, Option, Some, None, length, take, drop}
use Rattle.std.specs.List.{AllByRecursion}
use Rattle.block.specs.Reading.{pairs_of}
use Rattle.block.specs.Spots.{IsSpot}
use Rattle.block.specs.declared.block_cursor.Passed.{Passed}

-- its key, which lies among the keys
abbrev pub kept_key : List ℕ → Passed → List ℕ
kept_key keys entry = take (entry.key_end - entry.key) (drop entry.key keys)

-- this is an entry of the body
pub record IsKept (body keys : List ℕ) (entry : Passed) : Type 0 where
  pub index : ℕ
  pub spot : IsSpot body (pairs_of body) index (kept_key keys entry) entry.at.start entry.at.value entry.at.next
  pub ordered : entry.key ≤ entry.key_end
  pub inside : entry.key_end ≤ length keys

abbrev pub AreKept : List ℕ → List ℕ → List Passed → Type 0
AreKept body keys entries = AllByRecursion (IsKept body keys) entries

-- where the last of them ends
abbrev pub last_end : List Passed → Option ℕ
last_end [] = None
last_end (entry ∷ []) = Some entry.at.next
last_end (entry ∷ other ∷ entries) = last_end (other ∷ entries)
