-- Where iterators stand, by their ids.
use Rattle.std.specs.Prelude.{ℕ, suc, nat_eq, if◌then◌else◌, Option, Some, None, List, [], ◌∷◌}
use Rattle.c_calls.specs.declared.standings.Standing.{Standing}

-- the place of an iterator in the list, or the list's length
abbrev pub place : ℕ → List Standing → ℕ
place id [] = 0
place id (standing ∷ rest) = if nat_eq standing.id id then 0 else suc (place id rest)

-- the pair on which an iterator stands, if there is this iterator
abbrev pub pair_of : ℕ → List Standing → Option (Option (List ℕ × List ℕ))
pair_of id [] = None
pair_of id (standing ∷ rest) = if nat_eq standing.id id then Some standing.pair else pair_of id rest

-- the list, once this iterator stands elsewhere
abbrev pub moved_to : ℕ → Option (List ℕ × List ℕ) → List Standing → List Standing
moved_to id pair [] = []
moved_to id pair (standing ∷ rest) =
    if nat_eq standing.id id then record standing { pair = pair } ∷ rest else standing ∷ moved_to id pair rest

-- the list without this iterator
abbrev pub without : ℕ → List Standing → List Standing
without id [] = []
without id (standing ∷ rest) = if nat_eq standing.id id then rest else standing ∷ without id rest
