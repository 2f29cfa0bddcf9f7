-- Cuts that are told one after the other, in a room.
use Rattle.std.proofs.Common.{◌≡◌, ◌<◌, ℕ, zero, suc, List, [], ◌∷◌, ◌++◌, length, map, take, drop, slice_index_or, slice_set, refl, ap, arith}
use Rattle.c_calls.specs.Folders.{told_cut}
use Rattle.c_calls.specs.declared.folders.CutFile.{CutFile}
use Rattle.mending.specs.declared.finding.Cut.{Cut}

pub map_at : (cuts : List Cut) (i : ℕ) (d : Cut)
    → slice_index_or (map told_cut cuts) i (told_cut d) ≡ told_cut (slice_index_or cuts i d)
map_at [] i d = refl
map_at (cut ∷ cuts) zero d = refl
map_at (cut ∷ cuts) (suc i) d = map_at cuts i d

pub one_more : (told room : List CutFile) (i : ℕ) (d : CutFile) → i < length told → i < length room
    → slice_set (take i told ++ drop i room) i (slice_index_or told i d) ≡ take (suc i) told ++ drop (suc i) room
one_more [] room i d within fits = absurd (omega (arith, within))
one_more (t ∷ told) [] i d within fits = absurd (omega (arith, fits))
one_more (t ∷ told) (r ∷ room) zero d within fits = refl
one_more (t ∷ told) (r ∷ room) (suc i) d within fits =
    ap (λ (cuts : List CutFile). t ∷ cuts) (one_more told room i d (omega (arith, within)) (omega (arith, fits)))
