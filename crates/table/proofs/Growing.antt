-- What stays as a file grows.
use Rattle.std.proofs.Common.{◌≡◌, ◌≤◌, ◌+◌, ℕ, List, [], ◌∷◌, ◌++◌, length, take, drop, sym, ap, ◌∙◌, arith}
use Rattle.std.proofs.lemmas.List.{length-append, length-drop, drop-append-le, take-append-le}
use Rattle.std.proofs.Math.Seq.{take-append_seam, drop-append_seam}
use Rattle.std.specs.declared.cmp.Ordering.{Ordering}
use Rattle.ikey.specs.Entries.{Pair}
use Rattle.table.specs.declared.handle.Handle.{Handle}
use Rattle.table.specs.declared.handle.Place.{Place}
use Rattle.table.specs.Stored.{IsStored, trailer_of, stored}
use Rattle.table.specs.Table.{HasBlock, AreData}
use Rattle.table.proofs.StoredBlocks.{stored_inside}

pub length-stored : (block : List ℕ) → length (stored block) ≡ length block + 5
length-stored block = omega (arith, length-append block (trailer_of block))

pub stored_on : (file more : List ℕ) (handle : Handle) (block : List ℕ) → IsStored file handle block → IsStored (file ++ more) handle block
stored_on file more handle block h =
    let inside : handle.offset + (handle.size + 5) ≤ length file = stored_inside file handle block h in
    let front : handle.offset ≤ length file = omega (arith, inside) in
    let long : handle.size + 5 ≤ length (drop handle.offset file) = omega (arith, inside, length-drop handle.offset file) in
    record {
      size = h.size;
      parts = ap (take (handle.size + 5)) (drop-append-le handle.offset file more front) ∙ take-append-le (handle.size + 5) (drop handle.offset file) more long ∙ h.parts;
    }

-- a block that stands after the front
pub stored_here : (file front behind block : List ℕ) (handle : Handle) → file ≡ front ++ (stored block ++ behind) → handle.offset ≡ length front → handle.size ≡ length block → IsStored file handle block
stored_here file front behind block handle e at size =
    let rest : drop handle.offset file ≡ stored block ++ behind = (λ i. drop (at i) (e i)) ∙ drop-append_seam front (stored block ++ behind) in
    let long : handle.size + 5 ≡ length (stored block) = omega (arith, size, length-stored block) in
    record {
      size = sym size;
      parts = (λ i. take (long i) (rest i)) ∙ take-append_seam (stored block) behind;
    }

pub data_on : (cmp : List ℕ → List ℕ → Ordering) (file more : List ℕ) (places : List Place) (blocks : List (List Pair)) → AreData cmp file places blocks → AreData cmp (file ++ more) places blocks
data_on cmp file more [] [] h = tt
data_on cmp file more [] (pairs ∷ blocks) h = absurd h
data_on cmp file more (place ∷ places) [] h = absurd h
data_on cmp file more (place ∷ places) (pairs ∷ blocks) h =
    ((h.0.0, stored_on file more place.handle h.0.0 h.0.1, h.0.2), data_on cmp file more places blocks h.1)

pub data_push : (cmp : List ℕ → List ℕ → Ordering) (file : List ℕ) (places : List Place) (blocks : List (List Pair)) (place : Place) (pairs : List Pair) → AreData cmp file places blocks → HasBlock cmp file place.handle pairs
    → AreData cmp file (places ++ place ∷ []) (blocks ++ pairs ∷ [])
data_push cmp file [] [] place pairs h k = (k, tt)
data_push cmp file [] (other ∷ blocks) place pairs h k = absurd h
data_push cmp file (other ∷ places) [] place pairs h k = absurd h
data_push cmp file (other ∷ places) (others ∷ blocks) place pairs h k = (h.0, data_push cmp file places blocks place pairs h.1 k)
