-- No bytes are two blocks.
use Rattle.std.proofs.Common.{◌≡◌, ℕ, ◌*◌, ◌^◌, ◌<◌, List, [], ◌∷◌, ◌++◌, length, refl, sym, ap, ◌∙◌, append_assoc, arith}
use Rattle.std.specs.List.{flat_map}
use Rattle.std.proofs.lemmas.List.{length-append}
use Rattle.coding.specs.Fixed.{fixed32}
use Rattle.coding.proofs.Fronts.{fixed32_front, same_front}
use Rattle.ikey.specs.Entries.{Pair}
use Rattle.block.specs.Block.{IsBody, IsLaidOut, IsBlock}
use Rattle.block.specs.Reading.{pairs_of}
use Rattle.block.proofs.EntryLaws.{pairs_found}

pub length-restarts : (restarts : List ℕ) → length (flat_map fixed32 restarts) ≡ 4 * length restarts
length-restarts [] = refl
length-restarts (r ∷ restarts) = omega (arith, length-append (fixed32 r) (flat_map fixed32 restarts), length-restarts restarts)

-- a body is the pairs that are read from it
pub body_pairs : (pairs : List Pair) (restarts body : List ℕ) → IsBody pairs restarts body → pairs_of body ≡ pairs
unfolding pairs_of
body_pairs [] restarts body h = pairs_found 0 (length body) [] [] [] body (h.0, refl) (omega arith)
body_pairs (pair ∷ pairs) restarts body h = pairs_found 0 (length body) [] (pair ∷ pairs) restarts body h.2 (omega arith)

-- the entries end at one place
pub one_body : (body other restarts others : List ℕ) (m n : ℕ) → m < 2 ^ 32 → n < 2 ^ 32 → length restarts ≡ 4 * m → length others ≡ 4 * n
    → body ++ (restarts ++ fixed32 m) ≡ other ++ (others ++ fixed32 n) → (body ≡ other) × (restarts ≡ others)
one_body body other restarts others m n p q len long e =
    let whole : (body ++ restarts) ++ fixed32 m ≡ (other ++ others) ++ fixed32 n = append_assoc body restarts (fixed32 m) ∙ e ∙ sym (append_assoc other others (fixed32 n)) in
    let same : length (body ++ restarts) ≡ length (other ++ others) = omega (arith, ap length whole, length-append (body ++ restarts) (fixed32 m), length-append (other ++ others) (fixed32 n)) in
    let parts = same_front (body ++ restarts) (other ++ others) (fixed32 m) (fixed32 n) same whole in
    let count = fixed32_front m n [] [] p q (ap (λ (v : List ℕ). v ++ []) parts.1) in
    let bodies : length body ≡ length other = omega (arith, same, length-append body restarts, length-append other others, len, long, count.0) in
    same_front body other restarts others bodies parts.0

pub count_fits : (below : List ℕ → List ℕ → Type 0) (body restarts bytes : List ℕ) (pairs : List Pair) → IsLaidOut below body restarts bytes pairs → length restarts < 2 ^ 32
count_fits below body restarts bytes pairs h =
    omega (arith, h.fits, ap length h.parts, length-append body (flat_map fixed32 restarts ++ fixed32 (length restarts)), length-append (flat_map fixed32 restarts) (fixed32 (length restarts)), length-restarts restarts)

pub same_block : (below : List ℕ → List ℕ → Type 0) (bytes : List ℕ) (pairs others : List Pair) → IsBlock below bytes pairs → IsBlock below bytes others → pairs ≡ others
same_block below bytes pairs others h k =
    let bodies = one_body h.0 k.0 (flat_map fixed32 h.1) (flat_map fixed32 k.1) (length h.1) (length k.1) (count_fits below h.0 h.1 bytes pairs h.2) (count_fits below k.0 k.1 bytes others k.2)
    (length-restarts h.1) (length-restarts k.1) (sym h.2.parts ∙ k.2.parts) in
    sym (body_pairs pairs h.1 h.0 h.2.entries) ∙ ap pairs_of bodies.0 ∙ body_pairs others k.1 k.0 k.2.entries
