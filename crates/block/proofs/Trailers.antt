-- The restarts and their number after the entries.
use Rattle.std.proofs.Common.{◌≡◌, ℕ, zero, suc, ◌+◌, ◌-◌, ◌*◌, ◌/◌, ◌^◌, ◌<◌, ◌≤◌, Some, List, [], ◌∷◌, ◌++◌, length, take, drop, sym, ap, ◌∙◌, append_assoc, arith}
use Rattle.std.specs.List.{flat_map, slice_get}
use Rattle.std.proofs.lemmas.List.{length-append, length-take, drop_at}
use Rattle.coding.specs.Fixed.{fixed32}
use Rattle.coding.proofs.Fronts.{fixed32_front}
use Rattle.block.specs.Block.{trailer, AllSmall}
use Rattle.block.proofs.BlockLaws.{length-restarts}

pub no_trailer : (bytes : List ℕ) (count : ℕ) → 4 ≤ length bytes → take 4 (drop (length bytes - 4) bytes) ≡ fixed32 count → count < 2 ^ 32 → length (take (length bytes - 4) bytes) / 4 < count
    → (body restarts : List ℕ) → length restarts < 2 ^ 32 → bytes ≡ body ++ trailer restarts → ⊥
no_trailer bytes count some last fits many body restarts small e =
    let front = body ++ flat_map fixed32 restarts in
    let whole : bytes ≡ front ++ fixed32 (length restarts) = e ∙ sym (append_assoc body (flat_map fixed32 restarts) (fixed32 (length restarts))) in
    let long : length front ≡ length bytes - 4 = omega (arith, ap length whole, length-append front (fixed32 (length restarts))) in
    let end : drop (length bytes - 4) bytes ≡ fixed32 (length restarts) = ap (drop (length bytes - 4)) whole ∙ drop_at front (fixed32 (length restarts)) (length bytes - 4) long in
    let same : fixed32 count ++ [] ≡ fixed32 (length restarts) ++ [] = ap (λ (v : List ℕ). v ++ []) (sym last ∙ ap (take 4) end) in
    let n = fixed32_front count (length restarts) [] [] fits small same in
    omega (arith, many, n.0, long, length-append body (flat_map fixed32 restarts), length-restarts restarts, length-take (length bytes - 4) bytes)

pub restart_found : (list : List ℕ) (index r : ℕ) → AllSmall list → 4 * index + 4 ≤ length (flat_map fixed32 list) → r < 2 ^ 32 → take 4 (drop (4 * index) (flat_map fixed32 list)) ≡ fixed32 r → slice_get list index ≡ Some r
restart_found [] index r small inside fits e = absurd (omega (arith, inside))
restart_found (x ∷ xs) zero r small inside fits e = ap Some (fixed32_front x r [] [] small.0 fits (ap (λ (v : List ℕ). v ++ []) e)).0
restart_found (x ∷ xs) (suc index) r small inside fits e =
    let four : 4 * suc index ≡ suc (suc (suc (suc (4 * index)))) = omega arith in
    restart_found xs index r small.1 (omega (arith, inside, length-append (fixed32 x) (flat_map fixed32 xs))) fits (sym (ap (λ (n : ℕ). take 4 (drop n (fixed32 x ++ flat_map fixed32 xs))) four) ∙ e)
