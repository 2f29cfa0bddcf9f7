-- A key and the value after it, in a room.
use Rattle.std.proofs.Common.{◌≡◌, ℕ, ◌+◌, ◌-◌, ◌≤◌, List, [], ◌++◌, append-nil, length, take, drop, sym, ap, ◌∙◌, length-append, arith}
use Rattle.std.proofs.Math.Seq.{drop-length, drop-append_seam, take-append_seam, take-append-add}
use Rattle.std.proofs.lemmas.List.{take_all, drop-drop, length-drop, append_assoc}
use Rattle.c_calls.specs.Codes.{written}

key_first : (key room : List ℕ) → length key ≤ length room → written key room ≡ key ++ drop (length key) room
key_first key room fits = ap (λ (bytes : List ℕ). bytes ++ drop (length key) room) (take_all (length room) key fits)

whole_front : (key value room : List ℕ) → length key ≤ length room
    → take (length room) (key ++ value) ≡ key ++ take (length (drop (length key) room)) value
whole_front key value room fits =
    let left : length (drop (length key) room) ≡ length room - length key = length-drop (length key) room in
    let all : length key + length (drop (length key) room) ≡ length room = omega (arith, left, fits) in
    ap (λ (n : ℕ). take n (key ++ value)) (sym all) ∙ take-append-add key value (length (drop (length key) room))

rest_of : (key value room : List ℕ) → drop (length (key ++ value)) room ≡ drop (length value) (drop (length key) room)
rest_of key value room =
    ap (λ (n : ℕ). drop n room) (length-append key value) ∙ sym (drop-drop (length value) (length key) room)

-- A key is written to the front, and then a value after it: so both are, one after the other.
pub pair_laid : (key value room : List ℕ) → length key ≤ length room
    → take (length key) (written key room) ++ written value (drop (length key) (written key room))
    ≡ written (key ++ value) room
pair_laid key value room fits =
    let d : List ℕ = drop (length key) room in
    let first : written key room ≡ key ++ d = key_first key room fits in
    let front : take (length key) (written key room) ≡ key = ap (take (length key)) first ∙ take-append_seam key d in
    let rest : drop (length key) (written key room) ≡ d = ap (drop (length key)) first ∙ drop-append_seam key d in
    let apart : take (length key) (written key room) ++ written value (drop (length key) (written key room))
    ≡ key ++ written value d = λ i. front i ++ written value (rest i) in
    let seen : written (key ++ value) room ≡ key ++ take (length d) value ++ drop (length value) d =
    λ i. whole_front key value room fits i ++ rest_of key value room i in
    let whole : written (key ++ value) room ≡ key ++ written value d =
    seen ∙ append_assoc key (take (length d) value) (drop (length value) d) in
    apart ∙ sym whole

-- The same where the value goes into the part of the room that is behind the key.
pub pair_sliced : (key value room mid back : List ℕ) (k : ℕ) → k ≡ length key → length key ≤ length room
    → mid ≡ written key room → back ≡ written value (take (length mid - k) (drop k mid))
    → take k mid ++ (back ++ drop (length mid - k) (drop k mid)) ≡ written (key ++ value) room
pair_sliced key value room mid back k at fits first second =
    let n : length (drop k mid) ≡ length mid - k = length-drop k mid in
    let all : take (length mid - k) (drop k mid) ≡ drop k mid = take_all (length mid - k) (drop k mid) (omega (arith, n)) in
    let none : drop (length mid - k) (drop k mid) ≡ [] =
    ap (λ (m : ℕ). drop m (drop k mid)) (sym n) ∙ drop-length (drop k mid) in
    let whole : back ++ drop (length mid - k) (drop k mid) ≡ written value (drop k mid) =
    ap (λ (rest : List ℕ). back ++ rest) none ∙ append-nil back ∙ second ∙ ap (written value) all in
    ap (λ (rest : List ℕ). take k mid ++ rest) whole
    ∙ (λ i. take (at i) (first i) ++ written value (drop (at i) (first i))) ∙ pair_laid key value room fits
