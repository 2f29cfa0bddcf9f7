-- An array that is set at the end of what is written.
use Rattle.std.proofs.Common.{◌≡◌, ◌==◌, ℕ, zero, suc, true, false, ◌+◌, ◌-◌, ◌<◌, ◌≤◌, List, [], ◌++◌, length, take, drop, replicate, ap, ◌∙◌, append-nil, arith}
use Rattle.std.proofs.Math.Seq.{take-append_seam, drop-append_seam}
use Rattle.std.proofs.lemmas.List.{length-append, length-drop, take_all, drop_all}
use borrow.Rule.Slice.PartMut.{put_mid, post_of}

no-more : (start : ℕ) (all : List ℕ) → start ≤ length all → post_of start (length all - start) all ≡ []
no-more start all within = drop_all (length all - start) (drop start all) (omega (arith, length-drop start all))

-- the end is what was written into it
pub end-written : (old array all : List ℕ) (start n : ℕ) → start ≡ length old → all ≡ old ++ replicate n 0 → length array ≡ n
    → put_mid start (length all - start) all array ≡ old ++ array
end-written old array all start n at is long =
    let within : start ≤ length all = omega (arith, at, ap (λ (v : List ℕ). length v) is, length-append old (replicate n 0)) in
    let front : take start all ≡ old = ap (λ (v : List ℕ). take start v) is ∙ ap (λ (k : ℕ). take k (old ++ replicate n 0)) at ∙ take-append_seam old (replicate n 0) in
    let none = no-more start all within in
    (λ i. front i ++ (array ++ none i)) ∙ ap (λ (v : List ℕ). old ++ v) (append-nil array)

pub written-back : (written items : List ℕ) (len : ℕ) → length items ≡ len → length written ≡ len → take len (written ++ drop (length written) items) ≡ written
written-back written items len same long =
    let none : drop (length written) items ≡ [] = drop_all (length written) items (omega (arith, same, long)) in
    ap (λ (v : List ℕ). take len (written ++ v)) none ∙ ap (take len) (append-nil written) ∙ take_all len written (omega (arith, long))

-- what lay there was zeroes
pub zeroes-behind : (old all : List ℕ) (start n : ℕ) → start ≡ length old → all ≡ old ++ replicate n 0 → take (length all - start) (drop start all) ≡ replicate n 0
zeroes-behind old all start n at is =
    let rest : drop start all ≡ replicate n 0 = ap (drop start) is ∙ ap (λ (k : ℕ). drop k (old ++ replicate n 0)) at ∙ drop-append_seam old (replicate n 0) in
    let long : length (replicate {A = ℕ} n 0) ≤ length all - start = omega (arith, at, ap (λ (v : List ℕ). length v) is, length-append old (replicate n 0)) in
    ap (take (length all - start)) rest ∙ take_all (length all - start) (replicate n 0) long

-- a list that is made longer by zeroes
pub made-longer : (old items : List ℕ) (len behind n : ℕ) → items ≡ take behind old ++ replicate (behind - len) 0 → len ≡ length old → behind ≡ length old + n → items ≡ old ++ replicate n 0
made-longer old items len behind n is same at =
    let front : take behind old ≡ old = take_all behind old (omega (arith, at)) in
    let zeroes : behind - len ≡ n = omega (arith, same, at) in
    is ∙ (λ i. front i ++ replicate (zeroes i) 0)

pub not-empty : (n : ℕ) → false ≡ (n == 0) → 0 < n
not-empty zero e = let no : false ≡ true = e in cc
not-empty (suc n) e = omega arith
