-- Hashes of filters, one filter's after the other's.
use Rattle.std.proofs.Common.{◌≡◌, ℕ, zero, suc, ◌+◌, ◌-◌, ◌<◌, ◌≤◌, List, [], ◌∷◌, ◌++◌, length, get_or, set, take, drop, refl, sym, ap, ◌∙◌, append_assoc, replicate, arith}
use Rattle.std.specs.List.{insert}
use Rattle.std.proofs.lemmas.List.{length-append, length-drop, take_more, take_all, drop_all, replicate_more, length-replicate}
use Rattle.std.proofs.lemmas.List.Edits.{length-insert}
use Rattle.filter.specs.Builder.{with_empty, with_hash}
use Rattle.filter.specs.Cuts.{cut, total}

pub length-cut : (counts hashes : List ℕ) → length (cut counts hashes) ≡ length counts
length-cut [] hashes = refl
length-cut (count ∷ counts) hashes = ap suc (length-cut counts (drop count hashes))

-- filters without hashes
pub cut-empties : (n : ℕ) (counts hashes : List ℕ) → cut (counts ++ replicate n 0) hashes ≡ cut counts hashes ++ replicate n []
cut-empties zero [] hashes = refl
cut-empties (suc n) [] hashes = ap (λ (v : List (List ℕ)). [] ∷ v) (cut-empties n [] hashes)
cut-empties n (count ∷ counts) hashes = ap (λ (v : List (List ℕ)). take count hashes ∷ v) (cut-empties n counts (drop count hashes))

pub sum-append : (xs ys : List ℕ) → total (xs ++ ys) ≡ total xs + total ys
sum-append [] ys = omega arith
sum-append (x ∷ xs) ys = omega (arith, sum-append xs ys)

pub sum-more : (xs : List ℕ) (i : ℕ) → i < length xs → total (take (i + 1) xs) ≡ total (take i xs) + get_or xs i 0
sum-more xs i within = ap total (take_more xs i 0 within) ∙ sum-append (take i xs) (get_or xs i 0 ∷ []) ∙ omega arith

pub sum-take : (xs : List ℕ) (i : ℕ) → total (take i xs) ≤ total xs
sum-take [] zero = omega arith
sum-take [] (suc i) = omega arith
sum-take (x ∷ xs) zero = omega arith
sum-take (x ∷ xs) (suc i) = omega (arith, sum-take xs i)

pub get-sum : (xs : List ℕ) (i : ℕ) → get_or xs i 0 ≤ total xs
get-sum [] zero = omega arith
get-sum [] (suc i) = omega arith
get-sum (x ∷ xs) zero = omega arith
get-sum (x ∷ xs) (suc i) = omega (arith, get-sum xs i)

pub sum-set : (xs : List ℕ) (i n : ℕ) → i < length xs → total (set xs i (get_or xs i 0 + n)) ≡ total xs + n
sum-set [] i n within = absurd (omega (arith, within))
sum-set (x ∷ xs) zero n within = omega arith
sum-set (x ∷ xs) (suc i) n within = omega (arith, sum-set xs i n (omega (arith, within)))

-- ---- one hash more

take-before : (c p h : ℕ) (hs : List ℕ) → c + p ≤ length hs → take c (insert hs (c + p) h) ≡ take c hs
take-before zero p h hs within = refl
take-before (suc c) p h [] within = absurd (omega (arith, within))
take-before (suc c) p h (x ∷ hs) within =
    let is : suc c + p ≡ suc (c + p) = omega arith in
    rw is (ap (λ (v : List ℕ). x ∷ v) (take-before c p h hs (omega (arith, within))))

drop-before : (c p h : ℕ) (hs : List ℕ) → c + p ≤ length hs → drop c (insert hs (c + p) h) ≡ insert (drop c hs) p h
drop-before zero p h hs within = let is : 0 + p ≡ p = omega arith in ap (λ (n : ℕ). insert hs n h) is
drop-before (suc c) p h [] within = absurd (omega (arith, within))
drop-before (suc c) p h (x ∷ hs) within = let is : suc c + p ≡ suc (c + p) = omega arith in rw is (drop-before c p h hs (omega (arith, within)))

take-with : (c h : ℕ) (hs : List ℕ) → c ≤ length hs → take (c + 1) (insert hs c h) ≡ take c hs ++ h ∷ []
take-with zero h hs within = refl
take-with (suc c) h [] within = absurd (omega (arith, within))
take-with (suc c) h (x ∷ hs) within =
    let is : suc c + 1 ≡ suc (c + 1) = omega arith in
    rw is (ap (λ (v : List ℕ). x ∷ v) (take-with c h hs (omega (arith, within))))

drop-with : (c h : ℕ) (hs : List ℕ) → c ≤ length hs → drop (c + 1) (insert hs c h) ≡ drop c hs
drop-with zero h hs within = refl
drop-with (suc c) h [] within = absurd (omega (arith, within))
drop-with (suc c) h (x ∷ hs) within = let is : suc c + 1 ≡ suc (c + 1) = omega arith in rw is (drop-with c h hs (omega (arith, within)))

pub cut-insert : (counts hashes : List ℕ) (i h : ℕ) → i < length counts → total counts ≤ length hashes
    → cut (set counts i (get_or counts i 0 + 1)) (insert hashes (total (take (i + 1) counts)) h) ≡ set (cut counts hashes) i (get_or (cut counts hashes) i [] ++ h ∷ [])
cut-insert [] hashes i h within all = absurd (omega (arith, within))
cut-insert (count ∷ counts) hashes zero h within all =
    let place : total (take 1 (count ∷ counts)) ≡ count = omega arith in
    let first = take-with count h hashes (omega (arith, all)) in
    let rest = drop-with count h hashes (omega (arith, all)) in
    rw place (λ j. first j ∷ cut counts (rest j))
cut-insert (count ∷ counts) hashes (suc i) h within all =
    let place : total (take (suc i + 1) (count ∷ counts)) ≡ count + total (take (i + 1) counts) = let is : suc i + 1 ≡ suc (i + 1) = omega arith in rw is refl in
    let inside : count + total (take (i + 1) counts) ≤ length hashes = omega (arith, all, sum-take counts (i + 1)) in
    let first = take-before count (total (take (i + 1) counts)) h hashes inside in
    let rest = drop-before count (total (take (i + 1) counts)) h hashes inside in
    let long : total counts ≤ length (drop count hashes) = omega (arith, all, length-drop count hashes) in
    let more = cut-insert counts (drop count hashes) i h (omega (arith, within)) long in
    rw place ((λ j. first j ∷ cut (set counts i (get_or counts i 0 + 1)) (rest j)) ∙ ap (λ (v : List (List ℕ)). take count hashes ∷ v) more)

-- ---- the filters so far

drop-none : (n : ℕ) (xs : List ℕ) → xs ≡ [] → drop n xs ≡ []
drop-none zero xs e = e
drop-none (suc n) [] e = refl
drop-none (suc n) (x ∷ xs) e = absurd (omega (arith, ap (λ (v : List ℕ). length v) e))

pub drop-sum : (a b : ℕ) (xs : List ℕ) → drop b (drop a xs) ≡ drop (a + b) xs
drop-sum zero b xs = let is : b ≡ 0 + b = omega arith in ap (λ (n : ℕ). drop n xs) is
drop-sum (suc a) b [] = drop-none b [] refl ∙ sym (drop-none (suc a + b) [] refl)
drop-sum (suc a) b (x ∷ xs) = let is : suc a + b ≡ suc (a + b) = omega arith in rw is (drop-sum a b xs)

pub cut-push : (counts hashes : List ℕ) (count : ℕ) → cut (counts ++ count ∷ []) hashes ≡ cut counts hashes ++ take count (drop (total counts) hashes) ∷ []
cut-push [] hashes count = refl
cut-push (first ∷ counts) hashes count =
    ap (λ (v : List (List ℕ)). take first hashes ∷ v) (cut-push counts (drop first hashes) count
    ∙ ap (λ (v : List ℕ). cut counts (drop first hashes) ++ take count v ∷ []) (drop-sum first (total counts) hashes))

pub cut-more : (counts hashes : List ℕ) (i from behind : ℕ) → i < length counts → from ≡ total (take i counts) → behind ≡ from + get_or counts i 0
    → cut (take (i + 1) counts) hashes ≡ cut (take i counts) hashes ++ take (behind - from) (drop from hashes) ∷ []
cut-more counts hashes i from behind within is to =
    let long : behind - from ≡ get_or counts i 0 = omega (arith, to) in
    ap (λ (v : List ℕ). cut v hashes) (take_more counts i 0 within) ∙ cut-push (take i counts) hashes (get_or counts i 0)
    ∙ ap (λ (n : ℕ). cut (take i counts) hashes ++ take (get_or counts i 0) (drop n hashes) ∷ []) (sym is)
    ∙ ap (λ (n : ℕ). cut (take i counts) hashes ++ take n (drop from hashes) ∷ []) (sym long)

-- ---- filters without hashes are reached

sum-zeros : (n : ℕ) → total (replicate n 0) ≡ 0
sum-zeros zero = refl
sum-zeros (suc n) = omega (arith, sum-zeros n)

pub sum-empties : (xs ys : List ℕ) (n : ℕ) → ys ≡ xs ++ replicate n 0 → total ys ≡ total xs
sum-empties xs ys n is = let parts = sum-append xs (replicate n 0) in ap total is ∙ omega (arith, parts, sum-zeros n)

pub one-more-zero : (base counts more : List ℕ) (n : ℕ) → length base ≤ n → counts ≡ base ++ replicate (n - length base) 0 → more ≡ counts ++ 0 ∷ [] → more ≡ base ++ replicate (n + 1 - length base) 0
one-more-zero base counts more n within e m =
    let r : replicate (n - length base) 0 ++ 0 ∷ [] ≡ replicate (n + 1 - length base) 0 = replicate_more (n - length base) 0 ∙ ap (λ (k : ℕ). replicate k 0) (omega arith) in
    m ∙ ap (λ (v : List ℕ). v ++ 0 ∷ []) e ∙ append_assoc base (replicate (n - length base) 0) (0 ∷ []) ∙ ap (λ (v : List ℕ). base ++ v) r

-- ---- where the hashes of a filter end

sum-parts : (k : ℕ) (xs : List ℕ) → total (take k xs) + total (drop k xs) ≡ total xs
sum-parts zero xs = omega arith
sum-parts (suc k) [] = refl
sum-parts (suc k) (x ∷ xs) = omega (arith, sum-parts k xs)

pub rest-first : (k : ℕ) (xs rest : List ℕ) → rest ≡ take (length xs - k) (drop k xs) → total xs ≡ total (take k xs) + total (drop 0 rest)
rest-first k xs rest is =
    let long : length (drop k xs) ≤ length xs - k = omega (arith, length-drop k xs) in
    let same : rest ≡ drop k xs = is ∙ take_all (length xs - k) (drop k xs) long in
    omega (arith, sum-parts k xs, ap total same)

pub rest-next : (rest : List ℕ) (j : ℕ) → j < length rest → total (drop j rest) ≡ get_or rest j 0 + total (drop (j + 1) rest)
rest-next [] j within = absurd (omega (arith, within))
rest-next (x ∷ rest) zero within = refl
rest-next (x ∷ rest) (suc j) within = let is : suc j + 1 ≡ suc (j + 1) = omega arith in rw is (rest-next rest j (omega (arith, within)))

pub rest-last : (rest : List ℕ) (j : ℕ) → length rest ≤ j → total (drop j rest) ≡ 0
rest-last rest j past = ap total (drop_all j rest past)

-- ---- a hash is added

same-item : (xs : List ℕ) (i d e : ℕ) → i < length xs → get_or xs i d ≡ get_or xs i e
same-item [] i d e within = absurd (omega (arith, within))
same-item (x ∷ xs) zero d e within = refl
same-item (x ∷ xs) (suc i) d e within = same-item xs i d e (omega (arith, within))

module _ (old reached hashes : List ℕ) (place i : ℕ) (all : total old ≡ length hashes) (r : reached ≡ old ++ replicate (i + 1 - length old) 0) where
  pub reached-within : i < length reached
  reached-within =
      let long : length reached ≡ length old + (i + 1 - length old) =
      ap (λ (v : List ℕ). length v) r ∙ length-append old (replicate (i + 1 - length old) 0) ∙ ap (λ (n : ℕ). length old + n) (length-replicate {A = ℕ} (i + 1 - length old) 0) in
      omega (arith, long)

  pub reached-total : total reached ≡ length hashes
  reached-total = sum-empties old reached (i + 1 - length old) r ∙ all

  -- a filter has no more hashes than there are
  pub few-hashes : (n : ℕ) → n ≡ get_or reached i n → n ≤ length hashes
  few-hashes n is = omega (arith, is, same-item reached i n 0 reached-within, get-sum reached i, reached-total)

  module _ (p : place ≡ total (take (i + 1) reached)) where
    pub place-inside : place ≤ length hashes
    place-inside = omega (arith, p, reached-total, sum-take reached (i + 1))

    module _ (more : List ℕ) (n h : ℕ) (m : more ≡ insert hashes place h) (is : n ≡ get_or reached i n) where
      one-more : set reached i (n + 1) ≡ set reached i (get_or reached i 0 + 1)
      one-more = ap (λ (k : ℕ). set reached i (k + 1)) (is ∙ same-item reached i n 0 reached-within)

      pub cut-with : cut (set reached i (n + 1)) more ≡ with_hash (cut old hashes) i h
      cut-with =
          let lists : cut reached hashes ≡ with_empty (cut old hashes) i =
          ap (λ (v : List ℕ). cut v hashes) r ∙ cut-empties (i + 1 - length old) old hashes ∙ ap (λ (k : ℕ). cut old hashes ++ replicate (i + 1 - k) []) (sym (length-cut old hashes)) in
          ap (λ (v : List ℕ). cut v more) one-more ∙ ap (cut (set reached i (get_or reached i 0 + 1))) (m ∙ ap (λ (k : ℕ). insert hashes k h) p)
          ∙ cut-insert reached hashes i h reached-within (omega (arith, reached-total)) ∙ ap (λ (v : List (List ℕ)). set v i (get_or v i [] ++ h ∷ [])) lists

      pub total-with : total (set reached i (n + 1)) ≡ length more
      total-with = omega (arith, ap total one-more, sum-set reached i 1 reached-within, reached-total, ap (λ (v : List ℕ). length v) m, length-insert hashes place h place-inside)
