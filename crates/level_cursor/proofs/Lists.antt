-- Entries of several lists, one list after the other.
use Rattle.std.proofs.Common.{◌≡◌, ◌<◌, ◌≤◌, ◌+◌, ◌++◌, ℕ, zero, suc, Bool, true, false, cond, List, [], ◌∷◌, Some, None, get_or, length, drop, refl, sym, ap, ◌∙◌, subst, arith}
use Rattle.std.proofs.lemmas.List.{length-append}
use Rattle.std.specs.List.{slice_get, AllByRecursion}
use Rattle.cursor.specs.Places.{leading}
use Rattle.ikey.specs.Entries.{InternalEntry}
use Rattle.level_cursor.specs.InRows.{entries_before, joined}
use Rattle.level_cursor.specs.RowLists.{before_more, some_at}

-- ---- one list

pub all_at : {A : Type 0} (P : A → Type 0) (xs : List A) (n : ℕ) (x : A) → AllByRecursion P xs → slice_get xs n ≡ Some x → P x
all_at P [] n x h e = absurd (let bad : None ≡ Some x = e in cc)
all_at P (y ∷ xs) zero x h e = let s : y ≡ x = let t : Some y ≡ Some x = e in cc in subst P s h.0
all_at P (y ∷ xs) (suc n) x h e = all_at P xs n x h.1 e

pub all_behind : {A : Type 0} (P : A → Type 0) (xs ys : List A) → AllByRecursion P (xs ++ ys) → AllByRecursion P ys
all_behind P [] ys h = h
all_behind P (x ∷ xs) ys h = all_behind P xs ys h.1

pub get_is : {A : Type 0} (xs : List A) (n : ℕ) (x d : A) → slice_get xs n ≡ Some x → get_or xs n d ≡ x
get_is [] n x d e = absurd (let bad : None ≡ Some x = e in cc)
get_is (y ∷ xs) zero x d e = let t : Some y ≡ Some x = e in cc
get_is (y ∷ xs) (suc n) x d e = get_is xs n x d e

pub read_at : {A : Type 0} (xs : List A) (n : ℕ) (d : A) → n < length xs → slice_get xs n ≡ Some (get_or xs n d)
read_at xs n d less = let x = some_at xs n less in x.1 ∙ ap Some (sym (get_is xs n x.0 d x.1))

-- what is so of an item that was read is so of the one before the next index
pub read_before : {A : Type 0} (P : A → Type 0) (xs : List A) (n : ℕ) (d : A) → n < length xs → P (get_or xs n d) → (k : ℕ) (x : A) → n + 1 ≡ suc k → slice_get xs k ≡ Some x → P x
read_before P xs n d less h k x e at =
    let same : n ≡ k = omega (arith, e) in
    subst P (get_is xs n x d (ap (slice_get xs) same ∙ at)) h

-- ---- all lists

pub before_end : (lists : List (List InternalEntry)) (n : ℕ) → length lists ≤ n → entries_before lists n ≡ length (joined lists)
unfolding entries_before
before_end [] n h = refl
before_end (x ∷ lists) zero h = absurd (omega (arith, h))
before_end (x ∷ lists) (suc n) h = omega (arith, before_end lists n (omega (arith, h)), length-append x (joined lists))

pub before_up : (lists : List (List InternalEntry)) (i j : ℕ) → i ≤ j → entries_before lists i ≤ entries_before lists j
unfolding entries_before
before_up [] i j h = omega arith
before_up (x ∷ lists) zero j h = omega arith
before_up (x ∷ lists) (suc i) zero h = absurd (omega (arith, h))
before_up (x ∷ lists) (suc i) (suc j) h = let more = before_up lists i j (omega (arith, h)) in omega (arith, more)

pub before_inside : (lists : List (List InternalEntry)) (i : ℕ) (list : List InternalEntry) → slice_get lists i ≡ Some list → entries_before lists i + length list ≤ length (joined lists)
unfolding entries_before
before_inside [] i list e = absurd (let bad : None ≡ Some list = e in cc)
before_inside (x ∷ lists) zero list e =
    let s : x ≡ list = let t : Some x ≡ Some list = e in cc in
    omega (arith, length-append x (joined lists), ap (length {A = InternalEntry}) s)
before_inside (x ∷ lists) (suc i) list e = omega (arith, before_inside lists i list e, length-append x (joined lists))

pub drop_at : (lists : List (List InternalEntry)) (i : ℕ) (list : List InternalEntry) → slice_get lists i ≡ Some list → joined (drop i lists) ≡ list ++ joined (drop (suc i) lists)
drop_at [] i list e = absurd (let bad : None ≡ Some list = e in cc)
drop_at (x ∷ lists) zero list e = let s : x ≡ list = let t : Some x ≡ Some list = e in cc in ap (λ (l : List InternalEntry). l ++ joined lists) s
drop_at (x ∷ lists) (suc i) list e = drop_at lists i list e

pub drop_past : (lists : List (List InternalEntry)) (i : ℕ) → length lists ≤ i → joined (drop i lists) ≡ []
drop_past [] zero h = refl
drop_past [] (suc i) h = refl
drop_past (x ∷ lists) zero h = absurd (omega (arith, h))
drop_past (x ∷ lists) (suc i) h = drop_past lists i (omega (arith, h))

-- ---- entries at the front that pass a test

module _ (test : InternalEntry → Bool) where
  through_at : (b : Bool) (k n m p : ℕ) → suc k ≤ cond b (suc n) zero → (k ≤ n → m ≡ k + p) → cond b (suc m) zero ≡ suc k + p
  through_at true k n m p h ih = let e = ih (omega (arith, h)) in omega (arith, e)
  through_at false k n m p h ih = absurd (omega (arith, h))

  -- all of a list pass
  pub leading_through : (xs ys : List InternalEntry) → length xs ≤ leading test xs → leading test (xs ++ ys) ≡ length xs + leading test ys
  leading_through [] ys h = omega arith
  leading_through (x ∷ xs) ys h = through_at (test x) (length xs) (leading test xs) (leading test (xs ++ ys)) (leading test ys) h (leading_through xs ys)

  within_at : (b : Bool) (k n m : ℕ) → cond b (suc n) zero < suc k → (n < k → m ≡ n) → cond b (suc m) zero ≡ cond b (suc n) zero
  within_at true k n m h ih = ap suc (ih (omega (arith, h)))
  within_at false k n m h ih = refl

  -- one fails
  pub leading_within : (xs ys : List InternalEntry) → leading test xs < length xs → leading test (xs ++ ys) ≡ leading test xs
  leading_within [] ys h = absurd (omega (arith, h))
  leading_within (x ∷ xs) ys h = within_at (test x) (length xs) (leading test xs) (leading test (xs ++ ys)) h (leading_within xs ys)

  pass_at : (b : Bool) (k n : ℕ) → b ≡ true → k ≤ n → suc k ≤ cond b (suc n) zero
  pass_at true k n e h = omega (arith, h)
  pass_at false k n e h = let bad : false ≡ true = e in absurd cc

  pub all_pass : (xs : List InternalEntry) → AllByRecursion (λ (entry : InternalEntry). test entry ≡ true) xs → length xs ≤ leading test xs
  all_pass [] h = omega arith
  all_pass (x ∷ xs) h = pass_at (test x) (length xs) (leading test xs) h.0 (all_pass xs h.1)

  -- where all of the list at this index pass, the search goes on after it
  pub passed_list : (lists : List (List InternalEntry)) (i : ℕ) (list : List InternalEntry) → slice_get lists i ≡ Some list → length list ≤ leading test list
      → entries_before lists i + leading test (joined (drop i lists)) ≡ entries_before lists (suc i) + leading test (joined (drop (suc i) lists))
  passed_list lists i list e h =
      let there = ap (leading test) (drop_at lists i list e) ∙ leading_through list (joined (drop (suc i) lists)) h in
      let more = before_more lists i list e in
      omega (arith, there, more)

  -- where one fails, the search has ended in it
  pub ended_in : (lists : List (List InternalEntry)) (i : ℕ) (list : List InternalEntry) → slice_get lists i ≡ Some list → leading test list < length list
      → entries_before lists i + leading test (joined (drop i lists)) ≡ entries_before lists i + leading test list
  ended_in lists i list e h = let there = ap (leading test) (drop_at lists i list e) ∙ leading_within list (joined (drop (suc i) lists)) h in omega (arith, there)

  -- after all lists
  pub ended_past : (lists : List (List InternalEntry)) (i : ℕ) → length lists ≤ i → entries_before lists i + leading test (joined (drop i lists)) ≡ length (joined lists)
  ended_past lists i h =
      let none : leading test (joined (drop i lists)) ≡ 0 = ap (leading test) (drop_past lists i h) in
      let end = before_end lists i h in
      omega (arith, none, end)
