-- Data blocks that are checked one after another.
use Rattle.std.proofs.Common.{◌≡◌, ◌≤◌, ◌<◌, ◌+◌, ℕ, zero, suc, List, [], ◌∷◌, ◌++◌, length, take, Option, Some, None, refl, sym, ap, ◌∙◌, subst, arith, append_assoc, inl, inr}
use Rattle.std.proofs.lemmas.List.{append-nil}
use Rattle.std.specs.Prelude.{slice_get, option_map}
use Rattle.std.specs.List.{AllByRecursion}
use Rattle.std.specs.Cmp.{IsTotalOrder}
use Rattle.std.specs.declared.cmp.Ordering.{Ordering}
use Rattle.filter.specs.Hash.{hash_of}
use Rattle.ikey.specs.Below.{same_key}
use Rattle.ikey.specs.Entries.{InternalEntry, Pair}
use Rattle.ikey.specs.Keys.{Key}
use Rattle.table.specs.Blocks.{HasRight, IsCheckedAt, IsWrongAt, IsBegun}
use Rattle.table.specs.Checking.{IsAdmitted, IsRight, AreChecked}
use Rattle.table.specs.Frame.{Frame, IsFrame, TableAdmits}
use Rattle.table.specs.Intact.{AreWithin, floor_of, IsUnsupportedAt}
use Rattle.table.specs.Refusals.{IsUnsupported, IsOfOne}
use Rattle.table.specs.Table.{HasBlock, ArePairs, IsTable}
use Rattle.table.specs.declared.handle.Place.{Place}
use Rattle.table.proofs.Checked.{checked_table, table_checked}
use Rattle.table.proofs.DataBlocks.{joined, one_data}

-- ---- one block

-- it isn't read within its bounds
pub none_within_right : (cmp : List ℕ → List ℕ → Ordering) (file : List ℕ) (filter previous : Option (List ℕ)) (place : Place)
    → ((pairs : List Pair) → HasBlock cmp file place.handle pairs → AreWithin cmp previous place.key pairs → ⊥) → (pairs : List Pair) → HasRight cmp file filter previous place pairs → ⊥
none_within_right cmp file filter previous place none pairs h = none pairs h.0 (all_within pairs h.1)
  where
    all_within : (ps : List Pair) → AllByRecursion (IsRight cmp filter previous place) ps → AreWithin cmp previous place.key ps
    all_within [] k = tt
    all_within (x ∷ ps) k = (record { key = k.0.key; is = k.0.is; above = k.0.above; within = k.0.within }, all_within ps k.1)

-- the filter denies one of its pairs
pub none_admitted : (cmp : List ℕ → List ℕ → Ordering) (file : List ℕ) (filter previous : Option (List ℕ)) (place : Place) (found : List Pair) → HasBlock cmp file place.handle found
    → (AllByRecursion (IsAdmitted filter place.handle.offset) found → ⊥) → (pairs : List Pair) → HasRight cmp file filter previous place pairs → ⊥
none_admitted cmp file filter previous place found has denied pairs h =
    denied (all_admitted found (subst (AllByRecursion (IsRight cmp filter previous place)) (one_data cmp file place.handle pairs found h.0 has) h.1))
  where
    all_admitted : (ps : List Pair) → AllByRecursion (IsRight cmp filter previous place) ps → AllByRecursion (IsAdmitted filter place.handle.offset) ps
    all_admitted [] k = tt
    all_admitted (x ∷ ps) k = (record { key = k.0.key; is = k.0.is; admitted = k.0.admitted }, all_admitted ps k.1)

-- what lies within the bounds and is admitted is right
pub all_right : (cmp : List ℕ → List ℕ → Ordering) (filter previous : Option (List ℕ)) (place : Place) (pairs : List Pair) → AreWithin cmp previous place.key pairs → AllByRecursion (IsAdmitted filter place.handle.offset) pairs
    → AllByRecursion (IsRight cmp filter previous place) pairs
all_right cmp filter previous place [] h k = tt
all_right cmp filter previous place (x ∷ pairs) h k =
    let same : k.0.key ≡ h.0.key = same_key x.key k.0.key h.0.key k.0.is h.0.is in (
      record { key = h.0.key; is = h.0.is; above = h.0.above; within = h.0.within; admitted = subst (λ (key : Key). TableAdmits filter place.handle.offset (hash_of key.user)) same k.0.admitted },
      all_right cmp filter previous place pairs h.1 k.1,
    )

-- the place of an index is one
pub wrong_at_place : (cmp : List ℕ → List ℕ → Ordering) (file : List ℕ) (frame : Frame) (index : ℕ) (place : Place) → slice_get frame.places index ≡ Some place
    → ((pairs : List Pair) → HasRight cmp file frame.filter (floor_of frame.places index) place pairs → ⊥) → IsWrongAt cmp file frame index
wrong_at_place cmp file frame index place at none pairs h =
    let same : h.place ≡ place = let both : Some h.place ≡ Some place = sym h.place_is ∙ at in cc in
    none pairs (subst (λ (p : Place). HasRight cmp file frame.filter (floor_of frame.places index) p pairs) same h.right)

pub no_place : (cmp : List ℕ → List ℕ → Ordering) (file : List ℕ) (frame : Frame) (index : ℕ) → slice_get frame.places index ≡ None → IsWrongAt cmp file frame index
no_place cmp file frame index none pairs h = let both : None ≡ Some h.place = sym none ∙ h.place_is in absurd cc

-- ---- the bound in front

abbrev pub floor_after : Option (List ℕ) → List Place → ℕ → Option (List ℕ)
floor_after previous places zero = previous
floor_after previous [] (suc n) = previous
floor_after previous (p ∷ places) (suc n) = floor_after (Some p.key) places n

floor_next : (previous : Option (List ℕ)) (places : List Place) (n : ℕ) → n < length places → floor_after previous places (suc n) ≡ option_map (λ (place : Place). place.key) (slice_get places n)
floor_next previous [] n h = absurd (omega (arith, h))
floor_next previous (p ∷ places) zero h = refl
floor_next previous (p ∷ places) (suc n) h = floor_next (Some p.key) places n (omega (arith, h))

floor_is : (places : List Place) (n : ℕ) → n < length places → floor_after None places n ≡ floor_of places n
floor_is places zero h = refl
floor_is places (suc n) h = floor_next None places n (omega (arith, h))

inside : {A : Type 0} (xs : List A) (n : ℕ) (x : A) → slice_get xs n ≡ Some x → n < length xs
inside [] n x h = let bad : None ≡ Some x = h in absurd cc
inside (y ∷ xs) zero x h = omega arith
inside (y ∷ xs) (suc n) x h = let lt : n < length xs = inside xs n x h in omega (arith, lt)

-- ---- one block more

pub begun_none : (cmp : List ℕ → List ℕ → Ordering) (file : List ℕ) (frame : Frame) → IsBegun cmp file frame 0 []
begun_none cmp file frame = record { within = omega arith; blocks = []; checked = tt; found_is = refl }

checked_push : (cmp : List ℕ → List ℕ → Ordering) (file : List ℕ) (filter previous : Option (List ℕ)) (places : List Place) (n : ℕ) (blocks : List (List Pair)) (place : Place) (pairs : List Pair)
    → slice_get places n ≡ Some place → AreChecked cmp file filter previous (take n places) blocks → HasRight cmp file filter (floor_after previous places n) place pairs
    → AreChecked cmp file filter previous (take (suc n) places) (blocks ++ pairs ∷ [])
checked_push cmp file filter previous [] n blocks place pairs at h k = let bad : None ≡ Some place = at in absurd cc
checked_push cmp file filter previous (p ∷ places) zero [] place pairs at h k =
    let same : p ≡ place = let both : Some p ≡ Some place = at in cc in
    let here = subst (λ (q : Place). HasRight cmp file filter previous q pairs) (sym same) k in
    (here.0, here.1, tt)
checked_push cmp file filter previous (p ∷ places) zero (b ∷ blocks) place pairs at h k = absurd h
checked_push cmp file filter previous (p ∷ places) (suc n) [] place pairs at h k = absurd h
checked_push cmp file filter previous (p ∷ places) (suc n) (b ∷ blocks) place pairs at h k = (h.0, h.1, checked_push cmp file filter (Some p.key) places n blocks place pairs at h.2 k)

joined_push : (blocks : List (List Pair)) (pairs : List Pair) → joined (blocks ++ pairs ∷ []) ≡ joined blocks ++ pairs
joined_push [] pairs = append-nil pairs
joined_push (x ∷ blocks) pairs = ap (λ (t : List Pair). x ++ t) (joined_push blocks pairs) ∙ sym (append_assoc x (joined blocks) pairs)

pub begun_more : (cmp : List ℕ → List ℕ → Ordering) (file : List ℕ) (frame : Frame) (n : ℕ) (found pairs : List Pair) → IsBegun cmp file frame n found → IsCheckedAt cmp file frame n pairs
    → IsBegun cmp file frame (n + 1) (found ++ pairs)
begun_more cmp file frame n found pairs h k =
    let lt : n < length frame.places = inside frame.places n k.place k.place_is in
    let R : Option (List ℕ) → Type 0 = λ o. HasRight cmp file frame.filter o k.place pairs in
    let right = subst R (sym (floor_is frame.places n lt)) k.right in
    let e : suc n ≡ n + 1 = omega arith in
    let C : ℕ → Type 0 = λ m. AreChecked cmp file frame.filter None (take m frame.places) (h.blocks ++ pairs ∷ []) in
    record {
      within = omega (arith, lt);
      blocks = h.blocks ++ pairs ∷ [];
      checked = subst C e (checked_push cmp file frame.filter None frame.places n h.blocks k.place pairs k.place_is h.checked right);
      found_is = ap (λ (t : List Pair). t ++ pairs) h.found_is ∙ sym (joined_push h.blocks pairs);
    }

-- ---- all blocks

take_whole : (n : ℕ) (places : List Place) → length places ≤ n → take n places ≡ places
take_whole zero [] h = refl
take_whole (suc n) [] h = refl
take_whole zero (p ∷ places) h = absurd (omega (arith, h))
take_whole (suc n) (p ∷ places) h = ap (λ (ps : List Place). p ∷ ps) (take_whole n places (omega (arith, h)))

-- where all blocks were checked, and have a pair, the file is a table
pub begun_whole : (cmp : List ℕ → List ℕ → Ordering) (file : List ℕ) (frame : Frame) (n : ℕ) (found : List Pair) → IsTotalOrder cmp → length frame.places ≤ n → 0 < length found → IsFrame cmp file frame
    → IsBegun cmp file frame n found → (entries : List InternalEntry) × IsTable cmp file entries × ArePairs found entries
begun_whole cmp file frame n found order all some is h =
    let whole = subst (λ (ps : List Place). AreChecked cmp file frame.filter None ps h.blocks) (take_whole n frame.places all) h.checked in
    checked_table cmp file frame found order some (h.blocks, whole, h.found_is) is

-- ---- what a table has

prefix_of : (cmp : List ℕ → List ℕ → Ordering) (file : List ℕ) (filter previous : Option (List ℕ)) (places : List Place) (n : ℕ) (blocks all : List (List Pair)) → AreChecked cmp file filter previous (take n places) blocks
    → AreChecked cmp file filter previous places all → (rest : List (List Pair)) × (all ≡ blocks ++ rest)
prefix_of cmp file filter previous places zero [] all h k = (all, refl)
prefix_of cmp file filter previous [] zero (b ∷ blocks) all h k = absurd h
prefix_of cmp file filter previous (p ∷ places) zero (b ∷ blocks) all h k = absurd h
prefix_of cmp file filter previous [] (suc n) [] all h k = (all, refl)
prefix_of cmp file filter previous [] (suc n) (b ∷ blocks) all h k = absurd h
prefix_of cmp file filter previous (p ∷ places) (suc n) [] all h k = absurd h
prefix_of cmp file filter previous (p ∷ places) (suc n) (b ∷ blocks) [] h k = absurd k
prefix_of cmp file filter previous (p ∷ places) (suc n) (b ∷ blocks) (c ∷ all) h k =
    let same : c ≡ b = one_data cmp file p.handle c b k.0 h.0 in
    let rest = prefix_of cmp file filter (Some p.key) places n blocks all h.2 k.2 in
    (rest.0, let e = rest.1 in λ i. same i ∷ e i)

joined_both : (xs ys : List (List Pair)) → joined (xs ++ ys) ≡ joined xs ++ joined ys
joined_both [] ys = refl
joined_both (x ∷ xs) ys = ap (λ (t : List Pair). x ++ t) (joined_both xs ys) ∙ sym (append_assoc x (joined xs) (joined ys))

-- whatever entries the file has, these are the first of their pairs
pub begun_first : (cmp : List ℕ → List ℕ → Ordering) (file : List ℕ) (frame : Frame) (n : ℕ) (found : List Pair) (entries : List InternalEntry) → IsFrame cmp file frame → IsBegun cmp file frame n found
    → IsTable cmp file entries → (rest : List Pair) × ArePairs (found ++ rest) entries
begun_first cmp file frame n found entries is h table =
    let all = table_checked cmp file frame entries is table in
    let rest = prefix_of cmp file frame.filter None frame.places n h.blocks all.0 h.checked all.1 in
    let same : joined all.0 ≡ found ++ joined rest.0 = ap joined rest.1 ∙ joined_both h.blocks rest.0 ∙ ap (λ (t : List Pair). t ++ joined rest.0) (sym h.found_is) in
    (joined rest.0, subst (λ (ps : List Pair). ArePairs ps entries) same all.2)

right_at : (cmp : List ℕ → List ℕ → Ordering) (file : List ℕ) (filter previous : Option (List ℕ)) (places : List Place) (n : ℕ) (place : Place) (all : List (List Pair)) → slice_get places n ≡ Some place
    → AreChecked cmp file filter previous places all → (pairs : List Pair) × HasRight cmp file filter (floor_after previous places n) place pairs
right_at cmp file filter previous [] n place all at h = let bad : None ≡ Some place = at in absurd cc
right_at cmp file filter previous (p ∷ places) n place [] at h = absurd h
right_at cmp file filter previous (p ∷ places) zero place (b ∷ all) at h =
    let same : p ≡ place = let both : Some p ≡ Some place = at in cc in
    (b, subst (λ (q : Place). HasRight cmp file filter previous q b) same (h.0, h.1))
right_at cmp file filter previous (p ∷ places) (suc n) place (b ∷ all) at h = right_at cmp file filter (Some p.key) places n place all at h.2

place_at : (places : List Place) (n : ℕ) → n < length places → (place : Place) × (slice_get places n ≡ Some place)
place_at [] n h = absurd (omega (arith, h))
place_at (p ∷ places) zero h = (p, refl)
place_at (p ∷ places) (suc n) h = place_at places n (omega (arith, h))

-- a file with a block that isn't right is no table
pub wrong_none : (cmp : List ℕ → List ℕ → Ordering) (file : List ℕ) (frame : Frame) (n : ℕ) (entries : List InternalEntry) → n < length frame.places → IsFrame cmp file frame → IsWrongAt cmp file frame n → IsTable cmp file entries → ⊥
wrong_none cmp file frame n entries lt is wrong table =
    let all = table_checked cmp file frame entries is table in
    let at = place_at frame.places n lt in
    let here = right_at cmp file frame.filter None frame.places n at.0 all.0 at.1 all.1 in
    let R : Option (List ℕ) → Type 0 = λ o. HasRight cmp file frame.filter o at.0 here.0 in
    wrong here.0 (record { place = at.0; place_is = at.1; right = subst R (floor_is frame.places n lt) here.1 })

pub unsupported_one : (file : List ℕ) (places : List Place) (n : ℕ) → IsUnsupportedAt file places n → IsOfOne (IsUnsupported file) places
unsupported_one file [] n h = let bad : None ≡ Some h.0 = h.1 in absurd cc
unsupported_one file (p ∷ places) zero h =
    let same : h.0 ≡ p = let both : Some p ≡ Some h.0 = h.1 in cc in
    inl (subst (λ (q : Place). IsUnsupported file q.handle) same h.2)
unsupported_one file (p ∷ places) (suc n) h = inr (unsupported_one file places n (h.0, h.1, h.2))
