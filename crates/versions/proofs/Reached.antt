-- That a search misses no table.
use Rattle.std.proofs.Common.{◌≡◌, ◌⊎◌, ℕ, ◌+◌, ◌-◌, ◌<◌, ◌≤◌, true, false, zero, suc, inl, inr, List, length, get_or, refl, sym, ap, ◌∙◌, subst, arith, All, AllPairs}
use Rattle.std.specs.List.{AllWithin}
use Rattle.std.proofs.lemmas.Bool.{and_from, and_parts, cases_lt, false≢true}
use Rattle.std.proofs.lemmas.List.{get_or_default}
use Rattle.std.proofs.lemmas.List.Elements.{All-contains}
use Rattle.std.specs.declared.cmp.Ordering.{Ordering}
use Rattle.std.specs.declared.cmp.Ordering.TheVariants.{Less, Equal, Greater}
use Rattle.std.specs.Cmp.{IsTotalOrder}
use Rattle.std.specs.Ordering.{is_le, ordering_then, ordering_reverse, nat_cmp}
use Rattle.edits.specs.declared.field.PlacedTable.{PlacedTable}
use Rattle.ikey.specs.Keys.{Key, IsKey, key_cmp, tag_of}
use Rattle.ikey.specs.Below.{IsBelowInternal, not_below_equal, not_below_greater}
use Rattle.versions.specs.Levels.{IsRange, tables_at}
use Rattle.versions.specs.Ranges.{covers, user_of, first_user, last_user, is_up_to}
use Rattle.versions.specs.Searches.{EndsBelow, EndsAtUser, IsTableFor, SearchesReach}
use Rattle.versions.proofs.Closures.{of_level}
use Rattle.versions.proofs.Elements.{at_read, front_more}
use Rattle.versions.proofs.InLevels.{Apart, level_ranges, level_apart, range_up}
use Rattle.versions.proofs.Keys.{below_up, up_trans, true_or_false, user_of_key}

-- ---- internal keys

is_below_or_not : (cmp : List ℕ → List ℕ → Ordering) (a b : List ℕ) (k l : Key) → IsKey a k → IsKey b l → (c : Ordering) → c ≡ key_cmp cmp k l → IsBelowInternal cmp a b ⊎ (IsBelowInternal cmp a b → ⊥)
is_below_or_not cmp a b k l h j Less e = inl (k, l, h, j, sym e)
is_below_or_not cmp a b k l h j Equal e = inr (not_below_equal cmp a b (k, l, h, j, e))
is_below_or_not cmp a b k l h j Greater e = inr (not_below_greater cmp a b (k, l, h, j, e))

reversed : (c : Ordering) → is_le c ≡ false → ordering_reverse c ≡ Less
reversed Less e = absurd (false≢true (sym e))
reversed Equal e = absurd (false≢true (sym e))
reversed Greater e = refl

-- what has the lower user key is below
below_by_user : (cmp : List ℕ → List ℕ → Ordering) (o : IsTotalOrder cmp) (a b : List ℕ) (k l : Key) → IsKey a k → IsKey b l → is_up_to cmp (user_of b) (user_of a) ≡ false → IsBelowInternal cmp a b
below_by_user cmp o a b k l h j e =
    let both : is_up_to cmp (user_of b) (user_of a) ≡ is_up_to cmp l.user k.user = λ i. is_up_to cmp (user_of_key b l j i) (user_of_key a k h i) in
    let users : is_le (cmp l.user k.user) ≡ false = sym both ∙ e in
    let less : cmp k.user l.user ≡ Less = o.antisymm k.user l.user ∙ reversed (cmp l.user k.user) users in
    (k, l, h, j, ap (λ c. ordering_then c (nat_cmp (tag_of l) (tag_of k))) less)

-- ---- one level

module _ (cmp : List ℕ → List ℕ → Ordering) (o : IsTotalOrder cmp) (key : List ℕ) (k : Key) (is : IsKey key k) (own : List PlacedTable) (ranges : All (IsRange cmp) own) (apart : AllPairs (Apart cmp) own)
    (j : ℕ) (placed : PlacedTable) (lt : j < length own) (here : get_or own j placed ≡ placed) where
  -- the one at this index lies before the table
  before : (i : ℕ) → i < j → IsBelowInternal cmp (get_or own i placed).table.largest placed.table.smallest
  before i less = subst (λ p. Apart cmp (get_or own i placed) p) here (apart i j placed less lt)

  -- the first of so many that doesn't end below the key
  abbrev First : ℕ → Type 0
  First n = (i : ℕ) × (i < n) × (EndsBelow cmp key (get_or own i placed) → ⊥) × AllWithin (EndsBelow cmp key) own 0 i

  first_of_them : (n : ℕ) → n ≤ j → AllWithin (EndsBelow cmp key) own 0 n ⊎ First n
  first_of_them zero le = inl (λ i d a b. absurd (omega (arith, b)))
  first_of_them (suc n) le =
      let less : n < j = omega (arith, le) in
      let b = before n less in
      elim (first_of_them n (omega (arith, le))) [
        | inr f ↦ inr (f.0, omega (arith, f.1), f.2, f.3)
        | inl all ↦ elim (is_below_or_not cmp (get_or own n placed).table.largest key b.0 k b.2 is (key_cmp cmp b.0 k) refl) [
          | inl ends ↦ let e : n + 1 ≡ suc n = omega arith in
              inl (subst (λ m. AllWithin (EndsBelow cmp key) own 0 m) e
              (front_more (EndsBelow cmp key) own n (at_read (EndsBelow cmp key) own n placed (omega (arith, less, lt)) ends) (λ i low d. all i d (omega arith) low)))
          | inr stays ↦ inr (n, omega arith, stays, all)
        ]
      ]

  pub reached_in : (EndsBelow cmp key placed → ⊥) → covers cmp placed (user_of key) ≡ true
      → (searched : PlacedTable) × IsTableFor cmp key own searched × (covers cmp searched (user_of key) ≡ true) × ((searched ≡ placed) ⊎ EndsAtUser cmp key searched placed)
  reached_in stays covered =
      let user = user_of key in
      elim (first_of_them j (omega arith)) [
        | inl all ↦ (placed, (j, lt, (λ d. get_or_default own j d placed lt ∙ here), stays, all), covered, inl refl)
        | inr f ↦
            let s = get_or own f.0 placed in
            let less : f.0 < length own = omega (arith, f.1, lt) in
            let b = before f.0 f.1 in
            let ends : is_up_to cmp (last_user s) user ≡ true =
            up_trans cmp o (last_user s) (first_user placed) user (below_up cmp s.table.largest placed.table.smallest b) (and_parts (is_up_to cmp (first_user placed) user) (is_up_to cmp user (last_user placed)) covered).0 in
            let begins : is_up_to cmp (first_user s) user ≡ true = up_trans cmp o (first_user s) (last_user s) user (range_up cmp o s (ranges f.0 placed less)) ends in
            let reaches : is_up_to cmp user (last_user s) ≡ true = elim (true_or_false (is_up_to cmp user (last_user s))) [
              | inl t ↦ t
              | inr n ↦ absurd (f.2 (below_by_user cmp o s.table.largest key b.0 k b.2 is n))
            ] in
            (s, (f.0, less, (λ d. get_or_default own f.0 d placed less), f.2, f.3), and_from (is_up_to cmp (first_user s) user) (is_up_to cmp user (last_user s)) begins reaches, inr (b, f.2, ends))
      ]

-- ---- all of them

pub reached : SearchesReach
reached cmp o key k tables is order placed there covered stays =
    elim (cases_lt 0 placed.level) [
      | inl deep ↦
          let c = of_level placed.level tables placed there refl in
          let r = reached_in cmp o key k is (tables_at placed.level tables) (level_ranges cmp placed.level tables order.ranges) (level_apart cmp placed.level tables deep order.places) c.0 placed c.1 c.2 stays covered in
          let above : ℕ = placed.level - 1 in
          let same : placed.level ≡ above + 1 = omega (arith, deep) in
          let within = All-contains (λ p. p.level < 7) tables placed order.levels there in
          (length (tables_at 0 tables) + above, r.0, (inr (above, omega (arith, within, deep), refl, subst (λ l. IsTableFor cmp key (tables_at l tables) r.0) same r.1), r.2), r.3)
      | inr top ↦
          let none : placed.level ≡ 0 = omega (arith, top) in
          let newest = tables_at 0 tables in
          let c = of_level 0 tables placed there none in
          let place : ℕ = length newest - 1 - c.0 in
          let back : length newest - 1 - place ≡ c.0 = omega (arith, c.1) in
          (place, placed, (inl (omega (arith, c.1), λ d. ap (λ i. get_or newest i d) back ∙ get_or_default newest c.0 d placed c.1 ∙ c.2), covered), inl refl)
    ]
