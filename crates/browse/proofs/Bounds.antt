-- Bounds that are met by both of two.
use Rattle.std.proofs.Common.{◌≡◌, ℕ, Bool, true, false, not, ◌&&◌, List, Option, Some, IsTrue, refl, sym, ap, ◌∙◌}
use Rattle.std.specs.Prelude.{IfSome, ◌↔◌}
use mathlib.Core.Bool.{true≢false}
use Rattle.std.specs.Cmp.{IsTotalOrder}
use Rattle.std.specs.Cmp.Lexicographic.{slice_cmp}
use Rattle.std.specs.Ordering.{is_lt, nat_cmp, ordering_reverse}
use Rattle.std.specs.declared.cmp.Ordering.{Ordering}
use Rattle.std.specs.declared.cmp.Ordering.TheVariants.{Less, Equal, Greater}
use Rattle.engine.specs.Ranges.{BeginsWith, Cmp, is_before_end, is_from, is_in_range}
use Rattle.engine.specs.declared.ranges.KeyRange.{KeyRange}
use Rattle.browse.specs.Bounds.{IsAskedFor, given}
use denote.Ref.{Bor}

less_is : (o : Ordering) → is_lt o ≡ true → o ≡ Less
less_is Less is = refl
less_is Equal is = absurd (true≢false (sym is))
less_is Greater is = absurd (true≢false (sym is))

pub both_of : (b c : Bool) → (b ≡ true → c ≡ true) → b ≡ (c && b)
both_of true true h = refl
both_of true false h = absurd (true≢false (sym (h refl)))
both_of false true h = refl
both_of false false h = refl

pub both_turned : (b c : Bool) → (b ≡ true → c ≡ true) → b ≡ (b && c)
both_turned true true h = refl
both_turned true false h = absurd (true≢false (sym (h refl)))
both_turned false c h = refl

pub and_true : (b : Bool) → b ≡ (b && true)
and_true true = refl
and_true false = refl

module _ (cmp : Cmp) (total : IsTotalOrder cmp) where
  -- what comes before one key that doesn't come behind another comes before that
  below_later : (key a b : List ℕ) → is_lt (cmp b a) ≡ false → is_lt (cmp key a) ≡ true → is_lt (cmp key b) ≡ true
  below_later key a b least below = at (cmp a b) refl
    where
      at : (o : Ordering) → cmp a b ≡ o → is_lt (cmp key b) ≡ true
      at Less is = ap is_lt (total.trans key a b (less_is (cmp key a) below) is)
      at Equal is = turned
        where
          flip : cmp key a ≡ cmp key b
          flip = total.antisymm key a ∙ ap ordering_reverse (total.congr a b key is) ∙ sym (total.antisymm key b)

          turned : is_lt (cmp key b) ≡ true
          turned = ap is_lt (sym flip) ∙ below
      at Greater is = absurd (true≢false (sym (ap is_lt (total.antisymm b a ∙ ap ordering_reverse is)) ∙ least))

  -- and so the later of two starts is met by what meets both
  pub from_later : (key first from : List ℕ) → is_lt (cmp first from) ≡ true → is_from cmp (Some from) key ≡ (is_from cmp (Some first) key && is_from cmp (Some from) key)
  from_later key first from later = both_of (not (is_lt (cmp key from))) (not (is_lt (cmp key first))) (λ above. at (is_lt (cmp key first)) refl above)
    where
      at : (t : Bool) → is_lt (cmp key first) ≡ t → not (is_lt (cmp key from)) ≡ true → not t ≡ true
      at false is above = refl
      at true is above = (let below : is_lt (cmp key from) ≡ true = ap is_lt (total.trans key first from (less_is (cmp key first) is) (less_is (cmp first from) later)) in absurd (true≢false (sym above ∙ ap not below)))

  pub from_first : (key first from : List ℕ) → is_lt (cmp first from) ≡ false → is_from cmp (Some first) key ≡ (is_from cmp (Some first) key && is_from cmp (Some from) key)
  from_first key first from least = both_turned (not (is_lt (cmp key first))) (not (is_lt (cmp key from))) (λ above. at (is_lt (cmp key from)) refl above)
    where
      at : (t : Bool) → is_lt (cmp key from) ≡ t → not (is_lt (cmp key first)) ≡ true → not t ≡ true
      at false is above = refl
      at true is above = (let below : is_lt (cmp key first) ≡ true = below_later key from first least is in absurd (true≢false (sym above ∙ ap not below)))

  -- and the earlier of two ends
  pub end_earlier : (key end to : List ℕ) → is_lt (cmp to end) ≡ true → is_before_end cmp (Some to) key ≡ (is_before_end cmp (Some end) key && is_before_end cmp (Some to) key)
  end_earlier key end to earlier = both_of (is_lt (cmp key to)) (is_lt (cmp key end)) (λ below. ap is_lt (total.trans key to end (less_is (cmp key to) below) (less_is (cmp to end) earlier)))

  pub end_first : (key end to : List ℕ) → is_lt (cmp to end) ≡ false → is_before_end cmp (Some end) key ≡ (is_before_end cmp (Some end) key && is_before_end cmp (Some to) key)
  end_first key end to least = both_turned (is_lt (cmp key end)) (is_lt (cmp key to)) (λ below. below_later key end to least below)

-- ---- a range

parts : (a b c d : Bool) → IsTrue ((a && b) && (c && d)) → IsTrue (a && c) × IsTrue b × IsTrue d
parts true true true true h = (refl, refl, refl)
parts true true true false h = absurd (true≢false (sym h))
parts true true false d h = absurd (true≢false (sym h))
parts true false c d h = absurd (true≢false (sym h))
parts false b c d h = absurd (true≢false (sym h))

whole : (a b c d : Bool) → IsTrue (a && c) → IsTrue b → IsTrue d → IsTrue ((a && b) && (c && d))
whole true true true true h i j = refl
whole true true true false h i j = absurd (true≢false (sym j))
whole true false c d h i j = absurd (true≢false (sym i))
whole true true false d h i j = absurd (true≢false (sym h))
whole false b c d h i j = absurd (true≢false (sym h))

pub is_asked_for : (keys met : KeyRange) (from to prefix : Option (List ℕ)) (key : List ℕ)
    → is_from (slice_cmp nat_cmp) met.from key ≡ (is_from (slice_cmp nat_cmp) keys.from key && is_from (slice_cmp nat_cmp) from key)
    → is_before_end (slice_cmp nat_cmp) met.to key ≡ (is_before_end (slice_cmp nat_cmp) keys.to key && is_before_end (slice_cmp nat_cmp) to key)
    → (IsTrue (is_in_range (slice_cmp nat_cmp) keys key) ↔ IfSome prefix (λ begins. BeginsWith begins key))
    → (IsTrue (is_in_range (slice_cmp nat_cmp) met key) ↔ IsAskedFor from to prefix key)
is_asked_for keys met from to prefix key starts ends begins =
    let a = is_from (slice_cmp nat_cmp) keys.from key in
    let b = is_from (slice_cmp nat_cmp) from key in
    let c = is_before_end (slice_cmp nat_cmp) keys.to key in
    let d = is_before_end (slice_cmp nat_cmp) to key in
    let both : (is_from (slice_cmp nat_cmp) met.from key && is_before_end (slice_cmp nat_cmp) met.to key) ≡ ((a && b) && (c && d)) = (λ i. starts i && ends i) in (
      λ h. let p = parts a b c d (sym both ∙ h) in (p.1, p.2, begins.0 p.0),
      λ h. both ∙ whole a b c d (begins.1 h.2) h.0 h.1,
    )

-- ---- as the code compares

abbrev Key : Type 0
Key = List ℕ

module _ (cmp : Cmp) (total : IsTotalOrder cmp) (had : Option Key) (asked : Option (Bor Key)) (first lent : Key) (bound : Bor Key) (test : Bool) (had_is : had ≡ Some first) (asked_is : asked ≡ Some bound) (lent_is : lent ≡ first) where
  pub starts_later : (copy key : Key) → test ≡ is_lt (cmp lent bound.now) → test ≡ true → copy ≡ bound.now → is_from cmp (Some copy) key ≡ (is_from cmp had key && is_from cmp (given asked) key)
  starts_later copy key says is same =
      ap (λ (k : Key). is_from cmp (Some k) key) same
      ∙ from_later cmp total key first bound.now (ap (λ (k : Key). is_lt (cmp k bound.now)) (sym lent_is) ∙ sym says ∙ is)
      ∙ (λ i. is_from cmp (had_is' i) key && is_from cmp (given (asked_is' i)) key)
    where
      had_is' : Some first ≡ had
      had_is' = sym had_is

      asked_is' : Some bound ≡ asked
      asked_is' = sym asked_is

  pub starts_first : (key : Key) → test ≡ is_lt (cmp lent bound.now) → test ≡ false → is_from cmp (Some first) key ≡ (is_from cmp had key && is_from cmp (given asked) key)
  starts_first key says is =
      from_first cmp total key first bound.now (ap (λ (k : Key). is_lt (cmp k bound.now)) (sym lent_is) ∙ sym says ∙ is)
      ∙ (λ i. is_from cmp (had_is' i) key && is_from cmp (given (asked_is' i)) key)
    where
      had_is' : Some first ≡ had
      had_is' = sym had_is

      asked_is' : Some bound ≡ asked
      asked_is' = sym asked_is

  pub ends_earlier : (copy key : Key) → test ≡ is_lt (cmp bound.now lent) → test ≡ true → copy ≡ bound.now → is_before_end cmp (Some copy) key ≡ (is_before_end cmp had key && is_before_end cmp (given asked) key)
  ends_earlier copy key says is same =
      ap (λ (k : Key). is_before_end cmp (Some k) key) same
      ∙ end_earlier cmp total key first bound.now (ap (λ (k : Key). is_lt (cmp bound.now k)) (sym lent_is) ∙ sym says ∙ is)
      ∙ (λ i. is_before_end cmp (had_is' i) key && is_before_end cmp (given (asked_is' i)) key)
    where
      had_is' : Some first ≡ had
      had_is' = sym had_is

      asked_is' : Some bound ≡ asked
      asked_is' = sym asked_is

  pub ends_first : (key : Key) → test ≡ is_lt (cmp bound.now lent) → test ≡ false → is_before_end cmp (Some first) key ≡ (is_before_end cmp had key && is_before_end cmp (given asked) key)
  ends_first key says is =
      end_first cmp total key first bound.now (ap (λ (k : Key). is_lt (cmp bound.now k)) (sym lent_is) ∙ sym says ∙ is)
      ∙ (λ i. is_before_end cmp (had_is' i) key && is_before_end cmp (given (asked_is' i)) key)
    where
      had_is' : Some first ≡ had
      had_is' = sym had_is

      asked_is' : Some bound ≡ asked
      asked_is' = sym asked_is
