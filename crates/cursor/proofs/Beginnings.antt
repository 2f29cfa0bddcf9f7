-- Where searches for visible entries begin.
use Rattle.std.proofs.Common.{◌≡◌, ◌<◌, ◌≤◌, ℕ, zero, suc, Bool, true, false, not, cond, List, [], ◌∷◌, Some, length, refl, sym, ap, ◌∙◌, subst, arith, inl, inr}
use Rattle.std.specs.List.{slice_get}
use Rattle.std.specs.FinMap.{IsAntisymmetric}
use Rattle.std.specs.Ordering.{nat_cmp, ordering_then, ordering_reverse}
use Rattle.std.specs.Cmp.{IsTotalOrder, tied_itself, nat_cmp_is}
use Rattle.std.specs.declared.cmp.Ordering.{Ordering}
use Rattle.std.specs.declared.cmp.Ordering.TheVariants.{Less}
use Rattle.std.proofs.lemmas.Bool.{cases_lt}
use Rattle.std.proofs.lemmas.Option.{slice_get_within}
use Rattle.ikey.specs.declared.internal_key.Kind.{Kind}
use Rattle.ikey.specs.declared.internal_key.Kind.TheVariants.{Delete, Put}
use Rattle.ikey.specs.Below.{key_total}
use Rattle.ikey.specs.Entries.{InternalEntry}
use Rattle.ikey.specs.Keys.{Key, IsFirstKey, key_cmp, tag, tag_of}
use Rattle.ikey.specs.Views.{Among}
use Rattle.cursor.specs.Places.{Cmp, Rises, is_less, is_below, leading, first_from}
use Rattle.cursor.specs.Views.{IsVisible, is_user_below}
use Rattle.cursor.specs.Searches.{SearchesOn, HasPassedNone, PassesLower, StandsBetween, FromOn}
use Rattle.cursor.proofs.Orders.{true_or_false, less_is, is_less_of}
use Rattle.cursor.proofs.Fronts.{among_get, on_test, get_leading, failing_fails}
use Rattle.cursor.proofs.Singles.{leading_at}
use Rattle.cursor.proofs.Befores.{same_get, rises_get, before_cases, itself, later_no_lower, neither_below, no_lower_then, less_or_not, no_less_itself}
use Rattle.cursor.proofs.Onwards.{index_cases, true_not_false}

not_true : (b : Bool) → not b ≡ true → b ≡ false
not_true true e = absurd cc
not_true false e = refl

of_not : (b : Bool) → b ≡ false → not b ≡ true
of_not b e = ap not e

-- ---- tests

pub none_lower : (cmp : Cmp) → PassesLower cmp (λ (user : List ℕ). false)
none_lower cmp low high e t = t

pub all_lower : (cmp : Cmp) → PassesLower cmp (λ (user : List ℕ). true)
all_lower cmp low high e t = refl

-- ---- entries at the front

pub leading_passes : (test : InternalEntry → Bool) (list : List InternalEntry) (k : ℕ) (entry : InternalEntry) → k < leading test list → slice_get list k ≡ Some entry → test entry ≡ true
leading_passes test [] k entry less e = absurd cc
leading_passes test (x ∷ list) zero entry less e =
    on_test (test x) (λ b. (test x ≡ b) → zero < cond b (suc (leading test list)) zero → test entry ≡ true)
    (λ t same l. let s : x ≡ entry = cc in sym (ap test s) ∙ same)
    (λ t same l. absurd (omega (arith, l)))
    refl less
leading_passes test (x ∷ list) (suc k) entry less e =
    on_test (test x) (λ b. suc k < cond b (suc (leading test list)) zero → test entry ≡ true)
    (λ t l. leading_passes test list k entry (omega (arith, l)) e)
    (λ t l. absurd (omega (arith, l)))
    less

there : (list : List InternalEntry) (n k : ℕ) (entry : InternalEntry) → n ≤ k → slice_get list k ≡ Some entry → (x : InternalEntry) × (slice_get list n ≡ Some x)
there [] n k entry h e = absurd cc
there (x ∷ list) zero k entry h e = (x, refl)
there (x ∷ list) (suc n) zero entry h e = absurd (omega (arith, h))
there (x ∷ list) (suc n) (suc k) entry h e = there list n k entry (omega (arith, h)) e

-- ---- keys

less_by_user : (o p : Ordering) → o ≡ Less → ordering_then o p ≡ Less
less_by_user o p e = ap (λ (x : Ordering). ordering_then x p) e

less_by_tag : (cmp : Cmp) → IsTotalOrder cmp → (k l : Key) → k.user ≡ l.user → tag_of l < tag_of k → key_cmp cmp k l ≡ Less
less_by_tag cmp total k l same less =
    ap (λ (x : Ordering). ordering_then x (nat_cmp (tag_of l) (tag_of k))) (ap (λ (a : List ℕ). cmp a l.user) same ∙ tied_itself total l.user)
    ∙ sym (nat_cmp_is (tag_of l) (tag_of k) Less less)

newer_tag : (m n : ℕ) (k l : Kind) → n < m → tag n l < tag m k
newer_tag m n Delete Delete h = omega (arith, h)
newer_tag m n Delete Put h = omega (arith, h)
newer_tag m n Put Delete h = omega (arith, h)
newer_tag m n Put Put h = omega (arith, h)

-- what stands before a put of its user key is newer
put_newest : (m n : ℕ) (k l : Kind) → l ≡ Put → m ≤ n → tag n l < tag m k → ⊥
put_newest m n Delete Put p h t = omega (arith, h, t)
put_newest m n Put Put p h t = omega (arith, h, t)
put_newest m n k Delete p h t = let bad : Delete ≡ Put = p in cc

module _ (cmp : Cmp) (total : IsTotalOrder cmp) (exact : IsAntisymmetric cmp) where
  pub below_lower : (user : List ℕ) → PassesLower cmp (λ (u : List ℕ). is_less (cmp u user))
  below_lower user low high e t = is_less_of (cmp low user) (total.trans low high user e (less_is (cmp high user) t))

  pub up_to_lower : (user : List ℕ) → PassesLower cmp (λ (u : List ℕ). not (is_less (cmp user u)))
  up_to_lower user low high e t =
      of_not (is_less (cmp user low)) (no_lower_then cmp total exact low high user (less_or_not cmp total exact low high e) (not_true (is_less (cmp user high)) t))

  -- ---- from the first entry, or from after the last

  pub from_first : (entries : List InternalEntry) (sequence : ℕ) (hidden : List ℕ) → SearchesOn cmp entries sequence (λ (user : List ℕ). false) 0 false hidden
  from_first entries sequence hidden = record {
    lower = none_lower cmp;
    passed = λ k entry less. absurd (omega (arith, less));
    left = λ k entry le e t. absurd cc;
    apart = λ k entry less. absurd (omega (arith, less));
    hiding = λ t. absurd cc;
  }

  pub from_last : (entries : List InternalEntry) (sequence : ℕ) (test : List ℕ → Bool) → HasPassedNone entries sequence test (length entries)
  from_last entries sequence test k other le e v t = let w = slice_get_within entries k other e in omega (arith, le, w)

  module _ (entries : List InternalEntry) (rises : Rises cmp entries) (sequence : ℕ) where
    -- ---- past a user key, from between the lower ones and the others

    pub past_on : (user : List ℕ) (n : ℕ) → StandsBetween cmp entries n user → SearchesOn cmp entries sequence (λ (u : List ℕ). not (is_less (cmp user u))) n true user
    past_on user n h = record {
      lower = up_to_lower user;
      passed = λ k entry less e v. of_not (is_less (cmp user entry.key.user)) (h.front k entry less e);
      left = λ k entry le e t. (refl, sym (neither_below cmp total exact user entry.key.user (not_true (is_less (cmp user entry.key.user)) t) (h.rest k entry le e)));
      apart = λ k entry less e j later le f seen same.
          (refl, sym (neither_below cmp total exact user later.key.user (ap (λ (a : List ℕ). is_less (cmp user a)) (sym same) ∙ h.front k entry less e) (h.rest j later le f)));
      hiding = λ t entry v same. of_not (is_less (cmp user entry.key.user)) (ap (λ (a : List ℕ). is_less (cmp user a)) same ∙ no_less_itself cmp total exact user);
    }

    pub past_back : (user : List ℕ) (n : ℕ) → FromOn entries n (λ (entry : InternalEntry). is_less (cmp entry.key.user user) ≡ false) → HasPassedNone entries sequence (λ (u : List ℕ). is_less (cmp u user)) n
    past_back user n h k other le e v t = true_not_false (is_less (cmp other.key.user user)) t (h k other le e)

    -- an entry stands between those of lower user keys and the others, but for newer ones of its
    -- own
    pub at_entry : (n : ℕ) (x : InternalEntry) → slice_get entries n ≡ Some x → StandsBetween cmp entries n x.key.user
    at_entry n x at = record {
      front = λ k entry less e. later_no_lower cmp total exact entry.key x.key (rises_get cmp entries k n entry x rises less e at);
      rest = λ k entry le e. elim (index_cases k n) [
        | inl l ↦ absurd (omega (arith, l, le))
        | inr (inl s) ↦
            let same : entry ≡ x = same_get entries n entry x (subst (λ (i : ℕ). slice_get entries i ≡ Some entry) s e) at in
            ap (λ (y : InternalEntry). is_less (cmp y.key.user x.key.user)) same ∙ no_less_itself cmp total exact x.key.user
        | inr (inr g) ↦ later_no_lower cmp total exact x.key entry.key (rises_get cmp entries n k x entry rises (omega (arith, g)) at e)
      ];
    }

    pub behind_entry : (n : ℕ) (x : InternalEntry) → slice_get entries n ≡ Some x → FromOn entries (suc n) (λ (entry : InternalEntry). is_less (cmp entry.key.user x.key.user) ≡ false)
    behind_entry n x at k entry le e = later_no_lower cmp total exact x.key entry.key (rises_get cmp entries n k x entry rises (omega (arith, le)) at e)

    -- ---- from the first that fails a test

    module _ (test : InternalEntry → Bool) (initial : (x y : InternalEntry) → key_cmp cmp x.key y.key ≡ Less → test y ≡ true → test x ≡ true) where
      leading_fails : (k : ℕ) (entry : InternalEntry) → leading test entries ≤ k → slice_get entries k ≡ Some entry → test entry ≡ false
      leading_fails k entry le e =
          let n = leading test entries in
          let y = there entries n k entry le e in
          let f : test y.0 ≡ false = (failing_fails test entries y.0 (sym (get_leading test entries) ∙ y.1)).0 in
          elim (index_cases n k) [
            | inl l ↦ elim (true_or_false (test entry)) [
              | inl t ↦ absurd (true_not_false (test y.0) (initial y.0 entry (rises_get cmp entries n k y.0 entry rises l y.1 e) t) f)
              | inr g ↦ g
            ]
            | inr (inl s) ↦ ap test (same_get entries n entry y.0 (subst (λ (i : ℕ). slice_get entries i ≡ Some entry) (sym s) e) y.1) ∙ f
            | inr (inr g) ↦ absurd (omega (arith, le, g))
          ]

    user_initial : (user : List ℕ) (x y : InternalEntry) → key_cmp cmp x.key y.key ≡ Less → is_user_below cmp user y ≡ true → is_user_below cmp user x ≡ true
    user_initial user x y e t = elim (before_cases cmp total exact x.key y.key e) [
      | inl l ↦ is_less_of (cmp x.key.user user) (total.trans x.key.user y.key.user user l (less_is (cmp y.key.user user) t))
      | inr s ↦ ap (λ (a : List ℕ). is_less (cmp a user)) s.0 ∙ t
    ]

    pub user_between : (user : List ℕ) → StandsBetween cmp entries (leading (is_user_below cmp user) entries) user
    user_between user = record {
      front = λ k entry less e. less_or_not cmp total exact entry.key.user user (less_is (cmp entry.key.user user) (leading_passes (is_user_below cmp user) entries k entry less e));
      rest = λ k entry le e. leading_fails (is_user_below cmp user) (user_initial user) k entry le e;
    }

    -- ---- from the first entry of a user key that is seen

    module _ (user bytes : List ℕ) (h : IsFirstKey user sequence bytes) where
      key_initial : (x y : InternalEntry) → key_cmp cmp x.key y.key ≡ Less → is_below cmp h.key y ≡ true → is_below cmp h.key x ≡ true
      key_initial x y e t = is_less_of (key_cmp cmp x.key h.key) ((key_total cmp total).trans x.key y.key h.key e (less_is (key_cmp cmp y.key h.key) t))

      -- an entry before it that is seen has a lower user key
      lower_if_seen : (x : InternalEntry) → is_below cmp h.key x ≡ true → x.key.sequence ≤ sequence → cmp x.key.user user ≡ Less
      lower_if_seen x t seen =
          let below = less_is (key_cmp cmp x.key h.key) t in
          elim (before_cases cmp total exact x.key h.key below) [
            | inl l ↦ subst (λ (a : List ℕ). cmp x.key.user a ≡ Less) h.user_is l
            | inr s ↦ absurd (h.first cmp total x.key (s.0 ∙ h.user_is) seen ((key_total cmp total).antisymm h.key x.key ∙ ap ordering_reverse below))
          ]

      -- none from it on has
      no_lower_from : (x : InternalEntry) → is_below cmp h.key x ≡ false → is_less (cmp x.key.user user) ≡ false
      no_lower_from x f = elim (true_or_false (is_less (cmp x.key.user user))) [
        | inr g ↦ g
        | inl t ↦
            let less : cmp x.key.user h.key.user ≡ Less = subst (λ (a : List ℕ). cmp x.key.user a ≡ Less) (sym h.user_is) (less_is (cmp x.key.user user) t) in
            absurd (true_not_false (is_below cmp h.key x) (is_less_of (key_cmp cmp x.key h.key) (less_by_user (cmp x.key.user h.key.user) _ less)) f)
      ]

      pub from_seek : (hidden : List ℕ) → SearchesOn cmp entries sequence (λ (u : List ℕ). is_less (cmp u user)) (first_from cmp h.key entries) false hidden
      from_seek hidden = record {
        lower = below_lower user;
        passed = λ k entry less e v. is_less_of (cmp entry.key.user user) (lower_if_seen entry (leading_passes (is_below cmp h.key) entries k entry less e) v.0.seen);
        left = λ k entry le e t. absurd (true_not_false (is_less (cmp entry.key.user user)) t (no_lower_from entry (leading_fails (is_below cmp h.key) key_initial k entry le e)));
        apart = λ k entry less e j later le f seen same.
            let low = is_less_of (cmp entry.key.user user) (lower_if_seen entry (leading_passes (is_below cmp h.key) entries k entry less e) seen) in
            absurd (true_not_false (is_less (cmp later.key.user user)) (sym (ap (λ (a : List ℕ). is_less (cmp a user)) same) ∙ low) (no_lower_from later (leading_fails (is_below cmp h.key) key_initial j later le f)));
        hiding = λ t. absurd cc;
      }

      -- the visible entry of the user key stands there
      pub again_at : (i : ℕ) (x : InternalEntry) → slice_get entries i ≡ Some x → IsVisible entries sequence x → user ≡ x.key.user → i ≡ first_from cmp h.key entries
      again_at i x at v same =
          leading_at (is_below cmp h.key) entries i
          (λ k entry less e.
          let below = rises_get cmp entries k i entry x rises less e at in
          is_less_of (key_cmp cmp entry.key h.key) (below_first entry x v same below (among_get entries k entry e)))
          (λ entry e.
          let is_x : entry ≡ x = same_get entries i entry x e at in
          elim (true_or_false (is_below cmp h.key entry)) [
            | inr f ↦ f
            | inl t ↦ absurd (itself cmp total exact user (subst (λ (a : List ℕ). cmp a user ≡ Less) (ap (λ (y : InternalEntry). y.key.user) is_x ∙ sym same)
                (lower_if_seen entry t (subst (λ (y : InternalEntry). y.key.sequence ≤ sequence) (sym is_x) v.0.seen))))
          ])
          (let w = slice_get_within entries i x at in omega (arith, w))
        where
          below_first : (entry x : InternalEntry) → IsVisible entries sequence x → user ≡ x.key.user → key_cmp cmp entry.key x.key ≡ Less → Among entries entry → key_cmp cmp entry.key h.key ≡ Less
          below_first entry x v same below member = elim (before_cases cmp total exact entry.key x.key below) [
            | inl l ↦ less_by_user (cmp entry.key.user h.key.user) _ (subst (λ (a : List ℕ). cmp entry.key.user a ≡ Less) (sym same ∙ sym h.user_is) l)
            | inr s ↦
                let user_same : entry.key.user ≡ h.key.user = s.0 ∙ (sym same ∙ sym h.user_is) in
                elim (cases_lt sequence entry.key.sequence) [
                  | inl new ↦ let q = h.visible in less_by_tag cmp total entry.key h.key user_same (newer_tag entry.key.sequence h.key.sequence entry.key.kind h.key.kind (omega (arith, new, q)))
                  | inr seen ↦
                      let most = v.0.greatest entry member s.0 seen in
                      absurd (put_newest entry.key.sequence x.key.sequence entry.key.kind x.key.kind v.1 most s.1)
                ]
          ]
