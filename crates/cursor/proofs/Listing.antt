-- Each sorted list of entries has a view as a list.
use Rattle.std.proofs.Common.{◌≡◌, ◌⊎◌, ◌<◌, ◌≤◌, ℕ, true, false, List, [], ◌∷◌, refl, sym, ap, ◌∙◌, subst, arith, inl, inr}
use Rattle.std.specs.List.{AllByRecursion}
use Rattle.std.specs.FinMap.{IsAntisymmetric}
use Rattle.std.specs.Str.{bytes_eq}
use Rattle.std.specs.Cmp.{IsTotalOrder}
use Rattle.std.specs.declared.cmp.Ordering.TheVariants.{Less}
use Rattle.std.proofs.lemmas.Bool.{cases_lt}
use Rattle.std.proofs.lemmas.Slice.Eq.{bytes_eq-Decides}
use Rattle.ikey.specs.declared.internal_key.Kind.{Kind}
use Rattle.ikey.specs.declared.internal_key.Kind.TheVariants.{Delete, Put}
use Rattle.ikey.specs.Entries.{InternalEntry, Pair}
use Rattle.ikey.specs.Keys.{key_cmp, tag}
use Rattle.ikey.specs.Views.{Among}
use Rattle.cursor.specs.Places.{Cmp, Rises}
use Rattle.cursor.specs.Views.{IsVisible, IsViewList, HasPair, KeysRise, shown}
use Rattle.cursor.proofs.Fronts.{all_among, on_test}
use Rattle.cursor.proofs.Pairings.{all_pairs}
use Rattle.cursor.proofs.Befores.{before_cases, itself, later_older, later_no_lower, no_lower_cases}

same_or_not : (a b : List ℕ) → (a ≡ b) ⊎ (a ≡ b → ⊥)
same_or_not a b = on_test (bytes_eq a b) (λ t. (bytes_eq a b ≡ t) → (a ≡ b) ⊎ (a ≡ b → ⊥))
    (λ t same. inl ((bytes_eq-Decides a b).0 same))
    (λ t same. inr (λ e. let bad : true ≡ false = sym ((bytes_eq-Decides a b).1 e) ∙ same in cc))
    refl

all_of : (P : Pair → Type 0) (pairs : List Pair) → ((pair : Pair) → HasPair pairs pair → P pair) → AllByRecursion P pairs
all_of P [] h = tt
all_of P (x ∷ pairs) h = (h x (inl refl), all_of P pairs (λ pair m. h pair (inr m)))

older_tag : (m n : ℕ) (k l : Kind) → l ≡ Put → tag n l < tag m k → n < m
older_tag m n Delete Put p h = omega (arith, h)
older_tag m n Put Put p h = omega (arith, h)
older_tag m n k Delete p h = let bad : Delete ≡ Put = p in absurd cc

module _ (cmp : Cmp) (total : IsTotalOrder cmp) (exact : IsAntisymmetric cmp) (sequence : ℕ) where
  -- a put after an entry of its user key is older
  put_older : (x e : InternalEntry) → key_cmp cmp x.key e.key ≡ Less → x.key.user ≡ e.key.user → e.key.kind ≡ Put → e.key.sequence < x.key.sequence
  put_older x e less same put = elim (before_cases cmp total exact x.key e.key less) [
    | inl h ↦ absurd (itself cmp total exact e.key.user (subst (λ (a : List ℕ). cmp a e.key.user ≡ Less) same h))
    | inr h ↦ older_tag x.key.sequence e.key.sequence x.key.kind e.key.kind put h.1
  ]

  module _ (x : InternalEntry) (rest : List InternalEntry) (rises : Rises cmp (x ∷ rest)) where
    behind_x : (e : InternalEntry) → Among rest e → key_cmp cmp x.key e.key ≡ Less
    behind_x e m = all_among (λ (later : InternalEntry). key_cmp cmp x.key later.key ≡ Less) rest e rises.0 m

    -- what is visible after the entry is visible with it, if it isn't one of its user key that is
    -- seen
    more : (e : InternalEntry) → (x.key.user ≡ e.key.user → x.key.sequence ≤ sequence → ⊥) → IsVisible rest sequence e → IsVisible (x ∷ rest) sequence e
    more e apart v = (
      record {
        member = inr v.0.member;
        seen = v.0.seen;
        greatest = λ other m same seen. elim m [
          | inl i ↦ absurd (apart (sym (ap (λ (y : InternalEntry). y.key.user) i) ∙ same) (subst (λ (y : InternalEntry). y.key.sequence ≤ sequence) i seen))
          | inr n ↦ v.0.greatest other n same seen
        ];
      },
      v.1,
    )

    fewer : (e : InternalEntry) → Among rest e → IsVisible (x ∷ rest) sequence e → IsVisible rest sequence e
    fewer e m v = (record { member = m; seen = v.0.seen; greatest = λ other n same seen. v.0.greatest other (inr n) same seen }, v.1)

    -- ---- the entry isn't seen

    unseen_view : sequence < x.key.sequence → (pairs : List Pair) → IsViewList cmp rest sequence pairs → IsViewList cmp (x ∷ rest) sequence pairs
    unseen_view new pairs view = record {
      rises = view.rises;
      found = λ pair h. let e = view.found pair h in (e.0, more e.0 (λ same old. omega (arith, new, old)) e.1, e.2);
      covers = λ e v. elim v.0.member [
        | inl i ↦ let seen : x.key.sequence ≤ sequence = subst (λ (y : InternalEntry). y.key.sequence ≤ sequence) i v.0.seen in absurd (omega (arith, new, seen))
        | inr m ↦ view.covers e (fewer e m v)
      ];
    }

    -- ---- it is

    module _ (seen : x.key.sequence ≤ sequence) (pairs : List Pair) (view : IsViewList cmp rest sequence pairs) where
      -- the pairs of higher user keys
      higher : (pair : Pair) → HasPair pairs pair → (pair.key ≡ x.key.user → ⊥) → cmp x.key.user pair.key ≡ Less
      higher pair h apart =
          let e = view.found pair h in
          let key : pair.key ≡ e.0.key.user = ap (λ (p : Pair). p.key) e.2 in
          elim (no_lower_cases cmp total exact x.key.user e.0.key.user (later_no_lower cmp total exact x.key e.0.key (behind_x e.0 e.1.0.member))) [
            | inl s ↦ absurd (apart (key ∙ sym s))
            | inr l ↦ subst (λ (a : List ℕ). cmp x.key.user a ≡ Less) (sym key) l
          ]

      hidden : (e : InternalEntry) → Among rest e → IsVisible (x ∷ rest) sequence e → x.key.user ≡ e.key.user → ⊥
      hidden e m v same =
          let older = put_older x e (behind_x e m) same v.1 in
          let newest = v.0.greatest x (inl refl) same seen in
          omega (arith, older, newest)

      with_tail : (tail : List Pair) → KeysRise cmp tail → ((pair : Pair) → HasPair tail pair → HasPair pairs pair × (cmp x.key.user pair.key ≡ Less))
          → ((pair : Pair) → HasPair pairs pair → (pair.key ≡ x.key.user → ⊥) → HasPair tail pair) → (new : List Pair) × IsViewList cmp (x ∷ rest) sequence new
      with_tail tail rise inside all = by x.key.kind refl
        where
          kept : (pair : Pair) → HasPair tail pair → (entry : InternalEntry) × IsVisible (x ∷ rest) sequence entry × (pair ≡ shown entry)
          kept pair h =
              let p = inside pair h in
              let e = view.found pair p.0 in
              (e.0, more e.0 (λ same old. itself cmp total exact x.key.user (subst (λ (a : List ℕ). cmp x.key.user a ≡ Less) (ap (λ (q : Pair). q.key) e.2 ∙ sym same) p.1)) e.1, e.2)

          covered : (e : InternalEntry) → Among rest e → IsVisible (x ∷ rest) sequence e → HasPair tail (shown e)
          covered e m v = all (shown e) (view.covers e (fewer e m v)) (λ same. hidden e m v (sym same))

          by : (kind : Kind) → x.key.kind ≡ kind → (new : List Pair) × IsViewList cmp (x ∷ rest) sequence new
          by Delete is = (
            tail,
            record {
              rises = rise;
              found = kept;
              covers = λ e v. elim v.0.member [
                | inl i ↦ let put : x.key.kind ≡ Put = subst (λ (y : InternalEntry). y.key.kind ≡ Put) i v.1 in let bad : Put ≡ Delete = sym put ∙ is in absurd cc
                | inr m ↦ covered e m v
              ];
            },
          )
          by Put is = (
            shown x ∷ tail,
            record {
              rises = (all_of (λ (later : Pair). cmp x.key.user later.key ≡ Less) tail (λ pair h. (inside pair h).1), rise);
              found = λ pair h. elim h [
                | inl i ↦ (
                  x,
                  (
                    record {
                      member = inl refl;
                      seen = seen;
                      greatest = λ other m same old. elim m [
                        | inl s ↦ let long : other.key.sequence ≡ x.key.sequence = ap (λ (y : InternalEntry). y.key.sequence) s in omega (arith, long)
                        | inr n ↦ later_older cmp total exact x.key other.key (behind_x other n) (sym same)
                      ];
                    },
                    is,
                  ),
                  i,
                )
                | inr n ↦ kept pair n
              ];
              covers = λ e v. elim v.0.member [
                | inl i ↦ inl (ap shown i)
                | inr m ↦ inr (covered e m v)
              ];
            },
          )

    seen_view : x.key.sequence ≤ sequence → (pairs : List Pair) → IsViewList cmp rest sequence pairs → (new : List Pair) × IsViewList cmp (x ∷ rest) sequence new
    seen_view seen [] view = with_tail seen [] view [] tt (λ pair h. absurd h) (λ pair h apart. h)
    seen_view seen (p ∷ pairs) view = elim (same_or_not p.key x.key.user) [
      | inl same ↦ with_tail seen (p ∷ pairs) view pairs view.rises.1
          (λ pair h. (inr h, subst (λ (a : List ℕ). cmp a pair.key ≡ Less) same (all_pairs (λ (later : Pair). cmp p.key later.key ≡ Less) pairs pair view.rises.0 h)))
          (λ pair h apart. elim h [ inl i ↦ absurd (apart (ap (λ (q : Pair). q.key) i ∙ same)) | inr n ↦ n ])
      | inr other ↦
          let first = higher seen (p ∷ pairs) view p (inl refl) other in
          with_tail seen (p ∷ pairs) view (p ∷ pairs) view.rises
          (λ pair h. (
            h,
            elim h [
              | inl i ↦ subst (λ (q : Pair). cmp x.key.user q.key ≡ Less) (sym i) first
              | inr n ↦ total.trans x.key.user p.key pair.key first (all_pairs (λ (later : Pair). cmp p.key later.key ≡ Less) pairs pair view.rises.0 n)
            ],
          ))
          (λ pair h apart. h)
    ]

  pub has_view : (entries : List InternalEntry) → Rises cmp entries → (pairs : List Pair) × IsViewList cmp entries sequence pairs
  has_view [] rises = ([], record { rises = tt; found = λ pair h. absurd h; covers = λ e v. absurd v.0.member })
  has_view (x ∷ entries) rises =
      let rest = has_view entries rises.1 in
      elim (cases_lt sequence x.key.sequence) [
        | inl new ↦ (rest.0, unseen_view x entries rises new rest.0 rest.1)
        | inr seen ↦ seen_view x entries rises seen rest.0 rest.1
      ]
