-- Pairs whose keys rise, and the places in them.
use Rattle.std.proofs.Common.{◌≡◌, ◌<◌, ◌≤◌, ℕ, zero, suc, Bool, true, false, cond, List, [], ◌∷◌, Some, None, length, refl, sym, ap, ◌∙◌, subst, arith, inl, inr}
use Rattle.std.specs.List.{slice_get, AllByRecursion}
use Rattle.std.specs.declared.cmp.Ordering.TheVariants.{Less}
use Rattle.ikey.specs.Entries.{InternalEntry, Pair}
use Rattle.cursor.specs.Places.{Cmp, is_less, within}
use Rattle.cursor.specs.Views.{IsViewList, IsVisible, HasPair, KeysRise, passed, shown}
use Rattle.cursor.specs.Searches.{PassesLower}
use Rattle.cursor.proofs.Orders.{is_less_of}
use Rattle.cursor.proofs.Leading.{within_none}
use Rattle.cursor.proofs.Fronts.{on_test}

pub all_pairs : (P : Pair → Type 0) (pairs : List Pair) (pair : Pair) → AllByRecursion P pairs → HasPair pairs pair → P pair
all_pairs P [] pair h m = absurd m
all_pairs P (x ∷ pairs) pair h (inl e) = subst P (sym e) h.0
all_pairs P (x ∷ pairs) pair h (inr m) = all_pairs P pairs pair h.1 m

has_get : (pairs : List Pair) (n : ℕ) (pair : Pair) → slice_get pairs n ≡ Some pair → HasPair pairs pair
has_get [] n pair e = absurd cc
has_get (x ∷ pairs) zero pair e = inl (let s : x ≡ pair = cc in sym s)
has_get (x ∷ pairs) (suc n) pair e = inr (has_get pairs n pair e)

pub keys_get : (cmp : Cmp) (pairs : List Pair) (i k : ℕ) (x y : Pair) → KeysRise cmp pairs → i < k → slice_get pairs i ≡ Some x → slice_get pairs k ≡ Some y → cmp x.key y.key ≡ Less
keys_get cmp [] i k x y r less e f = absurd cc
keys_get cmp (z ∷ pairs) i zero x y r less e f = absurd (omega arith)
keys_get cmp (z ∷ pairs) zero (suc k) x y r less e f =
    let same : z ≡ x = cc in
    subst (λ (w : Pair). cmp w.key y.key ≡ Less) same (all_pairs (λ (later : Pair). cmp z.key later.key ≡ Less) pairs y r.0 (has_get pairs k y f))
keys_get cmp (z ∷ pairs) (suc i) (suc k) x y r less e f = keys_get cmp pairs i k x y r.1 (omega arith) e f

-- ---- how many pass

pub passed_at : (test : List ℕ → Bool) (pairs : List Pair) (n : ℕ) → ((k : ℕ) (pair : Pair) → k < n → slice_get pairs k ≡ Some pair → test pair.key ≡ true)
    → ((pair : Pair) → slice_get pairs n ≡ Some pair → test pair.key ≡ false) → n ≤ length pairs → n ≡ passed test pairs
passed_at test [] n go stop h = omega arith
passed_at test (x ∷ pairs) zero go stop h = sym (ap (λ (b : Bool). cond b (suc (passed test pairs)) zero) (stop x refl))
passed_at test (x ∷ pairs) (suc n) go stop h =
    ap suc (passed_at test pairs n (λ k e less at. go (suc k) e (omega (arith, less)) at) stop (omega (arith, h)))
    ∙ sym (ap (λ (b : Bool). cond b (suc (passed test pairs)) zero) (go zero x (omega arith) refl))

pub all_pass : (test : List ℕ → Bool) (pairs : List Pair) → ((pair : Pair) → HasPair pairs pair → test pair.key ≡ true) → passed test pairs ≡ length pairs
all_pass test [] h = refl
all_pass test (x ∷ pairs) h = ap (λ (b : Bool). cond b (suc (passed test pairs)) zero) (h x (inl refl)) ∙ ap suc (all_pass test pairs (λ pair m. h pair (inr m)))

pub none_pass : (test : List ℕ → Bool) (pairs : List Pair) → ((pair : Pair) → HasPair pairs pair → test pair.key ≡ false) → passed test pairs ≡ 0
none_pass test [] h = refl
none_pass test (x ∷ pairs) h = ap (λ (b : Bool). cond b (suc (passed test pairs)) zero) (h x (inl refl))

-- the pair that fails, where those that fail are no lower, is the first that does
pub first_fails : (cmp : Cmp) (test : List ℕ → Bool) (pairs : List Pair) (pair : Pair) → KeysRise cmp pairs → HasPair pairs pair → test pair.key ≡ false
    → ((other : Pair) → HasPair pairs other → test other.key ≡ false → is_less (cmp other.key pair.key) ≡ false) → slice_get pairs (passed test pairs) ≡ Some pair
first_fails cmp test [] pair r m f least = absurd m
first_fails cmp test (x ∷ pairs) pair r m f least =
    on_test (test x.key) (λ b. (test x.key ≡ b) → slice_get (x ∷ pairs) (cond b (suc (passed test pairs)) zero) ≡ Some pair)
    (λ t same. elim m [
      | inl s ↦ let bad : false ≡ true = sym f ∙ (ap (λ (p : Pair). test p.key) s ∙ same) in absurd cc
      | inr n ↦ first_fails cmp test pairs pair r.1 n f (λ other o g. least other (inr o) g)
    ])
    (λ t same. elim m [
      | inl s ↦ ap Some (sym s)
      | inr n ↦
          let below = is_less_of (cmp x.key pair.key) (all_pairs (λ (later : Pair). cmp x.key later.key ≡ Less) pairs pair r.0 n) in
          let bad : true ≡ false = sym below ∙ least x (inl refl) same in absurd cc
    ])
    refl

-- the pair that passes, where those that pass are no higher, is the last that does
pub last_passes : (cmp : Cmp) (test : List ℕ → Bool) (pairs : List Pair) (pair : Pair) → PassesLower cmp test → KeysRise cmp pairs → HasPair pairs pair → test pair.key ≡ true
    → ((other : Pair) → HasPair pairs other → test other.key ≡ true → is_less (cmp pair.key other.key) ≡ false) → (m : ℕ) × (passed test pairs ≡ suc m) × (slice_get pairs m ≡ Some pair)
last_passes cmp test [] pair lower r m p greatest = absurd m
last_passes cmp test (x ∷ pairs) pair lower r (inl s) p greatest =
    let passes : test x.key ≡ true = sym (ap (λ (q : Pair). test q.key) s) ∙ p in
    let none : passed test pairs ≡ 0 = none_pass test pairs (λ other o. on_test (test other.key) (λ b. (test other.key ≡ b) → test other.key ≡ false)
    (λ t same.
    let above = is_less_of (cmp x.key other.key) (all_pairs (λ (later : Pair). cmp x.key later.key ≡ Less) pairs other r.0 o) in
    let bad : true ≡ false = sym above ∙ (sym (ap (λ (q : Pair). is_less (cmp q.key other.key)) s) ∙ greatest other (inr o) same) in absurd cc)
    (λ t same. same) refl) in
    (zero, ap (λ (b : Bool). cond b (suc (passed test pairs)) zero) passes ∙ ap suc none, ap Some (sym s))
last_passes cmp test (x ∷ pairs) pair lower r (inr n) p greatest =
    let passes : test x.key ≡ true = lower x.key pair.key (all_pairs (λ (later : Pair). cmp x.key later.key ≡ Less) pairs pair r.0 n) p in
    let rest = last_passes cmp test pairs pair lower r.1 n p (λ other o g. greatest other (inr o) g) in
    (suc rest.0, ap (λ (b : Bool). cond b (suc (passed test pairs)) zero) passes ∙ ap suc rest.1, rest.2)

-- ---- the view's pairs

module _ (cmp : Cmp) (entries : List InternalEntry) (sequence : ℕ) (pairs : List Pair) (view : IsViewList cmp entries sequence pairs) (test : List ℕ → Bool) where
  pub view_first : (entry : InternalEntry) → IsVisible entries sequence entry → test entry.key.user ≡ false
      → ((other : InternalEntry) → IsVisible entries sequence other → test other.key.user ≡ false → is_less (cmp other.key.user entry.key.user) ≡ false)
      → slice_get pairs (passed test pairs) ≡ Some (shown entry)
  view_first entry v f least = first_fails cmp test pairs (shown entry) view.rises (view.covers entry v) f
      (λ other o g.
      let e = view.found other o in
      let key : other.key ≡ e.0.key.user = ap (λ (p : Pair). p.key) e.2 in
      ap (λ (a : List ℕ). is_less (cmp a entry.key.user)) key ∙ least e.0 e.1 (sym (ap test key) ∙ g))

  pub view_none_first : ((entry : InternalEntry) → IsVisible entries sequence entry → test entry.key.user ≡ true) → within pairs (passed test pairs) ≡ None
  view_none_first all =
      let long : passed test pairs ≡ length pairs = all_pass test pairs (λ pair o. let e = view.found pair o in ap (λ (p : Pair). test p.key) e.2 ∙ all e.0 e.1) in
      within_none pairs (passed test pairs) (omega (arith, long))

  pub view_last : PassesLower cmp test → (entry : InternalEntry) → IsVisible entries sequence entry → test entry.key.user ≡ true
      → ((other : InternalEntry) → IsVisible entries sequence other → test other.key.user ≡ true → is_less (cmp entry.key.user other.key.user) ≡ false)
      → (m : ℕ) × (passed test pairs ≡ suc m) × (slice_get pairs m ≡ Some (shown entry))
  view_last lower entry v p greatest = last_passes cmp test pairs (shown entry) lower view.rises (view.covers entry v) p
      (λ other o g.
      let e = view.found other o in
      let key : other.key ≡ e.0.key.user = ap (λ (q : Pair). q.key) e.2 in
      ap (λ (a : List ℕ). is_less (cmp entry.key.user a)) key ∙ greatest e.0 e.1 (sym (ap test key) ∙ g))

  pub view_none_last : ((entry : InternalEntry) → IsVisible entries sequence entry → test entry.key.user ≡ true → ⊥) → passed test pairs ≡ 0
  view_none_last none = none_pass test pairs (λ pair o.
      let e = view.found pair o in
      on_test (test pair.key) (λ b. (test pair.key ≡ b) → test pair.key ≡ false)
      (λ t same. absurd (none e.0 e.1 (sym (ap (λ (p : Pair). test p.key) e.2) ∙ same)))
      (λ t same. same) refl)
