-- Members of lists, and the part of a list for which something holds.
use Rattle.std.proofs.Common.{◌≡◌, ◌⊎◌, List, [], ◌∷◌, ◌++◌, inl, inr, refl, sym, ap, subst, ◌∙◌}
use Rattle.ikey.specs.Views.{Among}
use Rattle.compact.specs.Lists.{IsPartWith}

-- ---- members

pub Among-left : {A : Type 0} (xs ys : List A) (x : A) → Among xs x → Among (xs ++ ys) x
Among-left (first ∷ xs) ys x (inl h) = inl h
Among-left (first ∷ xs) ys x (inr h) = inr (Among-left xs ys x h)
Among-left [] ys x h = absurd h

pub Among-right : {A : Type 0} (xs ys : List A) (x : A) → Among ys x → Among (xs ++ ys) x
Among-right [] ys x h = h
Among-right (first ∷ xs) ys x h = inr (Among-right xs ys x h)

pub Among-parts : {A : Type 0} (xs ys : List A) (x : A) → Among (xs ++ ys) x → Among xs x ⊎ Among ys x
Among-parts [] ys x h = inr h
Among-parts (first ∷ xs) ys x (inl h) = inl (inl h)
Among-parts (first ∷ xs) ys x (inr h) = elim (Among-parts xs ys x h) [ inl a ↦ inl (inr a) | inr b ↦ inr b ]

pub Among-end : {A : Type 0} (xs : List A) (x : A) → Among (xs ++ x ∷ []) x
Among-end xs x = Among-right xs (x ∷ []) x (inl refl)

pub Among-push : {A : Type 0} (xs : List A) (x y : A) → Among (xs ++ x ∷ []) y → Among xs y ⊎ (y ≡ x)
Among-push xs x y h = elim (Among-parts xs (x ∷ []) y h) [ inl a ↦ inl a | inr b ↦ elim b [ inl e ↦ inr e | inr n ↦ absurd n ] ]

-- ---- parts

-- it depends on what holds of the members alone
pub part-along : {A : Type 0} (P Q : A → Type 0) (xs ys : List A) → ((x : A) → Among xs x → P x → Q x) → ((x : A) → Among xs x → Q x → P x) → IsPartWith P xs ys → IsPartWith Q xs ys
part-along P Q [] ys to back h = h
part-along P Q (x ∷ xs) ys to back (inl (p, rest, is, h)) =
    inl (to x (inl refl) p, rest, is, part-along P Q xs rest (λ y m. to y (inr m)) (λ y m. back y (inr m)) h)
part-along P Q (x ∷ xs) ys to back (inr (n, h)) =
    inr (λ q. n (back x (inl refl) q), part-along P Q xs ys (λ y m. to y (inr m)) (λ y m. back y (inr m)) h)

pub part-append : {A : Type 0} (P : A → Type 0) (xs ys us vs : List A) → IsPartWith P xs ys → IsPartWith P us vs → IsPartWith P (xs ++ us) (ys ++ vs)
part-append {A} P [] ys us vs h j = subst (λ (l : List A). IsPartWith P us (l ++ vs)) (sym h) j
part-append P (x ∷ xs) ys us vs (inl (p, rest, is, h)) j =
    inl (p, rest ++ vs, ap (λ l. l ++ vs) is, part-append P xs rest us vs h j)
part-append P (x ∷ xs) ys us vs (inr (n, h)) j = inr (n, part-append P xs ys us vs h j)

pub part-none : {A : Type 0} (P : A → Type 0) (xs : List A) → ((x : A) → Among xs x → P x → ⊥) → IsPartWith P xs []
part-none P [] none = refl
part-none P (x ∷ xs) none = inr (none x (inl refl), part-none P xs (λ y m. none y (inr m)))

pub part-nothing : {A : Type 0} (P : A → Type 0) (xs ys : List A) → ((x : A) → Among xs x → P x → ⊥) → IsPartWith P xs ys → ys ≡ []
part-nothing P [] ys none h = h
part-nothing P (x ∷ xs) ys none (inl (p, rest, is, h)) = absurd (none x (inl refl) p)
part-nothing P (x ∷ xs) ys none (inr (n, h)) = part-nothing P xs ys (λ y m. none y (inr m)) h

pub part-one : {A : Type 0} (P : A → Type 0) (x : A) → P x → IsPartWith P (x ∷ []) (x ∷ [])
part-one P x p = inl (p, [], refl, refl)

pub part-not-one : {A : Type 0} (P : A → Type 0) (x : A) → (P x → ⊥) → IsPartWith P (x ∷ []) []
part-not-one P x n = inr (n, refl)

-- its members are members of the list for which it holds
pub part-members : {A : Type 0} (P : A → Type 0) (xs ys : List A) (y : A) → IsPartWith P xs ys → Among ys y → Among xs y × P y
part-members {A} P [] ys y h m = absurd (subst (λ (l : List A). Among l y) h m)
part-members {A} P (x ∷ xs) ys y (inl (p, rest, is, h)) m =
    elim (subst (λ (l : List A). Among l y) is m) [
      | inl e ↦ (inl e, subst P (sym e) p)
      | inr n ↦ let r = part-members P xs rest y h n in (inr r.0, r.1)
    ]
part-members P (x ∷ xs) ys y (inr (n, h)) m = let r = part-members P xs ys y h m in (inr r.0, r.1)

-- and each such member is there
pub part-has : {A : Type 0} (P : A → Type 0) (xs ys : List A) (x : A) → IsPartWith P xs ys → Among xs x → P x → Among ys x
part-has P [] ys x h m p = absurd m
part-has {A} P (first ∷ xs) ys x (inl (q, rest, is, h)) (inl e) p = subst (λ (l : List A). Among l x) (sym is) (inl e)
part-has {A} P (first ∷ xs) ys x (inl (q, rest, is, h)) (inr m) p = subst (λ (l : List A). Among l x) (sym is) (inr (part-has P xs rest x h m p))
part-has P (first ∷ xs) ys x (inr (n, h)) (inl e) p = absurd (n (subst P e p))
part-has P (first ∷ xs) ys x (inr (n, h)) (inr m) p = part-has P xs ys x h m p

-- there is one
pub one_part : {A : Type 0} (P : A → Type 0) (xs ys zs : List A) → IsPartWith P xs ys → IsPartWith P xs zs → ys ≡ zs
one_part P [] ys zs h j = h ∙ sym j
one_part P (x ∷ xs) ys zs (inl (p, rest, is, h)) (inl (q, other, it, j)) = is ∙ ap (λ l. x ∷ l) (one_part P xs rest other h j) ∙ sym it
one_part P (x ∷ xs) ys zs (inl (p, rest, is, h)) (inr (n, j)) = absurd (n p)
one_part P (x ∷ xs) ys zs (inr (n, h)) (inl (q, other, it, j)) = absurd (n q)
one_part P (x ∷ xs) ys zs (inr (n, h)) (inr (m, j)) = one_part P xs ys zs h j

-- the part of a list whose members are all in it
pub part-all : {A : Type 0} (P : A → Type 0) (xs : List A) → ((x : A) → Among xs x → P x) → IsPartWith P xs xs
part-all P [] all = refl
part-all P (x ∷ xs) all = inl (all x (inl refl), xs, refl, part-all P xs (λ y m. all y (inr m)))
