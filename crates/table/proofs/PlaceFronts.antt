-- What fronts tell of the keys that bound data blocks.
use Rattle.std.proofs.Common.{◌≡◌, ◌<◌, ◌+◌, ℕ, zero, suc, List, [], ◌∷◌, ◌++◌, length, get_or, refl, sym, ap, subst, ◌∙◌, arith, inl, inr, length-append}
use Rattle.std.proofs.lemmas.Bool.{cases_lt}
use Rattle.std.proofs.lemmas.List.{get_or_append_left, get_or_push}
use Rattle.std.specs.Ordering.{nat_cmp, ordering_then, on, flip_args}
use Rattle.std.specs.declared.cmp.Ordering.{Ordering}
use Rattle.std.specs.declared.cmp.Ordering.TheVariants.{Less, Greater}
use Rattle.ikey.specs.Below.{IsBelowInternal, same_key}
use Rattle.ikey.specs.Fronts.{Decides}
use Rattle.ikey.specs.Keys.{Key, IsKey, key_cmp, tag_of}
use Rattle.ikey.specs.declared.front.Front.{Front}
use Rattle.table.specs.KeyFronts.{IsSoughtBy, AreFronts}
use Rattle.table.specs.declared.handle.Place.{Place}

by-users : (cmp : List ℕ → List ℕ → Ordering) (k l : Key) (order : Ordering) → cmp k.user l.user ≡ order → key_cmp cmp k l ≡ ordering_then order (flip_args (on tag_of nat_cmp) k l)
by-users cmp k l order e = ap (λ (o : Ordering). ordering_then o (flip_args (on tag_of nat_cmp) k l)) e

pub front-below : (cmp : List ℕ → List ℕ → Ordering) (own sought : Front) (bytes target : List ℕ) → IsSoughtBy own bytes → IsSoughtBy sought target → Decides cmp own sought Less → IsBelowInternal cmp bytes target
front-below cmp own sought bytes target a b told = (a.0, b.0, a.1, b.1, by-users cmp a.0 b.0 Less (told [] a.0.user b.0.user a.2 b.2))

pub front-not-below : (cmp : List ℕ → List ℕ → Ordering) (own sought : Front) (bytes target : List ℕ) → IsSoughtBy own bytes → IsSoughtBy sought target → Decides cmp own sought Greater
    → IsBelowInternal cmp bytes target → ⊥
front-not-below cmp own sought bytes target a b told below =
    let mine = same_key bytes a.0 below.0 a.1 below.2 in
    let its = same_key target b.0 below.1 b.1 below.3 in
    let greater : key_cmp cmp a.0 b.0 ≡ Greater = by-users cmp a.0 b.0 Greater (told [] a.0.user b.0.user a.2 b.2) in
    let both : Greater ≡ Less = sym greater ∙ (λ i. key_cmp cmp (mine i) (its i)) ∙ below.4 in
    absurd cc

pub no-target : (cmp : List ℕ → List ℕ → Ordering) (bytes target : List ℕ) → ((key : Key) → IsKey target key → ⊥) → IsBelowInternal cmp bytes target → ⊥
no-target cmp bytes target none below = none below.1 below.3

pub front-at : (places : List Place) (fronts : List Front) (index : ℕ) (own : Front) (d : Place) → AreFronts places fronts → index < length fronts → own ≡ get_or fronts index own
    → IsSoughtBy own (get_or places index d).key
front-at places fronts index own d h inside is = subst (λ (f : Front). IsSoughtBy f (get_or places index d).key) (sym is) (h.each index d own inside)

-- ---- one more

pub no-fronts : (places : List Place) → AreFronts places []
no-fronts places = record { few = omega arith; each = λ i d e inside. absurd (omega (arith, inside)) }

same-place : (places : List Place) (i : ℕ) (d e : Place) → i < length places → get_or places i d ≡ get_or places i e
same-place [] i d e inside = absurd (omega (arith, inside))
same-place (place ∷ places) zero d e inside = refl
same-place (place ∷ places) (suc i) d e inside = same-place places i d e (omega (arith, inside))

pub fronts-more : (places : List Place) (fronts : List Front) (n : ℕ) (place : Place) (front : Front) → AreFronts places fronts → length fronts ≡ n → n < length places
    → place ≡ get_or places n place → IsSoughtBy front place.key → AreFronts places (fronts ++ front ∷ [])
fronts-more places fronts n place front h long inside is new =
    let longer : length (fronts ++ front ∷ []) ≡ n + 1 = length-append fronts (front ∷ []) ∙ ap (λ (k : ℕ). k + 1) long in
    record {
      few = omega (arith, longer, inside);
      each = λ i d e less. elim (cases_lt i n) [
        | inl before ↦
            let within : i < length fronts = omega (arith, before, long) in
            subst (λ (f : Front). IsSoughtBy f (get_or places i d).key) (sym (get_or_append_left fronts (front ∷ []) e i within)) (h.each i d e within)
        | inr past ↦
            let same : n ≡ i = omega (arith, past, less, longer) in
            subst (λ (k : ℕ). IsSoughtBy (get_or (fronts ++ front ∷ []) k e) (get_or places k d).key) same
            (subst (λ (f : Front). IsSoughtBy f (get_or places n d).key) (sym (get_or_push fronts front e n long))
            (subst (λ (p : Place). IsSoughtBy front p.key) (is ∙ same-place places n place d inside) new))
      ];
    }
