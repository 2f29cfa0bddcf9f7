-- The view of entries as a list, and as a map.
use Rattle.std.proofs.Common.{◌≡◌, ◌⊎◌, ◌<◌, ◌≤◌, ℕ, true, false, List, [], ◌∷◌, Some, None, map, refl, sym, ap, ◌∙◌, subst, arith, inl, inr}
use Rattle.std.specs.FinMap.{get}
use Rattle.std.specs.Str.{bytes_eq}
use Rattle.std.proofs.lemmas.Bool.{cases_lt}
use Rattle.std.proofs.lemmas.Slice.Eq.{bytes_eq-Decides}
use Rattle.ikey.specs.declared.entry.Entry.{Entry}
use Rattle.ikey.specs.declared.internal_key.Kind.{Kind}
use Rattle.ikey.specs.declared.internal_key.Kind.TheVariants.{Delete, Put}
use Rattle.ikey.specs.Entries.{InternalEntry, Pair, entry_of, value_of}
use Rattle.ikey.specs.Views.{Among, Contents, IsView, IsUnseen}
use Rattle.ikey.specs.Views.{IsNewest as IsNewestEntry}
use Rattle.cursor.specs.Places.{Cmp}
use Rattle.cursor.specs.Views.{IsNewest, IsViewList, HasPair}
use Rattle.cursor.proofs.Fronts.{on_test}

among_map : (entries : List InternalEntry) (x : InternalEntry) → Among entries x → Among (map entry_of entries) (entry_of x)
among_map [] x m = absurd m
among_map (y ∷ entries) x (inl e) = inl (ap entry_of e)
among_map (y ∷ entries) x (inr m) = inr (among_map entries x m)

among_unmap : (entries : List InternalEntry) (e : Entry) → Among (map entry_of entries) e → (x : InternalEntry) × Among entries x × (e ≡ entry_of x)
among_unmap [] e m = absurd m
among_unmap (y ∷ entries) e (inl s) = (y, inl refl, s)
among_unmap (y ∷ entries) e (inr m) = let h = among_unmap entries e m in (h.0, inr h.1, h.2)

newest_of : (entries : List InternalEntry) (sequence : ℕ) (x : InternalEntry) → IsNewest entries sequence x → IsNewestEntry (map entry_of entries) sequence (entry_of x)
newest_of entries sequence x h = record {
  member = among_map entries x h.member;
  seen = h.seen;
  greatest = λ other m key seen.
      let o = among_unmap entries other m in
      let long : other.sequence ≡ o.0.key.sequence = ap (λ (e : Entry). e.sequence) o.2 in
      let most = h.greatest o.0 o.1 (sym (ap (λ (e : Entry). e.key) o.2) ∙ key) (omega (arith, seen, long)) in
      omega (arith, most, long);
}

-- ---- an entry of the user key that is seen, or none

seen_or_not : (sequence : ℕ) (user : List ℕ) (x : InternalEntry) → ((x.key.user ≡ user) × (x.key.sequence ≤ sequence)) ⊎ (x.key.user ≡ user → sequence < x.key.sequence)
seen_or_not sequence user x = on_test (bytes_eq x.key.user user)
    (λ b. (bytes_eq x.key.user user ≡ b) → ((x.key.user ≡ user) × (x.key.sequence ≤ sequence)) ⊎ (x.key.user ≡ user → sequence < x.key.sequence))
    (λ t same. elim (cases_lt sequence x.key.sequence) [
      | inl new ↦ inr (λ e. new)
      | inr old ↦ inl ((bytes_eq-Decides x.key.user user).0 same, old)
    ])
    (λ t same. inr (λ e. let bad : true ≡ false = sym ((bytes_eq-Decides x.key.user user).1 e) ∙ same in absurd cc))
    refl

newest_or_none : (entries : List InternalEntry) (sequence : ℕ) (user : List ℕ)
    → ((x : InternalEntry) × IsNewest entries sequence x × (x.key.user ≡ user)) ⊎ ((x : InternalEntry) → Among entries x → x.key.user ≡ user → sequence < x.key.sequence)
newest_or_none [] sequence user = inr (λ x m. absurd m)
newest_or_none (y ∷ entries) sequence user = elim (seen_or_not sequence user y) [
  | inr not_seen ↦ elim (newest_or_none entries sequence user) [
    | inr none ↦ inr (λ x m. elim m [ inl e ↦ subst (λ (z : InternalEntry). z.key.user ≡ user → sequence < z.key.sequence) (sym e) not_seen | inr n ↦ none x n ])
    | inl h ↦ inl (
      h.0,
      record {
        member = inr h.1.member;
        seen = h.1.seen;
        greatest = λ other m same seen. elim m [
          | inl e ↦
              let new = not_seen (sym (ap (λ (z : InternalEntry). z.key.user) e) ∙ (same ∙ h.2)) in
              let long : other.key.sequence ≡ y.key.sequence = ap (λ (z : InternalEntry). z.key.sequence) e in
              absurd (omega (arith, new, long, seen))
          | inr n ↦ h.1.greatest other n same seen
        ];
      },
      h.2,
    )
  ]
  | inl is_seen ↦ elim (newest_or_none entries sequence user) [
    | inr none ↦ inl (
      y,
      record {
        member = inl refl;
        seen = is_seen.1;
        greatest = λ other m same seen. elim m [
          | inl e ↦ let long : other.key.sequence ≡ y.key.sequence = ap (λ (z : InternalEntry). z.key.sequence) e in omega (arith, long)
          | inr n ↦ let new = none other n (same ∙ is_seen.0) in absurd (omega (arith, new, seen))
        ];
      },
      is_seen.0,
    )
    | inl h ↦ elim (cases_lt h.0.key.sequence y.key.sequence) [
      | inl less ↦ inl (
        y,
        record {
          member = inl refl;
          seen = is_seen.1;
          greatest = λ other m same seen. elim m [
            | inl e ↦ let long : other.key.sequence ≡ y.key.sequence = ap (λ (z : InternalEntry). z.key.sequence) e in omega (arith, long)
            | inr n ↦ let most = h.1.greatest other n (same ∙ (is_seen.0 ∙ sym h.2)) seen in omega (arith, most, less)
          ];
        },
        is_seen.0,
      )
      | inr more ↦ inl (
        h.0,
        record {
          member = inr h.1.member;
          seen = h.1.seen;
          greatest = λ other m same seen. elim m [
            | inl e ↦ let long : other.key.sequence ≡ y.key.sequence = ap (λ (z : InternalEntry). z.key.sequence) e in omega (arith, long, more)
            | inr n ↦ h.1.greatest other n same seen
          ];
        },
        h.2,
      )
    ]
  ]
]

-- ---- both views

put_value : (kind : Kind) (value worth : List ℕ) → value_of kind value ≡ Some worth → (kind ≡ Put) × (value ≡ worth)
put_value Delete value worth e = absurd cc
put_value Put value worth e = (refl, let s : value ≡ worth = cc in s)

module _ (cmp : Cmp) (entries : List InternalEntry) (sequence : ℕ) (pairs : List Pair) (contents : Contents) (list : IsViewList cmp entries sequence pairs) (view : IsView (map entry_of entries) sequence contents) where
  pub listed_is_had : (pair : Pair) → HasPair pairs pair → get contents pair.key ≡ Some pair.value
  listed_is_had pair h =
      let x = list.found pair h in
      let found = view.found (entry_of x.0) (newest_of entries sequence x.0 x.1.0) in
      let worth : value_of x.0.key.kind x.0.value ≡ Some x.0.value = ap (λ (k : Kind). value_of k x.0.value) x.1.1 in
      ap (λ (p : Pair). get contents p.key) x.2 ∙ (found ∙ (worth ∙ sym (ap (λ (p : Pair). Some p.value) x.2)))

  pub had_is_listed : (pair : Pair) → get contents pair.key ≡ Some pair.value → HasPair pairs pair
  had_is_listed pair had = elim (newest_or_none entries sequence pair.key) [
    | inr none ↦
        let unseen : IsUnseen (map entry_of entries) sequence pair.key = λ e m key.
        let x = among_unmap entries e m in
        let long : e.sequence ≡ x.0.key.sequence = ap (λ (z : Entry). z.sequence) x.2 in
        let new = none x.0 x.1 (sym (ap (λ (z : Entry). z.key) x.2) ∙ key) in omega (arith, long, new) in
        let bad : None ≡ Some pair.value = sym (view.missing pair.key unseen) ∙ had in absurd cc
    | inl h ↦
        let found = view.found (entry_of h.0) (newest_of entries sequence h.0 h.1) in
        let worth : value_of h.0.key.kind h.0.value ≡ Some pair.value = sym found ∙ (ap (get contents) h.2 ∙ had) in
        let put = put_value h.0.key.kind h.0.value pair.value worth in
        subst (HasPair pairs) (λ i. record { key = h.2 i; value = put.1 i }) (list.covers h.0 (h.1, put.0))
  ]
