-- What the first entry that isn't below a user key at a sequence number says of that key.
use Rattle.std.proofs.Common.{◌≡◌, ◌<◌, ◌≤◌, ℕ, List, [], ◌∷◌, ◌++◌, Option, Some, None, length, map, refl, sym, ap, ◌∙◌, subst, arith, inl, inr}
use Rattle.std.specs.Cmp.{IsTotalOrder, tied_itself, nat_cmp_is}
use Rattle.std.specs.FinMap.{IsAntisymmetric}
use Rattle.std.specs.List.{slice_get}
use Rattle.std.specs.Ordering.{nat_cmp, ordering_reverse, ordering_then}
use Rattle.std.specs.declared.cmp.Ordering.{Ordering}
use Rattle.std.specs.declared.cmp.Ordering.TheVariants.{Less}
use Rattle.std.proofs.lemmas.Bool.{cases_lt}
use Rattle.std.proofs.lemmas.Option.{slice_get_within}
use Rattle.coding.specs.Fixed.{fixed64}
use Rattle.cursor.specs.Places.{Cmp, Rises}
use Rattle.cursor.proofs.Befores.{before_cases, get_among, later_older, rises_get, same_get}
use Rattle.cursor.proofs.Fronts.{among_get}
use Rattle.cursor.proofs.Onwards.{index_cases}
use Rattle.ikey.specs.declared.entry.Entry.{Entry}
use Rattle.ikey.specs.declared.internal_key.Kind.{Kind}
use Rattle.ikey.specs.declared.internal_key.Kind.TheVariants.{Delete, Put}
use Rattle.ikey.specs.Below.{key_total}
use Rattle.ikey.specs.Entries.{InternalEntry, entry_of}
use Rattle.ikey.specs.Keys.{Key, IsFirstKey, key_cmp, tag, tag_of}
use Rattle.ikey.specs.Views.{Among, IsNewest, IsUnseen}
use Rattle.table_access.specs.Values.{IsLookUp, SaysOfEntry}

among_map : (entries : List InternalEntry) (x : InternalEntry) → Among entries x → Among (map entry_of entries) (entry_of x)
among_map [] x h = h
among_map (y ∷ entries) x (inl e) = inl (ap entry_of e)
among_map (y ∷ entries) x (inr h) = inr (among_map entries x h)

among_unmap : (entries : List InternalEntry) (e : Entry) → Among (map entry_of entries) e → (x : InternalEntry) × Among entries x × (e ≡ entry_of x)
among_unmap [] e h = absurd h
among_unmap (y ∷ entries) e (inl same) = (y, inl refl, same)
among_unmap (y ∷ entries) e (inr h) = let r = among_unmap entries e h in (r.0, inr r.1, r.2)

less_by_user : (o p : Ordering) → o ≡ Less → ordering_then o p ≡ Less
less_by_user o p e = ap (λ (x : Ordering). ordering_then x p) e

less_by_tag : (cmp : Cmp) → IsTotalOrder cmp → (k l : Key) → k.user ≡ l.user → tag_of l < tag_of k → key_cmp cmp k l ≡ Less
less_by_tag cmp total k l same less =
    ap (λ (x : Ordering). ordering_then x (nat_cmp (tag_of l) (tag_of k))) (ap (λ (a : List ℕ). cmp a l.user) same ∙ tied_itself total l.user)
    ∙ sym (nat_cmp_is (tag_of l) (tag_of k) Less less)

newer_tag : (m n : ℕ) (k l : Kind) → n < m → tag n l < tag m k
newer_tag m n Delete Delete h = omega (arith, h)
newer_tag m n Delete Put h = omega (arith, h)
newer_tag m n Put Delete h = omega (arith, h)
newer_tag m n Put Put h = omega (arith, h)

module _ (cmp : Cmp) (total : IsTotalOrder cmp) (exact : IsAntisymmetric cmp) where
  pub below_by_user : (k l : Key) → cmp k.user l.user ≡ Less → key_cmp cmp k l ≡ Less
  below_by_user k l e = less_by_user (cmp k.user l.user) _ e

  module _ (user : List ℕ) (sequence : ℕ) (bytes : List ℕ) (h : IsFirstKey user sequence bytes) where
    -- an entry of the user key that is seen isn't below
    pub seen_not_below : (k : Key) → k.user ≡ user → k.sequence ≤ sequence → key_cmp cmp k h.key ≡ Less → ⊥
    seen_not_below k same seen below = h.first cmp total k same seen ((key_total cmp total).antisymm h.key k ∙ ap ordering_reverse below)

    module _ (entries : List InternalEntry) (rises : Rises cmp entries) where
      -- No entry of the user key is seen, where none is at any index.
      pub unseen : ((k : ℕ) (x : InternalEntry) → slice_get entries k ≡ Some x → x.key.user ≡ user → x.key.sequence ≤ sequence → ⊥) → IsUnseen (map entry_of entries) sequence user
      unseen none entry member same =
          let m = among_unmap entries entry member in
          let key : m.0.key.user ≡ user = sym (ap (λ (e : Entry). e.key) m.2) ∙ same in
          let at = get_among entries m.0 m.1 in
          elim (cases_lt sequence m.0.key.sequence) [
            | inl new ↦ subst (λ (e : Entry). sequence < e.sequence) (sym m.2) new
            | inr seen ↦ absurd (none at.0 m.0 at.1 key seen)
          ]

      module _ (n : ℕ) (front : (k : ℕ) (x : InternalEntry) → k < n → slice_get entries k ≡ Some x → key_cmp cmp x.key h.key ≡ Less)
          (stop : (x : InternalEntry) → slice_get entries n ≡ Some x → key_cmp cmp x.key h.key ≡ Less → ⊥) where
        behind : (k : ℕ) (x : InternalEntry) → slice_get entries k ≡ Some x → x.key.user ≡ user → x.key.sequence ≤ sequence → n ≤ k
        behind k x at same seen = elim (cases_lt k n) [
          | inl l ↦ absurd (seen_not_below x.key same seen (front k x l at))
          | inr ge ↦ ge
        ]

        pub nothing_there : length entries ≤ n → IsUnseen (map entry_of entries) sequence user
        nothing_there end = unseen (λ k x at same seen. let le = behind k x at same seen in let w = slice_get_within entries k x at in absurd (omega (arith, le, w, end)))

        module _ (entry : InternalEntry) (there : slice_get entries n ≡ Some entry) where
          is_seen : entry.key.user ≡ user → entry.key.sequence ≤ sequence
          is_seen same = elim (cases_lt sequence entry.key.sequence) [
            | inr seen ↦ seen
            | inl new ↦
                let q = h.visible in
                absurd (stop entry there (less_by_tag cmp total entry.key h.key (same ∙ sym h.user_is) (newer_tag entry.key.sequence h.key.sequence entry.key.kind h.key.kind (omega (arith, new, q)))))
          ]

          newest : entry.key.user ≡ user → IsNewest (map entry_of entries) sequence (entry_of entry)
          newest same = record {
            member = among_map entries entry (among_get entries n entry there);
            seen = is_seen same;
            greatest = λ other member key seen.
                let m = among_unmap entries other member in
                let user_is : m.0.key.user ≡ entry.key.user = sym (ap (λ (e : Entry). e.key) m.2) ∙ key in
                let at = get_among entries m.0 m.1 in
                let le = behind at.0 m.0 at.1 (user_is ∙ same) (subst (λ (e : Entry). e.sequence ≤ sequence) m.2 seen) in
                let older : m.0.key.sequence ≤ entry.key.sequence = elim (index_cases n at.0) [
                  | inl l ↦ later_older cmp total exact entry.key m.0.key (rises_get cmp entries n at.0 entry m.0 rises l there at.1) (sym user_is)
                  | inr (inl s) ↦
                      let is : m.0 ≡ entry = same_get entries n m.0 entry (subst (λ (i : ℕ). slice_get entries i ≡ Some m.0) (sym s) at.1) there in
                      let e = ap (λ (x : InternalEntry). x.key.sequence) is in omega (arith, e)
                  | inr (inr g) ↦ absurd (omega (arith, le, g))
                ] in
                subst (λ (e : Entry). e.sequence ≤ entry.key.sequence) (sym m.2) older;
          }

          -- the entry is of a higher user key
          other_there : (entry.key.user ≡ user → ⊥) → IsUnseen (map entry_of entries) sequence user
          other_there other = unseen (λ k x at same seen.
              let le = behind k x at same seen in
              elim (index_cases n k) [
                | inl l ↦ elim (before_cases cmp total exact entry.key x.key (rises_get cmp entries n k entry x rises l there at)) [
                  | inl less ↦ stop entry there (below_by_user entry.key h.key (subst (λ (a : List ℕ). cmp entry.key.user a ≡ Less) (same ∙ sym h.user_is) less))
                  | inr s ↦ other (s.0 ∙ same)
                ]
                | inr (inl s) ↦
                    let is : x ≡ entry = same_get entries n x entry (subst (λ (i : ℕ). slice_get entries i ≡ Some x) (sym s) at) there in
                    other (sym (ap (λ (y : InternalEntry). y.key.user) is) ∙ same)
                | inr (inr g) ↦ absurd (omega (arith, le, g))
              ])

          pub found_there : (value : Option (Option (List ℕ))) → SaysOfEntry entry user value → IsLookUp (map entry_of entries) sequence user value
          found_there None says = other_there says
          found_there (Some value) says = (entry_of entry, newest says.0, says.0, says.1)

-- the first internal key of a user key up to a sequence number is one
pub one_first_key : (cmp : Cmp) → IsTotalOrder cmp → IsAntisymmetric cmp → (user : List ℕ) (sequence : ℕ) (a b : List ℕ) → IsFirstKey user sequence a → IsFirstKey user sequence b → a ≡ b
one_first_key cmp total exact user sequence a b h k =
    let same : h.key.user ≡ k.key.user = h.user_is ∙ sym k.user_is in
    let tags : tag_of h.key ≡ tag_of k.key = elim (cases_lt (tag_of h.key) (tag_of k.key)) [
      | inl l ↦ absurd (seen_not_below cmp total exact user sequence a h k.key k.user_is k.visible (less_by_tag cmp total k.key h.key (sym same) l))
      | inr ge ↦ elim (cases_lt (tag_of k.key) (tag_of h.key)) [
        | inl l ↦ absurd (seen_not_below cmp total exact user sequence b k h.key h.user_is h.visible (less_by_tag cmp total h.key k.key same l))
        | inr le ↦ omega (arith, ge, le)
      ]
    ] in
    h.encoded.parts ∙ (λ i. same i ++ fixed64 (tags i)) ∙ sym k.encoded.parts
