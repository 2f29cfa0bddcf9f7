-- That entries of which no two share a key and a sequence number have a view.
use Rattle.std.proofs.Common.{◌≡◌, ◌⊎◌, ℕ, ◌<◌, ◌≤◌, cond, Bool, true, false, List, [], ◌∷◌, Option, Some, None, inl, inr, refl, sym, ap, ◌∙◌, arith}
use Rattle.std.proofs.lemmas.Bool.{cases_lt}
use Rattle.std.specs.Ordering.{nat_cmp, eq_by_cmp}
use Rattle.std.specs.Cmp.Lexicographic.{slice_cmp, nat_list_cmp_total}
use Rattle.std.specs.FinMap.{get, empty, insert, remove, get-empty, get-insert, get-remove}
use Rattle.ikey.specs.declared.entry.Entry.{Entry}
use Rattle.ikey.specs.Views.{Among, Contents, IsNewest, IsUnseen, IsView}
use Rattle.recover.specs.Replacing.{AreDistinct}
use Rattle.engine.proofs.EntryViews.{same_key, same_of}

-- ---- the newest entry of a key

same_or : (a b : List ℕ) → (a ≡ b) ⊎ (a ≡ b → ⊥)
same_or a b = by (eq_by_cmp (slice_cmp nat_cmp) a b) refl
  where
    by : (t : Bool) → eq_by_cmp (slice_cmp nat_cmp) a b ≡ t → (a ≡ b) ⊎ (a ≡ b → ⊥)
    by true e = inl (same_of a b e)
    by false e = inr (λ same. let t : true ≡ false = sym (same_key a b same) ∙ e in cc)

-- one of them is it, or none is seen
abbrev Seen : List Entry → ℕ → List ℕ → Type 0
Seen entries s key = ((e : Entry) × IsNewest entries s e × (e.key ≡ key)) ⊎ IsUnseen entries s key

passed : (x : Entry) (entries : List Entry) (s : ℕ) (key : List ℕ) → (x.key ≡ key → s < x.sequence) → Seen entries s key → Seen (x ∷ entries) s key
passed x entries s key beyond (inl h) = inl (
  h.0,
  record {
    member = inr h.1.member;
    seen = h.1.seen;
    greatest = λ other i same seen. elim i [
      | inl is ↦
          let above : s < x.sequence = beyond (ap (λ (y : Entry). y.key) (sym is) ∙ same ∙ h.2) in
          let here : other.sequence ≡ x.sequence = ap (λ (y : Entry). y.sequence) is in
          absurd (omega (arith, above, here, seen))
      | inr j ↦ h.1.greatest other j same seen
    ];
  },
  h.2,
)
passed x entries s key beyond (inr none) = inr (λ e i same. elim i [
  | inl is ↦
      let above : s < x.sequence = beyond (ap (λ (y : Entry). y.key) (sym is) ∙ same) in
      let here : e.sequence ≡ x.sequence = ap (λ (y : Entry). y.sequence) is in
      omega (arith, above, here)
  | inr j ↦ none e j same
])

taken : (x : Entry) (entries : List Entry) (s : ℕ) → x.sequence ≤ s → ((e : Entry) → Among entries e → e.key ≡ x.key → e.sequence ≤ s → e.sequence ≤ x.sequence) → IsNewest (x ∷ entries) s x
taken x entries s seen below = record {
  member = inl refl;
  seen = seen;
  greatest = λ other i same up. elim i [
    | inl is ↦ (let here : other.sequence ≡ x.sequence = ap (λ (y : Entry). y.sequence) is in omega (arith, here))
    | inr j ↦ below other j same up
  ];
}

stays : (x e : Entry) (entries : List Entry) (s : ℕ) → x.sequence ≤ e.sequence → IsNewest entries s e → IsNewest (x ∷ entries) s e
stays x e entries s le h = record {
  member = inr h.member;
  seen = h.seen;
  greatest = λ other i same up. elim i [
    | inl is ↦ (let here : other.sequence ≡ x.sequence = ap (λ (y : Entry). y.sequence) is in omega (arith, here, le))
    | inr j ↦ h.greatest other j same up
  ];
}

beside : (x : Entry) (entries : List Entry) (s : ℕ) (key : List ℕ) → x.key ≡ key → x.sequence ≤ s → Seen entries s key → Seen (x ∷ entries) s key
beside x entries s key is seen (inl h) = elim (cases_lt h.0.sequence x.sequence) [
  | inl above ↦ inl (
    x,
    taken x entries s seen (λ e i same up. let le : e.sequence ≤ h.0.sequence = h.1.greatest e i (same ∙ is ∙ sym h.2) up in omega (arith, le, above)),
    is,
  )
  | inr le ↦ inl (h.0, stays x h.0 entries s le h.1, h.2)
]
beside x entries s key is seen (inr none) = inl (
  x,
  taken x entries s seen (λ e i same up. let above : s < e.sequence = none e i (same ∙ is) in absurd (omega (arith, above, up))),
  is,
)

newest_of : (entries : List Entry) (s : ℕ) (key : List ℕ) → Seen entries s key
newest_of [] s key = inr (λ e i. absurd i)
newest_of (x ∷ entries) s key = elim (same_or x.key key) [
  | inl is ↦ elim (cases_lt s x.sequence) [
    | inl above ↦ passed x entries s key (λ same. above) (newest_of entries s key)
    | inr seen ↦ beside x entries s key is seen (newest_of entries s key)
  ]
  | inr other ↦ passed x entries s key (λ same. absurd (other same)) (newest_of entries s key)
]

-- ---- the map of their values

value_in : {entries : List Entry} {s : ℕ} {key : List ℕ} → Seen entries s key → Option (List ℕ)
value_in (inl h) = h.0.value
value_in (inr none) = None

unfoldable value_at : List Entry → ℕ → List ℕ → Option (List ℕ)
value_at entries s key = value_in (newest_of entries s key)

after_value : Contents → List ℕ → Option (List ℕ) → Contents
after_value map key None = remove map key
after_value map key (Some value) = insert map key value

get-after_value : (map : Contents) (key : List ℕ) (o : Option (List ℕ)) (q : List ℕ) → get (after_value map key o) q ≡ cond (eq_by_cmp (slice_cmp nat_cmp) q key) o (get map q)
unfolding after_value
get-after_value map key None q = get-remove nat_list_cmp_total map key q
get-after_value map key (Some value) q = get-insert nat_list_cmp_total map key value q

-- the values of the keys of these entries
filled : List Entry → ℕ → List Entry → Contents
filled all s [] = empty
filled all s (x ∷ entries) = after_value (filled all s entries) x.key (value_at all s x.key)

pub map_of : List Entry → ℕ → Contents
map_of entries s = filled entries s entries

get-filled : (all : List Entry) (s : ℕ) (entries : List Entry) (key : List ℕ)
    → (get (filled all s entries) key ≡ value_at all s key) ⊎ ((get (filled all s entries) key ≡ None) × ((e : Entry) → Among entries e → e.key ≡ key → ⊥))
unfolding filled
get-filled all s [] key = inr (get-empty (slice_cmp nat_cmp) key, λ e i. absurd i)
get-filled all s (x ∷ entries) key = by (eq_by_cmp (slice_cmp nat_cmp) key x.key) refl (get-filled all s entries key)
  where
    by : (t : Bool) → eq_by_cmp (slice_cmp nat_cmp) key x.key ≡ t
        → (get (filled all s entries) key ≡ value_at all s key) ⊎ ((get (filled all s entries) key ≡ None) × ((e : Entry) → Among entries e → e.key ≡ key → ⊥))
        → (get (after_value (filled all s entries) x.key (value_at all s x.key)) key ≡ value_at all s key)
        ⊎ ((get (after_value (filled all s entries) x.key (value_at all s x.key)) key ≡ None) × ((e : Entry) → Among (x ∷ entries) e → e.key ≡ key → ⊥))
    by true e h =
        let got = get-after_value (filled all s entries) x.key (value_at all s x.key) key in
        inl (got ∙ ap (λ (t : Bool). cond t (value_at all s x.key) (get (filled all s entries) key)) e ∙ ap (λ (k : List ℕ). value_at all s k) (sym (same_of key x.key e)))
    by false e h =
        let got = get-after_value (filled all s entries) x.key (value_at all s x.key) key ∙ ap (λ (t : Bool). cond t (value_at all s x.key) (get (filled all s entries) key)) e in
        elim h [
          | inl is ↦ inl (got ∙ is)
          | inr none ↦ inr (
            got ∙ none.0,
            λ entry i same. elim i [
              | inl is ↦ (let t : true ≡ false = sym (same_key key x.key (sym same ∙ ap (λ (y : Entry). y.key) is)) ∙ e in cc)
              | inr j ↦ none.1 entry j same
            ],
          )
        ]

no_value : (entries : List Entry) (s : ℕ) (key : List ℕ) → ((e : Entry) → Among entries e → e.key ≡ key → ⊥) → value_at entries s key ≡ None
unfolding value_at value_in
no_value entries s key none = by (newest_of entries s key)
  where
    by : (h : Seen entries s key) → value_in h ≡ None
    by (inl h) = absurd (none h.0 h.1.member h.2)
    by (inr unseen) = refl

get-map : (entries : List Entry) (s : ℕ) (key : List ℕ) → get (map_of entries s) key ≡ value_at entries s key
unfolding map_of
get-map entries s key = elim (get-filled entries s entries key) [
  | inl is ↦ is
  | inr none ↦ none.0 ∙ sym (no_value entries s key none.1)
]

-- ---- that it is their view

one_of_same : (entries : List Entry) (a b : Entry) → AreDistinct entries → Among entries a → Among entries b → a.key ≡ b.key → a.sequence ≡ b.sequence → a ≡ b
one_of_same [] a b h i j key same = absurd i
one_of_same (x ∷ entries) a b h (inl e) (inl f) key same = e ∙ sym f
one_of_same (x ∷ entries) a b h (inl e) (inr j) key same =
    absurd (h.0 b j (ap (λ (y : Entry). y.key) (sym e) ∙ key) (ap (λ (y : Entry). y.sequence) (sym e) ∙ same))
one_of_same (x ∷ entries) a b h (inr i) (inl f) key same =
    absurd (h.0 a i (ap (λ (y : Entry). y.key) (sym f) ∙ sym key) (ap (λ (y : Entry). y.sequence) (sym f) ∙ sym same))
one_of_same (x ∷ entries) a b h (inr i) (inr j) key same = one_of_same entries a b h.1 i j key same

found_value : (entries : List Entry) (s : ℕ) (e : Entry) → AreDistinct entries → IsNewest entries s e → value_at entries s e.key ≡ e.value
unfolding value_at value_in
found_value entries s e distinct newest = by (newest_of entries s e.key)
  where
    by : (h : Seen entries s e.key) → value_in h ≡ e.value
    by (inl h) =
        let up : h.0.sequence ≤ e.sequence = newest.greatest h.0 h.1.member h.2 h.1.seen in
        let down : e.sequence ≤ h.0.sequence = h.1.greatest e newest.member (sym h.2) newest.seen in
        let tied : h.0.sequence ≡ e.sequence = omega (arith, up, down) in
        ap (λ (y : Entry). y.value) (one_of_same entries h.0 e distinct h.1.member newest.member h.2 tied)
    by (inr unseen) = (let above : s < e.sequence = unseen e newest.member refl in absurd (omega (arith, above, newest.seen)))

missing_value : (entries : List Entry) (s : ℕ) (key : List ℕ) → IsUnseen entries s key → value_at entries s key ≡ None
unfolding value_at value_in
missing_value entries s key unseen = by (newest_of entries s key)
  where
    by : (h : Seen entries s key) → value_in h ≡ None
    by (inl h) = (let above : s < h.0.sequence = unseen h.0 h.1.member h.2 in absurd (omega (arith, above, h.1.seen)))
    by (inr none) = refl

pub view_of : (entries : List Entry) (s : ℕ) → AreDistinct entries → IsView entries s (map_of entries s)
view_of entries s distinct = record {
  found = λ e newest. get-map entries s e.key ∙ found_value entries s e distinct newest;
  missing = λ key unseen. get-map entries s key ∙ missing_value entries s key unseen;
}
