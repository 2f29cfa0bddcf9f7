-- Which entries of a table come before what is sought.
use Rattle.std.proofs.Common.{◌≡◌, ◌≢◌, ◌⊎◌, inl, inr, ◌+◌, ◌*◌, ◌<◌, ◌≤◌, ℕ, List, refl, sym, ap, ◌∙◌, subst, arith}
use Rattle.std.proofs.lemmas.Bool.{cases_lt}
use Rattle.std.specs.Cmp.{IsTotalOrder, tied_itself, nat_cmp_is}
use Rattle.std.specs.FinMap.{IsAntisymmetric}
use Rattle.std.specs.Ordering.{nat_cmp, ordering_then}
use Rattle.std.specs.declared.cmp.Ordering.{Ordering}
use Rattle.std.specs.declared.cmp.Ordering.TheVariants.{Less, Equal, Greater}
use Rattle.ikey.specs.declared.entry.Entry.{Entry}
use Rattle.ikey.specs.declared.internal_key.Kind.{Kind}
use Rattle.ikey.specs.declared.internal_key.Kind.TheVariants.{Delete, Put}
use Rattle.ikey.specs.Entries.{internal_key_of, kind_of}
use Rattle.ikey.specs.Keys.{Key, IsKey, IsFirstKey, key_cmp, tag_of, kind_number}
use Rattle.ikey.specs.Below.{IsBelowInternal, same_key}
use Rattle.ikey.specs.Orders.{Order}
use Rattle.ikey.specs.Sources.{ComesBefore, ComesBeforeSought}
use Rattle.ikey.specs.Views.{Among}
use Rattle.recover.specs.Tables.{TableContent}
use Rattle.versions.specs.Searches.{EndsBelow}
use Rattle.version_laws.specs.Places.{FitsEdit}

-- ---- numbers

less_is : (m n : ℕ) → m < n → nat_cmp m n ≡ Less
less_is m n h = sym (nat_cmp_is m n Less h)

is_less : (m n : ℕ) → nat_cmp m n ≡ Less → m < n
is_less m n e = elim (cases_lt m n) [
  | inl lt ↦ lt
  | inr le ↦ elim (cases_lt n m) [
    | inl gt ↦ absurd (let g : Greater ≡ nat_cmp m n = nat_cmp_is m n Greater gt in let t : Greater ≡ Less = g ∙ e in cc)
    | inr ge ↦ absurd (let same : m ≡ n = omega (arith, le, ge) in let q : Equal ≡ nat_cmp m n = nat_cmp_is m n Equal same in let t : Equal ≡ Less = q ∙ e in cc)
  ]
]

not_greater : (m n : ℕ) → nat_cmp m n ≢ Greater → m ≤ n
not_greater m n h = elim (cases_lt n m) [
  | inl gt ↦ absurd (h (sym (nat_cmp_is m n Greater gt)))
  | inr le ↦ le
]

pub kind_at_most : (k : Kind) → kind_number k ≤ 1
kind_at_most Delete = omega arith
kind_at_most Put = omega arith

pub less_parts : (o : Ordering) (m n : ℕ) → ordering_then o (nat_cmp m n) ≡ Less → (o ≡ Less) ⊎ ((o ≡ Equal) × (m < n))
less_parts Less m n e = inl refl
less_parts Equal m n e = inr (refl, is_less m n e)
less_parts Greater m n e = absurd (let t : Greater ≡ Less = e in cc)

-- ---- one table

module _ (order : Order) (o : IsTotalOrder order.cmp) (exact : IsAntisymmetric order.cmp) (user : List ℕ) (sequence : ℕ) (key : List ℕ) (first : IsFirstKey user sequence key) where
  -- the sought key has the sequence number and is a put
  low_tag : sequence * 256 + 1 ≤ tag_of first.key
  low_tag =
      let other : Key = record { user = user; sequence = sequence; kind = Put } in
      let h = first.first order.cmp o other refl (omega arith) in
      let tied : order.cmp first.key.user user ≡ Equal = ap (λ (k : List ℕ). order.cmp k user) first.user_is ∙ tied_itself o user in
      not_greater (tag_of other) (tag_of first.key) (λ e. h (ap (λ (c : Ordering). ordering_then c (nat_cmp (tag_of other) (tag_of first.key))) tied ∙ e))

  -- an entry whose internal key is below the sought one comes before it
  from_below : (entry : Entry) (bytes : List ℕ) → IsKey bytes (internal_key_of entry) → IsBelowInternal order.cmp bytes key → ComesBeforeSought order sequence user entry
  from_below entry bytes mine below =
      let k = below.0 in
      let l = below.1 in
      let left : k ≡ internal_key_of entry = same_key bytes k (internal_key_of entry) below.2 mine in
      let right : l ≡ first.key = same_key key l first.key below.3 first.encoded in
      let less : key_cmp order.cmp (internal_key_of entry) first.key ≡ Less = (λ i. key_cmp order.cmp (sym left i) (sym right i)) ∙ below.4 in
      elim (less_parts (order.cmp entry.key first.key.user) (tag_of first.key) (tag_of (internal_key_of entry)) less) [
        | inl lt ↦ inl (ap (λ (u : List ℕ). order.cmp entry.key u) (sym first.user_is) ∙ lt)
        | inr h ↦
            let at_most = kind_at_most (kind_of entry.value) in
            inr (exact entry.key first.key.user h.0 ∙ first.user_is, omega (arith, h.1, low_tag, at_most))
      ]

  -- and back
  to_below : (entry : Entry) (bytes : List ℕ) → IsKey bytes (internal_key_of entry) → ComesBeforeSought order sequence user entry → IsBelowInternal order.cmp bytes key
  to_below entry bytes mine before = (internal_key_of entry, first.key, mine, first.encoded, less before)
    where
      less : ComesBeforeSought order sequence user entry → key_cmp order.cmp (internal_key_of entry) first.key ≡ Less
      less (inl lt) = ap (λ (c : Ordering). ordering_then c (nat_cmp (tag_of first.key) (tag_of (internal_key_of entry)))) (ap (λ (u : List ℕ). order.cmp entry.key u) first.user_is ∙ lt)
      less (inr h) =
          let tied : order.cmp entry.key first.key.user ≡ Equal = (λ i. order.cmp (h.0 i) (first.user_is i)) ∙ tied_itself o user in
          let at_most = kind_at_most first.key.kind in
          let seen = first.visible in
          ap (λ (c : Ordering). ordering_then c (nat_cmp (tag_of first.key) (tag_of (internal_key_of entry)))) tied ∙ less_is (tag_of first.key) (tag_of (internal_key_of entry)) (omega (arith, h.1, at_most, seen))

  -- what comes before an entry that does, does
  before_by : (a b : Entry) → (a ≡ b) ⊎ ComesBefore order a b → ComesBeforeSought order sequence user b → ComesBeforeSought order sequence user a
  before_by a b (inl same) h = subst (λ (e : Entry). ComesBeforeSought order sequence user e) (sym same) h
  before_by a b (inr (inl x)) (inl y) = inl (o.trans a.key b.key user x y)
  before_by a b (inr (inl x)) (inr y) = inl (subst (λ (k : List ℕ). order.cmp a.key k ≡ Less) y.0 x)
  before_by a b (inr (inr x)) (inl y) = inl (subst (λ (k : List ℕ). order.cmp k user ≡ Less) (sym x.0) y)
  before_by a b (inr (inr x)) (inr y) = inr (x.0 ∙ y.0, omega (arith, x.1, y.1))

  -- a table that ends below the key has none but entries that come before what is sought
  pub all_before : (content : TableContent) → FitsEdit order content → EndsBelow order.cmp key content.placed → (e : Entry) → Among content.entries e → ComesBeforeSought order sequence user e
  all_before content h below e i = before_by e h.largest.0 (h.largest.3 e i) (from_below h.largest.0 content.placed.table.largest h.largest.2 below)

  -- one that doesn't has its last entry from there on
  pub last_not : (content : TableContent) → (h : FitsEdit order content) → (EndsBelow order.cmp key content.placed → ⊥) → ComesBeforeSought order sequence user h.largest.0 → ⊥
  last_not content h none before = none (to_below h.largest.0 content.placed.table.largest h.largest.2 before)

  -- it can be told which
  sought_or_not : (entry : Entry) → ComesBeforeSought order sequence user entry ⊎ (ComesBeforeSought order sequence user entry → ⊥)
  sought_or_not entry = by (order.cmp entry.key user) refl
    where
      by : (c : Ordering) → order.cmp entry.key user ≡ c → ComesBeforeSought order sequence user entry ⊎ (ComesBeforeSought order sequence user entry → ⊥)
      by Less e = inl (inl e)
      by Equal e = elim (cases_lt sequence entry.sequence) [
        | inl lt ↦ inl (inr (exact entry.key user e, lt))
        | inr le ↦ inr (λ before. elim before [ inl less ↦ (let t : Equal ≡ Less = sym e ∙ less in cc) | inr h ↦ omega (arith, h.1, le) ])
      ]
      by Greater e = inr (λ before. elim before [
        | inl less ↦ (let t : Greater ≡ Less = sym e ∙ less in cc)
        | inr h ↦ (let t : Greater ≡ Equal = sym e ∙ ap (λ (k : List ℕ). order.cmp k user) h.0 ∙ tied_itself o user in cc)
      ])

  pub ends_or_not : (content : TableContent) → FitsEdit order content → EndsBelow order.cmp key content.placed ⊎ (EndsBelow order.cmp key content.placed → ⊥)
  ends_or_not content h =
      elim (sought_or_not h.largest.0) [
        | inl before ↦ inl (to_below h.largest.0 content.placed.table.largest h.largest.2 before)
        | inr none ↦ inr (λ below. none (from_below h.largest.0 content.placed.table.largest h.largest.2 below))
      ]
