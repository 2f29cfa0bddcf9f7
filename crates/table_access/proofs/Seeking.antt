-- Where a search by internal key ends.
use Rattle.std.proofs.Common.{◌≡◌, ◌+◌, ◌<◌, ◌≤◌, ℕ, zero, suc, Bool, true, false, cond, nat_lt, List, [], ◌∷◌, ◌++◌, Option, Some, None, length, map, refl, sym, ap, subst, ◌∙◌, arith, inl, inr}
use Rattle.std.proofs.lemmas.Bool.{cases_lt, ltb-true, ltb-false, lt-ltb, false_from_ne_true}
use Rattle.std.proofs.lemmas.List.{append-nil, append_assoc}
use Rattle.std.specs.List.{AllByRecursion}
use Rattle.std.specs.Prelude.{◌==◌}
use Rattle.std.specs.declared.cmp.Ordering.{Ordering}
use Rattle.std.specs.declared.cmp.Ordering.TheVariants.{Less, Equal, Greater}
use Rattle.std.specs.Ordering.{match_ordering, nat_cmp, ordering_then, ordering_reverse}
use Rattle.std.specs.Cmp.{IsTotalOrder, tied_itself}
use Rattle.std.specs.FinMap.{IsAntisymmetric}
use Rattle.ikey.specs.Below.{key_total}
use Rattle.ikey.specs.declared.entry.Entry.{Entry}
use Rattle.ikey.specs.declared.internal_key.Kind.{Kind}
use Rattle.ikey.specs.declared.internal_key.Kind.TheVariants.{Delete, Put}
use Rattle.ikey.specs.Entries.{InternalEntry, internal_entry_of, internal_key_of, kind_of}
use Rattle.ikey.specs.Keys.{Key, key_cmp, tag_of, kind_number}
use Rattle.memtable.specs.Contents.{entry_at}
use Rattle.memtable.specs.Order.{Placed, is_before, ordered, RisesInternally}
use Rattle.memtable.specs.Places.{IsSought, first_of, up_to}
use Rattle.memtable.proofs.Orders.{all-map, all-append, stands-insert}
use Rattle.cursor.specs.Places.{Cmp, Listed, is_less, is_below, leading, within, first_from}
use Rattle.cursor.proofs.Orders.{less_is}
use Rattle.table_access.specs.Memory.{IsFrom, entry_listed}
use Rattle.table_access.proofs.Seen.{all_up_to, up_to_append}

-- ---- tags

small : (kind : Kind) → kind_number kind ≤ 1
small Delete = omega arith
small Put = omega arith

nat_less : (a b : ℕ) → a < b → is_less (nat_cmp a b) ≡ true
nat_less a b h = ap (λ (t : Bool). is_less (cond t Less (cond (a == b) Equal Greater))) (lt-ltb a b h)

neither : (t : Bool) → is_less (cond t Equal Greater) ≡ false
neither true = refl
neither false = refl

not_nat_less : (a b : ℕ) → b ≤ a → is_less (nat_cmp a b) ≡ false
not_nat_less a b h =
    let no_less : nat_lt a b ≡ false = false_from_ne_true (nat_lt a b) (λ t. let l = ltb-true a b t in absurd (omega (arith, l, h))) in
    ap (λ (t : Bool). is_less (cond t Less (cond (a == b) Equal Greater))) no_less ∙ neither (a == b)

less_nat : (a b : ℕ) → is_less (nat_cmp a b) ≡ true → a < b
less_nat a b e = elim (cases_lt a b) [
  | inl l ↦ l
  | inr h ↦ let bad : true ≡ false = sym e ∙ not_nat_less a b h in absurd cc
]

module _ (cmp : Cmp) (total : IsTotalOrder cmp) (exact : IsAntisymmetric cmp) (key : Key) where
  abbrev Below : Entry → Type 0
  Below entry = is_below cmp key (internal_entry_of entry) ≡ true

  abbrev NotBelow : Entry → Type 0
  NotBelow entry = is_below cmp key (internal_entry_of entry) ≡ false

  abbrev IsBefore : Entry → Type 0
  IsBefore entry = is_before cmp key.user key.sequence entry ≡ true

  from_order : (order : Ordering) (entry : Entry) → match_ordering order true (nat_lt key.sequence entry.sequence) false ≡ true → is_less (ordering_then order (nat_cmp (tag_of key) (tag_of (internal_key_of entry)))) ≡ true
  from_order Less entry h = refl
  from_order Equal entry h =
      let newer = ltb-true key.sequence entry.sequence h in
      let one = small key.kind in
      nat_less (tag_of key) (tag_of (internal_key_of entry)) (omega (arith, newer, one))
  from_order Greater entry h = let bad : false ≡ true = h in cc

  -- what stands before the user key and sequence number is below the key
  before_below : (entry : Entry) → IsBefore entry → Below entry
  before_below entry h = from_order (cmp entry.key key.user) entry h

  -- what comes after an entry that isn't below the key isn't either
  later_not_below : (entry later : Entry) → NotBelow entry → key_cmp cmp (internal_key_of entry) (internal_key_of later) ≡ Less → NotBelow later
  later_not_below entry later h less = false_from_ne_true (is_below cmp key (internal_entry_of later))
      (λ t.
      let both = (key_total cmp total).trans (internal_key_of entry) (internal_key_of later) key less (less_is (key_cmp cmp (internal_key_of later) key) t) in
      let bad : true ≡ false = sym (ap is_less both) ∙ h in cc)

  -- an entry below the key that doesn't stand before its user key and sequence number is the put
  -- where the key is the delete
  record IsItsPut (entry : Entry) : Type 0 where
    pub user : entry.key ≡ key.user
    pub tag : tag_of (internal_key_of entry) ≡ tag_of key + 1

  put_order : (order : Ordering) (entry : Entry) → cmp entry.key key.user ≡ order → match_ordering order true (nat_lt key.sequence entry.sequence) false ≡ false
      → is_less (ordering_then order (nat_cmp (tag_of key) (tag_of (internal_key_of entry)))) ≡ true → IsItsPut entry
  put_order Less entry e h k = let bad : true ≡ false = h in absurd cc
  put_order Equal entry e h k =
      let seen = ltb-false key.sequence entry.sequence h in
      let less = less_nat (tag_of key) (tag_of (internal_key_of entry)) k in
      let one = small key.kind in
      let other = small (kind_of entry.value) in
      record { user = exact entry.key key.user e; tag = omega (arith, seen, less, one, other) }
  put_order Greater entry e h k = let bad : false ≡ true = k in absurd cc

  is_its_put : (entry : Entry) → is_before cmp key.user key.sequence entry ≡ false → Below entry → IsItsPut entry
  is_its_put entry h k = put_order (cmp entry.key key.user) entry refl h k

  behind_order : (order : Ordering) (entry later : Entry) → cmp entry.key later.key ≡ order → IsItsPut entry → ordering_then order (nat_cmp (tag_of (internal_key_of later)) (tag_of (internal_key_of entry))) ≡ Less → NotBelow later
  behind_order Less entry later e put h =
      let less : cmp key.user later.key ≡ Less = subst (λ (k : List ℕ). cmp k later.key ≡ Less) put.user e in
      let greater : cmp later.key key.user ≡ Greater = total.antisymm later.key key.user ∙ ap ordering_reverse less in
      ap (λ (o : Ordering). is_less (ordering_then o (nat_cmp (tag_of key) (tag_of (internal_key_of later))))) greater
  behind_order Equal entry later e put h =
      let same : later.key ≡ key.user = sym (exact entry.key later.key e) ∙ put.user in
      let tied : cmp later.key key.user ≡ Equal = subst (λ (k : List ℕ). cmp later.key k ≡ Equal) same (tied_itself total later.key) in
      let less = less_nat (tag_of (internal_key_of later)) (tag_of (internal_key_of entry)) (ap is_less h) in
      let put_tag = put.tag in
      ap (λ (o : Ordering). is_less (ordering_then o (nat_cmp (tag_of key) (tag_of (internal_key_of later))))) tied
      ∙ not_nat_less (tag_of key) (tag_of (internal_key_of later)) (omega (arith, less, put_tag))
  behind_order Greater entry later e put h = let bad : Greater ≡ Less = h in absurd cc

  -- what comes after that put isn't below the key
  behind_put : (entry later : Entry) → IsItsPut entry → key_cmp cmp (internal_key_of entry) (internal_key_of later) ≡ Less → NotBelow later
  behind_put entry later put h = behind_order (cmp entry.key later.key) entry later refl put h

  -- ---- in order

  behind_rises : (front : List Placed) (one : Placed) (back : List Placed) → RisesInternally cmp (front ++ one ∷ back)
      → AllByRecursion (λ (later : Placed). key_cmp cmp (internal_key_of one.entry) (internal_key_of later.entry) ≡ Less) back
  behind_rises [] one back h = h.0
  behind_rises (first ∷ front) one back h = behind_rises front one back h.1

  module _ (placed : List Placed) (rises : RisesInternally cmp placed) where
    -- all entries are below
    pub from_none : IsSought cmp key.user key.sequence placed None → IsFrom cmp key placed None
    from_none h = record {
      front = placed;
      back = [];
      placed_is = sym (append-nil placed);
      node_is = refl;
      below = all-map (λ (one : Placed). IsBefore one.entry) (λ (one : Placed). Below one.entry) placed (λ one b. before_below one.entry b) h;
      others = tt;
    }

    later_of : (front back : List Placed) (node : ℕ) (entry : Entry) → placed ≡ front ++ record { node = node; entry = entry } ∷ back
        → AllByRecursion (λ (later : Placed). key_cmp cmp (internal_key_of entry) (internal_key_of later.entry) ≡ Less) back
    later_of front back node entry is = behind_rises front (record { node = node; entry = entry }) back (subst (RisesInternally cmp) is rises)

    -- the entry found isn't below
    pub from_here : (node : ℕ) → (h : IsSought cmp key.user key.sequence placed (Some node)) → NotBelow h.1 → IsFrom cmp key placed (Some node)
    from_here node h other = record {
      front = h.0;
      back = record { node = node; entry = h.1 } ∷ h.2;
      placed_is = h.3;
      node_is = refl;
      below = all-map (λ (one : Placed). IsBefore one.entry) (λ (one : Placed). Below one.entry) h.0 (λ one b. before_below one.entry b) h.4;
      others = (
        other,
        all-map (λ (later : Placed). key_cmp cmp (internal_key_of h.1) (internal_key_of later.entry) ≡ Less) (λ (later : Placed). NotBelow later.entry) h.2 (λ later l. later_not_below h.1 later.entry other l)
            (later_of h.0 h.2 node h.1 h.3),
      );
    }

    -- it is, and all after it aren't
    pub from_next : (node : ℕ) (next : Option ℕ) → (h : IsSought cmp key.user key.sequence placed (Some node)) → Below h.1 → next ≡ first_of h.2 → IsFrom cmp key placed next
    from_next node next h below next_is = record {
      front = h.0 ++ record { node = node; entry = h.1 } ∷ [];
      back = h.2;
      placed_is = h.3 ∙ sym (append_assoc h.0 (record { node = node; entry = h.1 } ∷ []) h.2);
      node_is = next_is;
      below = all-append (λ (one : Placed). Below one.entry) h.0 (record { node = node; entry = h.1 } ∷ [])
          (all-map (λ (one : Placed). IsBefore one.entry) (λ (one : Placed). Below one.entry) h.0 (λ one b. before_below one.entry b) h.4) (below, tt);
      others = all-map (λ (later : Placed). key_cmp cmp (internal_key_of h.1) (internal_key_of later.entry) ≡ Less) (λ (later : Placed). NotBelow later.entry) h.2
          (λ later l. behind_put h.1 later.entry (is_its_put h.1 h.5 below) l) (later_of h.0 h.2 node h.1 h.3);
    }

-- a search finds the entry of its node
pub sought_entry : (cmp : Cmp) (inserts : List Entry) (user : List ℕ) (sequence node : ℕ) (entry : Entry) → (h : IsSought cmp user sequence (ordered cmp inserts) (Some node)) → entry_at inserts node ≡ Some entry → entry ≡ h.1
sought_entry cmp inserts user sequence node entry h at =
    let both : Some entry ≡ Some h.1 = sym at ∙ (stands-insert cmp inserts h.0 h.2 node h.1 h.3).1 in cc

-- ---- the place that is sought

leading_none : (test : InternalEntry → Bool) (back : List Placed) → AllByRecursion (λ (one : Placed). test (entry_listed one) ≡ false) back → leading test (map entry_listed back) ≡ 0
leading_none test [] h = refl
leading_none test (one ∷ back) h = ap (λ (b : Bool). cond b (suc (leading test (map entry_listed back))) zero) h.0

leading_all : (test : InternalEntry → Bool) (front back : List Placed) → AllByRecursion (λ (one : Placed). test (entry_listed one) ≡ true) front
    → AllByRecursion (λ (one : Placed). test (entry_listed one) ≡ false) back → leading test (map entry_listed (front ++ back)) ≡ length front
leading_all test [] back h k = leading_none test back k
leading_all test (one ∷ front) back h k =
    ap (λ (b : Bool). cond b (suc (leading test (map entry_listed (front ++ back)))) zero) h.0 ∙ ap suc (leading_all test front back h.1 k)

pub sought_is : (cmp : Cmp) (sequence : ℕ) (key : Key) (placed : List Placed) (place : Option ℕ) (at : Listed) → at.entries ≡ map entry_listed (up_to sequence placed) → (from : IsFrom cmp key placed place)
    → within at.entries (length (up_to sequence from.front)) ≡ within at.entries (first_from cmp key at.entries)
sought_is cmp sequence key placed place at is from =
    let split : up_to sequence placed ≡ up_to sequence from.front ++ up_to sequence from.back = ap (up_to sequence) from.placed_is ∙ up_to_append sequence from.front from.back in
    ap (within at.entries)
    (sym
    (ap (first_from cmp key) (is ∙ ap (map entry_listed) split)
    ∙ leading_all (is_below cmp key) (up_to sequence from.front) (up_to sequence from.back)
    (all_up_to sequence (λ (one : Placed). is_below cmp key (entry_listed one) ≡ true) from.front from.below)
    (all_up_to sequence (λ (one : Placed). is_below cmp key (entry_listed one) ≡ false) from.back from.others)))
