-- The entries of a memtable in internal order.
use Rattle.std.proofs.Common.{◌≡◌, ◌⊎◌, ℕ, true, false, Some, None, List, [], ◌∷◌, ◌++◌, map, nat_lt, inl, inr, refl, sym, ap, subst, ◌∙◌}
use Rattle.std.proofs.lemmas.Bool.{ltb-true}
use Rattle.std.proofs.lemmas.List.{reverse-append}
use Rattle.std.specs.List.{AllByRecursion}
use Rattle.std.specs.FinMap.{IsAntisymmetric}
use Rattle.std.specs.Ordering.{match_ordering}
use Rattle.std.specs.declared.cmp.Ordering.{Ordering}
use Rattle.std.specs.declared.cmp.Ordering.TheVariants.{Less, Equal, Greater}
use Rattle.ikey.specs.declared.entry.Entry.{Entry}
use Rattle.ikey.specs.Orders.{Order}
use Rattle.ikey.specs.Sources.{ComesBefore, AreSorted, SameEntries}
use Rattle.ikey.specs.Views.{Among}
use Rattle.memtable.specs.Contents.{entry_at}
use Rattle.memtable.specs.Order.{Placed, is_before, ordered, Rises}
use Rattle.memtable.specs.Places.{first_of, last_of}
use Rattle.memtable.proofs.Orders.{all-map, all-among, among-all, all-ordered, ordered-all, stands-insert}

abbrev pub entries_in : List Placed → List Entry
entries_in placed = map (λ (one : Placed). one.entry) placed

-- ---- which entries these are

all_listed : (P : Entry → Type 0) (placed : List Placed) (entry : Entry) → AllByRecursion (λ (one : Placed). P one.entry) placed → Among (entries_in placed) entry → P entry
all_listed P [] entry h i = absurd i
all_listed P (one ∷ placed) entry h (inl e) = subst P (sym e) h.0
all_listed P (one ∷ placed) entry h (inr i) = all_listed P placed entry h.1 i

each_listed : (placed : List Placed) → AllByRecursion (λ (one : Placed). Among (entries_in placed) one.entry) placed
each_listed [] = tt
each_listed (one ∷ placed) = (
  inl refl,
  all-map (λ (other : Placed). Among (entries_in placed) other.entry) (λ (other : Placed). Among (entries_in (one ∷ placed)) other.entry) placed (λ other i. inr i) (each_listed placed),
)

-- in order they are those that were put in
pub same_entries : (cmp : List ℕ → List ℕ → Ordering) (inserts : List Entry) → SameEntries (entries_in (ordered cmp inserts)) inserts
same_entries cmp inserts entry = (
  λ i. all_listed (Among inserts) (ordered cmp inserts) entry (all-ordered cmp (Among inserts) inserts (all-among (Among inserts) inserts (λ e j. j))) i,
  λ i. among-all (Among (entries_in (ordered cmp inserts))) inserts entry (ordered-all cmp (Among (entries_in (ordered cmp inserts))) inserts (each_listed (ordered cmp inserts))) i,
)

-- what holds of each that was put in holds of each in order
pub each_placed : (cmp : List ℕ → List ℕ → Ordering) (P : Entry → Type 0) (inserts : List Entry) → ((entry : Entry) → Among inserts entry → P entry) → AllByRecursion (λ (one : Placed). P one.entry) (ordered cmp inserts)
each_placed cmp P inserts h = all-ordered cmp P inserts (all-among P inserts h)

-- ---- sorted

before_by : (order : Order) → IsAntisymmetric order.cmp → (a b : Entry) (r : Ordering) → order.cmp a.key b.key ≡ r → match_ordering r true (nat_lt b.sequence a.sequence) false ≡ true → ComesBefore order a b
before_by order exact a b Less e h = inl e
before_by order exact a b Equal e h = inr (exact a.key b.key e, ltb-true b.sequence a.sequence h)
before_by order exact a b Greater e h = (let t : false ≡ true = h in absurd cc)

comes_before : (order : Order) → IsAntisymmetric order.cmp → (a b : Entry) → is_before order.cmp b.key b.sequence a ≡ true → ComesBefore order a b
comes_before order exact a b h = before_by order exact a b (order.cmp a.key b.key) refl h

pub sorted_entries : (order : Order) → IsAntisymmetric order.cmp → (placed : List Placed) → Rises order.cmp placed → AreSorted order (entries_in placed)
sorted_entries order exact [] h = tt
sorted_entries order exact (one ∷ placed) h = (
  λ other i. all_listed (ComesBefore order one.entry) placed other
      (all-map (λ (next : Placed). is_before order.cmp next.entry.key next.entry.sequence one.entry ≡ true) (λ (next : Placed). ComesBefore order one.entry next.entry) placed
      (λ next is. comes_before order exact one.entry next.entry is) h.0) i,
  sorted_entries order exact placed h.1,
)

-- ---- the first and the last

-- an entry stands first, and all others after it
pub first_entry : (order : Order) (inserts : List Entry) (placed : List Placed) (node : ℕ) → ordered order.cmp inserts ≡ placed → AreSorted order (entries_in placed) → first_of placed ≡ Some node
    → (first : Entry) × Among (entries_in placed) first × (entry_at inserts node ≡ Some first) × ((other : Entry) → Among (entries_in placed) other → (other ≡ first) ⊎ ComesBefore order first other)
first_entry order inserts [] node is h e = (let t : None ≡ Some node = e in absurd cc)
first_entry order inserts (one ∷ placed) node is h e =
    let same : one.node ≡ node = (let t : Some one.node ≡ Some node = e in cc) in (
      one.entry,
      inl refl,
      ap (entry_at inserts) (sym same) ∙ (stands-insert order.cmp inserts [] placed one.node one.entry is).1,
      λ other i. elim i [ inl s ↦ inl s | inr j ↦ inr (h.0 other j) ],
    )

pub last_split : (placed : List Placed) → (placed ≡ []) ⊎ ((front : List Placed) × (one : Placed) × (placed ≡ front ++ one ∷ []))
last_split [] = inl refl
last_split (one ∷ later) = elim (last_split later) [
  | inl e ↦ inr ([], one, ap (λ (v : List Placed). one ∷ v) e)
  | inr h ↦ inr (one ∷ h.0, h.1, ap (λ (v : List Placed). one ∷ v) h.2)
]

last_among : (front : List Placed) (one : Placed) → Among (entries_in (front ++ one ∷ [])) one.entry
last_among [] one = inl refl
last_among (x ∷ front) one = inr (last_among front one)

before_last : (order : Order) (front : List Placed) (one : Placed) → AreSorted order (entries_in (front ++ one ∷ []))
    → (other : Entry) → Among (entries_in (front ++ one ∷ [])) other → (other ≡ one.entry) ⊎ ComesBefore order other one.entry
before_last order [] one h other (inl e) = inl e
before_last order [] one h other (inr i) = absurd i
before_last order (x ∷ front) one h other (inl e) = (let P : Entry → Type 0 = λ a. ComesBefore order a one.entry in inr (subst P (sym e) (h.0 one.entry (last_among front one))))
before_last order (x ∷ front) one h other (inr i) = before_last order front one h.1 other i

-- an entry stands last, and all others before it
pub last_entry : (order : Order) (inserts : List Entry) (placed : List Placed) (node : ℕ) → ordered order.cmp inserts ≡ placed → AreSorted order (entries_in placed) → last_of placed ≡ Some node
    → (last : Entry) × Among (entries_in placed) last × (entry_at inserts node ≡ Some last) × ((other : Entry) → Among (entries_in placed) other → (other ≡ last) ⊎ ComesBefore order other last)
last_entry order inserts placed node is h e = by (last_split placed)
  where
    by : (placed ≡ []) ⊎ ((front : List Placed) × (one : Placed) × (placed ≡ front ++ one ∷ []))
        → (last : Entry) × Among (entries_in placed) last × (entry_at inserts node ≡ Some last) × ((other : Entry) → Among (entries_in placed) other → (other ≡ last) ⊎ ComesBefore order other last)
    by (inl none) = (let t : None ≡ Some node = ap last_of (sym none) ∙ e in absurd cc)
    by (inr parts) =
        let one : Placed = parts.1 in
        let same : one.node ≡ node = (let t : Some one.node ≡ Some node = ap first_of (sym (reverse-append parts.0 (one ∷ []))) ∙ ap last_of (sym parts.2) ∙ e in cc) in
        let S : List Placed → Type 0 = λ p. AreSorted order (entries_in p) in
        let A : List Placed → Type 0 = λ p. Among (entries_in p) one.entry in
        let B : List Placed → Type 0 = λ p. (other : Entry) → Among (entries_in p) other → (other ≡ one.entry) ⊎ ComesBefore order other one.entry in (
          one.entry,
          subst A (sym parts.2) (last_among parts.0 one),
          ap (entry_at inserts) (sym same) ∙ (stands-insert order.cmp inserts parts.0 [] one.node one.entry (is ∙ parts.2)).1,
          subst B (sym parts.2) (before_last order parts.0 one (subst S parts.2 h)),
        )
