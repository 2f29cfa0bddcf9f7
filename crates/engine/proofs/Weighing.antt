-- Entries of which none is there twice weigh no more than those among which they are.
use Rattle.std.proofs.Common.{◌≡◌, ◌⊎◌, ℕ, ◌+◌, ◌≤◌, ◌<◌, List, [], ◌∷◌, Option, Some, None, length, unwrap_or, inl, inr, refl, sym, ap, subst, ◌∙◌, arith, sum_by}
use Rattle.std.proofs.lemmas.List.Sums.{sum_by-cons}
use Rattle.ikey.specs.declared.entry.Entry.{Entry}
use Rattle.ikey.specs.Views.{Among}
use Rattle.memtable.specs.Contents.{byte_length}
use Rattle.recover.specs.Entries.{RiseAbove}
use Rattle.compact.specs.Rooms.{room_of}
use Rattle.engine.specs.internal.Accounted.{AreAccounted}
use Rattle.machine.specs.Machine.{entry_weight}

-- no entry is there twice
abbrev pub NoTwice : List Entry → Type 0
NoTwice [] = Unit {0}
NoTwice (x ∷ xs) = (Among xs x → ⊥) × NoTwice xs

-- what is left of entries without the first that is this one
record IsWithout (f : Entry → ℕ) (entry : Entry) (all rest : List Entry) : Type 0 where
  others : (other : Entry) → Among all other → (other ≡ entry) ⊎ Among rest other
  weight : sum_by f all ≡ f entry + sum_by f rest

without_one : (f : Entry → ℕ) (entry : Entry) (all : List Entry) → Among all entry → (rest : List Entry) × IsWithout f entry all rest
without_one f entry [] i = absurd i
without_one f entry (x ∷ all) (inl is) = (
  all,
  record {
    others = λ other i. elim i [ inl same ↦ inl (same ∙ sym is) | inr later ↦ inr later ];
    weight = sum_by-cons f x all ∙ ap (λ (e : Entry). f e + sum_by f all) (sym is);
  },
)
without_one f entry (x ∷ all) (inr i) =
    let found = without_one f entry all i in (
      x ∷ found.0,
      record {
        others = λ other j. elim j [
          | inl same ↦ inr (inl same)
          | inr later ↦ elim (found.1.others other later) [ inl is ↦ inl is | inr there ↦ inr (inr there) ]
        ];
        weight = (let rest = found.1.weight in let before = sum_by-cons f x all in let after = sum_by-cons f x found.0 in omega (arith, rest, before, after));
      },
    )

-- whatever is counted of each
pub weighs_less : (f : Entry → ℕ) (entries all : List Entry) → NoTwice entries → ((entry : Entry) → Among entries entry → Among all entry) → sum_by f entries ≤ sum_by f all
weighs_less f [] all apart within = omega arith
weighs_less f (x ∷ entries) all apart within =
    let found = without_one f x all (within x (inl refl)) in
    let rest = weighs_less f entries found.0 apart.1 (λ entry i. elim (found.1.others entry (within entry (inr i))) [
      | inl is ↦ absurd (apart.0 (subst (λ (e : Entry). Among entries e) is i))
      | inr there ↦ there
    ]) in
    let weight = found.1.weight in
    let whole = sum_by-cons f x entries in
    omega (arith, rest, weight, whole)

-- each has a sequence number above this one
above_all : (least : ℕ) (entries : List Entry) (entry : Entry) → RiseAbove least entries → Among entries entry → least < entry.sequence
above_all least [] entry h i = absurd i
above_all least (x ∷ entries) entry h (inl is) = (let less = h.0 in let same : entry.sequence ≡ x.sequence = ap (λ (e : Entry). e.sequence) is in omega (arith, less, same))
above_all least (x ∷ entries) entry h (inr i) = (let less = h.0 in let later = above_all x.sequence entries entry h.1 i in omega (arith, less, later))

-- entries whose sequence numbers rise
rising_apart : (least : ℕ) (entries : List Entry) → RiseAbove least entries → NoTwice entries
rising_apart least [] rises = tt
rising_apart least (x ∷ entries) rises = (λ i. let above = above_all x.sequence entries x rises.1 i in omega (arith, above), rising_apart x.sequence entries rises.1)

-- what entries need in a table is what they weigh
pub room_is : (entries : List Entry) → room_of entries ≡ sum_by entry_weight entries
room_is [] = refl
room_is (entry ∷ entries) = (let rest = room_is entries in let one = weight_is entry.value in let whole = sum_by-cons entry_weight entry entries in omega (arith, rest, one, whole))
  where
    weight_is : (value : Option (List ℕ)) → byte_length entry.key value + 64 ≡ length entry.key + length (unwrap_or value []) + 64
    weight_is None = omega arith
    weight_is (Some bytes) = omega arith

pub room_within : (least count weight : ℕ) (entries all : List Entry) → RiseAbove least entries → ((entry : Entry) → Among entries entry → Among all entry) → AreAccounted all count weight → room_of entries ≤ weight
room_within least count weight entries all rises within accounted =
    let less = weighs_less entry_weight entries accounted.all (rising_apart least entries rises) (λ entry i. accounted.within entry (within entry i)) in
    let is = room_is entries in
    let bound = accounted.weight in
    omega (arith, less, is, bound)
