-- That no two entries of sources that are searched one after the other share a key and a sequence
-- number.
use Rattle.std.proofs.Common.{◌≡◌, ◌∙◌, List, [], ◌∷◌, ap, arith, inl, inr, refl, sym}
use Rattle.std.specs.Cmp.{IsTotalOrder}
use Rattle.std.specs.List.{AllByRecursion}
use Rattle.compact.specs.Merging.{HaveOwnSequences}
use Rattle.ikey.specs.declared.entry.Entry.{Entry}
use Rattle.ikey.specs.declared.internal_key.Kind.{Kind}
use Rattle.ikey.specs.declared.internal_key.Kind.TheVariants.{Delete, Put}
use Rattle.ikey.specs.Entries.{InternalEntry, entry_of, value_of}
use Rattle.ikey.specs.Orders.{Order}
use Rattle.ikey.specs.Sources.{AreSearched, AreSorted, ComesBefore, joined}
use Rattle.ikey.specs.Views.{Among}
use Rattle.ikey.proofs.SearchedSources as sources
use Rattle.db_cursor.proofs.Joining.{among_entries, entries_of}
use Rattle.version_laws.proofs.Orders.{not_itself}

before_other : (order : Order) (a b : Entry) → IsTotalOrder order.cmp → ComesBefore order a b → a.key ≡ b.key → a.sequence ≡ b.sequence → ⊥
before_other order a b total (inl less) key level = not_itself order a.key b.key total key less
before_other order a b total (inr newer) key level = omega (arith, newer.1, level)

one_sorted : (order : Order) (entries : List Entry) (a b : Entry) → IsTotalOrder order.cmp → AreSorted order entries → Among entries a → Among entries b → a.key ≡ b.key → a.sequence ≡ b.sequence → a ≡ b
one_sorted order [] a b total h i j key level = absurd i
one_sorted order (x ∷ entries) a b total h (inl i) (inl j) key level = i ∙ sym j
one_sorted order (x ∷ entries) a b total h (inl i) (inr j) key level =
    absurd (before_other order x b total (h.0 b j) (ap (λ (e : Entry). e.key) (sym i) ∙ key) (ap (λ (e : Entry). e.sequence) (sym i) ∙ level))
one_sorted order (x ∷ entries) a b total h (inr i) (inl j) key level =
    absurd (before_other order x a total (h.0 a i) (ap (λ (e : Entry). e.key) (sym j) ∙ sym key) (ap (λ (e : Entry). e.sequence) (sym j) ∙ sym level))
one_sorted order (x ∷ entries) a b total h (inr i) (inr j) key level = one_sorted order entries a b total h.1 i j key level

one_joined : (order : Order) (lists : List (List Entry)) (a b : Entry) → IsTotalOrder order.cmp → AreSearched lists → AllByRecursion (AreSorted order) lists → Among (joined lists) a → Among (joined lists) b
    → a.key ≡ b.key → a.sequence ≡ b.sequence → a ≡ b
one_joined order [] a b total searched sorted i j key level = absurd i
one_joined order (list ∷ lists) a b total searched sorted i j key level = elim (sources.among_split list (joined lists) a i) [
  | inl m ↦ elim (sources.among_split list (joined lists) b j) [
    | inl n ↦ one_sorted order list a b total sorted.0 m n key level
    | inr n ↦ (let newer = searched.0 a b m n key in absurd (omega (arith, newer, level)))
  ]
  | inr m ↦ elim (sources.among_split list (joined lists) b j) [
    | inl n ↦ (let newer = searched.0 b a n m (sym key) in absurd (omega (arith, newer, level)))
    | inr n ↦ one_joined order lists a b total searched.1 sorted.1 m n key level
  ]
]

same_kind : (k l : Kind) (v w : List _) → value_of k v ≡ value_of l w → k ≡ l
same_kind Delete Delete v w e = refl
same_kind Delete Put v w e = absurd (cc)
same_kind Put Delete v w e = absurd (cc)
same_kind Put Put v w e = refl

-- nor do entries that are among them
pub own_sequences : (order : Order) (lists : List (List Entry)) (entries : List InternalEntry) → IsTotalOrder order.cmp → AreSearched lists → AllByRecursion (AreSorted order) lists
    → ((e : Entry) → Among (entries_of entries) e → Among (joined lists) e) → HaveOwnSequences entries
own_sequences order lists entries total searched sorted from entry other i j user level =
    let same = one_joined order lists (entry_of entry) (entry_of other) total searched sorted (from (entry_of entry) (among_entries entries entry i)) (from (entry_of other) (among_entries entries other j)) user level in
    same_kind entry.key.kind other.key.kind entry.value other.value (ap (λ (e : Entry). e.value) same)
