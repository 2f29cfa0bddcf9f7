-- The first and the last key of a memtable.
use Rattle.std.proofs.Common.{◌≡◌, ◌⊎◌, ◌<◌, ◌^◌, ℕ, Some, None, List, [], ◌∷◌, ◌++◌, inl, inr, refl, sym, ap, subst, ◌∙◌}
use Rattle.std.specs.List.{AllByRecursion}
use Rattle.std.specs.declared.cmp.Ordering.{Ordering}
use Rattle.std.specs.declared.cmp.Ordering.TheVariants.{Less}
use Rattle.std.proofs.lemmas.List.{reverse-append}
use Rattle.ikey.specs.declared.entry.Entry.{Entry}
use Rattle.ikey.specs.Below.{IsBelowInternal}
use Rattle.ikey.specs.Entries.{internal_key_of}
use Rattle.ikey.specs.Keys.{key_cmp}
use Rattle.memtable.specs.Contents.{entry_at}
use Rattle.memtable.specs.Order.{Placed, ordered, RisesInternally}
use Rattle.memtable.specs.Places.{first_of, last_of}
use Rattle.memtable.proofs.Orders.{all-back, stands-insert}
use Rattle.recover.specs.Tables.{internal_key}
use Rattle.directory_writes.specs.internal.Level0.{HaveSequences}
use Rattle.directory_writes.proofs.Made.{is_key}
use Rattle.directory_writes.proofs.Ranks.{each_placed, last_split}

-- the entries of the first and of the last node, which are one or stand in this order
pub record AreEnds (cmp : List ℕ → List ℕ → Ordering) (inserts : List Entry) (first last : ℕ) : Type 0 where
  pub low : Entry
  pub high : Entry
  pub low_is : entry_at inserts first ≡ Some low
  pub high_is : entry_at inserts last ≡ Some high
  pub range : (internal_key low ≡ internal_key high) ⊎ IsBelowInternal cmp (internal_key low) (internal_key high)

module _ (cmp : List ℕ → List ℕ → Ordering) (inserts : List Entry) where
  entry_there : (front back : List Placed) (one : Placed) (node : ℕ) → ordered cmp inserts ≡ front ++ one ∷ back → one.node ≡ node → entry_at inserts node ≡ Some one.entry
  entry_there front back one node is same = ap (entry_at inserts) (sym same) ∙ (stands-insert cmp inserts front back one.node one.entry is).1

  node_is : (a b : ℕ) → Some a ≡ Some b → a ≡ b
  node_is a b e = cc

  ends : (placed : List Placed) (first last : ℕ) → ordered cmp inserts ≡ placed → AllByRecursion (λ (one : Placed). one.entry.sequence < 2 ^ 56) placed → RisesInternally cmp placed
      → first_of placed ≡ Some first → last_of placed ≡ Some last → AreEnds cmp inserts first last
  ends [] first last is fits rises p q = (let t : None ≡ Some first = p in absurd cc)
  ends (one ∷ later) first last is fits rises p q = by (last_split later)
    where
      by : (later ≡ []) ⊎ ((front : List Placed) × (two : Placed) × (later ≡ front ++ two ∷ [])) → AreEnds cmp inserts first last
      by (inl none) =
          let there = entry_there [] later one first is (node_is one.node first p) in
          let same : one.node ≡ last = node_is one.node last (ap (λ (v : List Placed). last_of (one ∷ v)) (sym none) ∙ q) in
          record { low = one.entry; high = one.entry; low_is = there; high_is = entry_there [] later one last is same; range = inl refl }
      by (inr parts) =
          let front : List Placed = parts.0 in
          let two : Placed = parts.1 in
          let whole : one ∷ later ≡ (one ∷ front) ++ two ∷ [] = ap (λ (v : List Placed). one ∷ v) parts.2 in
          let same : two.node ≡ last = node_is two.node last (ap first_of (sym (reverse-append (one ∷ front) (two ∷ []))) ∙ ap last_of (sym whole) ∙ q) in
          let L : List Placed → Type 0 = λ v. AllByRecursion (λ (x : Placed). key_cmp cmp (internal_key_of one.entry) (internal_key_of x.entry) ≡ Less) v in
          let F : List Placed → Type 0 = λ v. AllByRecursion (λ (x : Placed). x.entry.sequence < 2 ^ 56) v in
          let below = all-back (λ (x : Placed). key_cmp cmp (internal_key_of one.entry) (internal_key_of x.entry) ≡ Less) front (two ∷ []) (subst L parts.2 rises.0) in
          let fit = all-back (λ (x : Placed). x.entry.sequence < 2 ^ 56) front (two ∷ []) (subst F parts.2 fits.1) in
          record {
            low = one.entry;
            high = two.entry;
            low_is = entry_there [] later one first is (node_is one.node first p);
            high_is = entry_there (one ∷ front) [] two last (is ∙ whole) same;
            range = inr (internal_key_of one.entry, internal_key_of two.entry, is_key one.entry fits.0, is_key two.entry fit.0, below.0);
          }

  pub key_range : HaveSequences inserts → RisesInternally cmp (ordered cmp inserts) → (first last : ℕ) → Some first ≡ first_of (ordered cmp inserts) → Some last ≡ last_of (ordered cmp inserts)
      → (smallest largest : List ℕ) → ((entry : Entry) → entry_at inserts first ≡ Some entry → smallest ≡ internal_key entry) → ((entry : Entry) → entry_at inserts last ≡ Some entry → largest ≡ internal_key entry)
      → (smallest ≡ largest) ⊎ IsBelowInternal cmp smallest largest
  key_range fits rises first last p q smallest largest low high =
      let e = ends (ordered cmp inserts) first last refl (each_placed cmp (λ (x : Entry). x.sequence < 2 ^ 56) inserts fits) rises (sym p) (sym q) in
      let a = low e.low e.low_is in
      let b = high e.high e.high_is in
      elim e.range [
        | inl same ↦ inl (a ∙ same ∙ sym b)
        | inr below ↦ inr (subst (λ (k : List ℕ). IsBelowInternal cmp smallest k) (sym b) (subst (λ (k : List ℕ). IsBelowInternal cmp k (internal_key e.high)) (sym a) below))
      ]
