-- The current table becomes an older one, and an empty one takes its place.
use Rattle.std.proofs.Common.{◌≡◌, ◌≢◌, ◌⊎◌, ◌≤◌, ◌+◌, ℕ, Bool, true, false, cond, List, [], Option, Some, None, IsSome, inl, inr, refl, sym, ap, subst, ◌∙◌, arith, nat_eq}
use Rattle.std.proofs.Math.Dec.{eqb}
use Rattle.std.proofs.lemmas.Bool.{cases_eq, eqb-true}
use Rattle.ikey.specs.declared.entry.Entry.{Entry}
use Rattle.ikey.specs.Sources.{IsNewerThan}
use Rattle.ikey.specs.Views.{AllUpTo}
use Rattle.memtable.specs.Contents.{Contents}
use Rattle.memtables.specs.Changes.{IsSealed}
use Rattle.memtables.specs.Memories.{AreMemories, Memories, older_at, sealed_inserts, table_in}
use Rattle.memtables.proofs.Generations.{Updates, updated_here, updated_apart}

-- what seals a table makes of the memtables
abbrev pub sealed_as : Memories → Contents → ℕ → List (ℕ × Contents) → Memories
sealed_as m table next older = record { current = table; last = m.last; generation = next; sealed = Some m.generation; older = older }

-- a table that is there after the current one was put in is that one, or was there before
older_of : (m : Memories) (older : List (ℕ × Contents)) → Updates m.generation (Some m.current) m.older older → (q : ℕ) (table : Contents) → older_at older q ≡ Some table
    → ((q ≡ m.generation) × (table ≡ m.current)) ⊎ (older_at m.older q ≡ Some table)
older_of m older updates q table is = by (cases_eq q m.generation)
  where
    by : (q ≡ m.generation) ⊎ (q ≢ m.generation) → ((q ≡ m.generation) × (table ≡ m.current)) ⊎ (older_at m.older q ≡ Some table)
    by (inl same) =
        let here : older_at older q ≡ Some m.current = ap (older_at older) same ∙ updated_here m.generation (Some m.current) m.older older updates in
        inl (same, (let both : Some table ≡ Some m.current = sym is ∙ here in cc))
    by (inr apart) = inr (sym (updated_apart m.generation q (Some m.current) m.older older updates apart) ∙ is)

pub invariant_sealed : (m : Memories) (table : Contents) (next : ℕ) (older : List (ℕ × Contents)) → table.inserts ≡ [] → next ≡ m.generation + 1 → Updates m.generation (Some m.current) m.older older
    → AreMemories m → AreMemories (sealed_as m table next older)
invariant_sealed m table next older none is updates are = record {
  current = subst (λ (es : List Entry). AllUpTo m.last es) (sym none) (λ e among. absurd among);
  older = λ q found there. elim (older_of m older updates q found there) [
    | inl here ↦ subst (λ (t : Contents). AllUpTo m.last t.inserts) (sym here.1) are.current
    | inr was ↦ are.older q found was
  ];
  below = λ q found there. elim (older_of m older updates q found there) [
    | inl here ↦ (let at = here.0 in omega (arith, at, is))
    | inr was ↦ (let low = are.below q found was in omega (arith, low, is))
  ];
  sealed = subst (λ (o : Option Contents). IsSome o) (sym (updated_here m.generation (Some m.current) m.older older updates)) refl;
  newer = subst (λ (es : List Entry). IsNewerThan es (sealed_inserts (sealed_as m table next older))) (sym none) (λ a b i j same. absurd i);
  fits = are.fits;
}

-- no table is there from the current generation on
vacant_from : (m : Memories) → AreMemories m → (q : ℕ) → m.generation ≤ q → older_at m.older q ≡ None
vacant_from m are q high = by (older_at m.older q) refl
  where
    by : (o : Option Contents) → older_at m.older q ≡ o → o ≡ None
    by None is = refl
    by (Some table) is = (let low = are.below q table is in absurd (omega (arith, low, high)))

apart_above : (n : ℕ) → nat_eq (n + 1) n ≡ false
apart_above n = by (nat_eq (n + 1) n) refl
  where
    by : (b : Bool) → nat_eq (n + 1) n ≡ b → b ≡ false
    by true is = (let same = eqb-true (n + 1) n is in absurd (omega (arith, same)))
    by false is = refl

pub is_sealed : (m : Memories) (table : Contents) (next : ℕ) (older : List (ℕ × Contents)) → table ≡ record { inserts = []; entry_room = 0; byte_room = 0 } → next ≡ m.generation + 1 → m.sealed ≡ None
    → Updates m.generation (Some m.current) m.older older → AreMemories m → IsSealed m (sealed_as m table next older)
is_sealed m table next older empty is unsealed updates are = record {
  current = empty;
  last = refl;
  generation = is;
  unsealed = unsealed;
  sealed = refl;
  vacant = vacant_from m are m.generation (omega arith);
  kept = updated_here m.generation (Some m.current) m.older older updates;
  others = λ q apart. updated_apart m.generation q (Some m.current) m.older older updates apart;
  fresh = ap (table_in m) is ∙ ap (λ (b : Bool). cond b (Some m.current) (older_at m.older (m.generation + 1))) (apart_above m.generation) ∙ vacant_from m are (m.generation + 1) (omega arith);
}
