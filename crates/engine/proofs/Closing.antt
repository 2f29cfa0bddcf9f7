-- Tables of which nothing is kept any more.
use Rattle.std.proofs.Common.{◌≡◌, ◌==◌, ℕ, ◌+◌, ◌<◌, true, false, List, [], ◌∷◌, take, length, get_or, None, Contains, inl, inr, refl, sym, ap, subst, ◌∙◌, arith}
use Rattle.std.proofs.lemmas.Bool.{eqb-false}
use Rattle.std.proofs.lemmas.List.{take_more}
use Rattle.std.proofs.lemmas.List.Elements.{Contains-push_cases}
use Rattle.std.proofs.lemmas.Map.Made.{Contains-tail}
use Rattle.cache.specs.Tables.{KeptTable, kept_table_at}
use Rattle.engine.specs.internal.Pieces.{ClosesTables}

-- what is kept is found under its number
pub none_kept : (tables : List KeptTable) (number : ℕ) (kept : KeptTable) → kept_table_at tables number ≡ None → Contains tables kept → number ≡ kept.number → ⊥
unfolding kept_table_at
none_kept [] number kept none is same = (let least = is.1 in omega (arith, least))
none_kept (k ∷ ks) number kept none is same = (elim (number == k.number) as (λ y. (number == k.number) ≡ y → ⊥) [
  | true ↦ λ t. (let bad = rw t at none in cc)
  | false ↦ λ t.
      let later = Contains-tail k ks kept (λ e. eqb-false number k.number t (same ∙ sym (ap (λ (x : KeptTable). x.number) e))) is in
      none_kept ks number kept (rw t at none) later same
]) refl

-- the table of one number more
pub closed_more : (old mid new : List KeptTable) (numbers : List ℕ) (i : ℕ) → i < length numbers → ClosesTables old mid (take i numbers) → ((kept : KeptTable) → Contains new kept → Contains mid kept)
    → kept_table_at new (get_or numbers i 0) ≡ None → ClosesTables old new (take (i + 1) numbers)
closed_more old mid new numbers i within before kept gone = record {
  kept = λ one is. before.kept one (kept one is);
  closed = λ one is named. elim (Contains-push_cases (take i numbers) (get_or numbers i 0) one.number (subst (λ (ns : List ℕ). Contains ns one.number) (take_more numbers i 0 within) named)) [
    | inl earlier ↦ before.closed one (kept one is) earlier
    | inr last ↦ none_kept new (get_or numbers i 0) one gone is last
  ];
}
