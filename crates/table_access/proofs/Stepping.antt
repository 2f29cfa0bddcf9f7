-- Steps within a block.
use Rattle.std.proofs.Common.{◌≡◌, ◌<◌, ◌≤◌, ◌+◌, ℕ, zero, suc, Bool, true, false, List, Option, Some, length, is_some, refl, sym, ap, ◌∙◌, subst, arith, inl, inr}
use Rattle.std.specs.Option.{option_and_then}
use Rattle.std.proofs.lemmas.Bool.{cases_lt}
use Rattle.std.proofs.lemmas.Option.{slice_get_within}
use Rattle.block.specs.Places as block
use Rattle.block.specs.Places.{Placed}
use Rattle.cursor.specs.Places.{within, index_before, index_behind}
use Rattle.ikey.specs.Entries.{Pair}
use Rattle.table_access.specs.TablePlaces.{IsInBlock, joined, pairs_before}
use Rattle.table_access.proofs.Placing.{before_inside, before_more}
use Rattle.table_access.proofs.Searching.{within_yes, within_no}

some_or_not : (x : Bool) → x ≡ true → x ≡ false → ⊥
some_or_not x e f = let bad : true ≡ false = sym e ∙ f in cc

-- whether there is a next pair
behind_if : (pairs : List Pair) (place : Option ℕ) (j : ℕ) → place ≡ Some j → is_some (option_and_then (block.index_behind pairs) place) ≡ true → suc j < length pairs
behind_if pairs place j e some = elim (cases_lt (suc j) (length pairs)) [
  | inl less ↦ less
  | inr ge ↦ absurd (some_or_not (is_some (option_and_then (block.index_behind pairs) place)) some (ap (λ (p : Option ℕ). is_some (option_and_then (block.index_behind pairs) p)) e ∙ ap is_some (within_no pairs (suc j) ge)))
]

end_if : (pairs : List Pair) (place : Option ℕ) (j : ℕ) → place ≡ Some j → is_some (option_and_then (block.index_behind pairs) place) ≡ false → length pairs ≤ suc j
end_if pairs place j e none = elim (cases_lt (suc j) (length pairs)) [
  | inl less ↦ absurd (some_or_not (is_some (option_and_then (block.index_behind pairs) place)) (ap (λ (p : Option ℕ). is_some (option_and_then (block.index_behind pairs) p)) e ∙ ap is_some (within_yes pairs (suc j) less)) none)
  | inr ge ↦ ge
]

module _ (groups : List (List Pair)) (index : ℕ) (old new : Placed) (place : Option ℕ) (h : IsInBlock groups index old place) where
  stepped_on : is_some (option_and_then (block.index_behind old.pairs) old.place) ≡ true → new ≡ record { pairs = old.pairs; place = option_and_then (block.index_behind old.pairs) old.place }
      → IsInBlock groups index new (option_and_then (index_behind (joined groups)) place)
  stepped_on some is =
      let less = behind_if old.pairs old.place h.inside h.stands some in
      let fits = before_inside groups index old.pairs h.block_is in
      let before : ℕ = pairs_before groups index in
      let same : old.pairs ≡ new.pairs = sym (ap (λ (p : Placed). p.pairs) is) in
      let e : suc (before + h.inside) ≡ before + suc h.inside = omega arith in
      record {
        inside = suc h.inside;
        block_is = h.block_is ∙ ap Some same;
        stands = ap (λ (p : Placed). p.place) is ∙ ap (option_and_then (block.index_behind old.pairs)) h.stands ∙ within_yes old.pairs (suc h.inside) less;
        less = subst (λ (l : List Pair). suc h.inside < length l) same less;
        place_is = ap (option_and_then (index_behind (joined groups))) h.place_is ∙ within_yes (joined groups) (suc (before + h.inside)) (omega (arith, less, fits)) ∙ ap Some e;
      }

  pub stands_last : is_some (option_and_then (block.index_behind old.pairs) old.place) ≡ false
      → (index + 1 ≤ length groups) × (within (joined groups) (pairs_before groups (index + 1)) ≡ option_and_then (index_behind (joined groups)) place)
  stands_last none =
      let end = end_if old.pairs old.place h.inside h.stands none in
      let more = before_more groups index old.pairs h.block_is in
      let inside = slice_get_within groups index old.pairs h.block_is in
      let less = h.less in
      let start : suc index ≡ index + 1 = omega arith in
      let e : pairs_before groups (suc index) ≡ suc (pairs_before groups index + h.inside) = omega (arith, more, end, less) in (
        omega (arith, inside),
        ap (λ (n : ℕ). within (joined groups) (pairs_before groups n)) (sym start) ∙ ap (within (joined groups)) e ∙ sym (ap (option_and_then (index_behind (joined groups))) h.place_is),
      )

  pub stepped : is_some (option_and_then (block.index_behind old.pairs) old.place) ≡ true → new ≡ record { pairs = old.pairs; place = option_and_then (block.index_behind old.pairs) old.place }
      → (is_some (option_and_then (index_behind (joined groups)) place) ≡ true) × IsInBlock groups index new (option_and_then (index_behind (joined groups)) place)
  stepped some is = let moved = stepped_on some is in (ap is_some moved.place_is, moved)

  stays_there : (inside : ℕ) → h.inside ≡ suc inside → new ≡ record { pairs = old.pairs; place = option_and_then block.index_before old.place } → IsInBlock groups index new (option_and_then index_before place)
  stays_there inside e is =
      let before : ℕ = pairs_before groups index in
      let same : old.pairs ≡ new.pairs = sym (ap (λ (p : Placed). p.pairs) is) in
      let less = h.less in
      let sum : before + h.inside ≡ suc (before + inside) = omega (arith, e) in
      record {
        inside = inside;
        block_is = h.block_is ∙ ap Some same;
        stands = ap (λ (p : Placed). p.place) is ∙ ap (option_and_then block.index_before) (h.stands ∙ ap Some e);
        less = subst (λ (l : List Pair). inside < length l) same (omega (arith, less, e));
        place_is = ap (option_and_then index_before) (h.place_is ∙ ap Some sum);
      }

  stepped_back : is_some (option_and_then block.index_before old.place) ≡ true → new ≡ record { pairs = old.pairs; place = option_and_then block.index_before old.place }
      → IsInBlock groups index new (option_and_then index_before place)
  stepped_back some is = by h.inside refl where
    by : (n : ℕ) → h.inside ≡ n → IsInBlock groups index new (option_and_then index_before place)
    by zero e = absurd (some_or_not (is_some (option_and_then block.index_before old.place)) some (ap (λ (p : Option ℕ). is_some (option_and_then block.index_before p)) (h.stands ∙ ap Some e)))
    by (suc n) e = stays_there n e is

  pub stepped_to_front : is_some (option_and_then block.index_before old.place) ≡ true → new ≡ record { pairs = old.pairs; place = option_and_then block.index_before old.place }
      → (is_some (option_and_then index_before place) ≡ true) × IsInBlock groups index new (option_and_then index_before place)
  stepped_to_front some is = let moved = stepped_back some is in (ap is_some moved.place_is, moved)

  pub stands_first : is_some (option_and_then block.index_before old.place) ≡ false → (index ≤ length groups) × (index_before (pairs_before groups index) ≡ option_and_then index_before place)
  stands_first none = by h.inside refl where
    by : (n : ℕ) → h.inside ≡ n → (index ≤ length groups) × (index_before (pairs_before groups index) ≡ option_and_then index_before place)
    by zero e =
        let inside = slice_get_within groups index old.pairs h.block_is in
        let sum : pairs_before groups index ≡ pairs_before groups index + h.inside = omega (arith, e) in
        (omega (arith, inside), ap index_before sum ∙ sym (ap (option_and_then index_before) h.place_is))
    by (suc n) e = absurd (some_or_not (is_some (option_and_then block.index_before old.place)) (ap (λ (p : Option ℕ). is_some (option_and_then block.index_before p)) (h.stands ∙ ap Some e)) none)
