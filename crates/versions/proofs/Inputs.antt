-- Plans for the tables of a version, and their inputs.
use Rattle.std.proofs.Common.{◌≡◌, ◌≢◌, inl, inr, ◌<◌, ℕ, zero, suc, List, [], length, get_or, sym, ap, ◌∙◌, subst, arith, All, AllPairs, Contains, Option}
use Rattle.std.proofs.lemmas.Bool.{cases_lt}
use Rattle.std.proofs.lemmas.List.{get_or_default}
use Rattle.std.proofs.lemmas.List.Elements.{All-contains, All-contains_itself, All-cons, All-nil, Contains-from_at, Contains-get_or}
use Rattle.std.specs.Cmp.{IsTotalOrder}
use Rattle.std.specs.declared.cmp.Ordering.{Ordering}
use Rattle.ikey.specs.Below.{internal_irreflexive}
use Rattle.edits.specs.declared.field.PlacedTable.{PlacedTable}
use Rattle.versions.specs.Levels.{IsRange, IsFirstAt, StandsBefore, AreInOrder, tables_at}
use Rattle.versions.specs.Plans.{IsPlanStart, PlansLaw, InputsLaw}
use Rattle.versions.proofs.Pairs.{all_contained}
use Rattle.versions.proofs.Positions.{below_range}

-- ---- plans

start_own : (cmp : List ℕ → List ℕ → Ordering) (tables : List PlacedTable) (pointer : Option (List ℕ)) (level : ℕ) (start : List PlacedTable) → IsPlanStart cmp tables pointer level start → All (Contains (tables_at level tables)) start
start_own cmp tables pointer zero start h = subst (λ (ts : List PlacedTable). All (Contains (tables_at 0 tables)) ts) (sym h) (All-contains_itself (tables_at 0 tables))
start_own cmp tables pointer (suc above) start (i, first, lt, at, behind, is) =
    let own = tables_at (suc above) tables in
    subst (λ (ts : List PlacedTable). All (Contains own) ts) (sym is) (All-cons (Contains own) first [] (Contains-from_at own first (i, lt, at)) (All-nil (Contains own)))

start_whole : (cmp : List ℕ → List ℕ → Ordering) (tables : List PlacedTable) (pointer : Option (List ℕ)) (level : ℕ) (start : List PlacedTable) → IsPlanStart cmp tables pointer level start → level ≡ 0 → start ≡ tables_at 0 tables
start_whole cmp tables pointer zero start h e = h
start_whole cmp tables pointer (suc above) start h e = absurd (omega (arith, e))

pub plans : PlansLaw
plans cmp version plan = (
  λ files bytes h. inl (record {
    level = h.level;
    within = h.least.within;
    start = h.behind.start;
    own = start_own cmp version.tables _ h.level h.behind.start h.behind.begins;
    whole = start_whole cmp version.tables _ h.level h.behind.start h.behind.begins;
    chosen = h.behind.chosen;
    moves = inr h.behind.moves;
  }),
  λ level lt h. inl (record {
    level = level;
    within = lt;
    start = tables_at level version.tables;
    own = All-contains_itself (tables_at level version.tables);
    whole = λ e. ap (λ (n : ℕ). tables_at n version.tables) e;
    chosen = h.0;
    moves = inl h.1;
  }),
  λ h. inr h,
)

-- ---- their inputs

pub same_number : (tables : List PlacedTable) (a b : PlacedTable) → AllPairs (λ a b. a.table.number ≢ b.table.number) tables → Contains tables a → Contains tables b → a.table.number ≡ b.table.number → a ≡ b
same_number tables a b apart (k, lt, e) (m, less, f) same =
    let number : PlacedTable → ℕ = λ p. p.table.number in
    let f' : get_or tables m a ≡ b = get_or_default tables m a b less ∙ f in
    elim (cases_lt k m) [
      | inl before ↦ absurd (apart k m a before less (ap number e ∙ same ∙ sym (ap number f')))
      | inr rest ↦ elim (cases_lt m k) [
        | inl behind ↦ absurd (apart m k a behind lt (ap number f' ∙ sym same ∙ sym (ap number e)))
        | inr last ↦ let at : k ≡ m = omega (arith, rest, last) in sym e ∙ ap (λ (n : ℕ). get_or tables n a) at ∙ f'
      ]
    ]

not_first : (cmp : List ℕ → List ℕ → Ordering) (level : ℕ) (a : PlacedTable) → IsTotalOrder cmp → IsRange cmp a → IsFirstAt cmp level a a → ⊥
not_first cmp zero a o range h = omega (arith, h)
not_first cmp (suc level) a o range h = internal_irreflexive cmp o a.table.largest (below_range cmp o a.table.largest a range h)

pub not_before_itself : (cmp : List ℕ → List ℕ → Ordering) (a : PlacedTable) → IsTotalOrder cmp → IsRange cmp a → StandsBefore cmp a a → ⊥
not_before_itself cmp a o range (inl lt) = omega (arith, lt)
not_before_itself cmp a o range (inr h) = not_first cmp a.level a o range h.1

-- some of the tables, each once
pub part_in_order : (cmp : List ℕ → List ℕ → Ordering) (tables part : List PlacedTable) → IsTotalOrder cmp → AreInOrder cmp tables → All (Contains tables) part → AllPairs (StandsBefore cmp) part → AreInOrder cmp part
part_in_order cmp tables part o h within places =
    let each : (P : PlacedTable → Type 0) → All P tables → All P part = λ P all. all_contained P part (λ p c. All-contains P tables p all (All-contains (Contains tables) part p within c)) in
    record {
      levels = each (λ placed. placed.level < 7) h.levels;
      ranges = each (IsRange cmp) h.ranges;
      numbers = λ i j d less lt same.
          let a = get_or part i d in
          let b = get_or part j d in
          let first : i < length part = omega (arith, less, lt) in
          let in_a = All-contains (Contains tables) part a within (Contains-get_or part i d first) in
          let in_b = All-contains (Contains tables) part b within (Contains-get_or part j d lt) in
          let e : a ≡ b = same_number tables a b h.numbers in_a in_b same in
          not_before_itself cmp a o (All-contains (IsRange cmp) tables a h.ranges in_a) (subst (λ (p : PlacedTable). StandsBefore cmp a p) (sym e) (places i j d less lt));
      places = places;
    }

pub inputs : InputsLaw
inputs cmp tables plan o h (inl some) = part_in_order cmp tables plan.inputs.items o h some.chosen.inputs.within some.chosen.in_order
inputs cmp tables plan o h (inr all) = subst (AreInOrder cmp) (sym all.inputs) h
