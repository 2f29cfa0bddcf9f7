-- Several steps of an iteration over a range, and a whole one.
use Rattle.std.proofs.Common.{◌≡◌, ℕ, ◌+◌, ◌≤◌, Bool, cond, List, [], ◌∷◌, ◌++◌, length, take, Option, Some, None, is_some, Ok, Err, MatchOption, inl, inr, refl, sym, ap, subst, ◌∙◌, append_assoc, append-nil, length-append, arith}
use Rattle.std.specs.Option.{option_or}
use Rattle.std.proofs.lemmas.Bool.{eq-eqb}
use Rattle.std.proofs.lemmas.List.{take-append-le, take_all}
use Rattle.coding.specs.declared.error.DbError.{DbError}
use Rattle.coding.specs.declared.error.DbError.TheVariants as error
use Rattle.ikey.specs.Orders.{Order}
use Rattle.machine.specs.declared.command.Answer.{Answer}
use Rattle.machine.specs.declared.command.Answer.TheVariants.{Done, Iterator, Refused}
use Rattle.machine.specs.Machine.{Machine, Walk}
use Rattle.machine.specs.Causes.{drop_cause, iterate_cause, no_iterator, not_serving, status_of}
use Rattle.machine.specs.Serving.{◌≈◌, ReadRefused}
use Rattle.machine.specs.Views.{Iterated, Drops, Dropped, with_iterator, without_id, without_iterator}
use Rattle.engine.specs.declared.ranges.KeyRange.{KeyRange}
use Rattle.engine.specs.declared.ranges.RangeWalk.{RangeWalk}
use Rattle.engine.specs.Ranges.{Pair, Begins, Fills, HasLeft, OnlyWalks, RefusesFill, RefusesScan, Scans, Steps, pairs_within, walked}
use Rattle.engine.proofs.RangeSteps.{only_same, refused_walk_same, served}

-- ---- one call after the other

pub only_then : (id : ℕ) (m n o : Machine) → OnlyWalks id m n → OnlyWalks id n o → OnlyWalks id m o
only_then id m n o first second = (
  second.0 ∙ first.0,
  second.1 ∙ (λ i. record (first.1 i) { iterators = o.iterators; failures = o.failures; denials = o.denials }),
)

-- ---- several steps

-- so many came, and were put after those that were there
pub record HasFilled (order : Order) (count : ℕ) (m : Machine) (before : RangeWalk) (had : List Pair) (n : Machine) (after : RangeWalk) (has : List Pair) : Type 0 where
  pub gives : (rest : List Pair) → HasLeft order m before rest →
      (came left : List Pair) × (has ≡ had ++ came) × (rest ≡ came ++ left) × HasLeft order n after left × (length came ≡ count)
  pub others : OnlyWalks before.id m n

pub filled_none : (order : Order) (m : Machine) (walk : RangeWalk) (had : List Pair) → HasFilled order 0 m walk had m walk had
filled_none order m walk had = record {
  gives = λ rest left. ([], rest, sym (append-nil had), refl, left, refl);
  others = only_same walk.id m m refl;
}

module _ (order : Order) (count : ℕ) (m : Machine) (before : RangeWalk) (had : List Pair) (at : Machine) (here : RangeWalk) (has : List Pair) (so_far : HasFilled order count m before had at here has) (same : here.id ≡ before.id) (n : Machine) (after : RangeWalk) where
  others_then : OnlyWalks here.id at n → OnlyWalks before.id m n
  others_then one = only_then before.id m at n so_far.others (subst (λ (id : ℕ). OnlyWalks id at n) same one)

  pub filled_more : (pair : Pair) → Steps order at here (Ok (Some pair)) n after → HasFilled order (count + 1) m before had n after (has ++ pair ∷ [])
  filled_more pair step = record {
    gives = λ rest left.
        let first = so_far.gives rest left in
        let next = step.gives first.1 first.4 in (
          first.0 ++ pair ∷ [],
          next.0,
          ap (λ (xs : List Pair). xs ++ pair ∷ []) first.2 ∙ append_assoc had first.0 (pair ∷ []),
          first.3 ∙ ap (λ (xs : List Pair). first.0 ++ xs) next.1 ∙ sym (append_assoc first.0 (pair ∷ []) next.0),
          next.2,
          length-append first.0 (pair ∷ []) ∙ ap (λ (k : ℕ). k + 1) first.5,
        );
    others = others_then step.others;
  }

  pub filled_ended : (limit : ℕ) → count ≤ limit → Steps order at here (Ok None) n after → Fills order limit m before had (Ok tt) n after has
  filled_ended limit within step = record {
    gives = λ rest left.
        let first = so_far.gives rest left in
        let last = step.gives first.1 first.4 in
        let whole : rest ≡ first.0 = first.3 ∙ ap (λ (xs : List Pair). first.0 ++ xs) last.0 ∙ append-nil first.0 in
        (first.0, [], first.2, whole ∙ sym (append-nil first.0), last.1, sym (take_all limit rest (omega (arith, ap (λ (xs : List Pair). length xs) whole, first.5)) ∙ whole));
    refused = tt;
    others = others_then step.others;
  }

  pub filled_refused : (limit : ℕ) (e : DbError) → Steps order at here (Err e) n after → Fills order limit m before had (Err e) n after has
  filled_refused limit e step = record {
    gives = λ rest left.
        let first = so_far.gives rest left in
        (first.0, first.1, first.2, first.3, step.gives first.1 first.4, tt);
    refused = λ rest left. let first = so_far.gives rest left in (at, so_far.others, inl (step.refused first.1 first.4));
    others = others_then step.others;
  }

module _ (order : Order) (count limit : ℕ) (m : Machine) (before : RangeWalk) (had : List Pair) (n : Machine) (after : RangeWalk) (has : List Pair) (so_far : HasFilled order count m before had n after has) where
  pub filled_all : count ≡ limit → Fills order limit m before had (Ok tt) n after has
  filled_all is = record {
    gives = λ rest left.
        let first = so_far.gives rest left in
        let front : take limit rest ≡ first.0 =
        ap (take limit) first.3 ∙ take-append-le limit first.0 first.1 (omega (arith, is, first.5)) ∙ take_all limit first.0 (omega (arith, is, first.5)) in
        (first.0, first.1, first.2, first.3, first.4, sym front);
    refused = tt;
    others = so_far.others;
  }

  pub filled_starved : Fills order limit m before had (Err error.OutOfMemory) n after has
  filled_starved = record {
    gives = λ rest left. let first = so_far.gives rest left in (first.0, first.1, first.2, first.3, first.4, tt);
    refused = λ rest left. (n, so_far.others, inr (refl, refl));
    others = so_far.others;
  }

-- ---- a whole range

none_first : (cause rest : Option DbError) → option_or cause rest ≡ None → cause ≡ None
none_first None rest is = refl
none_first (Some e) rest is = (cc)

-- an answer that is no refusal has no cause
free : (cause : Option DbError) (P : Type 0) (Q : DbError → Type 0) → ((e : DbError) → Q e → ⊥) → MatchOption cause P Q → cause ≡ None
free None P Q never h = refl
free (Some e) P Q never h = absurd (never e h)

served_as : (cause : Option DbError) (P : Type 0) (Q : DbError → Type 0) → cause ≡ None → MatchOption cause P Q → P
served_as cause P Q is h = subst (λ (c : Option DbError). MatchOption c P Q) is h

abbrev Serving : Machine → Type 0
Serving m = not_serving (status_of m) ≡ None

serving_on : (m n : Machine) → n.opened ≡ m.opened → n.broken ≡ m.broken → Serving m → Serving n
serving_on m n opened broken is = (λ i. cond (opened i) (cond (broken i) (Some error.Broken) None) (Some error.NotOpen)) ∙ is

dropped_as : (m n : Machine) (id : ℕ) (answer : Answer) → Dropped m id answer n → (n ≈ without_iterator m id)
dropped_as m n id Done h = h
dropped_as m n id _ h = absurd h

read_on : (between n : Machine) (e : DbError) (m o : Machine) → between.failures ≡ m.failures → between.over_limit ≡ m.over_limit → between.damaged ≡ m.damaged → o.failures ≤ n.failures → (n ≈ between) → ReadRefused m e o
    → ReadRefused between e n
read_on between n error.OutOfMemory m o failures limit flag more becomes h = becomes
read_on between n error.Io m o failures limit flag more becomes h = (omega (arith, failures, more, h.0), becomes)
read_on between n (error.Corrupt file what) m o failures limit flag more becomes h = (flag ∙ h.0, becomes)
read_on between n (error.Unsupported what) m o failures limit flag more becomes h = (elim h.0 [ inl over ↦ inl (limit ∙ over) | inr damage ↦ inr (flag ∙ damage) ], becomes)
read_on between n _ m o failures limit flag more becomes h = absurd h

serving_read : (m : Machine) (e : DbError) (n : Machine) → Serving m → RefusesFill m e n → ReadRefused m e n
serving_read m e n is (inl h) = served_as (not_serving (status_of m)) _ _ is h
serving_read m e n is (inr h) = subst (λ (x : DbError). ReadRefused m x n) (sym h.0) h.1

fill_same : (m : Machine) (e : DbError) (n : Machine) → RefusesFill m e n → (n ≈ m)
fill_same m e n (inl h) = refused_walk_same m n e h
fill_same m e n (inr h) = h.1

module _ (order : Order) (m : Machine) (keys : KeyRange) (snapshot : Option ℕ) (limit : ℕ) (begun : Machine) (walk : RangeWalk) (begins : Begins order m keys snapshot (Ok walk) begun) where
  never : (e : DbError) → (Iterator walk.id ≡ Refused e) × (begun ≈ m) → ⊥
  never e q = (let same : Iterator walk.id ≡ Refused e = q.0 in cc)

  is_serving : Serving m
  is_serving = none_first (not_serving (status_of m)) _ (free (iterate_cause (status_of m) snapshot) _ _ never begins.3.1)

  made : Iterated order m snapshot (Iterator walk.id) begun
  made = served (iterate_cause (status_of m) snapshot) _ _ never begins.3.1

  begun_is : (pairs : List Pair) → (begun ≈ with_iterator m pairs) → Serving begun
  begun_is pairs e = serving_on m begun (ap (λ (x : Machine). x.opened) e) (ap (λ (x : Machine). x.broken) e) is_serving

  only_serving : (n : Machine) → OnlyWalks walk.id begun n → Serving n
  only_serving n only = serving_on begun n (ap (λ (x : Machine). x.opened) only.1) (ap (λ (x : Machine). x.broken) only.1) (begun_is made.0 made.3)

  -- giving up the iterator leaves the machine as it was, but for the ids
  pub given_up : (last : Machine) (left : List Pair) (ended : RangeWalk) (n : Machine) (answer : Answer) → OnlyWalks walk.id begun last → ended.id ≡ walk.id → HasLeft order last ended left → Drops last ended.id answer n → (n ≈ walked m)
  given_up last left ended n answer only same live drops =
      let live_is : no_iterator (status_of last) ended.id ≡ None = ap (λ (o : Option Walk). cond (is_some o) None (Some error.NoIterator)) live.found in
      let cause : drop_cause (status_of last) ended.id ≡ None = (λ i. option_or (only_serving last only i) (live_is i)) in
      let done = dropped_as last n ended.id answer (served_as (drop_cause (status_of last) ended.id) _ _ cause drops.1) in
      let iterators : without_id ended.id last.iterators ≡ without_id (m.last_iterator + 1) m.iterators =
      ap (λ (id : ℕ). without_id id last.iterators) same
      ∙ only.0
      ∙ ap (λ (x : Machine). without_id walk.id x.iterators) made.3
      ∙ ap (λ (b : Bool). cond b (without_id walk.id m.iterators) ((m.last_iterator + 1, record { pairs = made.0; place = None }) ∷ without_id walk.id m.iterators)) (eq-eqb walk.id (m.last_iterator + 1) made.2)
      ∙ ap (λ (id : ℕ). without_id id m.iterators) made.2 in
      done
      ∙ (λ i. record (only.1 i) { iterators = iterators i; failures = n.failures; denials = n.denials })
      ∙ (λ i. record (made.3 i) { iterators = without_id (m.last_iterator + 1) m.iterators; failures = n.failures; denials = n.denials })

  pub scanned_all : (last : Machine) (ended : RangeWalk) (found : List Pair) (n : Machine) (answer : Answer) → Fills order limit begun walk [] (Ok tt) last ended found → ended.id ≡ walk.id → Drops last ended.id answer n → Scans order m keys snapshot limit found n
  scanned_all last ended found n answer fills same drops =
      let came = fills.gives (pairs_within order.cmp keys begins.0) begins.2 in
      (begins.0, begins.1, came.2 ∙ came.5, given_up last came.1 ended n answer fills.others same came.4 drops)

  pub scanned_refused : (last : Machine) (ended : RangeWalk) (found : List Pair) (e : DbError) (n : Machine) (answer : Answer) → Fills order limit begun walk [] (Err e) last ended found → ended.id ≡ walk.id → Drops last ended.id answer n → RefusesScan order m snapshot e n
  scanned_refused last ended found e n answer fills same drops =
      let came = fills.gives (pairs_within order.cmp keys begins.0) begins.2 in
      let refused = fills.refused (pairs_within order.cmp keys begins.0) begins.2 in
      let becomes = given_up last came.1 ended n answer fills.others same came.4 drops in
      let stood = refused.0 in
      let over_limit : m.over_limit ≡ stood.over_limit = sym (ap (λ (x : Machine). x.over_limit) refused.1.1 ∙ ap (λ (x : Machine). x.over_limit) made.3) in
      let damaged : m.damaged ≡ stood.damaged = sym (ap (λ (x : Machine). x.damaged) refused.1.1 ∙ ap (λ (x : Machine). x.damaged) made.3) in
      inr (
        record (walked m) { failures = stood.failures; denials = stood.denials },
        refl,
        read_on (record (walked m) { failures = stood.failures; denials = stood.denials }) n e stood last refl over_limit damaged drops.0.failures becomes (serving_read stood e last (only_serving stood refused.1) refused.2),
      )
