-- Steps of an iteration over a range: what a move of its iterator makes of it.
use Rattle.std.proofs.Common.{◌≡◌, ℕ, ◌+◌, Bool, true, false, cond, List, [], ◌∷◌, drop, Option, Some, None, is_some, Ok, MatchBool, MatchOption, unwrap_or, inl, inr, refl, sym, ap, subst, ◌∙◌}
use Rattle.std.specs.Bool.{nat_eq}
use Rattle.std.specs.Cmp.{IsTotalOrder}
use Rattle.std.specs.List.{slice_get}
use Rattle.std.specs.Map.{lookup}
use Rattle.std.specs.Option.{option_or, option_and_then}
use Rattle.std.proofs.lemmas.Bool.{eq-eqb}
use Rattle.coding.specs.declared.error.DbError.{DbError}
use Rattle.coding.specs.declared.error.DbError.TheVariants as error
use Rattle.ikey.specs.Orders.{Order}
use Rattle.machine.specs.declared.command.Answer.{Answer}
use Rattle.machine.specs.declared.command.Answer.TheVariants.{Iterator, Pair as Paired, Refused}
use Rattle.machine.specs.Machine.{Machine, Walk, walk_under}
use Rattle.machine.specs.Causes.{Motion, ToNext, iterate_cause, lacks_place, move_cause, no_iterator, not_serving, status_of}
use Rattle.machine.specs.Serving.{◌≈◌, ReadRefused}
use Rattle.machine.specs.Views.{Iterates, Iterated, without_id}
use Rattle.machine.specs.Walks.{Moves, Moved, moved, pair_at, place_after, place_at}
use Rattle.engine.specs.declared.ranges.KeyRange.{KeyRange}
use Rattle.engine.specs.declared.ranges.RangeWalk.{RangeWalk}
use Rattle.engine.specs.declared.ranges.Stage.{Stage}
use Rattle.engine.specs.declared.ranges.Stage.TheVariants.{Ahead, Within, Over}
use Rattle.engine.specs.Ranges.{Cmp, Pair, Begins, GivesFirst, HasLeft, LeftAt, OnlyWalks, RefusesWalk, SameWalk, Settles, is_before_end, next_motion, pairs_within, start_motion, start_of, up_to}
use Rattle.engine.proofs.RangePairs.{pairs_of_range, place_split}

-- ---- what is live but for one id

abbrev Walks : Type 0
Walks = List (ℕ × Walk)

abbrev Same : Walks → Walks → Type 0
Same xs ys = xs ≡ ys

without_twice : (id : ℕ) (live : Walks) → Same (without_id id (without_id id live)) (without_id id live)
without_twice id [] = refl
without_twice id (first ∷ live) = at (nat_eq id first.0) refl (without_twice id live)
  where
    at : (b : Bool) → nat_eq id first.0 ≡ b → Same (without_id id (without_id id live)) (without_id id live) → Same (without_id id (cond b (without_id id live) (first ∷ without_id id live))) (cond b (without_id id live) (first ∷ without_id id live))
    at true is rest = rest
    at false is rest = ap (λ (b : Bool). cond b (without_id id (without_id id live)) (first ∷ without_id id (without_id id live))) is ∙ (λ i. first ∷ rest i)

-- what stands in front under the id is no part of it
without_front : (id : ℕ) (walk : Walk) (live : Walks) → Same (without_id id ((id, walk) ∷ without_id id live)) (without_id id live)
without_front id walk live = ap (λ (b : Bool). cond b (without_id id (without_id id live)) ((id, walk) ∷ without_id id (without_id id live))) (eq-eqb id id refl) ∙ without_twice id live

-- ---- what a served command does

-- an answer that is no refusal
pub served : (cause : Option DbError) (P : Type 0) (Q : DbError → Type 0) → ((e : DbError) → Q e → ⊥) → MatchOption cause P Q → P
served None P Q never h = h
served (Some e) P Q never h = absurd (never e h)

pub only_same : (id : ℕ) (m n : Machine) → (n ≈ m) → OnlyWalks id m n
only_same id m n e = (ap (λ (x : Machine). without_id id x.iterators) e, e ∙ (λ i. record m { iterators = (sym (ap (λ (x : Machine). x.iterators) e)) i; failures = n.failures; denials = n.denials }))

only_moved : (id : ℕ) (m n : Machine) (place : Option ℕ) → (n ≈ moved m id place) → OnlyWalks id m n
only_moved id m n place e = (
  ap (λ (x : Machine). without_id id x.iterators) e ∙ without_front id (record (walk_under m id) { place = place }) m.iterators,
  e ∙ (λ i. record m { iterators = (sym (ap (λ (x : Machine). x.iterators) e)) i; failures = n.failures; denials = n.denials }),
)

read_same : (m n : Machine) (e : DbError) → ReadRefused m e n → (n ≈ m)
read_same m n error.OutOfMemory h = h
read_same m n error.Io h = h.1
read_same m n (error.Corrupt file what) h = h.1
read_same m n (error.Unsupported limit) h = h.1
read_same m n _ h = absurd h

move_only : (order : Order) (m n : Machine) (id : ℕ) (motion : Motion) (answer : Answer) → Moved order m id motion answer n → OnlyWalks id m n
move_only order m n id motion (Paired pair) h = only_moved id m n _ h.1
move_only order m n id motion (Refused e) h = only_same id m n (read_same m n e h)
move_only order m n id motion _ h = absurd h

by_cause_only : (cause : Option DbError) (id : ℕ) (m n : Machine) (P : Type 0) (Q : DbError → Type 0) → (P → OnlyWalks id m n) → ((e : DbError) → Q e → OnlyWalks id m n) → MatchOption cause P Q → OnlyWalks id m n
by_cause_only None id m n P Q f g h = f h
by_cause_only (Some e) id m n P Q f g h = g e h

-- A move of an iterator changes nothing of the others.
pub moves_only : (order : Order) (m n : Machine) (id : ℕ) (motion : Motion) (answer : Answer) → Moves order m id motion answer n → OnlyWalks id m n
moves_only order m n id motion answer h = by_cause_only (move_cause (status_of m) id motion) id m n _ _ (move_only order m n id motion answer) (λ e q. only_same id m n q.1) h.1

-- ---- a walk as it was

pub left_same : (order : Order) (m n : Machine) (walk : RangeWalk) (rest : List Pair) → (n ≈ m) → HasLeft order m walk rest → HasLeft order n walk rest
left_same order m n walk rest e left = record { at = left.at; found = ap (λ (x : Machine). lookup (nat_eq walk.id) x.iterators) e ∙ left.found; left = left.left }

-- ---- a walk that goes on

settled_over : (cmp : Cmp) (stage : Stage) (keys : KeyRange) (at : Walk) (rest : List Pair) (result : Option Pair) → rest ≡ [] → result ≡ None → stage ≡ Over → GivesFirst rest (Ok result) (LeftAt cmp stage keys at)
settled_over cmp stage keys at rest result empty none over =
    subst (λ (r : Option Pair). GivesFirst rest (Ok r) (LeftAt cmp stage keys at)) (sym none) (empty, subst (λ (s : Stage). LeftAt cmp s keys at []) (sym over) refl)

settled_within : (cmp : Cmp) (stage : Stage) (keys : KeyRange) (at : Walk) (rest : List Pair) (result : Option Pair) (pair : Pair) (more : List Pair) (i : ℕ)
    → rest ≡ pair ∷ more → result ≡ Some pair → stage ≡ Within → at.place ≡ Some i → more ≡ up_to cmp keys.to (drop (i + 1) at.pairs) → GivesFirst rest (Ok result) (LeftAt cmp stage keys at)
settled_within cmp stage keys at rest result pair more i is some within placed left =
    subst (λ (r : Option Pair). GivesFirst rest (Ok r) (LeftAt cmp stage keys at)) (sym some) (more, is, subst (λ (s : Stage). LeftAt cmp s keys at more) (sym within) (i, placed, left))

module _ (cmp : Cmp) (walk next : RangeWalk) (pairs : List Pair) (c : ℕ) (result : Option Pair) where
  abbrev landed : Walk
  landed = record { pairs = pairs; place = place_at pairs c }

  abbrev Goes : Type 0
  Goes = GivesFirst (up_to cmp walk.keys.to (drop c pairs)) (Ok result) (LeftAt cmp next.stage walk.keys landed)

  settles_past : place_at pairs c ≡ None → drop c pairs ≡ [] → Settles cmp walk (pair_at pairs (place_at pairs c)) next result → Goes
  settles_past none empty h =
      let at = subst (λ (p : Option ℕ). Settles cmp walk (pair_at pairs p) next result) none h in
      settled_over cmp next.stage walk.keys landed _ result (ap (up_to cmp walk.keys.to) empty) at.0 (ap (λ (w : RangeWalk). w.stage) at.1)

  settles_at : (pair : Pair) → place_at pairs c ≡ Some c → slice_get pairs c ≡ Some pair → drop c pairs ≡ pair ∷ drop (c + 1) pairs → Settles cmp walk (pair_at pairs (place_at pairs c)) next result → Goes
  settles_at pair placed is front h = at (is_before_end cmp walk.keys.to pair.0) refl (subst (λ (o : Option Pair). Settles cmp walk o next result) is (subst (λ (p : Option ℕ). Settles cmp walk (pair_at pairs p) next result) placed h))
    where
      rest_is : (b : Bool) → is_before_end cmp walk.keys.to pair.0 ≡ b → up_to cmp walk.keys.to (drop c pairs) ≡ cond b (pair ∷ up_to cmp walk.keys.to (drop (c + 1) pairs)) []
      rest_is b before = ap (up_to cmp walk.keys.to) front ∙ ap (λ (t : Bool). cond t (pair ∷ up_to cmp walk.keys.to (drop (c + 1) pairs)) []) before

      at : (b : Bool) → is_before_end cmp walk.keys.to pair.0 ≡ b
          → MatchBool b ((result ≡ Some pair) × (next ≡ record walk { stage = Within })) ((result ≡ None) × (next ≡ record walk { stage = Over })) → Goes
      at true before k = settled_within cmp next.stage walk.keys landed _ result pair (up_to cmp walk.keys.to (drop (c + 1) pairs)) c (rest_is true before) k.0 (ap (λ (w : RangeWalk). w.stage) k.1) placed refl
      at false before k = settled_over cmp next.stage walk.keys landed _ result (rest_is false before) k.0 (ap (λ (w : RangeWalk). w.stage) k.1)

  settles_on : Settles cmp walk (pair_at pairs (place_at pairs c)) next result → Goes
  settles_on h = elim (place_split pairs c) [
    | inl p ↦ settles_past p.0 p.1 h
    | inr p ↦ settles_at p.0 p.1 p.2 p.3 h
  ]

same_if : (b : Bool) (walk next : RangeWalk) (result : Option Pair) (pair : Pair) → MatchBool b ((result ≡ Some pair) × (next ≡ record walk { stage = Within })) ((result ≡ None) × (next ≡ record walk { stage = Over })) → SameWalk walk next
same_if true walk next result pair h = (ap (λ (w : RangeWalk). w.id) h.1, ap (λ (w : RangeWalk). w.keys) h.1)
same_if false walk next result pair h = (ap (λ (w : RangeWalk). w.id) h.1, ap (λ (w : RangeWalk). w.keys) h.1)

pub same_settled : (cmp : Cmp) (walk next : RangeWalk) (found result : Option Pair) → Settles cmp walk found next result → SameWalk walk next
same_settled cmp walk next None result h = (ap (λ (w : RangeWalk). w.id) h.1, ap (λ (w : RangeWalk). w.keys) h.1)
same_settled cmp walk next (Some pair) result h = same_if (is_before_end cmp walk.keys.to pair.0) walk next result pair h

-- where the iterator of an iteration that isn't over is moved
start_place : (cmp : Cmp) (from : Option (List ℕ)) (at : Walk) → place_after cmp (start_motion from) at ≡ place_at at.pairs (start_of cmp from at.pairs)
start_place cmp None at = refl
start_place cmp (Some from) at = refl

next_place : (cmp : Cmp) (stage : Stage) (keys : KeyRange) (at : Walk) (rest : List Pair) → (stage ≡ Over → ⊥) → LeftAt cmp stage keys at rest
    → (c : ℕ) × (place_after cmp (next_motion stage keys) at ≡ place_at at.pairs c) × (rest ≡ up_to cmp keys.to (drop c at.pairs))
next_place cmp Ahead keys at rest goes left = (start_of cmp keys.from at.pairs, start_place cmp keys.from at, left)
next_place cmp Within keys at rest goes left = (left.0 + 1, ap (option_and_then (λ (i : ℕ). place_at at.pairs (i + 1))) left.1, left.2)
next_place cmp Over keys at rest goes left = absurd (goes refl)

gives_also : (rest : List Pair) (result : Option Pair) (L M : List Pair → Type 0) → ((more : List Pair) → L more → M more) → GivesFirst rest (Ok result) L → GivesFirst rest (Ok result) M
gives_also rest None L M f h = (h.0, f [] h.1)
gives_also rest (Some pair) L M f h = (h.0, h.1, f h.0 h.2)

module _ (order : Order) (m n : Machine) (walk next : RangeWalk) (goes : walk.stage ≡ Over → ⊥) where
  abbrev motion : Motion
  motion = next_motion walk.stage walk.keys

  under_is : (rest : List Pair) (left : HasLeft order m walk rest) → walk_under m walk.id ≡ left.at
  under_is rest left = ap (λ (o : Option Walk). unwrap_or o (record { pairs = []; place = None })) left.found

  found_after : (at : Walk) (place : Option ℕ) → walk_under m walk.id ≡ at → (n ≈ moved m walk.id place) → SameWalk walk next → lookup (nat_eq next.id) n.iterators ≡ Some (record at { place = place })
  found_after at place under becomes same =
      ap (λ (id : ℕ). lookup (nat_eq id) n.iterators) same.0
      ∙ ap (λ (x : Machine). lookup (nat_eq walk.id) x.iterators) becomes
      ∙ ap (λ (b : Bool). cond b (Some (record (walk_under m walk.id) { place = place })) (lookup (nat_eq walk.id) (without_id walk.id m.iterators))) (eq-eqb walk.id walk.id refl)
      ∙ (λ i. Some (record (under i) { place = place }))

  -- it is given the next pair
  pub goes_on : (found result : Option Pair) (rest : List Pair) → Settles order.cmp walk found next result → Moves order m walk.id motion (Paired found) n → HasLeft order m walk rest
      → GivesFirst rest (Ok result) (HasLeft order n next)
  goes_on found result rest settles moves left =
      let done = served (move_cause (status_of m) walk.id motion) (Moved order m walk.id motion (Paired found) n) _ (λ e q. (let never : ⊥ = (let same : Paired found ≡ Refused e = q.0 in cc) in never)) moves.1 in
      let under = under_is rest left in
      let next_at = next_place order.cmp walk.stage walk.keys left.at rest goes left.left in
      let place_is : place_after order.cmp motion (walk_under m walk.id) ≡ place_at left.at.pairs next_at.0 = ap (place_after order.cmp motion) under ∙ next_at.1 in
      let found_is : found ≡ pair_at left.at.pairs (place_at left.at.pairs next_at.0) = done.0 ∙ (λ i. pair_at (under i).pairs (place_is i)) in
      let becomes : (n ≈ moved m walk.id (place_at left.at.pairs next_at.0)) = subst (λ (p : Option ℕ). (n ≈ moved m walk.id p)) place_is done.1 in
      let same = same_settled order.cmp walk next found result settles in
      let steps = settles_on order.cmp walk next left.at.pairs next_at.0 result (subst (λ (o : Option Pair). Settles order.cmp walk o next result) found_is settles) in
      subst (λ (xs : List Pair). GivesFirst xs (Ok result) (HasLeft order n next)) (sym next_at.2)
      (gives_also _ result _ (HasLeft order n next) (λ more l. record {
        at = record left.at { place = place_at left.at.pairs next_at.0 };
        found = found_after left.at (place_at left.at.pairs next_at.0) under becomes same;
        left = subst (λ (keys : KeyRange). LeftAt order.cmp next.stage keys (record left.at { place = place_at left.at.pairs next_at.0 }) more) (sym same.1) l;
      }) steps)

-- ---- a walk that is refused

or_none : (cause rest : Option DbError) → rest ≡ None → option_or cause rest ≡ cause
or_none None rest is = is
or_none (Some e) rest is = refl

has_place : (cmp : Cmp) (stage : Stage) (keys : KeyRange) (at : Walk) (rest : List Pair) → LeftAt cmp stage keys at rest → (stage ≡ Over → ⊥) → lacks_place (is_some at.place) (next_motion stage keys) ≡ None
has_place cmp Ahead keys at rest left goes = start_free keys.from
  where
    start_free : (from : Option (List ℕ)) → lacks_place (is_some at.place) (start_motion from) ≡ None
    start_free None = refl
    start_free (Some from) = refl
has_place cmp Within keys at rest left goes = ap (λ (o : Option ℕ). lacks_place (is_some o) ToNext) left.1
has_place cmp Over keys at rest left goes = absurd (goes refl)

refuses_as : (cause : Option DbError) (m n : Machine) (e : DbError) → MatchOption cause (ReadRefused m e n) (λ c. (Refused e ≡ Refused c) × (n ≈ m)) → MatchOption cause (ReadRefused m e n) (λ c. (e ≡ c) × (n ≈ m))
refuses_as None m n e h = h
refuses_as (Some c) m n e h = (let same : Refused e ≡ Refused c = h.0 in cc, h.1)

same_refused : (cause : Option DbError) (m n : Machine) (e : DbError) → MatchOption cause (ReadRefused m e n) (λ c. (e ≡ c) × (n ≈ m)) → (n ≈ m)
same_refused None m n e h = read_same m n e h
same_refused (Some c) m n e h = h.1

pub refused_walk_same : (m n : Machine) (e : DbError) → RefusesWalk m e n → (n ≈ m)
refused_walk_same m n e h = same_refused (not_serving (status_of m)) m n e h

module _ (order : Order) (m n : Machine) (walk : RangeWalk) (goes : walk.stage ≡ Over → ⊥) where
  pub refused_walk : (e : DbError) (rest : List Pair) → Moves order m walk.id (next_motion walk.stage walk.keys) (Refused e) n → HasLeft order m walk rest → RefusesWalk m e n
  refused_walk e rest moves left =
      let motion = next_motion walk.stage walk.keys in
      let under : walk_under m walk.id ≡ left.at = ap (λ (o : Option Walk). unwrap_or o (record { pairs = []; place = None })) left.found in
      let live : no_iterator (status_of m) walk.id ≡ None = ap (λ (o : Option Walk). cond (is_some o) None (Some error.NoIterator)) left.found in
      let placed : lacks_place (is_some (walk_under m walk.id).place) motion ≡ None = ap (λ (w : Walk). lacks_place (is_some w.place) motion) under ∙ has_place order.cmp walk.stage walk.keys left.at rest left.left goes in
      let none : option_or (no_iterator (status_of m) walk.id) (lacks_place (is_some (walk_under m walk.id).place) motion) ≡ None = (λ i. option_or (live i) (placed i)) in
      let cause : move_cause (status_of m) walk.id motion ≡ not_serving (status_of m) = or_none (not_serving (status_of m)) _ none in
      refuses_as (not_serving (status_of m)) m n e (subst (λ (c : Option DbError). MatchOption c (ReadRefused m e n) (λ d. (Refused e ≡ Refused d) × (n ≈ m))) cause moves.1)

  pub left_refused : (e : DbError) (rest : List Pair) → Moves order m walk.id (next_motion walk.stage walk.keys) (Refused e) n → HasLeft order m walk rest → HasLeft order n walk rest
  left_refused e rest moves left = left_same order m n walk rest (refused_walk_same m n e (refused_walk e rest moves left)) left

-- ---- a walk that begins

-- all of the range is before it
pub begins : (order : Order) → IsTotalOrder order.cmp → (m n : Machine) (keys : KeyRange) (snapshot : Option ℕ) (walk : RangeWalk) → walk.keys ≡ keys → walk.stage ≡ Ahead → Iterates order m snapshot (Iterator walk.id) n
    → Begins order m keys snapshot (Ok walk) n
begins order total m n keys snapshot walk of_keys ahead iterates =
    let done = served (iterate_cause (status_of m) snapshot) (Iterated order m snapshot (Iterator walk.id) n) _ (λ e q. (let never : ⊥ = (let same : Iterator walk.id ≡ Refused e = q.0 in cc) in never)) iterates.1 in
    let at : Walk = record { pairs = done.0; place = None } in (
      done.0,
      done.1,
      record {
        at = at;
        found =
            ap (λ (x : Machine). lookup (nat_eq walk.id) x.iterators) done.3
            ∙ ap (λ (b : Bool). cond b (Some at) (lookup (nat_eq walk.id) m.iterators)) (ap (nat_eq walk.id) (sym done.2) ∙ eq-eqb walk.id walk.id refl);
        left = subst (λ (s : Stage). LeftAt order.cmp s walk.keys at (pairs_within order.cmp keys done.0)) (sym ahead)
            (ap (λ (k : KeyRange). pairs_within order.cmp k done.0) (sym of_keys) ∙ pairs_of_range order.cmp total walk.keys done.0 done.1.sorted);
      },
      iterates,
    )
