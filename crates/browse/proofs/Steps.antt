-- The moves that start a walk through a range, and its steps.
use Rattle.std.proofs.Common.{◌≡◌, ◌<◌, ◌≤◌, ◌+◌, ℕ, Bool, true, false, cond, is_some, IsTrue, List, length, take, drop, Option, Some, None, Result, Ok, Err, inl, inr, refl, sym, ap, subst, ◌∙◌, arith}
use mathlib.Core.Bool.{true≢false}
use Rattle.std.specs.Prelude.{IfErr, OnOk, reverse}
use Rattle.std.specs.Option.{option_and_then}
use Rattle.coding.specs.declared.error.DbError.{DbError}
use Rattle.coding.specs.declared.error.DbError.TheVariants as error
use Rattle.store.specs.Files.{Facts, Files}
use Rattle.table.specs.Reading.{Reads}
use Rattle.table.proofs.Steps.{reads_then}
use Rattle.machine.specs.Machine.{Walk}
use Rattle.machine.specs.Causes.{Motion, ToFirst, ToKey, ToLast, ToNext, ToPrev, lacks_place}
use Rattle.machine.specs.Walks.{count_below, pair_at, place_after, place_at, place_before}
use Rattle.engine.specs.Ranges.{Cmp, Pair, start_of}
use Rattle.db_cursor.specs.Scans.{ListsMerged}
use Rattle.reader.specs.declared.reader.Reader.{Reader}
use Rattle.reader.specs.declared.reader.ReaderWalk.{ReaderWalk}
use Rattle.reader.specs.Readers.{facts_of, scan_of, whole_of}
use Rattle.reader.specs.Moving.{IsMoved}
use Rattle.reader.specs.internal.Iterators.{walked_of}
use Rattle.reader.proofs.Walking.{stands_is}
use Rattle.browse.specs.Refusals.{HasLongTable}
use Rattle.browse.specs.internal.Lists.{all_of, end_of}
use Rattle.browse.specs.declared.choice.Choice.{Choice}
use Rattle.browse.specs.internal.Walking.{Ahead, Moves, RefusesMove, Stands, StandsBefore, StartsBackwards, StartsForwards}
use Rattle.browse.proofs.Lists.{Splits, count_within, ends_there, lands, last_is, splits_back, splits_on}
use Rattle.browse.proofs.Moving.{Moved, move_refused, moves_from, moves_nowhere}

-- ---- refusals

-- what was refused later, of a reader and a walk that stand for what they stood for
pub refused_later : (cmp : Cmp) (e : DbError) (a b c : Facts) (Of Later : Type 0 → Type 0) → Reads a b → b.failures ≡ a.failures → (IsTrue c.faithful → IsTrue b.faithful) → ((P Q : Type 0) → (P → Q) → IsTrue b.faithful → Later P → Of Q)
    → RefusesMove cmp e b c Later → RefusesMove cmp e a c Of
refused_later cmp error.OutOfMemory a b c Of Later reads stood back carry h = h ∙ stood
refused_later cmp error.Io a b c Of Later reads stood back carry h = omega (arith, h, stood)
refused_later cmp error.NoPlace a b c Of Later reads stood back carry h = λ f. carry ⊥ ⊥ (λ never. never) (back f) (h f)
refused_later cmp (error.Corrupt file what) a b c Of Later reads stood back carry h = λ f. carry ⊥ ⊥ (λ never. never) (back f) (h f)
refused_later cmp (error.Unsupported what) a b c Of Later reads stood back carry h = λ f.
    carry (HasLongTable cmp b.files) (HasLongTable cmp a.files) (λ long. subst (λ (fs : Files). HasLongTable cmp fs) (reads.files (back f)) long) (back f) (h f)
refused_later cmp _ a b c Of Later reads stood back carry h = absurd h

-- ---- one move behind another

module _ {S K : Type 0} {g : _} (cmp : Cmp) (facts : S → Facts) (motion : Motion) (old mid new : Reader S K) (before between after : ReaderWalk K g) (found : Option Pair) (backwards : Bool)
    (Before Later : Walk → List Pair → Type 0) (has : lacks_place (scan_of before).walk.stands motion ≡ None) (first : IsMoved cmp motion (whole_of facts old) (whole_of facts mid) (scan_of before) (scan_of between) (Ok found))
    (known : (at : Walk) (ahead : List Pair) → Before at ahead → found ≡ pair_at at.pairs (place_after cmp motion at) → Later (record at { place = place_after cmp motion at }) ahead) where
  then_stands : IsTrue (facts_of facts mid).faithful → (at : Walk) (ahead : List Pair) → Stands cmp facts old before at → Before at ahead
      → Stands cmp facts mid between (record at { place = place_after cmp motion at }) × Later (record at { place = place_after cmp motion at }) ahead
  then_stands f at ahead stands h = let to = first.moves f has true at stands in (to.0, known at ahead h to.1)

  pub moves_then : (result : Result (Option Pair) DbError) → Moves cmp facts backwards Later all_of mid new between after result → Moves cmp facts backwards Before all_of old new before after result
  moves_then result m = record {
    reads = reads_then (facts_of facts old) (facts_of facts mid) (facts_of facts new) first.reads m.reads;
    stood = stood_on result m.stood;
    moves = λ f at ahead stands h. let there = then_stands (m.reads.faithful f) at ahead stands h in m.moves f (record at { place = place_after cmp motion at }) ahead there.0 there.1;
    refused = refused_on result m.refused;
  }
    where
      stood_on : (r : Result (Option Pair) DbError) → OnOk r ((facts_of facts new).failures ≡ (facts_of facts mid).failures) → OnOk r ((facts_of facts new).failures ≡ (facts_of facts old).failures)
      stood_on (Ok x) h = h ∙ first.still
      stood_on (Err e) h = tt

      refused_on : (r : Result (Option Pair) DbError) → IfErr r (λ e. RefusesMove cmp e (facts_of facts mid) (facts_of facts new) (λ P. (at : Walk) (ahead : List Pair) → Stands cmp facts mid between at → Later at ahead → P))
          → IfErr r (λ e. RefusesMove cmp e (facts_of facts old) (facts_of facts new) (λ P. (at : Walk) (ahead : List Pair) → Stands cmp facts old before at → Before at ahead → P))
      refused_on (Ok x) h = tt
      refused_on (Err e) h =
          refused_later cmp e (facts_of facts old) (facts_of facts mid) (facts_of facts new) (λ P. (at : Walk) (ahead : List Pair) → Stands cmp facts old before at → Before at ahead → P)
          (λ P. (at : Walk) (ahead : List Pair) → Stands cmp facts mid between at → Later at ahead → P) first.reads first.still m.reads.faithful
          (λ P Q goes f later at ahead stands h'. let there = then_stands f at ahead stands h' in goes (later (record at { place = place_after cmp motion at }) ahead there.0 there.1)) h

-- ---- where moves lead

splits_same : (backwards : Bool) (pairs : List Pair) (place other : Option ℕ) (ahead all : List Pair) → place ≡ other → ahead ≡ all → Splits backwards pairs other all → Splits backwards pairs place ahead
splits_same backwards pairs place other ahead all p e h = subst (λ (x : Option ℕ). Splits backwards pairs x ahead) (sym p) (subst (λ (t : List Pair). Splits backwards pairs other t) (sym e) h)

module _ {S K : Type 0} {g : _} (cmp : Cmp) (facts : S → Facts) (old new : Reader S K) (before after : ReaderWalk K g) (result : Result (Option Pair) DbError) where
  pub starts_first : (from : Option (List ℕ)) → from ≡ None → Moved cmp facts ToFirst old new before after result → Moves cmp facts false (StartsForwards cmp from) all_of old new before after result
  starts_first from none m = subst (λ (o : Option (List ℕ)). Moves cmp facts false (StartsForwards cmp o) all_of old new before after result) (sym none)
      (moves_from cmp facts ToFirst old new before after (StartsForwards cmp None) false (λ at ahead stands h. splits_same false at.pairs _ _ ahead _ refl h (splits_on at.pairs 0)) refl result m)

  pub starts_at : (from : Option (List ℕ)) (key : List ℕ) → from ≡ Some key → Moved cmp facts (ToKey key) old new before after result → Moves cmp facts false (StartsForwards cmp from) all_of old new before after result
  starts_at from key some m = subst (λ (o : Option (List ℕ)). Moves cmp facts false (StartsForwards cmp o) all_of old new before after result) (sym some)
      (moves_from cmp facts (ToKey key) old new before after (StartsForwards cmp (Some key)) false (λ at ahead stands h. splits_same false at.pairs _ _ ahead _ refl h (splits_on at.pairs (count_below cmp key at.pairs))) refl result m)

  pub starts_last : (to : Option (List ℕ)) → to ≡ None → Moved cmp facts ToLast old new before after result → Moves cmp facts true (StartsBackwards cmp to) all_of old new before after result
  starts_last to none m = subst (λ (o : Option (List ℕ)). Moves cmp facts true (StartsBackwards cmp o) all_of old new before after result) (sym none)
      (moves_from cmp facts ToLast old new before after (StartsBackwards cmp None) true (λ at ahead stands h. splits_same true at.pairs _ _ ahead _ (last_is at.pairs) h (splits_back at.pairs (length at.pairs) (omega arith))) refl result m)

  -- the place of a walk that stands somewhere
  known_stands : (at : Walk) (i : ℕ) → Stands cmp facts old before at → at.place ≡ Some i → (scan_of before).walk.stands ≡ true
  known_stands at i h is =
      let scan = scan_of before in
      let w = h.scan.walk in
      stands_is cmp (ListsMerged cmp) scan.walk.cursor scan.walk.sequence scan.walk.stands scan.walk.position scan.walk.here.key.items scan.walk.here.value.items (whole_of facts old) w.0 (walked_of at) w.2 ∙ ap is_some is

  module _ (backwards : Bool) (Before : Walk → List Pair → Type 0) (placed : (at : Walk) (ahead : List Pair) → Before at ahead → (i : ℕ) × (at.place ≡ Some i)) where
    pub steps_next : ((at : Walk) (ahead : List Pair) → Stands cmp facts old before at → Before at ahead → Splits backwards at.pairs (place_after cmp ToNext at) ahead) → Moved cmp facts ToNext old new before after result
        → Moves cmp facts backwards Before all_of old new before after result
    steps_next splits m = at (scan_of before).walk.stands refl
      where
        at : (b : Bool) → (scan_of before).walk.stands ≡ b → Moves cmp facts backwards Before all_of old new before after result
        at true is = moves_from cmp facts ToNext old new before after Before backwards splits (ap (λ (b : Bool). lacks_place b ToNext) is) result m
        at false is = moves_nowhere cmp facts ToNext old new before after Before backwards splits (ap (λ (b : Bool). lacks_place b ToNext) is)
            (λ walk ahead stands h. let p = placed walk ahead h in true≢false (sym (known_stands walk p.0 stands p.1) ∙ is)) result m

    pub steps_prev : ((at : Walk) (ahead : List Pair) → Stands cmp facts old before at → Before at ahead → Splits backwards at.pairs (place_after cmp ToPrev at) ahead) → Moved cmp facts ToPrev old new before after result
        → Moves cmp facts backwards Before all_of old new before after result
    steps_prev splits m = at (scan_of before).walk.stands refl
      where
        at : (b : Bool) → (scan_of before).walk.stands ≡ b → Moves cmp facts backwards Before all_of old new before after result
        at true is = moves_from cmp facts ToPrev old new before after Before backwards splits (ap (λ (b : Bool). lacks_place b ToPrev) is) result m
        at false is = moves_nowhere cmp facts ToPrev old new before after Before backwards splits (ap (λ (b : Bool). lacks_place b ToPrev) is)
            (λ walk ahead stands h. let p = placed walk ahead h in true≢false (sym (known_stands walk p.0 stands p.1) ∙ is)) result m

  -- steps
  pub goes_next : (backwards : Bool) → backwards ≡ false → Moved cmp facts ToNext old new before after result → Moves cmp facts backwards (StandsBefore backwards) all_of old new before after result
  goes_next backwards is m = subst (λ (b : Bool). Moves cmp facts b (StandsBefore b) all_of old new before after result) (sym is)
      (steps_next false (StandsBefore false) (λ at ahead h. (h.0, h.1)) (λ at ahead stands h. splits_same false at.pairs _ _ ahead _ (ap (option_and_then (λ (i : ℕ). place_at at.pairs (i + 1))) h.1) h.3 (splits_on at.pairs (h.0 + 1))) m)

  pub goes_back : (backwards : Bool) → backwards ≡ true → Moved cmp facts ToPrev old new before after result → Moves cmp facts backwards (StandsBefore backwards) all_of old new before after result
  goes_back backwards is m = subst (λ (b : Bool). Moves cmp facts b (StandsBefore b) all_of old new before after result) (sym is)
      (steps_prev true (StandsBefore true) (λ at ahead h. (h.0, h.1)) (λ at ahead stands h. splits_same true at.pairs _ _ ahead _ (ap (option_and_then place_before) h.1) h.3 (splits_back at.pairs h.0 (let lt : h.0 < length at.pairs = h.2 in omega (arith, lt)))) m)

-- ---- the last pair in front of a key

-- the walk stands on the first pair that doesn't come before it, and what is ahead is in front of
-- that
abbrev StandsOn : Walk → List Pair → Type 0
StandsOn at ahead = (i : ℕ) × (at.place ≡ Some i) × (i ≤ length at.pairs) × (ahead ≡ reverse (take i at.pairs))

module _ {S K : Type 0} {g : _} (cmp : Cmp) (facts : S → Facts) (to : List ℕ) (old mid new : Reader S K) (before between after : ReaderWalk K g) where
  on_pair : (pair : Pair) (at : Walk) (ahead : List Pair) → StartsBackwards cmp (Some to) at ahead → Some pair ≡ pair_at at.pairs (place_at at.pairs (count_below cmp to at.pairs)) → StandsOn (record at { place = place_at at.pairs (count_below cmp to at.pairs) }) ahead
  on_pair pair at ahead h is = elim (splits_on at.pairs (count_below cmp to at.pairs)) [
    | inl none ↦ absurd (let never : Some pair ≡ None = is ∙ ap (pair_at at.pairs) none.0 in cc)
    | inr some ↦ (
      some.1,
      some.2,
      (let lt : some.1 < length at.pairs = some.3 in omega (arith, lt)),
      h ∙ ap (λ (n : ℕ). reverse (take n at.pairs)) (sym (lands at.pairs (count_below cmp to at.pairs) some.1 some.2)),
    )
  ]

  on_none : (at : Walk) (ahead : List Pair) → StartsBackwards cmp (Some to) at ahead → None ≡ pair_at at.pairs (place_at at.pairs (count_below cmp to at.pairs)) → StartsBackwards cmp None (record at { place = place_at at.pairs (count_below cmp to at.pairs) }) ahead
  on_none at ahead h is = elim (splits_on at.pairs (count_below cmp to at.pairs)) [
    | inl none ↦ h ∙ ap (λ (n : ℕ). reverse (take n at.pairs)) (ends_there at.pairs (count_below cmp to at.pairs) (count_within cmp to at.pairs) none.1)
    | inr some ↦ absurd (let never : None ≡ Some some.0 = is ∙ ap (pair_at at.pairs) some.2 ∙ some.4 in cc)
  ]

  pub starts_in_front : (pair : Pair) (result : Result (Option Pair) DbError) → Moved cmp facts (ToKey to) old mid before between (Ok (Some pair)) → Moved cmp facts ToPrev mid new between after result
      → Moves cmp facts true (StartsBackwards cmp (Some to)) all_of old new before after result
  starts_in_front pair result first second =
      moves_then cmp facts (ToKey to) old mid new before between after (Some pair) true (StartsBackwards cmp (Some to)) StandsOn refl first (on_pair pair) result
      (steps_prev cmp facts mid new between after result true StandsOn (λ at ahead h. (h.0, h.1))
      (λ at ahead stands h. splits_same true at.pairs _ _ ahead _ (ap (option_and_then place_before) h.1) h.3 (splits_back at.pairs h.0 h.2)) second)

  pub starts_at_end : (result : Result (Option Pair) DbError) → Moved cmp facts (ToKey to) old mid before between (Ok None) → Moved cmp facts ToLast mid new between after result
      → Moves cmp facts true (StartsBackwards cmp (Some to)) all_of old new before after result
  starts_at_end result first second =
      moves_then cmp facts (ToKey to) old mid new before between after None true (StartsBackwards cmp (Some to)) (StartsBackwards cmp None) refl first on_none result
      (starts_last cmp facts mid new between after result None refl second)

  pub starts_refused : (e : DbError) → Moved cmp facts (ToKey to) old mid before between (Err e) → Moves cmp facts true (StartsBackwards cmp (Some to)) all_of old mid before between (Err e)
  starts_refused e m = record {
    reads = m.reads;
    stood = tt;
    moves = λ f at ahead stands h. tt;
    refused = move_refused cmp facts (ToKey to) old mid before between (StartsBackwards cmp (Some to)) refl e m;
  }

-- ---- by what the walk has done

module _ {S K : Type 0} {g : _} (cmp : Cmp) (facts : S → Facts) (choice : Choice) (begun : Bool) (old new : Reader S K) (before after : ReaderWalk K g) (result : Result (Option Pair) DbError) where
  pub goes_on : begun ≡ true → Moves cmp facts choice.backwards (StandsBefore choice.backwards) all_of old new before after result → Moves cmp facts choice.backwards (Ahead cmp choice begun) all_of old new before after result
  goes_on is m = subst (λ (b : Bool). Moves cmp facts choice.backwards (Ahead cmp choice b) all_of old new before after result) (sym is) m

  -- what is known of less is so of it
  moves_as : (Before Fewer : Walk → List Pair → Type 0) → ((at : Walk) (ahead : List Pair) → Fewer at ahead → Before at ahead) → Moves cmp facts choice.backwards Before all_of old new before after result → Moves cmp facts choice.backwards Fewer all_of old new before after result
  moves_as Before Fewer goes m = record {
    reads = m.reads;
    stood = m.stood;
    moves = λ f at ahead stands h. m.moves f at ahead stands (goes at ahead h);
    refused = refused_on result m.refused;
  }
    where
      itself : Reads (facts_of facts old) (facts_of facts old)
      itself = record { faithful = λ f. f; files = λ f. refl; failures = omega arith; writes = refl; denials = refl; locked = refl; synced = λ f. refl; calls = λ f. refl }

      refused_on : (r : Result (Option Pair) DbError) → IfErr r (λ e. RefusesMove cmp e (facts_of facts old) (facts_of facts new) (λ P. (at : Walk) (ahead : List Pair) → Stands cmp facts old before at → Before at ahead → P))
          → IfErr r (λ e. RefusesMove cmp e (facts_of facts old) (facts_of facts new) (λ P. (at : Walk) (ahead : List Pair) → Stands cmp facts old before at → Fewer at ahead → P))
      refused_on (Ok x) h = tt
      refused_on (Err e) h =
          refused_later cmp e (facts_of facts old) (facts_of facts old) (facts_of facts new) (λ P. (at : Walk) (ahead : List Pair) → Stands cmp facts old before at → Fewer at ahead → P)
          (λ P. (at : Walk) (ahead : List Pair) → Stands cmp facts old before at → Before at ahead → P) itself refl m.reads.faithful
          (λ P Q go f later at ahead stands h'. go (later at ahead stands (goes at ahead h'))) h

  pub begins_back : begun ≡ false → choice.backwards ≡ true → Moves cmp facts true (StartsBackwards cmp choice.keys.to) all_of old new before after result → Moves cmp facts choice.backwards (Ahead cmp choice begun) all_of old new before after result
  begins_back not_begun back m =
      subst (λ (b : Bool). Moves cmp facts choice.backwards (Ahead cmp choice b) all_of old new before after result) (sym not_begun)
      (moves_as (StartsBackwards cmp choice.keys.to) (Ahead cmp choice false)
      (λ at ahead h. h ∙ ap (λ (b : Bool). cond b (reverse (take (end_of cmp choice.keys.to at.pairs) at.pairs)) (drop (start_of cmp choice.keys.from at.pairs) at.pairs)) back)
      (subst (λ (b : Bool). Moves cmp facts b (StartsBackwards cmp choice.keys.to) all_of old new before after result) (sym back) m))

  pub begins_forth : begun ≡ false → choice.backwards ≡ false → Moves cmp facts false (StartsForwards cmp choice.keys.from) all_of old new before after result → Moves cmp facts choice.backwards (Ahead cmp choice begun) all_of old new before after result
  begins_forth not_begun forth m =
      subst (λ (b : Bool). Moves cmp facts choice.backwards (Ahead cmp choice b) all_of old new before after result) (sym not_begun)
      (moves_as (StartsForwards cmp choice.keys.from) (Ahead cmp choice false)
      (λ at ahead h. h ∙ ap (λ (b : Bool). cond b (reverse (take (end_of cmp choice.keys.to at.pairs) at.pairs)) (drop (start_of cmp choice.keys.from at.pairs) at.pairs)) forth)
      (subst (λ (b : Bool). Moves cmp facts b (StartsForwards cmp choice.keys.from) all_of old new before after result) (sym forth) m))
