-- What pieces of work do to the machine.
use Rattle.std.proofs.Common.{◌≡◌, ℕ, ◌+◌, ◌≤◌, ◌<◌, Bool, true, false, max, None, Result, Ok, Err, MatchResult, MatchBool, IsTrue, inl, inr, refl, sym, ap, subst, ◌∙◌, arith}
use Rattle.coding.specs.declared.error.DbError.{DbError}
use Rattle.coding.specs.declared.error.DbError.TheVariants as error
use Rattle.ikey.specs.Orders.{Order}
use Rattle.table_access.specs.Tables.{Seen}
use Rattle.store.specs.Files.{Facts}
use Rattle.engine.specs.declared.ids.Ids.{Ids}
use Rattle.engine.specs.declared.work.Progress.{Progress}
use Rattle.engine.specs.declared.work.Progress.TheVariants as progress
use Rattle.engine.specs.internal.Leading.{LeadsOpen}
use Rattle.engine.specs.OpenDb.{OpenDb}
use Rattle.machine.specs.Machine.{Machine, weight}
use Rattle.machine.specs.Causes.{not_serving, status_of}
use Rattle.engine.specs.internal.Standing.{HasCounts, IsBroken, IsServing, StandsOpen, StandsWhole}
use Rattle.machine.specs.Upkeep.{Draws, UpkeepRefused, WorkDone, Works}
use Rattle.engine.specs.internal.Pieces.{IsPiece}
use Rattle.engine.specs.Working.{work_answer}
use Rattle.engine.proofs.Steps.{serving_of, denies_none, without_cause}

-- ---- the flag of damage

-- what so moves keeps it
abbrev pub KeepsFlag : (Machine → Machine → Type 0) → Type 0
KeepsFlag moves = (m n : Machine) → moves m n → n.damaged ≡ m.damaged

pub stands_whole : {K : Type 0} {g : _} (order : Order) (source : Seen) (ids : Ids) (db : OpenDb K g) (m n : Machine) → m.damaged ≡ false → n.damaged ≡ m.damaged → StandsOpen order source ids db n → StandsWhole order source ids db n
stands_whole order source ids db m n is same s = record { stands = s; undamaged = same ∙ is }

-- ---- a piece

-- the machine with so many numbers more, and a store of which this is known
abbrev pub drawing : Machine → ℕ → Facts → Machine
drawing m most facts = record m { numbers = m.numbers + most; failures = facts.failures; denials = facts.denials }

pub draws : (m : Machine) (most : ℕ) (facts : Facts) → Draws m most (drawing m most facts)
draws m most facts = ((omega arith, omega arith), refl)

pub piece_of : {T : Type 0} (m : Machine) (most : ℕ) (old facts : Facts) (result : Result T DbError) (n : Machine) → HasCounts old m → n.failures ≡ facts.failures → n.denials ≡ facts.denials → old.failures ≤ facts.failures → facts.denials ≡ old.denials
    → MatchResult result (λ done. Draws m most n) (λ e. UpkeepRefused m most e n) → IsPiece m most result n
piece_of m most old facts result n counts failures denials rise undenied what = record {
  failures = (let is = counts.failures in omega (arith, is, failures, rise));
  denials = denials ∙ undenied ∙ sym counts.denials;
  what = what;
}

module _ {K : Type 0} {g : _} (order : Order) (old new : Seen) (ids : Ids) (before after : OpenDb K g) where
  -- one that leaves a serving database
  pub serves_on : {T : Type 0} (most : ℕ) (result : Result T DbError) → before.broken ≡ false → after.broken ≡ false → (IsTrue new.facts.faithful → IsTrue old.facts.faithful) → old.facts.failures ≤ new.facts.failures → new.facts.denials ≡ old.facts.denials
      → ((m : Machine) → IsTrue new.facts.faithful → m.failures ≡ old.facts.failures → IsServing order old before m
      → MatchResult result (λ done. Draws m most (drawing m most new.facts)) (λ e. UpkeepRefused m most e (drawing m most new.facts)) × IsServing order new after (drawing m most new.facts))
      → LeadsOpen order old new ids before after (λ m n. IsPiece m most result n)
  serves_on most result whole still faithful rise undenied does = record {
    faithful = faithful;
    moved = λ f m s.
        let n = drawing m most new.facts in
        let done = does m f s.counts.failures (serving_of order old ids before m whole s) in (
          n,
          piece_of m most old.facts new.facts result n s.counts refl refl rise undenied done.0,
          record {
            counts = record { failures = refl; denials = refl };
            ids = s.ids;
            reached = s.reached;
            opened = s.opened;
            rest = subst (λ (b : Bool). MatchBool b (IsBroken order new.facts.files n) (IsServing order new after n)) (sym still) done.1;
          },
        );
  }

  -- one that breaks it, since the store failed
  pub breaks : {T : Type 0} (most : ℕ) (result : Result T DbError) → result ≡ Err error.Io → before.broken ≡ false → after.broken ≡ true → (IsTrue new.facts.faithful → IsTrue old.facts.faithful) → old.facts.failures < new.facts.failures → new.facts.denials ≡ old.facts.denials
      → ((m : Machine) → IsTrue new.facts.faithful → IsServing order old before m → IsBroken order new.facts.files (record (drawing m most new.facts) { broken = true }))
      → LeadsOpen order old new ids before after (λ m n. IsPiece m most result n)
  breaks most result is whole broken faithful rise undenied does = record {
    faithful = faithful;
    moved = λ f m s.
        let n : Machine = record (drawing m most new.facts) { broken = true } in
        let refused : UpkeepRefused m most error.Io n = ((let same = s.counts.failures in omega (arith, same, rise)), (omega arith, omega arith), refl) in (
          n,
          piece_of m most old.facts new.facts result n s.counts refl refl (omega (arith, rise)) undenied
              (subst (λ (r : Result _ DbError). MatchResult r (λ done. Draws m most n) (λ e. UpkeepRefused m most e n)) (sym is) refused),
          record {
            counts = record { failures = refl; denials = refl };
            ids = s.ids;
            reached = s.reached;
            opened = s.opened;
            rest = subst (λ (b : Bool). MatchBool b (IsBroken order new.facts.files n) (IsServing order new after n)) (sym broken) (does m f (serving_of order old ids before m whole s));
          },
        );
  }

-- ---- one after the other

rises_on : (a b c : ℕ) (k most : ℕ) → (a ≤ b) × (b ≤ a + k) → (b ≤ c) × (c ≤ b + most) → (a ≤ c) × (c ≤ a + (k + most))
rises_on a b c k most first next = (omega (arith, first.0, next.0), omega (arith, first.1, next.1))

-- what stays but for the numbers and the counts
same_weight : (m mid : Machine) (k : ℕ) → Draws m k mid → weight mid ≡ weight m
same_weight m mid k drawn = ap weight drawn.1

draws_on : (m mid n : Machine) (k most : ℕ) → Draws m k mid → Draws mid most n → Draws m (k + most) n
draws_on m mid n k most first next = (
  rises_on m.numbers mid.numbers n.numbers k most first.0 next.0,
  next.1 ∙ ap (λ (x : Machine). record x { numbers = n.numbers; failures = n.failures; denials = n.denials }) first.1,
)

refused_on : (m mid n : Machine) (k most : ℕ) (e : DbError) → Draws m k mid → m.failures ≤ mid.failures → UpkeepRefused mid most e n → UpkeepRefused m (k + most) e n
refused_on m mid n k most error.OutOfMemory first rise h = draws_on m mid n k most first h
refused_on m mid n k most error.Io first rise h = (
  (let less = h.0 in omega (arith, rise, less)),
  rises_on m.numbers mid.numbers n.numbers k most first.0 h.1,
  h.2 ∙ ap (λ (x : Machine). record x { numbers = n.numbers; broken = n.broken; failures = n.failures; denials = n.denials }) first.1,
)
refused_on m mid n k most error.NumbersSpent first rise h = (h.0, draws_on m mid n k most first h.1)
refused_on m mid n k most (error.Corrupt file what) first rise h = (sym (ap (λ (x : Machine). x.damaged) first.1) ∙ h.0, draws_on m mid n k most first h.1)
refused_on m mid n k most (error.Unsupported limit) first rise h = (
  elim h.0 [
    | inl hard ↦ inl (elim hard [
      | inl over ↦ inl (sym (ap (λ (x : Machine). x.over_limit) first.1) ∙ over)
      | inr damaged ↦ inr (sym (ap (λ (x : Machine). x.damaged) first.1) ∙ damaged)
    ])
    | inr heavy ↦ inr (let same = same_weight m mid k first in omega (arith, heavy, same))
  ],
  draws_on m mid n k most first h.1,
)
refused_on m mid n k most _ first rise h = absurd h

pub pieces_on : {T U : Type 0} (m mid n : Machine) (k most : ℕ) (done : T) (result : Result U DbError) → IsPiece m k (Ok done) mid → IsPiece mid most result n → IsPiece m (k + most) result n
pieces_on {U = U} m mid n k most done result first next = record {
  failures = (let a = first.failures in let b = next.failures in omega (arith, a, b));
  denials = next.denials ∙ first.denials;
  what = at result next.what;
}
  where
    at : (r : Result U DbError) → MatchResult r (λ x. Draws mid most n) (λ e. UpkeepRefused mid most e n) → MatchResult r (λ x. Draws m (k + most) n) (λ e. UpkeepRefused m (k + most) e n)
    at (Ok x) h = draws_on m mid n k most first.what h
    at (Err e) h = refused_on m mid n k most e first.what first.failures h

-- a piece may be answered for less than it may draw
refused_more : (m n : Machine) (most more : ℕ) (e : DbError) → most ≤ more → UpkeepRefused m most e n → UpkeepRefused m more e n
refused_more m n most more error.OutOfMemory le h = ((h.0.0, (let upto = h.0.1 in omega (arith, upto, le))), h.1)
refused_more m n most more error.Io le h = (h.0, (h.1.0, (let upto = h.1.1 in omega (arith, upto, le))), h.2)
refused_more m n most more error.NumbersSpent le h = (h.0, ((h.1.0.0, (let upto = h.1.0.1 in omega (arith, upto, le))), h.1.1))
refused_more m n most more (error.Corrupt file what) le h = (h.0, ((h.1.0.0, (let upto = h.1.0.1 in omega (arith, upto, le))), h.1.1))
refused_more m n most more (error.Unsupported limit) le h = (h.0, ((h.1.0.0, (let upto = h.1.0.1 in omega (arith, upto, le))), h.1.1))
refused_more m n most more _ le h = absurd h

pub piece_more : {T : Type 0} (m n : Machine) (most more : ℕ) (result : Result T DbError) → most ≤ more → IsPiece m most result n → IsPiece m more result n
piece_more {T} m n most more result le piece = record { failures = piece.failures; denials = piece.denials; what = at result piece.what }
  where
    at : (r : Result T DbError) → MatchResult r (λ x. Draws m most n) (λ e. UpkeepRefused m most e n) → MatchResult r (λ x. Draws m more n) (λ e. UpkeepRefused m more e n)
    at (Ok x) h = ((h.0.0, (let upto = h.0.1 in omega (arith, upto, le))), h.1)
    at (Err e) h = refused_more m n most more e le h

-- ---- an answer

pub works_as : (m n : Machine) (budget most : ℕ) (result : Result Progress DbError) → not_serving (status_of m) ≡ None → most ≤ max budget 1 → IsPiece m most result n → Works m budget (work_answer result) n
works_as m n budget most result free le piece =
    without_cause (not_serving (status_of m)) m n (work_answer result) _ free (denies_none m n (work_answer result) piece.failures piece.denials) (at result piece.what)
  where
    draws_more : Draws m most n → Draws m (max budget 1) n
    draws_more h = ((h.0.0, (let upto = h.0.1 in omega (arith, upto, le))), h.1)

    at : (r : Result Progress DbError) → MatchResult r (λ x. Draws m most n) (λ e. UpkeepRefused m most e n) → WorkDone m (max budget 1) (work_answer r) n
    at (Ok progress.Worked) h = draws_more h
    at (Ok progress.Idle) h = draws_more h
    at (Err e) h = refused_more m n most (max budget 1) e le h

module _ {K : Type 0} {g : _} (order : Order) (old new : Seen) (ids : Ids) (before after : OpenDb K g) where
  -- what a piece answers is what is answered
  pub piece_failed : {T U : Type 0} (most : ℕ) (e : DbError) → LeadsOpen order old new ids before after (λ m n. IsPiece {T = T} m most (Err e) n) → LeadsOpen order old new ids before after (λ m n. IsPiece {T = U} m most (Err e) n)
  piece_failed most e step = record {
    faithful = step.faithful;
    moved = λ f m s. let one = step.moved f m s in (one.0, record { failures = one.1.failures; denials = one.1.denials; what = one.1.what }, one.2);
  }

  -- one that may draw more
  pub piece_within : {T : Type 0} (most more : ℕ) (result : Result T DbError) → most ≤ more → LeadsOpen order old new ids before after (λ m n. IsPiece m most result n) → LeadsOpen order old new ids before after (λ m n. IsPiece m more result n)
  piece_within most more result le step = record {
    faithful = step.faithful;
    moved = λ f m s. let one = step.moved f m s in (one.0, piece_more m one.0 most more result le one.1, one.2);
  }

  pub piece_done : {T U : Type 0} (most : ℕ) (x : T) (y : U) → LeadsOpen order old new ids before after (λ m n. IsPiece m most (Ok x) n) → LeadsOpen order old new ids before after (λ m n. IsPiece m most (Ok y) n)
  piece_done most x y step = record {
    faithful = step.faithful;
    moved = λ f m s. let one = step.moved f m s in (one.0, record { failures = one.1.failures; denials = one.1.denials; what = one.1.what }, one.2);
  }
