-- Moves of a reader's walk, by what is ahead of it.
use Rattle.std.proofs.Common.{◌≡◌, ℕ, Bool, true, List, Option, Some, None, Result, Ok, Err, MatchOption, inl, inr, sym, ap, subst, ◌∙◌}
use Rattle.coding.specs.declared.error.DbError.{DbError}
use Rattle.coding.specs.declared.error.DbError.TheVariants as error
use Rattle.store.specs.Files.{Facts}
use Rattle.machine.specs.Machine.{Walk}
use Rattle.machine.specs.Causes.{Motion, lacks_place}
use Rattle.machine.specs.Walks.{pair_at, place_after}
use Rattle.engine.specs.Ranges.{Cmp, Pair}
use Rattle.reader.specs.declared.reader.Reader.{Reader}
use Rattle.reader.specs.declared.reader.ReaderWalk.{ReaderWalk}
use Rattle.reader.specs.Readers.{facts_of, scan_of, whole_of}
use Rattle.reader.specs.Moving.{IsMoved}
use Rattle.browse.specs.internal.Lists.{all_of}
use Rattle.browse.specs.internal.Walking.{Arrives, Moves, RefusesMove, Stands}
use Rattle.browse.proofs.Lists.{Splits}

-- ---- where a walk comes to

module _ {S K : Type 0} {g : _} (cmp : Cmp) (facts : S → Facts) (backwards : Bool) (reader : Reader S K) (walk : ReaderWalk K g) (pairs : List Pair) where
  placed : Option ℕ → Walk
  placed place = record { pairs = pairs; place = place }

  arrives : (place : Option ℕ) (found : Option Pair) (ahead : List Pair) → Splits backwards pairs place ahead → Stands cmp facts reader walk (record { pairs = pairs; place = place }) → found ≡ pair_at pairs place
      → Arrives cmp facts backwards all_of reader walk pairs ahead (Ok found)
  arrives place found ahead (inl h) stands is =
      subst (λ (f : Option Pair). Arrives cmp facts backwards all_of reader walk pairs ahead (Ok f)) (sym (is ∙ ap (pair_at pairs) h.0)) h.1
  arrives place found ahead (inr h) stands is =
      subst (λ (f : Option Pair). Arrives cmp facts backwards all_of reader walk pairs ahead (Ok f)) (sym (is ∙ ap (pair_at pairs) h.2 ∙ h.4))
      (h.1, h.3, subst (λ (p : Option ℕ). Stands cmp facts reader walk (record { pairs = pairs; place = p })) h.2 stands, h.5)

-- ---- moves

module _ {S K : Type 0} {g : _} (cmp : Cmp) (facts : S → Facts) (motion : Motion) (old new : Reader S K) (before after : ReaderWalk K g) where
  abbrev pub Moved : Result (Option Pair) DbError → Type 0
  Moved result = IsMoved cmp motion (whole_of facts old) (whole_of facts new) (scan_of before) (scan_of after) result

  module _ (Before : Walk → List Pair → Type 0) where
    abbrev Of : Type 0 → Type 0
    Of P = (at : Walk) (ahead : List Pair) → Stands cmp facts old before at → Before at ahead → P

    -- why it is refused, where it has a place to start from
    pub move_refused : lacks_place (scan_of before).walk.stands motion ≡ None → (e : DbError) → Moved (Err e) → RefusesMove cmp e (facts_of facts old) (facts_of facts new) Of
    move_refused has error.OutOfMemory m = m.still
    move_refused has error.Io m = m.refused has
    move_refused has (error.Corrupt file what) m = λ f at ahead stands known. m.refused has f true at stands
    move_refused has (error.Unsupported what) m = λ f at ahead stands known.
        elim (m.refused has f) [
          | inl none ↦ absurd (none true at stands)
          | inr long ↦ (let past = stands.scan.limits long in (past.0.table.number, past.2, past.3, past.4))
        ]
    move_refused has _ m = absurd (m.refused has)

    module _ (backwards : Bool) (splits : (at : Walk) (ahead : List Pair) → Stands cmp facts old before at → Before at ahead → Splits backwards at.pairs (place_after cmp motion at) ahead) where
      -- A move that has a place to start from, or needs none.
      pub moves_from : lacks_place (scan_of before).walk.stands motion ≡ None → (result : Result (Option Pair) DbError) → Moved result → Moves cmp facts backwards Before all_of old new before after result
      moves_from has (Ok found) m = record {
        reads = m.reads;
        stood = m.still;
        moves = λ f at ahead stands known.
            let to = m.moves f has true at stands in
            arrives cmp facts backwards new after at.pairs (place_after cmp motion at) found ahead (splits at ahead stands known) to.0 to.1;
        refused = tt;
      }
      moves_from has (Err e) m = record {
        reads = m.reads;
        stood = tt;
        moves = λ f at ahead stands known. tt;
        refused = move_refused has e m;
      }

      -- One that has none.
      pub moves_nowhere : lacks_place (scan_of before).walk.stands motion ≡ Some error.NoPlace → ((at : Walk) (ahead : List Pair) → Stands cmp facts old before at → Before at ahead → ⊥)
          → (result : Result (Option Pair) DbError) → Moved result → Moves cmp facts backwards Before all_of old new before after result
      moves_nowhere lacks none result m = at result (why (lacks_place (scan_of before).walk.stands motion) lacks m.placeless) m
        where
          why : (o : Option DbError) → o ≡ Some error.NoPlace → MatchOption o (Unit {0}) (λ cause. (result ≡ Err cause) × (scan_of after ≡ scan_of before) × (whole_of facts new ≡ whole_of facts old)) → result ≡ Err error.NoPlace
          why None is h = absurd (cc)
          why (Some cause) is h = h.0 ∙ (let same : cause ≡ error.NoPlace = cc in ap (λ (e : DbError). Err e) same)

          at : (r : Result (Option Pair) DbError) → r ≡ Err error.NoPlace → Moved r → Moves cmp facts backwards Before all_of old new before after r
          at (Ok found) is m' = absurd (cc)
          at (Err e) is m' = record {
            reads = m'.reads;
            stood = tt;
            moves = λ f walk ahead stands known. tt;
            refused = (let same : e ≡ error.NoPlace = cc in subst (λ (x : DbError). RefusesMove cmp x (facts_of facts old) (facts_of facts new) Of) (sym same) (λ f. none));
          }
