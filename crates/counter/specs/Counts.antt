-- Counts of names: what a database has under each, and what counting one more does.
use Rattle.std.specs.Prelude.{◌≡◌, ◌⊎◌, ◌+◌, ◌<◌, ◌^◌, ℕ, zero, suc, IsTrue, Option, Some, None, MatchOption, Result, Ok, Err, OnOk, List, [], ◌∷◌, ◌++◌, take}
use Rattle.std.specs.FinMap.{get}
use Rattle.std.specs.List.{count_by}
use Rattle.std.specs.Str.{bytes_eq}
use Rattle.coding.specs.Fixed.{fixed64}
use Rattle.ikey.specs.Orders.{Order}
use Rattle.ikey.specs.Views.{Contents}
use Rattle.store.specs.Files.{Facts, Files}
use Rattle.machine.specs.Lifetime.{Closes}
use Rattle.machine.specs.Machine.{Machine, after_batch, current}
use Rattle.machine.specs.declared.command.Answer.TheVariants.{Done}
use Rattle.engine.specs.FromFiles.{HoldsMap}
use Rattle.engine.specs.declared.ids.Ids.{Ids}
use Rattle.engine.specs.internal.Standing.{StandsClosed}
use Rattle.counter.specs.declared.counts.CountError.{CountError}
use Rattle.counter.specs.declared.counts.CountError.TheVariants.{Refused, Full, Foreign}

-- how often a name is among these
abbrev pub tally : List (List ℕ) → List ℕ → ℕ
tally names name = count_by (bytes_eq name) names

-- what stands under a name that was counted so often
abbrev pub shown : ℕ → Option (List ℕ)
shown zero = None
shown (suc n) = Some (fixed64 (suc n))

-- These names were counted, and the map has nothing else.
abbrev pub IsTally : List (List ℕ) → Contents → Type 0
IsTally names map = (name : List ℕ) → (tally names name < 2 ^ 64) × (get map name ≡ shown (tally names name))

-- one more than what stands there
abbrev pub NextOf : ℕ → Result ℕ CountError → Type 0
NextOf old (Ok count) = count ≡ old + 1
NextOf old (Err Full) = old + 1 ≡ 2 ^ 64
NextOf old (Err _) = ⊥

abbrev pub IsOwn : CountError → Type 0
IsOwn Foreign = ⊥
IsOwn _ = Unit {0}

-- What is in doubt now was so before, or it is this one name: it is counted, or it isn't, once the
-- database is open again.
abbrev pub MayCount : List ℕ → List (List ℕ) → Machine → Machine → Type 0
MayCount name names old new = (new.in_doubt ≡ old.in_doubt)
    ⊎ MatchOption new.in_doubt ⊥ (λ operations. IsTally (names ++ name ∷ []) (after_batch (current new) operations))

-- Where these names were counted, this one is too, and so often; or the count is refused, and they
-- are counted as before.
abbrev pub Increments : List ℕ → Machine → Result ℕ CountError → Machine → Type 0
Increments name old (Ok count) new = (names : List (List ℕ)) → IsTally names (current old) →
    IsTally (names ++ name ∷ []) (current new) × (count ≡ tally (names ++ name ∷ []) name)
Increments name old (Err e) new = (names : List (List ℕ)) → IsTally names (current old) →
    IsTally names (current new) × IsOwn e × MayCount name names old new

-- The same, and what it leaves alone.
pub record CountsOne (name : List ℕ) (old : Machine) (result : Result ℕ CountError) (new : Machine) : Type 0 where
  pub tally : Increments name old result new
  pub certain : OnOk result (new.in_doubt ≡ old.in_doubt)
  pub damaged : new.damaged ≡ old.damaged

-- So many of these names were counted, and no others. What is in doubt now was so before, or it is
-- the next one.
pub record CountsEach (names : List (List ℕ)) (count : ℕ) (old new : Machine) : Type 0 where
  pub counted : (had : List (List ℕ)) → IsTally had (current old) → IsTally (had ++ take count names) (current new)
  pub doubt : (had : List (List ℕ)) → IsTally had (current old) → (new.in_doubt ≡ old.in_doubt)
      ⊎ MatchOption new.in_doubt ⊥
      (λ operations. IsTally (had ++ take (count + 1) names) (after_batch (current new) operations))
  pub damaged : new.damaged ≡ old.damaged

-- ---- from files to files

-- The files are a database that has these counts, and nothing else.
pub record HoldsTally (order : Order) (files : Files) (names : List (List ℕ)) : Type 0 where
  pub map : Contents
  pub shows : HoldsMap order files map
  pub tally : IsTally names map

-- While the store is faithful, from files that have the counts of some names to files that have
-- those of so many more. If the write of the next one failed, that may be counted, too.
abbrev pub CountsOver : Order → Facts → Facts → List (List ℕ) → ℕ → Type 0
CountsOver order old new names count = IsTrue new.faithful → (had : List (List ℕ)) → HoldsTally order old.files had
    → HoldsTally order new.files (had ++ take count names) ⊎ HoldsTally order new.files (had ++ take (count + 1) names)

-- where a database is closed, with whatever ids were given
abbrev pub StandsShut : Order → Facts → Machine → Type 0
StandsShut order facts m = (given : Ids) × StandsClosed order facts given m

-- They are counted, and it is closed.
abbrev pub CountsAndCloses : List (List ℕ) → ℕ → Machine → Machine → Type 0
CountsAndCloses names count old new = (ended : Machine) × CountsEach names count old ended × Closes ended Done new
