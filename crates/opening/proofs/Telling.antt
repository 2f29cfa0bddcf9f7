-- What an open's answer tells of the directory.
use Rattle.std.proofs.Common.{◌≡◌, ◌⊎◌, IsTrue, inl, inr, sym, subst}
use Rattle.coding.specs.declared.error.DbError.{DbError}
use Rattle.coding.specs.declared.error.DbError.TheVariants as error
use Rattle.store.specs.Files.{Facts, Files}
use Rattle.ikey.specs.Orders.{Order}
use Rattle.machine.specs.declared.command.Mode.{Mode}
use Rattle.opening.specs.declared.finding.Found.{Found}
use Rattle.opening.specs.internal.Opening.{Finds, RefusesOpen}
use Rattle.opening.specs.Refusals.{IsMet}
use Rattle.opening.specs.Telling.{IsOpenable, RefusalTells}
use Rattle.opening.proofs.FoundSteps.{directory_read, plain_directory}

-- what was found can be opened
pub found_openable : (order : Order) (files : Files) (found : Found) → Finds order files found → IsOpenable order files
found_openable order files found h = elim h.what [
  | inl none ↦ inl none.0
  | inr some ↦ inr (some.recovered, some.read, λ plain. (directory_read order files some.recovered some.read, plain_directory order files some.recovered some.read plain))
]

-- what isn't found tells
pub refusal_tells : (order : Order) (mode : Mode) (old new : Facts) (e : DbError) → IsTrue new.faithful → RefusesOpen order mode e old new → RefusalTells order old.files e
refusal_tells order mode old new (error.Corrupt file what) f h = h f
refusal_tells order mode old new (error.Unsupported what) f h = (h f).1
refusal_tells order mode old new error.NoDatabase f h = (h f).1
refusal_tells order mode old new error.Exists f h = (h f).1
refusal_tells order mode old new error.OutOfMemory f h = tt
refusal_tells order mode old new error.Io f h = tt
refusal_tells order mode old new error.NumbersSpent f h = tt
refusal_tells order mode old new _ f h = absurd h

-- a store that refuses to be written tells nothing
pub store_tells : (order : Order) (files : Files) (e : DbError) → (e ≡ error.OutOfMemory) ⊎ (e ≡ error.Io) → RefusalTells order files e
store_tells order files e (inl is) = subst (λ (x : DbError). RefusalTells order files x) (sym is) tt
store_tells order files e (inr is) = subst (λ (x : DbError). RefusalTells order files x) (sym is) tt

pub refusal_met : (order : Order) (mode : Mode) (old new : Facts) (e : DbError) → RefusesOpen order mode e old new → IsMet e
refusal_met order mode old new (error.Corrupt file what) h = tt
refusal_met order mode old new (error.Unsupported what) h = tt
refusal_met order mode old new error.NoDatabase h = tt
refusal_met order mode old new error.Exists h = tt
refusal_met order mode old new error.OutOfMemory h = tt
refusal_met order mode old new error.Io h = tt
refusal_met order mode old new error.NumbersSpent h = tt
refusal_met order mode old new _ h = absurd h

pub store_met : (e : DbError) → (e ≡ error.OutOfMemory) ⊎ (e ≡ error.Io) → IsMet e
store_met e (inl is) = subst IsMet (sym is) tt
store_met e (inr is) = subst IsMet (sym is) tt
