-- What a job keeps of itself has one proof at most, as facts beside a struct's fields must.
use Rattle.std.specs.Prelude.{◌≤◌, ◌^◌, ℕ, List, [], ◌∷◌}
use Rattle.std.specs.Coded.{×_prop, Unit-prop}
use mathlib.Core.HLevel.{Σ_prop_path}
use Rattle.std.proofs.Props.{props}
use Rattle.compact.specs.JobEdits.{AreOnce, IsPlanProper}
use Rattle.compact.specs.Outputs.{AreNumbered, TableNumbersRise, TablesWritten}
use Rattle.edits.specs.Edit.{IsInternal}
use Rattle.edits.specs.declared.field.PlacedTable.{PlacedTable}
use Rattle.edits.specs.declared.field.TableFile.{TableFile}
use Rattle.ikey.specs.Below.{same_key}
use Rattle.ikey.specs.Keys.{Key, IsKey}
use Rattle.versions.specs.declared.plan.JobPlan.{JobPlan}

IsKey-prop : (bytes : List ℕ) (key : Key) → IsProp (IsKey bytes key)
IsKey-prop bytes key = hlevel props

-- no bytes are two internal keys
IsInternal-prop : (bytes : List ℕ) → IsProp (IsInternal bytes)
IsInternal-prop bytes x y = Σ_prop_path (IsKey-prop bytes) (same_key bytes x.0 y.0 x.1 y.1)

NumbersRise-prop : (tables : List TableFile) → IsProp (TableNumbersRise tables)
NumbersRise-prop [] = Unit-prop
NumbersRise-prop (table ∷ tables) = ×_prop (hlevel props) (NumbersRise-prop tables)

AreOnce-prop : (inputs : List PlacedTable) → IsProp (AreOnce inputs)
AreOnce-prop [] = Unit-prop
AreOnce-prop (placed ∷ others) = ×_prop (hlevel props) (AreOnce-prop others)

-- that tables are numbered below 2^62
pub numbered-prop : (w : TablesWritten) (next : ℕ) → IsProp (next ≤ 2 ^ 62 → AreNumbered w next)
numbered-prop w next = hlevel (props, NumbersRise-prop, IsInternal-prop)

pub IsPlanProper-prop : (plan : JobPlan) → IsProp (IsPlanProper plan)
IsPlanProper-prop plan = hlevel (props, AreOnce-prop, IsInternal-prop)
