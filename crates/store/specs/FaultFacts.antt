-- What is known of a store that fails as planned: what is known of the store within, and how far
-- its plan has come.
use Rattle.std.specs.Prelude.{◌≡◌, ◌≢◌, ◌+◌, ◌-◌, ◌^◌, ℕ, Bool, true, false, Option, Some, None, IsTrue, Result, Ok, Err, OnOk, min, nat_eq, if◌then◌else◌}
use Rattle.std.specs.Option.{option_and_then}
use Rattle.store.specs.declared.error.StoreError.{StoreError}
use Rattle.store.specs.declared.error.StoreError.TheVariants.{Missing, Device}
use Rattle.store.specs.declared.fault_store.Extent.{Extent}
use Rattle.store.specs.declared.fault_store.Extent.TheVariants.{Before, After, Part}
use Rattle.store.specs.declared.fault_store.Fault.{Fault}
use Rattle.store.specs.declared.fault_store.Fault.TheVariants.{Fail, Deny, Stop}
use Rattle.store.specs.declared.fault_store.Plan.{Plan}
use Rattle.store.specs.declared.fault_store.FaultStore.{FaultStore}
use Rattle.store.specs.declared.fault_store.Way.{Way}
use Rattle.store.specs.declared.counters.Failed.{Failed}
use Rattle.store.specs.declared.fault_store.Way.TheVariants.{Whole, Refused, Lost}
use Rattle.store.specs.Files.{Facts, Disk, disk_of}
use Rattle.store.specs.Counted.{with_failed}
use Rattle.store.specs.MemFacts.{mem_facts}

abbrev pub fault_facts : FaultStore → Facts
fault_facts store = mem_facts store.inner

-- What is known of its files, how many calls were counted, which fault is planned, whether the
-- process has stopped, and whether the call that the fault hit was done, wholly or in part, before
-- it failed.
pub record Standing : Type 0 where
  pub facts : Facts
  pub calls : ℕ
  pub plan : Option Plan
  pub stopped : Bool
  pub acted : Bool

abbrev pub standing_of : FaultStore → Standing
standing_of store = record { facts = mem_facts store.inner; calls = store.calls; plan = store.plan; stopped = store.stopped; acted = store.acted }

-- the fault, if it hits the first call after so many
abbrev pub due_behind : Plan → ℕ → Option Fault
due_behind plan calls = if nat_eq (plan.call - calls) 1 then Some plan.fault else None

-- The fault of the call that comes now. After a stop no call is done.
abbrev pub due : Standing → Option Fault
due standing = if standing.stopped then Some (Fail Before) else option_and_then (λ (plan : Plan). due_behind plan standing.calls) standing.plan

-- how far a call gets by its fault, or none, if it is done as usual
abbrev pub extent_of : Option Fault → Option Extent
extent_of None = None
extent_of (Some (Fail extent)) = Some extent
extent_of (Some Deny) = None
extent_of (Some (Stop extent)) = Some extent

abbrev pub next_extent : Standing → Option Extent
next_extent standing = extent_of (due standing)

-- what that is to a call that can't be done in part
abbrev pub way_of : Option Extent → Way
way_of None = Whole
way_of (Some Before) = Refused
way_of (Some After) = Lost
way_of (Some (Part count)) = Refused

abbrev pub is_stop : Option Fault → Bool
is_stop None = false
is_stop (Some (Fail extent)) = false
is_stop (Some Deny) = false
is_stop (Some (Stop extent)) = true

abbrev pub is_denial : Option Fault → Bool
is_denial None = false
is_denial (Some (Fail extent)) = false
is_denial (Some Deny) = true
is_denial (Some (Stop extent)) = false

-- A call is counted, and the process stops in it if that is planned.
pub record Proceeds (old new : Standing) : Type 0 where
  pub calls : new.calls ≡ min (old.calls + 1) (2 ^ 64 - 1)
  pub plan : new.plan ≡ old.plan
  pub stopped : new.stopped ≡ (if is_stop (due old) then true else old.stopped)

-- A call that isn't done answers Device, its failure is counted, and all else is as it was.
pub record Refuses {T : Type 0} (old new : Facts) (result : Result T StoreError) : Type 0 where
  pub answer : result ≡ Err Device
  pub disk : disk_of new ≡ disk_of old
  pub calls : new.calls ≡ old.calls
  pub failures : new.failures ≡ old.failures + 1

-- A call that is done so far answers Device all the same.
pub record Cuts {T : Type 0} (old new : Facts) (result : Result T StoreError) (change : Disk → Disk → Type 0) : Type 0 where
  pub answer : result ≡ Err Device
  pub done : change (disk_of old) (disk_of new)
  pub failures : new.failures ≡ old.failures + 1

-- a call that the fault keeps from being done
pub record IsRefused {T : Type 0} (old new : Standing) (result : Result T StoreError) : Type 0 where
  pub acted : new.acted ≡ old.acted
  pub refuses : IsTrue new.facts.faithful → Refuses old.facts new.facts result

-- A call whose answer the fault replaces: it is never Ok, and if the store within has done it
-- (`acted`), it is done so far.
pub record IsCut {T : Type 0} (old new : Standing) (result : Result T StoreError) (change : Disk → Disk → Type 0) : Type 0 where
  pub answer : IsTrue new.facts.faithful → OnOk result ⊥
  pub done : old.acted ≡ false → new.acted ≡ true → IsTrue new.facts.faithful → Cuts old.facts new.facts result change

-- What becomes of a call that is done wholly or not at all.
abbrev pub Meets : {T : Type 0} → Way → Standing → Standing → Result T StoreError → (Disk → Disk → Type 0) → Type 0
Meets Whole old new result done = new.acted ≡ old.acted
Meets Refused old new result done = IsRefused old new result
Meets Lost old new result done = IsCut old new result done

-- What becomes of an append, whose beginnings of so many bytes are `part`, and which is `whole`.
abbrev pub MeetsAppend : {T : Type 0} → Option Extent → Standing → Standing → Result T StoreError → (whole : Disk → Disk → Type 0) → (part : ℕ → Disk → Disk → Type 0) → Type 0
MeetsAppend None old new result whole part = new.acted ≡ old.acted
MeetsAppend (Some Before) old new result whole part = IsRefused old new result
MeetsAppend (Some After) old new result whole part = IsCut old new result whole
MeetsAppend (Some (Part count)) old new result whole part = IsCut old new result (part count)

-- What becomes of a call that changes nothing: any fault but a denial refuses it.
abbrev pub MeetsReading : {T : Type 0} → Option Extent → Standing → Standing → Result T StoreError → Type 0
MeetsReading None old new result = new.acted ≡ old.acted
MeetsReading (Some extent) old new result = IsRefused old new result

-- What a failure leaves that is counted, by its answer. If no further one can be counted it isn't
-- Device.
pub record Fails (old new : Facts) (call : Failed) (error : Option StoreError) : Type 0 where
  pub same : new ≡ record old { failures = new.failures; write_failures = new.write_failures; faithful = new.faithful }
  pub faithful : IsTrue new.faithful → IsTrue old.faithful × (error ≡ Some Device)
  pub device : error ≡ Some Device → new.failures ≡ old.failures + 1
  pub unfailed : error ≢ Some Device → new.failures ≡ old.failures
  pub writes : error ≡ Some Device → new.write_failures ≡ with_failed call old.write_failures
  pub unwritten : error ≢ Some Device → new.write_failures ≡ old.write_failures
  pub missing : error ≢ Some Missing

-- the error of an answer
abbrev pub error_of : {T : Type 0} → Result T StoreError → Option StoreError
error_of (Ok value) = None
error_of (Err error) = Some error
