-- The removal of obsolete files, in each directory that differs in tables alone.
use Rattle.std.proofs.Common.{◌≡◌, ℕ, List, Option, Some, None, is_some, true, false, Result, IsTrue, inl, inr, refl, sym, ap, subst, ◌∙◌}
use Rattle.std.specs.FinMap.{get}
use Rattle.ikey.specs.Orders.{Order}
use Rattle.coding.specs.declared.error.DbError.{DbError}
use Rattle.store.specs.Files.{Files, Facts}
use Rattle.store.specs.Stops.{LeavesOnly}
use Rattle.store.proofs.Stopping.{leaves_both, leaves_same, leaves_so}
use Rattle.edits.specs.Names.{name_of, IsFileName}
use Rattle.edits.specs.declared.names.FileName.{FileName}
use Rattle.edits.specs.declared.names.FileName.TheVariants.{Current, Lock, Log, Manifest, Table, OldTable, Temporary}
use Rattle.versions.specs.declared.live.LiveNumbers.{LiveNumbers}
use Rattle.recover.specs.Directory.{Directory, IsConsistent}
use Rattle.recover.specs.internal.Laws.{FreeChangeLaw}
use Rattle.directory_writes.specs.Differing.{DiffersInTables, IsSameChange, OfEach}
use Rattle.directory_writes.specs.Removal.{HasBoth, IsLiveAmong}
use Rattle.directory_writes.specs.internal.Removal.{AreOfDirectory, KeepsParts, LosesDeadOnly, RemovesDead, StaysConsistent}
use Rattle.directory_writes.specs.declared.removal.Removal.{Removal}
use Rattle.directory_writes.proofs.Losing.{loses_as}
use Rattle.directory_writes.proofs.Meaning.{keeps_parts}
use Rattle.directory_writes.proofs.SameChanges.{differs_after, differs_back, unchanged_too}

nothing : (a b : Option (List ℕ)) → is_some a ≡ is_some b → b ≡ None → a ≡ None
nothing None b same none = refl
nothing (Some x) b same none = absurd (let clash : true ≡ false = same ∙ ap is_some none in cc)

module _ (numbers : LiveNumbers) (in_use : ℕ → Type 0) where
  both_too : (files whole : Files) → DiffersInTables files whole → (n : ℕ) → HasBoth files n → HasBoth whole n
  both_too files whole d n has = (d.names (name_of (Table n)) ∙ has.0, d.names (name_of (OldTable n)) ∙ has.1)

  -- the same files are in use
  live_too : (files whole : Files) → DiffersInTables files whole → (file : FileName) → IsLiveAmong files numbers in_use file → IsLiveAmong whole numbers in_use file
  live_too files whole d Current alive = alive
  live_too files whole d Lock alive = alive
  live_too files whole d (Log n) alive = alive
  live_too files whole d (Table n) alive = alive
  live_too files whole d (OldTable n) alive = (alive.0, λ has. alive.1 (both_too whole files (differs_back files whole d) n has))
  live_too files whole d (Manifest n) alive = alive
  live_too files whole d (Temporary n) alive = alive

  loses_too : (old new whole behind : Files) → DiffersInTables old whole → IsSameChange old new whole behind → LosesDeadOnly old (IsLiveAmong old numbers in_use) new → LosesDeadOnly whole (IsLiveAmong whole numbers in_use) behind
  loses_too old new whole behind d c loses q = elim (loses q) [
    | inl same ↦ inl (c.stays q same)
    | inr dead ↦ inr (
      (dead.0.0, dead.0.1, dead.0.2, λ alive. dead.0.3 (live_too whole old (differs_back old whole d) dead.0.0 alive)),
      nothing (get behind q) (get new q) ((differs_after old new whole behind d c).names q) dead.1,
    )
  ]

  pub keeps_each : FreeChangeLaw → (old new : Files) → LosesDeadOnly old (IsLiveAmong old numbers in_use) new
      → OfEach (λ whole behind. (order : Order) (d : Directory) → IsConsistent order whole d → AreOfDirectory numbers in_use d → KeepsParts order whole behind in_use d) old new
  keeps_each law old new loses whole behind d c order dir h are = keeps_parts order numbers in_use whole behind (loses_too old new whole behind d c loses) dir h are law

  -- what is left of the files keeps the parts
  pub meaning_each : (old new : Facts) (r : Result Removal DbError) → RemovesDead old new (IsLiveAmong old.files numbers in_use) r → FreeChangeLaw
      → OfEach (λ whole behind. IsTrue new.faithful → (order : Order) (d : Directory) → IsConsistent order whole d → AreOfDirectory numbers in_use d → KeepsParts order whole behind in_use d) old.files new.files
  meaning_each old new r removes law whole behind d c f =
      keeps_each law old.files new.files
      (λ q. elim (removes.files f q) [
        | inl same ↦ inl same.0
        | inr dead ↦ inr dead
      ]) whole behind d c

  -- ---- a process crash in the middle

  abbrev pub StaysEach : Files → Files → Type 0
  StaysEach old files = OfEach (λ whole behind. StaysConsistent numbers in_use whole behind) old files

  module _ (old mid : Facts) (calls : mid.calls ≡ old.calls) (same : mid.files ≡ old.files) where
    -- before anything is removed
    pub unremoved_each : LeavesOnly old mid (StaysEach old.files)
    unremoved_each = leaves_same old mid (StaysEach old.files) calls same
        (λ whole behind d c order dir h are. let P : Files → Type 0 = λ fs. IsConsistent order fs dir in subst P (sym (unchanged_too old.files old.files whole behind c refl)) h)

    pub removed_each : FreeChangeLaw → (live : FileName → Type 0) → ((file : FileName) → IsFileName file → IsLiveAmong old.files numbers in_use file → live file) → (new : Facts) → LeavesOnly mid new (LosesDeadOnly mid.files live)
        → LeavesOnly old new (StaysEach old.files)
    removed_each law live back new h =
        leaves_both old mid new (StaysEach old.files) unremoved_each
        (leaves_so mid new (LosesDeadOnly mid.files live) (StaysEach old.files)
        (λ files left whole behind d c order dir h are.
        (keeps_each law old.files files (loses_as live (IsLiveAmong old.files numbers in_use) back old.files files (subst (λ (fs : Files). LosesDeadOnly fs live files) same left)) whole behind d c order dir h are).consistent) h)
