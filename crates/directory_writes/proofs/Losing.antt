-- What a process crash leaves in the middle of a removal of obsolete files.
use Rattle.std.proofs.Common.{◌≡◌, ◌⊎◌, List, ℕ, None, inl, inr, refl, sym, ap, subst, ◌∙◌}
use Rattle.std.specs.FinMap.{get}
use Rattle.store.specs.Files.{Files, Facts, Removes as StoreRemoves, Removal as Removal_of}
use Rattle.store.specs.Calls.{Adds, Idles}
use Rattle.store.specs.Stops.{LeavesOnly, MayLeave}
use Rattle.store.proofs.Stopping.{leaves_both, leaves_same, leaves_so, noted_left}
use Rattle.edits.specs.Names.{IsFileName}
use Rattle.edits.specs.declared.names.FileName.{FileName}
use Rattle.directory_writes.specs.internal.Removal.{LosesDeadOnly}
use Rattle.directory_writes.specs.Removal.{IsDead}
use Rattle.directory_writes.proofs.Cleaning.{removed}

module _ (live : FileName → Type 0) where
  pub loses_none : (facts : Facts) → LeavesOnly facts facts (LosesDeadOnly facts.files live)
  loses_none facts = leaves_same facts facts (LosesDeadOnly facts.files live) refl refl (λ q. inl refl)

  loses_one : (old files : Files) (name : List ℕ) → IsDead live name → (files ≡ old) ⊎ StoreRemoves old files name → LosesDeadOnly old live files
  loses_one old files name dead (inl same) q = inl (ap (λ (fs : Files). get fs q) same)
  loses_one old files name dead (inr gone) q = elim (removed old (λ n. None) name q) [
    | inl here ↦ inr (subst (λ (n : List ℕ). IsDead live n) (sym here.0) dead, ap (λ (fs : Files). get fs q) gone.1 ∙ here.1)
    | inr stays ↦ inl (ap (λ (fs : Files). get fs q) gone.1 ∙ stays.0)
  ]

  pub loses_asked : (old new : Facts) (name : List ℕ) → IsDead live name → Idles old new ⊎ Adds old new (Removal_of name) → LeavesOnly old new (LosesDeadOnly old.files live)
  loses_asked old new name dead noted =
      leaves_so old new (MayLeave (Removal_of name) old.files) (LosesDeadOnly old.files live) (λ files left. loses_one old.files files name dead left) (noted_left old new (Removal_of name) noted)

  loses_then : (old mid new : Files) → LosesDeadOnly old live mid → LosesDeadOnly mid live new → LosesDeadOnly old live new
  loses_then old mid new first next q = elim (next q) [
    | inr dead ↦ inr dead
    | inl same ↦ elim (first q) [
      | inl still ↦ inl (same ∙ still)
      | inr dead ↦ inr (dead.0, same ∙ dead.1)
    ]
  ]

  pub loses_both : (old mid new : Facts) → LeavesOnly old mid (LosesDeadOnly old.files live) → LeavesOnly mid new (LosesDeadOnly mid.files live) → LeavesOnly old new (LosesDeadOnly old.files live)
  loses_both old mid new h k =
      leaves_both old mid new (LosesDeadOnly old.files live) h
      (leaves_so mid new (LosesDeadOnly mid.files live) (LosesDeadOnly old.files live) (λ files left. loses_then old.files mid.files files h.now left) k)

  -- as the same files of another kind are live
  pub loses_as : (other : FileName → Type 0) → ((file : FileName) → IsFileName file → other file → live file) → (old files : Files) → LosesDeadOnly old live files → LosesDeadOnly old other files
  loses_as other back old files left q = elim (left q) [
    | inl same ↦ inl same
    | inr dead ↦ inr ((dead.0.0, dead.0.1, dead.0.2, λ alive. dead.0.3 (back dead.0.0 dead.0.1 alive)), dead.1)
  ]
