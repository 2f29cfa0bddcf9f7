-- A removal names files alone that are obsolete: at any moment the others are as they were.
use Rattle.std.proofs.Common.{◌≡◌, ◌⊎◌, inl, inr, ℕ, List, None, sym, ap, subst, ◌∙◌}
use Rattle.std.specs.FinMap.{get}
use Rattle.store.specs.Calls.{Adds, Idles}
use Rattle.store.specs.Files.{Facts, Files, Removes as StoreRemoves, Removal as Removal_of}
use Rattle.store.specs.Stops.{KeepsBut, WritesOnly}
use Rattle.store.proofs.Stopping.{others_noted}
use Rattle.edits.specs.declared.names.FileName.{FileName}
use Rattle.directory_writes.specs.Removal.{IsDead}
use Rattle.directory_writes.specs.internal.Calls.{LeavesFile}
use Rattle.directory_writes.proofs.Cleaning.{removed}

module _ (live : FileName → Type 0) where
  kept_one : (old files : Files) (name : List ℕ) → IsDead live name → (files ≡ old) ⊎ StoreRemoves old files name → KeepsBut old (IsDead live) files
  kept_one old files name dead (inl same) q apart = ap (λ (fs : Files). get fs q) same
  kept_one old files name dead (inr gone) q apart = elim (removed old (λ n. None) name q) [
    | inl here ↦ absurd (apart (subst (λ (n : List ℕ). IsDead live n) (sym here.0) dead))
    | inr stays ↦ ap (λ (fs : Files). get fs q) gone.1 ∙ stays.0
  ]

  -- one of them, where no fewer are left than are live
  pub removed_only : (left : FileName → Type 0) → ((file : FileName) → live file → left file) → (old new : Facts) (name : List ℕ) → IsDead live name
      → ((q : List ℕ) → LeavesFile old new q ⊎ (IsDead left q × (get new.files q ≡ None))) → Idles old new ⊎ Adds old new (Removal_of name) → WritesOnly old new (IsDead live)
  removed_only left so old new name dead files noted =
      let stays : (q : List ℕ) → (IsDead live q → ⊥) → LeavesFile old new q = λ q apart. elim (files q) [
        | inl same ↦ same
        | inr gone ↦ absurd (apart (gone.0.0, gone.0.1, gone.0.2, λ alive. gone.0.3 (so gone.0.0 alive)))
      ] in
      others_noted old new (Removal_of name) (IsDead live) (λ q is. subst (λ (n : List ℕ). IsDead live n) (sym is) dead) (λ files may. kept_one old.files files name dead may) (λ q apart. (stays q apart).1) noted
