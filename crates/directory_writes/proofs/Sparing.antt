-- What a refusal leaves of the MANIFEST.
use Rattle.std.proofs.Common.{◌≡◌, ◌⊎◌, ℕ, List, Err, IsTrue, inl, inr, sym, ap, subst, ◌∙◌}
use Rattle.std.specs.FinMap.{get}
use Rattle.coding.specs.declared.error.DbError.{DbError}
use Rattle.coding.specs.declared.error.DbError.TheVariants.{OutOfMemory, Io}
use Rattle.ikey.specs.Orders.{Order}
use Rattle.edits.specs.declared.field.Field.{Field}
use Rattle.store.specs.Files.{Facts, Files, Synced}
use Rattle.directory_writes.specs.internal.Calls.{LeavesFile}
use Rattle.directory_writes.specs.internal.Flush.{SparesManifest, edit_refusal}
use Rattle.directory_writes.specs.internal.Manifest.{AppendsEdit, SyncsEdit}

-- where the edit isn't there, and the store didn't fail
pub spares_edit : (T : Type 0) (order : Order) (old mid new : Facts) (number : ℕ) (manifest : List ℕ) (end : ℕ) (edit : List Field) (is_table : List ℕ → Type 0) (e : DbError) → (e ≡ OutOfMemory) ⊎ (e ≡ Io)
    → (IsTrue new.faithful → IsTrue mid.faithful) → (IsTrue mid.faithful → (is_table manifest → ⊥) → LeavesFile old mid manifest)
    → AppendsEdit order mid new number manifest end edit (Err e) → SyncsEdit mid new manifest (Err e) → SparesManifest {T = T} old new manifest is_table (Err (edit_refusal e))
spares_edit T order old mid new number manifest end edit is_table e which back left appends syncs =
    let Q : DbError → Type 0 = λ x. SparesManifest {T = T} old new manifest is_table (Err (edit_refusal x)) in
    elim which [
      | inl memory ↦ subst Q (sym memory) (λ f apart.
          let before = left (back f) apart in
          let files : new.files ≡ mid.files = appends.memory f (ap (λ (x : DbError). Err x) memory) in
          let synced : new.synced ≡ mid.synced = syncs.err f in
          (ap (λ (fs : Files). get fs manifest) files ∙ before.0, ap (λ (s : Synced). s manifest) synced ∙ before.1))
      | inr io ↦ subst Q (sym io) tt
    ]
