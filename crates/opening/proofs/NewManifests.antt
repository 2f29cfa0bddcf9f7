-- The MANIFEST that an open writes.
use Rattle.std.proofs.Common.{◌≡◌, ℕ, ◌+◌, false, List, [], ◌∷◌, ◌++◌, length, Vec, Result, Ok, Err, IfOk, inl, refl, arith}
use Rattle.std.specs.declared.alloc.Global.{Global}
use Rattle.std.specs.List.{AllByRecursion}
use Rattle.coding.specs.declared.error.DbError.{DbError}
use Rattle.logfile.specs.Log.{IsLog, shorter}
use Rattle.logfile.specs.declared.record.Tail.TheVariants.{Clean}
use Rattle.ikey.specs.Orders.{Order}
use Rattle.edits.specs.Edit.{IsEdit, HasPastLimit}
use Rattle.edits.specs.Layout.{IsLayout}
use Rattle.edits.specs.Snapshot.{IsRenumbered, IsBelowLimit, snapshot_fields}
use Rattle.edits.specs.declared.field.Field.{Field}
use Rattle.edits.specs.declared.layout.Layout.{Layout}
use Rattle.opening.specs.declared.finding.Found.{Found}
use Rattle.opening.specs.internal.Opening.{IsUsable, KeepsLogs, IsNewManifest}

empty_log : IsLog [] [] Clean
empty_log = record { fragments = []; cut = false; begun = false; blocks = shorter (omega arith) (inl refl); joined = refl; tail_is = refl }

renumbered : Found → ℕ → ℕ → Layout
renumbered found log previous = record found.layout { log_number = log; previous_log_number = previous; next_file_number = found.number + 2; last_sequence = found.used }

-- what is asked of the edit
abbrev pub Folds : List ℕ → Found → ℕ → ℕ → List Field → Type 0
Folds name found log previous edit = (new : Layout) → IsRenumbered log previous (found.number + 2) found.used found.layout new → IsLayout name (edit ∷ []) new

abbrev pub HasFields : List ℕ → Found → ℕ → ℕ → List Field → Type 0
HasFields name found log previous edit = (new : Layout) → IsRenumbered log previous (found.number + 2) found.used found.layout new → edit ≡ snapshot_fields name new

module _ (order : Order) (found : Found) (u : IsUsable order found) (log previous : ℕ) (edit : List Field) (payload : List ℕ) where
  manifest_of : (bytes : List ℕ) → KeepsLogs found log previous → HasFields order.name found log previous edit → Folds order.name found log previous edit
      → (AllByRecursion IsBelowLimit found.layout.tables.items → HasPastLimit edit → ⊥) → IsEdit payload edit → IsLog bytes (payload ∷ []) Clean → IsNewManifest order found bytes
  unfolding renumbered
  manifest_of bytes logs fields folds limit spelled is =
      let layout = renumbered found log previous in
      let same : IsRenumbered log previous (found.number + 2) found.used found.layout layout = record { log = refl; previous_log = refl; next_file = refl; sequence = refl; compact_pointers = refl; tables = refl } in
      record {
        edit = edit;
        layout = layout;
        spelled = record { records = payload ∷ []; tail = Clean; log = is; spelled = (spelled, tt); folded = folds layout same };
        fields = fields layout same;
        within = limit;
        next = refl;
        sequence = refl;
        pointers = refl;
        tables = refl;
        logs = logs;
        clean = refl;
      }

  pub manifest_written : (r : Result (Vec ℕ Global) DbError) → KeepsLogs found log previous → HasFields order.name found log previous edit → Folds order.name found log previous edit
      → (AllByRecursion IsBelowLimit found.layout.tables.items → HasPastLimit edit → ⊥) → IsEdit payload edit
      → IfOk r (λ added. (bytes : List ℕ) (records : List (List ℕ)) → length bytes ≡ 0 → IsLog bytes records Clean → IsLog (bytes ++ added.items) (records ++ payload ∷ []) Clean)
      → IfOk r (λ bytes. IsNewManifest order found bytes.items)
  manifest_written (Ok bytes) logs fields folds limit spelled appends = manifest_of bytes.items logs fields folds limit spelled (appends [] [] refl empty_log)
  manifest_written (Err e) logs fields folds limit spelled appends = tt
