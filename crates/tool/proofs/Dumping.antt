-- What a dump prints, file after file.
use Rattle.std.proofs.Common.{◌≡◌, ◌<◌, ◌+◌, IfOk, OnOk, Ok, Err, Result, ℕ, List, [], ◌∷◌, Option, Some, None, drop, get_or, inl, inr, length, refl, sym, subst}
use Rattle.std.proofs.lemmas.List.{drop_more}
use Rattle.ikey.specs.Orders.{Order}
use Rattle.coding.specs.declared.error.DbError.{DbError}
use Rattle.std.specs.Io.KnownBytes.{Appends}
use Rattle.recover.specs.declared.origins.Origin.{Origin}
use Rattle.recover.specs.declared.report.Report.TheVariants.{Good}
use Rattle.recover.specs.declared.report.Summary.{Summary}
use Rattle.store.specs.Files.{Facts}
use Rattle.tool.specs.declared.task.Notation.{Notation}
use Rattle.tool.specs.Inspecting.{Dumps, IsChecked, PrintsFile, PrintsFiles}
use Rattle.tool.specs.Reports.{check_text_of, origins_of_summary}

module _ (order : Order) (notation : Notation) (origins : List Origin) (i : ℕ) (d : Origin) (within : i < length origins) (old new : Facts) (before after : Option (List ℕ)) (status : ℕ) where
  pub stopped_at : PrintsFile order notation (get_or origins i d) old new before after (Some status) → PrintsFiles order notation (drop i origins) old new before after status
  stopped_at h = subst (λ (os : List Origin). PrintsFiles order notation os old new before after status) (sym (drop_more origins i d within)) (inl h)

  pub goes_on : (mid : Facts) (between : Option (List ℕ)) → PrintsFile order notation (get_or origins i d) old mid before between None → PrintsFiles order notation (drop (i + 1) origins) mid new between after status
      → PrintsFiles order notation (drop i origins) old new before after status
  goes_on mid between h rest = subst (λ (os : List Origin). PrintsFiles order notation os old new before after status) (sym (drop_more origins i d within)) (inr (mid, between, h, rest))

-- ---- a whole dump

pub dumps_good : {E : Type 0} (result : Result ℕ E) (order : Order) (notation : Notation) (old mid new : Facts) (before after : Option (List ℕ)) (summary : Summary) (origins : List Origin) → IsChecked order old mid (Ok (Good summary)) → origins ≡ origins_of_summary summary
    → IfOk result (PrintsFiles order notation origins mid new before after) → IfOk result (Dumps order notation old new before after)
dumps_good (Ok status) order notation old mid new before after summary origins checked is h = (mid, Ok (Good summary), checked, subst (λ (os : List Origin). PrintsFiles order notation os mid new before after status) is h)
dumps_good (Err e) order notation old mid new before after summary origins checked is h = tt

pub dumps_refused : {E : Type 0} (result : Result ℕ E) (order : Order) (notation : Notation) (old mid : Facts) (before after : Option (List ℕ)) (error : DbError) → IsChecked order old mid (Err error)
    → OnOk result (Appends before after (check_text_of (Err error))) → IfOk result (λ status. status ≡ 1) → IfOk result (Dumps order notation old mid before after)
dumps_refused (Ok status) order notation old mid before after error checked written is = (mid, Err error, checked, (refl, written, is))
dumps_refused (Err e) order notation old mid before after error checked written is = tt
