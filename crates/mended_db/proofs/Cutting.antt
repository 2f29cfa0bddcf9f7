-- What is kept of a directory, mended.
use Rattle.std.proofs.Common.{◌≡◌, inl, inr, ℕ, List, [], ◌∷◌, None, refl, sym, subst, ◌∙◌}
use Rattle.std.specs.FinMap.{get}
use Rattle.edits.specs.Names.{name_of, IsNumbered}
use Rattle.edits.specs.declared.names.FileName.TheVariants.{Current, Log, Manifest, OldTable, Table}
use Rattle.mended_db.specs.Cut.{IsSyncedEnd, MendedCutLaw}
use Rattle.mended_losses.specs.Between.{BetweenLaw, IsHeldOpen, SyncsFronts}
use Rattle.opening.specs.Losses.{AreCut, AreSpared, CutLaw, IsKeptButLogs, SparedLaw}
use Rattle.recover.specs.Directory.{Directory, IsConsistent}
use Rattle.recover.specs.Logs.{HasLogs, InLogs, LogContent}
use Rattle.recover.proofs.Keeping.{live_of}
use Rattle.ikey.specs.Orders.{Order}
use Rattle.store.specs.Files.{Facts, Files, disk_of}
use Rattle.store.specs.Losses.{behind_sync}

-- its number fits
pub log_numbered : (files : Files) (logs : List LogContent) (n : ℕ) → HasLogs files logs → InLogs logs n → IsNumbered n
log_numbered files [] n h among = absurd among
log_numbered files (content ∷ contents) n h (inl e) = subst IsNumbered (sym e) h.0.numbered
log_numbered files (content ∷ contents) n h (inr later) = log_numbered files contents n h.1 later

-- none is there that wasn't
cut_first : (facts : Facts) (whole : LogContent) (wholes cuts : List LogContent) (n : ℕ) → ((others : List LogContent) → AreCut facts wholes others → InLogs others n → InLogs wholes n) → AreCut facts (whole ∷ wholes) cuts → InLogs cuts n
    → InLogs (whole ∷ wholes) n
cut_first facts whole wholes cuts n more (inl c) among = elim (subst (λ (logs : List LogContent). InLogs logs n) c.2 among) [
  | inl e ↦ inl (e ∙ c.3.number)
  | inr later ↦ inr (more c.1 c.4 later)
]
cut_first facts whole wholes cuts n more (inr gone) among = inr (more cuts gone.1 among)

cut_among : (facts : Facts) (wholes cuts : List LogContent) (n : ℕ) → AreCut facts wholes cuts → InLogs cuts n → InLogs wholes n
cut_among facts [] [] n cut among = absurd among
cut_among facts [] (content ∷ cuts) n cut among = absurd cut
cut_among facts (whole ∷ wholes) cuts n cut among = cut_first facts whole wholes cuts n (λ others c a. cut_among facts wholes others n c a) cut among

held_open : (order : Order) (facts : Facts) (d : Directory) (lost : Files) → IsConsistent order facts.files d → IsKeptButLogs facts facts.files lost d → AreSpared facts d → SyncsFronts (behind_sync [] facts.calls) (disk_of facts)
    → ((n : ℕ) → InLogs d.logs n → IsSyncedEnd facts n) → IsHeldOpen facts lost d
held_open order facts d lost good kept spared fronts ends = record {
  fronts = fronts;
  current = (spared.reads (name_of Current) (inl refl), kept.current);
  manifest = (spared.reads (name_of (Manifest d.manifest)) (inr (inl refl)), kept.manifest);
  logs = λ n among. record {
    named = spared.logs (name_of (Log n)) (n, log_numbered facts.files d.logs n good.logs among, live_of d.layout d.logs n good.live among, refl);
    ends = ends n among;
  };
  tables = λ content among. record {
    newer = spared.reads (name_of (Table content.placed.table.number)) (inr (inr (content, among, inl refl)));
    older = λ none. spared.reads (name_of (OldTable content.placed.table.number)) (inr (inr (content, among, inr (refl, none))));
    whole = kept.tables content among;
  };
}

pub cut_mended : SparedLaw → CutLaw → BetweenLaw → MendedCutLaw
cut_mended spared_law cut_law between order ends facts d lost mended good kept spared fronts synced chance holed by =
    let p = between order ends facts d lost mended good (held_open order facts d lost good kept spared fronts synced) chance holed by in
    let plain : Files = p.0 in
    let left = spared_law facts d plain spared p.1 in
    let still : IsKeptButLogs facts facts.files plain d =
    record {
      current = kept.current;
      manifest = kept.manifest;
      tables = λ content among. elim (kept.tables content among) [
        | inl whole ↦ inl whole
        | inr same ↦ inr (p.2.tables content among ∙ same)
      ];
    } in
    let cut = cut_law order facts d plain good still left in
    record { logs = cut.0; cut = cut.1; left = p.2.same cut.0 (λ n among. cut_among facts d.logs cut.0 n cut.1 among) cut.2 }
