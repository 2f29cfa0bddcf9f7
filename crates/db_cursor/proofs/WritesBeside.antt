-- New tables that are written beside those that are read.
use Rattle.std.proofs.Common.{◌≡◌, ℕ, ◌<◌, ◌^◌, IsTrue, inl, inr, refl, sym, subst, ◌∙◌}
use Rattle.std.specs.FinMap.{get}
use Rattle.cache.specs.Tables.{table_at}
use Rattle.compact.specs.Outputs.{WritesTables}
use Rattle.cursor.specs.Places.{Cmp}
use Rattle.edits.specs.declared.names.FileName.TheVariants.{OldTable, Table}
use Rattle.edits.specs.Names.{name_of}
use Rattle.db_cursor.specs.internal.Inputs.{KeepsFiles}
use Rattle.db_cursor.proofs.TableNames.{no_old_table, one_table}
use Rattle.table_access.specs.Tables.{KeepsOf, Seen, SoundLasts}
use Rattle.table_access.proofs.Sounding.{same_file, same_table}
use Rattle.store.specs.Files.{Facts}

module _ (old : Seen) (facts : Facts) (written : ℕ → Type 0) (small : (number : ℕ) → written number → number < 2 ^ 64) (t : IsTrue facts.faithful) (writes : WritesTables old.facts facts written) where
  newer_same : (number : ℕ) → (written number → ⊥) → get facts.files (name_of (Table number)) ≡ get old.facts.files (name_of (Table number))
  newer_same number other = writes.others t (name_of (Table number)) (λ n w e. other (subst written (sym (one_table number n (small n w) e)) w))

  older_same : (number : ℕ) → get facts.files (name_of (OldTable number)) ≡ get old.facts.files (name_of (OldTable number))
  older_same number = writes.others t (name_of (OldTable number)) (λ n w e. no_old_table number n e)

  -- a table of another number stays
  stays : (number : ℕ) → (written number → ⊥) → table_at facts.files number ≡ table_at old.facts.files number
  stays number other = same_table old.facts.files facts.files number (newer_same number other) (older_same number)

  -- Where nothing is kept of those that are written, other tables read the same.
  pub beside : (cmp : Cmp) (numbers : ℕ → Type 0) → SoundLasts → ((number : ℕ) → written number → KeepsOf old number → ⊥) → ((number : ℕ) → numbers number → written number → ⊥) → KeepsFiles cmp numbers old (record old { facts = facts })
  beside cmp numbers lasts unkept apart = record {
    files = λ number is. stays number (apart number is);
    sound = λ sound.
        lasts cmp old facts
        (λ kept file is there.
        let other : written kept.number → ⊥ = λ w. unkept kept.number w (inl (kept, is, refl)) in (
          sym (stays kept.number other) ∙ there,
          λ has. same_file old.facts.files facts.files kept.number kept.table.name (sound.tables kept is).0 (newer_same kept.number other) (older_same kept.number) ∙ has,
        ))
        (λ kept file is there. sym (stays kept.file (λ w. unkept kept.file w (inr (kept, is, refl)))) ∙ there) sound;
  }
