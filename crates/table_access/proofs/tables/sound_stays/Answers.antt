use Rattle.std.proofs.Common.{◌∙◌, sym}
use Rattle.table_access.proofs.Sounding.{same_file, same_table}
use Rattle.table_access.proofs.tables.sound_stays.Goals as goal

pub returns : goal.returns
returns c = λ cmp source facts tables old_tables sound. record {
  tables = λ kept there.
      let is = sound.tables kept there in (
        is.0,
        λ file e.
            let q = is.1 file (sym (same_table source.facts.files facts.files kept.number (tables kept.number) (old_tables kept.number)) ∙ e) in
            (same_file source.facts.files facts.files kept.number kept.table.name is.0 (tables kept.number) (old_tables kept.number) ∙ q.0, q.1, q.2),
      );
  blocks = λ kept there file e. sound.blocks kept there file (sym (same_table source.facts.files facts.files kept.file (tables kept.file) (old_tables kept.file)) ∙ e);
}
