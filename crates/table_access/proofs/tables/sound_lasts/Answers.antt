use Rattle.table_access.proofs.tables.sound_lasts.Goals as goal

pub returns : goal.returns
returns c = λ cmp source facts tables blocks sound. record {
  tables = λ kept there.
      let is = sound.tables kept there in (
        is.0,
        λ file e.
            let p = tables kept file there e in
            let q = is.1 file p.0 in
            (p.1 q.0, q.1, q.2),
      );
  blocks = λ kept there file e. sound.blocks kept there file (blocks kept file there e);
}
