use Rattle.std.proofs.Common.{ℕ}
use Rattle.compact.specs.Outputs.{IsToCome}
use Rattle.db_cursor.specs.Places.{OneGoesOver}
use Rattle.db_cursor.specs.Whole.{whole}
use Rattle.db_cursor.proofs.KeptMerges.{merge_is_kept}
use Rattle.db_cursor.proofs.WritesBeside.{beside}
use Rattle.table_access.specs.Tables.{KeepsOf, seen}
use Rattle.db_cursor.proofs.inputs.inputs_read_apart.Goals as goal

pub returns : goal.returns
returns g c = λ merge next none apart source store t writes.
    let facts = g.S.Store.facts in
    let old = seen (facts source.tables.store) source.tables.tables source.tables.blocks in
    (merge_is_kept g.K.KeyOrder.cmp merge (whole (facts source.tables.store) source.tables.tables source.tables.blocks source.memory) (whole (facts store) source.tables.tables source.tables.blocks source.memory) none
    (beside old (facts store) (λ (n : ℕ). IsToCome next n × (KeepsOf old n → ⊥)) (λ n w. w.0.1) t writes g.K.KeyOrder.cmp (OneGoesOver merge.children.items) c.sound_lasts.ensures (λ n w. w.1) (λ n over w. apart n over w.0))).keeps
