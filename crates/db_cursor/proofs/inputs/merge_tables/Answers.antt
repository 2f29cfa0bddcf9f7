use Rattle.std.proofs.Common.{◌≡◌, [], map, ap, ◌∙◌, subst}
use Rattle.ikey.specs.Orders.{order_of}
use Rattle.db_cursor.specs.internal.Rows.{spot_of, spots_of}
use Rattle.db_cursor.proofs.NewScans.{cursors_of}
use Rattle.db_cursor.proofs.Slices.{all_ranges, spots_together}
use Rattle.db_cursor.proofs.TableMerges.{begins_merge, begins_whole, merge_over, merge_reads_none}
use Rattle.versions.specs.Levels.{AreInOrder, Placement}
use Rattle.db_cursor.proofs.inputs.merge_tables.Given.{Over}
use Rattle.db_cursor.proofs.inputs.merge_tables.Goals as goal

-- the spots of what it merges
spots_are : (g : Over) (c : goal.In_ok-new g) → map spot_of (cursors_of c.in_ok-new.field-0.children.items) ≡ spots_of c.args.version.now.value.tables (all_ranges c.args.version.now.value.tables)
spots_are g c =
    ap (map spot_of) c.in_ok-new.ensures.children
    ∙ spots_together c.args.version.now.value.tables [] (map spot_of c.new-cursors.result.items) (map spot_of c.add_newest.new.cursors.items) (map spot_of c.add_levels.new.cursors.items)
    (ap (map spot_of) c.new-cursors.ensures.items) c.in_ok-add_newest.ensures c.in_ok-add_levels.ensures

pub returns-clause-over : goal.returns-clause-over
returns-clause-over g c = merge_over (order_of g.K.KeyOrder.name g.K.KeyOrder.cmp) c.args.version.now.value.tables c.in_ok-new.field-0 (spots_are g c)

pub returns-clause-no_memory : goal.returns-clause-no_memory
returns-clause-no_memory g c = merge_reads_none (order_of g.K.KeyOrder.name g.K.KeyOrder.cmp) c.args.version.now.value.tables c.in_ok-new.field-0 (spots_are g c)

pub returns-clause-may : goal.returns-clause-may
returns-clause-may g c =
    let cmp = g.K.KeyOrder.cmp in
    let tables = c.args.version.now.value.tables in
    let in_order = subst (λ (v : Placement). AreInOrder cmp v.tables) c.deref.ensures c.tables-tables.ensures.order in
    begins_merge (order_of g.K.KeyOrder.name cmp) tables c.in_ok-new.field-0 (spots_are g c) g.met.K.KeyOrder.total c.lists_have_a_union.ensures c.row_begins.ensures in_order c.in_ok-new.ensures.nowhere c.in_ok-new.ensures.astray

pub returns-clause-begins : goal.returns-clause-begins
returns-clause-begins g c = begins_whole (order_of g.K.KeyOrder.name g.K.KeyOrder.cmp) c.args.version.now.value.tables c.in_ok-new.field-0 g.met.K.KeyOrder.total (returns-clause-may g c)
