use Rattle.std.proofs.Common.{◌≡◌, ◌++◌, List, map, sym, ap, ◌∙◌, subst, arith, inl, inr}
use Rattle.std.specs.List.{AllByRecursion}
use Rattle.cursor.specs.declared.child.Side.TheVariants.{Astray}
use Rattle.edits.specs.declared.field.PlacedTable.{PlacedTable}
use Rattle.ikey.specs.Orders.{order_of}
use Rattle.level_cursor.specs.InRows.{ListsNumber}
use Rattle.db_cursor.specs.Rows.{IsGenerationOf}
use Rattle.db_cursor.specs.internal.Rows.{memory_spots, spot_of, spots_of}
use Rattle.db_cursor.specs.Whole.{whole}
use Rattle.db_cursor.proofs.FirstPlaces.{begins_scan}
use Rattle.db_cursor.proofs.WholeScans.{begins_whole}
use Rattle.db_cursor.proofs.NewScans.{all_new, all_over, cursors_of}
use Rattle.db_cursor.proofs.Slices.{all_ranges, spots_together}
use Rattle.versions.specs.Levels.{AreInOrder, Placement}
use Rattle.db_cursor.proofs.scan.Scan.over.Given.{Over}
use Rattle.db_cursor.proofs.scan.Scan.over.Goals as goal

-- the spots of what it merges
spots_are : (g : Over) (c : goal.After-sealed_generation g) → map spot_of (map (λ child. child.cursor) c.new-2.result.cursor.children.items)
    ≡ memory_spots c.min-sequence.result c.args.source.now.memory.generation c.args.source.now.memory.sealed ++ spots_of c.args.version.now.value.tables (all_ranges c.args.version.now.value.tables)
spots_are g c =
    let memory = memory_spots c.min-sequence.result c.args.source.now.memory.generation c.args.source.now.memory.sealed in
    ap (λ m. map spot_of (map (λ child. child.cursor) m.children.items)) c.new-2.ensures.cursor
    ∙ ap (map spot_of) c.in_ok-merge.ensures.children
    ∙ spots_together c.args.version.now.value.tables memory (map spot_of c.add_memory.new.cursors.items) (map spot_of c.add_newest.new.cursors.items) (map spot_of c.add_levels.new.cursors.items)
    (c.in_ok-add_memory.ensures.spots ∙ ap (λ xs. map spot_of xs ++ memory) c.new-cursors.ensures.items) c.in_ok-add_newest.ensures c.in_ok-add_levels.ensures

pub returns-clause-may : goal.returns-clause-may
returns-clause-may g c =
    let cmp = g.K.KeyOrder.cmp in
    let s = c.args.source.now in
    let tables = c.args.version.now.value.tables in
    let up_to = c.min-sequence.result in
    let is = c.new-2.ensures.cursor in
    let in_order = subst (λ (v : Placement). AreInOrder cmp v.tables) c.deref.ensures c.tables-tables.ensures.order in
    begins_scan (order_of g.K.KeyOrder.name cmp) g.met.K.KeyOrder.total c.lists_have_a_union.ensures c.each_list_has_a_view.ensures c.views_agree.ensures
    c.row_begins.ensures
    (whole (g.S.Store.facts s.tables.store) s.tables.tables s.tables.blocks s.memory) tables in_order _ up_to c.args.sequence
    c.new-2.ensures.sequence
    c.new-2.ensures.nowhere
    (ap (λ m. m.current) is ∙ c.in_ok-merge.ensures.nowhere)
    (subst (λ m. AllByRecursion (λ child. child.side ≡ Astray) m.children.items) (sym is) c.in_ok-merge.ensures.astray)
    c.generation.ensures.is
    c.sealed_generation.ensures
    (ap (λ (v : Placement). v.tables) c.in_ok-clone.ensures.cases)
    (spots_are g c)
    c.are_bounded.ensures
    c.in_ok-add_memory.ensures.lists
    (λ below. omega (arith, c.min-sequence.ensures, c.last.ensures.is, below))

pub returns-clause-begins : goal.returns-clause-begins
returns-clause-begins g c =
    let s = c.args.source.now in
    begins_whole (order_of g.K.KeyOrder.name g.K.KeyOrder.cmp) g.met.K.KeyOrder.total (whole (g.S.Store.facts s.tables.store) s.tables.tables s.tables.blocks s.memory) c.args.version.now.value.tables c.args.sequence _
    (ap (λ (v : Placement). v.tables) c.in_ok-clone.ensures.cases) (returns-clause-may g c)

pub returns-clause-within : goal.returns-clause-within
returns-clause-within g c = λ number reads.
    let tables = c.args.version.now.value.tables in
    let same : c.in_ok-clone.field-0.value.tables ≡ tables = ap (λ (v : Placement). v.tables) c.in_ok-clone.ensures.cases in
    elim reads [
      | inl has ↦ subst (λ (ts : List PlacedTable). ListsNumber ts number) same has
      | inr over ↦
          let memory = c.args.source.now.memory in
          let children = c.new-2.result.cursor.children.items in
          all_over (IsGenerationOf memory.generation memory.sealed) c.min-sequence.result tables children
          (all_new memory.generation memory.sealed c.min-sequence.result tables (all_ranges tables) (cursors_of children) (spots_are g c)) number over
    ]
