use Rattle.std.proofs.Common.{◌≡◌, ◌+◌, ◌<◌, ◌^◌, ◌∙◌, arith}
use Rattle.std.proofs.lemmas.Result.{err_from_is_err_and}
use Rattle.edits.specs.Names.{name_of}
use Rattle.edits.specs.declared.names.FileName.TheVariants.{Table}
use Rattle.table.proofs.Storing.{writes_none}
use Rattle.directory_writes.proofs.NewVersions.{version_refused, version_made}
use Rattle.directory_writes.proofs.flush.prepare.Goals as goal

pub returns-in_err-number-clause-writes : goal.returns-in_err-number-clause-writes
returns-in_err-number-clause-writes g c = writes_none (g.S.Store.facts c.args.store.now) (name_of (Table c.args.numbers.now.next))

pub returns-in_err-version-clause-refused : goal.returns-in_err-version-clause-refused
returns-in_err-version-clause-refused g c =
    let plan = c.args.plan in
    let after = c.draw.new.self.next in
    let p = err_from_is_err_and c.from_residual-in_err-version.result c.from_residual-in_err-version.ensures.1 in
    rw (p.1, p.2) (version_refused g.K.KeyOrder.cmp c.in_ok-table.table plan.log_number plan.previous_log_number after plan.last_sequence c.args.version.now.tables c.in_err-version.ensures.old c.in_ok-edit.edit
    c.in_ok-edit.ensures.fields c.args.numbers.now.next (c.in_ok-table.ensures.number ∙ c.in_ok-number.ensures.0) c.in_err-version.field-0.0 (g.S.Store.facts c.args.store.now) (g.S.Store.facts c.write_level0.new.store)
    c.args.memory.now.inserts after c.in_ok-table.ensures.range c.in_ok-table.ensures.stood c.in_err-version.ensures.refused)

pub returns-clause-prepares : goal.returns-clause-prepares
returns-clause-prepares g c =
    let plan = c.args.plan in
    let next = c.args.numbers.now.next in
    let after = c.draw.new.self.next in
    let drawn = c.in_ok-number.ensures in (
      drawn.0,
      (let more : after ≡ next + 1 = omega (arith, drawn.0, drawn.1) in more),
      (let some : 0 < next = omega (arith, drawn.0, drawn.3) in some),
      (let few : next < 2 ^ 62 = omega (arith, drawn.0, drawn.2) in few),
      record {
        table = c.in_ok-table.table;
        number_is = c.in_ok-table.ensures.number;
        fields = c.in_ok-edit.ensures.fields;
        proper = c.in_ok-edit.ensures.proper;
        spelled = c.in_ok-edit.ensures.order;
        limit = c.in_ok-edit.ensures.limit (let few : c.in_ok-table.table.number < 2 ^ 62 = omega (arith, c.in_ok-table.ensures.number, drawn.2) in few);
        leads = c.in_ok-version.ensures.tables;
        version = version_made g.K.KeyOrder.cmp c.in_ok-table.table plan.log_number plan.previous_log_number after plan.last_sequence c.args.version.now.tables c.in_ok-version.ensures.old c.in_ok-edit.edit
            c.in_ok-edit.ensures.fields c.in_ok-number.number c.in_ok-table.ensures.number c.args.version.now.compact_pointers c.in_ok-version.version.value c.in_ok-version.ensures.tables c.in_ok-version.ensures.order
            c.in_ok-version.ensures.pointers;
        written = c.in_ok-table.ensures.written;
        synced = c.in_ok-table.ensures.synced;
      },
    )

pub returns-clause-ends : goal.returns-clause-ends
returns-clause-ends g c f = c.in_ok-table.ensures.ends f
