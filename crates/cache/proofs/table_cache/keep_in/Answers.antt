use Rattle.std.proofs.Common.{◌==◌, ◌∙◌, refl}
use Rattle.cache.specs.Tables.{IsKeptOf, kept_table}
use Rattle.cache.proofs.Used.{put-map, table_is}
use Rattle.cache.proofs.Keeping.{within_or, put_or, put_table_is}
use Rattle.cache.proofs.table_cache.keep_in.Goals as goal

pub returns-clause-kept : goal.returns-clause-kept
returns-clause-kept g c =
    within_or _ c.put.new.self.entries c.args.tables.now.entries _ (λ k. IsKeptOf k c.args.number c.args.table.now.value)
    (put_or (λ a b. a == b) c.args.tables.now c.put.new.self c.args.number _ c.put.result c.put.ensures.entries c.put.ensures.err)
    (λ e put.
    let is = put_table_is (λ v. v.value) c.args.number c.args.tables.now _ e put in
    (is.0, is.1 ∙ c.in-Ok.ensures.cases))

pub returns-clause-order : goal.returns-clause-order
returns-clause-order g c =
    put-map _ (λ k. c.args.number == k) (λ kept. c.args.number == kept.number) (λ e. refl) (λ a b. a == b) c.args.tables.now c.args.number _ (kept_table c.args.number c.args.table.now.value) (λ j. refl)
    (λ e put.
    let is = put_table_is (λ v. v.value) c.args.number c.args.tables.now _ e put in
    table_is _ c.args.number c.args.table.now.value (is.0, is.1 ∙ c.in-Ok.ensures.cases))
    c.put.new.self c.put.result c.put.ensures.entries c.put.ensures.err
