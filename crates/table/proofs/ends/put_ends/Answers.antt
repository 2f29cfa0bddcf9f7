use Rattle.std.proofs.Common.{◌++◌, refl, arith}
use Rattle.std.proofs.lemmas.Result.{IfOk-weaker}
use Rattle.table.specs.Stored.{stored}
use Rattle.table.proofs.Writes.{four_put, footer_at}
use Rattle.table.proofs.ends.put_ends.Goals as goal

pub returns : goal.returns
returns c =
    let names = c.in_ok-names.names.items in
    let is = c.in_ok-names.ensures in
    let filter = c.args.filter.now in
    let index = c.args.index.now in
    IfOk-weaker c.put_footer.result _ _
    (λ done footer. (
      stored filter ++ (stored names ++ (stored index ++ footer.0)),
      record {
        metaindex = names;
        value = is.block.0;
        footer = footer.0;
        value_is = is.block.1;
        metaindex_is = is.block.2;
        metaindex_short = is.short;
        footer_is = footer_at footer.0 _ _ _ _ footer.1 (omega (arith, c.len.ensures)) (omega (arith, c.len.ensures)) (omega (arith, c.len.ensures)) (omega (arith, c.len.ensures));
        parts = refl;
      },
      four_put (stored filter) (stored names) (stored index) footer.0 c.args.out.now.items c.put_stored.new.out.items c.put_stored-2.new.out.items c.put_stored-3.new.out.items c.put_footer.new.out.items
          c.in_ok-put_stored.ensures (rw c.deref.ensures.value at c.in_ok-put_stored-2.ensures) c.in_ok-put_stored-3.ensures footer.2,
    )) c.put_footer.ensures
