use Rattle.std.proofs.Common.{rules}
use Rattle.table.proofs.Footers.{footer_put}
use Rattle.table.proofs.footer.put_footer.Goals as goal

pub returns : goal.returns
returns c =
    footer_put c.args.out.now.items c.put_handle.new.out.items c.put_handle-2.new.out.items c.put_zeros.new.out.items c.extend_from_slice.new.self.items
    c.args.footer.metaindex c.args.footer.index c.saturating_sub-used.result c.saturating_sub.result
    c.in_ok-put_handle.ensures c.in_ok-put_handle-2.ensures (search rules) c.saturating_sub.ensures c.in_ok-put_zeros.ensures (search rules)
