use Rattle.std.specs.Prelude.{codes}
use Rattle.browse.specs.Forms.{digits_of}
use Rattle.tool.proofs.Texts.{texts_more}
use Rattle.tool.proofs.entry_line.push_put_object.Goals as goal

pub returns : goal.returns
returns c =
    texts_more c.args.text.now.items (codes ",\"kind\":\"put\",\"value\":\"") (digits_of c.args.value.now) (codes "\"}")
    c.extend_from_slice.new.self.items c.push_digits.new.text.items c.extend_from_slice-2.new.self.items
    c.in_ok-extend_from_slice.ensures.items c.in_ok-push_digits.ensures c.in_ok-extend_from_slice-2.ensures.items
