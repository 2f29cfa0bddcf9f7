use Rattle.edits.proofs.Spellings.{put_parts}
use Rattle.edits.proofs.spelling.put_table.Goals as goal

pub returns : goal.returns
returns c =
    put_parts c.args.out.now.items c.put_varint64.new.out.items c.put_varint64-2.new.out.items c.put_string.new.out.items c.put_string-2.new.out.items c.args.table.now
    c.in_ok-put_varint64.ensures.ok c.in_ok-put_varint64-2.ensures.ok (rw c.as_slice.ensures at c.in_ok-put_string.ensures.ok) (rw c.as_slice-2.ensures at c.in_ok-put_string-2.ensures.ok)
    c.requires.0 c.requires.1 c.requires.2 c.requires.5 c.requires.6
