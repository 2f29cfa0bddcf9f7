use Rattle.std.proofs.Common.{Vec, Global, ℕ, codes, ap, ◌∙◌}
use Rattle.texts.specs.Json.{member_of}
use Rattle.texts.proofs.Members.{one_member}
use Rattle.texts.proofs.objects.push_key_object.Goals as goal

pub returns : goal.returns
returns c =
    let opened = c.in_ok-begin_object.ensures in
    let closed = c.in_ok-end_object.ensures in
    one_member c.new-writer.result c.begin_object.new.self c.write_member.new.writer c.end_object.new.self c.args.text.now.items c.into_inner.result.items
    (c.new-writer.ensures.before ∙ ap (λ (v : Vec ℕ Global). v.items) c.replace.ensures.value) c.new-writer.ensures.tokens opened.room.0 opened.ok closed.room.0 closed.ok c.into_inner.ensures.items
    (member_of (codes "key") (codes "key_hex") c.args.bytes.now) c.in_ok-write_member.ensures
