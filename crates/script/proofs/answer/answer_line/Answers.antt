use Rattle.std.proofs.Common.{◌≡◌, ◌∙◌, ◌++◌, ap, sym, subst}
use Rattle.std.specs.Str.{IsAscii}
use Rattle.std.proofs.lemmas.Bool.{false≢true}
use Rattle.std.proofs.lemmas.Str.{IsUtf8-from_ascii}
use Rattle.script.specs.Script.{line_of}
use Rattle.script.proofs.answer.answer_line.Goals as goal

-- a line is ASCII, so it is a text
pub unreachable-requires : goal.unreachable-requires
unreachable-requires c =
    let line = line_of c.args.answer.now in
    let is : c.push_line.new.text.items ≡ line = c.in_ok-push_line.ensures.ok ∙ ap (λ front. front ++ line) c.new-line.ensures.items in
    false≢true (c.in-Err.ensures.succeeds (IsUtf8-from_ascii _ (subst IsAscii (sym is) c.push_line.ensures.ascii)))
