use Rattle.std.proofs.Common.{List, subst}
use Rattle.std.specs.Prelude.{OnOk}
use Rattle.json.specs.Token.{Token}
use Rattle.texts.specs.Json.{Extends}
use Rattle.texts.proofs.Members.{as_digits, as_text}
use Rattle.texts.proofs.objects.write_member.Goals as goal

pub returns-in-Ok : goal.returns-in-Ok
returns-in-Ok c =
    subst (λ (tokens : List Token). OnOk c.write_text.result (Extends c.args.writer.now c.write_text.new.writer tokens))
    (as_text c.args.name.now c.args.digits_name.now c.args.bytes.now c.in-Ok.text.now c.in-Ok.ensures.cases.0 c.in-Ok.ensures.cases.1) c.write_text.ensures

pub returns-in-Err : goal.returns-in-Err
returns-in-Err c =
    subst (λ (tokens : List Token). OnOk c.write_digits.result (Extends c.args.writer.now c.write_digits.new.writer tokens))
    (as_digits c.args.name.now c.args.digits_name.now c.args.bytes.now c.in-Err.ensures.cases.0) c.write_digits.ensures
