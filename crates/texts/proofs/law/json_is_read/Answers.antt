use Rattle.json.proofs.Printed.Tokens.{tokens-print}
use Rattle.texts.specs.Json.{key_tokens, pair_tokens}
use Rattle.texts.proofs.Members.{key_printable, member_is_read, pair_printable}
use Rattle.texts.proofs.law.json_is_read.Goals as goal

pub returns : goal.returns
returns c = record {
  keys = λ bytes. tokens-print (key_tokens bytes) (key_printable bytes);
  pairs = λ bytes value. tokens-print (pair_tokens bytes value) (pair_printable bytes value);
  members = λ name digits_name bytes differ all other. member_is_read name digits_name bytes differ all other;
}
