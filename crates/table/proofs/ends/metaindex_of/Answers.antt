use Rattle.std.proofs.Common.{◌∷◌, [], length, ap, subst, arith}
use Rattle.std.proofs.lemmas.Result.{IfOk-weaker}
use Rattle.block.specs.Block.{IsBlock}
use Rattle.block.specs.Built.{written_length}
use Rattle.block.specs.Written.{Added, IsWritten}
use Rattle.block.proofs.BuilderLaws.{length-block}
use Rattle.ikey.specs.Below.{IsBelowPlain}
use Rattle.ikey.specs.Entries.{Pair}
use Rattle.table.specs.Frame.{filter_name}
use Rattle.table.specs.Stored.{IsHandle}
use Rattle.table.proofs.Lengths.{one_short}
use Rattle.table.proofs.Writes.{written_value, written_short, named_pair}
use Rattle.table.proofs.ends.metaindex_of.Goals as goal

pub add-requires-clause-room : goal.add-requires-clause-room
add-requires-clause-room c =
    let short = written_short c.new-value.result.items c.put_handle.new.out.items c.args.filter c.new-value.ensures.items c.in_ok-put_handle.ensures in
    omega (arith, short, ap written_length c.new-block.ensures, ap length c.as_bytes.ensures.value, ap length c.deref.ensures.value)

pub returns-clause-block : goal.returns-clause-block
returns-clause-block c =
    let value = c.put_handle.new.out.items in
    let is : IsHandle value c.args.filter = written_value c.new-value.result.items value c.args.filter c.new-value.ensures.items c.in_ok-put_handle.ensures in
    let one = named_pair c.new-block.result c.add.new.self c.as_bytes.result.now filter_name c.deref.result.now value c.new-block.ensures c.in_ok-add.ensures.ok c.as_bytes.ensures.value c.deref.ensures.value in
    IfOk-weaker c.finish.result _ _ (λ bytes block. (value, is, subst (λ (v : Added). IsBlock IsBelowPlain bytes.items v.pairs) one block)) c.finish.ensures.block

pub returns-clause-short : goal.returns-clause-short
returns-clause-short c =
    let value = c.put_handle.new.out.items in
    let short = written_short c.new-value.result.items value c.args.filter c.new-value.ensures.items c.in_ok-put_handle.ensures in
    let one = named_pair c.new-block.result c.add.new.self c.as_bytes.result.now filter_name c.deref.result.now value c.new-block.ensures c.in_ok-add.ensures.ok c.as_bytes.ensures.value c.deref.ensures.value in
    let pair : Pair = record { key = filter_name; value = value } in
    IfOk-weaker c.finish.result _ _
    (λ bytes written. omega (arith, length-block 16 (pair ∷ []) bytes.items (subst (λ (v : Added). IsWritten v.interval v.pairs bytes.items) one written), one_short pair (omega (arith, short)))) c.finish.ensures.written
