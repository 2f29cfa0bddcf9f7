use Rattle.std.proofs.Common.{arith}
use Rattle.ikey.specs.Entries.{Pair}
use Rattle.table.proofs.Lengths.{too_long, few_more}
use Rattle.table.proofs.builder.add_entry.Goals as goal

pub returns-then-room-gt-MAX_BUILT-clause-refused : goal.returns-then-room-gt-MAX_BUILT-clause-refused
returns-then-room-gt-MAX_BUILT-clause-refused g c =
    let pair : Pair = record { key = c.args.key.now; value = c.args.value.now } in
    too_long c.args.block.now pair (omega (arith, c.size.ensures.size))

pub returns-then-size-gt-MAX_BLOCK_LENGTH-clause-few : goal.returns-then-size-gt-MAX_BLOCK_LENGTH-clause-few
returns-then-size-gt-MAX_BLOCK_LENGTH-clause-few g c few =
    let pair : Pair = record { key = c.args.key.now; value = c.args.value.now } in
    few_more c.args.block.now c.add.new.self pair c.in_ok-add.ensures.ok (omega (arith, c.size.ensures.size))

pub returns-clause-few : goal.returns-clause-few
returns-clause-few g c few =
    let pair : Pair = record { key = c.args.key.now; value = c.args.value.now } in
    few_more c.args.block.now c.add.new.self pair c.in_ok-add.ensures.ok (omega (arith, c.size.ensures.size))
