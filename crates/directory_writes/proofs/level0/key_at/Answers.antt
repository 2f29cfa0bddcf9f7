use Rattle.std.proofs.Common.{◌-◌, sym, subst, arith}
use Rattle.edits.specs.Edit.{IsInternal}
use Rattle.memtable.specs.Slots.{entry_seen}
use Rattle.directory_writes.proofs.Filled.{among_at}
use Rattle.ikey.specs.Entries.{internal_key_of}
use Rattle.compact.proofs.Loads.{key-long}
use Rattle.directory_writes.proofs.Sizes.{member_room}
use Rattle.directory_writes.proofs.level0.key_at.Goals as goal

pub pack_into-requires : goal.pack_into-requires
pack_into-requires g c = c.requires.sequences (entry_seen c.entry.result) (among_at c.args.memory.now.inserts (c.args.node - 1) (entry_seen c.entry.result) c.entry.ensures)

pub returns-then-len-gt-MAX_BLOCK_LENGTH-clause-refused : goal.returns-then-len-gt-MAX_BLOCK_LENGTH-clause-refused
returns-then-len-gt-MAX_BLOCK_LENGTH-clause-refused g c =
    let long = key-long c.pack_into.new.buffer.items (internal_key_of (entry_seen c.entry.result)) c.in_ok-pack_into.ensures in
    let room = member_room c.args.memory.now.inserts (entry_seen c.entry.result) (among_at c.args.memory.now.inserts (c.args.node - 1) (entry_seen c.entry.result) c.entry.ensures) in
    omega (arith, long, room, c.len.ensures, c.if-len-gt-MAX_BLOCK_LENGTH.true)

pub returns-clause-internal : goal.returns-clause-internal
returns-clause-internal g c = subst IsInternal (sym c.from_vec.ensures) (internal_key_of (entry_seen c.entry.result), c.in_ok-pack_into.ensures)
