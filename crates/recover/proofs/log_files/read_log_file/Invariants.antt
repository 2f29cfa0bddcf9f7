use Rattle.std.proofs.Common.{◌≡◌, ◌*◌}
use Rattle.recover.specs.internal.Parts.{IsUnchanged}
use Rattle.recover.proofs.LogPieces.{ReadsFirst}
use Rattle.recover.proofs.log_files.read_log_file.Given as goal

-- so far no call has failed, and the bytes are the file's first pieces
abbrev pub invariant-loop-index : goal.invariant-loop-index
invariant-loop-index g l =
    IsUnchanged (g.S.Store.facts l.fn.store) (g.S.Store.facts l.store)
    × ((g.S.Store.facts l.store).failures ≡ (g.S.Store.facts l.fn.store).failures)
    × ReadsFirst (g.S.Store.facts l.fn.store) (g.S.Store.facts l.store) l.name l.size (1048576 * l.index) l.bytes.items
