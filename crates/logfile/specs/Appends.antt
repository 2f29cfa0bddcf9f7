-- A record added to a log, whole or in part, and the bytes that it takes (LevelDB's
-- db/log_writer.cc).
use Rattle.std.specs.Prelude.{◌+◌, ◌-◌, ◌*◌, ◌/◌, ◌%◌, ◌==◌, ◌&&◌, ◌||◌, ℕ, if◌then◌else◌, nat_lt, List, length}
use Rattle.logfile.specs.declared.record.Tail.{Tail}
use Rattle.logfile.specs.declared.record.Tail.TheVariants.{Clean, Torn}

-- the bytes left in a log's last block, where the next record begins
abbrev pub room_behind : List ℕ → ℕ
room_behind bytes = 32768 - length bytes % 32768

-- How a log ends after an append of which only n bytes were written, where `room` bytes were left
-- in the block. It ends clean if nothing was written, or just the zeros up to the block's end.
abbrev pub tail_after : ℕ → ℕ → Tail
tail_after room n = if (n == 0) || (nat_lt room 7 && (n == room)) then Clean else Torn

-- ---- how many bytes the writer adds, for `size` bytes and `room` bytes left in the block

-- The first fragment fills its block behind a header; that is the next block if this one has no
-- room for a header. Each further fragment has up to 32,761 bytes, which fill a block.
abbrev pub fragment_count : ℕ → ℕ → ℕ
fragment_count room size = 1 + (size - ((if nat_lt room 7 then 32768 else room) - 7) + 32760) / 32761

-- zeros where no header fits, the payload, and a header of seven bytes for each fragment
abbrev pub added_length : ℕ → ℕ → ℕ
added_length room size = (if nat_lt room 7 then room else 0) + size + 7 * fragment_count room size
