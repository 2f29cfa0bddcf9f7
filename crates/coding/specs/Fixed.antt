-- Numbers of a fixed width, the lowest byte first (LevelDB's util/coding.h: EncodeFixed32 and
-- EncodeFixed64; the length in a log record's header, doc/log_format.md, is the one of two bytes).
use Rattle.std.specs.Prelude.{ℕ, List}
use Rattle.byteorder.specs.Endian.{little_bytes}

-- the two bytes of a number below 2 ^ 16
abbrev pub fixed16 : ℕ → List ℕ
fixed16 n = little_bytes 2 n

-- the four bytes of a number below 2 ^ 32
abbrev pub fixed32 : ℕ → List ℕ
fixed32 n = little_bytes 4 n

-- the eight bytes of a number below 2 ^ 64
abbrev pub fixed64 : ℕ → List ℕ
fixed64 n = little_bytes 8 n
