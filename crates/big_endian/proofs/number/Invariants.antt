-- The loop of `big_endian::number`: n is what the bytes passed spell, and so is below 2^8 for each of them.
use Rattle.std.proofs.Common.{◌≡◌, ◌*◌, ◌<◌, ◌^◌, take}
use Rattle.big_endian.specs.Bytes.{from_bytes}
use Rattle.big_endian.proofs.number.Given as goal

abbrev pub invariant-loop-byte : goal.invariant-loop-byte
invariant-loop-byte l = (l.n ≡ from_bytes (take l.byte-index l.first)) × (l.n < 2 ^ (8 * l.byte-index))
