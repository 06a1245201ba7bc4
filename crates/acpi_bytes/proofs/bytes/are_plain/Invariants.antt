use Rattle.std.proofs.Common.{◌≡◌, true, take, IsAscii}
use Rattle.acpi_bytes.proofs.bytes.are_plain.Given as goal

abbrev pub invariant-loop-byte : goal.invariant-loop-byte
invariant-loop-byte l = (l.plain ≡ true) → IsAscii (take l.byte-index l.bytes)
