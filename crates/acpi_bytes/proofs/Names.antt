-- Constants are what their names say: each signature has its letters.
use Rattle.std.proofs.Common.{rules}
use Rattle.acpi_bytes.specs.Words.{NamesAreSpelled}

pub names_are_spelled : NamesAreSpelled
names_are_spelled = Prim.search rules
