-- Constants are what their names say: each named flag of the SPCR has its number.
use Rattle.std.proofs.Common.{rules}
use Rattle.acpi_base.specs.Words.{FlagsAreNumbered}

pub flags_are_numbered : FlagsAreNumbered
flags_are_numbered = Prim.search rules
