-- The redistributors of a GIC that are written for C from a range of memory (section 5.2.12.17).
use Rattle.std.specs.Prelude.{◌^◌, Bool, nat_lt, if◌then◌else◌}
use Rattle.acpi_c_lib.specs.Types.{GicRedistributors, Range}

-- a length has four bytes in the entry
abbrev pub is_short : Range → Bool
is_short r = nat_lt r.length (2 ^ 32)

-- a longer one is an error before
abbrev pub redistributors_of : Range → GicRedistributors
redistributors_of r = record { address = r.address; length = if is_short r then r.length else 0 }
