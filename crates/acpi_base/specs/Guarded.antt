-- What a guarded lender shows.
use Rattle.acpi_base.specs.Ranges.{Ranges}
use Rattle.acpi_base.specs.Types.{Guarded}

-- the lender that its requests are passed on to
abbrev pub guarded_by : {H : Type 0} → Guarded H → H
guarded_by g = g.handler.now

-- the ranges that may be requested of it
abbrev pub listed_by : {H : Type 0} → Guarded H → Ranges
listed_by g = g.ranges.now
