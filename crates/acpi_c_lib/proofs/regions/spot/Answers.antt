use Rattle.std.proofs.Common.{arith}
use Rattle.acpi_c_lib.proofs.Ascending.{spot_inside}
use Rattle.acpi_c_lib.proofs.regions.spot.Goals as goal

pub returns : goal.returns
returns c =
    let found = c.in_ok-region.ensures.lookup in
    spot_inside _ _ _ _ c.index_for-index.ensures found.3.0 (found.4 (omega arith)) _ c.in_ok-rest.ensures.inside
    c.in_ok-rest.ensures.bytes
