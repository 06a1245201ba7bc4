use Rattle.std.proofs.Common.{◌+◌, ◌*◌}
use Rattle.acpi_dump_walk.proofs.aml.value.+data.Given as goal

-- a package's elements are a package less deep, and a call for one of them isn't a call for its elements
abbrev pub decreases-print_data : goal.decreases-print_data
decreases-print_data l = 2 * l.depth

abbrev pub decreases-print_elements : goal.decreases-print_elements
decreases-print_elements l = 2 * l.depth + 1
