use Rattle.std.proofs.Common.{arith}
use Rattle.acpi_base.proofs.EntryLists.{begins_defined, begins_none}
use Rattle.acpi_base.proofs.FromStd.{leb-true, nat_tests}
use Rattle.acpi_base.proofs.tables.madt.walk.begins_defined.Goals as goal

pub returns-then-bytes-ge2-clause-defined : goal.returns-then-bytes-ge2-clause-defined
returns-then-bytes-ge2-clause-defined c low = begins_defined c.args.bytes.now (leb-true _ _ low)

pub returns-then-bytes-ge2-clause-none : goal.returns-then-bytes-ge2-clause-none
returns-then-bytes-ge2-clause-none c high first =
    begins_none c.args.bytes.now first (λ long low. grind (arith, nat_tests))

pub returns-else-bytes-ge2-clause-none : goal.returns-else-bytes-ge2-clause-none
returns-else-bytes-ge2-clause-none c short first =
    begins_none c.args.bytes.now first (λ long low. grind (arith, nat_tests))
