use Rattle.std.proofs.Common.{arith}
use Rattle.acpi_base.proofs.OwnTable.{checked_last}
use Rattle.acpi_base.proofs.Accepted.{sum_passed, sum_refused}
use Rattle.acpi_base.proofs.table.lookup.claim_by.Goals as goal

pub returns-in_err-claim-clause-shown : goal.returns-in_err-claim-clause-shown
returns-in_err-claim-clause-shown g c = grind (arith, checked_last)

pub returns-then-byte_sum-ne0-clause-shown : goal.returns-then-byte_sum-ne0-clause-shown
returns-then-byte_sum-ne0-clause-shown g c = grind (arith, sum_refused)

pub returns-clause-shown : goal.returns-clause-shown
returns-clause-shown g c = grind (arith, sum_passed)
