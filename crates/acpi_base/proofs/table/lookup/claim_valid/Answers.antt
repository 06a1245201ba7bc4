use Rattle.std.proofs.Common.{arith}
use Rattle.acpi_base.specs.Words.{claimed_at, claimed_from, shown_by}
use Rattle.acpi_base.proofs.FromStd.{common_steps}
use Rattle.acpi_base.proofs.Accepted.{own_ranges, strict_last, strict_length, strict_names}
use Rattle.acpi_base.proofs.table.lookup.claim_valid.Goals as goal

pub claim_whole-requires-clause-asked : goal.claim_whole-requires-clause-asked
claim_whole-requires-clause-asked g c =
    let own = g.met.T.AcpiTable.agrees in
    let same = own_ranges 0 g.T.AcpiTable.kind g.T.AcpiTable.SIGNATURE g.T.PhysicalRecord.MIN_LENGTH
    (claimed_at c.args.head) (shown_by c.args.head) own.0 own.1 own.2 in
    grind arith

pub check_valid-requires-clause-names : goal.check_valid-requires-clause-names
check_valid-requires-clause-names g c = grind (arith, strict_names)

pub check_valid-requires-clause-length : goal.check_valid-requires-clause-length
check_valid-requires-clause-length g c = grind (arith, strict_length)

pub returns-in_err-claim-clause-shown : goal.returns-in_err-claim-clause-shown
returns-in_err-claim-clause-shown g c =
    let own = g.met.T.AcpiTable.agrees in
    let last = strict_last (g.H.Lender.memory (claimed_from c.args.head)) g.T.AcpiTable.kind g.T.AcpiTable.SIGNATURE
    g.T.PhysicalRecord.MIN_LENGTH (claimed_at c.args.head) own.0 own.1 own.2 in
    grind (arith, common_steps)

pub returns-in-Err-clause-shown : goal.returns-in-Err-clause-shown
returns-in-Err-clause-shown g c =
    let own = g.met.T.AcpiTable.agrees in
    let last = strict_last (g.H.Lender.memory (claimed_from c.args.head)) g.T.AcpiTable.kind g.T.AcpiTable.SIGNATURE
    g.T.PhysicalRecord.MIN_LENGTH (claimed_at c.args.head) own.0 own.1 own.2 in
    grind (arith, common_steps)

pub returns-in-Ok-clause-shown : goal.returns-in-Ok-clause-shown
returns-in-Ok-clause-shown g c =
    let own = g.met.T.AcpiTable.agrees in
    let last = strict_last (g.H.Lender.memory (claimed_from c.args.head)) g.T.AcpiTable.kind g.T.AcpiTable.SIGNATURE
    g.T.PhysicalRecord.MIN_LENGTH (claimed_at c.args.head) own.0 own.1 own.2 in
    grind (arith, common_steps)
