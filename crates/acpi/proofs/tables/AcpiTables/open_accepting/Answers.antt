use Rattle.std.proofs.Common.{rules}
use Rattle.acpi.proofs.Agreed.{same_accepted_opened}
use Rattle.acpi.proofs.Spelled.{root_pointers}
use Rattle.acpi.proofs.tables.AcpiTables.open_accepting.Goals as goal

pub returns-in-Ok-clause-pointers : goal.returns-in-Ok-clause-pointers
returns-in-Ok-clause-pointers g c =
    rw c.mapping.ensures.bytes (root_pointers _ _ c.args.root_pointer.kind c.args.root_pointer.address _
    (g.met.H.Lender.regions c.args.handler.now) (rw (c.signature-signature.ensures, c.bits.ensures) at
    c.in-Ok.ensures.table))

pub returns-in-Ok-clause-footprint : goal.returns-in-Ok-clause-footprint
returns-in-Ok-clause-footprint g c n h =
    rw (same_accepted_opened (g.P.Policy.bits c.args.policy) (g.H.Lender.memory c.args.handler.now) n
    c.args.root_pointer h) (search rules)

pub returns-in-Err-clause-footprint : goal.returns-in-Err-clause-footprint
returns-in-Err-clause-footprint g c n h =
    rw (same_accepted_opened (g.P.Policy.bits c.args.policy) (g.H.Lender.memory c.args.handler.now) n
    c.args.root_pointer h) (search rules)
