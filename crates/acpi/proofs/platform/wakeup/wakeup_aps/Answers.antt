use Rattle.std.proofs.Common.{sym}
use Rattle.acpi.proofs.Agreed.{from_tables, same_mailbox}
use Rattle.acpi.proofs.platform.wakeup.wakeup_aps.Goals as goal

pub returns-clause-woken : goal.returns-clause-woken
returns-clause-woken g c = rw (sym c.in_ok-address.ensures) c.wake.ensures

pub returns-clause-footprint : goal.returns-clause-footprint
returns-clause-footprint g c n h = sym (from_tables c.args.tables.now _ _ same_mailbox c.args.tables.now.valid n h)

pub returns-in_err-address-clause-footprint : goal.returns-in_err-address-clause-footprint
returns-in_err-address-clause-footprint g c n h =
    sym (from_tables c.args.tables.now _ _ same_mailbox c.args.tables.now.valid n h)
