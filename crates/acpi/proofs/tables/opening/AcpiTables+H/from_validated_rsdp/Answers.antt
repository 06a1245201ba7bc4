use Rattle.std.proofs.Common.{refl, ◌∙◌}
use Rattle.acpi_base.specs.Words.{start_of}
use Rattle.acpi.proofs.Agreed.{same_opened_by_rsdp}
use Rattle.acpi.proofs.Asked.{asked_root}
use Rattle.acpi.proofs.Search.{valid_lent}
use Rattle.acpi.proofs.tables.opening.AcpiTables+H.from_validated_rsdp.Goals as goal

pub open_read-requires : goal.open_read-requires
open_read-requires g c =
    let h = c.args.handler.now in
    let there = rw c.physical_start-address.ensures at c.in-Ok.ensures.bytes in
    asked_root (g.H.Lender.may h) 0 (g.H.Lender.memory h) (start_of c.args.mapping) _ c.requires.asked
    (valid_lent 0 _ _ c.requires.valid ∙ there)

pub returns-in-Ok-clause-exact : goal.returns-in-Ok-clause-exact
returns-in-Ok-clause-exact g c =
    rw (valid_lent 0 _ _ c.requires.valid, rw c.physical_start-address.ensures at c.in-Ok.ensures.bytes)
    c.open_read.ensures.exact

pub returns-in-Ok-clause-footprint : goal.returns-in-Ok-clause-footprint
returns-in-Ok-clause-footprint g c = λ n h. rw (same_opened_by_rsdp 0 _ n _ h) (returns-in-Ok-clause-exact g c)

pub returns-in-Err-clause-exact : goal.returns-in-Err-clause-exact
returns-in-Err-clause-exact g c =
    rw (valid_lent 0 _ _ c.requires.valid, rw c.physical_start-address.ensures at c.in-Err.ensures.bytes) refl

pub returns-in-Err-clause-footprint : goal.returns-in-Err-clause-footprint
returns-in-Err-clause-footprint g c = λ n h. rw (same_opened_by_rsdp 0 _ n _ h) (returns-in-Err-clause-exact g c)
