use Rattle.acpi_image.proofs.Written.{in_rsdp_head, says_err}
use Rattle.acpi_image.proofs.write.records.put_rsdp.Goals as goal

pub returns-in_err-put_head-clause-front : goal.returns-in_err-put_head-clause-front
returns-in_err-put_head-clause-front g c =
    says_err c.from_residual.result _
    (in_rsdp_head c.args.address c.args.revision c.args.root _ _ c.in_err-put_head.ensures.front)
