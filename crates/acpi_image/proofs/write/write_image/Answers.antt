use Rattle.acpi_image.proofs.WrittenLaws.{answer_is_written}
use Rattle.acpi_image.proofs.write.write_image.Goals as goal

pub returns-clause-law : goal.returns-clause-law
returns-clause-law c = answer_is_written (λ v. v.items) c.write_in.result _ c.write_in.ensures.bytes
    c.write_in.ensures.exact
